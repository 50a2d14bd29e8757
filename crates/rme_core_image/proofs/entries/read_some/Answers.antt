use Rattle.std.proofs.Common.{◌≡◌, ◌++◌, ◌∷◌, [], ap, ◌∙◌}
use Rattle.rme_core_image.specs.Parsing.{parse_entry, parse_many}
use Rattle.rme_core_image.proofs.Loops.{many_more, many_ends}
use Rattle.rme_core_image.proofs.entries.read_some.Goals as goal

pub returns-in_default : goal.returns-in_default
returns-in_default c =
    many_ends (λ _. parse_entry) c.args.count c.loop.counter c.loop.entries.entries c.loop.rest.now (parse_many (λ _. parse_entry) c.args.count [] c.args.bytes.now) c.loop-test.true c.in_default.ensures.read c.loop.invariant

pub loop-preserved : goal.loop-preserved
loop-preserved c =
    let all : c.push.new.self.entries ≡ c.loop.entries.entries ++ c.in-Some.next ∷ [] = c.push.ensures.entries ∙ ap (λ es. es ++ c.in-Some.next ∷ []) c.reserve.ensures.entries in
    rw all
    (many_more (λ _. parse_entry) c.args.count c.loop.counter c.loop.entries.entries c.loop.rest.now (parse_many (λ _. parse_entry) c.args.count [] c.args.bytes.now) c.in-Some.next c.in-Some.after.now c.loop-test.true c.in-Some.ensures.read c.loop.invariant)
