use Rattle.std.proofs.Common.{◌≡◌, ◌≢◌, ◌∙◌, ◌+◌, ◌-◌, ◌^◌, ℕ, List, min, ap, subst, arith, rules}
use Rattle.std.specs.Prelude.{IfSome, Option, Some}
use Rattle.rme_line_io.specs.Cuts.{input_line_of}
use Rattle.rme_line_io.specs.Readers.{bytes_left}
use Rattle.rme_line_io.specs.declared.cut.Cut.TheVariants.{End}
use Rattle.rme_wire.specs.Requests.{request_read}
use Rattle.rme_wire.specs.declared.request.Request.{Request}
use Rattle.rme_line_engine.specs.Engines.{engine_state_of}
use Rattle.rme_durable_format.specs.Lives.{lives_after_request}
use Rattle.rme_durable_format.specs.Recovery.{AcceptsLine, RejectsLine}
use Rattle.rme_durable_format.proofs.Leading.{leads_on}
use Rattle.rme_durable_format.proofs.Living.{lives_on}
use Rattle.rme_durable_format.proofs.Stopping.{read_one, stops_here}
use Rattle.rme_durable_format.proofs.recovery.replay_lines.Goals as goal

pub returns-in_default-clause-err : goal.returns-in_default-clause-err
returns-in_default-clause-err g c =
    let l = c.loop-nobody in
    let left = bytes_left g.R.Source.remaining l.reader in
    let later = bytes_left g.R.Source.remaining c.next_line.new.self in
    let line = c.next_line.new.line.items in
    let cut = c.in_ok-cut.cut in
    let more : cut ≢ End = search rules in
    let P : List ℕ → Type 0 = λ bytes. RejectsLine (engine_state_of l.engine) (request_read (engine_state_of l.engine).names (input_line_of cut bytes)) in
    let rejects : P line = subst P c.as_slice.ensures.value (c.in_ok-request.ensures.rejects c.in_default.is) in
    let next : c.saturating_add-count.result ≡ min (2 ^ 64 - 1) (l.count + 1) = grind arith in
    stops_here (bytes_left g.R.Source.remaining c.args.reader.now) (engine_state_of c.args.engine.now) left later cut line (engine_state_of l.engine) l.count c.saturating_add-count.result l.invariant.read c.in_ok-cut.ensures.cut more rejects next

pub loop-nobody-preserved-then-count-eq0 : goal.loop-nobody-preserved-then-count-eq0
loop-nobody-preserved-then-count-eq0 g c =
    let l = c.loop-nobody in
    let first = bytes_left g.R.Source.remaining c.args.reader.now in
    let start = engine_state_of c.args.engine.now in
    let left = bytes_left g.R.Source.remaining l.reader in
    let later = bytes_left g.R.Source.remaining c.next_line.new.self in
    let line = c.next_line.new.line.items in
    let cut = c.in_ok-cut.cut in
    let now = engine_state_of l.engine in
    let after = engine_state_of c.replay_line.new.engine in
    let more : cut ≢ End = search rules in
    let P : List ℕ → Type 0 = λ bytes. AcceptsLine now (input_line_of cut bytes) after in
    let Q : Option Request → Type 0 = λ (found : Option Request). IfSome found (λ _. P c.as_slice.result.now) in
    let R : Option Request → Type 0 = λ (found : Option Request). IfSome found (λ request. Some request ≡ request_read now.names (input_line_of cut c.as_slice.result.now)) in
    let accepts : P line = subst P c.as_slice.ensures.value (subst Q c.in-Some.is c.in_ok-request.ensures.accepts) in
    let asks : Some c.in-Some.request ≡ request_read now.names (input_line_of cut line) =
    subst (λ (bytes : List ℕ). Some c.in-Some.request ≡ request_read now.names (input_line_of cut bytes)) c.as_slice.ensures.value (subst R c.in-Some.is c.in_ok-request.ensures.request) in
    let counted = c.count_restart.ensures ∙ ap (λ (asked : Option Request). lives_after_request l.lives.items asked) asks in
    let next : c.saturating_add-count.result ≡ min (2 ^ 64 - 1) (l.count + 1) = grind arith in record {
      leads = leads_on first start left later cut line now after l.invariant.leads c.in_ok-cut.ensures.cut more accepts;
      lives = lives_on first start c.args.lives.now.items left later cut line l.lives.items c.count_restart.new.lives.items now after l.invariant.lives c.in_ok-cut.ensures.cut more accepts counted;
      read = read_one first start left later cut line now after l.count c.saturating_add-count.result l.invariant.read c.in_ok-cut.ensures.cut more accepts next;
    }

pub loop-nobody-preserved : goal.loop-nobody-preserved
loop-nobody-preserved g c =
    let l = c.loop-nobody in
    let first = bytes_left g.R.Source.remaining c.args.reader.now in
    let start = engine_state_of c.args.engine.now in
    let left = bytes_left g.R.Source.remaining l.reader in
    let later = bytes_left g.R.Source.remaining c.next_line.new.self in
    let line = c.next_line.new.line.items in
    let cut = c.in_ok-cut.cut in
    let now = engine_state_of l.engine in
    let after = engine_state_of c.replay_line.new.engine in
    let more : cut ≢ End = search rules in
    let P : List ℕ → Type 0 = λ bytes. AcceptsLine now (input_line_of cut bytes) after in
    let Q : Option Request → Type 0 = λ (found : Option Request). IfSome found (λ _. P c.as_slice.result.now) in
    let R : Option Request → Type 0 = λ (found : Option Request). IfSome found (λ request. Some request ≡ request_read now.names (input_line_of cut c.as_slice.result.now)) in
    let accepts : P line = subst P c.as_slice.ensures.value (subst Q c.in-Some.is c.in_ok-request.ensures.accepts) in
    let asks : Some c.in-Some.request ≡ request_read now.names (input_line_of cut line) =
    subst (λ (bytes : List ℕ). Some c.in-Some.request ≡ request_read now.names (input_line_of cut bytes)) c.as_slice.ensures.value (subst R c.in-Some.is c.in_ok-request.ensures.request) in
    let counted = c.count_restart.ensures ∙ ap (λ (asked : Option Request). lives_after_request l.lives.items asked) asks in
    let next : c.saturating_add-count.result ≡ min (2 ^ 64 - 1) (l.count + 1) = grind arith in record {
      leads = leads_on first start left later cut line now after l.invariant.leads c.in_ok-cut.ensures.cut more accepts;
      lives = lives_on first start c.args.lives.now.items left later cut line l.lives.items c.count_restart.new.lives.items now after l.invariant.lives c.in_ok-cut.ensures.cut more accepts counted;
      read = read_one first start left later cut line now after l.count c.saturating_add-count.result l.invariant.read c.in_ok-cut.ensures.cut more accepts next;
    }
