use Rattle.std.proofs.Common.{◌≡◌, ◌++◌, ◌∷◌, [], rules}
use Rattle.rme_cli_ask.proofs.spaces.next_start.Goals as goal

pub returns-in-Some-clause-next : goal.returns-in-Some-clause-next
returns-in-Some-clause-next c =
    let items : c.args.page.spaces.items ≡ c.pop.new.self.items ++ c.in-Some.last ∷ [] = search rules in
    (search rules, c.pop.new.self.items, items)
