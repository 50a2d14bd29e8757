use Rattle.std.proofs.Common.{◌≡◌, map, length, true, not, nat_lt, String, Global, string_bytes, ap, arith, rules}
use Rattle.std.proofs.lemmas.List.{length-map}
use Rattle.std.proofs.lemmas.Bool.{lt-ltb}
use Rattle.rme_line_io.specs.Names.{is_name}
use Rattle.rme_line_io.proofs.NameLemmas.{list_any_map}
use Rattle.rme_line_io.proofs.names.Names.may_add.Goals as goal

pub returns : goal.returns
returns c =
    let named : is_name c.args.text.now ≡ true = search rules in
    let few : nat_lt (length (map string_bytes c.self.inside.set.keys)) 16 ≡ true = lt-ltb _ _ (omega (arith, length-map c.self.inside.set.keys (λ (s : String Global). string_bytes s))) in
    rw (← c.self.view_is, named, few, ← list_any_map) (ap not c.contains.ensures)
