use Rattle.std.proofs.Common.{◌≡◌, map, true, string_bytes, ap, ◌∙◌, rules}
use Rattle.rme_line_io.specs.Names.{may_add_name}
use Rattle.rme_line_io.proofs.NameLemmas.{added_place, added_keys}
use Rattle.rme_line_io.proofs.names.Names.add.Goals as goal

pub returns : goal.returns
returns c =
    let may : may_add_name c.args.self.now c.args.text.now ≡ true = search rules in
    let may' = rw (← c.self.view_is) at may in
    let keys = c.self.inside.set.keys in (
      may,
      rw (← c.self.view_is) (c.in-Ok-insert_full.ensures.index ∙ added_place keys c.in-Ok.name _ c.in-Ok.ensures.ok may'),
      rw (← c.self.view_is) (ap (map string_bytes) c.in-Ok-insert_full.ensures.keys ∙ added_keys keys c.in-Ok.name _ c.in-Ok.ensures.ok may'),
    )
