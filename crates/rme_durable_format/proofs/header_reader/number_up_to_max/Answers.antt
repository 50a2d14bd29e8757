use Rattle.rme_line_json.specs.View.{value_view}
use Rattle.std.proofs.Common.{ℕ, subst, sym}
use Rattle.std.specs.Prelude.{Option}
use Rattle.rme_durable_format.specs.Headers.{HeaderSearch, IsJobCount}
use Rattle.rme_durable_format.proofs.Telling.{whole_found}
use Rattle.rme_durable_format.proofs.header_reader.number_up_to_max.Goals as goal

pub returns : goal.returns
returns c =
    let value = value_view c.args.value.now in
    let P : Option ℕ → Type 0 = λ (r : Option ℕ). HeaderSearch (IsJobCount value) r in subst P (sym c.whole_up_to.ensures) (whole_found value)
