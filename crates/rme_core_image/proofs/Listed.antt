-- The entry at an index of a list, whose receipt and operations were read.
use Rattle.std.proofs.Common.{◌≡◌, ℕ, List, Some, length, refl, sym, ◌∙◌, ap, subst, inl, inr}
use Rattle.std.specs.Prelude.{option_map, slice_get}
use Rattle.std.specs.List.{All}
use Rattle.std.proofs.lemmas.Option.{slice_get_cases, same_Some, none-some}
use Rattle.rme_script.specs.declared.op.Op.{Op}
use Rattle.rme_program.specs.declared.note.Entry.{Entry}
use Rattle.rme_program.specs.declared.note.Receipt.{Receipt}
use Rattle.rme_core_image.specs.Images.{EntryFitsItsBytes, script_of_ops}

entry_is : (e : Entry) (r : Receipt) (ops : List Op) → e.receipt ≡ r → e.script.ops ≡ ops → length e.script.ops ≡ e.script.n → e ≡ record { receipt = r; script = script_of_ops ops }
entry_is e r ops mine its counted = rw (← mine, ← its, counted) refl

pub entry_read : (es : List Entry) (i : ℕ) (r : Receipt) (ops : List Op) → option_map (λ (e : Entry). e.receipt) (slice_get es i) ≡ Some r
    → option_map (λ (e : Entry). e.script.ops) (slice_get es i) ≡ Some ops → All EntryFitsItsBytes es
    → (slice_get es i ≡ Some record { receipt = r; script = script_of_ops ops }) × EntryFitsItsBytes record { receipt = r; script = script_of_ops ops }
entry_read es i r ops first second all = elim (slice_get_cases es i).1 [
  | inl (e, within, found, there) ↦
      let fits : EntryFitsItsBytes e = subst EntryFitsItsBytes there (all i e within) in
      let mine : e.receipt ≡ r = same_Some _ _ (ap (option_map (λ (d : Entry). d.receipt)) (sym found) ∙ first) in
      let its : e.script.ops ≡ ops = same_Some _ _ (ap (option_map (λ (d : Entry). d.script.ops)) (sym found) ∙ second) in
      let is = entry_is e r ops mine its fits.script.counted in
      (found ∙ ap (λ (d : Entry). Some d) is, subst EntryFitsItsBytes is fits)
  | inr (past, none) ↦ absurd (none-some _ (ap (option_map (λ (d : Entry). d.receipt)) (sym none) ∙ first))
]
