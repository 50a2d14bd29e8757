-- The bytes of an epoch determine the places in its base.
use Rattle.std.proofs.Common.{◌≡◌, ℕ, ◌<◌, List, [], ◌∷◌, length, get_or, refl, sym, ap, ap₂, subst, ◌∙◌, arith}
use Rattle.std.specs.Prelude.{ℤ, pos}
use Rattle.std.proofs.lemmas.List.{same_lists}
use Rattle.std.proofs.lemmas.Option.{same_Some}
use Rattle.serde_json.specs.Data.{Data, Items, array, no_items, item}
use Rattle.rme_line_json.specs.Values.{json_value_of}
use Rattle.rme_words.specs.declared.shape.Shape.{Shape}
use Rattle.rme_durable_format.specs.Headers.{AreItemsOf, HasHeaderMembers, HeaderValues, IsPlaceCount}
use Rattle.rme_durable_format.specs.Recovery.{BeginsWithHeader}
use Rattle.rme_durable_epochs.specs.HeaderBases.{IsHeaderBase, header_offset}
use Rattle.rme_durable_epochs.specs.declared.epoch_base.Base.{Base}

items_same : (items : Items) (one other : List ℤ) → AreItemsOf IsPlaceCount items one
    → AreItemsOf IsPlaceCount items other → one ≡ other
items_same no_items [] [] all more = refl
items_same no_items [] (b ∷ other) all more = absurd more
items_same no_items (a ∷ one) other all more = absurd all
items_same (item value items) [] other all more = absurd all
items_same (item value items) (a ∷ one) [] all more = absurd more
items_same (item value items) (a ∷ one) (b ∷ other) all more = ap₂ (λ (p : ℤ) (ps : List ℤ). p ∷ ps) (same_Some _ _ (sym all.0.0 ∙ more.0.0)) (items_same items one other all.1 more.1)

array_same : (one other : Items) → array one ≡ array other → one ≡ other
array_same one other same = cc

members_same : (names : List (List ℕ)) (value : Data) (past later : HeaderValues) → HasHeaderMembers names value past
    → HasHeaderMembers names value later → past.places ≡ later.places
members_same names value past later one two =
    let items : one.places.0 ≡ two.places.0 = array_same _ _ (same_Some _ _ (sym one.places.1 ∙ two.places.1)) in
    items_same one.places.0 past.places later.places one.places.2 (subst (λ (i : Items). AreItemsOf IsPlaceCount i later.places) (sym items) two.places.2)

module _ (bytes : List ℕ) (names : List (List ℕ)) (shape other : Shape) (past later : HeaderValues) where
  first_same : (one : BeginsWithHeader bytes names shape past) (two : BeginsWithHeader bytes names other later)
      → one.first ≡ two.first
  first_same one two = let same = sym one.are ∙ two.are in cc

  pub header_places : BeginsWithHeader bytes names shape past → BeginsWithHeader bytes names other later
      → past.places ≡ later.places
  header_places one two =
      let value : one.header.value ≡ two.header.value = same_Some _ _ (sym one.header.reads ∙ (ap json_value_of (first_same one two) ∙ two.header.reads)) in
      members_same names one.header.value past later one.header.tells (subst (λ (d : Data). HasHeaderMembers names d later) (sym value) two.header.tells)

pub base_places : (past later : HeaderValues) (base next : Base) → past.places ≡ later.places → IsHeaderBase past base
    → IsHeaderBase later next → base.places.items ≡ next.places.items
base_places past later base next same one two =
    same_lists base.places.items next.places.items (one.places.0 ∙ (ap length same ∙ sym two.places.0)) (λ lock none within.
    let first : lock < length past.places = omega (arith, within, one.places.0) in
    let second : lock < length later.places = omega (arith, first, ap length same) in
    one.places.1 lock none first ∙ (ap (λ (ps : List ℤ). header_offset (get_or ps lock (pos 0))) same ∙ sym (two.places.1 lock none second)))
