-- The last entry that passes a test: where it is in a history, and that it is due there in a legal one.
use Rattle.std.proofs.Common.{◌≡◌, refl, sym, ◌∙◌, ap, subst, inl, inr, append_assoc}
use Rattle.std.specs.Prelude.{Bool, true, List, [], ◌∷◌, ◌++◌, filter, Option, Some, None, if◌then◌else◌}
use Rattle.std.proofs.lemmas.Bool.{cases_Bool}
use Rattle.std.proofs.lemmas.List.{append-nil}
use Rattle.std.proofs.lemmas.Option.{none-some, cond_some}
use Rattle.rme_words.specs.declared.shape.Shape.{Shape}
use Rattle.rme_program.specs.declared.note.Entry.{Entry}
use Rattle.rme_machine.specs.Histories.{last_entry_passing, IsLegalNextEntry, HistoryIsLegalAfter, HistoryIsLegal}

-- It passes, and no later entry does.
pub record IsLast (test : Entry → Bool) (es : List Entry) (e : Entry) : Type 0 where
  pub before : List Entry
  pub after : List Entry
  pub stands : es ≡ before ++ e ∷ after
  pub passes : test e ≡ true
  pub none : filter test after ≡ []

-- If there is no last one, none passes.
pub none_passes : (test : Entry → Bool) (es : List Entry) → last_entry_passing test es ≡ None → filter test es ≡ []
unfolding last_entry_passing
none_passes test [] none = refl
none_passes test (x ∷ es) none = go (λ rest. none_passes test es rest) (last_entry_passing test es) refl
  where
    here : last_entry_passing test es ≡ None → (filter test es ≡ []) → (if test x then x ∷ filter test es else filter test es) ≡ []
    here is rest = elim (cases_Bool (test x)) [
      | inl passes ↦ (let first : (if test x then Some x else None) ≡ None = rw is at none in let one : Some x ≡ None = rw passes at first in absurd (none-some x (sym one)))
      | inr fails ↦ rw fails rest
    ]

    go : (last_entry_passing test es ≡ None → filter test es ≡ []) → (later : Option Entry) → last_entry_passing test es ≡ later → (if test x then x ∷ filter test es else filter test es) ≡ []
    go rest None is = here is (rest is)
    go rest (Some y) is = (let one : Some y ≡ None = rw is at none in absurd (none-some y (sym one)))

-- The entry that the search finds is the last.
pub last_stands : (test : Entry → Bool) (es : List Entry) (e : Entry) → last_entry_passing test es ≡ Some e → IsLast test es e
unfolding last_entry_passing
last_stands test [] e found = absurd (none-some e found)
last_stands test (x ∷ es) e found = go (last_stands test es e) (last_entry_passing test es) refl
  where
    go : (last_entry_passing test es ≡ Some e → IsLast test es e) → (later : Option Entry) → last_entry_passing test es ≡ later → IsLast test (x ∷ es) e
    go rest None is =
        let first : (if test x then Some x else None) ≡ Some e = rw is at found in
        let its : (test x ≡ true) × (x ≡ e) = cond_some (test x) x e first in
        subst (λ (y : Entry). IsLast test (x ∷ es) y) its.1 record { before = []; after = es; stands = refl; passes = its.0; none = none_passes test es is }
    go rest (Some y) is =
        let later : Some y ≡ Some e = rw is at found in
        let its : IsLast test es e = rest (is ∙ later) in
        record { before = x ∷ its.before; after = its.after; stands = ap (λ (xs : List Entry). x ∷ xs) its.stands; passes = its.passes; none = its.none }

-- Each entry of a legal history is due after those before it.
due_there : (s : Shape) (earlier before after : List Entry) (e : Entry) → HistoryIsLegalAfter s earlier (before ++ e ∷ after) → IsLegalNextEntry s (earlier ++ before) e
due_there s earlier [] after e legal = subst (λ (es : List Entry). IsLegalNextEntry s es e) (sym (append-nil earlier)) legal.0
due_there s earlier (x ∷ before) after e legal =
    subst (λ (es : List Entry). IsLegalNextEntry s es e) (append_assoc earlier (x ∷ []) before) (due_there s (earlier ++ x ∷ []) before after e legal.1)

pub last_due : (s : Shape) (test : Entry → Bool) (es : List Entry) (e : Entry) → HistoryIsLegal s es → (its : IsLast test es e) → IsLegalNextEntry s its.before e
last_due s test es e legal its = due_there s [] its.before its.after e (subst (λ (all : List Entry). HistoryIsLegal s all) its.stands legal)
