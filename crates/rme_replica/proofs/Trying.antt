-- A try that finds the own next head.
use Rattle.std.proofs.Common.{◌≡◌, ◌⊎◌, inl, inr, ℕ, List, Option, Some, None, sym, ap, subst, ◌∙◌, arith}
use Rattle.rme_replica.specs.EngineLogs.{EngineLog, FindsMoved, HasHead, HeadValue, IsNextHead, LosesAdd, MakesAdd, MayBeAdded, MovesAdd, WasAdded}

differs : (seen next : HeadValue) → IsNextHead seen next → next ≡ seen → ⊥
differs seen next step e = omega (arith, step.same (ap (λ (head : HeadValue). head.epoch) e), ap (λ (head : HeadValue). head.sequence) e)

was_made : (seen next found : HeadValue) (lines : List ℕ) (before log to : EngineLog) → before.head ≡ seen → IsNextHead seen next → MayBeAdded seen next lines before log → FindsMoved seen next found lines log to → found ≡ next
    → (to ≡ log) ⊎ WasAdded seen next lines log to → WasAdded seen next lines before to
was_made seen next found lines before log to has step (inl same) finds is (inl kept) =
    absurd (differs seen next step (sym is ∙ (sym finds.has ∙ (ap (λ (l : EngineLog). l.head) kept ∙ (ap (λ (l : EngineLog). l.head) same ∙ has)))))
was_made seen next found lines before log to has step (inl same) finds is (inr made) =
    let P : EngineLog → Type 0 = λ l. WasAdded seen next lines l to in subst P same made
was_made seen next found lines before log to has step (inr (inl made)) finds is (inl kept) =
    let P : EngineLog → Type 0 = λ l. WasAdded seen next lines before l in subst P (sym kept) made
was_made seen next found lines before log to has step (inr (inl made)) finds is (inr again) =
    absurd (differs seen next step (sym made.head ∙ again.saw))
was_made seen next found lines before log to has step (inr (inr taken)) finds is (inl kept) =
    absurd (taken.1 (sym (ap (λ (l : EngineLog). l.head) kept) ∙ (finds.has ∙ is)))
was_made seen next found lines before log to has step (inr (inr taken)) finds is (inr made) = absurd (taken.0.other made.saw)

pub found_own : (seen next found : HeadValue) (lines : List ℕ) (before log to : Option EngineLog) → HasHead before seen → IsNextHead seen next → LosesAdd seen next lines before log → MovesAdd seen next found lines log to → found ≡ next → MakesAdd seen next lines before to
found_own seen next found lines None None None has step loses moves is = tt
found_own seen next found lines (Some before) (Some log) (Some to) has step loses moves is = was_made seen next found lines before log to has step loses moves is (moves.own is)
found_own seen next found lines None (Some log) to has step loses moves is = absurd loses
found_own seen next found lines (Some before) None to has step loses moves is = absurd loses
found_own seen next found lines None None (Some to) has step loses moves is = absurd moves
found_own seen next found lines (Some before) (Some log) None has step loses moves is = absurd moves
