-- Lists to which the parts of a list are added in turn.
use Rattle.std.proofs.Common.{◌≡◌, ℕ, suc, ◌+◌, ◌-◌, ◌<◌, List, ◌++◌, Option, ap, ◌∙◌, arith, append_assoc}
use Rattle.rme_core_checker.specs.Views.{MachineView}
use Rattle.rme_draw_picture.specs.declared.drawing.Hold.{Hold}
use Rattle.rme_draw_history.specs.Holds.{hold_at, ended_hold, holds_from}

module _ {X : Type 0} where
  -- a part was added, and the rest is still to be added
  pub added : (start out after part rest all : List X) → after ≡ out ++ part → out ++ (part ++ rest) ≡ start ++ all → after ++ rest ≡ start ++ all
  added start out after part rest all e so_far = ap (λ l. l ++ rest) e ∙ append_assoc out part rest ∙ so_far

-- the stretches that a line ends, of the next lock and of those after it
pub holds_next : (machine : MachineView) (line : ℕ) (old : List (Option Hold)) (lock locks : ℕ) → lock < locks
    → holds_from machine line old lock (locks - lock) ≡ ended_hold machine line lock (hold_at old lock) ++ holds_from machine line old (lock + 1) (locks - (lock + 1))
holds_next machine line old lock locks within =
    let e : locks - lock ≡ suc (locks - (lock + 1)) = omega (arith, within) in ap (λ n. holds_from machine line old lock n) e
