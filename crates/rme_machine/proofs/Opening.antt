-- The initial state: all words are 0, and all workers are ready.
use Rattle.std.proofs.Common.{◌≡◌, ℕ, ◌<◌, List, [], refl, sym, ◌∙◌, ap₂, subst, arith}
use Rattle.std.specs.Prelude.{true, false, Option, Some, None}
use Rattle.std.proofs.lemmas.Option.{same_Some}
use Rattle.rme_words.specs.declared.shape.Shape.{Shape}
use Rattle.rme_words.specs.declared.address.Address.{Address}
use Rattle.rme_words.specs.declared.address.Address.TheVariants.{Node, Turn, Cell, Begun, Done, Reply, Place, At}
use Rattle.rme_tree.specs.HeldTrees.{EveryNodeIsHeld}
use Rattle.rme_tree.specs.Nodes.{lock_nodes, held_levels_in, owner_in}
use Rattle.rme_tree.proofs.Ownership.{owner_absent}
use Rattle.rme_tree.proofs.Steps.{free_tree}
use Rattle.rme_program.specs.declared.private.Private.{Private}
use Rattle.rme_program.specs.Steps.{ready_private}
use Rattle.rme_machine.specs.Histories.{place_of, row_after_entries, numbers_of_worker}
use Rattle.rme_machine.specs.Machine.{MachineState, WorkerState, opening_worker, opening_state}
use Rattle.rme_machine.specs.Views.{worker_words, lock_words, is_pending}
use Rattle.rme_machine.specs.AbstractState.{Privates, abstract_state, abstract_worker}
use Rattle.rme_machine.specs.Knowledge.{PrivateInvariant}
use Rattle.rme_machine.specs.Invariant.{Invariant, WorkerInvariant, LockInvariant}
use Rattle.rme_machine.specs.Laws.{OpeningLaw}
use Rattle.rme_machine.proofs.Lists.{made_of_one}
use Rattle.rme_machine.proofs.Shows.{owned_none}
use Rattle.rme_machine.proofs.Faces.{shown_as}

module _ (s : Shape) (mem : Address → ℕ) (privs : Privates) (blank : (address : Address) → mem address ≡ 0)
    (ready : (worker : ℕ) → worker < s.workers → privs worker ≡ Some (ready_private worker 0)) where
  free : (l : ℕ) → EveryNodeIsHeld (lock_nodes mem l) s.leaves s.height s.workers × ((w : ℕ) → w < s.leaves → held_levels_in s mem w l ≡ 0)
  free l = free_tree (lock_nodes mem l) s.leaves s.height s.workers s.counted.tree.is_power s.counted.tree.enough (λ place some inside. blank (Node l place))

  holds_none : (w l : ℕ) → w < s.workers → held_levels_in s mem w l ≡ 0
  holds_none w l worker = (free l).1 w (omega (arith, worker, s.counted.tree.enough))

  not_pending : (w : ℕ) → is_pending (worker_words mem w) ≡ false
  not_pending w = rw (blank (Begun w)) (rw (blank (Done w)) refl)

  no_owner : (l : ℕ) → owner_in s mem l ≡ None
  no_owner l = owner_absent (lock_nodes mem l) s.leaves s.height s.workers (λ w worker all. omega (arith, all, holds_none w l worker, s.counted.tree.some_level))

  account : (w : ℕ) → w < s.workers → WorkerInvariant s (worker_words mem w) (held_levels_in s mem w) [] w
  unfolding numbers_of_worker
  account w worker = record {
    done = omega (arith, blank (Begun w), blank (Done w));
    begun = omega (arith, blank (Begun w), blank (Done w));
    few = omega (arith, blank (Begun w));
    stake = λ l below some. absurd (omega (arith, some, holds_none w l worker));
    slate = λ pending. let clash : true ≡ false = sym pending ∙ not_pending w in absurd (cc);
    numbered = tt;
    withdrawn = λ past some gone. absurd (omega (arith, some, blank (Begun w)));
    receipt = λ past some there. absurd (omega (arith, some, blank (Begun w)));
    blank = λ none. (blank (Reply w), blank (Place w), blank (At w));
  }

  fits : (w : ℕ) → w < s.workers → PrivateInvariant s (worker_words mem w) (held_levels_in s mem w) (lock_words s mem) w (ready_private w 0)
  fits w worker = record {
    is = refl;
    shaped = record { worker = worker; begun = omega arith; stage = tt };
    knows = record { known = blank (Begun w); past = not_pending w; holds = λ l below. holds_none w l worker };
  }

  stands : (l : ℕ) → LockInvariant s (lock_words s mem l) [] l (owner_in s mem l) (worker_words mem)
  unfolding place_of row_after_entries
  stands l = rw (no_owner l) record { turn = blank (Turn l); cells = made_of_one (λ (c : ℕ). mem (Cell l c)) 0 0 s.cells (λ c below. blank (Cell l c)) }

  fact : Invariant s mem privs []
  fact = record {
    rooted = λ l below. (free l).0;
    accounts = account;
    fits = λ w p worker is. (let P : Private → Type 0 = λ p. PrivateInvariant s (worker_words mem w) (held_levels_in s mem w) (lock_words s mem) w p in
        subst P (same_Some _ _ (sym (ready w worker) ∙ is)) (fits w worker));
    stands = λ l below. stands l;
    legal = tt;
  }

  opens_idle : (w : ℕ) → w < s.workers → abstract_worker s mem privs [] w ≡ opening_worker
  opens_idle w worker =
      shown_as s mem privs [] w None false 0 (Some (ready_private w 0))
      (owned_none s mem w (λ l below all. omega (arith, holds_none w l worker, all, s.counted.tree.some_level)))
      (not_pending w) (blank (Begun w)) (ready w worker)
      ∙ rw (blank (Done w)) refl

  opens : abstract_state s mem privs [] ≡ opening_state s
  opens = ap₂ (λ (owners : List (Option ℕ)) (workers : List WorkerState). let state : MachineState = record { owners = owners; workers = workers; history = [] } in state)
      (made_of_one (λ (l : ℕ). owner_in s mem l) None 0 s.locks (λ l below. no_owner l))
      (made_of_one (λ (w : ℕ). abstract_worker s mem privs [] w) opening_worker 0 s.workers (λ w below. opens_idle w (omega (arith, below))))

pub opening : OpeningLaw
opening s mem privs blank ready = (fact s mem privs blank ready, opens s mem privs blank ready)
