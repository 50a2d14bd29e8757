-- Whether a worker's next own step would be blocked, decided from the word of its next node.
use Rattle.std.proofs.Common.{◌≡◌, ◌≢◌, ℕ, suc, ◌+◌, sym, ◌∙◌, ap, subst, arith}
use Rattle.std.specs.Prelude.{Option, Some, None, slice_get, ◌<◌, ◌≤◌}
use Rattle.std.proofs.lemmas.Option.{none-some, same_Some}
use Rattle.rme_words.specs.declared.address.Address.{Address}
use Rattle.rme_words.specs.declared.address.Address.TheVariants.{Node}
use Rattle.rme_tree.specs.Paths.{node, side}
use Rattle.rme_tree.specs.Nodes.{lock_nodes}
use Rattle.rme_tree.specs.HeldTrees.{HeldByOther}
use Rattle.rme_program.specs.declared.action.Action.TheVariants.{Swap}
use Rattle.rme_program.specs.declared.private.Private.{Private}
use Rattle.rme_program.specs.declared.stage.Ascent.{Ascent}
use Rattle.rme_program.specs.declared.stage.Stage.TheVariants.{Climbing}
use Rattle.rme_program.specs.Steps.{private_action}
use Rattle.rme_machine.proofs.Further.{fitting, blocking}
use Rattle.rme_world.specs.WorldViews.{WorldView, private_if_up, world_memory, world_privates}
use Rattle.rme_world.specs.WorldInvariants.{WorldInvariant}
use Rattle.rme_world.specs.Queries.{WorkerIsBlocked}
use Rattle.rme_world.proofs.Worlds.{is_worker}

found_by : (found : Option (Option Private)) (private : Private) → private_if_up found ≡ Some private → found ≡ Some (Some private)
found_by None private is = absurd (none-some private is)
found_by (Some None) private is = absurd (none-some private is)
found_by (Some (Some other)) private is = ap (λ (p : Private). Some (Some p)) (same_Some _ _ is)

-- A worker with a private state exists.
pub found_up : (seen : WorldView) (worker : ℕ) (private : Private) → world_privates seen worker ≡ Some private → slice_get seen.privates worker ≡ Some (Some private)
found_up seen worker private known = found_by (slice_get seen.privates worker) private known

-- A side is 1 or 2.
side_small : (leaves worker level : ℕ) → (1 ≤ side leaves worker level) × (side leaves worker level ≤ 2)
unfolding side
side_small leaves worker level = (omega arith, omega arith)

module _ (seen : WorldView) (worker : ℕ) (private : Private) (ascent : Ascent) (kept : WorldInvariant seen) (known : world_privates seen worker ≡ Some private) (climbs : private.stage ≡ Climbing ascent) where
  found : slice_get seen.privates worker ≡ Some (Some private)
  found = found_up seen worker private known

  within : worker < seen.shape.workers
  within = is_worker seen worker (Some private) kept.all_privates found

  at : ℕ → Address
  at who = Node ascent.lock (node seen.shape.leaves who (ascent.held + 1))

  -- Its next action swaps that node, and expects 0 there.
  swaps : (address : Address) (free other : ℕ) → private_action seen.shape private ≡ Swap address free other → (address ≡ at worker) × (free ≡ 0)
  unfolding at
  swaps address free other is =
      let its : private.worker ≡ worker = (fitting seen.shape (world_memory seen) (world_privates seen) seen.history worker private kept.fact within known).0 in
      let told : Swap (Node ascent.lock (node seen.shape.leaves worker (ascent.held + 1))) 0 (side seen.shape.leaves worker (ascent.held + 1)) ≡ Swap address free other = rw (its, climbs) at is in
      (cc, cc)

  pub stops : (address : Address) (free other value : ℕ) → private_action seen.shape private ≡ Swap address free other → value ≡ world_memory seen address → value ≢ free → WorkerIsBlocked seen worker
  unfolding at
  stops address free other value is read apart =
      let its = swaps address free other is in
      let P : ℕ → Type 0 = λ (level : ℕ). world_memory seen (Node ascent.lock (node seen.shape.leaves worker level)) ≢ 0 in
      let next : ascent.held + 1 ≡ suc ascent.held = omega arith in
      record {
        private = private;
        found = found;
        ascent = ascent;
        climbs = climbs;
        by = blocking seen.shape (world_memory seen) (world_privates seen) seen.history worker private ascent kept.fact within known climbs
            (subst P next (λ zero. apart (read ∙ ap (world_memory seen) its.0 ∙ zero ∙ sym its.1)));
      }

  pub goes : (address : Address) (free other value : ℕ) → private_action seen.shape private ≡ Swap address free other → value ≡ world_memory seen address → value ≡ free → WorkerIsBlocked seen worker → ⊥
  unfolding at
  goes address free other value is read same stopped =
      let its = swaps address free other is in
      let same_private : stopped.private ≡ private = same_Some _ _ (same_Some _ _ (sym stopped.found ∙ found)) in
      let there : Climbing stopped.ascent ≡ Climbing ascent = sym stopped.climbs ∙ ap (λ (p : Private). p.stage) same_private ∙ climbs in
      let same_ascent : stopped.ascent ≡ ascent = cc in
      let by : HeldByOther (lock_nodes (world_memory seen) ascent.lock) seen.shape.leaves seen.shape.height seen.shape.workers worker ascent.held
      = subst (λ (a : Ascent). HeldByOther (lock_nodes (world_memory seen) a.lock) seen.shape.leaves seen.shape.height seen.shape.workers worker a.held) same_ascent stopped.by in
      let next : ascent.held + 1 ≡ suc ascent.held = omega arith in
      let none : world_memory seen (Node ascent.lock (node seen.shape.leaves worker (suc ascent.held))) ≡ 0
      = ap (λ (level : ℕ). world_memory seen (Node ascent.lock (node seen.shape.leaves worker level))) (sym next) ∙ ap (world_memory seen) (sym its.0) ∙ sym read ∙ same ∙ its.1 in
      let sides = side_small seen.shape.leaves worker (suc ascent.held) in
      omega (arith, by.other_side, none, sides.0, sides.1)
