-- The laws of waiting workers in a world.
use Rattle.std.proofs.Common.{◌≡◌, ◌≢◌, ℕ, suc, ◌<◌, sym, ◌∙◌, ap, subst, arith, Some}
use Rattle.std.specs.Prelude.{IsSome}
use Rattle.std.proofs.lemmas.Option.{same_Some}
use Rattle.rme_words.specs.declared.address.Address.TheVariants.{Node}
use Rattle.rme_tree.specs.Paths.{node}
use Rattle.rme_tree.specs.HeldTrees.{HeldByOther}
use Rattle.rme_tree.specs.Nodes.{lock_nodes, held_levels_in}
use Rattle.rme_tree.proofs.Levels.{side_pos, side_le}
use Rattle.rme_tree.proofs.Ownership.{owner_law}
use Rattle.rme_program.specs.declared.private.Private.{Private}
use Rattle.rme_program.specs.declared.stage.Ascent.{Ascent}
use Rattle.rme_program.specs.declared.stage.Stage.TheVariants.{Climbing}
use Rattle.rme_machine.proofs.Further.{blocking}
use Rattle.rme_world.specs.Queries.{WorkerIsBlocked}
use Rattle.rme_world.specs.WorldInvariants.{WorldInvariant}
use Rattle.rme_world.specs.WorldViews.{WorldView, world_memory, world_privates}
use Rattle.rme_world.proofs.Stopping.{found_up}
use Rattle.rme_waiting.specs.Waiting.{WaitsForLock, blocked_by}
use Rattle.rme_waiting.specs.Laws.{TakenNodeLaw, BlockedStepLaw}
use Rattle.rme_waiting.proofs.Blocked.{blocked_taken, taken_blocked}

pub taken_node : TakenNodeLaw
taken_node seen worker lock kept is_worker waits = (
  blocked_taken seen.shape (world_memory seen) worker lock is_worker waits,
  taken_blocked seen.shape (world_memory seen) worker lock is_worker waits (kept.fact.rooted lock waits.is_lock),
)

module _ (seen : WorldView) (worker : ℕ) (private : Private) (ascent : Ascent) (kept : WorldInvariant seen) (is_worker : worker < seen.shape.workers)
    (known : world_privates seen worker ≡ Some private) (climbs : private.stage ≡ Climbing ascent) where
  -- A climbing worker waits for the lock that it climbs to, and its count of levels is right.
  climb_waits : WaitsForLock seen.shape (world_memory seen) worker ascent.lock × (held_levels_in seen.shape (world_memory seen) worker ascent.lock ≡ ascent.held)
  climb_waits =
      let fits = kept.fact.fits worker private is_worker known in
      let knows = rw climbs at fits.knows in
      let shaped = rw climbs at fits.shaped.stage in
      let tree = seen.shape.counted.tree in (
        record {
          pending = knows.pending;
          asked = knows.slate;
          is_lock = shaped.0;
          outside = λ owns.
              let all = (owner_law (lock_nodes (world_memory seen) ascent.lock) seen.shape.leaves seen.shape.height seen.shape.workers worker tree.is_power tree.enough is_worker).0 owns in
              omega (arith, all, knows.holds, shaped.1);
        },
        knows.holds,
      )

  taken : ℕ → Type 0
  taken held = world_memory seen (Node ascent.lock (node seen.shape.leaves worker (suc held))) ≢ 0

  stops : taken ascent.held → WorkerIsBlocked seen worker
  unfolding taken
  stops there = record {
    private = private;
    found = found_up seen worker private known;
    ascent = ascent;
    climbs = climbs;
    by = blocking seen.shape (world_memory seen) (world_privates seen) seen.history worker private ascent kept.fact is_worker known climbs there;
  }

  stopped_taken : WorkerIsBlocked seen worker → taken ascent.held
  unfolding taken
  stopped_taken stopped zero =
      let same_private : stopped.private ≡ private = same_Some _ _ (same_Some _ _ (sym stopped.found ∙ found_up seen worker private known)) in
      let there : Climbing stopped.ascent ≡ Climbing ascent = sym stopped.climbs ∙ ap (λ (p : Private). p.stage) same_private ∙ climbs in
      let same_ascent : stopped.ascent ≡ ascent = cc in
      let by : HeldByOther (lock_nodes (world_memory seen) ascent.lock) seen.shape.leaves seen.shape.height seen.shape.workers worker ascent.held
      = subst (λ (a : Ascent). HeldByOther (lock_nodes (world_memory seen) a.lock) seen.shape.leaves seen.shape.height seen.shape.workers worker a.held) same_ascent stopped.by in
      omega (arith, by.other_side, zero, side_pos seen.shape.leaves worker (suc ascent.held), side_le seen.shape.leaves worker (suc ascent.held))

  pub blocked_climb : (IsSome (blocked_by seen.shape (world_memory seen) worker) → WorkerIsBlocked seen worker) × (WorkerIsBlocked seen worker → IsSome (blocked_by seen.shape (world_memory seen) worker))
  unfolding taken
  blocked_climb =
      let waits = climb_waits in
      let law = taken_node seen worker ascent.lock kept is_worker waits.0 in (
        λ is. stops (subst taken waits.1 (law.0 is)),
        λ stopped. law.1 (subst taken (sym waits.1) (stopped_taken stopped)),
      )

pub blocked_step : BlockedStepLaw
blocked_step seen worker private ascent kept is_worker known climbs = blocked_climb seen worker private ascent kept is_worker known climbs
