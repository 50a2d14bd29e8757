use Rattle.std.proofs.Common.{◌≡◌, ◌+◌, ◌++◌, [], ◌∷◌, ℕ, List, sym, ap, ◌∙◌, arith}
use Rattle.rme_words.specs.Words.{word_number}
use Rattle.rme_program.specs.declared.private.Private.{Private}
use Rattle.rme_process_core.specs.declared.flat.FlatAction.{FlatAction}
use Rattle.rme_tree.specs.Paths.{node}
use Rattle.rme_words.specs.declared.address.Address.TheVariants.{Node}
use Rattle.rme_program.specs.declared.note.Note.TheVariants.{Entered}
use Rattle.rme_program.specs.declared.stage.Stage.TheVariants.{Logging}
use Rattle.rme_program.specs.declared.stage.Log.TheVariants.{LoadTurn}
use Rattle.rme_process_core.specs.Flat.{flat_swap}
use Rattle.rme_process_core.specs.Batches.{batch_actions}
use Rattle.rme_process_core.specs.Runs.{private_at_stage, climbing_private}
use Rattle.rme_process_core.proofs.Telling.{leads_more, leads_on, leads_end, ends_of}
use Rattle.rme_process_core.proofs.Going.{node_swap, climb_step, climb_last}
use Rattle.rme_process_core.proofs.runs.predict_swaps.Goals as goal

pub loop-level-preserved : goal.loop-level-preserved
loop-level-preserved c =
    let shape = c.args.context.shape in let worker = c.args.worker in let lock = c.args.ascent.lock in let told : List FlatAction = batch_actions c.loop-level.batch in
    let it = c.loop-level.invariant in
    let level = c.loop-level.level in
    let action : FlatAction = node_swap shape worker lock (it.below + 1) in
    let at : FlatAction = node_swap shape worker lock level in
    let is : batch_actions c.put.new.batch ≡ told ++ action ∷ [] =
    c.put.ensures.told ∙ ap (λ (a : FlatAction). told ++ a ∷ [])
    (c.swap.ensures ∙ ap (λ (w : ℕ). flat_swap w c.side.result) c.node_at-word.ensures ∙ ap (λ (v : ℕ). flat_swap (word_number shape (Node lock v)) c.side.result) c.node.ensures.node
    ∙ ap (λ (v : ℕ). flat_swap (word_number shape (Node lock (node shape.leaves worker level))) v) c.side.ensures.side ∙ ap (λ (l : ℕ). node_swap shape worker lock l) it.next) in
    record {
      below = it.below + 1;
      next = omega (arith, it.next);
      leads = λ start begun leads.
          leads_more shape c.args.context.until start told (climbing_private worker begun lock it.below) (it.leads start begun leads) action (batch_actions c.put.new.batch) is (climbing_private worker begun lock (it.below + 1))
          (climb_step shape worker begun lock it.below (omega (arith, it.next, c.loop-level-test.true)));
      within = omega (arith, c.loop-level-test.true);
      few = omega (arith, it.few, c.put.ensures.count);
    }

-- The last swap takes the root's node.
module _ (c : goal.After-put-2) where
  at_root : c.loop-level.invariant.below + 1 ≡ c.args.context.shape.height
  at_root = omega (arith, c.loop-level.invariant.next, c.loop-level.invariant.within, c.loop-level-test.false)

  abbrev root : FlatAction
  root = node_swap c.args.context.shape c.args.worker c.args.ascent.lock (c.loop-level.invariant.below + 1)

  told_root : batch_actions c.put-2.new.batch ≡ batch_actions c.loop-level.batch ++ root ∷ []
  told_root =
      let shape = c.args.context.shape in let worker = c.args.worker in let lock = c.args.ascent.lock in let told : List FlatAction = batch_actions c.loop-level.batch in
      c.put-2.ensures.told ∙ ap (λ (a : FlatAction). told ++ a ∷ [])
      (c.swap-2.ensures ∙ ap (λ (w : ℕ). flat_swap w c.side-2.result) c.node_at-word-2.ensures ∙ ap (λ (v : ℕ). flat_swap (word_number shape (Node lock v)) c.side-2.result) c.node-2.ensures.node
      ∙ ap (λ (v : ℕ). flat_swap (word_number shape (Node lock (node shape.leaves worker shape.height))) v) c.side-2.ensures.side ∙ ap (λ (l : ℕ). node_swap shape worker lock l) (sym at_root))

pub returns-clause-foretells : goal.returns-clause-foretells
returns-clause-foretells c = λ start begun leads.
    let shape = c.args.context.shape in let worker = c.args.worker in let lock = c.args.ascent.lock in let it = c.loop-level.invariant in
    let there : Private = private_at_stage worker begun (Logging (LoadTurn lock)) in
    leads_end shape c.args.context.until start (batch_actions c.loop-level.batch) (climbing_private worker begun lock it.below) (it.leads start begun leads) (root c) (batch_actions c.put-2.new.batch) (told_root c)
    (ends_of shape (climbing_private worker begun lock it.below) (root c) (Entered lock) (λ p. p ≡ there) (climb_last shape worker begun lock it.below (at_root c)))

pub returns-clause-leads : goal.returns-clause-leads
returns-clause-leads c = λ goes_on start begun leads.
    let shape = c.args.context.shape in let worker = c.args.worker in let lock = c.args.ascent.lock in let it = c.loop-level.invariant in
    leads_on shape c.args.context.until start (batch_actions c.loop-level.batch) (climbing_private worker begun lock it.below) (it.leads start begun leads) (root c) (batch_actions c.put-2.new.batch) (told_root c) (Entered lock)
    (private_at_stage worker begun (Logging (LoadTurn lock))) goes_on (climb_last shape worker begun lock it.below (at_root c))
