use Rattle.std.proofs.Common.{◌≡◌, ◌+◌, ◌-◌, ◌++◌, [], ◌∷◌, ℕ, List, ap, subst, ◌∙◌, arith}
use Rattle.rme_words.specs.Words.{word_number}
use Rattle.rme_process_core.specs.declared.flat.FlatAction.{FlatAction}
use Rattle.rme_tree.specs.Paths.{node}
use Rattle.rme_words.specs.declared.address.Address.TheVariants.{Node}
use Rattle.rme_process_core.specs.Flat.{flat_store}
use Rattle.rme_process_core.specs.Batches.{batch_actions}
use Rattle.rme_process_core.specs.Runs.{PredictsUpTo}
use Rattle.rme_process_core.proofs.Telling.{leads_more, leads_end}
use Rattle.rme_process_core.proofs.Going.{clearing, node_clear, clear_step, clear_end}
use Rattle.rme_process_core.proofs.runs.predict_node_releases.Goals as goal

pub loop-cleared-init : goal.loop-cleared-init
loop-cleared-init c = record { rest = c.args.level; left = omega arith; some = c.requires.some; leads = λ start begun leads. leads; few = omega arith }

pub loop-cleared-preserved : goal.loop-cleared-preserved
loop-cleared-preserved c =
    let shape = c.args.context.shape in let worker = c.args.worker in let lock = c.args.lock in let told : List FlatAction = batch_actions c.loop-cleared.batch in
    let it = c.loop-cleared.invariant in
    let rest : ℕ = it.rest - 1 in
    let more : it.rest ≡ rest + 1 = omega (arith, it.some) in
    let at : c.args.level - c.loop-cleared.cleared ≡ rest + 1 = omega (arith, it.left, it.some) in
    let action : FlatAction = node_clear shape worker lock (rest + 1) in
    let is : batch_actions c.put.new.batch ≡ told ++ action ∷ [] =
    c.put.ensures.told ∙ ap (λ (a : FlatAction). told ++ a ∷ [])
    (c.store.ensures ∙ ap (λ (w : ℕ). flat_store w 0) c.node_at-word.ensures ∙ ap (λ (v : ℕ). flat_store (word_number shape (Node lock v)) 0) (c.node.ensures.node ∙ ap (λ (l : ℕ). node shape.leaves worker l) at)) in
    record {
      rest = rest;
      left = omega (arith, it.left, more);
      some = omega (arith, c.loop-cleared-test.true, it.left, more);
      leads = λ start begun leads.
          let P : ℕ → Type 0 = λ l. PredictsUpTo shape c.args.context.until start told (clearing worker begun lock l) in
          leads_more shape c.args.context.until start told (clearing worker begun lock (rest + 1)) (subst P more (it.leads start begun leads)) action (batch_actions c.put.new.batch) is (clearing worker begun lock rest)
          (clear_step shape worker begun lock rest (omega (arith, it.left, more, c.requires.below)) (omega (arith, c.loop-cleared-test.true, it.left, more)));
      few = omega (arith, c.put.ensures.count, it.few);
    }

pub returns-clause-foretells : goal.returns-clause-foretells
returns-clause-foretells c = λ start begun leads.
    let shape = c.args.context.shape in let worker = c.args.worker in let lock = c.args.lock in let told : List FlatAction = batch_actions c.loop-cleared.batch in
    let it = c.loop-cleared.invariant in
    let one : it.rest ≡ 1 = omega (arith, it.left, it.some, c.loop-cleared-test.false, c.loop-cleared.auto.cleared-end, c.requires.some) in
    let action : FlatAction = node_clear shape worker lock 1 in
    let is : batch_actions c.put-2.new.batch ≡ told ++ action ∷ [] =
    c.put-2.ensures.told ∙ ap (λ (a : FlatAction). told ++ a ∷ [])
    (c.store-2.ensures ∙ ap (λ (w : ℕ). flat_store w 0) c.node_at-lowest.ensures ∙ ap (λ (v : ℕ). flat_store (word_number shape (Node lock v)) 0) c.node-2.ensures.node) in
    let P : ℕ → Type 0 = λ l. PredictsUpTo shape c.args.context.until start told (clearing worker begun lock l) in
    leads_end shape c.args.context.until start told (clearing worker begun lock 1) (subst P one (it.leads start begun leads)) action (batch_actions c.put-2.new.batch) is (clear_end shape worker begun lock 1)
