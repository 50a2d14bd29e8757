use Rattle.std.proofs.Common.{◌≡◌, ◌++◌, [], ◌∷◌, ℕ, List, take, ap, subst, ◌∙◌}
use Rattle.rme_words.specs.Words.{word_number}
use Rattle.rme_program.specs.declared.stage.Stage.{Stage}
use Rattle.rme_process_core.specs.declared.flat.FlatAction.{FlatAction}
use Rattle.rme_program.specs.declared.stage.Stage.TheVariants.{Logging, Copying}
use Rattle.rme_program.specs.declared.stage.Log.TheVariants.{StoreShadows}
use Rattle.rme_program.specs.declared.stage.Redo.TheVariants.{LoadReply, StoreReply}
use Rattle.rme_words.specs.declared.address.Address.TheVariants.{ShadowReply}
use Rattle.rme_process_core.specs.Flat.{flat_expecting_load}
use Rattle.rme_process_core.specs.Batches.{batch_actions}
use Rattle.rme_process_core.specs.Runs.{PredictsUpTo, private_at_stage}
use Rattle.rme_process_core.proofs.Telling.{leads_more, leads_fresh}
use Rattle.rme_process_core.proofs.Finishing.{reply_load_step}
use Rattle.rme_process_core.proofs.stores.predict_section_rest.Goals as goal

-- The reply is copied.
replied : (c : goal.After-predict_receipt_stores)
    → PredictsUpTo c.args.context.shape c.args.context.until c.args.private.now (batch_actions c.put.new.batch) (private_at_stage c.args.private.now.worker c.args.private.now.begun (Copying (StoreReply c.args.section.now.visit c.args.section.now.named c.args.section.now.reply)))
replied c =
    let shape = c.args.context.shape in let private = c.args.private.now in let visit = c.args.section.now.visit in let named = c.args.section.now.named in let reply = c.args.section.now.reply in let row = c.args.section.now.row in let until = c.args.context.until in
    let worker = private.worker in let begun = private.begun in
    let told : List FlatAction = batch_actions c.predict_copies.new.batch in
    let load : FlatAction = flat_expecting_load (word_number shape (ShadowReply visit.lock)) reply in
    let is : batch_actions c.put.new.batch ≡ told ++ load ∷ [] = c.put.ensures.told ∙ ap (λ (a : FlatAction). told ++ a ∷ []) (c.expect-found.ensures ∙ ap (λ (w : ℕ). flat_expecting_load w reply) c.shadow_reply_at.ensures) in
    let fresh : batch_actions c.args.batch.now ≡ [] = ap (λ (n : ℕ). take n c.args.batch.now.actions) c.requires.fresh in
    let P : Stage → Type 0 = λ s. PredictsUpTo shape until private (batch_actions c.args.batch.now) (private_at_stage worker begun s) in
    let start : P (Logging (StoreShadows visit named row reply c.args.cell)) = subst P c.requires.here (leads_fresh shape until private (batch_actions c.args.batch.now) fresh) in
    leads_more shape until private told (private_at_stage worker begun (Copying (LoadReply visit named)))
    (c.predict_copies.ensures.leads private worker begun (c.predict_turn_store.ensures.leads private worker begun (c.predict_shadow_stores.ensures.leads private worker begun reply start)))
    load (batch_actions c.put.new.batch) is (private_at_stage worker begun (Copying (StoreReply visit named reply))) (reply_load_step shape worker begun visit named reply)

pub returns-clause-foretells : goal.returns-clause-foretells
returns-clause-foretells c = c.predict_receipt_stores.ensures.foretells c.args.private.now c.args.section.now.named (replied c)

pub returns-clause-leads : goal.returns-clause-leads
returns-clause-leads c = λ goes_on. c.predict_receipt_stores.ensures.leads goes_on c.args.private.now c.args.section.now.named (replied c)
