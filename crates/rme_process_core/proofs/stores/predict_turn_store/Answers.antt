use Rattle.std.proofs.Common.{◌≡◌, ◌+◌, ◌++◌, [], ◌∷◌, ℕ, List, refl, ap, ◌∙◌}
use Rattle.rme_words.specs.Words.{word_number}
use Rattle.rme_program.specs.declared.private.Private.{Private}
use Rattle.rme_process_core.specs.declared.flat.FlatAction.{FlatAction}
use Rattle.rme_words.specs.declared.address.Address.TheVariants.{ShadowReply, Mask, Turn}
use Rattle.rme_program.specs.declared.stage.Stage.TheVariants.{Logging, Copying}
use Rattle.rme_program.specs.declared.stage.Log.TheVariants.{StoreShadowReply, StoreMask, StoreTurn}
use Rattle.rme_program.specs.declared.stage.Redo.TheVariants.{LoadMask}
use Rattle.rme_program.specs.Masks.{first_cell}
use Rattle.rme_program.specs.Steps.{copy_stage_from}
use Rattle.rme_process_core.specs.Flat.{flat_store, flat_expecting_load}
use Rattle.rme_process_core.specs.Batches.{batch_actions}
use Rattle.rme_process_core.specs.Runs.{private_at_stage}
use Rattle.rme_process_core.proofs.Telling.{more_told, leads_more}
use Rattle.rme_process_core.proofs.Finishing.{shadow_reply_step, mask_step, odd_step, mask_load_step}
use Rattle.rme_process_core.proofs.stores.predict_turn_store.Goals as goal

pub returns-clause-leads : goal.returns-clause-leads
returns-clause-leads c = λ start worker begun leads.
    let shape = c.args.context.shape in let visit = c.args.section.now.visit in let named = c.args.section.now.named in let reply = c.args.section.now.reply in let until = c.args.context.until in
    let before : List FlatAction = batch_actions c.args.batch.now in let told : List FlatAction = batch_actions c.put.new.batch in
    let one : FlatAction = flat_store (word_number shape (ShadowReply visit.lock)) reply in let two : FlatAction = flat_store (word_number shape (Mask visit.lock)) named in
    let three : FlatAction = flat_store (word_number shape (Turn visit.lock)) (visit.turn + 1) in let four : FlatAction = flat_expecting_load (word_number shape (Mask visit.lock)) named in
    let first : List FlatAction = before ++ one ∷ [] in let second : List FlatAction = first ++ two ∷ [] in let third : List FlatAction = second ++ three ∷ [] in
    let is : told ≡ third ++ four ∷ [] =
    c.put.ensures.told
    ∙ ap (λ (a : FlatAction). before ++ a ∷ c.store-2.result ∷ c.store-3.result ∷ c.expect.result ∷ []) (c.store.ensures ∙ ap (λ (w : ℕ). flat_store w reply) c.shadow_reply_at.ensures)
    ∙ ap (λ (a : FlatAction). before ++ one ∷ a ∷ c.store-3.result ∷ c.expect.result ∷ []) (c.store-2.ensures ∙ ap (λ (w : ℕ). flat_store w named) c.mask_at.ensures)
    ∙ ap (λ (a : FlatAction). before ++ one ∷ two ∷ a ∷ c.expect.result ∷ [])
    (c.store-3.ensures ∙ ap (λ (w : ℕ). flat_store w (c.from.result + 1)) c.turn_at.ensures ∙ ap (λ (v : ℕ). flat_store (word_number shape (Turn visit.lock)) (v + 1)) c.from.ensures)
    ∙ ap (λ (a : FlatAction). before ++ one ∷ two ∷ three ∷ a ∷ []) (c.expect.ensures ∙ ap (λ (w : ℕ). flat_expecting_load w named) c.mask_at-2.ensures)
    ∙ more_told before one (two ∷ three ∷ four ∷ []) ∙ more_told first two (three ∷ four ∷ []) ∙ more_told second three (four ∷ []) in
    let a : Private = private_at_stage worker begun (Logging (StoreShadowReply visit named reply)) in let b : Private = private_at_stage worker begun (Logging (StoreMask visit named)) in
    let d : Private = private_at_stage worker begun (Logging (StoreTurn visit)) in let mask : Private = private_at_stage worker begun (Copying (LoadMask visit)) in
    leads_more shape until start third mask
    (leads_more shape until start second d
    (leads_more shape until start first b (leads_more shape until start before a leads one first refl b (shadow_reply_step shape worker begun visit named reply)) two second refl d (mask_step shape worker begun visit named))
    three third refl mask (odd_step shape worker begun visit))
    four told is (private_at_stage worker begun (copy_stage_from visit named (first_cell named 0 shape.cells))) (mask_load_step shape worker begun visit named)
