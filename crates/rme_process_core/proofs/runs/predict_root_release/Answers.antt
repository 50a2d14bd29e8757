use Rattle.std.proofs.Common.{◌≡◌, ◌+◌, ◌-◌, ◌*◌, ◌++◌, [], ◌∷◌, ℕ, List, sym, ap, subst, ◌∙◌, refl, arith}
use Rattle.rme_words.specs.Words.{word_number}
use Rattle.rme_program.specs.declared.private.Private.{Private}
use Rattle.rme_process_core.specs.declared.flat.FlatAction.{FlatAction}
use Rattle.std.specs.Prelude.{if◌then◌else◌, Bool}
use Rattle.std.proofs.lemmas.Bool.{ne_eqb}
use Rattle.rme_words.specs.declared.address.Address.TheVariants.{Node, Turn}
use Rattle.rme_program.specs.declared.note.Note.TheVariants.{Left}
use Rattle.rme_program.specs.declared.stage.Stage.TheVariants.{Resting, Leaving}
use Rattle.rme_program.specs.declared.stage.Departure.TheVariants.{LoadExitTurn, StoreExitTurn, Clear}
use Rattle.rme_program.specs.Steps.{clear_stage}
use Rattle.rme_process_core.specs.Flat.{flat_store, flat_expecting_load}
use Rattle.rme_process_core.specs.Batches.{batch_actions}
use Rattle.rme_process_core.specs.Runs.{PredictsUpTo, private_at_stage}
use Rattle.rme_process_core.proofs.Telling.{more_told, leads_more, leads_on}
use Rattle.rme_process_core.proofs.Going.{clearing, node_clear, turn_step, settle_step, root_step}
use Rattle.rme_process_core.proofs.runs.predict_root_release.Goals as goal

pub returns-clause-leads : goal.returns-clause-leads
returns-clause-leads c = λ goes_on high start begun leads.
    let shape = c.args.context.shape in let worker = c.args.worker in let lock = c.args.lock in let until = c.args.context.until in
    let before : List FlatAction = batch_actions c.args.batch.now in let told : List FlatAction = batch_actions c.put.new.batch in
    let turn : ℕ = 2 * c.args.place + 1 in
    let one : FlatAction = flat_expecting_load (word_number shape (Turn lock)) turn in let two : FlatAction = flat_store (word_number shape (Turn lock)) (turn + 1) in let three : FlatAction = node_clear shape worker lock shape.height in
    let first : List FlatAction = before ++ one ∷ [] in let second : List FlatAction = first ++ two ∷ [] in
    let is : told ≡ second ++ three ∷ [] =
    c.put.ensures.told
    ∙ ap (λ (a : FlatAction). before ++ a ∷ c.store.result ∷ c.store-2.result ∷ [])
    (c.expect.ensures ∙ ap (λ (w : ℕ). flat_expecting_load w (2 * c.from.result + 1)) c.turn_at.ensures ∙ ap (λ (p : ℕ). flat_expecting_load (word_number shape (Turn lock)) (2 * p + 1)) c.from.ensures)
    ∙ ap (λ (a : FlatAction). before ++ one ∷ a ∷ c.store-2.result ∷ [])
    (c.store.ensures ∙ ap (λ (w : ℕ). flat_store w (2 * c.from.result + 1 + 1)) c.turn_at-2.ensures ∙ ap (λ (p : ℕ). flat_store (word_number shape (Turn lock)) (2 * p + 1 + 1)) c.from.ensures)
    ∙ ap (λ (a : FlatAction). before ++ one ∷ two ∷ a ∷ [])
    (c.store-2.ensures ∙ ap (λ (w : ℕ). flat_store w 0) c.node_at.ensures ∙ ap (λ (v : ℕ). flat_store (word_number shape (Node lock v)) 0) c.node-root.ensures.node)
    ∙ more_told before one (two ∷ three ∷ []) ∙ more_told first two (three ∷ []) in
    let rest : Private = private_at_stage worker begun (clear_stage lock (shape.height - 1)) in
    let C : Bool → Type 0 = λ b. private_at_stage worker begun (if b then Resting else Leaving (Clear lock (shape.height - 1))) ≡ private_at_stage worker begun (Leaving (Clear lock (shape.height - 1))) in
    let more : rest ≡ private_at_stage worker begun (Leaving (Clear lock (shape.height - 1))) = subst C (sym (ne_eqb (shape.height - 1) 0 (λ e. omega (arith, e, high)))) refl in
    let P : Private → Type 0 = λ p. PredictsUpTo shape until start told p in
    subst P more
    (leads_on shape until start second (clearing worker begun lock shape.height)
    (leads_more shape until start first (private_at_stage worker begun (Leaving (StoreExitTurn lock turn)))
    (leads_more shape until start before (private_at_stage worker begun (Leaving (LoadExitTurn lock))) leads one first refl (private_at_stage worker begun (Leaving (StoreExitTurn lock turn)))
    (turn_step shape worker begun lock turn (omega (arith, c.requires.place)) (omega arith)))
    two second refl (clearing worker begun lock shape.height) (settle_step shape worker begun lock turn))
    three told is (Left lock) rest goes_on (root_step shape worker begun lock))
