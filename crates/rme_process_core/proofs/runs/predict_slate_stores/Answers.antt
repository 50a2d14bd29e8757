use Rattle.std.proofs.Common.{◌≡◌, ℕ, ◌+◌, ◌*◌, ◌/◌, ◌%◌, ◌<◌, [], ◌∷◌, ◌++◌, List, take, refl, sym, ap, subst, ◌∙◌, arith}
use Rattle.std.specs.Prelude.{slice_index, slice_get, Some, length}
use Rattle.rme_words.specs.declared.address.Address.TheVariants.{Begun, SlateLock, SlateLen, SlateWord}
use Rattle.rme_words.specs.Words.{word_number}
use Rattle.rme_program.specs.declared.private.Private.{Private}
use Rattle.rme_program.specs.declared.stage.Stage.{Stage}
use Rattle.rme_program.specs.declared.note.Note.TheVariants.{Asked}
use Rattle.rme_program.specs.Conditions.{IsStage}
use Rattle.rme_script.specs.Slates.{slate_of}
use Rattle.rme_script.proofs.Slating.{slate_at}
use Rattle.rme_process_core.specs.declared.flat.FlatAction.{FlatAction}
use Rattle.rme_process_core.specs.Flat.{flat_store}
use Rattle.rme_process_core.specs.Batches.{batch_actions}
use Rattle.rme_process_core.specs.Runs.{PredictsUpTo, private_at_stage, climbing_private}
use Rattle.rme_process_core.proofs.Telling.{more_told, leads_fresh, leads_more, leads_on}
use Rattle.rme_process_core.proofs.Going.{posting, post_lock, post_length, post_word, post_begun}
use Rattle.rme_process_core.proofs.runs.predict_slate_stores.Goals as goal

pub loop-at-init : goal.loop-at-init
loop-at-init c =
    let shape = c.args.context.shape in let private = c.args.private.now in let slate = c.args.slate.now in let job = slate.job in let until = c.args.context.until in let worker = private.worker in let begun = private.begun in
    let before : List FlatAction = batch_actions c.args.batch.now in let told : List FlatAction = batch_actions c.put.new.batch in
    let fresh : before ≡ [] = ap (λ (k : ℕ). take k c.args.batch.now.actions) c.requires.fresh in
    let one : FlatAction = flat_store (word_number shape (SlateLock worker)) job.lock in let two : FlatAction = flat_store (word_number shape (SlateLen worker)) job.script.n in
    let first : List FlatAction = before ++ one ∷ [] in
    let is : told ≡ first ++ two ∷ [] =
    c.put.ensures.told
    ∙ ap (λ (a : FlatAction). before ++ a ∷ c.store.result ∷ []) (c.store-lock.ensures ∙ ap (λ (w : ℕ). flat_store w c.from.result) c.slate_lock_at.ensures ∙ ap (λ (v : ℕ). flat_store (word_number shape (SlateLock worker)) v) c.from.ensures)
    ∙ ap (λ (a : FlatAction). before ++ one ∷ a ∷ []) (c.store.ensures ∙ ap (λ (w : ℕ). flat_store w c.from-2.result) c.slate_len_at.ensures ∙ ap (λ (v : ℕ). flat_store (word_number shape (SlateLen worker)) v) (c.from-2.ensures ∙ c.n-n.ensures.n))
    ∙ more_told before one (two ∷ []) in
    let S : Stage → Type 0 = λ s. PredictsUpTo shape until private before (private_at_stage worker begun s) in
    let Z : ℕ → Type 0 = λ k. PredictsUpTo shape until private before (posting worker begun job k) in
    let start : PredictsUpTo shape until private before (posting worker begun job 0) = subst Z c.requires.begins (subst S c.requires.here (leads_fresh shape until private before fresh)) in
    record {
      leads = leads_more shape until private first (posting worker begun job 1) (leads_more shape until private before (posting worker begun job 0) start one first refl (posting worker begun job 1) (post_lock shape worker begun job))
          two told is (posting worker begun job 2) (post_length shape worker begun job);
      count = omega (arith, c.put.ensures.count, c.requires.fresh);
    }

module _ (c : goal.After-put-in-loop-at) where
  abbrev stored : ℕ → Private
  stored k = posting c.args.private.now.worker c.args.private.now.begun c.args.slate.now.job k

  abbrev slate_store : ℕ → FlatAction
  slate_store at = flat_store (word_number c.args.context.shape (SlateWord c.args.private.now.worker (at / 3) (at % 3))) (slice_index (slate_of c.args.slate.now.job.script.ops) at)

  -- A word of the slate is one of its operation.
  word_told : (part at : ℕ) → at < 3 * length c.args.slate.now.job.script.ops → at / 3 ≡ c.loop-at.at → at % 3 ≡ part
      → flat_store (word_number c.args.context.shape (SlateWord c.args.private.now.worker c.loop-at.at part)) (slice_index c.op_words.result part) ≡ slate_store at
  word_told part at below same rest =
      let ops = c.args.slate.now.job.script.ops in
      let A : ℕ → FlatAction = λ k. flat_store (word_number c.args.context.shape (SlateWord c.args.private.now.worker k part)) (slice_index c.op_words.result part) in
      let B : ℕ → FlatAction = λ r. flat_store (word_number c.args.context.shape (SlateWord c.args.private.now.worker (at / 3) r)) (slice_index c.op_words.result part) in
      let V : ℕ → FlatAction = λ v. flat_store (word_number c.args.context.shape (SlateWord c.args.private.now.worker (at / 3) (at % 3))) v in
      let G : ℕ → Type 0 = λ k. slice_get ops k ≡ Some c.op.result in
      ap A (sym same) ∙ ap B (sym rest) ∙ ap V (slate_at ops at c.op.result c.op_words.result part below (subst G (sym same) c.op.ensures) c.op_words.ensures.words rest)

pub loop-at-preserved : goal.loop-at-preserved
loop-at-preserved c =
    let shape = c.args.context.shape in let private = c.args.private.now in let worker = private.worker in let begun = private.begun in let job = c.args.slate.now.job in let until = c.args.context.until in
    let at = c.loop-at.at in let k : ℕ = 3 * at in let before : List FlatAction = batch_actions c.loop-at.batch in let told : List FlatAction = batch_actions c.put-in-loop-at.new.batch in
    let below : k + 2 < 3 * job.script.n = omega (arith, c.loop-at-test.true, c.n-n.ensures.n) in
    let S : Stage → Type 0 = λ s. IsStage shape begun s in let stage = subst S c.requires.here c.requires.private.stage in
    let inside : k + 2 < 3 * length job.script.ops = omega (arith, below, stage.1.script.counted) in
    let one : FlatAction = slate_store c k in let two : FlatAction = slate_store c (k + 1) in let three : FlatAction = slate_store c (k + 2) in
    let first : List FlatAction = before ++ one ∷ [] in let second : List FlatAction = first ++ two ∷ [] in
    let is : told ≡ second ++ three ∷ [] =
    c.put-in-loop-at.ensures.told
    ∙ ap (λ (a : FlatAction). before ++ a ∷ c.store-in-loop-at-2.result ∷ c.store-in-loop-at-3.result ∷ [])
    (c.store-in-loop-at.ensures ∙ ap (λ (w : ℕ). flat_store w (slice_index c.op_words.result 0)) c.slate_at.ensures ∙ word_told c 0 k (omega (arith, inside)) (omega arith) (omega arith))
    ∙ ap (λ (a : FlatAction). before ++ one ∷ a ∷ c.store-in-loop-at-3.result ∷ [])
    (c.store-in-loop-at-2.ensures ∙ ap (λ (w : ℕ). flat_store w (slice_index c.op_words.result 1)) c.slate_at-in-loop-at.ensures ∙ word_told c 1 (k + 1) (omega (arith, inside)) (omega arith) (omega arith))
    ∙ ap (λ (a : FlatAction). before ++ one ∷ two ∷ a ∷ [])
    (c.store-in-loop-at-3.ensures ∙ ap (λ (w : ℕ). flat_store w (slice_index c.op_words.result 2)) c.slate_at-in-loop-at-2.ensures ∙ word_told c 2 (k + 2) inside (omega arith) (omega arith))
    ∙ more_told before one (two ∷ three ∷ []) ∙ more_told first two (three ∷ []) in
    let P : List FlatAction → ℕ → Type 0 = λ l j. PredictsUpTo shape until private l (posting worker begun job j) in
    let once : P first (k + 1 + 2) = subst (P first) (omega arith) (leads_more shape until private before (stored c (k + 2)) c.loop-at.invariant.leads one first refl (stored c (k + 2 + 1)) (post_word shape worker begun job k (omega (arith, below)))) in
    let twice : P second (k + 2 + 2) = subst (P second) (omega arith) (leads_more shape until private first (stored c (k + 1 + 2)) once two second refl (stored c (k + 1 + 2 + 1)) (post_word shape worker begun job (k + 1) (omega (arith, below)))) in
    record {
      leads = subst (P told) (omega arith) (leads_more shape until private second (stored c (k + 2 + 2)) twice three told is (stored c (k + 2 + 2 + 1)) (post_word shape worker begun job (k + 2) below));
      count = omega (arith, c.put-in-loop-at.ensures.count, c.loop-at.invariant.count);
    }

pub returns-clause-leads : goal.returns-clause-leads
returns-clause-leads c = λ goes_on.
    let shape = c.args.context.shape in let private = c.args.private.now in let job = c.args.slate.now.job in let at = c.loop-at.at in let told : List FlatAction = batch_actions c.loop-at.batch in
    let whole : 3 * at + 2 ≡ 2 + 3 * job.script.n = omega (arith, c.loop-at-test.false, c.n-n.ensures.n, c.loop-at.auto.at-end) in
    let action : FlatAction = flat_store (word_number shape (Begun private.worker)) (private.begun + 1) in
    let is : batch_actions c.put-2.new.batch ≡ told ++ action ∷ [] =
    c.put-2.ensures.told ∙ ap (λ (a : FlatAction). told ++ a ∷ []) (c.store-2.ensures ∙ ap (λ (w : ℕ). flat_store w (c.from-number.result + 1)) c.begun_at.ensures ∙ ap (λ (v : ℕ). flat_store (word_number shape (Begun private.worker)) (v + 1)) c.from-number.ensures) in
    let P : ℕ → Type 0 = λ k. PredictsUpTo shape c.args.context.until private told (posting private.worker private.begun job k) in
    leads_on shape c.args.context.until private told (posting private.worker private.begun job (2 + 3 * job.script.n)) (subst P whole c.loop-at.invariant.leads) action (batch_actions c.put-2.new.batch) is
    (Asked (private.begun + 1)) (climbing_private private.worker (private.begun + 1) job.lock 0) goes_on (post_begun shape private.worker private.begun job)
