use Rattle.std.proofs.Common.{◌≡◌, ◌<◌, ◌+◌, ◌*◌, ◌/◌, ◌%◌, ◌++◌, [], ◌∷◌, ℕ, List, refl, sym, ap, subst, ◌∙◌, arith}
use Rattle.rme_words.specs.Words.{word_number}
use Rattle.rme_program.specs.declared.private.Private.{Private}
use Rattle.rme_process_core.specs.declared.flat.FlatAction.{FlatAction}
use Rattle.std.specs.Prelude.{slice_index}
use Rattle.rme_words.specs.declared.address.Address.TheVariants.{SlateLen, SlateWord, Turn}
use Rattle.rme_program.specs.declared.stage.Stage.TheVariants.{Logging}
use Rattle.rme_program.specs.declared.stage.Log.TheVariants.{LoadTurn}
use Rattle.rme_process_core.specs.Flat.{flat_expecting_load, flat_even_load}
use Rattle.rme_process_core.specs.Batches.{batch_actions}
use Rattle.rme_process_core.specs.Runs.{PredictsUpToSome, private_at_stage}
use Rattle.rme_process_core.proofs.Telling.{more_told, Steps, leads_reach, reaches_more, reaches_alone}
use Rattle.rme_program.specs.declared.note.Note.TheVariants.{Quiet}
use Rattle.rme_process_core.proofs.Loading.{KnowsTurn, ReadsAtTurn, even_step, length_step, word_step, slate_known, loads_cells}
use Rattle.rme_process_core.proofs.loads.predict_section.Goals as goal

pub loop-at-init : goal.loop-at-init
loop-at-init c =
    let shape = c.args.context.shape in let worker = c.args.worker in let lock = c.args.lock in let guess = c.args.guess.now in let n = guess.script.n in let until = c.args.context.until in
    let before : List FlatAction = batch_actions c.args.batch.now in let told : List FlatAction = batch_actions c.put.new.batch in
    let turn : FlatAction = flat_even_load (word_number shape (Turn lock)) in let size : FlatAction = flat_expecting_load (word_number shape (SlateLen worker)) n in
    let first : List FlatAction = before ++ turn ∷ [] in
    let is : told ≡ first ++ size ∷ [] =
    c.put.ensures.told ∙ ap (λ (a : FlatAction). before ++ a ∷ c.expect.result ∷ []) (c.expect_even-turn.ensures ∙ ap (λ (w : ℕ). flat_even_load w) c.turn_at.ensures)
    ∙ ap (λ (a : FlatAction). before ++ turn ∷ a ∷ []) (c.expect.ensures ∙ ap (λ (w : ℕ). flat_expecting_load w c.from.result) c.slate_len_at.ensures ∙ ap (λ (v : ℕ). flat_expecting_load (word_number shape (SlateLen worker)) v) (c.from.ensures ∙ c.n-n.ensures.n))
    ∙ more_told before turn (size ∷ []) in
    record {
      reaches = λ start begun leads.
          let here : Private = private_at_stage worker begun (Logging (LoadTurn lock)) in
          let even : (mid : Private) → mid ≡ here → Steps shape mid turn Quiet (KnowsTurn shape worker begun lock) =
          λ mid is_here. let S : Private → Type 0 = λ p. Steps shape p turn Quiet (KnowsTurn shape worker begun lock) in subst S (sym is_here) (even_step shape worker begun lock) in
          reaches_more shape until start first (KnowsTurn shape worker begun lock)
          (reaches_more shape until start before (λ p. p ≡ here) (leads_reach shape until start before here leads) turn first refl (KnowsTurn shape worker begun lock) even)
          size told is (ReadsAtTurn shape worker begun lock n guess.words 0) (λ mid knows. length_step shape worker begun lock n guess.words c.requires.guess.script.few mid knows);
      count = omega (arith, c.put.ensures.count);
    }

module _ (c : goal.After-put-in-loop-at) where
  abbrev slate_load : ℕ → FlatAction
  slate_load at = flat_expecting_load (word_number c.args.context.shape (SlateWord c.args.worker (at / 3) (at % 3))) (slice_index c.args.guess.now.words at)

  load_told : (part at : ℕ) → at / 3 ≡ c.loop-at.at → at % 3 ≡ part → flat_expecting_load (word_number c.args.context.shape (SlateWord c.args.worker c.loop-at.at part)) (slice_index c.args.guess.now.words at) ≡ slate_load at
  load_told part at same rest =
      let A : ℕ → FlatAction = λ k. flat_expecting_load (word_number c.args.context.shape (SlateWord c.args.worker k part)) (slice_index c.args.guess.now.words at) in
      let B : ℕ → FlatAction = λ r. flat_expecting_load (word_number c.args.context.shape (SlateWord c.args.worker (at / 3) r)) (slice_index c.args.guess.now.words at) in
      ap A (sym same) ∙ ap B (sym rest)

  abbrev Read : ℕ → ℕ → Private → Type 0
  Read begun k = ReadsAtTurn c.args.context.shape c.args.worker begun c.args.lock c.args.guess.now.script.n c.args.guess.now.words k

  -- One more word of the slate is loaded.
  one_more : (start : Private) (begun at next : ℕ) (before after : List FlatAction) → after ≡ before ++ slate_load at ∷ [] → at < 3 * c.args.guess.now.script.n → at + 1 ≡ next
      → PredictsUpToSome c.args.context.shape c.args.context.until start before (Read begun at) → PredictsUpToSome c.args.context.shape c.args.context.until start after (Read begun next)
  one_more start begun at next before after is below more reaches =
      let shape = c.args.context.shape in let worker = c.args.worker in let lock = c.args.lock in let guess = c.args.guess.now in let n = guess.script.n in
      let P : ℕ → Type 0 = λ k. PredictsUpToSome shape c.args.context.until start after (Read begun k) in
      subst P more (reaches_more shape c.args.context.until start before (Read begun at) reaches (slate_load at) after is (Read begun (at + 1))
      (λ mid reads. let step = word_step shape worker begun lock reads.turn n guess.words guess.script c.requires.guess.script.few c.requires.guess.slate c.requires.guess.script at mid below reads.reads in
      record { busy = step.busy; does = step.does; goes = λ value goes. let it = step.goes value goes in record { takes = it.takes; says = it.says; next = record { turn = reads.turn; reads = it.next } } }))

pub loop-at-preserved : goal.loop-at-preserved
loop-at-preserved c =
    let shape = c.args.context.shape in let worker = c.args.worker in let words : List ℕ = c.args.guess.now.words in let at = c.loop-at.at in let k : ℕ = 3 * at in
    let before : List FlatAction = batch_actions c.loop-at.batch in let told : List FlatAction = batch_actions c.put-in-loop-at.new.batch in
    let below : k + 2 < 3 * c.args.guess.now.script.n = omega (arith, c.loop-at-test.true, c.n-n.ensures.n) in
    let one : FlatAction = slate_load c k in let two : FlatAction = slate_load c (k + 1) in let three : FlatAction = slate_load c (k + 2) in
    let first : List FlatAction = before ++ one ∷ [] in let second : List FlatAction = first ++ two ∷ [] in
    let is : told ≡ second ++ three ∷ [] =
    c.put-in-loop-at.ensures.told
    ∙ ap (λ (a : FlatAction). before ++ a ∷ c.expect-in-loop-at-2.result ∷ c.expect-in-loop-at-3.result ∷ [])
    (c.expect-in-loop-at.ensures ∙ ap (λ (w : ℕ). flat_expecting_load w (slice_index words k)) c.slate_at.ensures ∙ load_told c 0 k (omega arith) (omega arith))
    ∙ ap (λ (a : FlatAction). before ++ one ∷ a ∷ c.expect-in-loop-at-3.result ∷ [])
    (c.expect-in-loop-at-2.ensures ∙ ap (λ (w : ℕ). flat_expecting_load w (slice_index words (k + 1))) c.slate_at-in-loop-at.ensures ∙ load_told c 1 (k + 1) (omega arith) (omega arith))
    ∙ ap (λ (a : FlatAction). before ++ one ∷ two ∷ a ∷ [])
    (c.expect-in-loop-at-3.ensures ∙ ap (λ (w : ℕ). flat_expecting_load w (slice_index words (k + 2))) c.slate_at-in-loop-at-2.ensures ∙ load_told c 2 (k + 2) (omega arith) (omega arith))
    ∙ more_told before one (two ∷ three ∷ []) ∙ more_told first two (three ∷ []) in
    record {
      reaches = λ start begun leads.
          one_more c start begun (k + 2) (3 * (at + 1)) second told is below (omega arith)
          (one_more c start begun (k + 1) (k + 2) first second refl (omega (arith, below)) (omega arith) (one_more c start begun k (k + 1) before first refl (omega (arith, below)) (omega arith) (c.loop-at.invariant.reaches start begun leads)));
      count = omega (arith, c.put-in-loop-at.ensures.count, c.loop-at.invariant.count);
    }

pub returns-in-Some-clause-foretells : goal.returns-in-Some-clause-foretells
returns-in-Some-clause-foretells c = λ start begun leads.
    let shape = c.args.context.shape in let worker = c.args.worker in let lock = c.args.lock in let guess = c.args.guess.now in let n = guess.script.n in let at : ℕ = 3 * c.loop-at.at in
    let whole : at ≡ 3 * n = omega (arith, c.loop-at-test.false, c.n-n.ensures.n, c.loop-at.auto.at-end) in
    c.predict_cell_loads.ensures.foretells start (λ rest follows. c.loop-at.invariant.reaches start begun leads rest (λ mid reads. follows mid
    (loads_cells shape worker begun lock reads.turn guess.named c.in-Some.cell guess.script mid c.requires.guess.named (sym c.in-Some.ensures.first)
    (slate_known shape worker begun lock reads.turn n guess.words guess.script c.requires.guess.script.few c.requires.guess.slate c.requires.guess.script at mid whole reads.reads))))

pub returns-in_default-clause-foretells : goal.returns-in_default-clause-foretells
returns-in_default-clause-foretells c = λ start begun leads.
    let guess = c.args.guess.now in
    reaches_alone c.args.context.shape c.args.context.until start (batch_actions c.loop-at.batch) (ReadsAtTurn c.args.context.shape c.args.worker begun c.args.lock guess.script.n guess.words (3 * c.loop-at.at)) (c.loop-at.invariant.reaches start begun leads)
