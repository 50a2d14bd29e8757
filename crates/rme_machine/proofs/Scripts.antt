-- The script that a section runs: the words that determine it, and its result on cells that were loaded one by one.
use Rattle.std.proofs.Common.{◌≡◌, ℕ, zero, suc, ◌+◌, ◌*◌, ◌<◌, ◌≤◌, List, [], ◌∷◌, length, take, subst, refl, sym, ◌∙◌, ap, inl, inr, arith}
use Rattle.std.specs.Prelude.{nat_lt, slice_index, slice_set, Option, Some, None, unwrap_or, if◌then◌else◌}
use Rattle.std.proofs.lemmas.Bool.{cases_lt}
use Rattle.std.proofs.lemmas.List.{get_or_past}
use Rattle.std.proofs.lemmas.Option.{slice_get-get_or}
use Rattle.rme_words.specs.declared.shape.Shape.{Shape}
use Rattle.rme_script.specs.declared.op.Op.{Op}
use Rattle.rme_script.specs.Cells.{mask_has_cell, ops_name_cell}
use Rattle.rme_script.specs.Eval.{eval_of}
use Rattle.rme_script.specs.RowAgreement.{RowsAgreeOnNamed}
use Rattle.rme_script.specs.Programs.{Program}
use Rattle.rme_script.specs.Scripts.{IsScript}
use Rattle.rme_script.specs.Slates.{IsSlate, op_from_words, prepend_op, ops_from_words, script_if_read, script_from_words}
use Rattle.rme_script.proofs.Laws.{eval_local}
use Rattle.rme_script.proofs.Lists.{take_stored}
use Rattle.rme_script.proofs.Rising.{has_named}
use Rattle.rme_script.proofs.Slates.{script_slate}
use Rattle.rme_program.specs.Masks.{mask_of}
use Rattle.rme_program.proofs.MaskLemmas.{mask_of-is_mask}
use Rattle.rme_machine.specs.Views.{WorkerWords, slate_script, slate_job, no_script}
use Rattle.rme_machine.specs.Knowledge.{ListsAgreeBelow}
use Rattle.rme_machine.specs.Invariant.{SlateHasJob}

-- The first operations depend only on their own words.
ops_front : (n : ℕ) (words : List ℕ) → ops_from_words n words ≡ ops_from_words n (take (3 * n) words)
ops_front zero words = refl
ops_front (suc n) words = let three : 3 * suc n ≡ suc (suc (suc (3 * n))) = omega arith in rw three (front n words (λ rest. ops_front n rest))
  where
    front : (n : ℕ) (words : List ℕ) → ((rest : List ℕ) → ops_from_words n rest ≡ ops_from_words n (take (3 * n) rest))
        → ops_from_words (suc n) words ≡ ops_from_words (suc n) (take (suc (suc (suc (3 * n)))) words)
    front n [] below = refl
    front n (kind ∷ []) below = refl
    front n (kind ∷ first ∷ []) below = refl
    front n (kind ∷ first ∷ second ∷ words) below = ap (prepend_op (op_from_words kind first second)) (below words)

pub script_same : (n : ℕ) (words others : List ℕ) → take (3 * n) words ≡ take (3 * n) others → script_from_words n words ≡ script_from_words n others
script_same n words others same =
    let ops : ops_from_words n words ≡ ops_from_words n others = ops_front n words ∙ ap (ops_from_words n) same ∙ sym (ops_front n others) in
    ap (λ (found : Option (List Op)). if nat_lt 8 n then None else script_if_read n found) ops

-- One more word is known.
pub words_more : (words others : List ℕ) (loaded x : ℕ) → loaded < length words → loaded < length others → x ≡ slice_index others loaded
    → take loaded words ≡ take loaded others → take (loaded + 1) (slice_set words loaded x) ≡ take (loaded + 1) others
words_more words others loaded x within within_others is same =
    take_stored words others loaded x within (slice_get-get_or others loaded 0 within_others ∙ ap (λ (y : ℕ). Some y) (sym is)) same

-- The script of a pending job.
pub record IsPosted (s : Shape) (own : WorkerWords) (script : Program) : Type 0 where
  pub slate : slate_script own ≡ Some script
  pub job : (slate_job own).script ≡ script
  pub shaped : IsScript s.cells script
  pub counted : script.n ≡ own.slate_len
  pub few : own.slate_len ≤ 8

pub posted : (s : Shape) (own : WorkerWords) → SlateHasJob s own → (script : Program) × IsPosted s own script
posted s own job =
    let is : (slate_job own).script ≡ job.script = ap (λ (found : Option Program). unwrap_or found no_script) job.slate in
    let words : IsSlate own.slate_len own.slate job.script = script_slate own.slate_len own.slate job.script job.slate in
    let counted = words.counted in
    let few = words.script.few in (
      job.script,
      record {
        slate = job.slate;
        job = is;
        shaped = subst (λ (script : Program). IsScript s.cells script) is job.job.script;
        counted = counted;
        few = omega (arith, counted, few);
      },
    )

-- Rows that agree in the named cells get the same values there, and the same reply.
pub left_same : (ops : List Op) (cells : ℕ) (row others : List ℕ) → length row ≡ cells → length others ≡ cells → ListsAgreeBelow (mask_of ops) cells row others
    → ListsAgreeBelow (mask_of ops) cells (eval_of ops row).row (eval_of ops others).row × ((eval_of ops row).reply ≡ (eval_of ops others).reply)
left_same ops cells row others long long_others same =
    let named : (c : ℕ) → mask_has_cell (mask_of ops) c ≡ ops_name_cell ops c = has_named (mask_of ops) ops (mask_of-is_mask ops) in
    let agree : RowsAgreeOnNamed ops row others = record {
      long = long ∙ sym long_others;
      at = λ c t. elim (cases_lt c cells) [
        | inl below ↦ same c below (named c ∙ t)
        | inr past ↦ get_or_past row c 0 (omega (arith, past, long)) ∙ sym (get_or_past others c 0 (omega (arith, past, long_others)))
      ];
    } in
    let left : RowsAgreeOnNamed ops (eval_of ops row).row (eval_of ops others).row × ((eval_of ops row).reply ≡ (eval_of ops others).reply) = eval_local ops row others agree in
    (λ c below t. left.0.at c (sym (named c) ∙ t), left.1)
