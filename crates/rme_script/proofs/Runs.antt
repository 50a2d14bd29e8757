-- The loop of `eval`: running the remaining operations on the row so far has the result of running all of them.
use Rattle.std.proofs.Common.{◌≡◌, ℕ, ◌+◌, ◌≤◌, false, Some, List, length, get_or, drop, slice_get, subst, sym, ap, ◌∙◌}
use Rattle.std.proofs.lemmas.List.{drop_all}
use Rattle.rme_script.specs.declared.op.Op.{Op}
use Rattle.rme_script.specs.Cells.{ops_name_cell}
use Rattle.rme_script.specs.Eval.{op_row, op_value, RunResult, run_ops_from, eval_of}
use Rattle.rme_script.specs.RowAgreement.{RowsAgreeOnNamed}
use Rattle.rme_script.proofs.Lists.{drop_at}
use Rattle.rme_script.proofs.Laws.{op_row_length, eval_unnamed, eval_local}

pub record Going (ops : List Op) (start : List ℕ) (i : ℕ) (row : List ℕ) (reply : ℕ) : Type 0 where
  pub same : run_ops_from record { row = row; reply = reply } (drop i ops) ≡ eval_of ops start
  pub long : length row ≡ length start

pub going_next : (ops : List Op) (start : List ℕ) (i : ℕ) (o : Op) (row new : List ℕ) (reply value : ℕ) → slice_get ops i ≡ Some o → new ≡ op_row o row → value ≡ op_value o row → Going ops start i row reply → Going ops start (i + 1) new value
unfolding run_ops_from
going_next ops start i o row new reply value here r v g =
    let step : run_ops_from record { row = row; reply = reply } (drop i ops) ≡ run_ops_from record { row = op_row o row; reply = op_value o row } (drop (i + 1) ops) = ap (λ (os : List Op). run_ops_from record { row = row; reply = reply } os) (drop_at ops i o here) in
    let now : run_ops_from record { row = new; reply = value } (drop (i + 1) ops) ≡ run_ops_from record { row = op_row o row; reply = op_value o row } (drop (i + 1) ops) = ap (λ (s : List ℕ). run_ops_from record { row = s; reply = value } (drop (i + 1) ops)) r ∙ ap (λ (x : ℕ). run_ops_from record { row = op_row o row; reply = x } (drop (i + 1) ops)) v in
    record { same = now ∙ sym step ∙ g.same; long = ap (λ (s : List ℕ). length s) r ∙ op_row_length o row ∙ g.long }

pub going_end : (ops : List Op) (start : List ℕ) (i : ℕ) (row : List ℕ) (reply : ℕ) → length ops ≤ i → Going ops start i row reply → eval_of ops start ≡ record { row = row; reply = reply }
unfolding run_ops_from
going_end ops start i row reply past g =
    sym g.same ∙ ap (λ (os : List Op). run_ops_from record { row = row; reply = reply } os) (drop_all i ops past)

-- The laws of a run with this row and this reply as its result.
module _ (ops : List Op) (start row : List ℕ) (reply : ℕ) (ended : eval_of ops start ≡ record { row = row; reply = reply }) where
  pub ended_unnamed : (c : ℕ) → ops_name_cell ops c ≡ false → get_or row c 0 ≡ get_or start c 0
  ended_unnamed c h = sym (ap (λ (ran : RunResult). get_or ran.row c 0) ended) ∙ eval_unnamed ops start c h

  pub ended_local : (other : List ℕ) → RowsAgreeOnNamed ops start other → RowsAgreeOnNamed ops row ((eval_of ops other).row) × (reply ≡ (eval_of ops other).reply)
  ended_local other a =
      let P : RunResult → Type 0 = λ ran. RowsAgreeOnNamed ops ran.row ((eval_of ops other).row) × (ran.reply ≡ (eval_of ops other).reply) in
      subst P ended (eval_local ops start other a)
