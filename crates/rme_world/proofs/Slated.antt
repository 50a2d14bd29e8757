-- The script of a slate has at most as many operations as a job may have.
use Rattle.std.proofs.Common.{ℕ, ◌≤◌, List, inl, inr, arith}
use Rattle.std.specs.Prelude.{Option, Some, None, nat_lt, unwrap_or}
use Rattle.std.proofs.lemmas.Bool.{cases_Bool, ltb-false}
use Rattle.rme_script.specs.declared.op.Op.{Op}
use Rattle.rme_script.specs.Slates.{ops_from_words, script_if_read}
use Rattle.rme_machine.specs.Views.{WorkerWords, no_script, slate_job}

made_short : (n : ℕ) (ops : Option (List Op)) → n ≤ 8 → (unwrap_or (script_if_read n ops) no_script).n ≤ 8
made_short n None few = omega arith
made_short n (Some ops) few = few

pub slate_short : (own : WorkerWords) → (slate_job own).script.n ≤ 8
slate_short own = elim (cases_Bool (nat_lt 8 own.slate_len)) [
  | inl over ↦ rw over (omega arith)
  | inr few ↦ rw few (made_short own.slate_len (ops_from_words own.slate_len own.slate) (ltb-false 8 own.slate_len few))
]
