-- What is known of a write that was made is what is asked of the next write of a log.
use Rattle.std.proofs.Common.{◌≡◌, List, ℕ, Result, Ok, Err, IfErr, IsErrAnd, OnOk, subst, sym, arith}
use Rattle.rme_durable_writes.specs.Sealing.{IsSealed, IsWhyNotLines, IsWhyNotSealed, SealerState, new_log}
use Rattle.rme_durable_writes.specs.Writes.{AreWriteLines, write_text}
use Rattle.rme_durable_writes.specs.declared.write_sealer.SealError.{SealError}
use Rattle.rme_durable_writes.specs.declared.write_sealer.SealError.TheVariants.{NoMemory, NotLines, TooMany}

error_why : (log : SealerState) (lines : List ℕ) (error : SealError) → IsWhyNotLines lines error → IsWhyNotSealed log lines error
error_why log lines NoMemory why = why
error_why log lines NotLines why = why
error_why log lines TooMany why = absurd why

pub why_sealed : {A : Type 0} (log : SealerState) (lines : List ℕ) (result : Result A SealError) → IfErr result (IsWhyNotLines lines) → IfErr result (IsWhyNotSealed log lines)
why_sealed log lines (Ok made) why = why
why_sealed log lines (Err error) why = error_why log lines error why

pub why_passed_on : {A : Type 0} (log : SealerState) (lines : List ℕ) (error : SealError) (result : Result A SealError) → IsWhyNotLines lines error → IsErrAnd result (λ passed. passed ≡ error)
    → IfErr result (IsWhyNotSealed log lines)
why_passed_on log lines error (Ok made) why same = absurd same
why_passed_on log lines error (Err passed) why same = subst (IsWhyNotSealed log lines) (sym same) (error_why log lines error why)

pub first_sealed : {A : Type 0} (lines bytes : List ℕ) (result : Result A SealError) → OnOk result (AreWriteLines lines)
    → OnOk result (bytes ≡ write_text 1 record { kept = 0; lines = lines }) → OnOk result (IsSealed new_log lines bytes)
first_sealed lines bytes (Ok made) is are = record { is = record { lines = is; kept = omega arith }; are = are }
first_sealed lines bytes (Err why) is are = is
