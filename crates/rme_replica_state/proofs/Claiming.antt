-- A log that was claimed, or that was read and is to be claimed.
use Rattle.std.proofs.Common.{◌≡◌, ℕ, Bool, true, false, List, length, Option, Some, None, is_some, arith, sym, ap, subst, ◌∙◌}
use Rattle.rme_durable_file.specs.DiskFiles.{AreFileBytes}
use Rattle.rme_durable_writes.specs.Reading.{ReadsWrites}
use Rattle.rme_replica_state.specs.SealedLogs.{AreLogBytes, plain_lines}
use Rattle.rme_replica_state.specs.LogStates.{HasLinesWithin, IsLogOf, IsStateOfLog, WereLinesRead, log_lines}
use Rattle.rme_replica_state.specs.declared.replica_state.FoundLog.{FoundLog}
use Rattle.rme_replica_state.proofs.Adding.{read_lines, read_log}

pub claimed : (found : Option FoundLog) (owns : Bool) (bytes : Option (List ℕ)) (number : ℕ) → is_some found ≡ false → IsStateOfLog found owns bytes number → owns ≡ true → IsLogOf bytes number
claimed None owns bytes number none state = state
claimed (Some found) owns bytes number none state = cc

pub stays_claimed : (found : Option FoundLog) (owns : Bool) (bytes : Option (List ℕ)) (number : ℕ) → is_some found ≡ false → (owns ≡ true → IsLogOf bytes number) → IsStateOfLog found owns bytes number
stays_claimed None owns bytes number none log = log
stays_claimed (Some found) owns bytes number none log = cc

-- Once the lines were read, what is to be claimed is a log.
were_read : (most : Option ℕ) (bytes : Option (List ℕ)) (number : ℕ) → is_some most ≡ true → WereLinesRead most bytes number → IsLogOf bytes number
were_read None bytes number read log = cc
were_read (Some most) bytes number read log = log.0

pub to_claim : (found : FoundLog) (state : Option FoundLog) (owns : Bool) (bytes : Option (List ℕ)) (number : ℕ) → state ≡ Some found → is_some found.lines ≡ true → IsStateOfLog state owns bytes number → IsLogOf bytes number
to_claim found state owns bytes number is read inside =
    let known : IsStateOfLog (Some found) owns bytes number = subst (λ (f : Option FoundLog). IsStateOfLog f owns bytes number) is inside in
    were_read found.lines bytes number read known.1

-- Its lines are those that were read.
pub found_lines : (bytes : Option (List ℕ)) (found lines : List ℕ) (long number kept : ℕ) → AreFileBytes bytes found → ReadsWrites found lines long number kept → long ≡ length found → AreFileBytes (log_lines bytes) lines
found_lines None found lines long number kept are reads whole = tt
found_lines (Some bytes) found lines long number kept are reads whole = read_lines found lines long number kept reads whole ∙ ap (λ (all : List ℕ). plain_lines all) are

pub found_log : (bytes : Option (List ℕ)) (found lines : List ℕ) (long number kept : ℕ) → AreFileBytes bytes found → ReadsWrites found lines long number kept → long ≡ length found → IsLogOf bytes number
found_log None found lines long number kept are reads whole = tt
found_log (Some bytes) found lines long number kept are reads whole = subst (λ (all : List ℕ). AreLogBytes number all) are (read_log found lines long number kept reads whole)

pub found_within : (bytes : Option (List ℕ)) (found lines : List ℕ) (long number kept most : ℕ) → AreFileBytes bytes found → ReadsWrites found lines long number kept → long ≡ length found → most ≡ length lines → HasLinesWithin bytes most
found_within None found lines long number kept most are reads whole full = tt
found_within (Some bytes) found lines long number kept most are reads whole full =
    let same : lines ≡ plain_lines bytes = found_lines (Some bytes) found lines long number kept are reads whole in
    let long : length lines ≡ length (plain_lines bytes) = ap (λ (all : List ℕ). length all) same in
    omega (arith, full, long)

pub now_claimed : (found : Option FoundLog) (owns : Bool) (bytes : Option (List ℕ)) (number : ℕ) → found ≡ None → IsLogOf bytes number → IsStateOfLog found owns bytes number
now_claimed found owns bytes number none log = subst (λ (f : Option FoundLog). IsStateOfLog f owns bytes number) (sym none) (λ owner. log)
