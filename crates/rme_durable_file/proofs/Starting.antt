-- A server begins with the file that it has read.
use Rattle.std.proofs.Common.{◌≡◌, ℕ, ◌+◌, ◌-◌, ◌^◌, List, [], ◌∷◌, ◌++◌, length, length-append, min, take}
use Rattle.std.proofs.Common.{Option, Some, None, option_map, arith, refl, ap, ◌∙◌}
use Rattle.rme_durable_format.specs.BatchCommands.{crash_commands_from}
use Rattle.rme_durable_format.specs.CommandLines.{AppendsCommands}
use Rattle.rme_durable_epochs.specs.EpochStates.{EpochState}
use Rattle.rme_durable_epochs.specs.declared.recovery.RecoveredState.{RecoveredState}
use Rattle.rme_durable_file.specs.DiskFiles.{CutsAndAppends}
use Rattle.rme_durable_file.specs.Starts.{BeginsFrom, BeginsKnownServer, ReadsKnownState}

take_front : (front behind : List ℕ) → take (length front) (front ++ behind) ≡ front
take_front [] behind = refl
take_front (byte ∷ front) behind = ap (λ (bytes : List ℕ). byte ∷ bytes) (take_front front behind)

-- What a start of a server is made of: the state that was read of a file, the crashes that were appended behind its whole
-- lines, and the executor that begins with it.
pub record StartParts (before after : Option (List ℕ)) (whole : ℕ) (found : RecoveredState) (epoch : EpochState)
    : Type 0 where
  pub crashes : List ℕ
  pub reads : ReadsKnownState before whole found
  pub kept : CutsAndAppends before whole crashes after
  pub begins : BeginsFrom found epoch
  pub written : AppendsCommands found.log.names [] (crash_commands_from 0 found.log.world.privates) crashes
  pub taken : epoch.taken ≡ min (whole + length crashes) (2 ^ 64 - 1)

pub begins_server : (before : Option (List ℕ)) {after : Option (List ℕ)} {whole : ℕ} {found : RecoveredState}
    {epoch : EpochState} → StartParts before after whole found epoch → BeginsKnownServer before found.log.names epoch after
begins_server None parts = tt
begins_server (Some bytes) {after = after} {whole = whole} {found = found} {epoch = epoch} parts =
    let reads = parts.reads in
    let crashes = parts.crashes in
    let (cut, cuts, appends) = parts.kept in
    let long : length (reads.lines ++ crashes) ≡ length reads.lines + length crashes = length-append reads.lines crashes in
    let said : epoch.taken ≡ min (whole + length crashes) (2 ^ 64 - 1) = parts.taken in
    let total : epoch.taken ≡ min (length (reads.lines ++ crashes)) (2 ^ 64 - 1) = omega (arith, said, long, reads.length) in
    let front : take whole bytes ≡ reads.lines =
    ap (λ (n : ℕ). take n bytes) reads.length
    ∙ (ap (λ (all : List ℕ). take (length reads.lines) all) reads.are.are ∙ take_front reads.lines reads.are.torn) in
    let all : after ≡ Some (reads.lines ++ crashes) =
    appends
    ∙ (ap (λ (o : Option (List ℕ)). option_map (λ (kept : List ℕ). kept ++ crashes) o) cuts
    ∙ ap (λ (kept : List ℕ). Some (kept ++ crashes)) front) in (
      reads.lines ++ crashes,
      all,
      record {
        whole = whole;
        found = found;
        reads = reads;
        names_are = refl;
        begins = parts.begins;
        crashes = crashes;
        written = parts.written;
        after_is = refl;
        taken = total;
      },
    )
