-- A record adds just its lines to those of a log; what was read are the lines of a log.
use Rattle.std.proofs.Common.{◌≡◌, ℕ, suc, ◌≤◌, List, [], ◌∷◌, ◌++◌, length, Option, Some, None, option_map, refl, sym, ap, subst, ◌∙◌, arith, inl, inr}
use Rattle.std.proofs.lemmas.List.{append-nil, length-append, take_all}
use Rattle.rme_durable_writes.specs.Reading.{ReadsWrites}
use Rattle.rme_durable_writes.specs.Writes.{IsWrite, Write, write_text, writes_text}
use Rattle.rme_durable_file.specs.DiskFiles.{AppendsPartToFile, AppendsToFile, CutsFile, ReplacesFile}
use Rattle.rme_replica_state.specs.SealedLogs.{AreLogBytes, IsNextRecord, plain_lines}
use Rattle.rme_replica_state.specs.LogStates.{HasLinesWithin, IsLogOf, log_lines}
use Rattle.rme_replica_state.proofs.Plain.{first_lines, lines_grow, log_begins, log_grows, log_lines_are}

record_grows : (number next : ℕ) (bytes lines added : List ℕ) → AreLogBytes number bytes → IsNextRecord number lines added next
    → (plain_lines (bytes ++ added) ≡ plain_lines bytes ++ lines) × AreLogBytes next (bytes ++ added)
record_grows number next bytes lines added log (inl none) =
    let same : bytes ++ added ≡ bytes = ap (λ (more : List ℕ). bytes ++ more) none.are ∙ append-nil bytes in
    let grown : plain_lines (bytes ++ added) ≡ plain_lines bytes ++ lines =
    ap (λ (all : List ℕ). plain_lines all) same ∙ (sym (append-nil (plain_lines bytes)) ∙ ap (λ (more : List ℕ). plain_lines bytes ++ more) (sym none.no_lines)) in
    (grown, subst (λ (all : List ℕ). AreLogBytes next all) (sym same) (subst (λ (n : ℕ). AreLogBytes n bytes) (sym none.next_is) log))
record_grows number next bytes lines added log (inr made) =
    let same : bytes ++ added ≡ bytes ++ write_text (suc number) made.write = ap (λ (more : List ℕ). bytes ++ more) made.are in
    let grown : plain_lines (bytes ++ added) ≡ plain_lines bytes ++ lines =
    ap (λ (all : List ℕ). plain_lines all) same ∙ (lines_grow number bytes made.write log made.is ∙ ap (λ (more : List ℕ). plain_lines bytes ++ more) made.lines_are) in
    let all : AreLogBytes (suc number) (bytes ++ added) = subst (λ (all : List ℕ). AreLogBytes (suc number) all) (sym same) (log_grows number bytes made.write log made.is) in
    (grown, subst (λ (n : ℕ). AreLogBytes n (bytes ++ added)) (sym made.next_is) all)

-- A record was added to a log.
pub lines_added : (number next : ℕ) (before after : Option (List ℕ)) (lines added : List ℕ) → IsLogOf before number → IsNextRecord number lines added next
    → after ≡ option_map (λ (bytes : List ℕ). bytes ++ added) before → AppendsToFile (log_lines before) lines (log_lines after)
lines_added number next None after lines added log made grows = ap (λ (all : Option (List ℕ)). log_lines all) grows
lines_added number next (Some bytes) after lines added log made grows =
    ap (λ (all : Option (List ℕ)). log_lines all) grows ∙ ap (λ (all : List ℕ). Some all) (record_grows number next bytes lines added log made).0

pub log_added : (number next : ℕ) (before after : Option (List ℕ)) (lines added : List ℕ) → IsLogOf before number → IsNextRecord number lines added next
    → after ≡ option_map (λ (bytes : List ℕ). bytes ++ added) before → IsLogOf after next
log_added number next None after lines added log made grows = subst (λ (all : Option (List ℕ)). IsLogOf all next) (sym grows) tt
log_added number next (Some bytes) after lines added log made grows =
    subst (λ (all : Option (List ℕ)). IsLogOf all next) (sym grows) (record_grows number next bytes lines added log made).1

-- No part of any lines was added.
pub part_none : (before after : Option (List ℕ)) (lines : List ℕ) → after ≡ before → AppendsPartToFile before lines after
part_none before after lines same = (0, same ∙ nothing_added before)
  where
    nothing_added : (bytes : Option (List ℕ)) → bytes ≡ option_map (λ (all : List ℕ). all ++ []) bytes
    nothing_added None = refl
    nothing_added (Some bytes) = ap (λ (all : List ℕ). Some all) (sym (append-nil bytes))

-- A log was replaced by one write.
pub lines_replaced : (before after : Option (List ℕ)) (write : Write) (added : List ℕ) → IsWrite write → added ≡ write_text 1 write → after ≡ option_map (λ (_ : List ℕ). added) before
    → ReplacesFile (log_lines before) write.lines (log_lines after)
lines_replaced None after write added is are replaced = ap (λ (all : Option (List ℕ)). log_lines all) replaced
lines_replaced (Some bytes) after write added is are replaced =
    ap (λ (all : Option (List ℕ)). log_lines all) replaced ∙ ap (λ (all : List ℕ). Some all) (ap (λ (all : List ℕ). plain_lines all) are ∙ first_lines write is)

pub log_replaced : (before after : Option (List ℕ)) (write : Write) (added : List ℕ) → IsWrite write → added ≡ write_text 1 write → after ≡ option_map (λ (_ : List ℕ). added) before
    → IsLogOf after 1
log_replaced None after write added is are replaced = subst (λ (all : Option (List ℕ)). IsLogOf all 1) (sym replaced) tt
log_replaced (Some bytes) after write added is are replaced =
    subst (λ (all : Option (List ℕ)). IsLogOf all 1) (sym replaced) (subst (λ (all : List ℕ). AreLogBytes 1 all) (sym are) (log_begins write is))

-- Lines that are all within a length are not cut.
pub nothing_cut : (bytes : Option (List ℕ)) (most length : ℕ) → HasLinesWithin bytes most → most ≤ length → CutsFile (log_lines bytes) length (log_lines bytes)
nothing_cut None most length within few = refl
nothing_cut (Some bytes) most length within few = ap (λ (all : List ℕ). Some all) (sym (take_all length (plain_lines bytes) (omega (arith, within, few))))

-- What was read of all bytes.
none_behind : (front behind : List ℕ) → length (front ++ behind) ≡ length front → behind ≡ []
none_behind front [] same = refl
none_behind front (byte ∷ behind) same = absurd (omega (arith, same, length-append front (byte ∷ behind)))

read_whole : (bytes lines : List ℕ) (long number kept : ℕ) → (reads : ReadsWrites bytes lines long number kept) → long ≡ length bytes → bytes ≡ writes_text 1 reads.writes
read_whole bytes lines long number kept reads whole =
    let same : length (writes_text 1 reads.writes ++ reads.are.rest) ≡ length (writes_text 1 reads.writes) = ap (λ (all : List ℕ). length all) (sym reads.are.are) ∙ (sym whole ∙ reads.are.long) in
    let none : reads.are.rest ≡ [] = none_behind (writes_text 1 reads.writes) reads.are.rest same in
    reads.are.are ∙ (ap (λ (behind : List ℕ). writes_text 1 reads.writes ++ behind) none ∙ append-nil (writes_text 1 reads.writes))

pub read_lines : (bytes lines : List ℕ) (long number kept : ℕ) → (reads : ReadsWrites bytes lines long number kept) → long ≡ length bytes → lines ≡ plain_lines bytes
read_lines bytes lines long number kept reads whole =
    reads.lines_are ∙ sym (ap (λ (all : List ℕ). plain_lines all) (read_whole bytes lines long number kept reads whole) ∙ log_lines_are reads.writes reads.are.all)

pub read_log : (bytes lines : List ℕ) (long number kept : ℕ) → (reads : ReadsWrites bytes lines long number kept) → long ≡ length bytes → AreLogBytes number bytes
read_log bytes lines long number kept reads whole = record {
  writes = reads.writes;
  are = read_whole bytes lines long number kept reads whole;
  all = reads.are.all;
  counted = sym reads.number_is;
}
