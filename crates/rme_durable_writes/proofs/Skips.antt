-- The bytes behind the first line.
use Rattle.std.proofs.Common.{◌≡◌, ℕ, zero, suc, ◌+◌, ◌-◌, List, Option, Some, None, length, take, drop, refl, sym, ap, subst, ◌∙◌}
use Rattle.std.proofs.lemmas.List.{take_rest}
use Rattle.memchr.specs.Find.{IsFirstByte, is_byte}
use Rattle.rme_durable_writes.specs.Reading.{IsKeptAfter, IsKeptByFirst, IsKeptWithin, SkipsLine}
use Rattle.rme_durable_writes.proofs.Marks.{first_same}
use Rattle.rme_durable_writes.proofs.Options.{none_some, some_same}

-- What stands behind a place, as a slice has it.
abbrev pub behind : List ℕ → ℕ → List ℕ
behind bytes at = take (length bytes - (at + 1)) (drop (at + 1) bytes)

pub behind_is : (bytes : List ℕ) (at : ℕ) → behind bytes at ≡ drop (at + 1) bytes
behind_is bytes at = take_rest bytes (at + 1)

pub no_line : (bytes rest : List ℕ) (found : Option ℕ) → found ≡ None → IsFirstByte (is_byte 10) bytes found → SkipsLine bytes rest → ⊥
no_line bytes rest found none ends skips = none_some found none (first_same _ _ _ found (Some skips.end) ends skips.ends)

pub skips_there : (bytes : List ℕ) (end : ℕ) → IsFirstByte (is_byte 10) bytes (Some end) → SkipsLine bytes (behind bytes end)
skips_there bytes end ends = record { end = end; ends = ends; are = behind_is bytes end }

-- The bytes after the first line are determined.
pub skips_same : (bytes one other : List ℕ) → SkipsLine bytes one → SkipsLine bytes other → one ≡ other
skips_same bytes one other a b =
    let ends : a.end ≡ b.end = some_same (Some a.end) refl (first_same _ _ _ (Some a.end) (Some b.end) a.ends b.ends) in
    a.are ∙ ap (λ (n : ℕ). drop (n + 1) bytes) ends ∙ sym b.are

-- If the first line does not tell that a write was kept, a line after it does.
kept_after : (count : ℕ) (bytes rest : List ℕ) (number : ℕ) → SkipsLine bytes rest → (IsKeptByFirst bytes number → ⊥) → IsKeptAfter count bytes number → IsKeptWithin rest number
kept_after zero bytes rest number skips none after = absurd (none after)
kept_after (suc count) bytes rest number skips none after =
    (count, subst (λ (all : List ℕ). IsKeptAfter count all number) (skips_same bytes after.0 rest after.1 skips) after.2)

pub kept_behind : (bytes rest : List ℕ) (number : ℕ) → SkipsLine bytes rest → (IsKeptByFirst bytes number → ⊥) → IsKeptWithin bytes number → IsKeptWithin rest number
kept_behind bytes rest number skips none within = kept_after within.0 bytes rest number skips none within.1

pub kept_before : (bytes rest : List ℕ) (number : ℕ) → SkipsLine bytes rest → IsKeptWithin rest number → IsKeptWithin bytes number
kept_before bytes rest number skips within = (suc within.0, (rest, skips, within.1))

-- Without a line nothing tells it.
kept_nowhere : (count : ℕ) (bytes : List ℕ) (number : ℕ) → ((rest : List ℕ) → SkipsLine bytes rest → ⊥) → (IsKeptByFirst bytes number → ⊥) → IsKeptAfter count bytes number → ⊥
kept_nowhere zero bytes number none first after = first after
kept_nowhere (suc count) bytes number none first after = none after.0 after.1

pub not_kept : (bytes : List ℕ) (number : ℕ) → ((rest : List ℕ) → SkipsLine bytes rest → ⊥) → (IsKeptByFirst bytes number → ⊥) → IsKeptWithin bytes number → ⊥
not_kept bytes number none first within = kept_nowhere within.0 bytes number none first within.1
