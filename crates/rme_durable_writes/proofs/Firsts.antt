-- A write at the front of some bytes is found there.
use Rattle.std.proofs.Common.{◌≡◌, ℕ, ◌+◌, ◌<◌, ◌≤◌, List, [], ◌∷◌, ◌++◌, Option, Some, codes, length, get_or, take, drop, refl, sym, ap, ap₂, subst, ◌∙◌, arith, rules}
use Rattle.std.proofs.lemmas.List.{append_assoc, length-append, take_at, take-append-drop, take_more, get_or-take}
use Rattle.std.proofs.Math.Seq.{drop-append_seam}
use Rattle.memchr.specs.Find.{FindsNeedle}
use Rattle.rme_durable_writes.specs.Writes.{AreWriteLines, IsWrite, Write, sum_front, sum_line, sum_mark, sum_text, write_text}
use Rattle.rme_durable_writes.specs.declared.sum_line.SumFront.{SumFront}
use Rattle.rme_durable_writes.proofs.Marks.{mark_behind}
use Rattle.rme_durable_writes.proofs.Options.{some_same}

-- The text of a last line after its front.
abbrev pub behind_front : ℕ → Write → List ℕ → List ℕ
behind_front number write rest = (sum_text write.kept number write.lines ++ codes "\"}\n") ++ rest

module _ (bytes rest : List ℕ) (number : ℕ) (write : Write) (is : IsWrite write) (are : bytes ≡ write_text number write ++ rest) where
  parts : bytes ≡ write.lines ++ (sum_line write.kept number write.lines ++ rest)
  parts = are ∙ append_assoc write.lines (sum_line write.kept number write.lines) rest

  pub mark_found : (found : Option ℕ) → FindsNeedle bytes sum_mark 0 found → found ≡ Some (length is.lines.front)
  mark_found found finds =
      mark_behind write.lines (sum_line write.kept number write.lines ++ rest) _ found is.lines refl (subst (λ (all : List ℕ). FindsNeedle all sum_mark 0 found) parts finds)

  long : (at : ℕ) → at ≡ length is.lines.front → length write.lines ≡ at + 1
  long at there =
      let whole : length write.lines ≡ length (is.lines.front ++ 10 ∷ []) = ap (λ (all : List ℕ). length all) is.lines.whole in
      omega (arith, whole, there, length-append is.lines.front (10 ∷ []))

  pub lines_found : (at : ℕ) → at ≡ length is.lines.front → take (at + 1) bytes ≡ write.lines
  lines_found at there = ap (λ (all : List ℕ). take (at + 1) all) parts ∙ take_at write.lines (sum_line write.kept number write.lines ++ rest) (at + 1) (long at there)

  pub tail_found : (at : ℕ) → at ≡ length is.lines.front → drop (at + 1) bytes ≡ sum_line write.kept number write.lines ++ rest
  tail_found at there =
      ap (λ (n : ℕ). drop n bytes) (sym (long at there)) ∙ ap (λ (all : List ℕ). drop (length write.lines) all) parts ∙ drop-append_seam write.lines (sum_line write.kept number write.lines ++ rest)

  pub front_found : (at : ℕ) → at ≡ length is.lines.front → drop (at + 1) bytes ≡ sum_front write.kept number ++ behind_front number write rest
  front_found at there = tail_found at there ∙ append_assoc (sum_front write.kept number) (sum_text write.kept number write.lines ++ codes "\"}\n") rest

-- The lines of a write and what stands behind them, in bytes that are parted behind the first mark.
pub record WriteParts (number : ℕ) (write : Write) (rest lines tail : List ℕ) : Type 0 where
  pub lines_are : lines ≡ write.lines
  pub tail_is : tail ≡ sum_line write.kept number write.lines ++ rest
  pub front_is : tail ≡ sum_front write.kept number ++ behind_front number write rest

module _ (bytes rest : List ℕ) (number : ℕ) (write : Write) (is : IsWrite write) (are : bytes ≡ write_text number write ++ rest) (mark : List ℕ) (mark_is : mark ≡ sum_mark) (found : Option ℕ) (finds : FindsNeedle bytes mark 0 found) where
  pub mark_there : found ≡ Some (length is.lines.front)
  mark_there = mark_found bytes rest number write is are found (subst (λ (needle : List ℕ). FindsNeedle bytes needle 0 found) mark_is finds)

  pub parts_there : (at : ℕ) → found ≡ Some at → (lines tail : List ℕ) → lines ≡ take (at + 1) bytes → tail ≡ drop (at + 1) bytes → WriteParts number write rest lines tail
  parts_there at there lines tail front back =
      let place = some_same found there mark_there in record {
        lines_are = front ∙ lines_found bytes rest number write is are at place;
        tail_is = back ∙ tail_found bytes rest number write is are at place;
        front_is = back ∙ front_found bytes rest number write is are at place;
      }

-- The last line that belongs to these lines is the one that stands behind them.
pub line_there : (number : ℕ) (write : Write) (rest lines tail line : List ℕ) (front : SumFront) → WriteParts number write rest lines tail → front ≡ record { kept = write.kept; number = number }
    → line ≡ sum_line front.kept front.number lines → tail ≡ line ++ rest
line_there number write rest lines tail line front parts front_is line_is =
    let same : line ≡ sum_line write.kept number write.lines = line_is ∙ ap₂ (λ (f : SumFront) (l : List ℕ). sum_line f.kept f.number l) front_is parts.lines_are in
    parts.tail_is ∙ ap (λ (l : List ℕ). l ++ rest) (sym same)

-- What stands before the first mark, with its newline, are lines of a write.
pub are_write_lines : (bytes : List ℕ) (at : ℕ) → FindsNeedle bytes sum_mark 0 (Some at) → AreWriteLines (take (at + 1) bytes)
are_write_lines bytes at finds =
    let zero_on : at ≡ at + 0 = omega arith in
    let newline : get_or bytes at 0 ≡ 10 = ap (λ (n : ℕ). get_or bytes n 0) zero_on ∙ finds.1.reads 0 (omega arith) in
    let fits = finds.1.fits in record {
      front = take at bytes;
      whole = take_more bytes at 0 (omega (arith, fits)) ∙ ap (λ (byte : ℕ). take at bytes ++ byte ∷ []) newline;
      plain = λ k occurs.
          let inside = occurs.fits in
          let cut : length (take (at + 1) bytes) ≤ at + 1 = search rules in
          let reads : (j : ℕ) → j < length sum_mark → get_or bytes (k + j) 0 ≡ get_or sum_mark j 0 =
          λ j below. sym (get_or-take (at + 1) bytes (k + j) 0 (omega (arith, inside, cut, below))) ∙ occurs.reads j below in
          finds.0.before k (omega arith) (omega (arith, inside, cut)) (record { fits = omega (arith, inside, cut, fits); reads = reads });
    }

-- A last line behind the lines that it is of makes a write of them.
pub write_there : (bytes lines tail line : List ℕ) (at kept number : ℕ) → lines ≡ take (at + 1) bytes → tail ≡ drop (at + 1) bytes → line ≡ sum_line kept number lines → tail ≡ line ++ drop (length line) tail
    → bytes ≡ write_text number (record { kept = kept; lines = lines }) ++ drop (length line) tail
write_there bytes lines tail line at kept number front back is begins =
    let rest = drop (length line) tail in
    let all : bytes ≡ lines ++ tail = sym (take-append-drop (at + 1) bytes) ∙ sym (ap₂ (λ (one other : List ℕ). one ++ other) front back) in
    let closed : lines ++ tail ≡ lines ++ (sum_line kept number lines ++ rest) = ap (λ (text : List ℕ). lines ++ text) (begins ∙ ap (λ (text : List ℕ). text ++ rest) is) in
    all ∙ closed ∙ sym (append_assoc lines (sum_line kept number lines) rest)
