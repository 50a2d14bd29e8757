-- A reader of lines reaches an end.
use Rattle.std.proofs.Common.{◌≡◌, ℕ, ◌-◌, Option, Some, None, ◌<◌, ◌≤◌, List, [], length, true, false, refl, sym, ap, ◌∙◌, arith, inl, inr}
use Rattle.std.proofs.lemmas.Bool.{cases_Bool, cases_lt}
use Rattle.std.specs.Io.KnownBytes.{IsAtEnd, prepend_known}
use Rattle.rme_line_io.specs.declared.lines.LineReader.{LineReader}
use Rattle.rme_line_io.specs.Readers.{ReadFailure, NothingRead, ChunkConsumed, bytes_left, most_lines, unread_bytes}

-- the state within a line: some reads were made, and none once a read gave no byte
pub record CameOn {R : Type 0} (old now : LineReader R) (line : List ℕ) : Type 0 where
  pub ended : old.ended ≡ true → NothingRead old now
  pub reads : now.reads ≤ old.reads
  pub most : most_lines now ≤ most_lines old
  pub fewer : 0 < length line → most_lines now < most_lines old

pub came_first : {R : Type 0} (lines : LineReader R) (line : List ℕ) → line ≡ [] → CameOn lines lines line
came_first lines line none = record {
  ended = λ e. record { reader = refl; reads = refl; ended = e };
  reads = omega arith;
  most = omega arith;
  fewer = λ some. absurd (let long : length line ≡ 0 = ap length none in omega (arith, some, long));
}

pub came_no_more : {R : Type 0} (old mid new : LineReader R) → (old.ended ≡ true → NothingRead old mid) → (mid.ended ≡ true → NothingRead mid new) → old.ended ≡ true → NothingRead old new
came_no_more old mid new first then e =
    let a = first e in
    let b = then a.ended in record { reader = b.reader ∙ a.reader; reads = b.reads ∙ a.reads; ended = b.ended }

-- a piece was taken after a byte was present or a read was made
pub takes_fewer : {R : Type 0} (now mid new : LineReader R) → most_lines mid ≤ most_lines now → (mid.end ≤ mid.start → most_lines mid < most_lines now) → ChunkConsumed mid new
    → (mid.start < mid.end → mid.start < new.start) → most_lines new < most_lines now
takes_fewer now mid new most fewer on used =
    elim (cases_lt mid.start mid.end) [
      | inl some ↦ let later = used some in omega (arith, most, later, on.reads, on.end, some)
      | inr none ↦ let less = fewer none in omega (arith, less, on.reads, on.end, on.start, none)
    ]

pub takes_no_more : {R : Type 0} (mid new : LineReader R) → ChunkConsumed mid new → mid.ended ≡ true → NothingRead mid new
takes_no_more mid new on e = record { reader = on.reader; reads = on.reads; ended = on.ended ∙ e }

pub came_more : {R : Type 0} (old now mid new : LineReader R) (line longer : List ℕ) → CameOn old now line → (now.ended ≡ true → NothingRead now mid) → mid.reads ≤ now.reads
    → most_lines mid ≤ most_lines now → (mid.end ≤ mid.start → most_lines mid < most_lines now) → ChunkConsumed mid new → (mid.start < mid.end → mid.start < new.start) → CameOn old new longer
came_more old now mid new line longer came ended reads most fewer on used =
    let less = takes_fewer now mid new most fewer on used in record {
      ended = came_no_more old mid new (came_no_more old now mid came.ended ended) (takes_no_more mid new on);
      reads = omega (arith, came.reads, reads, on.reads);
      most = omega (arith, came.most, less);
      fewer = λ some. omega (arith, came.most, less);
    }

-- a failure within a line is one of the reader
pub came_to_fail : {R : Type 0} (old now new : LineReader R) (line : List ℕ) → CameOn old now line → ReadFailure now new → ReadFailure old new
came_to_fail old now new line came failed =
    record {
      going = elim (cases_Bool old.ended) [
        | inl is ↦ absurd (let on = came.ended is in let bad : true ≡ false = sym on.ended ∙ failed.going in cc)
        | inr not ↦ not
      ];
      made = λ some. let less = failed.made some in omega (arith, came.reads, less);
    }

unread_end : (left : Option (List ℕ)) → IsAtEnd (prepend_known [] (unread_bytes true left))
unread_end None = tt
unread_end (Some bytes) = refl

-- nothing is left of a reader that has ended
pub ended_at_end : {R : Type 0} (remaining : R → Option (List ℕ)) (lines : LineReader R) → lines.ended ≡ true → IsAtEnd (bytes_left remaining lines)
ended_at_end remaining lines e =
    let none : lines.end - lines.start ≡ 0 = let used = lines.used_up e in omega (arith, used) in
    rw (e, none) (unread_end (remaining lines.reader))
