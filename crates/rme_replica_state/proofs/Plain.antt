-- The lines among the bytes of writes are the lines of the writes.
use Rattle.std.proofs.Common.{◌≡◌, ℕ, zero, suc, ◌+◌, ◌-◌, ◌/◌, ◌%◌, ◌<◌, ◌==◌, Bool, true, false, not, nat_lt, if◌then◌else◌, List, [], ◌∷◌, ◌++◌, length, min, get_or, take, drop, codes, decimal, refl, sym, ap, ap₂, subst, ◌∙◌, arith, inl, inr}
use Rattle.std.specs.Fmt.{digit_glyph, digits, digits_onto}
use Rattle.std.specs.Int.{w32, to_be_bytes}
use Rattle.std.proofs.lemmas.Bool.{cases_Bool, cases_lt, ne_eqb}
use Rattle.std.proofs.Math.Seq.{get_or-append_seam}
use Rattle.std.proofs.lemmas.Slice.Eq.{bytes_eq-Decides}
use Rattle.std.proofs.lemmas.List.{append_assoc, append-nil, get_or-take, get_or_append_left, length-append, length-take}
use Rattle.hex.specs.Hex.{encode_lower, encode_with, lower_digits}
use Rattle.memchr.specs.Find.{OccursAt}
use Rattle.rme_durable_writes.specs.Checksums.{crc32c}
use Rattle.rme_durable_writes.specs.Writes.{AreWrites, IsWrite, Write, sum_front, sum_line, sum_mark, sum_text, write_text, writes_lines, writes_text}
use Rattle.rme_replica_state.specs.SealedLogs.{AreLogBytes, begins_sum, lines_from, plain_lines}

-- ---- bytes within a last line

-- Bytes within a last line that are skipped.
abbrev pub Skipped : List ℕ → Type 0
Skipped bytes = (rest : List ℕ) → lines_from true (bytes ++ rest) ≡ lines_from true rest

skip_byte : (byte : ℕ) (bytes : List ℕ) → (byte ≡ 10 → ⊥) → Skipped bytes → Skipped (byte ∷ bytes)
skip_byte byte bytes other skipped rest =
    ap (λ (is : Bool). lines_from (not is) (bytes ++ rest)) (ne_eqb byte 10 other) ∙ skipped rest

skip_both : (one other : List ℕ) → Skipped one → Skipped other → Skipped (one ++ other)
skip_both one other a b rest = ap (λ (bytes : List ℕ). lines_from true bytes) (append_assoc one other rest) ∙ (a (other ++ rest) ∙ b rest)

-- No digit of a number is a newline.
glyph_other : (digit : ℕ) → digit_glyph false digit ≡ 10 → ⊥
glyph_other digit is =
    let Is : Bool → Type 0 = λ (low : Bool). (if low then 48 + digit else 87 + digit) ≡ 10 in
    elim (cases_Bool (nat_lt digit 10)) [
      | inl low ↦ let same : 48 + digit ≡ 10 = subst Is low is in omega (arith, same)
      | inr high ↦ let same : 87 + digit ≡ 10 = subst Is high is in omega (arith, same)
    ]

skip_onto : (count number : ℕ) (behind : List ℕ) → Skipped behind → Skipped (digits_onto count 10 false number behind)
skip_onto zero number behind skipped = skipped
skip_onto (suc count) number behind skipped =
    let glyph = digit_glyph false (number % 10) in
    let next : Skipped (glyph ∷ behind) = skip_byte glyph behind (glyph_other (number % 10)) skipped in
    elim (cases_Bool (number / 10 == 0)) [
      | inl last ↦ rw last next
      | inr more ↦ rw more (skip_onto count (number / 10) (glyph ∷ behind) next)
    ]

skip_decimal : (number : ℕ) → Skipped (decimal number)
unfolding digits
skip_decimal number = skip_onto 64 number [] (λ rest. refl)

-- Nor is a hexadecimal digit.
digit_other : (n : ℕ) → get_or lower_digits n 0 ≡ 10 → ⊥
digit_other zero is = omega (arith, is)
digit_other (suc zero) is = omega (arith, is)
digit_other (suc (suc zero)) is = omega (arith, is)
digit_other (suc (suc (suc zero))) is = omega (arith, is)
digit_other (suc (suc (suc (suc zero)))) is = omega (arith, is)
digit_other (suc (suc (suc (suc (suc zero))))) is = omega (arith, is)
digit_other (suc (suc (suc (suc (suc (suc zero)))))) is = omega (arith, is)
digit_other (suc (suc (suc (suc (suc (suc (suc zero))))))) is = omega (arith, is)
digit_other (suc (suc (suc (suc (suc (suc (suc (suc zero)))))))) is = omega (arith, is)
digit_other (suc (suc (suc (suc (suc (suc (suc (suc (suc zero))))))))) is = omega (arith, is)
digit_other (suc (suc (suc (suc (suc (suc (suc (suc (suc (suc zero)))))))))) is = omega (arith, is)
digit_other (suc (suc (suc (suc (suc (suc (suc (suc (suc (suc (suc zero))))))))))) is = omega (arith, is)
digit_other (suc (suc (suc (suc (suc (suc (suc (suc (suc (suc (suc (suc zero)))))))))))) is = omega (arith, is)
digit_other (suc (suc (suc (suc (suc (suc (suc (suc (suc (suc (suc (suc (suc zero))))))))))))) is = omega (arith, is)
digit_other (suc (suc (suc (suc (suc (suc (suc (suc (suc (suc (suc (suc (suc (suc zero)))))))))))))) is = omega (arith, is)
digit_other (suc (suc (suc (suc (suc (suc (suc (suc (suc (suc (suc (suc (suc (suc (suc zero))))))))))))))) is = omega (arith, is)
digit_other (suc (suc (suc (suc (suc (suc (suc (suc (suc (suc (suc (suc (suc (suc (suc (suc n)))))))))))))))) is = omega (arith, is)

skip_hex : (bytes : List ℕ) → Skipped (encode_lower bytes)
unfolding encode_with
skip_hex [] = λ rest. refl
skip_hex (byte ∷ bytes) =
    let low : Skipped (get_or lower_digits (byte % 16) 0 ∷ encode_lower bytes) = skip_byte (get_or lower_digits (byte % 16) 0) (encode_lower bytes) (digit_other (byte % 16)) (skip_hex bytes) in
    skip_byte (get_or lower_digits (byte / 16) 0) (get_or lower_digits (byte % 16) 0 ∷ encode_lower bytes) (digit_other (byte / 16)) low

-- ---- the mark

here : (byte : ℕ) (bytes : List ℕ) → begins_sum (byte ∷ bytes) ≡ true → OccursAt (byte ∷ bytes) sum_mark 0
here byte bytes begins =
    let same : take 9 (byte ∷ bytes) ≡ sum_mark = (bytes_eq-Decides (take 9 (byte ∷ bytes)) sum_mark).0 begins in
    let long : length (take 9 (byte ∷ bytes)) ≡ 9 = ap (λ (l : List ℕ). length l) same in
    let most : length (take 9 (byte ∷ bytes)) ≡ min 9 (length (byte ∷ bytes)) = length-take 9 (byte ∷ bytes) in record {
      fits = omega (arith, long, most);
      reads = λ j below.
          let at : 0 + j ≡ j = omega arith in
          ap (λ (n : ℕ). get_or (byte ∷ bytes) n 0) at ∙ (sym (get_or-take 9 (byte ∷ bytes) j 0 below) ∙ ap (λ (l : List ℕ). get_or l j 0) same);
    }

shifted : (byte : ℕ) (bytes : List ℕ) (at : ℕ) → OccursAt bytes sum_mark at → OccursAt (byte ∷ bytes) sum_mark (suc at)
shifted byte bytes at occurs = record {
  fits = omega (arith, occurs.fits);
  reads = λ j below.
      let on : suc at + j ≡ suc (at + j) = omega arith in
      ap (λ (n : ℕ). get_or (byte ∷ bytes) n 0) on ∙ occurs.reads j below;
}

-- Lines before the first mark are copied, and what follows it is skipped.
copied : (front more : List ℕ) → ((at : ℕ) → at < length front → OccursAt (front ++ (sum_mark ++ more)) sum_mark at → ⊥)
    → lines_from false (front ++ (sum_mark ++ more)) ≡ front ++ 10 ∷ lines_from true (codes "{\"kept\":" ++ more)
copied [] more none = refl
copied (byte ∷ front) more none =
    let rest = front ++ (sum_mark ++ more) in
    let later : lines_from false rest ≡ front ++ 10 ∷ lines_from true (codes "{\"kept\":" ++ more) =
    copied front more (λ at below occurs. none (suc at) (omega (arith, below)) (shifted byte rest at occurs)) in
    elim (cases_Bool (begins_sum (byte ∷ rest))) [
      | inl is ↦ absurd (none 0 (omega arith) (here byte rest is))
      | inr isnt ↦ ap (λ (begins : Bool). byte ∷ lines_from begins rest) isnt ∙ ap (λ (lines : List ℕ). byte ∷ lines) later
    ]

-- ---- a write

no_newline : (place : ℕ) → place < 8 → get_or (codes "{\"kept\":") place 0 ≡ 10 → ⊥
no_newline zero below is = omega (arith, is)
no_newline (suc zero) below is = omega (arith, is)
no_newline (suc (suc zero)) below is = omega (arith, is)
no_newline (suc (suc (suc zero))) below is = omega (arith, is)
no_newline (suc (suc (suc (suc zero)))) below is = omega (arith, is)
no_newline (suc (suc (suc (suc (suc zero))))) below is = omega (arith, is)
no_newline (suc (suc (suc (suc (suc (suc zero)))))) below is = omega (arith, is)
no_newline (suc (suc (suc (suc (suc (suc (suc zero))))))) below is = omega (arith, is)
no_newline (suc (suc (suc (suc (suc (suc (suc (suc place)))))))) below is = omega (arith, below)

later_no_newline : (place : ℕ) → 0 < place → place < 9 → get_or sum_mark place 0 ≡ 10 → ⊥
later_no_newline zero some below is = omega (arith, some)
later_no_newline (suc place) some below is = no_newline place (omega (arith, below)) is

none_before : (front more : List ℕ) → ((at : ℕ) → OccursAt (front ++ 10 ∷ []) sum_mark at → ⊥) → (k : ℕ) → k < length front → OccursAt (front ++ (sum_mark ++ more)) sum_mark k → ⊥
none_before front more plain k high occurs =
    let text = front ++ (sum_mark ++ more) in
    let long = length-append front (10 ∷ []) in
    elim (cases_lt (length front) (k + 8)) [
      | inl over ↦
          let j = length front - k in
          let reads : get_or text (k + j) 0 ≡ get_or sum_mark j 0 = occurs.reads j (omega (arith, over)) in
          let at : k + j ≡ length front = omega (arith, high) in
          let newline : get_or text (length front) 0 ≡ 10 = get_or-append_seam front 10 (codes "{\"kept\":" ++ more) 0 in
          later_no_newline j (omega (arith, high)) (omega (arith, over)) (sym reads ∙ ap (λ (n : ℕ). get_or text n 0) at ∙ newline)
      | inr within ↦
          let same : (j : ℕ) → j < length sum_mark → get_or (front ++ 10 ∷ []) (k + j) 0 ≡ get_or sum_mark j 0 =
          λ j below.
          let inside : k + j < length (front ++ 10 ∷ []) = omega (arith, long, within, below) in
          let split : text ≡ (front ++ 10 ∷ []) ++ (codes "{\"kept\":" ++ more) = sym (append_assoc front (10 ∷ []) (codes "{\"kept\":" ++ more)) in
          sym (get_or_append_left (front ++ 10 ∷ []) (codes "{\"kept\":" ++ more) 0 (k + j) inside) ∙ ap (λ (bytes : List ℕ). get_or bytes (k + j) 0) (sym split) ∙ occurs.reads j below in
          plain k (record { fits = omega (arith, long, within); reads = same })
    ]

-- A last line is skipped: it has no newline but its last byte.
skip_front : (kept number : ℕ) → Skipped (sum_front kept number)
skip_front kept number =
    let tail : Skipped (decimal number ++ codes ",\"sum\":\"") = skip_both (decimal number) (codes ",\"sum\":\"") (skip_decimal number) (λ rest. refl) in
    let middle : Skipped (codes ",\"seq\":" ++ (decimal number ++ codes ",\"sum\":\"")) = skip_both (codes ",\"seq\":") (decimal number ++ codes ",\"sum\":\"") (λ rest. refl) tail in
    let behind : Skipped (decimal kept ++ (codes ",\"seq\":" ++ (decimal number ++ codes ",\"sum\":\""))) = skip_both (decimal kept) (codes ",\"seq\":" ++ (decimal number ++ codes ",\"sum\":\"")) (skip_decimal kept) middle in
    skip_both (codes "{\"kept\":") (decimal kept ++ (codes ",\"seq\":" ++ (decimal number ++ codes ",\"sum\":\""))) (λ rest. refl) behind

skip_line : (kept number : ℕ) (lines rest : List ℕ) → lines_from true (sum_line kept number lines ++ rest) ≡ lines_from false rest
skip_line kept number lines rest =
    let sum = sum_text kept number lines in
    let all : sum_line kept number lines ++ rest ≡ sum_front kept number ++ (sum ++ (codes "\"}\n" ++ rest)) =
    append_assoc (sum_front kept number) (sum ++ codes "\"}\n") rest ∙ ap (λ (l : List ℕ). sum_front kept number ++ l) (append_assoc sum (codes "\"}\n") rest) in
    ap (λ (l : List ℕ). lines_from true l) all ∙ (skip_front kept number (sum ++ (codes "\"}\n" ++ rest)) ∙ skip_hex (to_be_bytes w32 (crc32c (lines ++ sum_front kept number))) (codes "\"}\n" ++ rest))

-- A write has just its lines.
write_lines : (number : ℕ) (write : Write) (rest : List ℕ) → IsWrite write → lines_from false (write_text number write ++ rest) ≡ write.lines ++ lines_from false rest
write_lines number write rest is =
    let lines = write.lines in
    let are = is.lines in
    let more : List ℕ = drop 8 (sum_line write.kept number lines ++ rest) in
    let plain : (at : ℕ) → OccursAt (are.front ++ 10 ∷ []) sum_mark at → ⊥ = subst (λ (bytes : List ℕ). (at : ℕ) → OccursAt bytes sum_mark at → ⊥) are.whole are.plain in
    let begins : sum_line write.kept number lines ++ rest ≡ codes "{\"kept\":" ++ more = refl in
    let whole : write_text number write ++ rest ≡ are.front ++ (sum_mark ++ more) =
    append_assoc lines (sum_line write.kept number lines) rest ∙ (ap (λ (bytes : List ℕ). bytes ++ (sum_line write.kept number lines ++ rest)) are.whole ∙ append_assoc are.front (10 ∷ []) (sum_line write.kept number lines ++ rest)) in
    let copy : lines_from false (are.front ++ (sum_mark ++ more)) ≡ are.front ++ 10 ∷ lines_from true (codes "{\"kept\":" ++ more) = copied are.front more (none_before are.front more plain) in
    let skip : lines_from true (codes "{\"kept\":" ++ more) ≡ lines_from false rest = skip_line write.kept number lines rest in
    let closed : lines ++ lines_from false rest ≡ are.front ++ 10 ∷ lines_from false rest =
    ap (λ (bytes : List ℕ). bytes ++ lines_from false rest) are.whole ∙ append_assoc are.front (10 ∷ []) (lines_from false rest) in
    ap (λ (bytes : List ℕ). lines_from false bytes) whole ∙ (copy ∙ (ap (λ (bytes : List ℕ). are.front ++ 10 ∷ bytes) skip ∙ sym closed))

-- ---- all writes

all_lines : (number : ℕ) (writes : List Write) (rest : List ℕ) → AreWrites writes
    → lines_from false (writes_text number writes ++ rest) ≡ writes_lines writes ++ lines_from false rest
all_lines number [] rest all = refl
all_lines number (write ∷ writes) rest all =
    let later : lines_from false (writes_text (suc number) writes ++ rest) ≡ writes_lines writes ++ lines_from false rest = all_lines (suc number) writes rest all.1 in
    let split : writes_text number (write ∷ writes) ++ rest ≡ write_text number write ++ (writes_text (suc number) writes ++ rest) = append_assoc (write_text number write) (writes_text (suc number) writes) rest in
    ap (λ (bytes : List ℕ). lines_from false bytes) split
    ∙ (write_lines number write (writes_text (suc number) writes ++ rest) all.0
    ∙ (ap (λ (bytes : List ℕ). write.lines ++ bytes) later ∙ sym (append_assoc write.lines (writes_lines writes) (lines_from false rest))))

-- The bytes of writes have just their lines.
pub log_lines_are : (writes : List Write) → AreWrites writes → plain_lines (writes_text 1 writes) ≡ writes_lines writes
log_lines_are writes all =
    ap (λ (bytes : List ℕ). plain_lines bytes) (sym (append-nil (writes_text 1 writes))) ∙ (all_lines 1 writes [] all ∙ append-nil (writes_lines writes))

pub first_lines : (write : Write) → IsWrite write → plain_lines (write_text 1 write) ≡ write.lines
first_lines write is =
    ap (λ (bytes : List ℕ). plain_lines bytes) (sym (append-nil (write_text 1 write))) ∙ (write_lines 1 write [] is ∙ append-nil write.lines)

-- One write more adds just its lines.
pub lines_grow : (number : ℕ) (bytes : List ℕ) (write : Write) → AreLogBytes number bytes → IsWrite write
    → plain_lines (bytes ++ write_text (suc number) write) ≡ plain_lines bytes ++ write.lines
lines_grow number bytes write log is =
    let next = write_text (suc number) write in
    let behind : lines_from false (writes_text 1 log.writes ++ next) ≡ writes_lines log.writes ++ lines_from false next = all_lines 1 log.writes next log.all in
    let last : lines_from false next ≡ write.lines =
    ap (λ (bytes : List ℕ). lines_from false bytes) (sym (append-nil next)) ∙ (write_lines (suc number) write [] is ∙ append-nil write.lines) in
    let before : writes_lines log.writes ≡ plain_lines bytes = sym (ap (λ (all : List ℕ). plain_lines all) log.are ∙ log_lines_are log.writes log.all) in
    ap (λ (all : List ℕ). plain_lines (all ++ next)) log.are ∙ (behind ∙ ap₂ (λ (one other : List ℕ). one ++ other) before last)

-- A log with one write more.
texts_grow : (number : ℕ) (writes : List Write) (write : Write) → writes_text number (writes ++ write ∷ []) ≡ writes_text number writes ++ write_text (number + length writes) write
texts_grow number [] write =
    let same : number ≡ number + 0 = omega arith in
    append-nil (write_text number write) ∙ ap (λ (n : ℕ). write_text n write) same
texts_grow number (one ∷ writes) write =
    let same : suc number + length writes ≡ number + suc (length writes) = omega arith in
    ap (λ (bytes : List ℕ). write_text number one ++ bytes) (texts_grow (suc number) writes write ∙ ap (λ (n : ℕ). writes_text (suc number) writes ++ write_text n write) same)
    ∙ sym (append_assoc (write_text number one) (writes_text (suc number) writes) (write_text (number + suc (length writes)) write))

all_grow : (writes : List Write) (write : Write) → AreWrites writes → IsWrite write → AreWrites (writes ++ write ∷ [])
all_grow [] write all is = (is, tt)
all_grow (one ∷ writes) write all is = (all.0, all_grow writes write all.1 is)

pub log_grows : (number : ℕ) (bytes : List ℕ) (write : Write) → AreLogBytes number bytes → IsWrite write → AreLogBytes (suc number) (bytes ++ write_text (suc number) write)
log_grows number bytes write log is =
    let at : suc number ≡ 1 + length log.writes = omega (arith, log.counted) in record {
      writes = log.writes ++ write ∷ [];
      are = ap₂ (λ (all : List ℕ) (n : ℕ). all ++ write_text n write) log.are at ∙ sym (texts_grow 1 log.writes write);
      all = all_grow log.writes write log.all is;
      counted = omega (arith, length-append log.writes (write ∷ []), log.counted);
    }

pub log_begins : (write : Write) → IsWrite write → AreLogBytes 1 (write_text 1 write)
log_begins write is = record {
  writes = write ∷ [];
  are = sym (append-nil (write_text 1 write));
  all = (is, tt);
  counted = omega arith;
}
