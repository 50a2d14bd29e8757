-- What was read so far.
use Rattle.std.proofs.Common.{◌≡◌, ◌⊎◌, ◌+◌, ◌-◌, ◌^◌, ◌<◌, ℕ, suc, List, [], ◌∷◌, ◌++◌, length, max, Result, Ok, Err, IfErr, IsErrAnd, refl, sym, ap, subst, ◌∙◌, arith, inl, inr}
use Rattle.std.proofs.lemmas.List.{append_assoc, append-nil, length-append}
use Rattle.rme_durable_writes.specs.Writes.{AreWrites, IsWrite, Write, write_text, writes_lines, writes_text}
use Rattle.rme_durable_writes.specs.Reading.{AreAllWrites, IsWhyUnread, greatest_kept}
use Rattle.rme_durable_writes.specs.declared.found_writes.ReadError.{ReadError}
use Rattle.rme_durable_writes.specs.declared.found_writes.ReadError.TheVariants.{NoMemory}

-- Any writes that the bytes begin with were read, or are read next.
abbrev pub FollowsOrLeads : List Write → List Write → List ℕ → List ℕ → Type 0
FollowsOrLeads others writes rest behind =
    ((more : List Write) × (writes ≡ others ++ more))
    ⊎ ((more : List Write) × (others ≡ writes ++ more) × AreWrites more × (rest ≡ writes_text (suc (length writes)) more ++ behind))

pub record HasRead (bytes lines rest : List ℕ) (kept number : ℕ) : Type 0 where
  pub writes : List Write
  pub are : bytes ≡ writes_text 1 writes ++ rest
  pub all : AreWrites writes
  pub lines_are : lines ≡ writes_lines writes
  pub number_is : number ≡ length writes
  pub kept_is : kept ≡ greatest_kept 1 writes
  pub made : (others : List Write) (behind : List ℕ) → AreWrites others → length others < 2 ^ 64
      → bytes ≡ writes_text 1 others ++ behind → FollowsOrLeads others writes rest behind

pub nothing_read : (bytes lines : List ℕ) → lines ≡ [] → HasRead bytes lines bytes 1 0
nothing_read bytes lines none = record {
  writes = [];
  are = refl;
  all = tt;
  lines_are = none;
  number_is = refl;
  kept_is = refl;
  made = λ others behind all short are. inr (others, refl, all, are);
}

-- Memory was refused.
pub why_refused : {A : Type 0} (bytes : List ℕ) (result : Result A ReadError) → IsErrAnd result (λ error. error ≡ NoMemory) → IfErr result (IsWhyUnread bytes)
why_refused bytes (Ok found) refused = absurd refused
why_refused bytes (Err error) refused = subst (IsWhyUnread bytes) (sym refused) tt

suc_not_none : (n : ℕ) → suc n ≡ 0 → ⊥
suc_not_none n is = omega (arith, is)

pub none_of_length : {A : Type 0} (list : List A) → length list ≡ 0 → list ≡ []
none_of_length [] is = refl
none_of_length {A} (first ∷ list) is = absurd (suc_not_none (length list) is)

-- ---- one more write

text_more : (number : ℕ) (writes : List Write) (write : Write) → writes_text number (writes ++ write ∷ []) ≡ writes_text number writes ++ write_text (number + length writes) write
text_more number [] write = append-nil (write_text number write) ∙ ap (λ (n : ℕ). write_text n write) (omega arith)
text_more number (first ∷ writes) write =
    ap (λ (text : List ℕ). write_text number first ++ text) (text_more (suc number) writes write ∙ ap (λ (n : ℕ). writes_text (suc number) writes ++ write_text n write) (omega arith))
    ∙ sym (append_assoc (write_text number first) (writes_text (suc number) writes) (write_text (number + length (first ∷ writes)) write))

lines_more : (writes : List Write) (write : Write) → writes_lines (writes ++ write ∷ []) ≡ writes_lines writes ++ write.lines
lines_more [] write = append-nil write.lines
lines_more (first ∷ writes) write = ap (λ (text : List ℕ). first.lines ++ text) (lines_more writes write) ∙ sym (append_assoc first.lines (writes_lines writes) write.lines)

kept_more : (kept : ℕ) (writes : List Write) (write : Write) → greatest_kept kept (writes ++ write ∷ []) ≡ max (greatest_kept kept writes) write.kept
kept_more kept [] write = refl
kept_more kept (first ∷ writes) write = kept_more (max kept first.kept) writes write

all_more : (writes : List Write) (write : Write) → AreWrites writes → IsWrite write → AreWrites (writes ++ write ∷ [])
all_more [] write all is = (is, tt)
all_more (first ∷ writes) write all is = (all.0, all_more writes write all.1 is)

-- A write that was found behind the others: whatever write stands there is this one.
pub record IsNextWrite (rest : List ℕ) (number : ℕ) (write : Write) (behind : List ℕ) : Type 0 where
  pub are : rest ≡ write_text (suc number) write ++ behind
  pub is : IsWrite write
  pub one : (other : Write) (then : List ℕ) → suc number < 2 ^ 64 → IsWrite other → rest ≡ write_text (suc number) other ++ then
      → (write ≡ other) × (behind ≡ then)

module _ (bytes lines rest : List ℕ) (kept number : ℕ) (read : HasRead bytes lines rest kept number) (write : Write) (after : List ℕ) (next : IsNextWrite rest number write after) where
  abbrev more_writes : List Write
  more_writes = read.writes ++ write ∷ []

  number_more : length more_writes ≡ suc number
  number_more = omega (arith, length-append read.writes (write ∷ []), read.number_is)

  made_more : (others more : List Write) (behind : List ℕ) → length others < 2 ^ 64 → others ≡ read.writes ++ more → AreWrites more → rest ≡ writes_text (suc (length read.writes)) more ++ behind
      → FollowsOrLeads others more_writes after behind
  made_more others [] behind short is all are = inl (write ∷ [], ap (λ (writes : List Write). writes ++ write ∷ []) (sym (is ∙ append-nil read.writes)))
  made_more others (first ∷ more) behind short is all are =
      let long : length others ≡ length read.writes + length (first ∷ more) = ap (λ (writes : List Write). length writes) is ∙ length-append read.writes (first ∷ more) in
      let there : rest ≡ write_text (suc number) first ++ (writes_text (suc (suc (length read.writes))) more ++ behind) =
      are ∙ ap (λ (n : ℕ). (write_text (suc n) first ++ writes_text (suc (suc (length read.writes))) more) ++ behind) (sym read.number_is)
      ∙ append_assoc (write_text (suc number) first) (writes_text (suc (suc (length read.writes))) more) behind in
      let same = next.one first (writes_text (suc (suc (length read.writes))) more ++ behind) (omega (arith, long, short, read.number_is)) all.0 there in
      let same_list : others ≡ more_writes ++ more =
      is ∙ ap (λ (w : Write). read.writes ++ w ∷ more) (sym same.0) ∙ sym (append_assoc read.writes (write ∷ []) more) in
      let count : suc (length read.writes) ≡ length more_writes = omega (arith, number_more, read.number_is) in
      inr (more, same_list, all.1, same.1 ∙ ap (λ (n : ℕ). writes_text (suc n) more ++ behind) count)

  pub read_more : (lines_now : List ℕ) (kept_now number_now : ℕ) → lines_now ≡ lines ++ write.lines → kept_now ≡ max kept write.kept → number_now ≡ suc number
      → HasRead bytes lines_now after kept_now number_now
  read_more lines_now kept_now number_now lines_are kept_is number_is = record {
    writes = more_writes;
    are = read.are ∙ ap (λ (text : List ℕ). writes_text 1 read.writes ++ text) (next.are ∙ ap (λ (n : ℕ). write_text n write ++ after) (omega (arith, read.number_is)))
        ∙ sym (append_assoc (writes_text 1 read.writes) (write_text (1 + length read.writes) write) after) ∙ ap (λ (text : List ℕ). text ++ after) (sym (text_more 1 read.writes write));
    all = all_more read.writes write read.all next.is;
    lines_are = lines_are ∙ ap (λ (text : List ℕ). text ++ write.lines) read.lines_are ∙ sym (lines_more read.writes write);
    number_is = number_is ∙ sym number_more;
    kept_is = kept_is ∙ ap (λ (k : ℕ). max k write.kept) read.kept_is ∙ sym (kept_more 1 read.writes write);
    made = λ others behind all short are.
        elim (read.made others behind all short are) [
          | inl leads ↦ inl (leads.0 ++ write ∷ [], ap (λ (writes : List Write). writes ++ write ∷ []) leads.1 ∙ append_assoc others leads.0 (write ∷ []))
          | inr follows ↦ made_more others follows.0 behind short follows.1 follows.2 follows.3
        ];
  }

-- ---- no more write

module _ (bytes lines rest : List ℕ) (kept number : ℕ) (read : HasRead bytes lines rest kept number) (none : (write : Write) (behind : List ℕ) → suc number < 2 ^ 64 → IsWrite write → rest ≡ write_text (suc number) write ++ behind → ⊥) where
  pub none_more : (others more : List Write) (behind : List ℕ) → length others < 2 ^ 64 → others ≡ read.writes ++ more → AreWrites more → rest ≡ writes_text (suc (length read.writes)) more ++ behind
      → (left : List Write) × (read.writes ≡ others ++ left)
  none_more others [] behind short is all are = ([], sym (append-nil others ∙ is ∙ append-nil read.writes))
  none_more others (first ∷ more) behind short is all are =
      let long : length others ≡ length read.writes + length (first ∷ more) = ap (λ (writes : List Write). length writes) is ∙ length-append read.writes (first ∷ more) in
      let there : rest ≡ write_text (suc number) first ++ (writes_text (suc (suc (length read.writes))) more ++ behind) =
      are ∙ ap (λ (n : ℕ). (write_text (suc n) first ++ writes_text (suc (suc (length read.writes))) more) ++ behind) (sym read.number_is)
      ∙ append_assoc (write_text (suc number) first) (writes_text (suc (suc (length read.writes))) more) behind in
      absurd (none first (writes_text (suc (suc (length read.writes))) more ++ behind) (omega (arith, long, short, read.number_is)) all.0 there)

  abbrev pub all_read : AreAllWrites bytes (length bytes - length rest) read.writes
  all_read =
      let long : length bytes ≡ length (writes_text 1 read.writes) + length rest = ap (λ (text : List ℕ). length text) read.are ∙ length-append (writes_text 1 read.writes) rest in record {
        rest = rest;
        are = read.are;
        long = omega (arith, long);
        all = read.all;
        last = λ write small begins. none write begins.rest (omega (arith, small, read.number_is)) begins.is (begins.are ∙ ap (λ (n : ℕ). write_text (suc n) write ++ begins.rest) (sym read.number_is));
        made = λ others behind all short are.
            elim (read.made others behind all short are) [
              | inl leads ↦ leads
              | inr follows ↦ none_more others follows.0 behind short follows.1 follows.2 follows.3
            ];
      }
