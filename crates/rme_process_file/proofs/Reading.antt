-- Reading the bytes of a file.
use Rattle.std.proofs.Common.{◌≡◌, ℕ, zero, suc, ◌+◌, ◌-◌, ◌*◌, ◌<◌, ◌≤◌, Bool, true, false, not, ◌&&◌, ◌||◌, nat_lt, nat_le, bytes_eq, ◌==◌, List, [], ◌∷◌, ◌++◌, map, length, Option, Some, None, refl, sym, ◌∙◌, ap, arith, inl, inr}
use Rattle.std.specs.Prelude.{slice_index}
use Rattle.std.specs.List.{list_all, list_any, range_with_len}
use Rattle.std.proofs.lemmas.List.FromFn.{map-range_with_len_more}
use Rattle.std.proofs.lemmas.Option.{none-some, same_Some}
use Rattle.rme_words.specs.declared.shape.Shape.{Shape}
use Rattle.rme_words.specs.Words.{word_count}
use Rattle.rme_words.proofs.Shapes.{same_shape}
use Rattle.rme_script.specs.Cells.{bit_of}
use Rattle.std.proofs.lemmas.Bool.{and_parts, or_cases, leb-true, eqb-true}
use Rattle.rme_line_io.specs.Names.{is_name, is_name_byte, may_add_name}
use Rattle.rme_process_file.specs.declared.file_defect.FileDefect.{FileDefect}
use Rattle.rme_process_file.specs.declared.file_defect.FileDefect.TheVariants.{NoMagic, TooShort, ByteOrder, Version, Limits, Size, Names, Rest, Moved, NoMemory}
use Rattle.rme_process_file.specs.ProcessFiles.{ProcessFileView, PageHasSizes, IsFile, file_u64_at, name_field_of, name_field_text, is_zero_padded, with_name_field, with_name_fields}
use Rattle.rme_process_file.specs.FileDefects.{HasFileDefect}

-- ---- a name

small_byte : (byte : ℕ) → is_name_byte byte ≡ true → byte < 128
small_byte byte e =
    elim (or_cases ((nat_le 97 byte && nat_le byte 122) || (nat_le 48 byte && nat_le byte 57) || (byte == 95)) (byte == 45) e) [
      | inl h ↦ elim (or_cases ((nat_le 97 byte && nat_le byte 122) || (nat_le 48 byte && nat_le byte 57)) (byte == 95) h) [
        | inl g ↦ elim (or_cases (nat_le 97 byte && nat_le byte 122) (nat_le 48 byte && nat_le byte 57) g) [
          | inl low ↦ let most : byte ≤ 122 = leb-true byte 122 (and_parts (nat_le 97 byte) (nat_le byte 122) low).1 in omega (arith, most)
          | inr high ↦ let most : byte ≤ 57 = leb-true byte 57 (and_parts (nat_le 48 byte) (nat_le byte 57) high).1 in omega (arith, most)
        ]
        | inr line ↦ let is : byte ≡ 95 = eqb-true byte 95 line in omega (arith, is)
      ]
      | inr dash ↦ let is : byte ≡ 45 = eqb-true byte 45 dash in omega (arith, is)
    ]

pub small_bytes : (text : List ℕ) → list_all is_name_byte text ≡ true → (i : ℕ) → slice_index text i < 128
small_bytes [] e i = omega arith
small_bytes (byte ∷ text) e zero = small_byte byte (and_parts _ _ e).0
small_bytes (byte ∷ text) e (suc i) = small_bytes text (and_parts _ _ e).1 i

-- ---- names, in order

unnamed : (padded named few new : Bool) → (padded && named) ≡ false → (padded && (named && few && new)) ≡ false
unnamed true true few new e = absurd cc
unnamed true false few new e = refl
unnamed false named few new e = refl

module _ (names : List (List ℕ)) (field : List ℕ) where
  pub no_name : (is_zero_padded field && is_name (name_field_text field)) ≡ false → None ≡ with_name_field names field
  no_name e =
      let none : (is_zero_padded field && may_add_name names (name_field_text field)) ≡ false = unnamed (is_zero_padded field) (nat_lt 0 (length (name_field_text field)) && nat_le (length (name_field_text field)) 32 && list_all is_name_byte (name_field_text field)) (nat_lt (length names) 16) (not (list_any (bytes_eq (name_field_text field)) names)) e in
      rw none refl

  pub added : is_zero_padded field ≡ true → may_add_name names (name_field_text field) ≡ true → Some (names ++ name_field_text field ∷ []) ≡ with_name_field names field
  added padded may = rw (padded, may) refl

module _ (bytes : List ℕ) (n lock : ℕ) (names : List (List ℕ)) (total : Option (List (List ℕ))) where
  pub names_more : (new : List (List ℕ)) → lock < n → with_name_field names (name_field_of bytes lock) ≡ Some new → with_name_fields bytes (n - lock) lock names ≡ total
      → with_name_fields bytes (n - (lock + 1)) (lock + 1) new ≡ total
  names_more new less is so_far =
      let k : n - lock ≡ suc (n - (lock + 1)) = omega arith in
      let one : with_name_fields bytes (n - lock) lock names ≡ with_name_fields bytes (n - (lock + 1)) (lock + 1) new = rw (k, is) refl in
      sym one ∙ so_far

  pub names_end : lock < n → with_name_field names (name_field_of bytes lock) ≡ None → with_name_fields bytes (n - lock) lock names ≡ total → total ≡ None
  names_end less is so_far =
      let k : n - lock ≡ suc (n - (lock + 1)) = omega arith in
      let one : with_name_fields bytes (n - lock) lock names ≡ None = rw (k, is) refl in
      sym so_far ∙ one

-- ---- the words

pub made_more : (f : ℕ → ℕ) (words : List ℕ) (at x : ℕ) (new : List ℕ) → words ≡ map f (range_with_len 0 at) → x ≡ f at → new ≡ words ++ x ∷ []
    → new ≡ map f (range_with_len 0 (at + 1))
made_more f words at x new so_far is pushed =
    pushed ∙ ap (λ (xs : List ℕ). xs ++ x ∷ []) so_far ∙ ap (λ (y : ℕ). map f (range_with_len 0 at) ++ y ∷ []) is ∙ sym (map-range_with_len_more f 0 at at (omega arith))

-- ---- the whole file

one_shape : (bytes : List ℕ) (a b : Shape) → PageHasSizes bytes a → PageHasSizes bytes b → a ≡ b
one_shape bytes a b p q = same_shape a b (sym p.workers ∙ q.workers) (sym p.locks ∙ q.locks) (sym p.cells ∙ q.cells) (sym p.jobs ∙ q.jobs)

pub other_size : (bytes : List ℕ) (found shape : Shape) → PageHasSizes bytes found → PageHasSizes bytes shape
    → ((file_u64_at bytes 12 ≡ word_count found) × (length bytes ≡ 4096 + 8 * word_count found) → ⊥)
    → file_u64_at bytes 12 ≡ word_count shape → length bytes ≡ 4096 + 8 * word_count shape → ⊥
other_size bytes found shape p q none count size =
    let same : word_count shape ≡ word_count found = ap word_count (one_shape bytes shape found q p) in
    none (count ∙ same, size ∙ ap (λ (n : ℕ). 4096 + 8 * n) same)

same_bit : (a b : Bool) → bit_of a ≡ bit_of b → a ≡ b
same_bit true true e = refl
same_bit true false e = absurd cc
same_bit false true e = absurd cc
same_bit false false e = refl

abbrev file_of : Shape → List (List ℕ) → Bool → List ℕ → List ℕ → ProcessFileView
file_of shape names moved boot words = record { shape = shape; names = names; moved = moved; boot = boot; words = words }

same_parts : (a b : ProcessFileView) → a.shape ≡ b.shape → a.names ≡ b.names → a.moved ≡ b.moved → a.boot ≡ b.boot → a.words ≡ b.words → a ≡ b
same_parts a b shape names moved boot words =
    ap (λ (x : Shape). file_of x a.names a.moved a.boot a.words) shape
    ∙ ap (λ (x : List (List ℕ)). file_of b.shape x a.moved a.boot a.words) names
    ∙ ap (λ (x : Bool). file_of b.shape b.names x a.boot a.words) moved
    ∙ ap (λ (x : List ℕ). file_of b.shape b.names b.moved x a.words) boot
    ∙ ap (λ (x : List ℕ). file_of b.shape b.names b.moved b.boot x) words

pub one_file : (bytes : List ℕ) (a b : ProcessFileView) → IsFile bytes a → IsFile bytes b → a ≡ b
one_file bytes a b p q =
    let shape : a.shape ≡ b.shape = one_shape bytes a.shape b.shape p.page.sizes q.page.sizes in
    let names : Some a.names ≡ Some b.names = sym p.names ∙ ap (λ (s : Shape). with_name_fields bytes s.locks 0 []) shape ∙ q.names in
    let words : a.words ≡ b.words = p.words ∙ ap (λ (s : Shape). map (λ (i : ℕ). file_u64_at bytes (512 + i)) (range_with_len 0 (word_count s))) shape ∙ sym q.words in
    same_parts a b shape (same_Some a.names b.names names) (same_bit a.moved b.moved (sym p.moved ∙ q.moved)) (p.boot ∙ sym q.boot) words

-- The mark of a renewal is a bit.
pub marked : (n : ℕ) → n ≤ 1 → n ≡ bit_of (n == 1)
marked zero few = refl
marked (suc zero) few = refl
marked (suc (suc n)) few = absurd (omega (arith, few))

-- Bytes that are a file have no defect.
pub lacks_none : (bytes : List ℕ) (why : FileDefect) (file : ProcessFileView) → HasFileDefect bytes why → IsFile bytes file → why ≡ NoMemory
lacks_none bytes NoMagic file lacks is = absurd (lacks is.page.magic)
lacks_none bytes TooShort file lacks is = let size = is.page.size in absurd (omega (arith, lacks, size))
lacks_none bytes ByteOrder file lacks is = absurd (lacks is.page.order)
lacks_none bytes Version file lacks is = let read = is.page.version in absurd (let clash : true ≡ false = sym read ∙ lacks in cc)
lacks_none bytes Limits file lacks is =
    let sizes = is.page.sizes in absurd (lacks (rw (sizes.workers, sizes.locks, sizes.cells, sizes.jobs) file.shape.counted.limits))
lacks_none bytes Size file lacks is = absurd (lacks file.shape is.page.sizes is.page.counted is.page.size)
lacks_none bytes Names file lacks is = let none = rw is.page.sizes.locks at lacks in absurd (none-some file.names (sym none ∙ is.names))
lacks_none bytes Rest file lacks is = let some = rw (is.page.sizes.locks, is.page.sizes.workers) at lacks in let zeros = is.page.rest in absurd (let clash : true ≡ false = sym zeros ∙ some in cc)
lacks_none bytes Moved file lacks is = let mark = is.page.mark in absurd (omega (arith, lacks, mark))
lacks_none bytes NoMemory file lacks is = refl
