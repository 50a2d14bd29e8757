-- The line of a header is read as that header.
use Rattle.std.proofs.Common.{◌≡◌, ◌≢◌, ℕ, zero, suc, ◌^◌, ◌<◌, ◌≤◌, ℤ, pos, negsuc, unsigned_abs, List, [], ◌∷◌, ◌++◌, length, get_or, Bool, true, false, ◌&&◌, nat_le, nat_lt, codes, decimal, Some, option_map, refl, sym, ap, ap₂, ◌∙◌, subst, arith, inl, inr, append_assoc, lt-ltb, IsUtf8}
use Rattle.std.proofs.lemmas.Bool.{and_parts, and_from, cases_Bool, ne_eqb, or_cases, eqb-true, leb-true}
use Rattle.std.proofs.lemmas.Fmt.{IsAscii-signed, decimal_digit}
use Rattle.std.proofs.lemmas.Str.{IsUtf8-append, IsUtf8-from_ascii}
use Rattle.std.proofs.lemmas.Slice.Eq.{bytes_eq-Decides}
use Rattle.std.specs.List.{list_all, position_or_len}
use Rattle.std.specs.Str.{bytes_eq}
use Rattle.std.specs.Fmt.{signed_decimal}
use Rattle.json.specs.Print.{escape_byte, escape, quoted}
use Rattle.json.specs.Tree.{HasNumbers, depth}
use Rattle.json.proofs.Printed.Strings.{escape_byte_plain}
use Rattle.json.proofs.Printed.Decimals.{IsNumber-decimal, IsNumber-signed_decimal}
use Rattle.json.proofs.Printed.Utf8.{IsUtf8-are_ascii, are_ascii}
use Rattle.serde_json.specs.Data.{Data, null, boolean, number, string, array, object, unsigned, negative, no_members, member}
use Rattle.serde_json.specs.Read.{of_json}
use Rattle.serde_json.specs.Written.{compact_text, items_text, outline}
use Rattle.serde_json.proofs.Numbers.{number_of-decimal, number_of-negative}
use Rattle.rme_line_json.specs.Values.{json_value_of}
use Rattle.rme_words.specs.declared.shape.Shape.{Shape}
use Rattle.rme_durable_format.proofs.JsonTexts.{AreWritten, IsTextOf, decimal_utf8, items_back, items_numbers, items_of, items_same, items_shallow, items_tell, items_utf8, number_written, then_utf8, value_of_text, written}
use Rattle.rme_line_text.specs.Texts.{lock_name, receipt_text, separated_text}
use Rattle.rme_line_text.specs.ClientReceipts.{as_receipt}
use Rattle.rme_line_text.specs.Names.{is_name, is_name_byte, name_number}
use Rattle.rme_line_text.specs.declared.client_receipt.ClientReceipt.{ClientReceipt}
use Rattle.rme_durable_format.specs.declared.header.LastJob.{LastJob}
use Rattle.rme_durable_format.specs.declared.header.LastJob.TheVariants.{Nothing, Withdrawn, Receipt}
use Rattle.rme_durable_format.specs.Headers.{HeaderValues, HasHeaderMembers, IsLogHeader, IsLogVersion, IsPossibleHeader, IsReceiptObject, IsJobCount, IsPlaceCount, IsLastJobObject}
use Rattle.rme_durable_format.specs.CommandLines.{is_no_newline}
use Rattle.rme_durable_format.specs.HeaderTexts.{last_job_text, places_text, numbers_text, last_jobs_text, header_text, AreLockNames, IsWritableReceipt, IsWritableLastJob, IsWritableHeader}

-- ---- names

name_byte_plain : (x : ℕ) → is_name_byte x ≡ true → (x ≢ 34) × (x ≢ 92) × (32 ≤ x) × (x < 128)
name_byte_plain x is = grind (arith, leb-true, eqb-true, or_cases, and_parts)

pub name_ascii : (text : List ℕ) → list_all is_name_byte text ≡ true → are_ascii text ≡ true
name_ascii [] all = refl
name_ascii (x ∷ xs) all =
    let parts = and_parts (is_name_byte x) (list_all is_name_byte xs) all in
    and_from _ _ (lt-ltb x 128 (name_byte_plain x parts.0).3) (name_ascii xs parts.1)

-- a name needs no escape
pub name_plain : (text : List ℕ) → list_all is_name_byte text ≡ true → escape text ≡ text
name_plain [] all = refl
name_plain (x ∷ xs) all =
    let parts = and_parts (is_name_byte x) (list_all is_name_byte xs) all in
    let plain = name_byte_plain x parts.0 in
    ap₂ (λ (a b : List ℕ). a ++ b) (escape_byte_plain x plain.0 plain.1 plain.2) (name_plain xs parts.1)

pub name_no_newline : (text : List ℕ) → list_all is_name_byte text ≡ true → list_all is_no_newline text ≡ true
name_no_newline [] all = refl
name_no_newline (x ∷ xs) all =
    let parts = and_parts (is_name_byte x) (list_all is_name_byte xs) all in
    let other : x ≢ 10 = λ is. absurd (omega (arith, (name_byte_plain x parts.0).2)) in rw (ne_eqb x 10 other) (name_no_newline xs parts.1)

pub name_short : (text : List ℕ) → is_name text ≡ true → length text ≤ 32
name_short text is =
    let front = and_parts (nat_lt 0 (length text) && nat_le (length text) 32) (list_all is_name_byte text) is in
    leb-true (length text) 32 (and_parts (nat_lt 0 (length text)) (nat_le (length text) 32) front.0).1

pub name_bytes : (text : List ℕ) → is_name text ≡ true → list_all is_name_byte text ≡ true
name_bytes text is = (and_parts (nat_lt 0 (length text) && nat_le (length text) 32) (list_all is_name_byte text) is).1

first_at : {X : Type 0} (p : X → Bool) (xs : List X) (i : ℕ) (d : X) → i < length xs → p (get_or xs i d) ≡ true → ((k : ℕ) → k < i → p (get_or xs k d) ≡ false) → position_or_len p xs ≡ i
first_at p [] i d below here before = absurd (omega arith)
first_at p (x ∷ xs) zero d below here before = rw here refl
first_at p (x ∷ xs) (suc i) d below here before =
    let none : p x ≡ false = before 0 (omega arith) in
    let rest : position_or_len p xs ≡ i = first_at p xs i d (omega arith) here (λ k less. before (suc k) (omega arith)) in rw none (omega (arith, rest))

unlike : (a b : List ℕ) → (a ≡ b → ⊥) → bytes_eq a b ≡ false
unlike a b other = elim (cases_Bool (bytes_eq a b)) [
  | inl t ↦ absurd (other ((bytes_eq-Decides a b).0 t))
  | inr f ↦ f
]

-- the number of a lock's name is the lock
pub number_of_name : (names : List (List ℕ)) (lock : ℕ) → AreLockNames names → lock < length names → name_number names (lock_name names lock) ≡ Some lock
number_of_name names lock are below =
    let name = lock_name names lock in
    let at : position_or_len (bytes_eq name) names ≡ lock =
    first_at (bytes_eq name) names lock [] below ((bytes_eq-Decides name name).1 refl) (λ k less. unlike name (lock_name names k) (λ same. absurd (omega (arith, are.once lock k below (omega arith) same)))) in
    rw at (rw (lt-ltb lock (length names) below) refl)

-- ---- last jobs

abbrev pub receipt_data : List (List ℕ) → ClientReceipt → Data
receipt_data names told =
    object
    (member (codes "lock") (string (lock_name names told.lock))
    (member (codes "number") (number (unsigned told.number))
    (member (codes "place") (number (unsigned told.place))
    (member (codes "reply") (number (unsigned told.reply)) (member (codes "worker") (number (unsigned told.worker)) no_members)))))

abbrev pub last_job_data : List (List ℕ) → LastJob → Data
last_job_data names Nothing = null
last_job_data names Withdrawn = object (member (codes "withdrawn") (boolean true) no_members)
last_job_data names (Receipt told) = receipt_data names told

receipt_utf8 : (names : List (List ℕ)) (told : ClientReceipt) → AreLockNames names → IsWritableReceipt names told → IsUtf8 (receipt_text names (as_receipt told))
receipt_utf8 names told are may =
    let name = lock_name names told.lock in
    let plain : IsUtf8 name = IsUtf8-are_ascii name (name_ascii name (name_bytes name (are.valid told.lock may.lock))) in
    let number_utf8 = decimal_utf8 told.number (omega (arith, may.number)) in
    let place_utf8 = decimal_utf8 told.place (omega (arith, may.place)) in
    let worker_utf8 = decimal_utf8 told.worker (omega (arith, may.worker)) in
    let worker = then_utf8 (codes ",\"worker\":") _ refl (IsUtf8-append _ _ worker_utf8 (IsUtf8-are_ascii (codes "}") refl)) in
    let reply = then_utf8 (codes ",\"reply\":") _ refl (IsUtf8-append _ _ (decimal_utf8 told.reply may.reply) worker) in
    let place = then_utf8 (codes ",\"place\":") _ refl (IsUtf8-append _ _ place_utf8 reply) in
    let number = then_utf8 (codes "\",\"number\":") _ refl (IsUtf8-append _ _ number_utf8 place) in
    then_utf8 (codes "{\"lock\":\"") _ refl (IsUtf8-append _ _ plain number)

pub quoted_plain : (name rest : List ℕ) → escape name ≡ name → quoted name ++ rest ≡ 34 ∷ (name ++ 34 ∷ rest)
quoted_plain name rest plain = ap (λ (text : List ℕ). 34 ∷ ((text ++ 34 ∷ []) ++ rest)) plain ∙ ap (λ (text : List ℕ). 34 ∷ text) (append_assoc name (34 ∷ []) rest)

receipt_same : (names : List (List ℕ)) (told : ClientReceipt) → escape (lock_name names told.lock) ≡ lock_name names told.lock → receipt_text names (as_receipt told) ≡ compact_text (receipt_data names told)
unfolding escape_byte
receipt_same names told plain = ap (λ (text : List ℕ). codes "{\"lock\":" ++ text) (sym (quoted_plain (lock_name names told.lock) _ plain))

receipt_back : (names : List (List ℕ)) (told : ClientReceipt) → IsWritableReceipt names told → of_json (outline (receipt_data names told)) ≡ Some (receipt_data names told)
receipt_back names told may =
    rw (
      number_of-decimal told.number (omega (arith, may.number)),
      number_of-decimal told.place (omega (arith, may.place)),
      number_of-decimal told.reply may.reply,
      number_of-decimal told.worker (omega (arith, may.worker)),
    ) refl

receipt_written : (names : List (List ℕ)) (told : ClientReceipt) → AreLockNames names → IsWritableReceipt names told → IsTextOf 1 (receipt_data names told) (receipt_text names (as_receipt told))
receipt_written names told are may =
    record {
      is = receipt_same names told (name_plain (lock_name names told.lock) (name_bytes (lock_name names told.lock) (are.valid told.lock may.lock)));
      utf8 = receipt_utf8 names told are may;
      numbers = (
        tt,
        (IsNumber-decimal told.number (omega (arith, may.number)), (IsNumber-decimal told.place (omega (arith, may.place)), (IsNumber-decimal told.reply may.reply, (IsNumber-decimal told.worker (omega (arith, may.worker)), tt)))),
      );
      shallow = omega arith;
      back = receipt_back names told may;
    }

receipt_tells : (names : List (List ℕ)) (told : ClientReceipt) → AreLockNames names → IsWritableReceipt names told → IsReceiptObject names (receipt_data names told) told
receipt_tells names told are may =
    record {
      five = refl;
      worker = (refl, may.worker);
      lock = (lock_name names told.lock, refl, number_of_name names told.lock are may.lock);
      number = (refl, may.number);
      place = (refl, may.place);
      reply = refl;
    }

last_job_written : (names : List (List ℕ)) (word : LastJob) → AreLockNames names → IsWritableLastJob names word → IsTextOf 1 (last_job_data names word) (last_job_text names word)
unfolding escape_byte
last_job_written names Nothing are may = record { is = refl; utf8 = IsUtf8-are_ascii _ refl; numbers = tt; shallow = omega arith; back = refl }
last_job_written names Withdrawn are may = record { is = refl; utf8 = IsUtf8-are_ascii _ refl; numbers = (tt, tt); shallow = omega arith; back = refl }
last_job_written names (Receipt told) are may = receipt_written names told are may

last_job_tells : (names : List (List ℕ)) (word : LastJob) → AreLockNames names → IsWritableLastJob names word → IsLastJobObject names (last_job_data names word) word
last_job_tells names Nothing are may = refl
last_job_tells names Withdrawn are may = (refl, refl)
last_job_tells names (Receipt told) are may = receipt_tells names told are may

-- ---- counts

place_data : ℤ → Data
place_data (pos n) = number (unsigned n)
place_data (negsuc n) = number (negative (negsuc n))

place_written : (place : ℤ) → unsigned_abs place ≤ 2 ^ 53 → IsTextOf 1 (place_data place) (signed_decimal place)
unfolding place_data
place_written (pos n) few =
    let it = number_written n (omega (arith, few)) in record { is = it.is; utf8 = it.utf8; numbers = it.numbers; shallow = omega arith; back = it.back }
place_written (negsuc n) few =
    record {
      is = refl;
      utf8 = IsUtf8-from_ascii _ (IsAscii-signed (negsuc n) (omega (arith, few)));
      numbers = IsNumber-signed_decimal (negsuc n) (omega (arith, few));
      shallow = omega arith;
      back = ap (option_map number) (number_of-negative n (omega (arith, few)));
    }

place_tells : (place : ℤ) → unsigned_abs place ≤ 2 ^ 53 → IsPlaceCount (place_data place) place
unfolding place_data
place_tells (pos n) few = (rw (lt-ltb n (2 ^ 63) (omega (arith, few))) refl, few)
place_tells (negsuc n) few = (refl, few)

-- ---- the header

pub header_data : List (List ℕ) → HeaderValues → Data
header_data names past =
    object
    (member (codes "epoch") (number (unsigned past.epoch))
    (member (codes "last") (array (items_of (last_job_data names) past.last))
    (member (codes "lives") (array (items_of (λ n. number (unsigned n)) past.lives))
    (member (codes "numbers") (array (items_of (λ n. number (unsigned n)) past.numbers))
    (member (codes "places") (array (items_of place_data past.places)) (member (codes "rme") (string (codes "kept")) (member (codes "version") (number (unsigned 2)) no_members)))))))

number_item : (n : ℕ) → n ≤ 2 ^ 53 → IsTextOf 1 (number (unsigned n)) (decimal n)
number_item n few = let it = number_written n (omega arith) in record { is = it.is; utf8 = it.utf8; numbers = it.numbers; shallow = omega arith; back = it.back }

pub array_then : {A : Type 0} (text : A → List ℕ) (data_of : A → Data) (xs : List A) (rest : List ℕ) → AreWritten text data_of xs → separated_text text false xs ++ (93 ∷ rest) ≡ items_text false (items_of data_of xs) ++ rest
array_then text data_of xs rest all =
    sym (append_assoc (separated_text text false xs) (93 ∷ []) rest) ∙ ap (λ (front : List ℕ). front ++ rest) (items_same text data_of false xs all)

module _ (names : List (List ℕ)) (past : HeaderValues) (are : AreLockNames names) (may : IsWritableHeader names past) where
  words : AreWritten (last_job_text names) (last_job_data names) past.last
  words = written (last_job_text names) (last_job_data names) past.last (λ word k below is. last_job_written names word are (subst (IsWritableLastJob names) is (may.last k word below)))

  lives : AreWritten decimal (λ n. number (unsigned n)) past.lives
  lives = written decimal (λ n. number (unsigned n)) past.lives (λ n k below is. number_item n (subst (λ (m : ℕ). m ≤ 2 ^ 53) is (may.lives k n below)))

  numbers : AreWritten decimal (λ n. number (unsigned n)) past.numbers
  numbers = written decimal (λ n. number (unsigned n)) past.numbers (λ n k below is. number_item n (subst (λ (m : ℕ). m ≤ 2 ^ 53) is (may.numbers k n below)))

  places : AreWritten signed_decimal place_data past.places
  places = written signed_decimal place_data past.places (λ place k below is. place_written place (subst (λ (z : ℤ). unsigned_abs z ≤ 2 ^ 53) is (may.places k place below)))

  header_same : header_text names past ≡ compact_text (header_data names past)
  unfolding header_data escape_byte
  header_same =
      let end : List ℕ = codes ",\"rme\":\"kept\",\"version\":" ++ (decimal 2 ++ 125 ∷ []) in
      let two : 50 ∷ [] ≡ decimal 2 = sym (decimal_digit 2 (omega arith)) in
      let from_places : places_text past.places ++ codes "],\"rme\":\"kept\",\"version\":2}" ≡ items_text false (items_of place_data past.places) ++ end =
      ap (λ (digit : List ℕ). places_text past.places ++ (codes "],\"rme\":\"kept\",\"version\":" ++ (digit ++ 125 ∷ []))) two ∙ array_then signed_decimal place_data past.places end places in
      let last_places : List ℕ = codes ",\"places\":[" ++ (items_text false (items_of place_data past.places) ++ end) in
      let from_numbers : numbers_text past.numbers ++ (codes "],\"places\":[" ++ (places_text past.places ++ codes "],\"rme\":\"kept\",\"version\":2}")) ≡ items_text false (items_of (λ n. number (unsigned n)) past.numbers) ++ last_places =
      ap (λ (rest : List ℕ). numbers_text past.numbers ++ (codes "],\"places\":[" ++ rest)) from_places ∙ array_then decimal (λ n. number (unsigned n)) past.numbers last_places numbers in
      let last_numbers : List ℕ = codes ",\"numbers\":[" ++ (items_text false (items_of (λ n. number (unsigned n)) past.numbers) ++ last_places) in
      let from_lives : numbers_text past.lives ++ (codes "],\"numbers\":[" ++ (numbers_text past.numbers ++ (codes "],\"places\":[" ++ (places_text past.places ++ codes "],\"rme\":\"kept\",\"version\":2}")))) ≡ items_text false (items_of (λ n. number (unsigned n)) past.lives) ++ last_numbers =
      ap (λ (rest : List ℕ). numbers_text past.lives ++ (codes "],\"numbers\":[" ++ rest)) from_numbers ∙ array_then decimal (λ n. number (unsigned n)) past.lives last_numbers lives in
      let last_lives : List ℕ = codes ",\"lives\":[" ++ (items_text false (items_of (λ n. number (unsigned n)) past.lives) ++ last_numbers) in
      ap (λ (rest : List ℕ). codes "{\"epoch\":" ++ (decimal past.epoch ++ (codes ",\"last\":[" ++ (last_jobs_text names past.last ++ (codes "],\"lives\":[" ++ rest))))) from_lives
      ∙ ap (λ (rest : List ℕ). codes "{\"epoch\":" ++ (decimal past.epoch ++ (codes ",\"last\":[" ++ rest))) (array_then (last_job_text names) (last_job_data names) past.last last_lives words)

  header_utf8 : IsUtf8 (header_text names past)
  header_utf8 =
      let from_places = IsUtf8-append _ _ (items_utf8 signed_decimal place_data false past.places places) (IsUtf8-are_ascii (codes "],\"rme\":\"kept\",\"version\":2}") refl) in
      let from_numbers = IsUtf8-append _ _ (items_utf8 decimal (λ n. number (unsigned n)) false past.numbers numbers) (then_utf8 (codes "],\"places\":[") _ refl from_places) in
      let from_lives = IsUtf8-append _ _ (items_utf8 decimal (λ n. number (unsigned n)) false past.lives lives) (then_utf8 (codes "],\"numbers\":[") _ refl from_numbers) in
      let from_last = IsUtf8-append _ _ (items_utf8 (last_job_text names) (last_job_data names) false past.last words) (then_utf8 (codes "],\"lives\":[") _ refl from_lives) in
      then_utf8 (codes "{\"epoch\":") _ refl (IsUtf8-append _ _ (decimal_utf8 past.epoch may.epoch) (then_utf8 (codes ",\"last\":[") _ refl from_last))

  header_numbers : HasNumbers (outline (header_data names past))
  unfolding header_data
  header_numbers = (
    IsNumber-decimal past.epoch may.epoch,
    (
      items_numbers (last_job_text names) (last_job_data names) past.last words,
      (
        items_numbers decimal (λ n. number (unsigned n)) past.lives lives,
        (
          items_numbers decimal (λ n. number (unsigned n)) past.numbers numbers,
          (items_numbers signed_decimal place_data past.places places, (tt, (IsNumber-decimal 2 (omega arith), tt))),
        ),
      ),
    ),
  )

  header_shallow : depth (outline (header_data names past)) ≤ 127
  unfolding header_data
  header_shallow =
      omega (
        arith,
        items_shallow (last_job_text names) (last_job_data names) past.last words,
        items_shallow decimal (λ n. number (unsigned n)) past.lives lives,
        items_shallow decimal (λ n. number (unsigned n)) past.numbers numbers,
        items_shallow signed_decimal place_data past.places places,
      )

  header_back : of_json (outline (header_data names past)) ≡ Some (header_data names past)
  unfolding header_data
  header_back =
      rw (
        number_of-decimal past.epoch may.epoch,
        items_back (last_job_text names) (last_job_data names) past.last words,
        items_back decimal (λ n. number (unsigned n)) past.lives lives,
        items_back decimal (λ n. number (unsigned n)) past.numbers numbers,
        items_back signed_decimal place_data past.places places,
        number_of-decimal 2 (omega arith),
      ) refl

  header_reads : json_value_of (header_text names past) ≡ Some (header_data names past)
  header_reads =
      value_of_text 127 (header_data names past) (header_text names past) (omega arith) record {
        is = header_same;
        utf8 = header_utf8;
        numbers = header_numbers;
        shallow = header_shallow;
        back = header_back;
      }

  header_version : IsLogVersion (header_data names past)
  unfolding header_data
  header_version = record { members = refl; rme = refl; version = inr refl }

  header_tells : HasHeaderMembers names (header_data names past) past
  unfolding header_data
  header_tells =
      record {
        epoch = refl;
        last = (
          items_of (last_job_data names) past.last,
          refl,
          items_tell (last_job_text names) (last_job_data names) (IsLastJobObject names) past.last (λ word k below is. last_job_tells names word are (subst (IsWritableLastJob names) is (may.last k word below))),
        );
        lives = (
          items_of (λ n. number (unsigned n)) past.lives,
          refl,
          items_tell decimal (λ n. number (unsigned n)) IsJobCount past.lives (λ n k below is. (refl, subst (λ (m : ℕ). m ≤ 2 ^ 53) is (may.lives k n below))),
        );
        numbers = (
          items_of (λ n. number (unsigned n)) past.numbers,
          refl,
          items_tell decimal (λ n. number (unsigned n)) IsJobCount past.numbers (λ n k below is. (refl, subst (λ (m : ℕ). m ≤ 2 ^ 53) is (may.numbers k n below))),
        );
        places = (
          items_of place_data past.places,
          refl,
          items_tell signed_decimal place_data IsPlaceCount past.places (λ place k below is. place_tells place (subst (λ (z : ℤ). unsigned_abs z ≤ 2 ^ 53) is (may.places k place below))),
        );
      }

  pub header_read_back : (shape : Shape) → IsPossibleHeader shape past → IsLogHeader names shape (header_text names past) past
  header_read_back shape possible =
      record {
        value = header_data names past;
        reads = header_reads;
        version = header_version;
        tells = header_tells;
        may = possible;
      }
