-- The text of a submission is a line that asks for it.
use Rattle.std.proofs.Common.{◌≡◌, ℕ, suc, ◌*◌, ◌^◌, ◌<◌, ◌≤◌, List, [], ◌∷◌, ◌++◌, length, length-append, take, min, Bool, true, false, codes, decimal, Some, option_and_then, refl, sym, ap, ◌∙◌, arith, append_assoc, lt-ltb, IsUtf8}
use Rattle.std.specs.List.{All, list_all}
use Rattle.std.proofs.lemmas.Fmt.{length-decimal-le}
use Rattle.std.proofs.lemmas.List.{take_all}
use Rattle.std.proofs.lemmas.Str.{IsUtf8-append}
use Rattle.json.specs.Print.{escape_byte}
use Rattle.json.proofs.Printed.Decimals.{IsNumber-decimal}
use Rattle.json.proofs.Printed.Utf8.{IsUtf8-are_ascii, are_ascii}
use Rattle.serde_json.specs.Data.{Data, number, string, array, object, unsigned, no_items, item, no_members, member}
use Rattle.serde_json.specs.Written.{compact_text, items_text}
use Rattle.serde_json.proofs.Numbers.{number_of-decimal}
use Rattle.rme_script.specs.declared.job.Job.{Job}
use Rattle.rme_script.specs.declared.op.Op.{Op}
use Rattle.rme_script.specs.declared.op.Op.TheVariants.{Get, Set, Add, Copy, Swap}
use Rattle.rme_line_text.specs.Names.{is_name_byte}
use Rattle.rme_line_text.specs.Texts.{comma_text, lock_name, op_text, separated_text}
use Rattle.rme_wire.specs.Commands.{command_named, lock_member, lock_number, submit_of, worker_member}
use Rattle.rme_wire.specs.Operations.{op_of_value, ops_of_items, script_of_value}
use Rattle.rme_wire.specs.Requests.{request_of_value}
use Rattle.rme_wire.specs.Values.{do_member, json_value_of, whole_u32}
use Rattle.rme_wire.specs.declared.command.Command.TheVariants.{Submit}
use Rattle.rme_wire.specs.declared.request.Request.TheVariants.{World}
use Rattle.rme_durable_format.specs.CommandLines.{IsCommandLine, is_no_newline}
use Rattle.rme_durable_format.specs.CommandTexts.{FitsLine, IsWritableJob, submission_text}
use Rattle.rme_durable_format.specs.HeaderTexts.{AreLockNames}
use Rattle.rme_durable_format.proofs.Growing.{one_piece}
use Rattle.rme_durable_format.proofs.HeaderLines.{array_then, name_ascii, name_bytes, name_no_newline, name_plain, name_short, number_of_name, quoted_plain}
use Rattle.rme_durable_format.proofs.CommandReading.{both_plain, decimal_plain}
use Rattle.rme_durable_format.proofs.JsonTexts.{AreWritten, IsTextOf, decimal_utf8, items_back, items_numbers, items_of, items_shallow, items_utf8, then_utf8, value_of_text}

-- ---- one operation

one_data : List ℕ → ℕ → Data
one_data word c = array (item (string word) (item (number (unsigned c)) no_items))

two_data : List ℕ → ℕ → ℕ → Data
two_data word c v = array (item (string word) (item (number (unsigned c)) (item (number (unsigned v)) no_items)))

op_data : Op → Data
op_data (Get c) = one_data (codes "get") c
op_data (Set c v) = two_data (codes "set") c v
op_data (Add c v) = two_data (codes "add") c v
op_data (Copy a b) = two_data (codes "copy") a b
op_data (Swap a b) = two_data (codes "swap") a b

-- A text of two numbers behind a word.
two_utf8 : (front : List ℕ) (c v : ℕ) → are_ascii front ≡ true → c < 2 ^ 64 → v < 2 ^ 64 → IsUtf8 (front ++ (decimal c ++ (codes "," ++ (decimal v ++ codes "]"))))
two_utf8 front c v plain few less =
    let end = IsUtf8-append (decimal v) (codes "]") (decimal_utf8 v less) (IsUtf8-are_ascii (codes "]") refl) in
    then_utf8 front _ plain (IsUtf8-append (decimal c) _ (decimal_utf8 c few) (then_utf8 (codes ",") _ refl end))

two_piece : (front : List ℕ) (c v : ℕ) → list_all is_no_newline front ≡ true → c < 2 ^ 64 → v < 2 ^ 64 → list_all is_no_newline (front ++ (decimal c ++ (codes "," ++ (decimal v ++ codes "]")))) ≡ true
two_piece front c v plain few less =
    let end = both_plain (decimal v) (codes "]") (decimal_plain v less) refl in
    both_plain front (decimal c ++ (codes "," ++ (decimal v ++ codes "]"))) plain
    (both_plain (decimal c) (codes "," ++ (decimal v ++ codes "]")) (decimal_plain c few) (both_plain (codes ",") (decimal v ++ codes "]") refl end))

two_short : (front : List ℕ) (c v : ℕ) → length front ≤ 12 → c < 2 ^ 64 → v < 2 ^ 64 → length (front ++ (decimal c ++ (codes "," ++ (decimal v ++ codes "]")))) ≤ 60
two_short front c v short few less =
    let first = length-decimal-le 20 c (omega arith) (omega (arith, few)) few in
    let second = length-decimal-le 20 v (omega arith) (omega (arith, less)) less in
    let end = length-append (decimal v) (codes "]") in
    let behind = length-append (decimal c) (codes "," ++ (decimal v ++ codes "]")) in
    let all = length-append front (decimal c ++ (codes "," ++ (decimal v ++ codes "]"))) in omega (arith, first, second, end, behind, all, short)

-- What a submission's text needs of an operation's.
record IsOpText (o : Op) : Type 0 where
  pub text : IsTextOf 1 (op_data o) (op_text o)
  pub asks : op_of_value (op_data o) ≡ Some o
  pub piece : list_all is_no_newline (op_text o) ≡ true
  pub short : length (op_text o) ≤ 60

op_is_text : (o : Op) → FitsLine o → IsOpText o
unfolding op_data one_data two_data escape_byte op_of_value whole_u32
op_is_text (Get c) few =
    let many : c < 2 ^ 64 = omega (arith, few) in
    let digits = length-decimal-le 10 c (omega arith) (omega (arith, few)) many in
    record {
      text =
          record {
            is = refl;
            utf8 = then_utf8 (codes "[\"get\",") _ refl (IsUtf8-append (decimal c) (codes "]") (decimal_utf8 c many) (IsUtf8-are_ascii (codes "]") refl));
            numbers = (tt, (IsNumber-decimal c many, tt));
            shallow = omega arith;
            back = rw (number_of-decimal c many) refl;
          };
      asks = rw (lt-ltb c (2 ^ 32) few) refl;
      piece = both_plain (codes "[\"get\",") (decimal c ++ codes "]") refl (both_plain (decimal c) (codes "]") (decimal_plain c many) refl);
      short = let end = length-append (decimal c) (codes "]") in omega (arith, digits, end);
    }
op_is_text (Set c v) fits =
    let many : c < 2 ^ 64 = omega (arith, fits.0) in
    record {
      text =
          record {
            is = refl;
            utf8 = two_utf8 (codes "[\"set\",") c v refl many fits.1;
            numbers = (tt, (IsNumber-decimal c many, (IsNumber-decimal v fits.1, tt)));
            shallow = omega arith;
            back = rw (number_of-decimal c many, number_of-decimal v fits.1) refl;
          };
      asks = rw (lt-ltb c (2 ^ 32) fits.0) refl;
      piece = two_piece (codes "[\"set\",") c v refl many fits.1;
      short = two_short (codes "[\"set\",") c v (omega arith) many fits.1;
    }
op_is_text (Add c v) fits =
    let many : c < 2 ^ 64 = omega (arith, fits.0) in
    record {
      text =
          record {
            is = refl;
            utf8 = two_utf8 (codes "[\"add\",") c v refl many fits.1;
            numbers = (tt, (IsNumber-decimal c many, (IsNumber-decimal v fits.1, tt)));
            shallow = omega arith;
            back = rw (number_of-decimal c many, number_of-decimal v fits.1) refl;
          };
      asks = rw (lt-ltb c (2 ^ 32) fits.0) refl;
      piece = two_piece (codes "[\"add\",") c v refl many fits.1;
      short = two_short (codes "[\"add\",") c v (omega arith) many fits.1;
    }
op_is_text (Copy a b) fits =
    let many : a < 2 ^ 64 = omega (arith, fits.0) in
    let more : b < 2 ^ 64 = omega (arith, fits.1) in
    record {
      text =
          record {
            is = refl;
            utf8 = two_utf8 (codes "[\"copy\",") a b refl many more;
            numbers = (tt, (IsNumber-decimal a many, (IsNumber-decimal b more, tt)));
            shallow = omega arith;
            back = rw (number_of-decimal a many, number_of-decimal b more) refl;
          };
      asks = rw (lt-ltb a (2 ^ 32) fits.0, lt-ltb b (2 ^ 32) fits.1) refl;
      piece = two_piece (codes "[\"copy\",") a b refl many more;
      short = two_short (codes "[\"copy\",") a b (omega arith) many more;
    }
op_is_text (Swap a b) fits =
    let many : a < 2 ^ 64 = omega (arith, fits.0) in
    let more : b < 2 ^ 64 = omega (arith, fits.1) in
    record {
      text =
          record {
            is = refl;
            utf8 = two_utf8 (codes "[\"swap\",") a b refl many more;
            numbers = (tt, (IsNumber-decimal a many, (IsNumber-decimal b more, tt)));
            shallow = omega arith;
            back = rw (number_of-decimal a many, number_of-decimal b more) refl;
          };
      asks = rw (lt-ltb a (2 ^ 32) fits.0, lt-ltb b (2 ^ 32) fits.1) refl;
      piece = two_piece (codes "[\"swap\",") a b refl many more;
      short = two_short (codes "[\"swap\",") a b (omega arith) many more;
    }

-- ---- the operations of a script

abbrev AreOpTexts : List Op → Type 0
AreOpTexts [] = Unit {0}
AreOpTexts (o ∷ ops) = IsOpText o × AreOpTexts ops

op_texts : (ops : List Op) → All FitsLine ops → AreOpTexts ops
op_texts [] all = tt
op_texts (o ∷ ops) all = (op_is_text o (all 0 o (omega arith)), op_texts ops (λ k d below. all (suc k) d (omega arith)))

ops_written : (ops : List Op) → AreOpTexts ops → AreWritten op_text op_data ops
ops_written [] all = tt
ops_written (o ∷ ops) all = (all.0.text, ops_written ops all.1)

ops_asked : (ops : List Op) → AreOpTexts ops → ops_of_items (items_of op_data ops) ≡ Some ops
unfolding ops_of_items
ops_asked [] all = refl
ops_asked (o ∷ ops) all = rw (all.0.asks, ops_asked ops all.1) refl

comma_piece : (later : Bool) → list_all is_no_newline (comma_text later) ≡ true
comma_piece true = refl
comma_piece false = refl

comma_short : (later : Bool) → length (comma_text later) ≤ 1
comma_short true = omega arith
comma_short false = omega arith

ops_piece : (later : Bool) (ops : List Op) → AreOpTexts ops → list_all is_no_newline (separated_text op_text later ops) ≡ true
ops_piece later [] all = refl
ops_piece later (o ∷ ops) all =
    both_plain (comma_text later) (op_text o ++ separated_text op_text true ops) (comma_piece later) (both_plain (op_text o) (separated_text op_text true ops) all.0.piece (ops_piece true ops all.1))

ops_short : (later : Bool) (ops : List Op) → AreOpTexts ops → length (separated_text op_text later ops) ≤ length ops * 61
ops_short later [] all = omega arith
ops_short later (o ∷ ops) all =
    let rest = separated_text op_text true ops in
    let front = length-append (comma_text later) (op_text o ++ rest) in
    let here = length-append (op_text o) rest in omega (arith, front, here, comma_short later, all.0.short, ops_short true ops all.1)

-- ---- the submission

submission_data : List (List ℕ) → ℕ → Job → Data
submission_data names worker job =
    object
    (member (codes "do") (string (codes "submit"))
    (member (codes "lock") (string (lock_name names job.lock))
    (member (codes "script") (array (items_of op_data job.script.ops)) (member (codes "worker") (number (unsigned worker)) no_members))))

module _ (names : List (List ℕ)) (worker : ℕ) (job : Job) (are : AreLockNames names) (few : worker < 2 ^ 32) (may : IsWritableJob names job) where
  name_valid : list_all is_name_byte (lock_name names job.lock) ≡ true
  name_valid = name_bytes (lock_name names job.lock) (are.valid job.lock may.lock)

  all_ops : AreOpTexts job.script.ops
  all_ops = op_texts job.script.ops may.script.fit

  worker_end : List ℕ
  worker_end = codes ",\"worker\":" ++ (decimal worker ++ codes "}")

  submission_same : submission_text names worker job ≡ compact_text (submission_data names worker job)
  unfolding submission_data worker_end escape_byte
  submission_same =
      let name = lock_name names job.lock in
      let ops = separated_text op_text false job.script.ops in
      let items = items_text false (items_of op_data job.script.ops) in
      append_assoc (codes "{\"do\":\"submit\",\"lock\":\"") (name ++ codes "\",\"script\":[") (ops ++ (93 ∷ worker_end))
      ∙ ap (λ (rest : List ℕ). codes "{\"do\":\"submit\",\"lock\":\"" ++ rest) (append_assoc name (codes "\",\"script\":[") (ops ++ (93 ∷ worker_end)))
      ∙ ap (λ (rest : List ℕ). codes "{\"do\":\"submit\",\"lock\":\"" ++ (name ++ (codes "\",\"script\":[" ++ rest))) (array_then op_text op_data job.script.ops worker_end (ops_written job.script.ops all_ops))
      ∙ ap (λ (rest : List ℕ). codes "{\"do\":\"submit\",\"lock\":" ++ rest) (sym (quoted_plain name (codes ",\"script\":[" ++ (items ++ worker_end)) (name_plain name name_valid)))

  submission_utf8 : IsUtf8 (submission_text names worker job)
  submission_utf8 =
      let many : worker < 2 ^ 64 = omega (arith, few) in
      let name = IsUtf8-are_ascii (lock_name names job.lock) (name_ascii (lock_name names job.lock) name_valid) in
      let front = then_utf8 (codes "{\"do\":\"submit\",\"lock\":\"") _ refl (IsUtf8-append (lock_name names job.lock) _ name (IsUtf8-are_ascii (codes "\",\"script\":[") refl)) in
      let end = IsUtf8-append (decimal worker) (codes "}") (decimal_utf8 worker many) (IsUtf8-are_ascii (codes "}") refl) in
      IsUtf8-append _ _ front (IsUtf8-append _ _ (items_utf8 op_text op_data false job.script.ops (ops_written job.script.ops all_ops)) (then_utf8 (codes "],\"worker\":") _ refl end))

  submission_piece : list_all is_no_newline (submission_text names worker job) ≡ true
  submission_piece =
      let name = lock_name names job.lock in
      let ops = separated_text op_text false job.script.ops in
      let front = both_plain (codes "{\"do\":\"submit\",\"lock\":\"") (name ++ codes "\",\"script\":[") refl (both_plain name (codes "\",\"script\":[") (name_no_newline name name_valid) refl) in
      let end = both_plain (decimal worker) (codes "}") (decimal_plain worker (omega (arith, few))) refl in
      both_plain (codes "{\"do\":\"submit\",\"lock\":\"" ++ (name ++ codes "\",\"script\":[")) (ops ++ (codes "],\"worker\":" ++ (decimal worker ++ codes "}"))) front
      (both_plain ops (codes "],\"worker\":" ++ (decimal worker ++ codes "}")) (ops_piece false job.script.ops all_ops) (both_plain (codes "],\"worker\":") (decimal worker ++ codes "}") refl end))

  submission_short : length (submission_text names worker job) ≤ 65536
  submission_short =
      let name = lock_name names job.lock in
      let ops = separated_text op_text false job.script.ops in
      let whole = length-append (codes "{\"do\":\"submit\",\"lock\":\"" ++ (name ++ codes "\",\"script\":[")) (ops ++ (codes "],\"worker\":" ++ (decimal worker ++ codes "}"))) in
      let front = length-append name (codes "\",\"script\":[") in
      let behind = length-append ops (codes "],\"worker\":" ++ (decimal worker ++ codes "}")) in
      let end = length-append (decimal worker) (codes "}") in
      let digits = length-decimal-le 10 worker (omega arith) (omega (arith, few)) (omega (arith, few)) in
      let script = ops_short false job.script.ops all_ops in
      let short = name_short name (are.valid job.lock may.lock) in omega (arith, whole, front, behind, end, digits, script, short, may.script.few)

  submission_value : json_value_of (submission_text names worker job) ≡ Some (submission_data names worker job)
  unfolding submission_data
  submission_value =
      let many : worker < 2 ^ 64 = omega (arith, few) in
      let ops = ops_written job.script.ops all_ops in
      value_of_text 3 (submission_data names worker job) (submission_text names worker job) (omega arith) record {
        is = submission_same;
        utf8 = submission_utf8;
        numbers = (tt, (tt, (items_numbers op_text op_data job.script.ops ops, (IsNumber-decimal worker many, tt))));
        shallow = omega (arith, items_shallow op_text op_data job.script.ops ops);
        back = rw (number_of-decimal worker many, items_back op_text op_data job.script.ops ops) refl;
      }

  script_asked : script_of_value (array (items_of op_data job.script.ops)) ≡ Some job.script
  unfolding script_of_value
  script_asked =
      let count : min (length job.script.ops) 9 ≡ job.script.n = omega (arith, may.script.count, may.script.few) in
      let same : record { n = min (length job.script.ops) 9; ops = take 8 job.script.ops } ≡ job.script = rw (count, take_all 8 job.script.ops may.script.few) refl in
      rw (ops_asked job.script.ops all_ops) (ap Some same)

  submission_request : request_of_value names (submission_data names worker job) ≡ Some (World (Submit worker job))
  unfolding submission_data request_of_value do_member command_named submit_of worker_member lock_member lock_number whole_u32
  submission_request = rw (lt-ltb worker (2 ^ 32) few, number_of_name names job.lock are may.lock, script_asked) refl

  pub submission_line : IsCommandLine names (Submit worker job) (submission_text names worker job)
  submission_line =
      record {
        asks = ap (option_and_then (request_of_value names)) submission_value ∙ submission_request;
        piece = one_piece (submission_text names worker job) submission_piece;
        short = submission_short;
      }
