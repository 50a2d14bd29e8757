-- The texts of commands are lines that ask for them.
use Rattle.std.proofs.Common.{IsUtf8, option_and_then, ◌≡◌, ◌≢◌, ℕ, ◌^◌, ◌<◌, ◌≤◌, List, [], ◌∷◌, ◌++◌, length, length-append, true, codes, decimal, Option, Some, None, refl, sym, ap, ◌∙◌, subst, arith, inl, inr, lt-ltb, le-leb}
use Rattle.std.specs.Prelude.{IfErr, Result, Ok, Err}
use Rattle.std.specs.List.{list_all}
use Rattle.std.specs.Char.{digit_value}
use Rattle.std.specs.Str.Parse.{AllDigits}
use Rattle.std.proofs.lemmas.Bool.{and_from, and_parts, ne_eqb}
use Rattle.std.proofs.lemmas.Fmt.{decimal_is_IsNumeral, length-decimal-le}
use Rattle.std.proofs.lemmas.Str.{IsUtf8-append}
use Rattle.json.specs.Print.{escape, escape_byte}
use Rattle.json.proofs.Printed.Decimals.{IsNumber-decimal}
use Rattle.json.proofs.Printed.Utf8.{IsUtf8-are_ascii, are_ascii}
use Rattle.serde_json.specs.Data.{Data, number, string, object, unsigned, no_members, member}
use Rattle.serde_json.specs.Written.{compact_text}
use Rattle.serde_json.proofs.Numbers.{number_of-decimal}
use Rattle.rme_wire.specs.Commands.{command_named, command_of_worker, max_of, walk_of, worker_member}
use Rattle.rme_wire.specs.Requests.{request_of_value}
use Rattle.rme_wire.specs.Values.{do_member, whole_u32, json_value_of}
use Rattle.rme_wire.specs.declared.command.Command.{Command}
use Rattle.rme_wire.specs.declared.command.Command.TheVariants.{Walk, Crash, Restart, Withdraw}
use Rattle.rme_wire.specs.declared.command.Until.{Until}
use Rattle.rme_wire.specs.declared.command.Walk as wire
use Rattle.rme_wire.specs.declared.request.Request.TheVariants.{World}
use Rattle.rme_durable_format.specs.CommandLines.{IsCommandLine, is_no_newline}
use Rattle.rme_durable_format.specs.CommandTexts.{AlwaysHasLine, HasNoLine, OneHasNoLine, command_text, walk_text, worker_text}
use Rattle.rme_durable_format.specs.declared.fault.LineFault.{LineFault}
use Rattle.rme_durable_format.specs.declared.fault.LineFault.TheVariants as fault
use Rattle.rme_durable_format.proofs.Growing.{one_piece}
use Rattle.rme_durable_format.proofs.HeaderLines.{quoted_plain}
use Rattle.rme_durable_format.proofs.JsonTexts.{decimal_utf8, then_utf8, value_of_text}

-- ---- no newlines

digit_plain : (c : ℕ) → digit_value c < 10 → is_no_newline c ≡ true
digit_plain c small = let other : c ≢ 10 = λ is. absurd (let e : digit_value c ≡ digit_value 10 = ap digit_value is in omega (arith, e)) in rw (ne_eqb c 10 other) refl

digits_plain : (cs : List ℕ) → AllDigits 10 cs → list_all is_no_newline cs ≡ true
digits_plain [] all = refl
digits_plain (c ∷ cs) all = and_from _ _ (digit_plain c all.0) (digits_plain cs all.1)

pub decimal_plain : (n : ℕ) → n < 2 ^ 64 → list_all is_no_newline (decimal n) ≡ true
decimal_plain n few = digits_plain (decimal n) (decimal_is_IsNumeral n few).0.1

pub both_plain : (front rest : List ℕ) → list_all is_no_newline front ≡ true → list_all is_no_newline rest ≡ true → list_all is_no_newline (front ++ rest) ≡ true
both_plain [] rest one two = two
both_plain (c ∷ front) rest one two = let parts = and_parts (is_no_newline c) (list_all is_no_newline front) one in and_from _ _ parts.0 (both_plain front rest parts.1 two)

-- ---- commands of a worker

worker_data : List ℕ → ℕ → Data
worker_data word worker = object (member (codes "do") (string word) (member (codes "worker") (number (unsigned worker)) no_members))

-- A word that needs no escape.
record IsPlainWord (word : List ℕ) : Type 0 where
  pub same : escape word ≡ word
  pub ascii : are_ascii word ≡ true
  pub piece : list_all is_no_newline word ≡ true
  pub short : length word ≤ 16

module _ (word : List ℕ) (worker : ℕ) (plain : IsPlainWord word) (few : worker < 2 ^ 32) where
  worker_utf8 : IsUtf8 (worker_text word worker)
  worker_utf8 =
      let end = IsUtf8-append (decimal worker) (codes "}") (decimal_utf8 worker (omega (arith, few))) (IsUtf8-are_ascii (codes "}") refl) in
      then_utf8 (codes "{\"do\":\"") _ refl (then_utf8 word _ plain.ascii (then_utf8 (codes "\",\"worker\":") _ refl end))

  worker_piece : list_all is_no_newline (worker_text word worker) ≡ true
  worker_piece =
      let end = both_plain (decimal worker) (codes "}") (decimal_plain worker (omega (arith, few))) refl in
      both_plain (codes "{\"do\":\"") (word ++ (codes "\",\"worker\":" ++ (decimal worker ++ codes "}"))) refl
      (both_plain word (codes "\",\"worker\":" ++ (decimal worker ++ codes "}")) plain.piece (both_plain (codes "\",\"worker\":") (decimal worker ++ codes "}") refl end))

  worker_short : length (worker_text word worker) ≤ 65536
  worker_short =
      let digits = length-decimal-le 10 worker (omega arith) (omega (arith, few)) (omega (arith, few)) in
      let end = length-append (decimal worker) (codes "}") in
      let behind = length-append word (codes "\",\"worker\":" ++ (decimal worker ++ codes "}")) in omega (arith, digits, end, behind, plain.short)

  worker_same : worker_text word worker ≡ compact_text (worker_data word worker)
  unfolding worker_data escape_byte
  worker_same = ap (λ (text : List ℕ). codes "{\"do\":" ++ text) (sym (quoted_plain word (codes ",\"worker\":" ++ (decimal worker ++ codes "}")) plain.same))

  worker_value : json_value_of (worker_text word worker) ≡ Some (worker_data word worker)
  unfolding worker_data
  worker_value =
      let many : worker < 2 ^ 64 = omega (arith, few) in
      value_of_text 1 (worker_data word worker) (worker_text word worker) (omega arith) record {
        is = worker_same;
        utf8 = worker_utf8;
        numbers = (tt, (IsNumber-decimal worker many, tt));
        shallow = omega arith;
        back = rw (number_of-decimal worker many) refl;
      }

  worker_line : (names : List (List ℕ)) (command : Command) → request_of_value names (worker_data word worker) ≡ Some (World command) → IsCommandLine names command (worker_text word worker)
  worker_line names command asks =
      record {
        asks = ap (option_and_then (request_of_value names)) worker_value ∙ asks;
        piece = one_piece (worker_text word worker) worker_piece;
        short = worker_short;
      }

pub crash_line : (names : List (List ℕ)) (worker : ℕ) → worker < 2 ^ 32 → IsCommandLine names (Crash worker) (worker_text (codes "crash") worker)
unfolding escape_byte worker_data request_of_value do_member command_named command_of_worker worker_member whole_u32
crash_line names worker few =
    worker_line (codes "crash") worker record { same = refl; ascii = refl; piece = refl; short = omega arith } few names (Crash worker) (rw (lt-ltb worker (2 ^ 32) few) refl)

pub restart_line : (names : List (List ℕ)) (worker : ℕ) → worker < 2 ^ 32 → IsCommandLine names (Restart worker) (worker_text (codes "restart") worker)
unfolding escape_byte worker_data request_of_value do_member command_named command_of_worker worker_member whole_u32
restart_line names worker few =
    worker_line (codes "restart") worker record { same = refl; ascii = refl; piece = refl; short = omega arith } few names (Restart worker) (rw (lt-ltb worker (2 ^ 32) few) refl)

pub withdraw_line : (names : List (List ℕ)) (worker : ℕ) → worker < 2 ^ 32 → IsCommandLine names (Withdraw worker) (worker_text (codes "withdraw") worker)
unfolding escape_byte worker_data request_of_value do_member command_named command_of_worker worker_member whole_u32
withdraw_line names worker few =
    worker_line (codes "withdraw") worker record { same = refl; ascii = refl; piece = refl; short = omega arith } few names (Withdraw worker) (rw (lt-ltb worker (2 ^ 32) few) refl)

-- ---- walks

walk_data : ℕ → ℕ → Data
walk_data max worker = object (member (codes "do") (string (codes "walk")) (member (codes "max") (number (unsigned max)) (member (codes "worker") (number (unsigned worker)) no_members)))

module _ (max worker : ℕ) (some : 1 ≤ max) (most : max ≤ 10000) (few : worker < 2 ^ 32) where
  walk_piece : list_all is_no_newline (walk_text max worker) ≡ true
  walk_piece =
      let end = both_plain (decimal worker) (codes "}") (decimal_plain worker (omega (arith, few))) refl in
      let behind = both_plain (codes ",\"worker\":") (decimal worker ++ codes "}") refl end in
      both_plain (codes "{\"do\":\"walk\",\"max\":") (decimal max ++ (codes ",\"worker\":" ++ (decimal worker ++ codes "}"))) refl
      (both_plain (decimal max) (codes ",\"worker\":" ++ (decimal worker ++ codes "}")) (decimal_plain max (omega (arith, most))) behind)

  walk_short : length (walk_text max worker) ≤ 65536
  walk_short =
      let digits = length-decimal-le 10 worker (omega arith) (omega (arith, few)) (omega (arith, few)) in
      let steps = length-decimal-le 10 max (omega arith) (omega (arith, most)) (omega (arith, most)) in
      let end = length-append (decimal worker) (codes "}") in
      let behind = length-append (decimal max) (codes ",\"worker\":" ++ (decimal worker ++ codes "}")) in omega (arith, digits, steps, end, behind)

  walk_value : json_value_of (walk_text max worker) ≡ Some (walk_data max worker)
  unfolding walk_data escape_byte
  walk_value =
      let many : worker < 2 ^ 64 = omega (arith, few) in
      let steps : max < 2 ^ 64 = omega (arith, most) in
      let end = IsUtf8-append (decimal worker) (codes "}") (decimal_utf8 worker many) (IsUtf8-are_ascii (codes "}") refl) in
      let behind = IsUtf8-append (decimal max) _ (decimal_utf8 max steps) (then_utf8 (codes ",\"worker\":") _ refl end) in
      value_of_text 1 (walk_data max worker) (walk_text max worker) (omega arith) record {
        is = refl;
        utf8 = then_utf8 (codes "{\"do\":\"walk\",\"max\":") _ refl behind;
        numbers = (tt, (IsNumber-decimal max steps, (IsNumber-decimal worker many, tt)));
        shallow = omega arith;
        back = rw (number_of-decimal max steps, number_of-decimal worker many) refl;
      }

  walk_request : (names : List (List ℕ)) → request_of_value names (walk_data max worker) ≡ Some (World (Walk record { worker = worker; until = None; max = max }))
  unfolding walk_data request_of_value do_member command_named walk_of worker_member max_of whole_u32
  walk_request names =
      let small : max < 2 ^ 32 = omega (arith, most) in rw (lt-ltb worker (2 ^ 32) few, lt-ltb max (2 ^ 32) small, le-leb 1 max some, le-leb max 10000 most) refl

  pub walk_line : (names : List (List ℕ)) → IsCommandLine names (Walk record { worker = worker; until = None; max = max }) (walk_text max worker)
  walk_line names =
      record {
        asks = ap (option_and_then (request_of_value names)) walk_value ∙ walk_request names;
        piece = one_piece (walk_text max worker) walk_piece;
        short = walk_short;
      }

-- ---- all of these

walk_is : (walk : wire.Walk) → walk.until ≡ None → walk ≡ record { worker = walk.worker; until = None; max = walk.max }
walk_is walk any = ap (λ (until : Option Until). record { worker = walk.worker; until = until; max = walk.max }) any

pub always_line : (names : List (List ℕ)) (command : Command) → AlwaysHasLine command → IsCommandLine names command (command_text names command)
always_line names (Walk walk) may =
    subst (λ (its : wire.Walk). IsCommandLine names (Walk its) (walk_text walk.max walk.worker)) (sym (walk_is walk may.1)) (walk_line walk.max walk.worker may.2 may.3 may.0 names)
always_line names (Crash worker) few = crash_line names worker few
always_line names (Restart worker) few = restart_line names worker few
always_line names (Withdraw worker) few = withdraw_line names worker few
always_line names other may = absurd may

-- A crash is not written for want of memory alone.
pub crash_fails : {T : Type 0} (result : Result T LineFault) (names : List (List ℕ)) (worker : ℕ) → worker < 2 ^ 32 → IfErr result (λ why. why ≡ fault.NoLine → HasNoLine names (Crash worker)) → IfErr result (λ why. why ≡ fault.NoMemory)
crash_fails (Ok value) names worker few none = tt
crash_fails (Err fault.NoMemory) names worker few none = refl
crash_fails (Err fault.NoLine) names worker few none = absurd (none refl refl (crash_line names worker few))

-- ---- the commands of an event batch

pub no_line_first : (names : List (List ℕ)) (first second : List Command) → OneHasNoLine names first → OneHasNoLine names (first ++ second)
no_line_first names [] second none = absurd none
no_line_first names (command ∷ first) second none = elim none [ inl here ↦ inl here | inr later ↦ inr (no_line_first names first second later) ]

pub no_line_second : (names : List (List ℕ)) (first second : List Command) → OneHasNoLine names second → OneHasNoLine names (first ++ second)
no_line_second names [] second none = none
no_line_second names (command ∷ first) second none = inr (no_line_second names first second none)
