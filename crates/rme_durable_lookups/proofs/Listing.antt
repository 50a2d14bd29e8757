-- Texts of the numbers below a count, written one by one.
use Rattle.std.proofs.Common.{◌≡◌, ◌<◌, ◌≤◌, ℕ, suc, ◌+◌, ◌-◌, List, ◌++◌, Bool, true, false, ap, subst, arith}
use Rattle.std.specs.List.{range_with_len}
use Rattle.rme_line_text.specs.Texts.{comma_text, separated_text}
use Rattle.rme_line_text.proofs.TextLemmas.{Separates, separates_all, separates_next}

-- the written text, with that of the numbers from `at` on, is the text of all
abbrev pub SeparatesNumbers : (ℕ → List ℕ) → List ℕ → ℕ → List ℕ → Bool → ℕ → Type 0
SeparatesNumbers text start count out later at =
    Separates text start (range_with_len 0 count) out later (range_with_len at (count - at))

pub numbers_begin : (text : ℕ → List ℕ) (start : List ℕ) (count : ℕ) → SeparatesNumbers text start count start false 0
numbers_begin text start count =
    let whole : count - 0 ≡ count = omega arith in
    ap (λ (n : ℕ). start ++ separated_text text false (range_with_len 0 n)) whole

pub numbers_next : (text : ℕ → List ℕ) (start : List ℕ) (count : ℕ) (out : List ℕ) (later : Bool) (at : ℕ) (between after : List ℕ) → at < count → SeparatesNumbers text start count out later at
    → between ≡ out ++ comma_text later → after ≡ between ++ text at → SeparatesNumbers text start count after true (at + 1)
numbers_next text start count out later at between after below so_far e f =
    let more : count - at ≡ suc (count - (at + 1)) = omega (arith, below) in
    let S : ℕ → Type 0 = λ n. Separates text start (range_with_len 0 count) out later (range_with_len at n) in
    separates_next text start (range_with_len 0 count) out later at (range_with_len (at + 1) (count - (at + 1))) between after (subst S more so_far) e f

pub numbers_all : (text : ℕ → List ℕ) (start : List ℕ) (count : ℕ) (out : List ℕ) (later : Bool) (at : ℕ) → count ≤ at → SeparatesNumbers text start count out later at
    → out ≡ start ++ separated_text text false (range_with_len 0 count)
numbers_all text start count out later at past so_far =
    let none : count - at ≡ 0 = omega (arith, past) in
    let S : ℕ → Type 0 = λ n. Separates text start (range_with_len 0 count) out later (range_with_len at n) in
    separates_all text start (range_with_len 0 count) out later (subst S none so_far)
