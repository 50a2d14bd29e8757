use Rattle.std.proofs.Common.{ℕ, ◌+◌, List, length, subst}
use Rattle.std.proofs.lemmas.List.{take_rest}
use Rattle.memchr.specs.Find.{NoneBefore, Nowhere, Passes, is_byte}
use Rattle.rme_durable_format.proofs.Newlines.{two_of_none, two_of_one, two_of_two}
use Rattle.rme_durable_format.proofs.file_lines.first_two_lines.Goals as goal

pub returns-in_default : goal.returns-in_default
returns-in_default c = two_of_none c.args.bytes.now c.in_default.ensures

pub returns-in-Some-memchr : goal.returns-in-Some-memchr
returns-in-Some-memchr c =
    let bytes = c.args.bytes.now in
    let first = c.in-Some.first in
    let second = c.in-Some-memchr.second in
    let P : List ℕ → Type 0 = λ (rest : List ℕ). NoneBefore (Passes (is_byte 10) rest) 0 (length rest) second × Passes (is_byte 10) rest second in
    let found = subst P (take_rest bytes (first + 1)) c.in-Some-memchr.ensures in two_of_two bytes first c.in-Some.ensures.0.high c.in-Some.ensures.1 c.in-Some.ensures.0.before second found.0.high found.1 found.0.before

pub returns-in-None : goal.returns-in-None
returns-in-None c =
    let bytes = c.args.bytes.now in
    let first = c.in-Some.first in
    let P : List ℕ → Type 0 = λ (rest : List ℕ). Nowhere (Passes (is_byte 10) rest) 0 (length rest) in
    two_of_one bytes first c.in-Some.ensures.0.high c.in-Some.ensures.1 c.in-Some.ensures.0.before (subst P (take_rest bytes (first + 1)) c.in-None.ensures)
