-- A number of seconds as people read it, by its two greatest units: `12s`, `3m12s`, `2h03m`, `4d01h`.
use Rattle.std.specs.Prelude.{ℕ, ◌/◌, ◌%◌, List, ◌++◌, codes, decimal, nat_lt, if◌then◌else◌}

-- a number below 100, by two digits
abbrev pub two_digits : ℕ → List ℕ
two_digits number = if nat_lt number 10 then codes "0" ++ decimal number else decimal number

-- a number of a unit, and the rest in the next smaller unit
abbrev pub units_text : ℕ → List ℕ → ℕ → List ℕ → List ℕ
units_text number unit rest smaller = decimal number ++ (unit ++ (two_digits rest ++ smaller))

abbrev pub age_text : ℕ → List ℕ
age_text seconds =
    if nat_lt seconds 60 then decimal seconds ++ codes "s"
    else (if nat_lt seconds 3600 then units_text (seconds / 60) (codes "m") (seconds % 60) (codes "s")
    else (if nat_lt seconds 86400 then units_text (seconds / 3600) (codes "h") (seconds / 60 % 60) (codes "m")
    else units_text (seconds / 86400) (codes "d") (seconds / 3600 % 24) (codes "h")))
