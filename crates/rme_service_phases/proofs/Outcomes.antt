-- What a call answers where it passes on that its worker fell, and where it ends with another call.
use Rattle.std.specs.Prelude.{Result, Ok, Err, IsErr, MatchResult}

pub passed_on : {A E : Type 0} (result : Result A E) (good : A → Type 0) (bad : Type 0) → IsErr result → bad → MatchResult result good (λ (_ : E). bad)
passed_on (Ok x) good bad is it = cc
passed_on (Err e) good bad is it = it

pub ends_with : {A E : Type 0} (result : Result A E) (good good' : A → Type 0) (bad bad' : Type 0) → MatchResult result good (λ (_ : E). bad)
    → ((x : A) → good x → good' x) → (bad → bad') → MatchResult result good' (λ (_ : E). bad')
ends_with (Ok x) good good' bad bad' it does falls = does x it
ends_with (Err e) good good' bad bad' it does falls = falls it
