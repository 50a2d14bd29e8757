-- An array with a list at its front and a filler in the other places.
use Rattle.std.proofs.Common.{◌≡◌, ℕ, ◌+◌, ◌-◌, ◌<◌, ◌≤◌, List, ◌++◌, length, take, drop, replicate, sym, ap, ◌∙◌, arith}
use Rattle.std.proofs.lemmas.List.{length-append, length-drop, length-replicate, length-take-le, take_at, drop-replicate, length-set, set-append_left, take-replicate, replicate-append-replicate}
use Rattle.std.proofs.Math.Seq.{take-set-lt}
use Rattle.std.specs.Prelude.{slice_set}
use Rattle.rme_script.specs.Padding.{IsPaddedList}

-- A list written over the front of an array of fillers.
pub kept_front : {A : Type 0} (filler : A) (room few count : ℕ) (items : List A) → count ≡ few → length items ≡ count → few ≤ room → IsPaddedList filler room few (items ++ drop count (replicate room filler))
kept_front {A = A} filler room few count items c l w =
    let rest : List A = drop count (replicate room filler) in
    let long : length rest ≡ room - count = length-drop count (replicate room filler) ∙ ap (λ (n : ℕ). n - count) (length-replicate room filler) in
    let whole : length (items ++ rest) ≡ room = omega (arith, length-append items rest, long, l, c, w) in
    record {
      whole = whole;
      within = w;
      taken = length-take-le few (items ++ rest) (omega (arith, whole, w));
      filled = let front : take few (items ++ rest) ≡ items = take_at items rest few (omega (arith, l, c)) in
          rw front (ap (λ (xs : List A). items ++ xs) (sym (drop-replicate count room filler ∙ ap (λ (n : ℕ). replicate (room - n) filler) c)));
    }

-- An array of fillers.
pub kept_fillers : {A : Type 0} (filler : A) (room few : ℕ) → few ≤ room → IsPaddedList filler room few (replicate room filler)
kept_fillers {A = A} filler room few w =
    let all : few + (room - few) ≡ room = omega (arith, w) in
    record {
      whole = length-replicate room filler;
      within = w;
      taken = length-take-le few (replicate room filler) (omega (arith, w, length-replicate room filler));
      filled = ap (λ (xs : List A). xs ++ replicate (room - few) filler) (take-replicate few room filler w)
          ∙ replicate-append-replicate few (room - few) filler ∙ ap (λ (n : ℕ). replicate n filler) all;
    }

-- One of the items replaced.
pub kept_set : {A : Type 0} (filler : A) (room few : ℕ) (items : List A) (i : ℕ) (x : A) → IsPaddedList filler room few items → i < few → IsPaddedList filler room few (slice_set items i x)
kept_set {A = A} filler room few items i x k inside =
    let long : length (slice_set items i x) ≡ room = length-set items i x ∙ k.whole in
    record {
      whole = long;
      within = k.within;
      taken = length-take-le few (slice_set items i x) (omega (arith, long, k.within));
      filled = ap (λ (xs : List A). xs ++ replicate (room - few) filler) (take-set-lt few items i x inside)
          ∙ sym (set-append_left (take few items) (replicate (room - few) filler) i x (omega (arith, inside, k.taken)))
          ∙ ap (λ (xs : List A). slice_set xs i x) k.filled;
    }
