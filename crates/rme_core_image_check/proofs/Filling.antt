-- Lists that are filled from the front.
use Rattle.std.proofs.Common.{◌≡◌, ℕ, ◌+◌, ◌*◌, ◌/◌, ◌%◌, ◌<◌, ◌≤◌, List, length, take, sym, ◌∙◌, ap, subst, arith}
use Rattle.std.specs.Prelude.{Some, map, slice_set}
use Rattle.std.specs.List.{range_with_len}
use Rattle.std.proofs.lemmas.List.{take_all}
use Rattle.std.proofs.lemmas.List.FromFn.{length-map-range_with_len}
use Rattle.rme_words.specs.declared.address.Address.{Address}
use Rattle.rme_words.specs.declared.address.Address.TheVariants.{SlateLen, SlateWord}
use Rattle.rme_script.specs.Slates.{script_from_words}
use Rattle.rme_script.proofs.Lists.{take_stored}
use Rattle.rme_script.proofs.Slates.{same_script}
use Rattle.rme_machine.specs.Views.{slate_of_worker, slate_script, worker_words}
use Rattle.rme_machine.proofs.Lists.{made_get}

-- One more item of a list of a function's values.
pub filled_next : {A : Type 0} (f : ℕ → A) (n : ℕ) (xs : List A) (i : ℕ) (x : A) → length xs ≡ n → i < n → x ≡ f i
    → take i xs ≡ take i (map f (range_with_len 0 n)) → take (i + 1) (slice_set xs i x) ≡ take (i + 1) (map f (range_with_len 0 n))
filled_next {A = A} f n xs i x long within is same =
    take_stored xs (map f (range_with_len 0 n)) i x (omega (arith, long, within)) (made_get f n i within ∙ ap (λ (y : A). Some y) (sym is)) same

-- The whole list.
pub filled_whole : {A : Type 0} (f : ℕ → A) (n : ℕ) (xs : List A) → length xs ≡ n → take n xs ≡ take n (map f (range_with_len 0 n)) → xs ≡ map f (range_with_len 0 n)
filled_whole f n xs long same =
    sym (take_all n xs (omega (arith, long))) ∙ same ∙ take_all n (map f (range_with_len 0 n)) (omega (arith, length-map-range_with_len f 0 n))

-- A worker's slate, word by word.
pub slate_next : (memory : Address → ℕ) (worker : ℕ) (words : List ℕ) (i x : ℕ) → length words ≡ 24 → i < 24 → x ≡ memory (SlateWord worker (i / 3) (i % 3))
    → take i words ≡ take i (slate_of_worker memory worker) → take (i + 1) (slice_set words i x) ≡ take (i + 1) (slate_of_worker memory worker)
unfolding slate_of_worker
slate_next memory worker words i x long within is same = filled_next (λ (k : ℕ). memory (SlateWord worker (k / 3) (k % 3))) 24 words i x long within is same

-- The wanted number of words.
pub slate_front : (memory : Address → ℕ) (worker : ℕ) (words : List ℕ) (i count : ℕ) → count ≤ i → i ≤ count → take i words ≡ take i (slate_of_worker memory worker) → take count words ≡ take count (slate_of_worker memory worker)
slate_front memory worker words i count low high same =
    let P : ℕ → Type 0 = λ (k : ℕ). take k words ≡ take k (slate_of_worker memory worker) in
    let all : i ≡ count = omega (arith, low, high) in
    subst P all same

-- The wanted words determine the script of the slate.
pub slate_is : (memory : Address → ℕ) (worker n : ℕ) (words : List ℕ) → n ≡ memory (SlateLen worker) → take (3 * n) words ≡ take (3 * n) (slate_of_worker memory worker)
    → script_from_words n words ≡ slate_script (worker_words memory worker)
slate_is memory worker n words len front = same_script n words (slate_of_worker memory worker) front ∙ ap (λ (k : ℕ). script_from_words k (slate_of_worker memory worker)) len
