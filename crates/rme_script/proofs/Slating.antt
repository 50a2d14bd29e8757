-- The loop of `slate_words`: the words of one more operation.
use Rattle.std.proofs.Common.{◌≡◌, ℕ, ◌+◌, ◌-◌, ◌*◌, ◌/◌, ◌%◌, ◌^◌, ◌<◌, ◌≤◌, zero, suc, get_or, Some, List, [], ◌∷◌, ◌++◌, length, take, drop, replicate, slice_get, refl, sym, ap, ◌∙◌, subst, arith}
use Rattle.std.specs.Prelude.{slice_index}
use Rattle.std.specs.List.{All}
use Rattle.std.proofs.lemmas.List.{append_assoc, append-nil, length-append, length-take-le, length_push, take_at, take_all, drop-replicate, get_or_append_left, get_or-append-add}
use Rattle.std.proofs.lemmas.List.{drop_at as drop_front}
use Rattle.std.proofs.lemmas.List.Elements.{All-push}
use Rattle.std.proofs.lemmas.Option.{slice_get_within, same_Some}
use borrow.Rule.Slice.PartMut.{put_mid}
use Rattle.rme_script.specs.declared.op.Op.{Op}
use Rattle.rme_script.specs.declared.op.Op.TheVariants.{Get, Set, Add, Copy, Swap}
use Rattle.rme_script.specs.Programs.{Program}
use Rattle.rme_script.specs.Scripts.{OpIsWithin}
use Rattle.rme_script.specs.Slates.{op_words, ops_words, slate_of, script_from_words}
use Rattle.rme_script.proofs.Lists.{take_next}
use Rattle.rme_script.proofs.Slates.{slate_back}

op_words_length : (o : Op) → length (op_words o) ≡ 3
op_words_length (Get c) = refl
op_words_length (Set c v) = refl
op_words_length (Add c v) = refl
op_words_length (Copy a b) = refl
op_words_length (Swap a b) = refl

pub words_length : (ops : List Op) → length (ops_words ops) ≡ 3 * length ops
words_length [] = refl
words_length (o ∷ os) = omega (arith, length-append (op_words o) (ops_words os), op_words_length o, words_length os)

words_push : (ops : List Op) (o : Op) → ops_words (ops ++ o ∷ []) ≡ ops_words ops ++ op_words o
words_push [] o = append-nil (op_words o)
words_push (p ∷ ps) o = ap (λ (ws : List ℕ). op_words p ++ ws) (words_push ps o) ∙ sym (append_assoc (op_words p) (ops_words ps) (op_words o))

slate_push : (ops : List Op) (o : Op) (i : ℕ) → length ops ≡ i → put_mid (3 * i) (3 * i + 3 - 3 * i) (slate_of ops) (op_words o) ≡ slate_of (ops ++ o ∷ [])
slate_push ops o i l =
    let pad : List ℕ = replicate (24 - 3 * length ops) 0 in
    let front : take (3 * i) (ops_words ops ++ pad) ≡ ops_words ops = take_at (ops_words ops) pad (3 * i) (omega (arith, words_length ops, l)) in
    let back : drop (3 * i) (ops_words ops ++ pad) ≡ pad = drop_front (ops_words ops) pad (3 * i) (omega (arith, words_length ops, l)) in
    let shorter : drop (3 * i + 3 - 3 * i) pad ≡ replicate (24 - 3 * length ops - (3 * i + 3 - 3 * i)) 0 = drop-replicate (3 * i + 3 - 3 * i) (24 - 3 * length ops) 0 in
    let fewer : 24 - 3 * length ops - (3 * i + 3 - 3 * i) ≡ 24 - 3 * length (ops ++ o ∷ []) = omega (arith, length_push ops o) in
    let rest : drop (3 * i + 3 - 3 * i) (drop (3 * i) (ops_words ops ++ pad)) ≡ replicate (24 - 3 * length (ops ++ o ∷ [])) 0 = ap (λ (ws : List ℕ). drop (3 * i + 3 - 3 * i) ws) back ∙ shorter ∙ ap (λ (k : ℕ). replicate k 0) fewer in
    ap (λ (ws : List ℕ). ws ++ (op_words o ++ drop (3 * i + 3 - 3 * i) (drop (3 * i) (ops_words ops ++ pad)))) front
    ∙ ap (λ (ws : List ℕ). ops_words ops ++ (op_words o ++ ws)) rest
    ∙ sym (append_assoc (ops_words ops) (op_words o) (replicate (24 - 3 * length (ops ++ o ∷ [])) 0))
    ∙ ap (λ (ws : List ℕ). ws ++ replicate (24 - 3 * length (ops ++ o ∷ [])) 0) (sym (words_push ops o))

module _ (ops : List Op) (i : ℕ) (o : Op) (here : slice_get ops i ≡ Some o) where
  pub slating_words : (words triple : List ℕ) → words ≡ slate_of (take i ops) → triple ≡ op_words o → put_mid (3 * i) (3 * i + 3 - 3 * i) words triple ≡ slate_of (take (i + 1) ops)
  slating_words words triple w t =
      let inside : i < length ops = slice_get_within ops i o here in
      ap (λ (ws : List ℕ). put_mid (3 * i) (3 * i + 3 - 3 * i) ws triple) w
      ∙ ap (λ (ws : List ℕ). put_mid (3 * i) (3 * i + 3 - 3 * i) (slate_of (take i ops)) ws) t
      ∙ slate_push (take i ops) o i (length-take-le i ops (omega (arith, inside)))
      ∙ ap (λ (os : List Op). slate_of os) (sym (take_next ops i o here))

  pub slating_within : All (OpIsWithin (2 ^ 32)) (take i ops) → OpIsWithin (2 ^ 32) o → All (OpIsWithin (2 ^ 32)) (take (i + 1) ops)
  slating_within h k =
      subst (λ (os : List Op). All (OpIsWithin (2 ^ 32)) os) (sym (take_next ops i o here)) (All-push (OpIsWithin (2 ^ 32)) (take i ops) o h k)

pub slated_back : (p : Program) (i : ℕ) (words : List ℕ) → p.n ≤ 8 → length p.ops ≡ p.n → length p.ops ≤ i → words ≡ slate_of (take i p.ops) → All (OpIsWithin (2 ^ 32)) (take i p.ops) → script_from_words p.n words ≡ Some p
slated_back p i words few counted past w h =
    let all : take i p.ops ≡ p.ops = take_all i p.ops past in
    ap (λ (ws : List ℕ). script_from_words p.n ws) (w ∙ ap (λ (os : List Op). slate_of os) all)
    ∙ slate_back p (record { few = few; counted = counted; within = subst (λ (os : List Op). All (OpIsWithin (2 ^ 32)) os) all h })

-- The words of a script lie at the front of its slate, three for each operation.
pub slate_front : (ops : List Op) → take (3 * length ops) (slate_of ops) ≡ ops_words ops
slate_front ops = take_at (ops_words ops) (replicate (24 - 3 * length ops) 0) (3 * length ops) (words_length ops)

word_at : (o : Op) (rest : List ℕ) (k : ℕ) → k < 3 → get_or (op_words o ++ rest) k 0 ≡ get_or (op_words o) k 0
word_at o rest k l = get_or_append_left (op_words o) rest 0 k (omega (arith, l, op_words_length o))

pub words_at : (ops : List Op) (i : ℕ) (o : Op) (k : ℕ) → slice_get ops i ≡ Some o → k < 3 → get_or (ops_words ops) (3 * i + k) 0 ≡ get_or (op_words o) k 0
words_at [] i o k here l = cc
words_at (p ∷ ps) zero o k here l =
    let same : p ≡ o = same_Some p o here in
    let start : 3 * zero + k ≡ k = omega arith in
    rw (start, same) (word_at o (ops_words ps) k l)
words_at (p ∷ ps) (suc i) o k here l =
    let on : 3 * suc i + k ≡ length (op_words p) + (3 * i + k) = omega (arith, op_words_length p) in
    rw on (get_or-append-add (op_words p) (ops_words ps) (3 * i + k) 0 ∙ words_at ps i o k here l)

-- A word of a slate is one of the three words of its operation.
pub slate_at : (ops : List Op) (at : ℕ) (o : Op) (words : List ℕ) (part : ℕ) → at < 3 * length ops → slice_get ops (at / 3) ≡ Some o → words ≡ op_words o → at % 3 ≡ part
    → slice_index words part ≡ slice_index (slate_of ops) at
slate_at ops at o words part inside here is rest =
    let split : 3 * (at / 3) + part ≡ at = omega (arith, rest) in
    ap (λ (ws : List ℕ). get_or ws part 0) is
    ∙ sym (words_at ops (at / 3) o part here (omega (arith, rest)))
    ∙ ap (λ (k : ℕ). get_or (ops_words ops) k 0) split
    ∙ sym (get_or_append_left (ops_words ops) (replicate (24 - 3 * length ops) 0) 0 at (omega (arith, inside, words_length ops)))
