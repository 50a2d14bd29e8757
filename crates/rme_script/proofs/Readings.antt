-- The loop of `read_slate`: the operations read and those still to be read are together those of all the words.
use Rattle.std.proofs.Common.{◌≡◌, ℕ, suc, ◌+◌, ◌-◌, ◌*◌, ◌<◌, ◌≤◌, nat_lt, false, Option, Some, None, List, [], ◌∷◌, ◌++◌, length, get_or, set, take, drop, refl, sym, ap, ◌∙◌, arith}
use Rattle.std.proofs.lemmas.Bool.{le-ltb}
use Rattle.std.proofs.lemmas.List.{append_assoc, length-set, drop_more, take_more_set}
use Rattle.rme_script.specs.declared.op.Op.{Op}
use Rattle.rme_script.specs.Slates.{op_from_words, prepend_op, ops_from_words, script_from_words}

-- The operations read, before those read later.
abbrev pub before : List Op → Option (List Op) → Option (List Op)
before front None = None
before front (Some ops) = Some (front ++ ops)

pub record Reading (n : ℕ) (words : List ℕ) (i : ℕ) (ops : List Op) : Type 0 where
  pub so_far : before (take i ops) (ops_from_words (n - i) (drop (3 * i) words)) ≡ ops_from_words n words
  pub whole : length ops ≡ n

before_push : (front : List Op) (o : Op) (rest : Option (List Op)) → before (front ++ o ∷ []) rest ≡ before front (prepend_op (Some o) rest)
before_push front o None = refl
before_push front o (Some ops) = ap (λ (xs : List Op). Some xs) (append_assoc front (o ∷ []) ops)

three_on : (words : List ℕ) (i : ℕ) → 3 * i + 2 < length words → drop (3 * i) words ≡ get_or words (3 * i) 0 ∷ get_or words (3 * i + 1) 0 ∷ get_or words (3 * i + 2) 0 ∷ drop (3 * (i + 1)) words
three_on words i l =
    let second : drop (3 * i + 1) words ≡ get_or words (3 * i + 1) 0 ∷ drop (3 * i + 1 + 1) words = drop_more words (3 * i + 1) 0 (omega (arith, l)) in
    let third : drop (3 * i + 2) words ≡ get_or words (3 * i + 2) 0 ∷ drop (3 * i + 2 + 1) words = drop_more words (3 * i + 2) 0 (omega (arith, l)) in
    let two : 3 * i + 1 + 1 ≡ 3 * i + 2 = omega arith in
    let three : 3 * i + 2 + 1 ≡ 3 * (i + 1) = omega arith in
    drop_more words (3 * i) 0 (omega (arith, l))
    ∙ ap (λ (ws : List ℕ). get_or words (3 * i) 0 ∷ ws) second
    ∙ ap (λ (k : ℕ). get_or words (3 * i) 0 ∷ get_or words (3 * i + 1) 0 ∷ drop k words) two
    ∙ ap (λ (ws : List ℕ). get_or words (3 * i) 0 ∷ get_or words (3 * i + 1) 0 ∷ ws) third
    ∙ ap (λ (k : ℕ). get_or words (3 * i) 0 ∷ get_or words (3 * i + 1) 0 ∷ get_or words (3 * i + 2) 0 ∷ drop k words) three

module _ (n : ℕ) (words : List ℕ) (i : ℕ) (ops : List Op) (few : n ≤ 8) (long : length words ≡ 24) (inside : i < n) (r : Reading n words i ops) where
  next : ops_from_words (n - i) (drop (3 * i) words) ≡ prepend_op (op_from_words (get_or words (3 * i) 0) (get_or words (3 * i + 1) 0) (get_or words (3 * i + 2) 0)) (ops_from_words (n - (i + 1)) (drop (3 * (i + 1)) words))
  next =
      let fewer : n - i ≡ suc (n - (i + 1)) = omega (arith, inside) in
      ap (λ (k : ℕ). ops_from_words k (drop (3 * i) words)) fewer
      ∙ ap (λ (ws : List ℕ). ops_from_words (suc (n - (i + 1))) ws) (three_on words i (omega (arith, inside, few, long)))

  pub reading_next : (o : Op) → op_from_words (get_or words (3 * i) 0) (get_or words (3 * i + 1) 0) (get_or words (3 * i + 2) 0) ≡ Some o → Reading n words (i + 1) (set ops i o)
  reading_next o e =
      let rest : Option (List Op) = ops_from_words (n - (i + 1)) (drop (3 * (i + 1)) words) in
      let front : take (i + 1) (set ops i o) ≡ take i ops ++ o ∷ [] = take_more_set ops i o (omega (arith, inside, r.whole)) in
      record {
        so_far = ap (λ (xs : List Op). before xs rest) front
            ∙ before_push (take i ops) o rest
            ∙ sym (ap (λ (x : Option (List Op)). before (take i ops) x) (next ∙ ap (λ (x : Option Op). prepend_op x rest) e))
            ∙ r.so_far;
        whole = length-set ops i o ∙ r.whole;
      }

  pub reading_none : op_from_words (get_or words (3 * i) 0) (get_or words (3 * i + 1) 0) (get_or words (3 * i + 2) 0) ≡ None → None ≡ script_from_words n words
  reading_none e =
      let rest : Option (List Op) = ops_from_words (n - (i + 1)) (drop (3 * (i + 1)) words) in
      let short : nat_lt 8 n ≡ false = le-ltb 8 n few in
      let all : ops_from_words n words ≡ None = sym r.so_far ∙ ap (λ (x : Option (List Op)). before (take i ops) x) (next ∙ ap (λ (x : Option Op). prepend_op x rest) e) in
      rw (short, all) refl
