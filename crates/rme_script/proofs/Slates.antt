-- A slate gives its script back, and words give a script if and only if they are its slate.
use Rattle.std.proofs.Common.{◌≡◌, ℕ, zero, suc, ◌-◌, ◌*◌, ◌^◌, ◌<◌, ◌≤◌, ◌↔◌, Bool, true, false, cond, ◌==◌, nat_lt, Option, Some, None, List, [], ◌∷◌, ◌++◌, length, take, drop, replicate, refl, sym, ap, ◌∙◌, subst, inl, inr, arith}
use Rattle.std.specs.List.{All}
use Rattle.std.proofs.lemmas.Bool.{cases_lt, ltb-true, lt-ltb, le-ltb, eqb-true, ne_eqb}
use Rattle.std.proofs.lemmas.Option.{none-some, same_Some}
use Rattle.std.proofs.lemmas.List.{append-nil, append_assoc, take-append-drop}
use Rattle.std.proofs.lemmas.List.Elements.{All-nil, All-cons, All-head, All-tail}
use Rattle.rme_script.specs.declared.op.Op.{Op}
use Rattle.rme_script.specs.declared.op.Op.TheVariants.{Get, Set, Add, Copy, Swap}
use Rattle.rme_script.specs.Programs.{Program}
use Rattle.rme_script.specs.Scripts.{OpIsWithin, IsScript}
use Rattle.rme_script.specs.Slates.{op_words, ops_words, slate_of, IsSlate, op_from_words, prepend_op, ops_from_words, script_if_read, script_from_words}

-- ---- from the words of operations to the operations

ops_step : (n : ℕ) (o : Op) (ws : List ℕ) (os : List Op) → OpIsWithin (2 ^ 32) o → ops_from_words n ws ≡ Some os → ops_from_words (suc n) (op_words o ++ ws) ≡ Some (o ∷ os)
ops_step n (Get c) ws os h e = let t : nat_lt c (2 ^ 32) ≡ true = lt-ltb c (2 ^ 32) h in rw (t, e) refl
ops_step n (Set c v) ws os h e = let t : nat_lt c (2 ^ 32) ≡ true = lt-ltb c (2 ^ 32) h in rw (t, e) refl
ops_step n (Add c v) ws os h e = let t : nat_lt c (2 ^ 32) ≡ true = lt-ltb c (2 ^ 32) h in rw (t, e) refl
ops_step n (Copy a b) ws os h e =
    let t : nat_lt a (2 ^ 32) ≡ true = lt-ltb a (2 ^ 32) h.0 in
    let u : nat_lt b (2 ^ 32) ≡ true = lt-ltb b (2 ^ 32) h.1 in
    rw (t, u, e) refl
ops_step n (Swap a b) ws os h e =
    let t : nat_lt a (2 ^ 32) ≡ true = lt-ltb a (2 ^ 32) h.0 in
    let u : nat_lt b (2 ^ 32) ≡ true = lt-ltb b (2 ^ 32) h.1 in
    rw (t, u, e) refl

pub ops_back : (ops : List Op) (rest : List ℕ) → All (OpIsWithin (2 ^ 32)) ops → ops_from_words (length ops) (ops_words ops ++ rest) ≡ Some ops
ops_back [] rest h = refl
ops_back (o ∷ os) rest h =
    ap (λ (ws : List ℕ). ops_from_words (suc (length os)) ws) (append_assoc (op_words o) (ops_words os) rest)
    ∙ ops_step (length os) o (ops_words os ++ rest) os (All-head (OpIsWithin (2 ^ 32)) o os h) (ops_back os rest (All-tail (OpIsWithin (2 ^ 32)) o os h))

script_some : (p : Program) (n : ℕ) (ws : List ℕ) → p.n ≡ n → n ≤ 8 → ops_from_words n ws ≡ Some p.ops → script_from_words n ws ≡ Some p
script_some p n ws e few h = let short : nat_lt 8 n ≡ false = le-ltb 8 n few in rw (short, h, ← e) refl

pub slate_back : (p : Program) → IsScript (2 ^ 32) p → script_from_words p.n (slate_of p.ops) ≡ Some p
slate_back p s =
    script_some p p.n (slate_of p.ops) refl s.few
    (ap (λ (n : ℕ). ops_from_words n (slate_of p.ops)) (sym s.counted) ∙ ops_back p.ops (replicate (24 - 3 * length p.ops) 0) s.within)

pub slate_some : (n : ℕ) (ws : List ℕ) (p : Program) → IsSlate n ws p → script_from_words n ws ≡ Some p
slate_some n ws p s =
    let few : n ≤ 8 = omega (arith, s.script.few, s.counted) in
    let long : length p.ops ≡ n = s.script.counted ∙ s.counted in
    let whole : ws ≡ ops_words p.ops ++ drop (3 * n) ws = sym (take-append-drop (3 * n) ws) ∙ ap (λ (front : List ℕ). front ++ drop (3 * n) ws) s.first in
    script_some p n ws s.counted few
    (ap (λ (xs : List ℕ). ops_from_words n xs) whole ∙ ap (λ (k : ℕ). ops_from_words k (ops_words p.ops ++ drop (3 * n) ws)) (sym long) ∙ ops_back p.ops (drop (3 * n) ws) s.script.within)

-- ---- from the operations that were read back to their words

record Triple (kind first second : ℕ) (o : Op) : Type 0 where
  words : op_words o ≡ kind ∷ first ∷ second ∷ []
  within : OpIsWithin (2 ^ 32) o

guarded : {A : Type 0} (b : Bool) (x : Option A) (y : A) → cond b x None ≡ Some y → (b ≡ true) × (x ≡ Some y)
guarded true x y e = (refl, e)
guarded false x y e = absurd (none-some y e)

triple_at : (kind first second : ℕ) (made o : Op) → Some made ≡ Some o → Triple kind first second made → Triple kind first second o
triple_at kind first second made o e t = subst (λ (x : Op). Triple kind first second x) (same_Some made o e) t

cond_same : {A : Type 0} (b : Bool) (x : A) → cond b x x ≡ x
cond_same true x = refl
cond_same false x = refl

op_none : (kind first second : ℕ) → 4 < kind → op_from_words kind first second ≡ None
op_none kind first second over =
    let no_get : (kind == 0) ≡ false = ne_eqb kind 0 (omega (arith, over)) in
    let no_set : (kind == 1) ≡ false = ne_eqb kind 1 (omega (arith, over)) in
    let no_add : (kind == 2) ≡ false = ne_eqb kind 2 (omega (arith, over)) in
    let no_copy : (kind == 3) ≡ false = ne_eqb kind 3 (omega (arith, over)) in
    let no_swap : (kind == 4) ≡ false = ne_eqb kind 4 (omega (arith, over)) in
    rw (no_get, no_set, no_add, no_copy, no_swap) (cond_same (nat_lt first (2 ^ 32)) None)

op_read : (kind first second : ℕ) (o : Op) → op_from_words kind first second ≡ Some o → Triple kind first second o
op_read zero first second o e =
    let outer = guarded (nat_lt first (2 ^ 32)) (cond (second == 0) (Some (Get first)) None) o e in
    let inner = guarded (second == 0) (Some (Get first)) o outer.1 in
    let none : second ≡ 0 = eqb-true second 0 inner.0 in
    triple_at 0 first second (Get first) o inner.1 (record { words = rw none refl; within = ltb-true first (2 ^ 32) outer.0 })
op_read (suc zero) first second o e =
    let outer = guarded (nat_lt first (2 ^ 32)) (Some (Set first second)) o e in
    triple_at 1 first second (Set first second) o outer.1 (record { words = refl; within = ltb-true first (2 ^ 32) outer.0 })
op_read (suc (suc zero)) first second o e =
    let outer = guarded (nat_lt first (2 ^ 32)) (Some (Add first second)) o e in
    triple_at 2 first second (Add first second) o outer.1 (record { words = refl; within = ltb-true first (2 ^ 32) outer.0 })
op_read (suc (suc (suc zero))) first second o e =
    let outer = guarded (nat_lt first (2 ^ 32)) (cond (nat_lt second (2 ^ 32)) (Some (Copy first second)) None) o e in
    let inner = guarded (nat_lt second (2 ^ 32)) (Some (Copy first second)) o outer.1 in
    triple_at 3 first second (Copy first second) o inner.1 (record { words = refl; within = (ltb-true first (2 ^ 32) outer.0, ltb-true second (2 ^ 32) inner.0) })
op_read (suc (suc (suc (suc zero)))) first second o e =
    let outer = guarded (nat_lt first (2 ^ 32)) (cond (nat_lt second (2 ^ 32)) (Some (Swap first second)) None) o e in
    let inner = guarded (nat_lt second (2 ^ 32)) (Some (Swap first second)) o outer.1 in
    triple_at 4 first second (Swap first second) o inner.1 (record { words = refl; within = (ltb-true first (2 ^ 32) outer.0, ltb-true second (2 ^ 32) inner.0) })
op_read (suc (suc (suc (suc (suc k))))) first second o e =
    absurd (none-some o (sym (op_none (suc (suc (suc (suc (suc k))))) first second (omega arith)) ∙ e))

record Joined (o : Option Op) (rest : Option (List Op)) (ops : List Op) : Type 0 where
  head : Op
  tail : List Op
  here : o ≡ Some head
  there : rest ≡ Some tail
  both : ops ≡ head ∷ tail

joined_parts : (o : Option Op) (rest : Option (List Op)) (ops : List Op) → prepend_op o rest ≡ Some ops → Joined o rest ops
joined_parts None rest ops e = absurd (cc)
joined_parts (Some o) None ops e = absurd (cc)
joined_parts (Some o) (Some os) ops e = record { head = o; tail = os; here = refl; there = refl; both = cc }

pub record IsRead (n : ℕ) (ws : List ℕ) (ops : List Op) : Type 0 where
  pub counted : length ops ≡ n
  pub words : take (3 * n) ws ≡ ops_words ops
  pub within : All (OpIsWithin (2 ^ 32)) ops

read_more : (n kind first second : ℕ) (ws : List ℕ) (o : Op) (os : List Op) → Triple kind first second o → IsRead n ws os → IsRead (suc n) (kind ∷ first ∷ second ∷ ws) (o ∷ os)
read_more n kind first second ws o os t r =
    let three : 3 * suc n ≡ suc (suc (suc (3 * n))) = omega arith in
    record {
      counted = ap (λ (k : ℕ). suc k) r.counted;
      words = rw (three, r.words, t.words) refl;
      within = All-cons (OpIsWithin (2 ^ 32)) o os t.within r.within;
    }

pub words_back : (n : ℕ) (ws : List ℕ) (ops : List Op) → ops_from_words n ws ≡ Some ops → IsRead n ws ops
words_back zero ws ops e =
    let none : [] ≡ ops = cc in
    subst (λ (os : List Op). IsRead zero ws os) none (record { counted = refl; words = refl; within = All-nil (OpIsWithin (2 ^ 32)) })
words_back (suc n) [] ops e = absurd (cc)
words_back (suc n) (kind ∷ []) ops e = absurd (cc)
words_back (suc n) (kind ∷ first ∷ []) ops e = absurd (cc)
words_back (suc n) (kind ∷ first ∷ second ∷ ws) ops e =
    let j = joined_parts (op_from_words kind first second) (ops_from_words n ws) ops e in
    subst (λ (os : List Op). IsRead (suc n) (kind ∷ first ∷ second ∷ ws) os) (sym j.both)
    (read_more n kind first second ws j.head j.tail (op_read kind first second j.head j.here) (words_back n ws j.tail j.there))

record Made (n : ℕ) (read : Option (List Op)) (p : Program) : Type 0 where
  counted : p.n ≡ n
  ops : read ≡ Some p.ops

made_parts : (n : ℕ) (read : Option (List Op)) (p : Program) → script_if_read n read ≡ Some p → Made n read p
made_parts n None p e = absurd (cc)
made_parts n (Some ops) p e =
    let same : ◌≡◌ {A = Program} (record { n = n; ops = ops }) p = same_Some _ p e in
    record { counted = sym (ap (λ (x : Program). x.n) same); ops = ap (λ (x : Program). Some x.ops) same }

pub script_slate : (n : ℕ) (ws : List ℕ) (p : Program) → script_from_words n ws ≡ Some p → IsSlate n ws p
script_slate n ws p e = elim (cases_lt 8 n) [
  | inl l ↦ let over : nat_lt 8 n ≡ true = lt-ltb 8 n l in absurd (none-some p (rw over at e))
  | inr few ↦ let short : nat_lt 8 n ≡ false = le-ltb 8 n few in
      let m = made_parts n (ops_from_words n ws) p (rw short at e) in
      let r = words_back n ws p.ops m.ops in
      record {
        counted = m.counted;
        script = record { few = omega (arith, few, m.counted); counted = r.counted ∙ sym m.counted; within = r.within };
        first = r.words;
      }
]

pub script_exact : (n : ℕ) (ws : List ℕ) (p : Program) → (script_from_words n ws ≡ Some p) ↔ IsSlate n ws p
script_exact n ws p = (script_slate n ws p, slate_some n ws p)

-- An answer equal to `script_from_words` is one for exactly the slates.
pub exact_answer : (n : ℕ) (ws : List ℕ) (answer : Option Program) → answer ≡ script_from_words n ws → (p : Program) → (answer ≡ Some p) ↔ IsSlate n ws p
exact_answer n ws answer e p = (λ h. script_slate n ws p (sym e ∙ h), λ s. e ∙ slate_some n ws p s)

-- More than eight operations are no script.
pub no_script : (n : ℕ) (ws : List ℕ) → 8 < n → script_from_words n ws ≡ None
no_script n ws many = rw (lt-ltb 8 n many) refl

-- Words with the same beginning give the same script.
pub same_script : (n : ℕ) (ws vs : List ℕ) → take (3 * n) ws ≡ take (3 * n) vs → script_from_words n ws ≡ script_from_words n vs
same_script n ws vs same =
    by_answers (script_from_words n ws) (script_from_words n vs) (λ p e. slate_some n vs p (moved ws vs p same (script_slate n ws p e))) (λ p e. slate_some n ws p (moved vs ws p (sym same) (script_slate n vs p e)))
  where
    moved : (xs ys : List ℕ) (p : Program) → take (3 * n) xs ≡ take (3 * n) ys → IsSlate n xs p → IsSlate n ys p
    moved xs ys p e slate = record { counted = slate.counted; script = slate.script; first = sym e ∙ slate.first }

    by_answers : (a b : Option Program) → ((p : Program) → a ≡ Some p → b ≡ Some p) → ((p : Program) → b ≡ Some p → a ≡ Some p) → a ≡ b
    by_answers None None f g = refl
    by_answers None (Some p) f g = g p refl
    by_answers (Some p) b f g = sym (f p refl)

-- The three words are those of the operation.
pub record IsTriple (kind first second : ℕ) (o : Op) : Type 0 where
  pub words : kind ∷ first ∷ second ∷ [] ≡ op_words o
  pub within : OpIsWithin (2 ^ 32) o

pub op_told : (kind first second : ℕ) (o : Op) → op_from_words kind first second ≡ Some o → IsTriple kind first second o
op_told kind first second o e =
    let r = words_back 1 (kind ∷ first ∷ second ∷ []) (o ∷ []) (rw e refl) in
    record { words = r.words ∙ append-nil (op_words o); within = All-head (OpIsWithin (2 ^ 32)) o [] r.within }
