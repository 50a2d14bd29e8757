-- The numbering of the addresses is one to one, and below the number of words.
use Rattle.std.proofs.Common.{◌≡◌, ℕ, zero, suc, ◌+◌, ◌-◌, ◌*◌, ◌/◌, ◌%◌, ◌<◌, ◌≤◌, refl, sym, ◌∙◌, ap, arith}
use Rattle.std.specs.Prelude.{if◌then◌else◌, ◌==◌, nat_lt, true, false}
use Rattle.std.proofs.lemmas.Nat.{same_from_place, mul-add-lt}
use Rattle.std.proofs.lemmas.Bool.{lt-ltb, le-ltb, eq-eqb, ne_eqb}
use Rattle.rme_words.specs.declared.shape.Shape.{Shape}
use Rattle.rme_words.specs.declared.address.Address.{Address}
use Rattle.rme_words.specs.declared.address.Address.TheVariants.{Begun, Done, Reply, Place, At, SlateLock, SlateLen, SlateWord, Node, Turn, Cell, Shadow, ShadowReply, Mask}
use Rattle.rme_words.specs.Words.{IsShapeAddress, word_number, word_count, lock_start, lock_block}

-- The block of an address, and its offset there.
pub data Spot : Type 0 where
  of_worker : (worker offset : ℕ) → Spot
  of_lock : (lock offset : ℕ) → Spot

abbrev pub spot : Shape → Address → Spot
spot s (Begun w) = of_worker w 0
spot s (Done w) = of_worker w 1
spot s (Reply w) = of_worker w 2
spot s (Place w) = of_worker w 3
spot s (At w) = of_worker w 4
spot s (SlateLock w) = of_worker w 5
spot s (SlateLen w) = of_worker w 6
spot s (SlateWord w i k) = of_worker w (7 + 3 * i + k)
spot s (Node l v) = of_lock l (v - 1)
spot s (Turn l) = of_lock l (s.leaves - 1)
spot s (Cell l c) = of_lock l (s.leaves + c)
spot s (Shadow l c) = of_lock l (s.leaves + s.cells + c)
spot s (ShadowReply l) = of_lock l (s.leaves + 2 * s.cells)
spot s (Mask l) = of_lock l (s.leaves + 1 + 2 * s.cells)

abbrev pub number : Shape → Spot → ℕ
number s (of_worker w o) = 31 * w + o
number s (of_lock l o) = lock_start s l + o

abbrev pub IsInBlock : Shape → Spot → Type 0
IsInBlock s (of_worker w o) = (w < s.workers) × (o < 31)
IsInBlock s (of_lock l o) = (l < s.locks) × (o < lock_block s)

-- The address at an offset of a worker's block, and of a lock's block.
abbrev pub own_at : ℕ → ℕ → Address
own_at w zero = Begun w
own_at w (suc zero) = Done w
own_at w (suc (suc zero)) = Reply w
own_at w (suc (suc (suc zero))) = Place w
own_at w (suc (suc (suc (suc zero)))) = At w
own_at w (suc (suc (suc (suc (suc zero))))) = SlateLock w
own_at w (suc (suc (suc (suc (suc (suc zero)))))) = SlateLen w
own_at w (suc (suc (suc (suc (suc (suc (suc o))))))) = SlateWord w (o / 3) (o % 3)

abbrev pub lock_at : Shape → ℕ → ℕ → Address
lock_at s l o =
    if nat_lt o (s.leaves - 1) then Node l (o + 1)
    else if o == (s.leaves - 1) then Turn l
    else if nat_lt o (s.leaves + s.cells) then Cell l (o - s.leaves)
    else if nat_lt o (s.leaves + 2 * s.cells) then Shadow l (o - (s.leaves + s.cells))
    else if o == (s.leaves + 2 * s.cells) then ShadowReply l
    else Mask l

abbrev pub address_at : Shape → Spot → Address
address_at s (of_worker w o) = own_at w o
address_at s (of_lock l o) = lock_at s l o

pub number-spot : (s : Shape) (a : Address) → number s (spot s a) ≡ word_number s a
number-spot s (Begun w) = omega arith
number-spot s (Done w) = refl
number-spot s (Reply w) = refl
number-spot s (Place w) = refl
number-spot s (At w) = refl
number-spot s (SlateLock w) = refl
number-spot s (SlateLen w) = refl
number-spot s (SlateWord w i k) = refl
number-spot s (Node l v) = refl
number-spot s (Turn l) = refl
number-spot s (Cell l c) = refl
number-spot s (Shadow l c) = refl
number-spot s (ShadowReply l) = refl
number-spot s (Mask l) = refl

pub spot-in_block : (s : Shape) (a : Address) → IsShapeAddress s a → IsInBlock s (spot s a)
spot-in_block s (Begun w) h = (h, omega arith)
spot-in_block s (Done w) h = (h, omega arith)
spot-in_block s (Reply w) h = (h, omega arith)
spot-in_block s (Place w) h = (h, omega arith)
spot-in_block s (At w) h = (h, omega arith)
spot-in_block s (SlateLock w) h = (h, omega arith)
spot-in_block s (SlateLen w) h = (h, omega arith)
spot-in_block s (SlateWord w i k) h = (h.0, omega arith)
spot-in_block s (Node l v) h = (h.0, omega arith)
spot-in_block s (Turn l) h = (h, omega arith)
spot-in_block s (Cell l c) h = (h.0, omega arith)
spot-in_block s (Shadow l c) h = (h.0, omega arith)
spot-in_block s (ShadowReply l) h = (h, omega arith)
spot-in_block s (Mask l) h = (h, omega arith)

slate_word : (w i k : ℕ) → k < 3 → own_at w (7 + 3 * i + k) ≡ SlateWord w i k
slate_word w i k h =
    let split : 7 + 3 * i + k ≡ suc (suc (suc (suc (suc (suc (suc (i * 3 + k))))))) = omega arith in
    let row : (i * 3 + k) / 3 ≡ i = omega arith in
    let column : (i * 3 + k) % 3 ≡ k = omega arith in
    rw (split, row, column) refl

node_at : (s : Shape) (l v : ℕ) → 1 ≤ v → v < s.leaves → lock_at s l (v - 1) ≡ Node l v
node_at s l v low high =
    let below : v - 1 < s.leaves - 1 = omega arith in
    let back : v - 1 + 1 ≡ v = omega arith in
    rw (lt-ltb _ _ below, back) refl

turn_at : (s : Shape) (l : ℕ) → lock_at s l (s.leaves - 1) ≡ Turn l
turn_at s l =
    let past_nodes : nat_lt (s.leaves - 1) (s.leaves - 1) ≡ false = le-ltb _ _ (omega arith) in
    let here : (s.leaves - 1 == s.leaves - 1) ≡ true = eq-eqb _ _ refl in
    rw (past_nodes, here) refl

cell_at : (s : Shape) (l c : ℕ) → c < s.cells → lock_at s l (s.leaves + c) ≡ Cell l c
cell_at s l c h =
    let past_nodes : nat_lt (s.leaves + c) (s.leaves - 1) ≡ false = le-ltb _ _ (omega arith) in
    let past_turn : (s.leaves + c == s.leaves - 1) ≡ false = ne_eqb _ _ (omega (arith, s.counted.tree)) in
    let here : nat_lt (s.leaves + c) (s.leaves + s.cells) ≡ true = lt-ltb _ _ (omega arith) in
    let back : s.leaves + c - s.leaves ≡ c = omega arith in
    rw (past_nodes, past_turn, here, back) refl

shadow_at : (s : Shape) (l c : ℕ) → c < s.cells → lock_at s l (s.leaves + s.cells + c) ≡ Shadow l c
shadow_at s l c h =
    let past_nodes : nat_lt (s.leaves + s.cells + c) (s.leaves - 1) ≡ false = le-ltb _ _ (omega arith) in
    let past_turn : (s.leaves + s.cells + c == s.leaves - 1) ≡ false = ne_eqb _ _ (omega (arith, s.counted.tree)) in
    let past_cells : nat_lt (s.leaves + s.cells + c) (s.leaves + s.cells) ≡ false = le-ltb _ _ (omega arith) in
    let here : nat_lt (s.leaves + s.cells + c) (s.leaves + 2 * s.cells) ≡ true = lt-ltb _ _ (omega arith) in
    let back : s.leaves + s.cells + c - (s.leaves + s.cells) ≡ c = omega arith in
    rw (past_nodes, past_turn, past_cells, here, back) refl

shadow_reply_at : (s : Shape) (l : ℕ) → lock_at s l (s.leaves + 2 * s.cells) ≡ ShadowReply l
shadow_reply_at s l =
    let past_nodes : nat_lt (s.leaves + 2 * s.cells) (s.leaves - 1) ≡ false = le-ltb _ _ (omega arith) in
    let past_turn : (s.leaves + 2 * s.cells == s.leaves - 1) ≡ false = ne_eqb _ _ (omega (arith, s.counted.tree)) in
    let past_cells : nat_lt (s.leaves + 2 * s.cells) (s.leaves + s.cells) ≡ false = le-ltb _ _ (omega arith) in
    let past_shadows : nat_lt (s.leaves + 2 * s.cells) (s.leaves + 2 * s.cells) ≡ false = le-ltb _ _ (omega arith) in
    let here : (s.leaves + 2 * s.cells == s.leaves + 2 * s.cells) ≡ true = eq-eqb _ _ refl in
    rw (past_nodes, past_turn, past_cells, past_shadows, here) refl

mask_at : (s : Shape) (l : ℕ) → lock_at s l (s.leaves + 1 + 2 * s.cells) ≡ Mask l
mask_at s l =
    let past_nodes : nat_lt (s.leaves + 1 + 2 * s.cells) (s.leaves - 1) ≡ false = le-ltb _ _ (omega arith) in
    let past_turn : (s.leaves + 1 + 2 * s.cells == s.leaves - 1) ≡ false = ne_eqb _ _ (omega (arith, s.counted.tree)) in
    let past_cells : nat_lt (s.leaves + 1 + 2 * s.cells) (s.leaves + s.cells) ≡ false = le-ltb _ _ (omega arith) in
    let past_shadows : nat_lt (s.leaves + 1 + 2 * s.cells) (s.leaves + 2 * s.cells) ≡ false = le-ltb _ _ (omega arith) in
    let past_reply : (s.leaves + 1 + 2 * s.cells == s.leaves + 2 * s.cells) ≡ false = ne_eqb _ _ (omega arith) in
    rw (past_nodes, past_turn, past_cells, past_shadows, past_reply) refl

pub address-spot : (s : Shape) (a : Address) → IsShapeAddress s a → address_at s (spot s a) ≡ a
address-spot s (Begun w) h = refl
address-spot s (Done w) h = refl
address-spot s (Reply w) h = refl
address-spot s (Place w) h = refl
address-spot s (At w) h = refl
address-spot s (SlateLock w) h = refl
address-spot s (SlateLen w) h = refl
address-spot s (SlateWord w i k) h = slate_word w i k h.2
address-spot s (Node l v) h = node_at s l v h.1 h.2
address-spot s (Turn l) h = turn_at s l
address-spot s (Cell l c) h = cell_at s l c h.1
address-spot s (Shadow l c) h = shadow_at s l c h.1
address-spot s (ShadowReply l) h = shadow_reply_at s l
address-spot s (Mask l) h = mask_at s l

-- Spots with the same number are equal.
pub same_spot : (s : Shape) (a b : Spot) → IsInBlock s a → IsInBlock s b → number s a ≡ number s b → a ≡ b
same_spot s (of_worker w o) (of_worker u i) h k e =
    let same : (w ≡ u) × (o ≡ i) = same_from_place w o u i 31 h.1 k.1 (omega arith) in
    rw (same.0, same.1) refl
same_spot s (of_worker w o) (of_lock l i) h k e = absurd (omega arith)
same_spot s (of_lock l i) (of_worker w o) h k e = absurd (omega arith)
same_spot s (of_lock l o) (of_lock m i) h k e =
    let same : (l ≡ m) × (o ≡ i) = same_from_place l o m i (lock_block s) h.1 k.1 (omega arith) in
    rw (same.0, same.1) refl

-- Distinct addresses have distinct numbers.
pub same_address : (s : Shape) (a b : Address) → IsShapeAddress s a → IsShapeAddress s b → word_number s a ≡ word_number s b → a ≡ b
same_address s a b h k e =
    let numbers : number s (spot s a) ≡ number s (spot s b) = number-spot s a ∙ (e ∙ sym (number-spot s b)) in
    let spots : spot s a ≡ spot s b = same_spot s _ _ (spot-in_block s a h) (spot-in_block s b k) numbers in
    sym (address-spot s a h) ∙ (ap (address_at s) spots ∙ address-spot s b k)

number_below : (s : Shape) (p : Spot) → IsInBlock s p → number s p < word_count s
number_below s (of_worker w o) h = omega arith
number_below s (of_lock l o) h = omega (arith, mul-add-lt l (lock_block s) o s.locks h.0 h.1)

-- Each number is below the number of words.
pub word_below : (s : Shape) (a : Address) → IsShapeAddress s a → word_number s a < word_count s
word_below s a h = rw (← number-spot s a) (number_below s _ (spot-in_block s a h))
