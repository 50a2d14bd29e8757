-- Bits are shifted one after the other, and each for itself: so the remainder of a sum is the sum of the remainders, and
-- eight bytes can be taken at once.
use Rattle.std.proofs.Common.{◌≡◌, ◌⊎◌, ℕ, zero, suc, ◌+◌, ◌*◌, ◌/◌, ◌%◌, ◌^◌, ◌<◌, ◌≤◌, List, [], ◌∷◌, ◌++◌, length, get_or, drop, refl, sym, ap, ap₂, ◌∙◌, arith, inl, inr}
use Rattle.std.specs.Int.Bits.{bit_xor, xor_self, xor_zero_r}
use Rattle.std.proofs.lemmas.Bool.{cases_eq, cases_lt}
use Rattle.std.proofs.lemmas.List.{get_or_append_left}
use Rattle.std.proofs.Math.Seq.{get_or-append_seam}
use Rattle.std.proofs.lemmas.Nat.{xor_comm, xor_shr, xor_mod, xor_block, shr-shr, shr_split, mod_below, div-mul-add, mod-mul-add}
use lib.Bits.{xor_assoc}
use Rattle.rme_durable_writes.specs.Checksums.{AreRemainders, crc_after, next_crc, remainder_at, shift_bit, shift_bits}

pub shift_more : (left count crc : ℕ) → left ≡ suc count → shift_bits left crc ≡ shift_bits count (shift_bit crc)
unfolding shift_bits
shift_more left count crc is = ap (λ (n : ℕ). shift_bits n crc) is

pub shift_none : (left crc : ℕ) → left ≡ 0 → shift_bits left crc ≡ crc
unfolding shift_bits
shift_none left crc is = ap (λ (n : ℕ). shift_bits n crc) is

-- ---- one bit

abbrev polynomial : ℕ
polynomial = 0x82f63b78

shift_even : (n : ℕ) → n % 2 ≡ 0 → shift_bit n ≡ n / 2
shift_even n even = rw even refl

shift_odd : (n : ℕ) → n % 2 ≡ 1 → shift_bit n ≡ bit_xor (n / 2) polynomial
shift_odd n odd = rw odd refl

parity : (n : ℕ) → (n % 2 ≡ 0) ⊎ (n % 2 ≡ 1)
parity n = elim (cases_eq (n % 2) 0) [ inl even ↦ inl even | inr odd ↦ inr (omega (arith, odd, mod_below n 2 (omega arith))) ]

swap_last : (a b c : ℕ) → bit_xor (bit_xor a b) c ≡ bit_xor (bit_xor a c) b
swap_last a b c = xor_assoc a b c ∙ ap (λ (n : ℕ). bit_xor a n) (xor_comm b c) ∙ sym (xor_assoc a c b)

both_add : (a b c : ℕ) → bit_xor (bit_xor a c) (bit_xor b c) ≡ bit_xor a b
both_add a b c =
    sym (xor_assoc (bit_xor a c) b c) ∙ swap_last (bit_xor a c) b c ∙ ap (λ (n : ℕ). bit_xor n b) (xor_assoc a c c ∙ ap (λ (n : ℕ). bit_xor a n) (xor_self c) ∙ xor_zero_r a)

module _ (a b : ℕ) where
  half : bit_xor a b / 2 ≡ bit_xor (a / 2) (b / 2)
  half = xor_shr a b 1

  low_bit : (p q : ℕ) → a % 2 ≡ p → b % 2 ≡ q → bit_xor a b % 2 ≡ bit_xor p q
  low_bit p q first second = xor_mod a b 1 ∙ ap₂ bit_xor first second

  pub shift_bit_sum : shift_bit (bit_xor a b) ≡ bit_xor (shift_bit a) (shift_bit b)
  shift_bit_sum =
      elim (parity a) [
        | inl even ↦ elim (parity b) [
          | inl second ↦ shift_even (bit_xor a b) (low_bit 0 0 even second) ∙ half ∙ sym (ap₂ bit_xor (shift_even a even) (shift_even b second))
          | inr second ↦ shift_odd (bit_xor a b) (low_bit 0 1 even second) ∙ ap (λ (n : ℕ). bit_xor n polynomial) half ∙ xor_assoc (a / 2) (b / 2) polynomial
              ∙ sym (ap₂ bit_xor (shift_even a even) (shift_odd b second))
        ]
        | inr odd ↦ elim (parity b) [
          | inl second ↦ shift_odd (bit_xor a b) (low_bit 1 0 odd second) ∙ ap (λ (n : ℕ). bit_xor n polynomial) half ∙ swap_last (a / 2) (b / 2) polynomial
              ∙ sym (ap₂ bit_xor (shift_odd a odd) (shift_even b second))
          | inr second ↦ shift_even (bit_xor a b) (low_bit 1 1 odd second) ∙ half ∙ sym (both_add (a / 2) (b / 2) polynomial) ∙ sym (ap₂ bit_xor (shift_odd a odd) (shift_odd b second))
        ]
      ]

-- ---- some bits

pub shift_sum : (count a b : ℕ) → shift_bits count (bit_xor a b) ≡ bit_xor (shift_bits count a) (shift_bits count b)
unfolding shift_bits
shift_sum zero a b = refl
shift_sum (suc count) a b = ap (λ (n : ℕ). shift_bits count n) (shift_bit_sum a b) ∙ shift_sum count (shift_bit a) (shift_bit b)

pub shift_twice : (one other crc : ℕ) → shift_bits other (shift_bits one crc) ≡ shift_bits (one + other) crc
unfolding shift_bits
shift_twice zero other crc = ap (λ (n : ℕ). shift_bits n crc) (let same : other ≡ zero + other = omega arith in same)
shift_twice (suc one) other crc = shift_twice one other (shift_bit crc) ∙ sym (ap (λ (n : ℕ). shift_bits n crc) (let more : suc one + other ≡ suc (one + other) = omega arith in more))

shift_double : (n half : ℕ) → n ≡ half * 2 + 0 → shift_bit n ≡ half
shift_double n half is =
    let even : n % 2 ≡ 0 = ap (λ (k : ℕ). k % 2) is ∙ mod-mul-add half 2 0 (omega arith) in
    shift_even n even ∙ ap (λ (k : ℕ). k / 2) is ∙ div-mul-add half 2 0 (omega arith)

-- What stands above a byte is left when the byte is shifted out.
shift_out : (n : ℕ) → shift_bits 8 (n * 256) ≡ n
unfolding shift_bits
shift_out n =
    ap (λ (k : ℕ). shift_bits 7 k) (shift_double (n * 256) (n * 128) (omega arith))
    ∙ ap (λ (k : ℕ). shift_bits 6 k) (shift_double (n * 128) (n * 64) (omega arith))
    ∙ ap (λ (k : ℕ). shift_bits 5 k) (shift_double (n * 64) (n * 32) (omega arith))
    ∙ ap (λ (k : ℕ). shift_bits 4 k) (shift_double (n * 32) (n * 16) (omega arith))
    ∙ ap (λ (k : ℕ). shift_bits 3 k) (shift_double (n * 16) (n * 8) (omega arith))
    ∙ ap (λ (k : ℕ). shift_bits 2 k) (shift_double (n * 8) (n * 4) (omega arith))
    ∙ ap (λ (k : ℕ). shift_bits 1 k) (shift_double (n * 4) (n * 2) (omega arith))
    ∙ shift_double (n * 2) n (omega arith)

parts_of : (n : ℕ) → bit_xor (n % 256) (n / 256 * 256) ≡ n
parts_of n =
    let parts : bit_xor (0 * 256 + n % 256) (n / 256 * 256 + 0) ≡ bit_xor 0 (n / 256) * 256 + bit_xor (n % 256) 0 =
    xor_block 8 0 (n / 256) (n % 256) 0 (mod_below n 256 (omega arith)) (omega arith) in
    let low : n % 256 ≡ 0 * 256 + n % 256 = omega arith in
    let high : n / 256 * 256 ≡ n / 256 * 256 + 0 = omega arith in
    ap₂ bit_xor low high ∙ parts ∙ ap (λ (k : ℕ). n / 256 * 256 + k) (xor_zero_r (n % 256)) ∙ shr_split n 8

shift_byte : (n : ℕ) → shift_bits 8 n ≡ bit_xor (shift_bits 8 (n % 256)) (n / 256)
shift_byte n = ap (λ (k : ℕ). shift_bits 8 k) (sym (parts_of n)) ∙ shift_sum 8 (n % 256) (n / 256 * 256) ∙ ap (λ (k : ℕ). bit_xor (shift_bits 8 (n % 256)) k) (shift_out (n / 256))

-- ---- bytes

pub byte_step : (crc byte : ℕ) → byte < 256 → next_crc crc byte ≡ bit_xor (shift_bits 8 (bit_xor crc byte % 256)) (crc / 256)
byte_step crc byte small =
    let none : byte / 256 ≡ 0 = omega (arith, small) in
    shift_byte (bit_xor crc byte)
    ∙ ap (λ (k : ℕ). bit_xor (shift_bits 8 (bit_xor crc byte % 256)) k) (xor_shr crc byte 8 ∙ ap (λ (k : ℕ). bit_xor (crc / 256) k) none ∙ xor_zero_r (crc / 256))

-- A part of a remainder is shifted beside what the next byte changes.
beside : (count n crc byte next : ℕ) → next_crc crc byte ≡ next → next_crc (bit_xor (shift_bits count n) crc) byte ≡ bit_xor (shift_bits (count + 8) n) next
beside count n crc byte next is =
    ap (λ (k : ℕ). shift_bits 8 k) (xor_assoc (shift_bits count n) crc byte) ∙ shift_sum 8 (shift_bits count n) (bit_xor crc byte) ∙ ap₂ bit_xor (shift_twice count 8 n) is

module _ (crc a b c d : ℕ) (crc_small : crc < 2 ^ 32) (a_small : a < 256) (b_small : b < 256) (c_small : c < 256) (d_small : d < 256) where
  abbrev first : ℕ
  first = bit_xor crc a % 256

  abbrev second : ℕ
  second = bit_xor (crc / 256) b % 256

  abbrev third : ℕ
  third = bit_xor (crc / 65536) c % 256

  abbrev fourth : ℕ
  fourth = bit_xor (crc / 16777216) d % 256

  two_steps : next_crc (next_crc crc a) b ≡ bit_xor (shift_bits 16 first) (bit_xor (shift_bits 8 second) (crc / 65536))
  two_steps =
      ap (λ (k : ℕ). next_crc k b) (byte_step crc a a_small)
      ∙ beside 8 first (crc / 256) b _ (byte_step (crc / 256) b b_small ∙ ap (λ (k : ℕ). bit_xor (shift_bits 8 second) k) (shr-shr crc 8 8))

  three_steps : next_crc (next_crc (next_crc crc a) b) c ≡ bit_xor (shift_bits 24 first) (bit_xor (shift_bits 16 second) (bit_xor (shift_bits 8 third) (crc / 16777216)))
  three_steps =
      ap (λ (k : ℕ). next_crc k c) two_steps
      ∙ beside 16 first _ c _ (beside 8 second (crc / 65536) c _ (byte_step (crc / 65536) c c_small ∙ ap (λ (k : ℕ). bit_xor (shift_bits 8 third) k) (shr-shr crc 16 8)))

  pub four_steps : bit_xor (shift_bits 32 first) (bit_xor (shift_bits 24 second) (bit_xor (shift_bits 16 third) (shift_bits 8 fourth))) ≡ next_crc (next_crc (next_crc (next_crc crc a) b) c) d
  four_steps =
      let none : crc / 16777216 / 256 ≡ 0 = omega (arith, crc_small) in
      let last : next_crc (crc / 16777216) d ≡ shift_bits 8 fourth = byte_step (crc / 16777216) d d_small ∙ ap (λ (k : ℕ). bit_xor (shift_bits 8 fourth) k) none ∙ xor_zero_r (shift_bits 8 fourth) in
      sym (ap (λ (k : ℕ). next_crc k d) three_steps ∙ beside 24 first _ d _ (beside 16 second _ d _ (beside 8 third (crc / 16777216) d _ last)))

-- A byte whose place has no remainder of earlier bytes.
last_beside : (count n byte : ℕ) → next_crc (shift_bits count n) byte ≡ bit_xor (shift_bits (count + 8) n) (shift_bits 8 byte)
last_beside count n byte = shift_sum 8 (shift_bits count n) byte ∙ ap (λ (k : ℕ). bit_xor k (shift_bits 8 byte)) (shift_twice count 8 n)

-- Four more bytes behind four whose remainders these are.
module _ (p q r s e f g h : ℕ) where
  five_steps : next_crc (bit_xor (shift_bits 32 p) (bit_xor (shift_bits 24 q) (bit_xor (shift_bits 16 r) (shift_bits 8 s)))) e
      ≡ bit_xor (shift_bits 40 p) (bit_xor (shift_bits 32 q) (bit_xor (shift_bits 24 r) (bit_xor (shift_bits 16 s) (shift_bits 8 e))))
  five_steps = beside 32 p _ e _ (beside 24 q _ e _ (beside 16 r _ e _ (last_beside 8 s e)))

  six_steps : next_crc (bit_xor (shift_bits 40 p) (bit_xor (shift_bits 32 q) (bit_xor (shift_bits 24 r) (bit_xor (shift_bits 16 s) (shift_bits 8 e))))) f
      ≡ bit_xor (shift_bits 48 p) (bit_xor (shift_bits 40 q) (bit_xor (shift_bits 32 r) (bit_xor (shift_bits 24 s) (bit_xor (shift_bits 16 e) (shift_bits 8 f)))))
  six_steps = beside 40 p _ f _ (beside 32 q _ f _ (beside 24 r _ f _ (beside 16 s _ f _ (last_beside 8 e f))))

  seven_steps : next_crc (bit_xor (shift_bits 48 p) (bit_xor (shift_bits 40 q) (bit_xor (shift_bits 32 r) (bit_xor (shift_bits 24 s) (bit_xor (shift_bits 16 e) (shift_bits 8 f)))))) g
      ≡ bit_xor (shift_bits 56 p) (bit_xor (shift_bits 48 q) (bit_xor (shift_bits 40 r) (bit_xor (shift_bits 32 s) (bit_xor (shift_bits 24 e) (bit_xor (shift_bits 16 f) (shift_bits 8 g))))))
  seven_steps = beside 48 p _ g _ (beside 40 q _ g _ (beside 32 r _ g _ (beside 24 s _ g _ (beside 16 e _ g _ (last_beside 8 f g)))))

  eight_steps : next_crc (bit_xor (shift_bits 56 p) (bit_xor (shift_bits 48 q) (bit_xor (shift_bits 40 r) (bit_xor (shift_bits 32 s) (bit_xor (shift_bits 24 e) (bit_xor (shift_bits 16 f) (shift_bits 8 g))))))) h
      ≡ bit_xor (shift_bits 64 p) (bit_xor (shift_bits 56 q) (bit_xor (shift_bits 48 r) (bit_xor (shift_bits 40 s) (bit_xor (shift_bits 32 e) (bit_xor (shift_bits 24 f) (bit_xor (shift_bits 16 g) (shift_bits 8 h)))))))
  eight_steps = beside 56 p _ h _ (beside 48 q _ h _ (beside 40 r _ h _ (beside 32 s _ h _ (beside 24 e _ h _ (beside 16 f _ h _ (last_beside 8 g h))))))

  pub four_behind : bit_xor (shift_bits 64 p) (bit_xor (shift_bits 56 q) (bit_xor (shift_bits 48 r) (bit_xor (shift_bits 40 s) (bit_xor (shift_bits 32 e) (bit_xor (shift_bits 24 f) (bit_xor (shift_bits 16 g) (shift_bits 8 h)))))))
      ≡ next_crc (next_crc (next_crc (next_crc (bit_xor (shift_bits 32 p) (bit_xor (shift_bits 24 q) (bit_xor (shift_bits 16 r) (shift_bits 8 s)))) e) f) g) h
  four_behind =
      sym (ap (λ (k : ℕ). next_crc (next_crc (next_crc k f) g) h) five_steps ∙ ap (λ (k : ℕ). next_crc (next_crc k g) h) six_steps
      ∙ ap (λ (k : ℕ). next_crc k h) seven_steps ∙ eight_steps)

too_short : (n : ℕ) → 8 ≤ n → n < 8 → ⊥
too_short n long short = omega (arith, long, short)

-- The remainders of the next eight bytes, the first of them added to what was left.
pub record AreNextEight (crc : ℕ) (bytes : List ℕ) (a b c d e f g h : ℕ) : Type 0 where
  pub first : a ≡ shift_bits 64 (bit_xor crc (get_or bytes 0 0) % 256)
  pub second : b ≡ shift_bits 56 (bit_xor (crc / 256) (get_or bytes 1 0) % 256)
  pub third : c ≡ shift_bits 48 (bit_xor (crc / 65536) (get_or bytes 2 0) % 256)
  pub fourth : d ≡ shift_bits 40 (bit_xor (crc / 16777216) (get_or bytes 3 0) % 256)
  pub fifth : e ≡ shift_bits 32 (get_or bytes 4 0 % 256)
  pub sixth : f ≡ shift_bits 24 (get_or bytes 5 0 % 256)
  pub seventh : g ≡ shift_bits 16 (get_or bytes 6 0 % 256)
  pub eighth : h ≡ shift_bits 8 (get_or bytes 7 0 % 256)

byte_shifted : (count byte value : ℕ) → byte < 256 → value ≡ shift_bits count (byte % 256) → value ≡ shift_bits count byte
byte_shifted count byte value small is = is ∙ ap (λ (k : ℕ). shift_bits count k) (let same : byte % 256 ≡ byte = omega (arith, small) in same)

-- The next eight bytes at once.
pub eight_more : (crc : ℕ) (bytes : List ℕ) → 8 ≤ length bytes → crc < 2 ^ 32 → ((place : ℕ) → get_or bytes place 0 < 256) → (p q r s t u v w : ℕ)
    → AreNextEight crc bytes p q r s t u v w
    → crc_after (bit_xor p (bit_xor q (bit_xor r (bit_xor s (bit_xor t (bit_xor u (bit_xor v w))))))) (drop 8 bytes) ≡ crc_after crc bytes
eight_more crc [] long small bytes p q r s t u v w are = absurd (too_short 0 long (omega arith))
eight_more crc (a ∷ []) long small bytes p q r s t u v w are = absurd (too_short 1 long (omega arith))
eight_more crc (a ∷ b ∷ []) long small bytes p q r s t u v w are = absurd (too_short 2 long (omega arith))
eight_more crc (a ∷ b ∷ c ∷ []) long small bytes p q r s t u v w are = absurd (too_short 3 long (omega arith))
eight_more crc (a ∷ b ∷ c ∷ d ∷ []) long small bytes p q r s t u v w are = absurd (too_short 4 long (omega arith))
eight_more crc (a ∷ b ∷ c ∷ d ∷ e ∷ []) long small bytes p q r s t u v w are = absurd (too_short 5 long (omega arith))
eight_more crc (a ∷ b ∷ c ∷ d ∷ e ∷ f ∷ []) long small bytes p q r s t u v w are = absurd (too_short 6 long (omega arith))
eight_more crc (a ∷ b ∷ c ∷ d ∷ e ∷ f ∷ g ∷ []) long small bytes p q r s t u v w are = absurd (too_short 7 long (omega arith))
eight_more crc (a ∷ b ∷ c ∷ d ∷ e ∷ f ∷ g ∷ h ∷ rest) long small bytes p q r s t u v w are =
    let end = ap₂ bit_xor (byte_shifted 24 f u (bytes 5) are.sixth) (ap₂ bit_xor (byte_shifted 16 g v (bytes 6) are.seventh) (byte_shifted 8 h w (bytes 7) are.eighth)) in
    let parts = ap₂ bit_xor are.first (ap₂ bit_xor are.second (ap₂ bit_xor are.third (ap₂ bit_xor are.fourth (ap₂ bit_xor (byte_shifted 32 e t (bytes 4) are.fifth) end)))) in
    let four = four_steps crc a b c d small (bytes 0) (bytes 1) (bytes 2) (bytes 3) in
    ap (λ (k : ℕ). crc_after k rest) (parts ∙ four_behind _ _ _ _ e f g h ∙ ap (λ (k : ℕ). next_crc (next_crc (next_crc (next_crc k e) f) g) h) four)

-- ---- the table

-- The entry of the same byte, with one zero byte less behind it, and one more byte behind that.
pub entry_behind : (entry earlier : ℕ) → entry ≡ earlier + 256 → shift_bits 8 (remainder_at earlier) ≡ remainder_at entry
entry_behind entry earlier is =
    let byte : earlier % 256 ≡ entry % 256 = omega (arith, is) in
    let bits : 8 * (earlier / 256 + 1) + 8 ≡ 8 * (entry / 256 + 1) = omega (arith, is) in
    shift_twice (8 * (earlier / 256 + 1)) 8 (earlier % 256) ∙ ap₂ shift_bits bits byte

pub first_entry : (entry : ℕ) → entry < 256 → shift_bits 8 entry ≡ remainder_at entry
first_entry entry below =
    let byte : entry ≡ entry % 256 = omega (arith, below) in
    let bits : 8 ≡ 8 * (entry / 256 + 1) = omega (arith, below) in
    ap₂ shift_bits bits byte

pub one_more_entry : (table : List ℕ) (count value : ℕ) → length table ≡ count → AreRemainders table count → value ≡ remainder_at count → AreRemainders (table ++ value ∷ []) (count + 1)
one_more_entry table count value long are is entry below =
    elim (cases_lt entry count) [
      | inl before ↦ get_or_append_left table (value ∷ []) 0 entry (omega (arith, before, long)) ∙ are entry before
      | inr behind ↦
          let last : entry ≡ count = omega (arith, below, behind) in
          let there : entry ≡ length table = omega (arith, last, long) in
          ap (λ (n : ℕ). get_or (table ++ value ∷ []) n 0) there ∙ get_or-append_seam table value [] 0 ∙ is ∙ ap (λ (n : ℕ). remainder_at n) (sym last)
    ]
