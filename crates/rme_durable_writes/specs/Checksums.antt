-- CRC-32C, the checksum of writes: the polynomial of Castagnoli (RFC 3720, appendix B.4), one bit at a time.
use Rattle.std.specs.Prelude.{◌≡◌, ◌<◌, ◌+◌, ◌*◌, ℕ, zero, suc, ◌/◌, ◌%◌, ◌==◌, List, bit_xor, get_or, if◌then◌else◌}
use Rattle.std.specs.List.{fold}

-- The remainder after one more bit, which leaves at the low end: so the bits of the polynomial stand reversed.
abbrev pub shift_bit : ℕ → ℕ
shift_bit crc = if crc % 2 == 1 then bit_xor (crc / 2) 0x82f63b78 else crc / 2

-- The same for this number of bits.
unfoldable pub shift_bits : ℕ → ℕ → ℕ
shift_bits zero crc = crc
shift_bits (suc count) crc = shift_bits count (shift_bit crc)

-- The remainder after one more byte.
abbrev pub next_crc : ℕ → ℕ → ℕ
next_crc crc byte = shift_bits 8 (bit_xor crc byte)

-- The remainder after some more bytes.
abbrev pub crc_after : ℕ → List ℕ → ℕ
crc_after crc bytes = fold next_crc crc bytes

-- The remainder before any byte, and the mask of a checksum.
abbrev pub all_ones : ℕ
all_ones = 0xffffffff

-- The checksum of a remainder.
abbrev pub checksum_of : ℕ → ℕ
checksum_of crc = bit_xor crc all_ones

-- The checksum of some bytes.
abbrev pub crc32c : List ℕ → ℕ
crc32c bytes = checksum_of (crc_after all_ones bytes)

-- The entry of a table at this place: the remainder of a byte and of some zero bytes behind it.
abbrev pub remainder_at : ℕ → ℕ
remainder_at entry = shift_bits (8 * (entry / 256 + 1)) (entry % 256)

-- The first entries of a table are these remainders.
abbrev pub AreRemainders : List ℕ → ℕ → Type 0
AreRemainders table count = (entry : ℕ) → entry < count → get_or table entry 0 ≡ remainder_at entry
