-- What the places that the parser answers say of a head.
use Rattle.std.proofs.Common.{◌≤◌, ℕ, All, List, arith}
use Rattle.httparse.specs.Spans.{IsHeaderWithin}
use Rattle.httparse.specs.declared.spans.HeaderSpan.{HeaderSpan}

-- Fields that lie in the first bytes lie in the first of more bytes.
pub lie_within : (few many : ℕ) (fields : List HeaderSpan) → few ≤ many → All (IsHeaderWithin few) fields
    → All (IsHeaderWithin many) fields
lie_within few many fields below all place other is_place =
    let within = all place other is_place in
    ((within.0.0, omega (arith, within.0.1)), (within.1.0, omega (arith, within.1.1)))
