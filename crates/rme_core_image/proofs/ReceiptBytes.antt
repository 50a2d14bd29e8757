-- A receipt: parsed bytes are its encoding, and the encoding is parsed.
use Rattle.std.proofs.Common.{◌≡◌, ℕ, ◌^◌, List, ◌++◌, Option, Some, refl, ap, subst, ◌∙◌, append_assoc}
use Rattle.std.specs.Int.{w8, w16, w32, w64, to_be_bytes}
use Rattle.rme_program.specs.declared.note.Receipt.{Receipt}
use Rattle.rme_core_image.specs.Images.{receipt_bytes, IsSmallReceipt}
use Rattle.rme_core_image.specs.Parsing.{◌>>=◌, parse_number, parse_receipt}
use Rattle.rme_core_image.proofs.Fields.{IsBytes, Takes, Takes-then, bind_some, some_is, wide8, wide16, wide32, wide64, number_takes, number_again}

-- The parser after each field.
abbrev after_reply : (worker number lock place reply : ℕ × List ℕ) → Option (Receipt × List ℕ)
after_reply worker number lock place reply = Some (record { worker = worker.0; lock = lock.0; number = number.0; place = place.0; reply = reply.0 }, reply.1)

abbrev after_place : (worker number lock place : ℕ × List ℕ) → Option (Receipt × List ℕ)
after_place worker number lock place = parse_number w64 place.1 >>= after_reply worker number lock place

abbrev after_lock : (worker number lock : ℕ × List ℕ) → Option (Receipt × List ℕ)
after_lock worker number lock = parse_number w32 lock.1 >>= after_place worker number lock

abbrev after_number : (worker number : ℕ × List ℕ) → Option (Receipt × List ℕ)
after_number worker number = parse_number w8 number.1 >>= after_lock worker number

abbrev after_worker : ℕ × List ℕ → Option (Receipt × List ℕ)
after_worker worker = parse_number w32 worker.1 >>= after_number worker

pub receipt_takes : (bytes : List ℕ) (x : Receipt) (rest : List ℕ) → IsBytes bytes → parse_receipt bytes ≡ Some (x, rest) → Takes bytes (receipt_bytes x) rest × IsSmallReceipt x
unfolding parse_receipt
receipt_takes bytes x rest fits e =
    let a = bind_some (parse_number w16 bytes) after_worker (x, rest) e in
    let b = bind_some (parse_number w32 a.0.1) (after_number a.0) (x, rest) a.2 in
    let c = bind_some (parse_number w8 b.0.1) (after_lock a.0 b.0) (x, rest) b.2 in
    let d = bind_some (parse_number w32 c.0.1) (after_place a.0 b.0 c.0) (x, rest) c.2 in
    let f = bind_some (parse_number w64 d.0.1) (after_reply a.0 b.0 c.0 d.0) (x, rest) d.2 in
    let ta = number_takes w16 (2 ^ 16) wide16 bytes a.0.0 a.0.1 fits a.1 in
    let tb = number_takes w32 (2 ^ 32) wide32 a.0.1 b.0.0 b.0.1 ta.0.rest_fits b.1 in
    let tc = number_takes w8 (2 ^ 8) wide8 b.0.1 c.0.0 c.0.1 tb.0.rest_fits c.1 in
    let td = number_takes w32 (2 ^ 32) wide32 c.0.1 d.0.0 d.0.1 tc.0.rest_fits d.1 in
    let tf = number_takes w64 (2 ^ 64) wide64 d.0.1 f.0.0 f.0.1 td.0.rest_fits f.1 in
    let edf = Takes-then c.0.1 (to_be_bytes w32 d.0.0) d.0.1 (to_be_bytes w64 f.0.0) f.0.1 td.0 tf.0 in
    let ecf = Takes-then b.0.1 (to_be_bytes w8 c.0.0) c.0.1 (to_be_bytes w32 d.0.0 ++ to_be_bytes w64 f.0.0) f.0.1 tc.0 edf in
    let ebf = Takes-then a.0.1 (to_be_bytes w32 b.0.0) b.0.1 (to_be_bytes w8 c.0.0 ++ (to_be_bytes w32 d.0.0 ++ to_be_bytes w64 f.0.0)) f.0.1 tb.0 ecf in
    let eaf = Takes-then bytes (to_be_bytes w16 a.0.0) a.0.1 (to_be_bytes w32 b.0.0 ++ (to_be_bytes w8 c.0.0 ++ (to_be_bytes w32 d.0.0 ++ to_be_bytes w64 f.0.0))) f.0.1 ta.0 ebf in
    let made : Receipt × List ℕ = (record { worker = a.0.0; lock = c.0.0; number = b.0.0; place = d.0.0; reply = f.0.0 }, f.0.1) in
    subst (λ (y : Receipt × List ℕ). Takes bytes (receipt_bytes y.0) y.1 × IsSmallReceipt y.0) {x = made} (some_is made (x, rest) f.2) (eaf, record { worker = ta.1; number = tb.1; lock = tc.1; place = td.1; reply = tf.1 })

five_more : (a b c d e rest : List ℕ) → (a ++ (b ++ (c ++ (d ++ e)))) ++ rest ≡ a ++ (b ++ (c ++ (d ++ (e ++ rest))))
five_more a b c d e rest = simp append_assoc

pub receipt_again : (x : Receipt) (rest : List ℕ) → IsSmallReceipt x → parse_receipt (receipt_bytes x ++ rest) ≡ Some (x, rest)
unfolding parse_receipt
receipt_again x rest small =
    let f : List ℕ = to_be_bytes w64 x.reply ++ rest in
    let d : List ℕ = to_be_bytes w32 x.place ++ f in
    let c : List ℕ = to_be_bytes w8 x.lock ++ d in
    let b : List ℕ = to_be_bytes w32 x.number ++ c in
    ap parse_receipt (five_more (to_be_bytes w16 x.worker) (to_be_bytes w32 x.number) (to_be_bytes w8 x.lock) (to_be_bytes w32 x.place) (to_be_bytes w64 x.reply) rest)
    ∙ rw (number_again w16 (2 ^ 16) wide16 x.worker b small.worker, number_again w32 (2 ^ 32) wide32 x.number c small.number, number_again w8 (2 ^ 8) wide8 x.lock d small.lock, number_again w32 (2 ^ 32) wide32 x.place f small.place, number_again w64 (2 ^ 64) wide64 x.reply rest small.reply) refl
