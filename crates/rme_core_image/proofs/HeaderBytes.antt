-- A header: parsed bytes are its encoding, and the encoding is parsed. A shape is determined by its header.
use Rattle.std.proofs.Common.{◌≡◌, ℕ, ◌^◌, ◌<◌, cond, ◌==◌, List, ◌++◌, Option, Some, None, refl, ap, subst, ◌∙◌, append_assoc, arith}
use Rattle.std.specs.Int.{w8, w16, w32, to_be_bytes}
use Rattle.std.proofs.lemmas.Bool.{eqb-true}
use Rattle.std.proofs.lemmas.Option.{cond_some}
use Rattle.rme_core_image.specs.declared.header.ImageHeader.{ImageHeader}
use Rattle.rme_core_image.specs.Images.{header_bytes}
use Rattle.rme_core_image.specs.Parsing.{◌>>=◌, parse_number, parse_header}
use Rattle.rme_core_image.proofs.Fields.{IsBytes, Takes, Takes-then, bind_some, wide8, wide16, wide32, number_takes, number_again}

-- The header's numbers fit their bytes.
pub record IsSmallHeader (header : ImageHeader) : Type 0 where
  pub version : header.version < 2 ^ 8
  pub workers : header.workers < 2 ^ 16
  pub locks : header.locks < 2 ^ 8
  pub cells : header.cells < 2 ^ 8
  pub jobs : header.jobs < 2 ^ 32

-- The parser after each field.
abbrev after_jobs : (magic version workers locks cells jobs : ℕ × List ℕ) → Option (ImageHeader × List ℕ)
after_jobs magic version workers locks cells jobs =
    cond (magic.0 == 0x524d4549) (Some (record { version = version.0; workers = workers.0; locks = locks.0; cells = cells.0; jobs = jobs.0 }, jobs.1)) None

abbrev after_cells : (magic version workers locks cells : ℕ × List ℕ) → Option (ImageHeader × List ℕ)
after_cells magic version workers locks cells = parse_number w32 cells.1 >>= after_jobs magic version workers locks cells

abbrev after_locks : (magic version workers locks : ℕ × List ℕ) → Option (ImageHeader × List ℕ)
after_locks magic version workers locks = parse_number w8 locks.1 >>= after_cells magic version workers locks

abbrev after_workers : (magic version workers : ℕ × List ℕ) → Option (ImageHeader × List ℕ)
after_workers magic version workers = parse_number w8 workers.1 >>= after_locks magic version workers

abbrev after_version : (magic version : ℕ × List ℕ) → Option (ImageHeader × List ℕ)
after_version magic version = parse_number w16 version.1 >>= after_workers magic version

abbrev after_magic : ℕ × List ℕ → Option (ImageHeader × List ℕ)
after_magic magic = parse_number w8 magic.1 >>= after_version magic

pub header_takes : (bytes : List ℕ) (x : ImageHeader) (rest : List ℕ) → IsBytes bytes → parse_header bytes ≡ Some (x, rest) → Takes bytes (header_bytes x) rest × IsSmallHeader x
unfolding parse_header
header_takes bytes x rest fits e =
    let m = bind_some (parse_number w32 bytes) after_magic (x, rest) e in
    let v = bind_some (parse_number w8 m.0.1) (after_version m.0) (x, rest) m.2 in
    let w = bind_some (parse_number w16 v.0.1) (after_workers m.0 v.0) (x, rest) v.2 in
    let l = bind_some (parse_number w8 w.0.1) (after_locks m.0 v.0 w.0) (x, rest) w.2 in
    let c = bind_some (parse_number w8 l.0.1) (after_cells m.0 v.0 w.0 l.0) (x, rest) l.2 in
    let j = bind_some (parse_number w32 c.0.1) (after_jobs m.0 v.0 w.0 l.0 c.0) (x, rest) c.2 in
    let made : ImageHeader × List ℕ = (record { version = v.0.0; workers = w.0.0; locks = l.0.0; cells = c.0.0; jobs = j.0.0 }, j.0.1) in
    let g = cond_some (m.0.0 == 0x524d4549) made (x, rest) j.2 in
    let magic : m.0.0 ≡ 0x524d4549 = eqb-true _ _ g.0 in
    let tm = number_takes w32 (2 ^ 32) wide32 bytes m.0.0 m.0.1 fits m.1 in
    let tv = number_takes w8 (2 ^ 8) wide8 m.0.1 v.0.0 v.0.1 tm.0.rest_fits v.1 in
    let tw = number_takes w16 (2 ^ 16) wide16 v.0.1 w.0.0 w.0.1 tv.0.rest_fits w.1 in
    let tl = number_takes w8 (2 ^ 8) wide8 w.0.1 l.0.0 l.0.1 tw.0.rest_fits l.1 in
    let tc = number_takes w8 (2 ^ 8) wide8 l.0.1 c.0.0 c.0.1 tl.0.rest_fits c.1 in
    let tj = number_takes w32 (2 ^ 32) wide32 c.0.1 j.0.0 j.0.1 tc.0.rest_fits j.1 in
    let front : Takes bytes (to_be_bytes w32 0x524d4549) m.0.1 = subst (λ (n : ℕ). Takes bytes (to_be_bytes w32 n) m.0.1) magic tm.0 in
    let ecj = Takes-then l.0.1 (to_be_bytes w8 c.0.0) c.0.1 (to_be_bytes w32 j.0.0) j.0.1 tc.0 tj.0 in
    let elj = Takes-then w.0.1 (to_be_bytes w8 l.0.0) l.0.1 (to_be_bytes w8 c.0.0 ++ to_be_bytes w32 j.0.0) j.0.1 tl.0 ecj in
    let ewj = Takes-then v.0.1 (to_be_bytes w16 w.0.0) w.0.1 (to_be_bytes w8 l.0.0 ++ (to_be_bytes w8 c.0.0 ++ to_be_bytes w32 j.0.0)) j.0.1 tw.0 elj in
    let evj = Takes-then m.0.1 (to_be_bytes w8 v.0.0) v.0.1 (to_be_bytes w16 w.0.0 ++ (to_be_bytes w8 l.0.0 ++ (to_be_bytes w8 c.0.0 ++ to_be_bytes w32 j.0.0))) j.0.1 tv.0 ewj in
    let emj = Takes-then bytes (to_be_bytes w32 0x524d4549) m.0.1 (to_be_bytes w8 v.0.0 ++ (to_be_bytes w16 w.0.0 ++ (to_be_bytes w8 l.0.0 ++ (to_be_bytes w8 c.0.0 ++ to_be_bytes w32 j.0.0)))) j.0.1 front evj in
    subst (λ (y : ImageHeader × List ℕ). Takes bytes (header_bytes y.0) y.1 × IsSmallHeader y.0) {x = made} g.1 (emj, record { version = tv.1; workers = tw.1; locks = tl.1; cells = tc.1; jobs = tj.1 })

six_more : (a b c d e f rest : List ℕ) → (a ++ (b ++ (c ++ (d ++ (e ++ f))))) ++ rest ≡ a ++ (b ++ (c ++ (d ++ (e ++ (f ++ rest)))))
six_more a b c d e f rest = simp append_assoc

pub header_again : (x : ImageHeader) (rest : List ℕ) → IsSmallHeader x → parse_header (header_bytes x ++ rest) ≡ Some (x, rest)
unfolding parse_header
header_again x rest small =
    let j : List ℕ = to_be_bytes w32 x.jobs ++ rest in
    let c : List ℕ = to_be_bytes w8 x.cells ++ j in
    let l : List ℕ = to_be_bytes w8 x.locks ++ c in
    let w : List ℕ = to_be_bytes w16 x.workers ++ l in
    let v : List ℕ = to_be_bytes w8 x.version ++ w in
    ap parse_header (six_more (to_be_bytes w32 0x524d4549) (to_be_bytes w8 x.version) (to_be_bytes w16 x.workers) (to_be_bytes w8 x.locks) (to_be_bytes w8 x.cells) (to_be_bytes w32 x.jobs) rest)
    ∙ rw (number_again w32 (2 ^ 32) wide32 0x524d4549 v (omega arith), number_again w8 (2 ^ 8) wide8 x.version w small.version, number_again w16 (2 ^ 16) wide16 x.workers l small.workers, number_again w8 (2 ^ 8) wide8 x.locks c small.locks, number_again w8 (2 ^ 8) wide8 x.cells j small.cells, number_again w32 (2 ^ 32) wide32 x.jobs rest small.jobs) refl
