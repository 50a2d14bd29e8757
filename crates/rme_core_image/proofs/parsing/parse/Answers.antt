use Rattle.std.proofs.Common.{arith}
use Rattle.rme_core_image.proofs.Spelling.{is_spelled, no_header, no_shape, one_version, one_shape, no_words, one_words, no_entries, one_entries}
use Rattle.rme_core_image.proofs.parsing.parse.Goals as goal

pub returns-in_default-clause-only : goal.returns-in_default-clause-only
returns-in_default-clause-only c = λ version shape words entries is s. absurd (no_header version shape words entries c.args.bytes.now is s c.in_default.ensures)

pub returns-in_default-shape_of-clause-only : goal.returns-in_default-shape_of-clause-only
returns-in_default-shape_of-clause-only c = λ version shape words entries is s.
    absurd (no_shape version shape words entries c.args.bytes.now is s c.in-Some.header c.in-Some.rest.now c.in-Some.ensures c.in_default-shape_of.ensures.none)

pub returns-in_default-2-clause-only : goal.returns-in_default-2-clause-only
returns-in_default-2-clause-only c = λ version shape words entries is s.
    absurd (no_words version shape words entries c.args.bytes.now is s c.in-Some.header c.in-Some.rest.now c.in-Some-shape_of.shape c.in-Some.ensures c.in-Some-shape_of.ensures.found.0 (rw c.in_default-2.is at c.in_ok-words.ensures))

pub returns-in_default-3-clause-only : goal.returns-in_default-3-clause-only
returns-in_default-3-clause-only c = λ version shape words entries is s.
    absurd (no_entries version shape words entries c.args.bytes.now is s c.in-Some.header c.in-Some.rest.now c.in-Some-shape_of.shape c.in-Some.ensures c.in-Some-shape_of.ensures.found.0
    c.in-Some-2.words.items c.in-Some-2.rest.now (rw c.in-Some-2.is at c.in_ok-words.ensures) (rw c.in_default-3.is at c.in_ok-entries.ensures))

pub returns-clause-found : goal.returns-clause-found
returns-clause-found c = (
  c.in-Some-shape_of.ensures.found.1,
  is_spelled c.args.bytes.now c.in-Some.header c.in-Some.rest.now c.in-Some-shape_of.shape c.in-Some-2.words.items c.in-Some-2.rest.now c.in-Some-3.entries.entries
      (λ i. omega (arith, c.type_inv.bytes i)) c.in-Some.ensures c.in-Some-shape_of.ensures.found.0 (rw c.in-Some-2.is at c.in_ok-words.ensures) (rw c.in-Some-3.is at c.in_ok-entries.ensures),
)

pub returns-clause-only : goal.returns-clause-only
returns-clause-only c = λ version shape words entries is s.
    let bytes = c.args.bytes.now in
    let header = c.in-Some.header in
    let rest = c.in-Some.rest.now in
    let found = c.in-Some-shape_of.shape in
    let same = c.in-Some-shape_of.ensures.found.0 in
    let read = rw c.in-Some-2.is at c.in_ok-words.ensures in
    let last = rw c.in-Some-3.is at c.in_ok-entries.ensures in (
      (
        one_version version shape words entries bytes is s header rest found c.in-Some.ensures same,
        one_shape version shape words entries bytes is s header rest found c.in-Some.ensures same,
        one_words version shape words entries bytes is s header rest found c.in-Some.ensures same c.in-Some-2.words.items c.in-Some-2.rest.now read,
        one_entries version shape words entries bytes is s header rest found c.in-Some.ensures same c.in-Some-2.words.items c.in-Some-2.rest.now read c.in-Some-3.entries.entries last,
      ),
      tt,
    )
