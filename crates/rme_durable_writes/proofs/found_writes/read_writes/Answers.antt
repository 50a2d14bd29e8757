use Rattle.std.proofs.Common.{◌≡◌, ◌++◌, ◌<◌, ◌^◌, List, ℕ, suc, Option, IfSome, IsSomeAnd, subst, sym, ap₂, ◌∙◌, arith, inl, inr}
use Rattle.std.proofs.lemmas.Bool.{false≢true}
use Rattle.rme_durable_writes.specs.Finding.{IsFoundAt, IsThisWrite, write_found}
use Rattle.rme_durable_writes.specs.Reading.{IsKeptWithin}
use Rattle.rme_durable_writes.specs.Writes.{IsWrite, Write, write_text}
use Rattle.rme_durable_writes.specs.declared.found_writes.FirstWrite.{FirstWrite}
use Rattle.rme_durable_writes.proofs.Reading.{IsNextWrite, all_read, none_of_length, nothing_read, read_more, why_refused}
use Rattle.rme_durable_writes.proofs.found_writes.read_writes.Goals as goal

pub loop-lines-init : goal.loop-lines-init
loop-lines-init c = nothing_read c.args.bytes.now c.new-lines.result.items c.new-lines.ensures.items

pub returns-in_err-write-clause-err : goal.returns-in_err-write-clause-err
returns-in_err-write-clause-err c = why_refused c.args.bytes.now c.from_residual-in_err-write.result c.from_residual-in_err-write.ensures.1

pub loop-lines-preserved : goal.loop-lines-preserved
loop-lines-preserved c =
    let number = c.loop-lines.last.number in
    let rest = c.loop-lines.rest.now in
    let found = subst (λ (o : Option FirstWrite). IfSome o (IsFoundAt rest (suc number))) c.in-Some.is (c.in_ok-write.ensures).is in
    let next : IsNextWrite rest number (write_found c.in-Some.write) c.in-Some.write.rest.now = record {
      are = found.are;
      is = found.is;
      one = λ other then small is are.
          let all = (c.in_ok-write.ensures).all other then small is are in
          let this = subst (λ (o : Option FirstWrite). IsSomeAnd o (IsThisWrite (suc number) other then)) c.in-Some.is all in
          let make : ℕ → List ℕ → Write = λ (k : ℕ) (l : List ℕ). record { kept = k; lines = l } in
          (ap₂ make this.kept_is this.lines_are, this.rest_is);
    } in
    read_more c.args.bytes.now c.loop-lines.lines.items rest c.loop-lines.last.kept number c.loop-lines.invariant (write_found c.in-Some.write) c.in-Some.write.rest.now next _ _ _ (c.in_ok-extend_from_slice.ensures).items c.max.ensures found.number_is

pub returns-then-last-eq0-clause-err : goal.returns-then-last-eq0-clause-err
returns-then-last-eq0-clause-err c =
    let read = c.loop-lines.invariant in
    let none : (write : Write) (behind : List ℕ) → suc c.loop-lines.last.number < 2 ^ 64 → IsWrite write → c.loop-lines.rest.now ≡ write_text (suc c.loop-lines.last.number) write ++ behind → ⊥ =
    λ write behind small is are. absurd (subst (λ (o : Option FirstWrite). IsSomeAnd o (IsThisWrite (suc c.loop-lines.last.number) write behind)) c.in_default.is ((c.in_ok-write.ensures).all write behind small is are)) in
    (read.writes, all_read _ _ _ _ _ read none, inl (none_of_length read.writes (omega (arith, read.number_is, c.if-last-eq0.true))))

pub returns-then-branch-clause-err : goal.returns-then-branch-clause-err
returns-then-branch-clause-err c =
    let read = c.loop-lines.invariant in
    let none : (write : Write) (behind : List ℕ) → suc c.loop-lines.last.number < 2 ^ 64 → IsWrite write → c.loop-lines.rest.now ≡ write_text (suc c.loop-lines.last.number) write ++ behind → ⊥ =
    λ write behind small is are. absurd (subst (λ (o : Option FirstWrite). IsSomeAnd o (IsThisWrite (suc c.loop-lines.last.number) write behind)) c.in_default.is ((c.in_ok-write.ensures).all write behind small is are)) in
    let kept = (c.in_ok-is_kept_behind.ensures).0 c.if-branch.true in
    (read.writes, all_read _ _ _ _ _ read none, inr (subst (λ (n : ℕ). IsKeptWithin c.loop-lines.rest.now (suc n)) read.number_is kept))

pub returns-clause-ok : goal.returns-clause-ok
returns-clause-ok c =
    let read = c.loop-lines.invariant in
    let none : (write : Write) (behind : List ℕ) → suc c.loop-lines.last.number < 2 ^ 64 → IsWrite write → c.loop-lines.rest.now ≡ write_text (suc c.loop-lines.last.number) write ++ behind → ⊥ =
    λ write behind small is are. absurd (subst (λ (o : Option FirstWrite). IsSomeAnd o (IsThisWrite (suc c.loop-lines.last.number) write behind)) c.in_default.is ((c.in_ok-write.ensures).all write behind small is are)) in
    record {
      writes = read.writes;
      are = all_read _ _ _ _ _ read none;
      lines_are = read.lines_are;
      some = omega (arith, c.if-last-eq0.false, c.after.ensures.number);
      number_is = c.after.ensures.number ∙ read.number_is;
      kept_is = c.after.ensures.kept ∙ read.kept_is;
      loose = λ kept.
          let there = subst (λ (n : ℕ). IsKeptWithin c.loop-lines.rest.now (suc n)) c.after.ensures.number kept in
          false≢true (sym c.if-branch.false ∙ (c.in_ok-is_kept_behind.ensures).1 there);
    }
