use Rattle.std.proofs.Common.{◌≡◌, suc, ℕ, ap, ap₂, ◌∙◌, arith, rules}
use Rattle.rme_durable_writes.specs.Writes.{Write, write_text}
use Rattle.rme_durable_writes.specs.Sealing.{SealerState}
use Rattle.rme_durable_writes.proofs.Sealing.{why_passed_on}
use Rattle.rme_durable_writes.proofs.write_sealer.WriteSealer.seal.Goals as goal

pub returns-clause-sealed : goal.returns-clause-sealed
returns-clause-sealed c =
    let make : ℕ → Write = λ (kept : ℕ). record { kept = kept; lines = c.args.lines.now } in
    let own : c.self.inside.kept ≡ c.args.self.now.kept = ap (λ (state : SealerState). state.kept) c.self.view_is in
    let last : c.self.inside.number ≡ c.args.self.now.number = ap (λ (state : SealerState). state.number) c.self.view_is in
    let number : c.in-Some.number ≡ suc c.args.self.now.number = search (rules, c.in-Some.ensures, last) in
    record {
      is = record {
        lines = (c.in_ok-make_write.ensures).lines;
        kept = omega (arith, c.self.invariant.1, own);
      };
      are = (c.in_ok-make_write.ensures).bytes ∙ ap₂ (λ (kept own : ℕ). write_text own (make kept)) own number;
    }

pub returns-in_err-make_write-clause-why : goal.returns-in_err-make_write-clause-why
returns-in_err-make_write-clause-why c = why_passed_on c.args.self.now c.args.lines.now _ c.from_residual.result (c.in_err-make_write.ensures).why c.from_residual.ensures.1
