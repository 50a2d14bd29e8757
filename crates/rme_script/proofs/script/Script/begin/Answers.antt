use Rattle.std.proofs.Common.{◌≡◌, ℕ, min, List, ap, ◌∙◌, arith}
use Rattle.std.specs.Prelude.{replicate}
use Rattle.std.proofs.lemmas.List.{take-replicate}
use Rattle.rme_script.specs.declared.op.Op.{Op}
use Rattle.rme_script.specs.declared.op.Op.TheVariants.{Get}
use Rattle.rme_script.proofs.Fills.{kept_fillers}
use Rattle.rme_script.proofs.script.Script.begin.Goals as goal

pub invariant_of-self : goal.invariant_of-self
invariant_of-self c = (omega (arith, c.requires), kept_fillers (Get 0) 8 _ (omega arith))

pub returns : goal.returns
returns c =
    let few : min c.args.n 8 ≡ c.args.n = omega (arith, c.requires) in
    ap (λ (ops : List Op). record { n = c.args.n; ops = ops }) (take-replicate (min c.args.n 8) 8 (Get 0) (omega arith) ∙ ap (λ (k : ℕ). replicate k (Get 0)) few)
