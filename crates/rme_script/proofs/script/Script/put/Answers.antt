use Rattle.std.proofs.Common.{◌<◌, min, List, ap, arith}
use Rattle.std.proofs.Math.Seq.{take-set-lt}
use Rattle.rme_script.specs.declared.op.Op.{Op}
use Rattle.rme_script.specs.declared.op.Op.TheVariants.{Get}
use Rattle.rme_script.proofs.Fills.{kept_set}
use Rattle.rme_script.proofs.script.Script.put.Goals as goal

pub invariant_of-self : goal.invariant_of-self
invariant_of-self c =
    (c.self.invariant.0, kept_set (Get 0) 8 (min c.self.inside.n 8) c.self.inside.ops c.args.i c.args.op c.self.invariant.1 (omega (arith, c.self.invariant.1.taken, rw (← c.self.view_is) at c.requires.place)))

pub returns : goal.returns
returns c =
    let inside : c.args.i < min c.self.inside.n 8 = omega (arith, c.self.invariant.1.taken, rw (← c.self.view_is) at c.requires.place) in
    rw (← c.self.view_is) (ap (λ (ops : List Op). record { n = c.self.inside.n; ops = ops }) (take-set-lt (min c.self.inside.n 8) c.self.inside.ops c.args.i c.args.op inside))
