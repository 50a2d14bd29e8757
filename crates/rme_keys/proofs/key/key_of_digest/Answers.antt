use Rattle.std.proofs.Common.{◌+◌, Bor, Option, sym, ◌∙◌, subst, arith}
use Rattle.std.specs.Option.{option_copied}
use Rattle.std.proofs.lemmas.Bool.{false≢true}
use Rattle.rme_keys.specs.declared.key.Key.{Key}
use Rattle.rme_keys.proofs.Searches.{FindsBelow, found_none, found_here, found_past, found_all}
use Rattle.rme_keys.proofs.key.key_of_digest.Goals as goal
use Rattle.rme_keys.proofs.key.key_of_digest.Goals.{then-same_digest, else-same_digest}

pub loop-key-init : goal.loop-key-init
loop-key-init c = found_none c.args.keys.now c.args.digest.now

pub loop-key-preserved : goal.loop-key-preserved
loop-key-preserved c =
    let keys = c.args.keys.now in
    let digest = c.args.digest.now in
    let i = c.loop-key.key-index in
    let key = c.key-item.result in
    let P : Option (Bor Key) → Type 0 = λ (found : Option (Bor Key)). FindsBelow keys digest (i + 1) (option_copied found) in
    elim c.if-same_digest.branch [
      | then-same_digest w ↦ subst P (sym w.found-is) (found_here keys digest i key (omega arith) c.key-item.is (c.same_digest.ensures.0 w.if-same_digest.true))
      | else-same_digest w ↦ subst P (sym w.found-is)
          (found_past keys digest i key (option_copied c.loop-key.found) (omega arith) c.key-item.is
          (λ same. false≢true (sym w.if-same_digest.false ∙ c.same_digest.ensures.1 same)) c.loop-key.invariant)
    ]

pub returns : goal.returns
returns c = found_all c.args.keys.now c.args.digest.now c.loop-key.key-index (option_copied c.loop-key.found) (omega arith) c.loop-key.invariant
