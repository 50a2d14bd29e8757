use Rattle.std.proofs.Common.{◌≡◌, List, sym, ◌∙◌, subst}
use Rattle.std.proofs.lemmas.Bool.{false≢true}
use Rattle.std.specs.List.{Any}
use Rattle.rme_keys.specs.Allowing.{digest_of, name_of}
use Rattle.rme_keys.specs.declared.key.Key.{Key}
use Rattle.rme_keys.proofs.key_lines.add_key.Goals as goal

pub returns-then-has_name-clause-err : goal.returns-then-has_name-clause-err
returns-then-has_name-clause-err c =
    subst (λ (keys : List Key). Any (λ (other : Key). name_of other ≡ name_of c.args.key) keys) c.as_slice.ensures.value (c.has_name.ensures.0 c.if-has_name.true)

pub returns-then-has_digest-clause-err : goal.returns-then-has_digest-clause-err
returns-then-has_digest-clause-err c =
    subst (λ (keys : List Key). Any (λ (other : Key). digest_of other ≡ digest_of c.args.key) keys) c.as_slice-2.ensures.value (c.has_digest.ensures.0 c.if-has_digest.true)

pub returns-clause-ok : goal.returns-clause-ok
returns-clause-ok c =
    let P = λ (keys : List Key). Any (λ (other : Key). name_of other ≡ name_of c.args.key) keys in
    let Q = λ (keys : List Key). Any (λ (other : Key). digest_of other ≡ digest_of c.args.key) keys in (
      (
        λ named. false≢true (sym c.if-has_name.false ∙ c.has_name.ensures.1 (subst P (sym c.as_slice.ensures.value) named)),
        λ held. false≢true (sym c.if-has_digest.false ∙ c.has_digest.ensures.1 (subst Q (sym c.as_slice-2.ensures.value) held)),
      ),
      c.in_ok-push.ensures.items,
    )
