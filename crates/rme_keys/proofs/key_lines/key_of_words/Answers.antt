use Rattle.std.proofs.Common.{IsUtf8, Option, sym, ◌∙◌, subst}
use Rattle.std.proofs.lemmas.Str.{IsUtf8-string_bytes}
use Rattle.rme_keys.specs.Finding.{Finds}
use Rattle.rme_keys.specs.Workers.{IsWorkersText}
use Rattle.rme_keys.specs.declared.spaces.SpacesWord.{SpacesWord}
use Rattle.rme_keys.proofs.InTurn.{nothing_fits, this_fits}
use Rattle.rme_keys.specs.Spaces.{IsWordOf}
use Rattle.rme_keys.proofs.key_lines.key_of_words.Goals as goal

pub returns-in_default : goal.returns-in_default
returns-in_default c = (
  λ key is. c.in_default.ensures.cases.0 (subst IsUtf8 is.name_is (IsUtf8-string_bytes key.name)),
  λ utf8. c.in_default.ensures.cases.0 utf8,
)

pub returns-in_default-from_hex : goal.returns-in_default-from_hex
returns-in_default-from_hex c = (
  λ key is. let other = c.in_default-from_hex.ensures ∙ is.digest_is in cc,
  λ bytes is. let other = c.in_default-from_hex.ensures ∙ is in cc,
)

pub returns-in_default-found_ranges : goal.returns-in_default-found_ranges
returns-in_default-found_ranges c =
    let none = nothing_fits c.in_default-found_ranges.is (λ ranges. ranges.items) (IsWorkersText c.args.workers.now) c.in_ok-found_ranges.ensures in (
      λ key is. none key.workers.items is.workers_are,
      none,
    )

pub returns-in_default-found_spaces : goal.returns-in_default-found_spaces
returns-in_default-found_spaces c =
    let none = subst (λ (found : Option SpacesWord). Finds (IsWordOf c.args.spaces.now) found) c.in_default-found_spaces.is c.in_ok-found_spaces.ensures in
    (λ key is. none (record { may_create = key.may_create; patterns = key.spaces }) is.spaces_are, none)

pub returns : goal.returns
returns c = record {
  name_is = c.in_ok-owned.ensures.ok ∙ c.in-Ok.ensures.cases.0;
  digest_is = sym c.in-Ok-from_hex.ensures;
  workers_are = this_fits c.in-Some.is (λ ranges. ranges.items) (IsWorkersText c.args.workers.now) c.in_ok-found_ranges.ensures;
  spaces_are = subst (λ (found : Option SpacesWord). Finds (IsWordOf c.args.spaces.now) found) c.in-Some-found_spaces.is c.in_ok-found_spaces.ensures;
}
