use Rattle.std.proofs.Common.{ℕ, List, OnOk, IfErr, ap, ◌∙◌, subst}
use Rattle.rme_keys.specs.KeyFiles.{AddsWords, IsWhyNotAdded}
use Rattle.rme_keys.specs.KeyLines.{words_of}
use Rattle.rme_keys.proofs.InTurn.{bytes_of}
use Rattle.rme_keys.proofs.key_lines.add_line.Goals as goal

pub returns : goal.returns
returns c =
    let same = ap bytes_of c.as_slice.ensures.value ∙ c.in_ok-words.ensures ∙ ap words_of c.before_comment.ensures in
    let added = c.add_words.result in
    record {
      ok = subst (λ (words : List (List ℕ)). OnOk added (AddsWords words c.args.keys.now.items c.add_words.new.keys.items)) same c.add_words.ensures.ok;
      err = subst (λ (words : List (List ℕ)). IfErr added (IsWhyNotAdded c.args.keys.now.items words)) same c.add_words.ensures.err;
    }
