use Rattle.std.proofs.Common.{◌≡◌, ◌++◌, ◌∷◌, [], inl, inr, refl}
use Rattle.std.proofs.lemmas.Result.{IfErr-weaker, IfOk-weaker}
use Rattle.rme_keys.specs.KeyFiles.{AddsWords, IsNew, IsWhyNotAdded, IsWhyNotNew}
use Rattle.rme_keys.proofs.InTurn.{bytes_of}
use Rattle.rme_keys.proofs.FileLines.{empty_words, not_empty, why_key, why_words}
use Rattle.rme_keys.proofs.key_lines.add_words.Goals as goal

pub returns-then-is_empty-clause-ok : goal.returns-then-is_empty-clause-ok
returns-then-is_empty-clause-ok c = inl (empty_words c.args.words.now c.if-is_empty.ensures, refl)

pub returns-in-Ok-clause-ok : goal.returns-in-Ok-clause-ok
returns-in-Ok-clause-ok c =
    let words = bytes_of c.args.words.now in
    let old = c.args.keys.now.items in
    let new = c.add_key.new.keys.items in
    let key = c.in-Ok.key in
    IfOk-weaker c.add_key.result (λ _. IsNew old key × (new ≡ old ++ key ∷ [])) (λ _. AddsWords words old new) (λ _ added. inr (key, record { are = c.in-Ok.ensures; is_new = added.0 }, added.1)) c.add_key.ensures.ok

pub returns-in-Ok-clause-err : goal.returns-in-Ok-clause-err
returns-in-Ok-clause-err c =
    let words = bytes_of c.args.words.now in
    let old = c.args.keys.now.items in
    let key = c.in-Ok.key in
    IfErr-weaker c.add_key.result (IsWhyNotNew old key) (IsWhyNotAdded old words) (λ error why. why_key words old key c.in-Ok.ensures error why) c.add_key.ensures.err

pub returns-in-Err-clause-err : goal.returns-in-Err-clause-err
returns-in-Err-clause-err c = why_words (bytes_of c.args.words.now) c.args.keys.now.items c.in-Err.error (not_empty c.args.words.now c.if-is_empty.ensures) c.in-Err.ensures
