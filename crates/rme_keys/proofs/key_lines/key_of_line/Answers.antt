use Rattle.std.proofs.Common.{◌≡◌, [], ◌∷◌, get_or, length, arith}
use Rattle.rme_keys.proofs.InTurn.{blank, bytes_of}
use Rattle.rme_keys.proofs.FileLines.{four_words, no_key_words, reads_words, three_words, why_no_words}
use Rattle.rme_keys.proofs.key_lines.key_of_line.Goals as goal

pub returns-then-words-eq3 : goal.returns-then-words-eq3
returns-then-words-eq3 c =
    let words = c.args.words.now in
    reads_words ((get_or words 0 blank).now ∷ ((get_or words 1 blank).now ∷ ((get_or words 2 blank).now ∷ []))) (bytes_of words) c.key_of_words.result (three_words words (omega arith)) c.key_of_words.ensures

pub returns-then-words-eq4 : goal.returns-then-words-eq4
returns-then-words-eq4 c =
    let words = c.args.words.now in
    reads_words ((get_or words 0 blank).now ∷ ((get_or words 1 blank).now ∷ ((get_or words 2 blank).now ∷ ((get_or words 3 blank).now ∷ [])))) (bytes_of words) c.key_of_words-then-words-eq4.result (four_words words (omega arith)) c.key_of_words-then-words-eq4.ensures

pub returns : goal.returns
returns c =
    let not_three : length c.args.words.now ≡ 3 → ⊥ = λ three. omega (arith, three) in
    let not_four : length c.args.words.now ≡ 4 → ⊥ = λ four. omega (arith, four) in (no_key_words c.args.words.now not_three not_four, why_no_words c.args.words.now not_three not_four)
