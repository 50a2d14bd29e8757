use Rattle.std.proofs.Common.{◌≡◌, List, [], sym, subst, arith}
use Rattle.json.specs.Token.{Token}
use Rattle.rme_line_json.specs.Trees.{TokensBeginWithValue}
use Rattle.rme_line_json.specs.View.{value_view}
use Rattle.rme_line_json.proofs.Reading.{whole}
use Rattle.rme_line_json.proofs.ValueLemmas.{value_read}
use Rattle.rme_line_json.proofs.reader.read_soon.Goals as goal

pub returns : goal.returns
returns c =
    let value = c.in_ok-value.value in
    let over : c.read_tree.new.reader ≡ [] = grind arith in
    let P : List Token → Type 0 = λ rest. TokensBeginWithValue 127 c.in_ok-reader.reader (value_view value) rest in
    let Q : List Token → Type 0 = λ tokens. TokensBeginWithValue 127 tokens (value_view value) [] in
    let all = subst Q c.in_ok-reader.ensures.1 (subst P over c.in_ok-value.ensures.value) in
    sym (value_read c.args.line.now (value_view value) c.in_ok-reader.ensures.0 (whole c.args.line.now (value_view value) all))
