use Rattle.std.proofs.Common.{◌≡◌, List, bytes_eq, true, ◌∷◌, ap, sym, subst, ◌∙◌, Some, arith}
use Rattle.std.proofs.lemmas.Slice.Eq.{bytes_eq-Decides}
use Rattle.std.specs.Prelude.{codes}
use Rattle.json.specs.Token.{Token}
use Rattle.json.specs.Json.{after_end_array}
use Rattle.json.specs.Reads.{token_of}
use Rattle.rme_script.specs.declared.op.Op.{Op}
use Rattle.rme_script.specs.declared.op.Op.TheVariants.{Get}
use Rattle.rme_session_protocol.specs.Tokens.{IsOperationTokens, IsSmallToken, IsWholeToken, op_on}
use Rattle.rme_session_protocol.proofs.Found.{each_found}
use Rattle.rme_session_protocol.proofs.TokenLemmas.{get_at, two_at}
use Rattle.rme_session_protocol.proofs.tokens.take_operation.Goals as goal

pub returns-then-eq : goal.returns-then-eq
returns-then-eq c =
    let word = c.in_ok-word.word.now in
    let here = c.take_small.new.reader in
    let rest = c.take_end_array.new.self in
    let first : c.args.reader.now ≡ token_of c.in_ok-next.field-0 ∷ c.next.new.self = grind arith in
    let opens : c.args.reader.now ≡ Token.begin_array ∷ c.next.new.self = first ∙ ap (λ k. token_of k ∷ c.next.new.self) c.in-BeginArray.is in
    let text : c.next.new.self ≡ Token.string word ∷ c.take_text.new.reader = c.in_ok-word.ensures in
    let small : IsSmallToken c.take_text.new.reader c.in_ok-first.first here = c.in_ok-first.ensures in
    let all = opens ∙ ap (λ (ts : List Token). Token.begin_array ∷ ts) (text ∙ ap (λ (ts : List Token). Token.string word ∷ ts) small.is.first) in
    let over : after_end_array here ≡ Some rest = grind arith in
    let same : bytes_eq word (codes "get") ≡ true = grind arith in
    let is : word ≡ codes "get" = (bytes_eq-Decides word (codes "get")).0 same in
    let P : List Token → Type 0 = λ ts. IsOperationTokens ts (Get c.in_ok-first.first) rest in
    subst P (sym all) (get_at word small.is.text small.is.value c.in_ok-first.first small.is.means small.is.counts small.few here rest over is)

pub returns : goal.returns
returns c =
    let word = c.in_ok-word.word.now in
    let here = c.take_whole.new.reader in
    let rest = c.take_end_array-2.new.self in
    let first : c.args.reader.now ≡ token_of c.in_ok-next.field-0 ∷ c.next.new.self = grind arith in
    let opens : c.args.reader.now ≡ Token.begin_array ∷ c.next.new.self = first ∙ ap (λ k. token_of k ∷ c.next.new.self) c.in-BeginArray.is in
    let text : c.next.new.self ≡ Token.string word ∷ c.take_text.new.reader = c.in_ok-word.ensures in
    let small : IsSmallToken c.take_text.new.reader c.in_ok-first.first c.take_small.new.reader = c.in_ok-first.ensures in
    let same : c.take_end_array.new.self ≡ c.take_small.new.reader = grind arith in
    let P : List Token → Type 0 = λ ts. IsWholeToken ts c.in_ok-second.second here in
    let more : IsWholeToken c.take_small.new.reader c.in_ok-second.second here = subst P same c.in_ok-second.ensures in
    let all = opens ∙ ap (λ (ts : List Token). Token.begin_array ∷ ts) (text ∙ ap (λ (ts : List Token). Token.string word ∷ ts) (small.is.first ∙ ap (λ (ts : List Token). Token.number small.is.text ∷ ts) more.first)) in
    let over : after_end_array here ≡ Some rest = grind arith in
    each_found (λ (op : Op). IsOperationTokens c.args.reader.now op rest) (op_on word c.in_ok-first.first c.in_ok-second.second) c.op_on.result c.op_on.ensures
    (λ (op : Op) (on : op_on word c.in_ok-first.first c.in_ok-second.second ≡ Some op).
    let Q : List Token → Type 0 = λ ts. IsOperationTokens ts op rest in
    subst Q (sym all) (two_at word small.is.text small.is.value c.in_ok-first.first small.is.means small.is.counts small.few more.text more.value c.in_ok-second.second op here rest more.means more.counts on over))
