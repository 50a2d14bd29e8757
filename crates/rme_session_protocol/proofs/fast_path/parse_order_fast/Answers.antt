use Rattle.std.proofs.Common.{◌≡◌, List, [], ◌∷◌, bytes_eq, true, Some, None, ap, sym, subst, ◌∙◌, arith}
use Rattle.std.specs.Prelude.{codes}
use Rattle.json.specs.Token.{Token}
use Rattle.json.specs.Json.{read_key}
use Rattle.json.proofs.Grammar.{read_key_is}
use Rattle.rme_session_protocol.specs.declared.order.Order.{Order}
use Rattle.rme_session_protocol.specs.declared.order.Order.TheVariants.{Submit, Enter}
use Rattle.rme_session_protocol.specs.Orders.{bare_order, order_of_line}
use Rattle.rme_session_protocol.specs.Tokens.{IsOrderTokens}
use Rattle.rme_session_protocol.proofs.Found.{each_found}
use Rattle.rme_session_protocol.proofs.OrderLemmas.{bare_at, handed_read, lock_follows, order_read, submit_handed, enter_handed}
use Rattle.rme_session_protocol.proofs.fast_path.parse_order_fast.Goals as goal

pub returns-in_default-2 : goal.returns-in_default-2
returns-in_default-2 c =
    let names = c.args.names.now in
    let most = c.args.most in
    let line = c.args.line.now in
    let utf8 = c.in-Some.ensures.0 in
    let word = c.in_ok-word.word.now in
    let opens : c.in-Some.reader ≡ Token.begin_object ∷ c.take_object.new.reader = grind arith in
    let named : c.take_object.new.reader ≡ Token.key (codes "do") ∷ c.take_key.new.reader = grind arith in
    let text : c.take_key.new.reader ≡ Token.string word ∷ c.take_text.new.reader = c.in_ok-word.ensures in
    let read : read_key c.take_text.new.reader ≡ Some (None, c.next_key.new.self) = grind arith in
    let over : c.next_key.new.self ≡ [] = grind arith in
    let ends : c.take_text.new.reader ≡ Token.end_object ∷ [] = read_key_is c.take_text.new.reader None c.next_key.new.self read ∙ ap (λ (ts : List Token). Token.end_object ∷ ts) over in
    let all = opens ∙ ap (λ (ts : List Token). Token.begin_object ∷ ts) (named ∙ ap (λ (ts : List Token). Token.key (codes "do") ∷ ts) (text ∙ ap (λ (ts : List Token). Token.string word ∷ ts) ends)) in
    each_found (λ (order : Order). order_of_line names most line ≡ Some order) (bare_order word 1) c.bare_order.result c.bare_order.ensures
    (λ (order : Order) (e : bare_order word 1 ≡ Some order).
    let P : List Token → Type 0 = λ ts. IsOrderTokens names most ts order in
    order_read names most line order utf8 (subst P c.in-Some.ensures.1 (subst P (sym all) (bare_at names most word order e))))

pub returns-then-eq : goal.returns-then-eq
returns-then-eq c =
    let word = c.in_ok-word.word.now in
    let key = c.in-Some-2.key.now in
    let s = c.in-Some-take_submission.submission in
    let opens : c.in-Some.reader ≡ Token.begin_object ∷ c.take_object.new.reader = grind arith in
    let named : c.take_object.new.reader ≡ Token.key (codes "do") ∷ c.take_key.new.reader = grind arith in
    let read : read_key c.take_text.new.reader ≡ Some (Some key, c.next_key.new.self) = grind arith in
    let same : bytes_eq key (codes "lock") ≡ true = grind arith in
    let asks : bytes_eq word (codes "submit") ≡ true = grind arith in
    let lock = lock_follows c.take_text.new.reader key c.next_key.new.self read same in
    handed_read c.args.names.now c.args.most c.args.line.now word s (Submit s) c.take_object.new.reader c.take_key.new.reader c.take_text.new.reader c.next_key.new.self
    c.in-Some.ensures.0 (sym c.in-Some.ensures.1 ∙ opens) named c.in_ok-word.ensures lock c.in-Some-take_submission.ensures (submit_handed word s asks)

pub returns-then-eq-2 : goal.returns-then-eq-2
returns-then-eq-2 c =
    let word = c.in_ok-word.word.now in
    let key = c.in-Some-2.key.now in
    let s = c.in-Some-take_submission.submission in
    let opens : c.in-Some.reader ≡ Token.begin_object ∷ c.take_object.new.reader = grind arith in
    let named : c.take_object.new.reader ≡ Token.key (codes "do") ∷ c.take_key.new.reader = grind arith in
    let read : read_key c.take_text.new.reader ≡ Some (Some key, c.next_key.new.self) = grind arith in
    let same : bytes_eq key (codes "lock") ≡ true = grind arith in
    let asks : bytes_eq word (codes "enter") ≡ true = grind arith in
    let lock = lock_follows c.take_text.new.reader key c.next_key.new.self read same in
    handed_read c.args.names.now c.args.most c.args.line.now word s (Enter s) c.take_object.new.reader c.take_key.new.reader c.take_text.new.reader c.next_key.new.self
    c.in-Some.ensures.0 (sym c.in-Some.ensures.1 ∙ opens) named c.in_ok-word.ensures lock c.in-Some-take_submission.ensures (enter_handed word s asks)
