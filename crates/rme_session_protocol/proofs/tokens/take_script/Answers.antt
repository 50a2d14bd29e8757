use Rattle.std.proofs.Common.{◌≡◌, List, ◌∷◌, length-set, take, None, Some, ap, sym, subst, ◌∙◌, arith}
use Rattle.json.specs.Token.{Token}
use Rattle.json.specs.Json.{after_end_array}
use Rattle.json.specs.Reads.{token_of}
use Rattle.rme_script.specs.Programs.{Program}
use Rattle.rme_session_protocol.specs.Tokens.{IsOperationTokens, IsScriptTokens}
use Rattle.rme_session_protocol.proofs.TokenLemmas.{no_ops_yet, one_more_op, script_at}
use Rattle.rme_session_protocol.proofs.tokens.take_script.Goals as goal

pub operations-init : goal.operations-init
operations-init c = record { few = omega arith; room = omega arith; so = no_ops_yet c.next.new.self }

pub operations-preserved : goal.operations-preserved
operations-preserved c =
    let l = c.operations in
    let next = c.take_operation.new.reader in
    let going : (after_end_array l.reader ≡ None) × (c.take_end_array.new.self ≡ l.reader) = grind arith in
    let P : List Token → Type 0 = λ ts. IsOperationTokens ts c.in_ok-op.op next in
    record {
      few = omega arith;
      room = omega (arith, l.invariant.room, length-set l.ops l.count c.in_ok-op.op);
      so = one_more_op c.next.new.self l.ops l.count l.reader l.invariant.so c.in_ok-op.op next going.0 (subst P going.1 c.in_ok-op.ensures) (omega (arith, l.invariant.room));
    }

pub returns : goal.returns
returns c =
    let l = c.operations in
    let rest = c.take_end_array.new.self in
    let first : c.args.reader.now ≡ token_of c.in_ok-next.field-0 ∷ c.next.new.self = grind arith in
    let opens : c.args.reader.now ≡ Token.begin_array ∷ c.next.new.self = first ∙ ap (λ k. token_of k ∷ c.next.new.self) c.in-BeginArray.is in
    let over : after_end_array l.reader ≡ Some rest = grind arith in
    let P : List Token → Type 0 = λ ts. IsScriptTokens ts c.of.result rest in
    let Q : Program → Type 0 = λ script. IsScriptTokens (Token.begin_array ∷ c.next.new.self) script rest in
    subst P (sym opens) (subst Q (sym c.of.ensures) (script_at c.next.new.self (take l.count l.ops) l.reader rest l.invariant.so over))
