-- One more item of a list, and the value that it says.
use Rattle.std.proofs.Common.{◌≡◌, ℕ, zero, suc, ◌+◌, ◌<◌, Bool, true, false, List, [], ◌∷◌, ◌++◌, get_or, length, take, ap, sym, ◌∙◌, arith, rules}
use Rattle.std.proofs.lemmas.List.{take_more}
use Rattle.std.specs.Prelude.{Result, Ok, Err, IfErr}
use Rattle.std.specs.Result.{IsErrAnd}
use Rattle.serde_json.specs.Data.{Data, Items, null}
use Rattle.serde_json.specs.Data as json
use Rattle.serde_json.specs.View as kit
use Rattle.serde_json.specs.declared.value.Value.{Value}
use Rattle.rme_ask_client.specs.StatusAnswers.{EachSays, list_view}
use Rattle.rme_ask_client.specs.Members.{NoneSaid}

each_snoc : {T : Type 0} (Says : Data → T → Type 0) (items : List Value) (values : List T) (item : Value) (value : T)
    → EachSays Says items values → Says (kit.view item) value → EachSays Says (items ++ item ∷ []) (values ++ value ∷ [])
each_snoc Says [] [] item value each says = (says, tt)
each_snoc Says [] (y ∷ ys) item value each says = absurd each
each_snoc Says (x ∷ xs) [] item value each says = absurd each
each_snoc Says (x ∷ xs) (y ∷ ys) item value each says = (each.0, each_snoc Says xs ys item value each.1 says)

pub each_more : {T : Type 0} (Says : Data → T → Type 0) (items : List Value) (i : ℕ) (item : Value) (values : List T) (value : T)
    → i < length items → item ≡ get_or items i item → EachSays Says (take i items) values → Says (kit.view item) value
    → EachSays Says (take (i + 1) items) (values ++ value ∷ [])
each_more Says items i item values value inside at each says =
    rw (take_more items i item inside, ← at) (each_snoc Says (take i items) values item value each says)

-- the first of some items, and the others
head_of : Items → Data
head_of json.no_items = null
head_of (json.item first items) = first

others_of : Items → Items
others_of json.no_items = json.no_items
others_of (json.item first items) = items

is_empty : Items → Bool
is_empty json.no_items = true
is_empty (json.item first items) = false

-- a list of which one item says nothing says nothing
pub none_said_by_list : {T : Type 0} (Says : Data → T → Type 0) (items others : List Value) (i : ℕ) (one : Value) (values : List T)
    → i < length items → one ≡ get_or items i one → NoneSaid Says (kit.view one) → list_view others ≡ list_view items
    → EachSays Says others values → ⊥
unfolding head_of others_of is_empty
none_said_by_list Says [] others i one values inside at none same each = absurd (omega (arith, inside))
none_said_by_list Says (x ∷ xs) [] i one values inside at none same each = absurd (search (rules, ap is_empty same))
none_said_by_list Says (x ∷ xs) (y ∷ ys) i one [] inside at none same each = each
none_said_by_list Says (x ∷ xs) (y ∷ ys) zero one (v ∷ vs) inside at none same each =
    let said : kit.view y ≡ kit.view one = ap head_of same ∙ ap kit.view (sym at) in
    none v (rw said at each.0)
none_said_by_list Says (x ∷ xs) (y ∷ ys) (suc i) one (v ∷ vs) inside at none same each =
    none_said_by_list Says xs ys i one vs (omega (arith, inside)) at none (ap others_of same) each.1

-- what is true of an error that is passed on
pub refused_as : {T E : Type 0} (result : Result T E) (Refused : E → Type 0) (why : E) → IsErrAnd result (λ error. error ≡ why) → Refused why
    → IfErr result Refused
refused_as (Ok value) Refused why is refused = tt
refused_as (Err error) Refused why is refused = rw is refused
