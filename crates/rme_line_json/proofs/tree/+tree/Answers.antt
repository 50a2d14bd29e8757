use Rattle.std.proofs.Common.{◌≡◌, ◌<◌, List, ◌∷◌, length, None, Some, sym, ap, subst, ◌∙◌, arith, rules}
use Rattle.json.specs.Token.{Token}
use Rattle.json.specs.Json.{after_end_array, read_key}
use Rattle.json.specs.Reads.{token_of}
use Rattle.json.proofs.Grammar.{read_key-shorter}
use Rattle.serde_json.specs.Data.{Data, Members, boolean, number, string, null, put}
use Rattle.serde_json.specs.View.{number_view}
use Rattle.rme_line_json.specs.View.{value_view, members_view}
use Rattle.rme_line_json.specs.declared.value.Value.{Value, String, Number, Bool, Null, Array, Object, the_lemmas}
use Rattle.rme_line_json.proofs.Viewing.{view-Array, view-Object}
use Rattle.rme_line_json.specs.Trees.{TokensBeginWithValue}
use Rattle.rme_line_json.proofs.Reading.{ItemsSoFar, MembersSoFar, no_items_yet, one_more_item, items_over, no_members_yet, one_more_member, members_over, is_string, is_boolean, is_null, is_number, is_array, is_object}
use Rattle.rme_line_json.proofs.tree.+tree.Goals as goal

pub read_tree-returns-in-String-clause-value :
    goal.read_tree-returns-in-String-clause-value
read_tree-returns-in-String-clause-value t c =
    let first : c.args.reader.now ≡ token_of c.in_ok-token.token ∷ c.next.new.self = grind arith in
    let is : c.args.reader.now ≡ Token.string c.in-String.text.now ∷ c.next.new.self = grind (arith, first) in
    let seen : value_view (String c.in-String.text) ≡ string c.in-String.text.now = search (rules, the_lemmas) in
    let P : List Token → Type 0 = λ ts. TokensBeginWithValue c.args.depth ts (string c.in-String.text.now) c.next.new.self in
    let Q : Data → Type 0 = λ d. TokensBeginWithValue c.args.depth c.args.reader.now d c.next.new.self in
    subst Q (sym seen) (subst P (sym is) (is_string c.args.depth c.next.new.self c.in-String.text.now))

pub read_tree-returns-in_ok-number-in-Number-clause-value :
    goal.read_tree-returns-in_ok-number-in-Number-clause-value
read_tree-returns-in_ok-number-in-Number-clause-value t c =
    let first : c.args.reader.now ≡ token_of c.in_ok-token.token ∷ c.next.new.self = grind arith in
    let is : c.args.reader.now ≡ Token.number c.in-Number.text.now ∷ c.next.new.self = grind (arith, first) in
    let seen : value_view (Number c.in_ok-number-in-Number.number) ≡ number (number_view c.in_ok-number-in-Number.number) = search (rules, the_lemmas) in
    let P : List Token → Type 0 = λ ts. TokensBeginWithValue c.args.depth ts (number (number_view c.in_ok-number-in-Number.number)) c.next.new.self in
    let Q : Data → Type 0 = λ d. TokensBeginWithValue c.args.depth c.args.reader.now d c.next.new.self in
    subst Q (sym seen) (subst P (sym is) (is_number c.args.depth c.next.new.self c.in-Number.text.now (number_view c.in_ok-number-in-Number.number) c.in_ok-number-in-Number.ensures))

pub read_tree-returns-in-Bool-clause-value : goal.read_tree-returns-in-Bool-clause-value
read_tree-returns-in-Bool-clause-value t c =
    let first : c.args.reader.now ≡ token_of c.in_ok-token.token ∷ c.next.new.self = grind arith in
    let is : c.args.reader.now ≡ Token.boolean c.in-Bool.is_true ∷ c.next.new.self = grind (arith, first) in
    let seen : value_view (Bool c.in-Bool.is_true) ≡ boolean c.in-Bool.is_true = search (rules, the_lemmas) in
    let P : List Token → Type 0 = λ ts. TokensBeginWithValue c.args.depth ts (boolean c.in-Bool.is_true) c.next.new.self in
    let Q : Data → Type 0 = λ d. TokensBeginWithValue c.args.depth c.args.reader.now d c.next.new.self in
    subst Q (sym seen) (subst P (sym is) (is_boolean c.args.depth c.next.new.self c.in-Bool.is_true))

pub read_tree-returns-in-Null-clause-value : goal.read_tree-returns-in-Null-clause-value
read_tree-returns-in-Null-clause-value t c =
    let first : c.args.reader.now ≡ token_of c.in_ok-token.token ∷ c.next.new.self = grind arith in
    let is : c.args.reader.now ≡ Token.null ∷ c.next.new.self = grind (arith, first) in
    let seen : value_view Null ≡ null = search (rules, the_lemmas) in
    let P : List Token → Type 0 = λ ts. TokensBeginWithValue c.args.depth ts null c.next.new.self in
    let Q : Data → Type 0 = λ d. TokensBeginWithValue c.args.depth c.args.reader.now d c.next.new.self in
    subst Q (sym seen) (subst P (sym is) (is_null c.args.depth c.next.new.self))

pub read_tree-returns-in_ok-items-in-BeginArray-clause-value :
    goal.read_tree-returns-in_ok-items-in-BeginArray-clause-value
read_tree-returns-in_ok-items-in-BeginArray-clause-value t c =
    let first : c.args.reader.now ≡ token_of c.in_ok-token.token ∷ c.next.new.self = grind arith in
    let is : c.args.reader.now ≡ Token.begin_array ∷ c.next.new.self = first ∙ ap (λ k. token_of k ∷ c.next.new.self) c.in-BeginArray.is in
    let found = c.in_ok-items-in-BeginArray in
    let rest = c.read_items.new.reader in
    let P : List Token → Type 0 = λ ts. TokensBeginWithValue c.args.depth ts (value_view (Array found.items)) rest in
    let Q : Data → Type 0 = λ d. TokensBeginWithValue c.args.depth (Token.begin_array ∷ c.next.new.self) d rest in
    subst P (sym is) (subst Q (sym (view-Array found.items)) (is_array c.args.depth rest c.next.new.self (omega arith) _ found.ensures.items))

pub read_tree-returns-in_ok-members-in-BeginObject-clause-value :
    goal.read_tree-returns-in_ok-members-in-BeginObject-clause-value
read_tree-returns-in_ok-members-in-BeginObject-clause-value t c =
    let first : c.args.reader.now ≡ token_of c.in_ok-token.token ∷ c.next.new.self = grind arith in
    let is : c.args.reader.now ≡ Token.begin_object ∷ c.next.new.self = first ∙ ap (λ k. token_of k ∷ c.next.new.self) c.in-BeginObject.is in
    let found = c.in_ok-members-in-BeginObject in
    let rest = c.read_members.new.reader in
    let P : List Token → Type 0 = λ ts. TokensBeginWithValue c.args.depth ts (value_view (Object found.members)) rest in
    let Q : Data → Type 0 = λ d. TokensBeginWithValue c.args.depth (Token.begin_object ∷ c.next.new.self) d rest in
    subst P (sym is) (subst Q (sym (view-Object found.members)) (is_object c.args.depth rest c.next.new.self (omega arith) _ found.ensures.members))

pub read_items-items-init : goal.read_items-items-init
read_items-items-init t c =
    let P : List Value → Type 0 = λ vs. ItemsSoFar c.args.depth c.args.reader.now vs c.args.reader.now in
    subst P (sym c.new-found.ensures.items) (no_items_yet c.args.depth c.args.reader.now)

pub read_items-items-preserved : goal.read_items-items-preserved
read_items-items-preserved t c =
    let l = c.items in
    let going : (after_end_array l.reader ≡ None) × (c.take_end_array.new.self ≡ l.reader) = grind arith in
    let done = c.in_ok-item.ensures in
    let rest = c.read_tree.new.reader in
    let P : List Token → Type 0 = λ ts. TokensBeginWithValue c.args.depth ts (value_view c.in_ok-item.item) rest in
    let Q : List Token → Type 0 = λ ts. length rest < length ts in
    let R : List Value → Type 0 = λ vs. ItemsSoFar c.args.depth c.args.reader.now vs rest in
    subst R (sym c.in-Ok.ensures.items)
    (one_more_item c.args.depth c.args.reader.now l.found.items l.reader l.invariant c.in_ok-item.item rest going.0 (subst P going.1 done.value) (subst Q going.1 done.shorter))

pub read_items-returns-clause-items : goal.read_items-returns-clause-items
read_items-returns-clause-items t c =
    let l = c.items in
    items_over c.args.depth c.args.reader.now l.found.items l.reader l.invariant c.take_end_array.new.self (grind arith)

pub read_members-members-init : goal.read_members-members-init
read_members-members-init t c =
    let P : Members → Type 0 = λ ms. MembersSoFar c.args.depth c.args.reader.now ms c.args.reader.now in
    subst P (sym (ap members_view c.new-found.ensures.items)) (no_members_yet c.args.depth c.args.reader.now)

pub read_members-members-preserved : goal.read_members-members-preserved
read_members-members-preserved t c =
    let l = c.members in
    let key = c.in-Some.key.now in
    let behind = c.next_key.new.self in
    let named : read_key l.reader ≡ Some (Some key, behind) = grind arith in
    let done = c.in_ok-member.ensures in
    let rest = c.read_tree.new.reader in
    let old : Members = members_view l.found.items in
    let inserted : members_view c.put.new.members.items ≡ put key (value_view c.in_ok-member.member) old = search rules in
    let shorter : length rest < length l.reader = omega (arith, done.shorter, read_key-shorter l.reader (Some key) behind named) in
    let P : Members → Type 0 = λ ms. MembersSoFar c.args.depth c.args.reader.now ms rest in
    subst P (sym inserted) (one_more_member c.args.depth c.args.reader.now old l.reader l.invariant key (value_view c.in_ok-member.member) behind rest named done.value shorter)

pub read_members-returns-clause-members : goal.read_members-returns-clause-members
read_members-returns-clause-members t c =
    let l = c.members in
    members_over c.args.depth c.args.reader.now (members_view l.found.items) l.reader l.invariant c.next_key.new.self (grind arith)
