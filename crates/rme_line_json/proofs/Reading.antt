-- The loops over a list and over an object: the values found from here complete those found before.
use Rattle.std.proofs.Common.{◌≡◌, ℕ, Bool, ◌-◌, ◌<◌, ◌≤◌, List, [], ◌∷◌, ◌++◌, length, Option, Some, None, option_map, option_and_then, refl, ap, subst, ◌∙◌, arith}
use Rattle.json.specs.Token.{Token}
use Rattle.json.specs.Lex.{tokens}
use Rattle.json.specs.Json as json
use Rattle.json.specs.Json.{parse_map, after_end_array, read_key, if_last}
use Rattle.json.proofs.Grammar.{items_end, items_more, members_end, members_more, value_is, value-begin_array, value-begin_object}
use Rattle.serde_json.specs.Data.{Data, Num, null, boolean, number, string, array, object, Items, no_items, item, Members, no_members, put}
use Rattle.serde_json.specs.Read.{of_json, of_items, of_members, number_of, read}
use Rattle.rme_line_json.specs.View.{value_view, items_view}
use Rattle.rme_line_json.specs.declared.value.Value.{Value}
use Rattle.rme_line_json.specs.Trees.{TokensBeginWithValue, TokensBeginWithItems, TokensBeginWithMembers}

-- Values prepended to others.
abbrev pub in_front : List Value → Items → Items
in_front [] rest = rest
in_front (value ∷ values) rest = item (value_view value) (in_front values rest)

in_front_alone : (values : List Value) → in_front values no_items ≡ items_view values
in_front_alone [] = refl
in_front_alone (value ∷ values) = ap (item (value_view value)) (in_front_alone values)

in_front_last : (values : List Value) (last : Value) (rest : Items) → in_front values (item (value_view last) rest) ≡ in_front (values ++ last ∷ []) rest
in_front_last [] last rest = refl
in_front_last (value ∷ values) last rest = ap (item (value_view value)) (in_front_last values last rest)

-- After some values of a list.
pub record ItemsSoFar (depth : ℕ) (start : List Token) (found : List Value) (here : List Token) : Type 0 where
  pub turns : ℕ
  pub enough : length here ≤ turns
  pub within : length here ≤ length start
  pub completes : (tree : json.Items) (datum : Items) (rest : List Token) → json.items (json.value depth) turns here ≡ Some (tree, rest) → of_items tree ≡ Some datum
      → TokensBeginWithItems depth start (in_front found datum) rest

pub no_items_yet : (depth : ℕ) (start : List Token) → ItemsSoFar depth start [] start
no_items_yet depth start = record {
  turns = length start;
  enough = omega arith;
  within = omega arith;
  completes = λ tree datum rest grammar means. record { tree = tree; grammar = grammar; means = means };
}

module _ (depth : ℕ) (start : List Token) (found : List Value) (here : List Token) (so : ItemsSoFar depth start found here) where
  pub one_more_item : (value : Value) (next : List Token) → after_end_array here ≡ None → TokensBeginWithValue depth here (value_view value) next → length next < length here
      → ItemsSoFar depth start (found ++ value ∷ []) next
  one_more_item value next going is shorter = record {
    turns = so.turns - 1;
    enough = omega (arith, so.enough, shorter);
    within = omega (arith, so.within, shorter);
    completes = λ tree datum rest grammar means.
        let longer : json.items (json.value depth) so.turns here ≡ Some (json.item is.tree tree, rest) =
        items_more (json.value depth) so.turns here next is.tree (omega (arith, so.enough, shorter)) going is.grammar ∙ ap (parse_map (json.item is.tree)) grammar in
        let both : of_items (json.item is.tree tree) ≡ Some (item (value_view value) datum) =
        ap (option_and_then (λ d. option_map (item d) (of_items tree))) is.means ∙ ap (option_map (item (value_view value))) means in
        let P : Items → Type 0 = λ ds. TokensBeginWithItems depth start ds rest in
        subst P (in_front_last found value datum) (so.completes (json.item is.tree tree) (item (value_view value) datum) rest longer both);
  }

  pub items_over : (next : List Token) → after_end_array here ≡ Some next → TokensBeginWithItems depth start (items_view found) next
  items_over next over =
      let P : Items → Type 0 = λ ds. TokensBeginWithItems depth start ds next in
      subst P (in_front_alone found) (so.completes json.no_items no_items next (items_end (json.value depth) so.turns here next so.enough over) refl)

-- After some members of an object.
pub record MembersSoFar (depth : ℕ) (start : List Token) (found : Members) (here : List Token) : Type 0 where
  pub turns : ℕ
  pub enough : length here ≤ turns
  pub within : length here ≤ length start
  pub completes : (tree : json.Members) (datum : Members) (rest : List Token) → json.members (json.value depth) turns here ≡ Some (tree, rest) → of_members tree found ≡ Some datum
      → TokensBeginWithMembers depth start datum rest

pub no_members_yet : (depth : ℕ) (start : List Token) → MembersSoFar depth start no_members start
no_members_yet depth start = record {
  turns = length start;
  enough = omega arith;
  within = omega arith;
  completes = λ tree datum rest grammar means. record { tree = tree; grammar = grammar; means = means };
}

module _ (depth : ℕ) (start : List Token) (found : Members) (here : List Token) (so : MembersSoFar depth start found here) where
  pub one_more_member : (key : List ℕ) (datum : Data) (behind next : List Token) → read_key here ≡ Some (Some key, behind) → TokensBeginWithValue depth behind datum next → length next < length here
      → MembersSoFar depth start (put key datum found) next
  one_more_member key datum behind next named is shorter = record {
    turns = so.turns - 1;
    enough = omega (arith, so.enough, shorter);
    within = omega (arith, so.within, shorter);
    completes = λ tree all rest grammar means.
        let longer : json.members (json.value depth) so.turns here ≡ Some (json.member key is.tree tree, rest) =
        members_more (json.value depth) so.turns key here behind next is.tree (omega (arith, so.enough, shorter)) named is.grammar ∙ ap (parse_map (json.member key is.tree)) grammar in
        let both : of_members (json.member key is.tree tree) found ≡ Some all =
        ap (option_and_then (λ d. of_members tree (put key d found))) is.means ∙ means in
        so.completes (json.member key is.tree tree) all rest longer both;
  }

  pub members_over : (next : List Token) → read_key here ≡ Some (None, next) → TokensBeginWithMembers depth start found next
  members_over next over = so.completes json.no_members found next (members_end (json.value depth) so.turns here next so.enough over) refl

-- A value of one token, and one in brackets or braces.
module _ (depth : ℕ) (rest : List Token) where
  pub is_string : (text : List ℕ) → TokensBeginWithValue depth (Token.string text ∷ rest) (string text) rest
  is_string text = record { tree = json.string text; grammar = value_is depth (Token.string text ∷ rest); means = refl }

  pub is_boolean : (is : Bool) → TokensBeginWithValue depth (Token.boolean is ∷ rest) (boolean is) rest
  is_boolean is = record { tree = json.boolean is; grammar = value_is depth (Token.boolean is ∷ rest); means = refl }

  pub is_null : TokensBeginWithValue depth (Token.null ∷ rest) null rest
  is_null = record { tree = json.null; grammar = value_is depth (Token.null ∷ rest); means = refl }

  pub is_number : (text : List ℕ) (value : Num) → number_of text ≡ Some value → TokensBeginWithValue depth (Token.number text ∷ rest) (number value) rest
  is_number text value is = record { tree = json.number text; grammar = value_is depth (Token.number text ∷ rest); means = ap (option_map number) is }

  module _ (inside : List Token) (some : 0 < depth) where
    pub is_array : (found : Items) → TokensBeginWithItems (depth - 1) inside found rest → TokensBeginWithValue depth (Token.begin_array ∷ inside) (array found) rest
    is_array found is = record {
      tree = json.array is.tree;
      grammar = value-begin_array depth inside some ∙ ap (parse_map json.array) is.grammar;
      means = ap (option_map array) is.means;
    }

    pub is_object : (found : Members) → TokensBeginWithMembers (depth - 1) inside found rest → TokensBeginWithValue depth (Token.begin_object ∷ inside) (object found) rest
    is_object found is = record {
      tree = json.object is.tree;
      grammar = value-begin_object depth inside some ∙ ap (parse_map json.object) is.grammar;
      means = ap (option_map object) is.means;
    }

-- The value of a whole text.
pub whole : (text : List ℕ) (datum : Data) → TokensBeginWithValue 127 (tokens text) datum [] → read text ≡ Some datum
whole text datum is =
    ap (λ (p : Option (json.Json × List Token)). option_and_then of_json (option_and_then (λ q. if_last q.0 q.1) p)) is.grammar ∙ is.means
