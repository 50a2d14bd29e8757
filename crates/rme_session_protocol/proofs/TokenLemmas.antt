-- The items of a list in order: the items found from here complete those found before.
use Rattle.std.proofs.Common.{◌≡◌, ℕ, ◌+◌, ◌-◌, ◌<◌, ◌≤◌, ◌^◌, List, [], ◌∷◌, length, take, set, bytes_eq, Some, None, option_map, option_and_then, refl, ap, subst, inl, inr, ◌∙◌, arith}
use Rattle.std.proofs.lemmas.Bool.{cases_Bool, lt-ltb}
use Rattle.std.proofs.lemmas.Option.{none-some}
use Rattle.std.proofs.lemmas.Slice.Eq.{bytes_eq-Decides}
use Rattle.std.specs.Prelude.{codes}
use Rattle.json.specs.Token.{Token}
use Rattle.json.specs.Json as json
use Rattle.json.specs.Json.{parse_map, after_end_array}
use Rattle.json.proofs.Grammar.{items_end, items_more, after_end_array-shorter}
use Rattle.serde_json.specs.Data.{Data, Num, number, string, array, Items, no_items, item}
use Rattle.serde_json.specs.Find.{as_u64}
use Rattle.serde_json.specs.Read.{of_items, number_of}
use Rattle.rme_line_json.specs.Trees.{TokensBeginWithValue, TokensBeginWithItems}
use Rattle.rme_line_json.proofs.Reading.{is_string, is_number, is_array}
use Rattle.rme_script.specs.declared.op.Op.{Op}
use Rattle.rme_script.specs.declared.op.Op.TheVariants.{Get}
use Rattle.rme_wire.specs.Operations.{op_of_value, program_of, script_of_value}
use Rattle.rme_wire.specs.Values.{whole_u32}
use Rattle.rme_wire.proofs.OperationLemmas.{Reads, reads_first, reads_kept, reads_all}
use Rattle.rme_session_protocol.specs.Tokens.{IsOperationTokens, IsScriptTokens, op_on}

-- After some items of a list, which precede those found from here.
pub record ItemsAfter (depth : ℕ) (start : List Token) (front : Items → Items) (here : List Token) : Type 0 where
  pub turns : ℕ
  pub enough : length here ≤ turns
  pub within : length here ≤ length start
  pub completes : (tree : json.Items) (items : Items) (rest : List Token) → json.items (json.value depth) turns here ≡ Some (tree, rest) → of_items tree ≡ Some items
      → TokensBeginWithItems depth start (front items) rest

pub none_before : (depth : ℕ) (start : List Token) → ItemsAfter depth start (λ items. items) start
none_before depth start = record {
  turns = length start;
  enough = omega arith;
  within = omega arith;
  completes = λ tree items rest grammar means. record { tree = tree; grammar = grammar; means = means };
}

module _ (depth : ℕ) (start : List Token) (front : Items → Items) (here : List Token) (after : ItemsAfter depth start front here) where
  pub one_after : (datum : Data) (next : List Token) → after_end_array here ≡ None → TokensBeginWithValue depth here datum next → length next < length here
      → ItemsAfter depth start (λ items. front (item datum items)) next
  one_after datum next going is shorter = record {
    turns = after.turns - 1;
    enough = omega (arith, after.enough, shorter);
    within = omega (arith, after.within, shorter);
    completes = λ tree items rest grammar means.
        let longer : json.items (json.value depth) after.turns here ≡ Some (json.item is.tree tree, rest) =
        items_more (json.value depth) after.turns here next is.tree (omega (arith, after.enough, shorter)) going is.grammar ∙ ap (parse_map (json.item is.tree)) grammar in
        let both : of_items (json.item is.tree tree) ≡ Some (item datum items) =
        ap (option_and_then (λ d. option_map (item d) (of_items tree))) is.means ∙ ap (option_map (item datum)) means in
        after.completes (json.item is.tree tree) (item datum items) rest longer both;
  }

  pub all_before : (next : List Token) → after_end_array here ≡ Some next → TokensBeginWithItems depth start (front no_items) next
  all_before next over = after.completes json.no_items no_items next (items_end (json.value depth) after.turns here next after.enough over) refl

-- An operation on one number, and one on two.
get_means : (word : List ℕ) (v : Num) (n : ℕ) → as_u64 v ≡ Some n → n < 2 ^ 32 → word ≡ codes "get" → op_of_value (array (item (string word) (item (number v) no_items))) ≡ Some (Get n)
unfolding op_of_value whole_u32
get_means word v n counts few is = rw (is, counts, lt-ltb n (2 ^ 32) few) refl

two_mean : (word : List ℕ) (v w : Num) (n m : ℕ) (op : Op) → as_u64 v ≡ Some n → n < 2 ^ 32 → as_u64 w ≡ Some m → op_on word n m ≡ Some op
    → op_of_value (array (item (string word) (item (number v) (item (number w) no_items)))) ≡ Some op
unfolding op_of_value whole_u32
two_mean word v w n m op counts few more on =
    elim (cases_Bool (bytes_eq word (codes "get"))) [
      | inl t ↦
          let is : word ≡ codes "get" = (bytes_eq-Decides word (codes "get")).0 t in
          let P : List ℕ → Type 0 = λ text. op_on text n m ≡ Some op in
          let none : None ≡ Some op = subst P is on in
          absurd (none-some op none)
      | inr f ↦ rw (f, counts, lt-ltb n (2 ^ 32) few, more) on
    ]

module _ (word : List ℕ) (number_text : List ℕ) (v : Num) (n : ℕ) (means : number_of number_text ≡ Some v) (counts : as_u64 v ≡ Some n) (few : n < 2 ^ 32) where
  begun : (here : List Token) → ItemsAfter 124 (Token.string word ∷ Token.number number_text ∷ here) (λ items. item (string word) (item (number v) items)) here
  begun here =
      let start = Token.string word ∷ Token.number number_text ∷ here in
      let first = one_after 124 start (λ items. items) start (none_before 124 start) (string word) (Token.number number_text ∷ here) refl (is_string 124 (Token.number number_text ∷ here) word) (omega arith) in
      one_after 124 start (λ items. item (string word) items) (Token.number number_text ∷ here) first (number v) here refl (is_number 124 here number_text v means) (omega arith)

  pub get_at : (here rest : List Token) → after_end_array here ≡ Some rest → word ≡ codes "get" → IsOperationTokens (Token.begin_array ∷ Token.string word ∷ Token.number number_text ∷ here) (Get n) rest
  get_at here rest over is = record {
    items = item (string word) (item (number v) no_items);
    is = is_array 125 rest (Token.string word ∷ Token.number number_text ∷ here) (omega arith) _ (all_before 124 _ (λ items. item (string word) (item (number v) items)) here (begun here) rest over);
    means = get_means word v n counts few is;
    shorter = omega (arith, after_end_array-shorter here rest over);
  }

  pub two_at : (second_text : List ℕ) (w : Num) (m : ℕ) (op : Op) (here rest : List Token) → number_of second_text ≡ Some w → as_u64 w ≡ Some m → op_on word n m ≡ Some op → after_end_array here ≡ Some rest
      → IsOperationTokens (Token.begin_array ∷ Token.string word ∷ Token.number number_text ∷ Token.number second_text ∷ here) op rest
  two_at second_text w m op here rest second more on over =
      let start = Token.string word ∷ Token.number number_text ∷ Token.number second_text ∷ here in
      let both = one_after 124 start (λ items. item (string word) (item (number v) items)) (Token.number second_text ∷ here) (begun (Token.number second_text ∷ here)) (number w) here refl (is_number 124 here second_text w second) (omega arith) in
      record {
        items = item (string word) (item (number v) (item (number w) no_items));
        is = is_array 125 rest start (omega arith) _ (all_before 124 start (λ items. item (string word) (item (number v) (item (number w) items))) here both rest over);
        means = two_mean word v w n m op counts few more on;
        shorter = omega (arith, after_end_array-shorter here rest over);
      }

-- After some operations of a script.
pub record OpsSoFar (start : List Token) (ops : List Op) (here : List Token) : Type 0 where
  pub front : Items → Items
  pub after : ItemsAfter 125 start front here
  pub reads : (items : Items) → Reads (front items) ops items

pub no_ops_yet : (start : List Token) → OpsSoFar start [] start
no_ops_yet start = record { front = λ items. items; after = none_before 125 start; reads = reads_first }

pub one_more_op : (start : List Token) (ops : List Op) (k : ℕ) (here : List Token) → OpsSoFar start (take k ops) here → (op : Op) (next : List Token) → after_end_array here ≡ None → IsOperationTokens here op next → k < length ops
    → OpsSoFar start (take (k + 1) (set ops k op)) next
one_more_op start ops k here so op next going is within = record {
  front = λ items. so.front (item (array is.items) items);
  after = one_after 125 start so.front here so.after (array is.items) next going is.is is.shorter;
  reads = λ items. reads_kept (so.front (item (array is.items) items)) ops k (array is.items) items op (so.reads (item (array is.items) items)) is.means within;
}

pub script_at : (start : List Token) (ops : List Op) (here rest : List Token) → OpsSoFar start ops here → after_end_array here ≡ Some rest → IsScriptTokens (Token.begin_array ∷ start) (program_of ops) rest
unfolding script_of_value
script_at start ops here rest so over = record {
  items = so.front no_items;
  is = is_array 126 rest start (omega arith) (so.front no_items) (all_before 125 start so.front here so.after rest over);
  means = reads_all (so.front no_items) ops (so.reads no_items);
  shorter = omega (arith, after_end_array-shorter here rest over, so.after.within);
}
