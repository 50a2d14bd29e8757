-- The value of a tree over a line's text.
use Rattle.std.specs.Prelude.{ℕ, List, [], ◌∷◌, map}
use Rattle.std.specs.Borrow.{Bor}
use Rattle.serde_json.specs.Data.{Data, null, boolean, number, string, array, object, Items, no_items, item, Members, no_members, member}
use Rattle.serde_json.specs.View.{number_view}
use Rattle.rme_line_json.specs.declared.value.Value.{Value, fold-Value}
use Rattle.rme_line_json.specs.declared.value.Value.TheOpen.{Value-F}

abbrev pub items_of : List Data → Items
items_of [] = no_items
items_of (datum ∷ rest) = item datum (items_of rest)

abbrev pub members_of : List (Bor (List ℕ) × Data) → Members
members_of [] = no_members
members_of (m ∷ rest) = member m.0.now m.1 (members_of rest)

-- One level, whose inner values are already converted.
abbrev pub value_view_step : Value-F Data → Data
value_view_step Value-F.Null = null
value_view_step (Value-F.Bool is) = boolean is
value_view_step (Value-F.Number n) = number (number_view n)
value_view_step (Value-F.String text) = string text.now
value_view_step (Value-F.Array values) = array (items_of values.items)
value_view_step (Value-F.Object members) = object (members_of members.items)

abbrev pub value_view : Value → Data
value_view = fold-Value Data value_view_step

abbrev pub items_view : List Value → Items
items_view values = items_of (map value_view values)

abbrev pub members_view : List (Bor (List ℕ) × Value) → Members
members_view members = members_of (map (λ m. (m.0, value_view m.1)) members)
