-- The space that a line asks for, and whether a key allows it.
use Rattle.std.specs.Prelude.{ℕ, Bool, true, false, ◌||◌, List, Option, Some, None, bytes_eq, codes, if◌then◌else◌}
use Rattle.serde_json.specs.Data.{Data}
use Rattle.rme_keys.specs.Allowing.{AllowsSpace, MayCreate}
use Rattle.rme_keys.specs.declared.key.Key.{Key}
use Rattle.rme_line_json.specs.Values.{json_value_of}
use Rattle.rme_wire.specs.Values.{do_member}
use Rattle.rme_line_io.specs.Pieces.{InputLine, text, too_long}
use Rattle.rme_session_keys.specs.declared.asked_space.AskedSpace.{AskedSpace}
use Rattle.rme_session_keys.specs.declared.asked_space.AskedSpace.TheVariants.{NoSpace, Used, Made, Unnamed}
use Rattle.rme_space_orders.specs.SpaceOrders.{line_of_bytes}
use Rattle.rme_space_orders.specs.declared.space_line.SpaceLine.{SpaceLine}
use Rattle.rme_space_orders.specs.declared.space_line.SpaceLine.TheVariants as line
use Rattle.rme_space_orders.specs.declared.space_line.SpaceOrder.{SpaceOrder}
use Rattle.rme_space_orders.specs.declared.space_line.SpaceOrder.TheVariants.{Create, Use, Spaces, Drop}

abbrev pub space_of_order : SpaceOrder → AskedSpace
space_of_order (Create space) = Made space.name
space_of_order (Use name) = Used name
space_of_order (Spaces after) = NoSpace
space_of_order (Drop name) = Made name

-- A line that is refused for its form asks to create or to drop a space, or for none.
abbrev pub space_of_word : Option (List ℕ) → AskedSpace
space_of_word None = NoSpace
space_of_word (Some word) =
    if bytes_eq word (codes "create") || bytes_eq word (codes "drop") then Unnamed else NoSpace

abbrev pub space_of_value : Data → AskedSpace
space_of_value value = space_of_word (do_member value)

abbrev pub space_or_none : Option Data → AskedSpace
space_or_none None = NoSpace
space_or_none (Some value) = space_of_value value

abbrev pub refused_space : List ℕ → AskedSpace
refused_space bytes = space_or_none (json_value_of bytes)

abbrev pub space_of_line : List ℕ → SpaceLine → AskedSpace
space_of_line bytes (line.Order order) = space_of_order order
space_of_line bytes (line.Refused why) = refused_space bytes
space_of_line bytes line.Other = NoSpace

-- THE SPACE THAT A LINE ASKS FOR: the one that it uses, creates or drops.
abbrev pub asked_space : InputLine → AskedSpace
asked_space too_long = NoSpace
asked_space (text bytes) = space_of_line bytes (line_of_bytes bytes)

-- A key allows it: to create and to drop a space also asks for a key that may create.
abbrev pub AllowsAskedSpace : Key → AskedSpace → Type 0
AllowsAskedSpace key NoSpace = Unit {0}
AllowsAskedSpace key (Used name) = AllowsSpace key name
AllowsAskedSpace key (Made name) = MayCreate key × AllowsSpace key name
AllowsAskedSpace key Unnamed = MayCreate key

-- At a server without spaces no line asks for one.
abbrev pub AllowsSpaceLine : Bool → Key → InputLine → Type 0
AllowsSpaceLine false key line = Unit {0}
AllowsSpaceLine true key line = AllowsAskedSpace key (asked_space line)
