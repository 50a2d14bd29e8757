-- What a handle owns.
use Rattle.std.specs.Prelude.{Bool, true, false}
use base.Fml.{Fml, ftrue}

-- The owned value, if there is one.
abbrev pub owned_if : Bool → Fml → Fml
owned_if true owned = owned
owned_if false owned = ftrue
