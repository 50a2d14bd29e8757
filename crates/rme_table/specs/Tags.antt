-- The service of a tag that names none.
use Rattle.std.specs.Prelude.{[]}
use Rattle.atomic_table.specs.Seated.{TableId}
use Rattle.rme_service_steps.specs.Placeholders.{no_shape}
use Rattle.rme_service_steps.specs.SeatViews.{ServiceId}

abbrev pub no_table : TableId
no_table = record { words = 0; slots = 0; views_name = 0; atom = 0; block = 0; offset = 0; slot_names = [] }

abbrev pub no_service_id : ServiceId
no_service_id = record { table = no_table; shape = no_shape }
