-- The texts of the answers: compact JSON with sorted keys, and a newline.
use Rattle.std.specs.Prelude.{ℕ, Bool, List, ◌++◌, codes, if◌then◌else◌}
use Rattle.rme_line_text.specs.Texts.{names_text}
use Rattle.rme_space_orders.specs.declared.space_reply.SpaceReply.{SpaceReply}
use Rattle.rme_space_orders.specs.declared.space_reply.SpaceReply.TheVariants.{Created, Used, Dropped, Spaces}

abbrev pub more_text : Bool → List ℕ
more_text more = if more then codes "true" else codes "false"

abbrev pub spaces_front : Bool → List ℕ
spaces_front more = codes "{\"more\":" ++ (more_text more ++ codes ",\"ok\":\"spaces\",\"spaces\":[")

-- `{"more":..,"ok":"spaces","spaces":[..]}`
abbrev pub spaces_text : List (List ℕ) → Bool → List ℕ
spaces_text names more = spaces_front more ++ (names_text names ++ codes "]}\n")

abbrev pub space_reply_text : SpaceReply → List ℕ
space_reply_text Created = codes "{\"ok\":\"create\"}\n"
space_reply_text Used = codes "{\"ok\":\"use\"}\n"
space_reply_text Dropped = codes "{\"ok\":\"drop\"}\n"
space_reply_text (Spaces names more) = spaces_text names.now more
