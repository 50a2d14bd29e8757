-- A session that leaves it to the server which worker it attaches.
use Rattle.std.specs.Prelude.{ℕ, ◌+◌, ◌==◌, ◌&&◌, ◌++◌, Bool, not, List, Option, Some, None, bytes_eq, codes, decimal, option_and_then, option_map, if◌then◌else◌}
use Rattle.serde_json.specs.Data.{Data}
use Rattle.serde_json.specs.Events.{members_len}
use Rattle.serde_json.specs.Find.{as_object, as_str, get}
use Rattle.rme_line_json.specs.Values.{json_value_of}
use Rattle.rme_line_io.specs.Pieces.{InputLine, text, too_long}
use Rattle.rme_wire.specs.Commands.{member_count}
use Rattle.rme_wire.specs.Values.{do_member}
use Rattle.rme_session_protocol.specs.Orders.{as_of}
use Rattle.rme_session_protocol.specs.ReplyTexts.{session_reply_text, stance_word}
use Rattle.rme_session_protocol.specs.declared.reply.SessionReply.{SessionReply}
use Rattle.rme_session_protocol.specs.declared.reply.SessionReply.TheVariants.{Attached}
use Rattle.rme_session_protocol.specs.declared.reply.SessionStance.{SessionStance}
use Rattle.rme_session_protocol.specs.declared.worker_choice.ChoiceRequest.{ChoiceRequest}
use Rattle.rme_session_protocol.specs.declared.worker_choice.WorkerChoice.{WorkerChoice}
use Rattle.rme_session_protocol.specs.declared.worker_choice.WorkerChoice.TheVariants.{Pending, Ready}

-- A worker that no session has may be chosen, by whether it has a pending job.
abbrev pub is_chosen : WorkerChoice → Bool → Bool
is_chosen Pending is_pending = is_pending
is_chosen Ready is_pending = not is_pending

-- `"pending"` or `"ready"`
abbrev pub choice_of_word : List ℕ → Option WorkerChoice
choice_of_word word =
    if bytes_eq word (codes "pending") then Some Pending
    else (if bytes_eq word (codes "ready") then Some Ready else None)

-- `{"any":..,"as":..,"do":"attach"}`; `as` may be absent
unfoldable pub choice_named : List ℕ → ℕ → Data → Option ChoiceRequest
choice_named word count value =
    option_and_then (λ label.
    if bytes_eq word (codes "attach") && (count == 2 + member_count (get (codes "as") value))
    then option_and_then (λ choice. Some (record { choice = choice; label = label }))
    (option_and_then choice_of_word (option_and_then as_str (get (codes "any") value)))
    else None) (as_of value)

unfoldable pub choice_of_value : Data → Option ChoiceRequest
choice_of_value value =
    option_and_then (λ (count : ℕ). option_and_then (λ (word : List ℕ). choice_named word count value)
    (do_member value)) (option_map members_len (as_object value))

unfoldable pub choice_of_bytes : List ℕ → Option ChoiceRequest
choice_of_bytes bytes = option_and_then choice_of_value (json_value_of bytes)

abbrev pub choice_of_line : InputLine → Option ChoiceRequest
choice_of_line too_long = None
choice_of_line (text bytes) = choice_of_bytes bytes

-- `{"number":..,"ok":"attach","stance":..,"worker":..}`; a refusal as of any order
abbrev pub chosen_text : ℕ → ℕ → SessionStance → List ℕ
chosen_text worker number standing =
    codes "{\"number\":" ++ (decimal number ++ (codes ",\"ok\":\"attach\",\"stance\":\"" ++ (stance_word standing
    ++ (codes "\",\"worker\":" ++ (decimal worker ++ codes "}")))))

abbrev pub choice_reply_text : List (List ℕ) → ℕ → SessionReply → List ℕ
choice_reply_text names worker (Attached number standing) = chosen_text worker number standing
choice_reply_text names worker reply = session_reply_text names reply
