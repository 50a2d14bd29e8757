-- How a line of a session is answered that uses no space.
use Rattle.std.specs.Prelude.{◌≡◌, ℕ, List, Option, Some, None, Result, Ok, Err, option_and_then}
use Rattle.rme_line_io.specs.Pieces.{InputLine, text, too_long}
use Rattle.rme_line_json.specs.Values.{json_value_of}
use Rattle.rme_session_protocol.specs.Orders.{service_numbers}
use Rattle.rme_session_protocol.specs.SessionLines.{session_reply_line}
use Rattle.rme_session_protocol.specs.declared.order.Order.{Order}
use Rattle.rme_session_protocol.specs.declared.order.Order.TheVariants.{Ping}
use Rattle.rme_session_protocol.specs.declared.reply.SessionReply.{SessionReply}
use Rattle.rme_session_protocol.specs.declared.reply.SessionReply.TheVariants.{Pong, Refused}
use Rattle.rme_session_loop.specs.SessionAnswers.{parsed_order}
use Rattle.rme_wire.specs.Values.{do_member}
use Rattle.rme_words.specs.declared.refusal.Refusal.{Refusal}
use Rattle.rme_words.specs.declared.refusal.Refusal.TheVariants.{BadLine, LineTooLong, NoSpace}

-- A line with a word of `do` is refused for want of a space; any other is a bad line.
abbrev pub reply_by_word : Option (List ℕ) → SessionReply
reply_by_word (Some word) = Refused NoSpace
reply_by_word None = Refused BadLine

abbrev pub non_order_reply : List ℕ → SessionReply
non_order_reply bytes = reply_by_word (option_and_then do_member (json_value_of bytes))

abbrev pub reply_by_order : List ℕ → Result Order Refusal → SessionReply
reply_by_order bytes (Ok Ping) = Pong
reply_by_order bytes (Ok order) = Refused NoSpace
reply_by_order bytes (Err why) = non_order_reply bytes

-- `ping` is answered; every other order is refused.
abbrev pub no_space_reply : List (List ℕ) → InputLine → SessionReply
no_space_reply names too_long = Refused LineTooLong
no_space_reply names (text bytes) = reply_by_order bytes (parsed_order names service_numbers (text bytes))

abbrev pub NoSpaceLineAnswer : List (List ℕ) → InputLine → List ℕ → Type 0
NoSpaceLineAnswer names line bytes = bytes ≡ session_reply_line names (no_space_reply names line)
