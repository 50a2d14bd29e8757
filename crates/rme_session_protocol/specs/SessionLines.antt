-- The answers to the lines of a session.
use Rattle.std.specs.Prelude.{ℕ, List, [], ◌∷◌, ◌++◌}
use Rattle.rme_session_protocol.specs.declared.reply.SessionReply.{SessionReply}
use Rattle.rme_session_protocol.specs.ReplyTexts.{session_reply_text}
use Rattle.rme_session_protocol.specs.WorkerChoices.{choice_reply_text}

-- An answer and its newline.
abbrev pub session_reply_line : List (List ℕ) → SessionReply → List ℕ
session_reply_line names reply = session_reply_text names reply ++ 10 ∷ []

-- The answer to a session whose worker the server chose, and its newline.
abbrev pub choice_reply_line : List (List ℕ) → ℕ → SessionReply → List ℕ
choice_reply_line names worker reply = choice_reply_text names worker reply ++ 10 ∷ []
