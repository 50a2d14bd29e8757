-- The state that the earlier lines left, and the answer to a command.
use Rattle.std.specs.Prelude.{ℕ, List, [], Option, Some, None, Result, Ok, Err}
use Rattle.rme_words.specs.declared.refusal.Refusal.{Refusal}
use Rattle.rme_program.specs.declared.note.Entry.{Entry}
use Rattle.rme_history.specs.declared.tally.Tally.{Tally}
use Rattle.rme_line_text.specs.declared.answer.TallyReport.{TallyReport}
use Rattle.rme_line_text.specs.declared.reply.Reply.{Reply}
use Rattle.rme_line_text.specs.declared.reply.Reply.TheVariants.{Refused}
use Rattle.rme_line_text.specs.Replies.{reply_text}
use Rattle.rme_line_engine.specs.declared.tallied.TalliedWorld.{TalliedWorld}

-- the open world, if any, with its tally, and the names of its locks
pub record EngineState : Type 0 where
  pub names : List (List ℕ)
  pub world : Option TalliedWorld

abbrev pub nothing_open : EngineState
nothing_open = record { names = []; world = None }

-- the history of the open world, if one is open
abbrev pub history_of : Option TalliedWorld → List Entry
history_of None = []
history_of (Some tallied) = tallied.world.history

-- the text of a reply, without the newline
abbrev pub text_of_reply : EngineState → Reply → List ℕ
text_of_reply state reply = reply_text state.names (history_of state.world) reply

-- the five numbers of a tally
abbrev pub report_of : Tally → TallyReport
report_of tally =
    record {
      recover = tally.recover;
      post = tally.post;
      enter = tally.enter;
      section = tally.section;
      exit = tally.exit;
    }

-- the answer to a call's result
abbrev pub reply_of_call : {A : Type 0} → (A → Reply) → Result A Refusal → Reply
reply_of_call reply (Ok value) = reply value
reply_of_call reply (Err refusal) = Refused refusal
