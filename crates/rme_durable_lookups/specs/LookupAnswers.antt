-- What a look-up is answered with.
use Rattle.std.specs.Prelude.{◌≡◌, ℕ, Bool, List, [], ◌∷◌, ◌++◌, Option, Result, Ok, Err}
use Rattle.rme_words.specs.declared.refusal.Refusal.{Refusal}
use Rattle.rme_line_text.specs.Replies.{reply_text}
use Rattle.rme_line_text.specs.declared.reply.Reply.{Reply}
use Rattle.rme_line_text.specs.declared.reply.Reply.TheVariants as line
use Rattle.rme_world.specs.Calls.{CellsContract, OwnerContract}
use Rattle.rme_durable_lookups.specs.declared.lookup.SessionLookup.{SessionLookup}
use Rattle.rme_durable_lookups.specs.declared.lookup.SessionLookup.TheVariants.{Owner, Cells, Status}
use Rattle.rme_durable_lookups.specs.declared.status_notes.LeaderNote.{LeaderNote}
use Rattle.rme_durable_lookups.specs.declared.worker_notes.WorkerNote.{WorkerNote}
use Rattle.rme_durable_lookups.specs.StatusTexts.{StatusState, status_text}

-- The answers of the world's own look-ups.
abbrev pub owner_reply : Result (Option ℕ) Refusal → Reply
owner_reply (Ok owner) = line.Owner owner
owner_reply (Err why) = line.Refused why

abbrev pub cells_reply : Result (List ℕ × Bool) Refusal → Reply
cells_reply (Ok cells) = line.Cells cells.0 cells.1
cells_reply (Err why) = line.Refused why

-- What a look-up shows of a state: the owner and the cells by the world's own calls, and the status with who leads the
-- log, and with some notes on the workers.
abbrev pub LookupShows : List (List ℕ) → Option LeaderNote → StatusState → SessionLookup → List ℕ → Type 0
LookupShows names leader state (Owner lock) bytes =
    (found : Result (Option ℕ) Refusal) × OwnerContract state.world lock found
    × (bytes ≡ reply_text names state.world.history (owner_reply found) ++ 10 ∷ [])
LookupShows names leader state (Cells lock) bytes =
    (found : Result (List ℕ × Bool) Refusal) × CellsContract state.world lock found
    × (bytes ≡ reply_text names state.world.history (cells_reply found) ++ 10 ∷ [])
LookupShows names leader state Status bytes =
    (notes : List WorkerNote) × (bytes ≡ status_text names leader state notes ++ 10 ∷ [])
