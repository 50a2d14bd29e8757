-- The texts of whole answers, without their newline.
use Rattle.std.specs.Prelude.{ℕ, List, ◌++◌, Bool, true, false, codes, decimal, Option, Some, None}
use Rattle.rme_program.specs.declared.note.Entry.{Entry}
use Rattle.rme_program.specs.declared.note.Note.{Note}
use Rattle.rme_program.specs.declared.note.Receipt.{Receipt}
use Rattle.rme_words.specs.declared.refusal.Refusal.{Refusal}
use Rattle.rme_words.specs.declared.refusal.Refusal.TheVariants.{WrongNumber}
use Rattle.rme_words.specs.Refusals.{refusal_code, refusal_name}
use Rattle.rme_line_text.specs.declared.answer.Acknowledgement.{Acknowledgement}
use Rattle.rme_line_text.specs.declared.answer.Acknowledgement.TheVariants.{Open, Load, Crash, Restart, Withdraw}
use Rattle.rme_line_text.specs.declared.answer.TallyReport.{TallyReport}
use Rattle.rme_line_text.specs.declared.walked.WalkEnd.{WalkEnd}
use Rattle.rme_line_text.specs.declared.reply.Reply.{Reply}
use Rattle.rme_line_text.specs.declared.reply.Reply.TheVariants as reply
use Rattle.rme_line_text.specs.declared.walked.WalkEnd.TheVariants.{Until, Ready, Blocked, Max}
use Rattle.rme_line_text.specs.Texts.{cells_text, entries_text, hex_text, note_text, notes_text, receipt_text}

abbrev pub acknowledgement_text : Acknowledgement → List ℕ
acknowledgement_text Open = codes "{\"ok\":\"open\"}"
acknowledgement_text Load = codes "{\"ok\":\"load\"}"
acknowledgement_text Crash = codes "{\"ok\":\"crash\"}"
acknowledgement_text Restart = codes "{\"ok\":\"restart\"}"
acknowledgement_text Withdraw = codes "{\"ok\":\"withdraw\"}"

abbrev pub number_text : ℕ → List ℕ
number_text number = codes "{\"number\":" ++ (decimal number ++ codes ",\"ok\":\"submit\"}")

abbrev pub stepped_text : List (List ℕ) → Note → List ℕ
stepped_text names note = codes "{\"note\":" ++ (note_text names note ++ codes ",\"ok\":\"step\"}")

abbrev pub end_word : WalkEnd → List ℕ
end_word Until = codes "until"
end_word Ready = codes "ready"
end_word Blocked = codes "blocked"
end_word Max = codes "max"

-- the text of a walk's answer before its notes, with this word for its end
abbrev pub walk_front : List ℕ → List ℕ
walk_front end = codes "{\"end\":\"" ++ (end ++ codes "\",\"notes\":[")

abbrev pub walked_text : List (List ℕ) → WalkEnd → List Note → List ℕ
walked_text names end notes = walk_front (end_word end) ++ (notes_text names notes ++ codes "],\"ok\":\"walk\"}")

abbrev pub owner_text : Option ℕ → List ℕ
owner_text None = codes "{\"ok\":\"owner\",\"owner\":null}"
owner_text (Some worker) = codes "{\"ok\":\"owner\",\"owner\":" ++ (decimal worker ++ codes "}")

abbrev pub settled_text : Bool → List ℕ
settled_text true = codes "],\"ok\":\"cells\",\"settled\":true}"
settled_text false = codes "],\"ok\":\"cells\",\"settled\":false}"

abbrev pub row_text : List ℕ → Bool → List ℕ
row_text row settled = codes "{\"cells\":[" ++ (cells_text row ++ settled_text settled)

abbrev pub last_receipt_text : List (List ℕ) → Receipt → List ℕ
last_receipt_text names receipt = codes "{\"last\":" ++ (receipt_text names receipt ++ codes ",\"ok\":\"last\"}")

abbrev pub last_text : List (List ℕ) → Option Receipt → List ℕ
last_text names None = codes "{\"last\":null,\"ok\":\"last\"}"
last_text names (Some receipt) = last_receipt_text names receipt

abbrev pub history_text : List (List ℕ) → List Entry → List ℕ
history_text names entries = codes "{\"entries\":[" ++ (entries_text names entries ++ codes "],\"ok\":\"history\"}")

abbrev pub report_text : TallyReport → List ℕ
report_text r =
    codes "{\"enter\":" ++ (decimal r.enter ++
    (codes ",\"exit\":" ++ (decimal r.exit ++ (codes ",\"ok\":\"report\",\"post\":" ++ (decimal r.post
    ++ (codes ",\"recover\":" ++ (decimal r.recover
    ++ (codes ",\"section\":" ++ (decimal r.section ++ codes "}")))))))))

abbrev pub image_text : List ℕ → List ℕ
image_text bytes = codes "{\"image\":\"" ++ (hex_text bytes ++ codes "\",\"ok\":\"save\"}")

abbrev pub plain_refusal_text : ℕ → List ℕ → List ℕ
plain_refusal_text code name = codes "{\"code\":" ++ (decimal code ++ (codes ",\"error\":\"" ++ (name ++ codes "\"}")))

-- a refusal; that of a wrong number has the expected one
abbrev pub refusal_text : Refusal → List ℕ
refusal_text (WrongNumber expected) =
    codes "{\"code\":16,\"error\":\"WrongNumber\",\"expected\":" ++ (decimal expected ++ codes "}")
refusal_text other = plain_refusal_text (refusal_code other) (refusal_name other)

-- the answer to a command line, with the names of the locks and the history of the open world
abbrev pub reply_text : List (List ℕ) → List Entry → Reply → List ℕ
reply_text names history (reply.Done word) = acknowledgement_text word
reply_text names history (reply.Handed number) = number_text number
reply_text names history (reply.Stepped note) = stepped_text names note
reply_text names history (reply.Walked walked) = walked_text names walked.end walked.notes
reply_text names history (reply.Owner owner) = owner_text owner
reply_text names history (reply.Cells row settled) = row_text row settled
reply_text names history (reply.Last receipt) = last_text names receipt
reply_text names history reply.History = history_text names history
reply_text names history (reply.Report report) = report_text report
reply_text names history (reply.Image image) = image_text image
reply_text names history (reply.Refused refusal) = refusal_text refusal
