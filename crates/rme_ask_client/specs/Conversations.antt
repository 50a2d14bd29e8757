-- A conversation: the bytes that were sent, the bytes that are not yet received, and the last line that was received.
use Rattle.std.specs.Prelude.{◌≡◌, ℕ, List, Option, Some, codes, string_bytes}
use Rattle.serde_json.specs.Data.{Data}
use Rattle.serde_json.specs.Read.{read}
use Rattle.serde_json.specs.View.{view}
use Rattle.rme_line_io.specs.Cuts.{LineCut}
use Rattle.rme_line_io.specs.Readers.{bytes_left}
use Rattle.rme_line_io.specs.declared.cut.Cut.TheVariants.{Line}
use Rattle.rme_line_io.specs.declared.fault.EngineFault.{EngineFault}
use Rattle.rme_line_io.specs.declared.fault.EngineFault.TheVariants as engine
use Rattle.rme_ask_client.specs.Members.{number_member, text_member}
use Rattle.rme_ask_client.specs.declared.answer.ServerAnswer.{ServerAnswer}
use Rattle.rme_ask_client.specs.declared.answer.ServerAnswer.TheVariants.{Accepted, Refused}
use Rattle.rme_ask_client.specs.declared.client_error.ClientError.{ClientError}
use Rattle.rme_ask_client.specs.declared.client_error.ClientError.TheVariants.{NotReceived, NoMemory}
use Rattle.rme_ask_client.specs.declared.conversation.Conversation.{Conversation}

-- the error if an answer cannot be received
abbrev pub client_error_of : EngineFault → ClientError
client_error_of engine.NoMemory = NoMemory
client_error_of _ = NotReceived

abbrev pub sent_bytes : {R W : Type 0} → (W → Option (List ℕ)) → Conversation R W → Option (List ℕ)
sent_bytes contents talk = contents talk.writer

abbrev pub unread_answer_bytes : {R W : Type 0} → (R → Option (List ℕ)) → Conversation R W → Option (List ℕ)
unread_answer_bytes remaining talk = bytes_left remaining talk.lines

abbrev pub last_line : {R W : Type 0} → Conversation R W → List ℕ
last_line talk = talk.line.items

-- the first line of the bytes was received
abbrev pub LineReceived : {R W : Type 0} → (R → Option (List ℕ)) → Conversation R W → Conversation R W → Type 0
LineReceived remaining old new = LineCut (unread_answer_bytes remaining old) (unread_answer_bytes remaining new) Line (last_line new)

-- An answer by its data: accepted where it repeats the word of the request, else refused by a number and a name.
abbrev pub AnswerSays : List ℕ → Data → ServerAnswer → Type 0
AnswerSays word answer (Accepted value) = (view value ≡ answer) × (text_member (codes "ok") answer ≡ Some word)
AnswerSays word answer (Refused refused) =
    (number_member (codes "code") answer ≡ Some refused.code)
    × (text_member (codes "error") answer ≡ Some (string_bytes refused.name))

-- the answer of a line to a request with this word
abbrev pub AnswerReceived : List ℕ → List ℕ → ServerAnswer → Type 0
AnswerReceived word line answer = (said : Data) × (read line ≡ Some said) × AnswerSays word said answer
