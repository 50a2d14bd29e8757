-- The answer to each line, and the state that it leaves.
use Rattle.std.specs.Prelude.{◌≡◌, ℕ, List, [], ◌∷◌, ◌++◌, length, Option, Some, None, true, Result, Ok, Err}
use Rattle.rme_words.specs.declared.refusal.Refusal.{Refusal}
use Rattle.rme_words.specs.declared.refusal.Refusal.TheVariants.{BadImage, BadLine, LineTooLong, NotOpen, AlreadyOpen, BadShape, NoMemory}
use Rattle.rme_words.specs.declared.shape.Shape.{Shape}
use Rattle.rme_line_text.specs.declared.answer.Acknowledgement.TheVariants as word
use Rattle.rme_line_text.specs.declared.reply.Reply.{Reply}
use Rattle.rme_line_text.specs.declared.reply.Reply.TheVariants.{Done, Refused}
use Rattle.rme_wire.specs.declared.command.Command.{Command}
use Rattle.rme_wire.specs.declared.request.Request.{Request}
use Rattle.rme_wire.specs.declared.loading.Loading.{Loading}
use Rattle.rme_wire.specs.declared.request.Request.TheVariants.{Load, Open, World}
use Rattle.rme_wire.specs.declared.opening.Opening.{Opening}
use Rattle.rme_wire.specs.Openings.{ShapeIsAsGiven, IsGoodOpening, MayRefuseOpening, are_lock_names}
use Rattle.rme_wire.specs.Requests.{request_of_line}
use Rattle.rme_line_io.specs.Pieces.{InputLine, text, too_long}
use Rattle.rme_world.specs.Images.{LoadContract}
use Rattle.rme_world.specs.WorldViews.{WorldView}
use Rattle.rme_line_engine.specs.declared.tallied.TalliedWorld.{TalliedWorld}
use Rattle.rme_line_engine.specs.EngineStates.{EngineState, text_of_reply}
use Rattle.rme_line_engine.specs.Tallies.{tallied_opening, untallied}
use Rattle.rme_line_engine.specs.CommandEffects.{CommandEffect}

-- a world is opened, or its opening is refused
abbrev pub OpenOutcome : EngineState → Opening → Result Shape Refusal → Reply → EngineState → Type 0
OpenOutcome old given (Ok shape) reply new =
    IsGoodOpening given × ShapeIsAsGiven given shape × (reply ≡ Done word.Open)
    × (new ≡ record { names = given.locks; world = Some (tallied_opening shape) })
OpenOutcome old given (Err refusal) reply new = MayRefuseOpening given refusal × (reply ≡ Refused refusal) × (new ≡ old)

-- `open` opens a world if none is open
abbrev pub OpenEffect : Option TalliedWorld → EngineState → Opening → Reply → EngineState → Type 0
OpenEffect (Some world) old given reply new = (reply ≡ Refused AlreadyOpen) × (new ≡ old)
OpenEffect None old given reply new = (result : Result Shape Refusal) × OpenOutcome old given result reply new

-- the result of reading an image: that of the world's call; a text that encodes no bytes is no image
abbrev pub ImageReadAs : Option (List ℕ) → Result WorldView Refusal → Type 0
ImageReadAs None result = result ≡ Err BadImage
ImageReadAs (Some bytes) result = LoadContract bytes result

-- names within the limits, as many as the world has locks
abbrev pub MayNameLocks : List (List ℕ) → WorldView → Type 0
MayNameLocks locks world = (are_lock_names locks ≡ true) × (length locks ≡ world.shape.locks)

-- the refusal of a loading: first for the image, then for the names; refused memory may come before either
abbrev pub MayRefuseLoad : Loading → Refusal → Type 0
MayRefuseLoad given BadImage = ImageReadAs given.image (Err BadImage)
MayRefuseLoad given BadShape =
    (world : WorldView) × ImageReadAs given.image (Ok world) × (MayNameLocks given.locks world → ⊥)
MayRefuseLoad given NoMemory = Unit {0}
MayRefuseLoad given other = ⊥

-- the loaded world, with an empty tally, and the names of its locks
pub record IsLoadedWorld (given : Loading) (names : List (List ℕ)) (tallied : TalliedWorld) : Type 0 where
  pub read : ImageReadAs given.image (Ok tallied.world)
  pub may_name : MayNameLocks given.locks tallied.world
  pub named : names ≡ given.locks
  pub fresh : tallied ≡ untallied tallied.world

-- a world is loaded in place of the open one, or its loading is refused
abbrev pub LoadOutcome : EngineState → Loading → Result TalliedWorld Refusal → Reply → EngineState → Type 0
LoadOutcome old given (Ok tallied) reply new =
    IsLoadedWorld given new.names tallied × (reply ≡ Done word.Load) × (new.world ≡ Some tallied)
LoadOutcome old given (Err refusal) reply new = MayRefuseLoad given refusal × (reply ≡ Refused refusal) × (new ≡ old)

abbrev pub LoadEffect : EngineState → Loading → Reply → EngineState → Type 0
LoadEffect old given reply new = (result : Result TalliedWorld Refusal) × LoadOutcome old given result reply new

-- a command needs a world that is open
abbrev pub CommandEffectIn : Option TalliedWorld → EngineState → Command → Reply → EngineState → Type 0
CommandEffectIn None old command reply new = (reply ≡ Refused NotOpen) × (new ≡ old)
CommandEffectIn (Some world) old command reply new =
    (after : TalliedWorld) × CommandEffect world command reply after
    × (new ≡ record { names = old.names; world = Some after })

abbrev pub RequestEffect : EngineState → Option Request → Reply → EngineState → Type 0
RequestEffect old None reply new = (reply ≡ Refused BadLine) × (new ≡ old)
RequestEffect old (Some (Open given)) reply new = OpenEffect old.world old given reply new
RequestEffect old (Some (Load given)) reply new = LoadEffect old given reply new
RequestEffect old (Some (World command)) reply new = CommandEffectIn old.world old command reply new

-- the reply to a line
abbrev pub LineReply : EngineState → InputLine → Reply → EngineState → Type 0
LineReply old too_long reply new = (reply ≡ Refused LineTooLong) × (new ≡ old)
LineReply old (text bytes) reply new = RequestEffect old (request_of_line old.names bytes) reply new

-- the answer to a line: the text of its reply, without the newline
abbrev pub LineAnswer : EngineState → InputLine → List ℕ → EngineState → Type 0
LineAnswer old line answer new = (reply : Reply) × LineReply old line reply new × (answer ≡ text_of_reply new reply)

-- an answer and its newline
abbrev pub with_newline : List ℕ → List ℕ
with_newline answer = answer ++ 10 ∷ []

-- the bytes of the answer to a line
abbrev pub LineAnswerBytes : EngineState → InputLine → List ℕ → EngineState → Type 0
LineAnswerBytes old line bytes new = (answer : List ℕ) × LineAnswer old line answer new × (bytes ≡ with_newline answer)
