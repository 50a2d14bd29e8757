-- The effect of each command on a world and its tally, and its answer: calls of the world, in order.
use Rattle.std.specs.Prelude.{◌≡◌, ℕ, List, Bool, Option, Some, None, Result}
use Rattle.rme_words.specs.declared.refusal.Refusal.{Refusal}
use Rattle.rme_words.specs.declared.refusal.Refusal.TheVariants.{NoMemory}
use Rattle.rme_program.specs.declared.note.Note.{Note}
use Rattle.rme_program.specs.declared.note.Receipt.{Receipt}
use Rattle.rme_line_text.specs.declared.answer.Acknowledgement.TheVariants as word
use Rattle.rme_line_text.specs.declared.reply.Reply.{Reply}
use Rattle.rme_line_text.specs.declared.reply.Reply.TheVariants as reply
use Rattle.rme_line_text.specs.declared.walked.Walked.{Walked}
use Rattle.rme_wire.specs.declared.command.Command.{Command}
use Rattle.rme_wire.specs.declared.command.Command.TheVariants.{Submit, Step, Walk, Crash, Restart, Withdraw, Owner, Cells, Last, History, Report, Save}
use Rattle.rme_world.specs.Calls.{CrashContract, OwnerContract, RestartContract, CellsContract, LastContract, SubmitContract, WithdrawContract}
use Rattle.rme_world.specs.Images.{SaveContract}
use Rattle.rme_world.specs.WorldViews.{WorldView}
use Rattle.rme_line_engine.specs.declared.tallied.TalliedWorld.{TalliedWorld}
use Rattle.rme_line_engine.specs.EngineStates.{reply_of_call, report_of}
use Rattle.rme_line_engine.specs.Tallies.{TalliedStep}
use Rattle.rme_line_engine.specs.WorldWalks.{WalkEffect}

-- `save` is answered by the image of the world, or refused by `NoMemory`
abbrev pub SaveReply : WorldView → Reply → Type 0
SaveReply world (reply.Image bytes) = SaveContract world bytes
SaveReply world (reply.Refused refusal) = refusal ≡ NoMemory
SaveReply world other = ⊥

-- the image of the open world, if one is open
abbrev pub OpenWorldImage : Option TalliedWorld → Option (List ℕ) → Type 0
OpenWorldImage None None = Unit {0}
OpenWorldImage (Some tallied) (Some bytes) = SaveContract tallied.world bytes
OpenWorldImage world image = ⊥

-- only steps change the tally
abbrev pub CommandEffect : TalliedWorld → Command → Reply → TalliedWorld → Type 0
CommandEffect old (Submit worker job) says new =
    (result : Result ℕ Refusal) × SubmitContract old.world worker job result new.world
    × (says ≡ reply_of_call reply.Handed result) × (new.tally ≡ old.tally)
CommandEffect old (Step worker) says new =
    (result : Result Note Refusal) × TalliedStep old worker result new × (says ≡ reply_of_call reply.Stepped result)
CommandEffect old (Walk walk) says new =
    (result : Result Walked Refusal) × WalkEffect old walk result new × (says ≡ reply_of_call reply.Walked result)
CommandEffect old (Crash worker) says new =
    (result : Result (Unit {0}) Refusal) × CrashContract old.world worker result new.world
    × (says ≡ reply_of_call (λ _. reply.Done word.Crash) result) × (new.tally ≡ old.tally)
CommandEffect old (Restart worker) says new =
    (result : Result (Unit {0}) Refusal) × RestartContract old.world worker result new.world
    × (says ≡ reply_of_call (λ _. reply.Done word.Restart) result) × (new.tally ≡ old.tally)
CommandEffect old (Withdraw worker) says new =
    (result : Result (Unit {0}) Refusal) × WithdrawContract old.world worker result new.world
    × (says ≡ reply_of_call (λ _. reply.Done word.Withdraw) result) × (new.tally ≡ old.tally)
CommandEffect old (Owner lock) says new =
    (result : Result (Option ℕ) Refusal) × OwnerContract old.world lock result
    × (says ≡ reply_of_call reply.Owner result) × (new ≡ old)
CommandEffect old (Cells lock) says new =
    (result : Result (List ℕ × Bool) Refusal) × CellsContract old.world lock result
    × (says ≡ reply_of_call (λ shows. reply.Cells shows.0 shows.1) result) × (new ≡ old)
CommandEffect old (Last worker) says new =
    (result : Result (Option Receipt) Refusal) × LastContract old.world worker result
    × (says ≡ reply_of_call reply.Last result) × (new ≡ old)
CommandEffect old History says new = (says ≡ reply.History) × (new ≡ old)
CommandEffect old Report says new = (says ≡ reply.Report (report_of old.tally)) × (new ≡ old)
CommandEffect old Save says new = SaveReply old.world says × (new ≡ old)
