-- The answers of the running service to some lines.
use Rattle.std.proofs.Common.{◌≡◌, ℕ, List, inl, inr, refl, sym, ap, subst, ◌∙◌}
use Rattle.std.specs.Prelude.{◌⊎◌, ◌↔◌, true, Option, Result, Ok, Err}
use Rattle.std.proofs.lemmas.Option.{none-some}
use Rattle.rme_words.specs.declared.refusal.Refusal.{Refusal}
use Rattle.rme_words.specs.declared.refusal.Refusal.TheVariants.{BadLine, Busy, Taken}
use Rattle.rme_line_io.specs.Pieces.{InputLine}
use Rattle.rme_service_steps.specs.SeatViews.{ServiceId}
use Rattle.rme_session_protocol.specs.SessionLines.{choice_reply_line, session_reply_line}
use Rattle.rme_session_protocol.specs.WorkerChoices.{choice_of_line, is_chosen}
use Rattle.rme_session_protocol.specs.declared.order.Order.{Order}
use Rattle.rme_session_protocol.specs.declared.order.Order.TheVariants.{Ping}
use Rattle.rme_session_protocol.specs.declared.reply.SessionReply.{SessionReply}
use Rattle.rme_session_protocol.specs.declared.reply.SessionReply.TheVariants.{Attached, Pong, Refused}
use Rattle.rme_session_protocol.specs.declared.reply.SessionStance.{SessionStance}
use Rattle.rme_session_protocol.specs.declared.reply.SessionStance.TheVariants as at
use Rattle.rme_session_protocol.specs.declared.worker_choice.ChoiceRequest.{ChoiceRequest}
use Rattle.rme_session_protocol.specs.declared.worker_choice.WorkerChoice.{WorkerChoice}
use Rattle.rme_session_protocol.specs.declared.worker_choice.WorkerChoice.TheVariants as choice
use Rattle.rme_session_threads.specs.ThreadSteps.{ThreadSessionStep}
use Rattle.rme_session_threads.specs.declared.stand.Holding.TheVariants.{Empty}
use Rattle.rme_session_threads.specs.declared.stand.Stand.{Stand}
use Rattle.rme_server.specs.ServiceAttempts.{SessionStepUntilGone}
use Rattle.rme_server.specs.ServiceChoices.{AnswerByOrder, ChoiceOutcome, IsChosenReply, NonOrderAnswer, ServiceLineAnswer, chosen_worker_line, has_pending_job}
use Rattle.rme_test_server.specs.Answers.{AnswersLine, TellsWorker}

-- A ping has one answer.
ponged : (ident : ServiceId) (count : ℕ) (old now : Stand) (told : SessionReply)
    → ThreadSessionStep ident count old Ping now told → (told ≡ Pong) × (now ≡ old)
ponged ident count old now (Refused why) step = elim step.acts.obeys.1 [ inl refused ↦ absurd (none-some _ (sym refused)) | inr taken ↦ absurd taken ]
ponged ident count old now Pong step = (refl, step.acts.adds.0)
ponged ident count old now told step = absurd step.acts.obeys.1

ponged_until_gone : (gone : Type 0) (ident : ServiceId) (count : ℕ) (old now : Stand) (told : SessionReply)
    → SessionStepUntilGone gone (ThreadSessionStep ident count) old Ping now told → (told ≡ Pong) × (now ≡ old)
ponged_until_gone gone ident count old now told (inl step) = ponged ident count old now told step
ponged_until_gone gone ident count old now told (inr fewer) = ponged ident count old now told fewer.2.2

-- A worker that was chosen is ready exactly if a ready one was asked for.
fits : (asked : WorkerChoice) (stance : SessionStance) → is_chosen asked (has_pending_job stance) ≡ true
    → (stance ≡ at.Ready) ↔ (asked ≡ choice.Ready)
fits choice.Pending at.Ready chosen = cc
fits choice.Pending at.Climb chosen = ((λ ready. cc), (λ ready. cc))
fits choice.Pending at.Held chosen = ((λ ready. cc), (λ ready. cc))
fits choice.Ready at.Ready chosen = ((λ ready. refl), (λ ready. refl))
fits choice.Ready at.Climb chosen = cc
fits choice.Ready at.Held chosen = cc

told_worker : (names : List (List ℕ)) (asked : WorkerChoice) (bytes : List ℕ) (worker : ℕ) (told : SessionReply)
    → IsChosenReply asked told → bytes ≡ choice_reply_line names worker told → TellsWorker names asked bytes
told_worker names asked bytes worker (Attached number stance) chosen says =
    record { worker = worker; number = number; stance = stance; fits = fits asked stance chosen; says = says }
told_worker names asked bytes worker told chosen says = absurd chosen

chosen_or_taken : (ident : ServiceId) (count : ℕ) (names : List (List ℕ)) (old now : Stand) (asked : WorkerChoice)
    (bytes : List ℕ) (found : Result _ Refusal)
    → ChoiceOutcome ident count old asked found now
    → bytes ≡ chosen_worker_line names found → old.value ≡ Empty → TellsWorker names asked bytes ⊎ (bytes ≡ session_reply_line names (Refused Taken))
chosen_or_taken ident count names old now asked bytes (Ok found) outcome says empty = inl (told_worker names asked bytes found.worker found.reply outcome.1.chosen says)
chosen_or_taken ident count names old now asked bytes (Err Busy) outcome says empty = absurd (outcome.0 empty)
chosen_or_taken ident count names old now asked bytes (Err Taken) outcome says empty = inr says
chosen_or_taken ident count names old now asked bytes (Err why) outcome says empty = absurd outcome

pub answers_line : (gone : Type 0) (ident : ServiceId) (count : ℕ) (names : List (List ℕ)) (old : Stand)
    (line : InputLine) (bytes : List ℕ) (now : Stand)
    → ServiceLineAnswer gone ident count names old line bytes now → AnswersLine names old line bytes now
answers_line gone ident count names old line bytes now answers = record {
  ping = λ is.
      let A : Result Order Refusal → Type 0 = λ parsed. AnswerByOrder gone ident count names parsed (choice_of_line line) old bytes now in
      let answered = subst A is answers in
      let told = ponged_until_gone gone ident count old now answered.0 answered.1 in
      (answered.2 ∙ ap (λ (reply : SessionReply). session_reply_line names reply) told.0, told.1);
  any = λ is asked chosen empty.
      let A : Result Order Refusal → Type 0 = λ parsed. AnswerByOrder gone ident count names parsed (choice_of_line line) old bytes now in
      let C : Option ChoiceRequest → Type 0 = λ asks. NonOrderAnswer ident count names old BadLine asks bytes now in
      let found = subst C chosen (subst A is answers) in
      chosen_or_taken ident count names old now asked.choice bytes found.0 found.1 found.2 empty;
}
