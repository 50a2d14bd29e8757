-- How the counts of a stay evolve.
use Rattle.std.proofs.Common.{◌≡◌, ◌≢◌, ℕ, ◌+◌, ◌<◌, ◌≤◌, refl, sym, ◌∙◌, ap, subst, inl, inr, arith}
use Rattle.rme_words.specs.declared.shape.Shape.{Shape}
use Rattle.rme_program.specs.declared.kinds.Phase.{Phase}
use Rattle.rme_program.specs.declared.kinds.Phase.TheVariants.{Recover, Post, Enter, Section, Exit, Ready}
use Rattle.rme_program.specs.declared.note.Note.{Note}
use Rattle.rme_program.specs.declared.note.Note.TheVariants.{Quiet, Asked, Blocked, Entered, Reentered, Finished, Left, Withdrew}
use Rattle.rme_program.specs.declared.note.Note.TheVariants as note
use Rattle.rme_program.specs.declared.private.Private.{Private}
use Rattle.rme_program.specs.declared.stage.Stage.{Stage}
use Rattle.rme_program.specs.declared.stage.Stage.TheVariants.{Resting, Recovering, Posting, Climbing, Logging, Copying, Leaving}
use Rattle.rme_program.specs.declared.stage.Recovery.TheVariants.{LoadBegun, LoadDone, LoadLock, LoadPath}
use Rattle.rme_program.specs.declared.stage.Log.TheVariants.{LoadTurn, LoadLen, LoadSlate, LoadCells, StoreShadows, StoreShadowReply, StoreMask, StoreTurn}
use Rattle.rme_program.specs.declared.stage.Departure.TheVariants.{LoadExitTurn, StoreExitTurn, Clear, WithdrawPlace, WithdrawAt, WithdrawReply, WithdrawDone}
use Rattle.rme_program.specs.Conditions.{IsPrivate, IsStage, IsValidLoad}
use Rattle.rme_program.specs.Phases.{phase_of, steps_left}
use Rattle.rme_program.specs.Progress.{IsOnTrack, StepsTaken, phase_rank}
use Rattle.rme_program.specs.Steps.{private_after, note_after, outcome_at}
use Rattle.rme_program.proofs.Columns.{within_most}
use Rattle.rme_program.proofs.Falls.{Steps, steps_on}
use Rattle.rme_world.specs.declared.counts.Counts.{Counts}
use Rattle.rme_world.specs.Counting.{IsStayCount, CountsAfterStep, phase_count, with_phase_count, with_step_counted, with_stay_begun, max_phase_steps}
use Rattle.rme_program.specs.NoteLaws.{NoteMeaning}
use Rattle.rme_program.proofs.NoteLaws.{cases_phase, note_law, some_left}

-- ---- the counts of all phases

-- The count that was set for a phase.
pub count_here : (counts : Counts) (phase : Phase) (n : ℕ) → phase ≢ Ready → phase_count (with_phase_count counts phase n) phase ≡ n
count_here counts Recover n some = refl
count_here counts Post n some = refl
count_here counts Enter n some = refl
count_here counts Section n some = refl
count_here counts Exit n some = refl
count_here counts Ready n some = absurd (some refl)

pub begun_here : (counts : Counts) (phase : Phase) → phase_count (with_stay_begun counts phase) phase ≡ 0
begun_here counts Recover = refl
begun_here counts Post = refl
begun_here counts Enter = refl
begun_here counts Section = refl
begun_here counts Exit = refl
begun_here counts Ready = refl

-- The counts of other phases are unchanged.
pub count_there : (counts : Counts) (phase other : Phase) (n : ℕ) → other ≢ phase → phase_count (with_phase_count counts phase n) other ≡ phase_count counts other
count_there counts Recover Recover n apart = absurd (apart refl)
count_there counts Recover Post n apart = refl
count_there counts Recover Enter n apart = refl
count_there counts Recover Section n apart = refl
count_there counts Recover Exit n apart = refl
count_there counts Recover Ready n apart = refl
count_there counts Post Recover n apart = refl
count_there counts Post Post n apart = absurd (apart refl)
count_there counts Post Enter n apart = refl
count_there counts Post Section n apart = refl
count_there counts Post Exit n apart = refl
count_there counts Post Ready n apart = refl
count_there counts Enter Recover n apart = refl
count_there counts Enter Post n apart = refl
count_there counts Enter Enter n apart = absurd (apart refl)
count_there counts Enter Section n apart = refl
count_there counts Enter Exit n apart = refl
count_there counts Enter Ready n apart = refl
count_there counts Section Recover n apart = refl
count_there counts Section Post n apart = refl
count_there counts Section Enter n apart = refl
count_there counts Section Section n apart = absurd (apart refl)
count_there counts Section Exit n apart = refl
count_there counts Section Ready n apart = refl
count_there counts Exit Recover n apart = refl
count_there counts Exit Post n apart = refl
count_there counts Exit Enter n apart = refl
count_there counts Exit Section n apart = refl
count_there counts Exit Exit n apart = absurd (apart refl)
count_there counts Exit Ready n apart = refl
count_there counts Ready other n apart = refl

-- Counts within their limits stay so when one count is replaced by another within its limit.
pub within_limits : (counts : Counts) (limit : Phase → ℕ) (n : ℕ) (phase other : Phase) → n ≤ limit phase → ((p : Phase) → phase_count counts p ≤ limit p)
    → phase_count (with_phase_count counts phase n) other ≤ limit other
within_limits counts limit n Recover Recover less all = less
within_limits counts limit n Recover Post less all = all Post
within_limits counts limit n Recover Enter less all = all Enter
within_limits counts limit n Recover Section less all = all Section
within_limits counts limit n Recover Exit less all = all Exit
within_limits counts limit n Recover Ready less all = all Ready
within_limits counts limit n Post Recover less all = all Recover
within_limits counts limit n Post Post less all = less
within_limits counts limit n Post Enter less all = all Enter
within_limits counts limit n Post Section less all = all Section
within_limits counts limit n Post Exit less all = all Exit
within_limits counts limit n Post Ready less all = all Ready
within_limits counts limit n Enter Recover less all = all Recover
within_limits counts limit n Enter Post less all = all Post
within_limits counts limit n Enter Enter less all = less
within_limits counts limit n Enter Section less all = all Section
within_limits counts limit n Enter Exit less all = all Exit
within_limits counts limit n Enter Ready less all = all Ready
within_limits counts limit n Section Recover less all = all Recover
within_limits counts limit n Section Post less all = all Post
within_limits counts limit n Section Enter less all = all Enter
within_limits counts limit n Section Section less all = less
within_limits counts limit n Section Exit less all = all Exit
within_limits counts limit n Section Ready less all = all Ready
within_limits counts limit n Exit Recover less all = all Recover
within_limits counts limit n Exit Post less all = all Post
within_limits counts limit n Exit Enter less all = all Enter
within_limits counts limit n Exit Section less all = all Section
within_limits counts limit n Exit Exit less all = less
within_limits counts limit n Exit Ready less all = all Ready
within_limits counts limit n Ready other less all = all other

-- ---- the steps left of a stay

-- A new stay has at most the steps of its phase.
first_left : (shape : Shape) (b : ℕ) (stage : Stage) → IsStage shape b stage → StepsTaken shape stage stage 0 → steps_left shape stage ≤ max_phase_steps shape (phase_of stage)
first_left shape b Resting is taken = omega arith
first_left shape b (Recovering LoadBegun) is taken = omega arith
first_left shape b (Recovering LoadDone) is taken = absurd taken.0
first_left shape b (Recovering (LoadLock pending)) is taken = absurd taken.0
first_left shape b (Recovering (LoadPath pending lock held)) is taken = absurd taken.0
first_left shape b (Posting slate) is taken = omega (arith, is.1.script)
first_left shape b (Climbing ascent) is taken = omega arith
first_left shape b (Logging (LoadTurn lock)) is taken = omega arith
first_left shape b (Logging (LoadLen lock turn)) is taken = absurd taken.0
first_left shape b (Logging (LoadSlate lock turn operations words loaded)) is taken = absurd taken.0
first_left shape b (Logging (LoadCells lock turn script named row cell)) is taken = absurd taken.0
first_left shape b (Logging (StoreShadows visit named row reply cell)) is taken = absurd taken.0
first_left shape b (Logging (StoreShadowReply visit named reply)) is taken = absurd taken.0
first_left shape b (Logging (StoreMask visit named)) is taken = absurd taken.0
first_left shape b (Logging (StoreTurn visit)) is taken = absurd taken.0
first_left shape b (Copying redo) is taken = absurd taken
first_left shape b (Leaving (LoadExitTurn lock)) is taken = omega arith
first_left shape b (Leaving (StoreExitTurn lock turn)) is taken = absurd taken
first_left shape b (Leaving (Clear lock level)) is taken = omega (arith, is.2)
first_left shape b (Leaving (WithdrawPlace lock held)) is taken = omega (arith, is.1)
first_left shape b (Leaving (WithdrawAt lock held)) is taken = absurd taken
first_left shape b (Leaving (WithdrawReply lock held)) is taken = absurd taken
first_left shape b (Leaving (WithdrawDone lock held)) is taken = absurd taken

-- A stay begins.
pub stay_begins : (shape : Shape) (private : Private) → IsPrivate shape private → IsOnTrack private.stage → StepsTaken shape private.stage private.stage 0 → IsStayCount shape private.stage 0
stay_begins shape private is on taken = record {
  first = private.stage;
  taken = taken;
  within = within_most shape private is on private.stage 0 taken;
  short = omega (arith, first_left shape private.begun private.stage is.stage taken);
}

pub busy_phase : (stage : Stage) → stage ≢ Resting → phase_of stage ≢ Ready
busy_phase Resting busy e = busy refl
busy_phase (Recovering recovery) busy e = cc
busy_phase (Posting slate) busy e = cc
busy_phase (Climbing ascent) busy e = cc
busy_phase (Logging log) busy e = cc
busy_phase (Copying redo) busy e = cc
busy_phase (Leaving departure) busy e = cc

-- The counts after a step of a worker: its stay continues or the next one begins, and every count stays within the
-- limit of its phase.
pub record GoOn (shape : Shape) (stage : Stage) (counts : Counts) : Type 0 where
  pub stays : IsStayCount shape stage (phase_count counts (phase_of stage))
  pub short : (phase : Phase) → phase_count counts phase ≤ max_phase_steps shape phase

module _ (shape : Shape) (private : Private) (value : ℕ) (old new : Counts) (is : IsPrivate shape private) (on : IsOnTrack private.stage) (busy : private.stage ≢ Resting)
    (takes : IsValidLoad shape private.stage value) (next : IsPrivate shape (private_after shape private value))
    (stay : IsStayCount shape private.stage (phase_count old (phase_of private.stage))) (short : (phase : Phase) → phase_count old phase ≤ max_phase_steps shape phase) where
  steps : Steps shape private.stage (outcome_at shape private.worker private.begun private.stage value)
  steps = steps_on shape private.worker private.begun private.stage value busy is.stage takes on

  -- The count with this step is within the limit of its phase.
  more : phase_count old (phase_of private.stage) + 1 ≤ max_phase_steps shape (phase_of private.stage)
  more = omega (arith, stay.short, some_left shape private.begun private.stage busy is.stage)

  on_short : (phase : Phase) → phase_count (with_step_counted old (phase_of private.stage)) phase ≤ max_phase_steps shape phase
  on_short phase = within_limits old (max_phase_steps shape) (phase_count old (phase_of private.stage) + 1) (phase_of private.stage) phase more short

  same_phase : note_after shape private value ≢ Blocked → phase_of (private_after shape private value).stage ≡ phase_of private.stage
      → new ≡ with_step_counted old (phase_of private.stage) → GoOn shape (private_after shape private value).stage new
  same_phase open_way same e =
      let P : Counts → Type 0 = λ (c : Counts). GoOn shape (private_after shape private value).stage c in
      subst P (sym e) record { stays = on_stay; short = on_short }
    where
      here : phase_count (with_step_counted old (phase_of private.stage)) (phase_of (private_after shape private value).stage) ≡ phase_count old (phase_of private.stage) + 1
      here = ap (phase_count (with_step_counted old (phase_of private.stage))) same ∙ count_here old (phase_of private.stage) _ (busy_phase private.stage busy)

      taken : StepsTaken shape stay.first (private_after shape private value).stage (phase_count old (phase_of private.stage) + 1)
      taken = steps.counts.more stay.first (phase_count old (phase_of private.stage)) stay.taken same open_way

      less : steps_left shape (private_after shape private value).stage < steps_left shape private.stage
      less = elim (steps.falls open_way) [
        | inl falls ↦ falls.1
        | inr later ↦ (let none : phase_rank (phase_of (private_after shape private value).stage) ≡ phase_rank (phase_of private.stage) = ap phase_rank same in absurd (omega (arith, later, none)))
      ]

      on_stay : IsStayCount shape (private_after shape private value).stage (phase_count (with_step_counted old (phase_of private.stage)) (phase_of (private_after shape private value).stage))
      on_stay = let S : ℕ → Type 0 = λ (n : ℕ). IsStayCount shape (private_after shape private value).stage n in
          subst S (sym here) record {
            first = stay.first;
            taken = taken;
            within = within_most shape (private_after shape private value) next steps.track stay.first _ taken;
            short = (let limit : max_phase_steps shape (phase_of (private_after shape private value).stage) ≡ max_phase_steps shape (phase_of private.stage) = ap (max_phase_steps shape) same in
                omega (arith, stay.short, less, limit));
          }

  next_phase : phase_of (private_after shape private value).stage ≢ phase_of private.stage
      → new ≡ with_stay_begun (with_step_counted old (phase_of private.stage)) (phase_of (private_after shape private value).stage) → GoOn shape (private_after shape private value).stage new
  next_phase apart e =
      let P : Counts → Type 0 = λ (c : Counts). GoOn shape (private_after shape private value).stage c in
      let S : ℕ → Type 0 = λ (n : ℕ). IsStayCount shape (private_after shape private value).stage n in
      subst P (sym e) record {
        stays = subst S (sym (begun_here (with_step_counted old (phase_of private.stage)) (phase_of (private_after shape private value).stage)))
            (stay_begins shape (private_after shape private value) next steps.track (steps.counts.begins apart));
        short = λ phase. within_limits (with_step_counted old (phase_of private.stage)) (max_phase_steps shape) 0 _ phase (omega arith) on_short;
      }

  blocked : note_after shape private value ≡ Blocked → new ≡ old → GoOn shape (private_after shape private value).stage new
  blocked stuck e =
      let T : Note → Type 0 = λ (n : Note). NoteMeaning shape private value (private_after shape private value).stage n in
      let tells : NoteMeaning shape private value (private_after shape private value).stage Blocked = subst T stuck (note_law shape private.worker private.begun private.stage value) in
      let same : (private_after shape private value).stage ≡ private.stage = tells.3 in
      let P : Counts → Type 0 = λ (c : Counts). GoOn shape (private_after shape private value).stage c in
      let Q : Stage → Type 0 = λ (s : Stage). GoOn shape s old in
      subst P (sym e) (subst Q (sym same) record { stays = stay; short = short })

  pub go_on : CountsAfterStep old (phase_of private.stage) (phase_of (private_after shape private value).stage) (note_after shape private value) new
      → GoOn shape (private_after shape private value).stage new
  go_on after = by_note (note_after shape private value) refl
    where
      open_case : note_after shape private value ≢ Blocked → GoOn shape (private_after shape private value).stage new
      open_case open_way = elim (cases_phase (phase_of (private_after shape private value).stage) (phase_of private.stage)) [
        | inl same ↦ same_phase open_way same (after.goes_on open_way same)
        | inr apart ↦ next_phase apart (after.ends open_way apart)
      ]

      by_note : (note : Note) → note_after shape private value ≡ note → GoOn shape (private_after shape private value).stage new
      by_note Blocked e = blocked e (after.blocked e)
      by_note Quiet e = open_case (λ (b : note_after shape private value ≡ Blocked). (let f : Quiet ≡ Blocked = sym e ∙ b in cc))
      by_note (Asked k) e = open_case (λ (b : note_after shape private value ≡ Blocked). (let f : Asked k ≡ Blocked = sym e ∙ b in cc))
      by_note (Entered lock) e = open_case (λ (b : note_after shape private value ≡ Blocked). (let f : Entered lock ≡ Blocked = sym e ∙ b in cc))
      by_note (Reentered lock) e = open_case (λ (b : note_after shape private value ≡ Blocked). (let f : Reentered lock ≡ Blocked = sym e ∙ b in cc))
      by_note (Finished receipt) e = open_case (λ (b : note_after shape private value ≡ Blocked). (let f : Finished receipt ≡ Blocked = sym e ∙ b in cc))
      by_note (Left lock) e = open_case (λ (b : note_after shape private value ≡ Blocked). (let f : Left lock ≡ Blocked = sym e ∙ b in cc))
      by_note note.Ready e = open_case (λ (b : note_after shape private value ≡ Blocked). (let f : note.Ready ≡ Blocked = sym e ∙ b in cc))
      by_note (Withdrew k) e = open_case (λ (b : note_after shape private value ≡ Blocked). (let f : Withdrew k ≡ Blocked = sym e ∙ b in cc))
