-- A builder that got observations in turn has what they add.
use Rattle.std.proofs.Common.{◌≡◌, ℕ, List, [], ◌∷◌, Option, Result, Ok, Err, IfOk, ap, subst, ◌∙◌}
use Rattle.rme_line_io.specs.declared.fault.EngineFault.{EngineFault}
use Rattle.rme_line_check.specs.declared.check.Verdict.{Verdict}
use Rattle.rme_line_check.specs.Verdicts.{InputVerdict}
use Rattle.rme_line_check.specs.Observations.{CheckObservation}
use Rattle.rme_line_check.specs.Observing.{ObserverSees, ObserverSeesInput}
use Rattle.rme_draw_picture.specs.Pictures.{Picture}
use Rattle.rme_draw_history.specs.declared.picture_builder.PictureBuilder.{PictureBuilder}
use Rattle.rme_draw_history.specs.declared.drawn_lines.DrawAnswer.{DrawAnswer}
use Rattle.rme_draw_history.specs.declared.drawn_lines.DrawRequest.{DrawRequest}
use Rattle.rme_draw_history.specs.PictureBuilding.{AnswerGiven, DrawAnswered, PictureState, picture_state_after, picture_state_after_all, picture_state_of, picture_state_of_run, empty_picture_state}

abbrev pub sees : PictureBuilder → CheckObservation → PictureBuilder → Type 0
sees old observation new = picture_state_of new ≡ picture_state_after observation (picture_state_of old)

pub taken : (old new : PictureBuilder) (observations : List CheckObservation) → ObserverSees sees old observations new → picture_state_of new ≡ picture_state_after_all (picture_state_of old) observations
taken old new [] same = ap picture_state_of same
taken old new (observation ∷ observations) (mid, seen, more) = taken mid new observations more ∙ ap (λ (f : PictureState). picture_state_after_all f observations) seen

-- so its answer is that of the observations of a transcript
pub answered : (paints : Picture → List ℕ → Type 0) (request : DrawRequest) (input before after : Option (List ℕ)) (first last : PictureBuilder) (verdict : Verdict) (answer : DrawAnswer) → picture_state_of first ≡ empty_picture_state request
    → ObserverSeesInput sees input first last → InputVerdict input verdict → AnswerGiven paints verdict (picture_state_of last) before after answer → DrawAnswered paints request input before after answer
answered paints request input before after first last verdict answer none (lines, observations, are, shows, takes) found given =
    let same : picture_state_of last ≡ picture_state_of_run request observations = taken first last observations takes ∙ ap (λ (f : PictureState). picture_state_after_all f observations) none in
    let P : PictureState → Type 0 = λ f. AnswerGiven paints verdict f before after answer in
    record { verdict = verdict; found = found; lines = lines; observations = observations; are_lines = are; are_observations = shows; given = subst P same given }

pub answered_by : (paints : Picture → List ℕ → Type 0) (request : DrawRequest) (input before after : Option (List ℕ)) (first last : PictureBuilder) (verdict : Verdict) (result : Result DrawAnswer EngineFault)
    → picture_state_of first ≡ empty_picture_state request → ObserverSeesInput sees input first last → InputVerdict input verdict → IfOk result (AnswerGiven paints verdict (picture_state_of last) before after)
    → IfOk result (DrawAnswered paints request input before after)
answered_by paints request input before after first last verdict (Ok answer) none watches found given = answered paints request input before after first last verdict answer none watches found given
answered_by paints request input before after first last verdict (Err fault) none watches found given = tt
