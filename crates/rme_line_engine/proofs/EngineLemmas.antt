-- An engine executes the request of a line.
use Rattle.std.proofs.Common.{◌≡◌, ℕ, List, true, false, Option, Some, None, is_some, Ok, Err, refl, sym, ap, subst, ◌∙◌}
use Rattle.rme_words.specs.declared.refusal.Refusal.{Refusal}
use Rattle.rme_words.specs.declared.refusal.Refusal.TheVariants.{AlreadyOpen, NotOpen}
use Rattle.rme_words.specs.declared.shape.Shape.{Shape}
use Rattle.rme_line_text.specs.declared.answer.Acknowledgement.TheVariants as word
use Rattle.rme_line_text.specs.declared.reply.Reply.{Reply}
use Rattle.rme_line_text.specs.declared.reply.Reply.TheVariants.{Done, Refused}
use Rattle.rme_wire.specs.declared.command.Command.{Command}
use Rattle.rme_wire.specs.declared.opening.Opening.{Opening}
use Rattle.rme_line_engine.specs.declared.tallied.TalliedWorld.{TalliedWorld}
use Rattle.rme_line_engine.specs.EngineStates.{EngineState}
use Rattle.rme_line_engine.specs.Tallies.{tallied_opening}
use Rattle.rme_line_engine.specs.CommandEffects.{CommandEffect}
use Rattle.rme_line_engine.specs.Lines.{CommandEffectIn, OpenEffect}
use Rattle.rme_wire.specs.Openings.{ShapeIsAsGiven, IsGoodOpening, MayRefuseOpening}

-- no world is open
pub not_open : (world : Option TalliedWorld) (old : EngineState) (command : Command) → world ≡ None → CommandEffectIn world old command (Refused NotOpen) old
not_open None old command e = (refl, refl)
not_open (Some world) old command e = absurd (let bad : Some world ≡ None = e in cc)

-- a command to the open world
pub commanded : (world : Option TalliedWorld) (old new : EngineState) (given : Command) (found later : TalliedWorld) (reply : Reply) → world ≡ Some found → CommandEffect found given reply later
    → new ≡ record { names = old.names; world = Some later } → CommandEffectIn world old given reply new
commanded world old new given found later reply e does f =
    let P : Option TalliedWorld → Type 0 = λ w. CommandEffectIn w old given reply new in subst P (sym e) (later, does, f)

pub already_open : (world : Option TalliedWorld) (old : EngineState) (given : Opening) → is_some world ≡ true → OpenEffect world old given (Refused AlreadyOpen) old
already_open None old given e = absurd (let bad : false ≡ true = e in cc)
already_open (Some world) old given e = (refl, refl)

pub may_not_open : (world : Option TalliedWorld) (old : EngineState) (given : Opening) (refusal : Refusal) → is_some world ≡ false → MayRefuseOpening given refusal → OpenEffect world old given (Refused refusal) old
may_not_open None old given refusal e may = (Err refusal, (may, refl, refl))
may_not_open (Some world) old given refusal e may = absurd (let bad : true ≡ false = e in cc)

pub opens_world : (world : Option TalliedWorld) (old new : EngineState) (given : Opening) (shape : Shape) (names : List (List ℕ)) (opened : TalliedWorld) → is_some world ≡ false → IsGoodOpening given
    → ShapeIsAsGiven given shape → names ≡ given.locks → opened ≡ tallied_opening shape → new ≡ record { names = names; world = Some opened }
    → OpenEffect world old given (Done word.Open) new
opens_world None old new given shape names opened e good as_given f g h =
    let now : new ≡ record { names = given.locks; world = Some (tallied_opening shape) } = h ∙ ap (λ (n : List (List ℕ)). record { names = n; world = Some opened }) f ∙ ap (λ (w : TalliedWorld). record { names = given.locks; world = Some w }) g in
    (Ok shape, (good, as_given, refl, now))
opens_world (Some world) old new given shape names opened e good as_given f g h = absurd (let bad : true ≡ false = e in cc)
