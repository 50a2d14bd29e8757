use Rattle.std.proofs.Common.{◌≡◌, ◌∙◌, true, false, inr, refl, subst, sym}
use Rattle.std.proofs.lemmas.Result.{on_ok_weaker}
use Rattle.std.specs.Prelude.{OnOk, string_bytes}
use Rattle.rme_line_io.specs.Cuts.{input_line_of}
use Rattle.rme_session_keys.specs.KeyedAnswers.{AllowsLine, AnswersByAccess, keyed_terms}
use Rattle.rme_session_keys.specs.declared.keyed_backend.Access.{Access}
use Rattle.rme_session_keys.specs.declared.keyed_backend.Access.TheVariants.{Granted}
use Rattle.rme_session_keys.proofs.keyed_backend.KeyedBackendBackend.answer.Goals as goal

pub returns-in-Ok-false-clause-answers : goal.returns-in-Ok-false-clause-answers
returns-in-Ok-false-clause-answers g c =
    let terms = keyed_terms (g.S.KeySource.had c.args.self.now.keys.now) c.args.self.now.names.now c.args.self.now.workers c.args.self.now.has_spaces in
    let answers = g.B.Backend.answers c.args.self.now.backend.now (g.C.Client.gone c.args.client.now) in
    let line = input_line_of c.args.buffers.now.cut c.args.buffers.now.exchange.line.items in
    let refused = c.refuse-answered-in-Ok-false in
    let P : Access → Type 0 =
    λ access. OnOk refused.result (AnswersByAccess terms answers c.args.session line (string_bytes refused.new.buffers.text) record { access = Granted c.in-Granted.key; stand = c.args.session.stand } access) in
    let A : Type 0 = AllowsLine terms c.in-Granted.key line in
    let never : A → ⊥ =
    λ allowed. let is : c.in-Ok-false.field-0 ≡ true = c.in-Ok-false.ensures.1 allowed in let bad : true ≡ false = sym is ∙ c.in-Ok-false.field-0-test in cc in
    let made = c.new-in-Ok-false.ensures in
    subst (λ session. OnOk refused.result (AnswersByAccess terms answers c.args.session line (string_bytes refused.new.buffers.text) session c.args.session.access)) (sym made)
    (subst P (sym c.in-Granted.is) (on_ok_weaker refused.result (λ says. (refl, inr (never, says, refl))) refused.ensures.says))
