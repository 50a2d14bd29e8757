use Rattle.std.proofs.Common.{inl, inr}
use Rattle.rme_process_core.proofs.Damage.{accepted_undamaged}
use Rattle.rme_process_abi.proofs.tests.give.Goals as goal

pub returns-clause-exact : goal.returns-clause-exact
returns-clause-exact c = λ answers.
    let took = c.rme_core_after.ensures.took in
    ((λ zero. (took.taken zero).all), (λ all. elim took.answers [ inl zero ↦ zero | inr (inl damaged) ↦ absurd (accepted_undamaged _ _ _ _ _ all (took.damaged damaged)) | inr (inr none) ↦ absurd ((took.unanswered none).0 answers) ]))
