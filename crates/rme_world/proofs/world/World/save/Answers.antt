use Rattle.std.proofs.Common.{◌≡◌, sym, ◌∙◌, ap}
use Rattle.rme_world.specs.WorldViews.{WorldView}
use Rattle.rme_world.proofs.Saving.{history_few, history_within, if_ok, saves}
use Rattle.rme_world.proofs.world.World.save.Goals as goal

pub encode-requires-clause-few : goal.encode-requires-clause-few
encode-requires-clause-few c = history_few _ c.self.invariant

pub encode-requires-clause-within : goal.encode-requires-clause-within
encode-requires-clause-within c = history_within _ c.self.invariant

pub returns : goal.returns
returns c =
    let shape : c.shape.result ≡ c.self.inside.bank.shape = c.shape.ensures ∙ sym (ap (λ (seen : WorldView). seen.shape) c.self.view_is) in
    if_ok c.encode.result
    (λ bytes spells. rw (← c.self.view_is) (saves _ _ c.self.invariant (rw (shape, c.words.ensures.words) at spells)))
    (c.encode.ensures.spelled (rw shape c.words.ensures.whole))
