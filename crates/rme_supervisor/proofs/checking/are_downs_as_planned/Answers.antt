use Rattle.rme_supervisor.proofs.checking.are_downs_as_planned.Goals as goal

pub returns : goal.returns
returns c = (
  λ yes. record { all = c.are_all_downs.ensures.0 c.if-not-are_all_downs.false; follow = c.are_entries_as_planned.ensures.0 yes },
  λ whole. c.are_entries_as_planned.ensures.1 whole.follow,
)
