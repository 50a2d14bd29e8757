use Rattle.std.proofs.Common.{◌≡◌, ℕ, ◌<◌, ◌%◌, length, get_or, refl, subst, rules}
use Rattle.std.proofs.Math.Nat.{mod-lt}
use Rattle.std.proofs.lemmas.Option.{slice_get_read}
use Rattle.rme_supervisor.proofs.Rounds.{never, past, at_place}
use Rattle.rme_supervisor.proofs.plan.WorkerPlan.job.Goals as goal
use Rattle.rme_supervisor.proofs.plan.WorkerPlan.job.Goals.{then-count-eq0-via-then-count-eq0, then-count-eq0-via-else-count-eq0+then-place-count}

pub returns-then-count-eq0-clause-none : goal.returns-then-count-eq0-clause-none
returns-then-count-eq0-clause-none c = λ _. elim c.then-count-eq0.branch [
  | then-count-eq0-via-then-count-eq0 w ↦ never c.args.rounds c.args.place c.args.self.now.jobs.items (search rules)
  | then-count-eq0-via-else-count-eq0+then-place-count w ↦ past c.args.rounds c.args.place c.args.self.now.jobs.items (search rules)
]

pub returns-clause-some : goal.returns-clause-some
returns-clause-some c =
    let jobs = c.args.self.now.jobs.items in
    let count : c.len-count.result ≡ length jobs = search rules in
    let job = c.index.result.now in
    let read : job ≡ get_or jobs (c.args.place % length jobs) job = subst (λ (n : ℕ). job ≡ get_or jobs (c.args.place % n) job) count c.index.ensures in
    let some : 0 < length jobs = search rules in
    at_place c.args.rounds c.args.place jobs job (search rules) (slice_get_read jobs (length jobs) (c.args.place % length jobs) job refl (mod-lt c.args.place some) read)
