-- The jobs of all rounds of a plan, by index.
use Rattle.std.proofs.Common.{◌≡◌, ℕ, zero, suc, ◌+◌, ◌*◌, ◌/◌, ◌%◌, ◌<◌, ◌≤◌, List, [], ◌∷◌, ◌++◌, length, ap, ◌∙◌, subst, zero-add, arith}
use Rattle.std.specs.Prelude.{slice_get, Some}
use Rattle.std.proofs.lemmas.List.{length-append}
use Rattle.std.proofs.lemmas.Nat.{div-add-mod'}
use Rattle.std.proofs.Math.Nat.{mul-le-mul_right, div-mul-le_self}
use Rattle.std.proofs.lemmas.Option.{none-some}
use Rattle.rme_script.specs.declared.job.Job.{Job}
use Rattle.rme_supervisor.specs.Plans.{jobs_repeated}

at_left : (xs ys : List Job) (k : ℕ) (x : Job) → slice_get xs k ≡ Some x → slice_get (xs ++ ys) k ≡ Some x
at_left [] ys k x h = absurd (none-some x h)
at_left (z ∷ zs) ys zero x h = h
at_left (z ∷ zs) ys (suc k) x h = at_left zs ys k x h

at_after : (xs ys : List Job) (k : ℕ) → slice_get (xs ++ ys) (length xs + k) ≡ slice_get ys k
at_after [] ys k = ap (slice_get ys) (zero-add k)
at_after (z ∷ zs) ys k =
    let e : length (z ∷ zs) + k ≡ suc (length zs + k) = omega arith in
    ap (slice_get (z ∷ (zs ++ ys))) e ∙ at_after zs ys k

-- In each round the jobs are in order.
at_round : (rounds round : ℕ) (jobs : List Job) (k : ℕ) (job : Job) → round < rounds → slice_get jobs k ≡ Some job → slice_get (jobs_repeated rounds jobs) (round * length jobs + k) ≡ Some job
unfolding jobs_repeated
at_round zero round jobs k job below at = absurd (omega (arith, below))
at_round (suc rounds) zero jobs k job below at =
    let e : zero * length jobs + k ≡ k = omega arith in
    ap (slice_get (jobs ++ jobs_repeated rounds jobs)) e ∙ at_left jobs (jobs_repeated rounds jobs) k job at
at_round (suc rounds) (suc round) jobs k job below at =
    let e : suc round * length jobs + k ≡ length jobs + (round * length jobs + k) = omega arith in
    ap (slice_get (jobs ++ jobs_repeated rounds jobs)) e ∙ at_after jobs (jobs_repeated rounds jobs) (round * length jobs + k) ∙ at_round rounds round jobs k job (omega (arith, below)) at

long : (rounds : ℕ) (jobs : List Job) → length (jobs_repeated rounds jobs) ≡ rounds * length jobs
unfolding jobs_repeated
long zero jobs = omega arith
long (suc rounds) jobs =
    let both = length-append jobs (jobs_repeated rounds jobs) in
    let rest = long rounds jobs in
    omega (arith, both, rest)

-- Without jobs no round has any.
pub never : (rounds place : ℕ) (jobs : List Job) → length jobs ≡ 0 → length (jobs_repeated rounds jobs) ≤ place
never rounds place jobs none =
    let all : length (jobs_repeated rounds jobs) ≡ rounds * 0 = long rounds jobs ∙ ap (λ (n : ℕ). rounds * n) none in
    omega (arith, all)

module _ (rounds place : ℕ) (jobs : List Job) where
  parts : place / length jobs * length jobs + place % length jobs ≡ place
  parts = div-add-mod' place (length jobs)

  -- The job at an index is that at the remainder, if the round is one of the plan's.
  pub at_place : (job : Job) → place / length jobs < rounds → slice_get jobs (place % length jobs) ≡ Some job → slice_get (jobs_repeated rounds jobs) place ≡ Some job
  at_place job below at = subst (λ (k : ℕ). slice_get (jobs_repeated rounds jobs) k ≡ Some job) parts (at_round rounds (place / length jobs) jobs (place % length jobs) job below at)

  -- After the last round there is none.
  pub past : rounds ≤ place / length jobs → length (jobs_repeated rounds jobs) ≤ place
  past over =
      let all : length (jobs_repeated rounds jobs) ≡ rounds * length jobs = long rounds jobs in
      let least : rounds * length jobs ≤ place / length jobs * length jobs = mul-le-mul_right (length jobs) over in
      let below : place / length jobs * length jobs ≤ place = div-mul-le_self place (length jobs) in
      omega (arith, all, least, below)
