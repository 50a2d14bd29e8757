-- The meaning of each test of a stance, of a job and of a receipt.
use Rattle.std.proofs.Common.{◌≡◌, ℕ, Bool, true, ◌&&◌, ◌==◌, nat_lt, Some, None, Option, List, length, refl, ap, inl, inr}
use Rattle.std.specs.List.{list_all}
use Rattle.std.proofs.lemmas.Bool.{cases_Bool, and_parts, eq-eqb, eqb-true, ltb-true, lt-ltb, ltb-false}
use Rattle.rme_words.specs.declared.shape.Shape.{Shape}
use Rattle.rme_script.specs.declared.job.Job.{Job}
use Rattle.rme_script.specs.Eval.{eval_of}
use Rattle.rme_script.specs.Scripts.{op_is_within}
use Rattle.rme_script.proofs.Checks.{all_within}
use Rattle.rme_script.proofs.Weaker.{script_checks}
use Rattle.rme_program.specs.declared.note.Receipt.{Receipt}
use Rattle.rme_program.specs.declared.note.Entry.{Entry}
use Rattle.rme_script.specs.Jobs.{IsJob}
use Rattle.rme_machine.specs.declared.stance.JobStance.{JobStance}
use Rattle.rme_machine.specs.declared.stance.JobStance.TheVariants.{Idle, Handed, Waiting, Inside, Finished}
use Rattle.rme_machine.specs.Histories.{place_of, lock_row}
use Rattle.rme_machine.specs.Machine.{IsInSectionOf}
use Rattle.rme_core_checker.specs.Deciding.{is_idle, is_handed, is_waiting, is_waiting_under, is_waiting_for, is_finished_on, is_in_section_of, job_fits, is_free_lock, is_section_receipt}

-- ---- several tests

pub and3 : (a b c : Bool) → (a && b && c) ≡ true → (a ≡ true) × (b ≡ true) × (c ≡ true)
and3 a b c t =
    let last = and_parts (a && b) c t in
    let first = and_parts a b last.0 in
    (first.0, first.1, last.1)

pub and4 : (a b c d : Bool) → (a && b && c && d) ≡ true → (a ≡ true) × (b ≡ true) × (c ≡ true) × (d ≡ true)
and4 a b c d t =
    let last = and_parts (a && b && c) d t in
    let first = and3 a b c last.0 in
    (first.0, first.1, first.2, last.1)

pub and5 : (a b c d e : Bool) → (a && b && c && d && e) ≡ true → (a ≡ true) × (b ≡ true) × (c ≡ true) × (d ≡ true) × (e ≡ true)
and5 a b c d e t =
    let last = and_parts (a && b && c && d) e t in
    let first = and4 a b c d last.0 in
    (first.0, first.1, first.2, first.3, last.1)

-- ---- stances

pub is_idle_is : (own : JobStance) → is_idle own ≡ true → own ≡ Idle
is_idle_is Idle t = refl
is_idle_is (Handed job) t = cc
is_idle_is (Waiting k job) t = cc
is_idle_is (Inside k job) t = cc
is_idle_is (Finished k job) t = cc

pub is_handed_is : (own : JobStance) → is_handed own ≡ true → (job : Job) × (own ≡ Handed job)
is_handed_is Idle t = cc
is_handed_is (Handed job) t = (job, refl)
is_handed_is (Waiting k job) t = cc
is_handed_is (Inside k job) t = cc
is_handed_is (Finished k job) t = cc

pub is_waiting_is : (own : JobStance) → is_waiting own ≡ true → (k : ℕ) × (job : Job) × (own ≡ Waiting k job)
is_waiting_is Idle t = cc
is_waiting_is (Handed job) t = cc
is_waiting_is (Waiting k job) t = (k, job, refl)
is_waiting_is (Inside k job) t = cc
is_waiting_is (Finished k job) t = cc

pub waits_as_is : (own : JobStance) (number : ℕ) → is_waiting_under own number ≡ true → (job : Job) × (own ≡ Waiting number job)
waits_as_is Idle number t = cc
waits_as_is (Handed job) number t = cc
waits_as_is (Waiting k job) number t = (job, ap (λ (n : ℕ). Waiting n job) (eqb-true k number t))
waits_as_is (Inside k job) number t = cc
waits_as_is (Finished k job) number t = cc

pub waits_on_is : (own : JobStance) (lock : ℕ) → is_waiting_for own lock ≡ true → (k : ℕ) × (job : Job) × (own ≡ Waiting k job) × (job.lock ≡ lock)
waits_on_is Idle lock t = cc
waits_on_is (Handed job) lock t = cc
waits_on_is (Waiting k job) lock t = (k, job, refl, eqb-true job.lock lock t)
waits_on_is (Inside k job) lock t = cc
waits_on_is (Finished k job) lock t = cc

pub finished_on_is : (own : JobStance) (lock : ℕ) → is_finished_on own lock ≡ true → (k : ℕ) × (job : Job) × (own ≡ Finished k job) × (job.lock ≡ lock)
finished_on_is Idle lock t = cc
finished_on_is (Handed job) lock t = cc
finished_on_is (Waiting k job) lock t = cc
finished_on_is (Inside k job) lock t = cc
finished_on_is (Finished k job) lock t = (k, job, refl, eqb-true job.lock lock t)

pub stays_on_is : (own : JobStance) (lock : ℕ) → is_in_section_of own lock ≡ true → IsInSectionOf own lock
stays_on_is Idle lock t = cc
stays_on_is (Handed job) lock t = cc
stays_on_is (Waiting k job) lock t = cc
stays_on_is (Inside k job) lock t = eqb-true job.lock lock t
stays_on_is (Finished k job) lock t = eqb-true job.lock lock t

pub is_stays_on : (own : JobStance) (lock : ℕ) → IsInSectionOf own lock → is_in_section_of own lock ≡ true
is_stays_on Idle lock stays = absurd stays
is_stays_on (Handed job) lock stays = absurd stays
is_stays_on (Waiting k job) lock stays = absurd stays
is_stays_on (Inside k job) lock stays = eq-eqb job.lock lock stays
is_stays_on (Finished k job) lock stays = eq-eqb job.lock lock stays

-- ---- the rest

pub is_free_is : (owner : Option (Option ℕ)) → is_free_lock owner ≡ true → owner ≡ Some None
is_free_is (Some None) t = refl
is_free_is (Some (Some w)) t = cc
is_free_is None t = cc

pub job_fits_is : (shape : Shape) (job : Job) → job_fits shape job ≡ true → IsJob shape job
job_fits_is shape job t =
    let parts = and3 (nat_lt job.lock shape.locks) (length job.script.ops == job.script.n) _ t in
    let good = parts.2 in
    record {
      lock = ltb-true job.lock shape.locks parts.0;
      script = elim (cases_Bool (nat_lt 8 job.script.n)) [
        | inl many ↦ absurd (let never = rw many at good in cc)
        | inr few ↦
            let rest = rw few at good in
            elim (cases_Bool (list_all (op_is_within shape.cells) job.script.ops)) [
              | inl all ↦ record {
                few = ltb-false 8 job.script.n few;
                counted = eqb-true (length job.script.ops) job.script.n parts.1;
                within = all_within shape.cells job.script.ops all;
              }
              | inr bad ↦ absurd (let never = rw bad at rest in cc)
            ]
      ];
    }

pub is_job_fits : (shape : Shape) (job : Job) → IsJob shape job → job_fits shape job ≡ true
is_job_fits shape job is =
    rw (lt-ltb job.lock shape.locks is.lock, eq-eqb (length job.script.ops) job.script.n is.script.counted, script_checks shape.cells job.script is.script) refl

-- The receipt of the section that a worker is inside.
abbrev pub receipt_due : Shape → List Entry → ℕ → ℕ → Job → Receipt
receipt_due shape history worker k job = record {
  worker = worker;
  lock = job.lock;
  number = k;
  place = place_of history job.lock;
  reply = (eval_of job.script.ops (lock_row shape history job.lock)).reply;
}

receipt_made : (r : Receipt) (worker lock number place reply : ℕ) → r.worker ≡ worker → r.lock ≡ lock → r.number ≡ number → r.place ≡ place → r.reply ≡ reply
    → r ≡ record { worker = worker; lock = lock; number = number; place = place; reply = reply }
receipt_made r worker lock number place reply a b c d e = rw (← a, ← b, ← c, ← d, ← e) refl

pub is_receipt_is : (shape : Shape) (history : List Entry) (worker : ℕ) (own : JobStance) (receipt : Receipt) → is_section_receipt shape history worker own receipt ≡ true
    → (k : ℕ) × (job : Job) × (own ≡ Inside k job) × (receipt ≡ receipt_due shape history worker k job)
is_receipt_is shape history worker Idle receipt t = cc
is_receipt_is shape history worker (Handed job) receipt t = cc
is_receipt_is shape history worker (Waiting k job) receipt t = cc
is_receipt_is shape history worker (Inside k job) receipt t =
    let place = place_of history job.lock in
    let reply = (eval_of job.script.ops (lock_row shape history job.lock)).reply in
    let parts = and4 (receipt.worker == worker) (receipt.lock == job.lock) (receipt.number == k) ((receipt.place == place) && (receipt.reply == reply)) t in
    let next = and_parts (receipt.place == place) (receipt.reply == reply) parts.3 in
    let at = eqb-true receipt.worker worker parts.0 in
    let on = eqb-true receipt.lock job.lock parts.1 in
    let numbered = eqb-true receipt.number k parts.2 in
    let placed = eqb-true receipt.place place next.0 in
    let replied = eqb-true receipt.reply reply next.1 in
    (k, job, refl, receipt_made receipt worker job.lock k place reply at on numbered placed replied)
is_receipt_is shape history worker (Finished k job) receipt t = cc

pub is_due_receipt : (shape : Shape) (history : List Entry) (worker k : ℕ) (job : Job) → is_section_receipt shape history worker (Inside k job) (receipt_due shape history worker k job) ≡ true
is_due_receipt shape history worker k job =
    let place = place_of history job.lock in
    let reply = (eval_of job.script.ops (lock_row shape history job.lock)).reply in
    rw (eq-eqb worker worker refl, eq-eqb job.lock job.lock refl, eq-eqb k k refl, eq-eqb place place refl, eq-eqb reply reply refl) refl
