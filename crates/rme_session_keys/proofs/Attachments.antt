-- An order that attaches a worker asks for that worker, whatever the names of the locks and the largest number are.
use Rattle.std.proofs.Common.{◌≡◌, ◌∙◌, ℕ, List, ◌+◌, ◌==◌, Bool, true, false, Option, Some, None, sym, ap, subst, inl, inr}
use Rattle.std.proofs.lemmas.Bool.{cases_Bool}
use Rattle.std.proofs.lemmas.Option.{option_and_then_some}
use Rattle.std.specs.Prelude.{bytes_eq, codes, option_and_then, option_map, if◌then◌else◌}
use Rattle.serde_json.specs.Data.{Data}
use Rattle.serde_json.specs.Events.{members_len}
use Rattle.serde_json.specs.Find.{as_object, get}
use Rattle.rme_line_json.specs.Values.{json_value_of}
use Rattle.rme_wire.specs.Values.{do_member}
use Rattle.rme_session_keys.specs.AskedWorkers.{AttachmentAsksWorker, worker_of_order}
use Rattle.rme_session_protocol.specs.Orders.{attach_of, bare_order, crash_after_of, crash_steps_of, order_by, order_named, order_of_line, order_of_value, patience_keys, patience_of, resume_of, service_numbers, submission_of}
use Rattle.rme_session_protocol.specs.WorkerChoices.{choice_of_bytes}
use Rattle.rme_session_protocol.specs.declared.order.Attachment.{Attachment}
use Rattle.rme_session_protocol.specs.declared.order.Order.{Order}
use Rattle.rme_session_protocol.specs.declared.order.Order.TheVariants.{Attach, Submit, Resume, Enter, Commit, Withdraw, Last, CrashAfter, Detach, Ping, Pending}
use Rattle.rme_session_protocol.specs.declared.order.Patience.{Patience}
use Rattle.rme_session_protocol.specs.declared.order.Submission.{Submission}

-- what was found attaches no worker
abbrev Attaches : Option Order → Attachment → Type 0
Attaches found asked = found ≡ Some (Attach asked)

either : (is : Bool) (x y : Option Order) (asked : Attachment) → (Attaches x asked → ⊥) → (Attaches y asked → ⊥)
    → Attaches (if is then x else y) asked → ⊥
either true x y asked first second e = first e
either false x y asked first second e = second e

no_submit : (found : Option Submission) (asked : Attachment) → Attaches (option_map Submit found) asked → ⊥
no_submit None asked e = cc
no_submit (Some submission) asked e = cc

no_enter : (found : Option Submission) (asked : Attachment) → Attaches (option_map Enter found) asked → ⊥
no_enter None asked e = cc
no_enter (Some submission) asked e = cc

no_plan : (found : Option ℕ) (asked : Attachment) → Attaches (option_map CrashAfter found) asked → ⊥
no_plan None asked e = cc
no_plan (Some steps) asked e = cc

no_resume : (count : ℕ) (d : Data) (asked : Attachment) → Attaches (resume_of count d) asked → ⊥
unfolding resume_of
no_resume count d asked e =
    option_and_then_some (λ (patience : Patience). if count == 1 + patience_keys d then Some (Resume patience) else None) (patience_of d) (Attach asked) e
    (λ patience is rest. either (count == 1 + patience_keys d) (Some (Resume patience)) None asked (λ f. cc) (λ f. cc) rest)

no_crash : (count : ℕ) (d : Data) (asked : Attachment) → Attaches (crash_after_of count d) asked → ⊥
unfolding crash_after_of
no_crash count d asked e =
    let found = option_and_then crash_steps_of (get (codes "steps") d) in
    either (count == 2) (option_map CrashAfter found) None asked (no_plan found asked) (λ f. cc) e

no_word : (word : List ℕ) (asked : Attachment) → Attaches (order_by word) asked → ⊥
no_word word asked e =
    either (bytes_eq word (codes "withdraw")) (Some Withdraw) _ asked (λ f. cc)
    (either (bytes_eq word (codes "commit")) (Some Commit) _ asked (λ f. cc)
    (either (bytes_eq word (codes "last")) (Some Last) _ asked (λ f. cc)
    (either (bytes_eq word (codes "detach")) (Some Detach) _ asked (λ f. cc)
    (either (bytes_eq word (codes "ping")) (Some Ping) _ asked (λ f. cc)
    (either (bytes_eq word (codes "pending")) (Some Pending) None asked (λ f. cc) (λ f. cc)))))) e

no_bare : (word : List ℕ) (count : ℕ) (asked : Attachment) → Attaches (bare_order word count) asked → ⊥
unfolding bare_order
no_bare word count asked e = either (count == 1) (order_by word) None asked (no_word word asked) (λ f. cc) e

-- the order of a word attaches a worker only if the word is `attach`
named : (names : List (List ℕ)) (most : ℕ) (word : List ℕ) (count : ℕ) (d : Data) (asked : Attachment)
    → Attaches (order_named names most word count d) asked
    → (bytes_eq word (codes "attach") ≡ true) × Attaches (attach_of count d) asked
unfolding order_named
named names most word count d asked e =
    let others : Option Order =
    if bytes_eq word (codes "submit") then option_map Submit (submission_of names most count d)
    else (if bytes_eq word (codes "enter") then option_map Enter (submission_of names most count d)
    else (if bytes_eq word (codes "resume") then resume_of count d
    else (if bytes_eq word (codes "crash_after") then crash_after_of count d
    else bare_order word count))) in
    let P : Bool → Type 0 = λ is. Attaches (if is then attach_of count d else others) asked in
    elim (cases_Bool (bytes_eq word (codes "attach"))) [
      | inl is ↦ (is, subst P is e)
      | inr not ↦
          absurd (either (bytes_eq word (codes "submit")) (option_map Submit (submission_of names most count d)) _ asked (no_submit (submission_of names most count d) asked)
          (either (bytes_eq word (codes "enter")) (option_map Enter (submission_of names most count d)) _ asked (no_enter (submission_of names most count d) asked)
          (either (bytes_eq word (codes "resume")) (resume_of count d) _ asked (no_resume count d asked)
          (either (bytes_eq word (codes "crash_after")) (crash_after_of count d) (bare_order word count) asked (no_crash count d asked) (no_bare word count asked)))) (subst P not e))
    ]

attach_named : (names : List (List ℕ)) (most : ℕ) (word : List ℕ) (count : ℕ) (d : Data) (asked : Attachment)
    → bytes_eq word (codes "attach") ≡ true → Attaches (attach_of count d) asked
    → Attaches (order_named names most word count d) asked
unfolding order_named
attach_named names most word count d asked is e =
    let others : Option Order =
    if bytes_eq word (codes "submit") then option_map Submit (submission_of names most count d)
    else (if bytes_eq word (codes "enter") then option_map Enter (submission_of names most count d)
    else (if bytes_eq word (codes "resume") then resume_of count d
    else (if bytes_eq word (codes "crash_after") then crash_after_of count d
    else bare_order word count))) in
    let P : Bool → Type 0 = λ b. Attaches (if b then attach_of count d else others) asked in
    subst P (sym is) e

-- the names and the largest number do not matter
valued : (names others : List (List ℕ)) (least most : ℕ) (d : Data) (asked : Attachment)
    → Attaches (order_of_value others most d) asked → Attaches (order_of_value names least d) asked
unfolding order_of_value
valued names others least most d asked e =
    option_and_then_some (λ members. option_and_then (λ word. order_named others most word (members_len members) d) (do_member d)) (as_object d) (Attach asked) e
    (λ members has rest. option_and_then_some (λ word. order_named others most word (members_len members) d) (do_member d) (Attach asked) rest
    (λ word does rest.
    let (is, attaches) = named others most word (members_len members) d asked rest in
    ap (λ found. option_and_then (λ members. option_and_then (λ word. order_named names least word (members_len members) d) (do_member d)) found) has
    ∙ (ap (λ found. option_and_then (λ word. order_named names least word (members_len members) d) found) does
    ∙ attach_named names least word (members_len members) d asked is attaches)))

lined : (names others : List (List ℕ)) (least most : ℕ) (bytes : List ℕ) (asked : Attachment)
    → Attaches (order_of_line others most bytes) asked → Attaches (order_of_line names least bytes) asked
lined names others least most bytes asked e =
    option_and_then_some (order_of_value others most) (json_value_of bytes) (Attach asked) e
    (λ d is rest. ap (option_and_then (order_of_value names least)) is ∙ valued names others least most d asked rest)

pub attachment_asks_worker : AttachmentAsksWorker
attachment_asks_worker names others most bytes asked e =
    ap (λ found. worker_of_order found (choice_of_bytes bytes)) (lined names others service_numbers most bytes asked e)
