-- New lines come after the earlier ones.
use Rattle.std.proofs.Common.{◌≡◌, ◌≢◌, ℕ, zero, suc, List, [], ◌∷◌, ◌++◌, length, drop, refl, sym, subst, ap, ◌∙◌, append_assoc, length-append, arith, true, false}
use Rattle.std.specs.Prelude.{Bool, nat_lt, ◌||◌}
use Rattle.std.proofs.lemmas.List.{append-nil}
use Rattle.std.proofs.Math.Seq.{drop-append_seam}
use Rattle.rme_session_world.specs.SessionBatches.{has_events, has_start}
use Rattle.rme_session_world.specs.declared.event_batch.EventBatch.{EventBatch}
use Rattle.rme_session_world.specs.declared.event_batch.BatchStart.{BatchStart}
use Rattle.rme_session_world.specs.declared.event_batch.BatchStart.TheVariants.{Restart, Submit, Withdraw, GoOn}
use Rattle.rme_durable_format.specs.BatchCommands.{batch_commands, crash_commands, start_commands, step_commands}
use Rattle.rme_durable_format.specs.CommandLines.{AppendsCommands}
use Rattle.rme_wire.specs.declared.command.Command.{Command}

-- The same lines come after a longer text.
appends_more : (names : List (List ℕ)) (front before : List ℕ) (commands : List Command) (after : List ℕ)
    → AppendsCommands names before commands after → AppendsCommands names (front ++ before) commands (front ++ after)
appends_more names front before [] after writes = ap (λ w. front ++ w) writes
appends_more names front before (command ∷ commands) after writes =
    let line = writes.1.0 ++ 10 ∷ [] in
    (front ++ writes.0, (writes.1.0, writes.1.1, ap (λ w. front ++ w) writes.1.2 ∙ sym (append_assoc front before line)), appends_more names front writes.0 commands after writes.2)

some_line : (line rest : List ℕ) → (line ++ 10 ∷ []) ++ rest ≢ []
some_line line rest none = omega (arith, ap length none, length-append (line ++ 10 ∷ []) rest, length-append line (10 ∷ []))

-- The lines that come after a text.
pub appends_from : (names : List (List ℕ)) (before : List ℕ) (commands : List Command) (after : List ℕ)
    → AppendsCommands names before commands after
    → (rest : List ℕ) × (after ≡ before ++ rest) × AppendsCommands names [] commands rest × (commands ≢ [] → rest ≢ [])
appends_from names before [] after writes = ([], writes ∙ sym (append-nil before), refl, λ some. absurd (some refl))
appends_from names before (command ∷ commands) after writes =
    let line = writes.1.0 ++ 10 ∷ [] in
    let more = appends_from names writes.0 commands after writes.2 in (
      line ++ more.0,
      more.1 ∙ (ap (λ w. w ++ more.0) writes.1.2 ∙ append_assoc before line more.0),
      (line, (writes.1.0, writes.1.1, refl), subst (λ (w : List ℕ). AppendsCommands names w commands (line ++ more.0)) (append-nil line) (appends_more names line [] commands more.0 more.2)),
      λ some. some_line writes.1.0 more.0,
    )

-- A batch with events has commands.
commands_some_in : (worker : ℕ) (begins : BatchStart) (steps : ℕ) (falls : Bool)
    → (has_start begins || (nat_lt 0 steps || falls)) ≡ true
    → (start_commands worker begins ++ (step_commands worker steps ++ crash_commands worker falls)) ≢ []
commands_some_in worker Restart steps falls some none = cc
commands_some_in worker (Submit job) steps falls some none = cc
commands_some_in worker Withdraw steps falls some none = cc
commands_some_in worker GoOn zero true some none = cc
commands_some_in worker GoOn zero false some none = cc
commands_some_in worker GoOn (suc steps) falls some none = cc

pub commands_some : (batch : EventBatch) → has_events batch ≡ true → batch_commands batch ≢ []
commands_some batch some = commands_some_in batch.worker batch.begins batch.steps batch.falls some

pub drop_all : (xs : List ℕ) → drop (length xs) xs ≡ []
drop_all xs = ap (drop (length xs)) (sym (append-nil xs)) ∙ drop-append_seam xs []

pub drop_rest : (before rest after : List ℕ) → after ≡ before ++ rest → drop (length before) after ≡ rest
drop_rest before rest after is = ap (drop (length before)) is ∙ drop-append_seam before rest
