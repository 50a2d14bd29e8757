-- The lines of an event batch determine the batch.
use Rattle.std.proofs.Common.{◌≡◌, ℕ, zero, suc, true, false, List, [], ◌∷◌, ◌++◌, length, refl, sym, ap, subst, ◌∙◌, arith, append_assoc, length-append}
use Rattle.std.specs.Prelude.{Bool, nat_lt, ◌||◌, ◌==◌, Option, Some, None}
use Rattle.std.proofs.lemmas.Option.{same_Some}
use Rattle.rme_line_io.specs.Pieces.{IsPiece}
use Rattle.rme_wire.specs.declared.command.Command.{Command}
use Rattle.rme_wire.specs.declared.command.Command.TheVariants as command
use Rattle.rme_wire.specs.declared.request.Request.TheVariants.{World}
use Rattle.rme_wire.specs.Requests.{request_of_line}
use Rattle.rme_session_world.specs.SessionBatches.{has_events, has_start}
use Rattle.rme_session_world.specs.declared.event_batch.BatchStart.{BatchStart}
use Rattle.rme_session_world.specs.declared.event_batch.BatchStart.TheVariants.{Restart, Submit, Withdraw, GoOn}
use Rattle.rme_session_world.specs.declared.event_batch.EventBatch.{EventBatch}
use Rattle.rme_durable_format.specs.BatchCommands.{batch_commands, crash_commands, start_commands, step_commands}
use Rattle.rme_durable_format.specs.CommandLines.{AppendsCommands}

-- ---- one line after the other

-- Two lines with texts after them that are equal: the lines are equal.
same_lines : (one other first second : List ℕ) → IsPiece one → IsPiece other → one ++ 10 ∷ first ≡ other ++ 10 ∷ second
    → one ≡ other
same_lines [] [] first second is also same = refl
same_lines [] (b ∷ other) first second is also same =
    let ten : b ≡ 10 = cc same in
    absurd (let no : (10 == 10) ≡ false = subst (λ (x : ℕ). (x == 10) ≡ false) ten also.0 in cc no)
same_lines (a ∷ one) [] first second is also same =
    let ten : a ≡ 10 = cc same in
    absurd (let no : (10 == 10) ≡ false = subst (λ (x : ℕ). (x == 10) ≡ false) ten is.0 in cc no)
same_lines (a ∷ one) (b ∷ other) first second is also same =
    let heads : a ≡ b = cc same in
    let rest = same_lines one other first second is.1 also.1 (cc same) in
    cc (heads, rest)

world_same : (one other : Command) → World one ≡ World other → one ≡ other
world_same one other same = cc same

-- What comes after the first line.
after_line : (names : List (List ℕ)) (before : List ℕ) (commands : List Command) (after : List ℕ)
    → AppendsCommands names before commands after → (rest : List ℕ) × (after ≡ before ++ rest)
after_line names before [] after writes = ([], writes ∙ sym (append-nil_of before))
  where
    append-nil_of : (xs : List ℕ) → xs ++ [] ≡ xs
    append-nil_of [] = refl
    append-nil_of (x ∷ xs) = ap (λ w. x ∷ w) (append-nil_of xs)
after_line names before (one ∷ commands) after writes =
    let line = writes.1.0 ++ 10 ∷ [] in
    let more = after_line names writes.0 commands after writes.2 in
    (line ++ more.0, more.1 ∙ (ap (λ w. w ++ more.0) writes.1.2 ∙ append_assoc before line more.0))

cut_front : (before one other : List ℕ) → before ++ one ≡ before ++ other → one ≡ other
cut_front [] one other same = same
cut_front (b ∷ before) one other same = cut_front before one other (cc same)

no_more : (before line rest : List ℕ) → before ≡ before ++ ((line ++ 10 ∷ []) ++ rest) → ⊥
no_more before line rest same = omega (arith, ap length same, length-append before ((line ++ 10 ∷ []) ++ rest), length-append (line ++ 10 ∷ []) rest, length-append line (10 ∷ []))

-- The commands of lines are determined.
pub same_commands : (names : List (List ℕ)) (before : List ℕ) (one other : List Command) (after : List ℕ)
    → AppendsCommands names before one after → AppendsCommands names before other after → one ≡ other
same_commands names before [] [] after first second = refl
same_commands names before [] (c ∷ other) after first second =
    let rest = after_line names second.0 other after second.2 in
    let whole : after ≡ before ++ ((second.1.0 ++ 10 ∷ []) ++ rest.0) = rest.1 ∙ (ap (λ w. w ++ rest.0) second.1.2 ∙ append_assoc before (second.1.0 ++ 10 ∷ []) rest.0) in
    absurd (no_more before second.1.0 rest.0 (sym first ∙ whole))
same_commands names before (c ∷ one) [] after first second =
    let rest = after_line names first.0 one after first.2 in
    let whole : after ≡ before ++ ((first.1.0 ++ 10 ∷ []) ++ rest.0) = rest.1 ∙ (ap (λ w. w ++ rest.0) first.1.2 ∙ append_assoc before (first.1.0 ++ 10 ∷ []) rest.0) in
    absurd (no_more before first.1.0 rest.0 (sym second ∙ whole))
same_commands names before (c ∷ one) (d ∷ other) after first second =
    let line = first.1.0 in
    let also = second.1.0 in
    let rest = after_line names first.0 one after first.2 in
    let more = after_line names second.0 other after second.2 in
    let this : after ≡ before ++ ((line ++ 10 ∷ []) ++ rest.0) = rest.1 ∙ (ap (λ w. w ++ rest.0) first.1.2 ∙ append_assoc before (line ++ 10 ∷ []) rest.0) in
    let that : after ≡ before ++ ((also ++ 10 ∷ []) ++ more.0) = more.1 ∙ (ap (λ w. w ++ more.0) second.1.2 ∙ append_assoc before (also ++ 10 ∷ []) more.0) in
    let cut : (line ++ 10 ∷ []) ++ rest.0 ≡ (also ++ 10 ∷ []) ++ more.0 = cut_front before ((line ++ 10 ∷ []) ++ rest.0) ((also ++ 10 ∷ []) ++ more.0) (sym this ∙ that) in
    let lines : line ++ 10 ∷ rest.0 ≡ also ++ 10 ∷ more.0 = sym (append_assoc line (10 ∷ []) rest.0) ∙ (cut ∙ append_assoc also (10 ∷ []) more.0) in
    let same : line ≡ also = same_lines line also rest.0 more.0 first.1.1.piece second.1.1.piece lines in
    let asked : World c ≡ World d = same_Some _ _ (sym first.1.1.asks ∙ (ap (request_of_line names) same ∙ second.1.1.asks)) in
    let mid : second.0 ≡ first.0 = second.1.2 ∙ (ap (λ w. before ++ (w ++ 10 ∷ [])) (sym same) ∙ sym first.1.2) in
    let tails = same_commands names first.0 one other after first.2 (subst (λ (m : List ℕ). AppendsCommands names m other after) mid second.2) in
    cc (world_same c d asked, tails)

-- ---- the batch of commands

-- The batch that has these commands.
with_crash : EventBatch → List Command → Option EventBatch
with_crash batch [] = Some batch
with_crash batch (command.Crash worker ∷ []) = Some record batch { falls = true }
with_crash batch commands = None

with_steps : ℕ → BatchStart → List Command → Option EventBatch
with_steps worker begins (command.Walk walk ∷ commands) = with_crash record { worker = worker; begins = begins; steps = walk.max; falls = false } commands
with_steps worker begins commands = with_crash record { worker = worker; begins = begins; steps = 0; falls = false } commands

batch_of : List Command → Option EventBatch
batch_of (command.Restart worker ∷ commands) = with_steps worker Restart commands
batch_of (command.Submit worker job ∷ commands) = with_steps worker (Submit job) commands
batch_of (command.Withdraw worker ∷ commands) = with_steps worker Withdraw commands
batch_of (command.Walk walk ∷ commands) = with_steps walk.worker GoOn (command.Walk walk ∷ commands)
batch_of (command.Crash worker ∷ commands) = with_steps worker GoOn (command.Crash worker ∷ commands)
batch_of commands = None

found_in : (worker : ℕ) (begins : BatchStart) (steps : ℕ) (falls : Bool)
    → (has_start begins || (nat_lt 0 steps || falls)) ≡ true
    → batch_of (start_commands worker begins ++ (step_commands worker steps ++ crash_commands worker falls)) ≡ Some record { worker = worker; begins = begins; steps = steps; falls = falls }
unfolding batch_of with_steps with_crash
found_in worker Restart zero true some = refl
found_in worker Restart zero false some = refl
found_in worker Restart (suc steps) true some = refl
found_in worker Restart (suc steps) false some = refl
found_in worker (Submit job) zero true some = refl
found_in worker (Submit job) zero false some = refl
found_in worker (Submit job) (suc steps) true some = refl
found_in worker (Submit job) (suc steps) false some = refl
found_in worker Withdraw zero true some = refl
found_in worker Withdraw zero false some = refl
found_in worker Withdraw (suc steps) true some = refl
found_in worker Withdraw (suc steps) false some = refl
found_in worker GoOn zero true some = refl
found_in worker GoOn zero false some = absurd (cc some)
found_in worker GoOn (suc steps) true some = refl
found_in worker GoOn (suc steps) false some = refl

found : (batch : EventBatch) → has_events batch ≡ true → batch_of (batch_commands batch) ≡ Some batch
found batch some = found_in batch.worker batch.begins batch.steps batch.falls some

pub same_batch : (names : List (List ℕ)) (lines : List ℕ) (one other : EventBatch) → has_events one ≡ true
    → has_events other ≡ true → AppendsCommands names [] (batch_commands one) lines
    → AppendsCommands names [] (batch_commands other) lines → one ≡ other
same_batch names lines one other some also first second =
    let same = same_commands names [] (batch_commands one) (batch_commands other) lines first second in
    same_Some _ _ (sym (found one some) ∙ (ap batch_of same ∙ found other also))
