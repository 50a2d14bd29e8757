-- The value that a step finds is one that its worker accepts.
use Rattle.std.proofs.Common.{◌≡◌, ℕ, ◌+◌, ◌*◌, ◌^◌, ◌<◌, ◌≤◌, List, take, refl, sym, ◌∙◌, ap, subst, inl, inr, arith}
use Rattle.std.specs.Prelude.{Bool, true, false, Option, Some, None, slice_set}
use Rattle.rme_words.specs.declared.shape.Shape.{Shape}
use Rattle.rme_words.specs.declared.address.Address.{Address}
use Rattle.rme_words.specs.declared.address.Address.TheVariants.{Turn}
use Rattle.rme_tree.specs.Nodes.{held_levels_in, owner_in}
use Rattle.rme_script.specs.Programs.{Program}
use Rattle.rme_script.specs.Slates.{script_from_words}
use Rattle.rme_program.specs.declared.note.Entry.{Entry}
use Rattle.rme_program.specs.declared.stage.Stage.{Stage}
use Rattle.rme_program.specs.declared.stage.Stage.TheVariants.{Resting, Recovering, Posting, Climbing, Logging, Copying, Leaving}
use Rattle.rme_program.specs.declared.stage.Recovery.{Recovery}
use Rattle.rme_program.specs.declared.stage.Recovery.TheVariants.{LoadBegun, LoadDone, LoadLock, LoadPath}
use Rattle.rme_program.specs.declared.stage.Log.{Log}
use Rattle.rme_program.specs.declared.stage.Log.TheVariants.{LoadTurn, LoadLen, LoadSlate, LoadCells, StoreShadows, StoreShadowReply, StoreMask, StoreTurn}
use Rattle.rme_program.specs.declared.stage.Departure.{Departure}
use Rattle.rme_program.specs.declared.stage.Departure.TheVariants.{LoadExitTurn, StoreExitTurn, Clear, WithdrawPlace, WithdrawAt, WithdrawReply, WithdrawDone}
use Rattle.rme_program.specs.ActionEffects.{ActionEffect}
use Rattle.rme_program.specs.Steps.{private_action, recovery_action, log_action, departure_action}
use Rattle.rme_program.specs.Conditions.{IsValidLoad}
use Rattle.rme_machine.specs.Histories.{place_of}
use Rattle.rme_machine.specs.Views.{WorkerWords, worker_words, lock_words, is_pending}
use Rattle.rme_machine.specs.AbstractState.{Privates}
use Rattle.rme_machine.specs.Knowledge.{PrivateInvariant, RecoveryKnowledge}
use Rattle.rme_machine.specs.Invariant.{Invariant, SlateHasJob, LockInvariant, OwnedLockInvariant}
use Rattle.rme_machine.specs.Laws.{ValidLoadLaw}
use Rattle.rme_machine.proofs.Moves.{slate_long, slate_read}
use Rattle.rme_machine.proofs.Historical.{turn_small}
use Rattle.rme_machine.proofs.Standing.{at_lock}
use Rattle.rme_machine.proofs.Scripts.{IsPosted, posted, script_same, words_more}

-- A turn is at most one more than twice the place of the next section.
turn_most : (s : Shape) (mem : Address → ℕ) (privs : Privates) (es : List Entry) (l : ℕ) → Invariant s mem privs es → l < s.locks
    → (lock_words s mem l).turn ≤ 2 * place_of es l + 1
turn_most s mem privs es l fact lock = stood (owner_in s mem l) (fact.stands l lock)
  where
    owned : (u : ℕ) (own : WorkerWords) (pending : Bool) → OwnedLockInvariant s (lock_words s mem l) es l record { worker = u; words = own } pending → (lock_words s mem l).turn ≤ 2 * place_of es l + 1
    owned u own true stands = elim stands [
      | inl settled ↦ omega (arith, settled.turn)
      | inr logged ↦ omega (arith, logged.turn)
    ]
    owned u own false stands = elim stands.2 [
      | inl settled ↦ omega (arith, settled.turn)
      | inr over ↦ omega (arith, over.turn)
    ]

    stood : (owner : Option ℕ) → LockInvariant s (lock_words s mem l) es l owner (worker_words mem) → (lock_words s mem l).turn ≤ 2 * place_of es l + 1
    stood None settled = omega (arith, settled.turn)
    stood (Some u) stands = owned u (worker_words mem u) (is_pending (worker_words mem u)) stands

turn_below : (s : Shape) (mem : Address → ℕ) (privs : Privates) (es : List Entry) (l found : ℕ) → Invariant s mem privs es → l < s.locks → found ≡ mem (Turn l) → found < 2 ^ 32
turn_below s mem privs es l found fact lock is = omega (arith, is, turn_most s mem privs es l fact lock, turn_small s mem privs es l fact)

-- Recover.
takes_recovery : (s : Shape) (mem mem' : Address → ℕ) (privs : Privates) (es : List Entry) (w b : ℕ) (recovery : Recovery) (found : ℕ) → Invariant s mem privs es
    → w < s.workers → RecoveryKnowledge (worker_words mem w) (held_levels_in s mem w) b recovery → ActionEffect mem mem' (recovery_action s w recovery) found
    → IsValidLoad s (Recovering recovery) found
takes_recovery s mem mem' privs es w b LoadBegun found fact worker knows did = omega (arith, did.0, (fact.accounts w worker).few)
takes_recovery s mem mem' privs es w b LoadDone found fact worker knows did = omega (arith, did.0, (fact.accounts w worker).few, (fact.accounts w worker).done)
takes_recovery s mem mem' privs es w b (LoadLock true) found fact worker knows did =
    let job : SlateHasJob s (worker_words mem w) = (fact.accounts w worker).slate knows.2 in omega (arith, did.0, job.job.lock)
takes_recovery s mem mem' privs es w b (LoadLock false) found fact worker knows did =
    omega (arith, did.0, at_lock s mem privs es w fact worker knows.2 (omega (arith, knows.0, knows.1)))
takes_recovery s mem mem' privs es w b (LoadPath pending lock held) found fact worker knows did = tt

-- Section, until the turn is odd.
takes_log : (s : Shape) (mem mem' : Address → ℕ) (privs : Privates) (es : List Entry) (w b : ℕ) (log : Log) (found : ℕ) → Invariant s mem privs es
    → w < s.workers → PrivateInvariant s (worker_words mem w) (held_levels_in s mem w) (lock_words s mem) w record { worker = w; begun = b; stage = Logging log }
    → ActionEffect mem mem' (log_action w log) found → IsValidLoad s (Logging log) found
takes_log s mem mem' privs es w b (LoadTurn lock) found fact worker fits did = turn_below s mem privs es lock found fact fits.shaped.stage did.0
takes_log s mem mem' privs es w b (LoadLen lock turn) found fact worker fits did =
    let job : (script : Program) × IsPosted s (worker_words mem w) script = posted s (worker_words mem w) ((fact.accounts w worker).slate fits.knows.0.pending) in
    omega (arith, did.0, job.1.few)
takes_log s mem mem' privs es w b (LoadSlate lock turn operations words loaded) found fact worker fits did =
    λ all.
    let job : (script : Program) × IsPosted s (worker_words mem w) script = posted s (worker_words mem w) ((fact.accounts w worker).slate fits.knows.0.pending) in
    let within : loaded < 24 = omega (arith, fits.shaped.stage) in
    let front : take (loaded + 1) (slice_set words loaded found) ≡ take (loaded + 1) (worker_words mem w).slate =
    words_more words (worker_words mem w).slate loaded found (omega (arith, within, fits.knows.1.2)) (omega (arith, within, slate_long mem w))
    (did.0 ∙ slate_read mem w loaded within) fits.knows.1.3 in
    let script : script_from_words operations (slice_set words loaded found) ≡ script_from_words operations (worker_words mem w).slate =
    script_same operations _ _ (let P : ℕ → Type 0 = λ n. take n (slice_set words loaded found) ≡ take n (worker_words mem w).slate in subst P all front) in
    (job.0, script ∙ ap (λ (n : ℕ). script_from_words n (worker_words mem w).slate) (sym fits.knows.1.1) ∙ job.1.slate, job.1.shaped)
takes_log s mem mem' privs es w b (LoadCells lock turn script named row cell) found fact worker fits did = tt
takes_log s mem mem' privs es w b (StoreShadows visit named row reply cell) found fact worker fits did = tt
takes_log s mem mem' privs es w b (StoreShadowReply visit named reply) found fact worker fits did = tt
takes_log s mem mem' privs es w b (StoreMask visit named) found fact worker fits did = tt
takes_log s mem mem' privs es w b (StoreTurn visit) found fact worker fits did = tt

-- Exit.
takes_departure : (s : Shape) (mem mem' : Address → ℕ) (privs : Privates) (es : List Entry) (w b : ℕ) (departure : Departure) (found : ℕ) → Invariant s mem privs es
    → PrivateInvariant s (worker_words mem w) (held_levels_in s mem w) (lock_words s mem) w record { worker = w; begun = b; stage = Leaving departure }
    → ActionEffect mem mem' (departure_action s w b departure) found → IsValidLoad s (Leaving departure) found
takes_departure s mem mem' privs es w b (LoadExitTurn lock) found fact fits did = turn_below s mem privs es lock found fact fits.shaped.stage did.0
takes_departure s mem mem' privs es w b (StoreExitTurn lock turn) found fact fits did = tt
takes_departure s mem mem' privs es w b (Clear lock level) found fact fits did = tt
takes_departure s mem mem' privs es w b (WithdrawPlace lock held) found fact fits did = tt
takes_departure s mem mem' privs es w b (WithdrawAt lock held) found fact fits did = tt
takes_departure s mem mem' privs es w b (WithdrawReply lock held) found fact fits did = tt
takes_departure s mem mem' privs es w b (WithdrawDone lock held) found fact fits did = tt

takes : (s : Shape) (mem mem' : Address → ℕ) (privs : Privates) (es : List Entry) (w b : ℕ) (stage : Stage) (found : ℕ) → Invariant s mem privs es → w < s.workers
    → PrivateInvariant s (worker_words mem w) (held_levels_in s mem w) (lock_words s mem) w record { worker = w; begun = b; stage = stage }
    → ActionEffect mem mem' (private_action s record { worker = w; begun = b; stage = stage }) found → IsValidLoad s stage found
takes s mem mem' privs es w b Resting found fact worker fits did = tt
takes s mem mem' privs es w b (Recovering recovery) found fact worker fits did = takes_recovery s mem mem' privs es w b recovery found fact worker fits.knows did
takes s mem mem' privs es w b (Posting slate) found fact worker fits did = tt
takes s mem mem' privs es w b (Climbing ascent) found fact worker fits did = tt
takes s mem mem' privs es w b (Logging log) found fact worker fits did = takes_log s mem mem' privs es w b log found fact worker fits did
takes s mem mem' privs es w b (Copying redo) found fact worker fits did = tt
takes s mem mem' privs es w b (Leaving departure) found fact worker fits did = takes_departure s mem mem' privs es w b departure found fact fits did

pub taking : ValidLoadLaw
taking s mem mem' privs es w p found fact worker was busy did =
    let fits : PrivateInvariant s (worker_words mem w) (held_levels_in s mem w) (lock_words s mem) w p = fact.fits w p worker was in
    let P : ℕ → Type 0 = λ u. (u < s.workers) × PrivateInvariant s (worker_words mem u) (held_levels_in s mem u) (lock_words s mem) u record p { worker = u } in
    let own : P p.worker = subst P (sym fits.is) (worker, record { is = refl; shaped = record { worker = worker; begun = fits.shaped.begun; stage = fits.shaped.stage }; knows = fits.knows }) in
    takes s mem mem' privs es p.worker p.begun p.stage found fact own.0 own.1 did
