-- The own steps of phase Exit: of a full and a partial exit, and of a withdrawal.
use Rattle.std.proofs.Common.{◌≡◌, ℕ, ◌<◌, List, refl, sym, subst}
use Rattle.std.specs.Prelude.{Some}
use Rattle.rme_words.specs.declared.shape.Shape.{Shape}
use Rattle.rme_words.specs.declared.address.Address.{Address}
use Rattle.rme_tree.specs.Nodes.{held_levels_in}
use Rattle.rme_program.specs.declared.note.Entry.{Entry}
use Rattle.rme_program.specs.declared.stage.Stage.TheVariants.{Leaving}
use Rattle.rme_program.specs.declared.stage.Departure.{Departure}
use Rattle.rme_program.specs.declared.stage.Departure.TheVariants.{LoadExitTurn, StoreExitTurn, Clear, WithdrawPlace, WithdrawAt, WithdrawReply, WithdrawDone}
use Rattle.rme_program.specs.ActionEffects.{ActionEffect}
use Rattle.rme_program.specs.Steps.{private_action, private_after, note_after, withdrawn_place}
use Rattle.rme_machine.specs.declared.label.Act.TheVariants.{Still}
use Rattle.rme_machine.specs.Views.{worker_words, lock_words}
use Rattle.rme_machine.specs.AbstractState.{Privates, act_of_note}
use Rattle.rme_machine.specs.Knowledge.{PrivateInvariant}
use Rattle.rme_machine.specs.Invariant.{Invariant}
use Rattle.rme_machine.specs.Changes.{PrivateChange, history_after}
use Rattle.rme_machine.specs.Laws.{RefinementStep, concrete_state}
use Rattle.rme_machine.proofs.Moves.{place_move, at_move, reply_move, done_move}
use Rattle.rme_machine.proofs.Exits.{leaver, load_exit_turn, store_exit_turn}
use Rattle.rme_machine.proofs.Clearing.{clear}
use Rattle.rme_machine.proofs.Withdrawing.{still_at, store_receipt, step_done}

pub leaving : (s : Shape) (mem mem' : Address → ℕ) (privs privs' : Privates) (es : List Entry) (w b : ℕ) (departure : Departure) (found : ℕ)
    → Invariant s mem privs es → w < s.workers → privs w ≡ Some record { worker = w; begun = b; stage = Leaving departure }
    → ActionEffect mem mem' (private_action s record { worker = w; begun = b; stage = Leaving departure }) found
    → PrivateChange privs privs' w (Some (private_after s record { worker = w; begun = b; stage = Leaving departure } found))
    → RefinementStep s (concrete_state mem privs es) (concrete_state mem' privs' (history_after es mem w (note_after s record { worker = w; begun = b; stage = Leaving departure } found))) w
    (act_of_note (note_after s record { worker = w; begun = b; stage = Leaving departure } found))
leaving s mem mem' privs privs' es w b (LoadExitTurn lock) found fact worker was did became =
    let P : (Address → ℕ) → Type 0 = λ m. RefinementStep s (concrete_state mem privs es) (concrete_state m privs' es) w Still in
    subst P (sym did.1) (load_exit_turn s mem privs privs' es w b lock found fact worker was did.0 became)
leaving s mem mem' privs privs' es w b (StoreExitTurn lock turn) found fact worker was did became =
    store_exit_turn s mem mem' privs privs' es w b lock turn fact worker was did became
leaving s mem mem' privs privs' es w b (Clear lock level) found fact worker was did became =
    clear s mem mem' privs privs' es w b lock level fact worker was did became
leaving s mem mem' privs privs' es w b (WithdrawPlace lock held) found fact worker was did became =
    let fits : PrivateInvariant s (worker_words mem w) (held_levels_in s mem w) (lock_words s mem) w (leaver w b (WithdrawPlace lock held)) = fact.fits w _ worker was in
    store_receipt s mem mem' privs privs' es w b lock held (WithdrawPlace lock held) fact worker fits.shaped.stage.0 fits.shaped.stage.1 was fits.knows
    (WithdrawAt lock held) (worker_words mem w).reply withdrawn_place (worker_words mem w).at (place_move s mem mem' w withdrawn_place did) became
    record {
      is = refl;
      shaped = record { worker = worker; begun = fits.shaped.begun; stage = fits.shaped.stage };
      knows = (still_at (worker_words mem w) (held_levels_in s mem w) b lock held _ _ _ fits.knows, refl);
    }
leaving s mem mem' privs privs' es w b (WithdrawAt lock held) found fact worker was did became =
    let fits : PrivateInvariant s (worker_words mem w) (held_levels_in s mem w) (lock_words s mem) w (leaver w b (WithdrawAt lock held)) = fact.fits w _ worker was in
    store_receipt s mem mem' privs privs' es w b lock held (WithdrawAt lock held) fact worker fits.shaped.stage.0 fits.shaped.stage.1 was fits.knows.0
    (WithdrawReply lock held) (worker_words mem w).reply (worker_words mem w).place lock (at_move s mem mem' w lock did) became
    record {
      is = refl;
      shaped = record { worker = worker; begun = fits.shaped.begun; stage = fits.shaped.stage };
      knows = (still_at (worker_words mem w) (held_levels_in s mem w) b lock held _ _ _ fits.knows.0, fits.knows.1, refl);
    }
leaving s mem mem' privs privs' es w b (WithdrawReply lock held) found fact worker was did became =
    let fits : PrivateInvariant s (worker_words mem w) (held_levels_in s mem w) (lock_words s mem) w (leaver w b (WithdrawReply lock held)) = fact.fits w _ worker was in
    store_receipt s mem mem' privs privs' es w b lock held (WithdrawReply lock held) fact worker fits.shaped.stage.0 fits.shaped.stage.1 was fits.knows.0
    (WithdrawDone lock held) 0 (worker_words mem w).place (worker_words mem w).at (reply_move s mem mem' w 0 did) became
    record {
      is = refl;
      shaped = record { worker = worker; begun = fits.shaped.begun; stage = fits.shaped.stage };
      knows = (still_at (worker_words mem w) (held_levels_in s mem w) b lock held _ _ _ fits.knows.0, fits.knows.1, fits.knows.2, refl);
    }
leaving s mem mem' privs privs' es w b (WithdrawDone lock held) found fact worker was did became =
    let fits : PrivateInvariant s (worker_words mem w) (held_levels_in s mem w) (lock_words s mem) w (leaver w b (WithdrawDone lock held)) = fact.fits w _ worker was in
    step_done s mem mem' privs privs' es w b lock held (WithdrawDone lock held) fact worker fits.shaped.stage.0 fits.shaped.stage.1 was fits.knows.0
    (done_move s mem mem' w b did) became fits fits.knows.1 fits.knows.2 fits.knows.3
