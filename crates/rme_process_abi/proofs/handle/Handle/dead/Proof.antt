use Rattle.std.proofs.Common.{◌≡◌, lit<, arith, List, [], ◌∷◌, ◌++◌, refl, sym, subst}
use mathlib.Core.Bool.{false}
use mir.Val.{Val, has_ty}
use base.Logic.{SProp, ent, emp, id⊢}
use base.Fml.{ftrue}
use prog.Wp.{WpFn}
use types.Kit.{‵, raw, ◌⊛◌, ◌$◌, ◌∵◌, !, qed, by, move, keep, split, fsplit, fjoin, suffices, rewrite, use0}
use types.Run.{lit, no_more, and_then, returns, enter}
use types.ByLocal.{alloc_all, pass_all, free_all, look_at, get, sets}
use types.Part.{agg}
use contract.Monad.{fact, fact_i}
use contract.Running.{tables}
use denote.Exit.{yes}
use denote.RattleType.{RattleType, owns}
use denote.Signature.{types_at, plain}
use denote.Builtin.{RawPtr}
use denote.RawPtr.{null_ptr, ptr_val}
use denote.Steps.{nothing}
use denote.Param.{layout}
use denote.Triple.Walked.{Stays, stay_dropped, walk_of, Goes-dropped}
use Rattle.std.proofs.raw_atomic.Walks.{proved_at, leaves}
use Rattle.std.proofs.cell.Inside.{Good, one}
use Rattle.rme_process_abi.proofs.LooseValues.{both, both_tt}
use Rattle.rme_process_abi.proofs.HandleValues.{Z, LZ, Handle, handle_in}
use Rattle.rme_process_abi.specs.contracts.handle.Handle.dead.{ended, clauses}
use Rattle.rme_process_abi.specs.contracts.handle.Handle.dead.Key.{name as #self}
use Rattle.rme_process_abi.proofs.handle.Handle.dead.Statement.{statement}
use Rattle.rme_process_abi.proofs.handle.Handle.dead.Code as code
use Rattle.rme_words.specs.Shapes.{IsShape}
use Rattle.rme_program.specs.Steps.{restarted_private}
use Rattle.std.specs.Prelude.{replicate, []}
use Rattle.rme_process_core.specs.declared.worker.CoreWorker.{CoreWorker}
use Rattle.rme_process_core.specs.declared.expected_slate.ExpectedSlate.{ExpectedSlate}

-- Some worker: a handle that is not live says nothing of it.
one_of_each : IsShape 1 1 1 1 2 1
one_of_each = record {
  limits = record { some_worker = omega arith; few_workers = omega arith; some_lock = omega arith; few_locks = omega arith; some_cell = omega arith; few_cells = omega arith; some_job = omega arith; few_jobs = omega arith };
  tree = record { is_power = refl; some_level = omega arith; few_levels = omega arith; few_leaves = omega arith; enough = omega arith; least = λ h. omega (arith, h) };
}

abbrev no_guess : ExpectedSlate
no_guess = record { script = record { n = 0; ops = [] }; words = replicate 24 0; named = 0 }

abbrev no_worker : CoreWorker
no_worker = record { shape = record { workers = 1; locks = 1; cells = 1; jobs = 1; leaves = 2; height = 1; counted = one_of_each }; private = restarted_private 0; told = 0; guess = no_guess }

pub dead_spec : {M : Type 1} → statement M
dead_spec 𝓤 𝓛 𝓜 𝓡 wired =
    let H = 𝓛.H in let 𝓣 = tables 𝓤 H 𝓜 𝓡 𝓡.env in let En = ended in let c = clauses 𝓛 𝓜.mem 𝓡.returns in let fn = code.function in let From : RattleType = Z in
    let hs : Stays En.signature.params En.kept = (stay_dropped (plain (λ _. From)) yes, tt) in
    proved_at 𝓛 En hs c 𝓜 𝓡 (Goes-dropped 𝓛 0 (plain (λ _. From)) yes (λ κs x f. refl), tt) #self fn (code.unfolded 𝓤 H 𝓜 𝓡 wired) (λ z are.
    let κs = z.0.0 in let Post : Val → SProp 𝓤 = (walk_of 𝓛 En hs c).post z in let Run : List Val → SProp 𝓤 = λ ws. WpFn 𝓤 H 𝓣.C 𝓣.Λ fn ws Post in
    let a = z.0.3.0 in let h = one (layout Z) z.0.4.0 ((LZ.lawful 𝓛).typed a z.0.4.0 are.0) in
    qed 𝓛 ((‵ ftrue ⊛ ‵ (owns (types_at En.signature.params κs) z.0.3 z.0.4)) ∷ raw ((c κs z.0.3).requires z.1) ∷ []) ∵ split ! $ move ! (1 ∷ []) $ fsplit ! $
    rewrite ! 0 (λ (us : List Val). ‵ (Z.own_val a us)) h.1 refl $
    let w : Val = both (ptr_val null_ptr) h.0 in let typed : Good (layout Handle) w = (both_tt (has_ty (layout RawPtr) (ptr_val null_ptr)) (has_ty (layout Z) h.0) tt h.2.0, (record { fits = lit< tt }, (h.2.1, tt))) in
    suffices ! (Run (h.0 ∷ [])) (subst (λ (us : List Val). ent 𝓤 (Run (h.0 ∷ [])) (Run us)) (sym (λ i. h.1 i ++ [])) (id⊢ 𝓤 (Run (h.0 ∷ [])))) $
    enter ! 𝓣.C 𝓣.Λ fn (h.0 ∷ []) Post $ alloc_all ! (λ l. pass_all ! refl (h.2, tt) $
    sets ! (agg ! (and_then ! (lit ! tt) (and_then ! (get ! refl) (no_more !)))) refl typed $
    returns ! (look_at ! 0 refl) $ free_all ! refl $ nothing ! $ handle_in ! null_ptr h.0 a false no_worker $
    use0 𝓛 (raw (fact 𝓤 (false ≡ false))) (fact_i 𝓤 (false ≡ false) (emp 𝓤) refl) $ nothing ! $ nothing ! $ fjoin ! $
    keep ! (4 ∷ 0 ∷ 2 ∷ 1 ∷ []) $ by ! (leaves 𝓛 En hs c z w (record { at = null_ptr; alloc = a; live = false; value = no_worker }) (tt, tt) (tt, tt))))
