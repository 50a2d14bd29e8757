-- A script that was run on the cells that it names.
use Rattle.std.proofs.Common.{◌≡◌, ℕ, List, sym, ◌∙◌, ap}
use Rattle.std.specs.Prelude.{Some, replicate}
use Rattle.rme_words.specs.declared.shape.Shape.{Shape}
use Rattle.rme_script.specs.Programs.{Program}
use Rattle.rme_script.specs.Eval.{RunResult, eval_of}
use Rattle.rme_program.specs.Masks.{mask_of, first_cell}
use Rattle.rme_program.specs.Steps.{script_stage, cell_stage_from, run_stage, shadow_stage_from, logging_section}
use Rattle.rme_service_phases.specs.Sections.{visit_from_even_turn}

-- Before the first cell is loaded.
pub from_script : (s : Shape) (lock turn : ℕ) (p : Program) (named : ℕ) (row : List ℕ) → named ≡ mask_of p.ops → row ≡ replicate s.cells 0
    → script_stage s lock turn (Some p) ≡ cell_stage_from s (logging_section lock turn p named) row (first_cell named 0 s.cells)
from_script s lock turn p named row is empty =
    ap (λ (m : ℕ). cell_stage_from s (logging_section lock turn p m) (replicate s.cells 0) (first_cell m 0 s.cells)) (sym is)
    ∙ ap (λ (xs : List ℕ). cell_stage_from s (logging_section lock turn p named) xs (first_cell named 0 s.cells)) (sym empty)

-- After the script was run.
pub from_run : (s : Shape) (lock turn : ℕ) (p : Program) (named n : ℕ) (row later : List ℕ) (reply : ℕ) → ◌≡◌ {A = RunResult} (eval_of p.ops row) record { row = later; reply = reply } → n ≡ p.n
    → run_stage s (logging_section lock turn p named) row ≡ shadow_stage_from (visit_from_even_turn lock turn n named) named later reply (first_cell named 0 s.cells)
from_run s lock turn p named n row later reply ran is =
    ap (λ (r : RunResult). shadow_stage_from (visit_from_even_turn lock turn p.n named) named r.row r.reply (first_cell named 0 s.cells)) ran
    ∙ ap (λ (k : ℕ). shadow_stage_from (visit_from_even_turn lock turn k named) named later reply (first_cell named 0 s.cells)) (sym is)
