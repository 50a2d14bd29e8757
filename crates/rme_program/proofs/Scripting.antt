-- Scripts as a section loads them.
use Rattle.std.proofs.Common.{◌≡◌, ℕ, ◌*◌, List, [], refl, arith}
use Rattle.std.specs.Prelude.{Some}
use Rattle.rme_script.specs.Programs.{Program}
use Rattle.rme_script.specs.Scripts.{IsScript}
use Rattle.rme_script.specs.Slates.{script_from_words}

-- A slate without operations is the empty script.
pub no_operations : (operations cells : ℕ) (words : List ℕ) → 0 ≡ 3 * operations
    → (script : Program) × (script_from_words operations words ≡ Some script) × IsScript cells script
no_operations operations cells words e =
    let none : operations ≡ 0 = omega arith in
    (record { n = 0; ops = [] }, rw none refl, record { few = omega arith; counted = refl; within = λ k d h. absurd (omega arith) })
