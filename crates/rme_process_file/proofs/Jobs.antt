-- Whether a slate has a job of the shape.
use Rattle.std.proofs.Common.{◌≡◌, ◌≢◌, ℕ, ◌<◌, ◌≤◌, Bool, true, false, ◌&&◌, nat_lt, is_ok, List, Option, Some, None, refl, sym, subst}
use Rattle.std.specs.Prelude.{unwrap_or}
use Rattle.std.specs.List.{list_all}
use Rattle.std.proofs.lemmas.Bool.{lt-ltb, le-ltb}
use Rattle.std.proofs.lemmas.Option.{none-some}
use Rattle.rme_words.specs.declared.shape.Shape.{Shape}
use Rattle.rme_script.specs.Programs.{Program}
use Rattle.rme_script.specs.Scripts.{script_check, op_is_within}
use Rattle.rme_script.specs.Slates.{script_from_words}
use Rattle.rme_script.proofs.Slates.{script_slate}
use Rattle.rme_machine.specs.Views.{WorkerWords, no_script, slate_script, slate_job}
use Rattle.rme_process_file.specs.FileContents.{script_fits_cells, has_slate_job}

no_and : (a : Bool) → false ≡ (a && false)
no_and true = refl
no_and false = refl

-- The slate's lock is no lock of the shape.
pub no_lock : (s : Shape) (own : WorkerWords) → s.locks ≤ own.slate_lock → false ≡ has_slate_job s own
unfolding has_slate_job
no_lock s own past = let none : nat_lt own.slate_lock s.locks ≡ false = le-ltb _ _ past in rw none refl

-- The script found has another length than the slate: the slate encodes no script.
unlike : (a : Bool) (cells n : ℕ) (words : List ℕ) (found : Option Program) → script_from_words n words ≡ found → (unwrap_or found no_script).n ≢ n → false ≡ (a && script_fits_cells cells found)
unlike a cells n words None is other = no_and a
unlike a cells n words (Some p) is other = absurd (other (script_slate n words p is).counted)

pub other_length : (s : Shape) (own : WorkerWords) → (slate_job own).script.n ≢ own.slate_len → false ≡ has_slate_job s own
unfolding has_slate_job
other_length s own other = unlike (nat_lt own.slate_lock s.locks) s.cells own.slate_len own.slate (slate_script own) refl other

-- It has the length of the slate: it is the slate's, and the check decides.
decided : (cells : ℕ) (p : Program) (all : Bool) → nat_lt 8 p.n ≡ false → list_all (op_is_within cells) p.ops ≡ all → is_ok (script_check cells p) ≡ all
decided cells p true few e = rw (few, e) refl
decided cells p false few e = rw (few, e) refl

checked : (cells n : ℕ) (words : List ℕ) (found : Option Program) → script_from_words n words ≡ found → (unwrap_or found no_script).n ≡ n
    → is_ok (script_check cells (unwrap_or found no_script)) ≡ script_fits_cells cells found
checked cells n words None is same =
    let P : ℕ → Type 0 = λ k. script_from_words k words ≡ None in
    let none : script_from_words 0 words ≡ None = subst P (sym same) is in
    absurd (none-some _ (sym none))
checked cells n words (Some p) is same = decided cells p (list_all (op_is_within cells) p.ops) (le-ltb 8 p.n (script_slate n words p is).script.few) refl

pub job_told : (s : Shape) (own : WorkerWords) → own.slate_lock < s.locks → (slate_job own).script.n ≡ own.slate_len
    → is_ok (script_check s.cells (slate_job own).script) ≡ has_slate_job s own
unfolding has_slate_job
job_told s own below same =
    let some : nat_lt own.slate_lock s.locks ≡ true = lt-ltb _ _ below in
    rw some (checked s.cells own.slate_len own.slate (slate_script own) refl same)
