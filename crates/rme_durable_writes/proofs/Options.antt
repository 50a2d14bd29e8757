-- Of options: what is there is not missing, and is one value.
use Rattle.std.proofs.Common.{◌≡◌, ℕ, List, Option, Some, None, is_some, false, true, sym, subst, arith}
use Rattle.std.proofs.lemmas.Bool.{false≢true}
use Rattle.memchr.specs.Find.{FindsNeedle, OccursAt}
use Rattle.rme_durable_writes.specs.Writes.{AreWriteLines, sum_mark}

none_not_some : {A : Type 0} (x : A) (option : Option A) → option ≡ None → option ≡ Some x → ⊥
none_not_some x None none some = absurd cc
none_not_some x (Some y) none some = absurd cc

pub none_some : {A : Type 0} {x : A} (option : Option A) → option ≡ None → option ≡ Some x → ⊥
none_some {A} {x} option none some = none_not_some x option none some

pub some_same : {A : Type 0} {x y : A} (option : Option A) → option ≡ Some x → option ≡ Some y → x ≡ y
some_same (Some z) one other = cc
some_same None one other = absurd cc

-- What a finder of the mark finds.
pub found_by : (lines needle : List ℕ) → needle ≡ sum_mark → (found : Option ℕ) → FindsNeedle lines needle 0 found → FindsNeedle lines sum_mark 0 found
found_by lines needle are found finds = subst (λ (mark : List ℕ). FindsNeedle lines mark 0 found) are finds

-- Where the mark is not found, it stands nowhere.
pub plain_lines : (lines : List ℕ) (found : Option ℕ) → FindsNeedle lines sum_mark 0 found → is_some found ≡ false → (at : ℕ) → OccursAt lines sum_mark at → ⊥
plain_lines lines None finds none at occurs = finds at (omega arith) (omega (arith, occurs.fits)) occurs
plain_lines lines (Some place) finds none at occurs = false≢true (sym none)

-- Bytes in which the mark is found are not the lines of a write.
pub not_plain : (lines : List ℕ) (found : Option ℕ) → FindsNeedle lines sum_mark 0 found → is_some found ≡ true → AreWriteLines lines → ⊥
not_plain lines None finds there are = false≢true there
not_plain lines (Some place) finds there are = are.plain place finds.1
