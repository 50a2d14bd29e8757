-- The effect of one call on the bytes of a file, if they are known.
use Rattle.std.specs.Prelude.{◌≡◌, ℕ, List, ◌++◌, take, Option, Some, None, option_map, ⊤}

-- Bytes that were read are those of the file.
abbrev pub AreFileBytes : Option (List ℕ) → List ℕ → Type 0
AreFileBytes None found = ⊤
AreFileBytes (Some bytes) found = found ≡ bytes

-- What is behind the first `length` bytes is cut off.
abbrev pub CutsFile : Option (List ℕ) → ℕ → Option (List ℕ) → Type 0
CutsFile before length after = after ≡ option_map (λ bytes. take length bytes) before

-- These lines are appended.
abbrev pub AppendsToFile : Option (List ℕ) → List ℕ → Option (List ℕ) → Type 0
AppendsToFile before lines after = after ≡ option_map (λ bytes. bytes ++ lines) before

-- What is behind the first `length` bytes is cut off, and then these lines are appended.
abbrev pub CutsAndAppends : Option (List ℕ) → ℕ → List ℕ → Option (List ℕ) → Type 0
CutsAndAppends before length lines after =
    (cut : Option (List ℕ)) × CutsFile before length cut × AppendsToFile cut lines after

-- All earlier bytes are still there, perhaps with a part of the lines after them.
abbrev pub AppendsPartToFile : Option (List ℕ) → List ℕ → Option (List ℕ) → Type 0
AppendsPartToFile before lines after = (count : ℕ) × AppendsToFile before (take count lines) after

-- These bytes replace all earlier ones.
abbrev pub ReplacesFile : Option (List ℕ) → List ℕ → Option (List ℕ) → Type 0
ReplacesFile before bytes after = after ≡ option_map (λ _. bytes) before
