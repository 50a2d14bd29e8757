-- The keys of a file of `--keys`.
use Rattle.std.specs.Prelude.{ℕ, List}
use Rattle.rme_keys.specs.KeyFiles.{IsKeyFile, file_lines}
use Rattle.rme_keys.specs.declared.key.Key.{Key}

-- THE KEYS OF A FILE: those of the lines of a text. No contract can tell that the text is the file's.
abbrev pub AreOfText : List Key → Type 0
AreOfText keys = ∥ ((bytes : List ℕ) × IsKeyFile (file_lines bytes) keys) ∥₁
