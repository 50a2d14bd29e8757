-- A file to which lines were appended before it was replaced is replaced.
use Rattle.std.proofs.Common.{List, ℕ, Option, Some, None, option_map, ap, ◌∙◌}
use Rattle.rme_durable_file.specs.DiskFiles.{AppendsToFile, ReplacesFile}

pub replaces_appended : (before mid after : Option (List ℕ)) (lines bytes : List ℕ) → AppendsToFile before lines mid → ReplacesFile mid bytes after → ReplacesFile before bytes after
replaces_appended None mid after lines bytes appended replaced = replaced ∙ ap (λ (o : Option (List ℕ)). option_map (λ (_ : List ℕ). bytes) o) appended
replaces_appended (Some kept) mid after lines bytes appended replaced = replaced ∙ ap (λ (o : Option (List ℕ)). option_map (λ (_ : List ℕ). bytes) o) appended
