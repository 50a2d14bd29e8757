use Rattle.std.specs.Option.{option_copied}
use Rattle.rme_keys.proofs.Searches.{FindsBelow}
use Rattle.rme_keys.proofs.key.key_of_digest.Given as goal

-- a key so far that has the digest, or no key so far has it
abbrev pub invariant-loop-key : goal.invariant-loop-key
invariant-loop-key l = FindsBelow l.keys l.digest l.key-index (option_copied l.found)
