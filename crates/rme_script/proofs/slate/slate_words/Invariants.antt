use Rattle.std.proofs.Common.{◌≡◌, ◌^◌, take}
use Rattle.std.specs.List.{All}
use Rattle.rme_script.specs.Scripts.{OpIsWithin}
use Rattle.rme_script.specs.Slates.{slate_of}
use Rattle.rme_script.proofs.slate.slate_words.Given as goal

abbrev pub invariant-loop-i : goal.invariant-loop-i
invariant-loop-i l = record {
  words : l.words ≡ slate_of (take l.i l.script.ops);
  within : All (OpIsWithin (2 ^ 32)) (take l.i l.script.ops);
}
