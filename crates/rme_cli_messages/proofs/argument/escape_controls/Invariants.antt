use Rattle.std.proofs.Common.{◌≡◌, string_bytes}
use Rattle.std.specs.List.{flat_map}
use Rattle.rme_cli_messages.specs.EscapedTexts.{escaped_char}
use Rattle.rme_cli_messages.proofs.argument.escape_controls.Given as goal

abbrev pub invariant-loop-letter : goal.invariant-loop-letter
invariant-loop-letter l = string_bytes l.text ≡ flat_map escaped_char l.yielded
