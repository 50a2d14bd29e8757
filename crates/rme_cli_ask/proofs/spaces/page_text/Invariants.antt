use Rattle.std.proofs.Common.{◌≡◌, take, string_bytes}
use Rattle.std.specs.List.{flat_map}
use Rattle.rme_cli_ask.specs.SpaceLines.{space_line}
use Rattle.rme_cli_ask.proofs.spaces.page_text.Given as goal

abbrev pub invariant-loop-space : goal.invariant-loop-space
invariant-loop-space l = string_bytes l.text ≡ flat_map space_line (take l.space-index l.spaces)
