-- The exit status of an end.
use Rattle.std.proofs.Common.{◌≡◌, refl, arith}
use Rattle.std.specs.Prelude.{◌↔◌}
use Rattle.rme_cli_ask.specs.Ends.{ask_status}
use Rattle.rme_cli_ask.specs.declared.ask_end.AskEnd.{AskEnd}
use Rattle.rme_cli_ask.specs.declared.ask_end.AskEnd.TheVariants.{Done, Refused, Failed, Waits}

pub zero_if_done : (end : AskEnd) → (ask_status end ≡ 0) ↔ (end ≡ Done)
zero_if_done Done = ((λ zero. refl), (λ done. refl))
zero_if_done Refused = ((λ zero. absurd (omega (arith, zero))), (λ done. cc))
zero_if_done Failed = ((λ zero. absurd (omega (arith, zero))), (λ done. cc))
zero_if_done Waits = ((λ zero. absurd (omega (arith, zero))), (λ done. cc))
