use Rattle.std.proofs.Common.{◌≡◌}
use Rattle.rme_durable_server.specs.ServerHistories.{ServerState, server_state}
use Rattle.rme_cli_replica.proofs.serve_replicated.serve_claimed.Given as goal

-- The log that was just opened, who leads it, and the state with which the server begins.
abbrev pub ghosts-serve_logged-J-LogTag : goal.ghosts-serve_logged-J-LogTag
ghosts-serve_logged-J-LogTag g a = record { book = a.state.log }

abbrev pub ghosts-serve_logged-J-ServerTag : goal.ghosts-serve_logged-J-ServerTag
ghosts-serve_logged-J-ServerTag g a = record { opening = record { names = a.state.names; leader = a.state.leader; begins = λ (start : ServerState). start ≡ server_state a.state.executor } }
