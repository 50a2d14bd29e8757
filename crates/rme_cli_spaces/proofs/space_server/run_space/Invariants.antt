use Rattle.std.proofs.Common.{◌≡◌, None}
use Rattle.rme_durable_server.specs.ServerHistories.{ServerState, server_state}
use Rattle.rme_cli_spaces.proofs.space_server.run_space.Given as goal

-- The log that was just opened, and the state with which the server of the space begins.
abbrev pub ghosts-serve_logged_space-J-LogTag : goal.ghosts-serve_logged_space-J-LogTag
ghosts-serve_logged_space-J-LogTag g a = record { book = a.opened.value.state.log }

abbrev pub ghosts-serve_logged_space-J-ServerTag : goal.ghosts-serve_logged_space-J-ServerTag
ghosts-serve_logged_space-J-ServerTag g a = record { opening = record { names = a.opened.value.state.names; leader = None; begins = λ (start : ServerState). start ≡ server_state a.opened.value.state.executor } }
