use Rattle.rme_cli_commands.proofs.serve.serve_workers.Given as goal

abbrev pub ghosts-serve_all : goal.ghosts-serve_all
ghosts-serve_all g a = record { ident = a.service.now }
