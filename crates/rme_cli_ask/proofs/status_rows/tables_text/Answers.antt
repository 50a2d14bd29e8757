use Rattle.std.proofs.Common.{◌≡◌, string_bytes, rules}
use Rattle.rme_cli_ask.specs.StatusRows.{lock_rows, worker_rows}
use Rattle.rme_cli_ask.specs.Tables.{rows_view}
use Rattle.rme_cli_ask.proofs.MoreRows.{two_tables}
use Rattle.rme_cli_ask.proofs.status_rows.tables_text.Goals as goal

pub returns : goal.returns
returns c =
    let workers : rows_view c.in_ok-workers.workers.items ≡ worker_rows c.args.status.now.workers.items =
    rw (← c.as_slice-2.ensures.value) c.in_ok-workers.ensures in
    two_tables (lock_rows c.args.status.now) (worker_rows c.args.status.now.workers.items) (rows_view c.in_ok-locks.locks.items) (rows_view c.in_ok-workers.workers.items)
    (string_bytes c.new-text.result) (string_bytes c.push_table.new.out) (string_bytes c.push_str.new.self) (string_bytes c.push_table-2.new.out)
    c.in_ok-locks.ensures workers (search rules) (search rules) (search rules) (search rules)
