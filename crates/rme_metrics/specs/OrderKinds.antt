-- The words and the numbers of the kinds of orders.
use Rattle.std.specs.Prelude.{ℕ, List, codes}
use Rattle.rme_metrics.specs.declared.order_kind.OrderKind.{OrderKind}
use Rattle.rme_metrics.specs.declared.order_kind.OrderKind.TheVariants.{Attach, Submit, Resume, Enter, Commit, Withdraw, Pending, Last, CrashAfter, Detach, Ping, Owner, Cells, Status, Hello, Create, Use, Spaces, Drop}

-- The word of a kind in answers.
abbrev pub order_kind_word : OrderKind → List ℕ
order_kind_word Attach = codes "attach"
order_kind_word Submit = codes "submit"
order_kind_word Resume = codes "resume"
order_kind_word Enter = codes "enter"
order_kind_word Commit = codes "commit"
order_kind_word Withdraw = codes "withdraw"
order_kind_word Pending = codes "pending"
order_kind_word Last = codes "last"
order_kind_word CrashAfter = codes "crash_after"
order_kind_word Detach = codes "detach"
order_kind_word Ping = codes "ping"
order_kind_word Owner = codes "owner"
order_kind_word Cells = codes "cells"
order_kind_word Status = codes "status"
order_kind_word Hello = codes "hello"
order_kind_word Create = codes "create"
order_kind_word Use = codes "use"
order_kind_word Spaces = codes "spaces"
order_kind_word Drop = codes "drop"

-- The number of a kind, which is its place among all kinds.
abbrev pub order_kind_number : OrderKind → ℕ
order_kind_number Attach = 0
order_kind_number Submit = 1
order_kind_number Resume = 2
order_kind_number Enter = 3
order_kind_number Commit = 4
order_kind_number Withdraw = 5
order_kind_number Pending = 6
order_kind_number Last = 7
order_kind_number CrashAfter = 8
order_kind_number Detach = 9
order_kind_number Ping = 10
order_kind_number Owner = 11
order_kind_number Cells = 12
order_kind_number Status = 13
order_kind_number Hello = 14
order_kind_number Create = 15
order_kind_number Use = 16
order_kind_number Spaces = 17
order_kind_number Drop = 18
