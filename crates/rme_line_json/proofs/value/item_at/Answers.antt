use Rattle.std.proofs.Common.{◌≡◌, ◌∙◌, get_or, ap, Some, arith}
use Rattle.rme_line_json.specs.View.{value_view}
use Rattle.rme_line_json.proofs.Viewing.{item_within, item_past}
use Rattle.rme_line_json.proofs.value.item_at.Goals as goal

pub returns-then-index-items : goal.returns-then-index-items
returns-then-index-items c =
    let found = c.index-items-index.result in
    let is : found ≡ get_or c.args.items.now c.args.index found = grind arith in
    ap (λ v. Some (value_view v)) is ∙ item_within c.args.items.now c.args.index found (omega arith)

pub returns : goal.returns
returns c = item_past c.args.items.now c.args.index (omega arith)
