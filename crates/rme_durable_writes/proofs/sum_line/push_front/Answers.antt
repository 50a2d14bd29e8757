use Rattle.std.proofs.Common.{◌++◌, List, ℕ, ap, codes, decimal, ◌∙◌}
use Rattle.rme_durable_writes.proofs.Texts.{five_parts}
use Rattle.rme_durable_writes.proofs.sum_line.push_front.Goals as goal

pub returns : goal.returns
returns c =
    let kept = decimal c.args.front.kept in
    let number = decimal c.args.front.number in
    let first = (c.in_ok-extend_from_slice.ensures).items in
    let second = (c.in_ok-push_number.ensures) ∙ ap (λ (text : List ℕ). text ++ kept) first in
    let third = (c.in_ok-extend_from_slice-2.ensures).items ∙ ap (λ (text : List ℕ). text ++ codes ",\"seq\":") second in
    let fourth = (c.in_ok-push_number-2.ensures) ∙ ap (λ (text : List ℕ). text ++ number) third in
    (c.in_ok-extend_from_slice-3.ensures).items ∙ ap (λ (text : List ℕ). text ++ codes ",\"sum\":\"") fourth
    ∙ five_parts c.args.text.now.items (codes "{\"kept\":") kept (codes ",\"seq\":") number (codes ",\"sum\":\"")
