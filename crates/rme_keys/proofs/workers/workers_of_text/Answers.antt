use Rattle.std.proofs.Common.{ap, ◌∙◌, sym}
use Rattle.std.proofs.lemmas.Bool.{false≢true}
use Rattle.rme_keys.specs.Finding.{NameInTurn}
use Rattle.rme_keys.specs.Workers.{IsRangeText, IsWorkersText}
use Rattle.rme_keys.proofs.InTurn.{bytes_of, found_then}
use Rattle.rme_keys.proofs.WorkerTexts.{each_worker, no_workers, some_workers}
use Rattle.rme_keys.proofs.workers.workers_of_text.Goals as goal

pub returns-then-are_bytes : goal.returns-then-are_bytes
returns-then-are_bytes c = no_workers c.args.text.now _ (c.are_bytes.ensures.0 c.if-are_bytes.true) c.new.ensures.items

pub returns-then-are_bytes-2 : goal.returns-then-are_bytes-2
returns-then-are_bytes-2 c = each_worker c.args.text.now _ (c.are_bytes-2.ensures.0 c.if-are_bytes-2.true) c.in_ok-all_workers.ensures

pub returns : goal.returns
returns c =
    let text = c.args.text.now in
    let pieces = bytes_of c.as_slice.result.now in
    let cut = ap bytes_of c.as_slice.ensures.value ∙ c.in_ok-pieces.ensures in
    found_then c.ranges_of.result (λ ranges. ranges.items) (NameInTurn IsRangeText pieces) (IsWorkersText text)
    (λ found. some_workers text pieces found (λ is. false≢true (sym c.if-are_bytes.false ∙ c.are_bytes.ensures.1 is)) (λ is. false≢true (sym c.if-are_bytes-2.false ∙ c.are_bytes-2.ensures.1 is)) cut)
    c.ranges_of.ensures
