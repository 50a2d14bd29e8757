use Rattle.std.proofs.Common.{◌+◌, drop, arith}
use Rattle.std.proofs.lemmas.List.{drop_all}
use Rattle.rme_line_json.specs.View.{value_view, items_view}
use Rattle.rme_wire.proofs.OperationLemmas.{view_drop}
use Rattle.rme_durable_format.specs.Headers.{IsLastJobObject}
use Rattle.rme_durable_format.proofs.Telling.{all_read, one_more, stuck}
use Rattle.rme_durable_format.proofs.header_reader.last_jobs_of.Goals as goal

pub returns-in_default : goal.returns-in_default
returns-in_default c =
    let items = c.args.items.now in
    let here = view_drop items c.loop-item.item-index c.item-item.result (omega arith) c.item-item.is in
    let so = rw here at c.loop-item.invariant in
    stuck (IsLastJobObject c.args.names.now) (items_view items) c.loop-item.words.items (value_view c.item-item.result) (items_view (drop (c.loop-item.item-index + 1) items)) so c.in_default.ensures

pub loop-item-preserved : goal.loop-item-preserved
loop-item-preserved c =
    let items = c.args.items.now in
    let here = view_drop items c.loop-item.item-index c.item-item.result (omega arith) c.item-item.is in
    let so = rw here at c.loop-item.invariant in
    one_more (IsLastJobObject c.args.names.now) (items_view items) c.loop-item.words.items c.push.new.self.items (value_view c.item-item.result) (items_view (drop (c.loop-item.item-index + 1) items)) c.in-Some.word so c.in-Some.ensures c.in_ok-push.ensures.items

pub returns : goal.returns
returns c =
    let none_left = drop_all c.loop-item.item-index c.args.items.now (omega arith) in
    let so = rw none_left at c.loop-item.invariant in all_read (IsLastJobObject c.args.names.now) (items_view c.args.items.now) c.loop-item.words.items so
