use Rattle.std.proofs.Common.{◌≢◌, Option, subst, rules}
use Rattle.rme_line_io.specs.declared.cut.Cut.TheVariants.{End}
use Rattle.rme_line_io.specs.Cuts.{input_line_of}
use Rattle.rme_line_io.specs.Readers.{bytes_left}
use Rattle.rme_line_check.specs.declared.judge.Judge.{Judge}
use Rattle.rme_line_check.specs.Judging.{IsJudgeOfLine}
use Rattle.rme_line_check.proofs.JudgeLemmas.{found_by, found_closed}
use Rattle.rme_line_check.proofs.WatchLemmas.{shown_by, shown_closed}
use Rattle.rme_line_io.proofs.RunLemmas.{cut_off}
use Rattle.rme_line_io.proofs.TrafficLemmas.{fails_still, makes_more}
use Rattle.rme_line_check.proofs.check.watch_lines.Goals as goal

pub returns-in-Ok-None-clause-verdict : goal.returns-in-Ok-None-clause-verdict
returns-in-Ok-None-clause-verdict g c =
    let left = bytes_left g.R.Source.remaining in
    let line = input_line_of c.in-Ok.cut c.as_slice.result.now in
    let cuts = rw (← c.as_slice.ensures.value) at c.in-Ok.ensures.cut in
    let more : c.in-Ok.cut ≢ End = search rules in
    let off = cut_off (left c.args.lines.now) (left c.next_line.new.self) c.in-Ok.cut c.as_slice.result.now cuts more in
    let P : Option Judge → Type 0 = λ j. IsJudgeOfLine line j in
    found_closed (left c.args.lines.now) (left c.next_line.new.self) line off (subst P c.in-Ok-None.field-0-is c.in-Ok-None.ensures)

pub returns-in-Ok-opened-clause-verdict : goal.returns-in-Ok-opened-clause-verdict
returns-in-Ok-opened-clause-verdict g c =
    let left = bytes_left g.R.Source.remaining in
    let line = input_line_of c.in-Ok.cut c.as_slice.result.now in
    let cuts = rw (← c.as_slice.ensures.value) at c.in-Ok.ensures.cut in
    let more : c.in-Ok.cut ≢ End = search rules in
    let off = cut_off (left c.args.lines.now) (left c.next_line.new.self) c.in-Ok.cut c.as_slice.result.now cuts more in
    let P : Option Judge → Type 0 = λ j. IsJudgeOfLine line j in
    found_by (left c.args.lines.now) (left c.next_line.new.self) line c.in-Ok-Some.judge c.judge_lines.result off (subst P c.in-Ok-Some.field-0-is c.in-Ok-Some.ensures) c.judge_lines.ensures.verdict

pub returns-in-Ok-None-clause-shown : goal.returns-in-Ok-None-clause-shown
returns-in-Ok-None-clause-shown g c =
    let left = bytes_left g.R.Source.remaining in
    let line = input_line_of c.in-Ok.cut c.as_slice.result.now in
    let cuts = rw (← c.as_slice.ensures.value) at c.in-Ok.ensures.cut in
    let more : c.in-Ok.cut ≢ End = search rules in
    let off = cut_off (left c.args.lines.now) (left c.next_line.new.self) c.in-Ok.cut c.as_slice.result.now cuts more in
    let P : Option Judge → Type 0 = λ j. IsJudgeOfLine line j in
    shown_closed g.V.CheckObserver.sees (left c.args.lines.now) (left c.next_line.new.self) line c.args.watcher.now off (subst P c.in-Ok-None.field-0-is c.in-Ok-None.ensures)

pub returns-in-Ok-opened-clause-shown : goal.returns-in-Ok-opened-clause-shown
returns-in-Ok-opened-clause-shown g c =
    let left = bytes_left g.R.Source.remaining in
    let line = input_line_of c.in-Ok.cut c.as_slice.result.now in
    let cuts = rw (← c.as_slice.ensures.value) at c.in-Ok.ensures.cut in
    let more : c.in-Ok.cut ≢ End = search rules in
    let off = cut_off (left c.args.lines.now) (left c.next_line.new.self) c.in-Ok.cut c.as_slice.result.now cuts more in
    let P : Option Judge → Type 0 = λ j. IsJudgeOfLine line j in
    shown_by g.V.CheckObserver.sees (left c.args.lines.now) (left c.next_line.new.self) line c.in-Ok-Some.judge c.args.watcher.now c.opened.new.self c.judge_lines.new.watcher c.judge_lines.result off
    (subst P c.in-Ok-Some.field-0-is c.in-Ok-Some.ensures) c.in-Ok-opened.ensures c.judge_lines.ensures.shown

pub returns-in-Ok-opened-clause-reads : goal.returns-in-Ok-opened-clause-reads
returns-in-Ok-opened-clause-reads g c = makes_more g.R.Source.gave c.args.lines.now c.next_line.new.self c.judge_lines.new.lines c.in-Ok.ensures.asks c.judge_lines.ensures.reads

pub returns-in-Ok-opened-clause-read_broke : goal.returns-in-Ok-opened-clause-read_broke
returns-in-Ok-opened-clause-read_broke g c =
    fails_still g.R.Source.gave c.args.lines.now c.next_line.new.self c.judge_lines.new.lines c.judge_lines.result c.in-Ok.ensures.asks c.judge_lines.ensures.read_broke
