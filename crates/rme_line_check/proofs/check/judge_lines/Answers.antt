use Rattle.std.proofs.Common.{◌≡◌, ◌≢◌, refl, subst, arith, rules}
use Rattle.rme_line_io.specs.declared.cut.Cut.TheVariants.{End}
use Rattle.rme_line_io.specs.Cuts.{input_line_of}
use Rattle.rme_line_io.specs.Readers.{bytes_left}
use Rattle.rme_line_check.specs.declared.check.Verdict.TheVariants.{Yes, No, Bad}
use Rattle.rme_line_check.specs.declared.judge.LineFinding.{LineFinding}
use Rattle.rme_line_check.specs.declared.judge.LineFinding.TheVariants.{NoStep, NoEvent}
use Rattle.rme_line_check.specs.Judging.{IsLineFinding}
use Rattle.rme_line_check.proofs.JudgeLemmas.{judged_all, judged_bad, judged_no, leads_more}
use Rattle.rme_line_check.specs.Verdicts.{event_read}
use Rattle.rme_line_check.specs.Observing.{ObserverSeesLine}
use Rattle.rme_line_check.proofs.WatchLemmas.{shown_all, shown_end, shown_more}
use Rattle.rme_line_io.proofs.RunLemmas.{came_turn, cut_off, none_left}
use Rattle.rme_line_io.proofs.TrafficLemmas.{fails_more, makes_more}
use Rattle.rme_line_check.proofs.check.judge_lines.Goals as goal

pub returns-then-eq-clause-verdict : goal.returns-then-eq-clause-verdict
returns-then-eq-clause-verdict g c =
    let left = bytes_left g.R.Source.remaining in
    let now = c.loop-cut in
    let over : c.in-Ok.cut ≡ End = search rules in
    now.invariant.leads Yes
    (judged_all now.judge.names now.judge.machine now.number (left now.lines) (none_left (left now.lines) (left c.next_line.new.self) c.in-Ok.cut c.next_line.new.line.items c.in-Ok.ensures.cut over))

pub overflow_add-number : goal.overflow_add-number
overflow_add-number g c = let first = c.args.lines.now.within in let now = c.loop-cut.invariant.counted in omega (arith, now, first.0, first.1, first.2, first.3)

pub loop-cut-preserved : goal.loop-cut-preserved
loop-cut-preserved g c =
    let left = bytes_left g.R.Source.remaining in
    let now = c.loop-cut in
    let new = c.next_line.new.self in
    let line = input_line_of c.in-Ok.cut c.as_slice.result.now in
    let cuts = rw (← c.as_slice.ensures.value) at c.in-Ok.ensures.cut in
    let more : c.in-Ok.cut ≢ End = search rules in
    let off = cut_off (left now.lines) (left new) c.in-Ok.cut c.as_slice.result.now cuts more in
    let P : LineFinding → Type 0 = λ f. IsLineFinding now.judge.names now.judge.machine line f c.judge_line.new.self.machine in
    let found = subst P c.in-Ok-Step.field-0-is c.in-Ok-Step.ensures.found in
    let fewer = c.in-Ok.ensures.fewer more in record {
      leads = leads_more c.args.judge.now.names now.judge.names c.judge_line.new.self.names c.args.judge.now.machine now.judge.machine c.judge_line.new.self.machine now.number _ (left c.args.lines.now) (left now.lines)
          (left new) line now.invariant.leads off found c.in-Ok-Step.ensures.names refl;
      shown = shown_more g.V.CheckObserver.sees c.args.judge.now.names now.judge.names c.judge_line.new.self.names c.args.judge.now.machine now.judge.machine c.judge_line.new.self.machine (left c.args.lines.now) (left now.lines) (left new) line
          c.args.watcher.now now.watcher c.judge_line.new.watcher now.invariant.shown off found (let Q : LineFinding → Type 0 = λ f. ObserverSeesLine g.V.CheckObserver.sees (event_read now.judge.names line) c.judge_line.new.self.machine f now.watcher c.judge_line.new.watcher in subst Q c.in-Ok-Step.field-0-is c.in-Ok-Step.ensures.shown) c.in-Ok-Step.ensures.names;
      came_on = came_turn c.args.lines.now now.lines new now.invariant.came_on c.in-Ok.ensures.ended c.in-Ok.ensures.reads fewer;
      counted = omega (arith, now.invariant.counted, fewer);
      reads = makes_more g.R.Source.gave c.args.lines.now now.lines new now.invariant.reads c.in-Ok.ensures.asks;
    }

pub returns-in-Ok-NoStep-clause-verdict : goal.returns-in-Ok-NoStep-clause-verdict
returns-in-Ok-NoStep-clause-verdict g c =
    let left = bytes_left g.R.Source.remaining in
    let now = c.loop-cut in
    let line = input_line_of c.in-Ok.cut c.as_slice.result.now in
    let cuts = rw (← c.as_slice.ensures.value) at c.in-Ok.ensures.cut in
    let more : c.in-Ok.cut ≢ End = search rules in
    let off = cut_off (left now.lines) (left c.next_line.new.self) c.in-Ok.cut c.as_slice.result.now cuts more in
    let P : LineFinding → Type 0 = λ f. IsLineFinding now.judge.names now.judge.machine line f c.judge_line.new.self.machine in
    now.invariant.leads (No now.number)
    (judged_no now.judge.names now.judge.machine c.judge_line.new.self.machine now.number (left now.lines) (left c.next_line.new.self) line off (subst P c.in-Ok-NoStep.field-0-is c.in-Ok-NoStep.ensures.found))

pub returns-in-Ok-NoEvent-clause-verdict : goal.returns-in-Ok-NoEvent-clause-verdict
returns-in-Ok-NoEvent-clause-verdict g c =
    let left = bytes_left g.R.Source.remaining in
    let now = c.loop-cut in
    let line = input_line_of c.in-Ok.cut c.as_slice.result.now in
    let cuts = rw (← c.as_slice.ensures.value) at c.in-Ok.ensures.cut in
    let more : c.in-Ok.cut ≢ End = search rules in
    let off = cut_off (left now.lines) (left c.next_line.new.self) c.in-Ok.cut c.as_slice.result.now cuts more in
    let P : LineFinding → Type 0 = λ f. IsLineFinding now.judge.names now.judge.machine line f c.judge_line.new.self.machine in
    now.invariant.leads (Bad now.number)
    (judged_bad now.judge.names now.judge.machine c.judge_line.new.self.machine now.number (left now.lines) (left c.next_line.new.self) line off (subst P c.in-Ok-NoEvent.field-0-is c.in-Ok-NoEvent.ensures.found))

pub returns-then-eq-clause-shown : goal.returns-then-eq-clause-shown
returns-then-eq-clause-shown g c =
    let left = bytes_left g.R.Source.remaining in
    let now = c.loop-cut in
    let over : c.in-Ok.cut ≡ End = search rules in
    now.invariant.shown now.watcher
    (shown_all g.V.CheckObserver.sees now.judge.names now.judge.machine (left now.lines) now.watcher (none_left (left now.lines) (left c.next_line.new.self) c.in-Ok.cut c.next_line.new.line.items c.in-Ok.ensures.cut over))

pub returns-in-Ok-NoStep-clause-shown : goal.returns-in-Ok-NoStep-clause-shown
returns-in-Ok-NoStep-clause-shown g c =
    let left = bytes_left g.R.Source.remaining in
    let now = c.loop-cut in
    let line = input_line_of c.in-Ok.cut c.as_slice.result.now in
    let cuts = rw (← c.as_slice.ensures.value) at c.in-Ok.ensures.cut in
    let more : c.in-Ok.cut ≢ End = search rules in
    let off = cut_off (left now.lines) (left c.next_line.new.self) c.in-Ok.cut c.as_slice.result.now cuts more in
    let P : LineFinding → Type 0 = λ f. IsLineFinding now.judge.names now.judge.machine line f c.judge_line.new.self.machine in
    let Q : LineFinding → Type 0 = λ f. ObserverSeesLine g.V.CheckObserver.sees (event_read now.judge.names line) c.judge_line.new.self.machine f now.watcher c.judge_line.new.watcher in
    now.invariant.shown c.judge_line.new.watcher
    (shown_end g.V.CheckObserver.sees now.judge.names now.judge.machine c.judge_line.new.self.machine (left now.lines) (left c.next_line.new.self) line NoStep now.watcher c.judge_line.new.watcher tt off
    (subst P c.in-Ok-NoStep.field-0-is c.in-Ok-NoStep.ensures.found) (subst Q c.in-Ok-NoStep.field-0-is c.in-Ok-NoStep.ensures.shown))

pub returns-in-Ok-NoEvent-clause-shown : goal.returns-in-Ok-NoEvent-clause-shown
returns-in-Ok-NoEvent-clause-shown g c =
    let left = bytes_left g.R.Source.remaining in
    let now = c.loop-cut in
    let line = input_line_of c.in-Ok.cut c.as_slice.result.now in
    let cuts = rw (← c.as_slice.ensures.value) at c.in-Ok.ensures.cut in
    let more : c.in-Ok.cut ≢ End = search rules in
    let off = cut_off (left now.lines) (left c.next_line.new.self) c.in-Ok.cut c.as_slice.result.now cuts more in
    let P : LineFinding → Type 0 = λ f. IsLineFinding now.judge.names now.judge.machine line f c.judge_line.new.self.machine in
    let Q : LineFinding → Type 0 = λ f. ObserverSeesLine g.V.CheckObserver.sees (event_read now.judge.names line) c.judge_line.new.self.machine f now.watcher c.judge_line.new.watcher in
    now.invariant.shown c.judge_line.new.watcher
    (shown_end g.V.CheckObserver.sees now.judge.names now.judge.machine c.judge_line.new.self.machine (left now.lines) (left c.next_line.new.self) line NoEvent now.watcher c.judge_line.new.watcher tt off
    (subst P c.in-Ok-NoEvent.field-0-is c.in-Ok-NoEvent.ensures.found) (subst Q c.in-Ok-NoEvent.field-0-is c.in-Ok-NoEvent.ensures.shown))

pub returns-in-Err-clause-reads : goal.returns-in-Err-clause-reads
returns-in-Err-clause-reads g c = let now = c.loop-cut in makes_more g.R.Source.gave c.args.lines.now now.lines c.next_line.new.self now.invariant.reads c.in-Err.ensures.asks

pub returns-then-eq-clause-reads : goal.returns-then-eq-clause-reads
returns-then-eq-clause-reads g c = let now = c.loop-cut in makes_more g.R.Source.gave c.args.lines.now now.lines c.next_line.new.self now.invariant.reads c.in-Ok.ensures.asks

pub returns-in-Ok-NoStep-clause-reads : goal.returns-in-Ok-NoStep-clause-reads
returns-in-Ok-NoStep-clause-reads g c = let now = c.loop-cut in makes_more g.R.Source.gave c.args.lines.now now.lines c.next_line.new.self now.invariant.reads c.in-Ok.ensures.asks

pub returns-in-Ok-NoEvent-clause-reads : goal.returns-in-Ok-NoEvent-clause-reads
returns-in-Ok-NoEvent-clause-reads g c = let now = c.loop-cut in makes_more g.R.Source.gave c.args.lines.now now.lines c.next_line.new.self now.invariant.reads c.in-Ok.ensures.asks

pub returns-in-Err-judge_line-clause-reads : goal.returns-in-Err-judge_line-clause-reads
returns-in-Err-judge_line-clause-reads g c = let now = c.loop-cut in makes_more g.R.Source.gave c.args.lines.now now.lines c.next_line.new.self now.invariant.reads c.in-Ok.ensures.asks

pub returns-in-Err-clause-read_broke : goal.returns-in-Err-clause-read_broke
returns-in-Err-clause-read_broke g c e = let now = c.loop-cut in fails_more g.R.Source.gave c.args.lines.now now.lines c.next_line.new.self now.invariant.reads (c.in-Err.ensures.broke e)
