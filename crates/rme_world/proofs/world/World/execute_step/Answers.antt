use Rattle.std.proofs.Common.{refl, sym, subst, arith}
use Rattle.std.specs.Prelude.{◌-◌, ◌<◌, Some, length, slice_set}
use Rattle.rme_words.specs.declared.shape.Shape.{Shape}
use Rattle.rme_program.specs.declared.kinds.Phase.{Phase}
use Rattle.rme_world.specs.Counting.{phase_count}
use Rattle.rme_world.specs.WorldViews.{WorldView}
use Rattle.rme_world.specs.Events.{StepChange}
use Rattle.rme_world.proofs.Going.{lies, busy_within, counts_lie, known, takes, few, roomy, stepped}
use Rattle.rme_world.proofs.Worlds.{step_kept}
use Rattle.rme_world.proofs.world.World.execute_step.Goals as goal

pub next-requires-clause-private : goal.next-requires-clause-private
next-requires-clause-private c =
    let its = lies _ c.args.worker c.in-Some.private c.index_mut.result.now c.self.invariant (rw (← c.self.view_is) at c.requires.busy) c.index_mut.ensures.value c.in-Some.is in
    known _ c.args.worker c.in-Some.private c.self.invariant its.0 its.1 c.shape-shape.result c.shape-shape.ensures

pub next-requires-clause-busy : goal.next-requires-clause-busy
next-requires-clause-busy c =
    let its = lies _ c.args.worker c.in-Some.private c.index_mut.result.now c.self.invariant (rw (← c.self.view_is) at c.requires.busy) c.index_mut.ensures.value c.in-Some.is in
    its.1

pub after-note-requires-clause-private : goal.after-note-requires-clause-private
after-note-requires-clause-private c =
    let its = lies _ c.args.worker c.in-Some.private c.index_mut.result.now c.self.invariant (rw (← c.self.view_is) at c.requires.busy) c.index_mut.ensures.value c.in-Some.is in
    known _ c.args.worker c.in-Some.private c.self.invariant its.0 its.1 c.shape-shape.result c.shape-shape.ensures

pub after-note-requires-clause-value : goal.after-note-requires-clause-value
after-note-requires-clause-value c =
    let its = lies _ c.args.worker c.in-Some.private c.index_mut.result.now c.self.invariant (rw (← c.self.view_is) at c.requires.busy) c.index_mut.ensures.value c.in-Some.is in
    takes _ c.args.worker c.in-Some.private c.self.invariant its.0 its.1 c.shape-shape.result c.shape-shape.ensures c.perform-found.new.bank.words c.next.result c.perform-found.result c.perform-found.new.bank.shape c.perform-found.ensures.shape c.next.ensures.action c.perform-found.ensures.did

pub record-requires-clause-worker : goal.record-requires-clause-worker
record-requires-clause-worker c = subst (λ (shape : Shape). c.args.worker < shape.workers) (sym c.perform-found.ensures.shape) (busy_within _ c.args.worker c.self.invariant (rw (← c.self.view_is) at c.requires.busy))

pub record-requires-clause-room : goal.record-requires-clause-room
record-requires-clause-room c receipt finished =
    let its = lies _ c.args.worker c.in-Some.private c.index_mut.result.now c.self.invariant (rw (← c.self.view_is) at c.requires.busy) c.index_mut.ensures.value c.in-Some.is in
    let some = roomy _ c.args.worker c.in-Some.private c.self.invariant its.0 its.1 c.shape-shape.result c.shape-shape.ensures c.perform-found.new.bank.words c.next.result c.perform-found.result c.perform-found.new.bank.shape c.perform-found.ensures.shape c.next.ensures.action c.perform-found.ensures.did c.after-note.result c.after-note.ensures.note receipt finished in
    omega (arith, some)

pub index_mut-counts-requires : goal.index_mut-counts-requires
index_mut-counts-requires c = omega (arith, (busy_within _ c.args.worker c.self.invariant (rw (← c.self.view_is) at c.requires.busy)), c.self.invariant.all_counts, c.self.inside.counts.ok.0)

pub after_step-requires : goal.after_step-requires
after_step-requires c =
    let its = lies _ c.args.worker c.in-Some.private c.index_mut.result.now c.self.invariant (rw (← c.self.view_is) at c.requires.busy) c.index_mut.ensures.value c.in-Some.is in
    subst (λ (phase : Phase). phase_count c.index_mut-counts.result.now phase < 4294967295) (sym c.phase-before.ensures)
    (few _ c.args.worker c.in-Some.private c.self.invariant its.0 its.1 c.index_mut-counts.result.now (counts_lie _ c.args.worker c.index_mut-counts.result.now c.self.invariant (busy_within _ c.args.worker c.self.invariant (rw (← c.self.view_is) at c.requires.busy)) c.index_mut-counts.ensures.value))

pub invariant_of-self : goal.invariant_of-self
invariant_of-self c =
    let its = lies _ c.args.worker c.in-Some.private c.index_mut.result.now c.self.invariant (rw (← c.self.view_is) at c.requires.busy) c.index_mut.ensures.value c.in-Some.is in
    step_kept _ _ c.args.worker c.after-note.result
    (stepped _ c.args.worker c.in-Some.private c.self.invariant its.0 its.1 _
    c.shape-shape.result c.shape-shape.ensures c.next.result c.perform-found.result c.after-note.new.private c.after-note.result c.after_step.new.self c.index_mut-counts.result.now c.phase-before.result c.phase-now.result
    c.perform-found.ensures.shape c.next.ensures.action c.perform-found.ensures.did c.after-note.ensures.after c.after-note.ensures.note refl refl c.record.ensures.entries
    c.record.ensures.room
    (counts_lie _ c.args.worker c.index_mut-counts.result.now c.self.invariant (busy_within _ c.args.worker c.self.invariant (rw (← c.self.view_is) at c.requires.busy)) c.index_mut-counts.ensures.value) c.phase-before.ensures c.phase-now.ensures c.after_step.ensures)
    c.self.invariant

pub returns-clause-steps : goal.returns-clause-steps
returns-clause-steps c =
    let its = lies _ c.args.worker c.in-Some.private c.index_mut.result.now c.self.invariant (rw (← c.self.view_is) at c.requires.busy) c.index_mut.ensures.value c.in-Some.is in
    subst (λ (old : WorldView). StepChange old c.args.worker c.after-note.result record {
      shape = c.perform-found.new.bank.shape;
      words = c.perform-found.new.bank.words;
      privates = slice_set c.self.inside.privates.items c.args.worker (Some c.after-note.new.private);
      history = c.record.new.history.entries;
      counts = slice_set c.self.inside.counts.items c.args.worker c.after_step.new.self;
      room = c.record.new.history.room - length c.record.new.history.entries;
    }) c.self.view_is
    (stepped _ c.args.worker c.in-Some.private c.self.invariant its.0 its.1 record {
      shape = c.perform-found.new.bank.shape;
      words = c.perform-found.new.bank.words;
      privates = slice_set c.self.inside.privates.items c.args.worker (Some c.after-note.new.private);
      history = c.record.new.history.entries;
      counts = slice_set c.self.inside.counts.items c.args.worker c.after_step.new.self;
      room = c.record.new.history.room - length c.record.new.history.entries;
    }
    c.shape-shape.result c.shape-shape.ensures c.next.result c.perform-found.result c.after-note.new.private c.after-note.result c.after_step.new.self c.index_mut-counts.result.now c.phase-before.result c.phase-now.result
    c.perform-found.ensures.shape c.next.ensures.action c.perform-found.ensures.did c.after-note.ensures.after c.after-note.ensures.note refl refl c.record.ensures.entries
    c.record.ensures.room
    (counts_lie _ c.args.worker c.index_mut-counts.result.now c.self.invariant (busy_within _ c.args.worker c.self.invariant (rw (← c.self.view_is) at c.requires.busy)) c.index_mut-counts.ensures.value) c.phase-before.ensures c.phase-now.ensures c.after_step.ensures)
