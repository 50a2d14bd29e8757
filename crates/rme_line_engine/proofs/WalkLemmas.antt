-- A walk, step by step.
use Rattle.std.proofs.Common.{◌≡◌, ℕ, zero, suc, ◌+◌, List, [], ◌++◌, Bool, Option, Some, None, Result, Ok, Err, refl, subst, append_assoc, append-nil, sym, ap, ◌∙◌, arith}
use Rattle.rme_words.specs.declared.refusal.Refusal.{Refusal}
use Rattle.rme_program.specs.declared.note.Note.{Note}
use Rattle.rme_line_text.specs.declared.walked.WalkEnd.{WalkEnd}
use Rattle.rme_line_text.specs.declared.walked.WalkEnd.TheVariants as end
use Rattle.rme_wire.specs.declared.command.Until.{Until}
use Rattle.rme_world.specs.Calls.{ReadyContract}
use Rattle.rme_line_engine.specs.declared.tallied.TalliedWorld.{TalliedWorld}
use Rattle.rme_line_engine.specs.Tallies.{TalliedStep}
use Rattle.rme_line_engine.specs.WorldWalks.{WalkAfterNote, WalkStepSequence, walk_end_after, walk_notes_of, walk_outcome}

pub walk_over : (old : TalliedWorld) (worker : ℕ) (wanted : Option Until) (k : ℕ) → k ≡ 0 → WalkStepSequence k old worker wanted (walk_outcome [] (Ok end.Max) old)
unfolding WalkStepSequence
walk_over old worker wanted zero e = (refl, refl, refl)
walk_over old worker wanted (suc k) e = absurd (omega arith)

pub walk_refused : (old mid : TalliedWorld) (worker : ℕ) (wanted : Option Until) (refusal : Refusal) (k n : ℕ) → k ≡ n + 1 → TalliedStep old worker (Err refusal) mid
    → WalkStepSequence k old worker wanted (walk_outcome [] (Err refusal) mid)
unfolding WalkStepSequence
walk_refused old mid worker wanted refusal zero n e stepped = absurd (omega arith)
walk_refused old mid worker wanted refusal (suc k) n e stepped = (Err refusal, mid, stepped, (refl, refl, refl))

pub walk_ended : (old mid : TalliedWorld) (worker : ℕ) (wanted : Option Until) (note : Note) (ready : Result Bool Refusal) (why : WalkEnd) (k n : ℕ) → k ≡ n + 1 → TalliedStep old worker (Ok note) mid
    → ReadyContract mid.world worker ready → Some why ≡ walk_end_after wanted note ready → WalkStepSequence k old worker wanted (walk_outcome (walk_notes_of note) (Ok why) mid)
unfolding WalkStepSequence
walk_ended old mid worker wanted note ready why zero n e stepped shows ends = absurd (omega arith)
walk_ended old mid worker wanted note ready why (suc k) n e stepped shows ends =
    let P : Option WalkEnd → Type 0 = λ w. WalkAfterNote (WalkStepSequence k mid worker wanted) mid note w (walk_outcome (walk_notes_of note) (Ok why) mid) in
    (Ok note, mid, stepped, (ready, shows, subst P ends (refl, refl, refl)))

pub walk_goes : (old mid new : TalliedWorld) (worker : ℕ) (wanted : Option Until) (note : Note) (ready : Result Bool Refusal) (rest : List Note) (outcome : Result WalkEnd Refusal) (k n : ℕ) → k ≡ n + 1
    → TalliedStep old worker (Ok note) mid → ReadyContract mid.world worker ready → None ≡ walk_end_after wanted note ready → WalkStepSequence n mid worker wanted (walk_outcome rest outcome new)
    → WalkStepSequence k old worker wanted (walk_outcome (walk_notes_of note ++ rest) outcome new)
unfolding WalkStepSequence
walk_goes old mid new worker wanted note ready rest outcome zero n e stepped shows ends walks = absurd (omega arith)
walk_goes old mid new worker wanted note ready rest outcome (suc k) n e stepped shows ends walks =
    let same : n ≡ k = omega arith in
    let Q : ℕ → Type 0 = λ m. WalkStepSequence m mid worker wanted (walk_outcome rest outcome new) in
    let P : Option WalkEnd → Type 0 = λ w. WalkAfterNote (WalkStepSequence k mid worker wanted) mid note w (walk_outcome (walk_notes_of note ++ rest) outcome new) in
    (Ok note, mid, stepped, (ready, shows, subst P ends (rest, subst Q same walks, refl)))

-- A completion of the walk from here is one from the start, with its notes after those so far.
abbrev pub Completes : ℕ → Option Until → ℕ → TalliedWorld → ℕ → TalliedWorld → List Note → Type 0
Completes worker wanted most start left now seen =
    (rest : List Note) (outcome : Result WalkEnd Refusal) (new : TalliedWorld) → WalkStepSequence left now worker wanted (walk_outcome rest outcome new) → WalkStepSequence most start worker wanted (walk_outcome (seen ++ rest) outcome new)

pub completes_first : (worker : ℕ) (wanted : Option Until) (most left : ℕ) (start : TalliedWorld) (seen : List Note) → left ≡ most → seen ≡ [] → Completes worker wanted most start left start seen
completes_first worker wanted most left start seen e none rest outcome new walks =
    let P : ℕ → Type 0 = λ m. WalkStepSequence m start worker wanted (walk_outcome rest outcome new) in
    let Q : List Note → Type 0 = λ ns. WalkStepSequence most start worker wanted (walk_outcome (ns ++ rest) outcome new) in subst Q (sym none) (subst P e walks)

-- a step whose note is appended
pub completes_more : (worker : ℕ) (wanted : Option Until) (most left later : ℕ) (start now mid : TalliedWorld) (seen more : List Note) (note : Note) (ready : Result Bool Refusal)
    → Completes worker wanted most start left now seen → left ≡ later + 1 → TalliedStep now worker (Ok note) mid → ReadyContract mid.world worker ready → None ≡ walk_end_after wanted note ready
    → more ≡ seen ++ walk_notes_of note → Completes worker wanted most start later mid more
completes_more worker wanted most left later start now mid seen more note ready completes e stepped shows goes is rest outcome new walks =
    let P : List Note → Type 0 = λ ns. WalkStepSequence most start worker wanted (walk_outcome ns outcome new) in
    subst P (sym (append_assoc seen (walk_notes_of note) rest) ∙ ap (λ (ns : List Note). ns ++ rest) (sym is))
    (completes (walk_notes_of note ++ rest) outcome new (walk_goes now mid new worker wanted note ready rest outcome left later e stepped shows goes walks))

-- a step that ended the walk
pub completes_ended : (worker : ℕ) (wanted : Option Until) (most left later : ℕ) (start now mid : TalliedWorld) (seen more : List Note) (note : Note) (ready : Result Bool Refusal) (why : WalkEnd)
    → Completes worker wanted most start left now seen → left ≡ later + 1 → TalliedStep now worker (Ok note) mid → ReadyContract mid.world worker ready → Some why ≡ walk_end_after wanted note ready
    → more ≡ seen ++ walk_notes_of note → WalkStepSequence most start worker wanted (walk_outcome more (Ok why) mid)
completes_ended worker wanted most left later start now mid seen more note ready why completes e stepped shows ends is =
    let P : List Note → Type 0 = λ ns. WalkStepSequence most start worker wanted (walk_outcome ns (Ok why) mid) in
    subst P (sym is) (completes (walk_notes_of note) (Ok why) mid (walk_ended now mid worker wanted note ready why left later e stepped shows ends))

-- no step was left
pub completes_over : (worker : ℕ) (wanted : Option Until) (most left : ℕ) (start now : TalliedWorld) (seen : List Note) → Completes worker wanted most start left now seen → left ≡ 0
    → WalkStepSequence most start worker wanted (walk_outcome seen (Ok end.Max) now)
completes_over worker wanted most left start now seen completes e =
    let P : List Note → Type 0 = λ ns. WalkStepSequence most start worker wanted (walk_outcome ns (Ok end.Max) now) in
    subst P (append-nil seen) (completes [] (Ok end.Max) now (walk_over now worker wanted left e))

-- a step was refused
pub completes_refused : (worker : ℕ) (wanted : Option Until) (most left later : ℕ) (start now mid : TalliedWorld) (seen : List Note) (refusal : Refusal) → Completes worker wanted most start left now seen
    → left ≡ later + 1 → TalliedStep now worker (Err refusal) mid → WalkStepSequence most start worker wanted (walk_outcome seen (Err refusal) mid)
completes_refused worker wanted most left later start now mid seen refusal completes e stepped =
    let P : List Note → Type 0 = λ ns. WalkStepSequence most start worker wanted (walk_outcome ns (Err refusal) mid) in
    subst P (append-nil seen) (completes [] (Err refusal) mid (walk_refused now mid worker wanted refusal left later e stepped))
