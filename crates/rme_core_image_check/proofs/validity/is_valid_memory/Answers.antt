use Rattle.std.proofs.Common.{◌≡◌, refl, sym, ◌∙◌, ap, subst}
use Rattle.rme_words.specs.declared.shape.Shape.{Shape}
use Rattle.rme_words.specs.Words.{memory_of}
use Rattle.rme_history.specs.Legal.{LockHistoriesAreLegal, rows_of_locks}
use Rattle.rme_history.specs.declared.fault.ReplayFault.TheVariants.{Broken, NoMemory}
use Rattle.rme_core_image_check.specs.LastEntryLists.{EntryNumbersRise, AreLastEntries}
use Rattle.rme_core_image_check.proofs.Answering.{no_to, refuted}
use Rattle.rme_core_image_check.proofs.LastEntries.{lasts_long, lasts_same}
use Rattle.rme_core_image_check.proofs.Together.{good_legal, good_rise, good_accounts, can_stand, good_both}
use Rattle.rme_core_image_check.proofs.validity.is_valid_memory.Goals as goal

pub returns-in-Err-Broken : goal.returns-in-Err-Broken
returns-in-Err-Broken c =
    no_to (λ good.
    let legal : LockHistoriesAreLegal c.shape-shape.result c.args.entries.now.entries = subst (λ (s : Shape). LockHistoriesAreLegal s c.args.entries.now.entries) (sym c.shape-shape.ensures) (good_legal _ _ _ good) in
    let memory : c.in-Err-Broken.field-0 ≡ NoMemory = c.in-Err-Broken.ensures.accepted legal in
    let broken : c.in-Err-Broken.field-0 ≡ Broken c.in-Err-Broken.field-0-0 = c.in-Err-Broken.field-0-is in
    absurd (cc))

pub returns-in_default : goal.returns-in_default
returns-in_default c =
    let none : EntryNumbersRise c.shape-shape.result c.args.entries.now.entries → ⊥ = rw c.in_default.is at c.in_ok-lasts.ensures in
    no_to (λ good. none (subst (λ (s : Shape). EntryNumbersRise s c.args.entries.now.entries) (sym c.shape-shape.ensures) (good_rise _ _ _ good)))

pub are_workers_valid-requires : goal.are_workers_valid-requires
are_workers_valid-requires c =
    let found : EntryNumbersRise c.shape-shape.result c.args.entries.now.entries × AreLastEntries c.shape-shape.result c.args.entries.now.entries c.in-Some.lasts.by_worker.items c.in-Some.lasts.at_lock.items =
    rw c.in-Some.is at c.in_ok-lasts.ensures in
    (lasts_long c.args.bank.now.shape c.args.entries.now.entries c.deref.result.now c.in-Some.lasts.at_lock.items
    (lasts_same _ _ c.args.entries.now.entries _ _ _ _ c.shape-shape.ensures c.deref.ensures.value refl found.1)).0

pub returns-then-not-are_workers_valid : goal.returns-then-not-are_workers_valid
returns-then-not-are_workers_valid c =
    let found : EntryNumbersRise c.shape-shape.result c.args.entries.now.entries × AreLastEntries c.shape-shape.result c.args.entries.now.entries c.in-Some.lasts.by_worker.items c.in-Some.lasts.at_lock.items =
    rw c.in-Some.is at c.in_ok-lasts.ensures in
    no_to (λ good. refuted c.if-not-are_workers_valid.ensures
    (good_accounts c.args.bank.now.shape (memory_of c.args.bank.now) c.args.entries.now.entries c.deref.result.now c.in-Some.lasts.at_lock.items
    (lasts_same _ _ c.args.entries.now.entries _ _ _ _ c.shape-shape.ensures c.deref.ensures.value refl found.1) good))

pub are_locks_valid-requires : goal.are_locks_valid-requires
are_locks_valid-requires c =
    let found : EntryNumbersRise c.shape-shape.result c.args.entries.now.entries × AreLastEntries c.shape-shape.result c.args.entries.now.entries c.in-Some.lasts.by_worker.items c.in-Some.lasts.at_lock.items =
    rw c.in-Some.is at c.in_ok-lasts.ensures in
    let lasts : AreLastEntries c.args.bank.now.shape c.args.entries.now.entries c.deref.result.now c.deref-3.result.now =
    lasts_same _ _ c.args.entries.now.entries _ _ _ _ c.shape-shape.ensures c.deref.ensures.value c.deref-3.ensures.value found.1 in
    can_stand c.args.bank.now.shape (memory_of c.args.bank.now) c.args.entries.now.entries c.deref.result.now c.deref-3.result.now lasts
    c.deref-2.result.now (c.deref-2.ensures.value ∙ c.in-Ok.ensures.rows ∙ ap (λ (s : Shape). rows_of_locks s c.args.entries.now.entries) c.shape-shape.ensures)
    (subst (λ (s : Shape). LockHistoriesAreLegal s c.args.entries.now.entries) c.shape-shape.ensures c.in-Ok.ensures.legal)
    (subst (λ (s : Shape). EntryNumbersRise s c.args.entries.now.entries) c.shape-shape.ensures found.0)
    (c.if-not-are_workers_valid.ensures.0 refl)

pub returns : goal.returns
returns c =
    let found : EntryNumbersRise c.shape-shape.result c.args.entries.now.entries × AreLastEntries c.shape-shape.result c.args.entries.now.entries c.in-Some.lasts.by_worker.items c.in-Some.lasts.at_lock.items =
    rw c.in-Some.is at c.in_ok-lasts.ensures in
    let lasts : AreLastEntries c.args.bank.now.shape c.args.entries.now.entries c.deref.result.now c.deref-3.result.now =
    lasts_same _ _ c.args.entries.now.entries _ _ _ _ c.shape-shape.ensures c.deref.ensures.value c.deref-3.ensures.value found.1 in
    let both =
    good_both c.args.bank.now.shape (memory_of c.args.bank.now) c.args.entries.now.entries c.deref.result.now c.deref-3.result.now lasts
    c.deref-2.result.now (c.deref-2.ensures.value ∙ c.in-Ok.ensures.rows ∙ ap (λ (s : Shape). rows_of_locks s c.args.entries.now.entries) c.shape-shape.ensures)
    (subst (λ (s : Shape). LockHistoriesAreLegal s c.args.entries.now.entries) c.shape-shape.ensures c.in-Ok.ensures.legal)
    (subst (λ (s : Shape). EntryNumbersRise s c.args.entries.now.entries) c.shape-shape.ensures found.0)
    (c.if-not-has_nodes.ensures.0 refl) (c.if-not-are_workers_valid.ensures.0 refl) in
    ((λ stand. both.0 (c.are_locks_valid.ensures.0 stand)), (λ good. c.are_locks_valid.ensures.1 (both.1 good)))
