-- Of any number of tries of one add at most one is made.
use Rattle.std.proofs.Common.{◌≡◌, ◌≢◌, suc, ◌≤◌, true, false, List, [], ◌∷◌, refl, sym, ap, ◌∙◌, arith}
use Rattle.rme_replica.specs.EngineLogs.{HeadValue}
use Rattle.rme_replica.specs.Tries.{Add, TriedLog, added, LogEvent, Tried, ByOther, FollowsAll, IsMadeAtMostOnce, TellsByHead, WasMade, times_made}

module _ (add : Add) (new : add.next ≢ add.seen) where
  moved : (before between : TriedLog) → between ≡ added add before → between.head ≢ add.seen
  moved before between is e = new (sym (ap (λ (log : TriedLog). log.head) is) ∙ e)

  off : (head : HeadValue) (before between : TriedLog) → between ≡ before → before.head ≢ head → between.head ≢ head
  off head before between is off_it e = off_it (sym (ap (λ (log : TriedLog). log.head) is) ∙ e)

  none_made : (events : List LogEvent) (before after : TriedLog) → before.head ≢ add.seen → FollowsAll add events before after → times_made events ≡ 0
  none_made [] before after off_it f = refl
  none_made (Tried true ∷ events) before after off_it f = absurd (off_it f.1.0)
  none_made (Tried false ∷ events) before after off_it f = none_made events f.0 after (off add.seen before f.0 f.1.1 off_it) f.2
  none_made (ByOther log ∷ events) before after off_it f = none_made events f.0 after (off add.seen log f.0 f.1.2 f.1.0) f.2

  never_next : (events : List LogEvent) (before after : TriedLog) → before.head ≢ add.seen → before.head ≢ add.next → FollowsAll add events before after → after.head ≢ add.next
  never_next [] before after off_it other f = off add.next before after f other
  never_next (Tried true ∷ events) before after off_it other f = absurd (off_it f.1.0)
  never_next (Tried false ∷ events) before after off_it other f = never_next events f.0 after (off add.seen before f.0 f.1.1 off_it) (off add.next before f.0 f.1.1 other) f.2
  never_next (ByOther log ∷ events) before after off_it other f = never_next events f.0 after (off add.seen log f.0 f.1.2 f.1.0) (off add.next log f.0 f.1.2 f.1.1) f.2

  stays : (events : List LogEvent) (before after : TriedLog) → before.head ≢ add.seen → FollowsAll add events before after → after.head ≡ add.next → after ≡ before
  stays [] before after off_it f is = f
  stays (Tried true ∷ events) before after off_it f is = absurd (off_it f.1.0)
  stays (Tried false ∷ events) before after off_it f is = stays events f.0 after (off add.seen before f.0 f.1.1 off_it) f.2 is ∙ f.1.1
  stays (ByOther log ∷ events) before after off_it f is = absurd (never_next events f.0 after (off add.seen log f.0 f.1.2 f.1.0) (off add.next log f.0 f.1.2 f.1.1) f.2 is)

  pub at_most_once : (events : List LogEvent) (before after : TriedLog) → FollowsAll add events before after → times_made events ≤ 1
  at_most_once [] before after f = omega arith
  at_most_once (Tried true ∷ events) before after f = omega (arith, none_made events f.0 after (moved before f.0 f.1.1) f.2)
  at_most_once (Tried false ∷ events) before after f = at_most_once events f.0 after f.2
  at_most_once (ByOther log ∷ events) before after f = at_most_once events f.0 after f.2

  pub told : (events : List LogEvent) (before after : TriedLog) → before.head ≢ add.next → FollowsAll add events before after → after.head ≡ add.next → WasMade add events after
  told [] before after off_it f is = absurd (off add.next before after f off_it is)
  told (Tried true ∷ events) before after off_it f is = record {
    once = ap suc (none_made events f.0 after (moved before f.0 f.1.1) f.2);
    at = before;
    saw = f.1.0;
    left = stays events f.0 after (moved before f.0 f.1.1) f.2 is ∙ f.1.1;
  }
  told (Tried false ∷ events) before after off_it f is =
      let w : WasMade add events after = told events f.0 after (off add.next before f.0 f.1.1 off_it) f.2 is in
      record { once = w.once; at = w.at; saw = w.saw; left = w.left }
  told (ByOther log ∷ events) before after off_it f is =
      let w : WasMade add events after = told events f.0 after (off add.next log f.0 f.1.2 f.1.1) f.2 is in
      record { once = w.once; at = w.at; saw = w.saw; left = w.left }

pub made_once : IsMadeAtMostOnce
made_once add events before after new f = at_most_once add new events before after f

pub told_by_head : TellsByHead
told_by_head add events before after new off_it f is = told add new events before after off_it f is
