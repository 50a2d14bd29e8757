use Rattle.std.proofs.Common.{◌≡◌, ◌+◌, suc, sym, ◌∙◌, ap, arith, length}
use Rattle.rme_durable_log.proofs.Telling.{tells_moves}
use Rattle.rme_durable_log.proofs.log_position.LogPosition.append_entry.Goals as goal

pub compare_exchange-found-requires : goal.compare_exchange-found-requires
compare_exchange-found-requires g c =
    let h = c.requires.head in
    let offer = c.plain-offer.ensures in
    let pen = c.no_pen-pen.ensures in
    let seen = c.again-seen.ensures in
    let book = ap (λ s. s.book) seen ∙ c.self.invariant.1 in
    let long : length c.again-seen.result.log ≡ suc c.self.inside.count = ap (λ s. length s.log) seen ∙ c.self.invariant.0 in (
      ap (λ w. w.tracked) h,
      book ∙ sym (ap (λ w. w.book) h),
      pen.0 ∙ (book ∙ sym (ap (λ w. w.book) h)),
      offer.0,
      rw (ap (λ w. w.key) h, pen.1, offer.1, offer.3 ∙ c.requires.new) (tells_moves c.again-seen.result.log (g.M.Plain.ask c.args.about.now) c.self.inside.count (c.self.inside.count + 1) long (omega arith)),
    )
