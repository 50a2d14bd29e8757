use Rattle.std.proofs.Common.{string_bytes, codes}
use Rattle.rme_durable_lookups.specs.StatusTexts.{epoch_text, leader_text}
use Rattle.rme_line_text.proofs.TextLemmas.{append_three}
use Rattle.rme_durable_lookups.proofs.status.push_status_front.Goals as goal

pub returns : goal.returns
returns c =
    append_three (string_bytes c.args.out.now) _ _ _ (epoch_text c.args.epoch) (leader_text c.args.leader.now) (codes ",\"locks\":[")
    c.in_ok-push_epoch.ensures c.in_ok-push_leader.ensures c.in_ok-push_str.ensures.bytes
