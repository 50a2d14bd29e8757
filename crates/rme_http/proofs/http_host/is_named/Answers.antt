use Rattle.rme_http.proofs.Hosts.{named_by_parts, not_named_by_letters, short_host}
use Rattle.rme_http.proofs.http_host.is_named.Goals as goal

pub returns-then-host-name : goal.returns-then-host-name
returns-then-host-name c = short_host c.args.name.now c.args.host.now c.if-host-name.true

pub returns-then-not-have_same_letters : goal.returns-then-not-have_same_letters
returns-then-not-have_same_letters c =
    not_named_by_letters c.args.name.now c.args.host.now _ c.have_same_letters.result c.split_at.ensures.front c.have_same_letters.ensures c.if-not-have_same_letters.true

pub returns : goal.returns
returns c =
    named_by_parts c.args.name.now c.args.host.now _ _ c.have_same_letters.result c.is_port_part.result c.split_at.ensures.front c.split_at.ensures.back
    c.have_same_letters.ensures c.if-not-have_same_letters.false c.is_port_part.ensures
