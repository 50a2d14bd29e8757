use Rattle.std.proofs.Common.{◌≡◌, drop, map}
use Rattle.std.specs.List.{list_any}
use Rattle.httparse.specs.Spans.{header_bytes}
use Rattle.rme_http.specs.Hosts.{is_host}
use Rattle.rme_http.proofs.http_host.have_host.Given as goal

abbrev pub invariant-loop-field : goal.invariant-loop-field
invariant-loop-field l =
    list_any is_host (map (header_bytes l.input) l.fields)
    ≡ list_any is_host (map (header_bytes l.input) (drop l.field-index l.fields))
