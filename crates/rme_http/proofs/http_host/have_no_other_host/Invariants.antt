use Rattle.std.proofs.Common.{◌≡◌, drop, map}
use Rattle.std.specs.List.{list_all}
use Rattle.httparse.specs.Spans.{header_bytes}
use Rattle.rme_http.specs.Hosts.{is_no_other_host}
use Rattle.rme_http.proofs.http_host.have_no_other_host.Given as goal

abbrev pub invariant-loop-field : goal.invariant-loop-field
invariant-loop-field l =
    list_all is_no_other_host (map (header_bytes l.input) l.fields)
    ≡ list_all is_no_other_host (map (header_bytes l.input) (drop l.field-index l.fields))
