use Rattle.std.proofs.Common.{length, take}
use Rattle.rme_http.proofs.Reading.{lie_within}
use Rattle.rme_http.proofs.http_request.read_head.Goals as goal

pub name_this_machine-requires : goal.name_this_machine-requires
name_this_machine-requires c =
    lie_within c.args.head.len (length c.args.input.now) (take c.args.head.headers c.args.fields.now) c.requires.within.section.len_fits
    c.requires.within.section.headers_fit
