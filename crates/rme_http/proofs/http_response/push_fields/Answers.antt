use Rattle.rme_http.proofs.http_response.push_fields.Goals as goal

pub returns : goal.returns
returns c = rw (← c.line-line.ensures, ← c.media_type-media.ensures, ← c.fields-fields.ensures) c.write.ensures.bytes
