-- The bytes of a request to a node.
use Rattle.std.specs.Prelude.{ℕ, List, [], ◌++◌, codes, length}
use Rattle.http1.specs.declared.client.Client.{Client}
use Rattle.http1.specs.declared.conn.BodySize.TheVariants.{Known}
use Rattle.http1.specs.Client.{after_request, planned_request, with_writing, writing}
use Rattle.http1.specs.Conn.{after_data, data_text, finish_text}

-- The client after the head of a POST with these headers.
abbrev pub posting : Client → List (List ℕ × List ℕ) → List ℕ → Client
posting client headers body = after_request client (codes "POST") (Known (length body)) headers

-- The client after the body too.
abbrev pub posted : Client → List (List ℕ × List ℕ) → List ℕ → Client
posted client headers body = let started = posting client headers body in
    with_writing started (after_data (writing started) (length body))

-- THE BYTES OF A POST: the head with this path and these headers, this body, and the end, as http1 writes them. What is
-- written so reads back as this request (http1).
abbrev pub post_text : Client → List ℕ → List (List ℕ × List ℕ) → List ℕ → List ℕ
post_text client path headers body =
    planned_request client (codes "POST") path (Known (length body)) headers
    ++ data_text (writing (posting client headers body)) body ++ finish_text (writing (posted client headers body)) []
