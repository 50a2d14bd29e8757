-- How a response is written.
use Rattle.std.specs.Prelude.{ℕ, Bool, List, [], ◌++◌, codes, decimal, if◌then◌else◌, length}
use Rattle.rme_http.specs.declared.http_response.ContentKind.{ContentKind}
use Rattle.rme_http.specs.declared.http_response.ContentKind.TheVariants.{Plain, Json, MetricsText, Html}
use Rattle.rme_http.specs.declared.http_response.HttpStatus.{HttpStatus}
use Rattle.rme_http.specs.declared.http_response.HttpStatus.TheVariants.{Success, BadRequest, Forbidden, NotFound, MethodNotAllowed, HeadTooLarge, Unavailable}

abbrev pub status_line : HttpStatus → List ℕ
status_line Success = codes "200 OK"
status_line BadRequest = codes "400 Bad Request"
status_line Forbidden = codes "403 Forbidden"
status_line NotFound = codes "404 Not Found"
status_line MethodNotAllowed = codes "405 Method Not Allowed"
status_line HeadTooLarge = codes "431 Request Header Fields Too Large"
status_line Unavailable = codes "503 Service Unavailable"

-- The fields that only this status has.
abbrev pub status_fields : HttpStatus → List ℕ
status_fields MethodNotAllowed = codes "Allow: GET, HEAD\r\n"
status_fields status = []

abbrev pub content_type : ContentKind → List ℕ
content_type Plain = codes "text/plain; charset=utf-8"
content_type Json = codes "application/json"
content_type MetricsText = codes "text/plain; version=0.0.4; charset=utf-8"
content_type Html = codes "text/html; charset=utf-8"

-- The policy of what needs none: it loads nothing and stands in no frame.
abbrev pub closed_policy : List ℕ
closed_policy = codes "default-src 'none'; frame-ancestors 'none'"

-- A response up to its content: its status and its fields.
abbrev pub response_front : HttpStatus → ContentKind → List ℕ → List ℕ → List ℕ
response_front status kind policy content =
    codes "HTTP/1.1 " ++ (status_line status ++ (codes "\r\nContent-Type: " ++ (content_type kind
    ++ (codes "\r\nContent-Length: " ++ (decimal (length content)
    ++ (codes "\r\nContent-Security-Policy: " ++ (policy ++ (codes "\r\n" ++ (status_fields status
    ++ codes "Cache-Control: no-store\r\nX-Content-Type-Options: nosniff\r\nConnection: close\r\n\r\n")))))))))

-- A RESPONSE: its status, its fields, and its content; the answer to HEAD only tells the length of the content.
abbrev pub response_text : HttpStatus → ContentKind → List ℕ → List ℕ → Bool → List ℕ
response_text status kind policy content has_content =
    response_front status kind policy content ++ (if has_content then content else [])
