-- What is answered to the bytes of a request.
use Rattle.std.specs.Prelude.{◌≡◌, ◌⊎◌, ◌<◌, ℕ, Bool, true, false, List, ◌++◌, Option, Some, None, codes, length, string_bytes}
use Rattle.std.specs.Option.{option_copied}
use Rattle.httparse.specs.Grammar.{HasNoRequest}
use Rattle.rme_http.specs.Page.{whole_page}
use Rattle.rme_http.specs.Reading.{ReadsHead}
use Rattle.rme_http.specs.Responses.{closed_policy, response_text, status_line}
use Rattle.rme_http.specs.Targets.{wants_content}
use Rattle.rme_http.specs.declared.page.TheConstants.{PAGE_POLICY}
use Rattle.rme_http.specs.declared.answering.HttpOutcome.{HttpOutcome}
use Rattle.rme_http.specs.declared.answering.HttpOutcome.TheVariants as outcome
use Rattle.rme_http.specs.declared.http_request.HttpMethod.{HttpMethod}
use Rattle.rme_http.specs.declared.http_request.HttpMethod.TheVariants as method
use Rattle.rme_http.specs.declared.http_request.HttpTarget.{HttpTarget}
use Rattle.rme_http.specs.declared.http_request.RequestRead.{RequestRead}
use Rattle.rme_http.specs.declared.http_request.RequestRead.TheVariants.{NeedMore, Whole, OtherHost, TooLarge, Malformed}
use Rattle.rme_http.specs.declared.http_request.Resource.{Resource}
use Rattle.rme_http.specs.declared.http_request.Resource.TheVariants as resource
use Rattle.rme_http.specs.declared.http_response.ContentKind.{ContentKind}
use Rattle.rme_http.specs.declared.http_response.ContentKind.TheVariants.{Plain, Json, MetricsText, Html}
use Rattle.rme_http.specs.declared.http_response.HttpStatus.{HttpStatus}
use Rattle.rme_http.specs.declared.http_response.HttpStatus.TheVariants.{Success, BadRequest, Forbidden, NotFound, MethodNotAllowed, HeadTooLarge, Unavailable}

-- A response whose content is its status.
abbrev pub refusal_text : HttpStatus → Bool → List ℕ
refusal_text status has_content =
    response_text status Plain closed_policy (status_line status ++ codes "\n") has_content

-- A response with a content of this kind that was found; without a content, the refusal NotFound.
abbrev pub FindsContent : ContentKind → Bool → Option (List ℕ) → List ℕ → Type 0
FindsContent kind has_content None text = text ≡ refusal_text NotFound has_content
FindsContent kind has_content (Some content) text = text ≡ response_text Success kind closed_policy content has_content

-- The same, of one of these contents.
abbrev pub TellsContent : ContentKind → Bool → (List ℕ → Type 0) → List ℕ → Type 0
TellsContent kind has_content contents text =
    (text ≡ refusal_text NotFound has_content)
    ⊎ ((content : List ℕ) × contents content × (text ≡ response_text Success kind closed_policy content has_content))

-- The response with the page, under the policy of the page.
abbrev pub ShowsPage : Bool → List ℕ → Type 0
ShowsPage has_content text = text ≡ response_text Success Html PAGE_POLICY.now whole_page has_content

-- The page; at a server without a page, the refusal NotFound.
abbrev pub TellsPage : Bool → List ℕ → Type 0
TellsPage has_content text = ShowsPage has_content text ⊎ (text ≡ refusal_text NotFound has_content)

-- Whether orders are answered.
abbrev pub TellsHealth : Bool → List ℕ → Type 0
TellsHealth has_content text =
    (text ≡ refusal_text Success has_content) ⊎ (text ≡ refusal_text Unavailable has_content)

-- The response to GET and HEAD of a resource.
abbrev pub ShowsResource : (Option (List ℕ) → List ℕ → Type 0) → (Option (List ℕ) → List ℕ → Type 0) → Bool
    → Option (List ℕ) → Resource → List ℕ → Type 0
ShowsResource metrics status has_content space resource.Metrics text =
    TellsContent MetricsText has_content (metrics space) text
ShowsResource metrics status has_content space resource.Status text = TellsContent Json has_content (status space) text
ShowsResource metrics status has_content space resource.Health text = TellsHealth has_content text
ShowsResource metrics status has_content space resource.Page text = TellsPage has_content text
ShowsResource metrics status has_content space resource.Missing text = text ≡ refusal_text NotFound has_content

abbrev pub RespondsToGet : (Option (List ℕ) → List ℕ → Type 0) → (Option (List ℕ) → List ℕ → Type 0) → Bool
    → HttpTarget → List ℕ → Type 0
RespondsToGet metrics status has_content target text =
    ShowsResource metrics status has_content (option_copied target.space) target.resource text

-- The response to a request with a whole head.
abbrev pub RespondsTo : (Option (List ℕ) → List ℕ → Type 0) → (Option (List ℕ) → List ℕ → Type 0) → HttpMethod
    → HttpTarget → List ℕ → Type 0
RespondsTo metrics status method.Get target text = RespondsToGet metrics status true target text
RespondsTo metrics status method.Head target text = RespondsToGet metrics status false target text
RespondsTo metrics status method.Other target text = text ≡ refusal_text MethodNotAllowed true

-- The response to what was read of a request.
abbrev pub RespondsToRead : (Option (List ℕ) → List ℕ → Type 0) → (Option (List ℕ) → List ℕ → Type 0) → RequestRead
    → List ℕ → Type 0
RespondsToRead metrics status NeedMore text = ⊥
RespondsToRead metrics status (Whole method target) text = RespondsTo metrics status method target text
RespondsToRead metrics status (OtherHost method) text = text ≡ refusal_text Forbidden (wants_content method)
RespondsToRead metrics status TooLarge text = text ≡ refusal_text HeadTooLarge true
RespondsToRead metrics status Malformed text = text ≡ refusal_text BadRequest true

-- WHAT IS DONE AFTER THESE BYTES OF A REQUEST: they are answered by what is read of them, or more are read while they
-- hold no whole head, and fewer bytes than a head may have.
abbrev pub AnswersBytes : (Option (List ℕ) → List ℕ → Type 0) → (Option (List ℕ) → List ℕ → Type 0) → List ℕ
    → HttpOutcome → Type 0
AnswersBytes metrics status input outcome.NeedMore = HasNoRequest input × (length input < 8192)
AnswersBytes metrics status input (outcome.Respond text) =
    (read : RequestRead) × ReadsHead input read × RespondsToRead metrics status read (string_bytes text)
