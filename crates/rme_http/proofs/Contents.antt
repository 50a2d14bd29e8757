-- What the texts of responses hold.
use Rattle.std.proofs.Common.{◌≡◌, ◌++◌, ℕ, Bool, List, [], Option, Some, None, IfSome, ap, append_assoc, codes, inl, inr, option_map, ◌∙◌}
use Rattle.rme_http.specs.Answering.{FindsContent, TellsContent, refusal_text}
use Rattle.rme_http.specs.Responses.{closed_policy, response_text, status_line}
use Rattle.rme_http.specs.declared.http_response.ContentKind.{ContentKind}
use Rattle.rme_http.specs.declared.http_response.ContentKind.TheVariants.{Plain}
use Rattle.rme_http.specs.declared.http_response.HttpStatus.{HttpStatus}

-- A content that was found is one of those that it may be.
pub tells_content : {A : Type 0} (bytes : A → List ℕ) (kind : ContentKind) (has_content : Bool) (contents : List ℕ → Type 0) (found : Option A)
    (text : List ℕ) → IfSome found (λ content. contents (bytes content))
    → FindsContent kind has_content (option_map bytes found) text → TellsContent kind has_content contents text
tells_content bytes kind has_content contents None text among finds = inl finds
tells_content bytes kind has_content contents (Some content) text among finds = inr (bytes content, among, finds)

-- A text that held nothing, and to which a response was appended, is that response.
pub begins : (start text response : List ℕ) → start ≡ [] → text ≡ start ++ response → text ≡ response
begins start text response empty appended = rw empty at appended

-- A response whose content is its status.
pub refuses : (start text content : List ℕ) (status : HttpStatus) (has_content : Bool) → start ≡ []
    → content ≡ status_line status ++ codes "\n"
    → text ≡ start ++ response_text status Plain closed_policy content has_content → text ≡ refusal_text status has_content
refuses start text content status has_content empty told appended =
    let begun : text ≡ response_text status Plain closed_policy content has_content = begins start text _ empty appended in
    rw told at begun

-- A text to which four others were appended in turn.
pub appends_four : (a b c d e first second third fourth whole : List ℕ) → first ≡ a → second ≡ first ++ b → third ≡ second ++ c
    → fourth ≡ third ++ d → whole ≡ fourth ++ e → whole ≡ a ++ (b ++ (c ++ (d ++ e)))
appends_four a b c d e first second third fourth whole is_a is_b is_c is_d is_e = rw (is_e, is_d, is_c, is_b, is_a) (simp append_assoc)

-- The same of a response with a content that is known.
pub begins_with : (start text content known : List ℕ) (front : List ℕ → List ℕ) → start ≡ [] → content ≡ known
    → text ≡ start ++ front content → text ≡ front known
begins_with start text content known front empty told appended =
    begins start text (front content) empty appended ∙ ap front told
