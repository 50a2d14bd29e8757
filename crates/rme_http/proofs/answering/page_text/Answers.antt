use Rattle.std.proofs.Common.{ℕ, List, ◌∙◌}
use Rattle.rme_http.proofs.Contents.{begins_with}
use Rattle.rme_http.specs.Page.{whole_page}
use Rattle.rme_http.specs.Responses.{response_text}
use Rattle.rme_http.specs.declared.http_response.ContentKind.TheVariants.{Html}
use Rattle.rme_http.specs.declared.http_response.HttpStatus.TheVariants.{Success}
use Rattle.rme_http.specs.declared.page.TheConstants.{PAGE_POLICY}
use Rattle.rme_http.proofs.answering.page_text.Goals as goal

pub returns : goal.returns
returns c =
    let front = λ (content : List ℕ). response_text Success Html PAGE_POLICY.now content c.args.has_content in
    begins_with _ _ _ whole_page front c.new-out.ensures.bytes (c.as_str.ensures.value ∙ c.in_ok-content.ensures) c.in_ok-push_response.ensures
