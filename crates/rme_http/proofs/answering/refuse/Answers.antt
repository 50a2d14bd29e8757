use Rattle.std.proofs.Common.{◌++◌, ℕ, List, ap, codes, ◌∙◌}
use Rattle.rme_http.proofs.Contents.{refuses}
use Rattle.rme_http.proofs.answering.refuse.Goals as goal

pub returns : goal.returns
returns c =
    let told = c.as_str.ensures.value ∙ c.in_ok-content.ensures.ok ∙ ap (λ (line : List ℕ). line ++ codes "\n") c.line-line.ensures in
    refuses _ _ _ c.args.status c.args.has_content c.new-out.ensures.bytes told c.in_ok-push_response.ensures
