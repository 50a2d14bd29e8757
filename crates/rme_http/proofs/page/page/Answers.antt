use Rattle.rme_http.proofs.Contents.{appends_four}
use Rattle.rme_http.specs.Page.{whole_page}
use Rattle.rme_http.specs.declared.page.TheConstants.{PAGE_BODY, PAGE_END, PAGE_FRONT}
use Rattle.rme_http.specs.declared.page_script.TheConstants.{PAGE_SCRIPT}
use Rattle.rme_http.specs.declared.page_style.TheConstants.{PAGE_STYLE}
use Rattle.rme_http.proofs.page.page.Goals as goal

pub returns : goal.returns
unfolding whole_page
returns c =
    appends_four PAGE_FRONT.now PAGE_STYLE.now PAGE_BODY.now PAGE_SCRIPT.now PAGE_END.now _ _ _ _ _ c.in_ok-text.ensures.ok
    c.in_ok-push_str.ensures.bytes c.in_ok-push_str-2.ensures.bytes c.in_ok-push_str-3.ensures.bytes c.in_ok-push_str-4.ensures.bytes
