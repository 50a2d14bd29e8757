-- What the page is made of.
use Rattle.std.specs.Prelude.{ℕ, List, ◌++◌}
use Rattle.rme_http.specs.declared.page.TheConstants.{PAGE_BODY, PAGE_END, PAGE_FRONT}
use Rattle.rme_http.specs.declared.page_script.TheConstants.{PAGE_SCRIPT}
use Rattle.rme_http.specs.declared.page_style.TheConstants.{PAGE_STYLE}

-- The page: its style and its script between the texts of its file.
unfoldable pub whole_page : List ℕ
whole_page = PAGE_FRONT.now ++ (PAGE_STYLE.now ++ (PAGE_BODY.now ++ (PAGE_SCRIPT.now ++ PAGE_END.now)))
