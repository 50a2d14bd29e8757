use Rattle.std.proofs.Common.{◌≡◌, Bool, false, Option, ap, string_bytes, sym, ◌∙◌, rules}
use Rattle.std.specs.List.{flat_map}
use Rattle.std.specs.Prelude.{◌≢◌, unwrap_or}
use Rattle.serde_json.specs.View.{view}
use Rattle.rme_ask_client.specs.declared.client_error.ClientError.TheVariants.{NoMemory}
use Rattle.rme_cli_ask.specs.SpaceLines.{LacksPage, space_line}
use Rattle.rme_cli_ask.proofs.spaces.shown_page.Goals as goal

pub returns-clause-shows : goal.returns-clause-shows
returns-clause-shows c =
    let lines : string_bytes c.in_ok-text.text ≡ flat_map space_line c.in_ok-page.page.spaces.items =
    rw (← c.as_slice.ensures.value) c.in_ok-text.ensures in
    record { page = c.in_ok-page.page; says = c.in_ok-page.ensures.said; lines = lines; next = c.in_ok-next.ensures.next }

pub returns-in_err-page-clause-lacks : goal.returns-in_err-page-clause-lacks
returns-in_err-page-clause-lacks c =
    let lacks : (c.in_err-page.field-0.0 ≢ NoMemory) → LacksPage (view c.args.value.now) =
    λ not_memory page says. absurd (c.in_err-page.ensures.unsaid not_memory page says) in
    search (rules, lacks)

pub returns-in_err-next-clause-lacks : goal.returns-in_err-next-clause-lacks
returns-in_err-next-clause-lacks c =
    let lacks : LacksPage (view c.args.value.now) =
    λ page says. ap (λ (found : Option Bool). unwrap_or found false) (sym says.more ∙ c.in_ok-page.ensures.said.more)
    ∙ c.in_err-next.ensures.more in
    search (rules, lacks)
