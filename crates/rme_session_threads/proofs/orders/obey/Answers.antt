use Rattle.rme_session_threads.proofs.Living.{told_life}
use Rattle.rme_session_threads.proofs.Showing.{told_section}
use Rattle.rme_session_threads.proofs.orders.obey.Goals as goal

pub returns-clause-section : goal.returns-clause-section
returns-clause-section g c =
    let made = c.execute_order-stand.result in
    told_section g.K.Tag.ident.shape made.0.value made.1 c.execute_order-stand.ensures.acts.section

pub returns-clause-life : goal.returns-clause-life
returns-clause-life g c =
    let made = c.execute_order-stand.result in
    let acts = c.execute_order-stand.ensures.acts in
    told_life g.K.Tag.ident.shape acts.made acts.before acts.after c.args.stand made.0 c.args.order.now made.1 acts.obeys c.execute_order-stand.ensures.life
