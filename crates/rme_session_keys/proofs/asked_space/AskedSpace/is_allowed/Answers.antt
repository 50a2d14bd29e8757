use Rattle.std.proofs.Common.{◌↔◌, IsTrue, ℕ, List, subst, sym}
use Rattle.rme_keys.specs.Allowing.{AllowsSpace}
use Rattle.rme_session_keys.specs.AskedSpaces.{AllowsAskedSpace}
use Rattle.rme_session_keys.specs.declared.asked_space.AskedSpace.{AskedSpace}
use Rattle.rme_session_keys.proofs.asked_space.AskedSpace.is_allowed.Goals as goal

pub returns-in-Used : goal.returns-in-Used
returns-in-Used c =
    let P : AskedSpace → Type 0 = λ asked. IsTrue c.allows_space.result ↔ AllowsAskedSpace c.args.key.now asked in
    let N : List ℕ → Type 0 = λ name. IsTrue c.allows_space.result ↔ AllowsSpace c.args.key.now name in
    subst P (sym c.in-Used.is) (subst N c.as_str.ensures.text c.allows_space.ensures)

pub returns-then-may_create : goal.returns-then-may_create
returns-then-may_create c =
    let allowed = c.allows_space-then-may_create in
    let P : AskedSpace → Type 0 = λ asked. IsTrue allowed.result ↔ AllowsAskedSpace c.args.key.now asked in
    let N : List ℕ → Type 0 = λ name. IsTrue allowed.result ↔ AllowsSpace c.args.key.now name in
    let may = c.may_create.ensures.0 c.if-may_create.true in
    let space = subst N c.as_str-then-may_create.ensures.text allowed.ensures in
    subst P (sym c.in-Made.is) ((λ is. (may, space.0 is)), (λ both. space.1 both.1))
