use Rattle.std.proofs.Common.{◌≡◌, ◌<◌, ◌≤◌, length, get_or, slice_set, refl, ap, ◌∙◌, arith}
use Rattle.std.specs.Cmp.Lexicographic.{slice_cmp}
use Rattle.std.proofs.Common.{nat_cmp, Less, Equal, Greater}
use Rattle.rme_line_json.specs.View.{members_view}
use Rattle.rme_line_json.proofs.Viewing.{one_further, put_here, put_before, put_last}
use Rattle.rme_line_json.proofs.members.put.Goals as goal

pub loop-at-init : goal.loop-at-init
loop-at-init c = (λ datum. refl, omega arith, refl)

pub loop-at-preserved : goal.loop-at-preserved
loop-at-preserved c =
    let l = c.loop-at in
    let ms = c.args.members.now.items in
    let m = c.index.result.now in
    let within : l.at < length ms = grind arith in
    let is : m ≡ get_or ms l.at m = grind arith in
    let above : slice_cmp nat_cmp c.args.key.now m.0.now ≡ Greater = grind arith in
    (one_further c.args.key c.args.value ms l.at l.invariant.0 m within is above, omega (arith, within), l.invariant.2)

pub returns-in-Equal : goal.returns-in-Equal
returns-in-Equal c =
    let l = c.loop-at in
    let ms = c.args.members.now.items in
    let m = c.index.result.now in
    let within : l.at < length ms = grind arith in
    let is : m ≡ get_or ms l.at m = grind arith in
    let equal : slice_cmp nat_cmp c.args.key.now m.0.now ≡ Equal = grind arith in
    ap (λ v. members_view (slice_set v.items l.at (c.args.key, c.args.value))) l.invariant.2
    ∙ put_here c.args.key c.args.value ms l.at l.invariant.0 m within is equal

pub returns-in-Less : goal.returns-in-Less
returns-in-Less c =
    let l = c.loop-at in
    let ms = c.args.members.now.items in
    let m = c.index.result.now in
    let within : l.at < length ms = grind arith in
    let is : m ≡ get_or ms l.at m = grind arith in
    let less : slice_cmp nat_cmp c.args.key.now m.0.now ≡ Less = grind arith in
    let put = put_before c.args.key c.args.value ms l.at l.invariant.0 m within is less in
    grind (arith, put)

pub returns : goal.returns
returns c =
    let l = c.loop-at in
    let ms = c.args.members.now.items in
    let all : length ms ≤ l.at = grind arith in
    let put = put_last c.args.key c.args.value ms l.at l.invariant.0 all in
    grind (arith, put)
