use Rattle.std.proofs.Common.{◌↔◌, List, refl, sym, ◌∙◌, subst}
use Rattle.std.specs.List.{AllZip}
use Rattle.rme_keys.specs.Spaces.{IsSamePattern}
use Rattle.rme_keys.specs.Workers.{HaveWorker}
use Rattle.rme_keys.specs.declared.spaces.SpacePattern.{SpacePattern}
use Rattle.rme_keys.specs.declared.workers.WorkerRange.{WorkerRange}
use Rattle.rme_keys.proofs.Copies.{same_cover}
use Rattle.rme_keys.proofs.key.Key.copied.Goals as goal

pub returns : goal.returns
returns c =
    let key = c.args.self.now in
    let copies = c.in_ok-spaces.spaces.items in
    let zipped = subst (λ (patterns : List SpacePattern). AllZip IsSamePattern patterns copies) c.as_slice-2.ensures.value c.in_ok-spaces.ensures.items in
    record {
      same_name = c.in_ok-name.ensures.ok ∙ c.as_str.ensures.value;
      same_digest = refl;
      same_workers = λ worker.
          subst (λ (ranges : List WorkerRange). HaveWorker ranges worker ↔ HaveWorker key.workers.items worker) (sym (c.in_ok-workers.ensures.items ∙ c.as_slice.ensures.value)) (λ has. has, λ has. has);
      same_spaces = λ name.
          let covers = same_cover key.spaces.items copies name zipped in (λ allows. (allows.0, covers.0 allows.1), λ allows. (allows.0, covers.1 allows.1));
      same_creating = (λ may. may, λ may. may);
    }
