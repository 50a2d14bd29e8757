use Rattle.rme_process_file.specs.ProcessFiles.{file_memory}
use Rattle.rme_process_file.proofs.Sounding.{harm_unsound, none_both}
use Rattle.rme_process_file.proofs.process_file.ProcessFile.first_damage.Goals as goal

pub returns-in-Some-clause-none : goal.returns-in-Some-clause-none
returns-in-Some-clause-none c = (
  λ e. absurd cc,
  λ sound. absurd (harm_unsound c.args.self.now.shape (file_memory c.args.self.now) c.in-Some.damage c.in-Some.ensures sound),
)

pub returns-clause-none : goal.returns-clause-none
returns-clause-none c = none_both c.args.self.now.shape (file_memory c.args.self.now) c.locks_damage.result c.in_default.ensures c.locks_damage.ensures
