use Rattle.std.proofs.Common.{ap}
use Rattle.rme_words.specs.declared.shape.Shape.{Shape}
use Rattle.rme_tree.specs.Nodes.{lock_nodes}
use Rattle.rme_core_image_check.proofs.Holders.{leaf_local}
use Rattle.rme_process_file.specs.ProcessFiles.{file_memory}
use Rattle.rme_process_file.proofs.process_file.ProcessFile.is_local_at.Goals as goal

pub returns : goal.returns
returns c =
    leaf_local (lock_nodes (file_memory c.args.self.now) c.args.lock) c.args.self.now.shape.leaves c.args.self.now.shape.workers _ _ c.args.node c.node-word.result
    (ap (λ (s : Shape). s.leaves) c.shape-shape.ensures) (ap (λ (s : Shape). s.workers) c.shape-shape.ensures) c.node-word.ensures c.if-word-eq0.false c.if-word-gt2.false c.if-child-shape.false
