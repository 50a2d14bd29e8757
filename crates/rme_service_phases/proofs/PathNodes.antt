-- The words of the nodes of a worker's path.
use Rattle.std.proofs.Common.{◌≡◌, ℕ, ◌<◌, ◌≤◌, ◌∙◌, ap, subst}
use Rattle.rme_words.specs.declared.shape.Shape.{Shape}
use Rattle.rme_words.specs.declared.address.Address.TheVariants.{Node}
use Rattle.rme_words.specs.Words.{IsShapeAddress}
use Rattle.rme_service_steps.specs.Layout.{position_of_address}
use Rattle.rme_tree.specs.Paths.{node}

-- A node that was computed from the same shape for this worker.
pub on_path : (s : Shape) (lock own level : ℕ) (x : Shape) (worker n : ℕ) → lock < s.locks → x ≡ s → worker ≡ own → n ≡ node x.leaves worker level → 1 ≤ n → n < x.leaves
    → IsShapeAddress s (Node lock (node s.leaves own level))
on_path s lock own level x worker n lock_in same mine is one less =
    let there : n ≡ node s.leaves own level = is ∙ ap (λ (y : Shape). node y.leaves worker level) same ∙ ap (λ (w : ℕ). node s.leaves w level) mine in
    (lock_in, subst (λ (k : ℕ). 1 ≤ k) there one, subst (λ (k : ℕ). k < s.leaves) there (subst (λ (y : Shape). n < y.leaves) same less))

pub path_number : (s : Shape) (lock level : ℕ) (x : Shape) (worker n number : ℕ) → x ≡ s → n ≡ node x.leaves worker level → number ≡ position_of_address x (Node lock n)
    → number ≡ position_of_address x (Node lock (node s.leaves worker level))
path_number s lock level x worker n number same is its = its ∙ ap (λ (k : ℕ). position_of_address x (Node lock k)) (is ∙ ap (λ (y : Shape). node y.leaves worker level) same)
