-- The labels of the notes on workers, where the notes are made, and where one of them is replaced.
use Rattle.std.proofs.Common.{◌≡◌, ℕ, zero, suc, List, ◌∷◌, Option, replicate, get_or, slice_set, refl, ap, sym, ◌∙◌}
use Rattle.std.proofs.lemmas.List.{set-get_or}
use lib.Seq.{map-set}
use Rattle.rme_durable_lookups.specs.WorkerLabels.{labels_of}
use Rattle.rme_durable_lookups.specs.declared.worker_notes.WorkerNote.{WorkerNote}

pub first_labels : (n : ℕ) (note : WorkerNote) → labels_of (replicate n note) ≡ replicate n note.label
first_labels zero note = refl
first_labels (suc n) note = ap (λ (labels : List (Option (List ℕ))). note.label ∷ labels) (first_labels n note)

pub put_label : (notes : List WorkerNote) (i : ℕ) (note : WorkerNote) → labels_of (slice_set notes i note) ≡ slice_set (labels_of notes) i note.label
put_label notes i note = map-set (λ (one : WorkerNote). one.label) notes i note

pub keep_label : (notes : List WorkerNote) (i : ℕ) (note d : WorkerNote) → note.label ≡ (get_or notes i d).label → labels_of (slice_set notes i note) ≡ labels_of notes
keep_label notes i note d is =
    put_label notes i note ∙ ap (λ (label : Option (List ℕ)). slice_set (labels_of notes) i label) is
    ∙ sym (put_label notes i (get_or notes i d)) ∙ ap (λ (all : List WorkerNote). labels_of all) (set-get_or notes i d)
