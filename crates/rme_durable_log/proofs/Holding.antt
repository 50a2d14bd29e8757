-- The contents of the store after each of its calls, and that they were stored.
use Rattle.std.proofs.Common.{◌≡◌, ℕ, ◌<◌, true, List, [], ◌∷◌, ◌++◌, length, Option, Some, None, refl, sym, ap, ◌∙◌, subst, inl, inr, arith, option_map}
use Rattle.std.proofs.lemmas.List.{append-nil}
use mathlib.Core.List.{IsPrefix}
use Rattle.std.specs.Prelude.{Bool}
use Rattle.rme_durable_log.specs.declared.log_entry.LogEntry.{LogEntry}
use Rattle.rme_durable_log.specs.declared.log_entry.LogEntry.TheVariants.{Whole}
use Rattle.rme_durable_log.specs.StoreCalls.{AppendsLines, ReplacesBytes, StoreState, barriers_after}
use Rattle.rme_durable_log.specs.Logs.{KeepEarlierBytes, barrier_count, AreBytesOfLog, IsLogDurable, StoreHolds, WasStored, log_bytes}
use Rattle.rme_durable_log.specs.LogRules.{entry_lines, known_bytes}
use Rattle.rme_durable_log.proofs.Texts.{barrier_count-whole, bytes_of-more, bytes_of-whole, prefix_last, prefix_split}

bytes_more : (before after : Option (List ℕ)) (log entries : List LogEntry) (lines : List ℕ) → KeepEarlierBytes entries → AreBytesOfLog before log → after ≡ option_map (λ (bytes : List ℕ). bytes ++ lines) before → lines ≡ entry_lines entries → AreBytesOfLog after (log ++ entries)
bytes_more None after log entries lines all held kept come = subst (λ (o : Option (List ℕ)). AreBytesOfLog o (log ++ entries)) (sym kept) tt
bytes_more (Some bytes) after log entries lines all held kept come =
    let whole : bytes ++ lines ≡ log_bytes (log ++ entries) = ap (λ w. w ++ lines) held ∙ (ap (λ w. log_bytes log ++ w) come ∙ sym (bytes_of-more log entries all)) in
    subst (λ (o : Option (List ℕ)). AreBytesOfLog o (log ++ entries)) (sym kept) whole

bytes_whole : (before after : Option (List ℕ)) (log : List LogEntry) (bytes : List ℕ) → after ≡ option_map (λ (_ : List ℕ). bytes) before → AreBytesOfLog after (log ++ Whole bytes ∷ [])
bytes_whole None after log bytes put = subst (λ (o : Option (List ℕ)). AreBytesOfLog o (log ++ Whole bytes ∷ [])) (sym put) tt
bytes_whole (Some old) after log bytes put = subst (λ (o : Option (List ℕ)). AreBytesOfLog o (log ++ Whole bytes ∷ [])) (sym put) (sym (bytes_of-whole log bytes))

bytes_first : (bytes : Option (List ℕ)) → AreBytesOfLog bytes (Whole (known_bytes bytes) ∷ [])
bytes_first None = tt
bytes_first (Some bytes) = refl

pub holds_more : (shared : Bool) (before after : StoreState) (log entries : List LogEntry) (lines : List ℕ) → KeepEarlierBytes entries → StoreHolds before log → AppendsLines shared before lines after → lines ≡ entry_lines entries → barrier_count (log ++ entries) ≡ barriers_after shared (barrier_count log) → StoreHolds after (log ++ entries)
holds_more shared before after log entries lines all held kept come counted = record { works = kept.works; bytes = bytes_more before.bytes after.bytes log entries lines all held.bytes kept.bytes come; barriers = kept.barriers ∙ (ap (barriers_after shared) held.barriers ∙ sym counted) }

pub holds_whole : (before after : StoreState) (log : List LogEntry) (bytes : List ℕ) → StoreHolds before log → ReplacesBytes before bytes after → StoreHolds after (log ++ Whole bytes ∷ [])
holds_whole before after log bytes held put = record { works = put.works; bytes = bytes_whole before.bytes after.bytes log bytes put.replaced; barriers = put.barriers ∙ (held.barriers ∙ sym (barrier_count-whole log bytes)) }

pub holds_first : (store : StoreState) → store.works ≡ true → store.barriers ≡ 0 → StoreHolds store (Whole (known_bytes store.bytes) ∷ [])
holds_first store works none = record { works = works; bytes = bytes_first store.bytes; barriers = none }

module _ {X : Type 0} (holds : X → StoreState) where
  held_now : (store : X) (start log later : List LogEntry) → KeepEarlierBytes later → start ++ later ≡ log → StoreHolds (holds store) log → WasStored holds start
  held_now store start log later all is held = record { store = store; later = later; keep = all; held = subst (λ (l : List LogEntry). StoreHolds (holds store) l) (sym is) held }

  pub held_more : (store : X) (log entries : List LogEntry) → KeepEarlierBytes entries → IsLogDurable holds log → StoreHolds (holds store) (log ++ entries) → IsLogDurable holds (log ++ entries)
  held_more store log entries all before now start pre some = elim (prefix_split start log entries all pre) [
    | inl q ↦ before start q some
    | inr q ↦ held_now store start (log ++ entries) q.0 q.1 q.2 now
  ]

  pub held_last : (store : X) (log : List LogEntry) (last : LogEntry) → IsLogDurable holds log → StoreHolds (holds store) (log ++ last ∷ []) → IsLogDurable holds (log ++ last ∷ [])
  held_last store log last before now start pre some = elim (prefix_last start log last pre) [
    | inl q ↦ before start q some
    | inr q ↦ held_now store start (log ++ last ∷ []) [] tt (append-nil start ∙ q) now
  ]

  pub held_first : (store : X) → (holds store).works ≡ true → (holds store).barriers ≡ 0 → IsLogDurable holds (Whole (known_bytes (holds store).bytes) ∷ [])
  held_first store works none start pre some = elim (prefix_last start [] (Whole (known_bytes (holds store).bytes)) pre) [
    | inl q ↦ absurd (nothing start q some)
    | inr q ↦ held_now store start (Whole (known_bytes (holds store).bytes) ∷ []) [] tt (append-nil start ∙ q) (holds_first (holds store) works none)
  ]
    where
      nothing : (start : List LogEntry) → IsPrefix start [] → 0 < length start → ⊥
      nothing [] q some = omega (arith, some)
      nothing (x ∷ start) q some = cc (q.1)
