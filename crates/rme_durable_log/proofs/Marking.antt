-- The durable mark stays true, and holds for each shorter prefix.
use Rattle.std.proofs.Common.{◌≡◌, ℕ, suc, ◌<◌, ◌≤◌, List, [], length, sym, ap, subst, arith, length-append}
use mathlib.Core.List.{IsPrefix}
use Rattle.rme_durable_log.specs.declared.log_entry.LogEntry.{LogEntry}
use Rattle.rme_durable_log.specs.StoreCalls.{StoreState}
use Rattle.rme_durable_log.specs.Logs.{IsLogConfirmed, IsLogDurable}
use Rattle.rme_durable_log.specs.LogRules.{IsDurableMark}
use Rattle.rme_durable_log.proofs.Fronts.{prefix_self, prefix_trans, prefix_shorter}

module _ {X : Type 0} (holds : X → StoreState) where
  -- a prefix of a durable log is durable
  pub held_before : (xs ys : List LogEntry) → IsPrefix xs ys → IsLogDurable holds ys → IsLogDurable holds xs
  held_before xs ys p held start q some = held start (prefix_trans start xs ys q p) some

  pub held_by_mark : (count : ℕ) (mine log : List LogEntry) (own : ℕ) → IsDurableMark holds count log → IsPrefix mine log → length mine ≡ suc own → own ≤ count → IsLogDurable holds mine
  held_by_mark count mine log own is p len le = held_before mine is.start (prefix_shorter mine is.start log p is.begins (omega (arith, len, le, is.counted))) is.held

  -- a mark behind a position has an entry after it
  pub confirmed_by_mark : (count : ℕ) (mine log : List LogEntry) (own : ℕ) → IsDurableMark holds count log → IsPrefix mine log → length mine ≡ suc own → own < count → IsLogConfirmed holds mine
  confirmed_by_mark count mine log own is p len less =
      let pre = prefix_shorter mine is.start log p is.begins (omega (arith, len, less, is.counted)) in
      record {
        later = pre.0;
        some = λ (none : pre.0 ≡ []). omega (arith, len, less, is.counted, ap length pre.1, length-append mine pre.0, ap length none);
        held = subst (λ (l : List LogEntry). IsLogDurable holds l) (sym pre.1) is.held;
      }

  pub mark_of : (log : List LogEntry) (own : ℕ) → length log ≡ suc own → IsLogDurable holds log → IsDurableMark holds own log
  mark_of log own len held = record { start = log; begins = prefix_self log; counted = len; held = held }
