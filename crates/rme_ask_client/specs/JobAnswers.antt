-- What answers say of a worker and of its job.
use Rattle.std.specs.Prelude.{◌≡◌, ℕ, List, ◌++◌, Option, Some, None, true, codes, decimal, string_bytes}
use Rattle.serde_json.specs.Data.{Data, null}
use Rattle.serde_json.specs.Written.{IsInOrder}
use Rattle.rme_ask_client.specs.Members.{LockNameSays, flag_member, number_member, some_member, text_member}
use Rattle.rme_ask_client.specs.declared.job_answers.AttachedWorker.{AttachedWorker}
use Rattle.rme_ask_client.specs.declared.job_answers.ReportedOutcome.{ReportedOutcome}
use Rattle.rme_ask_client.specs.declared.job_answers.ReportedOutcome.TheVariants as outcome
use Rattle.rme_ask_client.specs.declared.job_answers.ReportedJob.{ReportedJob}
use Rattle.rme_ask_client.specs.declared.job_answers.ReportedReceipt.{ReportedReceipt}
use Rattle.rme_ask_client.specs.declared.job_answers.ReportedStance.{ReportedStance}
use Rattle.rme_ask_client.specs.declared.job_answers.ReportedStance.TheVariants.{Ready, Climb, Held}

abbrev pub reported_stance_word : ReportedStance → List ℕ
reported_stance_word Ready = codes "ready"
reported_stance_word Climb = codes "climb"
reported_stance_word Held = codes "held"

abbrev pub stance_member : Data → Option (List ℕ)
stance_member answer = text_member (codes "stance") answer

abbrev pub StanceSays : Data → ReportedStance → Type 0
StanceSays answer stance = stance_member answer ≡ Some (reported_stance_word stance)

abbrev pub withdrawn_member : Data → Option ℕ
withdrawn_member answer = number_member (codes "number") answer

-- the worker of the answer to `attach`
pub record AttachedSays (answer : Data) (worker : AttachedWorker) : Type 0 where
  pub number : number_member (codes "number") answer ≡ Some worker.number
  pub stance : StanceSays answer worker.stance

-- the job of the answer to `pending`
pub record PendingSays (answer : Data) (job : ReportedJob) : Type 0 where
  pub lock : LockNameSays (codes "lock") answer job.lock
  pub number : number_member (codes "number") answer ≡ Some job.number
  pub stance : StanceSays answer job.stance
  pub script : (said : Data) × (some_member (codes "script") answer ≡ Some said)
      × IsInOrder (string_bytes job.script) said

pub record ReceiptSays (said : Data) (receipt : ReportedReceipt) : Type 0 where
  pub lock : LockNameSays (codes "lock") said receipt.lock
  pub number : number_member (codes "number") said ≡ Some receipt.number
  pub place : number_member (codes "place") said ≡ Some receipt.place
  pub reply : number_member (codes "reply") said ≡ Some receipt.reply
  pub worker : number_member (codes "worker") said ≡ Some receipt.worker

-- the member of this name is a receipt
abbrev pub HasReceipt : List ℕ → Data → ReportedReceipt → Type 0
HasReceipt name answer receipt = (said : Data) × (some_member name answer ≡ Some said) × ReceiptSays said receipt

-- the receipt of the answer to `last`
abbrev pub LastSays : Data → Option ReportedReceipt → Type 0
LastSays answer None = some_member (codes "last") answer ≡ Some null
LastSays answer (Some receipt) = HasReceipt (codes "last") answer receipt

-- the outcome of the answer to `resume`
abbrev pub OutcomeSays : Data → ReportedOutcome → Type 0
OutcomeSays answer (outcome.Receipt receipt) = HasReceipt (codes "receipt") answer receipt
OutcomeSays answer outcome.Waiting = flag_member (codes "waiting") answer ≡ Some true
OutcomeSays answer outcome.Withdrawn = flag_member (codes "withdrawn") answer ≡ Some true
OutcomeSays answer outcome.Fell = flag_member (codes "fell") answer ≡ Some true

-- `job 2 of worker 0 on lock bank: place 1, reply 10`
abbrev pub receipt_output : ReportedReceipt → List ℕ
receipt_output receipt =
    codes "job " ++ (decimal receipt.number ++ (codes " of worker " ++ (decimal receipt.worker ++
    (codes " on lock " ++ (string_bytes receipt.lock ++ (codes ": place " ++ (decimal receipt.place ++
    (codes ", reply " ++ decimal receipt.reply))))))))
