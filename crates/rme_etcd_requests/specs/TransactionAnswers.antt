-- What an answer to a transaction says.
use Rattle.std.specs.Prelude.{◌≡◌, ◌≢◌, true, Some, codes}
use Rattle.serde_json.specs.Data.{Data, boolean}
use Rattle.serde_json.specs.Find.{get}
use Rattle.rme_etcd_requests.specs.declared.answers.TransactionAnswer.{TransactionAnswer}
use Rattle.rme_etcd_requests.specs.declared.answers.TransactionAnswer.TheVariants.{Made, NotMade}

-- An answer says that its transaction was made exactly where its member `succeeded` is true.
abbrev pub SaysTransaction : Data → TransactionAnswer → Type 0
SaysTransaction whole Made = get (codes "succeeded") whole ≡ Some (boolean true)
SaysTransaction whole (NotMade found) = get (codes "succeeded") whole ≢ Some (boolean true)
