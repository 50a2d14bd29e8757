-- What a written text reads as.
use Rattle.std.proofs.Common.{◌≡◌, ◌≤◌, ℕ, List, Some, subst}
use Rattle.serde_json.specs.Data.{Data, depth, array, item, no_items}
use Rattle.serde_json.specs.Read.{max_depth, read}
use Rattle.rme_etcd_requests.specs.Transactions.{transaction}

pub reads_as : (whole target : Data) (text : List ℕ) → whole ≡ target → depth target ≤ max_depth → (depth whole ≤ max_depth → read text ≡ Some whole) → read text ≡ Some target
reads_as whole target text same shallow reads =
    let P : Data → Type 0 = λ d. (depth d ≤ max_depth → read text ≡ Some d) in subst P same reads shallow

-- A list of operations, and a transaction, of parts that are known.
pub same_one : (list operation known : Data) → list ≡ array (item operation no_items) → operation ≡ known
    → list ≡ array (item known no_items)
same_one list operation known is same = cc

pub same_two : (list first second known other : Data) → list ≡ array (item first (item second no_items))
    → first ≡ known → second ≡ other → list ≡ array (item known (item other no_items))
same_two list first second known other is same also = cc

pub same_transaction : (whole condition operations otherwise if_so known otherwise_known : Data)
    → whole ≡ transaction condition operations otherwise → condition ≡ if_so → operations ≡ known → otherwise ≡ otherwise_known
    → whole ≡ transaction if_so known otherwise_known
same_transaction whole condition operations otherwise if_so known otherwise_known is a b c = cc
