-- How the head of a request is read, by the grammar of httparse.
use Rattle.std.specs.Prelude.{◌≡◌, ◌⊎◌, ◌<◌, ◌≤◌, ℕ, true, false, List, length}
use Rattle.httparse.specs.Grammar.{HasNoRequest, NeverHasRequest, ReadsRequest, RequestHead, print_request}
use Rattle.httparse.specs.Spans.{RequestOverflows}
use Rattle.rme_http.specs.Hosts.{names_this_machine}
use Rattle.rme_http.specs.Targets.{IsTarget, method_of}
use Rattle.rme_http.specs.declared.http_request.RequestRead.{RequestRead}
use Rattle.rme_http.specs.declared.http_request.RequestRead.TheVariants.{NeedMore, Whole, OtherHost, TooLarge, Malformed}

-- These bytes begin with this head, which has at most 8,192 bytes and 64 fields.
pub record HasHead (input : List ℕ) (head : RequestHead) : Type 0 where
  pub rest : List ℕ
  pub reads : ReadsRequest input head rest
  pub size : length (print_request head) ≤ 8192
  pub fields : length head.fields ≤ 64

-- What is read of these bytes: a head that names this machine, one that does not, or none. A head that has more than
-- 8,192 bytes, or more than 64 fields, is not read.
abbrev pub ReadsHead : List ℕ → RequestRead → Type 0
ReadsHead input NeedMore = HasNoRequest input × (length input < 8192)
ReadsHead input (Whole method target) =
    (head : RequestHead) × HasHead input head × (names_this_machine head ≡ true) × (method ≡ method_of head.method)
    × IsTarget head.target target
ReadsHead input (OtherHost method) =
    (head : RequestHead) × HasHead input head × (names_this_machine head ≡ false) × (method ≡ method_of head.method)
ReadsHead input TooLarge =
    ((head : RequestHead) → ¬ (HasHead input head)) × ((8192 ≤ length input) ⊎ RequestOverflows 64 input)
ReadsHead input Malformed = NeverHasRequest input
