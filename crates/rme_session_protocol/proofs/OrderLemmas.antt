-- The order of an object whose members are in the order of their keys.
use Rattle.std.proofs.Common.{◌≡◌, ℕ, ◌<◌, ◌≤◌, ◌^◌, List, [], ◌∷◌, length, bytes_eq, Bool, true, false, Option, Some, None, option_map, refl, sym, ap, subst, inl, inr, ◌∙◌, arith}
use Rattle.std.proofs.lemmas.Bool.{cases_Bool, le-leb, lt-ltb}
use Rattle.std.proofs.lemmas.Option.{none-some}
use Rattle.std.proofs.lemmas.Slice.Eq.{bytes_eq-Decides}
use Rattle.std.specs.Prelude.{codes, if◌then◌else◌, nat_le, ◌&&◌}
use Rattle.std.specs.Str.{IsUtf8}
use Rattle.json.specs.Token.{Token}
use Rattle.json.specs.Json.{read_key}
use Rattle.json.specs.Lex.{tokens}
use Rattle.json.proofs.Grammar.{read_key_is}
use Rattle.serde_json.specs.Data.{Data, Num, number, string, array, object, Items, Members, no_members, member, put}
use Rattle.serde_json.specs.Events.{members_len}
use Rattle.serde_json.specs.Find.{as_u64}
use Rattle.serde_json.specs.Read.{number_of}
use Rattle.rme_line_json.specs.Trees.{TokensBeginWithValue}
use Rattle.rme_line_json.proofs.Reading.{MembersSoFar, no_members_yet, one_more_member, members_over, is_string, is_number, is_object, whole}
use Rattle.rme_line_json.proofs.ValueLemmas.{value_read}
use Rattle.rme_script.specs.Programs.{Program}
use Rattle.rme_wire.specs.Commands.{lock_number, lock_member}
use Rattle.rme_wire.specs.Operations.{script_of_value}
use Rattle.rme_wire.specs.Values.{whole_u32, whole_up_to, do_member}
use Rattle.rme_session_protocol.specs.declared.order.Order.{Order}
use Rattle.rme_session_protocol.specs.declared.order.Order.TheVariants.{Submit, Enter}
use Rattle.rme_session_protocol.specs.declared.order.Patience.{Patience}
use Rattle.rme_session_protocol.specs.declared.order.Patience.TheVariants.{Tries, Wait}
use Rattle.rme_session_protocol.specs.declared.order.Submission.{Submission}
use Rattle.rme_session_protocol.specs.Orders.{order_of_value, order_named, order_of_line, submission_of, patience_of, patience_keys, tries_of, wait_of, bare_order}
use Rattle.rme_session_protocol.specs.Tokens.{IsOrderTokens, IsSubmissionTokens, IsPatienceTokens, patience_named}

-- The order of a line whose tokens are those of an order.
pub order_read : (names : List (List ℕ)) (most : ℕ) (line : List ℕ) (order : Order) → IsUtf8 line → IsOrderTokens names most (tokens line) order → order_of_line names most line ≡ Some order
order_read names most line order utf8 is = rw (value_read line is.value utf8 (whole line is.value is.is)) is.means

-- The order of this word that submits a job.
abbrev pub handed : List ℕ → Submission → Option Order
handed word s = if bytes_eq word (codes "submit") then Some (Submit s) else (if bytes_eq word (codes "enter") then Some (Enter s) else None)

pub submit_handed : (word : List ℕ) (s : Submission) → bytes_eq word (codes "submit") ≡ true → handed word s ≡ Some (Submit s)
submit_handed word s same = rw same refl

pub enter_handed : (word : List ℕ) (s : Submission) → bytes_eq word (codes "enter") ≡ true → handed word s ≡ Some (Enter s)
enter_handed word s same = subst (λ (w : List ℕ). handed w s ≡ Some (Enter s)) (sym ((bytes_eq-Decides word (codes "enter")).0 same)) refl

-- An object with only a word.
abbrev alone : List ℕ → Data
alone word = object (member (codes "do") (string word) no_members)

module _ (names : List (List ℕ)) (most : ℕ) where
  abbrev IsBare : Order → List ℕ → Type 0
  IsBare order word = bare_order word 1 ≡ Some order → order_of_value names most (alone word) ≡ Some order

  bare_named : (order : Order) (word name : List ℕ) → bytes_eq word name ≡ true → IsBare order name → IsBare order word
  bare_named order word name same is = subst (IsBare order) (sym ((bytes_eq-Decides word name).0 same)) is

  pub bare_is : (order : Order) (word : List ℕ) → IsBare order word
  unfolding bare_order order_of_value order_named do_member
  bare_is order word =
      elim (cases_Bool (bytes_eq word (codes "withdraw"))) [
        | inl t ↦ bare_named order word (codes "withdraw") t (λ e. e)
        | inr withdraw ↦
            elim (cases_Bool (bytes_eq word (codes "commit"))) [
              | inl t ↦ bare_named order word (codes "commit") t (λ e. e)
              | inr commit ↦
                  elim (cases_Bool (bytes_eq word (codes "last"))) [
                    | inl t ↦ bare_named order word (codes "last") t (λ e. e)
                    | inr last ↦
                        elim (cases_Bool (bytes_eq word (codes "detach"))) [
                          | inl t ↦ bare_named order word (codes "detach") t (λ e. e)
                          | inr detach ↦
                              elim (cases_Bool (bytes_eq word (codes "ping"))) [
                                | inl t ↦ bare_named order word (codes "ping") t (λ e. e)
                                | inr ping ↦
                                    elim (cases_Bool (bytes_eq word (codes "pending"))) [
                                      | inl t ↦ bare_named order word (codes "pending") t (λ e. e)
                                      | inr pending ↦ (λ e. let none : None ≡ Some order = rw (withdraw, commit, last, detach, ping, pending) at e in absurd (none-some order none))
                                    ]
                              ]
                        ]
                  ]
            ]
      ]

  pub bare_at : (word : List ℕ) (order : Order) → bare_order word 1 ≡ Some order → IsOrderTokens names most (Token.begin_object ∷ Token.key (codes "do") ∷ Token.string word ∷ Token.end_object ∷ []) order
  bare_at word order e =
      let start = Token.key (codes "do") ∷ Token.string word ∷ Token.end_object ∷ [] in
      let behind = Token.string word ∷ Token.end_object ∷ [] in
      let one = one_more_member 126 start no_members start (no_members_yet 126 start) (codes "do") (string word) behind (Token.end_object ∷ []) refl (is_string 126 (Token.end_object ∷ []) word) (omega arith) in
      record {
        value = alone word;
        is = is_object 127 [] start (omega arith) (member (codes "do") (string word) no_members) (members_over 126 start (member (codes "do") (string word) no_members) (Token.end_object ∷ []) one [] refl);
        means = bare_is order word e;
      }

  -- A submission, from an object with this `do` and this submission.
  module _ (found : Members) (s : Submission) (order : Order) (submitted : submission_of names most (members_len found) (object found) ≡ Some s) where
    abbrev IsHanded : List ℕ → Type 0
    IsHanded word = handed word s ≡ Some order → order_named names most word (members_len found) (object found) ≡ Some order

    handed_named : (word name : List ℕ) → bytes_eq word name ≡ true → IsHanded name → IsHanded word
    handed_named word name same is = subst IsHanded (sym ((bytes_eq-Decides word name).0 same)) is

    handed_by : (word : List ℕ) → IsHanded word
    unfolding order_named
    handed_by word =
        elim (cases_Bool (bytes_eq word (codes "submit"))) [
          | inl t ↦ handed_named word (codes "submit") t (λ e. ap (option_map Submit) submitted ∙ e)
          | inr submit ↦
              elim (cases_Bool (bytes_eq word (codes "enter"))) [
                | inl t ↦ handed_named word (codes "enter") t (λ e. ap (option_map Enter) submitted ∙ e)
                | inr enter ↦ (λ e. let none : None ≡ Some order = rw (submit, enter) at e in absurd (none-some order none))
              ]
        ]

    handed_is : (word : List ℕ) → do_member (object found) ≡ Some word → handed word s ≡ Some order → order_of_value names most (object found) ≡ Some order
    unfolding order_of_value
    handed_is word named e = rw named (handed_by word e)

  mapped : {A : Type 0} (f : ℕ → A) (n : ℕ) (is : Bool) → option_map f (if is then Some n else None) ≡ (if is then Some (f n) else None)
  mapped f n true = refl
  mapped f n false = refl

  tries_named : (w : Num) (m : ℕ) (patience : Patience) → as_u64 w ≡ Some m → m < 2 ^ 32 → patience_named (codes "tries") m ≡ Some patience → option_map Tries (tries_of (number w)) ≡ Some patience
  unfolding tries_of whole_u32
  tries_named w m patience limits below named = rw (limits, lt-ltb m (2 ^ 32) below) (mapped Tries m (nat_le 1 m && nat_le m 1000000) ∙ named)

  wait_named : (w : Num) (m : ℕ) (patience : Patience) → as_u64 w ≡ Some m → m < 2 ^ 32 → patience_named (codes "wait") m ≡ Some patience → option_map Wait (wait_of (number w)) ≡ Some patience
  unfolding wait_of whole_u32
  wait_named w m patience limits below named = rw (limits, lt-ltb m (2 ^ 32) below) (mapped Wait m (nat_le m 3600000) ∙ named)

  -- The four members that each submission has.
  abbrev four : List ℕ → List ℕ → Num → Items → Members
  four word lock n items = put (codes "script") (array items) (put (codes "number") (number n) (put (codes "lock") (string lock) (put (codes "do") (string word) no_members)))

  named_in_four : (word lock : List ℕ) (v : Num) (items : Items) → do_member (object (four word lock v items)) ≡ Some word
  unfolding do_member
  named_in_four word lock v items = refl

  named_with_tries : (word lock : List ℕ) (v : Num) (items : Items) (d : Data) → do_member (object (put (codes "tries") d (four word lock v items))) ≡ Some word
  unfolding do_member
  named_with_tries word lock v items d = refl

  named_with_wait : (word lock : List ℕ) (v : Num) (items : Items) (d : Data) → do_member (object (put (codes "wait") d (four word lock v items))) ≡ Some word
  unfolding do_member
  named_with_wait word lock v items d = refl

  abbrev submission : ℕ → List ℕ → Program → Patience → Submission
  submission n lock script patience = record { number = n; job = record { lock = lock_number names lock; script = script }; patience = patience }

  module _ (word lock : List ℕ) (v : Num) (n : ℕ) (items : Items) (script : Program) (counts : as_u64 v ≡ Some n) (few : n ≤ most) (scripted : script_of_value (array items) ≡ Some script) where
    by_four : submission_of names most 4 (object (four word lock v items)) ≡ Some (submission n lock script (Tries 1000))
    unfolding submission_of whole_up_to lock_member patience_of patience_keys
    by_four = rw (counts, le-leb n most few, scripted) refl

    module _ (w : Num) (m : ℕ) (patience : Patience) (limits : as_u64 w ≡ Some m) (below : m < 2 ^ 32) where
      by_tries : patience_named (codes "tries") m ≡ Some patience → submission_of names most 5 (object (put (codes "tries") (number w) (four word lock v items))) ≡ Some (submission n lock script patience)
      unfolding submission_of whole_up_to lock_member patience_of patience_keys
      by_tries named = rw (counts, le-leb n most few, scripted, tries_named w m patience limits below named) refl

      by_wait : patience_named (codes "wait") m ≡ Some patience → submission_of names most 5 (object (put (codes "wait") (number w) (four word lock v items))) ≡ Some (submission n lock script patience)
      unfolding submission_of whole_up_to lock_member patience_of patience_keys
      by_wait named = rw (counts, le-leb n most few, scripted, wait_named w m patience limits below named) refl

  -- The tokens of the four members, and what follows them.
  abbrev from_script : List Token → List Token
  from_script at = Token.key (codes "script") ∷ at

  abbrev from_number : List ℕ → List Token → List Token
  from_number digits at = Token.key (codes "number") ∷ Token.number digits ∷ from_script at

  abbrev from_lock : List ℕ → List ℕ → List Token → List Token
  from_lock lock digits at = Token.key (codes "lock") ∷ Token.string lock ∷ from_number digits at

  abbrev from_do : List ℕ → List ℕ → List ℕ → List Token → List Token
  from_do word lock digits at = Token.key (codes "do") ∷ Token.string word ∷ from_lock lock digits at

  module _ (word lock digits : List ℕ) (v : Num) (items : Items) (at rest : List Token) (means : number_of digits ≡ Some v) (scripted : TokensBeginWithValue 126 at (array items) rest) (shorter : length rest < length at) where
    four_so_far : MembersSoFar 126 (from_do word lock digits at) (four word lock v items) rest
    four_so_far =
        let start = from_do word lock digits at in
        let m1 = put (codes "do") (string word) no_members in
        let m2 = put (codes "lock") (string lock) m1 in
        let m3 = put (codes "number") (number v) m2 in
        let one = one_more_member 126 start no_members start (no_members_yet 126 start) (codes "do") (string word) (Token.string word ∷ from_lock lock digits at) (from_lock lock digits at) refl (is_string 126 (from_lock lock digits at) word) (omega arith) in
        let two = one_more_member 126 start m1 (from_lock lock digits at) one (codes "lock") (string lock) (Token.string lock ∷ from_number digits at) (from_number digits at) refl (is_string 126 (from_number digits at) lock) (omega arith) in
        let three = one_more_member 126 start m2 (from_number digits at) two (codes "number") (number v) (Token.number digits ∷ from_script at) (from_script at) refl (is_number 126 (from_script at) digits v means) (omega arith) in
        one_more_member 126 start m3 (from_script at) three (codes "script") (array items) at rest refl scripted (omega (arith, shorter))

    four_alone : rest ≡ Token.end_object ∷ [] → TokensBeginWithValue 127 (Token.begin_object ∷ from_do word lock digits at) (object (four word lock v items)) []
    four_alone ends =
        let start = from_do word lock digits at in
        let P : List Token → Type 0 = λ ts. MembersSoFar 126 start (four word lock v items) ts in
        is_object 127 [] start (omega arith) (four word lock v items) (members_over 126 start (four word lock v items) (Token.end_object ∷ []) (subst P ends four_so_far) [] refl)

    four_and : (name text : List ℕ) (w : Num) → rest ≡ Token.key name ∷ Token.number text ∷ Token.end_object ∷ [] → number_of text ≡ Some w
        → TokensBeginWithValue 127 (Token.begin_object ∷ from_do word lock digits at) (object (put name (number w) (four word lock v items))) []
    four_and name text w last limits =
        let start = from_do word lock digits at in
        let end = Token.end_object ∷ [] in
        let P : List Token → Type 0 = λ ts. MembersSoFar 126 start (four word lock v items) ts in
        let five = one_more_member 126 start (four word lock v items) (Token.key name ∷ Token.number text ∷ end) (subst P last four_so_far) name (number w) (Token.number text ∷ end) end refl (is_number 126 end text w limits) (omega arith) in
        is_object 127 [] start (omega arith) (put name (number w) (four word lock v items)) (members_over 126 start (put name (number w) (four word lock v items)) end five [] refl)

  module _ (word : List ℕ) (s : Submission) (order : Order) (behind : List Token) (is : IsSubmissionTokens names most behind s) (e : handed word s ≡ Some order) where
    abbrev IsHere : List Token → Type 0
    IsHere at = IsOrderTokens names most (Token.begin_object ∷ from_do word is.lock is.numbered.text at) order

    handed_here : handed word (submission is.number is.lock is.script is.patience) ≡ Some order
    handed_here = subst (λ (t : Submission). handed word t ≡ Some order) is.is e

    limit_here : (name text : List ℕ) (w : Num) → is.at_patience ≡ Token.key name ∷ Token.number text ∷ Token.end_object ∷ [] → number_of text ≡ Some w
        → submission_of names most (members_len (put name (number w) (four word is.lock is.numbered.value is.scripted.items))) (object (put name (number w) (four word is.lock is.numbered.value is.scripted.items)))
        ≡ Some (submission is.number is.lock is.script is.patience)
        → do_member (object (put name (number w) (four word is.lock is.numbered.value is.scripted.items))) ≡ Some word → IsHere is.at_script
    limit_here name text w last limits by named =
        let items = is.scripted.items in
        let v = is.numbered.value in
        let found = put name (number w) (four word is.lock v items) in
        record {
          value = object found;
          is = four_and word is.lock is.numbered.text v items is.at_script is.at_patience is.numbered.means is.scripted.is is.scripted.shorter name text w last limits;
          means = handed_is found (submission is.number is.lock is.script is.patience) order by word named handed_here;
        }

    limited_here : IsPatienceTokens is.at_patience is.patience → IsHere is.at_script
    limited_here (inr (ends, usual)) =
        let items = is.scripted.items in
        let v = is.numbered.value in
        let all = submission is.number is.lock is.script is.patience in
        let Q : Patience → Type 0 = λ patience. submission_of names most 4 (object (four word is.lock v items)) ≡ Some (submission is.number is.lock is.script patience) in
        record {
          value = object (four word is.lock v items);
          is = four_alone word is.lock is.numbered.text v items is.at_script is.at_patience is.numbered.means is.scripted.is is.scripted.shorter ends;
          means = handed_is (four word is.lock v items) all order (subst Q (sym usual) (by_four word is.lock v is.number items is.script is.numbered.counts is.few is.scripted.means)) word (named_in_four word is.lock v items) handed_here;
        }
    limited_here (inl limit) =
        let text = limit.is.is.text in
        let w = limit.is.is.value in
        let m = limit.number in
        let v = is.numbered.value in
        let items = is.scripted.items in
        let last : is.at_patience ≡ Token.key limit.name ∷ Token.number text ∷ Token.end_object ∷ [] = limit.first ∙ ap (λ (ts : List Token). Token.key limit.name ∷ ts) limit.is.is.first in
        let P : List ℕ → Type 0 = λ name. is.at_patience ≡ Token.key name ∷ Token.number text ∷ Token.end_object ∷ [] in
        let Q : List ℕ → Type 0 = λ name. patience_named name m ≡ Some is.patience in
        elim (cases_Bool (bytes_eq limit.name (codes "tries"))) [
          | inl t ↦
              let same : limit.name ≡ codes "tries" = (bytes_eq-Decides limit.name (codes "tries")).0 t in
              let by = by_tries word is.lock v is.number items is.script is.numbered.counts is.few is.scripted.means w m is.patience limit.is.is.counts limit.is.few (subst Q same limit.named) in
              limit_here (codes "tries") text w (subst P same last) limit.is.is.means by (named_with_tries word is.lock v items (number w))
          | inr tries ↦
              elim (cases_Bool (bytes_eq limit.name (codes "wait"))) [
                | inl t ↦
                    let same : limit.name ≡ codes "wait" = (bytes_eq-Decides limit.name (codes "wait")).0 t in
                    let by = by_wait word is.lock v is.number items is.script is.numbered.counts is.few is.scripted.means w m is.patience limit.is.is.counts limit.is.few (subst Q same limit.named) in
                    limit_here (codes "wait") text w (subst P same last) limit.is.is.means by (named_with_wait word is.lock v items (number w))
                | inr wait ↦ let none : None ≡ Some is.patience = rw (tries, wait) at limit.named in absurd (none-some is.patience none)
              ]
        ]

    pub handed_at : IsOrderTokens names most (Token.begin_object ∷ Token.key (codes "do") ∷ Token.string word ∷ Token.key (codes "lock") ∷ behind) order
    handed_at =
        let all : behind ≡ Token.string is.lock ∷ from_number is.numbered.text is.at_script = is.first ∙ ap (λ (ts : List Token). Token.string is.lock ∷ Token.key (codes "number") ∷ ts) is.numbered.first in
        let P : List Token → Type 0 = λ ts. IsOrderTokens names most (Token.begin_object ∷ Token.key (codes "do") ∷ Token.string word ∷ Token.key (codes "lock") ∷ ts) order in
        subst P (sym all) (limited_here is.limited)

-- The key `lock`, if it is the one that is read.
pub lock_follows : (at : List Token) (name : List ℕ) (behind : List Token) → read_key at ≡ Some (Some name, behind) → bytes_eq name (codes "lock") ≡ true → at ≡ Token.key (codes "lock") ∷ behind
lock_follows at name behind read same = read_key_is at (Some name) behind read ∙ ap (λ k. Token.key k ∷ behind) ((bytes_eq-Decides name (codes "lock")).0 same)

-- The order of a line that begins with its word and submits a job.
pub handed_read : (names : List (List ℕ)) (most : ℕ) (line word : List ℕ) (s : Submission) (order : Order) (members value after behind : List Token)
    → IsUtf8 line → tokens line ≡ Token.begin_object ∷ members → members ≡ Token.key (codes "do") ∷ value → value ≡ Token.string word ∷ after → after ≡ Token.key (codes "lock") ∷ behind
    → IsSubmissionTokens names most behind s → handed word s ≡ Some order → order_of_line names most line ≡ Some order
handed_read names most line word s order members value after behind utf8 opens named text lock is means =
    let all = opens ∙ ap (λ (ts : List Token). Token.begin_object ∷ ts) (named ∙ ap (λ (ts : List Token). Token.key (codes "do") ∷ ts) (text ∙ ap (λ (ts : List Token). Token.string word ∷ ts) lock)) in
    let P : List Token → Type 0 = λ ts. IsOrderTokens names most ts order in
    order_read names most line order utf8 (subst P (sym all) (handed_at names most word s order behind is means))
