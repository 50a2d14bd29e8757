-- A log in memory, and another writer that may take it over.
use Rattle.std.proofs.Common.{◌≡◌, ◌≢◌, ◌≤◌, ◌&&◌, ◌==◌, inl, inr, ℕ, eqb, Bool, true, false, List, [], ◌∷◌, ◌++◌, ◌+◌, ◌-◌, ◌<◌, min, length, map, take, Some, refl, sym, ap, subst, ◌∙◌}
use Rattle.std.specs.Str.{bytes_eq}
use Rattle.std.specs.List.{concat}
use Rattle.std.proofs.lemmas.List.{append-nil, map-append, map_more, take-map, take_min}
use Rattle.std.proofs.lemmas.List.Folds.{concat-append}
use Rattle.std.proofs.Math.ListN.{get_or}
use Rattle.std.proofs.lemmas.Slice.Eq.{bytes_eq-Decides}
use Rattle.std.proofs.lemmas.Bool.{cases_Bool, eq-eqb, eqb-true, ne_eqb}
use Rattle.rme_replica.specs.EngineLogs.{EngineLog, HeadValue, HasPartsBefore, FindsMoved, MayBeAdded, MayBeStaged, WasAdded, WasStaged, base_bytes}
use Rattle.rme_replica.specs.MemoryLogs.{RivalMayCome, WasPut, bytes_named, head_eq}
use Rattle.rme_replica.specs.declared.named_bytes.NamedBytes.{NamedBytes}

same_head : (head : HeadValue) → head_eq head head ≡ true
same_head head = rw ((bytes_eq-Decides head.address head.address).1 refl, eq-eqb head.epoch head.epoch refl, eq-eqb head.sequence head.sequence refl, eq-eqb head.term head.term refl, (bytes_eq-Decides head.writer head.writer).1 refl) refl

and_of : (a b : Bool) → (a && b) ≡ true → (a ≡ true) × (b ≡ true)
and_of true true e = (refl, refl)
and_of true false e = cc
and_of false b e = cc

head_of : List ℕ → ℕ → ℕ → ℕ → List ℕ → HeadValue
head_of address epoch sequence term writer = record { address = address; epoch = epoch; sequence = sequence; term = term; writer = writer }

same_parts : (a b : HeadValue) → a.address ≡ b.address → a.epoch ≡ b.epoch → a.sequence ≡ b.sequence → a.term ≡ b.term → a.writer ≡ b.writer
    → head_of a.address a.epoch a.sequence a.term a.writer ≡ head_of b.address b.epoch b.sequence b.term b.writer
same_parts a b p q r s t = cc

equal_parts : (a b : HeadValue) → a.address ≡ b.address → a.epoch ≡ b.epoch → a.sequence ≡ b.sequence → a.term ≡ b.term → a.writer ≡ b.writer → a ≡ b
unfolding head_of
equal_parts a b p q r s t = same_parts a b p q r s t

equal_heads : (a b : HeadValue) → head_eq a b ≡ true → a ≡ b
equal_heads a b e =
    let p : (bytes_eq a.address b.address ≡ true) × (((a.epoch == b.epoch) && ((a.sequence == b.sequence) && ((a.term == b.term) && bytes_eq a.writer b.writer))) ≡ true) = and_of _ _ e in
    let q : ((a.epoch == b.epoch) ≡ true) × (((a.sequence == b.sequence) && ((a.term == b.term) && bytes_eq a.writer b.writer)) ≡ true) = and_of _ _ p.1 in
    let r : ((a.sequence == b.sequence) ≡ true) × (((a.term == b.term) && bytes_eq a.writer b.writer) ≡ true) = and_of _ _ q.1 in
    let s : ((a.term == b.term) ≡ true) × (bytes_eq a.writer b.writer ≡ true) = and_of _ _ r.1 in
    equal_parts a b ((bytes_eq-Decides a.address b.address).0 p.0) (eqb-true a.epoch b.epoch q.0) (eqb-true a.sequence b.sequence r.0) (eqb-true a.term b.term s.0) ((bytes_eq-Decides a.writer b.writer).0 s.1)

other_heads : (a b : HeadValue) → a ≢ b → head_eq a b ≡ false
other_heads a b off = elim (cases_Bool (head_eq a b)) [ inl e ↦ absurd (off (equal_heads a b e)) | inr e ↦ e ]

pub own_bytes_named : (head : HeadValue) (bytes : List ℕ) (past : List NamedBytes) → bytes_named head bytes past head ≡ bytes
unfolding bytes_named
own_bytes_named head bytes past = rw (same_head head) refl

past_bytes_named : (old next : HeadValue) (old_bytes bytes : List ℕ) (past : List NamedBytes) (entry : NamedBytes) → entry.head ≡ old → entry.bytes.items ≡ old_bytes
    → (head : HeadValue) → head ≢ next → bytes_named next bytes (entry ∷ past) head ≡ bytes_named old old_bytes past head
unfolding bytes_named
past_bytes_named old next old_bytes bytes past entry is_head is_bytes head off =
    rw (other_heads next head (λ e. off (sym e)), is_head, is_bytes) refl

pub was_put : (old next : HeadValue) (old_bytes bytes : List ℕ) (past new_past : List NamedBytes) (entry : NamedBytes) (old_parts parts : List (List ℕ)) → entry.head ≡ old → entry.bytes.items ≡ old_bytes → new_past ≡ entry ∷ past → parts ≡ []
    → WasPut next bytes (record { head = old; bytes_at = bytes_named old old_bytes past; parts = old_parts }) (record { head = next; bytes_at = bytes_named next bytes new_past; parts = parts })
was_put old next old_bytes bytes past new_past entry old_parts parts is_head is_bytes more none = record {
  head = refl;
  names = own_bytes_named next bytes new_past;
  past = λ head off. ap (λ (p : List NamedBytes). bytes_named next bytes p head) more ∙ past_bytes_named old next old_bytes bytes past entry is_head is_bytes head off;
  parts = none;
}

pub put_parts : {A : Type 0} (f : A → List ℕ) (n : ℕ) (old kept new : List A) (part : A) (bytes : List ℕ) → kept ≡ take n old → new ≡ kept ++ part ∷ [] → f part ≡ bytes → map f new ≡ take n (map f old) ++ bytes ∷ []
put_parts f n old kept new part bytes is_kept is_new is =
    ap (map f) (is_new ∙ ap (λ k. k ++ part ∷ []) is_kept) ∙ (map-append f (take n old) (part ∷ []) ∙ (ap (λ (l : List (List ℕ)). l ++ f part ∷ []) (sym (take-map f n old)) ∙ ap (λ (b : List ℕ). take n (map f old) ++ b ∷ []) is))

pub one_more_joined : {A : Type 0} (f : A → List ℕ) (parts : List A) (i : ℕ) (d : A) (bytes new : List ℕ) → i < length parts → bytes ≡ concat (map f (take i parts)) → new ≡ bytes ++ f (get_or parts i d) → new ≡ concat (map f (take (i + 1) parts))
one_more_joined f parts i d bytes new below is more =
    more ∙ (ap (λ (b : List ℕ). b ++ f (get_or parts i d)) is ∙ (ap (λ (b : List ℕ). concat (map f (take i parts)) ++ b) (sym (append-nil (f (get_or parts i d))))
    ∙ (sym (concat-append (map f (take i parts)) (f (get_or parts i d) ∷ [])) ∙ ap (λ (l : List (List ℕ)). concat l) (sym (map_more f parts i d below)))))

pub all_joined : {A : Type 0} (f : A → List ℕ) (parts : List A) (count end : ℕ) (bytes : List ℕ) → end ≡ min count (length parts) → bytes ≡ concat (map f (take end parts)) → bytes ≡ concat (take count (map f parts))
all_joined f parts count end bytes is_end is =
    is ∙ (ap (λ (n : ℕ). concat (map f (take n parts))) is_end ∙ (ap (λ l. concat (map f l)) (take_min count parts) ∙ ap (λ (l : List (List ℕ)). concat l) (sym (take-map f count parts))))

pub same_base : (next : HeadValue) (log : EngineLog) (bytes : List ℕ) → next.epoch ≡ log.head.epoch → bytes ≡ log.bytes_at log.head → bytes ≡ base_bytes (eqb next.epoch log.head.epoch) next log
same_base next log bytes is e = rw (eq-eqb next.epoch log.head.epoch is) e

pub next_base : (next : HeadValue) (log : EngineLog) (bytes : List ℕ) → next.epoch ≢ log.head.epoch → bytes ≡ concat (take (next.sequence - 1) log.parts) → bytes ≡ base_bytes (eqb next.epoch log.head.epoch) next log
next_base next log bytes off e = rw (ne_eqb next.epoch log.head.epoch off) e

pub was_put_over : (seen next : HeadValue) (bytes : List ℕ) (log to : EngineLog) (head : HeadValue) → head ≢ seen → head ≢ next → WasPut head bytes log to → RivalMayCome seen next log to
was_put_over seen next bytes log to head off_seen off_next put = inr (
  record { other = λ e. off_seen (sym put.head ∙ e); kept = put.past seen (λ e. off_seen (sym e)) },
  λ e. off_next (sym put.head ∙ e),
)

pub rival_loses : (seen next : HeadValue) (lines : List ℕ) (log to : EngineLog) → RivalMayCome seen next log to → MayBeAdded seen next lines log to
rival_loses seen next lines log to (inl e) = inl e
rival_loses seen next lines log to (inr t) = inr (inr t)

pub rival_loses_part : (seen next : HeadValue) (part : ℕ) (bytes : List ℕ) (log to : EngineLog) → RivalMayCome seen next log to → MayBeStaged seen part bytes log to
rival_loses_part seen next part bytes log to (inl e) = inl e
rival_loses_part seen next part bytes log to (inr t) = inr (inr t.0)

pub rival_keeps : (seen next : HeadValue) (log to : EngineLog) → RivalMayCome seen next log to → to.bytes_at seen ≡ log.bytes_at seen
rival_keeps seen next log to (inl e) = ap (λ (l : EngineLog). l.bytes_at seen) e
rival_keeps seen next log to (inr t) = t.0.kept

pub rival_moves : (seen next : HeadValue) (lines : List ℕ) (log to : EngineLog) → RivalMayCome seen next log to → to.head ≢ seen → FindsMoved seen next to.head lines log to
rival_moves seen next lines log to (inl e) off = record {
  taken = record { other = off; kept = ap (λ (l : EngineLog). l.bytes_at seen) e };
  has = refl;
  own = λ _. inl e;
}
rival_moves seen next lines log to (inr t) off = record { taken = t.0; has = refl; own = λ e. absurd (t.1 e) }

pub no_rival : (seen next : HeadValue) (log to : EngineLog) → RivalMayCome seen next log to → to.head ≡ seen → to ≡ log
no_rival seen next log to (inl e) is = e
no_rival seen next log to (inr t) is = absurd (t.0.other is)

added_at : (seen next : HeadValue) (lines : List ℕ) (log to : EngineLog) → log.head ≡ seen → WasPut next (base_bytes (eqb next.epoch log.head.epoch) next log ++ lines) log to → WasAdded seen next lines log to
added_at seen next lines log to is put = record {
  saw = is;
  head = put.head;
  bytes = subst (λ (head : HeadValue). to.bytes_at next ≡ base_bytes (eqb next.epoch head.epoch) next log ++ lines) is put.names;
  past = put.past;
  parts = put.parts;
}

pub adds : (seen next : HeadValue) (lines : List ℕ) (log now to : EngineLog) → RivalMayCome seen next log now → now.head ≡ seen → WasPut next (base_bytes (eqb next.epoch now.head.epoch) next now ++ lines) now to → WasAdded seen next lines log to
adds seen next lines log now to come is put =
    let P : EngineLog → Type 0 = λ l. WasAdded seen next lines l to in
    subst P (no_rival seen next log now come is) (added_at seen next lines now to is put)

staged_at : (seen : HeadValue) (part : ℕ) (bytes : List ℕ) (log to : EngineLog) → log.head ≡ seen → WasStaged log.head part bytes log to → WasStaged seen part bytes log to
staged_at seen part bytes log to is put =
    let P : HeadValue → Type 0 = λ head. WasStaged head part bytes log to in subst P is put

pub stages : (seen next : HeadValue) (part : ℕ) (bytes : List ℕ) (log now to : EngineLog) → RivalMayCome seen next log now → now.head ≡ seen → WasStaged now.head part bytes now to → WasStaged seen part bytes log to
stages seen next part bytes log now to come is put =
    let P : EngineLog → Type 0 = λ l. WasStaged seen part bytes l to in
    subst P (no_rival seen next log now come is) (staged_at seen part bytes now to is put)

pub parts_before : (seen next : HeadValue) (part : ℕ) (log now : EngineLog) → HasPartsBefore seen part (Some log) → RivalMayCome seen next log now → now.head ≡ seen → part ≤ length now.parts
parts_before seen next part log now has come is =
    let same : now ≡ log = no_rival seen next log now come is in
    let P : EngineLog → Type 0 = λ l. (l.head ≡ seen → part ≤ length l.parts) in
    subst P (sym same) has is

pub finds : (seen next found : HeadValue) (lines : List ℕ) (log now to : EngineLog) → RivalMayCome seen next log now → now.head ≢ seen → to ≡ now → found ≡ to.head → FindsMoved seen next found lines log to
finds seen next found lines log now to come off same is =
    let P : EngineLog → Type 0 = λ l. FindsMoved seen next l.head lines log l in
    let at : FindsMoved seen next to.head lines log to = subst P (sym same) (rival_moves seen next lines log now come off) in
    let Q : HeadValue → Type 0 = λ head. FindsMoved seen next head lines log to in
    subst Q (sym is) at

pub loses_after : (seen next : HeadValue) (lines : List ℕ) (log now to : EngineLog) → RivalMayCome seen next log now → to ≡ now → MayBeAdded seen next lines log to
loses_after seen next lines log now to come same =
    let P : EngineLog → Type 0 = λ l. MayBeAdded seen next lines log l in subst P (sym same) (rival_loses seen next lines log now come)

pub loses_part_after : (seen next : HeadValue) (part : ℕ) (bytes : List ℕ) (log now to : EngineLog) → RivalMayCome seen next log now → to ≡ now → MayBeStaged seen part bytes log to
loses_part_after seen next part bytes log now to come same =
    let P : EngineLog → Type 0 = λ l. MayBeStaged seen part bytes log l in subst P (sym same) (rival_loses_part seen next part bytes log now come)

pub keeps_after : (seen next : HeadValue) (log now to : EngineLog) → RivalMayCome seen next log now → to ≡ now → to.bytes_at seen ≡ log.bytes_at seen
keeps_after seen next log now to come same = ap (λ (l : EngineLog). l.bytes_at seen) same ∙ rival_keeps seen next log now come
