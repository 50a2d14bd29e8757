-- Heads that are never put twice tell what was put.
use Rattle.std.proofs.Common.{◌≡◌, ◌≢◌, List, [], ◌∷◌, ◌++◌, refl, sym, ap, ap₂, subst, ◌∙◌, inl, inr}
use Rattle.rme_replica.specs.EngineLogs.{HeadValue}
use Rattle.rme_laws.specs.Puts.{HaveOwnHeads, IsFreshHead, IsOneLog, IsOneRun, IsUnbroken, LogPut, SeeEachOther, bytes_after}

-- A put behind another one saw no head from before that one.
sees_later : (head : HeadValue) (one : LogPut) (between after : List LogPut) (other : LogPut) → one.head ≢ head → SeeEachOther one.head (between ++ other ∷ after) → IsFreshHead head (between ++ other ∷ after) → other.saw ≢ head
sees_later head one [] after other new seen fresh is = new (sym seen.0 ∙ is)
sees_later head one (next ∷ between) after other new seen fresh is = sees_later head next between after other fresh.0 seen.1 fresh.1 is

follows : (head : HeadValue) (between after : List LogPut) (other : LogPut) → SeeEachOther head (between ++ other ∷ after) → IsFreshHead head (between ++ other ∷ after) → other.saw ≡ head → between ≡ []
follows head [] after other seen fresh is = refl
follows head (next ∷ between) after other seen fresh is = absurd (sees_later head next between after other fresh.0 seen.1 fresh.1 is)

between_none : (first : HeadValue) (before between after : List LogPut) (one other : LogPut) → SeeEachOther first (before ++ one ∷ (between ++ other ∷ after)) → HaveOwnHeads first (before ++ one ∷ (between ++ other ∷ after)) → other.saw ≡ one.head → between ≡ []
between_none first [] between after one other seen own is = follows one.head between after other seen.1 (fresh_behind one.head (between ++ other ∷ after) own.1) is
  where
    fresh_behind : (head : HeadValue) (puts : List LogPut) → HaveOwnHeads head puts → IsFreshHead head puts
    fresh_behind head [] own = tt
    fresh_behind head (put ∷ puts) own = own.0
between_none first (put ∷ before) between after one other seen own is = between_none put.head before between after one other seen.1 own.1 is

pub unbroken : IsUnbroken
unbroken first puts before between after one other log are is =
    let seen : SeeEachOther first (before ++ one ∷ (between ++ other ∷ after)) = subst (λ (all : List LogPut). SeeEachOther first all) are log.seen in
    let own : HaveOwnHeads first (before ++ one ∷ (between ++ other ∷ after)) = subst (λ (all : List LogPut). HaveOwnHeads first all) are log.own in
    between_none first before between after one other seen own is

-- A put among others does not have a head that is new behind them.
among : (head : HeadValue) (before after : List LogPut) (put : LogPut) → IsFreshHead head (before ++ put ∷ after) → put.head ≢ head
among head [] after put fresh = fresh.0
among head (first ∷ before) after put fresh = among head before after put fresh.1

first_of : (put other : LogPut) (puts others : List LogPut) → put ∷ puts ≡ other ∷ others → put ≡ other
first_of put other puts others same = ap (λ (all : List LogPut). head_or put all) same
  where
    head_or : LogPut → List LogPut → LogPut
    head_or usual [] = usual
    head_or usual (put ∷ puts) = put

rest_of : (put other : LogPut) (puts others : List LogPut) → put ∷ puts ≡ other ∷ others → puts ≡ others
rest_of put other puts others same = ap (λ (all : List LogPut). tail_of all) same
  where
    tail_of : List LogPut → List LogPut
    tail_of [] = []
    tail_of (put ∷ puts) = puts

fresh_first : (head : HeadValue) (puts : List LogPut) → HaveOwnHeads head puts → IsFreshHead head puts
fresh_first head [] own = tt
fresh_first head (put ∷ puts) own = own.0

same_front : (first : HeadValue) (a b a_after b_after : List LogPut) (one other : LogPut) → HaveOwnHeads first (a ++ one ∷ a_after) → a ++ one ∷ a_after ≡ b ++ other ∷ b_after → one.head ≡ other.head → a ++ one ∷ [] ≡ b ++ other ∷ []
same_front first [] [] a_after b_after one other own same heads = ap (λ (put : LogPut). put ∷ []) (first_of one other a_after b_after same)
same_front first [] (put ∷ b) a_after b_after one other own same heads =
    let behind : a_after ≡ b ++ other ∷ b_after = rest_of one put a_after (b ++ other ∷ b_after) same in
    let fresh : IsFreshHead one.head (b ++ other ∷ b_after) = subst (λ (all : List LogPut). IsFreshHead one.head all) behind (fresh_first one.head a_after own.1) in
    absurd (among one.head b b_after other fresh (sym heads))
same_front first (put ∷ a) [] a_after b_after one other own same heads =
    let is : put ≡ other = first_of put other (a ++ one ∷ a_after) b_after same in
    let fresh : IsFreshHead put.head (a ++ one ∷ a_after) = fresh_first put.head (a ++ one ∷ a_after) own.1 in
    absurd (among put.head a a_after one fresh (heads ∙ ap (λ (p : LogPut). p.head) (sym is)))
same_front first (put ∷ a) (put' ∷ b) a_after b_after one other own same heads =
    let is : put ≡ put' = first_of put put' (a ++ one ∷ a_after) (b ++ other ∷ b_after) same in
    ap₂ (λ (p : LogPut) (all : List LogPut). p ∷ all) is (same_front put.head a b a_after b_after one other own.1 (rest_of put put' (a ++ one ∷ a_after) (b ++ other ∷ b_after) same) heads)

pub one_log : IsOneLog
one_log first puts a b a_after b_after one other start log a_is b_is heads =
    let own : HaveOwnHeads first (a ++ one ∷ a_after) = subst (λ (all : List LogPut). HaveOwnHeads first all) a_is log.own in
    let same : a ++ one ∷ [] ≡ b ++ other ∷ [] = same_front first a b a_after b_after one other own (sym a_is ∙ b_is) heads in
    record { puts = same; bytes = ap (λ (all : List LogPut). bytes_after start all) same }

-- Of two fronts of a list one is a front of the other.
pub one_run : IsOneRun
one_run puts [] b a_front b_front = inl (b, refl)
one_run puts (put ∷ a) [] a_front b_front = inr (put ∷ a, refl)
one_run [] (put ∷ a) (other ∷ b) a_front b_front = absurd (cc a_front.1)
one_run (first ∷ puts) (put ∷ a) (other ∷ b) a_front b_front =
    let heads : put ≡ other = cc (a_front.1, b_front.1) in
    elim (one_run puts a b (a_front.0, cc a_front.1) (b_front.0, cc b_front.1)) [
      | inl within ↦ inl (within.0, cc (heads, within.1))
      | inr within ↦ inr (within.0, cc (heads, within.1))
    ]
