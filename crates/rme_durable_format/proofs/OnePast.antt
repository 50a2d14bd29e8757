-- The header values of a JSON value are unique.
use Rattle.std.proofs.Common.{◌≡◌, ◌∙◌, ℕ, ℤ, List, [], ◌∷◌, length, refl, sym, ap, subst}
use Rattle.std.specs.Prelude.{codes, Option, None, Some}
use Rattle.serde_json.specs.Find.{get}
use Rattle.serde_json.specs.Data.{Data, Items, no_items, item}
use Rattle.rme_line_text.specs.declared.client_receipt.ClientReceipt.{ClientReceipt}
use Rattle.rme_durable_format.specs.Headers.{HeaderValues, AreHeaderLives, AreItemsOf, AreLivesFound, IsListMember, IsJobCount, HasHeaderMembers, IsPlaceCount, IsReceiptObject, IsLastJobObject}
use Rattle.rme_durable_format.specs.declared.header.LastJob.{LastJob}
use Rattle.rme_durable_format.specs.declared.header.LastJob.TheVariants.{Nothing, Withdrawn, Receipt}

-- Receipts with equal fields are equal, and so are header values.
receipt_by : (w v l m n o p q r s : ℕ) → w ≡ v → l ≡ m → n ≡ o → p ≡ q → r ≡ s
    → (let a : ClientReceipt = record { worker = w; lock = l; number = n; place = p; reply = r } in a) ≡ (let b : ClientReceipt = record { worker = v; lock = m; number = o; place = q; reply = s } in b)
receipt_by w v l m n o p q r s e f g h i = cc

same_receipt : (names : List (List ℕ)) (value : Data) (a b : ClientReceipt) → IsReceiptObject names value a → IsReceiptObject names value b → a ≡ b
same_receipt names value a b s t =
    let worker : a.worker ≡ b.worker = let e = s.worker.0 in let f = t.worker.0 in cc in
    let name : s.lock.0 ≡ t.lock.0 = let e = s.lock.1 in let f = t.lock.1 in cc in
    let lock : a.lock ≡ b.lock = let e = s.lock.2 in let f = t.lock.2 in cc in
    let number : a.number ≡ b.number = let e = s.number.0 in let f = t.number.0 in cc in
    let place : a.place ≡ b.place = let e = s.place.0 in let f = t.place.0 in cc in
    let reply : a.reply ≡ b.reply = let e = s.reply in let f = t.reply in cc in
    receipt_by a.worker b.worker a.lock b.lock a.number b.number a.place b.place a.reply b.reply worker lock number place reply

-- The last job, the job count and the place count of a value are unique.
same_word : (names : List (List ℕ)) (value : Data) (a b : LastJob) → IsLastJobObject names value a → IsLastJobObject names value b → a ≡ b
same_word names value Nothing Nothing s t = refl
same_word names value Nothing Withdrawn s t = let few = rw s at t.0 in cc
same_word names value Nothing (Receipt b) s t = let few = rw s at t.five in cc
same_word names value Withdrawn Nothing s t = let few = rw t at s.0 in cc
same_word names value Withdrawn Withdrawn s t = refl
same_word names value Withdrawn (Receipt b) s t = let few = s.0 in let five = t.five in cc
same_word names value (Receipt a) Nothing s t = let few = rw t at s.five in cc
same_word names value (Receipt a) Withdrawn s t = let few = t.0 in let five = s.five in cc
same_word names value (Receipt a) (Receipt b) s t = ap Receipt (same_receipt names value a b s t)

same_number : (value : Data) (a b : ℕ) → IsJobCount value a → IsJobCount value b → a ≡ b
same_number value a b s t = let e = s.0 in let f = t.0 in cc

same_place : (value : Data) (a b : ℤ) → IsPlaceCount value a → IsPlaceCount value b → a ≡ b
same_place value a b s t = let e = s.0 in let f = t.0 in cc

-- So are those of a list.
each_same : {A : Type 0} (Tells : Data → A → Type 0) → ((value : Data) (a b : A) → Tells value a → Tells value b → a ≡ b) → (items : Items) (xs ys : List A) → AreItemsOf Tells items xs → AreItemsOf Tells items ys → xs ≡ ys
each_same Tells one no_items [] [] s t = refl
each_same Tells one no_items [] (y ∷ ys) s t = absurd t
each_same Tells one no_items (x ∷ xs) ys s t = absurd s
each_same Tells one (item value items) [] ys s t = absurd s
each_same Tells one (item value items) (x ∷ xs) [] s t = absurd t
each_same Tells one (item value items) (x ∷ xs) (y ∷ ys) s t = let e = one value x y s.0 t.0 in let f = each_same Tells one items xs ys s.1 t.1 in cc

list_same : {A : Type 0} (Tells : Data → A → Type 0) → ((value : Data) (a b : A) → Tells value a → Tells value b → a ≡ b) → (name : List ℕ) (value : Data) (xs ys : List A) → IsListMember Tells name value xs → IsListMember Tells name value ys → xs ≡ ys
list_same {A} Tells one name value xs ys s t =
    let e = s.1 in let f = t.1 in
    let same : t.0 ≡ s.0 = cc in
    let P : Items → Type 0 = λ (items : Items). AreItemsOf Tells items ys in each_same Tells one s.0 xs ys s.2 (subst P same t.2)

pub counts_same : (value : Data) (xs ys : List ℕ) → IsListMember IsJobCount (codes "numbers") value xs → IsListMember IsJobCount (codes "numbers") value ys → xs ≡ ys
counts_same = list_same IsJobCount same_number (codes "numbers")

-- So are the lives, of a number of workers and of a header.
lives_same : (found : Option Data) (value : Data) (workers : ℕ) (xs ys : List ℕ) → AreLivesFound found value workers xs → AreLivesFound found value workers ys → xs ≡ ys
lives_same None value workers xs ys s t = s ∙ sym t
lives_same (Some list) value workers xs ys s t = list_same IsJobCount same_number (codes "lives") value xs ys s t

pub header_lives : (names : List (List ℕ)) (value : Data) (past : HeaderValues) (counts lives : List ℕ) → HasHeaderMembers names value past → IsListMember IsJobCount (codes "numbers") value counts → AreHeaderLives value (length counts) lives
    → lives ≡ past.lives
header_lives names value past counts lives tells numbers told =
    let same : counts ≡ past.numbers = counts_same value counts past.numbers numbers tells.numbers in
    let of_all : AreHeaderLives value (length past.numbers) lives = subst (λ (c : List ℕ). AreHeaderLives value (length c) lives) same told in
    lives_same (get (codes "lives") value) value (length past.numbers) lives past.lives of_all tells.lives

past_by : (e f : ℕ) (l m : List LastJob) (c d n o : List ℕ) (p q : List ℤ) → e ≡ f → l ≡ m → c ≡ d → n ≡ o → p ≡ q
    → (let a : HeaderValues = record { epoch = e; last = l; lives = c; numbers = n; places = p } in a) ≡ (let b : HeaderValues = record { epoch = f; last = m; lives = d; numbers = o; places = q } in b)
past_by e f l m c d n o p q g h k i j = cc

pub same_past : (names : List (List ℕ)) (value : Data) (a b : HeaderValues) → HasHeaderMembers names value a → HasHeaderMembers names value b → a ≡ b
same_past names value a b s t =
    let epoch : a.epoch ≡ b.epoch = let e = s.epoch in let f = t.epoch in cc in
    let last : a.last ≡ b.last = list_same (IsLastJobObject names) (same_word names) (codes "last") value a.last b.last s.last t.last in
    let numbers : a.numbers ≡ b.numbers = list_same IsJobCount same_number (codes "numbers") value a.numbers b.numbers s.numbers t.numbers in
    let lives : a.lives ≡ b.lives =
    lives_same (get (codes "lives") value) value (length b.numbers) a.lives b.lives (subst (λ (counts : List ℕ). AreHeaderLives value (length counts) a.lives) numbers s.lives) t.lives in
    let places : a.places ≡ b.places = list_same IsPlaceCount same_place (codes "places") value a.places b.places s.places t.places in
    past_by a.epoch b.epoch a.last b.last a.lives b.lives a.numbers b.numbers a.places b.places epoch last lives numbers places
