-- Operations, scripts and entries: parsed bytes are the encoding, and the encoding is parsed.
use Rattle.std.proofs.Common.{◌≡◌, ℕ, ◌^◌, ◌<◌, ◌≤◌, Bool, true, false, cond, nat_lt, ◌==◌, List, [], ◌∷◌, ◌++◌, length, Option, Some, None, refl, sym, ap, subst, ◌∙◌, append_assoc, arith}
use Rattle.std.specs.List.{All, flat_map}
use Rattle.std.specs.Int.{w8, w32, w64, to_be_bytes}
use Rattle.std.proofs.lemmas.Bool.{ltb-false, le-ltb, lt-ltb, eqb-true}
use Rattle.std.proofs.lemmas.Option.{cond_some}
use Rattle.std.proofs.lemmas.List.{append-nil, nil_from_length}
use Rattle.rme_script.specs.declared.op.Op.{Op}
use Rattle.rme_script.specs.declared.op.Op.TheVariants.{Get, Set, Add, Copy, Swap}
use Rattle.rme_script.specs.Programs.{Program}
use Rattle.rme_script.specs.Slates.{op_words, op_from_words}
use Rattle.rme_script.proofs.Slates.{IsTriple, op_told}
use Rattle.rme_program.specs.declared.note.Receipt.{Receipt}
use Rattle.rme_program.specs.declared.note.Entry.{Entry}
use Rattle.rme_core_image.specs.Images.{triple_bytes, op_bytes, script_bytes, receipt_bytes, entry_bytes, entries_bytes, IsSmallOp, IsSmallScript, IsSmallEntry}
use Rattle.rme_core_image.specs.Parsing.{◌>>=◌, parse_number, parse_many, parse_op, parse_script, parse_receipt, parse_entry, parse_entries}
use Rattle.rme_core_image.proofs.Fields.{IsBytes, Takes, Takes-then, bind_some, some_is, wide8, wide32, wide64, number_takes, number_again}
use Rattle.rme_core_image.proofs.Many.{list_takes, list_again}
use Rattle.rme_core_image.proofs.ReceiptBytes.{receipt_takes, receipt_again}

-- ---- operations

triple_small : (kind first second : ℕ) (o : Op) → IsTriple kind first second o → first < 256 → second < 2 ^ 64 → IsSmallOp o
triple_small kind first second (Get c) t small wide = let e : c ≡ first = cc in rw e small
triple_small kind first second (Set c v) t small wide = let e : c ≡ first = cc in let f : v ≡ second = cc in (rw e small, rw f wide)
triple_small kind first second (Add c v) t small wide = let e : c ≡ first = cc in let f : v ≡ second = cc in (rw e small, rw f wide)
triple_small kind first second (Copy a b) t small wide = let e : a ≡ first = cc in (rw e small, t.within.1)
triple_small kind first second (Swap a b) t small wide = let e : a ≡ first = cc in (rw e small, t.within.1)

abbrev after_op : (second : ℕ × List ℕ) → Op → Option (Op × List ℕ)
after_op second op = Some (op, second.1)

abbrev after_second : (kind first second : ℕ × List ℕ) → Option (Op × List ℕ)
after_second kind first second = op_from_words kind.0 first.0 second.0 >>= after_op second

abbrev after_first : (kind first : ℕ × List ℕ) → Option (Op × List ℕ)
after_first kind first = parse_number w64 first.1 >>= after_second kind first

abbrev after_kind : (kind : ℕ × List ℕ) → Option (Op × List ℕ)
after_kind kind = parse_number w8 kind.1 >>= after_first kind

pub op_takes : (bytes : List ℕ) (x : Op) (rest : List ℕ) → IsBytes bytes → parse_op bytes ≡ Some (x, rest) → Takes bytes (op_bytes x) rest × IsSmallOp x
unfolding parse_op
op_takes bytes x rest fits e =
    let k = bind_some (parse_number w8 bytes) after_kind (x, rest) e in
    let f = bind_some (parse_number w8 k.0.1) (after_first k.0) (x, rest) k.2 in
    let s = bind_some (parse_number w64 f.0.1) (after_second k.0 f.0) (x, rest) f.2 in
    let o = bind_some (op_from_words k.0.0 f.0.0 s.0.0) (after_op s.0) (x, rest) s.2 in
    let tk = number_takes w8 (2 ^ 8) wide8 bytes k.0.0 k.0.1 fits k.1 in
    let tf = number_takes w8 (2 ^ 8) wide8 k.0.1 f.0.0 f.0.1 tk.0.rest_fits f.1 in
    let ts = number_takes w64 (2 ^ 64) wide64 f.0.1 s.0.0 s.0.1 tf.0.rest_fits s.1 in
    let efs = Takes-then k.0.1 (to_be_bytes w8 f.0.0) f.0.1 (to_be_bytes w64 s.0.0) s.0.1 tf.0 ts.0 in
    let eks = Takes-then bytes (to_be_bytes w8 k.0.0) k.0.1 (to_be_bytes w8 f.0.0 ++ to_be_bytes w64 s.0.0) s.0.1 tk.0 efs in
    let told = op_told k.0.0 f.0.0 s.0.0 o.0 o.1 in
    let spelled : Takes bytes (op_bytes o.0) s.0.1 = subst (λ (words : List ℕ). Takes bytes (triple_bytes words) s.0.1) {y = op_words o.0} told.words eks in
    subst (λ (y : Op × List ℕ). Takes bytes (op_bytes y.0) y.1 × IsSmallOp y.0) {x = (o.0, s.0.1)} (some_is (o.0, s.0.1) (x, rest) o.2) (spelled, triple_small k.0.0 f.0.0 s.0.0 o.0 told tf.1 ts.1)

three_more : (a b c rest : List ℕ) → (a ++ (b ++ c)) ++ rest ≡ a ++ (b ++ (c ++ rest))
three_more a b c rest = simp append_assoc

triple_again : (kind first second : ℕ) (o : Op) (rest : List ℕ) → kind < 256 → first < 256 → second < 2 ^ 64 → op_from_words kind first second ≡ Some o
    → parse_op (triple_bytes (kind ∷ first ∷ second ∷ []) ++ rest) ≡ Some (o, rest)
unfolding parse_op
triple_again kind first second o rest k f s e =
    let ss : List ℕ = to_be_bytes w64 second ++ rest in
    let fs : List ℕ = to_be_bytes w8 first ++ ss in
    ap parse_op (three_more (to_be_bytes w8 kind) (to_be_bytes w8 first) (to_be_bytes w64 second) rest)
    ∙ rw (number_again w8 (2 ^ 8) wide8 kind fs k, number_again w8 (2 ^ 8) wide8 first ss f, number_again w64 (2 ^ 64) wide64 second rest s, e) refl

pub op_again : (x : Op) (rest : List ℕ) → IsSmallOp x → parse_op (op_bytes x ++ rest) ≡ Some (x, rest)
op_again (Get c) rest small = let t : nat_lt c (2 ^ 32) ≡ true = lt-ltb c (2 ^ 32) (omega (arith, small)) in triple_again 0 c 0 (Get c) rest (omega arith) small (omega arith) (rw t refl)
op_again (Set c v) rest small = let t : nat_lt c (2 ^ 32) ≡ true = lt-ltb c (2 ^ 32) (omega (arith, small.0)) in triple_again 1 c v (Set c v) rest (omega arith) small.0 small.1 (rw t refl)
op_again (Add c v) rest small = let t : nat_lt c (2 ^ 32) ≡ true = lt-ltb c (2 ^ 32) (omega (arith, small.0)) in triple_again 2 c v (Add c v) rest (omega arith) small.0 small.1 (rw t refl)
op_again (Copy a b) rest small =
    let t : nat_lt a (2 ^ 32) ≡ true = lt-ltb a (2 ^ 32) (omega (arith, small.0)) in
    let u : nat_lt b (2 ^ 32) ≡ true = lt-ltb b (2 ^ 32) small.1 in
    triple_again 3 a b (Copy a b) rest (omega arith) small.0 (omega (arith, small.1)) (rw (t, u) refl)
op_again (Swap a b) rest small =
    let t : nat_lt a (2 ^ 32) ≡ true = lt-ltb a (2 ^ 32) (omega (arith, small.0)) in
    let u : nat_lt b (2 ^ 32) ≡ true = lt-ltb b (2 ^ 32) small.1 in
    triple_again 4 a b (Swap a b) rest (omega arith) small.0 (omega (arith, small.1)) (rw (t, u) refl)

-- ---- scripts

-- A test that must be false.
guard_past : {A : Type 0} (b : Bool) (o : Option A) (y : A) → cond b None o ≡ Some y → (b ≡ false) × (o ≡ Some y)
guard_past true o y e = absurd cc
guard_past false o y e = (refl, e)

abbrev after_ops : ℕ × List ℕ → List Op × List ℕ → Option (Program × List ℕ)
after_ops n ops = Some (record { n = n.0; ops = ops.0 }, ops.1)

abbrev after_count : ℕ × List ℕ → Option (Program × List ℕ)
after_count n = cond (nat_lt 8 n.0) None (parse_many (λ _. parse_op) n.0 [] n.1 >>= after_ops n)

pub script_takes : (bytes : List ℕ) (x : Program) (rest : List ℕ) → IsBytes bytes → parse_script bytes ≡ Some (x, rest) → Takes bytes (script_bytes x) rest × IsSmallScript x
unfolding parse_script
script_takes bytes x rest fits e =
    let n = bind_some (parse_number w8 bytes) after_count (x, rest) e in
    let g = guard_past (nat_lt 8 n.0.0) (parse_many (λ _. parse_op) n.0.0 [] n.0.1 >>= after_ops n.0) (x, rest) n.2 in
    let few : n.0.0 ≤ 8 = ltb-false _ _ g.0 in
    let o = bind_some (parse_many (λ _. parse_op) n.0.0 [] n.0.1) (after_ops n.0) (x, rest) g.1 in
    let tn = number_takes w8 (2 ^ 8) wide8 bytes n.0.0 n.0.1 fits n.1 in
    let to = list_takes parse_op op_bytes IsSmallOp op_takes n.0.0 n.0.1 o.0 tn.0.rest_fits o.1 in
    let both = Takes-then bytes (to_be_bytes w8 n.0.0) n.0.1 (flat_map op_bytes o.0.0) o.0.1 tn.0 to.0 in
    let made : Program × List ℕ = (record { n = n.0.0; ops = o.0.0 }, o.0.1) in
    subst (λ (y : Program × List ℕ). Takes bytes (script_bytes y.0) y.1 × IsSmallScript y.0) {x = made} (some_is made (x, rest) o.2) (both, record { few = few; counted = to.1; ops = to.2 })

pub script_again : (x : Program) (rest : List ℕ) → IsSmallScript x → parse_script (script_bytes x ++ rest) ≡ Some (x, rest)
unfolding parse_script
script_again x rest small =
    let ops : List ℕ = flat_map op_bytes x.ops ++ rest in
    let short : nat_lt 8 x.n ≡ false = le-ltb 8 x.n small.few in
    let many : parse_many (λ _. parse_op) x.n [] ops ≡ Some (x.ops, rest) =
    ap (λ (n : ℕ). parse_many (λ _. parse_op) n [] ops) (sym small.counted) ∙ list_again parse_op op_bytes IsSmallOp op_again x.ops rest small.ops in
    ap parse_script (append_assoc (to_be_bytes w8 x.n) (flat_map op_bytes x.ops) rest)
    ∙ rw (number_again w8 (2 ^ 8) wide8 x.n ops (omega (arith, small.few)), short, many) refl

-- ---- entries

abbrev after_script : Receipt × List ℕ → Program × List ℕ → Option (Entry × List ℕ)
after_script receipt script = Some (record { receipt = receipt.0; script = script.0 }, script.1)

abbrev after_receipt : Receipt × List ℕ → Option (Entry × List ℕ)
after_receipt receipt = parse_script receipt.1 >>= after_script receipt

pub entry_takes : (bytes : List ℕ) (x : Entry) (rest : List ℕ) → IsBytes bytes → parse_entry bytes ≡ Some (x, rest) → Takes bytes (entry_bytes x) rest × IsSmallEntry x
unfolding parse_entry
entry_takes bytes x rest fits e =
    let r = bind_some (parse_receipt bytes) after_receipt (x, rest) e in
    let s = bind_some (parse_script r.0.1) (after_script r.0) (x, rest) r.2 in
    let tr = receipt_takes bytes r.0.0 r.0.1 fits r.1 in
    let ts = script_takes r.0.1 s.0.0 s.0.1 tr.0.rest_fits s.1 in
    let both = Takes-then bytes (receipt_bytes r.0.0) r.0.1 (script_bytes s.0.0) s.0.1 tr.0 ts.0 in
    let made : Entry × List ℕ = (record { receipt = r.0.0; script = s.0.0 }, s.0.1) in
    subst (λ (y : Entry × List ℕ). Takes bytes (entry_bytes y.0) y.1 × IsSmallEntry y.0) {x = made} (some_is made (x, rest) s.2) (both, record { receipt = tr.1; script = ts.1 })

pub entry_again : (x : Entry) (rest : List ℕ) → IsSmallEntry x → parse_entry (entry_bytes x ++ rest) ≡ Some (x, rest)
unfolding parse_entry
entry_again x rest small =
    ap parse_entry (append_assoc (receipt_bytes x.receipt) (script_bytes x.script) rest)
    ∙ rw (receipt_again x.receipt (script_bytes x.script ++ rest) small.receipt, script_again x.script rest small.script) refl

abbrev after_entries : List Entry × List ℕ → Option (List Entry)
after_entries entries = cond (length entries.1 == 0) (Some entries.0) None

abbrev after_number : ℕ × List ℕ → Option (List Entry)
after_number count = parse_many (λ _. parse_entry) count.0 [] count.1 >>= after_entries

-- The bytes of some entries, and nothing after them.
pub record AreSpelled (bytes : List ℕ) (entries : List Entry) : Type 0 where
  pub spelled : bytes ≡ entries_bytes entries
  pub few : length entries < 2 ^ 32
  pub small : All IsSmallEntry entries

pub entries_take : (bytes : List ℕ) (xs : List Entry) → IsBytes bytes → parse_entries bytes ≡ Some xs → AreSpelled bytes xs
unfolding parse_entries
entries_take bytes xs fits e =
    let n = bind_some (parse_number w32 bytes) after_number xs e in
    let m = bind_some (parse_many (λ _. parse_entry) n.0.0 [] n.0.1) after_entries xs n.2 in
    let g = cond_some (length m.0.1 == 0) m.0.0 xs m.2 in
    let ended : m.0.1 ≡ [] = nil_from_length m.0.1 (eqb-true _ _ g.0) in
    let tn = number_takes w32 (2 ^ 32) wide32 bytes n.0.0 n.0.1 fits n.1 in
    let tm = list_takes parse_entry entry_bytes IsSmallEntry entry_takes n.0.0 n.0.1 m.0 tn.0.rest_fits m.1 in
    let both = Takes-then bytes (to_be_bytes w32 n.0.0) n.0.1 (flat_map entry_bytes m.0.0) m.0.1 tn.0 tm.0 in
    let whole : bytes ≡ to_be_bytes w32 n.0.0 ++ flat_map entry_bytes m.0.0 =
    both.parts ∙ ap (λ (rest : List ℕ). (to_be_bytes w32 n.0.0 ++ flat_map entry_bytes m.0.0) ++ rest) ended ∙ append-nil (to_be_bytes w32 n.0.0 ++ flat_map entry_bytes m.0.0) in
    let counted : bytes ≡ entries_bytes m.0.0 = whole ∙ ap (λ (k : ℕ). to_be_bytes w32 k ++ flat_map entry_bytes m.0.0) (sym tm.1) in
    subst (λ (ys : List Entry). AreSpelled bytes ys) {x = m.0.0} g.1 (record { spelled = counted; few = rw tm.1 tn.1; small = tm.2 })

pub entries_again : (xs : List Entry) → length xs < 2 ^ 32 → All IsSmallEntry xs → parse_entries (entries_bytes xs) ≡ Some xs
unfolding parse_entries
entries_again xs few small =
    let many : parse_many (λ _. parse_entry) (length xs) [] (flat_map entry_bytes xs) ≡ Some (xs, []) =
    ap (λ (text : List ℕ). parse_many (λ _. parse_entry) (length xs) [] text) (sym (append-nil (flat_map entry_bytes xs))) ∙ list_again parse_entry entry_bytes IsSmallEntry entry_again xs [] small in
    rw (number_again w32 (2 ^ 32) wide32 (length xs) (flat_map entry_bytes xs) few, many) refl
