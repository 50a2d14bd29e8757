-- The parts of the next epoch, staged one after another.
use Rattle.std.proofs.Common.{◌≡◌, ℕ, ◌+◌, ◌-◌, List, [], ◌∷◌, ◌++◌, take, drop, length, length-append, Option, Some, None, refl, sym, ap, ◌∙◌, arith}
use Rattle.std.specs.List.{concat, slice_range}
use Rattle.std.proofs.lemmas.List.{append-nil, length-take-le}
use Rattle.std.proofs.lemmas.List.Folds.{concat-append}
use Rattle.std.proofs.Math.Seq.{take-add, take-length}
use Rattle.rme_replica.specs.EngineLogs.{HeadValue, EngineLog, StagesPart, WasStaged}
use Rattle.rme_replica.specs.ReplicaStores.{HasPartsOf, HasStaged}

pub none_staged : (log : Option EngineLog) → HasStaged 0 [] log log
none_staged None = tt
none_staged (Some log) = record { head = refl; past = refl; some = omega arith; text = refl }

one_more_part : (seen : HeadValue) (count : ℕ) (bytes more : List ℕ) (log now to : EngineLog) → HasPartsOf count bytes log now → WasStaged seen count more now to → HasPartsOf (count + 1) (bytes ++ more) log to
one_more_part seen count bytes more log now to has put =
    let parts : List (List ℕ) = take count now.parts ++ more ∷ [] in
    let front : length (take count now.parts) ≡ count = length-take-le count now.parts has.some in
    let long : length parts ≡ count + 1 = simp length-append (omega (arith, front)) in
    let all : take (count + 1) parts ≡ parts = ap (λ (n : ℕ). take n parts) (sym long) ∙ take-length parts in
    let text : concat parts ≡ bytes ++ more = concat-append (take count now.parts) (more ∷ []) ∙ (ap (λ (b : List ℕ). b ++ concat (more ∷ [])) has.text ∙ ap (λ (b : List ℕ). bytes ++ b) (append-nil more)) in
    record {
      head = put.head ∙ (sym put.saw ∙ has.head);
      past = put.past ∙ has.past;
      some = omega (arith, long, ap (λ (p : List (List ℕ)). length p) put.parts);
      text = ap (λ (p : List (List ℕ)). concat (take (count + 1) p)) put.parts ∙ (ap (λ (p : List (List ℕ)). concat p) all ∙ text);
    }

pub one_more : (seen : HeadValue) (count : ℕ) (bytes more : List ℕ) (before now after : Option EngineLog) → HasStaged count bytes before now → StagesPart seen count more now after → HasStaged (count + 1) (bytes ++ more) before after
one_more seen count bytes more None None None has puts = tt
one_more seen count bytes more (Some log) (Some now) (Some to) has puts = one_more_part seen count bytes more log now to has puts
one_more seen count bytes more None (Some now) after has puts = absurd has
one_more seen count bytes more (Some log) None after has puts = absurd has
one_more seen count bytes more None None (Some to) has puts = absurd puts
one_more seen count bytes more (Some log) (Some now) None has puts = absurd puts

-- The whole parts up to one, and that one.
pub next_part : (from to next size : ℕ) (bytes : List ℕ) → to ≡ from + size → next ≡ from + size → take from bytes ++ slice_range bytes from to ≡ take next bytes
next_part from to next size bytes is_to is_next =
    let long : to - from ≡ size = omega (arith, is_to) in
    ap (λ (n : ℕ). take from bytes ++ take n (drop from bytes)) long ∙ (sym (take-add from size bytes) ∙ ap (λ (n : ℕ). take n bytes) (sym is_next))
