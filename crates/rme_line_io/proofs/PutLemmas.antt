-- Buffered bytes, and a prefix of them that was written.
use Rattle.std.proofs.Common.{◌≡◌, ℕ, List, [], ◌++◌, length, take, drop, take-append-drop, Option, refl, sym, ap, subst, ◌∙◌, append_assoc, append-nil}
use Rattle.std.proofs.lemmas.List.{take_at}
use Rattle.std.specs.Io.KnownBytes.{Appends}
use Rattle.std.proofs.KnownBytes.{Appends-nil, Appends-trans}
use Rattle.rme_line_io.specs.BufferedWrites.{WritesPrefix, BufferedWrite}

-- nothing more was buffered, and nothing was written
pub gathers_none : (held : Option (List ℕ)) (kept : List ℕ) → BufferedWrite held kept [] held kept
gathers_none held kept = record { front = []; put = Appends-nil held; rest = append-nil kept }

-- everything was written
pub gathers_all : (held mid holds : Option (List ℕ)) (kept bytes keeps : List ℕ) → Appends held mid kept → Appends mid holds bytes → keeps ≡ [] → BufferedWrite held kept bytes holds keeps
gathers_all held mid holds kept bytes keeps put more none =
    record { front = kept ++ bytes; put = Appends-trans held mid holds kept bytes put more; rest = sym (append-nil (kept ++ bytes)) ∙ ap (λ l. (kept ++ bytes) ++ l) (sym none) }

-- first some bytes were buffered, and then more
pub gathers_more : (held mid holds : Option (List ℕ)) (kept keeps last first bytes : List ℕ) → BufferedWrite held kept first mid keeps → BufferedWrite mid keeps bytes holds last
    → BufferedWrite held kept (first ++ bytes) holds last
gathers_more held mid holds kept keeps last first bytes a b = record {
  front = a.front ++ b.front;
  put = Appends-trans held mid holds a.front b.front a.put b.put;
  rest = sym (append_assoc kept first bytes) ∙ ap (λ l. l ++ bytes) a.rest ∙ append_assoc a.front keeps bytes ∙ ap (λ l. a.front ++ l) b.rest ∙ sym (append_assoc a.front b.front last);
}

-- a prefix was written
pub front_is : (held holds : Option (List ℕ)) (front rest all : List ℕ) → front ++ rest ≡ all → Appends held holds front → WritesPrefix held holds all
front_is held holds front rest all e put =
    let P : List ℕ → Type 0 = λ l. Appends held holds l in
    let Q : List ℕ → Type 0 = λ l. WritesPrefix held holds l in subst Q e (length front, subst P (sym (take_at front rest (length front) refl)) put)

-- a prefix of the later bytes, after the others
pub front_after : (held mid holds : Option (List ℕ)) (done bytes all : List ℕ) → Appends held mid done → WritesPrefix mid holds bytes → done ++ bytes ≡ all → WritesPrefix held holds all
front_after held mid holds done bytes all put (n, more) e =
    front_is held holds (done ++ take n bytes) (drop n bytes) all (append_assoc done (take n bytes) (drop n bytes) ∙ ap (λ l. done ++ l) (take-append-drop n bytes) ∙ e)
    (Appends-trans held mid holds done (take n bytes) put more)

-- a prefix of the first bytes
pub front_before : (held holds : Option (List ℕ)) (bytes more : List ℕ) → WritesPrefix held holds bytes → WritesPrefix held holds (bytes ++ more)
front_before held holds bytes more (n, put) =
    front_is held holds (take n bytes) (drop n bytes ++ more) (bytes ++ more) (sym (append_assoc (take n bytes) (drop n bytes) more) ∙ ap (λ l. l ++ more) (take-append-drop n bytes)) put

-- some bytes were buffered, and then the whole buffer was written
pub gathered_put : (held mid holds : Option (List ℕ)) (kept keeps : List ℕ) → BufferedWrite held kept [] mid keeps → Appends mid holds keeps → Appends held holds kept
gathered_put held mid holds kept keeps gathers put =
    let P : List ℕ → Type 0 = λ l. Appends held holds l in
    subst P (sym gathers.rest ∙ append-nil kept) (Appends-trans held mid holds gathers.front keeps gathers.put put)

pub gathered_front : (held mid holds : Option (List ℕ)) (kept keeps : List ℕ) → BufferedWrite held kept [] mid keeps → WritesPrefix mid holds keeps → WritesPrefix held holds kept
gathered_front held mid holds kept keeps gathers put = front_after held mid holds gathers.front keeps kept gathers.put put (sym gathers.rest ∙ append-nil kept)
