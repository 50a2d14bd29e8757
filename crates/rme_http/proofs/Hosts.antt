-- Which hosts have a name.
use Rattle.std.proofs.Common.{◌≡◌, ◌<◌, ℕ, Bool, true, false, List, ap, arith, drop, length, map, refl, sym, take, ◌∙◌}
use Rattle.std.proofs.lemmas.Bool.{false_from_ne_true}
use Rattle.std.proofs.lemmas.List.{length-map, length-take}
use Rattle.std.proofs.lemmas.Slice.Eq.{bytes_eq-Decides}
use Rattle.std.specs.Char.{to_ascii_lowercase}
use Rattle.std.specs.Str.{str_eq_ignore_ascii_case}
use Rattle.rme_http.specs.Hosts.{is_named, is_port_part}

-- A host that is shorter than a name does not have it.
pub short_host : (name host : List ℕ) → length host < length name → false ≡ is_named name host
unfolding is_named
short_host name host short =
    let front = take (length name) host in
    let differ : str_eq_ignore_ascii_case front name ≡ false = false_from_ne_true _ (λ same.
    let lengths = ap length ((bytes_eq-Decides (map to_ascii_lowercase front) (map to_ascii_lowercase name)).0 same) in
    let shown = simp (length-map, length-take) at lengths in
    omega arith) in
    rw differ refl

-- A host whose front differs from a name does not have it.
pub not_named_by_letters : (name host front : List ℕ) (same : Bool) → front ≡ take (length name) host
    → same ≡ str_eq_ignore_ascii_case front name → same ≡ false → false ≡ is_named name host
unfolding is_named
not_named_by_letters name host front same front_is same_is differs =
    let known : str_eq_ignore_ascii_case (take (length name) host) name ≡ false =
    ap (λ (text : List ℕ). str_eq_ignore_ascii_case text name) (sym front_is) ∙ sym same_is ∙ differs in
    rw known refl

-- A host whose front is a name has it if a port or nothing follows.
pub named_by_parts : (name host front port : List ℕ) (same is_port : Bool) → front ≡ take (length name) host
    → port ≡ drop (length name) host → same ≡ str_eq_ignore_ascii_case front name → same ≡ true
    → is_port ≡ is_port_part port → is_port ≡ is_named name host
unfolding is_named
named_by_parts name host front port same is_port front_is port_is same_is agrees is_port_is =
    let known : str_eq_ignore_ascii_case (take (length name) host) name ≡ true =
    ap (λ (text : List ℕ). str_eq_ignore_ascii_case text name) (sym front_is) ∙ sym same_is ∙ agrees in
    rw known (is_port_is ∙ ap is_port_part port_is)
