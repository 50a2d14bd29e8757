-- What a request's method and target name.
use Rattle.std.specs.Prelude.{◌≡◌, ℕ, ◌+◌, ◌==◌, Bool, true, false, List, ◌++◌, Option, Some, None, bytes_eq, codes, drop, if◌then◌else◌, position, take}
use Rattle.std.specs.Option.{option_copied}
use Rattle.rme_http.specs.declared.http_request.HttpMethod.{HttpMethod}
use Rattle.rme_http.specs.declared.http_request.HttpMethod.TheVariants as method
use Rattle.rme_http.specs.declared.http_request.HttpTarget.{HttpTarget}
use Rattle.rme_http.specs.declared.http_request.Resource.{Resource}
use Rattle.rme_http.specs.declared.http_request.Resource.TheVariants as resource

abbrev pub method_of : List ℕ → HttpMethod
method_of word =
    if bytes_eq word (codes "GET") then method.Get
    else (if bytes_eq word (codes "HEAD") then method.Head else method.Other)

-- The response to this method has its content.
abbrev pub wants_content : HttpMethod → Bool
wants_content method.Get = true
wants_content method.Head = false
wants_content method.Other = true

abbrev pub resource_of : List ℕ → Resource
resource_of path =
    if bytes_eq path (codes "/metrics") then resource.Metrics
    else (if bytes_eq path (codes "/status") then resource.Status
    else (if bytes_eq path (codes "/healthz") then resource.Health
    else (if bytes_eq path (codes "/") then resource.Page else resource.Missing)))

-- A query names this space, or none.
abbrev pub NamesSpace : List ℕ → Option (List ℕ) → Type 0
NamesSpace query None = (space : List ℕ) → query ≡ codes "space=" ++ space → ⊥
NamesSpace query (Some space) = query ≡ codes "space=" ++ space

-- What a target names, given the place of its first question mark: a path up to there, and a query behind it.
abbrev pub NamesTarget : List ℕ → Option ℕ → HttpTarget → Type 0
NamesTarget target None named = (named.resource ≡ resource_of target) × (option_copied named.space ≡ None)
NamesTarget target (Some at) named =
    (named.resource ≡ resource_of (take at target)) × NamesSpace (drop (at + 1) target) (option_copied named.space)

-- WHAT A TARGET NAMES: a resource by its path, and a space by its query.
abbrev pub IsTarget : List ℕ → HttpTarget → Type 0
IsTarget target named = NamesTarget target (position (λ byte. byte == 63) target) named
