-- The line of each request, without its newline, and the word that its answer repeats.
use Rattle.std.specs.Prelude.{ℕ, List, [], ◌∷◌, ◌++◌, Option, Some, None, codes, decimal, String, string_bytes}
use Rattle.std.specs.List.{flat_map}
use Rattle.std.specs.declared.alloc.Global.{Global}
use Rattle.serde_json.specs.Data.{string}
use Rattle.serde_json.specs.Written.{compact_text}
use Rattle.rme_ask_client.specs.declared.request.ClientRequest.{ClientRequest}
use Rattle.rme_ask_client.specs.declared.request.ClientRequest.TheVariants.{Hello, UseSpace, CreateSpace, DropSpace, Spaces, Status, Owner, Cells, Ping, Attach, TakeOver, Pending, Resume, Withdraw, Last, Detach}
use Rattle.rme_ask_client.specs.declared.request.CreateRequest.{CreateRequest}

abbrev pub request_word : ClientRequest → List ℕ
request_word (Hello secret) = codes "hello"
request_word (UseSpace space) = codes "use"
request_word (CreateSpace space) = codes "create"
request_word (DropSpace space) = codes "drop"
request_word (Spaces after) = codes "spaces"
request_word Status = codes "status"
request_word (Owner lock) = codes "owner"
request_word (Cells lock) = codes "cells"
request_word Ping = codes "ping"
request_word (Attach worker) = codes "attach"
request_word (TakeOver worker) = codes "attach"
request_word Pending = codes "pending"
request_word (Resume wait) = codes "resume"
request_word Withdraw = codes "withdraw"
request_word Last = codes "last"
request_word Detach = codes "detach"

-- `{"do":WORD}`
abbrev pub plain_request_text : List ℕ → List ℕ
plain_request_text word = codes "{\"do\":\"" ++ (word ++ codes "\"}")

-- `{"do":WORD,KEY:TEXT}`, with the text in JSON
abbrev pub text_request_text : List ℕ → List ℕ → List ℕ → List ℕ
text_request_text word key text =
    codes "{\"do\":\"" ++ (word ++ (codes "\",\"" ++ (key ++ (codes "\":" ++ (compact_text (string text) ++ codes "}")))))

-- names in JSON, separated by commas
abbrev pub name_text : String Global → List ℕ
name_text name = compact_text (string (string_bytes name))

abbrev pub next_name_text : String Global → List ℕ
next_name_text name = codes "," ++ name_text name

abbrev pub name_list_text : List (String Global) → List ℕ
name_list_text [] = []
name_list_text (name ∷ names) = name_text name ++ flat_map next_name_text names

-- `,KEY:N`, where a size is given
abbrev pub size_text : List ℕ → Option ℕ → List ℕ
size_text key None = []
size_text key (Some size) = codes ",\"" ++ (key ++ (codes "\":" ++ decimal size))

-- `{"do":"create","space":NAME,"locks":[NAME,..],"workers":N,"cells":N}`
abbrev pub create_request_text : CreateRequest → List ℕ
create_request_text space =
    codes "{\"do\":\"create\",\"space\":" ++ (compact_text (string space.name.now) ++ (codes ",\"locks\":[" ++
    (name_list_text space.locks.now ++ (codes "]" ++ (size_text (codes "workers") space.workers ++
    (size_text (codes "cells") space.cells ++ codes "}"))))))

abbrev pub request_text : ClientRequest → List ℕ
request_text (Hello secret) = text_request_text (codes "hello") (codes "secret") secret.now
request_text (UseSpace space) = text_request_text (codes "use") (codes "space") space.now
request_text (CreateSpace space) = create_request_text space
request_text (DropSpace space) = text_request_text (codes "drop") (codes "space") space.now
request_text (Spaces None) = codes "{\"do\":\"spaces\"}"
request_text (Spaces (Some last)) = text_request_text (codes "spaces") (codes "after") last.now
request_text Status = codes "{\"do\":\"status\"}"
request_text (Owner lock) = text_request_text (codes "owner") (codes "lock") lock.now
request_text (Cells lock) = text_request_text (codes "cells") (codes "lock") lock.now
request_text Ping = codes "{\"do\":\"ping\"}"
request_text (Attach worker) = codes "{\"do\":\"attach\",\"worker\":" ++ (decimal worker ++ codes "}")
request_text (TakeOver worker) = codes "{\"do\":\"attach\",\"take\":true,\"worker\":" ++ (decimal worker ++ codes "}")
request_text Pending = codes "{\"do\":\"pending\"}"
request_text (Resume wait) = codes "{\"do\":\"resume\",\"wait\":" ++ (decimal wait ++ codes "}")
request_text Withdraw = codes "{\"do\":\"withdraw\"}"
request_text Last = codes "{\"do\":\"last\"}"
request_text Detach = codes "{\"do\":\"detach\"}"
