-- The requests of a log, as the JSON of etcd's gateway. Keys and values are in base64.
use Rattle.std.specs.Prelude.{ℕ, List, codes}
use Rattle.base64.specs.Engines.{standard}
use Rattle.base64.specs.GeneralPurpose.{encode_of}
use Rattle.serde_json.specs.Data.{Data, number, unsigned, string, array, object, Items, item, no_items, member, no_members}

abbrev pub coded_bytes : List ℕ → Data
coded_bytes bytes = string (encode_of standard bytes)

-- THE CONDITIONS: this key has exactly this value; this key is absent.
abbrev pub key_is : List ℕ → List ℕ → Data
key_is key value = object (member (codes "key") (coded_bytes key) (member (codes "result") (string (codes "EQUAL"))
    (member (codes "target") (string (codes "VALUE")) (member (codes "value") (coded_bytes value) no_members))))

abbrev pub key_is_absent : List ℕ → Data
key_is_absent key = object (member (codes "create_revision") (string (codes "0"))
    (member (codes "key") (coded_bytes key) (member (codes "result") (string (codes "EQUAL"))
    (member (codes "target") (string (codes "CREATE")) no_members))))

-- THE OPERATIONS: put a value, read a key, delete the keys from one up to another.
abbrev pub put_key : List ℕ → List ℕ → Data
put_key key value = object (member (codes "request_put")
    (object (member (codes "key") (coded_bytes key)
    (member (codes "value") (coded_bytes value) no_members))) no_members)

abbrev pub look_at : List ℕ → Data
look_at key = object (member (codes "request_range")
    (object (member (codes "key") (coded_bytes key) no_members)) no_members)

abbrev pub delete_keys : List ℕ → List ℕ → Data
delete_keys from to = object (member (codes "request_delete_range")
    (object (member (codes "key") (coded_bytes from)
    (member (codes "range_end") (coded_bytes to) no_members))) no_members)

-- A TRANSACTION: if the condition holds, all operations; else the other one.
abbrev pub transaction : Data → Data → Data → Data
transaction condition operations otherwise = object (member (codes "compare") (array (item condition no_items))
    (member (codes "failure") (array (item otherwise no_items)) (member (codes "success") operations no_members)))

-- A transaction on the condition that the head has this value, which reads the head where it does not.
abbrev pub if_head_is : List ℕ → List ℕ → Items → Data
if_head_is head_key seen operations = transaction (key_is head_key seen) (array operations) (look_at head_key)

-- READS: one key; a page of the keys from one up to another.
abbrev pub range_of : List ℕ → Data
range_of key = object (member (codes "key") (coded_bytes key) no_members)

abbrev pub page_of : List ℕ → List ℕ → ℕ → Data
page_of from to limit = object (member (codes "key") (coded_bytes from)
    (member (codes "limit") (number (unsigned limit)) (member (codes "range_end") (coded_bytes to) no_members)))

abbrev pub login_of : List ℕ → List ℕ → Data
login_of user password = object (member (codes "name") (string user)
    (member (codes "password") (string password) no_members))
