-- The texts of a file's contents: JSON with sorted keys, and the names of damaged words.
use Rattle.std.specs.Prelude.{ℕ, List, [], ◌++◌, Bool, true, false, codes, decimal, slice_get, Option, Some, None}
use Rattle.std.specs.List.{range_with_len}
use Rattle.rme_line_text.specs.Texts.{lock_name, cells_text, separated_text}
use Rattle.rme_process_file.specs.declared.damage.Damage.{Damage}
use Rattle.rme_process_file.specs.declared.damage.Damage.TheVariants as damage
use Rattle.rme_process_file.specs.declared.stance.FileStance.{FileStance}
use Rattle.rme_process_file.specs.declared.stance.FileStance.TheVariants.{Ready, Climb, Held}
use Rattle.rme_process_file.specs.ProcessFiles.{ProcessFileView}
use Rattle.rme_process_file.specs.FileContents.{worker_words_in, lock_owner_in, cells_in, is_lock_settled_in, sections_in, file_stance_in, blocked_by_in}

-- ---- JSON

abbrev pub flag_text : Bool → List ℕ
flag_text true = codes "true"
flag_text false = codes "false"

-- `{"cells":[..],"name":"bank","owner":0,"sections":2,"settled":true}`
abbrev pub lock_object_end : List ℕ → Option ℕ → ℕ → Bool → List ℕ
lock_object_end name None sections settled =
    codes "],\"name\":\"" ++ (name ++ (codes "\",\"owner\":null,\"sections\":" ++
    (decimal sections ++ (codes ",\"settled\":" ++ (flag_text settled ++ codes "}")))))
lock_object_end name (Some worker) sections settled =
    codes "],\"name\":\"" ++ (name ++ (codes "\",\"owner\":" ++
    (decimal worker ++ (codes ",\"sections\":" ++
    (decimal sections ++ (codes ",\"settled\":" ++ (flag_text settled ++ codes "}")))))))

abbrev pub lock_object : ProcessFileView → ℕ → List ℕ
lock_object file lock =
    codes "{\"cells\":[" ++ (cells_text (cells_in file lock) ++ lock_object_end (lock_name file.names lock)
    (lock_owner_in file lock) (sections_in file lock) (is_lock_settled_in file lock))

abbrev pub living_key : Option Bool → List ℕ
living_key None = []
living_key (Some true) = codes "\"living\":true,"
living_key (Some false) = codes "\"living\":false,"

-- the worker that a worker waits for, if there is one
abbrev pub blocked_by_front : Option ℕ → List ℕ
blocked_by_front None = codes "{"
blocked_by_front (Some other) = codes "{\"blocked_by\":" ++ (decimal other ++ codes ",")

-- the rest: `"living":true,"lock":"bank","number":3,"stance":"climb"}`
abbrev pub stance_object : List (List ℕ) → Option Bool → FileStance → ℕ → List ℕ
stance_object names living Ready number =
    living_key living ++ (codes "\"number\":" ++ (decimal number ++ codes ",\"stance\":\"ready\"}"))
stance_object names living (Climb lock) number =
    living_key living ++ (codes "\"lock\":\"" ++ (lock_name names lock ++ (codes "\",\"number\":" ++
    (decimal number ++ codes ",\"stance\":\"climb\"}"))))
stance_object names living (Held lock) number =
    living_key living ++ (codes "\"lock\":\"" ++ (lock_name names lock ++ (codes "\",\"number\":" ++
    (decimal number ++ codes ",\"stance\":\"held\"}"))))

-- `{"blocked_by":0,"living":true,"lock":"bank","number":3,"stance":"climb"}`
abbrev pub worker_object : ProcessFileView → List Bool → ℕ → List ℕ
worker_object file living worker =
    blocked_by_front (blocked_by_in file worker) ++ stance_object file.names (slice_get living worker)
    (file_stance_in file worker) (worker_words_in file worker).begun

abbrev pub between_lists : Bool → List ℕ
between_lists true = codes "],\"moved\":true,\"ok\":\"status\",\"workers\":["
between_lists false = codes "],\"moved\":false,\"ok\":\"status\",\"workers\":["

-- `{"locks":[..],"moved":false,"ok":"status","workers":[..]}`
abbrev pub file_object : ProcessFileView → List Bool → List ℕ
file_object file living =
    codes "{\"locks\":[" ++ (separated_text (lock_object file) false (range_with_len 0 file.shape.locks) ++
    (between_lists file.moved
    ++ (separated_text (worker_object file living) false (range_with_len 0 file.shape.workers) ++ codes "]}")))

-- ---- damage

-- `the word turn of lock bank`
abbrev pub word_text : List ℕ → List ℕ → List ℕ
word_text word name = codes "the word " ++ (word ++ (codes " of lock " ++ name))

abbrev pub stake_text : List ℕ → ℕ → List ℕ
stake_text name worker =
    codes "the nodes of lock " ++ (name ++ (codes " that worker " ++ (decimal worker ++ codes " holds")))

abbrev pub node_text : List ℕ → ℕ → List ℕ
node_text name node = codes "node " ++ (decimal node ++ (codes " of lock " ++ name))

abbrev pub damage_text : List (List ℕ) → Damage → List ℕ
damage_text names (damage.Begun worker) = codes "the word begun of worker " ++ decimal worker
damage_text names (damage.Done worker) = codes "the word done of worker " ++ decimal worker
damage_text names (damage.Stake worker lock) = stake_text (lock_name names lock) worker
damage_text names (damage.Slate worker) = codes "the slate of worker " ++ decimal worker
damage_text names (damage.Receipt worker) = codes "the receipt of worker " ++ decimal worker
damage_text names (damage.Node lock node) = node_text (lock_name names lock) node
damage_text names (damage.Turn lock) = word_text (codes "turn") (lock_name names lock)
damage_text names (damage.Mask lock) = word_text (codes "mask") (lock_name names lock)
