-- The text of each fault.
use Rattle.std.specs.Prelude.{ℕ, List, ◌++◌, codes, decimal, string_bytes, Option, Some, None, option_map}
use Rattle.rme_cli_messages.specs.declared.argument.BadArgument.{BadArgument}
use Rattle.rme_cli_messages.specs.declared.argument.BadArgument.TheVariants.{NoText, NoFile, NoName, Twice, ManyLocks, OutOfRange, FallsBack, NoSocket, ServedAlready, NoState, StateServed, OtherSize, OtherNames, NoNames, RenewalTaken, RenewalUnnamed}
use Rattle.rme_cli_messages.specs.declared.fault.CliFault.{CliFault}
use Rattle.rme_cli_messages.specs.declared.fault.CliFault.TheVariants.{BadArguments, ReadFailed, WriteFailed, NoMemory, BadNames, ImageUnread, BadImage, OtherLocks, Unsavable, ImageUnwritten, FolderUnsynced, ListenFailed, ConnectFailed, NoServer, AcceptFailed, NoThread, BadState, StateChanged, StateOfVersion, StateOfProcesses, BadWords, StateUnread, StateUnwritten, StateNotGrown, Unexplained, NothingAsked}
use Rattle.rme_cli_messages.specs.declared.fault.SaveError.{SaveError}
use Rattle.rme_cli_messages.specs.declared.fault.SaveError.TheVariants.{Irregular, Unwritable}

-- a word of the command line that cannot be accepted, without a reason of the system
abbrev pub bad_argument_text : BadArgument → Option (List ℕ)
bad_argument_text NoText = Some (codes "a word is no text in UTF-8")
bad_argument_text (NoFile option) = Some (option.now ++ codes " names no file: its value is empty")
bad_argument_text (NoName word) =
    Some (codes "the lock " ++ (string_bytes word ++ codes ": a name has 1 to 32 of a-z 0-9 _ and -"))
bad_argument_text (Twice word) = Some (codes "the lock " ++ (string_bytes word ++ codes ": each name stands once"))
bad_argument_text (ManyLocks count most) = Some (decimal count ++ (codes " locks: a service has 1 to " ++ decimal most))
bad_argument_text (OutOfRange option number most) =
    Some (option.now ++ (codes " " ++ (decimal number ++ (codes ": it is 1 to " ++ decimal most))))
bad_argument_text (NoSocket path) =
    Some (codes "--socket " ++ (string_bytes path ++ codes ": it is there, and is no socket"))
bad_argument_text (ServedAlready path) =
    Some (codes "--socket " ++ (string_bytes path ++ codes ": a server listens on it"))
bad_argument_text (NoState path) =
    Some (codes "--state " ++ (string_bytes path ++ codes ": it is there, and is no regular file"))
bad_argument_text (StateServed path) = Some (codes "--state " ++ (string_bytes path ++ codes ": a server has it"))
bad_argument_text (OtherSize option number has) =
    Some (option.now ++ (codes " " ++ (decimal number ++ (codes ": the state has " ++ decimal has))))
bad_argument_text (OtherNames path locks) =
    Some (codes "LOCK: the state " ++ (string_bytes path ++ (codes " has other locks: " ++ string_bytes locks)))
bad_argument_text (NoNames path) =
    Some (codes "LOCK: the state " ++ (string_bytes path ++ codes " is not there, and its locks need names"))
bad_argument_text (FallsBack before after) =
    Some (codes "FALL " ++ (decimal after ++
    (codes " after " ++ (decimal before ++ codes ": each is greater than the one before"))))
bad_argument_text (RenewalTaken path) =
    Some (codes "--state: " ++ (string_bytes path ++ codes
    " is there and was not made by a server, so that the state could not be renewed"))
bad_argument_text (RenewalUnnamed path why) = None

-- why an image cannot be saved; a reason of the system has its own text, which no definition states
abbrev pub save_error_text : SaveError → Option (List ℕ)
save_error_text Irregular = Some (codes "it is no regular file")
save_error_text (Unwritable why) = None

-- the fault that ended the program early, without a reason of the system
abbrev pub fault_text : CliFault → Option (List ℕ)
fault_text (BadArguments why) = option_map (λ text. codes "bad arguments\n  " ++ text) (bad_argument_text why)
fault_text ReadFailed = Some (codes "read failed")
fault_text WriteFailed = Some (codes "write failed")
fault_text NoMemory = Some (codes "no memory")
fault_text BadNames =
    Some (codes "--locks takes 1 to 16 names, each once, of 1 to 32 of a-z 0-9 _ and -, with commas between")
fault_text (ImageUnread file why) = None
fault_text (BadImage file) =
    Some (codes "the image " ++ (string_bytes file ++ codes " is broken: it is the image of no world"))
fault_text (OtherLocks file names) =
    Some (codes "the world of the image " ++
    (string_bytes file ++ (codes " has not as many locks as --locks has names: " ++ decimal names)))
fault_text (ImageUnwritten file why) = None
fault_text (Unsavable file why) = None
fault_text (FolderUnsynced file why) = None
fault_text (ListenFailed place why) = None
fault_text (ConnectFailed place why) = None
fault_text (NoServer tries) =
    Some (codes "no server lets this client in" ++ (string_bytes tries ++ codes
    "\n  start one by `rme serve --state FILE LOCK`, or name its --port or its --socket"))
fault_text (AcceptFailed place) =
    Some (codes "socket failed\n  " ++ (string_bytes place ++ codes ": a connection could not be accepted"))
fault_text NoThread = Some (codes "no thread")
fault_text (BadState file line) =
    Some (codes "bad state\n  " ++ (string_bytes file ++ (codes ": line " ++ decimal line)))
fault_text (StateChanged file line) =
    Some (codes "bad state\n  " ++ (string_bytes file ++
    (codes ": what was written up to line " ++ (decimal line ++ codes " has changed since"))))
fault_text (StateOfVersion file version) =
    Some (codes "bad state\n  " ++ (string_bytes file ++
    (codes ": it is of version " ++ (decimal version ++ codes ", and this program reads versions 1 and 2"))))
fault_text (StateOfProcesses file) =
    Some (codes "bad state\n  " ++ (string_bytes file ++ codes
    ": it is a file of processes, which `rme look` shows and no server keeps"))
fault_text (BadWords file why) = Some (codes "bad words\n  " ++ (string_bytes file ++ (codes ": " ++ string_bytes why)))
fault_text (StateUnread file why) = None
fault_text (StateUnwritten file why) = None
fault_text (StateNotGrown file) =
    Some (codes "the state " ++ (string_bytes file ++ codes
    " can't grow: its checkpoint can't be made, and it is as it was"))
fault_text (Unexplained asked) =
    Some (codes "no refusal and no status is called " ++ (string_bytes asked ++ codes ": rme explain names each"))
fault_text NothingAsked = Some (codes "an empty word is the name of no refusal and no status: rme explain names each")
