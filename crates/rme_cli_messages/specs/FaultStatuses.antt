-- The exit status after a fault or after a command line that is no task, and the fault of the program for each fault of
-- the crates below.
use Rattle.std.specs.Prelude.{ℕ, Bool, true, false, Result, Ok, Err, String}
use Rattle.std.specs.declared.alloc.Global.{Global}
use Rattle.clap.specs.declared.error.kind.ErrorKind as clap
use Rattle.clap.specs.declared.error.kind.ErrorKind.TheVariants as words
use Rattle.std.specs.declared.io.ErrorKind.{ErrorKind}
use Rattle.std.specs.declared.io.ErrorKind.TheVariants as reason
use Rattle.rme_words.specs.declared.refusal.Refusal.{Refusal}
use Rattle.rme_words.specs.declared.refusal.Refusal.TheVariants as refusal
use Rattle.rme_line_io.specs.declared.fault.EngineFault.{EngineFault}
use Rattle.rme_line_io.specs.declared.fault.EngineFault.TheVariants as engine
use Rattle.rme_line_io.specs.declared.fault.ServeFault.{ServeFault}
use Rattle.rme_line_io.specs.declared.fault.ServeFault.TheVariants as serving
use Rattle.rme_cli_messages.specs.declared.fault.CliFault.{CliFault}
use Rattle.rme_cli_messages.specs.declared.fault.CliFault.TheVariants.{BadArguments, ReadFailed, WriteFailed, NoMemory, BadNames, ImageUnread, BadImage, OtherLocks, Unsavable, ImageUnwritten, FolderUnsynced, ListenFailed, ConnectFailed, NoServer, AcceptFailed, NoThread, BadState, StateChanged, StateOfVersion, StateOfProcesses, BadWords, StateUnread, StateUnwritten, StateNotGrown, Unexplained, NothingAsked}
use Rattle.rme_cli_messages.specs.declared.argument.BadArgument.TheVariants.{NoText}

abbrev pub fault_status : CliFault → ℕ
fault_status (BadArguments why) = 2
fault_status ReadFailed = 3
fault_status WriteFailed = 4
fault_status NoMemory = 5
fault_status BadNames = 2
fault_status (ImageUnread file why) = 3
fault_status (BadImage file) = 2
fault_status (OtherLocks file names) = 2
fault_status (Unsavable file why) = 2
fault_status (ImageUnwritten file why) = 4
fault_status (FolderUnsynced file why) = 4
fault_status (ListenFailed place why) = 6
fault_status (ConnectFailed place why) = 6
fault_status (NoServer tries) = 6
fault_status (AcceptFailed place) = 6
fault_status NoThread = 7
fault_status (BadState file line) = 2
fault_status (StateChanged file line) = 2
fault_status (StateOfVersion file version) = 2
fault_status (StateOfProcesses file) = 2
fault_status (BadWords file why) = 2
fault_status (StateUnread file why) = 3
fault_status (StateUnwritten file why) = 4
fault_status (StateNotGrown file) = 5
fault_status (Unexplained asked) = 2
fault_status NothingAsked = 2

-- the program's fault for a fault of the engine
abbrev pub fault_of_engine : EngineFault → CliFault
fault_of_engine engine.ReadFailed = ReadFailed
fault_of_engine engine.WriteFailed = WriteFailed
fault_of_engine engine.NoMemory = NoMemory

-- the program's fault for a fault of a server, which listened on this address
abbrev pub fault_of_serving : ServeFault → String Global → CliFault
fault_of_serving serving.SocketFailed place = AcceptFailed place
fault_of_serving serving.NoThread place = NoThread
fault_of_serving serving.NoMemory place = NoMemory

-- the fault if the command line cannot be read as text, by the kind of the reason
abbrev pub fault_of_words : ErrorKind → CliFault
fault_of_words reason.OutOfMemory = NoMemory
fault_of_words _ = BadArguments NoText

-- the fault if a file cannot be read or written, by the kind of the reason: refused memory, otherwise the given fault
abbrev pub fault_on_file : ErrorKind → CliFault → CliFault
fault_on_file reason.OutOfMemory other = NoMemory
fault_on_file _ other = other

-- the fault if the image of a file is refused with this number of names
abbrev pub fault_of_loading : Refusal → String Global → ℕ → CliFault
fault_of_loading refusal.NoMemory file names = NoMemory
fault_of_loading refusal.BadShape file names = OtherLocks file names
fault_of_loading _ file names = BadImage file

-- the result of printing the requested text
abbrev pub print_status : Bool → Result ℕ CliFault
print_status true = Ok 0
print_status false = Err WriteFailed

-- the result of a command line that is no task, by its kind and whether its text was printed
abbrev pub status_of_parse_error : clap.ErrorKind → Bool → Result ℕ CliFault
status_of_parse_error words.OutOfMemory _ = Err NoMemory
status_of_parse_error words.DisplayHelp is_printed = print_status is_printed
status_of_parse_error words.DisplayVersion is_printed = print_status is_printed
status_of_parse_error _ _ = Ok 2
