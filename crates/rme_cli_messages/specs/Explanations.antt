-- The explanations of a refusal and of a status: its name, the sentence that says when it comes, and the advice.
use Rattle.std.specs.Prelude.{List, codes, ℕ}
use Rattle.rme_words.specs.declared.refusal.Refusal.{Refusal}
use Rattle.rme_words.specs.declared.refusal.Refusal.TheVariants.{BadLine, LineTooLong, NotOpen, AlreadyOpen, BadShape, NoWorker, Down, Up, Busy, Idle, NoLock, BadScript, NoCell, TooManyJobs, BadImage, WrongNumber, Differs, Taken, NotAttached, NoMemory, NotWaiting, NotInside, NoSpace, SpaceDiffers, NotAllowed, Overtaken}
use Rattle.rme_cli_messages.specs.declared.exit_status.ExitStatus.{ExitStatus}
use Rattle.rme_cli_messages.specs.declared.exit_status.ExitStatus.TheVariants as ending

-- the status of an exit
abbrev pub exit_code_of : ExitStatus → ℕ
exit_code_of ending.Done = 0
exit_code_of ending.AnswerIsNo = 1
exit_code_of ending.BadArguments = 2
exit_code_of ending.ReadFailed = 3
exit_code_of ending.WriteFailed = 4
exit_code_of ending.NoMemory = 5
exit_code_of ending.SocketFailed = 6
exit_code_of ending.NoThread = 7

-- when a line has this refusal
abbrev pub refusal_when : Refusal → List ℕ
refusal_when BadLine = codes "the line is no command"
refusal_when LineTooLong = codes "the line has more than 65,536 bytes"
refusal_when NotOpen = codes "no world is open"
refusal_when AlreadyOpen = codes "open where a world is open"
refusal_when BadShape =
    codes "open with a number or a name outside the limits; load with a name outside them, or with more or fewer names than the image has locks"
refusal_when NoWorker = codes "there is no such worker"
refusal_when Down = codes "the worker is down"
refusal_when Up = codes "restart of a worker that is up"
refusal_when Busy = codes "submit to a worker that is not ready"
refusal_when Idle = codes "a step of a worker that is ready"
refusal_when NoLock = codes "there is no lock of that name, whatever the name is"
refusal_when BadScript = codes "the script has more than 8 operations"
refusal_when NoCell = codes "an operation names a cell that the lock does not have"
refusal_when TooManyJobs = codes "the worker has begun all its jobs"
refusal_when BadImage = codes "load of what is no image, or no good one"
refusal_when (WrongNumber expected) =
    codes "submit or enter of a session with a number that is neither the next nor the last"
refusal_when Differs =
    codes "submit or enter of a session with another lock or script than the pending job of its number"
refusal_when Taken = codes "attach of a worker that another session has"
refusal_when NotAttached = codes "an order of a session that has no worker"
refusal_when NoMemory = codes "memory was refused"
refusal_when NotWaiting = codes "withdraw of a worker that is up and does not wait in phase Enter"
refusal_when NotInside = codes "commit of a worker whose job waits for its lock"
refusal_when NoSpace = codes "there is no space of that name"
refusal_when SpaceDiffers = codes "create of a space that is there with other workers, cells or locks"
refusal_when NotAllowed = codes "an order that no key of the session allows"
refusal_when Overtaken = codes "attach with after of a worker that was restarted since then"

-- the meaning of a refusal, and what the caller should do
abbrev pub refusal_advice : Refusal → List ℕ
refusal_advice BadLine =
    codes "The line is not one JSON object with the keys of a command and no others, or a value has the wrong type or is too large. Nothing was done. With `--why` rme says what is wrong with it. Compare it with the forms of `rme run --help`, or of `rme serve --help` in a session, and mend the program that wrote it."
refusal_advice LineTooLong =
    codes "The line was read to its newline and thrown away; the next one is read as usual. Send shorter lines. An image that fits no line is loaded with `rme run --image`."
refusal_advice NotOpen =
    codes "There is no world yet to obey the line. Send `open` first, or `load` with the image of a saved world."
refusal_advice AlreadyOpen =
    codes "A run has one world, and it stays open to the end of the input. Go on with it; to begin anew start another run, or `load` an image in its place."
refusal_advice BadShape =
    codes "The limits are 1 to 256 workers, 1 to 16 locks, 1 to 16 cells and 1 to 1000000 jobs; a name has 1 to 32 of a-z 0-9 _ and -, and stands once. For `load` give one name for each lock of the image. What was open stays open."
refusal_advice NoWorker =
    codes "Workers are numbered from 0, so the last is one less than their number. Mend the number in the line."
refusal_advice Down =
    codes "The worker crashed and has not come up, so it can't do this. Send `restart` for it, then let it recover by `walk`."
refusal_advice Up =
    codes "Only a worker that is down can be restarted, and this one runs. Nothing is lost: go on with it."
refusal_advice Busy =
    codes "The worker has a job still, or is on its way out of its lock. Let it go on by `walk` until it is ready, then submit again. A session that has a worker sends `detach` or `resume` first."
refusal_advice Idle =
    codes "The worker is ready and has nothing to do. Hand it a job by `submit`. In a session it means that the job is done: its number, sent again, answers the receipt."
refusal_advice NoLock =
    codes "The locks are those that `open`, `load` or `rme serve` named. Mend the name. A number that was sent with it was not used."
refusal_advice BadScript =
    codes "A script has at most 8 operations. Split the job in two, where it need not be done in one section. The number was not used."
refusal_advice NoCell =
    codes "Cells are numbered from 0, and each lock has as many as `cells` says. Mend the operation. The number was not used."
refusal_advice TooManyJobs =
    codes "The world was opened with so many jobs for each worker, and a withdrawn one counts too. Use another worker, or open the next world with more `jobs`."
refusal_advice BadImage =
    codes "The bytes were cut, changed or never the image of a world, and no part of them was taken. Load the image as `save` wrote it, in lower-case hexadecimal. What was open stays open."
refusal_advice (WrongNumber expected) =
    codes "A session's jobs are numbered in turn; `expected` in the answer is the number that would be taken. Look first whether a receipt was missed, or whether another client used the worker: the job may have counted already. A worker has one job at a time: while one waits, or is inside its lock, a job on another lock is refused so too, and `expected` is the number of that one."
refusal_advice Differs =
    codes "Another job is pending under this number, so this one was not taken. Send `resume` to finish that one, and then this job under the next number. If nobody here began it, find out who else uses the worker."
refusal_advice Taken =
    codes "One session has a worker at a time. Attach another worker, or wait a little and try again: after a broken connection the old session may not have seen its end yet."
refusal_advice NotAttached =
    codes "The session has taken no worker, or it let it go or lost it by a planned crash. Send `attach` first."
refusal_advice NoMemory =
    codes "The line changed nothing, so it can be sent again when there is memory. If it comes again and again, give the program more memory or open a smaller world."
refusal_advice NotWaiting =
    codes "Only a worker that waits for its lock can give its job up. One that is inside finishes by `walk`, or `resume` in a session; one that is ready or leaves has nothing to give up."
refusal_advice NotInside =
    codes "The worker's job waits for its lock. Send `enter` again until its answer says held, do what is to be done inside, and then commit; or let `resume` make the job whole."
refusal_advice NoSpace =
    codes "A space is there from its `create` to its `drop`. Mend the name, or create the space first; `spaces` lists the names that are there."
refusal_advice SpaceDiffers =
    codes "Nothing was changed. Use the space with the workers, cells and locks that it has, or create one under another name."
refusal_advice NotAllowed =
    codes "Nothing was done. Send `hello` with the secret of a key that may do this, or ask whoever runs the server for such a key."
refusal_advice Overtaken =
    codes "Another session had the worker meanwhile, and may have been inside its lock. Give up what was done since the connection broke, then attach without `after` and see what is pending."

-- the name of a status
abbrev pub exit_status_name : ExitStatus → List ℕ
exit_status_name ending.Done = codes "Done"
exit_status_name ending.AnswerIsNo = codes "AnswerIsNo"
exit_status_name ending.BadArguments = codes "BadArguments"
exit_status_name ending.ReadFailed = codes "ReadFailed"
exit_status_name ending.WriteFailed = codes "WriteFailed"
exit_status_name ending.NoMemory = codes "NoMemory"
exit_status_name ending.SocketFailed = codes "SocketFailed"
exit_status_name ending.NoThread = codes "NoThread"

-- when a program has this exit status
abbrev pub exit_status_when : ExitStatus → List ℕ
exit_status_when ending.Done = codes "what was asked for was done"
exit_status_when ending.AnswerIsNo =
    codes "rme check and rme draw: the verdict is no or bad; rme threads: a worker was not done; rme serve: a worker was not given back; rme look: --check says no; rme ask: the server refused, or gave no answer"
exit_status_when ending.BadArguments = codes "words of the command line, or a file or a log that they name, are refused"
exit_status_when ending.ReadFailed = codes "reading failed"
exit_status_when ending.WriteFailed = codes "writing failed"
exit_status_when ending.NoMemory = codes "memory ran out"
exit_status_when ending.SocketFailed = codes "rme serve can't listen or accept a connection; rme ask can't connect; rme serve, rme look, rme move: no node of the cluster answers"
exit_status_when ending.NoThread = codes "a connection can't have a thread"

-- the meaning of a status, and what the caller should do
abbrev pub exit_status_advice : ExitStatus → List ℕ
exit_status_advice ending.Done =
    codes "All input was read and all output written. A line that was refused changes nothing in it: its answer alone says so."
exit_status_advice ending.AnswerIsNo =
    codes "Nothing went wrong with the program: this is its answer. After rme check and rme draw the verdict names the first line that the abstract machine does not have, or that is no event line; mend what wrote the transcript, or find out what it did there. After rme look --check it names the line that no server would accept. After rme ask the standard error names the refusal, or says what the server did."
exit_status_advice ending.BadArguments =
    codes "Nothing was read and nothing done. The standard error says what is wrong; `rme --help` and the --help of each command say what is right. With etcd:NAME rme look and rme move end so too where there is no such log, or the cluster refuses the user; and rme move where a server has the state, or something has its new name."
exit_status_advice ending.ReadFailed =
    codes "The standard input, or the file of --image, can't be read. What came before was obeyed and answered whole. Mend the input and run again; a world that --save would have saved is not saved. rme serve, rme look and rme move end so too where the file of a state can't be read, or what answers at --engine is no etcd."
exit_status_advice ending.WriteFailed =
    codes "The standard output, the file of --save or that of --state took no more; a front of the output was written, and nothing was answered that --state does not keep. Look for a full disk or a reader that went away, and run again. With etcd:NAME rme serve and rme move end so too where the cluster has no room, and rme serve where another server leads now, or the cluster does not answer. A state that rme move did not move stays where it is."
exit_status_advice ending.NoMemory =
    codes "There was no room for a line, an answer or the world itself. All answers to the lines before were written whole. Give the program more memory, or give it less to hold."
exit_status_advice ending.SocketFailed =
    codes "Another program may have the port: choose another --port, or 0 for a free one, and start again. Or the system allowed no more open sockets for a while: serve fewer --at-once, or raise the limit of open files. After rme ask no server listens there: start one, or name its --port or its --socket. With etcd:NAME no node of --engine answered rme serve, rme look or rme move within --patience: see whether the nodes run, and can be reached from here."
exit_status_advice ending.NoThread =
    codes "The system allowed no more threads, and the connection was closed. The other sessions went on to their ends. Serve fewer --at-once, or raise the limit of threads."
