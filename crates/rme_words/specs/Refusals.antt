-- The numbers and the names of the refusals.
use Rattle.std.specs.Prelude.{ℕ, List, codes}
use Rattle.rme_words.specs.declared.refusal.Refusal.{Refusal}
use Rattle.rme_words.specs.declared.refusal.Refusal.TheVariants.{BadLine, LineTooLong, NotOpen, AlreadyOpen, BadShape, NoWorker, Down, Up, Busy, Idle, NoLock, BadScript, NoCell, TooManyJobs, BadImage, WrongNumber, Differs, Taken, NotAttached, NoMemory, NotWaiting, NotInside, NoSpace, SpaceDiffers, NotAllowed, Overtaken}

abbrev pub refusal_code : Refusal → ℕ
refusal_code BadLine = 1
refusal_code LineTooLong = 2
refusal_code NotOpen = 3
refusal_code AlreadyOpen = 4
refusal_code BadShape = 5
refusal_code NoWorker = 6
refusal_code Down = 7
refusal_code Up = 8
refusal_code Busy = 9
refusal_code Idle = 10
refusal_code NoLock = 11
refusal_code BadScript = 12
refusal_code NoCell = 13
refusal_code TooManyJobs = 14
refusal_code BadImage = 15
refusal_code (WrongNumber expected) = 16
refusal_code Differs = 17
refusal_code Taken = 18
refusal_code NotAttached = 19
refusal_code NoMemory = 20
refusal_code NotWaiting = 21
refusal_code NotInside = 22
refusal_code NoSpace = 23
refusal_code SpaceDiffers = 24
refusal_code NotAllowed = 25
refusal_code Overtaken = 26

abbrev pub refusal_name : Refusal → List ℕ
refusal_name BadLine = codes "BadLine"
refusal_name LineTooLong = codes "LineTooLong"
refusal_name NotOpen = codes "NotOpen"
refusal_name AlreadyOpen = codes "AlreadyOpen"
refusal_name BadShape = codes "BadShape"
refusal_name NoWorker = codes "NoWorker"
refusal_name Down = codes "Down"
refusal_name Up = codes "Up"
refusal_name Busy = codes "Busy"
refusal_name Idle = codes "Idle"
refusal_name NoLock = codes "NoLock"
refusal_name BadScript = codes "BadScript"
refusal_name NoCell = codes "NoCell"
refusal_name TooManyJobs = codes "TooManyJobs"
refusal_name BadImage = codes "BadImage"
refusal_name (WrongNumber expected) = codes "WrongNumber"
refusal_name Differs = codes "Differs"
refusal_name Taken = codes "Taken"
refusal_name NotAttached = codes "NotAttached"
refusal_name NoMemory = codes "NoMemory"
refusal_name NotWaiting = codes "NotWaiting"
refusal_name NotInside = codes "NotInside"
refusal_name NoSpace = codes "NoSpace"
refusal_name SpaceDiffers = codes "SpaceDiffers"
refusal_name NotAllowed = codes "NotAllowed"
refusal_name Overtaken = codes "Overtaken"
