-- Which status is due, by the words, the rows of a store and the input's bytes.
use Rattle.std.specs.Prelude.{◌≡◌, ℕ, ◌⊎◌, List, ◌∷◌, codes, Option, Some, None, Result, Ok, Err}
use Rattle.segment_model.specs.Segments.{Position}
use Rattle.request_words.specs.Bodies.{Item}
use Rattle.request_reader.specs.Scripts.{Ending, end, cut_off, unfinished, IsScript}
use Rattle.script_loop.specs.declared.stop.Stop.{Stop as ScriptStop}
use Rattle.script_loop.specs.declared.stop.Stop.TheVariants as script
use Rattle.line_pieces.specs.declared.stop.Refusal.TheVariants as refusal
use Rattle.line_pieces.specs.declared.stop.Stop.{Stop}
use Rattle.line_pieces.specs.declared.stop.Stop.TheVariants as stop
use Rattle.cut_lines.specs.{Reading.ArePointsWithin, Stops.BytesShowWithin}
use Rattle.store_rows.specs.declared.{append.AppendFault.AppendFault, load.LoadFault.LoadFault}
use Rattle.store_rows.specs.declared.append.AppendFault.TheVariants as append
use Rattle.store_rows.specs.declared.load.LoadFault.TheVariants as load
use Rattle.keep_rows.specs.Loading.{Stored, LeadTo, IsFirstBad}
use Rattle.command_words.specs.declared.command.Command.{Command, TheVariants.{Cut, Apply, Gen, Trial, Play, Path, Hunt, Audit}}
use Rattle.tracker_top.specs.declared.status.Status.{Status}
use Rattle.tracker_top.specs.declared.status.Status.TheVariants.{Done, BadWords, ReadFault, WriteFault, StoreFault, BadStore, CutOff, NoMemory, InputTooLong, BadLine, Full, Differs, TooFew}
use Rattle.command_words.specs.Commands.{IsSpelled, AreNoCommand}

-- the status at which a command ends where reading of its cut lines stops
abbrev pub status_of : Stop → Status
status_of stop.Fault = ReadFault
status_of stop.TooLong = InputTooLong 0
status_of (stop.Refused refusal.Bad k) = BadLine k
status_of (stop.Refused refusal.Full k) = Full k
status_of stop.NoMemory = NoMemory

-- the status at which a command ends where the answering of the script of this number stops, and of
-- the one on standard input
abbrev pub stopped_status_of : ℕ → ScriptStop → Status
stopped_status_of number script.ReadFault = ReadFault
stopped_status_of number script.WriteFault = WriteFault
stopped_status_of number (script.CutOff offset) = CutOff number offset
stopped_status_of number script.InputTooLong = InputTooLong number
stopped_status_of number script.NoMemory = NoMemory

abbrev pub script_status_of : ScriptStop → Status
script_status_of stop = stopped_status_of 0 stop

abbrev pub script_status : Result (Unit {0}) ScriptStop → Status
script_status (Ok done) = Done
script_status (Err stop) = script_status_of stop

-- the status at which a command ends where the rows of its store are not loaded, or the new ones
-- not appended
abbrev pub load_status_of : LoadFault → Status
load_status_of load.KeepFault = StoreFault
load_status_of (load.BadRow row) = BadStore row
load_status_of load.NoMemory = NoMemory

abbrev pub append_status_of : AppendFault → Status
append_status_of append.KeepFault = StoreFault
append_status_of append.NoMemory = NoMemory

-- the bytes show this status of a command on cut lines of so many positions at most: it is Done and
-- they have points, or they show the stop that it is the status of
abbrev pub LinesShow : ℕ → List ℕ → Status → Type 0
LinesShow most bytes status =
    ((status ≡ Done) × ((points : List Position) × ArePointsWithin most bytes points))
    ⊎ ((stop : Stop) × (status ≡ status_of stop) × BytesShowWithin most bytes stop)

-- that of `cut`, as many as a series has, and that of `path`
abbrev pub CutShows : List ℕ → Status → Type 0
CutShows bytes status = LinesShow 16_384 bytes status

abbrev pub PathShows : List ℕ → Status → Type 0
PathShows bytes status = LinesShow 1_024 bytes status

-- the status at which a command ends where the script on standard input ends so; it takes a byte
-- past the most that are read where the script is unfinished
abbrev pub ended : Ending → Status
ended end = Done
ended (cut_off offset) = CutOff 0 offset
ended unfinished = InputTooLong 0

-- the bytes of a script show this status: they are a script that ends so
abbrev pub ScriptShows : List ℕ → Status → Type 0
ScriptShows bytes status =
    (items : List Item) × (ending : Ending) × IsScript bytes items ending × (status ≡ ended ending)

-- the rows of a store, where it tells them, and the bytes show this status of `apply`: the rows
-- have a first bad one, or lead to machines and the bytes are a script that ends so
abbrev pub StoreShows : Option (List (List ℕ)) → List ℕ → Status → Type 0
StoreShows None bytes status = ⊥
StoreShows (Some rows) bytes status =
    ((row : ℕ) × IsFirstBad rows row × (status ≡ BadStore row))
    ⊎ ((stored : Stored) × LeadTo rows stored × ScriptShows bytes status)

-- the first word is this one
abbrev pub Asks : List ℕ → List (List ℕ) → Type 0
Asks name words = (rest : List (List ℕ)) × (words ≡ name ∷ rest)

-- the first word is `play` or `hunt`, which are no commands of one thread
abbrev pub AsksPlay : List (List ℕ) → Type 0
AsksPlay words = Asks (codes "play") words

abbrev pub AsksHunt : List (List ℕ) → Type 0
AsksHunt words = Asks (codes "hunt") words

-- the first word is `audit`, which opens files
abbrev pub AsksAudit : List (List ℕ) → Type 0
AsksAudit words = Asks (codes "audit") words

-- the rows of the keeper, where it tells them, and the input's bytes show this status of the
-- command; a number shows that all is done; they never show a fault or want of memory, nor how
-- a command ends that runs threads or opens files
abbrev pub Shows : Command → Option (List (List ℕ)) → List ℕ → Status → Type 0
Shows (Cut cut) rows bytes status = CutShows bytes status
Shows (Apply None) rows bytes status = ScriptShows bytes status
Shows (Apply (Some name)) rows bytes status = StoreShows rows bytes status
Shows (Gen number) rows bytes status = status ≡ Done
Shows (Trial number) rows bytes status = status ≡ Done
Shows (Path path) rows bytes status = PathShows bytes status
Shows (Play plan) rows bytes status = ⊥
Shows (Hunt hunt) rows bytes status = ⊥
Shows (Audit audit) rows bytes status = ⊥

-- the words, the rows and the bytes show this status: the words are no command, or one of which the
-- others show it
abbrev pub IsDue : List (List ℕ) → Option (List (List ℕ)) → List ℕ → Status → Type 0
IsDue words rows bytes status =
    ((status ≡ BadWords) × AreNoCommand words)
    ⊎ ((command : Command) × IsSpelled words command × Shows command rows bytes status)

-- no words, rows and bytes show two statuses
abbrev pub OneStatusIsDue : Type 0
OneStatusIsDue =
    (words : List (List ℕ)) (rows : Option (List (List ℕ))) (bytes : List ℕ) (one other : Status)
    → IsDue words rows bytes one → IsDue words rows bytes other → one ≡ other

-- the number that the program ends with
abbrev pub number_of : Status → ℕ
number_of Done = 0
number_of BadWords = 2
number_of ReadFault = 3
number_of WriteFault = 4
number_of StoreFault = 5
number_of (BadStore row) = 6
number_of (CutOff script offset) = 7
number_of NoMemory = 8
number_of (InputTooLong script) = 9
number_of (BadLine k) = 10
number_of (Full k) = 11
number_of (Differs verdict) = 13
number_of (TooFew count) = 14
