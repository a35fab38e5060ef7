-- Why reading stops, and what holds of all readings.
use Rattle.std.specs.Prelude.{◌≡◌, ℕ, ◌+◌, ◌-◌, ◌<◌, Bool, false, List, [], ◌++◌, length, take, Option, IfSome}
use Rattle.track_outside.specs.{Counts.Rose, declared.source.Source.Ghosts}
use Rattle.request_reader.specs.declared.stop.ReadStop.{ReadStop, TheVariants.{ReadFault, CutOff, InputTooLong, NoMemory}}
use Rattle.request_words.specs.Bodies.{Item}
use Rattle.request_reader.specs.{Scripts.{ArePieces, Ending, cut_off, unfinished, Reads, ReadsLeft, input_limit}, Unread.{Unread, GivesOpen}}

-- the source has bytes past the limit, and it takes one of them to tell what comes next
pub record TakesPast (at : ℕ) (bytes : List ℕ) : Type 0 where
  pub long : input_limit < at + length bytes
  pub reads : Reads false at (take (input_limit - at) bytes) [] unfinished

-- Why reading stops: a fault only where the source counted one and what it gave tells nothing more; all else by the bytes
-- that are left, where the source tells them.
abbrev pub StopsReading : Unread → Option (List ℕ) → Option (List ℕ) → ℕ → ℕ → ReadStop → Type 0
StopsReading old before after faults_before faults_after ReadFault =
    Rose faults_before faults_after × GivesOpen old before after
StopsReading old before after faults_before faults_after (CutOff offset) =
    IfSome before (λ left. ReadsLeft old.before (old.kept ++ left) [] (cut_off offset))
StopsReading old before after faults_before faults_after InputTooLong =
    IfSome before (λ left. TakesPast old.before (old.kept ++ left))
StopsReading old before after faults_before faults_after NoMemory = Unit {0}

-- the same of a source before and after it
abbrev pub StopsFrom : {S : Type 0} → Ghosts S → Unread → S → S → ReadStop → Type 0
StopsFrom g old from to stop = StopsReading old (g.left from) (g.left to) (g.faults from) (g.faults to) stop

-- bytes ask one list of items and have one ending
abbrev pub OneReading : Type 0
OneReading = (all : Bool) (at : ℕ) (bytes : List ℕ) (items others : List Item) (ending other : Ending)
    → Reads all at bytes items ending → Reads all at bytes others other → (items ≡ others) × (ending ≡ other)

-- whole pieces in front of bytes are read before them
abbrev pub PiecesComeFirst : Type 0
PiecesComeFirst = (all : Bool) (at : ℕ) (used bytes : List ℕ) (asked items : List Item) (ending : Ending)
    → ArePieces used asked → Reads all (at + length used) bytes items ending
    → Reads all at (used ++ bytes) (asked ++ items) ending

-- whole pieces behind whole pieces are whole pieces, and ask one after another
abbrev pub PiecesJoin : Type 0
PiecesJoin = (used more : List ℕ) (asked items : List Item) → ArePieces used asked → ArePieces more items
    → ArePieces (used ++ more) (asked ++ items)

-- whole pieces in front of bytes are what a reading of all of them begins with
abbrev pub PiecesAreFirst : Type 0
PiecesAreFirst = (all : Bool) (at : ℕ) (used rest : List ℕ) (asked items : List Item) (ending : Ending)
    → ArePieces used asked → Reads all at (used ++ rest) items ending
    → (more : List Item) × (items ≡ asked ++ more) × Reads all (at + length used) rest more ending
