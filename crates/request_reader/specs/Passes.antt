-- No public contract cites this. Passing bytes of an input: those of a body that is not kept, and pieces that ask
-- nothing.
use Rattle.std.specs.{Prelude.{◌≡◌, ℕ, ◌+◌, ◌<◌, ◌≤◌, Bool, true, false, List, [], ◌++◌, length, Option, Some, None, IfSome}, Io.KnownBytes.prepend_known}
use Rattle.track_outside.specs.declared.source.Source.{Ghosts}
use Rattle.request_reader.specs.declared.{asked.Asked.Asked, pass.Pass.Pass, pass.Pass.TheVariants.{All, Short, Left}, stop.ReadStop.ReadStop}
use Rattle.request_reader.specs.{Scripts.{ArePieces, input_limit}, Unread.Unread, Filling.StopsFilling, Parts.TakesNext}

-- the source gave bytes, and the first of those that were kept with them were passed
pub record Moves (old new : Unread) (before after : Option (List ℕ)) (passed : List ℕ) : Type 0 where
  pub given : List ℕ
  pub gave : before ≡ prepend_known given after
  pub split : old.kept ++ given ≡ passed ++ new.kept
  pub place : new.before ≡ old.before + length passed
  pub ended : new.ended ≡ old.ended
  pub stopped : new.stopped ≡ old.stopped
  pub within : new.before + length new.kept ≤ input_limit

-- so many bytes were passed, or all that were left, and they were fewer
abbrev pub HasPassed : ℕ → List ℕ → Unread → Option (List ℕ) → Bool → Type 0
HasPassed total passed new after true = length passed ≡ total
HasPassed total passed new after false = (length passed < total) × (new.kept ≡ []) × IfSome after (λ left. left ≡ [])

pub record Passes (old new : Unread) (before after : Option (List ℕ)) (total : ℕ) (enough : Bool) : Type 0 where
  pub passed : List ℕ
  pub moves : Moves old new before after passed
  pub has : HasPassed total passed new after enough

-- the same of a source before and after it
abbrev pub PassesFrom : {S : Type 0} → Ghosts S → Unread → Unread → S → S → ℕ → Bool → Type 0
PassesFrom g old new from to total enough = Passes old new (g.left from) (g.left to) total enough

-- what a turn comes to: all were passed, or too few were there, or so many are left, and bytes came
abbrev pub PassesTurn : Unread → Unread → Option (List ℕ) → Option (List ℕ) → ℕ → Pass → Type 0
PassesTurn old new before after total All = Passes old new before after total true
PassesTurn old new before after total Short = Passes old new before after total false
PassesTurn old new before after total (Left rest) =
    ((passed : List ℕ) × Moves old new before after passed × (length passed + rest ≡ total))
    × (old.before + length old.kept < new.before + length new.kept)

-- the bytes that were kept and given
abbrev pub seen : Unread → List ℕ → Unread
seen old given = record { kept = old.kept ++ given; before = old.before; ended = old.ended; stopped = old.stopped }

-- the source gave bytes, which were too few, and then it stopped so
pub record StopsPassing (old : Unread) (before after : Option (List ℕ)) (faults_before faults_after total : ℕ)
    (stop : ReadStop) : Type 0 where
  pub given : List ℕ
  pub between : Option (List ℕ)
  pub faults : ℕ
  pub gave : before ≡ prepend_known given between
  pub few : length (old.kept ++ given) < total
  pub within : old.before + length (old.kept ++ given) ≤ input_limit
  pub rose : faults_before ≤ faults
  pub stops : StopsFilling (seen old given) between after faults faults_after stop

-- the same of a source before and after it
abbrev pub StopsPassingFrom : {S : Type 0} → Ghosts S → Unread → S → S → ℕ → ReadStop → Type 0
StopsPassingFrom g old from to total stop =
    StopsPassing old (g.left from) (g.left to) (g.faults from) (g.faults to) total stop

-- whole pieces that ask nothing were passed
pub record PassesPieces (old new : Unread) (before after : Option (List ℕ)) : Type 0 where
  pub passed : List ℕ
  pub some : 0 < length passed
  pub pieces : ArePieces passed []
  pub moves : Moves old new before after passed

-- a piece asks what comes next, or nothing
abbrev pub ReadsPiece : Unread → Unread → Option (List ℕ) → Option (List ℕ) → Option Asked → Type 0
ReadsPiece old new before after (Some asked) = TakesNext old new before after asked
ReadsPiece old new before after None = PassesPieces old new before after

-- the same of a source before and after it
abbrev pub PieceFrom : {S : Type 0} → Ghosts S → Unread → Unread → S → S → Option Asked → Type 0
PieceFrom g old new from to piece = ReadsPiece old new (g.left from) (g.left to) piece
