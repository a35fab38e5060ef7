-- No public contract cites this. What reading more bytes of an input comes to.
use Rattle.std.specs.{Prelude.{◌≡◌, ℕ, ◌+◌, ◌<◌, ◌≤◌, List, [], ◌++◌, length, Option, IfSome}, Io.KnownBytes.prepend_known}
use Rattle.track_outside.specs.{Counts.Rose, declared.source.Source.Ghosts}
use Rattle.request_reader.specs.declared.stop.ReadStop.{ReadStop, TheVariants.{ReadFault, CutOff, InputTooLong, NoMemory}}
use Rattle.request_reader.specs.{Scripts.input_limit, Unread.Unread}

-- the source gave these bytes, which are kept behind the others
pub record Gains (old new : Unread) (before after : Option (List ℕ)) (given : List ℕ) : Type 0 where
  pub kept : new.kept ≡ old.kept ++ given
  pub place : new.before ≡ old.before
  pub ended : new.ended ≡ old.ended
  pub stopped : new.stopped ≡ old.stopped
  pub gave : before ≡ prepend_known given after
  pub within : new.before + length new.kept ≤ input_limit

-- the source gave some bytes, which are kept behind the others, and its count of faults didn't fall
abbrev pub HasGained : {S : Type 0} → Ghosts S → Unread → Unread → S → S → Type 0
HasGained g old new from to =
    ((given : List ℕ) × Gains old new (g.left from) (g.left to) given) × (g.faults from ≤ g.faults to)

-- so many more bytes are kept, none only at the end
pub record Fills (old new : Unread) (before after : Option (List ℕ)) (count : ℕ) : Type 0 where
  pub given : List ℕ
  pub counted : length given ≡ count
  pub gains : Gains old new before after given
  pub end : count ≡ 0 → IfSome after (λ bytes. bytes ≡ [])

-- the input has more bytes than are read
pub record IsPast (old : Unread) (before after : Option (List ℕ)) : Type 0 where
  pub full : old.before + length old.kept ≡ input_limit
  pub given : List ℕ
  pub some : 0 < length given
  pub gave : before ≡ prepend_known given after

-- a call of the source failed, which counted it and gave nothing, and no more bytes than are read had come by then
pub record IsFault (old : Unread) (before after : Option (List ℕ)) (faults_before faults_after : ℕ) : Type 0 where
  pub same : after ≡ before
  pub rose : Rose faults_before faults_after
  pub within : old.before + length old.kept ≤ input_limit

-- why no more bytes are kept
abbrev pub StopsFilling : Unread → Option (List ℕ) → Option (List ℕ) → ℕ → ℕ → ReadStop → Type 0
StopsFilling old before after faults_before faults_after ReadFault = IsFault old before after faults_before faults_after
StopsFilling old before after faults_before faults_after InputTooLong = IsPast old before after
StopsFilling old before after faults_before faults_after (CutOff offset) = ⊥
StopsFilling old before after faults_before faults_after NoMemory = Unit {0}

-- the same of a source before and after it
abbrev pub StopsFillingFrom : {S : Type 0} → Ghosts S → Unread → S → S → ReadStop → Type 0
StopsFillingFrom g old from to stop = StopsFilling old (g.left from) (g.left to) (g.faults from) (g.faults to) stop

-- so many bytes, at most as many as there was room for, came behind the others from the source; none only at the end
pub record IsReadOnto (old new : List ℕ) (before after : Option (List ℕ)) (room count : ℕ) : Type 0 where
  pub given : List ℕ
  pub counted : length given ≡ count
  pub few : count ≤ room
  pub put : new ≡ old ++ given
  pub gave : before ≡ prepend_known given after
  pub end : count ≡ 0 → IfSome after (λ bytes. bytes ≡ [])

-- why none came
abbrev pub StopsReadingOnto : Option (List ℕ) → Option (List ℕ) → ℕ → ℕ → ReadStop → Type 0
StopsReadingOnto before after faults_before faults_after ReadFault = (after ≡ before) × Rose faults_before faults_after
StopsReadingOnto before after faults_before faults_after NoMemory = Unit {0}
StopsReadingOnto before after faults_before faults_after _ = ⊥

-- the source gave so many bytes at most
pub record GaveAtMost (most : ℕ) (before after : Option (List ℕ)) : Type 0 where
  pub given : List ℕ
  pub gave : before ≡ prepend_known given after
  pub few : length given ≤ most
