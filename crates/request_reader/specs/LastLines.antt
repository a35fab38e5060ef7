-- No public contract cites this. What the last line of an input comes to.
use Rattle.std.specs.Prelude.{◌≡◌, ◌+◌, true, [], length}
use Rattle.request_reader.specs.declared.{asked.Asked.Asked, stop.ReadStop.ReadStop, stop.ReadStop.TheVariants.{CutOff, NoMemory}}
use Rattle.request_reader.specs.{Scripts.{cut_off, Reads}, Unread.Unread, Next.{items_of, TakesLast}}

-- all bytes were used, and the input has ended
pub record HasEnded (old new : Unread) : Type 0 where
  pub kept : new.kept ≡ []
  pub place : new.before ≡ old.before + length old.kept
  pub ended : new.ended ≡ true
  pub stopped : new.stopped ≡ old.stopped

-- the bytes that are kept are all, and this is the last that they ask
abbrev pub AsksLast : Unread → Asked → Type 0
AsksLast old asked = TakesLast old.before old.kept (items_of asked) []

-- the line needs a body, of which there is nothing
abbrev pub StopsLast : Unread → ReadStop → Type 0
StopsLast old (CutOff offset) = Reads true old.before old.kept [] (cut_off offset)
StopsLast old NoMemory = Unit {0}
StopsLast old _ = ⊥
