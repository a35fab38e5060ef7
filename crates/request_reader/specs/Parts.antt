-- No public contract cites this. What each part of a call that reads the next request comes to.
use Rattle.std.specs.Prelude.{◌≡◌, ℕ, ◌+◌, List, [], ◌∷◌, Option, drop, slice_range}
use Rattle.track_outside.specs.declared.source.Source.{Ghosts}
use Rattle.request_reader.specs.{declared.asked.Asked.Asked, declared.stop.ReadStop.ReadStop, Unread.Unread}
use Rattle.request_words.specs.{declared.head.Head.Head, Bodies.Item, Items.Asks, Heads.IsHead}
use Rattle.request_reader.specs.{Next.{ReadsNext, TellsEnd, Gave, GaveFewFrom, items_of}, Reading.StopsFrom}

-- this came next
pub record TakesNext (old new : Unread) (before after : Option (List ℕ)) (asked : Asked) : Type 0 where
  pub next : ReadsNext old new before after asked
  pub tells : TellsEnd new asked
  pub gave : Gave old new before after
  pub stopped : new.stopped ≡ old.stopped

-- the same of a source before and after it
abbrev pub TakesFrom : {S : Type 0} → Ghosts S → Unread → Unread → S → S → Asked → Type 0
TakesFrom g old new from to asked = TakesNext old new (g.left from) (g.left to) asked

-- reading stopped
pub record Fails {S : Type 0} (g : Ghosts S) (old : Unread) (from to : S) (stop : ReadStop) : Type 0 where
  pub why : StopsFrom g old from to stop
  pub few : GaveFewFrom g old from to

-- a line of this head and its body were used, and what is answered is the one item that they ask
pub record AsksKept (head : Head) (old new : Unread) (first last : ℕ) (asked : Asked) : Type 0 where
  pub item : Item
  pub items : items_of asked ≡ item ∷ []
  pub tells : (behind : Unread) → TellsEnd behind asked
  pub asks : (line : List ℕ) → IsHead line head → Asks line (slice_range old.kept first last) item
  pub kept : new.kept ≡ drop last old.kept
  pub before : new.before ≡ old.before + last
  pub ended : new.ended ≡ old.ended
  pub stopped : new.stopped ≡ old.stopped
