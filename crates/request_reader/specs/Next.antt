-- What comes next in a script, and what is left behind it.
use Rattle.std.specs.{Prelude.{◌≡◌, ℕ, ◌+◌, ◌<◌, ◌≤◌, Bool, true, false, List, [], ◌∷◌, ◌++◌, length, Option, Ok, Err, IfSome}, Io.KnownBytes.prepend_known}
use Rattle.track_outside.specs.declared.source.Source.{Ghosts}
use Rattle.request_reader.specs.{declared.asked.Asked.Asked, Scripts.{ArePieces, end, Reads, input_limit}, Unread.Unread}
use Rattle.request_reader.specs.declared.asked.Asked.TheVariants as asked
use Rattle.request_words.specs.Bodies.{Item}

-- what was asked, as items of the script: one, or none at its end
abbrev pub items_of : Asked → List Item
items_of (asked.Request q) = Ok q ∷ []
items_of (asked.Refused r) = Err r ∷ []
items_of asked.End = []

-- whole pieces were taken from the front of the bytes that begin at a place, and this is what they ask
pub record TakesWhole (at : ℕ) (bytes : List ℕ) (items : List Item) (behind : ℕ) (rest : List ℕ) : Type 0 where
  pub used : List ℕ
  pub split : bytes ≡ used ++ rest
  pub place : behind ≡ at + length used
  pub pieces : ArePieces used items

-- all that is left of the input was taken, and this is the last that it asks
pub record TakesLast (at : ℕ) (bytes : List ℕ) (items : List Item) (rest : List ℕ) : Type 0 where
  pub none : rest ≡ []
  pub short : at + length bytes ≤ input_limit
  pub reads : Reads true at bytes items end

-- by whether the input has ended
abbrev pub Takes : Bool → ℕ → List ℕ → List Item → ℕ → List ℕ → Type 0
Takes false at bytes items behind rest = TakesWhole at bytes items behind rest
Takes true at bytes items behind rest = TakesLast at bytes items rest

-- the same of the bytes that are left before and after a call, where the source tells them
abbrev pub ReadsNext : Unread → Unread → Option (List ℕ) → Option (List ℕ) → Asked → Type 0
ReadsNext old new before after asked = IfSome before (λ left. IfSome after (λ rest.
    Takes new.ended old.before (old.kept ++ left) (items_of asked) new.before (new.kept ++ rest)))

-- the same of a source before and after it
abbrev pub ReadsFrom : {S : Type 0} → Ghosts S → Unread → Unread → S → S → Asked → Type 0
ReadsFrom g old new from to asked = ReadsNext old new (g.left from) (g.left to) asked

-- the end is told only where the input has ended
abbrev pub TellsEnd : Unread → Asked → Type 0
TellsEnd new asked.End = new.ended ≡ true
TellsEnd new asked = Unit {0}

-- the source gave bytes, each of which is counted, and reading goes forward as long as the input hasn't ended
pub record Gave (old new : Unread) (before after : Option (List ℕ)) : Type 0 where
  pub given : List ℕ
  pub gave : before ≡ prepend_known given after
  pub counted : new.before + length new.kept ≡ old.before + length old.kept + length given
  pub within : new.before + length new.kept ≤ input_limit
  pub ahead : new.ended ≡ false → old.before < new.before

-- the same of a source before and after it
abbrev pub GaveFrom : {S : Type 0} → Ghosts S → Unread → Unread → S → S → Type 0
GaveFrom g old new from to = Gave old new (g.left from) (g.left to)

-- the source gave bytes, at most one past the limit
pub record GaveFew (old : Unread) (before after : Option (List ℕ)) : Type 0 where
  pub given : List ℕ
  pub gave : before ≡ prepend_known given after
  pub few : old.before + length old.kept + length given ≤ input_limit + 1

-- the same of a source before and after it
abbrev pub GaveFewFrom : {S : Type 0} → Ghosts S → Unread → S → S → Type 0
GaveFewFrom g old from to = GaveFew old (g.left from) (g.left to)
