-- No public contract cites this. What a script asks, read item by item.
use Rattle.std.specs.Prelude.{◌≡◌, ℕ, ◌<◌, ◌≤◌, false, List, ◌++◌, length}
use Rattle.request_words.specs.Bodies.{Item}
use Rattle.request_reader.specs.{Scripts.{ArePieces, IsScript, cut_off, end, input_limit}, Unread.Unread}

-- what was read of a script and not used, what is left of it, and the items so far
pub record Reading : Type 0 where
  pub unread : Unread
  pub left : List ℕ
  pub items : List Item

-- so far it is of this script
pub record IsOf (script : List ℕ) (r : Reading) : Type 0 where
  pub used : List ℕ
  pub split : script ≡ used ++ (r.unread.kept ++ r.left)
  pub place : r.unread.before ≡ length used
  pub pieces : ArePieces used r.items

-- it goes on
pub record GoesOn (old new : Reading) : Type 0 where
  pub on : new.unread.stopped ≡ false
  pub ahead : old.unread.before < new.unread.before
  pub within : new.unread.before ≤ input_limit
  pub still : (script : List ℕ) → IsOf script old → IsOf script new

-- and ends with these items
abbrev pub Finishes : Reading → List Item → Type 0
Finishes old items = (script : List ℕ) → IsOf script old → IsScript script items end

-- or is cut off
abbrev pub IsCutOff : Reading → ℕ → Type 0
IsCutOff old offset =
    (script : List ℕ) → IsOf script old → length script ≤ input_limit → (items : List Item) × IsScript script items (cut_off offset)
