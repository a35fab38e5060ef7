-- No public contract cites this. Where the next line ends.
use Rattle.std.specs.Prelude.{◌≡◌, ℕ, ◌<◌, List, [], ◌∷◌, ◌++◌, length, Option, Some, None, IfSome}
use Rattle.track_outside.specs.declared.source.Source.{Ghosts}
use Rattle.request_reader.specs.declared.line.{LineEnd.LineEnd, LineEnd.TheVariants.{Feed, Input}, Look.Look}
use Rattle.request_reader.specs.declared.line.Look.TheVariants as look
use Rattle.request_reader.specs.{Scripts.{IsLine, IsTooLong}, Unread.Unread, Filling.Gains}

-- a line of so many bytes comes first, with its line feed
pub record BeginsWithLine (bytes : List ℕ) (count : ℕ) : Type 0 where
  pub line : List ℕ
  pub rest : List ℕ
  pub split : bytes ≡ line ++ 10 ∷ rest
  pub counted : length line ≡ count
  pub whole : IsLine line

-- what bytes show of the line that they begin with
abbrev pub Shows : List ℕ → Look → Type 0
Shows bytes (look.Feed count) = BeginsWithLine bytes count
Shows bytes look.Long = IsTooLong bytes
Shows bytes look.More = IsLine bytes

-- the line ends there
abbrev pub EndsAt : Unread → Option (List ℕ) → LineEnd → Type 0
EndsAt new after (Feed count) = BeginsWithLine new.kept count
EndsAt new after Input = IsLine new.kept × IfSome after (λ left. left ≡ [])

-- the source gave bytes, and the line ends there
pub record FindsEnd (old new : Unread) (before after : Option (List ℕ)) (end : LineEnd) : Type 0 where
  pub given : List ℕ
  pub gains : Gains old new before after given
  pub ends : EndsAt new after end

-- the same of a source before and after it
abbrev pub FindsFrom : {S : Type 0} → Ghosts S → Unread → Unread → S → S → LineEnd → Type 0
FindsFrom g old new from to end = FindsEnd old new (g.left from) (g.left to) end

-- a look at the bytes found the end, or they are a line that has begun, and the source gave more
abbrev pub Turns : Unread → Unread → Option (List ℕ) → Option (List ℕ) → Option LineEnd → Type 0
Turns old new before after (Some end) = FindsEnd old new before after end
Turns old new before after None =
    IsLine old.kept × ((given : List ℕ) × (0 < length given) × Gains old new before after given)
