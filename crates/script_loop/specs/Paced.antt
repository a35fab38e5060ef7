-- What a script comes to where it matters when its replies are handed out, and what stands where
-- memory is wanting.
use Rattle.std.specs.{Prelude.{◌≡◌, ℕ, ◌≤◌, ◌⊎◌, Bool, true, List, ◌++◌, length, take, Option, Result, Err}, Io.KnownBytes.append_known}
use Rattle.track_outside.specs.declared.source.Source as source
use Rattle.track_outside.specs.declared.sink.Sink as sink
use Rattle.request_words.specs.Bodies.{Item}
use Rattle.request_model.specs.declared.{requests.Request.Request, replies.Reply.Reply}
use Rattle.script_loop.specs.{declared.stop.Stop.Stop, declared.stop.Stop.TheVariants.NoMemory, Outputs.IsOutput, Endings.{HasRead, HasWritten}}

-- what stands at this result where the items were answered: where memory is wanting, perhaps what one
-- more answer left that wasn't made
abbrev pub IsLeft : {S : Type 0} → (S → S → Type 0) → S → S → Result (Unit {0}) Stop → Type 0
IsLeft fails after now (Err NoMemory) = (now ≡ after) ⊎ fails after now
IsLeft fails after now result = now ≡ after

-- the sink took the first text, and a first part of the second one
abbrev pub TookThrough : {O : Type 0} → sink.Ghosts O → O → O → List ℕ → List ℕ → Type 0
TookThrough g old new front back =
    (n : ℕ) × (n ≤ length back) × (g.taken new ≡ append_known (g.taken old) (front ++ take n back))

-- all items but one at most have whole replies, and the last one has the rest of the text
pub record IsSplit {S : Type 0} (does : S → Request → Option Reply → S → Type 0) (before : S)
    (items : List Item) (text : List ℕ) (after : S) : Type 0 where
  pub whole : List Item
  pub last : List Item
  pub items_are : items ≡ whole ++ last
  pub one : length last ≤ 1
  pub front : List ℕ
  pub back : List ℕ
  pub text_is : text ≡ front ++ back
  pub between : S
  pub first : IsOutput does before whole front between
  pub second : IsOutput does between last back after

-- the sink took the whole replies, and a part of the last one
pub record IsEach {O S : Type 0} (g : sink.Ghosts O) (old new : O)
    (does : S → Request → Option Reply → S → Type 0) (before : S) (items : List Item)
    (text : List ℕ) (after : S) : Type 0 where
  pub split : IsSplit does before items text after
  pub open split use *
  pub took : TookThrough g old new front back

-- a script was answered, up to this result
pub record Paced {I O S : Type 0} (g : source.Ghosts I) (h : sink.Ghosts O) (first now : I)
    (old new : O) (does : S → Request → Option Reply → S → Type 0) (fails : S → S → Type 0)
    (each : Bool) (before left : S) (result : Result (Unit {0}) Stop) : Type 0 where
  pub items : List Item
  pub text : List ℕ
  pub read : HasRead g first now items result
  pub after : S
  pub output : IsOutput does before items text after
  pub stands : IsLeft fails after left result
  pub wrote : HasWritten h old new text result
  pub by_each : each ≡ true → IsEach h old new does before items text after
