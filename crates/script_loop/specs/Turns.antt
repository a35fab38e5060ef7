-- No public contract cites this. What one turn of a session gathers and writes, and what a
-- session has done between turns.
use Rattle.std.specs.{Prelude.{◌≡◌, ℕ, ◌+◌, ◌≤◌, ◌⊎◌, Bool, true, false, List, [], ◌++◌, length, Option, Result, IfSome, Err}, Io.KnownBytes.prepend_known}
use Rattle.track_outside.specs.Calls.{Took, FailedIn, TookPart}
use Rattle.track_outside.specs.declared.source.Source as source
use Rattle.track_outside.specs.declared.sink.Sink as sink
use Rattle.request_words.specs.Bodies.{Item}
use Rattle.request_reader.specs.{Next.TakesWhole, Scripts.input_limit, Unread.Unread}
use Rattle.request_model.specs.declared.{requests.Request.Request, replies.Reply.Reply}
use Rattle.script_loop.specs.{declared.stop.Stop.Stop, declared.stop.Stop.TheVariants.{WriteFault, NoMemory}, Outputs.{AsksFirst, IsOutput}, Endings.HasRead}
use Rattle.script_loop.specs.Paced.{IsLeft, IsSplit, TookThrough}

-- items are answered, and the text of their replies is gathered behind what was
pub record Adds {S : Type 0} (does : S → Request → Option Reply → S → Type 0) (before : S)
    (items : List Item) (after : S) (old new : List ℕ) : Type 0 where
  pub text : List ℕ
  pub output : IsOutput does before items text after
  pub gathered : new ≡ old ++ text

-- the sink took a first part of a text, and the rest is gathered
pub record Gathers {O : Type 0} (g : sink.Ghosts O) (old new : O) (text pending : List ℕ)
    : Type 0 where
  pub handed : List ℕ
  pub parts : text ≡ handed ++ pending
  pub took : Took g old new handed

-- the sink failed on what was gathered
pub record FailsOn {O : Type 0} (g : sink.Ghosts O) (old new : O) (pending : List ℕ) (stop : Stop)
    : Type 0 where
  pub is : stop ≡ WriteFault
  pub failed : FailedIn g old new pending

-- what a stop makes of what is gathered: the sink takes it and the stop is answered, or fails on
-- it, which is answered then; of a fault of the sink nothing more is written, and where memory is
-- wanting that is answered
abbrev pub StopsSo : {O : Type 0} → sink.Ghosts O → O → O → List ℕ → Stop → Stop → Type 0
StopsSo g old new pending WriteFault answered = (answered ≡ WriteFault) × (new ≡ old)
StopsSo g old new pending NoMemory answered = (answered ≡ NoMemory) × TookPart g old new pending
StopsSo g old new pending stop answered =
    ((answered ≡ stop) × Took g old new pending) ⊎ FailsOn g old new pending answered

-- what was written of a text at this result, where the rest is gathered; where memory is wanting,
-- perhaps a last part of it is lost
abbrev pub WrittenBut : {O : Type 0} → sink.Ghosts O → O → O → List ℕ → List ℕ
    → Result (Unit {0}) Stop → Type 0
WrittenBut g old new text pending (Err WriteFault) = FailedIn g old new text
WrittenBut g old new text pending (Err NoMemory) =
    (kept : List ℕ) × (lost : List ℕ) × (text ≡ kept ++ lost) × Gathers g old new kept pending
WrittenBut g old new text pending result = Gathers g old new text pending

-- what is gathered is the text behind what the sink took, or it is none and the sink took a part of it
abbrev pub IsPending : {O : Type 0} → sink.Ghosts O → O → O → (front back pending : List ℕ) → Type 0
IsPending g old new front back pending =
    ((pending ≡ back) × Took g old new front)
    ⊎ ((pending ≡ []) × TookThrough g old new front back)

-- all items but one at most have whole replies, which the sink took
pub record Splits {O S : Type 0} (g : sink.Ghosts O) (old new : O)
    (does : S → Request → Option Reply → S → Type 0) (before : S) (items : List Item)
    (text : List ℕ) (after : S) (pending : List ℕ) : Type 0 where
  pub split : IsSplit does before items text after
  pub open split use *
  pub took : IsPending g old new front back pending

-- some items were read and answered, and their text was written but what is gathered
pub record Answers {I O S : Type 0} (g : source.Ghosts I) (h : sink.Ghosts O) (first now : I)
    (old new : O) (does : S → Request → Option Reply → S → Type 0) (fails : S → S → Type 0)
    (each : Bool) (before left : S) (pending : List ℕ) (result : Result (Unit {0}) Stop)
    : Type 0 where
  pub items : List Item
  pub text : List ℕ
  pub read : HasRead g first now items result
  pub asks : IfSome (g.left first) (λ bytes. AsksFirst bytes items)
  pub after : S
  pub output : IsOutput does before items text after
  pub stands : IsLeft fails after left result
  pub wrote : WrittenBut h old new text pending result
  pub by_each : each ≡ true → Splits h old new does before items text after pending

-- an item was answered, and its reply not gathered; or it wasn't answered
abbrev pub IsLost : {S : Type 0} → (S → Request → Option Reply → S → Type 0) → (S → S → Type 0) → S
    → List Item → S → Type 0
IsLost does fails before items left =
    fails before left ⊎ ((text : List ℕ) × IsOutput does before items text left)

-- these items were read from the front of an input, as whole pieces, and some bytes behind them are
-- kept
pub record HasTaken {I : Type 0} (g : source.Ghosts I) (first now : I) (lines : Unread)
    (items : List Item) : Type 0 where
  pub takes : IfSome (g.left first) (λ bytes. IfSome (g.left now) (λ left.
      TakesWhole 0 bytes items lines.before (lines.kept ++ left)))
  pub given : List ℕ
  pub gave : g.left first ≡ prepend_known given (g.left now)
  pub counted : lines.before + length lines.kept ≡ length given
  pub within : lines.before + length lines.kept ≤ input_limit
  pub counts : g.faults first ≤ g.faults now

-- between two turns: items were read, and all of them are answered
pub record Goes {I O S : Type 0} (g : source.Ghosts I) (h : sink.Ghosts O) (first now : I)
    (old new : O) (does : S → Request → Option Reply → S → Type 0) (each : Bool) (before after : S)
    (lines : Unread) (pending : List ℕ) : Type 0 where
  pub items : List Item
  pub text : List ℕ
  pub taken : HasTaken g first now lines items
  pub output : IsOutput does before items text after
  pub wrote : Gathers h old new text pending
  pub goes_on : lines.stopped ≡ false
  pub more : lines.ended ≡ false
  pub handed : each ≡ true → pending ≡ []
  pub named : h.name new ≡ h.name old
