-- How the answering of a script ends, on what it reads and on what it writes.
use Rattle.std.specs.{Prelude.{◌≡◌, ℕ, ◌≤◌, false, List, ◌++◌, length, Option, Some, Result, Ok, Err, IfSome}, Io.KnownBytes.IsAtEnd}
use Rattle.track_outside.specs.{Counts.Rose, Calls.{Took, FailedIn, TookPart}}
use Rattle.track_outside.specs.declared.source.Source as source
use Rattle.track_outside.specs.declared.sink.Sink as sink
use Rattle.request_words.specs.Bodies.{Item}
use Rattle.request_reader.specs.Scripts.{end, cut_off, unfinished, Reads, IsScript, input_limit}
use Rattle.script_loop.specs.declared.stop.Stop.{Stop, TheVariants.{ReadFault, WriteFault, CutOff, InputTooLong, NoMemory}}
use Rattle.request_model.specs.declared.{requests.Request.Request, replies.Reply.Reply}
use Rattle.script_loop.specs.Outputs.{AsksFirst, IsOutput}

-- the input gave some bytes, which ask these items in whole pieces, and takes more to tell what
-- comes behind them
pub record GaveOpen (before : List ℕ) (after : Option (List ℕ)) (items : List Item) : Type 0 where
  pub given : List ℕ
  pub rest : List ℕ
  pub gave : before ≡ given ++ rest
  pub left : after ≡ Some rest
  pub within : length given ≤ input_limit
  pub reads : Reads false 0 given items unfinished

-- the items that were read, at this result; its cause
abbrev pub HasRead : {I : Type 0} → source.Ghosts I → I → I → List Item → Result (Unit {0}) Stop
    → Type 0
HasRead g old new items (Ok done) =
    IfSome (g.left old) (λ bytes. IsScript bytes items end) × IsAtEnd (g.left new)
HasRead g old new items (Err ReadFault) =
    Rose (g.faults old) (g.faults new)
    × IfSome (g.left old) (λ bytes. GaveOpen bytes (g.left new) items)
HasRead g old new items (Err (CutOff offset)) =
    IfSome (g.left old) (λ bytes. IsScript bytes items (cut_off offset))
HasRead g old new items (Err InputTooLong) =
    IfSome (g.left old) (λ bytes. IsScript bytes items unfinished)
HasRead g old new items (Err WriteFault) = IfSome (g.left old) (λ bytes. AsksFirst bytes items)
HasRead g old new items (Err NoMemory) = IfSome (g.left old) (λ bytes. AsksFirst bytes items)

-- what was written of the text that answers them, at this result: all of it, but where writing
-- fails or memory is wanting
abbrev pub HasWritten : {O : Type 0} → sink.Ghosts O → O → O → List ℕ → Result (Unit {0}) Stop
    → Type 0
HasWritten g old new text (Err WriteFault) = FailedIn g old new text
HasWritten g old new text (Err NoMemory) = TookPart g old new text
HasWritten g old new text result = Took g old new text

-- some items were answered by this text; what answered them stands as it does after them, but where
-- memory is wanting
abbrev pub Stands : {S : Type 0} → S → S → Result (Unit {0}) Stop → Type 0
Stands after now (Err NoMemory) = Unit {0}
Stands after now result = now ≡ after

pub record HasAnswered {S : Type 0} (does : S → Request → Option Reply → S → Type 0)
    (before now : S) (items : List Item) (text : List ℕ) (result : Result (Unit {0}) Stop)
    : Type 0 where
  pub after : S
  pub output : IsOutput does before items text after
  pub stands : Stands after now result
