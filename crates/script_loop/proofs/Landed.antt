-- Private: no public contract cites this. What is said of a script where it doesn't matter when its replies are handed out.
use Rattle.std.{proofs.Common.{ℕ, Bool, List, Option, Ok, Err}, specs.Prelude.Result}
use Rattle.track_outside.specs.declared.source.Source as source
use Rattle.track_outside.specs.declared.sink.Sink as sink
use Rattle.request_model.specs.declared.{requests.Request.Request, replies.Reply.Reply}
use Rattle.request_words.specs.Bodies.{Item}
use Rattle.script_loop.specs.{declared.stop.Stop.Stop, Endings.{HasRead, HasWritten, HasAnswered, Stands}, Paced.{IsLeft, Paced}}
use Rattle.script_loop.specs.declared.stop.Stop.TheVariants as stop

stands-so : {S : Type 0} (fails : S → S → Type 0) (after now : S) (result : Result (Unit {0}) Stop) → IsLeft fails after now result → Stands after now result
stands-so fails after now (Ok done) left = left
stands-so fails after now (Err stop.ReadFault) left = left
stands-so fails after now (Err stop.WriteFault) left = left
stands-so fails after now (Err (stop.CutOff offset)) left = left
stands-so fails after now (Err stop.InputTooLong) left = left
stands-so fails after now (Err stop.NoMemory) left = tt

pub as_landed : {I O S : Type 0} (g : source.Ghosts I) (h : sink.Ghosts O) (first now : I) (old new : O) (does : S → Request → Option Reply → S → Type 0) (fails : S → S → Type 0) (each : Bool) (before left : S) (result : Result (Unit {0}) Stop)
    → Paced g h first now old new does fails each before left result
    → (items : List Item) × (text : List ℕ) × HasRead g first now items result × HasAnswered does before left items text result × HasWritten h old new text result
as_landed g h first now old new does fails each before left result p = (
  p.items,
  p.text,
  p.read,
  record { after = p.after; output = p.output; stands = stands-so fails p.after left result p.stands },
  p.wrote,
)
