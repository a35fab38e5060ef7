-- What a sink took of a text that is written to it in parts.
use Rattle.std.specs.Prelude.{◌≡◌, ℕ, List, ◌++◌, Result, Ok, Err}
use Rattle.track_outside.specs.{Calls.{Took, FailedIn, TookPart}, declared.sink.Sink.Ghosts, declared.out_error.OutError.OutError}
use Rattle.track_outside.specs.declared.out_error.OutError.TheVariants.{Failed, NoMemory}

-- all of it, or a first part: where it failed, and where memory was wanting
abbrev pub Writes : {O : Type 0} → Ghosts O → O → O → List ℕ → Result (Unit {0}) OutError → Type 0
Writes g old new text (Ok done) = Took g old new text
Writes g old new text (Err Failed) = FailedIn g old new text
Writes g old new text (Err NoMemory) = TookPart g old new text

-- a first part of it was taken, and the rest is pending
pub record Pends {O : Type 0} (g : Ghosts O) (old new : O) (text pending : List ℕ) : Type 0 where
  pub handed : List ℕ
  pub parts : text ≡ handed ++ pending
  pub took : Took g old new handed
