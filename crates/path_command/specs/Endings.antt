-- How a path ends, on its objects.
use Rattle.std.specs.{Io.KnownBytes.IsAtEnd, Prelude.{◌≡◌, ℕ, ℤ, ◌+◌, ◌^◌, ◌≤◌, List, Option}}
use Rattle.track_outside.specs.Calls.{Took, FailedIn, IsUntouched, GaveAtMost}
use Rattle.track_outside.specs.declared.source.Source as source
use Rattle.track_outside.specs.declared.sink.Sink as sink
use Rattle.segment_model.specs.Segments.{Position}
use Rattle.cut_lines.specs.{Reading.AreInputPointsWithin, Stops.StopsWithin}
use Rattle.penalty_path.specs.{declared.stretch.Stretch.Stretch, Paths.IsPath, Text.path_text}
use Rattle.path_command.specs.declared.end.PathEnd.{PathEnd, TheVariants.{Done, Stopped, WriteFault}}

-- why a path ends so, as far as its input tells; of the output's fault nothing is said
abbrev pub HasCause : {I : Type 0} → source.Ghosts I → I → I → PathEnd → Type 0
HasCause g old new Done = Unit {0}
HasCause g old new WriteFault = Unit {0}
HasCause g old new (Stopped why) = StopsWithin 1_024 g old new why

-- the input, at this end
pub record EndsInput {I : Type 0} (g : source.Ghosts I) (old new : I) (end : PathEnd) : Type 0 where
  pub cause : HasCause g old new end
  pub whole : end ≡ Done → IsAtEnd (g.left new)
  pub few : GaveAtMost (2 ^ 30 + 1) (g.left old) (g.left new)
  pub counts : g.faults old ≤ g.faults new

-- the input has points at 1,024 positions at most, and these stretches are their path
pub record CameTo (left : Option (List ℕ)) (low high : ℤ) (made : List Stretch) : Type 0 where
  pub points : List Position
  pub points_are : AreInputPointsWithin 1_024 left points
  pub path : IsPath points low high made

-- the output, at this end: the text of the path, or a first part of it where the output failed; at any other end nothing was
-- written
abbrev pub EndsPath : {O : Type 0} → sink.Ghosts O → Option (List ℕ) → ℤ → ℤ → O → O → PathEnd → Type 0
EndsPath h left low high out out' Done =
    (made : List Stretch) × CameTo left low high made × Took h out out' (path_text made)
EndsPath h left low high out out' WriteFault =
    (made : List Stretch) × CameTo left low high made × FailedIn h out out' (path_text made)
EndsPath h left low high out out' end = IsUntouched h out out'
