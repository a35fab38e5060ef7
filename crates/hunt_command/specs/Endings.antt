-- How a hunt ends, on its objects.
use Rattle.std.specs.{Io.KnownBytes.IsAtEnd, Prelude.{◌≡◌, ◌⊎◌, ℕ, ◌+◌, ◌-◌, ◌^◌, ◌<◌, ◌≤◌, List, length, Option}}
use Rattle.track_outside.specs.Calls.{Took, FailedIn, IsUntouched, GaveAtMost}
use Rattle.track_outside.specs.declared.source.Source as source
use Rattle.track_outside.specs.declared.sink.Sink as sink
use Rattle.track_outside.specs.declared.runner.Runner as runner
use Rattle.wide_bisect.specs.Searches.{Search}
use Rattle.line_pieces.specs.declared.stop.Stop.TheVariants as stop
use Rattle.commit_lines.specs.{Reading.AreNamesOfInput, Stops.StopsFor}
use Rattle.hunt_rounds.specs.{Asked.WereAskedOf, Hunts.IsHunted}
use Rattle.hunt_command.specs.{Text.hunt_text, declared.end.HuntEnd.HuntEnd, declared.end.HuntEnd.TheVariants.{Done, Stopped, TooFew, WriteFault}}

-- the lines of the input have so many names, fewer than two
abbrev pub HasFew : Option (List ℕ) → ℕ → Type 0
HasFew left count =
    (count < 2) × ((names : List (List ℕ)) × AreNamesOfInput left names × (length names ≡ count))

-- why a hunt ends so, as far as its input tells; of the output's fault nothing is said
abbrev pub HasCause : {I : Type 0} → source.Ghosts I → I → I → HuntEnd → Type 0
HasCause g old new Done = Unit {0}
HasCause g old new WriteFault = Unit {0}
HasCause g old new (Stopped why) = StopsFor g old new why
HasCause g old new (TooFew count) = HasFew (g.left old) count

-- the input, at this end
pub record EndsInput {I : Type 0} (g : source.Ghosts I) (old new : I) (end : HuntEnd) : Type 0 where
  pub cause : HasCause g old new end
  pub whole : end ≡ Done → IsAtEnd (g.left new)
  pub few : GaveAtMost (2 ^ 30 + 1) (g.left old) (g.left new)
  pub counts : g.faults old ≤ g.faults new

-- the input has names of commits, two at least, and a hunt of them on the runners came to a closed search
pub record CameTo {R : Type 0} (g : runner.Ghosts R) (left : Option (List ℕ)) (test : List ℕ) (width : ℕ) (old new : List R)
    (names : List (List ℕ)) (s : Search) : Type 0 where
  pub names_are : AreNamesOfInput left names
  pub many : 2 ≤ length names
  pub hunted : IsHunted g test names width old new s

-- nothing was asked; or the input has names of commits, and the runners were asked the test alone, on some of these
abbrev pub AskedSome : {R : Type 0} → runner.Ghosts R → Option (List ℕ) → List ℕ → List R → List R → Type 0
AskedSome {R} g left test old new =
    (new ≡ old) ⊎ ((names : List (List ℕ)) × AreNamesOfInput left names × WereAskedOf g test names old new)

-- the output and the runners, at this end: the line of a hunt, or a first part of it where the output failed; where memory
-- was wanting nothing was written; at any other end nothing was asked either
abbrev pub EndsHunt : {O R : Type 0} → sink.Ghosts O → runner.Ghosts R → Option (List ℕ) → List ℕ → ℕ → O → O → List R → List R → HuntEnd → Type 0
EndsHunt h g left test width out out' old new Done =
    (names : List (List ℕ)) × (s : Search) × CameTo g left test width old new names s × Took h out out' (hunt_text names s)
EndsHunt h g left test width out out' old new WriteFault =
    (names : List (List ℕ)) × (s : Search) × CameTo g left test width old new names s × FailedIn h out out' (hunt_text names s)
EndsHunt h g left test width out out' old new (Stopped stop.NoMemory) = IsUntouched h out out' × AskedSome g left test old new
EndsHunt h g left test width out out' old new end = IsUntouched h out out' × (new ≡ old)
