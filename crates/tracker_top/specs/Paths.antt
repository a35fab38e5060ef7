-- How `path` ends, on its objects.
use Rattle.std.specs.Prelude.{◌≡◌, pos}
use Rattle.track_outside.specs.declared.source.Source as source
use Rattle.track_outside.specs.declared.sink.Sink as sink
use Rattle.command_words.specs.declared.command.PathPlan.{PathPlan}
use Rattle.path_command.specs.{Endings.{EndsInput as LeavesInput, EndsPath as PutsPath}, declared.end.PathEnd.PathEnd}
use Rattle.path_command.specs.declared.end.PathEnd.TheVariants as path
use Rattle.tracker_top.specs.{declared.status.Status.Status, declared.status.Status.TheVariants.{Done, WriteFault}, Statuses.status_of}

-- the status at which `path` ends so
abbrev pub path_status_of : PathEnd → Status
path_status_of path.Done = Done
path_status_of (path.Stopped stop) = status_of stop
path_status_of path.WriteFault = WriteFault

-- the input and the output, at this status of `path`: why it ended, what the input showed, and what
-- was written of the path of its points over these penalties
pub record EndsPath {I O : Type 0} (g : source.Ghosts I) (h : sink.Ghosts O) (plan : PathPlan)
    (old new : I) (before after : O) (status : Status) : Type 0 where
  pub why : PathEnd
  pub told : status ≡ path_status_of why
  pub input : LeavesInput g old new why
  pub output : PutsPath h (g.left old) (pos plan.low) (pos plan.high) before after why
