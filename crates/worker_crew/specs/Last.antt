-- What is left of the workers' work, once a room is closed.
use Rattle.history_model.specs.Entries.{entries_of}
use Rattle.track_model.specs.Tracks.{Track}
use Rattle.worker_model.specs.Quiet.{JobsAreQuiet, SeriesAreQuiet}

-- no series of the machine is stale, but where a limit keeps it so
abbrev pub HasQuietSeries : Track → Type 0
HasQuietSeries t = SeriesAreQuiet (entries_of t.history)

-- no job of the machine is open, but where a limit keeps it so
abbrev pub HasQuietJobs : Track → Type 0
HasQuietJobs t = JobsAreQuiet (entries_of t.history)
