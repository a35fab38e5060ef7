-- No public contract cites this. A stored run as `runs` lists it.
use Rattle.std.specs.Prelude.{List, [], length, is_none, unwrap_or}
use Rattle.history_model.specs.{declared.entries.Declaration.Declaration, Commits.name_in}
use Rattle.request_model.specs.declared.runs.RunLine.{RunLine}
use Rattle.sample_store.specs.declared.store.Stored.{Stored}

-- its name, that of its commit, how many samples it has, and whether it is live
abbrev pub line_of : List Declaration → Stored → RunLine
line_of commits s =
    record { run = s.run.run; commit = unwrap_or (name_in s.run.commit commits) []; samples = length s.run.samples; live = is_none s.retracted }
