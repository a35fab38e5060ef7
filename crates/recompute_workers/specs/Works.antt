-- What the pass of a worker that recomputes has seen more of a machine: entries of others, and its own publications.
use Rattle.std.specs.{Prelude.{◌≡◌, ◌⊎◌, List, ◌++◌, Some}, List.AllByRecursion}
use Rattle.history_lock.specs.{declared.view.Marked.Marked, Marks.IsOtherMark}
use Rattle.history_model.specs.declared.entries.{Author.Author, Placed.Placed}
use Rattle.recompute_workers.specs.Recomputing.{IsPublicationBy}
use Rattle.track_room.specs.Sights.{Sight, own_marks, seeing}

-- another pass made the entry; or this one did, and it is a publication by this author
abbrev pub IsByWorker : Author → Sight → Marked Placed → Type 0
IsByWorker author s x = IsOtherMark (own_marks s) x.by
    ⊎ ((x.by ≡ Some s.mark) × IsPublicationBy author x.entry)

-- the pass has seen more, and made publications by this author alone
abbrev pub Works : Author → Sight → Sight → Type 0
Works author old new = (more : List (Marked Placed)) × AllByRecursion (IsByWorker author old) more
    × (new ≡ seeing old (old.seen ++ more))
