-- The commits beside a cut.
use Rattle.std.specs.Prelude.{◌≡◌, ℕ, ◌-◌, List, slice_index}
use Rattle.segment_model.specs.{Segments.Position, Limits.commits_of}
use Rattle.change_list.specs.declared.{beside.Beside.Beside, change.Change.Change}

-- those of the positions before and behind cut i
abbrev pub AreBeside : List Position → List ℕ → ℕ → Beside → Type 0
AreBeside points cuts i beside = (beside.before ≡ slice_index (commits_of points) (slice_index cuts i - 1))
    × (beside.after ≡ slice_index (commits_of points) (slice_index cuts i))

-- those of a change
abbrev pub IsOf : Change → Beside → Type 0
IsOf change beside = (beside.before ≡ change.before) × (beside.after ≡ change.after)
