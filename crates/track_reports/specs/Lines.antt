-- No public contract cites this. A change as `changes` lists it.
use Rattle.std.specs.Prelude.{List, [], unwrap_or, IsSome}
use Rattle.change_list.specs.declared.change.Change.{Change}
use Rattle.request_model.specs.declared.changes.NamedChange.{NamedChange}
use Rattle.history_model.specs.{declared.entries.Declaration.Declaration, Commits.name_in}

-- a change, its commits by name
abbrev pub named_by : List Declaration → Change → NamedChange
named_by commits c =
    record { before = unwrap_or (name_in c.before commits) []; after = unwrap_or (name_in c.after commits) []; left = c.left; right = c.right; worse = c.worse }

-- both commits are declared
abbrev pub HasNames : List Declaration → Change → Type 0
HasNames commits c = IsSome (name_in c.before commits) × IsSome (name_in c.after commits)
