-- What an index keeps of a series: the last finished segmentation that was put in, with its table where that is home.
use Rattle.std.specs.{Prelude.{ℕ, Bool, if◌then◌else◌, List, is_some, Option, Some, None}, Ordering.{nat_cmp, is_eq}}
use Rattle.std.specs.{Cmp.Lexicographic.slice_cmp, Map.lookup}
use Rattle.name_index.specs.Pairs.{found_pair}
use Rattle.history_model.specs.Runs.{Series}
use Rattle.pelt_core.specs.{Done.Done, Seen.Tabled}
use Rattle.publication_index.specs.declared.held.Held.{Held}

-- whether two names are equal, by their order
abbrev pub is_same : List ℕ → List ℕ → Bool
is_same one other = is_eq (slice_cmp nat_cmp one other)

-- what is held of a metric of one test
abbrev pub held_of : List ℕ → List (List ℕ × Held) → Option Held
held_of metric entries = lookup (λ (m : List ℕ). is_same metric m) entries

-- what is held of a series
abbrev pub held : Series → List (List ℕ × List (List ℕ × Held)) → Option Held
held s tests = found_pair s.test s.metric tests

-- the segmentation in it
abbrev pub done_in : Option Held → Option Done
done_in None = None
done_in (Some x) = Some x.done

-- the table in it
abbrev pub table_in : Option Held → Option Tabled
table_in None = None
table_in (Some x) = x.table

-- the segmentation in it, where its table is home
abbrev pub done_at_home : Option Held → Option Done
done_at_home o = if is_some (table_in o) then done_in o else None

-- what is kept of a series
abbrev pub kept : Series → List (List ℕ × List (List ℕ × Held)) → Option Done
kept s tests = done_in (held s tests)

-- the table of a series, where it is home
abbrev pub home : Series → List (List ℕ × List (List ℕ × Held)) → Option Tabled
home s tests = table_in (held s tests)

-- what is kept of a series whose table is home
abbrev pub kept_at_home : Series → List (List ℕ × List (List ℕ × Held)) → Option Done
kept_at_home s tests = done_at_home (held s tests)

-- the series of a finished segmentation
abbrev pub series_of : Done → Series
series_of done = record { test = done.test; metric = done.metric }
