-- The indexes of a state, as they follow from its history.
use Rattle.std.specs.{Prelude.{◌≡◌, ℕ, bytes_eq, if◌then◌else◌, List, [], ◌∷◌, ◌++◌, All, length, map, option_map, find, Option, Some, None}, List.list_any}
use Rattle.segment_model.specs.Limits.{IsSmall}
use Rattle.history_model.specs.declared.{entries.Acceptance.Acceptance, entries.Declaration.Declaration, entries.Entry.Entry, setting.Setting.Setting}
use Rattle.history_model.specs.declared.entries.Entry.TheVariants as entry
use Rattle.sample_model.specs.Samples.{Measurement}
use Rattle.history_model.specs.Runs.{Retraction, Series, acceptances, retractions, takes_back, is_of}
use Rattle.order_index.specs.Judged as pair
use Rattle.order_index.specs.declared.declared.Declared.TheVariants as declared
use Rattle.sample_store.specs.Judged as run
use Rattle.sample_store.specs.{Runs.{names, marked}, declared.store.Stored.Stored}
use Rattle.sample_store.specs.declared.answers.Accepted.TheVariants as accepted
use Rattle.sample_store.specs.declared.answers.Retracted.TheVariants as retracted
use Rattle.publication_index.specs.Given.{given}
use Rattle.series_index.specs.{Seen.{seen, without, undone}, Taken.{of_series, with_samples, HasRoomFor}, declared.tracked.Tracked.Tracked}
use Rattle.machine_state.specs.{declared.following.Following.Following, Following.IsFollowable}

-- an accepted run, with the step of its retraction
abbrev pub stored : List Retraction → Acceptance → Stored
stored taken a = record { step = a.step; run = a.run; retracted = option_map (λ (r : Retraction). r.step) (find (takes_back a.run.run) taken) }

abbrev pub stored_runs : List Entry → List Stored
stored_runs h = map (stored (retractions h)) (acceptances h)

-- the stored runs after an entry
abbrev pub runs_after : ℕ → Entry → List Stored → List Stored
runs_after step (entry.Commit number name) runs = runs
runs_after step (entry.Accept run) runs = runs ++ record { step = step; run = run; retracted = None } ∷ []
runs_after step (entry.Retract run) runs = map (marked step run) runs
runs_after step (entry.Tune metric penalty len) runs = runs
runs_after step (entry.Publish p) runs = runs
runs_after step (entry.Regression event) runs = runs
runs_after step (entry.Job event) runs = runs

-- the indexes of commits and runs, and what is followed, take the entry in
abbrev pub IsReady : List Declaration → List Stored → Following → Entry → Type 0
IsReady commits runs f (entry.Commit number name) = pair.judged commits number name ≡ declared.New
IsReady commits runs f (entry.Accept new) = run.judged runs new ≡ accepted.New
IsReady commits runs f (entry.Retract name) = run.retraction runs name ≡ retracted.Done
IsReady commits runs f (entry.Tune metric penalty len) = Unit {0}
IsReady commits runs f (entry.Publish p) = Unit {0}
IsReady commits runs f (entry.Regression event) = IsFollowable commits f (entry.Regression event)
IsReady commits runs f (entry.Job event) = IsFollowable commits f (entry.Job event)

-- ---- series

-- the series as an index keeps them
abbrev pub Kept : Type 0
Kept = List (List ℕ × List (List ℕ × Tracked))

-- the stored run of a name
abbrev pub found_run : List ℕ → List Stored → Option Stored
found_run name runs = find (names name) runs

-- a series after a run's samples were taken out of it
abbrev pub given_back : Option Stored → Series → Tracked → Tracked
given_back None s t = t
given_back (Some st) s t = if list_any (is_of s) st.run.samples then without st.run.commit st.step t else t

-- a series after an entry
abbrev pub seen_after : ℕ → Entry → List Stored → Series → Tracked → Tracked
seen_after step (entry.Commit number name) runs s t = t
seen_after step (entry.Accept run) runs s t = with_samples run.commit step (of_series s run.samples) t
seen_after step (entry.Retract run) runs s t = given_back (found_run run runs) s t
seen_after step (entry.Tune metric penalty len) runs s t = t
seen_after step (entry.Publish p) runs s t = t
seen_after step (entry.Regression event) runs s t = t
seen_after step (entry.Job event) runs s t = t

-- the series have room for a run's samples, and know nothing of its step
pub record HasRoomForAll (series : Kept) (commit step : ℕ) (samples : List Measurement) : Type 0 where
  pub small : All (λ (x : Measurement). IsSmall x.value) samples
  pub room : (s : Series) → HasRoomFor (seen s series) commit step (length (of_series s samples))
  pub fresh : (s : Series) → undone commit step (seen s series) ≡ seen s series

abbrev pub TakesIn : Kept → ℕ → Entry → Type 0
TakesIn series step (entry.Commit number name) = Unit {0}
TakesIn series step (entry.Accept run) = HasRoomForAll series run.commit step run.samples
TakesIn series step (entry.Retract run) = Unit {0}
TakesIn series step (entry.Tune metric penalty len) = Unit {0}
TakesIn series step (entry.Publish p) = Unit {0}
TakesIn series step (entry.Regression event) = Unit {0}
TakesIn series step (entry.Job event) = Unit {0}

-- ---- settings

-- the settings as an index keeps them
abbrev pub Settings : Type 0
Settings = List (List ℕ × Setting)

-- a metric's setting after an entry
abbrev pub given_after : Entry → List ℕ → Setting → Setting
given_after (entry.Tune other penalty len) metric z = if bytes_eq other metric then record { penalty = penalty; length = len } else z
given_after e metric z = z

-- ---- what is seen of the indexes is the same

pub record AreSame (commits commits' : List Declaration) (runs runs' : List Stored) (series series' : Kept) (settings settings' : Settings) (f f' : Following) : Type 0 where
  pub same_commits : commits' ≡ commits
  pub same_runs : runs' ≡ runs
  pub same_series : (s : Series) → seen s series' ≡ seen s series
  pub same_settings : (metric : List ℕ) → given metric settings' ≡ given metric settings
  pub same_followed : f' ≡ f
