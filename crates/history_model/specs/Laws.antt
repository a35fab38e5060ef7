-- What holds of all histories: how each projection, the positions and the limits change by one entry.
use Rattle.std.specs.Prelude.{◌≡◌, ◌≤◌, ℕ, ℤ, ◌+◌, ◌<◌, ◌&&◌, ◌==◌, Bool, true, false, not, List, [], ◌∷◌, ◌++◌, All, filter, length, take, option_to_list, if◌then◌else◌, ◌↔◌, IsSome, Some, None}
use Rattle.std.specs.List.{list_any}
use Rattle.metric_table.specs.{Limits.most, declared.limits.Limit.Limit}
use Rattle.metric_table.specs.declared.limits.Limit.TheVariants as limit
use Rattle.segment_model.specs.{Segments.{Observation, Position, values_of}, Edits.{inserted, removed, has_commit}}
use Rattle.history_model.specs.declared.{entries.Acceptance.Acceptance, entries.Entry.Entry, run.Run.Run}
use Rattle.history_model.specs.declared.entries.Entry.TheVariants as entry
use Rattle.history_model.specs.{Allowed.{Allowed, Legal, KeepsLimits, count_of, first_passed, run_limits}, Commits.{declaration, declarations, name_of}}
use Rattle.sample_model.specs.Samples.{AreSamples}
use Rattle.history_model.specs.declared.publication.Publication.{Publication}
use Rattle.history_model.specs.Publications.{publication_of, publications, published, cuts_in, cut_count, last_publication, Stands}
pub use Rattle.segment_model.specs.Brought.{observed, ValuesAreBrought}
use Rattle.history_model.specs.Positions.{Brought, brought_by, brought, positions, positions_of}
use Rattle.history_model.specs.Runs.{Series, is_of, same_series, distinct, new_series, known_series, is_known, sample_count, live_runs, acceptance, acceptances, accepted, retraction, retractions, retracted}

-- ---- what is read from a history with one entry more

abbrev pub DeclarationsGrow : Type 0
DeclarationsGrow = (h : List Entry) (e : Entry) → declarations (h ++ e ∷ []) ≡ declarations h ++ option_to_list (declaration (length h + 1) e)

abbrev pub AcceptancesGrow : Type 0
AcceptancesGrow = (h : List Entry) (e : Entry) → acceptances (h ++ e ∷ []) ≡ acceptances h ++ option_to_list (acceptance (length h + 1) e)

abbrev pub RetractionsGrow : Type 0
RetractionsGrow = (h : List Entry) (e : Entry) → retractions (h ++ e ∷ []) ≡ retractions h ++ option_to_list (retraction (length h + 1) e)

-- a legal history with an entry that is allowed after it is legal
abbrev pub LegalGrows : Type 0
LegalGrows = (h : List Entry) (e : Entry) → Legal h → Allowed h e → Legal (h ++ e ∷ [])

-- ---- positions, as samples come and go

-- some samples put in, one after another
abbrev pub with_all : List Brought → List Position → List Position
with_all [] points = points
with_all (x ∷ xs) points = with_all xs (inserted x.commit (observed x) points)

-- a sample that was brought by another step or at another commit
abbrev pub is_other : ℕ → ℕ → Brought → Bool
is_other commit step x = not (x.commit == commit && x.step == step)

-- samples that come last are put into the positions as they stand
abbrev pub PositionsTakeIn : Type 0
PositionsTakeIn = (items xs : List Brought) → positions_of (items ++ xs) ≡ with_all xs (positions_of items)

-- the positions without the samples of a step at a commit
abbrev pub PositionsGiveBack : Type 0
PositionsGiveBack =
    (commit step : ℕ) (items : List Brought) → positions_of (filter (is_other commit step) items) ≡ removed commit step (positions_of items)

-- the positions after a run was accepted
abbrev pub PositionsAfterAccept : Type 0
PositionsAfterAccept =
    (h : List Entry) (run : Run) (s : Series) → retracted run.run h ≡ None
    → positions (h ++ entry.Accept run ∷ []) s ≡ with_all (brought_by s (record { step = length h + 1; run = run })) (positions h s)

-- and after it was taken back
abbrev pub PositionsAfterRetract : Type 0
PositionsAfterRetract =
    (h : List Entry) (run : List ℕ) (a : Acceptance) (s : Series) → Legal h → accepted run h ≡ Some a
    → positions (h ++ entry.Retract run ∷ []) s ≡ removed a.run.commit a.step (positions h s)

-- where it had no sample of the series, its positions stay
abbrev pub PositionsUntouched : Type 0
PositionsUntouched =
    (h : List Entry) (run : List ℕ) (a : Acceptance) (s : Series) → Legal h → accepted run h ≡ Some a → list_any (is_of s) a.run.samples ≡ false
    → positions (h ++ entry.Retract run ∷ []) s ≡ positions h s

-- the next step has brought nothing yet
abbrev pub PositionsAreFresh : Type 0
PositionsAreFresh = (h : List Entry) (s : Series) (commit : ℕ) → removed commit (length h + 1) (positions h s) ≡ positions h s

-- and no step that did is above the history's length
abbrev pub StepsArePast : Type 0
StepsArePast = (h : List Entry) (s : Series) → All (λ (p : Position). All (λ (x : Observation). x.step ≤ length h) p.samples) (positions h s)

-- ---- retractions

-- a run that was never accepted was never taken back
abbrev pub OnlyAcceptedAreRetracted : Type 0
OnlyAcceptedAreRetracted = (h : List Entry) (run : List ℕ) → Legal h → accepted run h ≡ None → retracted run h ≡ None

-- the commit of each accepted run is declared
abbrev pub RunsHaveCommits : Type 0
RunsHaveCommits = (h : List Entry) → Legal h → All (λ (a : Acceptance). IsSome (name_of a.run.commit h)) (acceptances h)

-- ---- limits

-- a commit more keeps the limits where there is room for a step and a commit
abbrev pub LimitsAfterCommit : Type 0
LimitsAfterCommit =
    (h : List Entry) (number : ℕ) (name : List ℕ) → KeepsLimits h → length h < most limit.Steps → length (declarations h) < most limit.Commits
    → KeepsLimits (h ++ entry.Commit number name ∷ [])

-- a retraction keeps them where there is room for a step
abbrev pub LimitsAfterRetract : Type 0
LimitsAfterRetract =
    (h : List Entry) (run : List ℕ) → KeepsLimits h → length h < most limit.Steps → KeepsLimits (h ++ entry.Retract run ∷ [])

-- so does a setting
abbrev pub LimitsAfterTune : Type 0
LimitsAfterTune =
    (h : List Entry) (metric : List ℕ) (penalty : ℤ) (len : ℕ) → KeepsLimits h → length h < most limit.Steps → KeepsLimits (h ++ entry.Tune metric penalty len ∷ [])

-- and a publication, where there is room for a step and its cuts
abbrev pub LimitsAfterPublish : Type 0
LimitsAfterPublish =
    (h : List Entry) (p : Publication) → KeepsLimits h → length h < most limit.Steps → cut_count h + length p.cuts ≤ most limit.Cuts
    → KeepsLimits (h ++ entry.Publish p ∷ [])

-- where the limits are kept, each series has no more live samples and positions than there may be
abbrev pub SeriesKeepLimits : Type 0
SeriesKeepLimits =
    (h : List Entry) (s : Series) → KeepsLimits h
    → (length (brought s (live_runs h)) ≤ most limit.SeriesSamples) × (length (positions h s) ≤ most limit.Positions)

-- and there is room in each series for the run whose acceptance keeps them
abbrev pub SeriesHaveRoom : Type 0
SeriesHaveRoom =
    (h : List Entry) (run : Run) (s : Series) → KeepsLimits (h ++ entry.Accept run ∷ []) → retracted run.run h ≡ None
    → (length (values_of (positions h s)) + length (filter (is_of s) run.samples) ≤ most limit.SeriesSamples)
    × (0 < length (filter (is_of s) run.samples) → has_commit run.commit (positions h s) ≡ false → length (positions h s) < most limit.Positions)

-- ---- what a run more comes to

-- a list of series with one more, each once
abbrev pub SeriesAreListedOnce : Type 0
SeriesAreListedOnce =
    (xs : List Series) (x : Series)
    → distinct same_series (xs ++ x ∷ []) ≡ distinct same_series xs ++ (if list_any (λ y. same_series y x) xs then [] else x ∷ [])

-- how many steps, runs, samples and known series there are with one run more
pub record CountsWith (h : List Entry) (run : Run) : Type 0 where
  pub steps : count_of limit.Steps (h ++ entry.Accept run ∷ []) ≡ length h + 1
  pub runs : count_of limit.Runs (h ++ entry.Accept run ∷ []) ≡ length (acceptances h) + 1
  pub samples : count_of limit.Samples (h ++ entry.Accept run ∷ []) ≡ sample_count (acceptances h) + length run.samples
  pub series : count_of limit.Series (h ++ entry.Accept run ∷ []) ≡ length (known_series h) + length (new_series h run.samples)

abbrev pub CountsAfterAccept : Type 0
CountsAfterAccept = (h : List Entry) (run : Run) → CountsWith h run

-- the samples of a series stay within their limit exactly where each series of the run has room for them
abbrev pub SamplesFit : Type 0
SamplesFit =
    (h : List Entry) (run : Run) → KeepsLimits h → retracted run.run h ≡ None
    → (count_of limit.SeriesSamples (h ++ entry.Accept run ∷ []) ≤ most limit.SeriesSamples)
    ↔ ((s : Series) → 0 < length (filter (is_of s) run.samples) → length (values_of (positions h s)) + length (filter (is_of s) run.samples) ≤ most limit.SeriesSamples)

-- and its positions exactly where each series of the run has the commit, or room for it
abbrev pub PositionsFit : Type 0
PositionsFit =
    (h : List Entry) (run : Run) → KeepsLimits h → retracted run.run h ≡ None
    → (count_of limit.Positions (h ++ entry.Accept run ∷ []) ≤ most limit.Positions)
    ↔ ((s : Series) → 0 < length (filter (is_of s) run.samples) → has_commit run.commit (positions h s) ≡ false → length (positions h s) < most limit.Positions)

-- ---- an entry within limits

-- a limit that it passes is the first one
abbrev pub FirstPassed : Type 0
FirstPassed = (limit : Limit) (limits : List Limit) (h : List Entry) (e : Entry) → most limit < count_of limit (h ++ e ∷ []) → first_passed (limit ∷ limits) h e ≡ Some limit

-- a limit that it keeps lets the next decide
abbrev pub FirstKept : Type 0
FirstKept = (limit : Limit) (limits : List Limit) (h : List Entry) (e : Entry) → count_of limit (h ++ e ∷ []) ≤ most limit → first_passed (limit ∷ limits) h e ≡ first_passed limits h e

-- a run that passes none of what a run may pass keeps all limits
abbrev pub RunKeepsLimits : Type 0
RunKeepsLimits =
    (h : List Entry) (run : Run) → KeepsLimits h → AreSamples run.samples → first_passed run_limits h (entry.Accept run) ≡ None → KeepsLimits (h ++ entry.Accept run ∷ [])

-- ---- publications

-- the last publication of a series with one entry more is the one that the entry publishes of it
abbrev pub PublicationIsLast : Type 0
PublicationIsLast =
    (h : List Entry) (e : Entry) (s : Series) (p : Publication) → publication_of s (length h + 1) e ≡ Some p
    → last_publication s (h ++ e ∷ []) ≡ Some p

-- every other entry leaves it: nothing makes a publication void
abbrev pub PublicationStays : Type 0
PublicationStays =
    (h : List Entry) (e : Entry) (s : Series) → publication_of s (length h + 1) e ≡ None
    → last_publication s (h ++ e ∷ []) ≡ last_publication s h

-- an entry adds the cuts that it publishes
abbrev pub CutsGrow : Type 0
CutsGrow = (h : List Entry) (e : Entry) → cut_count (h ++ e ∷ []) ≡ cut_count h + cuts_in e

-- each publication of a legal history stands in it
abbrev pub PublicationsStand : Type 0
PublicationsStand = (h : List Entry) → Legal h → All (Stands h) (publications h)

-- so does the last one of a series, which is of that series
abbrev pub LastStands : Type 0
LastStands = (h : List Entry) (s : Series) (p : Publication) → Legal h → last_publication s h ≡ Some p → (published p ≡ s) × Stands h p

-- whatever comes later, a version of a history stays as it is
abbrev pub VersionsStay : Type 0
VersionsStay = (h more : List Entry) (version : ℕ) → version ≤ length h → take version (h ++ more) ≡ take version h

-- a series that is known at a version of a history is known later
abbrev pub KnownStays : Type 0
KnownStays = (h : List Entry) (s : Series) (version : ℕ) → is_known s (take version h) ≡ true → is_known s h ≡ true
