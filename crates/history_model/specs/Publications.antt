-- The segmentations that a history publishes, and when one may be published.
use Rattle.std.specs.{Prelude.{◌≡◌, ℕ, ℤ, ◌≤◌, true, ◌&&◌, ◌⊎◌, List, length, take, sum_by, bytes_eq, if◌then◌else◌, Option, Some, None}, List.{Any, last_or}}
use Rattle.segment_model.specs.{Segments.{Position, IsCost}, Cuts.{IsBest, total}}
use Rattle.history_model.specs.declared.{entries.Entry.Entry, entries.Entry.TheVariants.Publish, publication.Publication.Publication}
use Rattle.history_model.specs.{Entries.chosen, Penalties.{setting_of, penalty_of, length_of}, Positions.positions, Runs.{Series, is_known}}

-- the publications of a history, in order
abbrev pub publication : ℕ → Entry → Option Publication
publication step (Publish p) = Some p
publication step e = None

abbrev pub publications : List Entry → List Publication
publications h = chosen publication h

-- how many cuts an entry publishes, and how many all of them have together
abbrev pub cuts_in : Entry → ℕ
cuts_in (Publish p) = length p.cuts
cuts_in e = 0

abbrev pub cut_count : List Entry → ℕ
cut_count h = sum_by (λ (p : Publication). length p.cuts) (publications h)

-- the series of a publication
abbrev pub published : Publication → Series
published p = record { test = p.test; metric = p.metric }

-- the publications of one series, in order, and the last of them
abbrev pub publication_of : Series → ℕ → Entry → Option Publication
publication_of s step (Publish p) = if bytes_eq p.test s.test && bytes_eq p.metric s.metric then Some p else None
publication_of s step e = None

abbrev pub publications_of : Series → List Entry → List Publication
publications_of s h = chosen (publication_of s) h

abbrev pub last_publication : Series → List Entry → Option Publication
last_publication s h = last_or None (publications_of s h)

-- no publication, or one that speaks of this version or of one before it
abbrev pub IsUpTo : ℕ → Option Publication → Type 0
IsUpTo version None = Unit {0}
IsUpTo version (Some p) = p.version ≤ version

-- the cuts are the best cut list of the points at a penalty and a least length of segments, and the total is theirs
pub record AreBest (points : List Position) (penalty : ℤ) (len : ℕ) (cuts : List ℕ) (sum : ℤ) : Type 0 where
  pub cost : ℕ → ℕ → ℤ
  pub is_cost : IsCost points cost
  pub best : IsBest cost penalty len (length points) cuts
  pub totalled : sum ≡ total cost penalty (length points) cuts

-- the cuts are the best cut list of the positions that a version of the history gives the series, at its penalty and its
-- least length
abbrev pub IsBestAt : List Entry → Publication → Type 0
IsBestAt version p = AreBest (positions version (published p)) (penalty_of p.metric version) (length_of p.metric version) p.cuts p.total

-- the base is none, or the version of an earlier publication of the series, at which the metric's setting was the same
abbrev pub IsBaseAt : List Entry → Publication → Type 0
IsBaseAt version p =
    (p.base ≡ 0)
    ⊎ (Any (λ (q : Publication). q.version ≡ p.base) (publications_of (published p) version) × (setting_of p.metric (take p.base version) ≡ setting_of p.metric version))

-- the version of the history of which a publication speaks
abbrev pub spoken_of : List Entry → Publication → List Entry
spoken_of h p = take p.version h

-- a publication stands in a history: it speaks of a version of it at which the series was known, its cuts and total are the
-- best of exactly that version's positions at its penalty and its least length, and it has a base there
pub record Stands (h : List Entry) (p : Publication) : Type 0 where
  pub past : p.version ≤ length h
  pub known : is_known (published p) (spoken_of h p) ≡ true
  pub best : IsBestAt (spoken_of h p) p
  pub based : IsBaseAt (spoken_of h p) p

-- a publication may follow a history in which it would stand, and which publishes no later version of the series
abbrev pub MayPublish : List Entry → Publication → Type 0
MayPublish h p = Stands h p × IsUpTo p.version (last_publication (published p) h)
