-- No public contract cites this. Where a version of a series is published first.
use Rattle.std.specs.{Prelude.{◌≡◌, ◌<◌, ℕ, ◌+◌, Bool, false, List, [], ◌∷◌, if◌then◌else◌, Option, Some, None}, declared.cmp.Ordering.Ordering}
use Rattle.std.specs.{Ordering.{nat_cmp, is_eq, ordering_then}, Cmp.Lexicographic.slice_cmp, Map.lookup}
use Rattle.history_model.specs.declared.{entries.Entry.Entry, entries.Entry.TheVariants.Publish, publication.Publication.Publication}
use Rattle.journal_walk.specs.declared.firsts.SeriesVersion.{SeriesVersion}

-- the places by version of a series
abbrev pub Places : Type 0
Places = List (SeriesVersion × ℕ)

-- by the bytes of the test, then of the metric, then by version
abbrev pub key_cmp : SeriesVersion → SeriesVersion → Ordering
key_cmp one other =
    ordering_then (slice_cmp nat_cmp one.test other.test)
    (ordering_then (slice_cmp nat_cmp one.metric other.metric) (nat_cmp one.version other.version))

abbrev pub place_of : SeriesVersion → Places → Option ℕ
place_of key places = lookup (λ (q : SeriesVersion). is_eq (key_cmp key q)) places

-- the version of its series that a publication speaks of
abbrev pub key_of : Publication → SeriesVersion
key_of p = record { test = p.test; metric = p.metric; version = p.version }

-- the version of its series that is its base
abbrev pub base_key : Publication → SeriesVersion
base_key p = record { test = p.test; metric = p.metric; version = p.base }

-- an entry publishes this version of a series
abbrev pub publishes : SeriesVersion → Entry → Bool
publishes key (Publish p) = is_eq (key_cmp (key_of p) key)
publishes key e = false

-- the first place of one of these entries, from a place on, that does
abbrev pub first_from : ℕ → SeriesVersion → List Entry → Option ℕ
first_from place key [] = None
first_from place key (e ∷ es) = if publishes key e then Some place else first_from (place + 1) key es

-- the places are the first ones
abbrev pub AreFirsts : List Entry → Places → Type 0
AreFirsts h places = (key : SeriesVersion) → place_of key places ≡ first_from 0 key h

-- a place that stands before a version
abbrev pub IsBefore : ℕ → Option ℕ → Type 0
IsBefore version None = ⊥
IsBefore version (Some place) = place < version
