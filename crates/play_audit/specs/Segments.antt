-- No public contract cites this. Segmentations that a journal may have published, or not.
use Rattle.std.specs.Prelude.{◌≡◌, ◌≢◌, ◌⊎◌, ℕ, ◌≤◌, ◌<◌, true, false, List, [], ◌∷◌, ◌++◌, length, Option, Some, None}
use Rattle.metric_table.specs.declared.limits.Limit.{Limit, TheVariants.{Cuts, Steps}}
use Rattle.segment_cost.specs.{Certificate.StandsFor, declared.cert.Cert.Cert}
use Rattle.history_model.specs.declared.{entries.Entry.Entry, entries.Entry.TheVariants.Publish, entries.Placed.Placed, publication.Publication.Publication}
use Rattle.history_model.specs.{Penalties.{penalty_of, length_of}, Positions.positions, Allowed.first_passed, Publications.{IsBaseAt, last_publication}}
use Rattle.history_model.specs.Runs.{Series, is_known}
use Rattle.request_model.specs.declared.replies.Refusal.{Refusal, TheVariants.{Full, Stale, UnknownSeries}}
use Rattle.journal_walk.specs.Walks.{Walked, added}
use Rattle.reply_text.specs.Replies.{text_of}
use Rattle.track_model.specs.{Outcomes.refuses, Publishing.{later, publication}, Replies.reply_of}
use Rattle.play_audit.specs.{Places.Knows, Texts.BeginsWith}
use Rattle.play_model.specs.Replies.{first_of}

-- the entry publishes the series at a version that is no older than this
abbrev pub Publishes : Entry → (test metric : List ℕ) → ℕ → Type 0
Publishes (Publish p) test metric known = (p.test ≡ test) × (p.metric ≡ metric) × (known ≤ p.version)
Publishes e test metric known = ⊥

-- the version of a publication; 0 where there is none
abbrev pub IsLastVersion : Option Publication → ℕ → Type 0
IsLastVersion None version = version ≡ 0
IsLastVersion (Some p) version = version ≡ p.version

-- a limit that a publication of the series would pass behind the first entries of a journal, so many, of a version that is
-- no older than was known, nor than the last that was published
pub record IsFullBehind (j : List Placed) (known count : ℕ) (s : Series) (limit : Limit) : Type 0 where
  pub version : ℕ
  pub since : known ≤ version
  pub until : version ≤ count
  pub latest : later (length (first_of version j)) (last_publication s (first_of count j)) ≡ None
  pub base : ℕ
  pub cert : Cert
  pub stands : StandsFor (positions (first_of version j) s) (penalty_of s.metric (first_of version j)) (length_of s.metric (first_of version j)) cert
  pub based : IsBaseAt (first_of version j) (publication s (length (first_of version j)) base cert)
  pub passed : first_passed (Steps ∷ Cuts ∷ []) (first_of count j) (Publish (publication s (length (first_of version j)) base cert)) ≡ Some limit

-- why nothing is published there of a series that is known
abbrev pub IsReasonOf : List Placed → (known count : ℕ) → Series → Refusal → Type 0
IsReasonOf j known count s reason =
    ((version : ℕ) × (later known (last_publication s (first_of count j)) ≡ Some version) × (reason ≡ Stale version))
    ⊎ ((limit : Limit) × IsFullBehind j known count s limit × (reason ≡ Full limit))

-- and why nothing is
abbrev pub IsReason : List Placed → (known count : ℕ) → Series → Refusal → Type 0
IsReason j known count s reason =
    ((is_known s (first_of count j) ≡ false) × (reason ≡ UnknownSeries))
    ⊎ ((is_known s (first_of count j) ≡ true) × IsReasonOf j known count s reason)

-- the best segmentation of the series at a version has so many cuts at most
abbrev pub HasFewCuts : List Placed → Series → (version room : ℕ) → Type 0
HasFewCuts j s version room =
    (cert : Cert) → StandsFor (positions (first_of version j) s) (penalty_of s.metric (first_of version j)) (length_of s.metric (first_of version j)) cert
    → length cert.cuts ≤ room

-- and at one version between two it has more
pub record PassesCuts (j : List Placed) (s : Series) (from to room : ℕ) : Type 0 where
  pub version : ℕ
  pub since : from ≤ version
  pub until : version ≤ to
  pub cert : Cert
  pub stands : StandsFor (positions (first_of version j) s) (penalty_of s.metric (first_of version j)) (length_of s.metric (first_of version j)) cert
  pub past : room < length cert.cuts

-- a transcript begins with the refusal of a limit behind a walk, and it is one that would be passed
pub record IsFullNext (w : Walked) (known : ℕ) (s : Series) (transcript : List ℕ) (len : ℕ) : Type 0 where
  pub limit : Limit
  pub full : IsFullBehind w.history known (length w.track.history) s limit
  pub begins : BeginsWith transcript (reply_of (added w) (refuses (Full limit))) len

-- it begins with no such refusal
abbrev pub IsNotFull : Walked → ℕ → Series → List ℕ → Type 0
IsNotFull w known s transcript =
    (limit : Limit) (rest : List ℕ) → IsFullBehind w.history known (length w.track.history) s limit
    → transcript ≢ text_of (reply_of (added w) (refuses (Full limit))) ++ rest

-- behind a walk the series is known, this is the version of its last publication, and so many entries were known
pub record IsKnownAt (w : Walked) (known : ℕ) (s : Series) (last : ℕ) : Type 0 where
  pub knows : Knows w known
  pub open knows use *
  pub there : is_known s (added w) ≡ true
  pub is_last : IsLastVersion (last_publication s (added w)) last
  pub past : last ≤ length w.track.history
