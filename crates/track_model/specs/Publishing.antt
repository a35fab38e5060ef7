-- What the forms about segmentations come to on the history of their machine. Each outcome is determined; it is said by a
-- relation, since a best cut list is one list among all.
use Rattle.std.specs.Prelude.{◌≡◌, ℕ, pos, ◌*◌, ◌-◌, Bool, true, false, nat_lt, ◌&&◌, nat_le, max, if◌then◌else◌, List, [], ◌∷◌, map, length, take, unwrap_or, Option, Some, None}
use Rattle.metric_table.specs.declared.limits.Limit.TheVariants.{Cuts, Steps}
use Rattle.change_list.specs.{Certificate.StandsFor, Cert.Cert, Changes.AreChanges, declared.change.Change.Change}
use Rattle.series_noise.specs.Noise.{IsNoise}
use Rattle.point_list.specs.Places.{common}
use Rattle.history_model.specs.{declared.entries.Entry.Entry, declared.publication.Publication.Publication, Commits.name_of, Penalties.{penalty_of, length_of}}
use Rattle.history_model.specs.declared.entries.Entry.TheVariants as entry
use Rattle.history_model.specs.{Positions.positions, Publications.{IsBaseAt, last_publication, spoken_of}, Runs.{Series, is_known}}
use Rattle.request_model.specs.declared.{changes.NamedChange.NamedChange, replies.Answer.Answer}
use Rattle.request_model.specs.declared.replies.Answer.TheVariants as answer
use Rattle.request_model.specs.declared.replies.Refusal.TheVariants as refusal
use Rattle.track_model.specs.Forms as forms
use Rattle.track_model.specs.Outcomes.{Outcome, tells, refuses, adds_within}

-- of a series that no accepted run had a sample of nothing is told
abbrev pub OfKnown : Bool → (Outcome → Type 0) → Outcome → Type 0
OfKnown false Comes o = o ≡ refuses refusal.UnknownSeries
OfKnown true Comes o = Comes o

-- nor where nothing was published of it
abbrev pub OfPublished : Option Publication → (Publication → Outcome → Type 0) → Outcome → Type 0
OfPublished None Comes o = o ≡ refuses refusal.NothingPublished
OfPublished (Some p) Comes o = Comes p o

-- ---- segment M TEST METRIC

-- what is published of a series at a version, as its certificate shows it, where it began with the table of a base
abbrev pub publication : Series → (version base : ℕ) → Cert → Publication
publication s version base cert =
    record { test = s.test; metric = s.metric; version = version; base = base; total = cert.total; cuts = cert.cuts }

-- the outcome of a publication: first the steps are full, then the cuts
abbrev pub publish : List Entry → Publication → Answer → Outcome
publish h p told = adds_within (Steps ∷ Cuts ∷ []) h (entry.Publish p) told

-- how many positions a version has past those that it has in common with the base's, by commits and values
abbrev pub redone_since : List Entry → ℕ → Series → ℕ
redone_since version base s = length (positions version s) - common (positions (take base version) s) (positions version s)

-- what is told of it, and how many positions were looked at anew
abbrev pub segmented : (version base redone : ℕ) → Cert → Answer
segmented version base redone cert = answer.Segmented version base cert.points (length cert.cuts) redone cert.total

-- the certificate that stands for all that a version of the history has of the series, at its metric's setting there, is
-- published, where it began with the table of a base
abbrev pub IsPublishedOf : List Entry → ℕ → List Entry → Series → Outcome → Type 0
IsPublishedOf version base h s o =
    (cert : Cert) × StandsFor (positions version s) (penalty_of s.metric version) (length_of s.metric version) cert
    × (o ≡ publish h (publication s (length version) base cert) (segmented (length version) base (redone_since version base s) cert))

-- on one thread the version is the whole history
abbrev pub IsPublished : List Entry → ℕ → Series → Outcome → Type 0
IsPublished h base s o = IsPublishedOf h base h s o

abbrev pub SegmentComesTo : List Entry → ℕ → Series → Outcome → Type 0
SegmentComesTo h base s o = OfKnown (is_known s h) (IsPublished h base s) o

-- the version of a publication, where it is above this one
abbrev pub later : ℕ → Option Publication → Option ℕ
later version None = None
later version (Some p) = if nat_lt version p.version then Some p.version else None

-- nothing is published where a later version of the series was
abbrev pub OfLatest : Option ℕ → (Outcome → Type 0) → Outcome → Type 0
OfLatest None Comes o = Comes o
OfLatest (Some version) Comes o = o ≡ refuses (refusal.Stale version)

-- a version is published on a longer history, from a base that the version allows
abbrev pub IsPublishedFrom : List Entry → ℕ → List Entry → Series → Outcome → Type 0
IsPublishedFrom version base h s o =
    (cert : Cert) × StandsFor (positions version s) (penalty_of s.metric version) (length_of s.metric version) cert
    × IsBaseAt version (publication s (length version) base cert)
    × (o ≡ publish h (publication s (length version) base cert) (segmented (length version) base (redone_since version base s) cert))

-- what it comes to where this version was segmented from a base, and others may have published since
abbrev pub SegmentComesFrom : List Entry → ℕ → List Entry → Series → Outcome → Type 0
SegmentComesFrom version base h s o =
    OfKnown (is_known s h)
    (OfLatest (later (length version) (last_publication s h)) (IsPublishedFrom version base h s)) o

-- ---- changes M TEST METRIC

-- a change, its commits by name
abbrev pub named : List Entry → Change → NamedChange
named h c =
    record { before = unwrap_or (name_of c.before h) []; after = unwrap_or (name_of c.after h) []; left = c.left; right = c.right; worse = c.worse }

-- the changes that a publication shows, in the positions of the version that it speaks of
abbrev pub TellsChanges : List Entry → Series → Publication → Outcome → Type 0
TellsChanges h s p o =
    (items : List Change) × AreChanges (positions (spoken_of h p) s) s.metric p.cuts items
    × (o ≡ tells (answer.Changes p.version s.metric (map (named h) items)))

abbrev pub ChangesComeTo : List Entry → Series → Outcome → Type 0
ChangesComeTo h s o = OfKnown (is_known s h) (OfPublished (last_publication s h) (TellsChanges h s)) o

-- ---- verify M TEST METRIC

-- the certificate of a publication stands for the positions of the version that it speaks of, at that version's setting
abbrev pub TellsCertificate : List Entry → Series → Publication → Outcome → Type 0
TellsCertificate h s p o =
    (cert : Cert) × StandsFor (positions (spoken_of h p) s) (penalty_of s.metric (spoken_of h p)) (length_of s.metric (spoken_of h p)) cert
    × (o ≡ tells (answer.Verified p.version cert))

abbrev pub VerifyComesTo : List Entry → Series → Outcome → Type 0
VerifyComesTo h s o = OfKnown (is_known s h) (OfPublished (last_publication s h) (TellsCertificate h s)) o

-- ---- calibrate M TEST METRIC FACTOR

-- from 1 to 1,000
abbrev pub is_factor : ℕ → Bool
is_factor factor = nat_le 1 factor && nat_le factor 1_000

-- a factor out of range is in no request that was read
abbrev pub OfFactor : Bool → (Outcome → Type 0) → Outcome → Type 0
OfFactor false Comes o = o ≡ refuses refusal.BadPenalty
OfFactor true Comes o = Comes o

-- nothing is calibrated from fewer than three positions
abbrev pub OfMany : Bool → ℕ → (Outcome → Type 0) → Outcome → Type 0
OfMany true n Comes o = o ≡ refuses (refusal.TooFewPoints n)
OfMany false n Comes o = Comes o

-- the metric is given so many squares of the series' noise as its penalty, a square of 1 at least; its least length stays
abbrev pub IsCalibrated : List Entry → Series → ℕ → Outcome → Type 0
IsCalibrated h s factor o =
    (noise : ℕ) × IsNoise (positions h s) noise × (o ≡ forms.tune h s.metric (pos (factor * max 1 (noise * noise))) (length_of s.metric h))

abbrev pub CalibrateComesTo : List Entry → Series → ℕ → Outcome → Type 0
CalibrateComesTo h s factor o =
    OfFactor (is_factor factor)
    (OfKnown (is_known s h) (OfMany (nat_lt (length (positions h s)) 3) (length (positions h s)) (IsCalibrated h s factor))) o
