-- What the indexes of a state keep to.
use Rattle.std.specs.Prelude.{◌≡◌, ◌≤◌, ◌<◌, ℕ, true, false, List, length, take, Option, Some, None, is_some}
use Rattle.segment_model.specs.{Segments.Position, Values.values_by_position}
use Rattle.history_model.specs.{declared.entries.Declaration.Declaration, declared.entries.Entry.Entry, Allowed.{Legal, KeepsLimits}, Commits.declarations}
use Rattle.history_model.specs.{Positions.positions, Runs.{Series, is_known, known_series}, declared.publication.Publication.Publication}
use Rattle.sample_store.specs.declared.store.Stored.{Stored}
use Rattle.series_index.specs.{Seen.seen, declared.tracked.Tracked.Tracked}
use Rattle.history_model.specs.{Penalties.{setting_of, penalty_of, length_of, IsSetting}, Publications.{last_publication, cut_count}, Entries.entries_of}
use Rattle.segment_cost.specs.declared.done.Done.{Done}
use Rattle.publication_index.specs.{Given.given, Kept.{kept, series_of}}
use Rattle.request_model.specs.declared.replies.Refusal.{Refusal}
use Rattle.track_model.specs.{Outcomes.refuses, Publishing.{OfKnown, OfPublished}, Tracks.{Track, base_of}}
use Rattle.pelt_core.specs.Seen.{table_of}
use Rattle.machine_state.specs.{declared.base.Base.Base, declared.following.Following.Following, Following.AreFollowed, Indexes.{Kept, Settings, stored_runs}}
use Rattle.machine_state.specs.Made.{Segmentations, publication_from, IsMadeFrom}

-- a step that came, if it is one
abbrev pub IsPast : ℕ → Option ℕ → Type 0
IsPast now None = Unit {0}
IsPast now (Some step) = step ≤ now

-- what is kept of a series is what follows from the history
pub record IsTracked (h : List Entry) (s : Series) (t : Tracked) : Type 0 where
  pub points : t.points ≡ positions h s
  pub since : IsPast (length h) t.since
  pub known : is_some t.since ≡ is_known s h

-- what is found of a series: nothing where it isn't known, else its positions
abbrev pub IsFound : List Entry → Series → Option (List Position) → Type 0
IsFound h s None = is_known s h ≡ false
IsFound h s (Some points) = (is_known s h ≡ true) × (points ≡ positions h s)

-- what is kept of a series is what was made for its last publication
abbrev pub IsKept : List Entry → Option Publication → Option Done → Type 0
IsKept h None None = Unit {0}
IsKept h (Some p) (Some done) = (p ≡ publication_from done) × IsMadeFrom h done
IsKept h None (Some done) = ⊥
IsKept h (Some p) None = ⊥

-- what the next segmentation of a series begins with: nothing where its base is 0, else the base, the positions there, and
-- their table at the present setting
pub record BeginsWith (t : Track) (s : Series) (b : Base) : Type 0 where
  pub some : 0 < b.version
  pub version : b.version ≡ base_of t s
  pub points : b.points ≡ positions (take b.version (entries_of t.history)) s
  pub table : b.table ≡ table_of (values_by_position b.points)
      (penalty_of s.metric (entries_of t.history)) (length_of s.metric (entries_of t.history))

abbrev pub IsBegun : Track → Series → Option Base → Type 0
IsBegun t s None = base_of t s ≡ 0
IsBegun t s (Some b) = BeginsWith t s b

-- what a request about a series' last publication finds: the segmentation that it was made from
pub record IsLast (h : List Entry) (s : Series) (done : Done) : Type 0 where
  pub known : is_known s h ≡ true
  pub last : last_publication s h ≡ Some (publication_from done)
  pub series : series_of done ≡ s
  pub made : IsMadeFrom h done

-- or why it is refused, whatever it would tell of a publication
abbrev pub HasNone : List Entry → Series → Refusal → Type 0
HasNone h s why = OfKnown (is_known s h) (OfPublished (last_publication s h) (λ p o. ⊥))
    (refuses why)

-- the history is legal, and each index is what follows from it
pub record StandsFor (h : List Entry) (commits : List Declaration) (runs : List Stored) (series : Kept) (known : ℕ) (settings : Settings) (published : Segmentations) (cuts : ℕ) (following : Following) : Type 0 where
  pub legal : Legal h
  pub limits : KeepsLimits h
  pub commits_are : commits ≡ declarations h
  pub runs_are : runs ≡ stored_runs h
  pub series_are : (s : Series) → IsTracked h s (seen s series)
  pub known_are : known ≡ length (known_series h)
  pub settings_are : (metric : List ℕ) → given metric settings ≡ setting_of metric h
  pub settings_fit : (metric : List ℕ) → IsSetting (setting_of metric h)
  pub published_are : (s : Series) → IsKept h (last_publication s h) (kept s published)
  pub cuts_are : cuts ≡ cut_count h
  pub followed_are : AreFollowed h following
