-- No public contract cites this. What a walk keeps for publications that are to come.
use Rattle.std.specs.Prelude.{◌≡◌, ◌<◌, ◌≤◌, ℕ, Bool, true, false, List, length, take, slice_get, Option, Some}
use Rattle.history_model.specs.declared.{entries.Entry.Entry, entries.Entry.TheVariants.Publish, publication.Publication.Publication}
use Rattle.history_model.specs.{Publications.published, Runs.is_known}
use Rattle.journal_walk.specs.{declared.ahead.Ahead.Ahead, declared.needs.Need.Need, declared.version.Version.Version, Firsts.AreFirsts}
use Rattle.journal_walk.specs.{Needs.{IsPlan, time_of}, Versions.IsOf}

-- by the place of a publication: its series at its base, or at its version
abbrev pub Slots : Type 0
Slots = List (Option Version)

abbrev pub slots_of : Bool → Slots → Slots → Slots
slots_of true bases versions = bases
slots_of false bases versions = versions

-- what stands at a place is what the publication's series was then
abbrev pub AreThen : (publications h : List Entry) → Bool → Slots → Type 0
AreThen es h is_base slots =
    (place : ℕ) (p : Publication) (x : Version) → slice_get es place ≡ Some (Publish p) → slice_get slots place ≡ Some (Some x)
    → (time_of is_base p ≤ length h) × IsOf (take (time_of is_base p) h) (published p) x

-- something stands at the place of a publication that is to come, if its series was known then
abbrev pub IsMet : (publications h : List Entry) → Need → Slots → Type 0
IsMet es h need slots =
    (p : Publication) → slice_get es need.place ≡ Some (Publish p) → length h ≤ need.place
    → is_known (published p) (take need.at h) ≡ true → (x : Version) × (slice_get slots need.place ≡ Some (Some x))

-- Behind the history h, which may be the first of the entries es: so many needs were met, and no others came.
pub record Keeps (es h : List Entry) (needs : List Need) (met : ℕ) (bases versions : Slots) : Type 0 where
  pub plan : IsPlan es needs
  pub as_many_bases : length bases ≡ length es
  pub as_many_versions : length versions ≡ length es
  pub bases_are : AreThen es h true bases
  pub versions_are : AreThen es h false versions
  pub few : met ≤ length needs
  pub past : (i : ℕ) (need : Need) → slice_get needs i ≡ Some need → i < met → need.at ≤ length h
  pub are_met : (i : ℕ) (need : Need) → slice_get needs i ≡ Some need → i < met → IsMet es h need (slots_of need.is_base bases versions)
  pub to_come : (i : ℕ) (need : Need) → slice_get needs i ≡ Some need → met ≤ i → length h ≤ need.at

pub record KeepsAhead (es h : List Entry) (a : Ahead) : Type 0 where
  pub keeps : Keeps es h a.needs.items a.met a.bases.items a.versions.items
  pub firsts : AreFirsts es a.firsts

-- each other need is to come behind more entries
abbrev pub AllMet : List Entry → Ahead → Type 0
AllMet h a = (i : ℕ) (need : Need) → slice_get a.needs.items i ≡ Some need → a.met ≤ i → length h < need.at

-- a publication is to come next along the entries, and all that was needed so far was met
pub record IsReady (es h : List Entry) (a : Ahead) (p : Publication) : Type 0 where
  pub kept : KeepsAhead es h a
  pub all_met : AllMet h a
  pub along : h ≡ take (length h) es
  pub next : slice_get es (length h) ≡ Some (Publish p)
