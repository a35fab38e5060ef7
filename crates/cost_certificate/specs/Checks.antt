-- No public contract cites this. What is looked at of a certificate, entry by entry.
use Rattle.std.specs.Prelude.{◌≡◌, ◌≢◌, ℕ, ℤ, ◌+◌, ◌*◌, ◌^◌, ◌<◌, ◌≤◌, List, length, slice_index, slice_index_or, false, ◌⊎◌, ◌↔◌, pos, neg_ℤ, ◌+ℤ◌, ◌≤ℤ◌, ◌<ℤ◌}
use Rattle.segment_model.specs.{Computed.least_sum_of, Tables.{int_at, IsCandidate, IsDear, IsMark, IsOpenAt, IsUnmarkedBefore, IsSettled, IsTable}}
use Rattle.segment_model.specs.Values.{cost_between}
use Rattle.cost_certificate.specs.declared.{blocks.Need.Need, blocks.Watch.Watch, tables.Tables.Tables}

-- how many positions there are, which is the last place
abbrev pub last_place : Tables → ℕ
last_place tables = length tables.square.now.positions

-- what the segment from one place to another costs
abbrev pub cost_in : Tables → ℕ → ℕ → ℤ
cost_in tables = cost_between least_sum_of tables.square.now.positions

-- the total of a place
abbrev pub total_at : Tables → ℕ → ℤ
total_at tables t = int_at tables.least.now t

-- the last cut of a place
abbrev pub last_cut_at : Tables → ℕ → ℕ
last_cut_at tables t = slice_index tables.back.now t

-- the mark of a place
abbrev pub mark_at : Tables → ℕ → ℕ
mark_at tables s = slice_index tables.pruned.now s

-- they are the tables of the positions for the penalty
abbrev pub AreRight : Tables → Type 0
AreRight tables = IsTable (cost_in tables) (last_place tables) tables.penalty tables.len tables.least.now tables.back.now tables.pruned.now

-- the last cut of place t is one of its candidates and makes its total
abbrev pub RowHolds : Tables → ℕ → Type 0
RowHolds tables t =
    IsCandidate tables.len t (last_cut_at tables t)
    × (total_at tables t ≡ total_at tables (last_cut_at tables t) +ℤ cost_in tables (last_cut_at tables t) t +ℤ tables.penalty)

-- where s is an open candidate of t, a last segment from s makes no less than the total of t, and more where s lies before the
-- last cut
abbrev pub OrderHolds : Tables → ℕ → ℕ → Type 0
OrderHolds tables s t =
    IsCandidate tables.len t s → IsOpenAt tables.len tables.pruned.now s t
    → (total_at tables t ≤ℤ (total_at tables s +ℤ cost_in tables s t +ℤ tables.penalty))
    × (s < last_cut_at tables t → total_at tables t <ℤ (total_at tables s +ℤ cost_in tables s t +ℤ tables.penalty))

-- where s has no mark before t, it is dear there exactly where t is its mark, or it is settled and t is no mark
abbrev pub MarkHolds : Tables → ℕ → ℕ → Type 0
MarkHolds tables s t =
    IsUnmarkedBefore tables.pruned.now s t
    → (¬ IsSettled tables.len (last_cut_at tables t) s → (IsDear (cost_in tables) tables.len tables.least.now s t ↔ (mark_at tables s ≡ t)))
    × (IsSettled tables.len (last_cut_at tables t) s → mark_at tables s ≢ t)

-- both
abbrev pub PairHolds : Tables → ℕ → ℕ → Type 0
PairHolds tables s t = (OrderHolds tables s t) × MarkHolds tables s t

-- each place from `reach` on is settled by the last cut of place t
abbrev pub IsReach : Tables → ℕ → ℕ → Type 0
IsReach tables t reach = (s : ℕ) → reach ≤ s → s ≤ last_place tables → IsSettled tables.len (last_cut_at tables t) s

-- the number is at most what a last segment from s makes to each place from t on, and such as that can be
pub record IsFloor (tables : Tables) (s t : ℕ) (floor : ℤ) : Type 0 where
  pub at_most : (v : ℕ) → t ≤ v → v ≤ last_place tables → floor ≤ℤ (total_at tables s +ℤ cost_in tables s v)
  pub low : neg_ℤ (pos (10 ^ 36)) ≤ℤ floor
  pub high : floor ≤ℤ pos (2 * 10 ^ 37)

-- each mark may be one
abbrev pub MarksHold : Tables → Type 0
MarksHold tables = (s : ℕ) → s ≤ last_place tables → IsMark (last_place tables) s (mark_at tables s)

-- the mark of place s, and each pair with a place up to it
abbrev pub PlaceHolds : Tables → ℕ → Type 0
PlaceHolds tables s =
    IsMark (last_place tables) s (mark_at tables s)
    × ((t : ℕ) → s < t → t ≤ last_place tables → IsOpenAt tables.len tables.pruned.now s t → PairHolds tables s t)

-- each pair of s with a place behind `from`, up to `end`, at which s is open
abbrev pub PlaceHoldsInBlock : Tables → ℕ → ℕ → ℕ → Type 0
PlaceHoldsInBlock tables s from end =
    (t : ℕ) → s < t → from < t → t ≤ end → IsOpenAt tables.len tables.pruned.now s t → PairHolds tables s t

-- that for each place from `start` on, before `stop`
abbrev pub PlacesHoldInBlock : Tables → ℕ → ℕ → ℕ → ℕ → Type 0
PlacesHoldInBlock tables start stop from end = (s : ℕ) → start ≤ s → s < stop → PlaceHoldsInBlock tables s from end

-- the totals behind `from`, up to `end`, are at most the need's and the cost of the segment from there, and the last cuts there
-- settle the places from its reach on
pub record IsNeed (tables : Tables) (from end : ℕ) (need : Need) : Type 0 where
  pub total : (t : ℕ) → from < t → t ≤ end → total_at tables t ≤ℤ (need.total +ℤ cost_in tables from t)
  pub reach : (t : ℕ) → from < t → t ≤ end → IsReach tables t need.reach
  pub low : neg_ℤ (pos (2 * 10 ^ 37)) ≤ℤ need.total
  pub high : need.total ≤ℤ pos (10 ^ 37)

-- each place from `from` on has no mark up to `end`, and a total at most the penalty below those of the places behind it, up
-- to `to`
abbrev pub IsLevel : Tables → ℕ → ℕ → ℕ → Type 0
IsLevel tables from to end =
    (s t : ℕ) → from ≤ s → s < t → t ≤ to
    → (total_at tables t ≤ℤ (total_at tables s +ℤ tables.penalty)) × ((mark_at tables s ≡ 0) ⊎ (end < mark_at tables s))

-- place s has a mark, and isn't open behind place `at`
abbrev pub IsClosed : Tables → ℕ → ℕ → Type 0
IsClosed tables s at = (mark_at tables s ≢ 0) × (mark_at tables s + tables.len ≤ at + 1)

-- place s has no mark up to `until`, and makes to each place behind at least the watch's total and the cost from its place on
pub record IsWatched (tables : Tables) (s : ℕ) (watch : Watch) : Type 0 where
  pub open' : watch.is_shut ≡ false
  pub until : (mark_at tables s ≡ 0) ⊎ (watch.until < mark_at tables s)
  pub at_least : (v : ℕ) → s ≤ v → watch.at ≤ v → v ≤ last_place tables → (watch.total +ℤ cost_in tables watch.at v) ≤ℤ (total_at tables s +ℤ cost_in tables s v)

-- each place from `start` on, before `stop`, is closed at the watch's place, which is at most `at`, or is as the watch says
pub record IsWatch (tables : Tables) (start stop at : ℕ) (watch : Watch) : Type 0 where
  pub made : watch.at ≤ at
  pub known : (s : ℕ) → start ≤ s → s < stop → IsClosed tables s watch.at ⊎ IsWatched tables s watch
  pub low : neg_ℤ (pos (2 * 10 ^ 37)) ≤ℤ watch.total
  pub high : watch.total ≤ℤ pos (2 * 10 ^ 37)

-- the watch of block j
abbrev pub watch_at : List Watch → ℕ → Watch
watch_at watches j = slice_index_or watches j (record { at = 0; total = pos 0; until = 0; is_shut = false })

-- there are 512 watches, each of its block of 32 places, made at most at `at`
pub record AreWatches (tables : Tables) (at : ℕ) (watches : List Watch) : Type 0 where
  pub enough : length watches ≡ 512
  pub each : (j : ℕ) → j < 512 → IsWatch tables (j * 32) (j * 32 + 32) at (watch_at watches j)
