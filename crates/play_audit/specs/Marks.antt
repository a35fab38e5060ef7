-- No public contract cites this. Marks on the entries of journals, which were asked for.
use Rattle.std.specs.{Prelude.{◌≡◌, ◌⊎◌, ◌+◌, ◌<◌, ℕ, Bool, true, false, List, [], length, get_or, map, slice_get, Some, Ok, Vec}, declared.alloc.Global.Global}
use Rattle.history_model.specs.declared.entries.Author.TheVariants as author
use Rattle.history_model.specs.declared.entries.Placed.{Placed}
use Rattle.request_model.specs.{declared.requests.Request.Request, Requests.machine_of}
use Rattle.track_model.specs.Tracks.{Track}
use Rattle.play_model.specs.Replies.{Adds}
use Rattle.play_fits.specs.{Journals.history_in, Scripts.{Exchange, IsAdded, known_after}}
use Rattle.audit_model.specs.Heard.{kept_count, line_at}

-- a row of marks for each journal
abbrev pub rows_of : List (Vec Bool Global) → List (List Bool)
rows_of marks = map (λ (row : Vec Bool Global). row.items) marks

abbrev pub mark_at : List (List Bool) → (at place : ℕ) → Bool
mark_at rows at place = get_or (get_or rows at []) place false

-- each row has a mark for each entry
pub record AreRows (ts : List Track) (rows : List (List Bool)) : Type 0 where
  pub many : length rows ≡ length ts
  pub each : (at : ℕ) (t : Track) → slice_get ts at ≡ Some t
      → length (get_or rows at []) ≡ length t.history

-- nothing is marked
abbrev pub NoneMarked : List (List Bool) → Type 0
NoneMarked rows = (at place : ℕ) → mark_at rows at place ≡ false

-- ---- marks of what exchanges added

-- a request of a script added the entry at a place of a machine's journal, behind these exchanges
pub record IsAddedBy (ts : List Track) (i : ℕ) (xs : List Exchange) (x : Exchange) (t : Track)
    (place : ℕ) : Type 0 where
  pub request : Request
  pub asked : x.item ≡ Ok request
  pub about : machine_of request ≡ t.machine
  pub adds : Adds (author.Script i) (history_in ts t.machine)
      (known_after (kept_count ts t.machine) t.machine xs) request x.reply
  pub its_step : x.reply.step ≡ place + 1

-- entries that are meant are marked, and no others than were marked before
pub record MarksMore (ts : List Track) (IsMeant : Track → (place : ℕ) → Type 0)
    (old new : List (List Bool)) : Type 0 where
  pub rows : AreRows ts new
  pub kept : (at place : ℕ) → mark_at old at place ≡ true → mark_at new at place ≡ true
  pub added : (at place : ℕ) (t : Track) → slice_get ts at ≡ Some t → IsMeant t place
      → mark_at new at place ≡ true
  pub only : (at place : ℕ) (t : Track) → slice_get ts at ≡ Some t → mark_at new at place ≡ true
      → (mark_at old at place ≡ true) ⊎ IsMeant t place

-- this exchange is marked, and nothing else
abbrev pub MarksOne : List Track → ℕ → List Exchange → Exchange → (old new : List (List Bool))
    → Type 0
MarksOne ts i xs x old new = MarksMore ts (IsAddedBy ts i xs x) old new

-- one of a script's exchanges added the entry
abbrev pub IsAddedIn : List Track → ℕ → List Exchange → Track → ℕ → Type 0
IsAddedIn ts i xs t place =
    IsAdded (author.Script i) t.machine (history_in ts t.machine) (kept_count ts t.machine) xs place

-- these exchanges are marked, and nothing else
abbrev pub MarksAll : List Track → ℕ → List Exchange → (old new : List (List Bool)) → Type 0
MarksAll ts i xs old new = MarksMore ts (IsAddedIn ts i xs) old new

-- exactly what the exchanges of all scripts added is marked
pub record MarksThese (ts : List Track) (asked : ℕ → List Exchange) (rows : List (List Bool))
    : Type 0 where
  pub rows_are : AreRows ts rows
  pub added : (i at place : ℕ) (t : Track) → slice_get ts at ≡ Some t
      → IsAddedIn ts i (asked i) t place → mark_at rows at place ≡ true
  pub only : (at place : ℕ) (t : Track) → slice_get ts at ≡ Some t → mark_at rows at place ≡ true
      → (i : ℕ) × IsAddedIn ts i (asked i) t place

-- ---- entries of scripts that aren't marked

pub record IsOpenIn (history : List Placed) (row : List Bool) (place : ℕ) : Type 0 where
  pub entry : Placed
  pub script : ℕ
  pub there : slice_get history place ≡ Some entry
  pub its : entry.author ≡ author.Script script
  pub unmarked : get_or row place false ≡ false

pub record IsFirstIn (history : List Placed) (row : List Bool) (place : ℕ) : Type 0 where
  pub open_ : IsOpenIn history row place
  pub first : (k : ℕ) → k < place → ¬ IsOpenIn history row k

abbrev pub NoneIn : List Placed → List Bool → Type 0
NoneIn history row = (place : ℕ) → ¬ IsOpenIn history row place

pub record IsOpen (ts : List Track) (rows : List (List Bool)) (at place : ℕ) : Type 0 where
  pub track : Track
  pub here : slice_get ts at ≡ Some track
  pub open_ : IsOpenIn track.history (get_or rows at []) place

-- the line of the first such entry
pub record IsFirstOpen (ts : List Track) (rows : List (List Bool)) (l : ℕ) : Type 0 where
  pub at : ℕ
  pub place : ℕ
  pub line : l ≡ line_at ts at place
  pub open_ : IsOpen ts rows at place
  pub first : (m k : ℕ) → line_at ts m k < l → ¬ IsOpen ts rows m k

abbrev pub NoneOpen : List Track → List (List Bool) → Type 0
NoneOpen ts rows = (at place : ℕ) → ¬ IsOpen ts rows at place
