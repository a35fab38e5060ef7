-- The rule of a lock: one history, whose length is the count, turns that are all different, and what each pass knows.
use Rattle.std.specs.Prelude.{◌≡◌, ◌≢◌, ℕ, ◌+◌, ◌%◌, ◌^◌, ◌<◌, ◌≤◌, ◌⊎◌, List, [], ◌∷◌, length, slice_index, Option, Some, None}
use mathlib.Core.Option.{Option as Maybe, none, some}
use lib.ListN.{get_elem?}
use Rattle.atomic_table.specs.Table.{State}
use Rattle.history_lock.specs.{Marks.{IsNoneOf, entries, unmarked, Follows, HaveMarksUpTo}, declared.view.View.View, declared.view.Marked.Marked}
use Rattle.history_lock.specs.declared.view.Stage.{Stage, TheVariants.{Spent, Outside, Waiting, Turn, Inside, Meeting}}

-- how many turns are out with a pass in this stage
abbrev pub busy : {E : Type 0} → Stage E → ℕ
busy Spent = 0
busy Outside = 0
busy (Waiting t) = 1
busy (Turn t es) = 1
busy (Inside t) = 1
busy (Meeting met) = 0

-- 1 for a pass that wasn't joined, else 0
abbrev pub alive : {E : Type 0} → Stage E → ℕ
alive Spent = 0
alive stage = 1

-- it has the turn t
abbrev pub HasTurn : {E : Type 0} → ℕ → Stage E → Type 0
HasTurn t Spent = ⊥
HasTurn t Outside = ⊥
HasTurn t (Waiting u) = u ≡ t
HasTurn t (Turn u es) = u ≡ t
HasTurn t (Inside u) = u ≡ t
HasTurn t (Meeting met) = ⊥

-- it holds the slot
abbrev pub Holds : {E : Type 0} → Stage E → Type 0
Holds Spent = ⊥
Holds Outside = ⊥
Holds (Waiting t) = ⊥
Holds (Turn t es) = Unit {0}
Holds (Inside t) = Unit {0}
Holds (Meeting met) = ⊥

module _ {E L : Type 0} where
  -- what a pass knows, made of its parts
  abbrev pub view : Stage E → List (Marked E) → ℕ → ℕ → List ℕ → Option L → View E L
  view st seen mark given joined label = record { stage = st; seen = seen; mark = mark; given = given; joined = joined; label = label }

  -- the view of the first pass of a new lock
  abbrev pub first_view : List E → L → View E L
  first_view es label = view Outside (unmarked es) 0 0 [] (Some label)

  -- the view at another stage
  abbrev pub at_stage : View E L → Stage E → View E L
  at_stage v st = view st v.seen v.mark v.given v.joined v.label

  -- the view at another stage, where it has seen this history
  abbrev pub seeing : View E L → Stage E → List (Marked E) → View E L
  seeing v st log = view st log v.mark v.given v.joined v.label

  -- the view of the first pass, where every pass that was split from it was joined
  abbrev pub IsWholeView : View E L → Type 0
  IsWholeView v = (v.mark ≡ 0) × ((k : ℕ) → 0 < k → k ≤ v.given → ¬ IsNoneOf k v.joined)

  -- the view of the first pass after a split
  abbrev pub split_left : View E L → View E L
  split_left v = view v.stage v.seen v.mark (v.given + 1) v.joined v.label

  -- the view of the pass that is split off
  abbrev pub split_right : View E L → View E L
  split_right v = view Outside v.seen (v.given + 1) 0 [] v.label

  -- the view of the first pass between a join and the meeting, and that of the pass that was joined
  abbrev pub join_both : View E L → View E L → View E L
  join_both v w = view (Meeting w.seen) v.seen v.mark v.given (w.mark ∷ v.joined) v.label

  -- the view of a pass that was joined
  abbrev pub spent_view : View E L
  spent_view = view Spent [] 0 0 [] None

  -- how many turns are out with these passes
  abbrev pub waiting : List (View E L) → ℕ
  waiting [] = 0
  waiting (v ∷ vs) = busy v.stage + waiting vs

  -- how many of these passes were not joined
  abbrev pub living : List (View E L) → ℕ
  living [] = 0
  living (v ∷ vs) = alive v.stage + living vs

  -- the history goes on from what the pass has seen, by others than its own marks
  abbrev pub Sees : List (Marked E) → View E L → Type 0
  Sees log v = Follows (v.mark ∷ v.joined) v.seen log

  -- what a pass knows of the turns and the history
  abbrev pub Knows : ℕ → ℕ → List (Marked E) → View E L → Stage E → Type 0
  Knows drawn served log v Spent = Unit {0}
  Knows drawn served log v Outside = Sees log v
  Knows drawn served log v (Waiting t) = (served ≤ t) × (t < drawn) × Sees log v
  Knows drawn served log v (Turn t es) = (t ≡ served) × (t < drawn) × (es ≡ entries log) × Sees log v
  Knows drawn served log v (Inside t) = (t ≡ served) × (t < drawn) × (v.seen ≡ log)
  Knows drawn served log v (Meeting met) = (m : ℕ) × (ms : List ℕ) × (v.joined ≡ m ∷ ms) × Follows (v.mark ∷ ms) v.seen log × Follows (m ∷ []) met log

  -- the marks of a live pass at a place from 1 on, beside the first view
  abbrev pub IsBadge : View E L → View E L → Type 0
  IsBadge first v = (0 < v.mark) × (v.mark ≤ first.given) × IsNoneOf v.mark first.joined × (v.joined ≡ [])

-- the turn that was drawn last
abbrev pub turn_of : {E : Type 0} → Stage E → ℕ
turn_of Spent = 0
turn_of Outside = 0
turn_of (Waiting t) = t
turn_of (Turn t es) = t
turn_of (Inside t) = t
turn_of (Meeting met) = 0

-- the entries of the state that was found
abbrev pub listed : {E : Type 0} → Stage E → List E
listed Spent = []
listed Outside = []
listed (Waiting t) = []
listed (Turn t es) = es
listed (Inside t) = []
listed (Meeting met) = []

-- a lock as its table has it: its words, its slot and what each pass knows
abbrev pub LockState : Type 0 → Type 0 → Type 0 → Type 0
LockState S E L = State (Option S) (View E L)

-- the first words are the history's length and the turns drawn and served; the two others may be anything
pub record KeptWords {E : Type 0} (log : List (Marked E)) (drawn served : ℕ) (words : List ℕ) : Type 0 where
  pub wide : length words ≡ 5
  pub count_is : slice_index words 0 ≡ length log
  pub ticket_is : slice_index words 1 ≡ drawn % 2 ^ 64
  pub serving_is : slice_index words 2 ≡ served % 2 ^ 64

module _ {E L : Type 0} where
  -- as many turns are out as passes have one, and no two passes have the same
  pub record KeptTurns (name : L) (log : List (Marked E)) (drawn served : ℕ) (views : List (View E L)) : Type 0 where
    pub balance : drawn ≡ served + waiting views
    pub each : (j : ℕ) (v : View E L) → get_elem? views j ≡ some v → Knows drawn served log v v.stage
    pub named : (j : ℕ) (v : View E L) → get_elem? views j ≡ some v → alive v.stage ≡ 1 → v.label ≡ Some name
    pub apart : (t i j : ℕ) (v w : View E L) → get_elem? views i ≡ some v → get_elem? views j ≡ some w
        → HasTurn t v.stage → HasTurn t w.stage → i ≡ j

  -- no two passes have one mark, and the first one has given each that there is
  pub record KeptMarks (log : List (Marked E)) (views : List (View E L)) : Type 0 where
    pub first : View E L
    pub first_here : get_elem? views 0 ≡ some first
    pub first_lives : alive first.stage ≡ 1
    pub first_mark : first.mark ≡ 0
    pub badges : (j : ℕ) (v : View E L) → get_elem? views j ≡ some v → j ≢ 0 → alive v.stage ≡ 1 → IsBadge first v
    pub own_marks : (i j : ℕ) (v w : View E L) → get_elem? views i ≡ some v → get_elem? views j ≡ some w
        → alive v.stage ≡ 1 → alive w.stage ≡ 1 → v.mark ≡ w.mark → i ≡ j
    pub census : living views + length first.joined ≡ first.given + 1
    pub few : first.given + 1 < 2 ^ 64
    pub joined_given : (m : ℕ) → first.given < m → IsNoneOf m first.joined
    pub given_marks : HaveMarksUpTo first.given log

module _ {S E L : Type 0} (history : S → List E) (label : S → L) (name : L) where
  -- the slot has a state of this history and label where no pass holds it, and else it is empty
  abbrev pub KeptSlot : List (Marked E) → List (Maybe (Option S)) → List (View E L) → Type 0
  KeptSlot log homes views =
      ((y : S) × (get_elem? homes 0 ≡ some (some (Some y))) × (history y ≡ entries log) × (label y ≡ name)
      × ((j : ℕ) (v : View E L) → get_elem? views j ≡ some v → ¬ (Holds v.stage)))
      ⊎ ((get_elem? homes 0 ≡ some none) × ((j : ℕ) × (v : View E L) × (get_elem? views j ≡ some v) × Holds v.stage))

  -- what the words, the slot and the passes of a lock keep: one history, its length, and the turns drawn and served
  pub record Kept (s : LockState S E L) : Type 0 where
    pub log : List (Marked E)
    pub drawn : ℕ
    pub served : ℕ
    pub words : KeptWords log drawn served s.words
    pub turns : KeptTurns name log drawn served s.views
    pub slot : KeptSlot log s.homes s.views
    pub marks : KeptMarks log s.views

  -- in every state that the lock can be in, a whole first pass is the only one that was not joined
  abbrev pub WholeIsAlone : Type 0
  WholeIsAlone = (s : LockState S E L) → Kept s → (i j : ℕ) (v w : View E L)
      → get_elem? s.views i ≡ some v → alive v.stage ≡ 1 → IsWholeView v
      → get_elem? s.views j ≡ some w → alive w.stage ≡ 1 → j ≡ i
