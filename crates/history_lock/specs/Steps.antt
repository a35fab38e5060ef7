-- No public contract cites this. What each step of a lock tells its caller.
use Rattle.std.specs.Prelude.{◌≡◌, ◌≢◌, ℕ, ◌+◌, ◌%◌, ◌^◌, ◌<◌, ◌⊎◌, Bool, true, false, List, [], ◌∷◌, ◌++◌, length, Option, Some, None}
use Rattle.atomic_table.specs.Table.{Me, Step}
use Rattle.history_lock.specs.declared.view.{View.View, Marked.Marked, Stage.Stage, Stage.TheVariants.{Spent, Outside, Waiting, Turn, Inside, Meeting}}
use Rattle.history_lock.specs.{Marks.{marked, entries, HaveMarksUpTo, Follows, IsLongerOf}, Rule.{at_stage, seeing, turn_of, listed}}

-- a pass at its seat: what it knows, and what it took from the slot
abbrev pub Sat : Type 0 → Type 0 → Type 0 → Type 0
Sat S E L = Me (Option S) (View E L)

-- the entries of the state in the slot that was taken last
abbrev pub in_slot : {S E : Type 0} → (S → List E) → List (ℕ × Option S) → List E
in_slot history [] = []
in_slot history (x ∷ xs) = elim x.1 [ Some y ↦ history y | None ↦ [] ]

-- what the pass that was joined has seen
abbrev pub heard : {E : Type 0} → Stage E → List (Marked E)
heard Spent = []
heard Outside = []
heard (Waiting t) = []
heard (Turn t es) = []
heard (Inside t) = []
heard (Meeting met) = met

-- the mark that was joined last
abbrev pub last_joined : List ℕ → ℕ
last_joined [] = 0
last_joined (k ∷ ks) = k

-- the marks that were joined before the last
abbrev pub joined_before : List ℕ → List ℕ
joined_before [] = []
joined_before (k ∷ ks) = ks

-- the state has one entry more than was seen, or just those
abbrev pub MayAdd : {E : Type 0} → Bool → List E → List (Marked E) → Type 0
MayAdd {E} true es seen = (e : E) × (es ≡ entries seen ++ e ∷ []) × (length seen + 1 < 2 ^ 64)
MayAdd false es seen = es ≡ entries seen

module _ {S E L : Type 0} where
  -- a turn was drawn, whose low 64 bits these are
  abbrev pub Drew : ℕ → Me (Option S) (View E L) → Me (Option S) (View E L) → Type 0
  Drew turn me me' = (t : ℕ) × (me'.0 ≡ at_stage me.0 (Waiting t)) × (t % 2 ^ 64 ≡ turn) × (me'.1 ≡ me.1)

  -- a turn was drawn, whose low 64 bits were found
  abbrev pub drew : Step (Option S) → Sat S E L → ℕ → Sat S E L → Type 0
  drew st m r m' = Drew r m m'

  -- a turn was drawn where the number that was hoped for was found, and else nothing changes
  abbrev pub drew_if_free : Step (Option S) → Sat S E L → ℕ → Sat S E L → Type 0
  drew_if_free st m r m' = (r ≡ st.first → Drew r m m') × (r ≢ st.first → m' ≡ m)

  -- nothing changes that the rule speaks of
  abbrev pub stayed : Step (Option S) → Sat S E L → ℕ → Sat S E L → Type 0
  stayed st m r m' = m' ≡ m

  -- where the turn that waits has come, the pass has the slot, and in it a state
  abbrev pub looked : (S → List E) → (S → L) → Step (Option S) → Sat S E L → ℕ → Sat S E L → Type 0
  looked history label st m r m' =
      (turn_of m.0.stage % 2 ^ 64 ≡ r → (y : S) × (m'.0 ≡ at_stage m.0 (Turn (turn_of m.0.stage) (history y))) × (m.0.label ≡ Some (label y)) × (m'.1 ≡ (0, Some y) ∷ m.1))
      × (turn_of m.0.stage % 2 ^ 64 ≢ r → m' ≡ m)

  -- the whole history is seen, and its entries are those of the state
  abbrev pub read_count : Step (Option S) → Sat S E L → ℕ → Sat S E L → Type 0
  read_count st m r m' = (log : List (Marked E)) × (m'.0 ≡ seeing m.0 (Inside (turn_of m.0.stage)) log) × Follows (m.0.mark ∷ m.0.joined) m.0.seen log × (listed m.0.stage ≡ entries log) × (r ≡ length log) × (m'.1 ≡ m.1)

  -- the entry that the state in the slot has more than was seen is the last one, with the mark of the pass
  abbrev pub counted : (S → List E) → Step (Option S) → Sat S E L → ℕ → Sat S E L → Type 0
  counted history st m r m' = (e : E) × (in_slot history m.1 ≡ entries m.0.seen ++ e ∷ []) × (m'.0 ≡ seeing m.0 m.0.stage (m.0.seen ++ marked e (Some m.0.mark) ∷ [])) × (m'.1 ≡ m.1)

  -- the slot is given back, and the pass is outside
  abbrev pub passed_on : Step (Option S) → Sat S E L → ℕ → Sat S E L → Type 0
  passed_on st m r m' = (m'.0 ≡ at_stage m.0 Outside) × (m'.1 ≡ [])

  -- what both have seen is compared
  abbrev pub met : Step (Option S) → Sat S E L → ℕ → Sat S E L → Type 0
  met st m r m' = (log : List (Marked E)) × (m'.0 ≡ seeing m.0 Outside log) × IsLongerOf (m.0.mark ∷ joined_before m.0.joined) m.0.seen (last_joined m.0.joined ∷ []) (heard m.0.stage) log × (m'.1 ≡ m.1)

  -- nothing changes, and each mark in what the first pass has seen is one that it has given
  abbrev pub recalled : Step (Option S) → Sat S E L → ℕ → Sat S E L → Type 0
  recalled st m r m' = (m' ≡ m) × HaveMarksUpTo m.0.given m.0.seen

  -- it is outside
  abbrev pub IsOut : Me (Option S) (View E L) → Type 0
  IsOut me = me.0.stage ≡ Outside

  -- its turn was drawn, and has these low bits
  abbrev pub Waits : ℕ → Me (Option S) (View E L) → Type 0
  Waits turn me = ((t : ℕ) × (me.0.stage ≡ Waiting t)) × (turn_of me.0.stage % 2 ^ 64 ≡ turn)

  -- its turn has come, and the slot has a state
  abbrev pub HasCome : (S → List E) → (S → L) → Me (Option S) (View E L) → Me (Option S) (View E L) → Type 0
  HasCome history label me me' = (y : S) × (me'.0 ≡ at_stage me.0 (Turn (turn_of me.0.stage) (history y))) × (me.0.label ≡ Some (label y)) × (me'.1 ≡ (0, Some y) ∷ me.1)

  -- a turn was drawn and has come, and the slot has a state
  abbrev pub Comes : (S → List E) → (S → L) → Me (Option S) (View E L) → Me (Option S) (View E L) → Type 0
  Comes history label me me' = (t : ℕ) × (y : S) × (me'.0 ≡ at_stage me.0 (Turn t (history y))) × (me.0.label ≡ Some (label y)) × (me'.1 ≡ (0, Some y) ∷ me.1)

  -- the slot that it holds has a state with this label
  abbrev pub Carries : (S → L) → Me (Option S) (View E L) → Type 0
  Carries label me = ((t : ℕ) × (me.0.stage ≡ Inside t)) × ((y : S) × (me.1 ≡ (0, Some y) ∷ []) × (me.0.label ≡ Some (label y)))

  -- the entry that the state has more is the last one of the history
  abbrev pub Catches : (S → List E) → Me (Option S) (View E L) → Me (Option S) (View E L) → Type 0
  Catches history me me' = (me'.1 ≡ me.1)
      × ((log : List (Marked E)) × (me'.0 ≡ seeing me.0 me.0.stage log) × (in_slot history me.1 ≡ entries log) × ((log ≡ me.0.seen) ⊎ ((e : E) × (log ≡ me.0.seen ++ marked e (Some me.0.mark) ∷ []))))
