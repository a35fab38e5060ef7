-- What the clauses of a lock say of it and of its passes.
use Rattle.std.specs.Prelude.{◌≡◌, ℕ, ◌<◌, ◌≤◌, ◌⊎◌, List, [], ◌∷◌, ◌++◌, length, Option, Some, None}
use Rattle.atomic_table.specs.Seated.{TableId}
use Rattle.history_lock.specs.declared.{lock.Pass.Pass, lock.HistoryLock.HistoryLock, view.Marked.Marked, view.Stage.TheVariants.{Outside, Inside}}
use Rattle.history_lock.specs.Marks.{IsNoneOf, marked, entries, Follows, IsLongerOf}

module _ {S E L : Type 0} where
  -- which lock it is: no two locks that are there at once are the same
  abbrev pub identity : HistoryLock S E L → TableId
  identity lock = lock.table.shared.table_id

  -- which lock it is a pass of
  abbrev pub lock_of : Pass S E L → TableId
  lock_of p = p.seat.table_id

  -- the beginning of the lock's history that the pass has seen
  abbrev pub seen : Pass S E L → List (Marked E)
  seen p = p.seat.me.0.seen

  -- the mark of the entries that the pass makes: 0 for the first pass, k for the k-th that was split from it
  abbrev pub mark : Pass S E L → ℕ
  mark p = p.seat.me.0.mark

  -- how many passes were split from it
  abbrev pub given : Pass S E L → ℕ
  given p = p.seat.me.0.given

  -- the marks of the passes that were joined into it
  abbrev pub joined : Pass S E L → List ℕ
  joined p = p.seat.me.0.joined

  -- its mark, and those of the passes that were joined into it
  abbrev pub own_marks : Pass S E L → List ℕ
  own_marks p = mark p ∷ joined p

  -- the label of the lock's state
  abbrev pub label : Pass S E L → Option L
  label p = p.seat.me.0.label

  -- it is a pass of this lock, and its count of splits is right
  abbrev pub IsPassOf : HistoryLock S E L → Pass S E L → Type 0
  IsPassOf lock p = (lock_of p ≡ identity lock) × (p.splits ≡ given p)

  -- it is the first pass of its lock
  abbrev pub IsFirst : Pass S E L → Type 0
  IsFirst p = mark p ≡ 0

  -- it is the first pass, and every pass that was split from it was joined into it
  abbrev pub IsWhole : Pass S E L → Type 0
  IsWhole p = IsFirst p × ((k : ℕ) → 0 < k → k ≤ given p → ¬ IsNoneOf k (joined p))

  -- it doesn't hold the state
  abbrev pub IsOutside : Pass S E L → Type 0
  IsOutside p = (p.seat.me.0.stage ≡ Outside) × (p.seat.me.1 ≡ [])

  -- its caller holds the state, and it has seen the whole history
  abbrev pub IsInside : Pass S E L → Type 0
  IsInside p = ((t : ℕ) × (p.seat.me.0.stage ≡ Inside t)) × (p.seat.me.1 ≡ (0, None) ∷ []) × (p.count ≡ length (seen p))

  -- the same pass of the same lock, with the same marks and label
  abbrev pub IsSame : Pass S E L → Pass S E L → Type 0
  IsSame p q = (lock_of q ≡ lock_of p) × (q.splits ≡ p.splits) × (q.seat.id ≡ p.seat.id) × (mark q ≡ mark p) × (given q ≡ given p) × (joined q ≡ joined p) × (label q ≡ label p)

  -- a state with these entries may be given back: they are those that the pass has seen, or those and one more
  abbrev pub MayLeave : List E → Pass S E L → Type 0
  MayLeave es p = (es ≡ entries (seen p)) ⊎ ((e : E) × (es ≡ entries (seen p) ++ e ∷ []))

  -- the pass has seen nothing more, or one entry more, which has its mark
  abbrev pub AddsOneAtMost : Pass S E L → Pass S E L → Type 0
  AddsOneAtMost p q = (seen q ≡ seen p) ⊎ ((e : E) × (seen q ≡ seen p ++ marked e (Some (mark p)) ∷ []))

  -- the state has the pass's label, and its history is what the pass has seen, and then entries by others
  abbrev pub Extends : (S → List E) → (S → L) → Pass S E L → S → Type 0
  Extends history label' p y = (label p ≡ Some (label' y)) × ((log : List (Marked E)) × Follows (own_marks p) (seen p) log × (history y ≡ entries log))

  -- q is the first pass p after the pass w was joined into it: it has seen the longer of what both have seen
  abbrev pub Joins : Pass S E L → Pass S E L → Pass S E L → Type 0
  Joins p w q = IsLongerOf (own_marks p) (seen p) (mark w ∷ []) (seen w) (seen q) × (joined q ≡ mark w ∷ joined p)
