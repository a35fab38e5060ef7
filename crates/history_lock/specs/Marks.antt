-- Entries with the marks of the passes that made them, and how one history goes on as another.
use Rattle.std.specs.Prelude.{◌≡◌, ◌≢◌, ℕ, ◌≤◌, ◌⊎◌, List, [], ◌∷◌, ◌++◌, map, Option, Some, None}
use Rattle.history_lock.specs.declared.view.Marked.{Marked}

-- m is none of these marks
abbrev pub IsNoneOf : ℕ → List ℕ → Type 0
IsNoneOf m [] = Unit {0}
IsNoneOf m (k ∷ ks) = (m ≢ k) × IsNoneOf m ks

-- there is a mark, and it is none of these
abbrev pub IsOtherMark : List ℕ → Option ℕ → Type 0
IsOtherMark marks None = ⊥
IsOtherMark marks (Some m) = IsNoneOf m marks

module _ {E : Type 0} where
  -- an entry with the mark of the pass that made it
  abbrev pub marked : E → Option ℕ → Marked E
  marked e m = record { entry = e; by = m }

  -- the entries, without their marks
  abbrev pub entries : List (Marked E) → List E
  entries log = map (λ (x : Marked E). x.entry) log

  -- entries that no pass made
  abbrev pub unmarked : List E → List (Marked E)
  unmarked es = map (λ (e : E). marked e None) es

  -- each entry was made by a pass whose mark is none of these
  abbrev pub AreByOthers : List ℕ → List (Marked E) → Type 0
  AreByOthers marks [] = Unit {0}
  AreByOthers marks (x ∷ xs) = IsOtherMark marks x.by × AreByOthers marks xs

  -- the history is what was seen, and then entries by others than these marks
  abbrev pub Follows : List ℕ → List (Marked E) → List (Marked E) → Type 0
  Follows marks seen log = (rest : List (Marked E)) × (log ≡ seen ++ rest) × AreByOthers marks rest

  -- each entry has no mark, or one of these
  abbrev pub AreBy : List ℕ → List (Marked E) → Type 0
  AreBy marks [] = Unit {0}
  AreBy marks (x ∷ xs) = ((m : ℕ) → x.by ≡ Some m → ¬ (IsNoneOf m marks)) × AreBy marks xs

  -- each entry has no mark, or one that is not above n
  abbrev pub HaveMarksUpTo : ℕ → List (Marked E) → Type 0
  HaveMarksUpTo n [] = Unit {0}
  HaveMarksUpTo n (x ∷ xs) = (((m : ℕ) → x.by ≡ Some m → m ≤ n)) × HaveMarksUpTo n xs

  -- log is the longer of two lists that passes with these marks have seen: the shorter begins it, and what it has more is
  -- by others than the marks of the shorter one
  abbrev pub IsLongerOf : List ℕ → List (Marked E) → List ℕ → List (Marked E) → List (Marked E) → Type 0
  IsLongerOf marks xs marks' ys log = ((log ≡ xs) × Follows marks' ys xs) ⊎ ((log ≡ ys) × Follows marks xs ys)
