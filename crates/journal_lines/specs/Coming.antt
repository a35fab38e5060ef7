-- Which entries may come behind one another in a journal, and how far a text has their lines.
use Rattle.std.specs.{Prelude.{◌≡◌, ◌≢◌, ◌⊎◌, ℕ, ◌+◌, ◌≤◌, List, [], ◌∷◌, ◌++◌, length}, List.AllByRecursion}
use Rattle.history_model.specs.declared.entries.Author.TheVariants as author
use Rattle.history_model.specs.declared.entries.Placed.{Placed}
use Rattle.journal_lines.specs.{Authors.{Crew, IsPublication, MayAdd}, Lines.HasLine, Texts.{entry_line, lines_from}}

-- so many scripts, and eight workers of each kind
abbrev pub crew_with : ℕ → Crew
crew_with scripts = record { scripts = scripts; recompute = 8; bisect = 8 }

-- an entry that a store kept, which is no publication
pub record WasKept (p : Placed) : Type 0 where
  pub author : p.author ≡ author.Kept
  pub plain : ¬ IsPublication p.entry

-- an entry that may come behind others: one that was kept behind kept ones alone, any other by whom it may be added
abbrev pub MayCome : (scripts : ℕ) → List Placed → Placed → Type 0
MayCome scripts before p = (AllByRecursion WasKept before × WasKept p) ⊎ MayAdd (crew_with scripts) p

-- each of the entries may come behind those before it
abbrev pub MayComeAfter : (scripts : ℕ) → List Placed → List Placed → Type 0
MayComeAfter scripts before [] = Unit {0}
MayComeAfter scripts before (p ∷ ps) = MayCome scripts before p × MayComeAfter scripts (before ++ p ∷ []) ps

-- no line of an entry that may come next stands in front of the text
abbrev pub HasNoNext : (scripts : ℕ) → List Placed → List ℕ → Type 0
HasNoNext scripts before text =
    (p : Placed) (more : List ℕ) → HasLine p → MayCome scripts before p → text ≢ entry_line (length before + 1) p ++ more

-- These entries stand in front of a text, so many, or as many as may come: the rest has no next one.
pub record AreRead (scripts count : ℕ) (text rest : List ℕ) (entries : List Placed) : Type 0 where
  pub is : text ≡ lines_from 1 entries ++ rest
  pub few : length entries ≤ count
  pub lines : AllByRecursion HasLine entries
  pub come : MayComeAfter scripts [] entries
  pub whole : (length entries ≡ count) ⊎ HasNoNext scripts entries rest
