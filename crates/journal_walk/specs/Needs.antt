-- No public contract cites this. What is needed for the publications of a history, and when.
use Rattle.std.specs.{Prelude.{ℕ, ◌+◌, Bool, true, false, List, [], ◌∷◌, ◌++◌}, List.Sorted.{IsPermutation, IsNonDecreasingBy}}
use Rattle.history_model.specs.declared.{entries.Entry.Entry, entries.Entry.TheVariants.Publish, publication.Publication.Publication}
use Rattle.journal_walk.specs.declared.needs.Need.{Need}

-- the version of a history at which the series of a publication is needed: its base, or the one that it speaks of
abbrev pub time_of : Bool → Publication → ℕ
time_of true p = p.base
time_of false p = p.version

abbrev pub need_of : ℕ → Bool → Publication → Need
need_of place is_base p = record { at = time_of is_base p; place = place; is_base = is_base }

-- what is needed for the entry at a place
abbrev pub needs_of : ℕ → Entry → List Need
needs_of place (Publish p) = need_of place true p ∷ need_of place false p ∷ []
needs_of place e = []

-- and for entries from a place on
abbrev pub needs_from : ℕ → List Entry → List Need
needs_from place [] = []
needs_from place (e ∷ es) = needs_of place e ++ needs_from (place + 1) es

-- all that is needed, in the order in which it comes
pub record IsPlan (h : List Entry) (needs : List Need) : Type 0 where
  pub same : IsPermutation (needs_from 0 h) needs
  pub sorted : IsNonDecreasingBy (λ (n : Need). n.at) needs
