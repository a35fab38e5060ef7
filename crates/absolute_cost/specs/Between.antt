-- No public contract cites this. Two numbers, and what lies between them.
use Rattle.std.specs.Prelude.{ℤ, List, All, ◌≤ℤ◌}
use Rattle.segment_model.specs.Limits.{IsSmall}
use Rattle.absolute_cost.specs.declared.ends.Ends.{Ends}

abbrev pub AreSmall : Ends → Type 0
AreSmall e = IsSmall e.least × IsSmall e.greatest

-- what lies between the first ones lies between the others
abbrev pub AreWider : Ends → Ends → Type 0
AreWider e f = (f.least ≤ℤ e.least) × (e.greatest ≤ℤ f.greatest)

abbrev pub IsBetween : Ends → ℤ → Type 0
IsBetween e x = (e.least ≤ℤ x) × (x ≤ℤ e.greatest)

-- small ones that are wider, with some values between them
pub record HaveTaken (values : List ℤ) (old new : Ends) : Type 0 where
  pub small : AreSmall new
  pub wider : AreWider old new
  pub between : All (IsBetween new) values
