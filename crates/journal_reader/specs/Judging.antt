-- How many first entries of a history are allowed.
use Rattle.std.specs.Prelude.{◌≡◌, ℕ, ◌≤◌, List, length, take, slice_get, Some}
use Rattle.history_model.specs.{declared.entries.Entry.Entry, Allowed.{Allowed, Legal}}

-- so many are, each after those before it, and the next one, if there is one, is not
pub record AreAllowed (h : List Entry) (count : ℕ) : Type 0 where
  pub within : count ≤ length h
  pub legal : Legal (take count h)
  pub next : (e : Entry) → slice_get h count ≡ Some e → ¬ Allowed (take count h) e
