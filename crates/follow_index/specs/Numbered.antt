-- Regressions and bisections by number, and what becomes of one of them.
use Rattle.std.specs.Prelude.{◌≡◌, ℕ, zero, suc, ◌+◌, ◌-◌, if◌then◌else◌, List, [], ◌∷◌, set, slice_get, Option, Some, None}
use Rattle.regression_state.specs.declared.states.State.{State}
use Rattle.bisect_core.specs.{Bisections.{Bisection, IsRecorded}, Turns.Turn}
use Rattle.history_model.specs.Jobs.{job_in, is_under_way}
use Rattle.follow_index.specs.declared.regressions.Followed.{Followed}

-- the one of this number among some regressions
abbrev pub followed_in : ℕ → List Followed → Option Followed
followed_in zero rs = None
followed_in (suc k) rs = slice_get rs k

-- the regression of this number came to a state, and every other one stays
pub record IsMovedTo (number : ℕ) (state : State) (before after : List Followed) : Type 0 where
  pub one : Followed
  pub there : followed_in number before ≡ Some one
  pub moved : after ≡ set before (number - 1) (record one { state = state })

-- one more turn is recorded of the bisection of this number, and every other one stays
pub record GoesOn (number : ℕ) (turn : Turn) (before after : List Bisection) : Type 0 where
  pub one : Bisection
  pub later : Bisection
  pub there : job_in number before ≡ Some one
  pub recorded : IsRecorded turn one later
  pub gone_on : after ≡ set before (number - 1) later

-- the numbers of the open ones among some bisections, which are numbered from this one on
abbrev pub open_from : ℕ → List Bisection → List ℕ
open_from number [] = []
open_from number (b ∷ bs) = if is_under_way b then number ∷ open_from (number + 1) bs else open_from (number + 1) bs

-- the numbers of all that are open, which rise
abbrev pub open_numbers : List Bisection → List ℕ
open_numbers js = open_from 1 js
