-- What becomes of claims where the history grows.
use Rattle.std.specs.Prelude.{◌≡◌, nat_lt, if◌then◌else◌}
use Rattle.history_model.specs.Runs.{Series}
use Rattle.touch_index.specs.Marks.{touched_claim}
use Rattle.touch_model.specs.Touches.{last_touch}
use Rattle.track_state.specs.Work.{Work, claim_on, history_of}

-- the claim on each series stays, but that one which a limit left ends where the series was touched; and those on jobs stay
pub record KeepsClaims (old new : Work) : Type 0 where
  pub series : (s : Series) → claim_on s new
      ≡ (if nat_lt (last_touch (history_of old) s) (last_touch (history_of new) s)
      then touched_claim (claim_on s old) else claim_on s old)
  pub jobs : new.jobs ≡ old.jobs
