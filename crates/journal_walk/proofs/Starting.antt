-- What a segmentation begins with, and a state whose table was taken.
use Rattle.std.proofs.{Common.{◌≡◌, ◌==◌, Bool, cond, refl, Some, arith}, lemmas.Grind.common_steps}
use Rattle.std.specs.FinSet as set
use Rattle.history_model.specs.{declared.setting.Setting.Setting, Entries.entries_of, Penalties.setting_of, Runs.Series}
use Rattle.track_model.specs.Tracks.{Track, base_of, with_home, with_taken}
use Rattle.machine_state.specs.{State.BeginsWith, declared.base.Base.Base}
use Rattle.track_step.specs.TrackSeriesBegun.{Begins}

either : (b : Bool) (t u : Track) → u.machine ≡ t.machine → u.history ≡ t.history → ((cond b t u).machine ≡ t.machine) × ((cond b t u).history ≡ t.history)
either b t u machine history = grind (arith, common_steps)

-- its machine and its history are the same
pub still : (t : Track) (s : Series) → ((with_taken s t).machine ≡ t.machine) × ((with_taken s t).history ≡ t.history)
still t s = either (base_of t s == 0) t (with_home (set.remove t.home s) t) refl refl

-- the table that was taken is that of its positions at the present setting
pub tabled : (t : Track) (s : Series) (x : Setting) (b : Base) → x ≡ setting_of s.metric (entries_of t.history) → BeginsWith t s b
    → Begins 0 b.points x.penalty x.length (Some b.table)
tabled t s x b given begun = grind (arith, common_steps)
