-- Two settings are one where their penalties and their least lengths are.
use Rattle.std.proofs.{Common.{◌≡◌, true, arith}, lemmas.Grind.common_steps}
use Rattle.history_model.specs.declared.setting.Setting.{Setting}
use Rattle.track_model.specs.Tracks.{is_setting}

pub same-setting : (a b : Setting) → a.penalty ≡ b.penalty → a.length ≡ b.length → a ≡ b
same-setting a b penalty long = λ i. record { penalty = penalty i; length = long i }

pub setting-is : (a b : Setting) → is_setting a b ≡ true → a ≡ b
setting-is a b is = grind (arith, common_steps)
