-- The setting that an index gives a metric: the last one that was set, else that of a metric for which none was.
use Rattle.std.specs.{Prelude.{ℕ, List, unwrap_or}, Map.lookup}
use Rattle.history_model.specs.{declared.setting.Setting.Setting, Penalties.default_setting}
use Rattle.publication_index.specs.Kept.{is_same}

abbrev pub given : List ℕ → List (List ℕ × Setting) → Setting
given metric entries = unwrap_or (lookup (λ (m : List ℕ). is_same metric m) entries) (default_setting metric)
