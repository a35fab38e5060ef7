-- The setting of a metric by which a history segments: the last one that was set, else the penalty of the table and length 1.
use Rattle.std.specs.{Prelude.{◌≡◌, ℕ, ℤ, ◌+◌, List, [], ◌∷◌, ◌++◌, length, bytes_eq, unwrap_or, if◌then◌else◌, Option, Some, None}, List.last_or}
use Rattle.metric_table.specs.Table.{row_of, IsPenalty}
use Rattle.segment_model.specs.Limits.{IsLength}
use Rattle.history_model.specs.{declared.entries.Entry.Entry, declared.entries.Entry.TheVariants.Tune, declared.setting.Setting.Setting, Entries.chosen}

-- the setting that an entry gives the metric
abbrev pub set_for : List ℕ → ℕ → Entry → Option Setting
set_for metric step (Tune other penalty len) = if bytes_eq other metric then Some (record { penalty = penalty; length = len }) else None
set_for metric step e = None

-- the setting of a metric for which none was set
abbrev pub default_setting : List ℕ → Setting
default_setting metric = record { penalty = (row_of metric).default_penalty; length = 1 }

-- the metric's setting
abbrev pub setting_of : List ℕ → List Entry → Setting
setting_of metric h = unwrap_or (last_or None (chosen (set_for metric) h)) (default_setting metric)

-- its penalty of a cut
abbrev pub penalty_of : List ℕ → List Entry → ℤ
penalty_of metric h = (setting_of metric h).penalty

-- its least length of a segment
abbrev pub length_of : List ℕ → List Entry → ℕ
length_of metric h = (setting_of metric h).length

-- a penalty from 0 to 10^36, and a least length from 1 to 64
abbrev pub IsSetting : Setting → Type 0
IsSetting setting = IsPenalty setting.penalty × IsLength setting.length

-- an entry that sets the metric gives it this setting
abbrev pub SettingIsSet : Type 0
SettingIsSet =
    (h : List Entry) (e : Entry) (metric : List ℕ) (setting : Setting) → set_for metric (length h + 1) e ≡ Some setting
    → setting_of metric (h ++ e ∷ []) ≡ setting

-- every other entry leaves it
abbrev pub SettingStays : Type 0
SettingStays =
    (h : List Entry) (e : Entry) (metric : List ℕ) → set_for metric (length h + 1) e ≡ None → setting_of metric (h ++ e ∷ []) ≡ setting_of metric h
