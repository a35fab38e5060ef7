-- A history with a setting more keeps its limits, and gives the metric that setting.
use Rattle.std.{proofs.Common.{◌≡◌, ℕ, ℤ, ◌+◌, ◌≤◌, List, [], ◌∷◌, ◌++◌, length, refl, ap, Option, arith}, specs.Prelude.{option_to_list, unwrap_or, Some, None}}
use Rattle.std.{specs.List.last_or, proofs.lemmas.Grind.common_steps}
use Rattle.metric_table.specs.Limits.{most}
use Rattle.metric_table.specs.declared.limits.Limit.TheVariants as limit
use Rattle.history_model.{specs.declared.entries.Entry.Entry, specs.declared.setting.Setting.Setting, specs.Allowed.KeepsLimits, proofs.Standings.jobs-stay}
use Rattle.history_model.specs.declared.entries.Entry.TheVariants as entry
use Rattle.history_model.{specs.Penalties.{set_for, default_setting, setting_of}, proofs.Chosen.{chosen-push, chosen-skip}, proofs.Others.limits-other}

module _ (h : List Entry) (metric : List ℕ) (penalty : ℤ) (len : ℕ) where
  abbrev e : Entry
  e = entry.Tune metric penalty len

  pub limits-tune : KeepsLimits h → length h + 1 ≤ most limit.Steps → KeepsLimits (h ++ e ∷ [])
  limits-tune keeps steps = grind (arith, common_steps, limits-other, h, e, chosen-skip, jobs-stay)

-- ---- the setting of a metric
pub last-push : {A : Type 0} (o : Option A) (xs : List A) (x : A) → last_or o (xs ++ x ∷ []) ≡ Some x
last-push o [] x = refl
last-push o (y ∷ ys) x = last-push (Some y) ys x

pub setting-set : (h : List Entry) (e : Entry) (metric : List ℕ) (setting : Setting) → set_for metric (length h + 1) e ≡ Some setting → setting_of metric (h ++ e ∷ []) ≡ setting
setting-set h e metric setting sets = grind (arith, common_steps, set_for, unwrap_or, default_setting, chosen-push, option_to_list, last-push)

pub setting-stays : (h : List Entry) (e : Entry) (metric : List ℕ) → set_for metric (length h + 1) e ≡ None → setting_of metric (h ++ e ∷ []) ≡ setting_of metric h
setting-stays h e metric none = ap (λ xs. unwrap_or (last_or None xs) (default_setting metric)) (chosen-skip (set_for metric) h e none)
