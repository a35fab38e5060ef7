-- What is quiet stays so where a publication is added.
use Rattle.std.proofs.{Common.{◌≡◌, ◌+◌, ◌≤◌, Bool, false, ◌||◌, List, [], ◌∷◌, ◌++◌, length, ◌∙◌, arith}, lemmas.Grind.common_steps, lemmas.List.length-append}
use Rattle.metric_table.specs.declared.limits.Limit.TheVariants as limit
use Rattle.history_model.specs.{declared.entries.Entry.Entry, declared.entries.Entry.TheVariants.Publish, Penalties.SettingStays, Positions.positions}
use Rattle.history_model.specs.{declared.publication.Publication.Publication, Allowed.Allowed, Laws.{AcceptancesGrow, CutsGrow, RetractionsGrow}}
use Rattle.history_model.specs.Runs.{Series, is_known}
use Rattle.touch_model.specs.{Laws.{KnownGrows, LatestStays, TouchesGrow}, Stale.is_stale, Touches.last_touch}
use Rattle.worker_model.specs.Quiet.{HasAllSteps, WouldPassCuts}
use Rattle.recompute_workers.specs.Quiet.{IsQuiet}

or-false : (b : Bool) → (b || false) ≡ b
or-false b = grind (arith, common_steps)

module _ (accept : AcceptancesGrow) (retract : RetractionsGrow) (cuts : CutsGrow) (setting : SettingStays) (grow : TouchesGrow) (known : KnownGrows) (latest : LatestStays)
    (h : List Entry) (p : Publication) (allowed : Allowed h (Publish p)) (s : Series) where
  pub same-known : is_known s (h ++ Publish p ∷ []) ≡ is_known s h
  same-known = known h (Publish p) s ∙ or-false (is_known s h)

  pub same-touch : last_touch (h ++ Publish p ∷ []) s ≡ last_touch h s
  same-touch = grow h (Publish p) s

  stale-stays : is_stale h s ≡ false → is_stale (h ++ Publish p ∷ []) s ≡ false
  stale-stays fresh = grind (arith, common_steps)

  same-positions : positions (h ++ Publish p ∷ []) s ≡ positions h s
  same-positions = grind (arith, common_steps)

  passes-stays : WouldPassCuts h s → WouldPassCuts (h ++ Publish p ∷ []) s
  passes-stays would = grind (arith, common_steps)

  no-room : HasAllSteps h → ⊥
  no-room all =
      let size = length-append h (Publish p ∷ []) in
      let few : length (h ++ Publish p ∷ []) ≤ 1_048_576 = allowed.1 limit.Steps in
      let most : length h ≡ 1_048_576 = all in
      absurd (omega (arith, size, few, most))

  pub quiet-stays : IsQuiet h s → IsQuiet (h ++ Publish p ∷ []) s
  quiet-stays quiet = grind (arith, common_steps, stale-stays, no-room, passes-stays)
