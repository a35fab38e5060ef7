-- A history with a retraction more keeps its limits.
use Rattle.std.proofs.{Common.{ℕ, ◌+◌, ◌≤◌, List, [], ◌∷◌, ◌++◌, length, refl, le_trans}, lemmas.List.length-append}
use Rattle.metric_table.specs.Limits.{most}
use Rattle.metric_table.specs.declared.limits.Limit.TheVariants as limit
use Rattle.history_model.specs.{declared.entries.Entry.Entry, Allowed.KeepsLimits, Commits.declaration, Publications.publication}
use Rattle.history_model.specs.declared.entries.Entry.TheVariants as entry
use Rattle.history_model.{specs.Runs.{Retraction, acceptance, acceptances, retraction, retractions, known_series}, proofs.Chosen.{chosen-push, chosen-skip}}
use Rattle.history_model.proofs.{Standings.jobs-stay, Fewer.{greatest-fewer, brought-fewer, positions-fewer}}

-- a retraction leaves what is counted but steps, and fewer live samples and positions
pub limits-retract : (h : List Entry) (run : List ℕ) → KeepsLimits h → length h + 1 ≤ most limit.Steps → KeepsLimits (h ++ entry.Retract run ∷ [])
limits-retract h run keeps steps limit.Steps = rw length-append steps
limits-retract h run keeps steps limit.Commits = rw (chosen-skip declaration h (entry.Retract run) refl) (keeps limit.Commits)
limits-retract h run keeps steps limit.Machines = keeps limit.Machines
limits-retract h run keeps steps limit.Cuts = rw (chosen-skip publication h (entry.Retract run) refl) (keeps limit.Cuts)
limits-retract h run keeps steps limit.Jobs = rw (jobs-stay h (entry.Retract run) refl (λ n. refl)) (keeps limit.Jobs)
limits-retract h run keeps steps limit.Runs = rw (chosen-skip acceptance h (entry.Retract run) refl) (keeps limit.Runs)
limits-retract h run keeps steps limit.RunSamples = rw (chosen-skip acceptance h (entry.Retract run) refl) (keeps limit.RunSamples)
limits-retract h run keeps steps limit.Samples = rw (chosen-skip acceptance h (entry.Retract run) refl) (keeps limit.Samples)
limits-retract h run keeps steps limit.Series = rw (chosen-skip acceptance h (entry.Retract run) refl) (keeps limit.Series)
limits-retract h run keeps steps limit.SeriesSamples =
    let r : Retraction = record { step = length h + 1; run = run } in
    rw (chosen-skip acceptance h (entry.Retract run) refl, chosen-push retraction h (entry.Retract run))
    (le_trans (greatest-fewer _ _ (λ s. brought-fewer s (retractions h) r (acceptances h)) (known_series h)) (keeps limit.SeriesSamples))
limits-retract h run keeps steps limit.Positions =
    let r : Retraction = record { step = length h + 1; run = run } in
    rw (chosen-skip acceptance h (entry.Retract run) refl, chosen-push retraction h (entry.Retract run))
    (le_trans (greatest-fewer _ _ (λ s. positions-fewer s (retractions h) r (acceptances h)) (known_series h)) (keeps limit.Positions))
