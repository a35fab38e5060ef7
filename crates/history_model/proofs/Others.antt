-- A history with an entry more that is no commit, no run and no retraction keeps its limits, where it keeps those of steps, cuts
-- and open jobs.
use Rattle.std.{proofs.Common.{◌≡◌, ◌+◌, ◌≤◌, List, [], ◌∷◌, ◌++◌, length}, specs.Prelude.None, proofs.lemmas.List.length-append}
use Rattle.metric_table.specs.Limits.{most}
use Rattle.metric_table.specs.declared.limits.Limit.TheVariants as limit
use Rattle.history_model.specs.{declared.entries.Entry.Entry, Allowed.KeepsLimits, Commits.declaration, Jobs.{jobs, open_count}, Publications.cut_count}
use Rattle.history_model.{specs.Runs.{acceptance, retraction}, proofs.Chosen.chosen-skip}

pub limits-other : (h : List Entry) (e : Entry) → declaration (length h + 1) e ≡ None → acceptance (length h + 1) e ≡ None → retraction (length h + 1) e ≡ None
    → KeepsLimits h → length h + 1 ≤ most limit.Steps → cut_count (h ++ e ∷ []) ≤ most limit.Cuts → open_count (jobs (h ++ e ∷ [])) ≤ most limit.Jobs
    → KeepsLimits (h ++ e ∷ [])
limits-other h e no_commit no_run no_retraction keeps steps cuts under_way limit.Steps = rw length-append steps
limits-other h e no_commit no_run no_retraction keeps steps cuts under_way limit.Commits = rw (chosen-skip declaration h e no_commit) (keeps limit.Commits)
limits-other h e no_commit no_run no_retraction keeps steps cuts under_way limit.Machines = keeps limit.Machines
limits-other h e no_commit no_run no_retraction keeps steps cuts under_way limit.Cuts = cuts
limits-other h e no_commit no_run no_retraction keeps steps cuts under_way limit.Jobs = under_way
limits-other h e no_commit no_run no_retraction keeps steps cuts under_way limit.Runs = rw (chosen-skip acceptance h e no_run) (keeps limit.Runs)
limits-other h e no_commit no_run no_retraction keeps steps cuts under_way limit.RunSamples = rw (chosen-skip acceptance h e no_run) (keeps limit.RunSamples)
limits-other h e no_commit no_run no_retraction keeps steps cuts under_way limit.Samples = rw (chosen-skip acceptance h e no_run) (keeps limit.Samples)
limits-other h e no_commit no_run no_retraction keeps steps cuts under_way limit.Series = rw (chosen-skip acceptance h e no_run) (keeps limit.Series)
limits-other h e no_commit no_run no_retraction keeps steps cuts under_way limit.SeriesSamples =
    rw (chosen-skip acceptance h e no_run, chosen-skip retraction h e no_retraction) (keeps limit.SeriesSamples)
limits-other h e no_commit no_run no_retraction keeps steps cuts under_way limit.Positions =
    rw (chosen-skip acceptance h e no_run, chosen-skip retraction h e no_retraction) (keeps limit.Positions)
