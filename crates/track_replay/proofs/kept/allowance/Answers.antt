use Rattle.std.proofs.Common.{ℤ, sym, ap, subst, ◌∙◌, Some, None}
use Rattle.history_model.specs.{declared.entries.Entry.Entry, Entries.entries_of}
use Rattle.track_replay.specs.Replays.{IsAllowance, tuning_fits}
use Rattle.track_replay.proofs.Replaying.{commit-fits, commit-refused, retraction-fits, retraction-refused, tuning-fits, tuning-refused}
use Rattle.track_replay.proofs.kept.allowance.Goals as goal

pub returns-then-commit_fits : goal.returns-then-commit_fits
returns-then-commit_fits c =
    let P : Entry → Type 0 = λ e. IsAllowance (entries_of c.args.track.now.history) e (Some 0) in
    subst P (sym c.in-Commit.is) (commit-fits (entries_of c.args.track.now.history) c.history_law.ensures.limits c.limits_law.ensures.commit c.in-Commit.number c.in-Commit.name (sym c.commit_fits.ensures ∙ c.if-commit_fits.true))

pub returns-then-retraction_fits : goal.returns-then-retraction_fits
returns-then-retraction_fits c =
    let P : Entry → Type 0 = λ e. IsAllowance (entries_of c.args.track.now.history) e (Some 0) in
    subst P (sym c.in-Retract.is) (retraction-fits (entries_of c.args.track.now.history) c.history_law.ensures.limits c.limits_law.ensures.retract c.in-Retract.run' (sym c.retraction_fits.ensures ∙ c.if-retraction_fits.true))

pub returns-else-commit_fits : goal.returns-else-commit_fits
returns-else-commit_fits c =
    let P : Entry → Type 0 = λ e. IsAllowance (entries_of c.args.track.now.history) e None in
    subst P (sym c.in-Commit.is) (commit-refused (entries_of c.args.track.now.history) c.history_law.ensures.limits c.in-Commit.number c.in-Commit.name (sym c.commit_fits.ensures ∙ c.if-commit_fits.false))

pub returns-else-retraction_fits : goal.returns-else-retraction_fits
returns-else-retraction_fits c =
    let P : Entry → Type 0 = λ e. IsAllowance (entries_of c.args.track.now.history) e None in
    subst P (sym c.in-Retract.is) (retraction-refused (entries_of c.args.track.now.history) c.history_law.ensures.limits c.in-Retract.run' (sym c.retraction_fits.ensures ∙ c.if-retraction_fits.false))

pub returns-then-tuning_fits : goal.returns-then-tuning_fits
returns-then-tuning_fits c =
    let P : Entry → Type 0 = λ e. IsAllowance (entries_of c.args.track.now.history) e (Some 0) in
    subst P (sym c.in-Tune.is) (tuning-fits (entries_of c.args.track.now.history) c.history_law.ensures.limits c.limits_law.ensures.tune c.tune_law.ensures.follows c.in-Tune.metric c.in-Tune.penalty c.in-Tune.length
    (ap (λ (z : ℤ). tuning_fits (entries_of c.args.track.now.history) c.in-Tune.metric z c.in-Tune.length) (sym c.get.ensures) ∙ sym c.tuning_fits.ensures ∙ c.if-tuning_fits.true))

pub returns-else-tuning_fits : goal.returns-else-tuning_fits
returns-else-tuning_fits c =
    let P : Entry → Type 0 = λ e. IsAllowance (entries_of c.args.track.now.history) e None in
    subst P (sym c.in-Tune.is) (tuning-refused (entries_of c.args.track.now.history) c.history_law.ensures.limits c.tune_law.ensures.follows c.in-Tune.metric c.in-Tune.penalty c.in-Tune.length
    (ap (λ (z : ℤ). tuning_fits (entries_of c.args.track.now.history) c.in-Tune.metric z c.in-Tune.length) (sym c.get.ensures) ∙ sym c.tuning_fits.ensures ∙ c.if-tuning_fits.false))
