use Rattle.std.proofs.{Common.{◌≡◌, ℕ, List, ap, subst, ◌∙◌, arith}, lemmas.Grind.common_steps}
use Rattle.worker_crew.specs.{Runs.{BisectsLast, RecomputesLast}, Whole.tallies, Work.Work, Sights.tracks_of}
use Rattle.shared_run.{specs.Crews.word_of, proofs.AtLast.{bisects-long, both-back, first-true, recomputes-long, second-true, written-back}}
use Rattle.shared_run.proofs.finishing.finish.Goals as goal

pub returns-clause-done : goal.returns-clause-done
returns-clause-done g c =
    let plan = c.args.plan.now in
    let began = tallies g.N.Runner c.args.runners.now in
    let ended = tallies g.N.Runner c.finish_jobs-over.new.runners in
    let left : List Work = c.args.left.items in
    let made : List Work = c.finish_series-done.new.states in
    let last : List Work = c.finish_jobs-over.new.states in
    let recomputes : RecomputesLast plan.recompute (tracks_of left) (tracks_of made) = grind (arith, common_steps) in
    let one = recomputes-long plan.recompute (tracks_of left) (tracks_of made) recomputes in
    let lent = c.deref_mut-2.ensures.value ∙ written-back c.args.left.len made left c.args.left.ok.0 one in
    let asked : BisectsLast plan.bisect (word_of plan) (tracks_of c.deref_mut-2.result.now) (tracks_of last) began ended =
    subst (λ (n : ℕ). BisectsLast n (word_of plan) (tracks_of c.deref_mut-2.result.now) (tracks_of last) began ended) c.bisect.ensures
    (subst (λ (w : List ℕ). BisectsLast c.bisect.result w (tracks_of c.deref_mut-2.result.now) (tracks_of last) began ended) c.word_in.ensures c.finish_jobs-over.ensures.bisected) in
    let bisects : BisectsLast plan.bisect (word_of plan) (tracks_of made) (tracks_of last) began ended = rw lent at asked in
    let two = bisects-long plan.bisect (word_of plan) (tracks_of made) (tracks_of last) began ended bisects in
    let journals : c.leave_each.new.left.items ≡ tracks_of last = c.leave_each.ensures ∙ ap tracks_of (both-back c.args.left.len left made last c.args.left.ok.0 one two) in
    let same = c.recompute.ensures in
    let alike = c.bisect.ensures in
    record {
      main = record { published = tracks_of made; recomputes = recomputes; bisects = rw journals bisects };
      series = λ so many. c.finish_series-done.ensures.quiet (first-true c.finish_series-done.result c.finish_jobs-over.result c.both.result c.both.ensures so) (omega (arith, many, same));
      jobs = λ so many. rw journals (c.finish_jobs-over.ensures.quiet (second-true c.finish_series-done.result c.finish_jobs-over.result c.both.result c.both.ensures so) (omega (arith, many, alike)));
    }
