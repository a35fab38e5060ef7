use Rattle.std.{proofs.Common.{◌≡◌, ap, subst, Option, Some, None, sym, List, arith}, specs.Prelude.IfSome, proofs.lemmas.Grind.common_steps}
use Rattle.history_model.specs.{declared.entries.Entry.Entry, Allowed.Legal}
use Rattle.track_state.specs.{Work.{Work, bare, history_of, series_of}, declared.taking.TakenSeries.TakenSeries, Taking.Takes}
use Rattle.track_state.proofs.Snapped.{bare-taken, entries-taken}
use Rattle.track_room.{specs.Taking.{IsTaken, TakesSeries}, proofs.Visiting.{does-or-stays, if-ok, stays-if}}
use Rattle.track_room.proofs.taking.StaleSeriesTake.take.Goals as goal

takes-stays : (w u : Work) (found : Option TakenSeries) → Takes w found u → bare u.track ≡ bare w.track
takes-stays w u None is = ap bare is.1.track
takes-stays w u (Some x) is = bare-taken w.track (series_of x.key) u.track is.track

known : (w u : Work) (found : Option TakenSeries) → TakesSeries found w u → IfSome found (IsTaken (history_of u))
known w u None is = tt
known w u (Some x) is =
    let same : history_of w ≡ history_of u = sym (entries-taken w.track (series_of x.key) u.track is.0.track) in
    (w.track, same, is.0.snapshot, subst (λ (h : List Entry). Legal h) same is.1)

pub returns : goal.returns
returns c = grind (arith, common_steps, stays-if, takes-stays, if-ok, does-or-stays, known)
