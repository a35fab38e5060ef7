use Rattle.std.{proofs.Common.take, specs.Prelude.All}
use Rattle.history_model.specs.{declared.entries.Author.TheVariants.Recompute, Runs.Series}
use Rattle.track_room.specs.Work.{IsUntaken, history_of}
use Rattle.recompute_workers.specs.{Quiet.IsQuiet, Recomputing.AddsPublications, Stays.SameKnown}
use Rattle.recompute_workers.proofs.last.recompute_last.Given as goal

-- publications were added, by which no other series became known, nothing is taken, and the series so far are quiet
abbrev pub invariant-loop-name : goal.invariant-loop-name
invariant-loop-name l = record {
  added : AddsPublications (Recompute 1) l.fn.work.track l.work.track;
  known : SameKnown (history_of l.fn.work) (history_of l.work);
  free : IsUntaken l.work;
  quiet : All (λ (s : Series). IsQuiet (history_of l.work) s) (take l.name-index l.name-items);
}
