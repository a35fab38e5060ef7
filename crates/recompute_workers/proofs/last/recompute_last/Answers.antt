use Rattle.std.{proofs.Common.{◌≡◌, ℕ, ◌+◌, true, List, take, [], ◌∷◌, ◌++◌, sym, ap, subst, ◌∙◌, arith}, specs.Prelude.{All, Contains}}
use Rattle.std.proofs.lemmas.{List.{take_all, take_more}, List.Elements.{All-contains, All-push, All-weaker}, Grind.common_steps}
use Rattle.history_model.specs.{declared.entries.Author.TheVariants.Recompute, Allowed.Legal, Entries.entries_of, Runs.{Series, is_known}}
use Rattle.track_model.specs.Tracks.{Track}
use Rattle.track_room.specs.Work.{history_of}
use Rattle.recompute_workers.{specs.Quiet.IsQuiet, proofs.Current.current-of, proofs.Growing.{adds-more, quiet-more}}
use Rattle.recompute_workers.proofs.last.recompute_last.Goals as goal

pub returns-in_err-recompute_series-clause-added : goal.returns-in_err-recompute_series-clause-added
returns-in_err-recompute_series-clause-added c =
    adds-more (Recompute 1) c.args.work.now.track c.loop-name.work.track c.recompute_series.new.work.track c.loop-name.invariant.added c.recompute_series.ensures.added

pub returns-in_err-recompute_series-clause-free : goal.returns-in_err-recompute_series-clause-free
returns-in_err-recompute_series-clause-free c = c.recompute_series.ensures.free c.loop-name.invariant.free

pub loop-name-preserved : goal.loop-name-preserved
loop-name-preserved c =
    let names : List Series = c.as_slice-name-items.result.now in
    let i : ℕ = c.loop-name.name-index in
    let x : Series = c.name-item.result in
    let b : Track = c.loop-name.work.track in
    let d : Track = c.recompute_series.new.work.track in
    let legal = subst (λ (t : Track). Legal (entries_of t.history)) c.track-in-loop-name.ensures c.history_law.ensures.legal in
    let quiet : (s : Series) → IsQuiet (entries_of b.history) s → IsQuiet (entries_of d.history) s =
    quiet-more c.growth_law.ensures.acceptances c.growth_law.ensures.retractions c.publication_law.ensures.cuts c.setting_law.ensures.stays c.touch_law.ensures.last c.touch_law.ensures.known c.stale_law.ensures
    (Recompute 1) b d legal c.recompute_series.ensures.added in
    let more : take (i + 1) names ≡ take i names ++ x ∷ [] = take_more names i x c.loop-name-test.true ∙ ap (λ (y : Series). take i names ++ y ∷ []) (sym c.name-item.is) in
    record {
      added = adds-more (Recompute 1) c.args.work.now.track b d c.loop-name.invariant.added c.recompute_series.ensures.added;
      known = grind (arith, common_steps);
      free = c.recompute_series.ensures.free c.loop-name.invariant.free;
      quiet = subst (λ (ns : List Series). All (λ (s : Series). IsQuiet (entries_of d.history) s) ns) (sym more)
          (All-push (λ (s : Series). IsQuiet (entries_of d.history) s) (take i names) x
          (All-weaker (λ (s : Series). IsQuiet (entries_of b.history) s) (λ (s : Series). IsQuiet (entries_of d.history) s) quiet (take i names) c.loop-name.invariant.quiet)
          c.in_ok-recompute_series.ensures.quiet);
    }

pub returns-clause-quiet : goal.returns-clause-quiet
returns-clause-quiet c s known =
    let names : List Series = c.as_slice-name-items.result.now in
    let h = history_of c.loop-name.work in
    let first : is_known s (entries_of c.track.result.now.history) ≡ true = grind (arith, common_steps) in
    let has : Contains names s = subst (λ (ns : List Series). Contains ns s) (sym c.as_slice-name-items.ensures) ((c.in_ok-names.ensures s).0 first) in
    let all : All (λ (t : Series). IsQuiet h t) names =
    subst (λ (ns : List Series). All (λ (t : Series). IsQuiet h t) ns) (take_all c.loop-name.name-index names c.loop-name-test.false) c.loop-name.invariant.quiet in
    current-of h s known (All-contains (λ (t : Series). IsQuiet h t) names s all has)
