use Rattle.std.{proofs.Common.{◌≡◌, List, sym, ap, ◌∙◌, arith}, specs.Prelude.{find, option_copied}, proofs.lemmas.Grind.common_steps}
use Rattle.history_model.specs.{declared.entries.Entry.Entry, Entries.entries_of, Runs.Series}
use Rattle.sample_store.specs.Runs.{names}
use Rattle.track_state.{specs.Touching.{named, sampled, touched_by}, proofs.Found.{metric-of, no-run, run-of}, proofs.Touching.{nothing, same-all, some-same}}
use Rattle.track_state.proofs.catching.touch_entry.Goals.{After-touch_named, After-touch_samples-in-Retract}
use Rattle.track_state.proofs.catching.touch_entry.Goals as goal

pub returns-in_default-of_name-clause-all : goal.returns-in_default-of_name-clause-all
returns-in_default-of_name-clause-all c = grind (arith, common_steps, find, option_copied, nothing, touched_by, no-run)

module _ (c : After-touch_samples-in-Retract) where
  agree-run : (s : Series) → sampled c.as_slice-in-Retract.result.now s ≡ touched_by (entries_of c.args.track.now.history) c.args.entry.now s
  agree-run s = grind (arith, common_steps, find, option_copied, sampled, run-of, touched_by)

module _ (c : After-touch_named) where
  agree-named : (s : Series) → named c.in-Tune.metric c.as_slice-in-Tune.result.now s ≡ touched_by (entries_of c.args.track.now.history) c.args.entry.now s
  agree-named s =
      let h : List Entry = entries_of c.args.track.now.history in
      ap (λ (xs : List Series). named c.in-Tune.metric xs s) c.as_slice-in-Tune.ensures ∙ metric-of h c.in-Tune.metric c.in_ok-names-in-Tune.names c.in_ok-names-in-Tune.ensures s
      ∙ sym (ap (λ (e : Entry). touched_by h e s) c.in-Tune.is)

pub returns-in-Some-clause-all : goal.returns-in-Some-clause-all
returns-in-Some-clause-all c = grind (arith, common_steps, same-all, sampled, touched_by, agree-run, goal.at.returns-in-Some-clause-all)

pub returns-in-Some-clause-some : goal.returns-in-Some-clause-some
returns-in-Some-clause-some c = grind (arith, common_steps, some-same, sampled, touched_by, agree-run, goal.at.returns-in-Some-clause-some)

pub returns-in_ok-names-in-Tune-clause-all : goal.returns-in_ok-names-in-Tune-clause-all
returns-in_ok-names-in-Tune-clause-all c =
    same-all (named c.in-Tune.metric c.as_slice-in-Tune.result.now) (touched_by (entries_of c.args.track.now.history) c.args.entry.now) c.args.step c.args.touched.now c.touch_named.new.touched
    c.touch_named.result (agree-named (goal.at.returns-in_ok-names-in-Tune-clause-all c).After-touch_named) c.touch_named.ensures.all

pub returns-in_ok-names-in-Tune-clause-some : goal.returns-in_ok-names-in-Tune-clause-some
returns-in_ok-names-in-Tune-clause-some c =
    some-same (named c.in-Tune.metric c.as_slice-in-Tune.result.now) (touched_by (entries_of c.args.track.now.history) c.args.entry.now) c.args.step c.args.touched.now c.touch_named.new.touched
    (agree-named (goal.at.returns-in_ok-names-in-Tune-clause-some c).After-touch_named) c.touch_named.ensures.some
