use Rattle.std.proofs.Common.{◌≡◌, ◌≤◌, ℕ, inr, List, length, refl, sym, ap, subst, ◌∙◌, arith}
use Rattle.commit_lines.specs.Reading.{AreNamesOfInput}
use Rattle.track_outside.specs.Calls.{Took, FailedIn}
use Rattle.hunt_command.{specs.Endings.CameTo, proofs.Ends.{untouched, nothing_done}, proofs.command.hunt_commits.Given.Over}
use Rattle.hunt_command.proofs.command.hunt_commits.Goals.{After-as_slice-names, In-Ok-hunt}
use Rattle.hunt_command.proofs.command.hunt_commits.Goals as goal

-- the names of the input, as a slice
names_are : (g : Over) (c : After-as_slice-names g) → AreNamesOfInput (g.I.Source.left c.args.input.now) c.as_slice-names.result.now
names_are g c = subst (AreNamesOfInput (g.I.Source.left c.args.input.now)) (sym c.as_slice-names.ensures) c.in-Ok.ensures.names

-- what the hunt of them came to
came : (g : Over) (c : In-Ok-hunt g)
    → CameTo g.A.Runner (g.I.Source.left c.args.input.now) c.args.test.now c.args.width c.args.runners.now c.hunt.new.runners c.as_slice-names.result.now c.in-Ok-hunt.search
came g c =
    let many : 2 ≤ length c.as_slice-names.result.now = omega (arith, c.if-names-lt2.false) in
    let names : AreNamesOfInput (g.I.Source.left c.args.input.now) c.as_slice-names.result.now =
    subst (AreNamesOfInput (g.I.Source.left c.args.input.now)) (sym c.as_slice-names.ensures) c.in-Ok.ensures.names in
    record { names_are = names; many = many; hunted = c.in-Ok-hunt.ensures.hunted }

pub returns-in-Err-clause-hunt : goal.returns-in-Err-clause-hunt
returns-in-Err-clause-hunt g c =
    nothing_done g.O.Sink g.A.Runner (g.I.Source.left c.args.input.now) c.args.test.now c.args.width c.args.out.now c.args.runners.now c.in-Err.stop

pub returns-then-names-lt2-clause-input : goal.returns-then-names-lt2-clause-input
returns-then-names-lt2-clause-input g c = record {
  cause = (omega (arith, c.if-names-lt2.true), (c.as_slice-names.result.now, names_are g (goal.at.returns-then-names-lt2-clause-input g c).After-as_slice-names, refl));
  whole = λ is. c.in-Ok.ensures.whole;
  few = c.read_commits.ensures.few;
  counts = c.read_commits.ensures.counts;
}

pub hunt-requires-clause-names : goal.hunt-requires-clause-names
hunt-requires-clause-names g c κs within =
    let same : length c.as_slice-names.result.now ≡ _ = ap (λ (ns : List (List ℕ)). length ns) c.as_slice-names.ensures in
    (omega (arith, c.if-names-lt2.false), omega (arith, same, c.in-Ok.ensures.count))

pub returns-in_default-clause-hunt : goal.returns-in_default-clause-hunt
returns-in_default-clause-hunt g c =
    let names = names_are g (goal.at.returns-in_default-clause-hunt g c).After-as_slice-names in
    (untouched g.O.Sink c.args.out.now, inr (c.as_slice-names.result.now, names, c.hunt.ensures.asked))

pub returns-in_default-text_of-clause-hunt : goal.returns-in_default-text_of-clause-hunt
returns-in_default-text_of-clause-hunt g c =
    let names = names_are g (goal.at.returns-in_default-text_of-clause-hunt g c).After-as_slice-names in
    (untouched g.O.Sink c.args.out.now, inr (c.as_slice-names.result.now, names, c.hunt.ensures.asked))

pub returns-in-Ok-put_all-clause-hunt : goal.returns-in-Ok-put_all-clause-hunt
returns-in-Ok-put_all-clause-hunt g c = (
  c.as_slice-names.result.now,
  c.in-Ok-hunt.search,
  came g (goal.at.returns-in-Ok-put_all-clause-hunt g c).In-Ok-hunt,
  subst (Took g.O.Sink c.args.out.now c.put_all.new.sink) (c.deref.ensures.value ∙ c.in-Ok-text_of.ensures) c.in-Ok-put_all.ensures.ok,
)

pub returns-clause-hunt : goal.returns-clause-hunt
returns-clause-hunt g c = (
  c.as_slice-names.result.now,
  c.in-Ok-hunt.search,
  came g (goal.at.returns-clause-hunt g c).In-Ok-hunt,
  subst (FailedIn g.O.Sink c.args.out.now c.put_all.new.sink) (c.deref.ensures.value ∙ c.in-Ok-text_of.ensures) c.in-Err-put_all.ensures.err,
)
