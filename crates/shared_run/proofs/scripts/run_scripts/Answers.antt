use Rattle.std.proofs.{Common.{Err, ◌≤◌, length, sym, subst, arith}, lemmas.Grind.common_steps}
use Rattle.metric_table.specs.{Limits.most, declared.limits.Limit.TheVariants.Machines}
use Rattle.keep_rows.specs.Loading.{Stored}
use Rattle.shared_run.{specs.Beginnings.Begins, specs.Crews.asked_by, proofs.AtLast.still-unasked, proofs.Beginning.first-different, proofs.Due.as-due}
use Rattle.shared_run.proofs.{Early.{no-machines, no-scripts}, Late.{ends-late, ok-apart}}
use Rattle.shared_run.proofs.scripts.run_scripts.Goals as goal

pub run_machines-requires-clause-different : goal.run_machines-requires-clause-different
run_machines-requires-clause-different g c κs within = grind (arith, common_steps, first-different)

pub returns-in-Err-clause-ends : goal.returns-in-Err-clause-ends
returns-in-Err-clause-ends g c = grind (arith, common_steps, no-machines, asked_by, still-unasked)

pub returns-in-Err-run_machines-clause-ends : goal.returns-in-Err-run_machines-clause-ends
returns-in-Err-run_machines-clause-ends g c = grind (arith, common_steps, ok-apart, no-scripts, asked_by, still-unasked)

pub returns-clause-ends : goal.returns-clause-ends
returns-clause-ends g c =
    let left = c.leave_journals-later.ensures in
    ends-late (record { files = g.F.Files; input = g.F.Input.Source; out = g.F.Output.Sink; keeper = g.K.Keeper }) g.N.Runner c.args.plan.now c.args.runners.now c.run_machines.new.runners
    (record { files = c.args.files.now; out = c.args.out.now; keeper = c.args.keeper.now })
    (record { files = c.run_machines.new.files; out = c.leave_journals-later.new.out; keeper = c.leave_journals-later.new.keeper })
    c.in-Ok-run_machines.left.0.items c.leave_journals-later.result c.deciding_stop.result
    (record {
      tracks = c.states.inside.states.items;
      version = c.states.inside.version;
      begins = subst (Begins g.K.Keeper c.args.plan.now c.args.keeper.now) (sym c.states.view_is) c.in-Ok.ensures.begins;
      few = subst (λ (began : Stored). length began.machines ≤ most Machines) (sym c.states.view_is) c.in-Ok.ensures.few;
      loaded = c.first_machines.new.keeper;
      was = c.in-Ok.ensures.started (λ same. ok-apart same);
      rows = c.in-Ok.ensures.rows;
      counts = c.in-Ok.ensures.counts;
      journals = c.in-Ok-run_machines.left.1.items;
      full = c.in-Ok-run_machines.left.2;
      ran = c.in-Ok-run_machines.ensures.ran;
      wanting = left.wanting;
      wrote = rw (sym c.deref-2.ensures.value) left.wrote;
      added = rw (sym c.deref.ensures.value, sym c.deref-2.ensures.value, sym c.store.ensures) left.added;
      same_rows = rw (sym c.deref.ensures.value) left.kept;
      unnamed = rw (sym c.store.ensures) left.unnamed;
      started = left.started;
      rose = rw (sym c.store.ensures) left.rose;
      decides = rw (sym c.deref-3.ensures.value) c.deciding_stop.ensures;
    })
    (record { runs = c.crew_law.ensures.runs; fits = c.run_law.ensures.fits; quiet = c.run_law.ensures.quiet })
    c.requires.scripts c.requires.enough c.requires.new

-- what is due comes
pub returns-in-Err-clause-complete : goal.returns-in-Err-clause-complete
returns-in-Err-clause-complete g c =
    as-due (record { files = g.F.Files; input = g.F.Input.Source; out = g.F.Output.Sink; keeper = g.K.Keeper }) c.args.plan.now
    (record { files = c.args.files.now; out = c.args.out.now; keeper = c.args.keeper.now })
    (record { files = c.args.files.now; out = c.args.out.now; keeper = c.first_machines.new.keeper })
    c.reading_law.ensures.one c.rows_law.ensures (asked_by g.N.Runner c.args.runners.now c.args.runners.now) (Err c.in-Err.why) (returns-in-Err-clause-ends g c)

pub returns-clause-complete : goal.returns-clause-complete
returns-clause-complete g c =
    as-due (record { files = g.F.Files; input = g.F.Input.Source; out = g.F.Output.Sink; keeper = g.K.Keeper }) c.args.plan.now
    (record { files = c.args.files.now; out = c.args.out.now; keeper = c.args.keeper.now })
    (record { files = c.run_machines.new.files; out = c.leave_journals-later.new.out; keeper = c.leave_journals-later.new.keeper })
    c.reading_law.ensures.one c.rows_law.ensures (asked_by g.N.Runner c.args.runners.now c.run_machines.new.runners) c.deciding_stop.result (returns-clause-ends g c)
