use Rattle.std.proofs.Common.{ap, ◌∙◌}
use Rattle.lnt_report.{specs.Runs.Report, proofs.Written.run_written}
use Rattle.lnt_report.proofs.write.put_run.Goals as goal

pub returns : goal.returns
returns c =
    run_written c.args.run.now c.as_str.result.now c.as_str-2.result.now c.as_slice.result.now _ _ _ _ _ _ _ _
    (c.as_str.ensures ∙ ap (λ (r : Report). r.machine) c.run.view_is)
    (c.as_str-2.ensures ∙ ap (λ (r : Report). r.commit) c.run.view_is)
    (c.as_slice.ensures ∙ ap (λ (r : Report). r.samples) c.run.view_is)
    c.in_ok-put_bytes.ensures c.in_ok-put_quoted.ensures c.in_ok-put_bytes-2.ensures c.in_ok-put_quoted-2.ensures
    c.in_ok-put_bytes-3.ensures c.in_ok-put_tests.ensures c.in_ok-put_bytes-4.ensures
