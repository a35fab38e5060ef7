use Rattle.std.proofs.Common.{inl, refl, subst}
use Rattle.commit_lines.{specs.HasRead.IsKind, proofs.Judged.neither}
use Rattle.commit_lines.proofs.reader.add_line.Goals as goal

pub returns-in-Skipped-clause-ok : goal.returns-in-Skipped-clause-ok
returns-in-Skipped-clause-ok c = inl (subst (IsKind c.args.line.now) c.in-Skipped.is c.in_ok-line_kind.ensures, refl)

pub returns-in-Bad-clause-err : goal.returns-in-Bad-clause-err
returns-in-Bad-clause-err c =
    let kind = subst (IsKind c.args.line.now) c.in-Bad.is c.in_ok-line_kind.ensures in
    (refl, neither c.args.names.now.keys c.args.line.now kind.0 kind.1)
