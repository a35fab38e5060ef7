use Rattle.std.proofs.{Common.{◌≤◌, [], ◌++◌, length, sym, subst, arith}, lemmas.Bool.both_ways}
use Rattle.commit_lines.{specs.Lines.MayGo, specs.HasRead.kept_by, proofs.Fronts.shows_more, proofs.PieceSteps.cause, proofs.ReaderSteps.not_open}
use Rattle.line_pieces.specs.declared.stop.{Refusal.TheVariants.Bad, Stop.TheVariants.Refused}
use Rattle.commit_lines.proofs.reader.ReaderLineReader.may_go_on.Goals as goal

pub returns-clause-err : goal.returns-clause-err
returns-clause-err c read rest has few =
    let short : length c.args.self.now.line.items ≤ 4_096 = omega (arith, c.len.ensures, c.args.self.now.line.ok) in
    cause (read ++ []) rest (Refused Bad c.number.result) few
    (shows_more read [] (Refused Bad c.number.result)
    (not_open read (kept_by c.args.self.now) c.number.result c.number.ensures short
    (λ may. both_ways c.in_ok-may_go.field-0 c.if-branch.false (c.in_ok-may_go.ensures.1 (subst (MayGo c.args.self.now.names.keys) (sym c.deref.ensures.value) may))) has))
