use Rattle.std.proofs.{lemmas.Result.err_from_is_err_and, Common.arith, lemmas.Grind.common_steps}
use Rattle.commit_lines.{specs.HasRead.kept_by, proofs.ReaderSteps.accepted_whole}
use Rattle.commit_lines.proofs.reader.Reader.finish.Goals as goal

pub returns-clause-ok : goal.returns-clause-ok
returns-clause-ok c read has = accepted_whole read (kept_by c.end_line.new.self) (c.in_ok-end_line.ensures.ok read has)

pub returns-in_err-end_line-clause-err : goal.returns-in_err-end_line-clause-err
returns-in_err-end_line-clause-err c = grind (arith, common_steps, err_from_is_err_and)
