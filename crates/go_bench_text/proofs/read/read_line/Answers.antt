use Rattle.std.proofs.Common.{sym, ◌∙◌}
use Rattle.go_bench_text.proofs.PkgInForce.{pkg_kept, begins_not_pkg}
use Rattle.go_bench_text.proofs.read.read_line.Goals as goal

pub returns-then-begins-clause-pkg : goal.returns-then-begins-clause-pkg
returns-then-begins-clause-pkg c before e = pkg_kept before c.args.line.now (begins_not_pkg c.args.line.now (sym c.begins.ensures ∙ c.if-begins.true)) ∙ e
