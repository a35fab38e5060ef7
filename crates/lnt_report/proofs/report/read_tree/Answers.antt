use Rattle.std.proofs.Common.{map}
use Rattle.json_text.specs.View.{tree_of, entry_of}
use Rattle.lnt_report.proofs.Answers.{sound}
use Rattle.lnt_report.proofs.report.read_tree.Goals as goal

pub read_top-requires : goal.read_top-requires
read_top-requires c = sound (tree_of c.args.value.now) (map entry_of c.in-Object.top.now) c.in-Object.ensures c.in_ok-check_rules.ensures
