use Rattle.json_text.proofs.Texts.{one_tree}
use Rattle.json_text.proofs.reading.one_tree_law.Goals as goal

pub returns : goal.returns
returns c = one_tree c.args.bytes.now
