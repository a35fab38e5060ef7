use Rattle.json_text.proofs.Exact.{one_answer}
use Rattle.json_text.proofs.reading.one_answer_law.Goals as goal

pub returns : goal.returns
returns c = one_answer c.args.bytes.now
