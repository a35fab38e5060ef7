use Rattle.request_words.proofs.OneItem.{one_item}
use Rattle.request_words.proofs.laws.one_item_law.Goals as goal

pub returns : goal.returns
returns c = one_item c.one_reading_law.ensures c.one_due_law.ensures
