use Rattle.play_model.proofs.Replies.{replies-stay, replies-earlier, adds-stay, adds-earlier, replies-name, added-new}
use Rattle.play_model.proofs.laws.replies_law.Goals as goal

pub returns-clause-stay : goal.returns-clause-stay
returns-clause-stay c = replies-stay

pub returns-clause-earlier : goal.returns-clause-earlier
returns-clause-earlier c = replies-earlier

pub returns-clause-adds_stay : goal.returns-clause-adds_stay
returns-clause-adds_stay c = adds-stay

pub returns-clause-adds_earlier : goal.returns-clause-adds_earlier
returns-clause-adds_earlier c = adds-earlier

pub returns-clause-names : goal.returns-clause-names
returns-clause-names c = replies-name

pub returns-clause-new : goal.returns-clause-new
returns-clause-new c = added-new
