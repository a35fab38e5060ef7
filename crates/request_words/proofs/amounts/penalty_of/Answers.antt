use Rattle.std.proofs.Common.{Option, Some, None, IfNone}
use Rattle.request_words.proofs.TooGreat.{too_great}
use Rattle.request_words.proofs.amounts.penalty_of.Goals as goal

given : {A : Type 0} (o : Option A) (P : Type 0) → P → IfNone o P
given None P p = p
given (Some x) P p = tt

pub returns-in_err-number-clause-none : goal.returns-in_err-number-clause-none
returns-in_err-number-clause-none c = given c.from_residual.result _ (too_great c.args.word.now c.requires c.numbers_law.ensures c.in_err-number.ensures.none)
