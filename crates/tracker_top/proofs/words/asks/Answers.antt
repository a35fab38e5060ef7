use Rattle.std.{proofs.Common.{ap, sym, ◌∙◌}, specs.Option.option_copied}
use Rattle.tracker_top.proofs.Plans.{asks-first}
use Rattle.tracker_top.proofs.words.asks.Goals as goal

pub returns-in-Some : goal.returns-in-Some
returns-in-Some c =
    asks-first c.args.words.now c.in-Some.word.now c.args.name.now c.as_str.result.now c.is_same.result (sym (ap option_copied c.in-Some.is) ∙ c.first.ensures.value) c.as_str.ensures.value c.is_same.ensures
