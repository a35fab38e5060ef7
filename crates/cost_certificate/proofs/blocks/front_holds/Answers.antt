use Rattle.cost_certificate.proofs.Watches.{passed}
use Rattle.cost_certificate.proofs.blocks.front_holds.Goals as goal

pub returns-then-passes-clause-holds : goal.returns-then-passes-clause-holds
returns-then-passes-clause-holds c =
    passed c.args.tables.now c.args.need c.args.watch c.args.start c.args.stop c.args.from c.args.end c.requires.placed c.requires.inside c.requires.front c.requires.need c.requires.watch
    (c.passes.ensures c.if-passes.true)

pub returns-then-passes-2-clause-holds : goal.returns-then-passes-2-clause-holds
returns-then-passes-2-clause-holds c =
    passed c.args.tables.now c.args.need c.watch_of-seen.result c.args.start c.args.stop c.args.from c.args.end c.requires.placed c.requires.inside c.requires.front c.requires.need c.watch_of-seen.ensures
    (c.passes-2.ensures c.if-passes-2.true)

pub returns-clause-holds : goal.returns-clause-holds
returns-clause-holds c = c.range_holds.ensures.0 c.if-not-range_holds.false
