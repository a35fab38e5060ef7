use Rattle.std.proofs.Common.{refl, sym, ◌∙◌}
use Rattle.play_audit.proofs.Beginning.{walks_new, walks_on}
use Rattle.play_audit.proofs.place.Place.begin.Goals as goal

pub returns-then-not-self-clause-walks : goal.returns-then-not-self-clause-walks
returns-then-not-self-clause-walks c = walks_on c.args.machine.now c.args.history.now c.args.self.now (sym c.is_some.ensures ∙ c.if-is_some.true) c.requires.place

pub returns-clause-walks : goal.returns-clause-walks
returns-clause-walks c = record {
  walk = c.in_ok-walk.walk;
  is = refl;
  by = walks_new c.along_law.ensures.begins c.args.machine.now c.args.history.now c.args.self.now c.in_ok-copy.field-0 c.in_ok-walk.walk c.requires.place c.in_ok-copy.ensures c.in_ok-walk.ensures;
}
