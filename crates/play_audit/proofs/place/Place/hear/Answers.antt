use Rattle.std.proofs.Common.{ℕ, List, length, sym, subst}
use Rattle.history_model.specs.declared.entries.Author.TheVariants.{Script}
use Rattle.play_audit.{specs.Places.IsPlace, proofs.Telling.{names_nothing, out_of_range, outside_is}}
use Rattle.play_audit.proofs.place.Place.hear.Goals as goal

pub returns-then-is_outside-clause-none : goal.returns-then-is_outside-clause-none
returns-then-is_outside-clause-none c =
    let outside = outside_is c.in-Some.named.step c.args.self.now.known c.count_of-count.result (length c.args.history.now) c.count_of-count.ensures.is (c.is_outside.ensures.outside c.if-is_outside.true) in
    out_of_range c.kinds_law.ensures c.texts_law.ensures c.replies_law.ensures.names (Script c.args.script) c.args.history.now c.args.self.now.known c.args.request.now c.args.transcript.now
    c.in-Some.named.step c.in-Some.named.letter c.count_of-count.ensures.few c.is_outside.ensures.few c.in-Some.ensures.some outside

pub begin-requires : goal.begin-requires
begin-requires c = record { place = subst (λ (m : List ℕ). IsPlace m c.args.history.now c.args.self.now) (sym c.machine.ensures) c.requires.place }

pub hear_named-requires-clause-since : goal.hear_named-requires-clause-since
hear_named-requires-clause-since c = c.is_outside.ensures.since c.if-is_outside.false

pub hear_named-requires-clause-few : goal.hear_named-requires-clause-few
hear_named-requires-clause-few c = c.count_of-count.ensures.few

pub hear_named-requires-clause-front : goal.hear_named-requires-clause-front
hear_named-requires-clause-front c = c.in-Some.ensures.some

pub returns-in-None-clause-none : goal.returns-in-None-clause-none
returns-in-None-clause-none c =
    names_nothing c.texts_law.ensures c.replies_law.ensures.names (Script c.args.script) c.args.history.now c.args.self.now.known c.args.request.now c.args.transcript.now
    c.count_of-count.ensures.few c.in-None.ensures.none
