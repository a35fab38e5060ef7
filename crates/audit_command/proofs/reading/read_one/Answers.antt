use Rattle.std.proofs.Common.{refl, ◌+◌, ℕ, List, sym, subst, arith}
use Rattle.audit_command.{specs.Reading.{HasRead, IsTextOf}, proofs.Gathered.{gave_more, gave_nothing, gave_text, read_none, read_more, read_all, stops_since}}
use Rattle.audit_command.proofs.reading.read_one.Goals as goal

pub loop-count-init : goal.loop-count-init
loop-count-init g c = (
  subst (λ (l : List ℕ). HasRead g.I.Source c.args.input.now c.args.input.now l c.args.room) (sym c.new-text.ensures.items) (read_none g.I.Source c.args.input.now c.args.room),
  omega (arith, c.in-Ok.ensures.len),
)

pub returns-then-count-eq0-clause-text : goal.returns-then-count-eq0-clause-text
returns-then-count-eq0-clause-text g c =
    let has = read_more g.I.Source c.args.input.now c.loop-count.input c.read_more.new.input c.loop-count.text.items c.read_more.new.text.items c.args.room c.in-Ok-read_more.count
    c.loop-count.invariant.0 c.in-Ok-read_more.ensures.more c.read_more.ensures.counts in
    subst (IsTextOf g.I.Source c.args.input.now) (sym c.of.ensures)
    (read_all g.I.Source c.args.input.now c.read_more.new.input c.read_more.new.text.items c.args.room has (c.in-Ok-read_more.ensures.more.end c.if-count-eq0.true))

pub loop-count-preserved : goal.loop-count-preserved
loop-count-preserved g c = (
  read_more g.I.Source c.args.input.now c.loop-count.input c.read_more.new.input c.loop-count.text.items c.read_more.new.text.items c.args.room c.in-Ok-read_more.count
      c.loop-count.invariant.0 c.in-Ok-read_more.ensures.more c.read_more.ensures.counts,
  omega arith,
)

pub returns-in-Err-clause-stop : goal.returns-in-Err-clause-stop
returns-in-Err-clause-stop g c =
    stops_since g.I.Source c.args.input.now c.loop-count.input c.read_more.new.input c.loop-count.text.items c.args.room c.args.place c.in-Err.stop
    c.loop-count.invariant.0 c.in-Err.ensures.stop

pub returns-in_default-clause-few : goal.returns-in_default-clause-few
returns-in_default-clause-few g c = gave_nothing g.I.Source c.args.input.now c.args.input.now (c.args.room + 1) refl

pub returns-then-count-eq0-clause-few : goal.returns-then-count-eq0-clause-few
returns-then-count-eq0-clause-few g c =
    gave_text g.I.Source c.args.input.now c.read_more.new.input c.read_more.new.text.items c.args.room
    (read_more g.I.Source c.args.input.now c.loop-count.input c.read_more.new.input c.loop-count.text.items c.read_more.new.text.items c.args.room c.in-Ok-read_more.count
    c.loop-count.invariant.0 c.in-Ok-read_more.ensures.more c.read_more.ensures.counts)

pub returns-in-Err-clause-few : goal.returns-in-Err-clause-few
returns-in-Err-clause-few g c =
    gave_more g.I.Source c.args.input.now c.loop-count.input c.read_more.new.input c.loop-count.text.items c.args.room c.loop-count.invariant.0 c.read_more.ensures.few
