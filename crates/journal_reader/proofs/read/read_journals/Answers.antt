use Rattle.std.proofs.Common.{◌≡◌, true, false, ap, Err}
use Rattle.journal_reader.{specs.declared.read.Refused.Refused, proofs.Heads.{so_starts, so_over, so_stops, shorter}, proofs.Refusing.so_end}
use Rattle.journal_reader.specs.declared.read.Refused.TheVariants as refused
use Rattle.journal_reader.proofs.read.read_journals.Goals as goal

pub loop-lines-init : goal.loop-lines-init
loop-lines-init g c = so_starts c.args.scripts c.args.text.now c.new-lines.result c.new-journals.result.items c.new-lines.ensures c.new-journals.ensures.items

pub read_journal-requires : goal.read_journal-requires
read_journal-requires g c =
    λ none.
    let yes : c.is_empty.result ≡ true = c.is_empty.ensures.1 none in
    let no : c.is_empty.result ≡ false = c.loop-lines-test.true in
    absurd (cc)

pub returns-in-Err-push-clause-refused : goal.returns-in-Err-push-clause-refused
returns-in-Err-push-clause-refused g c line is = absurd (cc)

pub loop-lines-smaller : goal.loop-lines-smaller
loop-lines-smaller g c =
    shorter c.args.scripts c.deref.result.now c.loop-lines.lines c.read_journal.new.lines c.in-Ok.journal c.in-Ok.ensures.read

pub loop-lines-preserved : goal.loop-lines-preserved
loop-lines-preserved g c =
    so_over c.args.scripts c.args.text.now c.loop-lines.lines c.read_journal.new.lines c.loop-lines.journals.items c.deref.result.now c.push.new.self.items c.in-Ok.journal
    c.deref.ensures.value c.loop-lines.invariant c.in-Ok.ensures.read c.in_default.ensures.items

pub returns-in-Err-clause-refused : goal.returns-in-Err-clause-refused
returns-in-Err-clause-refused g c line is =
    let same : c.in-Err.refused ≡ refused.Line line = cc in
    so_stops c.args.scripts c.args.text.now c.loop-lines.lines c.loop-lines.journals.items c.deref.result.now line
    c.deref.ensures.value c.loop-lines.invariant (c.in-Err.ensures.refused line (ap (λ (e : Refused). Err e) same))

pub returns-clause-read : goal.returns-clause-read
returns-clause-read g c =
    let yes : c.is_empty.result ≡ true = c.loop-lines-test.false in
    so_end c.args.scripts c.args.text.now c.loop-lines.lines c.loop-lines.journals.items c.loop-lines.invariant (c.is_empty.ensures.0 yes)

pub returns-clause-refused : goal.returns-clause-refused
returns-clause-refused g c line is = absurd (cc)
