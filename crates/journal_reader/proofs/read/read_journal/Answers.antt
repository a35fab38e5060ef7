use Rattle.std.proofs.Common.{◌≡◌, ◌+◌, List, length, ap, subst, arith, Err}
use Rattle.history_model.specs.{declared.entries.Placed.Placed, Entries.entries_of}
use Rattle.journal_reader.{specs.Judging.AreAllowed, proofs.Refusing.{journal_read, journal_refused}, specs.declared.read.Refused.Refused}
use Rattle.journal_reader.specs.declared.read.Refused.TheVariants as refused
use Rattle.journal_reader.proofs.Heads.{some_size, stop_fits, which}
use Rattle.journal_reader.proofs.read.read_journal.Goals as goal

pub overflow_add-number : goal.overflow_add-number
overflow_add-number g c = omega (arith, some_size c.args.lines.now.rest c.requires, c.count-number.ensures.few)

pub read_new_head-requires : goal.read_new_head-requires
read_new_head-requires g c = c.requires

pub returns-in-Err-clause-refused : goal.returns-in-Err-clause-refused
returns-in-Err-clause-refused g c line is =
    let same : c.in-Err.refused ≡ refused.Line line = cc in
    c.in-Err.ensures.refused c.args.scripts line (ap (λ (e : Refused). Err e) same)

pub returns-in_default-clause-refused : goal.returns-in_default-clause-refused
returns-in_default-clause-refused g c line is = absurd (cc)

pub returns-in_default-count_allowed-clause-refused : goal.returns-in_default-count_allowed-clause-refused
returns-in_default-count_allowed-clause-refused g c line is = absurd (cc)

pub overflow_add-result : goal.overflow_add-result
overflow_add-result g c =
    omega (
      arith,
      (stop_fits c.args.scripts c.args.before.now c.args.lines.now c.read_new_head.new.lines c.read_history.new.lines c.in-Ok.head c.in-Ok-read_history.history.items
          c.in-Ok-count_allowed.allowed c.count-number.result c.in-Ok.ensures.read c.in-Ok-read_history.ensures.read
          (subst (λ (l : List Placed). AreAllowed (entries_of l) c.in-Ok-count_allowed.allowed) c.deref.ensures.value c.in-Ok-count_allowed.ensures) c.count-number.ensures.few),
    )

pub overflow_add-result-then-allowed-read : goal.overflow_add-result-then-allowed-read
overflow_add-result-then-allowed-read g c =
    omega (
      arith,
      (stop_fits c.args.scripts c.args.before.now c.args.lines.now c.read_new_head.new.lines c.read_history.new.lines c.in-Ok.head c.in-Ok-read_history.history.items
          c.in-Ok-count_allowed.allowed c.count-number.result c.in-Ok.ensures.read c.in-Ok-read_history.ensures.read
          (subst (λ (l : List Placed). AreAllowed (entries_of l) c.in-Ok-count_allowed.allowed) c.deref.ensures.value c.in-Ok-count_allowed.ensures) c.count-number.ensures.few),
    )

pub returns-then-allowed-read-clause-refused : goal.returns-then-allowed-read-clause-refused
returns-then-allowed-read-clause-refused g c line is =
    let number : c.count-number.result + 1 + c.in-Ok-count_allowed.allowed + 1 ≡ line = cc in
    journal_refused c.names_law.ensures.names c.numbers_law.ensures c.entries_law.ensures c.args.scripts c.args.before.now c.args.lines.now c.in-Ok.head c.read_new_head.new.lines
    c.read_history.new.lines c.in-Ok-read_history.history.items c.in-Ok-count_allowed.allowed line c.in-Ok.ensures.read c.in-Ok-read_history.ensures.read
    (subst (λ (l : List Placed). AreAllowed (entries_of l) c.in-Ok-count_allowed.allowed) c.deref.ensures.value c.in-Ok-count_allowed.ensures)
    (which c.len-read.result c.in-Ok-count_allowed.allowed (length c.in-Ok-read_history.history.items) c.in-Ok.head.count
    (omega (arith, c.len-read.ensures, c.in-Ok-read_history.history.ok.0)) c.then-allowed-read.either)
    (omega (arith, number, c.count-number.ensures.is))

pub returns-clause-read : goal.returns-clause-read
returns-clause-read g c =
    journal_read c.args.scripts c.args.before.now c.args.lines.now c.in-Ok.head c.read_new_head.new.lines c.read_history.new.lines c.in-Ok-read_history.history.items
    c.in-Ok-count_allowed.allowed c.in-Ok.ensures.read c.in-Ok-read_history.ensures.read
    (subst (λ (l : List Placed). AreAllowed (entries_of l) c.in-Ok-count_allowed.allowed) c.deref.ensures.value c.in-Ok-count_allowed.ensures)
    (omega (arith, c.if-allowed-read.false, c.len-read.ensures, c.in-Ok-read_history.history.ok.0))
    (omega (arith, c.if-read-head.false, c.len-read.ensures, c.in-Ok-read_history.history.ok.0)) c.in-Ok-read_history.ensures.counted

pub returns-clause-refused : goal.returns-clause-refused
returns-clause-refused g c line is = absurd (cc)
