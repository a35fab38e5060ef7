use Rattle.std.proofs.{Common.{ℕ, ◌+◌, List, ◌++◌, length, arith, refl, sym, ap, ◌∙◌, Err}, lemmas.Bool.false≢true}
use Rattle.journal_lines.specs.{Unread.Unread, Texts.entry_line, declared.fault.LineFault.LineFault}
use Rattle.journal_lines.proofs.Next.{none_left, no_entry, not_next, has_line, in_front}
use Rattle.journal_lines.proofs.history.read_next.Goals as goal

pub returns-in_default-clause-none : goal.returns-in_default-clause-none
returns-in_default-clause-none c = (none_left c.args.scripts c.args.before.now c.args.lines.now.rest c.in_default.ensures.none, refl)

pub returns-in-Err-NotLine-clause-none : goal.returns-in-Err-NotLine-clause-none
returns-in-Err-NotLine-clause-none c = (
  no_entry c.names_law.ensures.names c.args.scripts c.args.before.now c.args.lines.now.rest _ _ (omega arith)
      c.in-Some.ensures.some c.in-Some.ensures.first (c.in-Err-NotLine.ensures.bad (ap (λ (e : LineFault). Err e) c.in-Err-NotLine.field-0-is)),
  refl,
)

pub returns-then-not-may_come-clause-none : goal.returns-then-not-may_come-clause-none
returns-then-not-may_come-clause-none c = (
  not_next c.names_law.ensures.names c.lines_law.ensures.steps c.args.scripts c.args.before.now c.args.lines.now.rest _ _ c.in-Ok.placed (omega arith)
      c.in-Some.ensures.some c.in-Some.ensures.first c.in-Ok.ensures.read
      (λ may. false≢true (sym c.if-not-may_come.true ∙ (c.may_come.ensures c.args.before.now c.requires).1 may)),
  refl,
)

pub returns-clause-some : goal.returns-clause-some
returns-clause-some c = (
  has_line _ _ c.in-Ok.placed c.in-Ok.ensures.read,
  (c.may_come.ensures c.args.before.now c.requires).0 c.if-not-may_come.false,
  in_front _ _ _ _ _ c.in-Some.ensures.some c.in-Ok.ensures.read ∙ ap (λ (l : List ℕ). entry_line (length c.args.before.now + 1) c.in-Ok.placed ++ l) (sym (ap (λ (u : Unread). u.rest) c.pass.ensures)),
  ap (λ (u : Unread). u.count) c.pass.ensures,
)
