use Rattle.std.proofs.Common.{◌≡◌, ℕ, ◌+◌, sym, refl, ap, ◌∙◌, arith, Err}
use Rattle.journal_lines.specs.declared.fault.LineFault.{LineFault}
use Rattle.journal_reader.proofs.Heads.{no_line_left, no_head, no_room, known_head}
use Rattle.journal_reader.proofs.read.read_new_head.Goals as goal

pub returns-in_default-clause-refused : goal.returns-in_default-clause-refused
returns-in_default-clause-refused c scripts line is =
    let number : c.count-number.result + 1 ≡ line = cc in
    no_line_left scripts c.args.before.now c.args.lines.now line (sym number ∙ ap (λ (n : ℕ). n + 1) c.count-number.ensures.is) c.requires c.in_default.ensures.none

pub returns-in-Err-NotLine-clause-refused : goal.returns-in-Err-NotLine-clause-refused
returns-in-Err-NotLine-clause-refused c scripts line is =
    let number : c.count-number.result + 1 ≡ line = cc in
    no_head c.names_law.ensures.names scripts c.args.before.now c.args.lines.now _ _ line (sym number ∙ ap (λ (n : ℕ). n + 1) c.count-number.ensures.is) c.requires
    c.in-Some.ensures.some c.in-Some.ensures.first (c.in-Err-NotLine.ensures.bad (ap (λ (e : LineFault). Err e) c.in-Err-NotLine.field-0-is))

pub returns-then-before-most-clause-refused : goal.returns-then-before-most-clause-refused
returns-then-before-most-clause-refused c scripts line is =
    let number : c.count-number.result + 1 ≡ line = cc in
    no_room scripts c.args.before.now c.args.lines.now line (sym number ∙ ap (λ (n : ℕ). n + 1) c.count-number.ensures.is) c.requires
    (omega (arith, c.if-before-most.true, c.most.ensures))

pub returns-then-is_among-clause-refused : goal.returns-then-is_among-clause-refused
returns-then-is_among-clause-refused c scripts line is =
    let number : c.count-number.result + 1 ≡ line = cc in
    known_head c.names_law.ensures.names c.lines_law.ensures.heads scripts c.args.before.now c.args.lines.now _ _ c.in-Ok.head.machine c.in-Ok.head.count line
    (sym number ∙ ap (λ (n : ℕ). n + 1) c.count-number.ensures.is) c.requires
    c.in-Some.ensures.some c.in-Some.ensures.first c.in-Ok.ensures.read (c.if-is_among.ensures.yes refl)
