use Rattle.std.proofs.Common.{◌≡◌, ◌∙◌, ap, Err, take, All}
use Rattle.store_rows.{specs.declared.row.RowFault.RowFault, proofs.Spaces.{no_space, word_is}}
use Rattle.store_rows.specs.declared.row.RowFault.TheVariants as fault
use Rattle.line_text.specs.Names.{spelling, MayStand}
use Rattle.store_rows.proofs.row.read_first_word.Goals as goal

pub returns-in_default-clause-bad : goal.returns-in_default-clause-bad
returns-in_default-clause-bad c refused name text named is = no_space c.args.bytes.now (spelling name) text c.in_default.ensures.none is

pub returns-in-Err-clause-bad : goal.returns-in-Err-clause-bad
returns-in-Err-clause-bad c refused name text named is =
    let stand : All MayStand (spelling name) = (c.names_law.ensures.names name named).2 in
    let word : take c.in-Some.end c.args.bytes.now ≡ spelling name =
    word_is c.args.bytes.now (spelling name) text c.in-Some.end stand c.in-Some.ensures.some.1 c.in-Some.ensures.first is in
    let same : c.in-Err.refusal ≡ fault.NotRow = cc in
    c.in-Err.ensures.bad (ap (λ (e : RowFault). Err e) same) name named (c.split_at.ensures.front ∙ word)
