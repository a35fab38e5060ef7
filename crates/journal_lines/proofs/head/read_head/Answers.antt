use Rattle.std.proofs.Common.{◌≡◌, ◌∷◌, ◌++◌, codes, decimal, arith, ap, Err}
use Rattle.journal_lines.{specs.declared.fault.LineFault.LineFault, proofs.Words.{head_is, is_head, no_words, word_one, word_two, word_three}}
use Rattle.journal_lines.specs.declared.fault.LineFault.TheVariants as fault
use Rattle.line_text.specs.Names.{spelling}
use Rattle.journal_lines.proofs.head.read_head.Goals as goal

pub returns-in_default-clause-bad : goal.returns-in_default-clause-bad
returns-in_default-clause-bad c refused machine count is = no_words c.args.line.now (codes "machine") (spelling machine ++ 32 ∷ (codes "steps" ++ 32 ∷ decimal count)) c.in_default.ensures.none (head_is c.args.line.now machine count is)

pub returns-then-not-is_word-clause-bad : goal.returns-then-not-is_word-clause-bad
returns-then-not-is_word-clause-bad c refused machine count is =
    let one = word_one c.args.line.now machine _ _ count is c.in-Some.ensures.some c.in-Some.ensures.first in
    c.is_word.ensures.no c.if-not-is_word.true one.0

pub returns-in_default-first_word-clause-bad : goal.returns-in_default-first_word-clause-bad
returns-in_default-first_word-clause-bad c refused machine count is =
    let one = word_one c.args.line.now machine _ _ count is c.in-Some.ensures.some c.in-Some.ensures.first in
    no_words _ (spelling machine) (codes "steps" ++ 32 ∷ decimal count) c.in_default-first_word.ensures.none one.1

pub returns-in_default-first_word-2-clause-bad : goal.returns-in_default-first_word-2-clause-bad
returns-in_default-first_word-2-clause-bad c refused machine count is =
    let one = word_one c.args.line.now machine _ _ count is c.in-Some.ensures.some c.in-Some.ensures.first in
    let two = word_two c.names_law.ensures.names _ machine _ _ count is.named one.1 c.in-Some-first_word.ensures.some c.in-Some-first_word.ensures.first in
    no_words _ (codes "steps") (decimal count) c.in_default-first_word-2.ensures.none two.1

pub returns-then-not-is_word-2-clause-bad : goal.returns-then-not-is_word-2-clause-bad
returns-then-not-is_word-2-clause-bad c refused machine count is =
    let one = word_one c.args.line.now machine _ _ count is c.in-Some.ensures.some c.in-Some.ensures.first in
    let two = word_two c.names_law.ensures.names _ machine _ _ count is.named one.1 c.in-Some-first_word.ensures.some c.in-Some-first_word.ensures.first in
    let three = word_three _ _ _ count two.1 c.in-Some-first_word-2.ensures.some c.in-Some-first_word-2.ensures.first in
    c.is_word-2.ensures.no c.if-not-is_word-2.true three.0

pub returns-in_default-read_u64-clause-bad : goal.returns-in_default-read_u64-clause-bad
returns-in_default-read_u64-clause-bad c refused machine count is =
    let one = word_one c.args.line.now machine _ _ count is c.in-Some.ensures.some c.in-Some.ensures.first in
    let two = word_two c.names_law.ensures.names _ machine _ _ count is.named one.1 c.in-Some-first_word.ensures.some c.in-Some-first_word.ensures.first in
    let three = word_three _ _ _ count two.1 c.in-Some-first_word-2.ensures.some c.in-Some-first_word-2.ensures.first in
    c.in_default-read_u64.ensures.none count is.fits three.1

pub returns-in-Err-clause-bad : goal.returns-in-Err-clause-bad
returns-in-Err-clause-bad c refused machine count is =
    let one = word_one c.args.line.now machine _ _ count is c.in-Some.ensures.some c.in-Some.ensures.first in
    let two = word_two c.names_law.ensures.names _ machine _ _ count is.named one.1 c.in-Some-first_word.ensures.some c.in-Some-first_word.ensures.first in
    let same : c.in-Err.refusal ≡ fault.NotLine = cc in
    c.in-Err.ensures.bad (ap (λ (e : LineFault). Err e) same) machine is.named two.0

pub returns-in-Ok-clause-read : goal.returns-in-Ok-clause-read
returns-in-Ok-clause-read c =
    is_head c.args.line.now _ _ _ _ _ _ c.in-Ok.machine c.in-Some-read_u64.count c.in-Ok.ensures.read.1 (omega arith)
    c.in-Some.ensures.some (c.is_word.ensures.yes c.if-not-is_word.false) c.in-Some-first_word.ensures.some c.in-Ok.ensures.read.0
    c.in-Some-first_word-2.ensures.some (c.is_word-2.ensures.yes c.if-not-is_word-2.false) c.in-Some-read_u64.ensures.some
