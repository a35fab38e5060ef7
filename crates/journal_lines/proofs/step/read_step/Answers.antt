use Rattle.std.proofs.Common.{◌≡◌, ◌∷◌, ◌++◌, decimal, arith, ap, Err}
use Rattle.track_entry.specs.{Texts.entry_text, declared.fault.EntryFault.EntryFault}
use Rattle.journal_lines.{specs.Texts.author_word, proofs.Words.{step_is, step_text, no_words, step_one, step_two}}
use Rattle.journal_lines.specs.declared.fault.LineFault.TheVariants as fault
use Rattle.journal_lines.proofs.step.read_step.Goals as goal

pub returns-in_default-clause-bad : goal.returns-in_default-clause-bad
returns-in_default-clause-bad c refused p is =
    no_words c.args.line.now (decimal c.args.step) (author_word p.author ++ 32 ∷ entry_text p.entry) c.in_default.ensures.none (step_is c.args.step c.args.line.now p is)

pub returns-then-not-is_step-clause-bad : goal.returns-then-not-is_step-clause-bad
returns-then-not-is_step-clause-bad c refused p is =
    let one = step_one c.args.step c.args.line.now _ _ p (omega arith) is c.in-Some.ensures.some c.in-Some.ensures.first in
    c.is_step.ensures.no c.if-not-is_step.true one.0

pub returns-in_default-first_word-clause-bad : goal.returns-in_default-first_word-clause-bad
returns-in_default-first_word-clause-bad c refused p is =
    let one = step_one c.args.step c.args.line.now _ _ p (omega arith) is c.in-Some.ensures.some c.in-Some.ensures.first in
    no_words _ (author_word p.author) (entry_text p.entry) c.in_default-first_word.ensures.none one.1

pub returns-in_default-read_author-clause-bad : goal.returns-in_default-read_author-clause-bad
returns-in_default-read_author-clause-bad c refused p is =
    let one = step_one c.args.step c.args.line.now _ _ p (omega arith) is c.in-Some.ensures.some c.in-Some.ensures.first in
    let two = step_two _ _ _ p is.author one.1 c.in-Some-first_word.ensures.some c.in-Some-first_word.ensures.first in
    c.in_default-read_author.ensures.none p.author is.author two.0

pub returns-in-Err-clause-bad : goal.returns-in-Err-clause-bad
returns-in-Err-clause-bad c refused p is =
    let one = step_one c.args.step c.args.line.now _ _ p (omega arith) is c.in-Some.ensures.some c.in-Some.ensures.first in
    let two = step_two _ _ _ p is.author one.1 c.in-Some-first_word.ensures.some c.in-Some-first_word.ensures.first in
    let same : c.fault_of.result ≡ fault.NotLine = cc in
    c.in-Err.ensures.none (ap (λ (e : EntryFault). Err e) (c.fault_of.ensures same)) p.entry (is.entry, two.1)

pub returns-in-Ok-clause-read : goal.returns-in-Ok-clause-read
returns-in-Ok-clause-read c = record {
  author = c.in-Some-read_author.ensures.some.1;
  entry = c.in-Ok.ensures.spelt.0;
  text = step_text c.args.step c.args.line.now _ _ _ _ _ c.in-Some.ensures.some (c.is_step.ensures.yes c.if-not-is_step.false)
      c.in-Some-first_word.ensures.some c.in-Some-read_author.ensures.some.0 c.in-Ok.ensures.spelt.1;
}
