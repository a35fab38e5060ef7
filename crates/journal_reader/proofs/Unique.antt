-- Private: no public contract cites this. Bytes are the text of one list of journals.
use Rattle.std.proofs.{Common.{ℕ, ◌+◌, ◌≤◌, ◌<◌, ◌^◌, List, [], ◌∷◌, ◌++◌, length, sym, ◌∙◌, arith, length-append}, lemmas.List.length-map}
use Rattle.std.specs.List.{AllByRecursion}
use Rattle.metric_table.specs.{Limits.most, declared.limits.Limit.TheVariants.Steps}
use Rattle.history_model.specs.{declared.entries.Entry.Entry, declared.entries.Placed.Placed, Allowed.AllowedAfter}
use Rattle.journal_lines.specs.{Laws.OneText, Lines.HasLines, Texts.Journal}
use Rattle.journal_reader.specs.{Journals.IsJournal, Laws.OneReading}

few_steps : (front h : List Entry) → length front ≤ most Steps → AllowedAfter front h → length front + length h ≤ most Steps
few_steps front [] few allowed = omega (arith, few)
few_steps front (e ∷ h) few allowed =
    let one : length (front ++ e ∷ []) ≤ most Steps = allowed.0.1 Steps in
    omega (arith, few_steps (front ++ e ∷ []) h one allowed.1, length-append front (e ∷ []))

pub fits : (scripts : ℕ) (j : Journal) → IsJournal scripts j → length j.history < 2 ^ 64
fits scripts j is =
    omega (arith, few_steps [] _ (omega arith) is.legal, length-map j.history (λ (p : Placed). p.entry))

lines : (scripts : ℕ) (xs : List Journal) → AllByRecursion (IsJournal scripts) xs → AllByRecursion HasLines xs
lines scripts [] each = tt
lines scripts (x ∷ xs) each = (record { named = each.0.named; fits = fits scripts x each.0; each = each.0.lines }, lines scripts xs each.1)

pub one_reading : OneText → OneReading
one_reading law scripts bytes js others a b = law js others (lines scripts js a.are.each) (lines scripts others b.are.each) (sym a.text ∙ b.text)
