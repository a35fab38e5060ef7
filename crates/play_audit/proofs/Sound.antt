-- Private: no public contract cites this. Journals, read from their text.
use Rattle.std.proofs.{Common.{◌≡◌, ℕ, zero, suc, ◌+◌, ◌≤◌, List, [], ◌∷◌, length, Some, arith, length-append}, lemmas.Grind.common_steps}
use Rattle.std.{specs.Prelude.slice_get, specs.List.AllByRecursion, proofs.lemmas.List.Sums.sum_by-cons}
use Rattle.history_model.specs.declared.entries.Placed.{Placed}
use Rattle.journal_lines.specs.Texts.{head_line, lines_from, texts_of}
use Rattle.journal_reader.specs.Journals.{Journal, IsJournal, IsTextOf}
use Rattle.play_audit.specs.{Known.{AreSound, lines_in, tracks_of}, Places.IsSound}

sound-each : (n : ℕ) (js : List Journal) → AllByRecursion (IsJournal n) js → (a : ℕ) (j : Journal) → slice_get js a ≡ Some j → IsSound j.history
sound-each n [] each zero j is = absurd (cc)
sound-each n [] each (suc a) j is = absurd (cc)
sound-each n (x ∷ js) each zero j is = grind (arith, common_steps)
sound-each n (x ∷ js) each (suc a) j is = sound-each n js each.1 a j is

pub sound_of : (n : ℕ) (bytes : List ℕ) (js : List Journal) → IsTextOf n bytes js → AreSound js
sound_of n bytes js text = record { different = text.are.different; each = sound-each n js text.are.each }

head-byte : (machine : List ℕ) (count : ℕ) → 1 ≤ length (head_line machine count)
head-byte machine count = grind (arith, common_steps)

lines-bytes : (step : ℕ) (h : List Placed) → length h ≤ length (lines_from step h)
lines-bytes step [] = omega arith
lines-bytes step (p ∷ h) = grind (arith, common_steps, lines-bytes (step + 1) h)

pub lines_bytes : (js : List Journal) → lines_in (tracks_of js) ≤ length (texts_of js)
lines_bytes [] = omega arith
lines_bytes (j ∷ js) = grind (arith, common_steps, length, length-append, sum_by-cons, head-byte, lines-bytes, lines_bytes js)
