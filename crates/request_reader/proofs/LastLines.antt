-- The last line of an input, which has no line feed.
use Rattle.std.proofs.{Common.{◌≡◌, ℕ, ◌+◌, ◌<◌, ◌≤◌, true, List, [], ◌∷◌, ◌++◌, length, refl, arith, inl, inr, Some}, lemmas.Grind.common_steps}
use Rattle.request_words.{specs.Bodies.Item, specs.Items.{IsSkipped, Asks, Counts, Gives}, proofs.Skipped.skipped_counts}
use Rattle.request_reader.specs.{Scripts.{input_limit, IsLine, end, cut_off, last, Reads}, declared.line.LineEnd.TheVariants.Input}
use Rattle.request_reader.specs.declared.asked.Asked.TheVariants as asked
use Rattle.request_reader.{specs.Unread.Unread, specs.Next.TakesLast, specs.LineEnds.FindsEnd, proofs.WholePieces.cut_reads}

last_reads : (at : ℕ) (bytes : List ℕ) (items : List Item) → IsLine bytes → Counts bytes 0 → Gives bytes [] items → Reads true at bytes items end
last_reads at bytes items line counts gives =
    record { front = []; back = bytes; asked = []; last = items; split = refl; told = refl; pieces = ([], (refl, refl)); ends = last refl line counts gives refl }

pub last_end : (at : ℕ) (bytes : List ℕ) → IsLine bytes → at + length bytes ≤ input_limit → IsSkipped bytes → TakesLast at bytes [] []
last_end at bytes line short skipped =
    record { none = refl; short = short; reads = last_reads at bytes [] line (skipped_counts bytes skipped) (inl (skipped, refl)) }

pub last_item : (at : ℕ) (bytes : List ℕ) (item : Item) → IsLine bytes → at + length bytes ≤ input_limit
    → (¬ IsSkipped bytes) → Counts bytes 0 → Asks bytes [] item → TakesLast at bytes (item ∷ []) []
last_item at bytes item line short asked counts asks =
    record { none = refl; short = short; reads = last_reads at bytes (item ∷ []) line counts (inr (asked, item, asks, refl)) }

pub last_cut : (at : ℕ) (bytes : List ℕ) (count : ℕ) → IsLine bytes → Counts bytes count → 0 < count → Reads true at bytes [] (cut_off at)
last_cut at bytes count line counts some = cut_reads at bytes (inr (record { line = line; count = count; counted = counts; some = some }))

-- ---- the line that ends the input, behind what the source gave

-- all that was left is kept
all_kept : (old mid : Unread) (left rest : List ℕ) → FindsEnd old mid (Some left) (Some rest) Input → old.kept ++ left ≡ mid.kept
all_kept old mid left rest finds = grind (arith, common_steps)
