-- What a line adds, and when it is out of range.
use Rattle.std.proofs.{Common.{◌≡◌, ℕ, ◌≤◌, ◌<◌, ◌⊎◌, true, false, List, [], length, refl, sym, ap, subst, arith}, lemmas.Grind.common_steps}
use Rattle.std.proofs.lemmas.List.{append-nil}
use Rattle.go_bench_text.specs.{Gathering.{Keeps, Gains, AddsLine}, Lines.{begins, ArePairs, IsHead, IsResult, IsResultLine}, Pairs.{ReadsPairs, samples_of}}
use Rattle.go_bench_text.specs.Readings.{HasLarge, PairsGive, IsOver, pkg_of, test_of, LineGives.measured}
use Rattle.go_bench_text.{specs.declared.gather.Gathered.Gathered, specs.declared.pairs.Pair.Pair, proofs.OneReading.not_both}

pub gains_none : (before : Gathered) → Gains before before []
gains_none before given keeps = subst (Keeps before) (sym (append-nil given)) keeps

-- a line that begins as a result line does and goes on with pairs is one
pub is_whole : (line name : List ℕ) (fields : List (List ℕ)) → IsHead line name fields → 0 < length fields → ArePairs fields → IsResult line name fields
is_whole line name fields head some paired = record { head = head; some = some; paired = paired }

-- only a result line is out of range
pub silent_in_range : (before : List (List ℕ)) (line : List ℕ) → begins line ≡ false → ¬ IsOver before line
silent_in_range before line off over = not_both (begins line) over.is.head.first off

pub over_parts : (before : List (List ℕ)) (line name : List ℕ) (pairs : List (List ℕ)) → IsResult line name pairs → IsOver before line → (256 < length (test_of (pkg_of before) name)) ⊎ HasLarge pairs
over_parts before line name pairs is over = grind (arith, common_steps)

pub none_over : (test : List ℕ) (pairs : List (List ℕ)) → length test ≤ 256 → ¬ HasLarge pairs → (256 < length test) ⊎ HasLarge pairs → ⊥
none_over test pairs short small x4 = grind (arith, common_steps)

-- its fields behind the count are these
pub is_headed : (line name : List ℕ) (fields : List (List ℕ)) → IsHead line name fields → IsResultLine line → (0 < length fields) × ArePairs fields
is_headed line name fields head is = grind (arith, common_steps)

pub adds_measured : (old new : Gathered) (before : List (List ℕ)) (line name pkg : List ℕ) (fields : List (List ℕ)) (pairs : List Pair) → IsHead line name fields → ReadsPairs fields pairs → pkg_of before ≡ pkg
    → length (test_of pkg name) ≤ 256 → Gains old new (samples_of (test_of pkg name) pairs) → AddsLine old new before line 0
adds_measured old new before line name pkg fields pairs head reads e short gains =
    let is = is_whole line name fields head reads.some reads.paired in
    let there : test_of pkg name ≡ test_of (pkg_of before) name = ap (λ (p : List ℕ). test_of p name) (sym e) in
    record {
      samples = samples_of (test_of pkg name) pairs;
      gives = measured name fields is (subst (λ (t : List ℕ). PairsGive t fields (samples_of (test_of pkg name) pairs)) there (reads.gives (test_of pkg name))) refl;
      gains = gains;
      in_range = λ over. none_over (test_of (pkg_of before) name) fields (subst (λ (t : List ℕ). length t ≤ 256) there short) reads.in_range (over_parts before line name fields is over);
    }

pub adds_broken : (old : Gathered) (before : List (List ℕ)) (line : List ℕ) → begins line ≡ true → ¬ IsResultLine line → AddsLine old old before line 1
adds_broken old before line first is = grind (arith, common_steps)
