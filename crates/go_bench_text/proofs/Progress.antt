-- How far a text was read.
use Rattle.std.proofs.Common.{◌≡◌, ℕ, ◌+◌, ◌≤◌, ◌<◌, List, [], ◌∷◌, ◌++◌, length, take, drop, get_or, refl, sym, ◌∙◌, ap, subst, arith, append_assoc, add-zero, add_assoc, ◌-◌, below_more}
use Rattle.std.{specs.Str.IsUtf8, proofs.lemmas.List.{append-nil, drop_more, take_more, drop_all}, proofs.lemmas.Grind.common_steps}
use Rattle.line_text.specs.Lines.{lines_of}
use Rattle.sample_model.specs.Samples.{Measurement}
use Rattle.go_bench_text.specs.{Gathering.{Keeps, AddsLine}, Readings.{LinesGive, IsOver, IsOverAt, NoneOverBelow, IsFirstOver, IsRead, pkg_of}}
use Rattle.go_bench_text.specs.declared.gather.Gathered.{Gathered}

-- what the lines behind the first n give is all that is missing
pub record Progress (lines : List (List ℕ)) (n : ℕ) (gathered : Gathered) (pkg : List ℕ) (ignored : ℕ) : Type 0 where
  pub given : List Measurement
  pub keeps : Keeps gathered given
  pub on : (rest : List Measurement) (later : ℕ) → LinesGive (take n lines) (drop n lines) rest later → LinesGive [] lines (given ++ rest) (ignored + later)
  pub in_range : NoneOverBelow lines n
  pub pkg_is : pkg_of (take n lines) ≡ pkg
  pub few : ignored ≤ n

pub progress_none : (lines : List (List ℕ)) (gathered : Gathered) → Keeps gathered [] → Progress lines 0 gathered [] 0
progress_none lines gathered keeps = grind (arith, common_steps)

over_here : (lines : List (List ℕ)) (n : ℕ) (line : List ℕ) → line ≡ get_or lines n [] → ¬ IsOver (take n lines) line → ¬ IsOverAt lines n
over_here lines n line e h over = h (subst (IsOver (take n lines)) (sym e) over)

below_next : (lines : List (List ℕ)) (n : ℕ) → NoneOverBelow lines n → ¬ IsOverAt lines n → NoneOverBelow lines (n + 1)
below_next lines n before here = below_more (λ (k : ℕ). ¬ IsOverAt lines k) n before here

-- one line more
pub progress_more : (lines : List (List ℕ)) (n : ℕ) (line : List ℕ) (old new : Gathered) (pkg next : List ℕ) (ignored here : ℕ) → n < length lines → line ≡ get_or lines n []
    → AddsLine old new (take n lines) line here → here ≤ 1 → pkg_of (take n lines ++ line ∷ []) ≡ next → Progress lines n old pkg ignored → Progress lines (n + 1) new next (ignored + here)
progress_more lines n line old new pkg next ignored here l e adds one set before =
    let front : take (n + 1) lines ≡ take n lines ++ line ∷ [] = take_more lines n [] l ∙ ap (λ (x : List ℕ). take n lines ++ x ∷ []) (sym e) in
    let back : drop n lines ≡ line ∷ drop (n + 1) lines = drop_more lines n [] l ∙ ap (λ (x : List ℕ). x ∷ drop (n + 1) lines) (sym e) in
    record {
      given = before.given ++ adds.samples;
      keeps = adds.gains before.given before.keeps;
      on = λ rest later gives.
          let behind : LinesGive (take n lines ++ line ∷ []) (drop (n + 1) lines) rest later = subst (λ (done : List (List ℕ)). LinesGive done (drop (n + 1) lines) rest later) front gives in
          let there : LinesGive (take n lines) (line ∷ drop (n + 1) lines) (adds.samples ++ rest) (here + later) = (adds.samples, rest, here, later, refl, refl, adds.gives, behind) in
          let whole = before.on (adds.samples ++ rest) (here + later) (subst (λ (left : List (List ℕ)). LinesGive (take n lines) left (adds.samples ++ rest) (here + later)) (sym back) there) in
          subst (λ (xs : List Measurement). LinesGive [] lines xs ((ignored + here) + later)) (sym (append_assoc before.given adds.samples rest))
          (subst (λ (m : ℕ). LinesGive [] lines (before.given ++ (adds.samples ++ rest)) m) (sym (add_assoc ignored here later)) whole);
      in_range = below_next lines n before.in_range (over_here lines n line e adds.in_range);
      pkg_is = ap pkg_of front ∙ set;
      few = omega (arith, before.few);
    }

pub progress_all : (text : List ℕ) (n : ℕ) (gathered : Gathered) (pkg : List ℕ) (ignored : ℕ) → IsUtf8 text → length (lines_of text) ≤ n → Progress (lines_of text) n gathered pkg ignored
    → (given : List Measurement) × Keeps gathered given × IsRead text given ignored
progress_all text n gathered pkg ignored is l done =
    let none : drop n (lines_of text) ≡ [] = drop_all n (lines_of text) l in
    let rest : LinesGive (take n (lines_of text)) (drop n (lines_of text)) [] 0 = subst (λ (left : List (List ℕ)). LinesGive (take n (lines_of text)) left [] 0) (sym none) (refl, refl) in
    let whole = done.on [] 0 rest in (
      done.given,
      done.keeps,
      record {
        text = is;
        gives = subst (λ (xs : List Measurement). LinesGive [] (lines_of text) xs ignored) (append-nil done.given) (subst (λ (m : ℕ). LinesGive [] (lines_of text) (done.given ++ []) m) (add-zero ignored) whole);
        in_range = λ k less. done.in_range k (omega arith);
      },
    )

-- the first line that is out of range
pub progress_over : (lines : List (List ℕ)) (n : ℕ) (line : List ℕ) (gathered : Gathered) (pkg : List ℕ) (ignored number : ℕ) → n < length lines → line ≡ get_or lines n [] → number ≡ n + 1
    → IsOver (take n lines) line → Progress lines n gathered pkg ignored → IsFirstOver lines number
progress_over lines n line gathered pkg ignored number l e f over before = grind (arith, common_steps)
