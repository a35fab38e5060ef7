-- What one write to a map of pairs makes of what is held of series.
use Rattle.std.proofs.Common.{◌≡◌, ℕ, List, Option, None, cond, ◌&&◌, refl, sym, ap, ap₂, ◌∙◌}
use Rattle.std.proofs.lemmas.Map.Text.{is_eq-slice_cmp}
use Rattle.name_index.{specs.Pairs.{Pairs, is_same, found_pair, IsPairWritten}, proofs.Written.{read-cond, fixed-pair}}
use Rattle.history_model.specs.Runs.{Series, same_series}
use Rattle.publication_index.specs.{declared.held.Held.Held, Kept.{held, table_in, home}}

-- a choice by the two names, by their bytes
by-series : {A : Type 0} (one other : Series) (x y : A) → cond (is_same one.test other.test && is_same one.metric other.metric) x y ≡ cond (same_series one other) x y
by-series one other x y = ap₂ (λ a b. cond (a && b) x y) (is_eq-slice_cmp one.test other.test) (is_eq-slice_cmp one.metric other.metric)

module _ {A : Type 0} (g : Option Held → A) (at : Series) (value : Option Held) (es now after : Pairs Held) (view_is : es ≡ now) (written : IsPairWritten at.test at.metric value es after) where
  -- what is read of the series becomes what is read of the new value
  pub read-written : (x : A) → g value ≡ x → (s : Series) → g (held s after) ≡ cond (same_series at s) x (g (held s now))
  read-written x is s =
      ap g (written s.test s.metric)
      ∙ read-cond g (is_same at.test s.test && is_same at.metric s.metric) value (held s es)
      ∙ by-series at s (g value) (g (held s es))
      ∙ ap₂ (λ (y : A) (all : Pairs Held). cond (same_series at s) y (g (held s all))) is view_is

  -- or stays
  pub keeps-written : g value ≡ g (held at es) → (s : Series) → g (held s after) ≡ g (held s now)
  keeps-written is s =
      read-written (g (held at es)) is s
      ∙ ap (λ (all : Pairs Held). cond (same_series at s) (g (held at es)) (g (held s all))) (sym view_is)
      ∙ sym (by-series at s (g (held at es)) (g (held s es)))
      ∙ sym (fixed-pair (λ t m. g (found_pair t m es)) (λ _. g (held at es)) at.test at.metric refl s.test s.metric)
      ∙ ap (λ (all : Pairs Held). g (held s all)) view_is

-- of a series of which nothing is held nothing is home
pub none-home : (at : Series) (es now after : Pairs Held) → es ≡ now → held at es ≡ None → ((t m : List ℕ) → found_pair t m after ≡ found_pair t m es)
    → (s : Series) → home s after ≡ cond (same_series at s) None (home s now)
none-home at es now after view_is none same s =
    ap table_in (same s.test s.metric)
    ∙ fixed-pair (λ t m. table_in (found_pair t m es)) (λ _. None) at.test at.metric (sym (ap table_in none)) s.test s.metric
    ∙ by-series at s None (home s es)
    ∙ ap (λ (all : Pairs Held). cond (same_series at s) None (home s all)) view_is
