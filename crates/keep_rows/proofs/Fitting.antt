-- The entries of a machine that are kept have texts.
use Rattle.std.{proofs.Common.{◌≡◌, ℕ, ◌+◌, ◌<◌, inl, inr, List, [], ◌∷◌, All, length, take, get_or, Some, subst, ◌∙◌}, specs.Prelude.{filter, slice_get}}
use Rattle.std.{specs.List.AllByRecursion, proofs.lemmas.Bool.cases_Bool, proofs.lemmas.List.Elements.{All-more, recursion_from_All}}
use Rattle.std.proofs.lemmas.Option.{slice_get-get_or}
use Rattle.line_text.specs.Names.{IsName}
use Rattle.history_model.specs.{declared.entries.Placed.Placed, Allowed.Legal, Entries.entries_of}
use Rattle.track_entry.specs.{Texts.{HasShortMetric, IsEntry}, Laws.LegalIsShort}
use Rattle.track_model.specs.Tracks.{Track}
use Rattle.keep_rows.specs.{Growth.{HasTextIfShort, MayBeKept}, Kept.is_kept, Laws.KeptIsLegal}

-- one entry more has a text
pub fit_more : (h : List Placed) (j k : ℕ) (p : Placed) → j ≡ k → k < length h → Some p ≡ slice_get h j → HasTextIfShort p
    → All HasTextIfShort (take k h) → All HasTextIfShort (take (k + 1) h)
fit_more h j k p same below at fits all =
    let there : Some p ≡ slice_get h k = subst (λ (i : ℕ). Some p ≡ slice_get h i) same at in
    let is : p ≡ get_or h k p = some_same (there ∙ slice_get-get_or h k p below) in
    All-more HasTextIfShort h k p below all (subst HasTextIfShort is fits)
  where
    some_same : {x y : Placed} → Some x ≡ Some y → x ≡ y
    some_same is = cc

kept_spelled : (h : List Placed) → AllByRecursion HasTextIfShort h → AllByRecursion HasShortMetric (entries_of h)
    → AllByRecursion IsEntry (filter is_kept (entries_of h))
kept_spelled [] fit short = tt
kept_spelled (p ∷ h) fit short = elim (cases_Bool (is_kept p.entry)) [
  | inl hit ↦ rw hit (fit.0 short.0, kept_spelled h fit.1 short.1)
  | inr past ↦ rw past (kept_spelled h fit.1 short.1)
]

pub may_be : (t : Track) → IsName t.machine → LegalIsShort → KeptIsLegal → Legal (entries_of t.history) → All HasTextIfShort t.history → MayBeKept t
may_be t name shorts keeps legal fit = record {
  named = name;
  spelled = kept_spelled t.history (recursion_from_All HasTextIfShort t.history fit) (shorts (entries_of t.history) legal);
  legal = keeps (entries_of t.history) legal;
}
