-- A history with a publication more: its limits, its cuts, and what is published last of a series.
use Rattle.std.{proofs.Common.{◌≡◌, ℕ, ◌+◌, ◌≤◌, List, [], ◌∷◌, ◌++◌, length, refl, ap, arith}, specs.Prelude.{option_to_list, Some, None}}
use Rattle.std.{specs.List.{last_or, sum_by}, proofs.lemmas.List.Sums.sum_by-append, proofs.lemmas.Grind.common_steps}
use Rattle.metric_table.specs.Limits.{most}
use Rattle.metric_table.specs.declared.limits.Limit.TheVariants as limit
use Rattle.history_model.specs.{declared.entries.Entry.Entry, declared.publication.Publication.Publication, Allowed.KeepsLimits}
use Rattle.history_model.specs.declared.entries.Entry.TheVariants as entry
use Rattle.history_model.specs.{Publications.{publication_of, last_publication, cuts_in, cut_count}, Runs.Series}
use Rattle.history_model.proofs.{Chosen.{chosen-push, chosen-skip}, Others.limits-other, Standings.jobs-stay, Tunings.last-push}

abbrev size : Publication → ℕ
size p = length p.cuts

pub cuts-grow : (h : List Entry) (e : Entry) → cut_count (h ++ e ∷ []) ≡ cut_count h + cuts_in e
cuts-grow h e = grind (arith, common_steps, sum_by, size, chosen-push, sum_by-append, option_to_list, length)

module _ (h : List Entry) (p : Publication) where
  abbrev e : Entry
  e = entry.Publish p

  pub limits-publish : KeepsLimits h → length h + 1 ≤ most limit.Steps → cut_count h + length p.cuts ≤ most limit.Cuts → KeepsLimits (h ++ e ∷ [])
  limits-publish keeps steps cuts =
      limits-other h e refl refl refl keeps steps (rw (cuts-grow h e) cuts) (rw (jobs-stay h e refl (λ n. refl)) (keeps limit.Jobs))

-- ---- what is published last of a series
pub published-last : (h : List Entry) (e : Entry) (s : Series) (p : Publication) → publication_of s (length h + 1) e ≡ Some p
    → last_publication s (h ++ e ∷ []) ≡ Some p
published-last h e s p is = grind (arith, common_steps, last_or, chosen-push, option_to_list, last-push)

pub published-stays : (h : List Entry) (e : Entry) (s : Series) → publication_of s (length h + 1) e ≡ None
    → last_publication s (h ++ e ∷ []) ≡ last_publication s h
published-stays h e s none = ap (last_or None) (chosen-skip (publication_of s) h e none)
