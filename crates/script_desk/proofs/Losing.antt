-- Private: no public contract cites this. Machines that stand as they did, but for a table that went.
use Rattle.std.{proofs.Common.{◌≡◌, ℕ, zero, suc, get_or, List, [], ◌∷◌, Result, Ok, Err, refl, subst, sym}, specs.Prelude.{OnErr, slice_set}}
use Rattle.std.{specs.Cmp.IsTotalOrder, specs.List.AllZip, proofs.lemmas.Cmp.{then_total, on_total, nat_list_cmp_total}}
use Rattle.std.specs.FinSet as sets
use Rattle.history_model.specs.{Runs.Series, SeriesOrder.series_cmp}
use Rattle.track_model.specs.Tracks.{Track, IsSameButTables}

series-total : IsTotalOrder series_cmp
series-total = then_total (on_total (λ (s : Series). s.test) nat_list_cmp_total) (on_total (λ (s : Series). s.metric) nat_list_cmp_total)

same-track : (t : Track) → IsSameButTables t t
same-track t = record { machine = refl; kept = refl; history = refl; fewer = sets.contains-is_subset series-total t.home t.home (λ q is. is) }

same-tracks : (ts : List Track) → AllZip IsSameButTables ts ts
same-tracks [] = tt
same-tracks (t ∷ ts) = (same-track t, same-tracks ts)

changed-at : (ts : List Track) (i : ℕ) (t u : Track) → t ≡ get_or ts i t → IsSameButTables t u → AllZip IsSameButTables ts (slice_set ts i u)
changed-at [] i t u is same = tt
changed-at (x ∷ ts) zero t u is same = (subst (λ (y : Track). IsSameButTables y u) is same, same-tracks ts)
changed-at (x ∷ ts) (suc i) t u is same = (same-track x, changed-at ts i t u is same)

-- one machine answered, and there was no memory
pub one-left : {R E : Type 0} (result : Result R E) (ts : List Track) (i : ℕ) (t u : Track) → t ≡ get_or ts i t → OnErr result (IsSameButTables t u) → OnErr result (AllZip IsSameButTables ts (slice_set ts i u))
one-left (Ok done) ts i t u is left = tt
one-left (Err why) ts i t u is left = changed-at ts i t u is left

-- no machine answered, and there was no memory
pub none-left : {R E : Type 0} (result : Result R E) (ts us : List Track) → OnErr result (us ≡ ts) → OnErr result (AllZip IsSameButTables ts us)
none-left (Ok done) ts us same = tt
none-left (Err why) ts us same = subst (AllZip IsSameButTables ts) (sym same) (same-tracks ts)
