-- Private: no public contract cites this. What main does for workers of each kind, if there are some.
use Rattle.std.proofs.Common.{arith, ◌≡◌, ◌≢◌, ℕ, zero, suc, Bool, true, List, [], ◌∷◌, ◌++◌, length, take, drop, refl, sym, ap, subst}
use Rattle.std.{specs.Prelude.{◌&&◌, OnOk, Result, is_ok}, specs.List.{AllByRecursion, AllZip}, proofs.lemmas.Grind.common_steps}
use Rattle.std.proofs.lemmas.Slice.Zip.{AllZip-long}
use Rattle.track_outside.specs.declared.runner.Runner as runner
use Rattle.command_words.specs.Plans.{Plan}
use Rattle.history_model.specs.declared.entries.Author.TheVariants.{Recompute}
use Rattle.track_model.specs.Tracks.{Track}
use Rattle.worker_crew.specs.{Recomputing.AddsPublications, Work.Work, Fitting.IsUnasked, Sights.tracks_of}
use Rattle.worker_crew.specs.Runs.{BisectsEach, BisectsLast, IsNew, RecomputesLast, Tally, runners_by}
use Rattle.shared_run.specs.Crews.{Finishes}

pub recomputes-none : (workers : ℕ) (old : List Track) → workers ≡ 0 → RecomputesLast workers old old
recomputes-none workers old none = subst (λ (n : ℕ). RecomputesLast n old old) (sym none) refl

pub recomputes-some : (workers : ℕ) (old new : List Track) → workers ≢ 0 → AllZip (AddsPublications (Recompute 1)) old new → RecomputesLast workers old new
recomputes-some workers old new some all = grind (arith, common_steps)

-- what holds where there was memory for all of it
pub when-ok : {E P : Type 0} (r : Result (Unit {0}) E) → OnOk r P → is_ok r ≡ true → P
when-ok r p is = grind (arith, common_steps)

-- runners that weren't asked before, and of which nothing was asked, are so still
pub still-unasked : (tallies : List Tally) → AllByRecursion IsNew tallies → AllByRecursion IsUnasked (runners_by tallies tallies)
still-unasked [] all = tt
still-unasked (t ∷ tallies) all = (record { asks = all.0; counts = omega arith }, still-unasked tallies all.1)

-- what main did, where less is said of it
pub finishes-less : {A : Type 0} (r : runner.Ghosts A) (plan : Plan) (left journals : List Track) (worked ended : List A) (done full : Bool) → (full ≡ true → done ≡ true) → Finishes r plan left journals worked ended done
    → Finishes r plan left journals worked ended full
finishes-less r plan left journals worked ended done full so f = record { main = f.main; series = λ is one. f.series (so is) one; jobs = λ is one. f.jobs (so is) one }

-- as many machines are there then
pub recomputes-long : (workers : ℕ) (olds news : List Track) → RecomputesLast workers olds news → length news ≡ length olds
recomputes-long zero olds news is = ap length is
recomputes-long (suc n) olds news is = AllZip-long (AddsPublications (Recompute 1)) olds news is

each-long : (word : List ℕ) (olds news : List Track) (t u : Tally) → BisectsEach word olds news t u → length news ≡ length olds
each-long word [] [] t u is = refl
each-long word [] (n ∷ news) t u is = absurd is
each-long word (o ∷ olds) [] t u is = absurd is
each-long word (o ∷ olds) (n ∷ news) t u is = let rest = each-long word olds news is.0 u is.2 in omega (arith, rest)

pub bisects-long : (workers : ℕ) (word : List ℕ) (olds news : List Track) (before after : List Tally) → BisectsLast workers word olds news before after → length news ≡ length olds
bisects-long workers word olds news before after is = grind (arith, common_steps, length, each-long)

-- so all of the states is what was written back of them last
pub written-back : (len : ℕ) (new old : List Work) → len ≡ length old → length (tracks_of new) ≡ length (tracks_of old) → take len (new ++ drop (length new) old) ≡ new
written-back len new old is same = grind (arith, common_steps)

pub both-back : (len : ℕ) (left made last : List Work) → len ≡ length left → length (tracks_of made) ≡ length (tracks_of left) → length (tracks_of last) ≡ length (tracks_of made)
    → take len (last ++ drop (length last) (take len (made ++ drop (length made) left))) ≡ last
both-back len left made last is one two = grind (arith, common_steps)

-- both of two tests that came out true
pub first-true : (one other both : Bool) → both ≡ (one && other) → both ≡ true → one ≡ true
first-true one other both is so = grind (arith, common_steps)

pub second-true : (one other both : Bool) → both ≡ (one && other) → both ≡ true → other ≡ true
second-true one other both is so = grind (arith, common_steps)
