-- Private: no public contract cites this. Workers that were run, as seats of their room.
use Rattle.std.proofs.lemmas.Grind.{common_steps}
use Rattle.std.{proofs.Common.{◌≡◌, ◌+◌, ℕ, suc, List, [], ◌∷◌, ◌++◌, length, map, refl, ap, ap₂, subst, ◌∙◌, arith}, specs.Prelude.zip, specs.List.AllZip}
use Rattle.track_outside.specs.declared.runner.Runner as runner
use Rattle.history_model.specs.declared.entries.Author.{Author}
use Rattle.history_model.specs.declared.entries.Author.TheVariants as author
use Rattle.side_by_side.specs.Runs.{AllWorked}
use Rattle.track_model.specs.Tracks.{Track}
use Rattle.play_crew.specs.{Rooms.{AreSame, IsPassOf, badge}, Sights.{Home, IsFirstOf, Sight, splitting}, Seats.Seat}
use Rattle.recompute_workers.specs.Works.{Works}
use Rattle.bisect_workers.specs.Beside.{EachBisects, Use}
use Rattle.play_crew.specs.Shared.{IsShared, JoinsAll, SplitsAll, pass_of}
use Rattle.play_fits.proofs.Lists.{all-append}
use Rattle.worker_crew.specs.Runs.{AreBisectedFrom, AreRecomputedFrom, IsBisectedAt, IsRecomputedAt, Tally}
use Rattle.worker_crew.specs.Workers.{Bisects, Recomputes, Working, workers_from, working_at}
use Rattle.worker_crew.specs.Seated.{AreSeated, HaveBisected, HaveRecomputed, bisect_seat, recompute_seat, tally_of}

-- ---- who a pass is
works-same : (w : Author) (old new : List Sight) → AllZip (Works w) old new → AreSame old new
works-same w [] [] all = refl
works-same w [] (t ∷ new) all = absurd all
works-same w (s ∷ old) [] all = absurd all
works-same w (s ∷ old) (t ∷ new) all = ap₂ (λ (x : Sight) (xs : List Sight). x ∷ xs) (ap badge all.0.2) (works-same w old new all.1)

bisects-same : (w : Author) (uses : List Use) (place : ℕ) (old new : List Sight) → EachBisects w uses place old new → AreSame old new
bisects-same w uses place [] [] all = refl
bisects-same w uses place [] (t ∷ new) all = absurd all
bisects-same w uses place (s ∷ old) [] all = absurd all
bisects-same w uses place (s ∷ old) (t ∷ new) all = ap₂ (λ (x : Sight) (xs : List Sight). x ∷ xs) (ap badge all.0.sees) (bisects-same w uses (suc place) old new all.1)

-- ---- workers that recomputed
recomputed-at : (room : List Home) (word : List ℕ) (n : ℕ) (b : List Sight) (w : Working) → Recomputes (working_at room word n b) w → IsRecomputedAt n b (recompute_seat w)
recomputed-at room word n b w r = record { author = ap (λ (k : ℕ). author.Recompute k) r.same.number; works = r.works }

recomputed-from : (room : List Home) (word : List ℕ) (n : ℕ) (passes : List (List Sight)) (workers : List Working) → AllZip Recomputes (workers_from room word n passes) workers → AreRecomputedFrom n passes (map recompute_seat workers)
recomputed-from room word n [] [] all = tt
recomputed-from room word n [] (w ∷ workers) all = absurd all
recomputed-from room word n (b ∷ passes) [] all = absurd all
recomputed-from room word n (b ∷ passes) (w ∷ workers) all = (recomputed-at room word n b w all.0, recomputed-from room word (n + 1) passes workers all.1)

recomputed-seated : (room : List Home) (word : List ℕ) (n : ℕ) (passes : List (List Sight)) (workers : List Working) → AllZip Recomputes (workers_from room word n passes) workers → AreSeated room passes (map recompute_seat workers)
recomputed-seated room word n [] [] all = record { same = tt; of_room = tt; many = refl }
recomputed-seated room word n [] (w ∷ workers) all = absurd all
recomputed-seated room word n (b ∷ passes) [] all = absurd all
recomputed-seated room word n (b ∷ passes) (w ∷ workers) all =
    let rest = recomputed-seated room word (n + 1) passes workers all.1 in
    record {
      same = (works-same (author.Recompute n) b w.pass all.0.works, rest.same);
      of_room = (all.0.same.seated, rest.of_room);
      many = let many = rest.many in omega (arith, many);
    }

pub recomputers-sit : (room : List Home) (word : List ℕ) (passes : List (List Sight)) (workers : List Working) → AllZip Recomputes (workers_from room word 1 passes) workers → HaveRecomputed room passes workers
recomputers-sit room word passes workers all = record { from = recomputed-from room word 1 passes workers all; seated = recomputed-seated room word 1 passes workers all }

-- ---- workers that bisected
module _ {A : Type 0} (r : runner.Ghosts A) where
  abbrev Worked : Working × A → Working × A → Type 0
  Worked old new = Bisects r old.0 old.1 new.0 new.1

  bisected-at : (room : List Home) (word : List ℕ) (n : ℕ) (b : List Sight) (a : A) (w : Working) (c : A) → Bisects r (working_at room word n b) a w c → IsBisectedAt word n b (bisect_seat w) (tally_of r a) (tally_of r c)
  bisected-at room word n b a w c is = record { author = ap (λ (k : ℕ). author.Bisect k) is.same.number; bisected = is.bisected }

  bisected-from : (room : List Home) (word : List ℕ) (n : ℕ) (passes : List (List Sight)) (old : List A) (workers : List Working) (new : List A) → length old ≡ length passes → length workers ≡ length passes → length new ≡ length passes
      → AllZip Worked (zip (workers_from room word n passes) old) (zip workers new) → (behind : List Tally) → AreBisectedFrom word n passes (map bisect_seat workers) (map (tally_of r) old ++ behind) (map (tally_of r) new ++ behind)
  bisected-from room word n [] [] [] [] a b c all behind = refl
  bisected-from room word n [] (x ∷ old) workers new a b c all behind = absurd (omega (arith, a))
  bisected-from room word n [] [] (w ∷ workers) new a b c all behind = absurd (omega (arith, b))
  bisected-from room word n [] [] [] (y ∷ new) a b c all behind = absurd (omega (arith, c))
  bisected-from room word n (p ∷ passes) [] workers new a b c all behind = absurd (omega (arith, a))
  bisected-from room word n (p ∷ passes) (x ∷ old) [] new a b c all behind = absurd (omega (arith, b))
  bisected-from room word n (p ∷ passes) (x ∷ old) (w ∷ workers) [] a b c all behind = absurd (omega (arith, c))
  bisected-from room word n (p ∷ passes) (x ∷ old) (w ∷ workers) (y ∷ new) a b c all behind = (
    bisected-at room word n p x w y all.0,
    bisected-from room word (n + 1) passes old workers new (omega (arith, a)) (omega (arith, b)) (omega (arith, c)) all.1 behind,
  )

  bisected-seated : (room : List Home) (word : List ℕ) (n : ℕ) (passes : List (List Sight)) (old : List A) (workers : List Working) (new : List A) → length old ≡ length passes → length workers ≡ length passes → length new ≡ length passes
      → AllZip Worked (zip (workers_from room word n passes) old) (zip workers new) → AreSeated room passes (map bisect_seat workers)
  bisected-seated room word n [] [] [] [] a b c all = record { same = tt; of_room = tt; many = refl }
  bisected-seated room word n [] (x ∷ old) workers new a b c all = absurd (omega (arith, a))
  bisected-seated room word n [] [] (w ∷ workers) new a b c all = absurd (omega (arith, b))
  bisected-seated room word n [] [] [] (y ∷ new) a b c all = absurd (omega (arith, c))
  bisected-seated room word n (p ∷ passes) [] workers new a b c all = absurd (omega (arith, a))
  bisected-seated room word n (p ∷ passes) (x ∷ old) [] new a b c all = absurd (omega (arith, b))
  bisected-seated room word n (p ∷ passes) (x ∷ old) (w ∷ workers) [] a b c all = absurd (omega (arith, c))
  bisected-seated room word n (p ∷ passes) (x ∷ old) (w ∷ workers) (y ∷ new) a b c all =
      let rest = bisected-seated room word (n + 1) passes old workers new (omega (arith, a)) (omega (arith, b)) (omega (arith, c)) all.1 in
      record {
        same = (bisects-same (author.Bisect n) all.0.bisected.uses 0 p w.pass all.0.bisected.each, rest.same);
        of_room = (all.0.same.seated, rest.of_room);
        many = let many = rest.many in omega (arith, many);
      }

  from-long : (room : List Home) (word : List ℕ) (n : ℕ) (passes : List (List Sight)) → length (workers_from room word n passes) ≡ length passes
  from-long room word n [] = refl
  from-long room word n (p ∷ passes) = ap suc (from-long room word (n + 1) passes)

  pub bisectors-sit : (room : List Home) (word : List ℕ) (passes : List (List Sight)) (old : List A) (workers : List Working) (new : List A) → length old ≡ length passes
      → AllWorked (Bisects r) (workers_from room word 1 passes) old workers new → HaveBisected r room word passes old workers new
  bisectors-sit room word passes old workers new long all =
      let size = from-long room word 1 passes in
      let one : length workers ≡ length passes = all.workers_kept ∙ size in
      let two : length new ≡ length passes = all.tools_kept ∙ long in
      record {
        from = bisected-from room word 1 passes old workers new long one two all.worked;
        seated = bisected-seated room word 1 passes old workers new long one two all.worked;
      }

-- ---- some passes behind others
pub splits-go-on : (a b c : List Sight) (xs ys : List (List Sight)) → SplitsAll a xs b → SplitsAll b ys c → SplitsAll a (xs ++ ys) c
splits-go-on a b c [] ys one two = subst (λ (x : List Sight). SplitsAll x ys c) one two
splits-go-on a b c (x ∷ xs) ys one two = (one.0, splits-go-on (map splitting a) b c xs ys one.1 two)

pub joins-go-on : (a b c : List Sight) (xs ys : List (List Sight)) → JoinsAll a xs b → JoinsAll b ys c → JoinsAll a (xs ++ ys) c
joins-go-on a b c [] ys one two = subst (λ (x : List Sight). JoinsAll x ys c) one two
joins-go-on a b c (x ∷ xs) ys one two = (one.0, one.1, joins-go-on one.0 b c xs ys one.2 two)

-- ---- seats of one room
zip-append : {A B : Type 0} (R : A → B → Type 0) (xs : List A) (ys : List B) (us : List A) (vs : List B) → AllZip R xs ys → AllZip R us vs → AllZip R (xs ++ us) (ys ++ vs)
zip-append R [] [] us vs one two = two
zip-append R [] (y ∷ ys) us vs one two = absurd one
zip-append R (x ∷ xs) [] us vs one two = absurd one
zip-append R (x ∷ xs) (y ∷ ys) us vs one two = (one.0, zip-append R xs ys us vs one.1 two)

pub seats-share : (tracks : List Track) (room : List Home) (first between last : List Sight) (ps qs rs : List (List Sight)) (us vs ws : List Seat)
    → IsPassOf room first → AllZip IsFirstOf tracks first → SplitsAll first (ps ++ (qs ++ rs)) between
    → AreSeated room ps us → AreSeated room qs vs → AreSeated room rs ws
    → JoinsAll between (map pass_of us ++ (map pass_of vs ++ map pass_of ws)) last
    → IsShared tracks room (ps ++ (qs ++ rs)) (us ++ (vs ++ ws)) first last
seats-share tracks room first between last ps qs rs us vs ws of starts splits one two three joins = record {
  of_room = of;
  starts = starts;
  between = between;
  splits = splits;
  seated = all-append (λ (i : Seat). IsPassOf room i.pass) us (vs ++ ws) one.of_room (all-append (λ (i : Seat). IsPassOf room i.pass) vs ws two.of_room three.of_room);
  same = zip-append (λ (b : List Sight) (i : Seat). AreSame b i.pass) ps us (qs ++ rs) (vs ++ ws) one.same (zip-append (λ (b : List Sight) (i : Seat). AreSame b i.pass) qs vs rs ws two.same three.same);
  joins = grind (arith, common_steps);
}
