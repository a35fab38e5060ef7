-- Private: no public contract cites this. Workers that were seated, run and joined again.
use Rattle.std.{proofs.Common.{◌≡◌, ◌+◌, ℕ, List, [], ◌∷◌, ◌++◌, length, map, take, drop, refl, ap, subst, arith}, specs.List.AllByRecursion}
use Rattle.std.proofs.lemmas.List.{length-append, take-append-drop}
use Rattle.side_by_side.specs.Runs.{AllWorked}
use Rattle.track_outside.specs.declared.runner.Runner as runner
use Rattle.worker_crew.specs.{Rooms.IsPassOf, Sights.{Home, Sight, splitting}, Seats.Seat, Shared.SplitsAll, Seated.{bisect_seat, recompute_seat}}
use Rattle.worker_crew.specs.Workers.{Bisects, HaveWorked, IsOfRoom, IsSeated, Working, workers_from}

pub workers-long : (room : List Home) (word : List ℕ) (n : ℕ) (passes : List (List Sight)) → length (workers_from room word n passes) ≡ length passes
workers-long room word n [] = refl
workers-long room word n (p ∷ passes) = let rest = workers-long room word (n + 1) passes in omega (arith, rest)

-- ---- some passes behind others
pub splits-go-on : (a b c : List Sight) (xs ys : List (List Sight)) → SplitsAll a xs b → SplitsAll b ys c → SplitsAll a (xs ++ ys) c
splits-go-on a b c [] ys one two = subst (λ (x : List Sight). SplitsAll x ys c) one two
splits-go-on a b c (x ∷ xs) ys one two = (one.0, splits-go-on (map splitting a) b c xs ys one.1 two)

-- ---- they can work
pub all-seated : (room : List Home) (word : List ℕ) (n : ℕ) (passes : List (List Sight)) → AllByRecursion (IsPassOf room) passes → AllByRecursion IsSeated (workers_from room word n passes)
all-seated room word n [] all = tt
all-seated room word n (p ∷ passes) all = (all.0, all-seated room word (n + 1) passes all.1)

-- ---- and are still at their room
pub recomputers-there : (room : List Home) (ws : List Working) → AllByRecursion (λ (i : Seat). IsPassOf room i.pass) (map recompute_seat ws) → AllByRecursion (IsOfRoom room) ws
recomputers-there room [] all = tt
recomputers-there room (w ∷ ws) all = (all.0, recomputers-there room ws all.1)

pub bisectors-there : (room : List Home) (ws : List Working) → AllByRecursion (λ (i : Seat). IsPassOf room i.pass) (map bisect_seat ws) → AllByRecursion (IsOfRoom room) ws
bisectors-there room [] all = tt
bisectors-there room (w ∷ ws) all = (all.0, bisectors-there room ws all.1)

-- ---- each that worked was seated, and the runners behind the last stayed
pub worked-at : {A : Type 0} (r : runner.Ghosts A) (n : ℕ) (old new : List Working) (began worked : List A) → length old ≡ n → HaveWorked r old began new worked
    → AllWorked (Bisects r) old (take n began) new (take n worked)
worked-at r n old new began worked many h = subst (λ (k : ℕ). AllWorked (Bisects r) old (take k began) new (take k worked)) many h.worked

pub others-at : {A : Type 0} (r : runner.Ghosts A) (n : ℕ) (old new : List Working) (began worked : List A) → length old ≡ n → HaveWorked r old began new worked
    → drop n worked ≡ drop n began
others-at r n old new began worked many h = subst (λ (k : ℕ). drop k worked ≡ drop k began) many h.others

-- as many runners as before, where those in front and those behind are as many
pub as-many : {A : Type 0} (n : ℕ) (xs ys : List A) → length (take n ys) ≡ length (take n xs) → drop n ys ≡ drop n xs → length ys ≡ length xs
as-many n xs ys front behind =
    let one = ap length (take-append-drop n xs) in
    let two = ap length (take-append-drop n ys) in
    let three = length-append (take n xs) (drop n xs) in
    let four = length-append (take n ys) (drop n ys) in
    let five = ap length behind in
    omega (arith, one, two, three, four, five, front)
