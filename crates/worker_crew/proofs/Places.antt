-- Private: no public contract cites this. Seats, runners and machines of a whole run, by their places.
use Rattle.std.proofs.Common.{◌≡◌, ◌<◌, ◌≤◌, ◌+◌, ℕ, zero, suc, inl, inr, false, List, [], ◌∷◌, ◌++◌, length, map, refl, sym, ap, ap₂, subst, ◌∙◌, Some, arith}
use Rattle.std.{specs.Prelude.{◌⊎◌, Contains, bytes_eq, slice_get}, specs.List.{AllByRecursion, AllZip}, proofs.lemmas.Grind.common_steps}
use Rattle.history_lock.specs.Marks.{entries}
use Rattle.history_model.specs.declared.entries.Author.TheVariants as author
use Rattle.history_model.specs.declared.entries.Placed.{Placed}
use Rattle.track_model.specs.Tracks.{Track}
use Rattle.play_crew.specs.{Asked.names_of, Sights.{EndsWhole, Home, Sight}, Seats.{AreDifferent, IsOther, Seat, seen_in}, Shared.{AreKeptAs, onto}}
use Rattle.play_fits.specs.{Journals.{history_in, machines_of}, Workers.Asked}
use Rattle.play_crew.proofs.Fitting.{from-onto, same-some}
use Rattle.worker_crew.{specs.Runs.{AreBisectedFrom, AreRecomputedFrom, BisectsEach, BisectsLast, IsBisectedAt, Tally, runners_by}, proofs.Late.Adds}
use Rattle.worker_crew.proofs.Tied.{Distinct}

no-item : {A : Type 0} (k : ℕ) (x : A) → slice_get [] k ≡ Some x → ⊥
no-item k x is = cc

-- ---- two lists

pub split-at : {A : Type 0} (xs ys : List A) (k : ℕ) (x : A) → slice_get (xs ++ ys) k ≡ Some x → ((j : ℕ) × (slice_get xs j ≡ Some x)) ⊎ ((j : ℕ) × (slice_get ys j ≡ Some x))
split-at [] ys k x is = inr (k, is)
split-at (y ∷ xs) ys zero x is = inl (0, is)
split-at (y ∷ xs) ys (suc k) x is = by (split-at xs ys k x is)
  where
    by : ((j : ℕ) × (slice_get xs j ≡ Some x)) ⊎ ((j : ℕ) × (slice_get ys j ≡ Some x)) → ((j : ℕ) × (slice_get (y ∷ xs) j ≡ Some x)) ⊎ ((j : ℕ) × (slice_get ys j ≡ Some x))
    by (inl front) = inl (suc front.0, front.1)
    by (inr back) = inr back

pub at-front : {A : Type 0} (xs ys : List A) (k : ℕ) (x : A) → slice_get xs k ≡ Some x → slice_get (xs ++ ys) k ≡ Some x
at-front [] ys k x is = absurd (no-item k x is)
at-front (y ∷ xs) ys zero x is = is
at-front (y ∷ xs) ys (suc k) x is = at-front xs ys k x is

pub at-back : {A : Type 0} (xs ys : List A) (k : ℕ) (x : A) → slice_get ys k ≡ Some x → (j : ℕ) × (slice_get (xs ++ ys) j ≡ Some x)
at-back [] ys k x is = (k, is)
at-back (y ∷ xs) ys k x is = let rest = at-back xs ys k x is in (suc rest.0, rest.1)

pub all-front : {A : Type 0} (P : A → Type 0) (xs ys : List A) → AllByRecursion P (xs ++ ys) → AllByRecursion P xs
all-front P [] ys all = tt
all-front P (x ∷ xs) ys all = (all.0, all-front P xs ys all.1)

pub all-back : {A : Type 0} (P : A → Type 0) (xs ys : List A) → AllByRecursion P (xs ++ ys) → AllByRecursion P ys
all-back P [] ys all = all
all-back P (x ∷ xs) ys all = all-back P xs ys all.1

-- ---- who sits there
pub recompute-author : (n : ℕ) (bs : List (List Sight)) (us : List Seat) → AreRecomputedFrom n bs us → (k : ℕ) (a : Seat) → slice_get us k ≡ Some a → a.author ≡ author.Recompute (n + k)
recompute-author n [] [] all k a is = absurd (no-item k a is)
recompute-author n [] (x ∷ us) all k a is = absurd all
recompute-author n (b ∷ bs) [] all k a is = absurd all
recompute-author n (b ∷ bs) (x ∷ us) all zero a is = grind (arith, common_steps)
recompute-author n (b ∷ bs) (x ∷ us) all (suc k) a is = grind (arith, common_steps, recompute-author (n + 1) bs us all.1 k a is)

pub bisect-author : (word : List ℕ) (n : ℕ) (bs : List (List Sight)) (us : List Seat) (old new : List Tally) → AreBisectedFrom word n bs us old new → (k : ℕ) (a : Seat) → slice_get us k ≡ Some a → a.author ≡ author.Bisect (n + k)
bisect-author word n [] [] old new all k a is = absurd (no-item k a is)
bisect-author word n [] (x ∷ us) old new all k a is = absurd all
bisect-author word n (b ∷ bs) [] old new all k a is = absurd all
bisect-author word n (b ∷ bs) (x ∷ us) [] new all k a is = absurd all
bisect-author word n (b ∷ bs) (x ∷ us) (t ∷ old) [] all k a is = absurd all
bisect-author word n (b ∷ bs) (x ∷ us) (t ∷ old) (u ∷ new) all zero a is = grind (arith, common_steps)
bisect-author word n (b ∷ bs) (x ∷ us) (t ∷ old) (u ∷ new) all (suc k) a is =
    let next : n + suc k ≡ (n + 1) + k = omega arith in
    rw next (bisect-author word (n + 1) bs us old new all.1 k a is)

script-number : (i j : ℕ) → author.Script i ≡ author.Script j → i ≡ j
script-number i j is = cc

-- seats with different authors
module _ (scripts recomputers bisectors : List Seat)
    (of_script : (k : ℕ) (a : Seat) → slice_get scripts k ≡ Some a → a.author ≡ author.Script (1 + k))
    (of_recompute : (k : ℕ) (a : Seat) → slice_get recomputers k ≡ Some a → a.author ≡ author.Recompute (1 + k))
    (of_bisect : (k : ℕ) (a : Seat) → slice_get bisectors k ≡ Some a → a.author ≡ author.Bisect (1 + k)) where
  abbrev Kind : Seat → Type 0
  Kind i = ((k : ℕ) × (slice_get scripts k ≡ Some i)) ⊎ (((k : ℕ) × (slice_get recomputers k ≡ Some i)) ⊎ ((k : ℕ) × (slice_get bisectors k ≡ Some i)))

  kind-at : (k : ℕ) (i : Seat) → slice_get (scripts ++ (recomputers ++ bisectors)) k ≡ Some i → Kind i
  kind-at k i is = grind (arith, common_steps, split-at, scripts, recomputers, bisectors, k)

  kind-of : (i : Seat) → Contains (onto (scripts ++ (recomputers ++ bisectors)) []) i → Kind i
  kind-of i one = by (from-onto (scripts ++ (recomputers ++ bisectors)) [] i one)
    where
      by : ((k : ℕ) × (slice_get (scripts ++ (recomputers ++ bisectors)) k ≡ Some i)) ⊎ Contains [] i → Kind i
      by (inl at) = kind-at at.0 i at.1
      by (inr c) = absurd (let less = c.1 in omega (arith, less))

  one-place : (seats : List Seat) (k l : ℕ) (i j : Seat) → slice_get seats k ≡ Some i → slice_get seats l ≡ Some j → 1 + k ≡ 1 + l → i ≡ j
  one-place seats k l i j at to same = let place : k ≡ l = omega (arith, same) in same-some i j (sym at ∙ ap (λ (n : ℕ). slice_get seats n) place ∙ to)

  kinds-apart : (i j : Seat) → i.author ≡ j.author → Kind i → Kind j → i ≡ j
  kinds-apart i j same x3 x4 = grind (arith, common_steps)

  pub seats-apart : (i j : Seat) → Contains (onto (scripts ++ (recomputers ++ bisectors)) []) i → Contains (onto (scripts ++ (recomputers ++ bisectors)) []) j → i.author ≡ j.author → i ≡ j
  seats-apart i j one two same = kinds-apart i j same (kind-of i one) (kind-of j two)

-- ---- the runner at a place
pub record RunnerAt (began ended : List Tally) (i : ℕ) (a : Asked) : Type 0 where
  pub before : Tally
  pub after : Tally
  pub from : slice_get began i ≡ Some before
  pub to : slice_get ended i ≡ Some after
  pub is : record { asks = after.asks; before = before.faults; after = after.faults } ≡ a

pub runner-at : (began ended : List Tally) (i : ℕ) (a : Asked) → slice_get (runners_by began ended) i ≡ Some a → RunnerAt began ended i a
runner-at [] ended i a is = absurd (no-item i a is)
runner-at (t ∷ began) [] i a is = absurd (no-item i a is)
runner-at (t ∷ began) (u ∷ ended) zero a is = record { before = t; after = u; from = refl; to = refl; is = same-some (record { asks = u.asks; before = t.faults; after = u.faults }) a is }
runner-at (t ∷ began) (u ∷ ended) (suc i) a is = let r = runner-at began ended i a is in record { before = r.before; after = r.after; from = r.from; to = r.to; is = r.is }

-- the worker of a runner
pub record WorkerAt (word : List ℕ) (n : ℕ) (bs : List (List Sight)) (us : List Seat) (old new : List Tally) (k : ℕ) : Type 0 where
  pub before : List Sight
  pub after : Seat
  pub tally : Tally
  pub tally' : Tally
  pub from : slice_get bs k ≡ Some before
  pub to : slice_get us k ≡ Some after
  pub had : slice_get old k ≡ Some tally
  pub has : slice_get new k ≡ Some tally'
  pub worked : IsBisectedAt word (n + k) before after tally tally'

pub worker-at : (word : List ℕ) (n : ℕ) (bs : List (List Sight)) (us : List Seat) (old new : List Tally) → AreBisectedFrom word n bs us old new → (k : ℕ) → k < length us → WorkerAt word n bs us old new k
worker-at word n [] [] old new all k less = absurd (omega (arith, less))
worker-at word n [] (x ∷ us) old new all k less = absurd all
worker-at word n (b ∷ bs) [] old new all k less = absurd all
worker-at word n (b ∷ bs) (x ∷ us) [] new all k less = absurd all
worker-at word n (b ∷ bs) (x ∷ us) (t ∷ old) [] all k less = absurd all
worker-at word n (b ∷ bs) (x ∷ us) (t ∷ old) (u ∷ new) all zero less =
    let first : n ≡ n + 0 = omega arith in
    record { before = b; after = x; tally = t; tally' = u; from = refl; to = refl; had = refl; has = refl; worked = subst (λ (j : ℕ). IsBisectedAt word j b x t u) first all.0 }
worker-at word n (b ∷ bs) (x ∷ us) (t ∷ old) (u ∷ new) all (suc k) less =
    let r = worker-at word (n + 1) bs us old new all.1 k (omega (arith, less)) in
    let next : (n + 1) + k ≡ n + suc k = omega arith in
    record {
      before = r.before;
      after = r.after;
      tally = r.tally;
      tally' = r.tally';
      from = r.from;
      to = r.to;
      had = r.had;
      has = r.has;
      worked = subst (λ (j : ℕ). IsBisectedAt word j r.before r.after r.tally r.tally') next r.worked;
    }

-- a runner without a worker
pub idle-at : (word : List ℕ) (n : ℕ) (bs : List (List Sight)) (us : List Seat) (old new : List Tally) → AreBisectedFrom word n bs us old new → (k : ℕ) → length us ≤ k → slice_get new k ≡ slice_get old k
idle-at word n [] [] old new all k le = ap (λ (l : List Tally). slice_get l k) all
idle-at word n [] (x ∷ us) old new all k le = absurd all
idle-at word n (b ∷ bs) [] old new all k le = absurd all
idle-at word n (b ∷ bs) (x ∷ us) [] new all k le = absurd all
idle-at word n (b ∷ bs) (x ∷ us) (t ∷ old) [] all k le = absurd all
idle-at word n (b ∷ bs) (x ∷ us) (t ∷ old) (u ∷ new) all zero le = absurd (omega (arith, le))
idle-at word n (b ∷ bs) (x ∷ us) (t ∷ old) (u ∷ new) all (suc k) le = idle-at word (n + 1) bs us old new all.1 k (omega (arith, le))

-- what main does with a runner: the first is asked at last, the others stay
pub record FirstAt (word : List ℕ) (olds news : List Track) (before after : List Tally) : Type 0 where
  pub tally : Tally
  pub tally' : Tally
  pub had : slice_get before 0 ≡ Some tally
  pub has : slice_get after 0 ≡ Some tally'
  pub each : BisectsEach word olds news tally tally'
  pub rest : (k : ℕ) → slice_get after (suc k) ≡ slice_get before (suc k)

pub first-at : (workers : ℕ) (word : List ℕ) (olds news : List Track) (before after : List Tally) → 1 ≤ workers → BisectsLast workers word olds news before after → FirstAt word olds news before after
first-at workers word olds news before after some is = grind (arith, common_steps)

-- a runner without a worker isn't asked at last
pub idle-last : (workers : ℕ) (word : List ℕ) (olds news : List Track) (before after : List Tally) → BisectsLast workers word olds news before after → (k : ℕ) → workers ≤ k → slice_get after k ≡ slice_get before k
idle-last workers word olds news before after is k le = grind (arith, common_steps)

-- ---- the machines that the room leaves
pub left-histories : (last : List Sight) (left : List Track) → AllZip EndsWhole last left → (m : List ℕ) → history_in left m ≡ entries (seen_in last m)
left-histories [] [] all m = refl
left-histories [] (t ∷ left) all m = absurd all
left-histories (s ∷ last) [] all m = absurd all
left-histories (s ∷ last) (t ∷ left) all m = grind (arith, common_steps, left-histories last left all.1 m)

pub left-names : (last : List Sight) (left : List Track) → AllZip EndsWhole last left → machines_of left ≡ names_of (map (λ (s : Sight). s.home) last)
left-names [] [] all = refl
left-names [] (t ∷ left) all = absurd all
left-names (s ∷ last) [] all = absurd all
left-names (s ∷ last) (t ∷ left) all = ap₂ (λ (x : List ℕ) (xs : List (List ℕ)). x ∷ xs) (ap (λ (u : Track). u.machine) all.0.0) (left-names last left all.1)

-- the same machine, which the store had or hadn't
abbrev pub IsSame : Track → Track → Type 0
IsSame old new = (new.machine ≡ old.machine) × (new.kept ≡ old.kept)

pub left-same : (tracks : List Track) (last : List Sight) (left : List Track) → AreKeptAs tracks last → machines_of tracks ≡ names_of (map (λ (s : Sight). s.home) last) → AllZip EndsWhole last left → AllZip IsSame tracks left
left-same [] [] [] kept names all = tt
left-same [] [] (l ∷ left) kept names all = absurd all
left-same [] (s ∷ last) left kept names all = absurd kept
left-same (t ∷ tracks) [] left kept names all = absurd kept
left-same (t ∷ tracks) (s ∷ last) [] kept names all = absurd all
left-same (t ∷ tracks) (s ∷ last) (l ∷ left) kept names all =
    let name : t.machine ≡ s.home.machine = cc in
    let rest : machines_of tracks ≡ names_of (map (λ (x : Sight). x.home) last) = cc in (
      (ap (λ (u : Track). u.machine) all.0.0 ∙ sym name, ap (λ (u : Track). u.kept) all.0.0 ∙ kept.0),
      left-same tracks last left kept.1 rest all.1,
    )

pub same-adds : (P : Placed → Type 0) (tracks left news : List Track) → AllZip IsSame tracks left → AllZip (Adds P) left news → AllZip IsSame tracks news
same-adds P [] [] [] one two = tt
same-adds P [] [] (n ∷ news) one two = absurd two
same-adds P [] (l ∷ left) news one two = absurd one
same-adds P (t ∷ tracks) [] news one two = absurd one
same-adds P (t ∷ tracks) (l ∷ left) [] one two = absurd two
same-adds P (t ∷ tracks) (l ∷ left) (n ∷ news) one two = ((two.0.machine ∙ one.0.0, two.0.kept ∙ one.0.1), same-adds P tracks left news one.1 two.1)

-- ---- names
others-distinct : (name : List ℕ) (room : List Home) → AllByRecursion (IsOther name) room → AllByRecursion (λ (b : List ℕ). bytes_eq name b ≡ false) (names_of room)
others-distinct name [] all = tt
others-distinct name (h ∷ room) all = (all.0, others-distinct name room all.1)

pub names-distinct : (room : List Home) → AreDifferent room → Distinct (names_of room)
names-distinct [] all = tt
names-distinct (h ∷ room) all = (others-distinct h.machine room all.0, names-distinct room all.1)
