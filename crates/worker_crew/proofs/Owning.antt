-- Private: no public contract cites this. What a worker's pass made is its own.
use Rattle.std.proofs.lemmas.Grind.{common_steps}
use Rattle.std.proofs.Common.{◌≡◌, ◌≤◌, ◌+◌, ◌-◌, ℕ, zero, suc, inl, inr, Bool, true, false, List, [], ◌∷◌, ◌++◌, length, refl, sym, ap, ap₂, subst, ◌∙◌, Some, arith}
use Rattle.std.{specs.Prelude.{◌⊎◌, slice_get, bytes_eq, if◌then◌else◌}, specs.List.{AllByRecursion, AllZip}, proofs.lemmas.Bool.cases_lt}
use Rattle.history_lock.specs.{Marks.{IsOtherMark, marked}, declared.view.Marked.Marked}
use Rattle.history_model.specs.declared.entries.{Author.Author, Entry.Entry, Placed.Placed}
use Rattle.history_model.specs.declared.entries.Author.TheVariants as author
use Rattle.history_model.specs.declared.entries.Entry.TheVariants as entry
use Rattle.bisect_workers.specs.Beside.{EachBisects, Use}
use Rattle.track_model.specs.Tracks.{Track}
use Rattle.play_crew.specs.{Sights.{Sight, seeing}, Gathered.OwnsMade, Seats.{Seat, mark_in, seen_in}, Shared.HasSeenKept}
use Rattle.recompute_workers.specs.Works as recomputing
use Rattle.recompute_workers.specs.Works.{Works}
use Rattle.bisect_workers.specs.Beside as bisecting
use Rattle.play_fits.{specs.Journals.history_in, specs.Workers.{Crew, IsOneOf, MayAdd}, proofs.Lists.{stands-behind, stays-before}}
use Rattle.play_crew.proofs.Fitting.{unmarked-at}
use Rattle.worker_crew.specs.Runs.{AreBisectedFrom, AreRecomputedFrom, Tally}

pub placed-is : (p : Placed) (w : Author) (e : Entry) → p.author ≡ w → p.entry ≡ e → p ≡ record { author = w; entry = e }
placed-is p w e one two = ap₂ (λ (v : Author) (x : Entry). let q : Placed = record { author = v; entry = x } in q) one two

pub not-own : (m : ℕ) (ms : List ℕ) → IsOtherMark (m ∷ ms) (Some m) → ⊥
not-own m ms other = other.0 refl

module _ (crew : Crew) (w : Author) where
  -- an entry with the pass's mark is its author's, who may add it
  abbrev pub IsOwn : Sight → Marked Placed → Type 0
  IsOwn s x = x.by ≡ Some s.mark → (x.entry.author ≡ w) × MayAdd crew x.entry

  -- the pass has seen more of a machine, and made such entries alone
  pub record Makes (old new : Sight) : Type 0 where
    pub more : List (Marked Placed)
    pub sees : new ≡ seeing old (old.seen ++ more)
    pub each : AllByRecursion (IsOwn old) more

  own-at : (s : Sight) (xs : List (Marked Placed)) (n : ℕ) (p : Placed) → AllByRecursion (IsOwn s) xs → slice_get xs n ≡ Some (marked p (Some s.mark)) → (p.author ≡ w) × MayAdd crew p
  own-at s [] n p all is = cc
  own-at s (x ∷ xs) zero p all is = grind (arith, common_steps)
  own-at s (x ∷ xs) (suc n) p all is = own-at s xs n p all.1 is

  -- by machine name: an entry with the mark was seen before with a mark, or is its own
  abbrev Old : List Sight → List ℕ → ℕ → Placed → Type 0
  Old before m place p = (mark : ℕ) × (slice_get (seen_in before m) place ≡ Some (marked p (Some mark)))

  named : (before after : List Sight) → AllZip Makes before after → (m : List ℕ) (place : ℕ) (p : Placed)
      → slice_get (seen_in after m) place ≡ Some (marked p (Some (mark_in after m))) → Old before m place p ⊎ ((p.author ≡ w) × MayAdd crew p)
  named [] [] all m place p is = cc
  named [] (t ∷ after) all m place p is = absurd all
  named (s ∷ before) [] all m place p is = absurd all
  named (s ∷ before) (t ∷ after) all m place p is =
      by (named before after all.1 m place p) (bytes_eq s.home.machine m) refl (bytes_eq t.home.machine m) refl
    where
      home : t.home.machine ≡ s.home.machine
      home = ap (λ (u : Sight). u.home.machine) all.0.sees

      mark : t.mark ≡ s.mark
      mark = ap (λ (u : Sight). u.mark) all.0.sees

      seen : t.seen ≡ s.seen ++ all.0.more
      seen = ap (λ (u : Sight). u.seen) all.0.sees

      here : slice_get t.seen place ≡ Some (marked p (Some t.mark)) → ((k : ℕ) × (slice_get s.seen place ≡ Some (marked p (Some k)))) ⊎ ((p.author ≡ w) × MayAdd crew p)
      here at =
          let both : slice_get (s.seen ++ all.0.more) place ≡ Some (marked p (Some s.mark)) = ap (λ (l : List (Marked Placed)). slice_get l place) (sym seen) ∙ at ∙ ap (λ (k : ℕ). Some (marked p (Some k))) mark in
          elim (cases_lt place (length s.seen)) [
            | inl within ↦ inl (s.mark, sym (stays-before s.seen all.0.more place within) ∙ both)
            | inr behind ↦ inr (own-at s all.0.more (place - length s.seen) p all.0.each (stands-behind s.seen all.0.more place (marked p (Some s.mark)) behind both))
          ]

      by : (slice_get (seen_in after m) place ≡ Some (marked p (Some (mark_in after m))) → Old before m place p ⊎ ((p.author ≡ w) × MayAdd crew p)) → (b : Bool) → bytes_eq s.home.machine m ≡ b → (c : Bool) → bytes_eq t.home.machine m ≡ c → Old (s ∷ before) m place p ⊎ ((p.author ≡ w) × MayAdd crew p)
      by rest true old true new =
          let at : slice_get t.seen place ≡ Some (marked p (Some t.mark)) = simp new at is in
          subst (λ (b : Bool). ((k : ℕ) × (slice_get (if b then s.seen else seen_in before m) place ≡ Some (marked p (Some k)))) ⊎ ((p.author ≡ w) × MayAdd crew p)) (sym old) (here at)
      by rest false old false new =
          let at : slice_get (seen_in after m) place ≡ Some (marked p (Some (mark_in after m))) = simp new at is in
          subst (λ (b : Bool). ((k : ℕ) × (slice_get (if b then s.seen else seen_in before m) place ≡ Some (marked p (Some k)))) ⊎ ((p.author ≡ w) × MayAdd crew p)) (sym old) (rest at)
      by rest true old false new = absurd (no (sym old ∙ ap (λ (x : List ℕ). bytes_eq x m) (sym home) ∙ new))
        where
          no : true ≡ false → ⊥
          no is = cc
      by rest false old true new = absurd (no (sym old ∙ ap (λ (x : List ℕ). bytes_eq x m) (sym home) ∙ new))
        where
          no : false ≡ true → ⊥
          no is = cc

  pub owns : (tracks : List Track) (before : List Sight) (a : Seat) → AllZip Makes before a.pass → HasSeenKept tracks before → a.author ≡ w → OwnsMade crew a
  owns tracks before a all saw is m place p made = grind (arith, common_steps, named, w, crew, unmarked-at, history_in, slice_get)

-- what follows of each item follows of all
pub all-to : {A : Type 0} (P Q : A → Type 0) (xs : List A) → ((x : A) → P x → Q x) → AllByRecursion P xs → AllByRecursion Q xs
all-to P Q [] f all = tt
all-to P Q (x ∷ xs) f all = (f x all.0, all-to P Q xs f all.1)

-- ---- a worker that recomputes
publishes-own : (crew : Crew) (n : ℕ) → IsOneOf crew.recompute n → (s : Sight) (x : Marked Placed) → recomputing.IsByWorker (author.Recompute n) s x → IsOwn crew (author.Recompute n) s x
publishes-own crew n one s x x5 is = grind (arith, common_steps)

pub works-make : (crew : Crew) (n : ℕ) → IsOneOf crew.recompute n → (before after : List Sight) → AllZip (Works (author.Recompute n)) before after → AllZip (Makes crew (author.Recompute n)) before after
works-make crew n one [] [] all = tt
works-make crew n one [] (t ∷ after) all = absurd all
works-make crew n one (s ∷ before) [] all = absurd all
works-make crew n one (s ∷ before) (t ∷ after) all = (
  record { more = all.0.0; sees = all.0.2; each = all-to _ _ all.0.0 (publishes-own crew n one s) all.0.1 },
  works-make crew n one before after all.1,
)

-- ---- a worker that bisects

says-own : (crew : Crew) (n : ℕ) → IsOneOf crew.bisect n → (s : Sight) (x : Marked Placed) → bisecting.IsByWorker (author.Bisect n) s x → IsOwn crew (author.Bisect n) s x
says-own crew n one s x x5 is = grind (arith, common_steps)

pub bisects-make : (crew : Crew) (n : ℕ) → IsOneOf crew.bisect n → (uses : List Use) (place : ℕ) (before after : List Sight) → EachBisects (author.Bisect n) uses place before after → AllZip (Makes crew (author.Bisect n)) before after
bisects-make crew n one uses place [] [] all = tt
bisects-make crew n one uses place [] (t ∷ after) all = absurd all
bisects-make crew n one uses place (s ∷ before) [] all = absurd all
bisects-make crew n one uses place (s ∷ before) (t ∷ after) all = (
  record { more = all.0.more; sees = all.0.sees; each = all-to _ _ all.0.more (says-own crew n one s) all.0.each },
  bisects-make crew n one uses (suc place) before after all.1,
)

-- ---- all workers of a kind
pub recomputers-own : (crew : Crew) (tracks : List Track) (n : ℕ) (bs : List (List Sight)) (us : List Seat) → AreRecomputedFrom n bs us → AllByRecursion (HasSeenKept tracks) bs
    → 1 ≤ n → length us + n ≤ crew.recompute + 1 → AllByRecursion (OwnsMade crew) us
recomputers-own crew tracks n [] [] all saw some few = tt
recomputers-own crew tracks n [] (a ∷ us) all saw some few = absurd all
recomputers-own crew tracks n (b ∷ bs) [] all saw some few = absurd all
recomputers-own crew tracks n (b ∷ bs) (a ∷ us) all saw some few = (
  owns crew (author.Recompute n) tracks b a (works-make crew n (some, omega (arith, few)) b a.pass all.0.works) saw.0 all.0.author,
  recomputers-own crew tracks (n + 1) bs us all.1 saw.1 (omega (arith, some)) (omega (arith, few)),
)

pub bisectors-own : (crew : Crew) (tracks : List Track) (word : List ℕ) (n : ℕ) (bs : List (List Sight)) (us : List Seat) (old new : List Tally) → AreBisectedFrom word n bs us old new → AllByRecursion (HasSeenKept tracks) bs
    → 1 ≤ n → length us + n ≤ crew.bisect + 1 → AllByRecursion (OwnsMade crew) us
bisectors-own crew tracks word n [] [] old new all saw some few = tt
bisectors-own crew tracks word n [] (a ∷ us) old new all saw some few = absurd all
bisectors-own crew tracks word n (b ∷ bs) [] old new all saw some few = absurd all
bisectors-own crew tracks word n (b ∷ bs) (a ∷ us) [] new all saw some few = absurd all
bisectors-own crew tracks word n (b ∷ bs) (a ∷ us) (t ∷ old) [] all saw some few = absurd all
bisectors-own crew tracks word n (b ∷ bs) (a ∷ us) (t ∷ old) (u ∷ new) all saw some few = (
  owns crew (author.Bisect n) tracks b a (bisects-make crew n (some, omega (arith, few)) all.0.bisected.uses 0 b a.pass all.0.bisected.each) saw.0 all.0.author,
  bisectors-own crew tracks word (n + 1) bs us old new all.1 saw.1 (omega (arith, some)) (omega (arith, few)),
)
