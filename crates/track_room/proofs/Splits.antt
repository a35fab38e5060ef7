-- Passes of which some were split, and joined back.
use Rattle.std.proofs.Common.{◌≡◌, ℕ, zero, suc, ◌+◌, ◌<◌, ◌≤◌, ◌⊎◌, inl, inr, List, [], ◌∷◌, ◌++◌, length, map, take, drop, get_or, refl, sym, ap, ap₂, subst, ◌∙◌, arith}
use Rattle.std.{specs.List.AllZip, proofs.lemmas.Bool.cases_lt, proofs.lemmas.Grind.common_steps}
use Rattle.track_room.specs.{Rooms.{IsFirst, IsSplitBack, JoinsEach, split_back}, Sights.{Home, Sight, IsFirstOf, Joins, splitting, split_off}}
use Rattle.track_model.specs.Tracks.{Track}

abbrev pub homes : List Sight → List Home
homes ss = map (λ (s : Sight). s.home) ss

-- the first passes, of which so many were split
abbrev pub half : ℕ → List Sight → List Sight
half n old = map splitting (take n old) ++ drop n old

pub half-homes : (n : ℕ) (old : List Sight) → homes (half n old) ≡ homes old
half-homes zero old = refl
half-homes (suc n) [] = refl
half-homes (suc n) (s ∷ old) = ap (λ hs. s.home ∷ hs) (half-homes n old)

pub half-first : (n : ℕ) (old : List Sight) → IsFirst old → IsFirst (half n old)
half-first zero old first = first
half-first (suc n) [] first = first
half-first (suc n) (s ∷ old) first = (first.0, half-first n old first.1)

pub half-long : (n : ℕ) (old : List Sight) → length (half n old) ≡ length old
half-long zero old = refl
half-long (suc n) [] = refl
half-long (suc n) (s ∷ old) = ap suc (half-long n old)

pub off-homes : (n : ℕ) (old : List Sight) → homes (map split_off (take n old)) ≡ take n (homes old)
off-homes zero old = refl
off-homes (suc n) [] = refl
off-homes (suc n) (s ∷ old) = ap (λ hs. s.home ∷ hs) (off-homes n old)

pub off-long : (n : ℕ) (old : List Sight) → n ≤ length old → length (map split_off (take n old)) ≡ n
off-long zero old few = refl
off-long (suc n) [] few = absurd (omega (arith, few))
off-long (suc n) (s ∷ old) few = ap suc (off-long n old (omega (arith, few)))

-- what was split and is joined has seen as much
back : (s new : Sight) → Joins (splitting s) (split_off s) new → new ≡ split_back s
back s new joins = grind (arith, common_steps)

at-half : (n : ℕ) (old : List Sight) (k : ℕ) (d : Sight) → k < n → k < length old → get_or (half n old) k d ≡ splitting (get_or old k d)
at-half zero old k d less in' = absurd (omega (arith, less))
at-half (suc n) [] k d less in' = absurd (omega (arith, in'))
at-half (suc n) (s ∷ old) zero d less in' = refl
at-half (suc n) (s ∷ old) (suc k) d less in' = at-half n old k d (omega (arith, less)) (omega (arith, in'))

past-half : (n : ℕ) (old : List Sight) (k : ℕ) (d : Sight) → n ≤ k → get_or (half n old) k d ≡ get_or old k d
past-half zero old k d past = refl
past-half (suc n) [] k d past = refl
past-half (suc n) (s ∷ old) zero d past = absurd (omega (arith, past))
past-half (suc n) (s ∷ old) (suc k) d past = past-half n old k d (omega (arith, past))

at-off : (n : ℕ) (old : List Sight) (k : ℕ) (d : Sight) → k < n → k < length old → get_or (map split_off (take n old)) k d ≡ split_off (get_or old k d)
at-off zero old k d less in' = absurd (omega (arith, less))
at-off (suc n) [] k d less in' = absurd (omega (arith, in'))
at-off (suc n) (s ∷ old) zero d less in' = refl
at-off (suc n) (s ∷ old) (suc k) d less in' = at-off n old k d (omega (arith, less)) (omega (arith, in'))

-- what holds at each place of two lists
each-place : {A : Type 0} (R : A → A → Type 0) (xs ys : List A) → length xs ≡ length ys → ((k : ℕ) (d : A) → k < length xs → R (get_or xs k d) (get_or ys k d)) → AllZip R xs ys
each-place R [] [] long at = tt
each-place R [] (y ∷ ys) long at = absurd (omega (arith, long))
each-place R (x ∷ xs) [] long at = absurd (omega (arith, long))
each-place R (x ∷ xs) (y ∷ ys) long at = (at 0 x (omega arith), each-place R xs ys (omega (arith, long)) (λ k d less. at (suc k) d (omega (arith, less))))

pub split-back : (n : ℕ) (old new : List Sight) → n ≤ length old → JoinsEach (half n old) (map split_off (take n old)) new → AllZip IsSplitBack old new
split-back n old new few joins = each-place IsSplitBack old new (sym (joins.long ∙ half-long n old)) by-place
  where
    long : length (map split_off (take n old)) ≡ n
    long = off-long n old few

    by-place : (k : ℕ) (d : Sight) → k < length old → IsSplitBack (get_or old k d) (get_or new k d)
    by-place k d in' = by-side (cases_lt k n)
      where
        by-side : (k < n) ⊎ (n ≤ k) → IsSplitBack (get_or old k d) (get_or new k d)
        by-side (inr past) = inl (joins.rest k d (omega (arith, long, past)) ∙ past-half n old k d past)
        by-side (inl less) =
            inr (back (get_or old k d) (get_or new k d)
            (subst (λ (s : Sight). Joins s (split_off (get_or old k d)) (get_or new k d)) (at-half n old k d less in')
            (subst (λ (s : Sight). Joins (get_or (half n old) k d) s (get_or new k d)) (at-off n old k d less in') (joins.joined k d (omega (arith, long, less))))))

-- ---- passes of a room stay such passes

pub splitting-homes : (old : List Sight) → homes (map splitting old) ≡ homes old
splitting-homes [] = refl
splitting-homes (s ∷ old) = ap (λ hs. s.home ∷ hs) (splitting-homes old)

pub splitting-first : (old : List Sight) → IsFirst old → IsFirst (map splitting old)
splitting-first [] first = first
splitting-first (s ∷ old) first = (first.0, splitting-first old first.1)

pub split_off-homes : (old : List Sight) → homes (map split_off old) ≡ homes old
split_off-homes [] = refl
split_off-homes (s ∷ old) = ap (λ hs. s.home ∷ hs) (split_off-homes old)

-- who has the same home and mark
abbrev IsAlike : Sight → Sight → Type 0
IsAlike s t = (t.home ≡ s.home) × (t.mark ≡ s.mark)

alike-homes : (old new : List Sight) → AllZip IsAlike old new → homes new ≡ homes old
alike-homes [] [] all = refl
alike-homes [] (t ∷ new) all = absurd all
alike-homes (s ∷ old) [] all = absurd all
alike-homes (s ∷ old) (t ∷ new) all = ap₂ (λ (h : Home) (hs : List Home). h ∷ hs) all.0.0 (alike-homes old new all.1)

alike-first : (old new : List Sight) → AllZip IsAlike old new → IsFirst old → IsFirst new
alike-first [] [] all first = first
alike-first [] (t ∷ new) all first = absurd all
alike-first (s ∷ old) [] all first = absurd all
alike-first (s ∷ old) (t ∷ new) all first = (all.0.1 ∙ first.0, alike-first old new all.1 first.1)

joins-alike : (old others new : List Sight) → JoinsEach old others new → AllZip IsAlike old new
joins-alike old others new joins = each-place IsAlike old new (sym joins.long) by-place
  where
    by-place : (k : ℕ) (d : Sight) → k < length old → IsAlike (get_or old k d) (get_or new k d)
    by-place k d in' = by-side (cases_lt k (length others))
      where
        by-side : (k < length others) ⊎ (length others ≤ k) → IsAlike (get_or old k d) (get_or new k d)
        by-side (inl less) = let joined = joins.joined k d less in (ap (λ (x : Sight). x.home) joined.2, ap (λ (x : Sight). x.mark) joined.2)
        by-side (inr past) = let same = joins.rest k d past in (ap (λ (x : Sight). x.home) same, ap (λ (x : Sight). x.mark) same)

pub joins-homes : (old others new : List Sight) → JoinsEach old others new → homes new ≡ homes old
joins-homes old others new joins = alike-homes old new (joins-alike old others new joins)

pub joins-first : (old others new : List Sight) → JoinsEach old others new → IsFirst old → IsFirst new
joins-first old others new joins first = alike-first old new (joins-alike old others new joins) first

-- the first passes of new locks
pub begin-first : (ts : List Track) (ss : List Sight) → AllZip IsFirstOf ts ss → IsFirst ss
begin-first [] [] all = tt
begin-first [] (s ∷ ss) all = absurd all
begin-first (t ∷ ts) [] all = absurd all
begin-first (t ∷ ts) (s ∷ ss) all = (all.0.1, begin-first ts ss all.1)
