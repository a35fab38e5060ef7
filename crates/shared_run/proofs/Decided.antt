-- Private: no public contract cites this. The three ways in which a run's end is decided.
use Rattle.std.proofs.Common.{◌≡◌, ◌≢◌, ℕ, zero, suc, ◌<◌, ◌+◌, inl, inr, List, [], ◌∷◌, length, get_or, Some, Ok, Err, refl, sym, arith}
use Rattle.std.{specs.Prelude.{◌⊎◌, slice_get, Contains, Result}, specs.List.AllByRecursion, proofs.lemmas.Grind.common_steps}
use Rattle.script_loop.specs.declared.stop.Stop.{Stop}
use Rattle.script_loop.specs.declared.stop.Stop.TheVariants as script
use Rattle.shared_run.{specs.declared.stop.RunStop.RunStop, specs.Stops.{Decides, IsFirstStop, NoneStopped, WantsMemory}, proofs.Stopped.found_first}
use Rattle.shared_run.specs.declared.stop.RunStop.TheVariants as run

abbrev pub End : Type 0
End = Result (Unit {0}) Stop

abbrev pub Later : Type 0
Later = Result (Unit {0}) RunStop

-- ---- items that are in a list
later-in : (x y : End) (xs : List End) → Contains xs y → Contains (x ∷ xs) y
later-in x y xs at = let within = at.1 in (suc at.0, omega (arith, within), at.2)

-- none of the items is that one
pub not-in : (y : End) (xs : List End) → (Contains xs y → ⊥) → AllByRecursion (λ (x : End). x ≢ y) xs
not-in y [] none = tt
not-in y (x ∷ xs) none = ((λ same. none (found_first x y xs same)), not-in y xs (λ at. none (later-in x y xs at)))

-- ---- want of memory
is-memory : (e : End) → (e ≡ Err script.NoMemory) ⊎ (e ≢ Err script.NoMemory)
is-memory e = grind (arith, common_steps)

some-memory : (ends : List End) → Contains ends (Err script.NoMemory) ⊎ (Contains ends (Err script.NoMemory) → ⊥)
some-memory [] = inr (λ at. let within = at.1 in omega (arith, within))
some-memory (e ∷ ends) = by (is-memory e) (some-memory ends)
  where
    none : e ≢ Err script.NoMemory → (Contains ends (Err script.NoMemory) → ⊥) → (k : ℕ) → k < length (e ∷ ends) → get_or (e ∷ ends) k (Err script.NoMemory) ≡ Err script.NoMemory → ⊥
    none differs rest zero within at = differs at
    none differs rest (suc k) within at = rest (k, omega (arith, within), at)

    by : (e ≡ Err script.NoMemory) ⊎ (e ≢ Err script.NoMemory) → Contains ends (Err script.NoMemory) ⊎ (Contains ends (Err script.NoMemory) → ⊥)
        → Contains (e ∷ ends) (Err script.NoMemory) ⊎ (Contains (e ∷ ends) (Err script.NoMemory) → ⊥)
    by (inl same) rest = inl (found_first e (Err script.NoMemory) ends same)
    by (inr differs) (inl at) = inl (later-in e (Err script.NoMemory) ends at)
    by (inr differs) (inr rest) = inr (λ at. none differs rest at.0 at.1 at.2)

is-late-memory : (later : Later) → (later ≡ Err run.NoMemory) ⊎ (later ≢ Err run.NoMemory)
is-late-memory later = grind (arith, common_steps)

wants : (ends : List End) (later : Later) → WantsMemory ends later ⊎ (WantsMemory ends later → ⊥)
wants ends later = by (is-late-memory later) (some-memory ends)
  where
    by : (later ≡ Err run.NoMemory) ⊎ (later ≢ Err run.NoMemory) → Contains ends (Err script.NoMemory) ⊎ (Contains ends (Err script.NoMemory) → ⊥)
        → WantsMemory ends later ⊎ (WantsMemory ends later → ⊥)
    by (inl same) some = inl (inl same)
    by (inr differs) (inl at) = inl (inr at)
    by (inr differs) (inr none) = inr (λ w. neither differs none w)
      where
        neither : later ≢ Err run.NoMemory → (Contains ends (Err script.NoMemory) → ⊥) → WantsMemory ends later → ⊥
        neither differs none (inl same) = differs same
        neither differs none (inr at) = none at

-- ---- the first that stopped
pub record FirstStop (ends : List End) : Type 0 where
  pub before : ℕ
  pub stop : Stop
  pub is : IsFirstStop ends before stop

some-is : (x y : End) → Some x ≡ Some y → x ≡ y
some-is x y same = cc

pub first-or-none : (ends : List End) → FirstStop ends ⊎ NoneStopped ends
first-or-none [] = inr (λ k r is. absurd (cc))
first-or-none (Err stop ∷ ends) = inl (record { before = 0; stop = stop; is = record { here = refl; first = λ k less. absurd (omega (arith, less)) } })
first-or-none (Ok done ∷ ends) = by (first-or-none ends)
  where
    before-it : (f : FirstStop ends) (k : ℕ) → k < suc f.before → slice_get (Ok done ∷ ends) k ≡ Some (Ok tt)
    before-it f zero less = refl
    before-it f (suc k) less = f.is.first k (omega (arith, less))

    none-there : NoneStopped ends → (k : ℕ) (r : End) → slice_get (Ok done ∷ ends) k ≡ Some r → r ≡ Ok tt
    none-there none zero r is = sym (some-is (Ok done) r is)
    none-there none (suc k) r is = none k r is

    by : FirstStop ends ⊎ NoneStopped ends → FirstStop (Ok done ∷ ends) ⊎ NoneStopped (Ok done ∷ ends)
    by (inl f) = inl (record { before = suc f.before; stop = f.stop; is = record { here = f.is.here; first = before-it f } })
    by (inr none) = inr (none-there none)

-- ---- the three ways
pub record FirstDecides (ends : List End) (later result : Later) : Type 0 where
  pub quiet : WantsMemory ends later → ⊥
  pub first : FirstStop ends
  pub is : result ≡ Err (run.Script (first.before + 1) first.stop)

pub record LaterDecides (ends : List End) (later result : Later) : Type 0 where
  pub quiet : WantsMemory ends later → ⊥
  pub none : NoneStopped ends
  pub is : result ≡ later

pub record MemoryDecides (ends : List End) (later result : Later) : Type 0 where
  pub wants : WantsMemory ends later
  pub is : result ≡ Err run.NoMemory

abbrev pub Decided : List End → Later → Later → Type 0
Decided ends later result = MemoryDecides ends later result ⊎ (FirstDecides ends later result ⊎ LaterDecides ends later result)

pub decided : (ends : List End) (later result : Later) → Decides ends later result → Decided ends later result
decided ends later result d = by (wants ends later) (first-or-none ends)
  where
    by : WantsMemory ends later ⊎ (WantsMemory ends later → ⊥) → FirstStop ends ⊎ NoneStopped ends → Decided ends later result
    by (inl w) some = inl (record { wants = w; is = d.memory w })
    by (inr quiet) (inl f) = inr (inl (record { quiet = quiet; first = f; is = d.first quiet f.before f.stop f.is }))
    by (inr quiet) (inr none) = inr (inr (record { quiet = quiet; none = none; is = d.later_on quiet none }))
