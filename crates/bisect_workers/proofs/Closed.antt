-- Private: no public contract cites this. Where no job asks, none is open.
use Rattle.std.proofs.lemmas.Grind.{common_steps}
use Rattle.std.{proofs.Common.{◌≡◌, ℕ, suc, inl, false, List, [], ◌∷◌, refl, sym, ap, ◌∙◌, Option, Some, None, arith}, specs.Prelude.slice_get}
use Rattle.bisect_core.specs.{Bisections.{Bisection, asked_by, is_open}, declared.outcome.Outcome.Outcome}
use Rattle.history_model.specs.{declared.entries.Entry.Entry, Jobs.{asked, is_under_way, jobs, open_count, place_asked}}
use Rattle.worker_model.specs.Quiet.{JobsAreQuiet}
use Rattle.bisect_workers.specs.Quiet.{NoneAsks}

not-asking : (o : Outcome) → asked_by o ≡ None → is_open o ≡ false
not-asking o is = grind (arith, common_steps)

none-open : (js : List Bisection) → ((k : ℕ) (b : Bisection) → slice_get js k ≡ Some b → asked_by b.outcome ≡ None) → open_count js ≡ 0
none-open [] each = refl
none-open (b ∷ js) each =
    let closed : is_under_way b ≡ false = not-asking b.outcome (each 0 b refl) in
    simp closed (none-open js (λ k. each (suc k)))

pub jobs-closed : (h : List Entry) → NoneAsks h → JobsAreQuiet h
jobs-closed h none = inl (none-open (jobs h) (λ k b is. asks-none k b is (none (suc k))))
  where
    asks-none : (k : ℕ) (b : Bisection) → slice_get (jobs h) k ≡ Some b → asked (suc k) h ≡ None → asked_by b.outcome ≡ None
    asks-none k b is nothing = sym (ap (λ (o : Option Bisection). place_asked o) is) ∙ nothing
