-- The digits of a number at its places.
use Rattle.std.proofs.Common.{◌≡◌, ℕ, ◌+◌, ◌-◌, ◌/◌, ◌%◌, ◌^◌, ◌<◌, ◌≤◌, List, [], ◌∷◌, ◌++◌, refl, sym, arith, append-nil}
use Rattle.std.proofs.{Math.Nat.div-eq_of_lt, lemmas.Grind.common_steps}
use Rattle.fixed_value.{specs.Fixed.low_digits, proofs.Powers.ten_grows}

-- above the places of 64 bits there is nothing
pub past_places : (n places : ℕ) → n < 2 ^ 64 → 19 < places → 0 ≡ n / 10 ^ places
past_places n places small high =
    let power : 10 ^ 20 ≤ 10 ^ places = ten_grows 20 places high in
    sym (div-eq_of_lt (omega arith))

-- the highest place first
pub low_digits_step : (place n : ℕ) → 0 < place → low_digits place n ≡ (48 + n / 10 ^ (place - 1) % 10) ∷ low_digits (place - 1) n
low_digits_step place n some = grind (arith, common_steps)

-- what has been appended so far, and what is to come
pub record Appended (before now rest whole : List ℕ) : Type 0 where
  pub done : List ℕ
  pub now_is : now ≡ before ++ done
  pub all : done ++ rest ≡ whole

pub appended_none : (before whole : List ℕ) → Appended before before whole whole
appended_none before whole = record { done = []; now_is = sym (append-nil before); all = refl }

pub appended_more : (before now next : List ℕ) (digit : ℕ) (rest rest' whole : List ℕ) → Appended before now rest whole → rest ≡ digit ∷ rest' → next ≡ now ++ digit ∷ []
    → Appended before next rest' whole
appended_more before now next digit rest rest' whole so_far step is = grind (arith, common_steps)
