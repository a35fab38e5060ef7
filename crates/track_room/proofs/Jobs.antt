-- A job that is there stays there.
use Rattle.std.proofs.{Common.{◌≡◌, ℕ, zero, suc, true, false, ◌+◌, ◌<◌, ◌≤◌, List, [], ◌∷◌, ◌++◌, length, refl, ap, arith, Option}, lemmas.Grind.common_steps}
use Rattle.std.specs.{Prelude.{IsSome, slice_get}, List.cons_option}
use Rattle.history_model.specs.{declared.entries.Entry.Entry, Entries.chosen_from, Jobs.{Begun, job_in, jobs, standing_from}}

more-option : {A : Type 0} (o : Option A) (xs ys : List A) → length xs ≤ length ys → length (cons_option o xs) ≤ length (cons_option o ys)
more-option o xs ys le = grind (arith, common_steps)

chosen-more : {A : Type 0} (step : ℕ) (choice : ℕ → Entry → Option A) (h more : List Entry) → length (chosen_from step choice h) ≤ length (chosen_from step choice (h ++ more))
chosen-more step choice [] more = omega arith
chosen-more step choice (e ∷ h) more = more-option (choice step e) _ _ (chosen-more (step + 1) choice h more)

standing-long : (h : List Entry) (number : ℕ) (bs : List Begun) → length (standing_from h number bs) ≡ length bs
standing-long h number [] = refl
standing-long h number (b ∷ bs) = ap suc (standing-long h (number + 1) bs)

there-below : {A : Type 0} (xs : List A) (k : ℕ) → IsSome (slice_get xs k) → k < length xs
there-below [] k is = absurd (let no : false ≡ true = is in cc)
there-below (x ∷ xs) zero is = omega arith
there-below (x ∷ xs) (suc k) is = let less = there-below xs k is in omega (arith, less)

below-there : {A : Type 0} (xs : List A) (k : ℕ) → k < length xs → IsSome (slice_get xs k)
below-there [] k less = absurd (omega (arith, less))
below-there (x ∷ xs) zero less = refl
below-there (x ∷ xs) (suc k) less = below-there xs k (omega (arith, less))

pub job-stays : (h more : List Entry) (number : ℕ) → IsSome (job_in number (jobs h)) → IsSome (job_in number (jobs (h ++ more)))
job-stays h more number is = grind (arith, common_steps, below-there, there-below, standing-long, chosen-more)
