-- Where jobs stand stays with each entry that begins none and says nothing of any.
use Rattle.std.{proofs.Common.{◌≡◌, ℕ, ◌+◌, ◌-◌, ◌≤◌, List, [], ◌∷◌, ◌++◌, length, refl, ap₂, arith}, specs.Prelude.{Some, None}}
use Rattle.std.{specs.List.AllByRecursion, proofs.lemmas.Grind.common_steps}
use Rattle.bisect_core.specs.Bisections.{Bisection, bisection}
use Rattle.history_model.specs.{declared.entries.Entry.Entry, Entries.chosen_from}
use Rattle.history_model.{specs.Jobs.{Begun, begun, begins, said, commits_of, standing_from, jobs}, proofs.Chosen.chosen-skip}

-- ---- each job was begun by a step of the history
never : (b : Begun) → None ≡ Some b → ⊥
never b is = cc

-- begun by step n at most
abbrev pub IsUpTo : ℕ → Begun → Type 0
IsUpTo n b = b.step ≤ n

begins-past : (n k : ℕ) (h : List Entry) → k + length h ≤ n + 1 → AllByRecursion (IsUpTo n) (chosen_from k begun h)
begins-past n k [] le = tt
begins-past n k (e ∷ h) le = grind (arith, common_steps, begins-past n (k + 1) h (omega (arith, le)))

pub all-past : (h : List Entry) → AllByRecursion (IsUpTo (length h)) (begins h)
all-past h = begins-past (length h) 1 h (omega arith)

-- ---- an entry more
pub commits-same : (h : List Entry) (e : Entry) (b : Begun) → b.step ≤ length h → commits_of (h ++ e ∷ []) b ≡ commits_of h b
commits-same h e b past = grind (arith, common_steps)

-- from a number on, where the entry says nothing of any job from there on
pub standing-same : (h : List Entry) (e : Entry) (k : ℕ) → ((n : ℕ) → k ≤ n → said n (length h + 1) e ≡ None)
    → (bs : List Begun) → AllByRecursion (IsUpTo (length h)) bs → standing_from (h ++ e ∷ []) k bs ≡ standing_from h k bs
standing-same h e k none [] past = refl
standing-same h e k none (b ∷ bs) past =
    ap₂ (λ (x : Bisection) xs. x ∷ xs)
    (ap₂ bisection (commits-same h e b past.0) (chosen-skip (said k) h e (none k (omega arith))))
    (standing-same h e (k + 1) (λ n le. none n (omega (arith, le))) bs past.1)

pub jobs-stay : (h : List Entry) (e : Entry) → begun (length h + 1) e ≡ None → ((n : ℕ) → said n (length h + 1) e ≡ None)
    → jobs (h ++ e ∷ []) ≡ jobs h
jobs-stay h e begins_none none = grind (arith, common_steps, standing_from, chosen-skip, begun, standing-same, begins, all-past)
