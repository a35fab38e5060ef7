-- Runs of the machine, a byte at a time.
use Rattle.std.proofs.Common.{◌≡◌, ℕ, zero, suc, ◌⊎◌, ◌+◌, ◌-◌, ◌<◌, ◌≤◌, List, [], ◌∷◌, ◌++◌, inl, inr, length, get_or, take, drop, slice_range, Option, Some, None, option_and_then, refl, arith, ap, subst, ◌∙◌, add-one}
use Rattle.std.proofs.{Math.Seq.{take-suc, drop-cons}, lemmas.List.{get_or-drop, length-drop}, lemmas.Grind.common_steps}
use Rattle.json_text.{specs.Machine.{Mode, Frame, State, step, run, start, levels}, specs.Places.most_levels, specs.Depth.depth, proofs.Texts.reached_sound}
use Rattle.json_text.{specs.Reached.{ended_tree, Reaches, Alike, Stands, Carries}, specs.Outcome.{StopsAt, DeepAt}, proofs.Steps.{Keeps, step_keeps}}

stepped : (after : Option State) → option_and_then (run []) after ≡ after
stepped after = grind (arith, common_steps)

run_end : (bytes : List ℕ) (b : ℕ) (state : State) → run (bytes ++ b ∷ []) state ≡ option_and_then (λ (after : State). step b after.0 after.1) (run bytes state)
run_end [] b state = stepped (step b state.0 state.1)
run_end (x ∷ bytes) b state =
    elim (step x state.0 state.1) as (λ next. option_and_then (run (bytes ++ b ∷ [])) next ≡ option_and_then (λ (after : State). step b after.0 after.1) (option_and_then (run bytes) next))
    [ None ↦ refl | Some after ↦ run_end bytes b after ]

-- the bytes so far and one more
run_further : (bytes : List ℕ) (k : ℕ) (before : State) → k < length bytes → run (take k bytes) start ≡ Some before → run (take (k + 1) bytes) start ≡ step (get_or bytes k 0) before.0 before.1
run_further bytes k before short e = grind (arith, common_steps, take, get_or, add-one, take-suc, run_end, option_and_then)

-- what was carried here is carried a byte further
pub carry_on : (bytes : List ℕ) (i k : ℕ) (before : State) (mode : Mode) (frames : List Frame) (next : State) → Carries bytes i k before (mode, frames) → k < length bytes
    → step (get_or bytes k 0) mode frames ≡ Some next → Carries bytes i (k + 1) before next
carry_on bytes i k before mode frames next c short e = λ at. run_further bytes k (mode, frames) short (c at) ∙ e

-- a step keeps within the limit where it opens no level too many
stays_within : (bytes : List ℕ) (b : ℕ) (before next : State) → Reaches bytes before → step b before.0 before.1 ≡ Some next → levels next ≤ most_levels → depth next ≤ most_levels
stays_within bytes b before next reach e room =
    let kept : Keeps (depth before) (Some next) = subst (Keeps (depth before)) e (step_keeps before.0 b before.1 (reached_sound bytes before reach.0)) in
    omega (arith, kept.1, room, reach.1)

-- From where the machine stands it takes a byte more, to a state within the limit or beyond it, or takes none.
pub takes : (bytes : List ℕ) (k : ℕ) (held next : State) → Stands bytes k held → k < length bytes → step (get_or bytes k 0) held.0 held.1 ≡ Some next → levels next ≤ most_levels → Reaches (take (k + 1) bytes) next
takes bytes k held next (state, reach, alike) short e room = grind (arith, common_steps, get_or, run_further, stays_within, take)

pub refuses : (bytes : List ℕ) (k : ℕ) (held : State) → Stands bytes k held → k < length bytes → step (get_or bytes k 0) held.0 held.1 ≡ None → StopsAt bytes k
refuses bytes k held (state, reach, alike) short e = (state, reach, inl (short, run_further bytes k state short reach.0 ∙ (alike.next short ∙ e)))

pub opens_deep : (bytes : List ℕ) (k : ℕ) (held next : State) → Stands bytes k held → k < length bytes → step (get_or bytes k 0) held.0 held.1 ≡ Some next → most_levels < levels next → DeepAt bytes k
opens_deep bytes k held next (state, reach, alike) short e deep = (state, next, short, reach, run_further bytes k state short reach.0 ∙ (alike.next short ∙ e), deep)

pub alike_self : (bytes : List ℕ) (k : ℕ) (state : State) → Alike bytes k state state
alike_self bytes k state = record { next = λ h. refl; finish = λ h. refl }

-- what is reached stands there
pub reached_stands : (bytes : List ℕ) (k : ℕ) (state : State) → Reaches (take k bytes) state → Stands bytes k state
reached_stands bytes k state reach = (state, reach, alike_self bytes k state)

-- what goes on as one state that stands here goes on as another
pub stands_alike : (bytes : List ℕ) (k : ℕ) (held other : State) → Stands bytes k held → Alike bytes k held other → Stands bytes k other
stands_alike bytes k held other (state, reach, alike) further = grind (arith, common_steps)

-- what is carried from a state that is reached is reached, if it is no deeper
pub carried : (bytes : List ℕ) (i j : ℕ) (before after : State) → Reaches (take i bytes) before → Carries bytes i j before after → depth after ≤ depth before → Reaches (take j bytes) after
carried bytes i j before after reach c less = (c reach.0, omega (arith, less, reach.1))

pub below_or : (n m : ℕ) → n ≤ m → (n < m) ⊎ (n ≡ m)
below_or zero zero h = inr refl
below_or zero (suc m) h = inl (omega arith)
below_or (suc n) zero h = absurd (omega arith)
below_or (suc n) (suc m) h = elim (below_or n m (omega arith)) [ inl less ↦ inl (omega (arith, less)) | inr same ↦ inr (ap suc same) ]

-- where no byte goes on from a state that is reached, reading stops
pub stops_here : (bytes : List ℕ) (k : ℕ) (state : State) → Reaches (take k bytes) state → k ≤ length bytes → (k < length bytes → step (get_or bytes k 0) state.0 state.1 ≡ None) → ended_tree state ≡ None → StopsAt bytes k
stops_here bytes k state reach most stops none = grind (arith, common_steps, below_or, length, run_further)

-- a range grows by a byte
pub range_grows : (bytes : List ℕ) (i k : ℕ) → i ≤ k → k < length bytes → slice_range bytes i (k + 1) ≡ slice_range bytes i k ++ get_or bytes k 0 ∷ []
range_grows bytes i k h short =
    let size : k + 1 - i ≡ suc (k - i) = omega (arith, h) in
    let inside : k - i < length (drop i bytes) = omega (arith, length-drop i bytes, h, short) in
    let same : i + (k - i) ≡ k = omega (arith, h) in
    let there : get_or (drop i bytes) (k - i) 0 ≡ get_or bytes k 0 = get_or-drop i bytes (k - i) 0 ∙ ap (λ n. get_or bytes n 0) same in
    ap (λ n. take n (drop i bytes)) size ∙ take-suc (drop i bytes) (k - i) 0 inside ∙ ap (λ b. take (k - i) (drop i bytes) ++ b ∷ []) there

-- and begins with its first
pub range_begins : (bytes : List ℕ) (k j : ℕ) → k < j → j ≤ length bytes → slice_range bytes k j ≡ get_or bytes k 0 ∷ slice_range bytes (k + 1) j
range_begins bytes k j h most =
    let short : k < length bytes = omega (arith, h, most) in
    let size : j - k ≡ suc (j - (k + 1)) = omega (arith, h) in
    let next : suc k ≡ k + 1 = omega arith in
    ap (λ n. take n (drop k bytes)) size ∙ ap (take (suc (j - (k + 1)))) (drop-cons bytes k 0 short) ∙ ap (λ n. get_or bytes k 0 ∷ take (j - (k + 1)) (drop n bytes)) next
