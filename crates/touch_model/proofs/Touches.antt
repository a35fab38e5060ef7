-- The last touch of a series, as a history grows.
use Rattle.std.proofs.Common.{◌≡◌, ℕ, ◌+◌, ◌≤◌, Bool, true, false, cond, List, [], ◌∷◌, ◌++◌, length, sym, ap, ◌∙◌, arith}
use Rattle.std.proofs.lemmas.List.{append-nil, append_assoc, length-append}
use Rattle.history_model.specs.{declared.entries.Entry.Entry, Runs.Series}
use Rattle.touch_model.specs.Touches.{touches, last_touch_from, last_touch}

push : (before : List Entry) (s : Series) (step : ℕ) (es : List Entry) (e : Entry)
    → last_touch_from before s step (es ++ e ∷ []) ≡ cond (touches (before ++ es) s e) (length (before ++ es) + 1) (last_touch_from before s step es)
push before s step [] e = ap (λ (h : List Entry). cond (touches h s e) (length h + 1) step) (sym (append-nil before))
push before s step (x ∷ es) e =
    let now : ℕ = cond (touches before s x) (length before + 1) step in
    push (before ++ x ∷ []) s now es e
    ∙ ap (λ (h : List Entry). cond (touches h s e) (length h + 1) (last_touch_from (before ++ x ∷ []) s now es)) (append_assoc before (x ∷ []) es)

pub touches-grow : (h : List Entry) (e : Entry) (s : Series) → last_touch (h ++ e ∷ []) s ≡ cond (touches h s e) (length h + 1) (last_touch h s)
touches-grow h e s = push [] s 0 h e

chosen : (b : Bool) (n m most : ℕ) → n ≤ most → m ≤ most → cond b n m ≤ most
chosen true n m most one two = one
chosen false n m most one two = two

within : (before : List Entry) (s : Series) (step : ℕ) (es : List Entry) → step ≤ length before → last_touch_from before s step es ≤ length before + length es
within before s step [] le = omega (arith, le)
within before s step (x ∷ es) le =
    let size : length (before ++ x ∷ []) ≡ length before + 1 = length-append before (x ∷ []) in
    let now : cond (touches before s x) (length before + 1) step ≤ length (before ++ x ∷ []) =
    chosen (touches before s x) (length before + 1) step (length (before ++ x ∷ [])) (omega (arith, size)) (omega (arith, size, le)) in
    let more = within (before ++ x ∷ []) s (cond (touches before s x) (length before + 1) step) es now in
    omega (arith, more, size)

pub touches-past : (h : List Entry) (s : Series) → last_touch h s ≤ length h
touches-past h s = let le = within [] s 0 h (omega arith) in omega (arith, le)
