-- Samples that are taken out again as if they had never come.
use Rattle.std.proofs.Common.{◌≡◌, ℕ, ◌+◌, ◌≤◌, ℤ, Bool, cond, List, [], ◌∷◌, ◌++◌, length, All, refl, sym, ap, ◌∙◌, inl, inr, arith}
use Rattle.std.{specs.Prelude.{filter, unwrap_or}, proofs.lemmas.Bool.{cases_Bool, cases_order, lt-ltb, le-ltb, eq-eqb, ne_eqb}}
use Rattle.std.proofs.lemmas.{List.Elements.{All-nil, All-cons, All-head, All-tail, All-push}, Grind.common_steps}
use Rattle.segment_model.specs.{Segments.{Observation, Position}, Limits.IsSmall}
use Rattle.segment_model.{specs.Edits.{position_of, with_value, inserted, has_values, by_another, without_step, removed}, proofs.Inserted.count-inserted}
use Rattle.point_list.specs.Places.{CameBy}
use Rattle.sample_model.specs.Samples.{Measurement}
use Rattle.series_index.specs.{declared.tracked.Tracked.Tracked, Seen.{with_sample, without, undone, HasRoom}, Taken.{with_samples, HasRoomFor}}
use Rattle.history_model.proofs.Commit.{has-inserted}

-- a value that is taken out with its step leaves no trace
pub removed-inserted : (commit step : ℕ) (v : ℤ) (points : List Position) → removed commit step (inserted commit (record { step = step; value = v }) points) ≡ removed commit step points
removed-inserted commit step v [] = rw (eq-eqb commit commit refl, eq-eqb step step refl) refl
removed-inserted commit step v (p ∷ points) = grind (arith, common_steps, removed-inserted commit step v points)

undone-one : (commit step : ℕ) (v : ℤ) (t : Tracked) → undone commit step (with_sample commit (record { step = step; value = v }) t) ≡ undone commit step t
undone-one commit step v t = grind (arith, common_steps, unwrap_or, removed-inserted, removed, cond, eq-eqb)

-- after any samples of the step
pub undone-all : (commit step : ℕ) (xs : List Measurement) (t : Tracked) → undone commit step (with_samples commit step xs t) ≡ undone commit step t
undone-all commit step [] t = refl
undone-all commit step (x ∷ xs) t =
    undone-all commit step xs (with_sample commit (record { step = step; value = x.value }) t) ∙ undone-one commit step x.value t

pub with-push : (commit step : ℕ) (xs : List Measurement) (x : Measurement) (t : Tracked)
    → with_samples commit step (xs ++ x ∷ []) t ≡ with_sample commit (record { step = step; value = x.value }) (with_samples commit step xs t)
with-push commit step [] x t = refl
with-push commit step (y ∷ xs) x t = with-push commit step xs x (with_sample commit (record { step = step; value = y.value }) t)

-- ---- room for the next
came-inserted : (commit step : ℕ) (v : ℤ) (points : List Position) → All (CameBy commit step) points → All (CameBy commit step) (inserted commit (record { step = step; value = v }) points)
came-inserted commit step v [] all = grind (arith, common_steps)
came-inserted commit step v (p ∷ points) all = elim (cases_order commit p.commit) [
  | inl same ↦ rw (le-ltb commit p.commit (omega (arith, same)), eq-eqb p.commit commit (sym same))
      (All-cons (CameBy commit step) (with_value (record { step = step; value = v }) p) points
      (λ same. All-push (λ (x : Observation). x.step ≤ step) p.samples (record { step = step; value = v }) (All-head (CameBy commit step) p points all same) (omega arith))
      (All-tail (CameBy commit step) p points all))
  | inr other ↦ elim other [
    | inl below ↦ rw (lt-ltb commit p.commit below)
        (All-cons (CameBy commit step) (position_of commit (record { step = step; value = v })) (p ∷ points)
        (λ same. All-cons (λ (x : Observation). x.step ≤ step) (record { step = step; value = v }) [] (omega arith) (All-nil (λ (x : Observation). x.step ≤ step))) all)
    | inr above ↦ rw (le-ltb commit p.commit (omega (arith, above)), ne_eqb p.commit commit (λ e. omega (arith, e, above)))
        (All-cons (CameBy commit step) p (inserted commit (record { step = step; value = v }) points) (All-head (CameBy commit step) p points all)
        (came-inserted commit step v points (All-tail (CameBy commit step) p points all)))
  ]
]

-- one sample takes one place of the room
room-one : (t : Tracked) (commit step n : ℕ) (v : ℤ) → HasRoomFor t commit step (n + 1) → HasRoomFor (with_sample commit (record { step = step; value = v }) t) commit step n
room-one t commit step n v room = grind (arith, common_steps, came-inserted, count-inserted, has-inserted)

pub room-after : (t : Tracked) (commit step n : ℕ) (xs : List Measurement) → HasRoomFor t commit step (n + length xs) → HasRoomFor (with_samples commit step xs t) commit step n
room-after t commit step n [] room = let same : n + length {A = Measurement} [] ≡ n = omega arith in rw same at room
room-after t commit step n (x ∷ xs) room =
    let same : n + length (x ∷ xs) ≡ n + length xs + 1 = omega arith in
    room-after (with_sample commit (record { step = step; value = x.value }) t) commit step n xs (room-one t commit step (n + length xs) x.value (rw same at room))

pub room-next : (t : Tracked) (commit step n : ℕ) (v : ℤ) → IsSmall v → HasRoomFor t commit step (n + 1) → HasRoom t commit step v
room-next t commit step n v small room = grind (arith, common_steps)

-- ---- taken out once or twice
filter-twice : {A : Type 0} (p : A → Bool) (xs : List A) → filter p (filter p xs) ≡ filter p xs
filter-twice p [] = refl
filter-twice p (x ∷ xs) = grind (arith, common_steps, filter-twice p xs)

cut-twice : (commit step : ℕ) (p : Position) → without_step commit step (without_step commit step p) ≡ without_step commit step p
cut-twice commit step p = grind (arith, common_steps, cases_Bool, filter-twice, by_another)

removed-twice : (commit step : ℕ) (points : List Position) → removed commit step (removed commit step points) ≡ removed commit step points
removed-twice commit step [] = refl
removed-twice commit step (p ∷ points) =
    let w : Position = without_step commit step p in
    elim (cases_Bool (has_values w)) [
      | inl kept ↦
          let one : removed commit step (p ∷ points) ≡ w ∷ removed commit step points = ap (λ b. cond b (w ∷ removed commit step points) (removed commit step points)) kept in
          ap (removed commit step) one
          ∙ ap (λ (q : Position). cond (has_values q) (q ∷ removed commit step (removed commit step points)) (removed commit step (removed commit step points))) (cut-twice commit step p)
          ∙ ap (λ b. cond b (w ∷ removed commit step (removed commit step points)) (removed commit step (removed commit step points))) kept
          ∙ ap (λ ps. w ∷ ps) (removed-twice commit step points)
          ∙ sym one
      | inr gone ↦
          let one : removed commit step (p ∷ points) ≡ removed commit step points = ap (λ b. cond b (w ∷ removed commit step points) (removed commit step points)) gone in
          ap (removed commit step) one ∙ removed-twice commit step points ∙ sym one
    ]

pub without-twice : (commit step : ℕ) (t : Tracked) → without commit step (without commit step t) ≡ without commit step t
without-twice commit step t = ap (λ (ps : List Position). let u : Tracked = record { since = t.since; points = ps } in u) (removed-twice commit step t.points)
