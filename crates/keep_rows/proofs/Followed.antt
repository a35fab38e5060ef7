-- Regressions and jobs stand as they stood where the publications are left out.
use Rattle.std.proofs.Common.{◌≡◌, ℕ, ◌+◌, ◌-◌, List, [], ◌∷◌, ◌++◌, length, take, None, refl, sym, ap, ap₂, ◌∙◌, arith, append-nil, append_assoc}
use Rattle.std.{specs.Prelude.{filter, is_some, unwrap_or}, specs.List.last_or, proofs.Math.Seq.take-append_seam, proofs.lemmas.List.length-append}
use Rattle.std.proofs.lemmas.List.Elements.{filter-append}
use Rattle.bisect_core.specs.Bisections.{Bisection, bisection}
use Rattle.regression_state.specs.declared.states.State.TheVariants.{Detected}
use Rattle.history_model.specs.{declared.entries.Entry.Entry, Commits.{declarations, name_in, numbers_between, numbers_from}, Entries.chosen_from}
use Rattle.history_model.specs.declared.entries.Entry.TheVariants as entry
use Rattle.history_model.specs.declared.events.JobEvent.TheVariants as event
use Rattle.history_model.specs.{Jobs.{Begun, begun, said, turns, commits_of, standing_from, jobs}, Regressions.{raised, regressions, moved, state_of}}
use Rattle.keep_rows.{specs.Kept.is_kept, proofs.Choices.{filter_so, never, same_name, same_plain}}

-- ---- regressions
pub same_regressions : (h : List Entry) → regressions (filter is_kept h) ≡ regressions h
same_regressions h = same_plain raised (λ s t e. refl) (never raised (λ s p. refl)) h

pub same_state : (number : ℕ) (h : List Entry) → state_of number (filter is_kept h) ≡ state_of number h
same_state number h = ap (λ moves. unwrap_or (last_or None moves) Detected) (same_plain (moved number) (λ s t e. refl) (never (moved number) (λ s p. refl)) h)

-- ---- jobs
same_turns : (number : ℕ) (h : List Entry) → turns number (filter is_kept h) ≡ turns number h
same_turns number h = same_plain (said number) (λ s t e. refl) (never (said number) (λ s p. refl)) h

-- the numbers that a history declares are the same without its publications
same_between : (lo hi : ℕ) (g : List Entry) → numbers_between lo hi (declarations (filter is_kept g)) ≡ numbers_between lo hi (declarations g)
same_between lo hi g =
    filter_so (λ n. is_some (name_in n (declarations (filter is_kept g)))) (λ n. is_some (name_in n (declarations g))) (λ n. ap is_some (same_name g n)) (numbers_from lo (hi + 1 - lo))

-- a job that is begun after some entries is of the commits that they declare
begun_after : ℕ → ℕ → List Entry → Begun
begun_after lo hi g = record { step = length g + 1; lo = lo; hi = hi }

commits_after : (lo hi : ℕ) (g h : List Entry) → commits_of (g ++ h) (begun_after lo hi g) ≡ numbers_between lo hi (declarations g)
unfolding begun_after
commits_after lo hi g h =
    let last : length g + 1 - 1 ≡ length g = omega arith in
    ap (λ n. numbers_between lo hi (declarations (take n (g ++ h)))) last ∙ ap (λ v. numbers_between lo hi (declarations v)) (take-append_seam g h)

same_job : (number lo hi : ℕ) (g h : List Entry)
    → bisection (commits_of (filter is_kept (g ++ h)) (begun_after lo hi (filter is_kept g))) (turns number (filter is_kept (g ++ h)))
    ≡ bisection (commits_of (g ++ h) (begun_after lo hi g)) (turns number (g ++ h))
same_job number lo hi g h =
    ap₂ bisection
    (ap (λ f. commits_of f (begun_after lo hi (filter is_kept g))) (filter-append is_kept g h) ∙ commits_after lo hi (filter is_kept g) (filter is_kept h) ∙ same_between lo hi g
    ∙ sym (commits_after lo hi g h))
    (same_turns number (g ++ h))

-- where the jobs stand that are begun after so many entries of a history
standing_after : List Entry → ℕ → ℕ → List Entry → List Bisection
standing_after f number before h = standing_from f number (chosen_from (before + 1) begun h)

-- the same with an entry more before them
after_one : (number k : ℕ) (g : List Entry) (e : Entry) (h : List Entry) → length (filter is_kept (g ++ e ∷ [])) ≡ k
    → standing_after (filter is_kept ((g ++ e ∷ []) ++ h)) number (length (filter is_kept (g ++ e ∷ []))) (filter is_kept h) ≡ standing_after ((g ++ e ∷ []) ++ h) number (length (g ++ e ∷ [])) h
    → standing_after (filter is_kept (g ++ e ∷ h)) number k (filter is_kept h) ≡ standing_after (g ++ e ∷ h) number (length g + 1) h
after_one number k g e h is same =
    let whole : (g ++ e ∷ []) ++ h ≡ g ++ e ∷ h = append_assoc g (e ∷ []) h in
    ap₂ (λ f n. standing_after (filter is_kept f) number n (filter is_kept h)) (sym whole) (sym is) ∙ same ∙ ap₂ (λ f n. standing_after f number n h) whole (length-append g (e ∷ []))

-- an entry that is kept is one step more
one_more : (g : List Entry) (e : Entry) → filter is_kept (e ∷ []) ≡ e ∷ [] → length (filter is_kept (g ++ e ∷ [])) ≡ length (filter is_kept g) + 1
one_more g e is = ap length (filter-append is_kept g (e ∷ []) ∙ ap (λ xs. filter is_kept g ++ xs) is) ∙ length-append (filter is_kept g) (e ∷ [])

same_after : (number : ℕ) (g h : List Entry)
    → standing_after (filter is_kept (g ++ h)) number (length (filter is_kept g)) (filter is_kept h) ≡ standing_after (g ++ h) number (length g) h
unfolding standing_after begun_after
same_after number g [] = refl
same_after number g (entry.Publish p ∷ h) =
    let e : Entry = entry.Publish p in
    after_one number (length (filter is_kept g)) g e h (ap length (filter-append is_kept g (e ∷ []) ∙ append-nil (filter is_kept g))) (same_after number (g ++ e ∷ []) h)
same_after number g (entry.Job (event.Begin lo hi) ∷ h) =
    let e : Entry = entry.Job (event.Begin lo hi) in
    ap₂ (λ (x : Bisection) xs. x ∷ xs) (same_job number lo hi g (e ∷ h))
    (after_one (number + 1) (length (filter is_kept g) + 1) g e h (one_more g e refl) (same_after (number + 1) (g ++ e ∷ []) h))
same_after number g (e ∷ h) =
    after_one number (length (filter is_kept g) + 1) g e h (one_more g e refl) (same_after number (g ++ e ∷ []) h)

pub same_jobs : (h : List Entry) → jobs (filter is_kept h) ≡ jobs h
unfolding standing_after
same_jobs h = same_after 1 [] h
