-- What a history has once so many commits were declared, runs accepted and runs taken back.
use Rattle.std.proofs.Common.{◌≡◌, ℕ, suc, ◌+◌, ◌*◌, ◌<◌, ◌≤◌, ◌^◌, false, List, [], ◌∷◌, ◌++◌, length, sym, subst, ap, ◌∙◌, arith, length-append, None}
use Rattle.std.{specs.Prelude.{find, bytes_eq}, specs.List.AllByRecursion, proofs.lemmas.Bool.Decides.nat_tests}
use Rattle.segment_model.specs.Limits.{IsLength}
use Rattle.history_model.specs.declared.{entries.Acceptance.Acceptance, entries.Declaration.Declaration, entries.Entry.Entry, setting.Setting.Setting}
use Rattle.history_model.specs.{Allowed.KeepsLimits, Commits.{declarations, has_name, has_number}}
use Rattle.history_model.specs.{Runs.{Retraction, acceptances, retractions, is_run, takes_back}, Penalties.{length_of, set_for, SettingStays}}
use Rattle.history_model.specs.Publications.{cut_count}
use Rattle.trial_script.specs.Requests.{metric, commit_name, run_name, sample}
use Rattle.trial_script.proofs.Lists.{below_suc, all_more, all_of, Found, find_none, find_more, find_last, same_name, other_name}

-- a commit below n, by its own name
pub record IsDeclared (n : ℕ) (d : Declaration) : Type 0 where
  pub below : d.number < n
  pub named : d.name ≡ commit_name d.number

-- a run below j, by its own name, of one sample
pub record IsTaken (j : ℕ) (a : Acceptance) : Type 0 where
  pub number : ℕ
  pub below : number < j
  pub named : a.run.run ≡ run_name number
  pub value : ℕ
  pub measured : a.run.samples ≡ sample value ∷ []

-- the retraction of one of the first r runs that are taken back
pub record IsTakenBack (r : ℕ) (t : Retraction) : Type 0 where
  pub number : ℕ
  pub below : number < r
  pub named : t.run ≡ run_name (200 * number)

-- the declared commits are the first n, the accepted runs the first j, and the first r of those that are taken back were
pub record AreLists (n j r : ℕ) (ds : List Declaration) (xs : List Acceptance) (rs : List Retraction) : Type 0 where
  pub commits : length ds ≡ n
  pub declared : AllByRecursion (IsDeclared n) ds
  pub there : (i : ℕ) → i < n → Found (has_name (commit_name i)) ds
  pub runs : length xs ≡ j
  pub taken : AllByRecursion (IsTaken j) xs
  pub accepted : (i : ℕ) → i < j → Found (is_run (run_name i)) xs
  pub taken_back : AllByRecursion (IsTakenBack r) rs

-- and the history is within its limits, with t entries of another kind and a publication for a hundred runs at most
pub record Reached (n j r t : ℕ) (h : List Entry) : Type 0 where
  pub lists : AreLists n j r (declarations h) (acceptances h) (retractions h)
  pub limits : KeepsLimits h
  pub published : ℕ
  pub steps : length h ≤ n + j + r + t + published
  pub few : 100 * published ≤ j
  pub cuts : cut_count h ≤ 16_384 * (published + t)
  pub long : IsLength (length_of metric h)

-- the least length of the metric is in range after an entry that leaves it as it is
pub long_stays : SettingStays → (h : List Entry) (e : Entry) → set_for metric (length h + 1) e ≡ None → IsLength (length_of metric h)
    → IsLength (length_of metric (h ++ e ∷ []))
long_stays stays h e none long = subst (λ (s : Setting). IsLength s.length) (sym (stays h e metric none)) long

-- ---- what is not there

declared_below : (n : ℕ) (d : Declaration) → IsDeclared n d → has_number n d ≡ false
declared_below n d is = let below : d.number < n = is.below in grind (arith, nat_tests)

declared_else : (n : ℕ) → n < 2 ^ 64 → (d : Declaration) → IsDeclared n d → has_name (commit_name n) d ≡ false
declared_else n small d is = ap (λ (name : List ℕ). bytes_eq name (commit_name n)) is.named ∙ other_name 99 d.number n
    (omega (arith, is.below, small)) small (λ same. absurd (omega (arith, is.below, same)))

taken_else : (j : ℕ) → j < 2 ^ 64 → (a : Acceptance) → IsTaken j a → is_run (run_name j) a ≡ false
taken_else j small a is = ap (λ (name : List ℕ). bytes_eq name (run_name j)) is.named ∙ other_name 114 is.number j
    (omega (arith, is.below, small)) small (λ same. absurd (omega (arith, is.below, same)))

back_else : (r j : ℕ) → j < 2 ^ 64 → 200 * r ≤ j → (t : Retraction) → IsTakenBack r t → takes_back (run_name j) t ≡ false
back_else r j small far t is =
    ap (λ (name : List ℕ). bytes_eq name (run_name j)) is.named ∙ other_name 114 (200 * is.number) j (omega (arith, is.below, far, small)) small
    (λ same. absurd (omega (arith, is.below, far, same)))

module _ {n j r : ℕ} {ds : List Declaration} {xs : List Acceptance} {rs : List Retraction} (lists : AreLists n j r ds xs rs) where
  pub no_number : find (has_number n) ds ≡ None
  no_number = find_none (has_number n) (IsDeclared n) (declared_below n) ds lists.declared

  pub no_name : n < 2 ^ 64 → find (has_name (commit_name n)) ds ≡ None
  no_name small = find_none (has_name (commit_name n)) (IsDeclared n) (declared_else n small) ds lists.declared

  pub no_run : j < 2 ^ 64 → find (is_run (run_name j)) xs ≡ None
  no_run small = find_none (is_run (run_name j)) (IsTaken j) (taken_else j small) xs lists.taken

  -- a run that comes behind those that were taken back was not
  pub not_back : (i : ℕ) → i < 2 ^ 64 → 200 * r ≤ i → find (takes_back (run_name i)) rs ≡ None
  not_back i small far = find_none (takes_back (run_name i)) (IsTakenBack r) (back_else r i small far) rs lists.taken_back

  -- ---- one more

  pub with_commit : (d : Declaration) → d.number ≡ n → d.name ≡ commit_name n → AreLists (suc n) j r (ds ++ d ∷ []) xs rs
  with_commit d number name = record {
    commits = omega (arith, length-append ds (d ∷ []), lists.commits);
    declared = all_more (IsDeclared (suc n)) ds (d ∷ [])
        (all_of (IsDeclared n) (IsDeclared (suc n)) (λ x is. record { below = omega (arith, is.below); named = is.named }) ds lists.declared)
        (record { below = omega (arith, number); named = name ∙ ap commit_name (sym number) }, tt);
    there = below_suc (λ i. Found (has_name (commit_name i)) (ds ++ d ∷ [])) n (λ i less. find_more (has_name (commit_name i)) ds (d ∷ []) (lists.there i less))
        (find_last (has_name (commit_name n)) ds d (ap (λ (w : List ℕ). bytes_eq w (commit_name n)) name ∙ same_name (commit_name n)));
    runs = lists.runs;
    taken = lists.taken;
    accepted = lists.accepted;
    taken_back = lists.taken_back;
  }

  pub with_run : (a : Acceptance) (v : ℕ) → a.run.run ≡ run_name j → a.run.samples ≡ sample v ∷ [] → AreLists n (suc j) r ds (xs ++ a ∷ []) rs
  with_run a v name samples = record {
    commits = lists.commits;
    declared = lists.declared;
    there = lists.there;
    runs = omega (arith, length-append xs (a ∷ []), lists.runs);
    taken = all_more (IsTaken (suc j)) xs (a ∷ []) (all_of (IsTaken j) (IsTaken (suc j))
        (λ x is. record { number = is.number; below = omega (arith, is.below); named = is.named; value = is.value; measured = is.measured }) xs lists.taken)
        (record { number = j; below = omega arith; named = name; value = v; measured = samples }, tt);
    accepted = below_suc (λ i. Found (is_run (run_name i)) (xs ++ a ∷ [])) j (λ i less. find_more (is_run (run_name i)) xs (a ∷ []) (lists.accepted i less))
        (find_last (is_run (run_name j)) xs a (ap (λ (w : List ℕ). bytes_eq w (run_name j)) name ∙ same_name (run_name j)));
    taken_back = lists.taken_back;
  }

  pub with_retraction : (t : Retraction) → t.run ≡ run_name (200 * r) → AreLists n j (suc r) ds xs (rs ++ t ∷ [])
  with_retraction t name = record {
    commits = lists.commits;
    declared = lists.declared;
    there = lists.there;
    runs = lists.runs;
    taken = lists.taken;
    accepted = lists.accepted;
    taken_back = all_more (IsTakenBack (suc r)) rs (t ∷ [])
        (all_of (IsTakenBack r) (IsTakenBack (suc r)) (λ x is.
        record { number = is.number; below = omega (arith, is.below); named = is.named }) rs lists.taken_back)
        (record { number = r; below = omega arith; named = name }, tt);
  }
