-- Private: no public contract cites this. What a worker that bisects found, by the entries of the journals, is what its pass
-- made.
use Rattle.std.proofs.Common.{◌≡◌, ◌-◌, ℕ, suc, inl, inr, Bool, true, false, cond, List, [], ◌∷◌, ◌++◌, length, refl, sym, ap, ap₂, subst, ◌∙◌, Some, None, append_assoc, append-nil, eq-eqb, arith}
use Rattle.std.{specs.Prelude.{◌==◌, Contains, option_to_list, slice_get, if◌then◌else◌}, specs.List.AllByRecursion, proofs.lemmas.Bool.{cases_Bool, cases_lt}}
use Rattle.std.proofs.lemmas.{Bool.Decides.eqb_tells, Grind.common_steps}
use Rattle.history_lock.specs.{Marks.{AreByOthers, entries, marked, unmarked}, declared.view.Marked.Marked}
use Rattle.history_model.specs.{declared.entries.Author.Author, declared.entries.Entry.Entry, declared.entries.Placed.Placed, Entries.entries_of}
use Rattle.history_model.specs.declared.entries.Author.TheVariants as author
use Rattle.worker_model.specs.Findings.{Finding, finding_of}
use Rattle.bisect_workers.specs.Beside.{findings_by, is_number}
use Rattle.play_fits.specs.{Whole.{AreAll, GoesOn, IsMadeByOne, Joined}, Workers.{Crew, findings_behind, is_bisector}}
use Rattle.play_crew.proofs.Gathered.{mapped-from}
use Rattle.play_fits.proofs.{Lists.{stands-behind, stays-before}, Whole.is-seen}

-- ---- who made an entry
not-both : true ≡ false → ⊥
not-both is = cc

bisector-is : (n : ℕ) (a : Author) → is_bisector n a ≡ true → a ≡ author.Bisect n
bisector-is n a is = grind (arith, common_steps)

is-bisector : (n : ℕ) (a : Author) → a ≡ author.Bisect n → is_bisector n a ≡ true
is-bisector n a is = ap (is_bisector n) is ∙ eq-eqb n n refl

module _ (crew : Crew) (kept : List ℕ → List Placed) (log : List ℕ → List (Marked Placed)) (parts : List Joined) (all : AreAll crew kept log parts)
    (w : Joined) (one : Contains parts w) (n : ℕ) (of : w.author ≡ author.Bisect n) where
  -- the author's entries are those with its pass's mark
  abbrev pub Agree : List ℕ → Marked Placed → Type 0
  Agree m x = is_bisector n x.entry.author ≡ is_number (w.sight.mark m) x.by

  mark-tells : (m : List ℕ) (place : ℕ) (x : Marked Placed) → slice_get (log m) place ≡ Some x → IsMadeByOne parts m x → Agree m x
  mark-tells m place x is made =
      let v : Joined = made.joined in
      let goes : GoesOn crew log v = all.each v made.one in
      let by_v : x.entry.author ≡ v.author = (goes.made m place x.entry (is-seen crew log v goes m place x is made.mark)).0 in
      let number : is_number (w.sight.mark m) x.by ≡ (v.sight.mark m == w.sight.mark m) = ap (is_number (w.sight.mark m)) made.mark in
      elim (eqb_tells (v.sight.mark m) (w.sight.mark m)) [
        | inl same ↦ (
            let own : GoesOn crew log w = all.each w one in
            let mine : x.entry.author ≡ w.author = (own.made m place x.entry (is-seen crew log w own m place x is (made.mark ∙ ap (λ (k : ℕ). Some k) same.1))).0 in
            is-bisector n x.entry.author (mine ∙ of) ∙ sym (number ∙ same.0))
        | inr other ↦ (
            elim (cases_Bool (is_bisector n x.entry.author)) [
              | inl yes_is ↦
                  absurd (other.1 (ap (λ (u : Joined). u.sight.mark m) (all.apart v w made.one one (sym by_v ∙ bisector-is n x.entry.author yes_is ∙ sym of))))
              | inr no_is ↦ no_is ∙ sym (number ∙ other.0)
            ])
      ]

  pub agree : (m : List ℕ) (place : ℕ) (x : Marked Placed) → slice_get (log m) place ≡ Some x → Agree m x
  agree m place x is =
      let both : slice_get (unmarked (kept m) ++ all.rest m) place ≡ Some x = ap (λ (l : List (Marked Placed)). slice_get l place) (sym (all.begins m)) ∙ is in
      elim (cases_lt place (length (unmarked (kept m)))) [
        | inl within ↦ old (mapped-from (λ (e : Placed). marked e None) (kept m) place x (sym (stays-before (unmarked (kept m)) (all.rest m) place within) ∙ both))
        | inr behind ↦ mark-tells m place x is (all.made m (place - length (unmarked (kept m))) x (stands-behind (unmarked (kept m)) (all.rest m) place x behind both))
      ]
    where
      old : (e : Placed) × (slice_get (kept m) place ≡ Some e) × (marked e None ≡ x) → Agree m x
      old e =
          let kept_is : e.0.author ≡ author.Kept = all.kept_are m place e.0 e.1 in
          subst (Agree m) e.2 (ap (is_bisector n) kept_is)

-- ---- findings
pub findings-agree : (n mark : ℕ) (h : List Entry) (xs : List (Marked Placed)) → ((place : ℕ) (x : Marked Placed) → slice_get xs place ≡ Some x → is_bisector n x.entry.author ≡ is_number mark x.by)
    → findings_behind n h (entries xs) ≡ findings_by mark h xs
findings-agree n mark h [] each = refl
findings-agree n mark h (x ∷ xs) each =
    ap₂ (λ (b : Bool) (l : List Finding). (if b then option_to_list (finding_of h x.entry.entry) else []) ++ l) (each 0 x refl)
    (findings-agree n mark (h ++ x.entry.entry ∷ []) xs (λ place. each (suc place)))

findings-append : (mark : ℕ) (h : List Entry) (xs ys : List (Marked Placed)) → findings_by mark h (xs ++ ys) ≡ findings_by mark h xs ++ findings_by mark (h ++ entries_of (entries xs)) ys
findings-append mark h [] ys = ap (λ (x : List Entry). findings_by mark x ys) (sym (append-nil h))
findings-append mark h (x ∷ xs) ys =
    let own : List Finding = cond (is_number mark x.by) (option_to_list (finding_of h x.entry.entry)) [] in
    let h' : List Entry = h ++ x.entry.entry ∷ [] in
    ap (λ (fs : List Finding). own ++ fs)
    (findings-append mark h' xs ys ∙ ap (λ (g : List Entry). findings_by mark h' xs ++ findings_by mark g ys) (append_assoc h (x.entry.entry ∷ []) (entries_of (entries xs))))
    ∙ sym (append_assoc own (findings_by mark h' xs) (findings_by mark (h ++ entries_of (entries (x ∷ xs))) ys))

others-none : (mark : ℕ) (h : List Entry) (xs : List (Marked Placed)) → AreByOthers (mark ∷ []) xs → findings_by mark h xs ≡ []
others-none mark h [] others = refl
others-none mark h (x ∷ xs) others = grind (arith, common_steps, others-none mark (h ++ x.entry.entry ∷ []) xs others.1)

unmarked-none : (mark : ℕ) (h : List Entry) (es : List Placed) → findings_by mark h (unmarked es) ≡ []
unmarked-none mark h [] = refl
unmarked-none mark h (e ∷ es) = unmarked-none mark (h ++ e.entry ∷ []) es

entries-unmarked : (es : List Placed) → entries_of (entries (unmarked es)) ≡ entries_of es
entries-unmarked [] = refl
entries-unmarked (e ∷ es) = ap (λ (l : List Entry). e.entry ∷ l) (entries-unmarked es)

-- what a pass made behind what was kept, others before and after it
pub findings-log : (mark : ℕ) (k : List Placed) (more rest : List (Marked Placed)) → AreByOthers (mark ∷ []) rest
    → findings_by mark [] ((unmarked k ++ more) ++ rest) ≡ findings_by mark (entries_of k) more
findings-log mark k more rest others = grind (arith, common_steps, findings-append, others-none, append-nil, unmarked-none, entries-unmarked)

-- entries behind others
pub behind-append : (n : ℕ) (h : List Entry) (xs ys : List Placed) → findings_behind n h (xs ++ ys) ≡ findings_behind n h xs ++ findings_behind n (h ++ entries_of xs) ys
behind-append n h [] ys = ap (λ (x : List Entry). findings_behind n x ys) (sym (append-nil h))
behind-append n h (p ∷ xs) ys =
    let own : List Finding = cond (is_bisector n p.author) (option_to_list (finding_of h p.entry)) [] in
    let h' : List Entry = h ++ p.entry ∷ [] in
    ap (λ (fs : List Finding). own ++ fs)
    (behind-append n h' xs ys ∙ ap (λ (g : List Entry). findings_behind n h' xs ++ findings_behind n g ys) (append_assoc h (p.entry ∷ []) (entries_of xs)))
    ∙ sym (append_assoc own (findings_behind n h' xs) (findings_behind n (h ++ entries_of (p ∷ xs)) ys))

-- entries of others find nothing
pub behind-none : (n : ℕ) (h : List Entry) (xs : List Placed) → AllByRecursion (λ (p : Placed). is_bisector n p.author ≡ false) xs → findings_behind n h xs ≡ []
behind-none n h [] all = refl
behind-none n h (p ∷ xs) all = grind (arith, common_steps, behind-none n (h ++ p.entry ∷ []) xs all.1)
