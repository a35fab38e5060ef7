-- A history with one entry more is legal, and with one commit more keeps its limits.
use Rattle.std.proofs.lemmas.Grind.{common_steps}
use Rattle.std.proofs.{Common.{ℕ, ◌+◌, ◌≤◌, List, [], ◌∷◌, ◌++◌, length, sym, subst, arith}, lemmas.List.{append-nil, append_assoc, length-append}}
use Rattle.history_model.{proofs.Chosen.{chosen-push, chosen-skip}, proofs.Standings.jobs-stay, specs.declared.entries.Entry.Entry, specs.Commits.declarations}
use Rattle.history_model.specs.declared.entries.Entry.TheVariants as entry
use Rattle.metric_table.specs.declared.limits.Limit.TheVariants as limit
use Rattle.metric_table.specs.Limits.{most}
use Rattle.history_model.specs.Allowed.{Legal, Allowed, AllowedAfter, KeepsLimits}

AllowedAfter-push : (h es : List Entry) (e : Entry) → AllowedAfter h es → Allowed (h ++ es) e → AllowedAfter h (es ++ e ∷ [])
AllowedAfter-push h [] e legal allowed = grind (arith, common_steps)
AllowedAfter-push h (x ∷ es) e legal allowed =
    let P : List Entry → Type 0 = λ before. Allowed before e in
    (legal.0, AllowedAfter-push (h ++ x ∷ []) es e legal.1 (subst P (sym (append_assoc h (x ∷ []) es)) allowed))

-- a legal history with an entry that is allowed after it
pub legal-push : (h : List Entry) (e : Entry) → Legal h → Allowed h e → Legal (h ++ e ∷ [])
legal-push h e legal allowed = AllowedAfter-push [] h e legal allowed

-- what holds of no entry and goes on with each that is allowed holds of each legal history
module _ (P : List Entry → Type 0) (grown : (h : List Entry) (e : Entry) → Allowed h e → P h → P (h ++ e ∷ [])) where
  each-later : (h es : List Entry) → AllowedAfter h es → P h → P (h ++ es)
  each-later h [] legal holds = subst P (sym (append-nil h)) holds
  each-later h (e ∷ es) legal holds = subst P (append_assoc h (e ∷ []) es) (each-later (h ++ e ∷ []) es legal.1 (grown h e legal.0 holds))

pub legal-each : (P : List Entry → Type 0) → P [] → ((h : List Entry) (e : Entry) → Allowed h e → P h → P (h ++ e ∷ [])) → (h : List Entry) → Legal h → P h
legal-each P none grown h legal = each-later P grown [] h legal none

-- ---- a commit more
module _ (h : List Entry) (number : ℕ) (name : List ℕ) where
  pub limits-commit : KeepsLimits h → length h + 1 ≤ most limit.Steps → length (declarations h) + 1 ≤ most limit.Commits → KeepsLimits (h ++ entry.Commit number name ∷ [])
  limits-commit keeps steps commits x3 = grind (arith, common_steps, length-append, chosen-push, h, number, name, chosen-skip, jobs-stay)
