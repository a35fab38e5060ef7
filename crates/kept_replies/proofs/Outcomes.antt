-- The outcome of a form on the kept history, from its refusals and its answer.
use Rattle.std.proofs.Common.{◌≡◌, ℕ, ◌+◌, Bool, true, false, List, [], ◌∷◌, ◌++◌, length, map, Option, None, Some, refl, sym, ap, ap₂, ◌∙◌, append-nil}
use Rattle.std.{specs.Prelude.option_map, proofs.Math.Seq.take-length, proofs.lemmas.List.length-append}
use Rattle.metric_table.specs.declared.limits.Limit.{Limit}
use Rattle.history_model.specs.{declared.entries.Entry.Entry, Allowed.first_passed}
use Rattle.request_model.specs.declared.replies.{Answer.Answer, Refusal.Refusal}
use Rattle.request_model.specs.declared.replies.Answer.TheVariants as answer
use Rattle.track_model.specs.{Outcomes.{Outcome, refusal_if, first, unless, added_unless, adds_within}, Replies.reply_of}
use Rattle.keep_rows.specs.Kept.{is_kept, kept_entries}
use Rattle.kept_replies.specs.Replies.{kept_step, kept_refusal, kept_answer, kept_outcome, kept_reply, behind, HasRoom}
use Rattle.kept_replies.proofs.Limits.{AreUncut, kept_append, passed_so}

-- ---- rows of refusals
first_so : (f : Answer → Answer) (row : List (Option Answer)) → option_map f (first row) ≡ first (map (option_map f) row)
first_so f [] = refl
first_so f (Some a ∷ row) = refl
first_so f (None ∷ row) = first_so f row

-- rows are the same where each refusal is
pub next : {A : Type 0} {x y : A} {xs ys : List A} → x ≡ y → xs ≡ ys → x ∷ xs ≡ y ∷ ys
next one more = ap₂ (λ x xs. x ∷ xs) one more

-- a refusal that tells no step is the same
pub plain : (h : List Entry) (test : Bool) (r : Refusal) → kept_refusal h r ≡ r → option_map (kept_answer h) (refusal_if test r) ≡ refusal_if test r
plain h true r same = ap (λ (x : Refusal). Some (answer.Refused x)) same
plain h false r same = refl

-- ---- forms that may add an entry

-- a form comes to the same on both histories where its refusals and its answer are the same
module _ (h : List Entry) (limits : List Limit) (e : Entry) (a : Answer) where
  added_so : (passed : Option Limit) → kept_outcome h (added_unless passed e a) ≡ added_unless passed e (kept_answer h a)
  added_so None = refl
  added_so (Some l) = refl

  within_so : AreUncut limits → is_kept e ≡ true → HasRoom (adds_within limits h e a)
      → kept_outcome h (adds_within limits h e a) ≡ adds_within limits (kept_entries h) e (kept_answer h a)
  within_so uncut is room =
      let passed : first_passed limits (kept_entries h) e ≡ first_passed limits h e =
      passed_so h e is limits uncut (λ full. room (ap (λ (o : Option Limit). (added_unless o e a).answer) full)) in
      added_so (first_passed limits h e) ∙ ap (λ (o : Option Limit). added_unless o e (kept_answer h a)) (sym passed)

  unless_so : (r : Option Answer) → AreUncut limits → is_kept e ≡ true → HasRoom (unless r (adds_within limits h e a))
      → kept_outcome h (unless r (adds_within limits h e a)) ≡ unless (option_map (kept_answer h) r) (adds_within limits (kept_entries h) e (kept_answer h a))
  unless_so None uncut is room = within_so uncut is room
  unless_so (Some told) uncut is room = refl

  pub form_so : (row others : List (Option Answer)) (other : Answer) → AreUncut limits → is_kept e ≡ true
      → map (option_map (kept_answer h)) row ≡ others → kept_answer h a ≡ other → HasRoom (unless (first row) (adds_within limits h e a))
      → kept_outcome h (unless (first row) (adds_within limits h e a)) ≡ unless (first others) (adds_within limits (kept_entries h) e other)
  form_so row others other uncut is rows told room =
      unless_so (first row) uncut is room
      ∙ ap₂ (λ (r : Option Answer) (x : Answer). unless r (adds_within limits (kept_entries h) e x)) (first_so (kept_answer h) row ∙ ap first rows) told

-- ---- replies

-- an answer with which an entry is added tells no step, and the entry is kept
abbrev pub TellsNone : Answer → Type 0
TellsNone a = (h : List Entry) → kept_answer h a ≡ a

abbrev pub AddsKept : Answer → Option Entry → Type 0
AddsKept a None = Unit {0}
AddsKept a (Some e) = (is_kept e ≡ true) × TellsNone a

abbrev pub IsKept : Outcome → Type 0
IsKept o = AddsKept o.answer o.adds

added_kept : (passed : Option Limit) (e : Entry) (a : Answer) → is_kept e ≡ true → TellsNone a → IsKept (added_unless passed e a)
added_kept None e a is none = (is, none)
added_kept (Some l) e a is none = tt

pub form_kept : (h : List Entry) (limits : List Limit) (r : Option Answer) (e : Entry) (a : Answer) → is_kept e ≡ true → TellsNone a
    → IsKept (unless r (adds_within limits h e a))
form_kept h limits None e a is none = added_kept (first_passed limits h e) e a is none
form_kept h limits (Some told) e a is none = tt

all_steps : (h : List Entry) → kept_step h (length h) ≡ length (kept_entries h)
all_steps h = ap (λ v. length (kept_entries v)) (take-length h)

reply_with : (h : List Entry) (a : Answer) (added : Option Entry) → AddsKept a added
    → reply_of (kept_entries h) (kept_outcome h (record { answer = a; adds = added }))
    ≡ kept_reply (behind h (record { answer = a; adds = added })) (reply_of h (record { answer = a; adds = added }))
reply_with h a None is =
    ap₂ (λ (n : ℕ) (x : Answer). record { step = n; answer = x })
    (sym (all_steps h) ∙ ap (λ (g : List Entry). kept_step g (length h)) (sym (append-nil h)))
    (ap (λ (g : List Entry). kept_answer g a) (sym (append-nil h)))
reply_with h a (Some e) is =
    let now : length (kept_entries h) + 1 ≡ length (kept_entries (h ++ e ∷ [])) =
    sym (length-append (kept_entries h) (e ∷ [])) ∙ ap length (kept_append h e is.0) in
    ap₂ (λ (n : ℕ) (x : Answer). record { step = n; answer = x })
    (now ∙ sym (all_steps (h ++ e ∷ [])) ∙ ap (kept_step (h ++ e ∷ [])) (length-append h (e ∷ [])))
    (is.1 h ∙ sym (is.1 (h ++ e ∷ [])))

pub reply_so : (h : List Entry) (o : Outcome) → IsKept o → reply_of (kept_entries h) (kept_outcome h o) ≡ kept_reply (behind h o) (reply_of h o)
reply_so h o is = reply_with h o.answer o.adds is

behind_with : (h : List Entry) (a : Answer) (added : Option Entry) → AddsKept a added
    → behind (kept_entries h) (record { answer = kept_answer h a; adds = added }) ≡ kept_entries (behind h (record { answer = a; adds = added }))
behind_with h a None is = append-nil (kept_entries h) ∙ ap kept_entries (sym (append-nil h))
behind_with h a (Some e) is = kept_append h e is.0

pub behind_so : (h : List Entry) (o : Outcome) → IsKept o → behind (kept_entries h) (kept_outcome h o) ≡ kept_entries (behind h o)
behind_so h o is = behind_with h o.answer o.adds is
