-- One turn of a worker that bisects.
use Rattle.std.proofs.Common.{◌≡◌, ℕ, ◌≤◌, ◌<◌, Bool, true, false, List, [], ◌∷◌, ◌++◌, length, refl, sym, ap, subst, ◌∙◌, Option, Some, None, arith}
use Rattle.std.{specs.Prelude.{All, option_map, option_to_list}, proofs.lemmas.List.{append-nil, length-append}, proofs.lemmas.Grind.common_steps}
use Rattle.std.proofs.lemmas.List.Elements.{All-nil, All-cons}
use Rattle.metric_table.specs.{Limits.most, declared.limits.Limit.Limit}
use Rattle.metric_table.specs.declared.limits.Limit.TheVariants as limit
use Rattle.track_outside.specs.Asked.{Ask, with_ask}
use Rattle.bisect_core.specs.declared.outcome.Answered.{Answered}
use Rattle.bisect_core.specs.declared.outcome.Answered.TheVariants as answered
use Rattle.history_model.specs.{declared.entries.Author.Author, declared.entries.Entry.Entry, declared.entries.Placed.Placed, Allowed.first_passed}
use Rattle.history_model.specs.{Entries.entries_of, Jobs.asked, Laws.FirstKept}
use Rattle.track_room.specs.{Settling.{IsPut, IsSettled, IsTaken, entry_said}, Settled.Settled, Questions.IsQuestion, Question.Question}
use Rattle.track_model.specs.Tracks.{Track, with_entry}
use Rattle.bisect_workers.specs.{Bisecting.{IsBisected, IsDue, IsSaidBy, RoseBy}, Failures.failures, Findings.{asks_of, give_ups}}
use Rattle.worker_model.specs.Findings.{Finding, finding_of}

-- ---- what was said is recorded
put-of : (o : Option Limit) (old : Track) (author : Author) (e : Entry) (told : Settled) (new : Track) → o ≡ None → IsPut o old author e told new → new ≡ with_entry author old e
put-of o old author e told new none is = grind (arith, common_steps)

taken-of : (a : Answered) (old : Track) (author : Author) (e : Entry) (told : Settled) (new : Track) → a ≡ answered.Ok → IsTaken a old author e told new
    → IsPut (first_passed (limit.Steps ∷ []) (entries_of old.history) e) old author e told new
taken-of a old author e told new ok is = grind (arith, common_steps)

pub recorded : FirstKept → (old : Track) (author : Author) (q : Question) (status : Option ℕ) (told : Settled) (new : Track) → IsQuestion (entries_of old.history) q
    → length (entries_of old.history) < most limit.Steps → IsSettled old author q.job q.place status told new → new ≡ with_entry author old (entry_said q.job q.place status)
recorded kept old author q status told new question room settled = grind (arith, common_steps)

-- ---- one ask
module _ (author : Author) (word : List ℕ) (old : Track) (q : Question) (question : IsQuestion (entries_of old.history) q) (status : Option ℕ) where
  abbrev ask : Ask
  ask = record { test = word; commit = q.commit; status = status }

  due-in : (more : List Placed) → IsDue word (old.history ++ more) ask
  due-in more = record {
    of_test = refl;
    count = length old.history;
    within = let size = length-append old.history more in omega (arith, size);
    asked = grind (arith, common_steps);
  }

  told-one : (asked : Option (List Ask)) (used : Bool) → with_ask ask asked ≡ option_map (λ (before : List Ask). before ++ asks_of (record { ask = ask; used = used } ∷ [])) asked
  told-one asked used = grind (arith, common_steps)

  -- it was asked, and nothing was added
  pub unused : (asked asked' : Option (List Ask)) (before after : ℕ) → asked' ≡ with_ask ask asked → RoseBy (failures status) before after → before ≤ after
      → IsBisected author word old old asked asked' before after
  unused asked asked' before after told rose le = record {
    machine = refl;
    kept = refl;
    more = [];
    history = sym (append-nil old.history);
    each = All-nil (IsSaidBy author);
    uses = record { ask = ask; used = false } ∷ [];
    told = told ∙ told-one asked false;
    found = refl;
    due = All-cons (IsDue word old.history) ask [] (subst (λ (ps : List Placed). IsDue word ps ask) (append-nil old.history) (due-in [])) (All-nil (IsDue word old.history));
    given_up = omega (arith, le);
  }

  found-one : (status : Option ℕ) → finding_of (entries_of old.history) (entry_said q.job q.place status) ≡ Some (record { commit = q.commit; status = status })
  found-one status = grind (arith, common_steps)

  given-one : (status : Option ℕ) → give_ups (record { author = author; entry = entry_said q.job q.place status } ∷ []) ≡ failures status
  given-one status = grind (arith, common_steps)

  -- and what was found is said
  pub used : (new : Track) → new ≡ with_entry author old (entry_said q.job q.place status) → (asked asked' : Option (List Ask)) (before after : ℕ) → asked' ≡ with_ask ask asked
      → RoseBy (failures status) before after → IsBisected author word old new asked asked' before after
  used new is asked asked' before after told rose =
      let x : Placed = record { author = author; entry = entry_said q.job q.place status } in
      let history : new.history ≡ old.history ++ x ∷ [] = ap (λ (t : Track). t.history) is in
      record {
        machine = ap (λ (t : Track). t.machine) is;
        kept = ap (λ (t : Track). t.kept) is;
        more = x ∷ [];
        history = history;
        each = All-cons (IsSaidBy author) x [] (record { author_is = refl; job = q.job; place = q.place; status = status; entry_is = refl }) (All-nil (IsSaidBy author));
        uses = record { ask = ask; used = true } ∷ [];
        told = told ∙ told-one asked true;
        found = ap (λ (o : Option Finding). option_to_list o ++ []) (found-one status);
        due = subst (λ (ps : List Placed). All (IsDue word ps) (ask ∷ [])) (sym history)
            (All-cons (IsDue word (old.history ++ x ∷ [])) ask [] (due-in (x ∷ [])) (All-nil (IsDue word (old.history ++ x ∷ []))));
        given_up = let one = given-one status in omega (arith, one, rose);
      }
