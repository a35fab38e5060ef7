-- What a worker added in one turn after another.
use Rattle.std.proofs.Common.{◌≡◌, Bool, ℕ, ◌+◌, ◌≤◌, List, [], ◌∷◌, ◌++◌, length, refl, sym, ap, ap₂, subst, ◌∙◌, Option, Some, None, arith}
use Rattle.std.{specs.Prelude.{All, filter, option_map}, proofs.lemmas.Grind.common_steps}
use Rattle.std.proofs.lemmas.List.{append-nil, append_assoc, length-append, map-append, Elements.{All-append, All-nil, All-weaker, filter-append}}
use Rattle.track_outside.specs.Asked.{Ask}
use Rattle.history_model.specs.{declared.entries.Author.Author, declared.entries.Entry.Entry, declared.entries.Placed.Placed, Entries.entries_of}
use Rattle.track_model.specs.Tracks.{Track}
use Rattle.bisect_workers.specs.{Bisecting.{IsBisected, IsDue, IsSaidBy}, Findings.{Use, asks_of}}
use Rattle.worker_model.specs.Findings.{findings_behind, gives_up}

-- ---- nothing was added
pub nothing : (author : Author) (word : List ℕ) (t : Track) (asked : Option (List Ask)) (before after : ℕ) → before ≤ after → IsBisected author word t t asked asked before after
nothing author word t asked before after le = record {
  machine = refl;
  kept = refl;
  more = [];
  history = sym (append-nil t.history);
  each = All-nil (IsSaidBy author);
  uses = [];
  told = sym (same asked);
  found = refl;
  due = All-nil (IsDue word t.history);
  given_up = omega (arith, le);
}
  where
    same : (o : Option (List Ask)) → option_map (λ (asks : List Ask). asks ++ asks_of []) o ≡ o
    same None = refl
    same (Some asks) = ap (λ (xs : List Ask). Some xs) (append-nil asks)

-- ---- one turn after another
findings-append : (h : List Entry) (xs ys : List Placed) → findings_behind h (xs ++ ys) ≡ findings_behind h xs ++ findings_behind (h ++ entries_of xs) ys
findings-append h [] ys = ap (λ (x : List Entry). findings_behind x ys) (sym (append-nil h))
findings-append h (p ∷ xs) ys = grind (arith, common_steps, findings-append (h ++ p.entry ∷ []) xs ys)

pub told-twice : (o : Option (List Ask)) (xs ys : List Ask)
    → option_map (λ (asks : List Ask). asks ++ ys) (option_map (λ (asks : List Ask). asks ++ xs) o) ≡ option_map (λ (asks : List Ask). asks ++ (xs ++ ys)) o
told-twice o xs ys = grind (arith, common_steps)

pub later-due : (word : List ℕ) (history more : List Placed) (ask : Ask) → IsDue word history ask → IsDue word (history ++ more) ask
later-due word history more ask due = grind (arith, common_steps)

-- how many of one list and then of another
pub chosen-append : {A : Type 0} (chosen : A → Bool) (xs ys : List A) → length (filter chosen (xs ++ ys)) ≡ length (filter chosen xs) + length (filter chosen ys)
chosen-append chosen xs ys = ap length (filter-append chosen xs ys) ∙ length-append (filter chosen xs) (filter chosen ys)

pub joined : (author : Author) (word : List ℕ) (a b c : Track) (x y z : Option (List Ask)) (k m n : ℕ)
    → IsBisected author word a b x y k m → IsBisected author word b c y z m n → IsBisected author word a c x z k n
joined author word a b c x y z k m n first then = record {
  machine = then.machine ∙ first.machine;
  kept = then.kept ∙ first.kept;
  more = first.more ++ then.more;
  history = then.history ∙ ap (λ (ps : List Placed). ps ++ then.more) first.history ∙ append_assoc a.history first.more then.more;
  each = All-append (IsSaidBy author) first.more then.more first.each then.each;
  uses = first.uses ++ then.uses;
  told = grind (arith, common_steps);
  found = grind (arith, common_steps, findings-append, map-append, ap₂, filter-append);
  due = subst (λ (xs : List Ask). All (IsDue word c.history) xs) (sym asks_are)
      (All-append (IsDue word c.history) (asks_of first.uses) (asks_of then.uses)
      (All-weaker (IsDue word b.history) (IsDue word c.history)
      (λ ask due. subst (λ (ps : List Placed). IsDue word ps ask) (sym then.history) (later-due word b.history then.more ask due)) (asks_of first.uses) first.due)
      then.due);
  given_up = omega (arith, chosen-append (λ (p : Placed). gives_up p.entry) first.more then.more, first.given_up, then.given_up);
}
  where
    asks_are : asks_of (first.uses ++ then.uses) ≡ asks_of first.uses ++ asks_of then.uses
    asks_are = map-append (λ (u : Use). u.ask) first.uses then.uses
