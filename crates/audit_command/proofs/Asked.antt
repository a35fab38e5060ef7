-- Files that are opened one after another.
use Rattle.std.proofs.Common.{◌≡◌, ◌∙◌, ℕ, zero, suc, ◌≤◌, length, true, List, [], ◌∷◌, ◌++◌, take, Some, Ok, Err, refl, ap, arith}
use Rattle.std.specs.Prelude.{option_map, Result, IfErr, slice_get}
use Rattle.track_outside.specs.Named.{Call}
use Rattle.track_outside.specs.declared.files.Files as files
use Rattle.script_files.proofs.Calls.{then_more, none_more}
use Rattle.audit_command.specs.declared.end.FileStop.{FileStop, TheVariants.{ReadFault, TooLong, NoMemory}}
use Rattle.audit_command.specs.Opening.{Asks, AreMade, FailsAt, IsKept, RoseAt, calls_for, opening}

-- ---- calls

first_fails : (a : Call) (more made : List Call) → FailsAt (a ∷ []) made → FailsAt (a ∷ more) made
first_fails a more made at = by at.place at.call at.next at.up_to
  where
    by : (place : ℕ) (call : Call) → slice_get (a ∷ []) place ≡ Some call → made ≡ take place (a ∷ []) ++ record call { failed = true } ∷ []
        → FailsAt (a ∷ more) made
    by zero call next up_to = record { place = 0; call = call; next = next; up_to = up_to }
    by (suc k) call next up_to = absurd (cc)

first_made : (a : Call) (more made : List Call) (n : ℕ) → n ≤ 1 → made ≡ take n (a ∷ []) → (m : ℕ) × (m ≤ length (a ∷ more)) × (made ≡ take m (a ∷ more))
first_made a more made zero few is = (0, omega arith, is)
first_made a more made (suc zero) few is = (1, omega arith, is)
first_made a more made (suc (suc k)) few is = absurd (omega (arith, few))

-- what is due of the first is due of all
made_first : (a : Call) (more made : List Call) (stop : FileStop) → AreMade (a ∷ []) (Err stop) made → AreMade (a ∷ more) (Err stop) made
made_first a more made ReadFault at = first_fails a more made at
made_first a more made (TooLong place) at = at
made_first a more made NoMemory at = first_made a more made at.0 at.1 at.2

later_fails : (a : Call) (more made : List Call) → FailsAt more made → FailsAt (a ∷ more) (a ∷ made)
later_fails a more made at = record {
  place = suc at.place;
  call = at.call;
  next = at.next;
  up_to = ap (λ (l : List Call). a ∷ l) at.up_to;
}

-- and what is due later, behind it
made_later : (a : Call) (more made : List Call) (result : Result (Unit {0}) FileStop) → AreMade more result made → AreMade (a ∷ more) result (a ∷ made)
made_later a more made (Ok done) are = ap (λ (l : List Call). a ∷ l) are
made_later a more made (Err ReadFault) are = later_fails a more made are
made_later a more made (Err (TooLong place)) are = are
made_later a more made (Err NoMemory) are = (suc are.0, omega (arith, are.1), ap (λ (l : List Call). a ∷ l) are.2)

module _ {F I O : Type 0} (g : files.Ghosts F I O) where
  rose_before : (old mid new : F) (result : Result (Unit {0}) FileStop) → g.read_faults old ≤ g.read_faults mid → RoseAt g mid new result → RoseAt g old new result
  rose_before old mid new (Ok done) reads rose = tt
  rose_before old mid new (Err ReadFault) reads rose = omega (arith, reads, rose)
  rose_before old mid new (Err (TooLong place)) reads rose = tt
  rose_before old mid new (Err NoMemory) reads rose = tt

  -- the first call failed
  pub asks_first : (name : List ℕ) (names : List (List ℕ)) (old new : F) (stop : FileStop) → Asks g (name ∷ []) old new (Err stop) → Asks g (name ∷ names) old new (Err stop)
  asks_first name names old new stop asks = record {
    made = asks.made;
    due = made_first (opening name) (calls_for names) asks.made stop asks.due;
    noted = asks.noted;
    rose = asks.rose;
  }

  -- it answered, and then the others came
  pub asks_then : (name : List ℕ) (names : List (List ℕ)) (old mid new : F) (result : Result (Unit {0}) FileStop) → g.read_faults old ≤ g.read_faults mid
      → Asks g (name ∷ []) old mid (Ok tt) → Asks g names mid new result → Asks g (name ∷ names) old new result
  asks_then name names old mid new result reads first rest = record {
    made = opening name ∷ rest.made;
    due = made_later (opening name) (calls_for names) rest.made result rest.due;
    noted = rest.noted ∙ ap (option_map (λ (calls : List Call). calls ++ rest.made)) first.noted ∙ then_more (g.asked old) first.made rest.made
        ∙ ap (λ (l : List Call). option_map (λ calls. calls ++ (l ++ rest.made)) (g.asked old)) first.due;
    rose = rose_before old mid new result reads rest.rose;
  }

  pub asks_then_stop : {T : Type 0} (name : List ℕ) (names : List (List ℕ)) (old mid new : F) (found : Result T FileStop) → g.read_faults old ≤ g.read_faults mid
      → Asks g (name ∷ []) old mid (Ok tt) → IfErr found (λ stop. Asks g names mid new (Err stop)) → IfErr found (λ stop. Asks g (name ∷ names) old new (Err stop))
  asks_then_stop name names old mid new (Ok x) reads first rest = tt
  asks_then_stop name names old mid new (Err stop) reads first rest = asks_then name names old mid new (Err stop) reads first rest

  -- nothing was asked
  pub asks_none : (names : List (List ℕ)) (old : F) → Asks g names old old (Err NoMemory)
  asks_none names old = record { made = []; due = (0, omega arith, refl); noted = none_more (g.asked old); rose = tt }

  pub asks_all : (old : F) → Asks g [] old old (Ok tt)
  asks_all old = record { made = []; due = refl; noted = none_more (g.asked old); rose = tt }

  pub kept_none : (old : F) → IsKept g old old
  kept_none old = record { same = refl; reads = omega arith; writes = refl }

  pub kept_then : (old mid new : F) → IsKept g old mid → IsKept g mid new → IsKept g old new
  kept_then old mid new first rest = record {
    same = rest.same ∙ first.same;
    reads = omega (arith, first.reads, rest.reads);
    writes = rest.writes ∙ first.writes;
  }

-- ---- what is open
