-- Private: no public contract cites this. What main adds behind the passes, and what it asks for it.
use Rattle.std.proofs.Common.{◌≡◌, ◌+◌, ℕ, zero, suc, inl, inr, Bool, true, false, List, [], ◌∷◌, ◌++◌, length, map, refl, sym, ap, ap₂, subst, ◌∙◌, Option, Some, None, arith, append-nil, ne_eqb}
use Rattle.std.specs.{Prelude.{All, bytes_eq, filter, is_none, option_map, slice_get, if◌then◌else◌}, List.{AllByRecursion, AllZip}}
use Rattle.std.proofs.lemmas.{Bool.cases_Bool, List.{length-append, map-append}, List.Elements.{All-append, All-weaker, filter-append}, Grind.common_steps}
use Rattle.track_outside.specs.Asked.{Ask}
use Rattle.history_model.specs.{declared.entries.Entry.Entry, declared.entries.Placed.Placed, Entries.entries_of}
use Rattle.history_model.specs.declared.entries.Author.TheVariants as author
use Rattle.history_model.specs.declared.entries.Entry.TheVariants as entry
use Rattle.worker_model.specs.Findings as model
use Rattle.worker_model.specs.Findings.{Finding}
use Rattle.track_model.specs.Tracks.{Track}
use Rattle.recompute_workers.specs.Recomputing.{AddsPublications, IsPublicationBy}
use Rattle.bisect_workers.specs.Bisecting as bisecting
use Rattle.bisect_workers.specs.Bisecting.{IsBisected, IsSaidBy, RoseBy}
use Rattle.bisect_workers.specs.Findings as found
use Rattle.play_fits.{specs.Ends.IsLate, specs.Journals.{history_in, machines_of}, proofs.Lists.same-bytes}
use Rattle.play_fits.specs.Workers.{Crew, IsOneOf, Use, findings, findings_behind, found_for, give_ups, is_bisector}
use Rattle.play_crew.proofs.Fitting.{Apart, Others, all-map}
use Rattle.worker_crew.{specs.Runs.{BisectsEach, BisectsLast, RecomputesLast, Tally}, proofs.Finding.{behind-append, behind-none}}
use Rattle.worker_crew.proofs.Naming.{eq-bytes, given, is_given}

pub all-rec : {A : Type 0} (P : A → Type 0) (xs : List A) → All P xs → AllByRecursion P xs
all-rec P [] all = tt
all-rec P (x ∷ xs) all = (all 0 x (omega arith), all-rec P xs (λ k d less. all (suc k) d (omega (arith, less))))

-- ---- entries behind each machine
-- such entries were added to a machine, and nothing else
pub record Adds (P : Placed → Type 0) (old new : Track) : Type 0 where
  pub machine : new.machine ≡ old.machine
  pub kept : new.kept ≡ old.kept
  pub more : List Placed
  pub history : new.history ≡ old.history ++ more
  pub each : AllByRecursion P more

pub adds-none : (P : Placed → Type 0) (ts : List Track) → AllZip (Adds P) ts ts
adds-none P [] = tt
adds-none P (t ∷ ts) = (record { machine = refl; kept = refl; more = []; history = sym (append-nil t.history); each = tt }, adds-none P ts)

pub adds-trans : (P : Placed → Type 0) (olds news cs : List Track) → AllZip (Adds P) olds news → AllZip (Adds P) news cs → AllZip (Adds P) olds cs
adds-trans P [] [] [] one two = tt
adds-trans P [] [] (c ∷ cs) one two = absurd two
adds-trans P [] (b ∷ news) cs one two = absurd one
adds-trans P (a ∷ olds) [] cs one two = absurd one
adds-trans P (a ∷ olds) (b ∷ news) [] one two = absurd two
adds-trans P (a ∷ olds) (b ∷ news) (c ∷ cs) one two = grind (arith, common_steps, adds-trans P olds news cs one.1 two.1)

pub adds-map : (P Q : Placed → Type 0) → ((p : Placed) → P p → Q p) → (olds news : List Track) → AllZip (Adds P) olds news → AllZip (Adds Q) olds news
adds-map P Q f [] [] all = tt
adds-map P Q f [] (b ∷ news) all = absurd all
adds-map P Q f (a ∷ olds) [] all = absurd all
adds-map P Q f (a ∷ olds) (b ∷ news) all = grind (arith, common_steps, all-map, adds-map P Q f olds news all.1)

pub names-stay : (P : Placed → Type 0) (olds news : List Track) → AllZip (Adds P) olds news → machines_of news ≡ machines_of olds
names-stay P [] [] all = refl
names-stay P [] (b ∷ news) all = absurd all
names-stay P (a ∷ olds) [] all = absurd all
names-stay P (a ∷ olds) (b ∷ news) all = ap₂ (λ (x : List ℕ) (xs : List (List ℕ)). x ∷ xs) all.0.machine (names-stay P olds news all.1)

-- by machine name
pub record Behind (P : Placed → Type 0) (olds news : List Track) (m : List ℕ) : Type 0 where
  pub more : List Placed
  pub history : history_in news m ≡ history_in olds m ++ more
  pub each : AllByRecursion P more

pub behind-named : (P : Placed → Type 0) (olds news : List Track) → AllZip (Adds P) olds news → (m : List ℕ) → Behind P olds news m
behind-named P [] [] all m = record { more = []; history = refl; each = tt }
behind-named P [] (b ∷ news) all m = absurd all
behind-named P (a ∷ olds) [] all m = absurd all
behind-named P (a ∷ olds) (b ∷ news) all m = by (behind-named P olds news all.1 m) (bytes_eq a.machine m) refl
  where
    by : Behind P olds news m → (c : Bool) → bytes_eq a.machine m ≡ c → Behind P (a ∷ olds) (b ∷ news) m
    by rest true is =
        let too : bytes_eq b.machine m ≡ true = ap (λ (n : List ℕ). bytes_eq n m) all.0.machine ∙ is in
        record { more = all.0.more; history = simp (is, too) all.0.history; each = all.0.each }
    by rest false is =
        let too : bytes_eq b.machine m ≡ false = ap (λ (n : List ℕ). bytes_eq n m) all.0.machine ∙ is in
        record { more = rest.more; history = simp (is, too) rest.history; each = rest.each }

-- ---- main recomputes
pub publishes-adds : (olds news : List Track) → AllZip (AddsPublications (author.Recompute 1)) olds news → AllZip (Adds (IsPublicationBy (author.Recompute 1))) olds news
publishes-adds [] [] all = tt
publishes-adds [] (b ∷ news) all = absurd all
publishes-adds (a ∷ olds) [] all = absurd all
publishes-adds (a ∷ olds) (b ∷ news) all = grind (arith, common_steps, all-rec, publishes-adds olds news all.1)

pub recomputes-adds : (workers : ℕ) (olds news : List Track) → RecomputesLast workers olds news → AllZip (Adds (IsPublicationBy (author.Recompute 1))) olds news
recomputes-adds workers olds news same = grind (arith, common_steps, adds-none, publishes-adds)

publication-late : (crew : Crew) (p : Placed) → IsOneOf crew.recompute 1 → IsPublicationBy (author.Recompute 1) p → IsLate crew p
publication-late crew p one is = grind (arith, common_steps)

pub recomputes-late : (crew : Crew) (olds news : List Track) → RecomputesLast crew.recompute olds news → AllZip (Adds (IsLate crew)) olds news
recomputes-late crew olds news is = by crew.recompute refl is
  where
    by : (n : ℕ) → crew.recompute ≡ n → RecomputesLast n olds news → AllZip (Adds (IsLate crew)) olds news
    by zero many same = subst (λ (ts : List Track). AllZip (Adds (IsLate crew)) olds ts) (sym same) (adds-none (IsLate crew) olds)
    by (suc n) many all = adds-map (IsPublicationBy (author.Recompute 1)) (IsLate crew) (λ p. publication-late crew p (omega arith, omega (arith, many))) olds news (publishes-adds olds news all)

-- a publication finds nothing
published-not : (n : ℕ) (p : Placed) → IsPublicationBy (author.Recompute 1) p → is_bisector n p.author ≡ false
published-not n p is = ap (is_bisector n) is.author_is

pub findings-published : (n workers : ℕ) (olds news : List Track) → RecomputesLast workers olds news → (m : List ℕ) → findings n (history_in news m) ≡ findings n (history_in olds m)
findings-published n workers olds news is m =
    let b : Behind (IsPublicationBy (author.Recompute 1)) olds news m = behind-named (IsPublicationBy (author.Recompute 1)) olds news (recomputes-adds workers olds news is) m in
    ap (λ (h : List Placed). findings n h) b.history ∙ behind-append n [] (history_in olds m) b.more
    ∙ ap (λ (l : List Finding). findings n (history_in olds m) ++ l) (behind-none n (entries_of (history_in olds m)) b.more (all-map (IsPublicationBy (author.Recompute 1)) (λ (p : Placed). is_bisector n p.author ≡ false) b.more (published-not n) b.each))
    ∙ append-nil (findings n (history_in olds m))

-- ---- main bisects
pub bisected-adds : (word : List ℕ) (olds news : List Track) (t u : Tally) → BisectsEach word olds news t u → AllZip (Adds (IsSaidBy (author.Bisect 1))) olds news
bisected-adds word [] [] t u all = tt
bisected-adds word [] (b ∷ news) t u all = absurd all
bisected-adds word (a ∷ olds) [] t u all = absurd all
bisected-adds word (a ∷ olds) (b ∷ news) t u all = grind (arith, common_steps, all-rec, bisected-adds word olds news all.0 u all.2)

said-late : (crew : Crew) (p : Placed) → IsOneOf crew.bisect 1 → IsSaidBy (author.Bisect 1) p → IsLate crew p
said-late crew p one is = grind (arith, common_steps)

pub bisects-late : (crew : Crew) (word : List ℕ) (olds news : List Track) (before after : List Tally) → BisectsLast crew.bisect word olds news before after → AllZip (Adds (IsLate crew)) olds news
bisects-late crew word olds news before after is = grind (arith, common_steps, adds-none, adds-map, said-late, bisected-adds)

-- another worker's findings stay
said-not : (n : ℕ) → (n ≡ 1 → ⊥) → (p : Placed) → IsSaidBy (author.Bisect 1) p → is_bisector n p.author ≡ false
said-not n other p is = ap (is_bisector n) is.author_is ∙ ne_eqb 1 n (λ same. other (sym same))

pub findings-others : (word : List ℕ) (olds news : List Track) (t u : Tally) → BisectsEach word olds news t u → (n : ℕ) → (n ≡ 1 → ⊥) → (m : List ℕ) → findings n (history_in news m) ≡ findings n (history_in olds m)
findings-others word olds news t u all n other m =
    let b : Behind (IsSaidBy (author.Bisect 1)) olds news m = behind-named (IsSaidBy (author.Bisect 1)) olds news (bisected-adds word olds news t u all) m in
    ap (λ (h : List Placed). findings n h) b.history ∙ behind-append n [] (history_in olds m) b.more
    ∙ ap (λ (l : List Finding). findings n (history_in olds m) ++ l) (behind-none n (entries_of (history_in olds m)) b.more (all-map (IsSaidBy (author.Bisect 1)) (λ (p : Placed). is_bisector n p.author ≡ false) b.more (said-not n other) b.each))
    ∙ append-nil (findings n (history_in olds m))

-- ---- how many findings are of failures
abbrev pub is_failed : Finding → Bool
is_failed f = is_none f.status

abbrev pub failed : List Finding → ℕ
failed fs = length (filter is_failed fs)

abbrev pub one-if : Bool → ℕ
one-if b = if b then 1 else 0

pub length-one : {A : Type 0} (p : A → Bool) (x : A) (xs : List A) → length (filter p (x ∷ xs)) ≡ one-if (p x) + length (filter p xs)
length-one p x xs = grind (arith, common_steps)

pub failed-ups : (h : List Entry) (ps : List Placed) → found.give_ups ps ≡ failed (model.findings_behind h ps)
failed-ups h [] = refl
failed-ups h (p ∷ ps) = grind (arith, common_steps, failed-ups (h ++ p.entry ∷ []) ps)

pub ups-of : (n : ℕ) (h : List Entry) (ps : List Placed) → give_ups n ps ≡ failed (findings_behind n h ps)
ups-of n h [] = refl
ups-of n h (p ∷ ps) = grind (arith, common_steps, ups-of n (h ++ p.entry ∷ []) ps)

-- what its own worker says is what entries say
pub said-behind : (h : List Entry) (ps : List Placed) → AllByRecursion (IsSaidBy (author.Bisect 1)) ps → findings_behind 1 h ps ≡ model.findings_behind h ps
said-behind h [] all = refl
said-behind h (p ∷ ps) all = grind (arith, common_steps, said-behind (h ++ p.entry ∷ []) ps all.1)

-- ---- asks by the machine whose history has what they found
abbrev pub late_use : List ℕ → found.Use → Use
late_use name u = record { ask = u.ask; machine = if u.used then Some name else None }

pub asks-late : (name : List ℕ) (us : List found.Use) → map (λ (u : Use). u.ask) (map (late_use name) us) ≡ found.asks_of us
asks-late name [] = refl
asks-late name (u ∷ us) = ap (λ (l : List Ask). u.ask ∷ l) (asks-late name us)

pub found-here : (name m : List ℕ) (us : List found.Use) → bytes_eq name m ≡ true → found_for m (map (late_use name) us) ≡ found.found_of us
found-here name m [] is = refl
found-here name m (u ∷ us) is = grind (arith, common_steps, found-here name m us is)

pub found-there : (name m : List ℕ) (us : List found.Use) → bytes_eq name m ≡ false → found_for m (map (late_use name) us) ≡ []
found-there name m [] is = refl
found-there name m (u ∷ us) is = grind (arith, common_steps, found-there name m us is)

pub given-late : (name : List ℕ) (us : List found.Use) → given (map (late_use name) us) ≡ failed (found.found_of us)
given-late name [] = refl
given-late name (u ∷ us) = grind (arith, common_steps, given-late name us)

-- ---- main's asks for all machines
-- an ask is one of the test of that word, on a commit that a job asks after some first entries of a machine's history
pub record IsDueAt (word : List ℕ) (ts : List Track) (ask : Ask) : Type 0 where
  pub place : ℕ
  pub track : Track
  pub there : slice_get ts place ≡ Some track
  pub due : bisecting.IsDue word track.history ask

later-at : (word : List ℕ) (t : Track) (ts : List Track) (ask : Ask) → IsDueAt word ts ask → IsDueAt word (t ∷ ts) ask
later-at word t ts ask d = record { place = suc d.place; track = d.track; there = d.there; due = d.due }

-- what main found in all machines, by its asks
pub record TiedLate (word : List ℕ) (olds news : List Track) (t u : Tally) : Type 0 where
  pub uses : List Use
  pub told : u.asks ≡ option_map (λ (before : List Ask). before ++ map (λ (x : Use). x.ask) uses) t.asks
  pub found : (m : List ℕ) → findings 1 (history_in news m) ≡ findings 1 (history_in olds m) ++ found_for m uses
  pub none : (m : List ℕ) → Others m olds → found_for m uses ≡ []
  pub due : All (IsDueAt word news) (map (λ (x : Use). x.ask) uses)
  pub rose : RoseBy (given uses) t.faults u.faults

for-append : (m : List ℕ) (us vs : List Use) → found_for m (us ++ vs) ≡ found_for m us ++ found_for m vs
for-append m us vs = grind (arith, common_steps)

given-append : (us vs : List Use) → given (us ++ vs) ≡ given us + given vs
given-append us vs = ap length (filter-append is_given us vs) ∙ length-append (filter is_given us) (filter is_given vs)

pub told-twice : (o : Option (List Ask)) (xs ys : List Ask)
    → option_map (λ (before : List Ask). before ++ ys) (option_map (λ (before : List Ask). before ++ xs) o) ≡ option_map (λ (before : List Ask). before ++ (xs ++ ys)) o
told-twice o xs ys = grind (arith, common_steps)

pub told-none : (o : Option (List Ask)) → option_map (λ (before : List Ask). before ++ []) o ≡ o
told-none o = grind (arith, common_steps)

others-apart : (m : List ℕ) (t : Track) (ts : List Track) → bytes_eq t.machine m ≡ true → Others t.machine ts → Others m ts
others-apart m t ts is others = subst (λ (n : List ℕ). Others n ts) (same-bytes t.machine m is) others

sym-other : (a b : List ℕ) → bytes_eq a b ≡ false → bytes_eq b a ≡ false
sym-other a b is = elim (cases_Bool (bytes_eq b a)) [
  | inl yes_is ↦ absurd (no (sym (ap (λ (x : List ℕ). bytes_eq a x) (same-bytes b a yes_is) ∙ eq-bytes a) ∙ is))
  | inr no_is ↦ no_is
]
  where
    no : true ≡ false → ⊥
    no is = cc

pub tied-late : (word : List ℕ) (olds news : List Track) (t u : Tally) → Apart olds → BisectsEach word olds news t u → TiedLate word olds news t u
tied-late word [] [] t u apart same = grind (arith, common_steps)
tied-late word [] (new ∷ news) t u apart all = absurd all
tied-late word (old ∷ olds) [] t u apart all = absurd all
tied-late word (old ∷ olds) (new ∷ news) t u apart all = joins (tied-late word olds news all.0 u apart.1 all.2)
  where
    v : Tally
    v = all.0

    one : IsBisected (author.Bisect 1) word old new t.asks v.asks t.faults v.faults
    one = all.1

    name : List ℕ
    name = old.machine

    mine : List Use
    mine = map (late_use name) one.uses

    each : AllByRecursion (IsSaidBy (author.Bisect 1)) one.more
    each = all-rec (IsSaidBy (author.Bisect 1)) one.more one.each

    here-found : findings 1 new.history ≡ findings 1 old.history ++ found.found_of one.uses
    here-found =
        ap (findings 1) one.history ∙ behind-append 1 [] old.history one.more
        ∙ ap (λ (l : List Finding). findings 1 old.history ++ l) (said-behind (entries_of old.history) one.more each ∙ one.found)

    here-given : given mine ≡ found.give_ups one.more
    here-given = given-late name one.uses ∙ sym (failed-ups (entries_of old.history) one.more ∙ ap failed one.found)

    here-rose : RoseBy (given mine) t.faults v.faults
    here-rose = let many = here-given in let rose = one.given_up in omega (arith, many, rose)

    here-due : All (IsDueAt word (new ∷ news)) (map (λ (x : Use). x.ask) mine)
    here-due =
        subst (λ (l : List Ask). All (IsDueAt word (new ∷ news)) l) (sym (asks-late name one.uses))
        (All-weaker (bisecting.IsDue word new.history) (IsDueAt word (new ∷ news)) (λ ask d. record { place = 0; track = new; there = refl; due = d }) (found.asks_of one.uses) one.due)

    asks-are : (r : TiedLate word olds news v u) → map (λ (x : Use). x.ask) (mine ++ r.uses) ≡ map (λ (x : Use). x.ask) mine ++ map (λ (x : Use). x.ask) r.uses
    asks-are r = map-append (λ (x : Use). x.ask) mine r.uses

    found-at : (r : TiedLate word olds news v u) (m : List ℕ) (b : Bool) → bytes_eq old.machine m ≡ b → findings 1 (history_in (new ∷ news) m) ≡ findings 1 (history_in (old ∷ olds) m) ++ found_for m (mine ++ r.uses)
    found-at r m true is =
        let too : bytes_eq new.machine m ≡ true = ap (λ (n : List ℕ). bytes_eq n m) one.machine ∙ is in
        let uses : found_for m (mine ++ r.uses) ≡ found.found_of one.uses =
        for-append m mine r.uses ∙ ap₂ (λ (xs ys : List Finding). xs ++ ys) (found-here name m one.uses is) (r.none m (others-apart m old olds is apart.0)) ∙ append-nil (found.found_of one.uses) in
        simp (too, is) (here-found ∙ ap (λ (l : List Finding). findings 1 old.history ++ l) (sym uses))
    found-at r m false is =
        let too : bytes_eq new.machine m ≡ false = ap (λ (n : List ℕ). bytes_eq n m) one.machine ∙ is in
        let uses : found_for m (mine ++ r.uses) ≡ found_for m r.uses = grind (arith, common_steps, for-append, found-there) in
        simp (too, is) (r.found m ∙ ap (λ (l : List Finding). findings 1 (history_in olds m) ++ l) (sym uses))

    joins : TiedLate word olds news v u → TiedLate word (old ∷ olds) (new ∷ news) t u
    joins r = record {
      uses = mine ++ r.uses;
      told =
          r.told ∙ ap (λ (o : Option (List Ask)). option_map (λ (before : List Ask). before ++ map (λ (x : Use). x.ask) r.uses) o) one.told
          ∙ told-twice t.asks (found.asks_of one.uses) (map (λ (x : Use). x.ask) r.uses)
          ∙ ap (λ (l : List Ask). option_map (λ (before : List Ask). before ++ l) t.asks)
          (ap (λ (l : List Ask). l ++ map (λ (x : Use). x.ask) r.uses) (sym (asks-late name one.uses)) ∙ sym (asks-are r));
      found = λ m. found-at r m (bytes_eq old.machine m) refl;
      none = grind (arith, common_steps, for-append, ap₂, found-there, sym-other);
      due =
          subst (λ (l : List Ask). All (IsDueAt word (new ∷ news)) l) (sym (asks-are r))
          (All-append (IsDueAt word (new ∷ news)) (map (λ (x : Use). x.ask) mine) (map (λ (x : Use). x.ask) r.uses) here-due
          (All-weaker (IsDueAt word news) (IsDueAt word (new ∷ news)) (later-at word new news) (map (λ (x : Use). x.ask) r.uses) r.due));
      rose = let many = given-append mine r.uses in let one_rose = here-rose in let two_rose = r.rose in omega (arith, many, one_rose, two_rose);
    }
