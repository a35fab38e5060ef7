-- The outcome in terms of the machine is the one in terms of the grammar, and one answer alone is due.
use Rattle.std.proofs.Common.{◌≡◌, ℕ, zero, suc, ◌+◌, ◌<◌, ◌≤◌, List, [], ◌∷◌, ◌++◌, ◌⊎◌, inl, inr, length, take, drop, Some, None, Result, Ok, Err, IfOk, IfErr, MatchResult, refl, arith, sym, subst, ◌∙◌, ap, append_assoc}
use Rattle.std.{proofs.Math.Seq.take-length, proofs.lemmas.List.take-append-drop, specs.Str.IsUtf8, proofs.lemmas.Grind.common_steps}
use Rattle.json_text.specs.{Tree.Tree, Grammar.IsText, Places.{most_levels, Begins, BeginsWithin, Reads, IsNotText, IsNotJson, IsTooDeep}, View.tree_of}
use Rattle.json_text.specs.{Machine.{State, run, start, levels}, Reached.{ended_tree, Reaches}, Outcome.{StopsAt, DeepAt, Outcome}, Answers.{IsFault, IsDue}}
use Rattle.json_text.specs.declared.{tree.Json.Json, reading.JsonFault.JsonFault, reading.JsonFault.TheVariants.{NotText, NotJson, TooDeep, NoMemory}}
use Rattle.json_text.proofs.Texts.{begins_runs, begins_deep, reached_begins, text_ends, ends_text, finish_deep, one_tree, levels_deep}

-- a longer front goes on from a shorter one
take_more : (k m : ℕ) (bytes : List ℕ) → k ≤ m → (more : List ℕ) × (take m bytes ≡ take k bytes ++ more)
take_more zero m bytes h = (take m bytes, refl)
take_more (suc k) zero bytes h = absurd (omega arith)
take_more (suc k) (suc m) [] h = ([], refl)
take_more (suc k) (suc m) (b ∷ bytes) h = let (more, e) = take_more k m bytes (omega arith) in (more, ap (λ xs. b ∷ xs) e)

begins_less : (k m : ℕ) (bytes : List ℕ) → k ≤ m → Begins (take m bytes) → Begins (take k bytes)
begins_less k m bytes h (more, tree, text) =
    let (between, e) = take_more k m bytes h in
    (between ++ more, tree, subst (λ all. IsText all tree) (ap (λ xs. xs ++ more) e ∙ append_assoc (take k bytes) between more) text)

within_less : (k m : ℕ) (bytes : List ℕ) → k ≤ m → BeginsWithin (take m bytes) → BeginsWithin (take k bytes)
within_less k m bytes h (more, tree, text, less) =
    let (between, e) = take_more k m bytes h in
    (between ++ more, tree, subst (λ all. IsText all tree) (ap (λ xs. xs ++ more) e ∙ append_assoc (take k bytes) between more) text, less)

begins_of_within : (bytes : List ℕ) → BeginsWithin bytes → Begins bytes
begins_of_within bytes (more, tree, text, less) = (more, tree, text)

-- a text begins with each front of it
text_begins : (k : ℕ) (bytes : List ℕ) (tree : Tree) → IsText bytes tree → Begins (take k bytes)
text_begins k bytes tree text = (drop k bytes, tree, subst (λ all. IsText all tree) (sym (take-append-drop k bytes)) text)

reads_begins : (k : ℕ) (bytes : List ℕ) (tree : Tree) → Reads bytes tree → BeginsWithin (take k bytes)
reads_begins k bytes tree reads = (drop k bytes, tree, subst (λ all. IsText all tree) (sym (take-append-drop k bytes)) reads.text, reads.within)

reaches_within : (bytes : List ℕ) (state : State) → Reaches bytes state → BeginsWithin bytes
reaches_within bytes state reach = grind (arith, common_steps, reached_begins)

-- a tree that was read to its end
found : (bytes : List ℕ) (state : State) (tree : Tree) → IsUtf8 bytes → Reaches bytes state → ended_tree state ≡ Some tree → Reads bytes tree
found bytes state tree utf8 reach done = grind (arith, common_steps, finish_deep, ends_text)

-- no text ends unfinished
unfinished : (bytes : List ℕ) (state : State) (tree : Tree) → run bytes start ≡ Some state → ended_tree state ≡ None → IsText bytes tree → ⊥
unfinished bytes state tree e none text =
    let (other, reach, done) = text_ends bytes tree text in
    let same : state ≡ other = cc (e, reach) in
    let both : None ≡ Some tree = sym none ∙ ap ended_tree same ∙ done in
    cc both

stops_json : (bytes : List ℕ) (k : ℕ) → IsUtf8 bytes → StopsAt bytes k → IsNotJson bytes k
stops_json bytes k utf8 (state, reach, inl (short, stops)) = record {
  utf8 = utf8;
  short = omega (arith, short);
  front = reaches_within (take k bytes) state reach;
  longest = λ h begins. begins_runs (take (k + 1) bytes) begins stops;
  unfinished = λ tree text. begins_runs (take (k + 1) bytes) (text_begins (k + 1) bytes tree text) stops;
}
stops_json bytes k utf8 (state, reach, inr (all, none)) =
    let whole : take k bytes ≡ bytes = ap (λ n. take n bytes) all ∙ take-length bytes in
    let run_whole : run bytes start ≡ Some state = subst (λ xs. run xs start ≡ Some state) whole reach.0 in
    record {
      utf8 = utf8;
      short = omega (arith, all);
      front = reaches_within (take k bytes) state reach;
      longest = λ h begins. absurd (omega (arith, h, all));
      unfinished = λ tree text. unfinished bytes state tree run_whole none text;
    }

-- what begins at a state that is too deep is too deep
too_deep : (bytes : List ℕ) (after : State) → run bytes start ≡ Some after → most_levels < levels after → BeginsWithin bytes → ⊥
too_deep bytes after e deep (more, tree, text, less) = omega (arith, deep, less, begins_deep bytes more tree after text e, levels_deep after)

deep_at : (bytes : List ℕ) (k : ℕ) → IsUtf8 bytes → DeepAt bytes k → IsTooDeep bytes k
deep_at bytes k utf8 (before, after, short, reach, e, deep) = grind (arith, common_steps, reached_begins, take, reaches_within, too_deep)

-- A tree is the one of the bytes, and a fault stands at its place.
pub outcome_found : (bytes : List ℕ) (result : Result Json JsonFault) → IsUtf8 bytes → Outcome result bytes → IfOk result (λ json. Reads bytes (tree_of json))
outcome_found bytes result utf8 x3 = grind (arith, common_steps, found)

pub outcome_fault : (bytes : List ℕ) (result : Result Json JsonFault) → IsUtf8 bytes → Outcome result bytes → IfErr result (λ fault. IsFault bytes fault)
outcome_fault bytes (Ok json) utf8 outcome = tt
outcome_fault bytes (Err (NotText k)) utf8 outcome = absurd outcome
outcome_fault bytes (Err (NotJson k)) utf8 outcome = stops_json bytes k utf8 outcome
outcome_fault bytes (Err (TooDeep k)) utf8 outcome = deep_at bytes k utf8 outcome
outcome_fault bytes (Err NoMemory) utf8 outcome = tt

-- what excludes one another
all_text : (bytes : List ℕ) → IsUtf8 bytes → IsUtf8 (take (length bytes) bytes)
all_text bytes utf8 = subst IsUtf8 (sym (take-length bytes)) utf8

text_not_text : (bytes : List ℕ) (k : ℕ) → IsUtf8 bytes → IsNotText bytes k → ⊥
text_not_text bytes k utf8 not = not.longest (length bytes) not.short (all_text bytes utf8)

below_or : (n m : ℕ) → (n < m) ⊎ ((n ≡ m) ⊎ (m < n))
below_or zero zero = inr (inl refl)
below_or zero (suc m) = inl (omega arith)
below_or (suc n) zero = inr (inr (omega arith))
below_or (suc n) (suc m) = elim (below_or n m) [ inl h ↦ inl (omega (arith, h)) | inr (inl h) ↦ inr (inl (ap suc h)) | inr (inr h) ↦ inr (inr (omega (arith, h))) ]

text_places : (bytes : List ℕ) (k m : ℕ) → IsNotText bytes k → IsNotText bytes m → k ≡ m
text_places bytes k m one other = elim (below_or k m) [
  | inl h ↦ absurd (one.longest m h other.front)
  | inr (inl h) ↦ h
  | inr (inr h) ↦ absurd (other.longest k h one.front)
]

json_before : (bytes : List ℕ) (k m : ℕ) → IsNotJson bytes k → IsNotJson bytes m → k < m → ⊥
json_before bytes k m one other h =
    let near : k < length bytes = let far = other.short in omega (arith, far, h) in
    one.longest near (begins_less (k + 1) m bytes (omega (arith, h)) (begins_of_within (take m bytes) other.front))

json_places : (bytes : List ℕ) (k m : ℕ) → IsNotJson bytes k → IsNotJson bytes m → k ≡ m
json_places bytes k m one other = elim (below_or k m) [
  | inl h ↦ absurd (json_before bytes k m one other h)
  | inr (inl h) ↦ h
  | inr (inr h) ↦ absurd (json_before bytes m k other one h)
]

deep_places : (bytes : List ℕ) (k m : ℕ) → IsTooDeep bytes k → IsTooDeep bytes m → k ≡ m
deep_places bytes k m one other = elim (below_or k m) [
  | inl h ↦ absurd (one.deeper (within_less (k + 1) m bytes (omega (arith, h)) other.front))
  | inr (inl h) ↦ h
  | inr (inr h) ↦ absurd (other.deeper (within_less (m + 1) k bytes (omega (arith, h)) one.front))
]

json_or_deep : (bytes : List ℕ) (k m : ℕ) → IsNotJson bytes k → IsTooDeep bytes m → ⊥
json_or_deep bytes k m one other =
    let near = other.short in
    elim (below_or k m) [
      | inl h ↦ one.longest (omega (arith, near, h)) (begins_less (k + 1) (m + 1) bytes (omega (arith, h)) other.begins)
      | inr (inl h) ↦ one.longest (omega (arith, near, h)) (begins_less (k + 1) (m + 1) bytes (omega (arith, h)) other.begins)
      | inr (inr h) ↦ other.deeper (within_less (m + 1) k bytes (omega (arith, h)) one.front)
    ]

-- At most one answer with one place is due.
pub one_answer : (bytes : List ℕ) (one other : Result Tree JsonFault) → IsDue bytes one → IsDue bytes other → one ≡ other
one_answer bytes (Ok tree) (Ok other) h g = ap Ok (one_tree bytes tree other h.text g.text)
one_answer bytes (Ok tree) (Err (NotText m)) h g = absurd (text_not_text bytes m h.utf8 g)
one_answer bytes (Ok tree) (Err (NotJson m)) h g = absurd (g.unfinished tree h.text)
one_answer bytes (Ok tree) (Err (TooDeep m)) h g = absurd (g.deeper (reads_begins (m + 1) bytes tree h))
one_answer bytes (Err (NotText k)) (Ok other) h g = absurd (text_not_text bytes k g.utf8 h)
one_answer bytes (Err (NotText k)) (Err (NotText m)) h g = ap (λ (n : ℕ). Err (NotText n)) (text_places bytes k m h g)
one_answer bytes (Err (NotText k)) (Err (NotJson m)) h g = absurd (text_not_text bytes k g.utf8 h)
one_answer bytes (Err (NotText k)) (Err (TooDeep m)) h g = absurd (text_not_text bytes k g.utf8 h)
one_answer bytes (Err (NotJson k)) (Ok other) h g = absurd (h.unfinished other g.text)
one_answer bytes (Err (NotJson k)) (Err (NotText m)) h g = absurd (text_not_text bytes m h.utf8 g)
one_answer bytes (Err (NotJson k)) (Err (NotJson m)) h g = ap (λ (n : ℕ). Err (NotJson n)) (json_places bytes k m h g)
one_answer bytes (Err (NotJson k)) (Err (TooDeep m)) h g = absurd (json_or_deep bytes k m h g)
one_answer bytes (Err (TooDeep k)) (Ok other) h g = absurd (h.deeper (reads_begins (k + 1) bytes other g))
one_answer bytes (Err (TooDeep k)) (Err (NotText m)) h g = absurd (text_not_text bytes m h.utf8 g)
one_answer bytes (Err (TooDeep k)) (Err (NotJson m)) h g = absurd (json_or_deep bytes m k g h)
one_answer bytes (Err (TooDeep k)) (Err (TooDeep m)) h g = ap (λ (n : ℕ). Err (TooDeep n)) (deep_places bytes k m h g)
one_answer bytes (Err NoMemory) other h g = absurd h
one_answer bytes one (Err NoMemory) h g = absurd g

-- What an answer that is due says of the others.
pub only_due : (bytes : List ℕ) (result : Result Json JsonFault) → IfOk result (λ json. Reads bytes (tree_of json)) → IfErr result (λ fault. IsFault bytes fault)
    → (tree : Tree) → Reads bytes tree → MatchResult result (λ json. tree_of json ≡ tree) (λ fault. fault ≡ NoMemory)
only_due bytes (Ok json) found fault tree reads = one_tree bytes (tree_of json) tree found.text reads.text
only_due bytes (Err (NotText k)) found fault tree reads = absurd (text_not_text bytes k reads.utf8 fault)
only_due bytes (Err (NotJson k)) found fault tree reads = absurd (fault.unfinished tree reads.text)
only_due bytes (Err (TooDeep k)) found fault tree reads = absurd (fault.deeper (reads_begins (k + 1) bytes tree reads))
only_due bytes (Err NoMemory) found fault tree reads = refl

-- one fault that is due is another
pub same_fault : (bytes : List ℕ) (one other : JsonFault) → IsDue bytes (Err one) → IsDue bytes (Err other) → one ≡ other
same_fault bytes one other h g = let same = one_answer bytes (Err one) (Err other) h g in cc same

pub place_due : (bytes : List ℕ) (result : Result Json JsonFault) → IfOk result (λ json. Reads bytes (tree_of json)) → IfErr result (λ fault. IsFault bytes fault)
    → (due : JsonFault) → IsDue bytes (Err due) → MatchResult result (λ _. ⊥) (λ fault. (fault ≡ due) ⊎ (fault ≡ NoMemory))
place_due bytes (Ok json) found fault due is = let same = one_answer bytes (Ok (tree_of json)) (Err due) found is in absurd (cc same)
place_due bytes (Err (NotText k)) found fault due is = inl (same_fault bytes (NotText k) due fault is)
place_due bytes (Err (NotJson k)) found fault due is = inl (same_fault bytes (NotJson k) due fault is)
place_due bytes (Err (TooDeep k)) found fault due is = inl (same_fault bytes (TooDeep k) due fault is)
place_due bytes (Err NoMemory) found fault due is = inr refl
