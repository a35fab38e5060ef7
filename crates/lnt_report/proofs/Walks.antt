-- A walk along a list, gathering what each item gives.
use Rattle.std.proofs.Common.{◌≡◌, ℕ, ◌+◌, ◌<◌, ◌≤◌, List, [], ◌∷◌, ◌++◌, map, length, get_or, drop, refl, ap, sym, ◌∙◌, subst, arith, zero-add, Option, Some, codes, if◌then◌else◌, append-nil, Bool, false, All, Result, Ok, Err}
use Rattle.std.{specs.List.{flat_map, sum_by}, proofs.lemmas.List.Sums.sum_by-cons, proofs.lemmas.Grind.common_steps}
use Rattle.json_text.specs.{Tree.{Tree, list, object}, View.{items_of, members_of}}
use Rattle.lnt_report.specs.{Look.{Entry, fields, name_in, value_at}, Runs.IsGiven, declared.fault.ReportFault.ReportFault, declared.gathered.Gathered.Gathered}
use Rattle.sample_model.specs.Samples.{Measurement}
use Rattle.lnt_report.specs.Numbers.{Reading, item_readings, value_readings, is_text_or_null, test_readings, test_ignored, named_readings, named_ignored, AreMeasured, none as nothing_measured}
use Rattle.lnt_report.{proofs.Lists.{trees_of_items, entries_of_members}, specs.Gathering.{Gathers, Leaves, AreBeyond}}

pub sum_next : {A B : Type 0} (f : B → ℕ) (g : A → B) (xs : List A) (i : ℕ) (x : A) (more : ℕ) → i < length xs → x ≡ get_or xs i x
    → sum_by f (map g (drop i xs)) + more ≡ f (g x) + (sum_by f (map g (drop (i + 1) xs)) + more)
sum_next f g xs i x more h e = grind (arith, common_steps)

-- what is left, an item further
left_next : {A B : Type 0} (f : B → List Reading) (count : B → ℕ) (g : A → B) (xs : List A) (i : ℕ) (x : A) (all left : List Reading) (total more : ℕ)
    (now : Gathered) → i < length xs → x ≡ get_or xs i x
    → Leaves all total (flat_map f (map g (drop i xs)) ++ left) (sum_by count (map g (drop i xs)) + more) now
    → Leaves all total (f (g x) ++ (flat_map f (map g (drop (i + 1) xs)) ++ left)) (count (g x) + (sum_by count (map g (drop (i + 1) xs)) + more)) now
left_next f count g xs i x all left total more now h e k = grind (arith, common_steps)

-- what the items before this place give has been gathered
abbrev pub Walked : {A B : Type 0} → (B → List Reading) → (B → ℕ) → (A → B) → List A → ℕ → Gathered → Gathered → Type 0
Walked f count g xs i old now = (all left : List Reading) (total more : ℕ)
    → Leaves all total (flat_map f (map g xs) ++ left) (sum_by count (map g xs) + more) old
    → Leaves all total (flat_map f (map g (drop i xs)) ++ left) (sum_by count (map g (drop i xs)) + more) now

pub walked_none : {A B : Type 0} (f : B → List Reading) (count : B → ℕ) (g : A → B) (xs : List A) (old : Gathered) → Walked f count g xs 0 old old
walked_none f count g xs old all left total more h = h

-- an item more is gathered
pub gathers_each : {A B : Type 0} (f : B → List Reading) (count : B → ℕ) (g : A → B) (xs : List A) (i : ℕ) (x : A) (old now new : Gathered)
    → i < length xs → x ≡ get_or xs i x → Walked f count g xs i old now → Gathers (f (g x)) (count (g x)) now new (Ok tt) → Walked f count g xs (i + 1) old new
gathers_each f count g xs i x old now new h e walked here all left total more k = grind (arith, common_steps)

-- a fault at an item is one of the whole
pub refused_each : {A B : Type 0} (f : B → List Reading) (count : B → ℕ) (g : A → B) (xs : List A) (i : ℕ) (x : A) (old now new : Gathered) (fault : ReportFault)
    → i < length xs → x ≡ get_or xs i x → Walked f count g xs i old now → Gathers (f (g x)) (count (g x)) now new (Err fault)
    → Gathers (flat_map f (map g xs)) (sum_by count (map g xs)) old new (Err fault)
refused_each f count g xs i x old now new fault h e walked here all left total more k =
    here all (flat_map f (map g (drop (i + 1) xs)) ++ left) total (sum_by count (map g (drop (i + 1) xs)) + more)
    (left_next f count g xs i x all left total more now h e (walked all left total more k))

-- at the end of the list
pub gathers_all : {A B : Type 0} (f : B → List Reading) (count : B → ℕ) (g : A → B) (xs : List A) (i : ℕ) (old now : Gathered) → length xs ≤ i
    → Walked f count g xs i old now → Gathers (flat_map f (map g xs)) (sum_by count (map g xs)) old now (Ok tt)
gathers_all f count g xs i old now h walked all left total more k = grind (arith, common_steps)

-- where no item counts, none is counted
pub no_count : {A : Type 0} (xs : List A) → sum_by (λ _. 0) xs ≡ 0
no_count [] = refl
no_count (x ∷ xs) = let rest : sum_by (λ _. 0) xs ≡ 0 = no_count xs in omega (arith, rest, sum_by-cons (λ _. 0) x xs)

-- a part gathers what an equal part does
pub gathers_same : (here other : List Reading) (count number : ℕ) (old new : Gathered) (result : Result Unit ReportFault) → here ≡ other → count ≡ number
    → Gathers here count old new result → Gathers other number old new result
gathers_same here other count number old new result e f h = grind (arith, common_steps)

-- nothing is gathered of nothing
pub gathers_none : (old : Gathered) → Gathers [] 0 old old (Ok tt)
gathers_none old all left total more h = subst (λ (n : ℕ). Leaves all total left n old) (zero-add more) h

pub fields_of : (tree : Tree) (ms : List Entry) → tree ≡ object (members_of ms) → fields (Some tree) ≡ ms
fields_of tree ms e = ap (λ (t : Tree). fields (Some t)) e ∙ entries_of_members ms

-- what a test gives, by its members
pub test_by : (tree : Tree) (ms : List Entry) (name : Option (List ℕ)) → tree ≡ object (members_of ms) → name ≡ name_in (value_at (codes "name") ms)
    → (test_readings tree ≡ named_readings name ms) × (test_ignored tree ≡ named_ignored name ms)
test_by tree ms name e f = grind (arith, common_steps, codes, fields_of)

-- a list's numbers are those of its items
pub list_value : (test metric : List ℕ) (value : Tree) (xs : List Tree) → value ≡ list (items_of xs)
    → (flat_map (item_readings test metric) xs ≡ value_readings test metric value) × (◌≡◌ {A = ℕ} 0 (if is_text_or_null value then 1 else 0))
list_value test metric value xs e = grind (arith, common_steps, flat_map, trees_of_items)

-- nothing is gathered at first
pub at_first : (rs : List Reading) (n : ℕ) (g : Gathered) → g.samples ≡ [] → g.over ≡ false → g.ignored ≡ 0 → Leaves rs n (rs ++ []) (n + 0) g
at_first rs n g e f h = record {
  past = [];
  beyond = [];
  count = 0;
  split = append-nil rs;
  measured = subst (λ (ms : List Measurement). AreMeasured [] (ms ++ [])) (sym e) nothing_measured;
  over = subst (λ (over : Bool). AreBeyond over g.samples []) (sym f) refl;
  counted = omega arith;
  ignored = h;
  given = subst (λ (ms : List Measurement). All IsGiven ms) (sym e) (λ k d i. absurd (omega arith));
}
