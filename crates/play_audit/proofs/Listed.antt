-- Private: no public contract cites this. Lists by their places.
use Rattle.std.proofs.lemmas.Grind.{common_steps}
use Rattle.std.proofs.Common.{◌≡◌, ◌⊎◌, inl, inr, ℕ, zero, suc, ◌+◌, ◌<◌, ◌≤◌, Bool, List, [], ◌∷◌, ◌++◌, length, map, take, get_or, set, Some, Vec, Global, refl, sym, ap, ◌∙◌, arith}
use Rattle.std.{specs.Prelude.{slice_get, sum_by}, proofs.lemmas.List.Sums.{sum_by-append, sum_by-cons, sum_by-take-le}, proofs.lemmas.Option.slice_get_read}
use Rattle.std.proofs.lemmas.List as lists
use Rattle.journal_reader.{specs.Journals.Journal, proofs.Lists.map_at}
use Rattle.audit_model.{specs.Verdicts.track_of, proofs.Exchanges.take_next}
use Rattle.play_audit.specs.{Known.tracks_of, Marks.rows_of}

pub read_at : {A : Type 0} (xs : List A) (n : ℕ) (x : A) → n < length xs → x ≡ get_or xs n x → slice_get xs n ≡ Some x
read_at xs n x below is = slice_get_read xs (length xs) n x refl below is

pub same_at : {A : Type 0} (xs : List A) (k : ℕ) (x y : A) → slice_get xs k ≡ Some x → slice_get xs k ≡ Some y → x ≡ y
same_at xs k x y one two = let both : Some x ≡ Some y = sym one ∙ two in cc

-- sums over the first ones
pub sum_next : {A : Type 0} (f : A → ℕ) (xs : List A) (n : ℕ) (x : A) → slice_get xs n ≡ Some x → sum_by f (take (n + 1) xs) ≡ sum_by f (take n xs) + f x
sum_next f xs n x is =
    let step : n + 1 ≡ suc n = omega arith in
    let one : sum_by f (x ∷ []) ≡ f x + 0 = sum_by-cons f x [] in
    let last : sum_by f (take n xs) + sum_by f (x ∷ []) ≡ sum_by f (take n xs) + f x = omega (arith, one) in
    ap (λ (k : ℕ). sum_by f (take k xs)) step ∙ ap (sum_by f) (take_next xs n x is) ∙ sum_by-append f (take n xs) (x ∷ []) ∙ last

pub sum_most : {A : Type 0} (f : A → ℕ) (xs : List A) (n : ℕ) → sum_by f (take n xs) ≤ sum_by f xs
sum_most f xs n = sum_by-take-le f xs n

pub sum_longer : {A : Type 0} (f : A → ℕ) (xs : List A) (n m : ℕ) → n ≤ m → sum_by f (take n xs) ≤ sum_by f (take m xs)
sum_longer f [] zero zero le = omega arith
sum_longer f [] zero (suc m) le = omega arith
sum_longer f [] (suc n) zero le = absurd (omega (arith, le))
sum_longer f [] (suc n) (suc m) le = omega arith
sum_longer f (x ∷ xs) zero m le = omega arith
sum_longer f (x ∷ xs) (suc n) zero le = absurd (omega (arith, le))
sum_longer f (x ∷ xs) (suc n) (suc m) le = grind (arith, common_steps, sum_longer f xs n m (omega (arith, le)))

-- lists of rows
pub row_at : (marks : List (Vec Bool Global)) (n : ℕ) (row : Vec Bool Global) → n < length marks → row ≡ get_or marks n row → get_or (rows_of marks) n [] ≡ row.items
row_at marks n row below is = lists.get_or-map (λ (v : Vec Bool Global). v.items) marks n row [] below ∙ ap (λ (v : Vec Bool Global). v.items) (sym is)

pub rows_many : (marks : List (Vec Bool Global)) → length (rows_of marks) ≡ length marks
rows_many marks = lists.length-map marks (λ (v : Vec Bool Global). v.items)

pub rows_next : (marks : List (Vec Bool Global)) (row : Vec Bool Global) → rows_of (marks ++ row ∷ []) ≡ rows_of marks ++ row.items ∷ []
rows_next marks row = lists.map-append (λ (v : Vec Bool Global). v.items) marks (row ∷ [])

pub map_set : {A B : Type 0} (f : A → B) (xs : List A) (n : ℕ) (x : A) → map f (set xs n x) ≡ set (map f xs) n (f x)
map_set f [] zero x = refl
map_set f [] (suc n) x = refl
map_set f (y ∷ xs) zero x = refl
map_set f (y ∷ xs) (suc n) x = ap (λ (l : List _). f y ∷ l) (map_set f xs n x)

-- the machine with the journal at a place
pub track_at : (js : List Journal) (n : ℕ) (j : Journal) → slice_get js n ≡ Some j → slice_get (tracks_of js) n ≡ Some (track_of j)
track_at js n j is = map_at track_of js n j is

pub tracks_many : (js : List Journal) → length (tracks_of js) ≡ length js
tracks_many js = lists.length-map js track_of

pub lt-or-le : (n m : ℕ) → (n < m) ⊎ (m ≤ n)
lt-or-le zero zero = inr (omega arith)
lt-or-le zero (suc m) = inl (omega arith)
lt-or-le (suc n) zero = inr (omega arith)
lt-or-le (suc n) (suc m) = grind (arith, common_steps, lt-or-le n m)
