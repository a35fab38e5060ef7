-- Blocks of positions: where a position stands in them, when two are the same, and what keeps them.
use Rattle.std.proofs.Common.{◌≡◌, ℕ, ℤ, zero, suc, ◌+◌, ◌-◌, ◌*◌, ◌<◌, ◌≤◌, true, false, cond, ◌&&◌, List, [], ◌∷◌, ◌++◌, length, map, take, drop, get_or, refl, sym, ap, ap₂, subst, ◌∙◌, arith}
use Rattle.std.{specs.Cmp.Rules.signed_items, proofs.lemmas.Bool.{le-ltb, eq-eqb, ne_eqb}, proofs.lemmas.Grind.common_steps}
use Rattle.std.proofs.lemmas.List.{append-nil, append_assoc, length-append, length-map, length-drop, length-take-le, drop-drop, take_all, get_or-append-add, get_or_append_left}
use Rattle.segment_model.specs.{Segments.{Observation, Position, values_of, position_values}, Edits.{inserted, removed, same_position}}
use Rattle.point_list.{specs.Places.common, specs.Blocks.{heads_of, joined, AreFull, IsFront}, proofs.CommonFirst.same-values, proofs.Places.AreFilled}

-- ---- one position more
pub heads-push : (points : List Position) (p : Position) → heads_of (points ++ p ∷ []) ≡ heads_of points ++ p.commit ∷ length p.samples ∷ []
heads-push [] p = refl
heads-push (q ∷ points) p = ap (λ hs. q.commit ∷ length q.samples ∷ hs) (heads-push points p)

pub values-push : (points : List Position) (p : Position) → values_of (points ++ p ∷ []) ≡ values_of points ++ position_values p
values-push [] p = append-nil (position_values p)
values-push (q ∷ points) p = grind (arith, common_steps, values-push points p)

-- ---- the same positions
head-of : ℕ → List ℕ → ℕ
head-of d [] = d
head-of d (x ∷ xs) = x

tail-of : List ℕ → List ℕ
tail-of [] = []
tail-of (x ∷ xs) = xs

-- lists of one length are equal where they are the fronts of equal lists, and so is what stands behind them
same-parts : (xs ys us vs : List ℤ) → length xs ≡ length ys → xs ++ us ≡ ys ++ vs → (xs ≡ ys) × (us ≡ vs)
same-parts [] [] us vs size same = (refl, same)
same-parts [] (y ∷ ys) us vs size same = absurd (omega (arith, size))
same-parts (x ∷ xs) [] us vs size same = absurd (omega (arith, size))
same-parts (x ∷ xs) (y ∷ ys) us vs size same =
    let rest = same-parts xs ys us vs (omega (arith, size)) (ap behind same) in
    (ap₂ (λ z zs. z ∷ zs) (ap first same) rest.0, rest.1)
  where
    first : List ℤ → ℤ
    first [] = x
    first (z ∷ zs) = z

    behind : List ℤ → List ℤ
    behind [] = []
    behind (z ∷ zs) = zs

pub same-blocks : (a b : List Position) → heads_of a ≡ heads_of b → values_of a ≡ values_of b → (common a b ≡ length a) × (length a ≡ length b)
unfolding head-of tail-of
same-blocks [] [] heads values = (refl, refl)
same-blocks [] (q ∷ b) heads values = absurd (let no : length (heads_of []) ≡ length (heads_of (q ∷ b)) = ap length heads in omega (arith, no))
same-blocks (p ∷ a) [] heads values = absurd (let no : length (heads_of (p ∷ a)) ≡ length (heads_of []) = ap length heads in omega (arith, no))
same-blocks (p ∷ a) (q ∷ b) heads values =
    let commits : p.commit ≡ q.commit = ap (head-of 0) heads in
    let sizes : length p.samples ≡ length q.samples = ap (λ hs. head-of 0 (tail-of hs)) heads in
    let size : length (position_values p) ≡ length (position_values q) =
    length-map p.samples (λ (x : Observation). x.value) ∙ sizes ∙ sym (length-map q.samples (λ (x : Observation). x.value)) in
    let parts = same-parts (position_values p) (position_values q) (values_of a) (values_of b) size values in
    let rest = same-blocks a b (ap (λ hs. tail-of (tail-of hs)) heads) parts.1 in
    let same : same_position p q ≡ true =
    ap₂ (λ s t. s && t) (eq-eqb p.commit q.commit commits) (same-values p.samples q.samples ∙ (signed_items (position_values p) (position_values q)).1 parts.0) in
    (ap (λ s. cond s (common a b + 1) 0) same ∙ (let more : common a b + 1 ≡ suc (length a) = omega (arith, rest.0) in more), ap suc rest.1)

-- what is in common, where the first positions are
pub common-front : (n : ℕ) (a b : List Position) → common (take n a) (take n b) ≡ n → common a b ≡ n + common (drop n a) (drop n b)
common-front zero a b same = let on : common a b ≡ zero + common a b = omega arith in on
common-front (suc n) [] b same = absurd (let no : zero ≡ suc n = same in omega (arith, no))
common-front (suc n) (p ∷ a) [] same = absurd (let no : zero ≡ suc n = same in omega (arith, no))
common-front (suc n) (p ∷ a) (q ∷ b) same = elim (same_position p q) as (λ s. cond s (common (take n a) (take n b) + 1) 0 ≡ suc n → cond s (common a b + 1) 0 ≡ suc n + common (drop n a) (drop n b)) [
  | true ↦ λ one.
      let rest = common-front n a b (let less : common (take n a) (take n b) ≡ n = omega (arith, one) in less) in
      omega (arith, rest)
  | false ↦ λ none. absurd (omega (arith, none))
] same

-- ---- blocks in a row
-- a list has as many items as were taken from it
at-least : (n : ℕ) (ps : List Position) → length (take n ps) ≡ n → n ≤ length ps
at-least zero ps size = omega arith
at-least (suc n) [] size = absurd (omega (arith, size))
at-least (suc n) (p ∷ ps) size = let rest = at-least n ps (omega (arith, size)) in omega (arith, rest)

take-both : {A : Type 0} (a b : ℕ) (xs : List A) → take a xs ++ take b (drop a xs) ≡ take (a + b) xs
take-both zero b xs = let on : b ≡ zero + b = omega arith in ap (λ n. take n xs) on
take-both (suc a) b [] = grind (arith, common_steps)
take-both (suc a) b (x ∷ xs) = let on : suc a + b ≡ suc (a + b) = omega arith in rw on (ap (λ l. x ∷ l) (take-both a b xs))

module _ {A : Type 0} (view : A → List Position) where
  pub joined-length : (blocks : List A) → AreFull view blocks → length (joined view blocks) ≡ 128 * length blocks
  joined-length [] full = refl
  joined-length (b ∷ blocks) full =
      let rest = joined-length blocks full.1 in
      omega (arith, length-append (view b) (joined view blocks), full.0, rest)

  joined-push : (blocks : List A) (b : A) → joined view (blocks ++ b ∷ []) ≡ joined view blocks ++ view b
  joined-push [] b = append-nil (view b)
  joined-push (c ∷ blocks) b = ap (λ ps. view c ++ ps) (joined-push blocks b) ∙ sym (append_assoc (view c) (joined view blocks) (view b))

  full-push : (blocks : List A) (b : A) → AreFull view blocks → length (view b) ≡ 128 → AreFull view (blocks ++ b ∷ [])
  full-push [] b full one = (one, tt)
  full-push (c ∷ blocks) b full one = (full.0, full-push blocks b full.1 one)

  -- one block more
  pub front-push : (blocks : List A) (b : A) (points : List Position) → IsFront view blocks points → view b ≡ take 128 (drop (128 * length blocks) points) → 128 * length blocks + 128 ≤ length points
      → IsFront view (blocks ++ b ∷ []) points
  front-push blocks b points is same room =
      let n : ℕ = length blocks in
      let more : length (blocks ++ b ∷ []) ≡ n + 1 = omega (arith, length-append blocks (b ∷ [])) in
      let behind : 128 ≤ length (drop (128 * n) points) = omega (arith, length-drop (128 * n) points, room) in
      let size : length (view b) ≡ 128 = ap length same ∙ length-take-le 128 (drop (128 * n) points) behind in
      let times : 128 * n + 128 ≡ 128 * (n + 1) = omega arith in
      record {
        full = full-push blocks b is.full size;
        same = joined-push blocks b ∙ ap₂ (λ (ps qs : List Position). ps ++ qs) is.same same ∙ take-both (128 * n) 128 points ∙ ap (λ m. take m points) (times ∙ ap (λ m. 128 * m) (sym more));
        within = omega (arith, more, room);
      }

  full-take : (m : ℕ) (blocks : List A) → AreFull view blocks → AreFull view (take m blocks)
  full-take zero blocks full = tt
  full-take (suc m) [] full = tt
  full-take (suc m) (b ∷ blocks) full = (full.0, full-take m blocks full.1)

  joined-take : (m : ℕ) (blocks : List A) → joined view blocks ≡ joined view (take m blocks) ++ joined view (drop m blocks)
  joined-take zero blocks = refl
  joined-take (suc m) [] = refl
  joined-take (suc m) (b ∷ blocks) =
      ap (λ ps. view b ++ ps) (joined-take m blocks) ∙ sym (append_assoc (view b) (joined view (take m blocks)) (joined view (drop m blocks)))

  take-front : (n : ℕ) (ps qs : List Position) → length ps ≡ n → take n (ps ++ qs) ≡ ps
  take-front zero [] qs size = refl
  take-front (suc n) [] qs size = absurd (omega (arith, size))
  take-front zero (p ∷ ps) qs size = absurd (omega (arith, size))
  take-front (suc n) (p ∷ ps) qs size = ap (λ l. p ∷ l) (take-front n ps qs (omega (arith, size)))

  -- the first of them, where as many positions of another list are the same
  pub front-take : (m : ℕ) (blocks : List A) (points new : List Position) → IsFront view blocks points → m ≤ length blocks → take (128 * m) new ≡ take (128 * m) points → IsFront view (take m blocks) new
  front-take m blocks points new is le same =
      let size : length (take m blocks) ≡ m = length-take-le m blocks le in
      let full = full-take m blocks is.full in
      let first : take (128 * m) (joined view blocks) ≡ joined view (take m blocks) =
      ap (take (128 * m)) (joined-take m blocks)
      ∙ take-front (128 * m) (joined view (take m blocks)) (joined view (drop m blocks)) (joined-length (take m blocks) full ∙ ap (λ n. 128 * n) size) in
      let fewer : 128 * m ≤ 128 * length blocks = omega (arith, le) in
      let here : take (128 * m) (joined view blocks) ≡ take (128 * m) points =
      ap (take (128 * m)) is.same ∙ shorter (128 * m) (128 * length blocks) points fewer in
      let taken : length (take (128 * m) points) ≡ 128 * m = length-take-le (128 * m) points (omega (arith, fewer, is.within)) in
      record {
        full = full;
        same = sym first ∙ here ∙ sym same ∙ ap (λ n. take (128 * n) new) (sym size);
        within = omega (arith, size, at-least (128 * m) new (ap length same ∙ taken));
      }
    where
      shorter : (n m : ℕ) (ps : List Position) → n ≤ m → take n (take m ps) ≡ take n ps
      shorter zero m ps le = refl
      shorter (suc n) zero ps le = absurd (omega (arith, le))
      shorter (suc n) (suc m) [] le = refl
      shorter (suc n) (suc m) (p ∷ ps) le = ap (λ l. p ∷ l) (shorter n m ps (omega (arith, le)))

  -- only what is seen of the blocks counts
  joined-map : (blocks : List A) → joined view blocks ≡ joined (λ (ps : List Position). ps) (map view blocks)
  joined-map [] = refl
  joined-map (b ∷ blocks) = ap (λ ps. view b ++ ps) (joined-map blocks)

  full-seen : (blocks : List A) → AreFull view blocks → AreFull (λ (ps : List Position). ps) (map view blocks)
  full-seen [] full = tt
  full-seen (b ∷ blocks) full = (full.0, full-seen blocks full.1)

  seen-full : (blocks : List A) → AreFull (λ (ps : List Position). ps) (map view blocks) → AreFull view blocks
  seen-full [] full = tt
  seen-full (b ∷ blocks) full = (full.0, seen-full blocks full.1)

  pub same-full : (xs ys : List A) → map view xs ≡ map view ys → AreFull view ys → AreFull view xs
  same-full xs ys same full = seen-full xs (subst (λ (bs : List (List Position)). AreFull (λ (ps : List Position). ps) bs) (sym same) (full-seen ys full))

  pub same-joined : (xs ys : List A) → map view xs ≡ map view ys → joined view xs ≡ joined view ys
  same-joined xs ys same = joined-map xs ∙ ap (joined (λ (ps : List Position). ps)) same ∙ sym (joined-map ys)

  -- how long a row is
  pub row-length : (blocks : List A) (rest : List Position) → AreFull view blocks → length (joined view blocks ++ rest) ≡ 128 * length blocks + length rest
  row-length blocks rest full = omega (arith, length-append (joined view blocks) rest, joined-length blocks full)

  -- all positions, where what stands behind the blocks is the rest of them
  pub whole : (xs ys : List A) (last points : List Position) (n k : ℕ) → map view xs ≡ map view ys → IsFront view ys points → k ≡ 128 * length ys → n ≡ length points - k → last ≡ take n (drop k points)
      → joined view xs ++ last ≡ points
  whole xs ys last points n k same front k_is n_is last_is =
      ap₂ (λ (ps qs : List Position). ps ++ qs) (same-joined xs ys same ∙ front.same ∙ ap (λ m. take m points) (sym k_is)) last_is
      ∙ take-both k n points
      ∙ take_all (k + n) points (omega (arith, k_is, n_is, front.within))

  -- ---- where a position stands
  pub at-block : (blocks : List A) (rest : List Position) (k r : ℕ) (e : A) (d : Position) → AreFull view blocks → k < length blocks → r < 128
      → get_or (joined view blocks ++ rest) (128 * k + r) d ≡ get_or (view (get_or blocks k e)) r d
  at-block [] rest k r e d full lt few = absurd (omega (arith, lt))
  at-block (b ∷ blocks) rest zero r e d full lt few =
      let on : 128 * zero + r ≡ r = omega arith in
      ap₂ (λ (ps : List Position) (i : ℕ). get_or ps i d) (append_assoc (view b) (joined view blocks) rest) on
      ∙ get_or_append_left (view b) (joined view blocks ++ rest) d r (omega (arith, few, full.0))
  at-block (b ∷ blocks) rest (suc k) r e d full lt few =
      let on : 128 * suc k + r ≡ length (view b) + (128 * k + r) = omega (arith, full.0) in
      ap₂ (λ (ps : List Position) (i : ℕ). get_or ps i d) (append_assoc (view b) (joined view blocks) rest) on
      ∙ get_or-append-add (view b) (joined view blocks ++ rest) (128 * k + r) d
      ∙ at-block blocks rest k r e d full.1 (omega (arith, lt)) few

  -- a block in the row
  pub block-at : (blocks : List A) (rest : List Position) (k : ℕ) (e : A) → AreFull view blocks → k < length blocks → take 128 (drop (128 * k) (joined view blocks ++ rest)) ≡ view (get_or blocks k e)
  block-at [] rest k e full lt = absurd (omega (arith, lt))
  block-at (b ∷ blocks) rest zero e full lt =
      let on : 128 * zero ≡ zero = omega arith in
      ap (λ n. take 128 (drop n ((view b ++ joined view blocks) ++ rest))) on
      ∙ ap (take 128) (append_assoc (view b) (joined view blocks) rest)
      ∙ take-front 128 (view b) (joined view blocks ++ rest) full.0
  block-at (b ∷ blocks) rest (suc k) e full lt =
      let on : 128 * suc k ≡ length (view b) + 128 * k = omega (arith, full.0) in
      ap₂ (λ n ps. take 128 (drop n ps)) on (append_assoc (view b) (joined view blocks) rest)
      ∙ ap (take 128) (past (view b) (joined view blocks ++ rest) (128 * k))
      ∙ block-at blocks rest k e full.1 (omega (arith, lt))
    where
      past : (ps qs : List Position) (n : ℕ) → drop (length ps + n) (ps ++ qs) ≡ drop n qs
      past [] qs n = let on : zero + n ≡ n = omega arith in ap (λ m. drop m qs) on
      past (p ∷ ps) qs n = let on : suc (length ps) + n ≡ suc (length ps + n) = omega arith in rw on (past ps qs n)

  pub full-at : (blocks : List A) (k : ℕ) (e : A) → AreFull view blocks → k < length blocks → length (view (get_or blocks k e)) ≡ 128
  full-at [] k e full lt = absurd (omega (arith, lt))
  full-at (b ∷ blocks) zero e full lt = full.0
  full-at (b ∷ blocks) (suc k) e full lt = full-at blocks k e full.1 (omega (arith, lt))

  -- what is in common from a block on, where that block is
  pub next-block : (a b : List A) (one other : List Position) (k : ℕ) (e f : A) → AreFull view a → AreFull view b → k < length a → k < length b
      → common (view (get_or a k e)) (view (get_or b k f)) ≡ length (view (get_or a k e))
      → common (drop (128 * k) (joined view a ++ one)) (drop (128 * k) (joined view b ++ other))
      ≡ 128 + common (drop (128 * (k + 1)) (joined view a ++ one)) (drop (128 * (k + 1)) (joined view b ++ other))
  next-block a b one other k e f full_a full_b in_a in_b same =
      let xs : List Position = joined view a ++ one in
      let ys : List Position = joined view b ++ other in
      let here : common (take 128 (drop (128 * k) xs)) (take 128 (drop (128 * k) ys)) ≡ 128 =
      ap₂ common (block-at a one k e full_a in_a) (block-at b other k f full_b in_b) ∙ same ∙ full-at a k e full_a in_a in
      let on : 128 * k + 128 ≡ 128 * (k + 1) = omega arith in
      common-front 128 (drop (128 * k) xs) (drop (128 * k) ys) here
      ∙ ap (λ n. 128 + n) (ap₂ common (drop-drop 128 (128 * k) xs ∙ ap (λ n. drop n xs) on) (drop-drop 128 (128 * k) ys ∙ ap (λ n. drop n ys) on))

-- ---- what an insertion and a removal leave
pub keeps-inserted : (commit : ℕ) (x : Observation) (points : List Position) (k : ℕ) (d : Position) → k ≤ length points → ((i : ℕ) → i < k → (get_or points i d).commit < commit)
    → take k (inserted commit x points) ≡ take k points
keeps-inserted commit x points zero d within below = refl
keeps-inserted commit x [] (suc k) d within below = absurd (omega (arith, within))
keeps-inserted commit x (p ∷ points) (suc k) d within below =
    let lt : p.commit < commit = below 0 (omega arith) in
    rw (le-ltb commit p.commit (omega (arith, lt)), ne_eqb p.commit commit (λ e. omega (arith, e, lt)))
    (ap (λ l. p ∷ l) (keeps-inserted commit x points k d (omega (arith, within)) (λ i few. below (suc i) (omega (arith, few)))))

pub keeps-removed : (commit step : ℕ) (points : List Position) (k : ℕ) (d : Position) → AreFilled points → k ≤ length points → ((i : ℕ) → i < k → (get_or points i d).commit < commit)
    → take k (removed commit step points) ≡ take k points
keeps-removed commit step points zero d filled within below = refl
keeps-removed commit step [] (suc k) d filled within below = absurd (omega (arith, within))
keeps-removed commit step (p ∷ points) (suc k) d filled within below =
    let lt : p.commit < commit = below 0 (omega arith) in
    rw (ne_eqb p.commit commit (λ e. omega (arith, e, lt)), filled.0)
    (ap (λ l. p ∷ l) (keeps-removed commit step points k d filled.1 (omega (arith, within)) (λ i few. below (suc i) (omega (arith, few)))))

-- the blocks of the positions in front of a commit stay where a value is put in there, and where those of a step are taken out
module _ {A : Type 0} (view : A → List Position) where
  stays : (blocks : List A) (points new : List Position) → IsFront view blocks points → take (128 * length blocks) new ≡ take (128 * length blocks) points → IsFront view blocks new
  stays blocks points new is same =
      let taken : length (take (128 * length blocks) points) ≡ 128 * length blocks = length-take-le (128 * length blocks) points is.within in
      record {
        full = is.full;
        same = is.same ∙ sym same;
        within = at-least (128 * length blocks) new (ap length same ∙ taken);
      }

  pub front-inserted : (blocks : List A) (points : List Position) (commit : ℕ) (x : Observation) (d : Position) → IsFront view blocks points
      → ((i : ℕ) → i < 128 * length blocks → (get_or points i d).commit < commit) → IsFront view blocks (inserted commit x points)
  front-inserted blocks points commit x d is below = stays blocks points (inserted commit x points) is (keeps-inserted commit x points (128 * length blocks) d is.within below)

  pub front-removed : (blocks : List A) (points : List Position) (commit step : ℕ) (d : Position) → AreFilled points → IsFront view blocks points
      → ((i : ℕ) → i < 128 * length blocks → (get_or points i d).commit < commit) → IsFront view blocks (removed commit step points)
  front-removed blocks points commit step d filled is below =
      stays blocks points (removed commit step points) is (keeps-removed commit step points (128 * length blocks) d filled is.within below)
