-- First parts of bytes, and first lines.
use Rattle.std.proofs.Common.{◌≡◌, ℕ, ◌+◌, ◌-◌, ◌^◌, ◌<◌, ◌≤◌, List, [], ◌∷◌, ◌++◌, length, take, drop, get_or, eqb, true, refl, sym, ap, ap₂, subst, ◌∙◌, arith, append_assoc, length-append}
use Rattle.std.proofs.lemmas.{Bool.eqb-true, List.{take-append-le, take-append-drop, length-take-le, drop_more}}
use lib.Seq.{take-append-add}

-- ---- bytes, of which 2^30 are looked at

pub within-append : (given rest : List ℕ) → length given ≤ 2 ^ 30 → take (2 ^ 30) (given ++ rest) ≡ given ++ take (2 ^ 30 - length given) rest
within-append given rest short =
    let split : 2 ^ 30 ≡ length given + (2 ^ 30 - length given) = omega arith in
    ap (λ n. take n (given ++ rest)) split ∙ take-append-add given rest (2 ^ 30 - length given)

-- as many bytes as are allowed, and those behind them
pub split_at : (read bytes rest : List ℕ) (allowed : ℕ) → (read ++ take allowed bytes) ++ (drop allowed bytes ++ rest) ≡ (read ++ bytes) ++ rest
split_at read bytes rest allowed =
    sym (append_assoc (read ++ take allowed bytes) (drop allowed bytes) rest)
    ∙ ap (λ bs. bs ++ rest) (append_assoc read (take allowed bytes) (drop allowed bytes) ∙ ap (λ bs. read ++ bs) (take-append-drop allowed bytes))

-- there are more bytes than are allowed, and this holds of the first ones
pub too_many : (P : List ℕ → Type 0) (read bytes rest : List ℕ) (allowed : ℕ) → length read + allowed ≡ 2 ^ 30 → allowed < length bytes → P (read ++ take allowed bytes)
    → (2 ^ 30 < length ((read ++ bytes) ++ rest)) × P (take (2 ^ 30) ((read ++ bytes) ++ rest))
too_many P read bytes rest allowed short many holds =
    let count : length (read ++ bytes) ≡ length read + length bytes = length-append read bytes in
    let all : length ((read ++ bytes) ++ rest) ≡ length (read ++ bytes) + length rest = length-append (read ++ bytes) rest in
    let long : 2 ^ 30 < length ((read ++ bytes) ++ rest) = omega arith in (
      long,
      subst P
          (sym (take-append-add read bytes allowed) ∙ ap (λ n. take n (read ++ bytes)) short ∙ sym (take-append-le (2 ^ 30) (read ++ bytes) rest (omega arith))) holds,
    )

-- a part of bytes, behind those that were read and done
pub part_front : (read done part back bytes : List ℕ) → done ++ (part ++ back) ≡ bytes → ((read ++ done) ++ part) ++ back ≡ read ++ bytes
part_front read done part back bytes whole = append_assoc (read ++ done) part back ∙ append_assoc read done (part ++ back) ∙ ap (λ bs. read ++ bs) whole

-- ---- lines

-- a line feed, and the bytes before and behind it
pub parted : (rest : List ℕ) (end : ℕ) → end < length rest → eqb (get_or rest end 0) 10 ≡ true → take end rest ++ 10 ∷ drop (end + 1) rest ≡ rest
parted rest end few told =
    let split : drop end rest ≡ get_or rest end 0 ∷ drop (end + 1) rest = drop_more rest end 0 few in
    let is : get_or rest end 0 ≡ 10 = eqb-true (get_or rest end 0) 10 told in
    ap (λ bs. take end rest ++ bs) (ap (λ b. b ∷ drop (end + 1) rest) (sym is) ∙ sym split) ∙ take-append-drop end rest

-- the bytes up to that line feed, behind those that were done, and the others
pub record IsDone (done rest bytes : List ℕ) (end : ℕ) : Type 0 where
  pub count : length (done ++ (take end rest ++ 10 ∷ [])) ≡ length done + end + 1
  pub behind : (done ++ (take end rest ++ 10 ∷ [])) ++ drop (end + 1) rest ≡ bytes

pub line_done : (done rest bytes : List ℕ) (end : ℕ) → end < length rest → eqb (get_or rest end 0) 10 ≡ true → done ++ rest ≡ bytes → IsDone done rest bytes end
line_done done rest bytes end few told whole =
    let part : List ℕ = take end rest in
    let size : length part ≡ end = length-take-le end rest (omega arith) in
    let ended : length (part ++ 10 ∷ []) ≡ length part + 1 = length-append part (10 ∷ []) in
    let all : length (done ++ (part ++ 10 ∷ [])) ≡ length done + length (part ++ 10 ∷ []) = length-append done (part ++ 10 ∷ []) in
    let behind : (done ++ (part ++ 10 ∷ [])) ++ drop (end + 1) rest ≡ bytes =
    append_assoc done (part ++ 10 ∷ []) (drop (end + 1) rest)
    ∙ ap (λ bs. done ++ bs) (append_assoc part (10 ∷ []) (drop (end + 1) rest) ∙ parted rest end few told) ∙ whole in
    record { count = omega arith; behind = behind }

-- a shorter front begins the longer one
pub goes_past : (one two : List (List ℕ)) (line : List ℕ) (behind rest : List (List ℕ)) → one ++ line ∷ behind ≡ two ++ rest → length one < length two
    → (more : List (List ℕ)) × (two ≡ one ++ line ∷ more)
goes_past one [] line behind rest same less = absurd (omega arith)
goes_past [] (first ∷ two) line behind rest same less =
    let is : line ≡ first = cc in
    (two, ap (λ (l : List ℕ). l ∷ two) (sym is))
goes_past (next ∷ one) (first ∷ two) line behind rest same less =
    let is : next ≡ first = cc in
    let tails : one ++ line ∷ behind ≡ two ++ rest = cc in
    let found = goes_past one two line behind rest tails (omega arith) in
    (found.0, ap₂ (λ (l : List ℕ) (ls : List (List ℕ)). l ∷ ls) (sym is) found.1)

-- fronts of one length are one, with the line behind
pub one_split : (one two : List (List ℕ)) (line other : List ℕ) (behind rest : List (List ℕ)) → one ++ line ∷ behind ≡ two ++ other ∷ rest → length one ≡ length two
    → (one ≡ two) × (line ≡ other)
one_split [] [] line other behind rest same count = (refl, cc)
one_split [] (first ∷ two) line other behind rest same count = absurd (omega arith)
one_split (next ∷ one) [] line other behind rest same count = absurd (omega arith)
one_split (next ∷ one) (first ∷ two) line other behind rest same count =
    let is : next ≡ first = cc in
    let tails : one ++ line ∷ behind ≡ two ++ other ∷ rest = cc in
    let found = one_split one two line other behind rest tails (omega arith) in
    (ap₂ (λ (l : List ℕ) (ls : List (List ℕ)). l ∷ ls) is found.0, found.1)
