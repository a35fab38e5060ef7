-- Bytes have one reading, where each line asks one thing with its body.
use Rattle.std.proofs.lemmas.Grind.{common_steps}
use Rattle.std.proofs.Common.{◌≡◌, ◌≢◌, ℕ, ◌+◌, ◌-◌, ◌≤◌, ◌⊎◌, inl, inr, Bool, true, false, List, [], ◌∷◌, ◌++◌, All, length, take, refl, sym, ap, ◌∙◌, arith, append_assoc, length-append, suc, subst}
use Rattle.std.proofs.{Math.Seq.{take-append_seam, take-append-add}, lemmas.List.append_cancel_left, lemmas.List.Elements.{All-head, All-tail}}
use Rattle.line_text.specs.Lines.{LinesEnd}
use Rattle.request_words.{specs.Bodies.Item, specs.Items.{Counts, Gives, OneItem}, proofs.OneForm.one_count}
use Rattle.request_reader.specs.Scripts.{line_limit, IsLine, Piece, text_of, IsPiece, ArePiecesOf, IsTooLong, IsInside, Ending, Ends, long, last, inside, more, Reads}
use Rattle.request_reader.specs.Reading.{OneReading, PiecesAreFirst}

-- ---- the first line

feed_in : (line rest : List ℕ) → All (λ b. b ≢ 10) (line ++ 10 ∷ rest) → ⊥
feed_in [] rest all = All-head (λ b. b ≢ 10) 10 rest all refl
feed_in (b ∷ line) rest all = feed_in line rest (All-tail (λ b. b ≢ 10) b (line ++ 10 ∷ rest) all)

long_in : (line rest : List ℕ) → length line ≤ line_limit → IsTooLong (line ++ 10 ∷ rest) → ⊥
long_in line rest few over =
    let k : ℕ = line_limit - length line in
    let sum : line_limit + 1 ≡ length line + suc k = omega (arith, few) in
    let cut : take (line_limit + 1) (line ++ 10 ∷ rest) ≡ line ++ 10 ∷ take k rest = rw sum (take-append-add line (10 ∷ rest) (suc k)) in
    feed_in line (take k rest) (rw cut at over.no_feed)

first_line : LinesEnd → (line other rest behind : List ℕ) → All (λ b. b ≢ 10) line → All (λ b. b ≢ 10) other → line ++ 10 ∷ rest ≡ other ++ 10 ∷ behind
    → (line ≡ other) × (rest ≡ behind)
first_line ends line other rest behind one two same = grind (arith, common_steps, append_cancel_left)

same_parts : (one two behind rest : List ℕ) → length one ≡ length two → one ++ behind ≡ two ++ rest → (one ≡ two) × (behind ≡ rest)
same_parts one two behind rest size same =
    let is : one ≡ two = sym (take-append_seam one behind) ∙ ap (take (length one)) same ∙ rw size (take-append_seam two rest) in
    let whole : one ++ behind ≡ one ++ rest = same ∙ ap (λ bs. bs ++ rest) (sym is) in
    (is, append_cancel_left one behind rest whole)

inside_front : LinesEnd → (line rest : List ℕ) (count : ℕ) → IsLine line → Counts line count → count ≤ length rest → IsInside (line ++ 10 ∷ rest) → ⊥
inside_front ends line rest count whole counts enough within =
    let first = first_line ends line within.line rest within.part whole.no_feed within.whole.no_feed within.is in
    let same : count ≡ within.count = one_count within.line count within.count (rw first.0 at counts) within.counted in
    absurd (omega (arith, same, enough, within.short, ap length first.1))

-- bytes that begin with a whole piece don't end there
ends_front : LinesEnd → (all : Bool) (at : ℕ) (bytes line rest : List ℕ) (count : ℕ) (items : List Item) (ending : Ending) → bytes ≡ line ++ 10 ∷ rest → IsLine line
    → Counts line count → count ≤ length rest → Ends all at bytes items ending → ⊥
ends_front ends all at bytes line rest count items ending is whole counts enough (long over none told) = long_in line rest whole.short (rw is at over)
ends_front ends all at bytes line rest count items ending is whole counts enough (last flag line_is zero gives told) = feed_in line rest (rw is at line_is.no_feed)
ends_front ends all at bytes line rest count items ending is whole counts enough (inside flag (inl within) none told) =
    inside_front ends line rest count whole counts enough (rw is at within)
ends_front ends all at bytes line rest count items ending is whole counts enough (inside flag (inr before) none told) = feed_in line rest (rw is at before.line.no_feed)
ends_front ends all at bytes line rest count items ending is whole counts enough (more flag (inl within) none told) =
    inside_front ends line rest count whole counts enough (rw is at within)
ends_front ends all at bytes line rest count items ending is whole counts enough (more flag (inr line_is) none told) = feed_in line rest (rw is at line_is.no_feed)

-- ---- one end

no_flag : (all : Bool) → all ≡ true → all ≡ false → ⊥
no_flag all set unset = grind (arith, common_steps)

gives_one : OneItem → (line body : List ℕ) (items others : List Item) → Gives line body items → Gives line body others → items ≡ others
gives_one one line body items others (inl a) (inl b) = a.1 ∙ sym b.1
gives_one one line body items others (inl a) (inr b) = absurd (b.0 a.0)
gives_one one line body items others (inr a) (inl b) = absurd (a.0 b.0)
gives_one one line body items others (inr a) (inr b) = a.3 ∙ ap (λ i. i ∷ []) (one line body a.1 b.1 a.2 b.2) ∙ sym b.3

long_open : (bytes : List ℕ) → IsTooLong bytes → (IsInside bytes ⊎ IsLine bytes) → ⊥
long_open bytes over x2 = grind (arith, common_steps, long_in)

ends_one : OneItem → (all : Bool) (at : ℕ) (bytes : List ℕ) (items others : List Item) (ending other : Ending) → Ends all at bytes items ending
    → Ends all at bytes others other → (items ≡ others) × (ending ≡ other)
ends_one one all at bytes items others ending other (long a b c) (long d e f) = (b ∙ sym e, c ∙ sym f)
ends_one one all at bytes items others ending other (long a b c) (last d e f g h) = absurd (long_open bytes a (inr e))
ends_one one all at bytes items others ending other (long a b c) (inside d e f g) = (b ∙ sym f, c ∙ sym g)
ends_one one all at bytes items others ending other (long a b c) (more d e f g) = absurd (long_open bytes a e)
ends_one one all at bytes items others ending other (last a b c d e) (long f g h) = absurd (long_open bytes f (inr b))
ends_one one all at bytes items others ending other (last a b c d e) (last f g h i j) = (gives_one one bytes [] items others d i, e ∙ sym j)
ends_one one all at bytes items others ending other (last a b c d e) (inside f (inl g) h i) = absurd (feed_in g.line g.part (rw g.is at b.no_feed))
ends_one one all at bytes items others ending other (last a b c d e) (inside f (inr g) h i) =
    absurd (omega (arith, one_count bytes 0 g.count c g.counted, g.some))
ends_one one all at bytes items others ending other (last a b c d e) (more f g h i) = absurd (no_flag all a f)
ends_one one all at bytes items others ending other (inside a b c d) (long e f g) = (c ∙ sym f, d ∙ sym g)
ends_one one all at bytes items others ending other (inside a (inl b) c d) (last e f g h i) = absurd (feed_in b.line b.part (rw b.is at f.no_feed))
ends_one one all at bytes items others ending other (inside a (inr b) c d) (last e f g h i) =
    absurd (omega (arith, one_count bytes 0 b.count g b.counted, b.some))
ends_one one all at bytes items others ending other (inside a b c d) (inside e f g h) = (c ∙ sym g, d ∙ sym h)
ends_one one all at bytes items others ending other (inside a b c d) (more e f g h) = absurd (no_flag all a e)
ends_one one all at bytes items others ending other (more a b c d) (long e f g) = absurd (long_open bytes e b)
ends_one one all at bytes items others ending other (more a b c d) (last e f g h i) = absurd (no_flag all e a)
ends_one one all at bytes items others ending other (more a b c d) (inside e f g h) = absurd (no_flag all e a)
ends_one one all at bytes items others ending other (more a b c d) (more e f g h) = (c ∙ sym g, d ∙ sym h)

-- ---- one list of pieces

piece_split : (p : Piece) (rest back : List ℕ) → (text_of p ++ rest) ++ back ≡ p.line ++ 10 ∷ (p.body ++ (rest ++ back))
piece_split p rest back = append_assoc (text_of p) rest back ∙ append_assoc p.line (10 ∷ p.body) (rest ++ back)

front_clash : LinesEnd → (all : Bool) (at : ℕ) (q : Piece) (qs : List Piece) (front back bytes : List ℕ) (asked items : List Item) (ending : Ending)
    → ArePiecesOf (q ∷ qs) front asked → bytes ≡ front ++ back → Ends all at bytes items ending → ⊥
front_clash ends all at q qs front back bytes asked items ending pieces is told =
    let split : bytes ≡ q.line ++ 10 ∷ (q.body ++ (pieces.0 ++ back)) = is ∙ ap (λ bs. bs ++ back) pieces.2 ∙ piece_split q pieces.0 back in
    ends_front ends all at bytes q.line (q.body ++ (pieces.0 ++ back)) (length q.body) items ending split pieces.4.line pieces.4.counted
    (omega (arith, length-append q.body (pieces.0 ++ back))) told

-- the first pieces of the same bytes are of one length, ask the same and end at the same place
record SameFirst (p q : Piece) (rest behind : List ℕ) : Type 0 where
  asks : p.asks ≡ q.asks
  text : length (text_of p) ≡ length (text_of q)
  left : rest ≡ behind

same_first : LinesEnd → OneItem → (p q : Piece) (fa ba fb bb rest behind : List ℕ) → fa ≡ text_of p ++ rest → fb ≡ text_of q ++ behind → IsPiece p → IsPiece q
    → fa ++ ba ≡ fb ++ bb → SameFirst p q (rest ++ ba) (behind ++ bb)
same_first ends one p q fa ba fb bb rest behind is its a b joined =
    let both : p.line ++ 10 ∷ (p.body ++ (rest ++ ba)) ≡ q.line ++ 10 ∷ (q.body ++ (behind ++ bb)) = grind (arith, common_steps) in
    let first = first_line ends p.line q.line (p.body ++ (rest ++ ba)) (q.body ++ (behind ++ bb)) a.line.no_feed b.line.no_feed both in
    let size : length p.body ≡ length q.body = one_count q.line (length p.body) (length q.body) (rw first.0 at a.counted) b.counted in
    let parts = same_parts p.body q.body (rest ++ ba) (behind ++ bb) size first.1 in
    let gives : Gives q.line q.body p.asks = rw (first.0, parts.0) at a.gives in
    record {
      asks = gives_one one q.line q.body p.asks q.asks gives b.gives;
      text = omega (arith, length-append p.line (10 ∷ p.body), length-append q.line (10 ∷ q.body), ap length first.0, size);
      left = parts.1;
    }

one_pieces : LinesEnd → OneItem → (all : Bool) (base here there : ℕ) (ps qs : List Piece) (fa ba fb bb : List ℕ) (asked told la lb : List Item) (ea eb : Ending)
    → fa ++ ba ≡ fb ++ bb → ArePiecesOf ps fa asked → ArePiecesOf qs fb told → here ≡ base + length fa → there ≡ base + length fb
    → Ends all here ba la ea → Ends all there bb lb eb → (asked ++ la ≡ told ++ lb) × (ea ≡ eb)
one_pieces ends one all base here there [] [] fa ba fb bb asked told la lb ea eb joined a b pa pb end_a end_b =
    let same : ba ≡ bb = rw (a.0, b.0) at joined in
    let place : there ≡ here = omega (arith, pa, pb, ap length a.0, ap length b.0) in
    let found = ends_one one all here ba la lb ea eb end_a (rw (place, sym same) at end_b) in
    (rw (a.1, b.1) found.0, found.1)
one_pieces ends one all base here there [] (q ∷ qs) fa ba fb bb asked told la lb ea eb joined a b pa pb end_a end_b =
    let is : ba ≡ fb ++ bb = rw a.0 at joined in
    absurd (front_clash ends all here q qs fb bb ba told la ea b is end_a)
one_pieces ends one all base here there (p ∷ ps) [] fa ba fb bb asked told la lb ea eb joined a b pa pb end_a end_b =
    let is : fa ++ ba ≡ bb = rw b.0 at joined in
    absurd (front_clash ends all there p ps fa ba bb asked lb eb a (sym is) end_b)
one_pieces ends one all base here there (p ∷ ps) (q ∷ qs) fa ba fb bb asked told la lb ea eb joined a b pa pb end_a end_b =
    let same = same_first ends one p q fa ba fb bb a.0 b.0 a.2 b.2 a.4 b.4 joined in
    let next : ℕ = base + length (text_of p) in
    let here_is : here ≡ next + length a.0 = omega (arith, pa, ap length a.2, length-append (text_of p) a.0) in
    let there_is : there ≡ next + length b.0 = omega (arith, pb, ap length b.2, length-append (text_of q) b.0, same.text) in
    let found = one_pieces ends one all next here there ps qs a.0 ba b.0 bb a.1 b.1 la lb ea eb same.left a.5 b.5 here_is there_is end_a end_b in (
      ap (λ xs. xs ++ la) a.3 ∙ append_assoc p.asks a.1 la ∙ ap (λ xs. xs ++ (a.1 ++ la)) same.asks ∙ ap (λ xs. q.asks ++ xs) found.0
          ∙ sym (append_assoc q.asks b.1 lb) ∙ ap (λ xs. xs ++ lb) (sym b.3),
      found.1,
    )

pub one_reading : LinesEnd → OneItem → OneReading
one_reading ends one all at bytes items others ending other a b =
    let joined : a.front ++ a.back ≡ b.front ++ b.back = sym a.split ∙ b.split in
    let found = one_pieces ends one all at (at + length a.front) (at + length b.front) a.pieces.0 b.pieces.0 a.front a.back b.front b.back a.asked b.asked a.last b.last ending other
    joined a.pieces.1 b.pieces.1 refl refl a.ends b.ends in
    (a.told ∙ found.0 ∙ sym b.told, found.1)

-- ---- the pieces in front are those that a reading begins with

told_join : (told lasts asked head tail first rest behind : List Item) → told ≡ head ++ tail → asked ≡ first ++ rest → first ≡ head
    → tail ++ lasts ≡ rest ++ behind → told ++ lasts ≡ asked ++ behind
told_join told lasts asked head tail first rest behind is split same joined = grind (arith, common_steps)

pieces_first : LinesEnd → OneItem → (all : Bool) (at place : ℕ) (ps qs : List Piece) (used rest front back : List ℕ) (asked told lasts : List Item) (ending : Ending)
    → used ++ rest ≡ front ++ back → ArePiecesOf ps used asked → ArePiecesOf qs front told → place ≡ at + length front → Ends all place back lasts ending
    → (more : List Item) × (told ++ lasts ≡ asked ++ more) × Reads all (at + length used) rest more ending
pieces_first ends one all at place [] qs used rest front back asked told lasts ending joined a b is end =
    let here : at + length used + length front ≡ place = omega (arith, is, ap length a.0) in (
      told ++ lasts,
      rw a.1 refl,
      record {
        front = front;
        back = back;
        asked = told;
        last = lasts;
        split = rw a.0 at joined;
        told = refl;
        pieces = (qs, b);
        ends = subst (λ k. Ends all k back lasts ending) (sym here) end;
      },
    )
pieces_first ends one all at place (p ∷ ps) [] used rest front back asked told lasts ending joined a b is end =
    let left : used ++ rest ≡ back = rw b.0 at joined in
    absurd (front_clash ends all place p ps used rest back asked lasts ending a (sym left) end)
pieces_first ends one all at place (p ∷ ps) (q ∷ qs) used rest front back asked told lasts ending joined a b is end =
    let same = same_first ends one p q used rest front back a.0 b.0 a.2 b.2 a.4 b.4 joined in
    let next : ℕ = at + length (text_of p) in
    let there : place ≡ next + length b.0 = omega (arith, is, ap length b.2, length-append (text_of q) b.0, same.text) in
    let found = pieces_first ends one all next place ps qs a.0 rest b.0 back a.1 b.1 lasts ending same.left a.5 b.5 there end in
    let sum : next + length a.0 ≡ at + length used = omega (arith, ap length a.2, length-append (text_of p) a.0) in
    let all_told : told ++ lasts ≡ asked ++ found.0 = told_join told lasts asked q.asks b.1 p.asks a.1 found.0 b.3 a.3 same.asks found.1 in
    (found.0, all_told, subst (λ k. Reads all k rest found.0 ending) sum found.2)

pub pieces_are_first : LinesEnd → OneItem → PiecesAreFirst
pieces_are_first ends one all at used rest asked items ending pieces reads =
    let found = pieces_first ends one all at (at + length reads.front) pieces.0 reads.pieces.0 used rest reads.front reads.back asked reads.asked reads.last ending
    reads.split pieces.1 reads.pieces.1 refl reads.ends in
    (found.0, reads.told ∙ found.1, found.2)
