-- Two worked scripts, read by the definitions alone: one ends inside a body, one has more bytes than are read.
use Rattle.std.proofs.Common.{◌≡◌, ◌≢◌, ℕ, zero, suc, ◌+◌, ◌*◌, ◌^◌, ◌<◌, ◌≤◌, true, not, inl, inr, List, [], ◌∷◌, ◌++◌, length, take, replicate, refl, sym, ap, subst, ◌∙◌, arith, append-nil, append_assoc, length-append, Ok}
use Rattle.std.{specs.Prelude.{◌==◌, ◌&&◌, nat_lt, slice_index, codes}, specs.Fmt.digits, specs.List.{list_all, repeat}, proofs.lemmas.Bool.cases_lt}
use Rattle.std.proofs.lemmas.{Bool.Decides.nat_tests, List.{get_or_past, length-replicate}, List.Elements.{All-nil, All-weaker, All-replicate}}
use Rattle.std.proofs.{lemmas.List.Sums.AllPass-from_list_all, lemmas.Str.IsUtf8-from_ascii, Math.Seq.take-append_seam}
use Rattle.percent_encoding.specs.Percent.{percent_decode}
use Rattle.line_text.specs.Names.{IsName}
use Rattle.request_model.specs.declared.requests.Request.TheVariants as request
use Rattle.request_words.specs.Forms.{Form, machine, commit, submit_go, body_length, IsOfForm, IsNamed, SpellsName, IsInRange, HasLength}
use Rattle.request_words.{specs.Bodies.{Item, AsksNamed}, specs.Items.{IsSkipped, formed, named}, proofs.Skipped.{skipped_formless, skipped_counts}}
use Rattle.request_reader.specs.Scripts.{line_limit, input_limit, IsLine, Piece, IsPiece, ArePieces, IsInside, cut_off, unfinished, inside, more, IsScript}
use Rattle.request_reader.proofs.{PieceLists.pieces_join, WholePieces.one_piece}

-- ---- a script that ends inside a body

-- its first line, which begins at byte 0
machine_line : List ℕ
machine_line = codes "machine m1"

-- its second line, which begins at byte 11
commit_line : List ℕ
commit_line = codes "commit m1 10 a"

-- its third line, which begins at byte 26 and counts 20 bytes
submit_line : List ℕ
submit_line = codes "submit go m1 a r1 20"

-- the script, with five bytes behind its third line
cut_script : List ℕ
cut_script = machine_line ++ 10 ∷ commit_line ++ 10 ∷ submit_line ++ 10 ∷ codes "Bench"

-- what its first line asks
abbrev machine_item : Item
machine_item = Ok (request.Machine (codes "m1"))

-- what its second line asks
abbrev commit_item : Item
commit_item = Ok (request.Commit (codes "m1") 10 (codes "a"))

-- the form of its first line
machine_form : IsOfForm machine_line (machine (codes "m1"))
unfolding machine_line
machine_form = record { words = refl; numbers = tt; amounts = tt; status = tt }

-- the form of its second line
commit_form : IsOfForm commit_line (commit (codes "m1") 10 (codes "a"))
unfolding commit_line digits
commit_form = record { words = refl; numbers = (omega arith, tt); amounts = tt; status = tt }

-- the form of its third line
submit_form : IsOfForm submit_line (submit_go (codes "m1") (codes "a") (codes "r1") 20)
unfolding submit_line digits
submit_form = record { words = refl; numbers = (omega arith, tt); amounts = tt; status = tt }

-- no byte of a word is `%` or above 127, by a test that computes
plain_byte : (word : List ℕ) → list_all (λ b. nat_lt b 128 && not (b == 37)) word ≡ true → (k : ℕ) → (slice_index word k < 128) × (slice_index word k ≢ 37)
plain_byte word test k = elim (cases_lt k (length word)) [
  | inl within ↦ plain (slice_index word k) (AllPass-from_list_all (λ b. nat_lt b 128 && not (b == 37)) word test k 0 within)
  | inr past ↦ zero_plain (slice_index word k) (get_or_past word k 0 past)
]
  where
    plain : (b : ℕ) → (nat_lt b 128 && not (b == 37)) ≡ true → (b < 128) × (b ≢ 37)
    plain b is = (grind (arith, nat_tests), grind (arith, nat_tests))

    zero_plain : (b : ℕ) → b ≡ 0 → (b < 128) × (b ≢ 37)
    zero_plain b is = (omega (arith, is), λ same. absurd (omega (arith, is, same)))

-- such a word spells itself
own_word : (word : List ℕ) → list_all (λ b. nat_lt b 128 && not (b == 37)) word ≡ true → percent_decode word ≡ word → 0 < length word → length word ≤ 256 → SpellsName word
own_word word test same some short = record {
  escapes = λ k is. absurd ((plain_byte word test k).1 is);
  decoded = refl;
  named = subst IsName (sym same) (record { text = IsUtf8-from_ascii word (λ k. (plain_byte word test k).0); some = some; short = short });
}

m1_word : SpellsName (codes "m1")
unfolding percent_decode
m1_word = own_word (codes "m1") refl refl (omega arith) (omega arith)

a_word : SpellsName (codes "a")
unfolding percent_decode
a_word = own_word (codes "a") refl refl (omega arith) (omega arith)

-- short bytes without a line feed, by a test that computes
is_line : (bytes : List ℕ) → list_all (λ b. not (b == 10)) bytes ≡ true → length bytes ≤ line_limit → IsLine bytes
is_line bytes test short =
    record { no_feed = All-weaker (λ b. not (b == 10) ≡ true) (λ b. b ≢ 10) no_feed bytes (AllPass-from_list_all (λ b. not (b == 10)) bytes test); short = short }
  where
    no_feed : (b : ℕ) → not (b == 10) ≡ true → b ≢ 10
    no_feed b is = grind (arith, nat_tests)

-- a line of a form that counts no bytes is a piece, where its words are names
whole_piece : (line : List ℕ) (form : Form) (item : Item) → IsLine line → IsOfForm line form → body_length form ≡ 0 → IsNamed form → IsInRange form
    → HasLength form → AsksNamed form [] item → ArePieces (line ++ 10 ∷ []) (item ∷ [])
whole_piece line form item is of_form none names range long asks =
    one_piece line [] (line ++ 10 ∷ []) item refl is (λ skipped. skipped_formless line skipped form of_form) (inl (form, of_form, sym none))
    (formed form of_form (named (omega (arith, none)) names range long asks))

-- its first line is a piece
machine_piece : ArePieces (machine_line ++ 10 ∷ []) (machine_item ∷ [])
unfolding machine_line percent_decode
machine_piece = whole_piece machine_line (machine (codes "m1")) machine_item (is_line machine_line refl (omega arith)) machine_form refl
    (record { names = (m1_word, tt); metric = tt }) tt tt refl

-- its second line is a piece
commit_piece : ArePieces (commit_line ++ 10 ∷ []) (commit_item ∷ [])
unfolding commit_line percent_decode
commit_piece = whole_piece commit_line (commit (codes "m1") 10 (codes "a")) commit_item (is_line commit_line refl (omega arith)) commit_form refl
    (record { names = (m1_word, (a_word, tt)); metric = tt }) tt tt refl

-- its third line has too few bytes behind it
submit_inside : IsInside (submit_line ++ 10 ∷ codes "Bench")
unfolding submit_line
submit_inside = record {
  line = submit_line;
  part = codes "Bench";
  count = 20;
  is = refl;
  whole = is_line submit_line refl (omega arith);
  counted = inl (submit_go (codes "m1") (codes "a") (codes "r1") 20, submit_form, refl);
  short = omega arith;
}

-- the script asks what its first two lines ask, and is cut off at its third
it_is_cut_off : IsScript cut_script (machine_item ∷ commit_item ∷ []) (cut_off 26)
unfolding cut_script machine_line commit_line submit_line
it_is_cut_off =
    let front : List ℕ = (machine_line ++ 10 ∷ []) ++ (commit_line ++ 10 ∷ []) in
    let pieces : ArePieces front (machine_item ∷ commit_item ∷ []) = (
      machine_piece.0 ++ commit_piece.0,
      pieces_join machine_piece.0 commit_piece.0 (machine_line ++ 10 ∷ []) (commit_line ++ 10 ∷ []) (machine_item ∷ [])
          (commit_item ∷ []) machine_piece.1 commit_piece.1,
    ) in
    inl (
      omega arith,
      record {
        front = front;
        back = submit_line ++ 10 ∷ codes "Bench";
        asked = machine_item ∷ commit_item ∷ [];
        last = [];
        split = refl;
        told = refl;
        pieces = pieces;
        ends = inside refl (inl submit_inside) refl refl;
      },
    )

-- ---- a script of more bytes than are read

-- a line of n bytes `#`, with its line feed
comment : ℕ → List ℕ
comment n = replicate n 35 ++ 10 ∷ []

-- k such lines
comments : (k n : ℕ) → List ℕ
comments k n = repeat k (comment n)

-- one has a byte more than it has `#`
comment_size : (n : ℕ) → length (comment n) ≡ n + 1
unfolding comment
comment_size n = omega (arith, length-append {A = ℕ} (replicate n 35) (10 ∷ []), length-replicate {A = ℕ} n 35)

-- and they have that many each
comments_size : (k n : ℕ) → length (comments k n) ≡ k * (n + 1)
unfolding comments
comments_size zero n = omega arith
comments_size (suc k) n =
    omega (arith, length-append (comment n) (comments k n), comment_size n, comments_size k n)

-- one more in front is one more at the end
one_more : (k n : ℕ) → comments (suc k) n ≡ comments k n ++ comment n
unfolding comments
one_more zero n = append-nil (comment n)
one_more (suc k) n = ap (λ (bs : List ℕ). comment n ++ bs) (one_more k n) ∙ sym (append_assoc (comment n) (comments k n) (comment n))

-- one as a piece that asks nothing
abbrev silent : ℕ → Piece
silent n = record { line = replicate n 35; body = []; asks = [] }

-- it is such a piece, with one `#` at least
comment_piece : (n : ℕ) → suc n ≤ line_limit → IsPiece (silent (suc n))
comment_piece n few =
    let skipped : IsSkipped (replicate (suc n) 35) = inl (replicate n 35, refl) in
    record {
      line = record {
        no_feed = All-replicate (λ b. b ≢ 10) (suc n) 35 (λ is. absurd (omega (arith, is)));
        short = omega (arith, length-replicate {A = ℕ} (suc n) 35);
      };
      counted = skipped_counts (replicate (suc n) 35) skipped;
      gives = inl (skipped, refl);
    }

-- so they are pieces one after another, which ask nothing
comment_pieces : (k n : ℕ) → suc n ≤ line_limit → ArePieces (comments k (suc n)) []
unfolding comments comment
comment_pieces zero n few = ([], (refl, refl))
comment_pieces (suc k) n few =
    let later = comment_pieces k n few in
    (silent (suc n) ∷ later.0, (comments k (suc n), [], refl, refl, comment_piece n few, later.1))

-- one more than fill the limit: those that fill it are read, and nothing is told behind them
past_limit : (k n : ℕ) → suc n ≤ line_limit → k * (suc n + 1) ≡ input_limit → IsScript (comments (suc k) (suc n)) [] unfinished
past_limit k n few full =
    let front : List ℕ = comments k (suc n) in
    let split : comments (suc k) (suc n) ≡ front ++ comment (suc n) = one_more k (suc n) in
    let size : input_limit ≡ length front = sym (comments_size k (suc n) ∙ full) in
    let taken : take input_limit (comments (suc k) (suc n)) ≡ front =
    ap (λ (bs : List ℕ). take input_limit bs) split ∙ ap (λ (m : ℕ). take m (front ++ comment (suc n))) size ∙ take-append_seam front (comment (suc n)) in
    inr (
      omega (arith, size, ap length split, length-append front (comment (suc n)), comment_size (suc n)),
      record {
        front = front;
        back = [];
        asked = [];
        last = [];
        split = taken ∙ sym (append-nil front);
        told = refl;
        pieces = comment_pieces k n few;
        ends = more refl (inr (record { no_feed = All-nil (λ b. b ≢ 10); short = omega arith })) refl refl;
      },
    )

-- 262,145 lines of 4,096 bytes have a line more than the bytes that are read
its_size : length (comments 262_145 4_095) ≡ 2 ^ 30 + 4_096
its_size = comments_size 262_145 4_095

-- they ask nothing, and it takes more bytes than are read to tell how they end
it_is_unfinished : IsScript (comments 262_145 4_095) [] unfinished
it_is_unfinished = past_limit 262_144 4_094 (omega arith) refl
