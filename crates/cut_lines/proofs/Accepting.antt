-- One line more that is accepted, or is the first that is refused.
use Rattle.std.proofs.Common.{◌≡◌, ℕ, ℤ, ◌+◌, inl, inr, List, [], ◌∷◌, ◌++◌, length, refl, sym, ap, subst, ◌∙◌, arith, append-nil, add-zero}
use Rattle.std.proofs.lemmas.List.{append_assoc}
use Rattle.line_text.{specs.Lines.lines_of, proofs.Parts.{first_part, goes_on}}
use Rattle.cut_lines.specs.{Lines.{CutLine, IsSkipped, IsCutLine, AreCutLines}, Points.FitsWithin}
use Rattle.line_pieces.{specs.declared.stop.Refusal.Refusal, proofs.Lines.is_feed}
use Rattle.cut_lines.specs.Reading.{AreAcceptedWithin, IsFirstRefusedWithin, BreaksWithin, with_line}

-- ---- the cut lines of one line more

skipped-append : (n : ℕ) (lines : List (List ℕ)) (cuts : List CutLine) (line : List ℕ) → AreCutLines n lines cuts → IsSkipped line
    → AreCutLines n (lines ++ line ∷ []) cuts
skipped-append n [] cuts line are skipped = inl (skipped, are)
skipped-append n (first ∷ lines) cuts line (inl (is, are)) skipped = inl (is, skipped-append (n + 1) lines cuts line are skipped)
skipped-append n (first ∷ lines) cuts line (inr (cut, rest, split, number, is, are)) skipped =
    inr (cut, rest, split, number, is, skipped-append (n + 1) lines rest line are skipped)

cut-append : (n : ℕ) (lines : List (List ℕ)) (cuts : List CutLine) (line : List ℕ) (cut : CutLine) → AreCutLines n lines cuts
    → cut.number ≡ n + length lines → IsCutLine line cut.order cut.value → AreCutLines n (lines ++ line ∷ []) (cuts ++ cut ∷ [])
cut-append n [] cuts line cut are number is =
    inr (cut, [], ap (λ (cs : List CutLine). cs ++ cut ∷ []) are, number ∙ add-zero n, is, refl)
cut-append n (first ∷ lines) cuts line cut (inl (skipped, are)) number is =
    inl (skipped, cut-append (n + 1) lines cuts line cut are (omega arith) is)
cut-append n (first ∷ lines) cuts line cut (inr (other, rest, split, own, its, are)) number is =
    inr (other, rest ++ cut ∷ [], ap (λ (cs : List CutLine). cs ++ cut ∷ []) split, own, its, cut-append (n + 1) lines rest line cut are (omega arith) is)

pub accepts_skipped : (most : ℕ) (lines : List (List ℕ)) (cuts : List CutLine) (line : List ℕ) → AreAcceptedWithin most lines cuts → IsSkipped line → AreAcceptedWithin most (lines ++ line ∷ []) cuts
accepts_skipped most lines cuts line are skipped = record {
  read = skipped-append 1 lines cuts line are.read skipped;
  fits = are.fits;
}

pub accepts_cut : (most : ℕ) (lines : List (List ℕ)) (cuts : List CutLine) (line : List ℕ) (number order : ℕ) (value : ℤ) → AreAcceptedWithin most lines cuts
    → number ≡ length lines + 1 → IsCutLine line order value → FitsWithin most (with_line cuts number order value)
    → AreAcceptedWithin most (lines ++ line ∷ []) (with_line cuts number order value)
accepts_cut most lines cuts line number order value are is cut fits = record {
  read = cut-append 1 lines cuts line (record { number = number; order = order; value = value }) are.read (omega arith) cut;
  fits = fits;
}

-- ---- the lines of bytes that go on

pub first_refused : (most : ℕ) (why : Refusal) (bytes : List ℕ) (lines : List (List ℕ)) (rest : List ℕ) (cuts : List CutLine) (number : ℕ) (next : List ℕ)
    → lines_of bytes ≡ lines ++ rest ∷ [] → AreAcceptedWithin most lines cuts → number ≡ length lines + 1
    → ((first : List ℕ) → BreaksWithin most why cuts number (rest ++ first)) → IsFirstRefusedWithin most why (lines_of (bytes ++ next)) number
first_refused most why bytes lines rest cuts number next split are is refused =
    let part = first_part is_feed next in
    record {
      before = lines;
      line = rest ++ part.first;
      behind = part.behind;
      cuts = cuts;
      split = goes_on is_feed bytes next lines rest part.first part.behind split part.is;
      number = is;
      accepted = are;
      refused = refused part.first;
    }

-- the line is refused as it stands: at the end, or where a line feed comes
pub ended_refused : (most : ℕ) (why : Refusal) (bytes : List ℕ) (lines : List (List ℕ)) (rest : List ℕ) (cuts : List CutLine) (number : ℕ)
    → lines_of bytes ≡ lines ++ rest ∷ [] → AreAcceptedWithin most lines cuts → number ≡ length lines + 1 → BreaksWithin most why cuts number rest
    → IsFirstRefusedWithin most why (lines_of bytes) number × ((more : List ℕ) → IsFirstRefusedWithin most why (lines_of ((bytes ++ 10 ∷ []) ++ more)) number)
ended_refused most why bytes lines rest cuts number split are is refused = (
  record { before = lines; line = rest; behind = []; cuts = cuts; split = split; number = is; accepted = are; refused = refused },
  λ more. record {
    before = lines;
    line = rest ++ [];
    behind = lines_of more;
    cuts = cuts;
    split =
        ap lines_of (append_assoc bytes (10 ∷ []) more) ∙ goes_on is_feed bytes (10 ∷ more) lines rest [] (lines_of more) split refl;
    number = is;
    accepted = are;
    refused = subst (BreaksWithin most why cuts number) (sym (append-nil rest)) refused;
  },
)
