-- Lines that go on, and refused ones.
use Rattle.std.proofs.Common.{◌≡◌, ◌≢◌, ℕ, List, [], ◌∷◌, ◌++◌, Bool, false, eqb, ne_eqb, refl, sym, ap, ◌∙◌, append-nil, append_assoc}
use Rattle.std.proofs.lemmas.List.{Elements.All-weaker, Splits.slice_split_none}
use Rattle.line_text.{specs.Lines.lines_of, proofs.Parts.goes_on}
use Rattle.line_pieces.specs.{declared.stop.Refusal.Refusal, declared.stop.Stop.Stop, declared.stop.Stop.TheVariants.Refused, Pieces.{HasNoLineFeed, OnRefused}}

abbrev pub is_feed : ℕ → Bool
is_feed b = eqb b 10

pub one_part : (part : List ℕ) → HasNoLineFeed part → lines_of part ≡ part ∷ []
one_part part none = slice_split_none is_feed part (All-weaker (λ b. b ≢ 10) (λ b. is_feed b ≡ false) (λ b other. ne_eqb b 10 other) part none)

-- a line feed begins a line
pub ended : (bytes : List ℕ) (lines : List (List ℕ)) (rest : List ℕ) → lines_of bytes ≡ lines ++ rest ∷ [] → lines_of (bytes ++ 10 ∷ []) ≡ (lines ++ rest ∷ []) ++ [] ∷ []
ended bytes lines rest split =
    goes_on is_feed bytes (10 ∷ []) lines rest [] ([] ∷ []) split refl
    ∙ ap (λ line. lines ++ line ∷ [] ∷ []) (append-nil rest)
    ∙ sym (append_assoc lines (rest ∷ []) ([] ∷ []))

-- what follows for each refused line follows for the stop
pub on_refused-weaker : (P Q : Refusal → ℕ → Type 0) (stop : Stop) → ((why : Refusal) (k : ℕ) → P why k → Q why k) → OnRefused P stop → OnRefused Q stop
on_refused-weaker P Q (Refused why k) all holds = all why k holds
on_refused-weaker P Q stop all holds = holds
