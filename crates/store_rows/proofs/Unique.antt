-- Bytes are one row at most.
use Rattle.std.proofs.Common.{◌≡◌, ℕ, List, ◌∷◌, ◌++◌, get_or, drop, arith, sym, ap, ◌∙◌}
use Rattle.percent_encoding.specs.Percent.{percent_decode}
use Rattle.line_text.specs.Names.{spelling, IsName, NamesAreSpelledBack}
use Rattle.store_rows.{specs.Rows.{machine_row, entry_row, row_text}, specs.Laws.RowsAreUnique, proofs.Spaces.one_parting}

-- names with one spelling are one
one_name : NamesAreSpelledBack → (one other : List ℕ) → IsName one → IsName other → spelling one ≡ spelling other → one ≡ other
one_name law one other a b e = sym (law one a).0.decoded ∙ ap percent_decode e ∙ (law other b).0.decoded

pub unique : NamesAreSpelledBack → RowsAreUnique
unique law bytes (machine_row one) (machine_row other) a b =
    let same : row_text (machine_row one) ≡ row_text (machine_row other) = sym a.text ∙ b.text in
    let spelt : spelling one ≡ spelling other = ap (λ (l : List ℕ). drop 8 l) same in
    ap (λ (m : List ℕ). machine_row m) (one_name law one other a.named b.named spelt)
unique law bytes (machine_row one) (entry_row other more) a b =
    let same : row_text (machine_row one) ≡ row_text (entry_row other more) = sym a.text ∙ b.text in
    let byte : ◌≡◌ {A = ℕ} 109 101 = ap (λ (l : List ℕ). get_or l 0 0) same in
    absurd (omega arith)
unique law bytes (entry_row one text) (machine_row other) a b =
    let same : row_text (entry_row one text) ≡ row_text (machine_row other) = sym a.text ∙ b.text in
    let byte : ◌≡◌ {A = ℕ} 101 109 = ap (λ (l : List ℕ). get_or l 0 0) same in
    absurd (omega arith)
unique law bytes (entry_row one text) (entry_row other more) a b =
    let same : row_text (entry_row one text) ≡ row_text (entry_row other more) = sym a.text ∙ b.text in
    let rest : spelling one ++ 32 ∷ text ≡ spelling other ++ 32 ∷ more = ap (λ (l : List ℕ). drop 6 l) same in
    let parted : (spelling one ≡ spelling other) × (text ≡ more) = one_parting (spelling one) (spelling other) text more (law one a.named).2 (law other b.named).2 rest in
    let name : one ≡ other = one_name law one other a.named b.named parted.0 in
    ap (λ (m : List ℕ). entry_row m text) name ∙ ap (λ (t : List ℕ). entry_row other t) parted.1
