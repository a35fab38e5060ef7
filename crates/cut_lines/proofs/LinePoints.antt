-- The points of one line more, and of fewer lines.
use Rattle.std.proofs.Common.{◌≡◌, ℕ, ◌+◌, ◌≤◌, inl, List, [], ◌∷◌, ◌++◌, length, map, sym, ap, subst, ◌∙◌, arith}
use Rattle.std.proofs.lemmas.List.{map-append, length-map, length-append}
use Rattle.segment_model.{specs.Segments.values_of, specs.Brought.{Brought, rising, position_at, positions_of}, proofs.Rising.{IsIn, append-in, rising-fewer}}
use Rattle.segment_model.proofs.{Insertions.positions-push, Inserted.values-brought}
use Rattle.cut_lines.specs.{Lines.CutLine, Points.{brought_by, points_of, FitsWithin}, Adding.with_value_of}

-- a line more puts its value into the points
pub points-push : (cuts : List CutLine) (cut : CutLine) → points_of (cuts ++ cut ∷ []) ≡ with_value_of (points_of cuts) cut.number cut.order cut.value
points-push cuts cut =
    ap positions_of (map-append brought_by cuts (cut ∷ [])) ∙ positions-push (map brought_by cuts) (brought_by cut)

-- the points have a value for each line
pub values-counted : (cuts : List CutLine) → length (values_of (points_of cuts)) ≡ length cuts
values-counted cuts = values-brought (map brought_by cuts) ∙ length-map cuts brought_by

abbrev commits_brought : List CutLine → List ℕ
commits_brought cuts = map (λ (x : Brought). x.commit) (map brought_by cuts)

positions-counted : (cuts : List CutLine) → length (points_of cuts) ≡ length (rising (commits_brought cuts))
positions-counted cuts = length-map (rising (commits_brought cuts)) (position_at (map brought_by cuts))

-- fewer lines pass no limit that more lines keep
pub fits_front : (most : ℕ) (front back : List CutLine) → FitsWithin most (front ++ back) → FitsWithin most front
fits_front most front back fits =
    let count : length (front ++ back) ≡ length front + length back = length-append front back in
    let commits : commits_brought (front ++ back) ≡ commits_brought front ++ commits_brought back =
    ap (map (λ (x : Brought). x.commit)) (map-append brought_by front back) ∙ map-append (λ (x : Brought). x.commit) (map brought_by front) (map brought_by back) in
    let fewer : length (rising (commits_brought front)) ≤ length (rising (commits_brought (front ++ back))) =
    rising-fewer (commits_brought front) (commits_brought (front ++ back))
    (λ c is_in. subst (IsIn c) (sym commits) (append-in c (commits_brought front) (commits_brought back) (inl is_in))) in
    let values = fits.few_values in
    let positions = fits.few_positions in
    let of_all = positions-counted (front ++ back) in
    let of_front = positions-counted front in
    record { few_values = omega arith; few_positions = omega arith }
