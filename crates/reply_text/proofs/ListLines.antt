-- The lines of a list, one after another.
use Rattle.std.proofs.Common.{◌≡◌, ℕ, ◌+◌, ◌<◌, ◌≤◌, List, [], ◌∷◌, ◌++◌, map, length, get_or, take, sym, ap, ◌∙◌, append_assoc, append-nil}
use Rattle.std.{specs.List.flat_map, proofs.lemmas.List.{map-append, take_more, take_all}, proofs.lemmas.Grind.flat_map-append}
use Rattle.request_model.specs.Lines.{line_of}

abbrev pub lines : {A : Type 0} → (A → List (List ℕ)) → List A → List ℕ
lines words items = flat_map line_of (map words items)

pub lines_step : {A : Type 0} (words : A → List (List ℕ)) (start before behind : List ℕ) (items : List A) (i : ℕ) (item : A) → i < length items → item ≡ get_or items i item
    → behind ≡ before ++ line_of (words item) → before ≡ start ++ lines words (take i items) → behind ≡ start ++ lines words (take (i + 1) items)
lines_step {A} words start before behind items i item within is put so_far =
    let one_more : lines words (take (i + 1) items) ≡ lines words (take i items) ++ line_of (words item) =
    ap (lines words) (take_more items i item within ∙ ap (λ (x : A). take i items ++ x ∷ []) (sym is))
    ∙ ap (flat_map line_of) (map-append words (take i items) (item ∷ []))
    ∙ flat_map-append line_of (map words (take i items)) (words item ∷ [])
    ∙ ap (λ (text : List ℕ). lines words (take i items) ++ text) (append-nil (line_of (words item))) in
    put ∙ ap (λ (text : List ℕ). text ++ line_of (words item)) so_far ∙ append_assoc start (lines words (take i items)) (line_of (words item)) ∙ ap (λ (text : List ℕ). start ++ text) (sym one_more)

pub lines_end : {A : Type 0} (words : A → List (List ℕ)) (start out : List ℕ) (items : List A) (i : ℕ) → length items ≤ i → out ≡ start ++ lines words (take i items) → out ≡ start ++ lines words items
lines_end words start out items i over so_far = so_far ∙ ap (λ xs. start ++ lines words xs) (take_all i items over)
