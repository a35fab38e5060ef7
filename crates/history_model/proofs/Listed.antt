-- Lists in which each item stands once, with more items; and the series that a run makes known.
use Rattle.std.proofs.Common.{◌≡◌, ◌+◌, Bool, cond, not, ◌||◌, List, [], ◌∷◌, ◌++◌, length, map, refl, sym, ap, ◌∙◌, arith}
use Rattle.std.{specs.Prelude.{filter, flat_map}, specs.List.list_any, proofs.lemmas.List.{append-nil, append_assoc, length-append}}
use Rattle.std.proofs.lemmas.{List.Elements.filter-append, List.Folds.list_any-append, Grind.{flat_map-append, common_steps}}
use Rattle.history_model.specs.declared.{entries.Acceptance.Acceptance, entries.Entry.Entry, run.Run.Run}
use Rattle.history_model.specs.declared.entries.Entry.TheVariants as entry
use Rattle.history_model.specs.Runs.{Series, acceptance, acceptances, known_series, is_known, new_series, same_series, is_of, distinct, measured}
use Rattle.history_model.proofs.{Chosen.chosen-push, Lists.{filter-same, any-map}}

module _ {A : Type 0} (same : A → A → Bool) where
  abbrev stands : List A → A → Bool
  stands xs x = list_any (λ y. same y x) xs

  abbrev unless-there : Bool → A → List A
  unless-there there x = cond there [] (x ∷ [])

  without : (p : A → Bool) (a b : Bool) (x : A) → p x ≡ not a → filter p (unless-there b x) ≡ unless-there (a || b) x
  without p a b x is = grind (arith, common_steps)

  pub distinct-push : (xs : List A) (x : A) → distinct same (xs ++ x ∷ []) ≡ distinct same xs ++ cond (list_any (λ y. same y x) xs) [] (x ∷ [])
  distinct-push [] x = refl
  distinct-push (y ∷ xs) x = grind (arith, common_steps, distinct-push xs x)

  -- what stands in the first list already isn't listed again
  module _ (first : List A) where
    abbrev fresh : A → Bool
    fresh y = not (list_any (λ z. same z y) first)

    one-more : (ps : List A) (y : A) → distinct same (first ++ ps) ≡ distinct same first ++ filter fresh (distinct same ps)
        → distinct same (first ++ (ps ++ y ∷ [])) ≡ distinct same first ++ filter fresh (distinct same (ps ++ y ∷ []))
    one-more ps y given =
        ap (distinct same) (sym (append_assoc first ps (y ∷ [])))
        ∙ distinct-push (first ++ ps) y
        ∙ ap (λ b. distinct same (first ++ ps) ++ unless-there b y) (list_any-append (λ z. same z y) first ps)
        ∙ ap (λ zs. zs ++ unless-there (stands first y || stands ps y) y) given
        ∙ append_assoc (distinct same first) (filter fresh (distinct same ps)) (unless-there (stands first y || stands ps y) y)
        ∙ ap (λ zs. distinct same first ++ (filter fresh (distinct same ps) ++ zs)) (sym (without fresh (stands first y) (stands ps y) y refl))
        ∙ ap (λ zs. distinct same first ++ zs) (sym (filter-append fresh (distinct same ps) (unless-there (stands ps y) y)))
        ∙ ap (λ zs. distinct same first ++ filter fresh zs) (sym (distinct-push ps y))

    go : (ps ys : List A) → distinct same (first ++ ps) ≡ distinct same first ++ filter fresh (distinct same ps)
        → distinct same (first ++ (ps ++ ys)) ≡ distinct same first ++ filter fresh (distinct same (ps ++ ys))
    go ps [] given = ap (λ zs. distinct same (first ++ zs)) (append-nil ps) ∙ given ∙ ap (λ zs. distinct same first ++ filter fresh (distinct same zs)) (sym (append-nil ps))
    go ps (y ∷ ys) given =
        ap (λ zs. distinct same (first ++ zs)) (sym (append_assoc ps (y ∷ []) ys))
        ∙ go (ps ++ y ∷ []) ys (one-more ps y given)
        ∙ ap (λ zs. distinct same first ++ filter fresh (distinct same zs)) (append_assoc ps (y ∷ []) ys)

    pub distinct-more : (ys : List A) → distinct same (first ++ ys) ≡ distinct same first ++ filter (λ y. not (list_any (λ z. same z y) first)) (distinct same ys)
    distinct-more ys = go [] ys (ap (distinct same) (append-nil first) ∙ sym (append-nil (distinct same first)))

abbrev series_in : Acceptance → List Series
series_in a = map measured a.run.samples

-- a series is listed where it is known
listed : (s : Series) (runs : List Acceptance) → list_any (λ t. same_series t s) (flat_map series_in runs) ≡ list_any (λ (a : Acceptance). list_any (is_of s) a.run.samples) runs
listed s [] = refl
listed s (a ∷ runs) = grind (arith, common_steps, list_any-append, series_in, flat_map, list_any, any-map, listed s runs)

pub known-grow : (h : List Entry) (run : Run) → length (known_series (h ++ entry.Accept run ∷ [])) ≡ length (known_series h) + length (new_series h run.samples)
known-grow h run =
    let a : Acceptance = record { step = length h + 1; run = run } in
    let before : List Series = flat_map series_in (acceptances h) in
    let here : List Series = map measured run.samples in
    let more : flat_map series_in (acceptances (h ++ entry.Accept run ∷ [])) ≡ before ++ here =
    ap (flat_map series_in) (chosen-push acceptance h (entry.Accept run))
    ∙ flat_map-append series_in (acceptances h) (a ∷ [])
    ∙ ap (λ zs. before ++ zs) (append-nil here) in
    ap (λ zs. length (distinct same_series zs)) more
    ∙ ap length (distinct-more same_series before here)
    ∙ length-append (distinct same_series before) (filter (λ y. not (list_any (λ z. same_series z y) before)) (distinct same_series here))
    ∙ ap (λ zs. length (distinct same_series before) + length zs)
    (filter-same (λ y. not (list_any (λ z. same_series z y) before)) (λ s. not (is_known s h)) (distinct same_series here) (λ s. ap not (listed s (acceptances h))))
