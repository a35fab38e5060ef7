-- The pages of a machine are determined.
use Rattle.std.{proofs.lemmas.Grind.common_steps, proofs.Common.{◌≡◌, ℕ, Bool, List, [], ◌∷◌, map, length, refl, sym, ap, ◌∙◌, arith}, specs.Prelude.All}
use Rattle.std.{specs.Cmp.IsTotalOrder, proofs.lemmas.Cmp.{nat_list_cmp_total, on_total, then_total}, proofs.lemmas.List.Elements.{All-head, All-tail}}
use Rattle.segment_model.specs.Laws.{CentreIsUnique}
use Rattle.report_model.specs.declared.{items.SeriesLine.SeriesLine, items.RegressionLine.RegressionLine, items.JobLine.JobLine, pages.Pages.Pages}
use Rattle.history_model.specs.{declared.entries.Entry.Entry, Runs.Series, SeriesOrder.series_cmp}
use Rattle.track_model.{specs.Reports.{IsSeriesLine, AreSeriesLines, IsReport, series_in}, proofs.Orders.same-members}

one-line : CentreIsUnique → (h : List Entry) (x y : SeriesLine) → series_in x ≡ series_in y → IsSeriesLine h x → IsSeriesLine h y → x ≡ y
one-line unique h x y same p q = grind (arith, common_steps)

abbrev head-of : Series → List Series → Series
head-of d [] = d
head-of d (s ∷ more) = s

abbrev tail-of : List Series → List Series
tail-of [] = []
tail-of (s ∷ more) = more

-- lines of one list of series
same-lines : CentreIsUnique → (h : List Entry) (xs ys : List SeriesLine) → map series_in xs ≡ map series_in ys → All (IsSeriesLine h) xs → All (IsSeriesLine h) ys → xs ≡ ys
same-lines unique h [] [] same p q = refl
same-lines unique h [] (y ∷ ys) same p q = absurd (let no : 0 ≡ length (map series_in (y ∷ ys)) = ap length same in omega (arith, no))
same-lines unique h (x ∷ xs) [] same p q = absurd (let no : length (map series_in (x ∷ xs)) ≡ 0 = ap length same in omega (arith, no))
same-lines unique h (x ∷ xs) (y ∷ ys) same p q =
    let first = one-line unique h x y (ap (head-of (series_in x)) same) (All-head (IsSeriesLine h) x xs p) (All-head (IsSeriesLine h) y ys q) in
    let rest = same-lines unique h xs ys (ap tail-of same) (All-tail (IsSeriesLine h) x xs p) (All-tail (IsSeriesLine h) y ys q) in
    ap (λ (l : SeriesLine). l ∷ xs) first ∙ ap (λ (more : List SeriesLine). y ∷ more) rest

series-order : IsTotalOrder series_cmp
series-order = then_total (on_total (λ (s : Series). s.test) nat_list_cmp_total) (on_total (λ (s : Series). s.metric) nat_list_cmp_total)

one-series : CentreIsUnique → (h : List Entry) (xs ys : List SeriesLine) → AreSeriesLines h xs → AreSeriesLines h ys → xs ≡ ys
one-series unique h xs ys p q =
    same-lines unique h xs ys
    (same-members series-order (map series_in xs) (map series_in ys) p.ordered q.ordered (λ s has. (q.known s).0 ((p.known s).1 has)) (λ s has. (p.known s).0 ((q.known s).1 has)))
    p.each q.each

pub one-report : CentreIsUnique → (h : List Entry) (machine : List ℕ) (json : Bool) (x y : Pages) → IsReport h machine json x → IsReport h machine json y → x ≡ y
one-report unique h machine json x y p q =
    ap (λ (m : List ℕ). let r : Pages = record { machine = m; step = x.step; json = x.json; series = x.series; regressions = x.regressions; jobs = x.jobs } in r) (p.of_machine ∙ sym q.of_machine)
    ∙ ap (λ (n : ℕ). let r : Pages = record { machine = y.machine; step = n; json = x.json; series = x.series; regressions = x.regressions; jobs = x.jobs } in r) (p.at_step ∙ sym q.at_step)
    ∙ ap (λ (b : Bool). let r : Pages = record { machine = y.machine; step = y.step; json = b; series = x.series; regressions = x.regressions; jobs = x.jobs } in r) (p.form ∙ sym q.form)
    ∙ ap (λ (l : List SeriesLine). let r : Pages = record { machine = y.machine; step = y.step; json = y.json; series = l; regressions = x.regressions; jobs = x.jobs } in r) (one-series unique h x.series y.series p.of_series q.of_series)
    ∙ ap (λ (l : List RegressionLine). let r : Pages = record { machine = y.machine; step = y.step; json = y.json; series = y.series; regressions = l; jobs = x.jobs } in r) (p.of_regressions ∙ sym q.of_regressions)
    ∙ ap (λ (l : List JobLine). let r : Pages = record { machine = y.machine; step = y.step; json = y.json; series = y.series; regressions = y.regressions; jobs = l } in r) (p.of_jobs ∙ sym q.of_jobs)
