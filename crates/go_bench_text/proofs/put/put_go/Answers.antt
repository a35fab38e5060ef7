use Rattle.std.proofs.Common.{◌≡◌, ◌<◌, ◌+◌, ◌∷◌, ◌++◌, [], ℕ, List, length, take, get_or, ap, sym, ◌∙◌, subst, below_more}
use Rattle.std.proofs.lemmas.List.{get_or_read, take_more}
use Rattle.sample_model.specs.Samples.{Measurement}
use Rattle.go_bench_text.{specs.Spellings.{HasSpelling, AreSpelled, nowhere}, proofs.Spelled.{spelled_more, all_spelled}, proofs.ReadBack.spelled_read}
use Rattle.go_bench_text.proofs.put.put_go.Goals as goal

pub loop-place-preserved : goal.loop-place-preserved
loop-place-preserved c =
    let less : c.loop-place.place < length c.as_slice-sample-items.result.now = c.loop-place-test.true in
    let is : c.sample-item.result ≡ get_or c.as_slice-sample-items.result.now c.loop-place.place nowhere = get_or_read c.as_slice-sample-items.result.now c.loop-place.place c.sample-item.result less c.sample-item.is nowhere in
    let longer : take (c.loop-place.place + 1) c.as_slice-sample-items.result.now ≡ take c.loop-place.place c.as_slice-sample-items.result.now ++ c.sample-item.result ∷ [] =
    take_more c.as_slice-sample-items.result.now c.loop-place.place nowhere less ∙ ap (λ (s : Measurement). take c.loop-place.place c.as_slice-sample-items.result.now ++ s ∷ []) (sym is) in
    let put = c.in-Ok.ensures in
    let here : HasSpelling c.sample-item.result = record { pkg = c.in-Some.pkg.now; name = c.in-Some.name.now; written = c.in-Some.ensures.some; unit = c.in-Some.ensures.unit } in
    record {
      spelled = subst (λ (done : List Measurement). AreSpelled done c.put_sample.new.out.items) (sym longer) (subst (AreSpelled (take c.loop-place.place c.as_slice-sample-items.result.now ++ c.sample-item.result ∷ [])) (sym put.2) (spelled_more (take c.loop-place.place c.as_slice-sample-items.result.now) c.sample-item.result c.loop-place.out.items put.0 c.loop-place.invariant.spelled put.1));
      written = below_more (λ (k : ℕ). HasSpelling (get_or c.as_slice-sample-items.result.now k nowhere)) c.loop-place.place c.loop-place.invariant.written (subst HasSpelling is here);
    }

pub returns-clause-back : goal.returns-clause-back
returns-clause-back c =
    spelled_read c.args.samples.now c.loop-place.out.items c.limits.ensures.each c.value_law.ensures.back
    (all_spelled c.args.samples.now c.as_slice-sample-items.result.now c.loop-place.out.items c.loop-place.place c.as_slice-sample-items.ensures c.loop-place-test.false c.loop-place.invariant.spelled)
