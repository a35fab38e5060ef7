use Rattle.std.proofs.lemmas.Grind.{common_steps}
use Rattle.std.{proofs.Common.{ℕ, List, ◌∷◌, refl, subst, arith, length, FitsSigned, zero-add}, specs.Int.w64, proofs.lemmas.Int.{ints, to_z-of_z}}
use Rattle.metric_table.specs.{Limits.most, declared.limits.Limit.TheVariants.RunSamples}
use Rattle.metric_value.specs.Values.{IsValueOf}
use Rattle.lnt_report.{specs.Numbers.{reading, IsMeasured}, specs.Gathering.{measurement, Leaves}, proofs.Steps.{kept_one, beyond_one, is_given, by_room}}
use Rattle.lnt_report.proofs.gather.read_number.Goals as goal

pub returns-in_ok-keep-in-Ok : goal.returns-in_ok-keep-in-Ok
returns-in_ok-keep-in-Ok c all left total more h =
    let r = reading c.args.test.now c.args.metric.now c.args.spelling.now in
    let m = measurement c.args.test.now c.args.metric.now c.in-Ok.value in
    let by_metric = subst (λ (text : List ℕ). IsValueOf c.as_bytes.result.now text c.in-Ok.value) c.as_bytes-2.ensures.value c.in-Ok.ensures.ok in
    let value : IsValueOf c.args.metric.now c.args.spelling.now c.in-Ok.value = grind (arith, common_steps) in
    let measured : IsMeasured r m = record { test = refl; metric = refl; value = value; in_range = c.in-Ok.ensures.within } in
    let fits : FitsSigned w64 c.in-Ok.value = omega (arith, ints, c.in-Ok.ensures.within) in
    let before = subst (λ (n : ℕ). Leaves all total (r ∷ left) n c.args.gathered.now) (zero-add more) h in
    let clauses = c.in_ok-keep-in-Ok.ensures in
    by_room (length c.args.gathered.now.samples) (most RunSamples)
    (λ room. kept_one all left total more r m c.args.gathered.now c.keep.new.gathered before measured (is_given c.args.metric.now c.requires) room
    (simp to_z-of_z at (clauses.room room)) (clauses.same room) clauses.ignored)
    (λ full. beyond_one all left total more r m c.args.gathered.now c.keep.new.gathered before measured full (clauses.full full) (clauses.over full) clauses.ignored)
