use Rattle.std.{proofs.Common.{rules, map, Ok, Err, refl}, specs.List.{flat_map, sum_by}}
use Rattle.json_text.specs.View.{tree_of}
use Rattle.lnt_report.{specs.Numbers.item_readings, proofs.Walks.{walked_none, gathers_each, refused_each, gathers_all, gathers_same, no_count}}
use Rattle.lnt_report.proofs.gather.read_items.Goals as goal

pub loop-item-init : goal.loop-item-init
loop-item-init c = walked_none (item_readings c.args.test.now c.args.metric.now) (λ _. 0) tree_of c.args.items.now c.args.gathered.now

pub loop-item-preserved : goal.loop-item-preserved
loop-item-preserved c = gathers_each (item_readings c.args.test.now c.args.metric.now) (λ _. 0) tree_of c.args.items.now c.loop-item.item-index c.item-item.result
    c.args.gathered.now c.loop-item.gathered c.read_item.new.gathered
    c.loop-item-test.true c.item-item.is c.loop-item.invariant c.in_ok-read_item.ensures

pub returns-in_err-read_item : goal.returns-in_err-read_item
returns-in_err-read_item c all left total more h =
    let numbers = flat_map (item_readings c.args.test.now c.args.metric.now) (map tree_of c.args.items.now) in
    let counted = sum_by (λ _. 0) (map tree_of c.args.items.now) in
    let refusal = gathers_same numbers numbers counted 0 c.args.gathered.now c.read_item.new.gathered (Err c.in_err-read_item.field-0.0) refl (no_count (map tree_of c.args.items.now))
    (refused_each (item_readings c.args.test.now c.args.metric.now) (λ _. 0) tree_of c.args.items.now c.loop-item.item-index c.item-item.result
    c.args.gathered.now c.loop-item.gathered c.read_item.new.gathered
    c.in_err-read_item.field-0.0 c.loop-item-test.true c.item-item.is c.loop-item.invariant c.in_err-read_item.ensures) all left total more h in
    search (rules, refusal)

pub returns : goal.returns
returns c =
    let numbers = flat_map (item_readings c.args.test.now c.args.metric.now) (map tree_of c.args.items.now) in
    let counted = sum_by (λ _. 0) (map tree_of c.args.items.now) in
    gathers_same numbers numbers counted 0 c.args.gathered.now c.loop-item.gathered (Ok tt) refl (no_count (map tree_of c.args.items.now))
    (gathers_all (item_readings c.args.test.now c.args.metric.now) (λ _. 0) tree_of c.args.items.now c.loop-item.item-index
    c.args.gathered.now c.loop-item.gathered c.loop-item-test.false c.loop-item.invariant)
