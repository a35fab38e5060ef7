use Rattle.std.{proofs.Common.{◌+◌, arith, ap, sym, ◌∙◌, ◌≡◌, ◌∷◌, map, drop, false, None, is_some}, specs.List.list_any, specs.Str.bytes_eq}
use Rattle.std.{specs.BTreeMap.get_by, specs.Cmp.Lexicographic.slice_cmp, specs.Ordering.nat_cmp, proofs.lemmas.List.at_drop_more}
use Rattle.std.proofs.lemmas.{Map.Text.btree_map_updates_str, Grind.common_steps}
use Rattle.json_text.specs.View.{tree_of, members_of, entry_of}
use Rattle.lnt_report.{specs.Rules.{repeated_key, repeated_in_members}, proofs.Keys.{with_key, next_member}, proofs.Lists.{item_no_deeper, member_no_deeper}}
use Rattle.lnt_report.proofs.repeated_key.+repeated.Goals as goal

pub repeated_in_list-repeated_key_in-requires : goal.repeated_in_list-repeated_key_in-requires
repeated_in_list-repeated_key_in-requires t c = grind (arith, common_steps, item_no_deeper)

pub repeated_in_object-repeated_key_in-requires : goal.repeated_in_object-repeated_key_in-requires
repeated_in_object-repeated_key_in-requires t c = grind (arith, common_steps, member_no_deeper)

pub repeated_in_object-loop-member-preserved : goal.repeated_in_object-loop-member-preserved
repeated_in_object-loop-member-preserved t c =
    let keys = c.loop-member.invariant.0 in
    let key = c.key-key.result.now in
    let item = c.member-item.result in
    let rest = drop (c.loop-member.member-index + 1) c.args.members.now in
    let new : list_any (λ k. bytes_eq k key) keys ≡ false = grind (arith, common_steps) in
    let inside : repeated_key (tree_of c.value.result.now) ≡ None = sym c.in_ok-path.ensures ∙ c.in_default.is in (
      key ∷ keys,
      (λ q. ap is_some (btree_map_updates_str key c.loop-member.before c.insert.new.self _ c.in_ok-insert.ensures.updates q)
          ∙ with_key (bytes_eq key q) tt (get_by (λ k. slice_cmp nat_cmp q k.now) c.loop-member.before) (list_any (λ k. bytes_eq k q) keys) (c.loop-member.invariant.1 q)),
      (c.loop-member.invariant.2
          ∙ at_drop_more (λ ys. repeated_in_members keys (members_of (map entry_of ys))) c.args.members.now c.loop-member.member-index item c.loop-member-test.true
          ∙ ap (λ x. repeated_in_members keys (members_of (map entry_of (x ∷ rest)))) (sym c.member-item.is)
          ∙ next_member keys (entry_of item) key (tree_of c.value.result.now) (members_of (map entry_of rest)) c.key-key.ensures c.value.ensures new inside),
    )
