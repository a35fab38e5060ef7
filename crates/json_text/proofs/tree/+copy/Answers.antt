use Rattle.std.proofs.Common.{◌∙◌, map, sym, ap}
use Rattle.json_text.{specs.View.{items_of, members_of, tree_of, entry_of}, proofs.Views.{items_view-opened, members_view-opened}}
use Rattle.json_text.proofs.Parts.{items_listed, members_listed, copied_one, copied}
use Rattle.json_text.proofs.tree.+copy.Goals as goal

pub JsonList::copy-loop-item-preserved : goal.JsonList::copy-loop-item-preserved
JsonList::copy-loop-item-preserved t c =
    copied_one items_listed _ _ c.item-item.result c.in_ok-copy.field-0 _ _ c.loop-item.invariant c.loop-item-test.true c.item-item.is c.in_ok-copy.ensures c.in_ok-push.ensures.ok

pub JsonMembers::copy-loop-member-preserved : goal.JsonMembers::copy-loop-member-preserved
JsonMembers::copy-loop-member-preserved t c =
    copied_one members_listed _ _ c.member-item.result c.in_ok-copy.field-0 _ _ c.loop-member.invariant c.loop-member-test.true c.member-item.is c.in_ok-copy.ensures c.in_ok-push.ensures.ok

pub JsonList::copy-returns : goal.JsonList::copy-returns
JsonList::copy-returns t c =
    copied items_listed _ _ _ _ (items_view-opened c.args.self.now ∙ ap (λ xs. items_of (map tree_of xs)) (sym c.deref-item-items.ensures.value)) c.loop-item.invariant c.loop-item-test.false

pub JsonMembers::copy-returns : goal.JsonMembers::copy-returns
JsonMembers::copy-returns t c =
    copied members_listed _ _ _ _ (members_view-opened c.args.self.now ∙ ap (λ xs. members_of (map entry_of xs)) (sym c.deref-member-items.ensures.value)) c.loop-member.invariant c.loop-member-test.false
