use Rattle.std.proofs.Common.{arith, ap, ◌∙◌, ◌∷◌}
use Rattle.json_text.{specs.Parts.then_member, specs.States.{frame_of, frames_of}, specs.View.members_view, proofs.Closing.{list_closed, object_closed}}
use Rattle.json_text.proofs.Stack.{frames_pop}
use Rattle.json_text.proofs.machine.close.Goals as goal

pub returns-in-93 : goal.returns-in-93
returns-in-93 c =
    let outer = frames_of c.pop.new.self.items in (
      list_closed c.args.byte _ _ outer c.in-Some-List.items _ (frames_pop _ _ _ c.in-Some-List.ensures.items ∙ ap (λ last. frame_of last ∷ outer) c.in-Some-List.field-0-is)
          c.in-93.is c.in_ok-push-in-Some-List.ensures.ok,
      omega arith,
    )

pub returns-in-125 : goal.returns-in-125
returns-in-125 c =
    let outer = frames_of c.pop.new.self.items in (
      object_closed c.args.byte _ _ outer c.in-Some-Member.members _ c.in-Some-Member.key
          (frames_pop _ _ _ c.in-Some-Member.ensures.items ∙ ap (λ last. frame_of last ∷ outer) c.in-Some-Member.field-0-is)
          c.in-125.is (c.in_ok-push-in-Some-Member.ensures.ok ∙ ap (then_member (members_view c.in-Some-Member.members)) c.new.ensures),
      omega arith,
    )
