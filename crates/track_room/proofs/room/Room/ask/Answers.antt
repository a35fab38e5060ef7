use Rattle.std.{proofs.Common.{◌≡◌, ℕ, List, map, set, sym, ap, subst, ◌∙◌, Some, arith}, specs.Prelude.slice_get, proofs.lemmas.Grind.common_steps}
use Rattle.request_model.specs.declared.{replies.Reply.Reply, requests.Request.Request}
use Rattle.track_room.specs.{Asked.{Asks, IsReplied}, Rooms.{IsPassOf, badge}, Sights.{Home, Sight}}
use Rattle.track_room.proofs.{Standing.{asked-badge, asks-at, at-get, at-place, same-map, sees-at, still-first}, Visiting.{if-ok, on-err}}
use Rattle.track_room.proofs.room.Room.ask.Goals as goal

pub returns : goal.returns
returns g c =
    let q : Request = c.args.request.now in
    let room : List Home = c.args.self.now in
    let xs : List Sight = c.pass.inside.machines.items in
    let i : ℕ = c.in-Some.i in
    let new : Sight = c.ask.new.pass in
    let p : Sight = c.index_mut.result.now in
    let named = c.in-Some.ensures.some in
    let is : IsPassOf room xs = ap (λ (ss : List Sight). map (λ (s : Sight). s.home) ss) c.pass.view_is ∙ c.requires.room in
    let stands : slice_get room i ≡ Some named.0 = subst (λ (hs : List Home). slice_get hs i ≡ Some named.0) (c.deref.ensures.value ∙ c.self.view_is) named.1 in
    let there = at-place room xs i named.0 is stands in
    let here : p ≡ there.0 = c.index_mut.ensures.value ∙ at-get xs i there.0 p there.1 in
    let at : slice_get xs i ≡ Some p = there.1 ∙ ap Some (sym here) in
    let same : badge new ≡ badge p = asked-badge c.args.author q c.ask.result p new c.ask.ensures.ok c.ask.ensures.err in
    record {
      room = same-map (λ (s : Sight). s.home) xs i p new at (ap (λ (s : Sight). s.home) same) ∙ is;
      same = grind (arith, common_steps, same-map, xs, i, p, new, same, map, still-first, c.pass.view_is);
      ok = if-ok (λ (reply : Reply). IsReplied c.args.author q reply p new) (λ (reply : Reply). Asks room c.args.author q reply c.args.pass.now (set xs i new)) c.ask.result
          (λ reply is. subst (λ (ss : List Sight). Asks room c.args.author q reply ss (set xs i new)) c.pass.view_is
          (asks-at room xs c.args.author q reply i named.0 p new c.in_default.not-Machine stands (named.2 ∙ c.machine.ensures) at is)) c.ask.ensures.ok;
      err = grind (arith, common_steps, on-err, p, new, set, xs, i, sees-at, c.pass.view_is, c.ask.ensures.err);
    }
