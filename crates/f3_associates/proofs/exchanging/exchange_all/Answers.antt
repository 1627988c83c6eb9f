use Rattle.std.proofs.Common.{sym, subst, ◌∙◌, ℕ}
use Rattle.f3_sites.specs.Sites.{site_of}
use Rattle.f3_associates.specs.Standing.{standing_of, room_of, HasRoom}
use Rattle.f3_associates.proofs.Exchanged.{popped, pushed, popped_room, pushed_room}
use Rattle.f3_associates.proofs.exchanging.exchange_all.Goals as goal

pub exchange-requires : goal.exchange-requires
exchange-requires c =
    subst (λ (r : ℕ × ℕ). HasRoom r (standing_of c.in-Some.new)) (sym c.loop-new.invariant.room)
    (popped_room (room_of c.args.site.now) c.loop-new.list.items c.pop.new.self.items c.in-Some.new c.in-Some.ensures.items c.loop-new.invariant.list).1

pub loop-new-preserved : goal.loop-new-preserved
loop-new-preserved c = record {
  site = popped c.loop-new.list.items c.pop.new.self.items c.in-Some.new (site_of c.loop-new.site) (site_of c.exchange.new.site) _ c.in-Some.ensures.items c.in_ok-exchange.ensures.site c.loop-new.invariant.site;
  before = pushed c.loop-new.before.items c.push.new.self.items c.in_ok-exchange.field-0 (site_of c.loop-new.site) (site_of c.exchange.new.site) _ c.in_ok-push.ensures.items c.in_ok-exchange.ensures.before c.loop-new.invariant.before;
  room = c.exchange.ensures.room ∙ c.loop-new.invariant.room;
  list = (popped_room (room_of c.args.site.now) c.loop-new.list.items c.pop.new.self.items c.in-Some.new c.in-Some.ensures.items c.loop-new.invariant.list).0;
  held = pushed_room (room_of c.args.site.now) c.loop-new.before.items c.push.new.self.items c.in_ok-exchange.field-0 c.in_ok-push.ensures.items c.loop-new.invariant.held
      (subst (λ (r : ℕ × ℕ). HasRoom r (standing_of c.in_ok-exchange.field-0)) c.loop-new.invariant.room c.in_ok-exchange.ensures.held);
}
