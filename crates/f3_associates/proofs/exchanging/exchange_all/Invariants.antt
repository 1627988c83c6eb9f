use Rattle.std.proofs.Common.{◌≡◌, map, vec_len}
use Rattle.f3_sites.specs.Sites.{site_of}
use Rattle.f3_associates.specs.Standing.{standing_of, put_all, room_of, HaveRoom}
use Rattle.f3_associates.proofs.exchanging.exchange_all.Given as goal

abbrev pub invariant-loop-new : goal.invariant-loop-new
invariant-loop-new l = record {
  site : put_all (map standing_of l.list.items) (site_of l.site) ≡ put_all (map standing_of l.fn.list.items) (site_of l.fn.site);
  before : put_all (map standing_of l.before.items) (site_of l.site) ≡ site_of l.fn.site;
  room : room_of l.site ≡ room_of l.fn.site;
  list : HaveRoom (room_of l.fn.site) (map standing_of l.list.items);
  held : HaveRoom (room_of l.fn.site) (map standing_of l.before.items);
}

abbrev pub decreases-loop-new : goal.decreases-loop-new
decreases-loop-new l = vec_len l.list
