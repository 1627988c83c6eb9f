use Rattle.std.proofs.Common.{refl, map}
use Rattle.f3_sites.specs.Sites.{site_of}
use Rattle.f3_associates.specs.Standing.{standing_of, in_scope, room_of}
use Rattle.f3_associates.proofs.Inside.{inside_of, room_known}
use Rattle.f3_associates.proofs.entering.enter.Goals as goal

pub exchange_all-requires : goal.exchange_all-requires
exchange_all-requires c =
    room_known c.args.site.now (room_of c.args.site.now) (site_of c.args.site.now).chain c.args.names.now (map standing_of c.in_ok-list.list.items) refl c.in_ok-list.ensures c.requires

pub returns-clause-inside : goal.returns-clause-inside
returns-clause-inside c = λ xs e.
    inside_of (site_of c.args.site.now).chain c.args.names.now (map standing_of c.in_ok-list.list.items) (in_scope c.args.number (site_of c.args.site.now)) (site_of c.args.site.now)
    (site_of c.exchange_all.new.site) c.args.number xs refl refl c.in_ok-list.ensures c.in_ok-standing.ensures.site e
