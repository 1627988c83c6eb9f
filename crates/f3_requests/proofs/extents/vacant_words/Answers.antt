use Rattle.std.proofs.Common.{◌<◌, arith}
use Rattle.f3_requests.proofs.Wording.{vacant_is}
use Rattle.f3_requests.proofs.extents.vacant_words.Goals as goal

pub returns : goal.returns
returns c = λ ss v n e.
    let more : 0 < c.args.rank = omega arith in
    cc (vacant_is c.args.rank c.args.n c.args.element ss v more n e)
