-- What sources spell, and breaks no rule, makes sense.
use Rattle.f3_formed_laws.proofs.Whole.{well_formed}
use Rattle.f3_kind_laws.proofs.Whole.{agree}
use Rattle.f3_spelled_laws.proofs.Units.{bodies}
use Rattle.f3_levelled_laws.specs.Laws.{SpelledMakesSense}
use Rattle.f3_levelled_laws.proofs.Initials.{written}
use Rattle.f3_levelled_laws.proofs.Units.{levelled}

pub makes_sense : SpelledMakesSense
makes_sense sources t look order p spelled free is =
    well_formed t look order p (bodies sources t spelled free.scopes) (levelled sources t spelled) free.means is.seen
    (agree p t look order (written sources t spelled) free is) free.types
