use Rattle.f3_located.proofs.Arrays.{first_at, listed_at}
use Rattle.f3_located.proofs.elements.place_at.Goals as goal

pub returns-in-First : goal.returns-in-First
returns-in-First c = first_at _ _ _ c.in-First.is c.requires

pub returns-in-Listed : goal.returns-in-Listed
returns-in-Listed c = listed_at _ _ _ _ c.in-Listed.is c.index.ensures c.requires
