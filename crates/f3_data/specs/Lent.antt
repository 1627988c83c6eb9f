-- What is lent, as the meaning has it.
use Rattle.std.specs.Prelude.{List, [], ◌∷◌}
use Rattle.f3_meaning_whole.specs.Reference as m
use Rattle.f3_data.specs.declared.lent.Lent as l
use Rattle.f3_data.specs.References.{reference_of}

abbrev pub lent_of : l.Lent → List m.Reference
lent_of l.Nothing = []
lent_of (l.More' p object rest) = reference_of object ∷ lent_of rest
