use Rattle.std.proofs.Common.{◌≡◌, ◌++◌, ◌∙◌, List, map, Some, refl, ap}
use Rattle.std.specs.Prelude.{option_and_then}
use Rattle.std.proofs.lemmas.List.{map-append}
use Rattle.f3_places.specs.declared.source.Place.{Place}
use Rattle.f3_parts.specs.Pieces.{Piece, piece_of}
use Rattle.f3_parts.specs.Machine.{start, closed, run}
use Rattle.f3_parts.proofs.Reading as reading
use Rattle.f3_parts.proofs.laws.reads_parts.Goals as goal

pub returns-clause-holds : goal.returns-clause-holds
returns-clause-holds c = reading.reads

pub returns-clause-reads : goal.returns-clause-reads
returns-clause-reads c = reading.runs

abbrev somewhere : Place
somewhere = record { file = 0; line = 0; column = 0 }

pub returns-clause-goes_on : goal.returns-clause-goes_on
returns-clause-goes_on c = λ of_module ps s is.
    let more = reading.closers somewhere s in
    let w = reading.closes of_module somewhere ps s is in
    let whole : run of_module (map piece_of (ps ++ more)) start ≡ Some (closed w.0) =
    ap (λ (x : List Piece). run of_module x start) (map-append piece_of ps more)
    ∙ reading.run-append of_module (map piece_of ps) (map piece_of more) start
    ∙ ap (option_and_then (run of_module (map piece_of more))) is
    ∙ w.1 in
    (more, w.0, reading.reads of_module (ps ++ more) (closed w.0) whole refl)
