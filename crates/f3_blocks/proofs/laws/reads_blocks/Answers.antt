use Rattle.std.proofs.Common.{◌≡◌, ◌++◌, ◌∙◌, List, [], map, Some, refl, ap}
use Rattle.std.specs.Prelude.{option_and_then}
use Rattle.std.proofs.lemmas.List.{map-append}
use Rattle.f3_places.specs.declared.source.Place.{Place}
use Rattle.f3_tree.specs.Statements.{block_of}
use Rattle.f3_blocks.specs.Pieces.{Piece, piece_of}
use Rattle.f3_blocks.specs.Machine.{start, run}
use Rattle.f3_blocks.proofs.Nesting as nesting
use Rattle.f3_blocks.proofs.laws.reads_blocks.Goals as goal

pub returns-clause-holds : goal.returns-clause-holds
returns-clause-holds c = nesting.reads

pub returns-clause-reads : goal.returns-clause-reads
returns-clause-reads c = λ procedure b ps h. (nesting.at [] (nesting.list_of b), nesting.runs procedure b ps h, refl, nesting.block_list b)

abbrev somewhere : Place
somewhere = record { file = 0; line = 0; column = 0 }

pub returns-clause-goes_on : goal.returns-clause-goes_on
returns-clause-goes_on c = λ procedure ps s is.
    let more = nesting.closers somewhere s.opens in
    let w = nesting.closes procedure somewhere s.opens s.body in
    let whole : run procedure (map piece_of (ps ++ more)) start ≡ Some (nesting.at [] w.0) =
    ap (λ (x : List Piece). run procedure x start) (map-append piece_of ps more)
    ∙ nesting.run-append procedure (map piece_of ps) (map piece_of more) start
    ∙ ap (option_and_then (run procedure (map piece_of more))) is
    ∙ w.1 in
    (more, block_of w.0, nesting.reads procedure (ps ++ more) (nesting.at [] w.0) whole refl)
