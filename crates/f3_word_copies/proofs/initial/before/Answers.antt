use Rattle.std.proofs.Common.{sym, arith}
use Rattle.std.proofs.lemmas.List.{length-take-le}
use Rattle.f3_room_places.proofs.Tables.{a_table_each, those_before}
use Rattle.f3_word_copies.proofs.initial.before.Goals as goal

pub slice_bounds-result-end-2 : goal.slice_bounds-result-end-2
slice_bounds-result-end-2 c =
    let many = a_table_each c.args.types.derived.now c.args.types.tables.now c.requires.tables in
    sym (length-take-le c.args.number c.args.types.tables.now (omega arith))

pub returns-clause-tables : goal.returns-clause-tables
returns-clause-tables c = those_before c.args.types.derived.now c.args.types.tables.now c.requires.tables c.args.number
