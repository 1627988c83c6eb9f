use Rattle.std.proofs.Common.{rules, ◌≡◌, ◌∙◌, ◌+◌, ◌-◌, ◌++◌, [], ◌∷◌, List, length, take, drop, refl, ap, subst, arith}
use Rattle.std.proofs.lemmas.List.{length-append}
use Rattle.f3_program.specs.declared.program.Dummy.{Dummy}
use Rattle.f3_word_cells.specs.declared.cell.Cell.{Cell}
use Rattle.f3_word_cells.specs.States.{cells_blocks}
use Rattle.f3_word_entries.specs.Names.{AreNamed}
use Rattle.f3_word_entries.specs.Ranked.{AreRanked}
use Rattle.f3_word_entries.proofs.Cutting.{blocks_few, caller_is, here_is, cut_left, cut_many, cut_split, rest_is, many_more, two_more}
use Rattle.f3_word_entries.proofs.entering.enter.Goals as goal

pub push-requires-3 : goal.push-requires-3
push-requires-3 c =
    let xs : List Cell = c.args.state.now.cells.items.items in
    let first = c.len.result - c.args.count in
    let few = blocks_few (drop first xs) in
    let held = ap length (c.hold.ensures.blocks ∙ ap (λ cs. c.args.state.now.blocks.items.items ++ cells_blocks cs) (rest_is first xs c.deref-3.result.now c.deref-3.ensures.value))
    ∙ length-append c.args.state.now.blocks.items.items (cells_blocks (drop first xs)) in
    let many = cut_many xs c.len.result c.args.count (search rules) c.requires.arguments in
    let enough = c.requires.blocks in
    let room = c.hold.ensures.room in
    omega (arith, few, held, many, enough, room)

pub returns-clause-entered : goal.returns-clause-entered
returns-clause-entered c =
    let xs : List Cell = c.args.state.now.cells.items.items in
    let first = c.len.result - c.args.count in
    let blocks : c.hold.new.blocks.items.items ≡ c.args.state.now.blocks.items.items ++ cells_blocks (drop first xs) =
    c.hold.ensures.blocks ∙ ap (λ cs. c.args.state.now.blocks.items.items ++ cells_blocks cs) (rest_is first xs c.deref-3.result.now c.deref-3.ensures.value) in
    let start : c.len-4.result ≡ length c.args.state.now.blocks.items.items = search rules in
    let held : c.len-5.result ≡ length c.hold.new.blocks.items.items = search rules in
    let behind : c.len-5.result ≡ length c.args.state.now.blocks.items.items + length (cells_blocks (drop first xs)) =
    held ∙ ap length blocks ∙ length-append c.args.state.now.blocks.items.items (cells_blocks (drop first xs)) in
    let level : c.len-level.result ≡ length c.args.state.now.levels.items.items = search rules in
    let from : c.len-2.result ≡ length c.args.state.now.names.items.items = search rules in
    let many : c.len-3.result ≡ length c.args.goal.procedure.now.dummies.items = search rules in
    record {
      left = take first xs;
      arguments = drop first xs;
      split = cut_split first xs;
      many = cut_many xs c.len.result c.args.count (search rules) c.requires.arguments;
      ranked = subst AreRanked (rest_is first xs c.deref-3.result.now c.deref-3.ensures.value) c.hold.ensures.ranked;
      cells = c.cut.ensures.items;
      added = c.name_all.ensures.names.0;
      names = c.name_all.ensures.names.1;
      named = subst (λ (ds : List Dummy). AreNamed (drop first xs) 0 ds c.name_all.ensures.names.0) c.deref-2.ensures.value
          (subst (λ (cs : List Cell). AreNamed cs 0 c.deref-2.result.now c.name_all.ensures.names.0) (rest_is first xs c.deref.result.now c.deref.ensures.value) c.name_all.ensures.names.2);
      blocks = many_more c.args.state.now.blocks.items.items (cells_blocks (drop first xs)) c.hold.new.blocks.items.items c.push-3.new.self.items.items c.args.block
          blocks c.push-3.ensures.items;
      levels = two_more c.args.state.now.levels.items.items c.push.new.self.items.items c.push-2.new.self.items.items (length c.args.state.now.blocks.items.items)
          (length c.args.state.now.blocks.items.items + length (cells_blocks (drop first xs)))
          (c.push.ensures.items ∙ ap (λ n. c.args.state.now.levels.items.items ++ n ∷ []) start)
          (c.push-2.ensures.items ∙ ap (λ n. c.push.new.self.items.items ++ n ∷ []) behind);
      callers = caller_is c.args.state.now.callers.items.items c.push-4.new.self.items.items (c.args.state.now.pc + 1) c.args.state.now.base c.len-level.result
          (length c.args.state.now.levels.items.items) c.len-2.result (length c.args.state.now.names.items.items) c.len-3.result (length c.args.goal.procedure.now.dummies.items)
          c.args.goal.place c.args.state.now.here level from many c.push-4.ensures.items;
      base = cut_left xs c.len.result c.args.count (search rules) c.requires.arguments;
      here = here_is c.args.goal.place c.args.goal.procedure.now.unit c.args.goal.number c.len-level.result (length c.args.state.now.levels.items.items) c.len-2.result
          (length c.args.state.now.names.items.items) c.len-3.result (length c.args.goal.procedure.now.dummies.items) level from many;
      pc = refl;
      statics = refl;
    }
