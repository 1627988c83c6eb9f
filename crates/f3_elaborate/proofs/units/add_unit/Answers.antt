use Rattle.std.proofs.Common.{◌+◌, ◌≤◌, length, rules}
use Rattle.f3_tree.specs.Tree.{unit_view}
use Rattle.f3_type_rules.specs.Associates.{constructs_of_block}
use Rattle.f3_program_numbers.proofs.Ordered.{start_within}
use Rattle.f3_elaborate.proofs.units.add_unit.Goals as goal

pub members_scope-requires : goal.members_scope-requires
members_scope-requires c =
    let k : c.args.scope + 1 + length (constructs_of_block (unit_view c.args.unit.now).body) ≤ length c.args.walk.firsts.now = start_within c.args.walk.firsts.now c.args.scope (unit_view c.args.unit.now) c.requires.fit in
    search rules
