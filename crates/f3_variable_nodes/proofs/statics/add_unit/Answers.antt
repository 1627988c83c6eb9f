use Rattle.std.proofs.Common.{◌≤◌, length, rules}
use Rattle.f3_tree.specs.Tree.{unit_view}
use Rattle.f3_natures.specs.Walk.{unit_start}
use Rattle.f3_variable_nodes.proofs.Fitting.{unit_starts}
use Rattle.f3_variable_nodes.proofs.statics.add_unit.Goals as goal

pub members_scope-requires : goal.members_scope-requires
members_scope-requires c =
    let k : unit_start c.args.scope (unit_view c.args.unit.now) ≤ length c.args.firsts.now = unit_starts c.args.firsts.now _ c.args.scope (unit_view c.args.unit.now) c.requires in
    search rules
