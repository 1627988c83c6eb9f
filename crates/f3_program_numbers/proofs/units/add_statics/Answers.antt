use Rattle.std.proofs.Common.{◌+◌, ◌≤◌, length, rules}
use Rattle.f3_tree.specs.Tree.{unit_view}
use Rattle.f3_type_rules.specs.Associates.{constructs_of_block}
use Rattle.f3_program_numbers.proofs.Ordered.{on_ok, start_within, statics_made}
use Rattle.f3_program_numbers.proofs.units.add_statics.Goals as goal

pub members_scope-requires : goal.members_scope-requires
members_scope-requires c =
    let k : c.args.scope + 1 + length (constructs_of_block (unit_view c.args.unit.now).body) ≤ length c.args.firsts.now = start_within c.args.firsts.now c.args.scope (unit_view c.args.unit.now) c.requires in
    search rules

pub returns : goal.returns
returns c =
    on_ok c.add_members.result
    (λ h scopes are. statics_made scopes c.args.firsts.now c.args.scope c.args.unit.now c.args.found.now.items c.add_names.new.found.items c.add_members.new.found.items c.keeps_all.result
    c.in_ok-start.start c.deref.result.now c.deref-2.result.now c.requires are c.keeps_all.ensures c.deref.ensures.value c.in_ok-start.ensures c.deref-2.ensures.value
    c.in_ok-add_names.ensures (λ e. h scopes e are))
    c.add_members.ensures
