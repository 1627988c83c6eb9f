use Rattle.std.proofs.Common.{rules, refl, arith, map}
use Rattle.std.specs.List.{flat_map}
use Rattle.f3_tree.specs.declared.statement.Association.{Association}
use Rattle.f3_tree.specs.Statements.{association_view}
use Rattle.f3_kinds.specs.Typing.{breaks}
use Rattle.f3_type_rules.specs.Associates.{associated}
use Rattle.f3_type_rules.specs.Bodies.{selector_rows}
use Rattle.f3_typed_parts.proofs.Noting.{noted_done}
use Rattle.f3_sites.specs.Sites.{site_of}
use Rattle.f3_associates.proofs.Stepping.{rows_more, rows_done, rows_noted}
use Rattle.f3_associates.proofs.Settled.{known_of}
use Rattle.f3_associates.proofs.selectors.selectors.Goals as goal

pub loop-association-preserved : goal.loop-association-preserved
loop-association-preserved c = record {
  names = rows_more (λ (a : Association). associated (site_of c.args.site.now).context c.args.number (association_view a)) (λ xs. flat_map (associated (site_of c.args.site.now).context c.args.number) (map association_view xs)) (λ x xs. refl)
      c.args.list.now c.loop-association.association-index c.association-item.result c.loop-association.names.items c.add_said.new.names.items _ c.loop-association-test.true c.association-item.is (search rules) c.loop-association.invariant.names;
  noted = rows_noted (λ (a : Association). breaks (site_of c.args.site.now).context (association_view a).selector) (λ xs. selector_rows (site_of c.args.site.now) (map association_view xs)) (λ x xs. refl)
      c.args.list.now c.loop-association.association-index c.association-item.result c.loop-association.first c.expression.new.first _ c.loop-association-test.true c.association-item.is (search rules) c.loop-association.invariant.noted;
}

pub returns-clause-noted : goal.returns-clause-noted
returns-clause-noted c =
    noted_done (λ xs. selector_rows (site_of c.args.site.now) (map association_view xs)) c.args.list.now c.loop-association.association-index c.loop-association.first _ (omega (arith, c.loop-association-test.false)) refl c.loop-association.invariant.noted

pub returns-clause-known : goal.returns-clause-known
returns-clause-known c = known_of (site_of c.args.site.now) c.args.number (map association_view c.args.list.now) c.loop-association.names.items
    (rows_done (λ xs. flat_map (associated (site_of c.args.site.now).context c.args.number) (map association_view xs)) c.args.list.now c.loop-association.association-index c.loop-association.names.items _
    (omega (arith, c.loop-association-test.false)) refl c.loop-association.invariant.names)
