use Rattle.std.proofs.Common.{rules, refl, List, map}
use Rattle.f3_tree.specs.declared.statement.Association.{Association}
use Rattle.f3_tree.specs.Statements.{association_view}
use Rattle.f3_scopes.specs.Outlines.{own_view}
use Rattle.f3_scopes.specs.Scopes.{association_own}
use Rattle.f3_scopes.proofs.Longer.{pushed_more}
use Rattle.f3_scopes.proofs.constructs.associate_names.Goals as goal

pub loop-association-preserved : goal.loop-association-preserved
loop-association-preserved c =
    pushed_more own_view (λ (x : Association). association_own (association_view x)) (λ (xs : List Association). map association_own (map association_view xs)) (λ x xs. refl)
    c.args.list.now c.loop-association.association-index c.association-item.result c.loop-association.found.items c.push.new.self.items c.plain.result _
    c.loop-association-test.true c.association-item.is (search rules) (search rules) c.loop-association.invariant
