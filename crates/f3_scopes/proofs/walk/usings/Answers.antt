use Rattle.std.proofs.Common.{rules, refl, List, map}
use Rattle.f3_tree.specs.declared.declaration.Use.{Use}
use Rattle.f3_tree.specs.Declarations.{use_view}
use Rattle.f3_scopes.specs.Outlines.{using_view}
use Rattle.f3_scopes.specs.Scopes.{using}
use Rattle.f3_scopes.proofs.Longer.{pushed_more}
use Rattle.f3_scopes.proofs.walk.usings.Goals as goal

pub loop-statement-preserved : goal.loop-statement-preserved
loop-statement-preserved c =
    pushed_more using_view (λ (x : Use). using (use_view x)) (λ (xs : List Use). map using (map use_view xs)) (λ x xs. refl)
    c.args.list.now c.loop-statement.statement-index c.statement-item.result c.loop-statement.found.items c.push.new.self.items c.in_ok-outline.outline _
    c.loop-statement-test.true c.statement-item.is (search rules) (search rules) c.loop-statement.invariant
