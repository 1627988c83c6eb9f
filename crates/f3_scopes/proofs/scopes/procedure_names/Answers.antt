use Rattle.std.proofs.Common.{rules, refl, List, map}
use Rattle.f3_tree.specs.declared.program.Procedure.{Procedure}
use Rattle.f3_tree.specs.Tree.{procedure_view}
use Rattle.f3_scopes.specs.Outlines.{own_view}
use Rattle.f3_scopes.specs.Scopes.{procedure_own}
use Rattle.f3_scopes.proofs.Longer.{pushed_more}
use Rattle.f3_scopes.proofs.scopes.procedure_names.Goals as goal

pub loop-procedure-preserved : goal.loop-procedure-preserved
loop-procedure-preserved c =
    pushed_more own_view (λ (x : Procedure). procedure_own (procedure_view x)) (λ (xs : List Procedure). map procedure_own (map procedure_view xs)) (λ x xs. refl)
    c.args.list.now c.loop-procedure.procedure-index c.procedure-item.result c.loop-procedure.found.items c.push.new.self.items c.plain.result _
    c.loop-procedure-test.true c.procedure-item.is (search rules) (search rules) c.loop-procedure.invariant
