use Rattle.std.proofs.Common.{rules, refl, map}
use Rattle.f3_tree.specs.declared.program.Procedure.{Procedure}
use Rattle.f3_tree.specs.Tree.{procedure_view}
use Rattle.f3_scopes.specs.Scopes.{procedure_scopes, procedures_from}
use Rattle.f3_scopes.proofs.Growing.{step}
use Rattle.f3_scopes.proofs.scopes.add_procedures.Goals as goal

pub loop-procedure-preserved : goal.loop-procedure-preserved
loop-procedure-preserved c =
    step (λ n (x : Procedure). procedure_scopes c.args.host n (procedure_view x)) (λ n xs. procedures_from c.args.host n (map procedure_view xs)) (λ n x xs. refl)
    c.args.list.now c.loop-procedure.procedure-index c.procedure-item.result c.loop-procedure.found.items c.add_procedure.new.found.items _ c.loop-procedure-test.true
    (search rules) c.loop-procedure.invariant
