use Rattle.std.proofs.Common.{◌≡◌, map, subst}
use Rattle.f3_tree.specs.Tree.{ProcedureTree, Tree}
use Rattle.f3_program.specs.declared.program.Procedure.{Procedure}
use Rattle.f3_unbroken_laws.specs.Laws.{procedures_of}
use Rattle.f3_owner_laws.proofs.Order.{in_order}
use Rattle.f3_owner_laws.proofs.procedures_keep_their_order.Goals as goal

pub returns : goal.returns
returns c = λ sources p m t spelled.
    subst (λ (x : Tree). map (λ (q : Procedure). q.end) p.procedures.items ≡ map (λ (q : ProcedureTree). q.end) (procedures_of x))
    (c.sources_spell_one_tree.ensures.one m.tree t sources m.accepted.spelled spelled) (in_order m.tree m.look m.order p m.meaning)
