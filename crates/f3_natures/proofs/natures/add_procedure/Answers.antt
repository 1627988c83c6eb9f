use Rattle.std.proofs.Common.{rules, map}
use Rattle.std.proofs.lemmas.Result.{on_ok_weaker}
use Rattle.f3_tree.specs.Tree.{procedure_view}
use Rattle.f3_typed_parts.specs.Known.{nature_of}
use Rattle.f3_natures.specs.Known.{names_view}
use Rattle.f3_natures.proofs.Steps.{final_by, procedure_done}
use Rattle.f3_natures.proofs.natures.add_procedure.Goals as goal

pub returns-clause-finals : goal.returns-clause-finals
returns-clause-finals c =
    on_ok_weaker c.add_header-added.result
    (λ e. final_by (names_view c.args.names.now) c.args.scope (procedure_view c.args.procedure.now) c.in_ok-locals.locals.entries c.args.finals.now.items c.add_header-added.new.finals.items
    (search rules) e)
    c.add_header-added.ensures.finals

pub returns-clause-made : goal.returns-clause-made
returns-clause-made c =
    on_ok_weaker c.add_header-added.result
    (λ e. procedure_done (names_view c.args.names.now) c.args.scope (procedure_view c.args.procedure.now) c.in_ok-locals.locals.entries (map nature_of c.args.made.now.items) (map nature_of c.add_header-added.new.made.items)
    (search rules) e)
    c.add_header-added.ensures.made
