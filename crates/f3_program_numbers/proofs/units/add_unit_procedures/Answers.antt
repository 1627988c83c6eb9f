use Rattle.f3_program_numbers.proofs.Ordered.{on_ok, procedures_made}
use Rattle.f3_program_numbers.proofs.units.add_unit_procedures.Goals as goal

pub returns : goal.returns
returns c =
    on_ok c.add_procedures.result
    (λ h scopes are. procedures_made scopes c.args.firsts.now c.args.scope c.args.unit.now c.args.found.now.items c.add_procedures.new.found.items c.behind_declared-entity.result
    c.deref.result.now c.deref-2.result.now c.requires are c.deref.ensures.value c.deref-2.ensures.value c.behind_declared-entity.ensures h)
    c.add_procedures.ensures
