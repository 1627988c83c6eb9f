use Rattle.std.proofs.Common.{sym, subst, map}
use Rattle.f3_rules.specs.Least.{Least}
use Rattle.f3_scopes.specs.Outlines.{listed_view}
use Rattle.f3_scope_rules.proofs.Twice.{DefaultIn, least_default}
use Rattle.f3_scope_rules.proofs.Rules.{least_given}
use Rattle.f3_scope_rules.proofs.access.first_access_twice.Goals as goal

pub returns : goal.returns
returns c =
    let o = c.args.outline.now in
    least_given o c.in_ok-name.name c.first_component_of_types-component.result c.first_default_of_module-module.result c.earlier.result c.earlier-2.result
    (rw c.deref.ensures.value at c.in_ok-name.ensures) (rw c.deref-2.ensures.value at c.first_component_of_types-component.ensures)
    (subst (λ f. Least f (DefaultIn o.kind (map listed_view o.accesses.items))) (sym c.first_default_of_module-module.ensures) (least_default o.kind (map listed_view o.accesses.items)))
    c.earlier.ensures c.earlier-2.ensures
