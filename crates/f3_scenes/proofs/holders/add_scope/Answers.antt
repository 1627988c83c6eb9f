use Rattle.std.proofs.Common.{◌≡◌, ◌∷◌, [], ◌++◌, nat_eq, refl, rules, ap, ◌∙◌, map, List}
use Rattle.std.specs.List.{list_any}
use Rattle.indexmap.specs.IndexSet.{contains}
use Rattle.f3_scopes.specs.declared.outline.Declared.{Declared}
use Rattle.f3_scopes.specs.Outlines.{own_view, scope_view}
use Rattle.f3_tree.specs.declared.expression.Name.{Name}
use Rattle.f3_type_rules.specs.declared.definition.Holder.{Holder}
use Rattle.f3_type_rules.specs.Scene.{holder}
use Rattle.f3_scopes.proofs.Longer.{grown_more}
use Rattle.f3_scenes.proofs.Held.{held_same}
use Rattle.f3_scenes.proofs.holders.add_scope.Goals as goal

pub loop-declared-preserved : goal.loop-declared-preserved
loop-declared-preserved c =
    let s = scope_view c.args.outline.now in
    let n = c.args.number in
    let d = c.declared-item.result in
    let b : contains nat_eq c.in_ok-protects.protects d.name.symbol ≡ list_any (λ (m : Name). nat_eq m.symbol d.name.symbol) s.protects =
    c.in_ok-protects.ensures d.name.symbol ∙ ap (λ (l : List Name). list_any (λ (m : Name). nat_eq m.symbol d.name.symbol) l) c.deref.ensures.value in
    let h = held_same n s (own_view d) c.unwrap_or-unit.result c.is_protected.result (contains nat_eq c.in_ok-protects.protects d.name.symbol) c.last_intent.result
    c.unwrap_or-unit.ensures (search rules) b (search rules) in
    grown_more (λ (x : Declared). holder n s (own_view x) ∷ []) (λ (xs : List Declared). map (holder n s) (map own_view xs)) (λ x xs. refl)
    c.deref-declared-items.result.now c.loop-declared.declared-index d c.loop-declared.found.items c.push.new.self.items _ c.loop-declared-test.true c.declared-item.is
    (c.in_ok-push.ensures.items ∙ ap (λ (x : Holder). c.loop-declared.found.items ++ x ∷ []) h) c.loop-declared.invariant
