use Rattle.std.proofs.Common.{◌≡◌, rules, refl, ap, ◌∙◌, [], ◌∷◌, ◌++◌, List, map}
use Rattle.f3_tree.specs.declared.declaration.Only.{Only}
use Rattle.f3_scopes.specs.declared.outline.UseItem.{UseItem}
use Rattle.f3_scopes.specs.Scopes.{only_item}
use Rattle.f3_scopes.proofs.Longer.{grown_at}
use Rattle.f3_scopes.proofs.walk.only_items.Goals as goal

pub loop-only-preserved : goal.loop-only-preserved
loop-only-preserved c =
    let e : c.push.new.self.items ≡ c.loop-only.items.items ++ c.only_item.result ∷ [] = search rules in
    grown_at (λ (x : Only). only_item x ∷ []) (λ (xs : List Only). map only_item xs) (λ x xs. refl)
    c.args.list.now c.loop-only.only-index _ c.loop-only.items.items c.push.new.self.items _
    c.loop-only-test.true (e ∙ ap (λ (x : UseItem). c.loop-only.items.items ++ x ∷ []) c.only_item.ensures) c.loop-only.invariant
