use Rattle.std.proofs.Common.{◌≡◌, rules, refl, ap, ◌∙◌, [], ◌∷◌, ◌++◌, List, map}
use Rattle.f3_tree.specs.declared.declaration.Rename.{Rename}
use Rattle.f3_scopes.specs.declared.outline.UseItem.{UseItem}
use Rattle.f3_scopes.specs.Scopes.{renamed}
use Rattle.f3_scopes.proofs.Longer.{grown_at}
use Rattle.f3_scopes.proofs.walk.renames.Goals as goal

pub loop-rename-preserved : goal.loop-rename-preserved
loop-rename-preserved c =
    let e : c.push.new.self.items ≡ c.loop-rename.items.items ++ c.renamed.result ∷ [] = search rules in
    grown_at (λ (x : Rename). renamed x ∷ []) (λ (xs : List Rename). map renamed xs) (λ x xs. refl)
    c.args.list.now c.loop-rename.rename-index _ c.loop-rename.items.items c.push.new.self.items _
    c.loop-rename-test.true (e ∙ ap (λ (x : UseItem). c.loop-rename.items.items ++ x ∷ []) c.renamed.ensures) c.loop-rename.invariant
