-- The view of each construct.
use Rattle.std.proofs.Common.{◌≡◌, List, [], ◌∷◌, map, Option, Some, None, refl, ap, rules}
use Rattle.std.specs.Global.{Vec}
use Rattle.f3_places.specs.declared.source.Place.{Place}
use Rattle.f3_tree.specs.declared.expression.Expression.{Expression}
use Rattle.f3_tree.specs.declared.statement.Selector.{Selector}
use Rattle.f3_tree.specs.declared.statement.Association.{Association}
use Rattle.f3_tree.specs.declared.statement.Statement.{Statement, If, Select, Associate, the_lemmas}
use Rattle.f3_tree.specs.Expressions.{expression_view}
use Rattle.f3_tree.specs.Statements.{StatementTree, branches, branch, selects, case_block, associates, branches_of, cases_of, association_view, selector_view, statement_view, block_view}
use Rattle.f3_scopes.specs.Blocks.{branches_view, alternative_view, cases_view}

-- branches and cases whose blocks are seen already
module _ (f : Place × Expression × Vec Statement → Place × Expression × Vec StatementTree)
    (place : (b : Place × Expression × Vec Statement) → (f b).0 ≡ b.0)
    (test : (b : Place × Expression × Vec Statement) → (f b).1 ≡ b.1)
    (held : (b : Place × Expression × Vec Statement) → (f b).2.items ≡ map statement_view b.2.items) where
  same_branches : (bs : List (Place × Expression × Vec Statement)) → branches_of (map f bs) ≡ branches_view bs
  same_branches [] = refl
  same_branches (b ∷ bs) = rw (place b, test b, held b) (ap (branch b.0 (expression_view b.1) (block_view b.2)) (same_branches bs))

module _ (f : Place × Selector × Vec Statement → Place × Selector × Vec StatementTree)
    (place : (c : Place × Selector × Vec Statement) → (f c).0 ≡ c.0)
    (choice : (c : Place × Selector × Vec Statement) → (f c).1 ≡ c.1)
    (held : (c : Place × Selector × Vec Statement) → (f c).2.items ≡ map statement_view c.2.items) where
  same_cases : (cs : List (Place × Selector × Vec Statement)) → cases_of (map f cs) ≡ cases_view cs
  same_cases [] = refl
  same_cases (c ∷ cs) = rw (place c, choice c, held c) (ap (case_block c.0 (selector_view c.1) (block_view c.2)) (same_cases cs))

pub view_if : (bs : Vec (Place × Expression × Vec Statement)) (other : Option (Vec Statement)) → statement_view (If bs other) ≡ branches (branches_view bs.items) (alternative_view other)
view_if bs None = simp the_lemmas (ap (λ x. branches x (alternative_view None)) (same_branches _ (λ b. refl) (λ b. refl) (λ b. refl) bs.items))
view_if bs (Some v) = simp the_lemmas (ap (λ x. branches x (alternative_view (Some v))) (same_branches _ (λ b. refl) (λ b. refl) (λ b. refl) bs.items))

pub view_select : (p : Place) (e : Expression) (cs : Vec (Place × Selector × Vec Statement)) → statement_view (Select p e cs) ≡ selects p (expression_view e) (cases_view cs.items)
view_select p e cs = simp the_lemmas (ap (selects p (expression_view e)) (same_cases _ (λ c. refl) (λ c. refl) (λ c. refl) cs.items))

pub view_associate : (p : Place) (xs : Vec Association) (body : Vec Statement) → statement_view (Associate p xs body) ≡ associates p (map association_view xs.items) (block_view body)
view_associate p xs body = search (rules, the_lemmas)
