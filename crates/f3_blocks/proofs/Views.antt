-- What a builder's statements and constructs are as trees.
use Rattle.std.proofs.Common.{◌≡◌, ◌<◌, List, [], ◌∷◌, ◌++◌, length, map, reverse, Option, Some, None, refl, sym, ap, subst, ◌∙◌, rules}
use Rattle.std.specs.Global.{Vec}
use Rattle.f3_places.specs.declared.source.Place.{Place}
use Rattle.f3_tree.specs.declared.expression.Expression.{Expression}
use Rattle.f3_tree.specs.declared.statement.Selector.{Selector}
use Rattle.f3_tree.specs.declared.statement.Control.{Control}
use Rattle.f3_tree.specs.declared.statement.Statement.{Statement, If, Select, Do, the_lemmas}
use Rattle.f3_tree.specs.Expressions.{expression_view}
use Rattle.f3_tree.specs.Statements.{StatementTree, branches, branch, selects, case_block, repeats, no_alternative, alternative, branches_of, cases_of, block_of, selector_view, control_view, statement_view, block_view}
use Rattle.f3_blocks.specs.Machine.{branches_from, cases_from, tested_view, chosen_view}

-- branches and cases whose blocks are seen already
module _ (f : Place × Expression × Vec Statement → Place × Expression × Vec StatementTree)
    (place : (b : Place × Expression × Vec Statement) → (f b).0 ≡ b.0)
    (test : (b : Place × Expression × Vec Statement) → (f b).1 ≡ b.1)
    (held : (b : Place × Expression × Vec Statement) → (f b).2.items ≡ map statement_view b.2.items) where
  same_branches : (bs : List (Place × Expression × Vec Statement)) → branches_of (map f bs) ≡ branches_from (map tested_view bs)
  same_branches [] = refl
  same_branches (b ∷ bs) = rw (place b, test b, held b) (ap (branch b.0 (expression_view b.1) (block_view b.2)) (same_branches bs))

module _ (f : Place × Selector × Vec Statement → Place × Selector × Vec StatementTree)
    (place : (c : Place × Selector × Vec Statement) → (f c).0 ≡ c.0)
    (choice : (c : Place × Selector × Vec Statement) → (f c).1 ≡ c.1)
    (held : (c : Place × Selector × Vec Statement) → (f c).2.items ≡ map statement_view c.2.items) where
  same_cases : (cs : List (Place × Selector × Vec Statement)) → cases_of (map f cs) ≡ cases_from (map chosen_view cs)
  same_cases [] = refl
  same_cases (c ∷ cs) = rw (place c, choice c, held c) (ap (case_block c.0 (selector_view c.1) (block_view c.2)) (same_cases cs))

pub view_do : (p : Place) (c : Control) (b : Vec Statement) → statement_view (Do p c b) ≡ repeats p (control_view c) (block_view b)
view_do p c b = search (rules, the_lemmas)

pub view_if : (bs : Vec (Place × Expression × Vec Statement)) → statement_view (If bs None) ≡ branches (branches_from (map tested_view bs.items)) no_alternative
view_if bs = simp the_lemmas (ap (λ x. branches x no_alternative) (same_branches _ (λ b. refl) (λ b. refl) (λ b. refl) bs.items))

pub view_if_else : (bs : Vec (Place × Expression × Vec Statement)) (b : Vec Statement) → statement_view (If bs (Some b)) ≡ branches (branches_from (map tested_view bs.items)) (alternative (block_view b))
view_if_else bs b = simp the_lemmas (ap (λ x. branches x (alternative (block_view b))) (same_branches _ (λ b. refl) (λ b. refl) (λ b. refl) bs.items))

pub view_select : (p : Place) (e : Expression) (cs : Vec (Place × Selector × Vec Statement)) → statement_view (Select p e cs) ≡ selects p (expression_view e) (cases_from (map chosen_view cs.items))
view_select p e cs = simp the_lemmas (ap (selects p (expression_view e)) (same_cases _ (λ c. refl) (λ c. refl) (λ c. refl) cs.items))
