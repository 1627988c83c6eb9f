-- The constructs in each statement by those in its blocks.
use Rattle.std.proofs.Common.{◌≡◌, ◌+◌, refl, sym, ap, ◌∙◌, ℕ, List, [], ◌++◌, map, length, Option, Some, None, append-nil, rules}
use Rattle.std.specs.Global.{Vec}
use Rattle.f3_places.specs.declared.source.Place.{Place}
use Rattle.f3_tree.specs.declared.expression.Expression.{Expression}
use Rattle.f3_tree.specs.declared.expression.Name.{Name}
use Rattle.f3_tree.specs.declared.statement.Action.{Action}
use Rattle.f3_tree.specs.declared.statement.Control.{Control}
use Rattle.f3_tree.specs.declared.statement.Statement.{Statement, LogicalIf, If, Do, the_lemmas}
use Rattle.f3_tree.specs.declared.statement.Statement.{Action as Acts}
use Rattle.f3_tree.specs.Expressions.{expression_view}
use Rattle.f3_tree.specs.Statements.{acts, acts_if, repeats, action_view, control_view, statement_view, block_of, block_view}
use Rattle.f3_scopes.specs.Outlines.{Scope}
use Rattle.f3_scopes.specs.Scopes.{constructs_in, constructs_in_block, constructs_in_branches}
use Rattle.f3_scopes.specs.Blocks.{branches_in}
use Rattle.f3_scopes.proofs.Views.{view_if}

view_acts : (p : Place) (a : Action) → statement_view (Acts p a) ≡ acts p (action_view a)
view_acts p a = search (rules, the_lemmas)

view_logical : (p : Place) (e : Expression) (q : Place) (a : Action) → statement_view (LogicalIf p e q a) ≡ acts_if p (expression_view e) q (action_view a)
view_logical p e q a = search (rules, the_lemmas)

view_do : (p : Place) (x : Control) (body : Vec Statement) → statement_view (Do p x body) ≡ repeats p (control_view x) (block_view body)
view_do p x body = search (rules, the_lemmas)

module _ (host : ℕ) (around : Name) (number : ℕ) (s : Statement) where
  pub of_action : (p : Place) (a : Action) → s ≡ Acts p a → constructs_in host around number (statement_view s) ≡ []
  of_action p a is = rw (is, view_acts p a) refl

  pub of_logical : (p : Place) (e : Expression) (q : Place) (a : Action) → s ≡ LogicalIf p e q a → constructs_in host around number (statement_view s) ≡ []
  of_logical p e q a is = rw (is, view_logical p e q a) refl

  pub of_if : (bs : Vec (Place × Expression × Vec Statement)) (other : Option (Vec Statement)) → s ≡ If bs other → other ≡ None
      → constructs_in host around number (statement_view s) ≡ constructs_in_branches host around number (branches_in (statement_view s))
  of_if bs other is none = rw (is, none, view_if bs None) (append-nil _)

  pub of_else : (bs : Vec (Place × Expression × Vec Statement)) (other : Option (Vec Statement)) (body : Vec Statement) (b : List Statement)
      → s ≡ If bs other → other ≡ Some body → b ≡ body.items
      → constructs_in host around number (statement_view s)
      ≡ constructs_in_branches host around number (branches_in (statement_view s))
      ++ constructs_in_block host around (number + length (constructs_in_branches host around number (branches_in (statement_view s)))) (block_of (map statement_view b))
  of_else bs other body b is some same = rw (is, some, same, view_if bs (Some body)) refl

  pub of_do : (p : Place) (x : Control) (body : Vec Statement) (b : List Statement) → s ≡ Do p x body → b ≡ body.items
      → constructs_in host around number (statement_view s) ≡ constructs_in_block host around number (block_of (map statement_view b))
  of_do p x body b is same = rw (is, same, view_do p x body) refl

pub none_added : (found added : List Scope) → added ≡ [] → found ≡ found ++ added
none_added found added e = rw e (sym (append-nil found))

pub one_added : (before after added same : List Scope) → added ≡ same → after ≡ before ++ same → after ≡ before ++ added
one_added before after added same e h = h ∙ ap (λ xs. before ++ xs) (sym e)
