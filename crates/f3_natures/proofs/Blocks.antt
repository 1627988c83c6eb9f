-- The constructs of each statement by those of its blocks, and what is found once these are added.
use Rattle.std.proofs.Common.{◌≡◌, refl, sym, ap, ◌∙◌, ℕ, List, [], ◌∷◌, ◌++◌, map, length, Option, Some, None, append-nil, append_assoc, rules}
use Rattle.std.specs.Global.{Vec}
use Rattle.std.proofs.lemmas.List.{map-append}
use Rattle.f3_places.specs.declared.source.Place.{Place}
use Rattle.f3_tree.specs.declared.expression.Expression.{Expression}
use Rattle.f3_tree.specs.declared.statement.Action.{Action}
use Rattle.f3_tree.specs.declared.statement.Association.{Association}
use Rattle.f3_tree.specs.declared.statement.Control.{Control}
use Rattle.f3_tree.specs.declared.statement.Selector.{Selector}
use Rattle.f3_tree.specs.declared.statement.Statement.{Statement, LogicalIf, If, Select, Do, Associate, the_lemmas}
use Rattle.f3_tree.specs.declared.statement.Statement.{Action as Acts}
use Rattle.f3_tree.specs.Expressions.{expression_view}
use Rattle.f3_tree.specs.Statements.{AssociationTree, acts, acts_if, repeats, action_view, association_view, control_view, statement_view, block_of, block_view}
use Rattle.f3_type_rules.specs.Associates.{constructs_of, constructs_of_block, constructs_of_branches, constructs_of_cases}
use Rattle.f3_scopes.specs.Blocks.{branches_in, cases_in}
use Rattle.f3_scopes.proofs.Views.{view_if, view_select, view_associate}

view_acts : (p : Place) (a : Action) → statement_view (Acts p a) ≡ acts p (action_view a)
view_acts p a = search (rules, the_lemmas)

view_logical : (p : Place) (e : Expression) (q : Place) (a : Action) → statement_view (LogicalIf p e q a) ≡ acts_if p (expression_view e) q (action_view a)
view_logical p e q a = search (rules, the_lemmas)

view_do : (p : Place) (x : Control) (body : Vec Statement) → statement_view (Do p x body) ≡ repeats p (control_view x) (block_view body)
view_do p x body = search (rules, the_lemmas)

pub of_action : (s : Statement) (p : Place) (a : Action) → s ≡ Acts p a → constructs_of (statement_view s) ≡ []
of_action s p a is = rw (is, view_acts p a) refl

pub of_logical : (s : Statement) (p : Place) (e : Expression) (q : Place) (a : Action) → s ≡ LogicalIf p e q a → constructs_of (statement_view s) ≡ []
of_logical s p e q a is = rw (is, view_logical p e q a) refl

pub of_if : (s : Statement) (bs : Vec (Place × Expression × Vec Statement)) (other : Option (Vec Statement)) → s ≡ If bs other → other ≡ None
    → constructs_of (statement_view s) ≡ constructs_of_branches (branches_in (statement_view s))
of_if s bs other is none = rw (is, none, view_if bs None) (append-nil _)

pub of_else : (s : Statement) (bs : Vec (Place × Expression × Vec Statement)) (other : Option (Vec Statement)) (body : Vec Statement) (b : List Statement)
    → s ≡ If bs other → other ≡ Some body → b ≡ body.items
    → constructs_of (statement_view s) ≡ constructs_of_branches (branches_in (statement_view s)) ++ constructs_of_block (block_of (map statement_view b))
of_else s bs other body b is some same = rw (is, some, same, view_if bs (Some body)) refl

pub of_select : (s : Statement) (p : Place) (e : Expression) (cs : Vec (Place × Selector × Vec Statement)) → s ≡ Select p e cs
    → constructs_of (statement_view s) ≡ constructs_of_cases (cases_in (statement_view s))
of_select s p e cs is = rw (is, view_select p e cs) refl

pub of_do : (s : Statement) (p : Place) (x : Control) (body : Vec Statement) (b : List Statement) → s ≡ Do p x body → b ≡ body.items
    → constructs_of (statement_view s) ≡ constructs_of_block (block_of (map statement_view b))
of_do s p x body b is same = rw (is, same, view_do p x body) refl

pub of_associate : (s : Statement) (p : Place) (xs : Vec Association) (body : Vec Statement) (b : List Statement) → s ≡ Associate p xs body → b ≡ body.items
    → constructs_of (statement_view s) ≡ map association_view xs.items ∷ constructs_of_block (block_of (map statement_view b))
of_associate s p xs body b is same = rw (is, same, view_associate p xs body) refl

pub none_added : (found : List ℕ) (cs : List (List AssociationTree)) → cs ≡ [] → found ≡ found ++ map length cs
none_added found cs e = rw e (sym (append-nil found))

pub one_added : (before after : List ℕ) (cs ds : List (List AssociationTree)) → cs ≡ ds → after ≡ before ++ map length ds → after ≡ before ++ map length cs
one_added before after cs ds e h = h ∙ ap (λ xs. before ++ map length xs) (sym e)

pub both_added : (before between after : List ℕ) (cs first second : List (List AssociationTree)) → cs ≡ first ++ second
    → between ≡ before ++ map length first → after ≡ between ++ map length second → after ≡ before ++ map length cs
both_added before between after cs first second e f h =
    h ∙ ap (λ xs. xs ++ map length second) f ∙ append_assoc before (map length first) (map length second)
    ∙ ap (λ xs. before ++ xs) (sym (map-append length first second)) ∙ ap (λ xs. before ++ map length xs) (sym e)
