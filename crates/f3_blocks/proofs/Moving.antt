-- What a builder becomes where its innermost construct goes on or is closed.
use Rattle.std.proofs.Common.{◌≡◌, ◌<◌, ◌≤◌, ◌+◌, ℕ, Bool, true, false, List, [], ◌∷◌, ◌++◌, length, map, reverse, drop, get_or, Option, Some, None, refl, sym, ap, ◌∙◌}
use Rattle.std.specs.Prelude.{◌||◌}
use Rattle.std.specs.Global.{Vec}
use Rattle.std.proofs.lemmas.List.{reverse-append, at_drop_more, at_drop_all}
use Rattle.f3_places.specs.declared.source.Place.{Place}
use Rattle.f3_tree.specs.declared.expression.Expression.{Expression}
use Rattle.f3_tree.specs.declared.statement.Selector.{Selector}
use Rattle.f3_tree.specs.declared.statement.Control.{Control}
use Rattle.f3_tree.specs.declared.statement.Statement.{Statement, If, Select}
use Rattle.f3_tree.specs.Expressions.{expression_view}
use Rattle.f3_tree.specs.Statements.{StatementTree, branches, alternative, no_alternative, selects, selector_view, statement_view, block_view}
use Rattle.f3_form.specs.declared.form.Ended.{Ended}
use Rattle.f3_form.specs.declared.form.Ended.TheVariants as ended
use Rattle.f3_blocks.specs.declared.builder.Opening.{Opening}
use Rattle.f3_blocks.specs.declared.builder.Opening.TheVariants as opening
use Rattle.f3_blocks.specs.declared.builder.OpenConstruct.{OpenConstruct}
use Rattle.f3_blocks.specs.Machine.{Open, Tested, Chosen, branches_from, cases_from, is_do, in_loop, behind, close, close_if, close_select, open_as, open_view, tested_view, chosen_view}
use Rattle.f3_blocks.proofs.Views.{view_if, view_if_else, view_select}

-- ---- a DO that is open

swap : (x y z : Bool) → x || (y || z) ≡ y || (x || z)
swap true true z = refl
swap true false z = refl
swap false y z = refl

loop_last : (os : List Open) (o : Open) → in_loop (os ++ o ∷ []) ≡ is_do o || in_loop os
loop_last [] o = refl
loop_last (h ∷ os) o = ap (λ b. is_do h || b) (loop_last os o) ∙ swap (is_do h) (is_do o) (in_loop os)

pub loop_reverse : (os : List Open) → in_loop (reverse os) ≡ in_loop os
loop_reverse [] = refl
loop_reverse (o ∷ os) = ap in_loop (reverse-append (o ∷ []) os) ∙ loop_last (reverse os) o ∙ ap (λ b. is_do o || b) (loop_reverse os)

pub loop_here : (xs : List OpenConstruct) (i : ℕ) (x : OpenConstruct) (p : Place) (c : Control) → i < length xs → x ≡ get_or xs i x → x.opening ≡ opening.Do p c → in_loop (map open_view (drop i xs)) ≡ true
loop_here xs i x p c inside at is =
    at_drop_more (λ (ys : List OpenConstruct). in_loop (map open_view ys)) xs i x inside
    ∙ ap (λ (y : OpenConstruct). is_do (open_view y) || in_loop (map open_view (drop (i + 1) xs))) (sym at)
    ∙ ap (λ (o : Opening). is_do (open_as o (map statement_view x.before.items)) || in_loop (map open_view (drop (i + 1) xs))) is

pub loop_over : (xs : List OpenConstruct) (i : ℕ) → length xs ≤ i → in_loop (map open_view (drop i xs)) ≡ false
loop_over xs i past = at_drop_all (λ (ys : List OpenConstruct). in_loop (map open_view ys)) xs i past

-- ---- the END of a construct

module _ (what : Option Ended) (o : Opening) (body : Vec Statement) (before : List StatementTree) (os : List Open) where
  pub ends_if : (v bs : Vec (Place × Expression × Vec Statement)) (at : Place) (e : Expression) → what ≡ Some ended.If → o ≡ opening.If bs at e
      → Some (map tested_view bs.items ++ (at, expression_view e, block_view body) ∷ []) ≡ Some (map tested_view v.items)
      → close what (open_as o before ∷ os) (map statement_view body.items) ≡ Some (behind os before (statement_view (If v None)))
  ends_if v bs at e says is more =
      let grown : map tested_view bs.items ++ (at, expression_view e, block_view body) ∷ [] ≡ map tested_view v.items = cc in
      ap (λ (x : Option Ended). close x (open_as o before ∷ os) (map statement_view body.items)) says
      ∙ ap (λ (x : Opening). close_if (open_as x before ∷ os) (map statement_view body.items)) is
      ∙ ap (λ (l : List Tested). Some (behind os before (branches (branches_from l) no_alternative))) grown
      ∙ ap (λ (t : StatementTree). Some (behind os before t)) (sym (view_if v))

  pub ends_else : (bs : Vec (Place × Expression × Vec Statement)) → what ≡ Some ended.If → o ≡ opening.Else bs
      → close what (open_as o before ∷ os) (map statement_view body.items) ≡ Some (behind os before (statement_view (If bs (Some body))))
  ends_else bs says is =
      ap (λ (x : Option Ended). close x (open_as o before ∷ os) (map statement_view body.items)) says
      ∙ ap (λ (x : Opening). close_if (open_as x before ∷ os) (map statement_view body.items)) is
      ∙ ap (λ (t : StatementTree). Some (behind os before t)) (sym (view_if_else bs body))

  pub ends_case : (v cs : Vec (Place × Selector × Vec Statement)) (at : Place) (e : Expression) (from : Place) (s : Selector) → what ≡ Some ended.Select → o ≡ opening.Case at e cs from s
      → Some (map chosen_view cs.items ++ (from, selector_view s, block_view body) ∷ []) ≡ Some (map chosen_view v.items)
      → close what (open_as o before ∷ os) (map statement_view body.items) ≡ Some (behind os before (statement_view (Select at e v)))
  ends_case v cs at e from s says is more =
      let grown : map chosen_view cs.items ++ (from, selector_view s, block_view body) ∷ [] ≡ map chosen_view v.items = cc in
      ap (λ (x : Option Ended). close x (open_as o before ∷ os) (map statement_view body.items)) says
      ∙ ap (λ (x : Opening). close_select (open_as x before ∷ os) (map statement_view body.items)) is
      ∙ ap (λ (l : List Chosen). Some (behind os before (selects at (expression_view e) (cases_from l)))) grown
      ∙ ap (λ (t : StatementTree). Some (behind os before t)) (sym (view_select at e v))
