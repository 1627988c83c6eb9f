-- A statement in memory fits where its data does.
use Rattle.std.proofs.Common.{◌≡◌, ◌&&◌, not, nat_eq, List, [], ◌∷◌, map, Option, Some, None, refl, sym, ap, ◌∙◌}
use Rattle.std.specs.Option.{option_map}
use Rattle.f3_program.specs.declared.declarations.Kind.{Kind}
use Rattle.f3_program.specs.declared.expression.Designator as d
use Rattle.f3_program.specs.declared.statement.Bounds.{Bounds}
use Rattle.f3_program.specs.declared.statement.Item.{Item}
use Rattle.f3_program.specs.declared.statement.Item.TheVariants as item
use Rattle.f3_program.specs.declared.statement.Request.{Request}
use Rattle.f3_program.specs.declared.statement.Selector.{Selector}
use Rattle.f3_program.specs.declared.statement.Selector.TheVariants as selector
use Rattle.f3_program.specs.declared.statement.Statement as s
use Rattle.f3_program.specs.declared.program.Program.{Program}
use Rattle.f3_meaning_whole.specs.Formed as formed
use Rattle.f3_meaning_whole.specs.Formed.{all, some, found, only, valued, alike, given_all, or_none}
use Rattle.f3_cell_kinds.specs.Types.{Scope, selecting, associating}
use Rattle.f3_cell_kinds.specs.Effect.{range_fits}
use Rattle.f3_cell_kinds.specs.Values.{kind_or}
use Rattle.f3_cell_kinds.specs.Sense as sense
use Rattle.f3_cell_kinds.specs.Sense.{none_or}
use Rattle.f3_elaboration.specs.Nodes.{StatementNode}
use Rattle.f3_elaboration.specs.Views.{expression_view, designator_view, bounds_view, request_view, item_view, selector_view, statement_view, statements_of}
use Rattle.f3_elaboration.proofs.Views as v
use Rattle.f3_lawful_laws.proofs.Primed as is
use Rattle.f3_formed_laws.specs.Nodes as formed_node
use Rattle.f3_formed_laws.proofs.Facts.{all_seen}
use Rattle.f3_formed_laws.proofs.Seen as formed_seen
use Rattle.f3_fitting_laws.proofs.Nodes as node
use Rattle.f3_fitting_laws.proofs.Seen.{value_seen, object_seen}

module _ (p : Program) (c : Scope) where
  status_seen : (x : Option d.Designator) → none_or x (sense.object_fits p c) ≡ none_or (option_map designator_view x) (node.object_fits p c)
  status_seen None = refl
  status_seen (Some x) = object_seen p c x

  bounds_seen : (b : Bounds) → sense.bounds_fit p c b ≡ node.bounds_fit p c (bounds_view b)
  bounds_seen b =
      ap (λ z. z && sense.value_fits p c b.upper) (value_seen p c b.lower) ∙ ap (λ z. node.value_fits p c (expression_view b.lower) && z) (value_seen p c b.upper)

  request_seen : (r : Request) → sense.request_fits p c r ≡ node.request_fits p c (request_view r)
  request_seen r =
      ap (λ b. b && all (sense.bounds_fit p c) r.bounds.items) (object_seen p c r.object)
      ∙ ap (λ b. node.object_fits p c (designator_view r.object) && b) (all_seen (sense.bounds_fit p c) (node.bounds_fit p c) bounds_view bounds_seen r.bounds.items)

  item_seen : (x : Item) → sense.item_fits p c x ≡ node.item_fits p c (item_view x)
  item_seen (item.Value x) = value_seen p c x
  item_seen (item.Text t) = refl

  selector_seen : (x : Selector) → sense.selector_fits p c x ≡ node.selector_fits p c (selector_view x)
  selector_seen (selector.Variable x) = object_seen p c x
  selector_seen (selector.Value k x) = ap (λ b. not k.is_allocatable && b) (value_seen p c x)

  selected_seen : (x : Selector) → formed.selected p c.variables c.names x ≡ formed_node.selected p c.variables c.names (selector_view x)
  selected_seen (selector.Variable x) = ap (λ o. found o valued) (formed_seen.object_seen p c.variables c.names x)
  selected_seen (selector.Value k x) = ap (λ o. found o (λ (j : Kind). only (alike k.of j.of && nat_eq k.rank j.rank) k)) (formed_seen.value_seen p c.variables c.names x)

  selectors_seen : (xs : List Selector) → map (formed.selected p c.variables c.names) xs ≡ map (formed_node.selected p c.variables c.names) (map selector_view xs)
  selectors_seen [] = refl
  selectors_seen (x ∷ xs) =
      ap (λ o. o ∷ map (formed.selected p c.variables c.names) xs) (selected_seen x)
      ∙ ap (λ os. formed_node.selected p c.variables c.names (selector_view x) ∷ os) (selectors_seen xs)

module _ (p : Program) where
  by_view : (c : Scope) (x y : StatementNode) → x ≡ y → node.statement_fits p y c ≡ node.statement_fits p x c
  by_view c x y e = ap (λ z. node.statement_fits p z c) (sym e)

  mutual
    pub statement_seen : (x : s.Statement) (c : Scope) → sense.statement_fits p x c ≡ node.statement_fits p (statement_view x) c
    statement_seen (s.At' place b q x) c = statement_seen x c ∙ by_view c _ _ (is.at_is place b q x)
    statement_seen (s.Block' k xs) c = statements_seen xs c ∙ by_view c _ _ (is.block_is k xs)
    statement_seen (s.Assign x k y) c =
        ap (λ b. b && sense.value_fits p c y) (object_seen p c x) ∙ ap (λ b. node.object_fits p c (designator_view x) && b) (value_seen p c y)
        ∙ by_view c _ _ (v.view_assign x k y)
    statement_seen (s.Call x) c = value_seen p c x ∙ by_view c _ _ (v.view_call x)
    statement_seen (s.MoveAlloc k b x y) c =
        ap (λ z. z && sense.object_fits p c y) (object_seen p c x) ∙ ap (λ z. node.object_fits p c (designator_view x) && z) (object_seen p c y)
        ∙ by_view c _ _ (v.view_move_alloc k b x y)
    statement_seen (s.Allocate rs stat) c =
        ap (λ b. b && none_or stat (sense.object_fits p c)) (all_seen (sense.request_fits p c) (node.request_fits p c) request_view (request_seen p c) rs.items)
        ∙ ap (λ b. all (node.request_fits p c) (map request_view rs.items) && b) (status_seen p c stat) ∙ by_view c _ _ (v.view_allocate rs stat)
    statement_seen (s.Deallocate rs stat) c =
        ap (λ b. b && none_or stat (sense.object_fits p c)) (all_seen (sense.request_fits p c) (node.request_fits p c) request_view (request_seen p c) rs.items)
        ∙ ap (λ b. all (node.request_fits p c) (map request_view rs.items) && b) (status_seen p c stat) ∙ by_view c _ _ (v.view_deallocate rs stat)
    statement_seen (s.Print xs) c = all_seen (sense.item_fits p c) (node.item_fits p c) item_view (item_seen p c) xs.items ∙ by_view c _ _ (v.view_print xs)
    statement_seen (s.Stop code) c = by_view c _ _ (v.view_stop code)
    statement_seen s.Return c = by_view c _ _ v.view_return
    statement_seen s.Cycle c = by_view c _ _ v.view_cycle
    statement_seen s.Exit c = by_view c _ _ v.view_exit
    statement_seen (s.If' x q y r z) c =
        ap (λ b. b && (sense.statement_fits p y c && sense.statement_fits p z c)) (value_seen p c x)
        ∙ ap (λ b. node.value_fits p c (expression_view x) && (b && sense.statement_fits p z c)) (statement_seen y c)
        ∙ ap (λ b. node.value_fits p c (expression_view x) && (node.statement_fits p (statement_view y) c && b)) (statement_seen z c)
        ∙ by_view c _ _ (is.branch_is x q y r z)
    statement_seen (s.Select' x q y) c =
        ap (λ b. b && sense.statement_fits p y (selecting (kind_or (sense.kind p c x)) c)) (value_seen p c x)
        ∙ ap (λ b. node.value_fits p c (expression_view x) && b) (statement_seen y (selecting (kind_or (sense.kind p c x)) c))
        ∙ ap (λ o. node.value_fits p c (expression_view x) && node.statement_fits p (statement_view y) (selecting (kind_or o) c)) (formed_seen.value_seen p c.variables c.names x)
        ∙ by_view c _ _ (is.select_is x q y)
    statement_seen (s.Case' rs q x r y) c =
        ap (λ b. some c.selected (λ k. all (range_fits k.of) rs.items) && (b && sense.statement_fits p y c)) (statement_seen x c)
        ∙ ap (λ b. some c.selected (λ k. all (range_fits k.of) rs.items) && (node.statement_fits p (statement_view x) c && b)) (statement_seen y c)
        ∙ by_view c _ _ (is.case_is rs q x r y)
    statement_seen (s.While' x q y) c =
        ap (λ b. b && sense.statement_fits p y c) (value_seen p c x) ∙ ap (λ b. node.value_fits p c (expression_view x) && b) (statement_seen y c)
        ∙ by_view c _ _ (is.while_is x q y)
    statement_seen (s.Count' x k from to step q y) c =
        ap (λ b. b && (sense.value_fits p c from && (sense.value_fits p c to && (sense.value_fits p c step && sense.statement_fits p y c)))) (object_seen p c x)
        ∙ ap (λ b. node.object_fits p c (designator_view x) && (b && (sense.value_fits p c to && (sense.value_fits p c step && sense.statement_fits p y c)))) (value_seen p c from)
        ∙ ap (λ b. node.object_fits p c (designator_view x) && (node.value_fits p c (expression_view from) && (b && (sense.value_fits p c step && sense.statement_fits p y c)))) (value_seen p c to)
        ∙ ap (λ b. node.object_fits p c (designator_view x) && (node.value_fits p c (expression_view from) && (node.value_fits p c (expression_view to) && (b && sense.statement_fits p y c)))) (value_seen p c step)
        ∙ ap (λ b. node.object_fits p c (designator_view x) && (node.value_fits p c (expression_view from) && (node.value_fits p c (expression_view to)
        && (node.value_fits p c (expression_view step) && b)))) (statement_seen y c)
        ∙ by_view c _ _ (is.count_is x k from to step q y)
    statement_seen (s.Associate' xs q y) c =
        ap (λ b. b && sense.statement_fits p y (associating (or_none (given_all (map (formed.selected p c.variables c.names) xs.items))) c))
        (all_seen (sense.selector_fits p c) (node.selector_fits p c) selector_view (selector_seen p c) xs.items)
        ∙ ap (λ os. all (node.selector_fits p c) (map selector_view xs.items) && sense.statement_fits p y (associating (or_none (given_all os)) c)) (selectors_seen p c xs.items)
        ∙ ap (λ b. all (node.selector_fits p c) (map selector_view xs.items) && b)
        (statement_seen y (associating (or_none (given_all (map (formed_node.selected p c.variables c.names) (map selector_view xs.items)))) c))
        ∙ by_view c _ _ (is.associate_is xs q y)

    statements_seen : {m : _} (xs : s.Row_of-Statement m) (c : Scope)
        → sense.statements_fit p xs c ≡ node.statements_fit p (statements_of (map statement_view (s.items-the_row-Statement m xs))) c
    statements_seen s.end_of-Statement c = refl
    statements_seen (s.more_of-Statement x rest) c =
        ap (λ b. b && sense.statements_fit p rest c) (statement_seen x c) ∙ ap (λ b. node.statement_fits p (statement_view x) c && b) (statements_seen rest c)
