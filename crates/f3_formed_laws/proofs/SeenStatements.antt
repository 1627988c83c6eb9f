-- A statement in memory makes sense where its data does.
use Rattle.std.proofs.Common.{◌≡◌, true, ◌&&◌, ◌||◌, List, [], ◌∷◌, ◌++◌, map, nat_eq, Option, Some, None, refl, sym, ap, ◌∙◌}
use Rattle.std.specs.Option.{option_map}
use Rattle.f3_program.specs.declared.declarations.Base.TheVariants as base
use Rattle.f3_program.specs.declared.declarations.Declared.{Declared}
use Rattle.f3_program.specs.declared.declarations.Kind.{Kind}
use Rattle.f3_program.specs.declared.expression.Designator as d
use Rattle.f3_program.specs.declared.statement.Bounds.{Bounds}
use Rattle.f3_program.specs.declared.statement.Item.{Item}
use Rattle.f3_program.specs.declared.statement.Item.TheVariants as item
use Rattle.f3_program.specs.declared.statement.Request.{Request}
use Rattle.f3_program.specs.declared.statement.Selector.{Selector}
use Rattle.f3_program.specs.declared.statement.Selector.TheVariants as selector
use Rattle.f3_program.specs.declared.statement.Statement as s
use Rattle.f3_program.specs.declared.program.Program.{Program}
use Rattle.f3_meaning_whole.specs.Permitted.{same_type}
use Rattle.f3_meaning_whole.specs.Formed as formed
use Rattle.f3_meaning_whole.specs.Formed.{all, some, found, only, valued, alike, is_number, is_scalar, is_condition, is_whole_number, takes, same_kind, given_all, or_none}
use Rattle.f3_elaboration.specs.Nodes.{StatementNode}
use Rattle.f3_elaboration.specs.Views.{expression_view, designator_view, bounds_view, request_view, item_view, selector_view, statement_view, statements_of}
use Rattle.f3_elaboration.proofs.Views as v
use Rattle.f3_lawful_laws.proofs.Primed as is
use Rattle.f3_formed_laws.specs.Nodes as node
use Rattle.f3_formed_laws.proofs.Facts.{long, all_seen}
use Rattle.f3_formed_laws.proofs.Seen.{value_seen, object_seen}

module _ (p : Program) (vs : List Declared) (ns : List Kind) where
  object_of_seen : (k : Kind) (x : d.Designator) → formed.is_object_of p vs ns k x ≡ node.is_object_of p vs ns k (designator_view x)
  object_of_seen k x = ap (λ o. some o (same_kind p vs ns k)) (object_seen p vs ns x)

  status_seen : (x : Option d.Designator) → formed.is_status p vs ns x ≡ node.is_status p vs ns (option_map designator_view x)
  status_seen None = refl
  status_seen (Some x) = ap (λ o. some o is_whole_number) (object_seen p vs ns x)

  bound_seen : (b : Bounds) → formed.is_bound p vs ns b ≡ node.is_bound p vs ns (bounds_view b)
  bound_seen b =
      ap (λ o. some o is_whole_number && some (formed.value_kind p vs ns b.upper) is_whole_number) (value_seen p vs ns b.lower)
      ∙ ap (λ o. some (node.value_kind p vs ns (expression_view b.lower)) is_whole_number && some o is_whole_number) (value_seen p vs ns b.upper)

  request_seen : (r : Request) → formed.is_request p vs ns r ≡ node.is_request p vs ns (request_view r)
  request_seen r =
      ap (λ b. r.kind.is_allocatable && (b && all (formed.is_bound p vs ns) r.bounds.items)) (object_of_seen r.kind r.object)
      ∙ ap (λ b. r.kind.is_allocatable && (node.is_object_of p vs ns r.kind (designator_view r.object) && b))
      (all_seen (formed.is_bound p vs ns) (node.is_bound p vs ns) bounds_view bound_seen r.bounds.items)

  bounded_seen : (r : Request) → (formed.is_request p vs ns r && formed.has_bounds p vs ns r)
      ≡ (node.is_request p vs ns (request_view r) && node.has_bounds p vs ns (request_view r))
  bounded_seen r =
      ap (λ b. b && formed.has_bounds p vs ns r) (request_seen r)
      ∙ ap (λ n. node.is_request p vs ns (request_view r) && nat_eq n r.kind.rank) (sym (long bounds_view r.bounds.items))

  item_seen : (x : Item) → formed.is_item p vs ns x ≡ node.is_item p vs ns (item_view x)
  item_seen (item.Value x) = ap (λ o. some o (λ k. is_number k.of || same_type k.of base.Logical)) (value_seen p vs ns x)
  item_seen (item.Text t) = refl

  selected_seen : (x : Selector) → formed.selected p vs ns x ≡ node.selected p vs ns (selector_view x)
  selected_seen (selector.Variable x) = ap (λ o. found o valued) (object_seen p vs ns x)
  selected_seen (selector.Value k x) = ap (λ o. found o (λ j. only (alike k.of j.of && nat_eq k.rank j.rank) k)) (value_seen p vs ns x)

  selectors_seen : (xs : List Selector) → map (formed.selected p vs ns) xs ≡ map (node.selected p vs ns) (map selector_view xs)
  selectors_seen [] = refl
  selectors_seen (x ∷ xs) =
      ap (λ o. o ∷ map (formed.selected p vs ns) xs) (selected_seen x) ∙ ap (λ os. node.selected p vs ns (selector_view x) ∷ os) (selectors_seen xs)

module _ (p : Program) (vs : List Declared) where
  -- what the data says, of the view
  by_view : (ns : List Kind) (x y : StatementNode) → x ≡ y → node.is_formed p vs y ns ≡ node.is_formed p vs x ns
  by_view ns x y e = ap (λ z. node.is_formed p vs z ns) (sym e)

  mutual
    pub statement_seen : (x : s.Statement) (ns : List Kind) → formed.is_formed p vs x ns ≡ node.is_formed p vs (statement_view x) ns
    statement_seen (s.At' place b q x) ns = statement_seen x ns ∙ by_view ns _ _ (is.at_is place b q x)
    statement_seen (s.Block' k xs) ns = statements_seen xs ns ∙ by_view ns _ _ (is.block_is k xs)
    statement_seen (s.Assign x k y) ns =
        ap (λ b. b && some (formed.value_kind p vs ns y) (takes k)) (object_of_seen p vs ns k x)
        ∙ ap (λ o. node.is_object_of p vs ns k (designator_view x) && some o (takes k)) (value_seen p vs ns y) ∙ by_view ns _ _ (v.view_assign x k y)
    statement_seen (s.Call x) ns = ap (λ o. some o (λ k. true)) (value_seen p vs ns x) ∙ by_view ns _ _ (v.view_call x)
    statement_seen (s.MoveAlloc k b x y) ns =
        ap (λ b. k.is_allocatable && (b && formed.is_object_of p vs ns k y)) (object_of_seen p vs ns k x)
        ∙ ap (λ b. k.is_allocatable && (node.is_object_of p vs ns k (designator_view x) && b)) (object_of_seen p vs ns k y) ∙ by_view ns _ _ (v.view_move_alloc k b x y)
    statement_seen (s.Allocate rs stat) ns =
        ap (λ b. b && formed.is_status p vs ns stat)
        (all_seen (λ r. formed.is_request p vs ns r && formed.has_bounds p vs ns r) (λ r. node.is_request p vs ns r && node.has_bounds p vs ns r) request_view
        (bounded_seen p vs ns) rs.items)
        ∙ ap (λ b. all (λ r. node.is_request p vs ns r && node.has_bounds p vs ns r) (map request_view rs.items) && b) (status_seen p vs ns stat)
        ∙ by_view ns _ _ (v.view_allocate rs stat)
    statement_seen (s.Deallocate rs stat) ns =
        ap (λ b. b && formed.is_status p vs ns stat) (all_seen (formed.is_request p vs ns) (node.is_request p vs ns) request_view (request_seen p vs ns) rs.items)
        ∙ ap (λ b. all (node.is_request p vs ns) (map request_view rs.items) && b) (status_seen p vs ns stat) ∙ by_view ns _ _ (v.view_deallocate rs stat)
    statement_seen (s.Print xs) ns = all_seen (formed.is_item p vs ns) (node.is_item p vs ns) item_view (item_seen p vs ns) xs.items ∙ by_view ns _ _ (v.view_print xs)
    statement_seen (s.Stop code) ns = by_view ns _ _ (v.view_stop code)
    statement_seen s.Return ns = by_view ns _ _ v.view_return
    statement_seen s.Cycle ns = by_view ns _ _ v.view_cycle
    statement_seen s.Exit ns = by_view ns _ _ v.view_exit
    statement_seen (s.If' x q y r z) ns =
        ap (λ o. some o is_condition && (formed.is_formed p vs y ns && formed.is_formed p vs z ns)) (value_seen p vs ns x)
        ∙ ap (λ b. some (node.value_kind p vs ns (expression_view x)) is_condition && (b && formed.is_formed p vs z ns)) (statement_seen y ns)
        ∙ ap (λ b. some (node.value_kind p vs ns (expression_view x)) is_condition && (node.is_formed p vs (statement_view y) ns && b)) (statement_seen z ns)
        ∙ by_view ns _ _ (is.branch_is x q y r z)
    statement_seen (s.Select' x q y) ns =
        ap (λ o. some o is_scalar && formed.is_formed p vs y ns) (value_seen p vs ns x)
        ∙ ap (λ b. some (node.value_kind p vs ns (expression_view x)) is_scalar && b) (statement_seen y ns) ∙ by_view ns _ _ (is.select_is x q y)
    statement_seen (s.Case' rs q x r y) ns =
        ap (λ b. b && formed.is_formed p vs y ns) (statement_seen x ns) ∙ ap (λ b. node.is_formed p vs (statement_view x) ns && b) (statement_seen y ns)
        ∙ by_view ns _ _ (is.case_is rs q x r y)
    statement_seen (s.While' x q y) ns =
        ap (λ o. some o is_condition && formed.is_formed p vs y ns) (value_seen p vs ns x)
        ∙ ap (λ b. some (node.value_kind p vs ns (expression_view x)) is_condition && b) (statement_seen y ns) ∙ by_view ns _ _ (is.while_is x q y)
    statement_seen (s.Count' x k from to step q y) ns =
        ap (λ b. is_whole_number k && (b && (some (formed.value_kind p vs ns from) is_whole_number && (some (formed.value_kind p vs ns to) is_whole_number
        && (some (formed.value_kind p vs ns step) is_whole_number && formed.is_formed p vs y ns))))) (object_of_seen p vs ns k x)
        ∙ ap (λ o. is_whole_number k && (node.is_object_of p vs ns k (designator_view x) && (some o is_whole_number && (some (formed.value_kind p vs ns to) is_whole_number
        && (some (formed.value_kind p vs ns step) is_whole_number && formed.is_formed p vs y ns))))) (value_seen p vs ns from)
        ∙ ap (λ o. is_whole_number k && (node.is_object_of p vs ns k (designator_view x) && (some (node.value_kind p vs ns (expression_view from)) is_whole_number && (some o is_whole_number
        && (some (formed.value_kind p vs ns step) is_whole_number && formed.is_formed p vs y ns))))) (value_seen p vs ns to)
        ∙ ap (λ o. is_whole_number k && (node.is_object_of p vs ns k (designator_view x) && (some (node.value_kind p vs ns (expression_view from)) is_whole_number
        && (some (node.value_kind p vs ns (expression_view to)) is_whole_number && (some o is_whole_number && formed.is_formed p vs y ns))))) (value_seen p vs ns step)
        ∙ ap (λ b. is_whole_number k && (node.is_object_of p vs ns k (designator_view x) && (some (node.value_kind p vs ns (expression_view from)) is_whole_number
        && (some (node.value_kind p vs ns (expression_view to)) is_whole_number && (some (node.value_kind p vs ns (expression_view step)) is_whole_number && b))))) (statement_seen y ns)
        ∙ by_view ns _ _ (is.count_is x k from to step q y)
    statement_seen (s.Associate' xs q y) ns =
        ap (λ os. some (given_all os) (λ ks. true) && formed.is_formed p vs y (ns ++ or_none (given_all os))) (selectors_seen p vs ns xs.items)
        ∙ ap (λ b. some (given_all (map (node.selected p vs ns) (map selector_view xs.items))) (λ ks. true) && b)
        (statement_seen y (ns ++ or_none (given_all (map (node.selected p vs ns) (map selector_view xs.items)))))
        ∙ by_view ns _ _ (is.associate_is xs q y)

    statements_seen : {m : _} (xs : s.Row_of-Statement m) (ns : List Kind)
        → formed.are_formed p vs xs ns ≡ node.are_formed p vs (statements_of (map statement_view (s.items-the_row-Statement m xs))) ns
    statements_seen s.end_of-Statement ns = refl
    statements_seen (s.more_of-Statement x rest) ns =
        ap (λ b. b && formed.are_formed p vs rest ns) (statement_seen x ns) ∙ ap (λ b. node.is_formed p vs (statement_view x) ns && b) (statements_seen rest ns)
