-- Blocks of pure procedures call pure procedures alone.
use Rattle.std.proofs.Common.{◌≡◌, ℕ, ◌+◌, Bool, true, false, List, [], ◌∷◌, Option, Some, None, map, refl, sym, ap, if◌then◌else◌}
use Rattle.std.specs.Prelude.{⊤, length, nat_eq}
use Rattle.std.specs.Map.{lookup}
use Rattle.std.specs.List.{flat_map}
use mathlib.Core.Path.{subst}
use Rattle.f3_rules.specs.declared.breaks.Break.{Break}
use Rattle.f3_places.specs.declared.source.Place.{Place}
use Rattle.f3_lookups.specs.declared.lookup.Lookup.{Lookup}
use Rattle.f3_lookups.specs.declared.lookup.Lookup.TheVariants.{One, Nothing, Several}
use Rattle.f3_tree.specs.declared.expression.Name.{Name}
use Rattle.f3_tree.specs.Expressions as t
use Rattle.f3_tree.specs.Statements as a
use Rattle.f3_program.specs.declared.expression.Expression as e
use Rattle.f3_program.specs.declared.statement.Statement as s
use Rattle.f3_kinds.specs.declared.said.Said.{Said}
use Rattle.f3_kinds.specs.declared.things.Dummy.{Dummy}
use Rattle.f3_kinds.specs.declared.things.Intrinsic.{Intrinsic}
use Rattle.f3_kinds.specs.declared.things.Intrinsic.TheVariants as i
use Rattle.f3_kinds.specs.Things.{map_or, Nature, constant, variable, derived, subroutine, function, Context, Meaning, nothing, intrinsic, entity, entity_or, meaning_by, meaning_of, look_here}
use Rattle.f3_type_rules.specs.Associates.{associated, associate_nature, context_inside, site_inside, constructs_of, constructs_of_branches, constructs_of_block}
use Rattle.f3_type_rules.specs.Bodies.{act_rows, control_rows, selector_rows, statement_breaks, block_breaks, branch_breaks, other_breaks, case_breaks}
use Rattle.f3_type_rules.specs.Cases.{select_breaks}
use Rattle.f3_type_rules.specs.Definitions.{Site, definition_rows, defined, impure, called_impure, in_loop}
use Rattle.f3_type_rules.specs.Statements.{act_breaks, condition_breaks}
use Rattle.f3_elaboration.specs.Nodes as n
use Rattle.f3_elaboration.specs.Nodes.{ExpressionNode, StatementNode, StatementNodes}
use Rattle.f3_elaboration.specs.Context.{Surroundings, inside}
use Rattle.f3_elaboration.specs.Actions.{move, called, action, nothing_done}
use Rattle.f3_elaboration.specs.Statements.{loop, statement, block, branches, alternative, cases}
use Rattle.f3_elaboration.specs.Views.{expression_view, statement_view, statements_of}
use Rattle.f3_elaboration.proofs.Views as v
use Rattle.f3_lawful_laws.proofs.Facts.{not_nil, first, second}
use Rattle.f3_lawful_laws.proofs.Primed as is
use Rattle.f3_purity_laws.specs.Calls.{IsPureCall, CallsPure, AllCallPure}
use Rattle.f3_purity_laws.specs.Laws.{PureOnesArePure, BlocksCallPure}

module _ (pure : ℕ → Bool) where
  -- ---- on data

  abbrev NodeIsPure : ExpressionNode → Type 0
  NodeIsPure (n.reference f xs) = pure f ≡ true
  NodeIsPure x = ⊤

  abbrev mutual
    NodeCalls : StatementNode → Type 0
    NodeCalls (n.at place b x) = NodeCalls x
    NodeCalls (n.block xs) = NodesCall xs
    NodeCalls (n.assign d k y) = ⊤
    NodeCalls (n.call x) = NodeIsPure x
    NodeCalls (n.move_alloc k b d e) = ⊤
    NodeCalls (n.allocate rs stat) = ⊤
    NodeCalls (n.deallocate rs stat) = ⊤
    NodeCalls (n.print xs) = ⊥
    NodeCalls (n.stop code) = ⊥
    NodeCalls n.return = ⊤
    NodeCalls n.cycle = ⊤
    NodeCalls n.exit = ⊤
    NodeCalls (n.branch x y z) = NodeCalls y × NodeCalls z
    NodeCalls (n.select x y) = NodeCalls y
    NodeCalls (n.case rs x y) = NodeCalls x × NodeCalls y
    NodeCalls (n.while x y) = NodeCalls y
    NodeCalls (n.count d k from to step y) = NodeCalls y
    NodeCalls (n.associate xs y) = NodeCalls y

    NodesCall : StatementNodes → Type 0
    NodesCall n.no_statements = ⊤
    NodesCall (n.statements x xs) = NodeCalls x × NodesCall xs

  call_seen : (x : e.Expression) → NodeIsPure (expression_view x) → IsPureCall pure x
  call_seen (e.Call' f k xs) h = subst NodeIsPure (is.reference_is f k xs) h
  call_seen (e.Literal c) h = tt
  call_seen (e.Variable' q x) h = tt
  call_seen (e.Group' q x) h = tt
  call_seen (e.Unary' o t q x) h = tt
  call_seen (e.Binary' o t q x r y) h = tt
  call_seen (e.Array' k xs) h = tt
  call_seen (e.Structure' t k xs) h = tt
  call_seen (e.Allocated' q x) h = tt
  call_seen (e.Size' q x) h = tt
  call_seen (e.Bound' o q x r y) h = tt

  mutual
    statement_seen : (x : s.Statement) → NodeCalls (statement_view x) → CallsPure pure x
    statement_seen (s.At' place b q x) h = statement_seen x (subst NodeCalls (is.at_is place b q x) h)
    statement_seen (s.Block' k xs) h = statements_seen xs (subst NodeCalls (is.block_is k xs) h)
    statement_seen (s.Assign x k y) h = tt
    statement_seen (s.Call x) h = call_seen x (subst NodeCalls (v.view_call x) h)
    statement_seen (s.MoveAlloc k b x y) h = tt
    statement_seen (s.Allocate rs stat) h = tt
    statement_seen (s.Deallocate rs stat) h = tt
    statement_seen (s.Print xs) h = subst NodeCalls (v.view_print xs) h
    statement_seen (s.Stop code) h = subst NodeCalls (v.view_stop code) h
    statement_seen s.Return h = tt
    statement_seen s.Cycle h = tt
    statement_seen s.Exit h = tt
    statement_seen (s.If' x q y r z) h = let g = subst NodeCalls (is.branch_is x q y r z) h in (statement_seen y g.0, statement_seen z g.1)
    statement_seen (s.Select' x q y) h = statement_seen y (subst NodeCalls (is.select_is x q y) h)
    statement_seen (s.Case' rs q x r y) h = let g = subst NodeCalls (is.case_is rs q x r y) h in (statement_seen x g.0, statement_seen y g.1)
    statement_seen (s.While' x q y) h = statement_seen y (subst NodeCalls (is.while_is x q y) h)
    statement_seen (s.Count' x k from to step q y) h = statement_seen y (subst NodeCalls (is.count_is x k from to step q y) h)
    statement_seen (s.Associate' xs q y) h = statement_seen y (subst NodeCalls (is.associate_is xs q y) h)

    statements_seen : {m : _} (xs : s.Row_of-Statement m) → NodesCall (statements_of (map statement_view (s.items-the_row-Statement m xs))) → AllCallPure pure xs
    statements_seen s.end_of-Statement h = tt
    statements_seen (s.more_of-Statement x rest) h = (statement_seen x h.0, statements_seen rest h.1)

  -- ---- actions

  pure_rows : (b : Bool) (xs : List Break) → b ≡ true → (if b then xs else []) ≡ [] → xs ≡ []
  pure_rows true xs e h = h
  pure_rows false xs e h = not_true e
    where
      not_true : false ≡ true → xs ≡ []
      not_true e = cc

  module _ (s : Surroundings) (ones : PureOnesArePure pure s) where
    move_calls : (list : List t.ArgumentTree) → NodeCalls (move s list)
    move_calls [] = tt
    move_calls (t.triplet q a b c ∷ list) = tt
    move_calls (t.value l e ∷ []) = tt
    move_calls (t.value l e ∷ t.triplet q a b c ∷ list) = tt
    move_calls (t.value l e ∷ t.value k f ∷ g ∷ list) = tt
    move_calls (t.value l e ∷ t.value k f ∷ []) = tt

    abbrev Called : Name → List t.ArgumentTree → Meaning → Type 0
    Called m list meaning = called_impure m meaning ≡ [] → NodeCalls (called s meaning list)

    call_calls : (m : Name) (list : List t.ArgumentTree) → called_impure m (meaning_of s.context m.symbol) ≡ [] → NodeCalls (called s (meaning_of s.context m.symbol) list)
    call_calls m list = by_look (look_here s.context m.symbol)
      where
        by_entity : (e : ℕ) (nature : Nature) → (s.context).nature e ≡ Some nature → Called m list (entity e nature)
        by_entity e (subroutine true ds) is h = ones e ds is
        by_entity e (subroutine false ds) is h = not_nil h
        by_entity e (constant w) is h = tt
        by_entity e (variable w) is h = tt
        by_entity e (derived home ks f) is h = tt
        by_entity e (function p ds w) is h = tt

        by_nature : (e : ℕ) (o : Option Nature) → (s.context).nature e ≡ o → Called m list (entity_or e o)
        by_nature e None is h = tt
        by_nature e (Some nature) is h = by_entity e nature is h

        by_intrinsic : (f : Intrinsic) → Called m list (intrinsic f)
        by_intrinsic i.MoveAlloc h = move_calls list
        by_intrinsic i.Abs h = tt
        by_intrinsic i.Mod h = tt
        by_intrinsic i.Modulo h = tt
        by_intrinsic i.Max h = tt
        by_intrinsic i.Min h = tt
        by_intrinsic i.Size h = tt
        by_intrinsic i.LowerBound h = tt
        by_intrinsic i.UpperBound h = tt
        by_intrinsic i.Allocated h = tt

        by_name : (o : Option Intrinsic) → Called m list (map_or nothing intrinsic o)
        by_name None h = tt
        by_name (Some f) h = by_intrinsic f h

        by_look : (l : Lookup) → Called m list (meaning_by s.context m.symbol l)
        by_look (One e) h = by_nature e ((s.context).nature e) refl h
        by_look Nothing h = by_name ((s.context).intrinsic m.symbol) h
        by_look Several h = tt

    action_calls : (place : Place) (act : a.Act) → impure s.context place act ≡ [] → NodeCalls (action s act)
    action_calls place (a.assign v e) h = tt
    action_calls place (a.call m list) h = call_calls m list h
    action_calls place (a.allocate vs stat) h = tt
    action_calls place (a.deallocate vs stat) h = tt
    action_calls place (a.print es) h = not_nil h
    action_calls place (a.stop code) h = not_nil h
    action_calls place a.return h = tt
    action_calls place a.cycle h = tt
    action_calls place a.exit h = tt
    action_calls place a.continue h = tt

    loop_calls : (control : a.Controls) (body : StatementNode) → NodeCalls body → NodeCalls (loop s control body)
    loop_calls a.forever body h = h
    loop_calls (a.while e) body h = h
    loop_calls (a.counted q first last step) body h = h

  -- ---- statements

  subroutine_outside : (o : Option Said) (m : Option Nature) (ds : List (ℕ × Dummy)) → map_or m (λ (s : Said). Some (associate_nature s)) o ≡ Some (subroutine true ds) → m ≡ Some (subroutine true ds)
  subroutine_outside None m ds e = e
  subroutine_outside (Some s) m ds e = cc

  ones_inside : (s : Surroundings) → PureOnesArePure pure s → (next : ℕ) (xs : List a.AssociationTree) → PureOnesArePure pure (inside s next xs)
  ones_inside s h next xs e ds is = h e ds (subroutine_outside (lookup (nat_eq e) (flat_map (associated s.context next) xs)) ((s.context).nature e) ds is)

  act_calls : (s : Surroundings) → PureOnesArePure pure s → (site : Site) → site.context ≡ s.context → site.is_pure ≡ true → (place : Place) (act : a.Act) → act_rows site place act ≡ [] → NodeCalls (action s act)
  act_calls s ones site same is_pure place act h =
      action_calls s ones place act (subst (λ (c : Context). impure c place act ≡ []) same
      (pure_rows site.is_pure _ is_pure (second (flat_map (definition_rows site) (defined site.context act)) _ (second (act_breaks site.context act) _ h))))

  mutual
    statement_calls : (y : a.StatementTree) (s : Surroundings) → PureOnesArePure pure s → (site : Site) → site.context ≡ s.context → site.is_pure ≡ true → (next : ℕ) → statement_breaks site next y ≡ [] → NodeCalls (statement s next y)
    statement_calls (a.acts q act) s ones site same p next h = act_calls s ones site same p q act h
    statement_calls (a.acts_if q e r act) s ones site same p next h = (act_calls s ones site same p r act (second (condition_breaks site.context e) _ h), tt)
    statement_calls (a.branches bs other) s ones site same p next h =
        branches_call bs s ones site same p next true _ (first _ _ h) (other_calls other s ones site same p (next + length (constructs_of_branches bs)) (second (branch_breaks site next bs) _ h))
    statement_calls (a.selects q e cs) s ones site same p next h = cases_call cs s ones site same p next nothing_done (second (select_breaks site.context e cs) _ h) tt
    statement_calls (a.repeats q control body) s ones site same p next h = loop_calls s ones control _ (block_calls body s ones (in_loop site control) same p next (second (control_rows site control) _ h))
    statement_calls (a.associates q xs body) s ones site same p next h =
        block_calls body (inside s next xs) (ones_inside s ones next xs) (site_inside next xs site) (ap (λ (c : Context). context_inside next (flat_map (associated c next) xs) c) same) p (next + 1)
        (second (selector_rows site xs) _ h)

    block_calls : (b : a.Block) (s : Surroundings) → PureOnesArePure pure s → (site : Site) → site.context ≡ s.context → site.is_pure ≡ true → (next : ℕ) → block_breaks site next b ≡ [] → NodesCall (block s next b)
    block_calls a.no_statements s ones site same p next h = tt
    block_calls (a.statements y b) s ones site same p next h =
        (statement_calls y s ones site same p next (first _ _ h), block_calls b s ones site same p (next + length (constructs_of y)) (second (statement_breaks site next y) _ h))

    branches_call : (bs : a.Branches) (s : Surroundings) → PureOnesArePure pure s → (site : Site) → site.context ≡ s.context → site.is_pure ≡ true → (next : ℕ) (begins : Bool) (otherwise : StatementNode) → branch_breaks site next bs ≡ [] → NodeCalls otherwise → NodeCalls (branches s next begins bs otherwise)
    branches_call a.no_branches s ones site same p next begins otherwise h k = k
    branches_call (a.branch q e b bs) s ones site same p next begins otherwise h k =
        let g = second (condition_breaks site.context e) _ h in (
          block_calls b s ones site same p next (first _ _ g),
          branches_call bs s ones site same p (next + length (constructs_of_block b)) false otherwise (second (block_breaks site next b) _ g) k,
        )

    other_calls : (other : a.Alternative) (s : Surroundings) → PureOnesArePure pure s → (site : Site) → site.context ≡ s.context → site.is_pure ≡ true → (next : ℕ) → other_breaks site next other ≡ [] → NodeCalls (alternative s next other)
    other_calls a.no_alternative s ones site same p next h = tt
    other_calls (a.alternative b) s ones site same p next h = block_calls b s ones site same p next h

    cases_call : (cs : a.Cases) (s : Surroundings) → PureOnesArePure pure s → (site : Site) → site.context ≡ s.context → site.is_pure ≡ true → (next : ℕ) (otherwise : StatementNode) → case_breaks site next cs ≡ [] → NodeCalls otherwise → NodeCalls (cases s next cs otherwise)
    cases_call a.no_cases s ones site same p next otherwise h k = k
    cases_call (a.case_block q (a.values vs) b cs) s ones site same p next otherwise h k =
        (block_calls b s ones site same p next (first _ _ h), cases_call cs s ones site same p (next + length (constructs_of_block b)) otherwise (second (block_breaks site next b) _ h) k)
    cases_call (a.case_block q a.default b cs) s ones site same p next otherwise h k =
        cases_call cs s ones site same p (next + length (constructs_of_block b)) _ (second (block_breaks site next b) _ h) (block_calls b s ones site same p next (first _ _ h))

pub blocks_call_pure : BlocksCallPure
blocks_call_pure pure s ones site same p next b h x seen =
    statement_seen pure x (subst (NodeCalls pure) (sym seen) (block_calls pure b s ones site same p next h))
