-- A statement in memory may do what its data may do.
use Rattle.std.proofs.Common.{◌≡◌, true, List, [], ◌∷◌, Option, Some, None, map, refl, ap, ◌∙◌, false}
use Rattle.std.specs.Option.{option_map}
use mathlib.Core.Path.{subst}
use Rattle.f3_program.specs.declared.declarations.Kind.{Kind}
use Rattle.f3_program.specs.declared.expression.Designator as d
use Rattle.f3_program.specs.declared.statement.Bounds.{Bounds}
use Rattle.f3_program.specs.declared.statement.Item.{Item}
use Rattle.f3_program.specs.declared.statement.Item.TheVariants as item
use Rattle.f3_program.specs.declared.statement.Request.{Request}
use Rattle.f3_program.specs.declared.statement.Selector.{Selector}
use Rattle.f3_program.specs.declared.statement.Selector.TheVariants as selector
use Rattle.f3_program.specs.declared.statement.Statement as s
use Rattle.f3_program.specs.declared.program.Program.{Program}
use Rattle.f3_meaning_whole.specs.Permitted.{Each, Lendable, Scope, same_type, naming, MayDefine, MayDefineAs, MayStat, MayBound, MayRequest, MayItem, MayBe}
use Rattle.f3_meaning_whole.specs.Permitted.{MayExec, MayBlock}
use Rattle.f3_meaning_whole.specs.Permitted as permitted
use Rattle.f3_elaboration.specs.Nodes.{StatementNode}
use Rattle.f3_elaboration.specs.Views.{designator_view, bounds_view, request_view, item_view, selector_view, statement_view, statements_of}
use Rattle.f3_elaboration.proofs.Views as v
use Rattle.f3_lawful_laws.specs.Nodes.{NodeDefines, NodeDefinesAs, NodeStat, NodeBounds, NodeRequest, NodeItem, NodeSelector, names_by, NodeRuns, NodesRun}
use Rattle.f3_lawful_laws.proofs.Primed as is
use Rattle.f3_lawful_laws.proofs.SeenExpressions.{designated_seen, value_seen, locate_seen}

pub each_seen : {A B : Type 0} (P : B → Type 0) (Q : A → Type 0) (f : A → B) → ((x : A) → P (f x) → Q x) → (xs : List A) → Each P (map f xs) → Each Q xs
each_seen P Q f g [] h = tt
each_seen P Q f g (x ∷ xs) h = (g x h.0, each_seen P Q f g xs h.1)

module _ (p : Program) (scope : Scope) where
  defines_seen : (x : d.Designator) → NodeDefines p scope (designator_view x) → MayDefine p scope x
  defines_seen x h = (locate_seen p scope x h.0, subst (λ (m : Lendable). m.may_define ≡ true) (designated_seen p scope x) h.1)

  defines_as_seen : (k : Kind) (x : d.Designator) → NodeDefinesAs p scope k (designator_view x) → MayDefineAs p scope k x
  defines_as_seen k x h = (defines_seen x h.0, subst (λ (m : Lendable). same_type m.of k.of ≡ true) (designated_seen p scope x) h.1)

  stat_seen : (x : Option d.Designator) → NodeStat p scope (option_map designator_view x) → MayStat p scope x
  stat_seen None h = tt
  stat_seen (Some x) h = defines_seen x h

  bound_seen : (b : Bounds) → NodeBounds p scope (bounds_view b) → MayBound p scope b
  bound_seen b h = (value_seen p scope b.lower h.0, value_seen p scope b.upper h.1)

  request_seen : (r : Request) → NodeRequest p scope (request_view r) → MayRequest p scope r
  request_seen r h = (
    defines_as_seen r.kind r.object h.0,
    each_seen (NodeBounds p scope) (MayBound p scope) bounds_view bound_seen r.bounds.items h.1,
  )

  item_seen : (x : Item) → NodeItem p scope (item_view x) → MayItem p scope x
  item_seen (item.Value x) h = value_seen p scope x h
  item_seen (item.Text t) h = tt

  selector_seen : (x : Selector) → NodeSelector p scope (selector_view x) → MayBe p scope x
  selector_seen (selector.Variable x) h = locate_seen p scope x h
  selector_seen (selector.Value k x) h = value_seen p scope x h

  names_seen : (xs : List Selector) → names_by p scope (map selector_view xs) ≡ permitted.names_by p scope xs
  names_seen [] = refl
  names_seen (selector.Variable x ∷ xs) =
      ap (λ (m : Lendable). m ∷ names_by p scope (map selector_view xs)) (designated_seen p scope x) ∙ ap (λ ms. permitted.designated p scope x ∷ ms) (names_seen xs)
  names_seen (selector.Value k x ∷ xs) = ap (λ ms. record { may_define = false; of = k.of } ∷ ms) (names_seen xs)

module _ (p : Program) where
  abbrev Runs : Scope → StatementNode → Type 0
  Runs scope x = NodeRuns p x scope

  mutual
    pub statement_seen : (x : s.Statement) (scope : Scope) → NodeRuns p (statement_view x) scope → MayExec p x scope
    statement_seen (s.At' place b q x) scope h = statement_seen x scope (subst (Runs scope) (is.at_is place b q x) h)
    statement_seen (s.Block' k xs) scope h = statements_seen xs scope (subst (Runs scope) (is.block_is k xs) h)
    statement_seen (s.Assign x k y) scope h =
        let g = subst (Runs scope) (v.view_assign x k y) h in (defines_as_seen p scope k x g.0, value_seen p scope y g.1)
    statement_seen (s.Call x) scope h = value_seen p scope x (subst (Runs scope) (v.view_call x) h)
    statement_seen (s.MoveAlloc k b x y) scope h =
        let g = subst (Runs scope) (v.view_move_alloc k b x y) h in (defines_as_seen p scope k x g.0, defines_as_seen p scope k y g.1)
    statement_seen (s.Allocate rs stat) scope h =
        let g = subst (Runs scope) (v.view_allocate rs stat) h in (each_seen (NodeRequest p scope) (MayRequest p scope) request_view (request_seen p scope) rs.items g.0, stat_seen p scope stat g.1)
    statement_seen (s.Deallocate rs stat) scope h =
        let g = subst (Runs scope) (v.view_deallocate rs stat) h in (each_seen (NodeRequest p scope) (MayRequest p scope) request_view (request_seen p scope) rs.items g.0, stat_seen p scope stat g.1)
    statement_seen (s.Print xs) scope h = each_seen (NodeItem p scope) (MayItem p scope) item_view (item_seen p scope) xs.items (subst (Runs scope) (v.view_print xs) h)
    statement_seen (s.Stop code) scope h = tt
    statement_seen s.Return scope h = tt
    statement_seen s.Cycle scope h = tt
    statement_seen s.Exit scope h = tt
    statement_seen (s.If' x q y r z) scope h =
        let g = subst (Runs scope) (is.branch_is x q y r z) h in (value_seen p scope x g.0, statement_seen y scope g.1, statement_seen z scope g.2)
    statement_seen (s.Select' x q y) scope h =
        let g = subst (Runs scope) (is.select_is x q y) h in (value_seen p scope x g.0, statement_seen y scope g.1)
    statement_seen (s.Case' rs q x r y) scope h =
        let g = subst (Runs scope) (is.case_is rs q x r y) h in (statement_seen x scope g.0, statement_seen y scope g.1)
    statement_seen (s.While' x q y) scope h =
        let g = subst (Runs scope) (is.while_is x q y) h in (value_seen p scope x g.0, statement_seen y scope g.1)
    statement_seen (s.Count' x k from to step q y) scope h =
        let g = subst (Runs scope) (is.count_is x k from to step q y) h in
        (defines_seen p scope x g.0, value_seen p scope from g.1, value_seen p scope to g.2, value_seen p scope step g.3, statement_seen y scope g.4)
    statement_seen (s.Associate' xs q y) scope h =
        let g = subst (Runs scope) (is.associate_is xs q y) h in (
          each_seen (NodeSelector p scope) (MayBe p scope) selector_view (selector_seen p scope) xs.items g.0,
          statement_seen y (naming (permitted.names_by p scope xs.items) scope)
              (subst (λ (ms : List Lendable). NodeRuns p (statement_view y) (naming ms scope)) (names_seen p scope xs.items) g.1),
        )

    statements_seen : {m : _} (xs : s.Row_of-Statement m) (scope : Scope)
        → NodesRun p (statements_of (map statement_view (s.items-the_row-Statement m xs))) scope → MayBlock p xs scope
    statements_seen s.end_of-Statement scope h = tt
    statements_seen (s.more_of-Statement x rest) scope h = (statement_seen x scope h.0, statements_seen rest scope h.1)
