-- Statements that are elaborated refer to functions alone.
use Rattle.std.proofs.Common.{◌≡◌, ℕ, ◌+◌, Bool, true, false, List, [], ◌∷◌, Option, Some, None, map}
use Rattle.std.specs.Prelude.{pos, length, nat_eq}
use Rattle.std.specs.Map.{lookup}
use Rattle.std.specs.List.{flat_map}
use Rattle.std.specs.Option.{option_map}
use Rattle.f3_tree.specs.Expressions as t
use Rattle.f3_tree.specs.Statements as a
use Rattle.f3_program.specs.declared.declarations.Kind.{Kind}
use Rattle.f3_program.specs.declared.program.Program.{Program}
use Rattle.f3_kinds.specs.declared.said.Said.{Said}
use Rattle.f3_kinds.specs.declared.types.Object.{Object}
use Rattle.f3_kinds.specs.declared.things.Dummy.{Dummy}
use Rattle.f3_kinds.specs.declared.things.Intrinsic.TheVariants as i
use Rattle.f3_kinds.specs.Things.{map_or, Nature, constant, variable, derived, subroutine, function, Meaning, nothing, several, intrinsic, entity, meaning_of}
use Rattle.f3_type_rules.specs.Associates.{associated, associate_nature, constructs_of, constructs_of_branches, constructs_of_block}
use Rattle.f3_type_rules.specs.Statements.{variable_of}
use Rattle.f3_meaning_whole.specs.Permitted.{Each}
use Rattle.f3_elaboration.specs.Nodes as n
use Rattle.f3_elaboration.specs.Nodes.{ExpressionNode, StatementNode}
use Rattle.f3_elaboration.specs.Context.{Surroundings, inside}
use Rattle.f3_elaboration.specs.Expressions as x
use Rattle.f3_elaboration.specs.Expressions.{Given, Part, given_in, expression, parts, given, itself, or_one, number}
use Rattle.f3_elaboration.specs.Actions.{named_by, variable as place, allocatable, move, called, unbounded, last_given, bounds, request, item, action, nothing_done, kind}
use Rattle.f3_elaboration.specs.Statements.{selected, selector, loop, statement, block, branches, alternative, cases}
use Rattle.f3_reference_laws.proofs.Nodes.{NodeRefers, PlaceRefers, StatNodeRefers, BoundsNodeRefer, RequestNodeRefers, ItemNodeRefers, SelectorNodeRefers, DoneRefers, AllDoneRefer}
use Rattle.f3_reference_laws.proofs.Walking.{FunctionsAre, GivenRefers, AllGivenRefer, PartsRefer, in_refers, one_refers, itself_refers, arguments_refer, expression_refers, parts_refer, given_refer}

-- an associate name is a variable
function_outside : (o : Option Said) (m : Option Nature) (pure : Bool) (ds : List (ℕ × Dummy)) (w : Object) → map_or m (λ (s : Said). Some (associate_nature s)) o ≡ Some (function pure ds w)
    → m ≡ Some (function pure ds w)
function_outside None m pure ds w e = e
function_outside (Some s) m pure ds w e = cc

functions_inside : (p : Program) (s : Surroundings) → FunctionsAre p s → (next : ℕ) (xs : List a.AssociationTree) → FunctionsAre p (inside s next xs)
functions_inside p s h next xs e pure ds w is = h e pure ds w (function_outside (lookup (nat_eq e) (flat_map (associated s.context next) xs)) ((s.context).nature e) pure ds w is)

module _ (p : Program) where
  named_refers : (e : ExpressionNode) → NodeRefers p e → PlaceRefers p (named_by e)
  named_refers (n.variable d) h = h
  named_refers (n.literal c) h = tt
  named_refers (n.group e) h = tt
  named_refers (n.unary f g e) h = tt
  named_refers (n.binary f g e y) h = tt
  named_refers (n.array xs) h = tt
  named_refers (n.structure t xs) h = tt
  named_refers (n.reference f xs) h = tt
  named_refers (n.allocated d) h = tt
  named_refers (n.size y) h = tt
  named_refers (n.bound f y z) h = tt

  bounds_refer : (g : Given) → GivenRefers p g → BoundsNodeRefer p (bounds g)
  bounds_refer (x.value k e) h = (tt, h)
  bounds_refer (x.triplet a b c) h = (one_refers p a h.0, one_refers p b h.1)

  all_bounds_refer : (gs : List Given) → AllGivenRefer p gs → Each (BoundsNodeRefer p) (map bounds gs)
  all_bounds_refer [] h = tt
  all_bounds_refer (g ∷ gs) h = (bounds_refer g h.0, all_bounds_refer gs h.1)

  last_refer : (ps : List Part) → PartsRefer p ps → AllGivenRefer p (last_given ps)
  last_refer [] h = tt
  last_refer (q ∷ []) h = in_refers p q.1 h.0
  last_refer (q ∷ y ∷ ps) h = last_refer (y ∷ ps) h.1

  selected_refers : (k : Kind) (e : ExpressionNode) → NodeRefers p e → SelectorNodeRefers p (selected k e)
  selected_refers k (n.variable d) h = h
  selected_refers k (n.literal c) h = h
  selected_refers k (n.group e) h = h
  selected_refers k (n.unary f g e) h = h
  selected_refers k (n.binary f g e y) h = h
  selected_refers k (n.array xs) h = h
  selected_refers k (n.structure t xs) h = h
  selected_refers k (n.reference f xs) h = h
  selected_refers k (n.allocated d) h = h
  selected_refers k (n.size y) h = h
  selected_refers k (n.bound f y z) h = h

  -- ---- actions

  module _ (s : Surroundings) (functions : FunctionsAre p s) where
    value_refers : (e : t.Tree) → NodeRefers p (expression s e)
    value_refers e = expression_refers p s functions e

    place_refers : (v : t.Parts) → PlaceRefers p (place s v)
    place_refers v = named_refers (expression s (t.designator v)) (value_refers (t.designator v))

    allocatable_refers : (e : t.Tree) → PlaceRefers p (allocatable s e)
    allocatable_refers e = itself_refers p (named_by (expression s e)) (named_refers (expression s e) (value_refers e))

    move_refers : (list : List t.ArgumentTree) → DoneRefers p (move s list)
    move_refers [] = tt
    move_refers (t.triplet q a b c ∷ list) = tt
    move_refers (t.value l e ∷ []) = tt
    move_refers (t.value l e ∷ t.triplet q a b c ∷ list) = tt
    move_refers (t.value l e ∷ t.value k f ∷ g ∷ list) = tt
    move_refers (t.value l e ∷ t.value k f ∷ []) = (allocatable_refers e, allocatable_refers f)

    called_refers : (m : Meaning) (list : List t.ArgumentTree) → DoneRefers p (called s m list)
    called_refers (entity e (subroutine pure ds)) list = arguments_refer p ds 0 (given s (t.arguments_of list)) (given_refer p s functions (t.arguments_of list))
    called_refers (entity e (constant w)) list = tt
    called_refers (entity e (variable w)) list = tt
    called_refers (entity e (derived home ks f)) list = tt
    called_refers (entity e (function pure ds w)) list = tt
    called_refers (intrinsic i.MoveAlloc) list = move_refers list
    called_refers (intrinsic i.Abs) list = tt
    called_refers (intrinsic i.Mod) list = tt
    called_refers (intrinsic i.Modulo) list = tt
    called_refers (intrinsic i.Max) list = tt
    called_refers (intrinsic i.Min) list = tt
    called_refers (intrinsic i.Size) list = tt
    called_refers (intrinsic i.LowerBound) list = tt
    called_refers (intrinsic i.UpperBound) list = tt
    called_refers (intrinsic i.Allocated) list = tt
    called_refers nothing list = tt
    called_refers several list = tt

    request_refers : (v : t.Parts) → RequestNodeRefers p (request s v)
    request_refers v = (itself_refers p (place s (unbounded v)) (place_refers (unbounded v)), all_bounds_refer (last_given (parts s v)) (last_refer (parts s v) (parts_refer p s functions v)))

    requests_refer : (vs : List t.Parts) → Each (RequestNodeRefers p) (map (request s) vs)
    requests_refer [] = tt
    requests_refer (v ∷ vs) = (request_refers v, requests_refer vs)

    stat_refers : (stat : Option t.Parts) → StatNodeRefers p (option_map (place s) stat)
    stat_refers None = tt
    stat_refers (Some v) = place_refers v

    item_refers : (e : t.Tree) → ItemNodeRefers p (item s e)
    item_refers (t.text q k) = tt
    item_refers (t.integer q z) = value_refers (t.integer q z)
    item_refers (t.truth q b) = value_refers (t.truth q b)
    item_refers (t.designator ps) = value_refers (t.designator ps)
    item_refers (t.group q e) = value_refers (t.group q e)
    item_refers (t.array q es) = value_refers (t.array q es)
    item_refers (t.signed q z e) = value_refers (t.signed q z e)
    item_refers (t.negation q e) = value_refers (t.negation q e)
    item_refers (t.comparison e r f) = value_refers (t.comparison e r f)
    item_refers (t.chain e os) = value_refers (t.chain e os)

    items_refer : (es : List t.Tree) → Each (ItemNodeRefers p) (map (item s) es)
    items_refer [] = tt
    items_refer (e ∷ es) = (item_refers e, items_refer es)

    action_refers : (act : a.Act) → DoneRefers p (action s act)
    action_refers (a.assign v e) = (itself_refers p (place s v) (place_refers v), value_refers e)
    action_refers (a.call m list) = called_refers (meaning_of s.context m.symbol) list
    action_refers (a.allocate vs stat) = (requests_refer vs, stat_refers stat)
    action_refers (a.deallocate vs stat) = (requests_refer vs, stat_refers stat)
    action_refers (a.print es) = items_refer es
    action_refers (a.stop code) = tt
    action_refers a.return = tt
    action_refers a.cycle = tt
    action_refers a.exit = tt
    action_refers a.continue = tt

    selectors_refer : (xs : List a.AssociationTree) → Each (SelectorNodeRefers p) (map (selector s) xs)
    selectors_refer [] = tt
    selectors_refer (y ∷ xs) = (selected_refers (kind s y.selector) (expression s y.selector) (value_refers y.selector), selectors_refer xs)

    step_refers : (o : Option t.Tree) → NodeRefers p (map_or (number (pos 1)) (expression s) o)
    step_refers None = tt
    step_refers (Some e) = value_refers e

    loop_refers : (control : a.Controls) (body : StatementNode) → DoneRefers p body → DoneRefers p (loop s control body)
    loop_refers a.forever body h = (tt, h)
    loop_refers (a.while e) body h = (value_refers e, h)
    loop_refers (a.counted v first last step) body h = (place_refers (variable_of v), value_refers first, value_refers last, step_refers step, h)

  -- ---- statements

  mutual
    statement_refers : (y : a.StatementTree) (s : Surroundings) → FunctionsAre p s → (next : ℕ) → DoneRefers p (statement s next y)
    statement_refers (a.acts q act) s f next = action_refers s f act
    statement_refers (a.acts_if q e r act) s f next = (value_refers s f e, action_refers s f act, tt)
    statement_refers (a.branches bs other) s f next = branches_refer bs s f next true _ (other_refers other s f (next + length (constructs_of_branches bs)))
    statement_refers (a.selects q e cs) s f next = (value_refers s f e, cases_refer cs s f next nothing_done tt)
    statement_refers (a.repeats q control body) s f next = loop_refers s f control _ (block_refers body s f next)
    statement_refers (a.associates q xs body) s f next = (selectors_refer s f xs, block_refers body (inside s next xs) (functions_inside p s f next xs) (next + 1))

    pub block_refers : (b : a.Block) (s : Surroundings) → FunctionsAre p s → (next : ℕ) → AllDoneRefer p (block s next b)
    block_refers a.no_statements s f next = tt
    block_refers (a.statements y b) s f next = (statement_refers y s f next, block_refers b s f (next + length (constructs_of y)))

    branches_refer : (bs : a.Branches) (s : Surroundings) → FunctionsAre p s → (next : ℕ) (begins : Bool) (otherwise : StatementNode) → DoneRefers p otherwise → DoneRefers p (branches s next begins bs otherwise)
    branches_refer a.no_branches s f next begins otherwise h = h
    branches_refer (a.branch q e b bs) s f next begins otherwise h =
        (value_refers s f e, block_refers b s f next, branches_refer bs s f (next + length (constructs_of_block b)) false otherwise h)

    other_refers : (other : a.Alternative) (s : Surroundings) → FunctionsAre p s → (next : ℕ) → DoneRefers p (alternative s next other)
    other_refers a.no_alternative s f next = tt
    other_refers (a.alternative b) s f next = block_refers b s f next

    cases_refer : (cs : a.Cases) (s : Surroundings) → FunctionsAre p s → (next : ℕ) (otherwise : StatementNode) → DoneRefers p otherwise → DoneRefers p (cases s next cs otherwise)
    cases_refer a.no_cases s f next otherwise h = h
    cases_refer (a.case_block q (a.values vs) b cs) s f next otherwise h = (block_refers b s f next, cases_refer cs s f (next + length (constructs_of_block b)) otherwise h)
    cases_refer (a.case_block q a.default b cs) s f next otherwise h = cases_refer cs s f (next + length (constructs_of_block b)) _ (block_refers b s f next)
