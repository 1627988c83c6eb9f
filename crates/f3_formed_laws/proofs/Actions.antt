-- Actions that break no rule make sense.
use Rattle.std.proofs.Common.{◌≡◌, ℕ, Bool, true, ◌&&◌, ◌||◌, List, [], ◌∷◌, ◌++◌, map, Option, Some, None, refl, sym, ap, ◌∙◌}
use Rattle.std.specs.Prelude.{◌==◌}
use Rattle.std.specs.Option.{option_map}
use Rattle.std.specs.List.{flat_map}
use Rattle.f3_places.specs.declared.source.Place.{Place}
use Rattle.f3_rules.specs.declared.rule.Rule.TheVariants.{T6}
use Rattle.f3_lookups.specs.declared.lookup.Lookup.{Lookup}
use Rattle.f3_lookups.specs.declared.lookup.Lookup.TheVariants.{One, Nothing, Several}
use Rattle.f3_tree.specs.declared.expression.Name.{Name}
use Rattle.f3_tree.specs.Expressions as t
use Rattle.f3_tree.specs.Statements as a
use Rattle.f3_program.specs.declared.declarations.Base.{Base}
use Rattle.f3_program.specs.declared.declarations.Base.TheVariants as base_is
use Rattle.f3_program.specs.declared.declarations.Declared.{Declared}
use Rattle.f3_program.specs.declared.declarations.Kind.{Kind}
use Rattle.f3_program.specs.declared.program.Program.{Program}
use Rattle.f3_kinds.specs.declared.types.DataType.{DataType}
use Rattle.f3_kinds.specs.declared.types.Wanted.TheVariants as wanted
use Rattle.f3_kinds.specs.declared.said.Given.{Given}
use Rattle.f3_kinds.specs.declared.said.Given.TheVariants.{Value}
use Rattle.f3_kinds.specs.declared.said.Has.{Has}
use Rattle.f3_kinds.specs.declared.said.Role.TheVariants as role
use Rattle.f3_kinds.specs.declared.things.Dummy.{Dummy}
use Rattle.f3_kinds.specs.declared.things.Intrinsic.{Intrinsic}
use Rattle.f3_kinds.specs.declared.things.Intrinsic.TheVariants as i
use Rattle.f3_kinds.specs.Things.{Nature, constant, variable, derived, subroutine, function, Meaning, nothing, intrinsic, entity, entity_or, meaning_by, meaning_of}
use Rattle.f3_kinds.specs.Things.{look_here, map_or}
use Rattle.f3_kinds.specs.Rows.{unless, at_place, is_known, has_type, has_fits, is_intrinsic_type, scalar_rows, type_fits}
use Rattle.f3_kinds.specs.Operands.{type_in}
use Rattle.f3_kinds.specs.Calls.{no_match, argument_rows, argument_fits, is_complete, type_takes}
use Rattle.f3_kinds.specs.Typing.{said, said_arguments, breaks, breaks_arguments, designator_at, designator_breaks}
use Rattle.f3_meaning_whole.specs.Permitted.{Each, same_type}
use Rattle.f3_meaning_whole.specs.Formed.{all, alike, of_kind, some, takes, is_whole_number, is_number, same_kind}
use Rattle.f3_type_rules.specs.Statements.{act_breaks, called_rows, item_breaks, item_rows, number_defined, assigned_has, moving_dummies}
use Rattle.f3_type_rules.specs.Definitions.{Site, definition_rows, defined, call_defined, value_given}
use Rattle.f3_elaboration.specs.Nodes as n
use Rattle.f3_elaboration.specs.Nodes.{ExpressionNode, RequestNode}
use Rattle.f3_elaboration.specs.Context.{Surroundings, base}
use Rattle.f3_elaboration.specs.Expressions as x
use Rattle.f3_elaboration.specs.Expressions.{arguments_for, given, expression, itself}
use Rattle.f3_elaboration.specs.Actions.{called, move, item, action, request, kind, kind_by, held_kind, named_by, variable as named_variable}
use Rattle.f3_lawful_laws.specs.Written.{IsWritten, IsVariableWritten, IsStatWritten, IsActWritten}
use Rattle.f3_lawful_laws.proofs.Facts.{no, first, second, holds, both, left, right, when_true, none_before, none_behind}
use Rattle.f3_lawful_laws.proofs.Typed.{fit}
use Rattle.f3_formed_laws.specs.Nodes.{value_kind, object_kind, is_formed, is_request, has_bounds, is_status, is_object_of, is_item}
use Rattle.f3_formed_laws.specs.Levels.{IsLevelled, ArePartsLevelled, IsStatLevelled, IsActLevelled}
use Rattle.f3_formed_laws.specs.Agreement.{AgreesInKinds}
use Rattle.f3_formed_laws.proofs.Bases.{takes_alike, alike_back, alike_through}
use Rattle.f3_formed_laws.proofs.Alike.{IsOf, AreGiven}
use Rattle.f3_formed_laws.proofs.Scalars.{typed_of, type_wanted}
use Rattle.f3_formed_laws.proofs.Operators.{type_number}
use Rattle.f3_formed_laws.proofs.Passing.{reference_is}
use Rattle.f3_formed_laws.proofs.Expressions.{expression_is, arguments_are}
use Rattle.f3_formed_laws.proofs.Variables.{Named, named}
use Rattle.f3_formed_laws.proofs.Targets.{Target, target, defined_variable}
use Rattle.f3_formed_laws.proofs.Requests.{Requested, request_is, kind_itself}
use Rattle.f3_formed_laws.proofs.Moving.{Alike, alike_moved, is_allocatable_of}

module _ (p : Program) (vs : List Declared) (ns : List Kind) (s : Surroundings) (agrees : AgreesInKinds p vs ns s) where
  -- ---- assignment

  taken_by : (v e : Has) (of : Base) → has_type (Some v) ≡ true → has_type (Some e) ≡ true → alike of (base s e.data_type) ≡ true → (place : Place)
      → assigned_has place (Some v) (Some e) ≡ [] → takes (kind_by s (Some v)) (of_kind of e.rank) ≡ true
  taken_by v e of t u a place rows =
      let own = sym (when_true (has_type (Some v) && has_type (Some e)) _ _ (both _ _ t u)) ∙ rows in
      both _ _
      (alike_through (base s v.data_type) (base s e.data_type) of (takes_alike s.type v.data_type e.data_type t u (holds (type_takes v.data_type e.data_type) _ (first _ _ own)))
      (alike_back of (base s e.data_type) a))
      (holds ((e.rank == 0) || (e.rank == v.rank)) _ (second (unless (type_takes v.data_type e.data_type) _) _ own))

  value_taken : (o : Option Has) (x : ExpressionNode) (oe : Option Has) → has_type o ≡ true → IsOf p vs ns s x oe → (place : Place) → assigned_has place o oe ≡ []
      → some (value_kind p vs ns x) (takes (kind_by s o)) ≡ true
  value_taken None x oe t h place rows = no (sym t)
  value_taken (Some v) x None t h place rows = absurd h
  value_taken (Some v) x (Some e) t h place rows =
      ap (λ k. some k (takes (kind_by s (Some v)))) h.value ∙ taken_by v e h.of t h.typed h.alike_to place rows

  object_of : (x : ExpressionNode) (o : Option Has) → Named p vs ns s x o → is_object_of p vs ns (kind_by s o) (itself (named_by x)) ≡ true
  object_of x o h = ap (λ k. some k (same_kind p vs ns (kind_by s o))) h.itself_is ∙ kind_itself p vs ns (kind_by s o)

  -- ---- a whole number that is defined

  number_held : (o : Option Has) → has_fits wanted.Integer o ≡ true → is_whole_number (held_kind (kind_by s o)) ≡ true
  number_held None f = no (sym f)
  number_held (Some h) f = both _ _ (right (type_fits wanted.Integer h.data_type) _ f) (type_number p vs ns s (Some h) f)

  module _ (site : Site) (here : site.context ≡ s.context) where
    number_target : (v : t.Parts) (h : Target p vs ns s agrees site here v) → scalar_rows wanted.Integer (designator_at s.context role.Variable v) ≡ []
        → is_whole_number (held_kind (kind s (t.designator v))) ≡ true
    number_target v h rows =
        number_held (said s.context (t.designator v)).has
        (ap (has_fits wanted.Integer) (sym h.said_is)
        ∙ fit wanted.Integer (designator_at s.context role.Variable v)
        (ap has_type h.said_is ∙ typed_of p vs ns s (expression s (t.designator v)) (said s.context (t.designator v)).has h.is) rows)

    named_target : (v : t.Parts) → Target p vs ns s agrees site here v → Named p vs ns s (expression s (t.designator v)) (said s.context (t.designator v)).has
    named_target v h = named p vs ns s (expression s (t.designator v)) (said s.context (t.designator v)).has h.is h.is_variable

    -- a scalar integer variable
    pub record Number (v : t.Parts) : Type 0 where
      pub whole : is_whole_number (held_kind (kind s (t.designator v))) ≡ true
      pub kind_is : object_kind p vs ns (named_variable s v) ≡ Some (held_kind (kind s (t.designator v)))

    pub number_of : (v : t.Parts) → IsVariableWritten v → ArePartsLevelled v → number_defined s.context v ≡ [] → definition_rows site (designator_at s.context role.Variable v) ≡ []
        → Number v
    number_of v w l b free =
        let h : Target p vs ns s agrees site here v = target p vs ns s agrees site here v w l (first _ _ b) free in
        record { whole = number_target v h (second (designator_breaks s.context role.Variable v) _ b); kind_is = (named_target v h).kind }

    status_is : (stat : Option t.Parts) → IsStatWritten stat → IsStatLevelled stat → map_or [] (number_defined s.context) stat ≡ []
        → flat_map (definition_rows site) (map_or [] (λ (v : t.Parts). designator_at s.context role.Variable v ∷ []) stat) ≡ []
        → is_status p vs ns (option_map (named_variable s) stat) ≡ true
    status_is None w l b free = refl
    status_is (Some v) w l b free =
        let h : Number v = number_of v w l b (first _ _ free) in
        ap (λ o. some o is_whole_number) h.kind_is ∙ h.whole

    -- ---- ALLOCATE and DEALLOCATE

    allocations_are : (targets : List t.Parts) → Each IsVariableWritten targets → Each ArePartsLevelled targets → flat_map (designator_breaks s.context role.Allocated) targets ≡ []
        → flat_map (definition_rows site) (map (designator_at s.context role.Allocated) targets) ≡ []
        → all (λ r. is_request p vs ns r && has_bounds p vs ns r) (map (request s) targets) ≡ true
    allocations_are [] w l b free = refl
    allocations_are (v ∷ rest) w l b free =
        let h : Requested p vs ns s agrees role.Allocated v = request_is p vs ns s agrees site here role.Allocated tt v w.0 l.0 (first _ _ b) (first _ _ free) in
        both (is_request p vs ns (request s v) && has_bounds p vs ns (request s v)) _ (both _ _ h.is (h.counted refl))
        (allocations_are rest w.1 l.1 (second (designator_breaks s.context role.Allocated v) _ b) (second (definition_rows site (designator_at s.context role.Allocated v)) _ free))

    deallocations_are : (targets : List t.Parts) → Each IsVariableWritten targets → Each ArePartsLevelled targets → flat_map (designator_breaks s.context role.Deallocated) targets ≡ []
        → flat_map (definition_rows site) (map (designator_at s.context role.Deallocated) targets) ≡ [] → all (is_request p vs ns) (map (request s) targets) ≡ true
    deallocations_are [] w l b free = refl
    deallocations_are (v ∷ rest) w l b free =
        let h : Requested p vs ns s agrees role.Deallocated v = request_is p vs ns s agrees site here role.Deallocated tt v w.0 l.0 (first _ _ b) (first _ _ free) in
        both (is_request p vs ns (request s v)) _ h.is
        (deallocations_are rest w.1 l.1 (second (designator_breaks s.context role.Deallocated v) _ b) (second (definition_rows site (designator_at s.context role.Deallocated v)) _ free))

    -- ---- CALL

    subroutine_is : (e : ℕ) (pure : Bool) (ds : List (ℕ × Dummy)) (gs : List x.Given) (ys : List Given) → (s.context).nature e ≡ Some (subroutine pure ds)
        → AreGiven p vs ns s gs ys → argument_rows ds 0 ys no_match ≡ [] → is_complete ds ys ≡ true
        → is_formed p vs (n.call (n.reference (s.procedure e) (arguments_for ds 0 gs))) ns ≡ true
    subroutine_is e pure ds gs ys nature h rows complete =
        ap (λ k. some k (λ k. true))
        (reference_is p vs ns s e ds (agrees.subroutines e pure ds nature) gs ys (agrees.known.natures e (subroutine pure ds) nature) h rows complete)

    two_are : (l1 : Option Name) (e : t.Tree) (l2 : Option Name) (f : t.Tree) → IsOf p vs ns s (expression s e) (said s.context e).has
        → IsOf p vs ns s (expression s f) (said s.context f).has
        → argument_rows (moving_dummies (s.context).moving (Value l1 (said s.context e) ∷ Value l2 (said s.context f) ∷ [])) 0
        (Value l1 (said s.context e) ∷ Value l2 (said s.context f) ∷ []) no_match ≡ []
        → definition_rows site (said s.context e) ≡ [] → definition_rows site (said s.context f) ≡ []
        → is_formed p vs (move s (t.value l1 e ∷ t.value l2 f ∷ [])) ns ≡ true
    two_are l1 e l2 f h k rows free1 free2 =
        let ds : List (ℕ × Dummy) = moving_dummies (s.context).moving (Value l1 (said s.context e) ∷ Value l2 (said s.context f) ∷ []) in
        let t1 = typed_of p vs ns s (expression s e) (said s.context e).has h in
        let t2 = typed_of p vs ns s (expression s f) (said s.context f).has k in
        let a : Alike s (s.context).moving l1 (said s.context e) l2 (said s.context f) =
        alike_moved s (s.context).moving l1 (said s.context e) l2 (said s.context f) t1 t2 (holds _ _ (first _ _ rows))
        (holds _ _ (first _ _ (second (unless (argument_fits ds 0 (Value l1 (said s.context e)) no_match) _) _ rows))) in
        let first_is = object_of (expression s e) (said s.context e).has (named p vs ns s (expression s e) (said s.context e).has h (defined_variable site (said s.context e) t1 free1)) in
        let second_is = object_of (expression s f) (said s.context f).has (named p vs ns s (expression s f) (said s.context f).has k (defined_variable site (said s.context f) t2 free2)) in
        both _ _ (held_by_kind (said s.context e).has a.first)
        (both _ _ first_is (ap (λ z. is_object_of p vs ns z (itself (named_by (expression s f)))) a.kinds ∙ second_is))
      where
        held_by_kind : (o : Option Has) → is_allocatable_of o ≡ true → (kind_by s o).is_allocatable ≡ true
        held_by_kind None f = no (sym f)
        held_by_kind (Some h) f = left _ _ f

    moves : (m : Name) (list : List t.ArgumentTree) → AreGiven p vs ns s (given s (t.arguments_of list)) (said_arguments s.context (t.arguments_of list))
        → called_rows (s.context).moving m (intrinsic i.MoveAlloc) (said_arguments s.context (t.arguments_of list)) ≡ []
        → flat_map (definition_rows site) (flat_map value_given (said_arguments s.context (t.arguments_of list))) ≡ [] → is_formed p vs (move s list) ns ≡ true
    moves m [] h rows free = refl
    moves m (t.triplet q a b c ∷ list) h rows free = refl
    moves m (t.value l e ∷ []) h rows free = refl
    moves m (t.value l e ∷ t.triplet q a b c ∷ list) h rows free = refl
    moves m (t.value l e ∷ t.value k f ∷ g ∷ list) h rows free = refl
    moves m (t.value l e ∷ t.value k f ∷ []) h rows free =
        two_are l e k f h.0.1 h.1.0.1 (first _ _ rows) (first _ _ free) (first _ _ (second (definition_rows site (said s.context e)) _ free))

    -- by what the name means
    abbrev Called : Name → List t.ArgumentTree → Meaning → Type 0
    Called m list meaning =
        called_rows (s.context).moving m meaning (said_arguments s.context (t.arguments_of list)) ≡ []
        → flat_map (definition_rows site) (call_defined meaning (said_arguments s.context (t.arguments_of list))) ≡ [] → is_formed p vs (called s meaning list) ns ≡ true

    by_entity : (m : Name) (list : List t.ArgumentTree) → AreGiven p vs ns s (given s (t.arguments_of list)) (said_arguments s.context (t.arguments_of list))
        → (e : ℕ) (nature : Nature) → (s.context).nature e ≡ Some nature → Called m list (entity e nature)
    by_entity m list h e (subroutine pure ds) is rows free =
        subroutine_is e pure ds (given s (t.arguments_of list)) (said_arguments s.context (t.arguments_of list)) is h (first _ _ rows)
        (holds _ _ (second (argument_rows ds 0 (said_arguments s.context (t.arguments_of list)) no_match) _ rows))
    by_entity m list h e (constant o) is rows free = refl
    by_entity m list h e (variable o) is rows free = refl
    by_entity m list h e (derived home ks f) is rows free = refl
    by_entity m list h e (function pure ds o) is rows free = refl

    by_intrinsic : (m : Name) (list : List t.ArgumentTree) → AreGiven p vs ns s (given s (t.arguments_of list)) (said_arguments s.context (t.arguments_of list))
        → (r : Intrinsic) → Called m list (intrinsic r)
    by_intrinsic m list h i.MoveAlloc rows free = moves m list h rows free
    by_intrinsic m list h r rows free = refl

    call_is : (m : Name) (list : List t.ArgumentTree) → AreGiven p vs ns s (given s (t.arguments_of list)) (said_arguments s.context (t.arguments_of list))
        → Called m list (meaning_of s.context m.symbol)
    call_is m list h = by_look (look_here s.context m.symbol)
      where
        by_nature : (e : ℕ) (o : Option Nature) → (s.context).nature e ≡ o → Called m list (entity_or e o)
        by_nature e None is rows free = refl
        by_nature e (Some nature) is rows free = by_entity m list h e nature is rows free

        by_name : (o : Option Intrinsic) → Called m list (map_or nothing intrinsic o)
        by_name None rows free = refl
        by_name (Some r) rows free = by_intrinsic m list h r rows free

        by_look : (l : Lookup) → Called m list (meaning_by s.context m.symbol l)
        by_look (One e) rows free = by_nature e ((s.context).nature e) refl rows free
        by_look Nothing rows free = by_name ((s.context).intrinsic m.symbol) rows free
        by_look Several rows free = refl

    -- ---- PRINT

    shown_is : (e : t.Tree) → IsWritten e → IsLevelled e → breaks s.context e ++ item_rows (said s.context e) ≡ [] → is_item p vs ns (n.shown (expression s e)) ≡ true
    shown_is e w l b = by_has (said s.context e).has (expression_is p vs ns s agrees e w l (first _ _ b)) (second (breaks s.context e) _ b)
      where
        by_type : (of : Base) (d : Option DataType) → is_known d ≡ true → alike of (base s d) ≡ true
            → map_or [] (λ (d : DataType). unless (is_intrinsic_type d) (at_place 6 T6 (said s.context e).place)) d ≡ [] → (is_number of || same_type of base_is.Logical) ≡ true
        by_type of None t a rows = no (sym t)
        by_type of (Some d) t a rows = type_wanted p vs ns s wanted.Intrinsic of (Some d) a (holds _ _ rows)

        by_has : (o : Option Has) → IsOf p vs ns s (expression s e) o
            → map_or [] (λ (d : DataType). unless (is_intrinsic_type d) (at_place 6 T6 (said s.context e).place)) (type_in o) ≡ [] → is_item p vs ns (n.shown (expression s e)) ≡ true
        by_has None h rows = absurd h
        by_has (Some y) h rows = ap (λ k. some k (λ k. is_number k.of || same_type k.of base_is.Logical)) h.value ∙ by_type h.of y.data_type h.typed h.alike_to rows

    item_is : (e : t.Tree) → IsWritten e → IsLevelled e → item_breaks s.context e ≡ [] → is_item p vs ns (item s e) ≡ true
    item_is (t.text q k) w l b = refl
    item_is (t.integer q z) w l b = shown_is (t.integer q z) w l b
    item_is (t.truth q z) w l b = shown_is (t.truth q z) w l b
    item_is (t.designator ps) w l b = shown_is (t.designator ps) w l b
    item_is (t.group q e) w l b = shown_is (t.group q e) w l b
    item_is (t.array q es) w l b = shown_is (t.array q es) w l b
    item_is (t.signed q z e) w l b = shown_is (t.signed q z e) w l b
    item_is (t.negation q e) w l b = shown_is (t.negation q e) w l b
    item_is (t.comparison e r f) w l b = shown_is (t.comparison e r f) w l b
    item_is (t.chain e os) w l b = shown_is (t.chain e os) w l b

    items_are : (es : List t.Tree) → Each IsWritten es → Each IsLevelled es → flat_map (item_breaks s.context) es ≡ [] → all (is_item p vs ns) (map (item s) es) ≡ true
    items_are [] w l b = refl
    items_are (e ∷ es) w l b = both _ _ (item_is e w.0 l.0 (first _ _ b)) (items_are es w.1 l.1 (second (item_breaks s.context e) _ b))

    -- ---- actions

    pub action_is : (act : a.Act) → IsActWritten act → IsActLevelled act → act_breaks s.context act ≡ [] → flat_map (definition_rows site) (defined s.context act) ≡ []
        → is_formed p vs (action s act) ns ≡ true
    action_is (a.assign v e) w l b free =
        let h : Target p vs ns s agrees site here v = target p vs ns s agrees site here v w.0 l.0 (first _ _ b) (first _ _ free) in
        let behind = second (designator_breaks s.context role.Variable v) _ b in
        let o : Option Has = (said s.context (t.designator v)).has in
        both _ _ (object_of (expression s (t.designator v)) o (named_target v h))
        (value_taken o (expression s e) (said s.context e).has (typed_of p vs ns s (expression s (t.designator v)) o h.is)
        (expression_is p vs ns s agrees e w.1 l.1 (first _ _ behind)) (said s.context e).place
        (ap (λ z. assigned_has (said s.context e).place z (said s.context e).has) (sym h.said_is) ∙ second (breaks s.context e) _ behind))
    action_is (a.call m list) w l b free =
        call_is m list (arguments_are p vs ns s agrees (t.arguments_of list) w l (first _ _ b)) (second (breaks_arguments s.context (t.arguments_of list)) _ b) free
    action_is (a.allocate rs stat) w l b free =
        both _ _
        (allocations_are rs w.0 l.0 (first _ _ b)
        (none_before (definition_rows site) (map (designator_at s.context role.Allocated) rs) (map_or [] (λ (v : t.Parts). designator_at s.context role.Variable v ∷ []) stat) free))
        (status_is stat w.1 l.1 (second (flat_map (designator_breaks s.context role.Allocated) rs) _ b)
        (none_behind (definition_rows site) (map (designator_at s.context role.Allocated) rs) (map_or [] (λ (v : t.Parts). designator_at s.context role.Variable v ∷ []) stat) free))
    action_is (a.deallocate rs stat) w l b free =
        both _ _
        (deallocations_are rs w.0 l.0 (first _ _ b)
        (none_before (definition_rows site) (map (designator_at s.context role.Deallocated) rs) (map_or [] (λ (v : t.Parts). designator_at s.context role.Variable v ∷ []) stat) free))
        (status_is stat w.1 l.1 (second (flat_map (designator_breaks s.context role.Deallocated) rs) _ b)
        (none_behind (definition_rows site) (map (designator_at s.context role.Deallocated) rs) (map_or [] (λ (v : t.Parts). designator_at s.context role.Variable v ∷ []) stat) free))
    action_is (a.print es) w l b free = items_are es w l b
    action_is (a.stop code) w l b free = refl
    action_is a.return w l b free = refl
    action_is a.cycle w l b free = refl
    action_is a.exit w l b free = refl
    action_is a.continue w l b free = refl
