-- Actions that break no rule fit.
use Rattle.std.proofs.Common.{◌≡◌, true, List, [], ◌∷◌, map, Option, Some, None, refl}
use Rattle.std.specs.Option.{option_map}
use Rattle.std.specs.List.{flat_map}
use Rattle.f3_tree.specs.Expressions as t
use Rattle.f3_tree.specs.Statements as a
use Rattle.f3_program.specs.declared.program.Program.{Program}
use Rattle.f3_kinds.specs.declared.said.Role.{Role}
use Rattle.f3_kinds.specs.declared.said.Role.TheVariants as role
use Rattle.f3_kinds.specs.declared.things.Intrinsic.TheVariants as i
use Rattle.f3_kinds.specs.Things.{map_or, constant, variable, derived, subroutine, function, Meaning, nothing, several, intrinsic, entity, meaning_of}
use Rattle.f3_kinds.specs.Typing.{breaks, breaks_arguments, breaks_parts, designator_breaks}
use Rattle.f3_meaning_whole.specs.Permitted.{Each}
use Rattle.f3_meaning_whole.specs.Formed.{all}
use Rattle.f3_cell_kinds.specs.Types.{Scope}
use Rattle.f3_cell_kinds.specs.Sense.{none_or}
use Rattle.f3_type_rules.specs.Statements.{act_breaks, item_breaks, number_defined}
use Rattle.f3_elaboration.specs.Context.{Surroundings}
use Rattle.f3_elaboration.specs.Expressions as x
use Rattle.f3_elaboration.specs.Expressions.{Part, arguments_for, given, given_in, expression, itself, parts, type_of}
use Rattle.f3_elaboration.specs.Actions.{called, move, item, action, request, bounds, last_given, unbounded, named_by, variable as named_variable}
use Rattle.f3_lawful_laws.specs.Written.{IsWritten, IsVariableWritten, IsStatWritten, IsActWritten}
use Rattle.f3_lawful_laws.proofs.Facts.{first, second, both}
use Rattle.f3_formed_laws.specs.Agreement.{AgreesInKinds}
use Rattle.f3_formed_laws.specs.Levels.{IsLevelled, ArePartsLevelled, IsStatLevelled, IsActLevelled}
use Rattle.f3_fitting_laws.specs.Bounded.{HasWords, IsBounded, ArePartsBounded, IsStatBounded, IsActBounded}
use Rattle.f3_fitting_laws.proofs.Nodes.{object_fits, bounds_fit, request_fits, item_fits, statement_fits}
use Rattle.f3_fitting_laws.proofs.Parts.{Fits, GivenFits, PartsFit, one_fits, in_part, itself_fits, passed_all, named_fits, designated_named}
use Rattle.f3_fitting_laws.proofs.Expressions.{expression_fits, parts_fit, arguments_fits}

module _ (p : Program) (c : Scope) (s : Surroundings) (agrees : AgreesInKinds p c.variables c.names s) (words : HasWords s.context) where
  -- ---- variables

  pub variable_fits : (v : t.Parts) → PartsFit p c (parts s v) → object_fits p c (named_variable s v) ≡ true
  variable_fits v f = designated_named p c s (type_of s (t.designator v)) (parts s v) f

  pub in_role : (u : Role) (v : t.Parts) → IsVariableWritten v → ArePartsLevelled v → ArePartsBounded v → designator_breaks s.context u v ≡ [] → PartsFit p c (parts s v)
  in_role u v w l d b = parts_fit p c s agrees words v w.1 l d (first (breaks_parts s.context v) _ b)

  status_fits : (stat : Option t.Parts) → IsStatWritten stat → IsStatLevelled stat → IsStatBounded stat → map_or [] (number_defined s.context) stat ≡ []
      → none_or (option_map (named_variable s) stat) (object_fits p c) ≡ true
  status_fits None w l d b = refl
  status_fits (Some v) w l d b = variable_fits v (in_role role.Variable v w l d (first (designator_breaks s.context role.Variable v) _ b))

  -- ---- ALLOCATE and DEALLOCATE

  unbounded_fit : (v : t.Parts) → PartsFit p c (parts s v) → PartsFit p c (parts s (unbounded v))
  unbounded_fit t.no_parts f = tt
  unbounded_fit (t.parts m g t.no_parts) f = (tt, tt)
  unbounded_fit (t.parts m g (t.parts k b ps)) f = (f.0, unbounded_fit (t.parts k b ps) f.1)

  last_fits : (qs : List Part) → PartsFit p c qs → Each (GivenFits p c) (last_given qs)
  last_fits [] f = tt
  last_fits (q ∷ []) f = in_part p c q.1 f.0
  last_fits (q ∷ z ∷ qs) f = last_fits (z ∷ qs) f.1

  bound_fits : (g : x.Given) → GivenFits p c g → bounds_fit p c (bounds g) ≡ true
  bound_fits (x.value k e) f = both _ _ refl f
  bound_fits (x.triplet a b e) f = both _ _ (one_fits p c a f.0) (one_fits p c b f.1)

  all_bounds : (gs : List x.Given) → Each (GivenFits p c) gs → all (bounds_fit p c) (map bounds gs) ≡ true
  all_bounds [] f = refl
  all_bounds (g ∷ gs) f = both (bounds_fit p c (bounds g)) _ (bound_fits g f.0) (all_bounds gs f.1)

  requests_fit : (u : Role) (vs : List t.Parts) → Each IsVariableWritten vs → Each ArePartsLevelled vs → Each ArePartsBounded vs
      → flat_map (designator_breaks s.context u) vs ≡ [] → all (request_fits p c) (map (request s) vs) ≡ true
  requests_fit u [] w l d b = refl
  requests_fit u (v ∷ vs) w l d b =
      let f : PartsFit p c (parts s v) = in_role u v w.0 l.0 d.0 (first (designator_breaks s.context u v) _ b) in
      both (request_fits p c (request s v)) _
      (both (object_fits p c (itself (named_variable s (unbounded v)))) _
      (itself_fits p c (named_variable s (unbounded v)) (variable_fits (unbounded v) (unbounded_fit v f))) (all_bounds (last_given (parts s v)) (last_fits (parts s v) f)))
      (requests_fit u vs w.1 l.1 d.1 (second (designator_breaks s.context u v) _ b))

  -- ---- CALL

  moved : (e : t.Tree) → Fits p c (expression s e) → object_fits p c (itself (named_by (expression s e))) ≡ true
  moved e f = itself_fits p c (named_by (expression s e)) (named_fits p c (expression s e) f)

  move_fits : (list : List t.ArgumentTree) → Each (GivenFits p c) (given s (t.arguments_of list)) → statement_fits p (move s list) c ≡ true
  move_fits [] f = refl
  move_fits (t.triplet q a b e ∷ list) f = refl
  move_fits (t.value l e ∷ []) f = refl
  move_fits (t.value l e ∷ t.triplet q a b d ∷ list) f = refl
  move_fits (t.value l e ∷ t.value k g ∷ []) f = both _ _ (moved e f.0) (moved g f.1.0)
  move_fits (t.value l e ∷ t.value k g ∷ h ∷ list) f = refl

  call_fits : (meaning : Meaning) (list : List t.ArgumentTree) → Each (GivenFits p c) (given s (t.arguments_of list)) → statement_fits p (called s meaning list) c ≡ true
  call_fits nothing list f = refl
  call_fits several list f = refl
  call_fits (intrinsic i.MoveAlloc) list f = move_fits list f
  call_fits (intrinsic r) list f = refl
  call_fits (entity e (subroutine pure ds)) list f = passed_all p c ds 0 (given s (t.arguments_of list)) f
  call_fits (entity e (constant o)) list f = refl
  call_fits (entity e (variable o)) list f = refl
  call_fits (entity e (derived home ks d)) list f = refl
  call_fits (entity e (function pure ds o)) list f = refl

  -- ---- PRINT

  shown_fits : (e : t.Tree) → IsWritten e → IsLevelled e → IsBounded e → item_breaks s.context e ≡ [] → item_fits p c (item s e) ≡ true
  shown_fits (t.text q k) w l d b = refl
  shown_fits (t.integer q z) w l d b = expression_fits p c s agrees words (t.integer q z) w l d refl
  shown_fits (t.truth q z) w l d b = refl
  shown_fits (t.designator ps) w l d b = expression_fits p c s agrees words (t.designator ps) w l d (first (breaks s.context (t.designator ps)) _ b)
  shown_fits (t.group q e) w l d b = expression_fits p c s agrees words (t.group q e) w l d (first (breaks s.context (t.group q e)) _ b)
  shown_fits (t.array q es) w l d b = expression_fits p c s agrees words (t.array q es) w l d (first (breaks s.context (t.array q es)) _ b)
  shown_fits (t.signed q z e) w l d b = expression_fits p c s agrees words (t.signed q z e) w l d (first (breaks s.context (t.signed q z e)) _ b)
  shown_fits (t.negation q e) w l d b = expression_fits p c s agrees words (t.negation q e) w l d (first (breaks s.context (t.negation q e)) _ b)
  shown_fits (t.comparison e r f) w l d b = expression_fits p c s agrees words (t.comparison e r f) w l d (first (breaks s.context (t.comparison e r f)) _ b)
  shown_fits (t.chain e os) w l d b = expression_fits p c s agrees words (t.chain e os) w l d (first (breaks s.context (t.chain e os)) _ b)

  items_fit : (es : List t.Tree) → Each IsWritten es → Each IsLevelled es → Each IsBounded es → flat_map (item_breaks s.context) es ≡ []
      → all (item_fits p c) (map (item s) es) ≡ true
  items_fit [] w l d b = refl
  items_fit (e ∷ es) w l d b =
      both (item_fits p c (item s e)) _ (shown_fits e w.0 l.0 d.0 (first (item_breaks s.context e) _ b)) (items_fit es w.1 l.1 d.1 (second (item_breaks s.context e) _ b))

  -- ---- actions

  pub action_fits : (act : a.Act) → IsActWritten act → IsActLevelled act → IsActBounded act → act_breaks s.context act ≡ [] → statement_fits p (action s act) c ≡ true
  action_fits (a.assign v e) w l d b =
      let behind = second (designator_breaks s.context role.Variable v) _ b in
      both (object_fits p c (itself (named_variable s v))) _
      (itself_fits p c (named_variable s v) (variable_fits v (in_role role.Variable v w.0 l.0 d.0 (first (designator_breaks s.context role.Variable v) _ b))))
      (expression_fits p c s agrees words e w.1 l.1 d.1 (first (breaks s.context e) _ behind))
  action_fits (a.call m list) w l d b =
      call_fits (meaning_of s.context m.symbol) list
      (arguments_fits p c s agrees words (t.arguments_of list) w l d (first (breaks_arguments s.context (t.arguments_of list)) _ b))
  action_fits (a.allocate vs stat) w l d b =
      both (all (request_fits p c) (map (request s) vs)) _ (requests_fit role.Allocated vs w.0 l.0 d.0 (first (flat_map (designator_breaks s.context role.Allocated) vs) _ b))
      (status_fits stat w.1 l.1 d.1 (second (flat_map (designator_breaks s.context role.Allocated) vs) _ b))
  action_fits (a.deallocate vs stat) w l d b =
      both (all (request_fits p c) (map (request s) vs)) _ (requests_fit role.Deallocated vs w.0 l.0 d.0 (first (flat_map (designator_breaks s.context role.Deallocated) vs) _ b))
      (status_fits stat w.1 l.1 d.1 (second (flat_map (designator_breaks s.context role.Deallocated) vs) _ b))
  action_fits (a.print es) w l d b = items_fit es w l d b
  action_fits (a.stop code) w l d b = refl
  action_fits a.return w l d b = refl
  action_fits a.cycle w l d b = refl
  action_fits a.exit w l d b = refl
  action_fits a.continue w l d b = refl
