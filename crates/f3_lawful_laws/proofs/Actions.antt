-- Actions that break no rule may run.
use Rattle.std.proofs.Common.{◌≡◌, ℕ, ◌+◌, Bool, true, List, [], ◌∷◌, map, Option, Some, None, refl, sym, ap, ◌∙◌, if◌then◌else◌}
use Rattle.std.specs.Prelude.{slice_get}
use Rattle.std.specs.Option.{option_map}
use Rattle.std.specs.List.{flat_map}
use mathlib.Core.Path.{subst}
use Rattle.f3_lookups.specs.declared.lookup.Lookup.{Lookup}
use Rattle.f3_lookups.specs.declared.lookup.Lookup.TheVariants.{One, Nothing, Several}
use Rattle.f3_tree.specs.declared.expression.Name.{Name}
use Rattle.f3_tree.specs.Expressions as t
use Rattle.f3_tree.specs.Statements as a
use Rattle.f3_program.specs.declared.program.Program.{Program}
use Rattle.f3_kinds.specs.declared.said.Given.{Given}
use Rattle.f3_kinds.specs.declared.said.Given.TheVariants.{Value, Triplet}
use Rattle.f3_kinds.specs.declared.said.Role.{Role}
use Rattle.f3_kinds.specs.declared.said.Role.TheVariants as role
use Rattle.f3_kinds.specs.declared.things.Dummy.{Dummy}
use Rattle.f3_kinds.specs.declared.things.Intrinsic.{Intrinsic}
use Rattle.f3_kinds.specs.declared.things.Intrinsic.TheVariants as i
use Rattle.f3_kinds.specs.Things.{Nature, constant, variable, derived, subroutine, function, Meaning, nothing, intrinsic, entity, entity_or, meaning_by, meaning_of}
use Rattle.f3_kinds.specs.Things.{look_here, map_or, at_place_of}
use Rattle.f3_kinds.specs.Rows.{unless}
use Rattle.f3_kinds.specs.Calls.{Matched, no_match, match_next, argument_fits, argument_rows, place_for}
use Rattle.f3_kinds.specs.Typing.{said, said_arguments, breaks, breaks_arguments, designator_at, designator_breaks}
use Rattle.f3_meaning_whole.specs.Permitted.{Scope, Each, names_in}
use Rattle.f3_type_rules.specs.Statements.{act_breaks, called_rows, item_breaks, number_defined}
use Rattle.f3_type_rules.specs.declared.definition.Holder.{Holder}
use Rattle.f3_type_rules.specs.Definitions.{Site, definition_rows, defined, call_defined, arguments_defined, is_defining, value_given}
use Rattle.f3_elaboration.specs.Nodes as n
use Rattle.f3_elaboration.specs.Context.{Surroundings}
use Rattle.f3_elaboration.specs.Expressions as x
use Rattle.f3_elaboration.specs.Expressions.{arguments_for, given, expression, given_value}
use Rattle.f3_elaboration.specs.Actions.{called, move, item, action, request, variable as named}
use Rattle.f3_lawful_laws.specs.Nodes.{NodeValue, NodeRuns, NodeRequest, NodeStat, NodeItem}
use Rattle.f3_lawful_laws.specs.Written.{IsWritten, IsVariableWritten, IsStatWritten, IsActWritten}
use Rattle.f3_lawful_laws.specs.Agreement.{Agrees, Allows}
use Rattle.f3_lawful_laws.proofs.Facts.{no, first, second, holds, none_before, none_behind}
use Rattle.f3_lawful_laws.proofs.Alike.{IsGiven, AreGiven}
use Rattle.f3_lawful_laws.proofs.Passing.{Fits, fits_by, MayChange}
use Rattle.f3_lawful_laws.proofs.Given.{all_may, may_of, arguments_may, arguments_pass, AllChange}
use Rattle.f3_lawful_laws.proofs.Expressions.{expression_is, arguments_are}
use Rattle.f3_lawful_laws.proofs.Defining.{changes}
use Rattle.f3_lawful_laws.proofs.Variables.{variable_defines, itself_defines, itself_typed}
use Rattle.f3_lawful_laws.proofs.Bounded.{IsHeap}
use Rattle.f3_lawful_laws.proofs.Requests.{request_may}
use Rattle.f3_lawful_laws.proofs.Moving.{two_move}

module _ (p : Program) (scope : Scope) (s : Surroundings) (agrees : Agrees p scope s) (site : Site) (held : ℕ → Option Holder) (allows : Allows p scope s site held) where
  pub may_value : (e : t.Tree) → IsWritten e → breaks s.context e ≡ [] → NodeValue p scope (expression s e)
  may_value e w b = may_of p scope s (expression s e) (said s.context e).has (expression_is p scope s agrees e w b)

  -- ---- CALL

  one_changes : (ds : List (ℕ × Dummy)) (j : ℕ) (g : x.Given) (y : Given) (m : Matched) → IsGiven p scope s g y → argument_fits ds j y m ≡ true
      → flat_map (definition_rows site) (if is_defining (map_or None (at_place_of ds) (place_for ds j y)) then value_given y else []) ≡ []
      → (k : ℕ) (d : ℕ × Dummy) → place_for ds j y ≡ Some k → slice_get ds k ≡ Some d → is_defining (Some d.1) ≡ true → MayChange p scope s (given_value g)
  one_changes ds j (x.value l e) (Value k y) m h fits free number d place there defining =
      let found : is_defining (map_or None (at_place_of ds) (place_for ds j (Value k y))) ≡ true =
      ap (λ o. is_defining (map_or None (at_place_of ds) o)) place ∙ ap (λ o. is_defining (map_or None (λ (z : ℕ × Dummy). Some z.1) o)) there ∙ defining in
      changes p scope s site held allows y e h.1
      (first _ _ (subst (λ b. flat_map (definition_rows site) (if b then y ∷ [] else []) ≡ []) found free))
  one_changes ds j (x.value l e) (Triplet q a b c) m h fits free number d place there defining = absurd h
  one_changes ds j (x.triplet a b c) (Value l y) m h fits free number d place there defining = absurd h
  one_changes ds j (x.triplet a b c) (Triplet q e f z) m h fits free number d place there defining =
      no (sym (Fits.fits (fits_by ds j (Triplet q e f z) m fits)))

  all_change : (ds : List (ℕ × Dummy)) (j : ℕ) (gs : List x.Given) (ys : List Given) (m : Matched) → AreGiven p scope s gs ys → argument_rows ds j ys m ≡ []
      → flat_map (definition_rows site) (arguments_defined ds j ys) ≡ [] → AllChange p scope s ds j gs ys
  all_change ds j [] [] m h rows free = tt
  all_change ds j [] (y ∷ ys) m h rows free = absurd h
  all_change ds j (g ∷ gs) [] m h rows free = absurd h
  all_change ds j (g ∷ gs) (y ∷ ys) m h rows free = (
    one_changes ds j g y m h.0 (holds _ _ (first _ _ rows)) (none_before (definition_rows site) (if is_defining (map_or None (at_place_of ds) (place_for ds j y)) then value_given y else []) (arguments_defined ds (j + 1) ys) free),
    all_change ds (j + 1) gs ys (match_next ds j y m) h.1 (second (unless (argument_fits ds j y m) _) _ rows)
        (none_behind (definition_rows site) (if is_defining (map_or None (at_place_of ds) (place_for ds j y)) then value_given y else []) (arguments_defined ds (j + 1) ys) free),
  )

  subroutine_runs : (e : ℕ) (pure : Bool) (ds : List (ℕ × Dummy)) (gs : List x.Given) (ys : List Given) → (s.context).nature e ≡ Some (subroutine pure ds)
      → AreGiven p scope s gs ys → argument_rows ds 0 ys no_match ≡ [] → flat_map (definition_rows site) (arguments_defined ds 0 ys) ≡ []
      → NodeValue p scope (n.reference (s.procedure e) (arguments_for ds 0 gs))
  subroutine_runs e pure ds gs ys is h rows free = (
    arguments_may p scope s ds 0 gs (all_may p scope s gs ys h),
    arguments_pass p scope s ds (names_in p (s.procedure e)) 0 gs ys no_match (agrees.known.natures e (subroutine pure ds) is) (agrees.subroutines e pure ds is) h rows
        (all_change ds 0 gs ys no_match h rows free),
  )

  -- ---- MOVE_ALLOC

  moves : (m : Name) (list : List t.ArgumentTree) → AreGiven p scope s (given s (t.arguments_of list)) (said_arguments s.context (t.arguments_of list))
      → called_rows (s.context).moving m (intrinsic i.MoveAlloc) (said_arguments s.context (t.arguments_of list)) ≡ []
      → flat_map (definition_rows site) (flat_map value_given (said_arguments s.context (t.arguments_of list))) ≡ [] → NodeRuns p (move s list) scope
  moves m [] h rows free = tt
  moves m (t.triplet q a b c ∷ list) h rows free = tt
  moves m (t.value l e ∷ []) h rows free = tt
  moves m (t.value l e ∷ t.triplet q a b c ∷ list) h rows free = tt
  moves m (t.value l e ∷ t.value k f ∷ g ∷ list) h rows free = tt
  moves m (t.value l e ∷ t.value k f ∷ []) h rows free =
      two_move p scope s agrees site held allows l e k f h.0.1 h.1.0.1 (first _ _ rows) (first _ _ free) (first _ _ (second (definition_rows site (said s.context e)) _ free))

  -- ---- by what the name means

  abbrev Called : Name → List t.ArgumentTree → Meaning → Type 0
  Called m list meaning =
      called_rows (s.context).moving m meaning (said_arguments s.context (t.arguments_of list)) ≡ []
      → flat_map (definition_rows site) (call_defined meaning (said_arguments s.context (t.arguments_of list))) ≡ [] → NodeRuns p (called s meaning list) scope

  by_entity : (m : Name) (list : List t.ArgumentTree) → AreGiven p scope s (given s (t.arguments_of list)) (said_arguments s.context (t.arguments_of list))
      → (e : ℕ) (nature : Nature) → (s.context).nature e ≡ Some nature → Called m list (entity e nature)
  by_entity m list h e (subroutine pure ds) is rows free =
      subroutine_runs e pure ds (given s (t.arguments_of list)) (said_arguments s.context (t.arguments_of list)) is h (first _ _ rows) free
  by_entity m list h e (constant o) is rows free = tt
  by_entity m list h e (variable o) is rows free = tt
  by_entity m list h e (derived home ks f) is rows free = tt
  by_entity m list h e (function pure ds o) is rows free = tt

  by_intrinsic : (m : Name) (list : List t.ArgumentTree) → AreGiven p scope s (given s (t.arguments_of list)) (said_arguments s.context (t.arguments_of list))
      → (r : Intrinsic) → Called m list (intrinsic r)
  by_intrinsic m list h i.MoveAlloc rows free = moves m list h rows free
  by_intrinsic m list h r rows free = tt

  call_runs : (m : Name) (list : List t.ArgumentTree) → AreGiven p scope s (given s (t.arguments_of list)) (said_arguments s.context (t.arguments_of list))
      → Called m list (meaning_of s.context m.symbol)
  call_runs m list h = by_look (look_here s.context m.symbol)
    where
      by_nature : (e : ℕ) (o : Option Nature) → (s.context).nature e ≡ o → Called m list (entity_or e o)
      by_nature e None is rows free = tt
      by_nature e (Some nature) is rows free = by_entity m list h e nature is rows free

      by_name : (o : Option Intrinsic) → Called m list (map_or nothing intrinsic o)
      by_name None rows free = tt
      by_name (Some r) rows free = by_intrinsic m list h r rows free

      by_look : (l : Lookup) → Called m list (meaning_by s.context m.symbol l)
      by_look (One e) rows free = by_nature e ((s.context).nature e) refl rows free
      by_look Nothing rows free = by_name ((s.context).intrinsic m.symbol) rows free
      by_look Several rows free = tt

  -- ---- the others

  item_may : (e : t.Tree) → IsWritten e → item_breaks s.context e ≡ [] → NodeItem p scope (item s e)
  item_may (t.text q k) w b = tt
  item_may (t.integer q z) w b = may_value (t.integer q z) w (first _ _ b)
  item_may (t.truth q z) w b = may_value (t.truth q z) w (first _ _ b)
  item_may (t.designator ps) w b = may_value (t.designator ps) w (first (breaks s.context (t.designator ps)) _ b)
  item_may (t.group q e) w b = may_value (t.group q e) w (first (breaks s.context (t.group q e)) _ b)
  item_may (t.array q es) w b = may_value (t.array q es) w (first (breaks s.context (t.array q es)) _ b)
  item_may (t.signed q z e) w b = may_value (t.signed q z e) w (first (breaks s.context (t.signed q z e)) _ b)
  item_may (t.negation q e) w b = may_value (t.negation q e) w (first (breaks s.context (t.negation q e)) _ b)
  item_may (t.comparison e r f) w b = may_value (t.comparison e r f) w (first (breaks s.context (t.comparison e r f)) _ b)
  item_may (t.chain e os) w b = may_value (t.chain e os) w (first (breaks s.context (t.chain e os)) _ b)

  items_may : (es : List t.Tree) → Each IsWritten es → flat_map (item_breaks s.context) es ≡ [] → Each (NodeItem p scope) (map (item s) es)
  items_may [] w b = tt
  items_may (e ∷ es) w b = (item_may e w.0 (first _ _ b), items_may es w.1 (second (item_breaks s.context e) _ b))

  requests_may : (u : Role) → IsHeap u → (vs : List t.Parts) → Each IsVariableWritten vs → flat_map (designator_breaks s.context u) vs ≡ []
      → flat_map (definition_rows site) (map (designator_at s.context u) vs) ≡ [] → Each (NodeRequest p scope) (map (request s) vs)
  requests_may u heap [] w b free = tt
  requests_may u heap (v ∷ vs) w b free = (
    request_may p scope s agrees site held allows u heap v w.0 (first _ _ b) (first _ _ free),
    requests_may u heap vs w.1 (second (designator_breaks s.context u v) _ b) (second (definition_rows site (designator_at s.context u v)) _ free),
  )

  stat_may : (stat : Option t.Parts) → IsStatWritten stat → map_or [] (number_defined s.context) stat ≡ []
      → flat_map (definition_rows site) (map_or [] (λ (v : t.Parts). designator_at s.context role.Variable v ∷ []) stat) ≡ []
      → NodeStat p scope (option_map (named s) stat)
  stat_may None w b free = tt
  stat_may (Some v) w b free = (variable_defines p scope s agrees site held allows v w.0 w.1 (first _ _ b) (first _ _ free)).0

  pub action_runs : (act : a.Act) → IsActWritten act → act_breaks s.context act ≡ [] → flat_map (definition_rows site) (defined s.context act) ≡ []
      → NodeRuns p (action s act) scope
  action_runs (a.assign v e) w b free =
      let made = variable_defines p scope s agrees site held allows v w.0.0 w.0.1 (first _ _ b) (first _ _ free) in (
        (itself_defines p scope s agrees (named s v) made.0, itself_typed p scope s agrees (named s v) _ made.1),
        may_value e w.1 (first _ _ (second (designator_breaks s.context role.Variable v) _ b)),
      )
  action_runs (a.call m list) w b free =
      call_runs m list (arguments_are p scope s agrees (t.arguments_of list) w (first _ _ b)) (second (breaks_arguments s.context (t.arguments_of list)) _ b) free
  action_runs (a.allocate vs stat) w b free = (
    requests_may role.Allocated tt vs w.0 (first _ _ b) (none_before (definition_rows site) (map (designator_at s.context role.Allocated) vs) (map_or [] (λ (v : t.Parts). designator_at s.context role.Variable v ∷ []) stat) free),
    stat_may stat w.1 (second (flat_map (designator_breaks s.context role.Allocated) vs) _ b)
        (none_behind (definition_rows site) (map (designator_at s.context role.Allocated) vs) (map_or [] (λ (v : t.Parts). designator_at s.context role.Variable v ∷ []) stat) free),
  )
  action_runs (a.deallocate vs stat) w b free = (
    requests_may role.Deallocated tt vs w.0 (first _ _ b) (none_before (definition_rows site) (map (designator_at s.context role.Deallocated) vs) (map_or [] (λ (v : t.Parts). designator_at s.context role.Variable v ∷ []) stat) free),
    stat_may stat w.1 (second (flat_map (designator_breaks s.context role.Deallocated) vs) _ b)
        (none_behind (definition_rows site) (map (designator_at s.context role.Deallocated) vs) (map_or [] (λ (v : t.Parts). designator_at s.context role.Variable v ∷ []) stat) free),
  )
  action_runs (a.print es) w b free = items_may es w b
  action_runs (a.stop code) w b free = tt
  action_runs a.return w b free = tt
  action_runs a.cycle w b free = tt
  action_runs a.exit w b free = tt
  action_runs a.continue w b free = tt
