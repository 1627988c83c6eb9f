-- The breaks of expressions.
use Rattle.std.proofs.Common.{◌≡◌, ℕ, ◌+◌, Bool, true, List, [], ◌∷◌, Option, Some, None, refl}
use Rattle.f3_places.specs.declared.source.Place.{Place}
use Rattle.f3_tree.specs.declared.expression.Name.{Name}
use Rattle.f3_tree.specs.Expressions.{Tree, integer, truth, text, designator, group, array, signed, negation, comparison, chain, Rest, no_more, more}
use Rattle.f3_tree.specs.Expressions.{Trees, no_trees, trees, Parts, no_parts, parts, Behind, bare, within, Arguments, no_arguments, arguments}
use Rattle.f3_tree.specs.Expressions.{ArgumentTree, value, triplet, Perhaps, absent, present}
use Rattle.f3_kinds.specs.declared.types.DataType.{DataType}
use Rattle.f3_kinds.specs.declared.types.Object.{Object}
use Rattle.f3_kinds.specs.declared.types.Wanted.{Wanted}
use Rattle.f3_kinds.specs.declared.types.Wanted.TheVariants as wanted
use Rattle.f3_kinds.specs.declared.said.Has.{Has}
use Rattle.f3_kinds.specs.declared.said.Said.{Said}
use Rattle.f3_kinds.specs.declared.said.Given.{Given}
use Rattle.f3_kinds.specs.declared.said.Given.TheVariants.{Value, Triplet}
use Rattle.f3_kinds.specs.declared.said.Reach.{Reach}
use Rattle.f3_kinds.specs.declared.said.Role.{Role}
use Rattle.f3_kinds.specs.declared.said.Role.TheVariants as role
use Rattle.f3_kinds.specs.declared.said.Selected.{Selected}
use Rattle.f3_kinds.specs.declared.said.Selected.TheVariants as is
use Rattle.f3_kinds.specs.declared.things.Component.{Component}
use Rattle.f3_kinds.specs.declared.things.Dummy.{Dummy}
use Rattle.f3_kinds.specs.declared.things.Intrinsic.{Intrinsic}
use Rattle.f3_kinds.specs.declared.things.Intrinsic.TheVariants as intrinsic_is
use Rattle.f3_kinds.specs.Things.{Nature, constant, variable, derived, subroutine, function, Context, Meaning, nothing, several, intrinsic, entity, meaning_of}
use Rattle.f3_kinds.specs.Rows.{type_rows, has_rows, scalar_rows}
use Rattle.f3_kinds.specs.Operands.{chain_rows, mixed_rows, array_rows, has_same}
use Rattle.f3_kinds.specs.Designators.{Part, rows_perhaps, subscript_rows, part_rows, select, enter_rows, step_selected_rows, step_rows, along_rows, reach_rows, object_rows}
use Rattle.f3_kinds.specs.Calls.{Matched, match_next, argument_rows, function_rows, call_rows, actual_rows, or_first, integer_type, intrinsic_rows, value_rows, missing_rows, private_at, component_rows, given_rows, constructor_given, constructor_rows}
use Rattle.f3_kinds.specs.Typing.{Sense, unmeant, object, reference, intrinsic_reference, construction, called, sense_entity, sense_intrinsic, sense_of, sense, sense_rows, designator_rows, level_of, said, said_rest, said_all, said_parts, breaks, breaks_rest, breaks_all, breaks_parts, breaks_behind, breaks_arguments, breaks_argument, breaks_perhaps, designator_breaks}
use Rattle.f3_phase_laws.proofs.Lists.{is_timely, IsHere, Timely, none, one, both, one_unless, when, lists}

-- a private component outside its module
private_timely : (here : ℕ) (g : Given) → is_timely here (private_at g) ≡ true
private_timely here (Value None s) = refl
private_timely here (Value (Some keyword) s) = refl
private_timely here (Triplet place first last stride) = refl

-- ---- names that mean nothing where they stand

-- what has no meaning has a break
abbrev SenseTimely : (here : ℕ) → Sense → Type 0
SenseTimely here (unmeant b) = is_timely here b ≡ true
SenseTimely here _ = Unit {0}

entity_timely : (here : ℕ) (unit : ℕ) (u : Role) (n : Name) (e : ℕ) (nature : Nature) (gs : Option (List Given)) → SenseTimely here (sense_entity unit u n e nature gs)
entity_timely here unit u n e (variable o) gs = tt
entity_timely here unit role.Allocated n e (constant o) gs = refl
entity_timely here unit role.Deallocated n e (constant o) gs = refl
entity_timely here unit role.Expression n e (constant o) gs = tt
entity_timely here unit role.Variable n e (constant o) gs = tt
entity_timely here unit u n e (function pure ds o) (Some gs) = tt
entity_timely here unit u n e (function pure ds o) None = refl
entity_timely here unit u n e (derived home ks f) (Some gs) = tt
entity_timely here unit u n e (derived home ks f) None = refl
entity_timely here unit u n e (subroutine pure ds) gs = refl

sense_intrinsic_timely : (here : ℕ) (n : Name) (i : Intrinsic) (gs : Option (List Given)) → SenseTimely here (sense_intrinsic n i gs)
sense_intrinsic_timely here n intrinsic_is.MoveAlloc gs = refl
sense_intrinsic_timely here n i None = refl
sense_intrinsic_timely here n i (Some gs) = tt

sense_of_timely : (here : ℕ) (unit : ℕ) (u : Role) (n : Name) (m : Meaning) (gs : Option (List Given)) → SenseTimely here (sense_of unit u n m gs)
sense_of_timely here unit u n nothing gs = refl
sense_of_timely here unit u n several gs = refl
sense_of_timely here unit u n (intrinsic i) gs = sense_intrinsic_timely here n i gs
sense_of_timely here unit u n (entity e nature) gs = entity_timely here unit u n e nature gs

-- ---- wherever an expression stands, rules with two phases have that of the place

module _ {here : ℕ} where
  type_timely : (want : Wanted) (rank : ℕ) (p : Place) (d : Option DataType) → Timely here (type_rows want rank p d)
  type_timely want rank p None = none
  type_timely want rank p (Some d) = search lists

  has_timely : (want : Wanted) (p : Place) (h : Option Has) → Timely here (has_rows want p h)
  has_timely want p None = none
  has_timely want p (Some h) = search type_timely

  pub scalar_timely : (want : Wanted) (s : Said) → Timely here (scalar_rows want s)
  scalar_timely want s = search has_timely

  pub chain_timely : (want : Wanted) (s : Said) (ss : List Said) → Timely here (chain_rows want s ss)
  chain_timely want s ss = search (lists, scalar_timely)

  mixed_timely : (d : Option DataType) (ss : List Said) → Timely here (mixed_rows d ss)
  mixed_timely d [] = none
  mixed_timely d (s ∷ ss) = when (has_same d s) _ _ (mixed_timely d ss) (one _ refl)

  pub array_timely : (ss : List Said) → Timely here (array_rows ss)
  array_timely ss = search (lists, scalar_timely, mixed_timely)

  -- ---- designators

  rows_perhaps_timely : (o : Option Said) → Timely here (rows_perhaps o)
  rows_perhaps_timely None = none
  rows_perhaps_timely (Some s) = scalar_timely wanted.Integer s

  subscript_timely : (g : Given) → Timely here (subscript_rows g)
  subscript_timely (Value None s) = scalar_timely wanted.Integer s
  subscript_timely (Value (Some keyword) s) = one _ refl
  subscript_timely (Triplet place first last stride) = both (rows_perhaps_timely first) (both (rows_perhaps_timely last) (rows_perhaps_timely stride))

  part_timely : (gs : Option (List Given)) → Timely here (part_rows gs)
  part_timely None = none
  part_timely (Some gs) = search (lists, subscript_timely)

  enter_timely : (bounds : Bool) (o : Object) (p : Part) → Timely here (enter_rows bounds o p)
  enter_timely bounds o p = search (lists, part_timely)

  selected_timely : (bounds : Bool) (p : Part) (s : Selected) → Timely here (step_selected_rows bounds p s)
  selected_timely bounds p is.Unknown = none
  selected_timely bounds p is.Missing = one _ refl
  selected_timely bounds p is.Hidden = one _ refl
  selected_timely bounds p (is.Component k) = enter_timely bounds k.object p

  step_timely : (c : Context) (bounds : Bool) (p : Part) (r : Option Reach) → Timely here (step_rows c bounds p r)
  step_timely c bounds p None = none
  step_timely c bounds p (Some r) = selected_timely bounds p (select c r.object p.0)

  along_timely : (c : Context) (u : Role) (ps : List Part) (r : Option Reach) → Timely here (along_rows c u ps r)
  along_timely c u [] r = none
  along_timely c u (p ∷ ps) r = both (step_timely c _ p r) (along_timely c u ps _)

  reach_timely : (u : Role) (n : Name) (r : Option Reach) → Timely here (reach_rows u n r)
  reach_timely u n None = none
  reach_timely u n (Some r) = search lists

  object_timely : (c : Context) (u : Role) (o : Object) (p : Part) (ps : List Part) → Timely here (object_rows c u o p ps)
  object_timely c u o p ps = both (enter_timely _ o p) (both (along_timely c u ps _) (reach_timely u p.0 _))

  -- ---- references and constructors

  argument_timely : (ds : List (ℕ × Dummy)) (position : ℕ) (gs : List Given) (m : Matched) → Timely here (argument_rows ds position gs m)
  argument_timely ds position [] m = none
  argument_timely ds position (g ∷ gs) m = both (one_unless _ _ refl) (argument_timely ds (position + 1) gs (match_next ds position g m))

  function_timely : (n : Name) (ds : List (ℕ × Dummy)) (gs : List Given) → Timely here (function_rows n ds gs)
  function_timely n ds gs = search (lists, argument_timely)

  pub call_timely : (n : Name) (ds : List (ℕ × Dummy)) (gs : List Given) → Timely here (call_rows n ds gs)
  call_timely n ds gs = search (lists, argument_timely)

  actual_timely : (i : Intrinsic) (first : Option DataType) (position : ℕ) (gs : List Given) → Timely here (actual_rows i first position gs)
  actual_timely i first position [] = none
  actual_timely i first position (g ∷ gs) = both (one_unless _ _ refl) (actual_timely i (or_first first (integer_type g)) (position + 1) gs)

  intrinsic_timely : (n : Name) (i : Intrinsic) (gs : List Given) → Timely here (intrinsic_rows n i gs)
  intrinsic_timely n i gs = search (lists, actual_timely)

  value_timely : (o : Object) (p : Place) (h : Has) → Timely here (value_rows o p h)
  value_timely o p h = search lists

  missing_timely : (g : Given) → Timely here (missing_rows g)
  missing_timely (Value None s) = none
  missing_timely (Value (Some keyword) s) = one _ refl
  missing_timely (Triplet place first last stride) = none

  component_timely : (o : Object) (g : Given) → Timely here (component_rows o g)
  component_timely o (Value keyword s) = search (lists, value_timely)
  component_timely o (Triplet place first last stride) = none

  given_timely : (inside : Bool) (k : Option Component) (g : Given) → Timely here (given_rows inside k g)
  given_timely inside None g = missing_timely g
  given_timely inside (Some k) g = search (lists, private_timely here, component_timely)

  constructor_given_timely : (inside : Bool) (ks : List (ℕ × Component)) (position : ℕ) (gs : List Given) → Timely here (constructor_given inside ks position gs)
  constructor_given_timely inside ks position [] = none
  constructor_given_timely inside ks position (g ∷ gs) = both (given_timely inside _ g) (constructor_given_timely inside ks (position + 1) gs)

  constructor_timely : (phase : ℕ) → IsHere here phase → (n : Name) (inside : Bool) (ks : List (ℕ × Component)) (finalizable : Bool) (gs : List Given)
      → Timely here (constructor_rows phase n inside ks finalizable gs)
  constructor_timely phase h n inside ks finalizable gs = search (lists, constructor_given_timely, h)

  -- ---- designators by what their first name means

  sense_timely : (c : Context) → IsHere here c.phase → (u : Role) (p : Part) (ps : List Part) (s : Sense) → SenseTimely here s → Timely here (sense_rows c u p ps s)
  sense_timely c h u p ps (unmeant b) t = one b t
  sense_timely c h u p ps (object form o) t = object_timely c u o p ps
  sense_timely c h u p ps (reference ds o gs) t = function_timely p.0 ds gs
  sense_timely c h u p ps (intrinsic_reference i gs) t = intrinsic_timely p.0 i gs
  sense_timely c h u p ps (construction e inside ks f gs) t = constructor_timely c.phase h p.0 inside ks f gs

  designator_timely : (c : Context) → IsHere here c.phase → (u : Role) (ps : List Part) → Timely here (designator_rows c u ps)
  designator_timely c h u [] = none
  designator_timely c h u (p ∷ ps) = sense_timely c h u p ps (sense c u p ps) (sense_of_timely here c.unit u p.0 (meaning_of c (p.0).symbol) (called u ps p.1))

  -- ---- expressions

  mutual
    pub breaks_timely : (c : Context) → IsHere here c.phase → (e : Tree) → Timely here (breaks c e)
    breaks_timely c h (integer p n) = none
    breaks_timely c h (truth p b) = none
    breaks_timely c h (text p k) = one _ refl
    breaks_timely c h (designator ps) = both (parts_timely c h ps) (designator_timely c h role.Expression (said_parts c ps))
    breaks_timely c h (group p e) = breaks_timely c h e
    breaks_timely c h (array p es) = both (all_timely c h es) (array_timely (said_all c es))
    breaks_timely c h (signed p s e) = both (breaks_timely c h e) (scalar_timely wanted.Integer (said c e))
    breaks_timely c h (negation p e) = both (breaks_timely c h e) (scalar_timely wanted.Logical (said c e))
    breaks_timely c h (comparison e r f) =
        both (breaks_timely c h e) (both (breaks_timely c h f) (both (scalar_timely wanted.Integer (said c e)) (scalar_timely wanted.Integer (said c f))))
    breaks_timely c h (chain e os) = both (breaks_timely c h e) (both (rest_timely c h os) (chain_timely (level_of os) (said c e) (said_rest c os)))

    rest_timely : (c : Context) → IsHere here c.phase → (os : Rest) → Timely here (breaks_rest c os)
    rest_timely c h no_more = none
    rest_timely c h (more o e os) = both (breaks_timely c h e) (rest_timely c h os)

    all_timely : (c : Context) → IsHere here c.phase → (es : Trees) → Timely here (breaks_all c es)
    all_timely c h no_trees = none
    all_timely c h (trees e es) = both (breaks_timely c h e) (all_timely c h es)

    parts_timely : (c : Context) → IsHere here c.phase → (ps : Parts) → Timely here (breaks_parts c ps)
    parts_timely c h no_parts = none
    parts_timely c h (parts n b ps) = both (behind_timely c h b) (parts_timely c h ps)

    behind_timely : (c : Context) → IsHere here c.phase → (b : Behind) → Timely here (breaks_behind c b)
    behind_timely c h bare = none
    behind_timely c h (within list) = arguments_timely c h list

    pub arguments_timely : (c : Context) → IsHere here c.phase → (list : Arguments) → Timely here (breaks_arguments c list)
    arguments_timely c h no_arguments = none
    arguments_timely c h (arguments a others) = both (an_argument_timely c h a) (arguments_timely c h others)

    an_argument_timely : (c : Context) → IsHere here c.phase → (a : ArgumentTree) → Timely here (breaks_argument c a)
    an_argument_timely c h (value keyword e) = breaks_timely c h e
    an_argument_timely c h (triplet p first last stride) = both (perhaps_timely c h first) (both (perhaps_timely c h last) (perhaps_timely c h stride))

    perhaps_timely : (c : Context) → IsHere here c.phase → (e : Perhaps) → Timely here (breaks_perhaps c e)
    perhaps_timely c h absent = none
    perhaps_timely c h (present e) = breaks_timely c h e

  pub designator_breaks_timely : (c : Context) → IsHere here c.phase → (u : Role) (ps : Parts) → Timely here (designator_breaks c u ps)
  designator_breaks_timely c h u ps = both (parts_timely c h ps) (designator_timely c h u (said_parts c ps))
