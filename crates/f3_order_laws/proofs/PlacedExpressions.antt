-- An expression breaks rules at places of its own.
use Rattle.std.proofs.Common.{refl, ℕ, ◌+◌, Bool, true, false, not, ◌&&◌, ◌||◌, ◌==◌, if◌then◌else◌, List, [], ◌∷◌, ◌++◌, length, Option, None, Some, sym, subst, inl, inr}
use Rattle.std.specs.Prelude.{nat_lt}
use Rattle.std.specs.List.{flat_map, list_all}
use Rattle.f3_nodes.proofs.Members.{Has}
use Rattle.f3_places.specs.declared.source.Place.{Place}
use Rattle.f3_rules.specs.declared.rule.Rule.TheVariants.{T6, T7, T8, T9, T10, T12}
use Rattle.f3_rules.specs.declared.breaks.Break.{Break}
use Rattle.f3_tree.specs.declared.expression.Name.{Name}
use Rattle.f3_kinds.specs.declared.types.DataType.{DataType}
use Rattle.f3_kinds.specs.declared.types.Object.{Object}
use Rattle.f3_kinds.specs.declared.types.Wanted.{Wanted}
use Rattle.f3_kinds.specs.declared.types.Wanted.TheVariants as wanted
use Rattle.f3_kinds.specs.declared.said.Form.TheVariants.{Constant}
use Rattle.f3_kinds.specs.declared.said.Has.{Has as Having}
use Rattle.f3_kinds.specs.declared.said.Said.{Said}
use Rattle.f3_kinds.specs.declared.said.Given.{Given}
use Rattle.f3_kinds.specs.declared.said.Given.TheVariants.{Value, Triplet}
use Rattle.f3_kinds.specs.declared.said.Reach.{Reach}
use Rattle.f3_kinds.specs.declared.said.Role.{Role}
use Rattle.f3_kinds.specs.declared.said.Role.TheVariants as role
use Rattle.f3_kinds.specs.declared.said.Selected.{Selected}
use Rattle.f3_kinds.specs.declared.said.Selected.TheVariants as is
use Rattle.f3_kinds.specs.declared.things.Component.{Component}
use Rattle.f3_kinds.specs.declared.things.Dummy.{Dummy}
use Rattle.f3_kinds.specs.declared.things.Intrinsic.{Intrinsic}
use Rattle.f3_kinds.specs.declared.things.Intrinsic.TheVariants as intrinsic_is
use Rattle.f3_kinds.specs.Things.{map_or, Nature, constant, variable, derived, subroutine, function, Context, Meaning, nothing, several, intrinsic, entity, meaning_of, at_place_of}
use Rattle.f3_kinds.specs.Rows.{at_place, at_name, unless, is_wanted, fits, has_type, type_rows, has_rows, scalar_rows}
use Rattle.f3_kinds.specs.Operands.{has_same, first_type, mixed_rows, array_rows}
use Rattle.f3_kinds.specs.Designators.{Part, rows_perhaps, subscript_rows, part_rows, are_fit, count_is_right, enter, enter_rows, start, select, step, step_selected_rows, step_rows, along_rows, reach_rows, role_fits, object_reach, object_rows, is_allocation, is_of_heap, is_last}
use Rattle.f3_kinds.specs.Calls.{given_place, no_match, Matched, match_next, place_for, argument_fits, argument_rows, are_right, is_complete, function_rows, least_count, or_first, integer_type, actual_right, actual_rows, intrinsic_parts, intrinsic_rows}
use Rattle.f3_kinds.specs.Calls.{type_takes, value_rows, private_at, missing_rows, component_rows, given_rows, constructor_given, constructor_parts, is_constructed, constructor_rows}
use Rattle.f3_kinds.specs.Typing.{Sense, unmeant, object, reference, intrinsic_reference, construction, called, sense_entity, sense_intrinsic, sense_of, sense, sense_rows, designator_rows}

module _ (P : Place → Type 0) where
  -- all these places are such
  abbrev pub Are : List Place → Type 0
  Are [] = Unit {0}
  Are (p ∷ ps) = P p × Are ps

  pub are_of : (ps : List Place) → ((p : Place) → Has ps p → P p) → Are ps
  are_of [] h = tt
  are_of (p ∷ ps) h = (h p (inl refl), are_of ps (λ q r. h q (inr r)))

  pub front : (ps qs : List Place) → Are (ps ++ qs) → Are ps
  front [] qs a = tt
  front (p ∷ ps) qs a = (a.0, front ps qs a.1)

  pub back : (ps qs : List Place) → Are (ps ++ qs) → Are qs
  back [] qs a = a
  back (p ∷ ps) qs a = back ps qs a.1

  -- all these breaks are at such places
  abbrev pub At : List Break → Type 0
  At [] = Unit {0}
  At (b ∷ bs) = P b.place × At bs

  pub both : (xs ys : List Break) → At xs → At ys → At (xs ++ ys)
  both [] ys a b = b
  both (x ∷ xs) ys a b = (a.0, both xs ys a.1 b)

  pub place_in : (xs : List Break) (b : Break) → At xs → Has xs b → P b.place
  place_in [] b a h = absurd h
  place_in (x ∷ xs) b a (inl e) = subst (λ (y : Break). P y.place) (sym e) a.0
  place_in (x ∷ xs) b a (inr h) = place_in xs b a.1 h

  pub unless_at : (t : Bool) (b : Break) → P b.place → At (unless t b)
  unless_at true b p = tt
  unless_at false b p = (p, tt)

  pub if_at : (t : Bool) (xs ys : List Break) → At xs → At ys → At (if t then xs else ys)
  if_at true xs ys a b = a
  if_at false xs ys a b = b

  -- ---- what is said at such places

  abbrev pub PerhapsAt : Option Said → Type 0
  PerhapsAt None = Unit {0}
  PerhapsAt (Some s) = P s.place

  abbrev pub GivenAt : Given → Type 0
  GivenAt (Value None s) = P s.place
  GivenAt (Value (Some keyword) s) = P keyword.place × P s.place
  GivenAt (Triplet p first last stride) = P p × PerhapsAt first × PerhapsAt last × PerhapsAt stride

  abbrev pub GivensAt : List Given → Type 0
  GivensAt [] = Unit {0}
  GivensAt (g ∷ gs) = GivenAt g × GivensAt gs

  abbrev pub BehindAt : Option (List Given) → Type 0
  BehindAt None = Unit {0}
  BehindAt (Some gs) = GivensAt gs

  abbrev pub PartsAt : List Part → Type 0
  PartsAt [] = Unit {0}
  PartsAt (p ∷ ps) = P (p.0).place × BehindAt p.1 × PartsAt ps

  abbrev pub AllSaidAt : List Said → Type 0
  AllSaidAt [] = Unit {0}
  AllSaidAt (s ∷ ss) = P s.place × AllSaidAt ss

  -- ---- operands

  type_rows_at : (want : Wanted) (rank : ℕ) (p : Place) (d : Option DataType) → P p → At (type_rows want rank p d)
  type_rows_at want rank p None a = tt
  type_rows_at want rank p (Some d) a =
      both (unless (is_wanted want d) (at_place 6 T6 p)) (unless (rank == 0) (at_place 6 T7 p)) (unless_at (is_wanted want d) (at_place 6 T6 p) a) (unless_at (rank == 0) (at_place 6 T7 p) a)

  has_rows_at : (want : Wanted) (p : Place) (h : Option Having) → P p → At (has_rows want p h)
  has_rows_at want p None a = tt
  has_rows_at want p (Some h) a = type_rows_at want h.rank p h.data_type a

  pub scalar_at : (want : Wanted) (s : Said) → P s.place → At (scalar_rows want s)
  scalar_at want s a = has_rows_at want s.place s.has a

  pub scalars_at : (want : Wanted) (ss : List Said) → AllSaidAt ss → At (flat_map (scalar_rows want) ss)
  scalars_at want [] a = tt
  scalars_at want (s ∷ ss) a = both (scalar_rows want s) (flat_map (scalar_rows want) ss) (scalar_at want s a.0) (scalars_at want ss a.1)

  mixed_at : (d : Option DataType) (ss : List Said) → AllSaidAt ss → At (mixed_rows d ss)
  mixed_at d [] a = tt
  mixed_at d (s ∷ ss) a = if_at (has_same d s) (mixed_rows d ss) (at_place 6 T6 s.place ∷ []) (mixed_at d ss a.1) (a.0, tt)

  pub array_at : (ss : List Said) → AllSaidAt ss → At (array_rows ss)
  array_at ss a =
      both (flat_map (scalar_rows wanted.Intrinsic) ss) (if list_all (fits wanted.Intrinsic) ss then mixed_rows (first_type ss) ss else [])
      (scalars_at wanted.Intrinsic ss a) (if_at (list_all (fits wanted.Intrinsic) ss) (mixed_rows (first_type ss) ss) [] (mixed_at (first_type ss) ss a) tt)

  -- ---- designators

  perhaps_rows_at : (s : Option Said) → PerhapsAt s → At (rows_perhaps s)
  perhaps_rows_at None a = tt
  perhaps_rows_at (Some s) a = scalar_at wanted.Integer s a

  subscript_at : (g : Given) → GivenAt g → At (subscript_rows g)
  subscript_at (Value None s) a = scalar_at wanted.Integer s a
  subscript_at (Value (Some keyword) s) a = (a.0, tt)
  subscript_at (Triplet p first last stride) a =
      both (rows_perhaps first) (rows_perhaps last ++ rows_perhaps stride) (perhaps_rows_at first a.1)
      (both (rows_perhaps last) (rows_perhaps stride) (perhaps_rows_at last a.2) (perhaps_rows_at stride a.3))

  subscripts_at : (gs : List Given) → GivensAt gs → At (flat_map subscript_rows gs)
  subscripts_at [] a = tt
  subscripts_at (g ∷ gs) a = both (subscript_rows g) (flat_map subscript_rows gs) (subscript_at g a.0) (subscripts_at gs a.1)

  part_at : (h : Option (List Given)) → BehindAt h → At (part_rows h)
  part_at None a = tt
  part_at (Some gs) a = subscripts_at gs a

  enter_at : (bounds : Bool) (o : Object) (p : Part) → P (p.0).place → BehindAt p.1 → At (enter_rows bounds o p)
  enter_at bounds o p n h =
      both (part_rows p.1) (if are_fit p.1 then unless (count_is_right bounds o p.1) (at_place 6 T7 (p.0).place) else []) (part_at p.1 h)
      (if_at (are_fit p.1) (unless (count_is_right bounds o p.1) (at_place 6 T7 (p.0).place)) [] (unless_at (count_is_right bounds o p.1) (at_place 6 T7 (p.0).place) n) tt)

  selected_at : (bounds : Bool) (p : Part) → P (p.0).place → BehindAt p.1 → (s : Selected) → At (step_selected_rows bounds p s)
  selected_at bounds p n h is.Unknown = tt
  selected_at bounds p n h is.Missing = (n, tt)
  selected_at bounds p n h is.Hidden = (n, tt)
  selected_at bounds p n h (is.Component k) = enter_at bounds k.object p n h

  step_at : (c : Context) (bounds : Bool) (p : Part) → P (p.0).place → BehindAt p.1 → (r : Option Reach) → At (step_rows c bounds p r)
  step_at c bounds p n h None = tt
  step_at c bounds p n h (Some r) = selected_at bounds p n h (select c r.object p.0)

  along_at : (c : Context) (u : Role) (ps : List Part) (r : Option Reach) → PartsAt ps → At (along_rows c u ps r)
  along_at c u [] r a = tt
  along_at c u (p ∷ ps) r a =
      let bounds : Bool = is_allocation u && is_last ps in
      both (step_rows c bounds p r) (along_rows c u ps (step c bounds p r)) (step_at c bounds p a.0 a.1 r) (along_at c u ps (step c bounds p r) a.2)

  reach_at : (u : Role) (n : Name) (r : Option Reach) → P n.place → At (reach_rows u n r)
  reach_at u n None a = tt
  reach_at u n (Some r) a = by r.is_fit r.offends
    where
      by : (fit offends : Bool) → At (if fit then (if offends then at_place 6 T7 n.place ∷ [] else unless (role_fits u r) (at_name 6 T9 n)) else [])
      by true true = (a, tt)
      by true false = unless_at (role_fits u r) (at_name 6 T9 n) a
      by false offends = tt

  object_at : (c : Context) (u : Role) (o : Object) (p : Part) (ps : List Part) → PartsAt (p ∷ ps) → At (object_rows c u o p ps)
  object_at c u o p ps a =
      let bounds : Bool = is_allocation u && is_last ps in
      let first : Option Reach = enter bounds (start o) o p.1 in
      both (enter_rows bounds o p) (along_rows c u ps first ++ reach_rows u p.0 (object_reach c u o p ps)) (enter_at bounds o p a.0 a.1)
      (both (along_rows c u ps first) (reach_rows u p.0 (object_reach c u o p ps)) (along_at c u ps first a.2) (reach_at u p.0 (object_reach c u o p ps) a.0))

  -- ---- references and constructors

  place_at : (g : Given) → GivenAt g → P (given_place g)
  place_at (Value None s) a = a
  place_at (Value (Some keyword) s) a = a.0
  place_at (Triplet p first last stride) a = a.0

  argument_at : (ds : List (ℕ × Dummy)) (position : ℕ) (gs : List Given) (m : Matched) → GivensAt gs → At (argument_rows ds position gs m)
  argument_at ds position [] m a = tt
  argument_at ds position (g ∷ gs) m a =
      both (unless (argument_fits ds position g m) (at_place 6 T8 (given_place g))) (argument_rows ds (position + 1) gs (match_next ds position g m))
      (unless_at (argument_fits ds position g m) (at_place 6 T8 (given_place g)) (place_at g a.0)) (argument_at ds (position + 1) gs (match_next ds position g m) a.1)

  function_at : (n : Name) (ds : List (ℕ × Dummy)) (gs : List Given) → P n.place → GivensAt gs → At (function_rows n ds gs)
  function_at n ds gs p a =
      both (argument_rows ds 0 gs no_match) (unless (not (are_right ds gs) || is_complete ds gs) (at_place 6 T8 n.place))
      (argument_at ds 0 gs no_match a) (unless_at (not (are_right ds gs) || is_complete ds gs) (at_place 6 T8 n.place) p)

  actual_at : (i : Intrinsic) (first : Option DataType) (position : ℕ) (gs : List Given) → GivensAt gs → At (actual_rows i first position gs)
  actual_at i first position [] a = tt
  actual_at i first position (g ∷ gs) a =
      both (unless (actual_right i first position g) (at_place 6 T8 (given_place g))) (actual_rows i (or_first first (integer_type g)) (position + 1) gs)
      (unless_at (actual_right i first position g) (at_place 6 T8 (given_place g)) (place_at g a.0)) (actual_at i (or_first first (integer_type g)) (position + 1) gs a.1)

  intrinsic_at : (n : Name) (i : Intrinsic) (gs : List Given) → P n.place → GivensAt gs → At (intrinsic_rows n i gs)
  intrinsic_at n i gs p a =
      let few : Bool = not (nat_lt (length gs) (least_count i)) in
      both (actual_rows i None 0 gs) (if intrinsic_parts i gs then unless few (at_place 6 T8 n.place) else [])
      (actual_at i None 0 gs a) (if_at (intrinsic_parts i gs) (unless few (at_place 6 T8 n.place)) [] (unless_at few (at_place 6 T8 n.place) p) tt)

  value_at : (o : Object) (p : Place) (h : Option Having) → P p → At (map_or [] (value_rows o p) h)
  value_at o p None a = tt
  value_at o p (Some h) a =
      let type_row : List Break = unless (type_takes o.data_type h.data_type) (at_place 6 T6 p) in
      let rank_row : List Break = unless ((h.rank == o.rank) || ((h.rank == 0) && not o.is_allocatable)) (at_place 6 T7 p) in
      if_at (has_type (Some h)) (type_row ++ rank_row) []
      (both type_row rank_row (unless_at (type_takes o.data_type h.data_type) (at_place 6 T6 p) a)
      (unless_at ((h.rank == o.rank) || ((h.rank == 0) && not o.is_allocatable)) (at_place 6 T7 p) a)) tt

  component_at : (o : Object) (g : Given) → GivenAt g → At (component_rows o g)
  component_at o (Value None s) a = value_at o s.place s.has a
  component_at o (Value (Some keyword) s) a = value_at o s.place s.has a.1
  component_at o (Triplet p first last stride) a = tt

  missing_at : (g : Given) → GivenAt g → At (missing_rows g)
  missing_at (Value None s) a = tt
  missing_at (Value (Some keyword) s) a = (a.0, tt)
  missing_at (Triplet p first last stride) a = tt

  private_place : (g : Given) → GivenAt g → P (private_at g).place
  private_place (Value None s) a = a
  private_place (Value (Some keyword) s) a = a.0
  private_place (Triplet p first last stride) a = a.0

  given_at : (inside : Bool) (k : Option Component) (g : Given) → GivenAt g → At (given_rows inside k g)
  given_at inside None g a = missing_at g a
  given_at inside (Some k) g a =
      both (unless (not k.is_private || inside) (private_at g)) (component_rows k.object g)
      (unless_at (not k.is_private || inside) (private_at g) (private_place g a)) (component_at k.object g a)

  constructor_given_at : (inside : Bool) (ks : List (ℕ × Component)) (position : ℕ) (gs : List Given) → GivensAt gs → At (constructor_given inside ks position gs)
  constructor_given_at inside ks position [] a = tt
  constructor_given_at inside ks position (g ∷ gs) a =
      let k : Option Component = map_or None (at_place_of ks) (place_for ks position g) in
      both (given_rows inside k g) (constructor_given inside ks (position + 1) gs) (given_at inside k g a.0) (constructor_given_at inside ks (position + 1) gs a.1)

  constructor_at : (phase : ℕ) (n : Name) (inside : Bool) (ks : List (ℕ × Component)) (f : Bool) (gs : List Given) → P n.place → GivensAt gs → At (constructor_rows phase n inside ks f gs)
  constructor_at phase n inside ks f gs p a =
      let whole : List Break = unless (is_constructed ks gs) (at_name 6 T10 n) in
      let last : List Break = unless (not f) (at_name phase T12 n) in
      both (constructor_given inside ks 0 gs) (if constructor_parts inside ks gs then whole ++ last else []) (constructor_given_at inside ks 0 gs a)
      (if_at (constructor_parts inside ks gs) (whole ++ last) []
      (both whole last (unless_at (is_constructed ks gs) (at_name 6 T10 n) p) (unless_at (not f) (at_name phase T12 n) p)) tt)

  -- ---- what a designator is

  -- what is given in it stands at such places, and so does the break that says that it may not stand there
  abbrev SenseAt : Sense → Type 0
  SenseAt (unmeant b) = P b.place
  SenseAt (object form o) = Unit {0}
  SenseAt (reference ds o gs) = GivensAt gs
  SenseAt (intrinsic_reference i gs) = GivensAt gs
  SenseAt (construction t inside ks f gs) = GivensAt gs

  sense_entity_at : (unit : ℕ) (u : Role) (n : Name) (e : ℕ) (nature : Nature) (gs : Option (List Given)) → P n.place → BehindAt gs → SenseAt (sense_entity unit u n e nature gs)
  sense_entity_at unit u n e (variable o) gs p a = tt
  sense_entity_at unit u n e (constant o) gs p a = by (is_of_heap u)
    where
      by : (t : Bool) → SenseAt (if t then unmeant (at_name 6 T9 n) else object Constant o)
      by true = p
      by false = tt
  sense_entity_at unit u n e (function pure ds o) (Some gs) p a = a
  sense_entity_at unit u n e (function pure ds o) None p a = p
  sense_entity_at unit u n e (derived home ks f) (Some gs) p a = a
  sense_entity_at unit u n e (derived home ks f) None p a = p
  sense_entity_at unit u n e (subroutine pure ds) gs p a = p

  sense_intrinsic_at : (n : Name) (i : Intrinsic) (gs : Option (List Given)) → P n.place → BehindAt gs → SenseAt (sense_intrinsic n i gs)
  sense_intrinsic_at n intrinsic_is.MoveAlloc gs p a = p
  sense_intrinsic_at n _ None p a = p
  sense_intrinsic_at n _ (Some gs) p a = a

  sense_of_at : (unit : ℕ) (u : Role) (n : Name) (m : Meaning) (gs : Option (List Given)) → P n.place → BehindAt gs → SenseAt (sense_of unit u n m gs)
  sense_of_at unit u n nothing gs p a = p
  sense_of_at unit u n several gs p a = p
  sense_of_at unit u n (intrinsic i) gs p a = sense_intrinsic_at n i gs p a
  sense_of_at unit u n (entity e nature) gs p a = sense_entity_at unit u n e nature gs p a

  called_at : (u : Role) (ps : List Part) (gs : Option (List Given)) → BehindAt gs → BehindAt (called u ps gs)
  called_at role.Expression [] (Some gs) a = a
  called_at role.Expression [] None a = tt
  called_at role.Expression (p ∷ ps) gs a = tt
  called_at role.Variable ps gs a = tt
  called_at role.Allocated ps gs a = tt
  called_at role.Deallocated ps gs a = tt

  sense_rows_at : (c : Context) (u : Role) (p : Part) (ps : List Part) → PartsAt (p ∷ ps) → (s : Sense) → SenseAt s → At (sense_rows c u p ps s)
  sense_rows_at c u p ps a (unmeant b) s = (s, tt)
  sense_rows_at c u p ps a (object form o) s = object_at c u o p ps a
  sense_rows_at c u p ps a (reference ds o gs) s = function_at p.0 ds gs a.0 s
  sense_rows_at c u p ps a (intrinsic_reference i gs) s = intrinsic_at p.0 i gs a.0 s
  sense_rows_at c u p ps a (construction t inside ks f gs) s = constructor_at c.phase p.0 inside ks f gs a.0 s

  pub designator_at : (c : Context) (u : Role) (ps : List Part) → PartsAt ps → At (designator_rows c u ps)
  designator_at c u [] a = tt
  designator_at c u (p ∷ ps) a =
      sense_rows_at c u p ps a (sense c u p ps) (sense_of_at c.unit u p.0 (meaning_of c (p.0).symbol) (called u ps p.1) a.0 (called_at u ps p.1 a.1))
