-- What the builder's parts become.
use Rattle.std.proofs.Common.{◌≡◌, ◌<◌, ℕ, Bool, true, List, [], map, Option, Some, None, Result, Ok, Err, refl, sym, ap, subst, ◌∙◌, length, arith}
use Rattle.std.specs.Option.{option_map}
use Rattle.std.proofs.lemmas.Bool.{eq-eqb}
use Rattle.f3_places.specs.declared.source.Place.{Place}
use Rattle.f3_tree.specs.declared.expression.Name.{Name}
use Rattle.f3_tree.specs.Tree.{UnitTree, unit_view}
use Rattle.f3_form.specs.declared.form.Ended.{Ended}
use Rattle.f3_blocks.specs.declared.error.StepError.{StepError}
use Rattle.f3_blocks.specs.declared.error.StepError.TheVariants.{Memory, OutOfPlace, TooDeep}
use Rattle.f3_blocks.specs.Pieces.{Placed}
use Rattle.f3_blocks.specs.Pieces as blocks_pieces
use Rattle.f3_blocks.specs.Machine as blocks
use Rattle.f3_parts.specs.Pieces as parts_pieces
use Rattle.f3_parts.specs.Machine as parts
use Rattle.f3_parts.specs.Machine.{is_none}
use Rattle.f3_units.specs.Roles.{Role, begins, contains, heads, ends, specifies, executes, IsEnd, Tells}
use Rattle.f3_units.specs.declared.scope.Role.{Role as CodeRole}
use Rattle.f3_units.specs.declared.scope.Role.TheVariants as code
use Rattle.f3_units.specs.declared.builder.OpenProcedure.{OpenProcedure}
use Rattle.f3_units.specs.declared.builder.OpenUnit.{OpenUnit}
use Rattle.f3_units.specs.declared.builder.Builder.{Builder}
use Rattle.f3_units.specs.Units.{role_of}
use Rattle.f3_units.specs.Machine.{Scope, Opened, Begun, State, busy, still, inside, step, with_scope, with_procedure, with_closed, procedure_closed, is_untouched, with_part, with_block, to_part, to_block, in_scope, in_unit, in_procedure, body_depth, scope_depth, begun_depth, opened_view, begun_view, builder_view, Becomes, Steps}

abbrev a_state : List UnitTree → Option Begun → State
a_state done u = record { done = done; unit = u }

abbrev a_scope : parts.State → blocks.State → Scope
a_scope p b = record { part = p; block = b }

module _ {U : Type 0} where
  -- ---- a part or a block goes on

  pub part_moves : (m : Bool) (x : Placed) (p q : parts.State) (b : blocks.State) (result : Result U StepError) → is_untouched b ≡ true → parts.Becomes result q (parts.step m (parts_pieces.piece_of x) p)
      → Becomes scope_depth result (a_scope p b) (a_scope q b) (to_part m x (a_scope p b))
  part_moves m x p q b (Ok u) bare h = (rw (bare, h) refl, λ w. let less : length b.opens < length b.opens = w.0 in absurd (omega arith))
  part_moves m x p q b (Err Memory) bare h = tt
  part_moves m x p q b (Err OutOfPlace) bare h = rw (bare, h) refl
  part_moves m x p q b (Err TooDeep) bare h = absurd h

  pub block_moves : (procedure : Bool) (x : Placed) (p : parts.State) (b c : blocks.State) (result : Result U StepError) → is_none p.open_type ≡ true → blocks.Moves result b c (blocks.step procedure (blocks_pieces.piece_of x) b)
      → Becomes scope_depth result (a_scope p b) (a_scope p c) (to_block procedure x (a_scope p b))
  block_moves procedure x p b c (Ok u) none h = (rw (none, h.0) refl, h.1)
  block_moves procedure x p b c (Err Memory) none h = tt
  block_moves procedure x p b c (Err OutOfPlace) none h = rw (none, h) refl
  block_moves procedure x p b c (Err TooDeep) none h = (a_scope p h.0, rw (none, h.1) refl, h.2)

  -- ---- a unit is as deep as the part of it that goes on

  pub lifted : {A B : Type 0} (deep : A → ℕ) (far : B → ℕ) (f : A → B) (s t : A) (u : B) (next : Option A) (result : Result U StepError)
      → far u ≡ deep s → ((x : A) → far (f x) ≡ deep x) → Becomes deep result s t next → Becomes far result u (f t) (option_map f next)
  lifted deep far f s t u next (Ok x) from to h =
      (ap (option_map f) h.0, λ w. let at = to t in h.1 (subst (λ (n : ℕ). n < deep t) from (subst (λ (n : ℕ). far u < n) at w.0), subst (λ (n : ℕ). 64 < n) at w.1))
  lifted deep far f s t u next (Err Memory) from to h = tt
  lifted deep far f s t u next (Err OutOfPlace) from to h = ap (option_map f) h
  lifted deep far f s t u next (Err TooDeep) from to h =
      let at = sym (to h.0) in
      (f h.0, ap (option_map f) h.1, (subst (λ (n : ℕ). n < far (f h.0)) (sym from) (subst (λ (n : ℕ). deep s < n) at h.2.0), subst (λ (n : ℕ). 64 < n) at h.2.1))

  pub scope_moves : (u : Begun) (t : Scope) (next : Option Scope) (result : Result U StepError) → u.contains ≡ None → Becomes scope_depth result u.scope t next
      → Becomes begun_depth result u (with_scope u t) (option_map (with_scope u) next)
  scope_moves u t next result none h =
      let deep : (s : Scope) → body_depth u.contains u.procedure s ≡ scope_depth s = λ s. ap (λ (c : Option Place). body_depth c u.procedure s) none in
      lifted scope_depth begun_depth (with_scope u) u.scope t u next result (deep u.scope) deep h

  pub procedure_moves : (u : Begun) (at : Place) (o : Opened) (t : Scope) (next : Option Scope) (result : Result U StepError) → u.contains ≡ Some at → u.procedure ≡ Some o → Becomes scope_depth result o.scope t next
      → Becomes begun_depth result u (with_procedure u o.header t) (option_map (with_procedure u o.header) next)
  procedure_moves u at o t next result there opens h =
      let open_depth : begun_depth u ≡ scope_depth o.scope = ap (λ (c : Option Place). body_depth c u.procedure u.scope) there ∙ ap (λ (x : Option Opened). body_depth (Some at) x u.scope) opens in
      lifted scope_depth begun_depth (with_procedure u o.header) o.scope t u next result open_depth (λ s. ap (λ (c : Option Place). body_depth c (Some (record { header = o.header; scope = s })) u.scope) there) h

  pub unit_moves : (done : List UnitTree) (u v : Begun) (next : Option Begun) (result : Result U StepError) → Becomes begun_depth result u v next → Steps result (busy done u) (busy done v) (still done next)
  unit_moves done u v next (Ok x) h = (ap (option_map (busy done)) h.0, h.1)
  unit_moves done u v next (Err Memory) h = tt
  unit_moves done u v next (Err OutOfPlace) h = ap (option_map (busy done)) h
  unit_moves done u v next (Err TooDeep) h = (busy done h.0, ap (option_map (busy done)) h.1, h.2)

  -- the machine goes on otherwise written
  pub becomes_same : {A : Type 0} (deep : A → ℕ) (result : Result U StepError) (s t : A) (next other : Option A) → Becomes deep result s t next → other ≡ next → Becomes deep result s t other
  becomes_same {A} deep result s t next other h is = subst (λ (x : Option A). Becomes deep result s t x) (sym is) h

  pub steps_same : (result : Result U StepError) (s t : State) (next other : Option State) → Steps result s t next → other ≡ next → Steps result s t other
  steps_same result s t next other h is = subst (λ (x : Option State). Steps result s t x) (sym is) h

  pub steps_from : (result : Result U StepError) (s r t : State) (next : Option State) → Steps result s t next → r ≡ s → Steps result r t next
  steps_from result s r t next h is = subst (λ (x : State). Steps result x t next) (sym is) h

  -- the open unit goes on
  pub moves_inside : (now : Builder) (unit u : OpenUnit) (v : Begun) (f : OpenUnit → Option Begun) (result : Result U StepError) → now.unit ≡ Some unit → now.unit ≡ Some u → Becomes begun_depth result (begun_view unit) v (f unit)
      → Steps result (builder_view now) (busy (map unit_view now.units.items) v) (still (map unit_view now.units.items) (f u))
  moves_inside now unit u v f result is opens h =
      let done = map unit_view now.units.items in
      let same : unit ≡ u = cc in
      let from : builder_view now ≡ busy done (begun_view unit) = ap (λ (o : Option OpenUnit). a_state done (option_map begun_view o)) is in
      subst (λ (x : OpenUnit). Steps result (builder_view now) (busy done v) (still done (f x))) same (steps_from result (busy done (begun_view unit)) (builder_view now) (busy done v) (still done (f unit)) (unit_moves done (begun_view unit) v (f unit) result h) from)

-- ---- what the machine does at a role

-- no unit, procedure or END begins in a procedure or among the statements of a unit
pub in_procedure_on : (r : Role) (p : Placed) (u : Begun) (o : Opened) → (IsEnd r → ⊥) → in_procedure r p u o ≡ option_map (with_procedure u o.header) (in_scope true r p o.scope)
in_procedure_on (begins kind name) p u o on = refl
in_procedure_on contains p u o on = refl
in_procedure_on (heads header) p u o on = refl
in_procedure_on (ends what label) p u o on = absurd (on tt)
in_procedure_on specifies p u o on = refl
in_procedure_on executes p u o on = refl

pub in_unit_procedure : (r : Role) (p : Placed) (u : Begun) (at : Place) (o : Opened) → u.contains ≡ Some at → u.procedure ≡ Some o → (IsEnd r → ⊥)
    → in_unit u.contains u.procedure r p u ≡ option_map (with_procedure u o.header) (in_scope true r p o.scope)
in_unit_procedure r p u at o there opens on =
    ap (λ (x : Option Place). in_unit x u.procedure r p u) there ∙ ap (λ (x : Option Opened). in_unit (Some at) x r p u) opens ∙ in_procedure_on r p u o on

pub inside_on : (o : Option Opened) (r : Role) (p : Placed) (done : List UnitTree) (u : Begun) → (IsEnd r → ⊥) → inside o r p done u ≡ still done (in_unit u.contains o r p u)
inside_on None (begins kind name) p done u on = refl
inside_on None contains p done u on = refl
inside_on None (heads header) p done u on = refl
inside_on None (ends what label) p done u on = absurd (on tt)
inside_on None specifies p done u on = refl
inside_on None executes p done u on = refl
inside_on (Some o) r p done u on = refl

-- an END ends the open procedure
pub inside_closes : (u : Begun) (at : Place) (o : Opened) (p : Placed) (what : Option Ended) (label : Option Name) (done : List UnitTree) → u.contains ≡ Some at → u.procedure ≡ Some o
    → inside u.procedure (ends what label) p done u ≡ still done (option_map (with_closed u) (procedure_closed p.place what label o))
inside_closes u at o p what label done there opens =
    ap (λ (x : Option Opened). inside x (ends what label) p done u) opens ∙ ap (λ (x : Option Place). still done (in_unit x (Some o) (ends what label) p u)) there

pub step_inside : (p : Placed) (s : State) (u : Begun) → s.unit ≡ Some u → u.file ≡ p.place.file → step p s ≡ inside u.procedure (role_of p) p s.done u
step_inside p s u is same = rw (is, eq-eqb u.file p.place.file same) refl

-- among executable statements and declarations stands nothing else
pub in_scope_none : (k : CodeRole) (r : Role) (procedure : Bool) (p : Placed) (s : Scope) → Tells k r → (k ≡ code.Specifies → ⊥) → (k ≡ code.Contains → ⊥) → (k ≡ code.Executes → ⊥) → in_scope procedure r p s ≡ None
in_scope_none (code.Begins kind n) r procedure p s h a b c = rw h refl
in_scope_none code.Contains r procedure p s h a b c = absurd (b refl)
in_scope_none code.Heads r procedure p s h a b c = rw h.1 refl
in_scope_none (code.Ends what n) r procedure p s h a b c = rw h refl
in_scope_none code.Specifies r procedure p s h a b c = absurd (a refl)
in_scope_none code.Executes r procedure p s h a b c = absurd (c refl)

-- an END that was read in an open unit ends the open procedure
pub ends_procedure : {U : Type 0} → (now : Builder) (unit u : OpenUnit) (t : State) (at : Place) (o : OpenProcedure) (p : Placed) (place : Place) (what : Option Ended) (label : Option Name) (result : Result U StepError)
    → now.unit ≡ Some unit → now.unit ≡ Some u → unit.contains ≡ Some at → unit.procedure ≡ Some o → p.place ≡ place
    → Steps result (busy (map unit_view now.units.items) (begun_view unit)) t (still (map unit_view now.units.items) (option_map (with_closed (begun_view unit)) (procedure_closed place what label (opened_view o))))
    → Steps result (builder_view now) t (inside (begun_view u).procedure (ends what label) p (map unit_view now.units.items) (begun_view u))
ends_procedure now unit u t at o p place what label result is opens there within here h =
    let done = map unit_view now.units.items in
    let v = begun_view unit in
    let same : unit ≡ u = cc in
    let from : builder_view now ≡ busy done v = ap (λ (x : Option OpenUnit). a_state done (option_map begun_view x)) is in
    let closes : inside v.procedure (ends what label) p done v ≡ still done (option_map (with_closed v) (procedure_closed place what label (opened_view o))) =
    inside_closes v at (opened_view o) p what label done there (ap (λ (x : Option OpenProcedure). option_map opened_view x) within)
    ∙ ap (λ (x : Place). still done (option_map (with_closed v) (procedure_closed x what label (opened_view o)))) here in
    subst (λ (x : OpenUnit). Steps result (builder_view now) t (inside (begun_view x).procedure (ends what label) p done (begun_view x))) same
    (steps_from result (busy done v) (builder_view now) t (inside v.procedure (ends what label) p done v) (steps_same result (busy done v) t (still done (option_map (with_closed v) (procedure_closed place what label (opened_view o)))) (inside v.procedure (ends what label) p done v) h closes) from)
