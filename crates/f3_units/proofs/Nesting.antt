-- The machine reads what units spell, and nothing else; and how what it read may go on.
use Rattle.std.proofs.Common.{◌≡◌, ℕ, ◌+◌, Bool, true, false, List, [], ◌∷◌, ◌++◌, Option, Some, None, ◌⊎◌, inl, inr, refl, sym, ap, subst, ◌∙◌}
use Rattle.std.specs.Prelude.{option_and_then, ◌==◌}
use Rattle.std.proofs.lemmas.List.{append-nil}
use Rattle.std.proofs.lemmas.Bool.{eqb-true}
use Rattle.f3_places.specs.declared.source.Place.{Place}
use Rattle.f3_tree.specs.declared.expression.Name.{Name}
use Rattle.f3_tree.specs.declared.program.UnitKind.{UnitKind}
use Rattle.f3_tree.specs.declared.program.UnitKind.TheVariants.{Module, Program}
use Rattle.f3_tree.specs.Statements.{block_of}
use Rattle.f3_tree.specs.Tree.{ProcedureTree, UnitTree}
use Rattle.f3_form.specs.Forms as form
use Rattle.f3_blocks.specs.Pieces.{Placed}
use Rattle.f3_blocks.specs.Machine as blocks
use Rattle.f3_blocks.proofs.Nesting as nesting
use Rattle.f3_parts.specs.Machine as parts
use Rattle.f3_parts.proofs.Reading as reading
use Rattle.f3_parts.proofs.Reading.{AllAt}
use Rattle.f3_units.specs.Units.{is_module, AllIn, AreUnits, Viable, GoesOn}
use Rattle.f3_units.specs.Machine.{Scope, Opened, Begun, State, start, free, busy, with_part, with_block, with_procedure, is_over, step_from, step, run, depth}
use Rattle.f3_units.specs.Depth.{begins_construct, ends_construct, one_if}
use Rattle.f3_units.proofs.Depths.{step_depth}
use Rattle.f3_units.proofs.Scopes.{stays, owner, own, within, own_part, own_block, within_part, within_block, then_some, PartGoes, BlockGoes, run_part, run_block}
use Rattle.f3_units.proofs.Spelled as spelled_units
use Rattle.f3_units.proofs.Spelled.{all_both, a_unit}
use Rattle.f3_units.proofs.Reached.{InScope, IsOpen, IsContaining, IsBegun, IsUnitAt, reads}

pub units_read : (us : List UnitTree) (ps : List Placed) → AreUnits us ps → run ps start ≡ Some (free us)
units_read us ps h = spelled_units.units_read us ps h

abbrev got : State → Option State
got s = Some s

-- what was read and has no open unit is spelled by the units that were read, and by no others
pub spelled : (ps : List Placed) (s : State) → run ps start ≡ Some s → s.unit ≡ None → AreUnits s.done ps
spelled ps s e none =
    let h = reads ps s e in
    let over : h.rest ≡ [] = subst (λ (x : Option Begun). IsUnitAt x h.rest) none h.unit in
    subst (λ (x : List Placed). AreUnits s.done x) (sym (h.is ∙ ap (λ (x : List Placed). h.front ++ x) over ∙ append-nil h.front)) h.units

under : (f g h : State → Option State) (o : Option State) → ((s : State) → f s ≡ option_and_then g (h s)) → option_and_then f o ≡ option_and_then g (option_and_then h o)
under f g h None same = refl
under f g h (Some s) same = same s

pub run-append : (ps qs : List Placed) (s : State) → run (ps ++ qs) s ≡ option_and_then (run qs) (run ps s)
run-append [] qs s = refl
run-append (p ∷ ps) qs s = under (run (ps ++ qs)) (run qs) (run ps) (step p s) (run-append ps qs)

from_front : (ps qs : List Placed) (s : State) → run ps start ≡ Some s → run (ps ++ qs) start ≡ run qs s
from_front ps qs s e = run-append ps qs start ∙ ap (option_and_then (run qs)) e

-- no list of units begins with what the machine refuses
pub not_viable : (ps : List Placed) → run ps start ≡ None → Viable ps → ⊥
not_viable ps none v =
    let parts = run-append ps v.0 start ∙ ap (option_and_then (run v.0)) none in
    let whole = units_read v.1.0 (ps ++ v.0) v.1.1 in
    absurd (cc)

-- ---- what is open can be closed

-- a place in a source
abbrev there : ℕ → Place
there file = record { file = file; line = 0; column = 0 }

abbrev ending : ℕ → Placed
ending file = record { place = there file; form = form.ends None None }

all_at : (file : ℕ) (ps : List Placed) → AllAt (there file) ps → AllIn file ps
all_at file [] h = tt
all_at file (p ∷ ps) h = (ap (λ (x : Place). x.file) h.0, all_at file ps h.1)

closers_in : (file : ℕ) (os : List blocks.Open) → AllIn file (nesting.closers (there file) os)
closers_in file [] = tt
closers_in file (o ∷ os) = (refl, closers_in file os)

-- statements of a source that end what is open in a part or among executable statements
record Closes (file : ℕ) (at : Scope → State) (s : Scope) : Type 0 where
  more : List Placed
  here : AllIn file more
  scope : Scope
  over : is_over scope ≡ true
  goes : (r : List Placed) → run (more ++ r) (at s) ≡ run r (at scope)

part_closes : (m procedure : Bool) (file : ℕ) (at : Scope → State) (s : Scope) (ps : List Placed) → PartGoes m at file → InScope m procedure s ps → s.block ≡ blocks.start → Closes file at s
part_closes m procedure file at s ps goes h bare =
    let place = there file in
    let w = reading.closes m place h.part s.part h.part_runs in
    let more = reading.closers place s.part in
    let t : Scope = with_part s (parts.closed w.0) in
    record {
      more = more;
      here = all_at file more (reading.closers_at place s.part);
      scope = t;
      over = rw bare refl;
      goes = λ r. run_part m at file goes more r s (parts.closed w.0) (all_at file more (reading.closers_at place s.part)) (rw bare refl) w.1;
    }

scope_closes : (procedure : Bool) (file : ℕ) (at : Scope → State) (s : Scope) (ps : List Placed) → PartGoes false at file → BlockGoes procedure at file → InScope false procedure s ps → Closes file at s
scope_closes procedure file at s ps part_goes block_goes h = by h.apart
  where
    by : (s.part.open_type ≡ None) ⊎ (s.block ≡ blocks.start) → Closes file at s
    by (inr bare) = part_closes false procedure file at s ps part_goes h bare
    by (inl none) =
        let place = there file in
        let w = nesting.closes procedure place s.block.opens s.block.body in
        let more = nesting.closers place s.block.opens in
        record {
          more = more;
          here = closers_in file s.block.opens;
          scope = with_block s (nesting.at [] w.0);
          over = rw none refl;
          goes = λ r. run_block procedure at file block_goes more r s (nesting.at [] w.0) (closers_in file s.block.opens) (rw none refl) w.1;
        }

-- statements of the unit's source that end it
record Ends (u : Begun) (done : List UnitTree) : Type 0 where
  more : List Placed
  here : AllIn u.file more
  units : List UnitTree
  goes : run more (busy done u) ≡ Some (free units)

-- with nothing open but the unit
one_end : (done : List UnitTree) (u : Begun) → u.procedure ≡ None → is_over u.scope ≡ true → Ends u done
one_end done u none over =
    let made : UnitTree = record { place = u.place; kind = u.kind; name = u.name; part = u.scope.part.part; body = block_of u.scope.block.body; contains = u.contains; procedures = u.procedures; end = there u.file } in
    let closes : step (ending u.file) (busy done u) ≡ Some (free (done ++ made ∷ [])) = stays (ending u.file) done u refl ∙ rw (none, over) refl in
    record { more = ending u.file ∷ []; here = (refl, tt); units = done ++ made ∷ []; goes = ap (option_and_then (run [])) closes }

module _ (done : List UnitTree) where
  -- before CONTAINS
  own_ends : (kind : UnitKind) (file : ℕ) (place : Place) (name : Name) (s : Scope) (ps : List Placed) → InScope (is_module kind) false s ps → (kind ≡ Module → s.block ≡ blocks.start) → Ends (owner file place kind name s) done
  own_ends kind file place name s ps h bare =
      let c = by kind h bare in
      let e = one_end done (owner file place kind name c.scope) refl c.over in
      record { more = c.more ++ e.more; here = all_both file c.more e.more c.here e.here; units = e.units; goes = c.goes e.more ∙ e.goes }
    where
      by : (kind : UnitKind) → InScope (is_module kind) false s ps → (kind ≡ Module → s.block ≡ blocks.start) → Closes file (own done file place kind name) s
      by Module h bare = part_closes true false file (own done file place Module name) s ps (own_part done file place Module name) h (bare refl)
      by Program h bare = scope_closes false file (own done file place Program name) s ps (own_part done file place Program name) (own_block done file place name) h

  -- between procedures, or in one
  later_ends : (file : ℕ) (place : Place) (kind : UnitKind) (name : Name) (s : Scope) (c : Place) (qs : List ProcedureTree) (o : Option Opened) (ps : List Placed) → is_over s ≡ true
      → ((p : Opened) → o ≡ Some p → (rest : List Placed) × InScope false true p.scope rest) → Ends (a_unit file place kind name s (Some c) qs o) done
  later_ends file place kind name s c qs None ps over scope = one_end done (a_unit file place kind name s (Some c) qs None) refl over
  later_ends file place kind name s c qs (Some o) ps over scope =
      let u = a_unit file place kind name s (Some c) qs None in
      let h = scope o refl in
      let w = scope_closes true file (within done u c o.header) o.scope h.0 (within_part done u c o.header) (within_block done u c o.header) h.1 in
      let q : ProcedureTree = record { header = o.header; part = w.scope.part.part; body = block_of w.scope.block.body; end = there file } in
      let v = a_unit file place kind name s (Some c) (qs ++ q ∷ []) None in
      let closes : step (ending file) (within done u c o.header w.scope) ≡ Some (busy done v) = stays (ending file) done (with_procedure u o.header w.scope) refl ∙ rw w.over refl in
      let e = one_end done v refl over in
      record {
        more = w.more ++ ending file ∷ e.more;
        here = all_both file w.more (ending file ∷ e.more) w.here (refl, e.here);
        units = e.units;
        goes = w.goes (ending file ∷ e.more) ∙ ap (option_and_then (run e.more)) closes ∙ e.goes;
      }

  unit_ends : (u : Begun) (ps : List Placed) → IsBegun u ps → Ends u done
  unit_ends u ps h = by u.contains u.procedure refl refl h.containing
    where
      by : (c : Option Place) (o : Option Opened) → u.contains ≡ c → u.procedure ≡ o → IsContaining u.contains u.kind u.scope u.procedures u.procedure h.later → Ends u done
      by None o there opens h_in =
          let k = subst (λ (x : Option Place). IsContaining x u.kind u.scope u.procedures u.procedure h.later) there h_in in
          let same : owner u.file u.place u.kind u.name u.scope ≡ u =
          sym (ap (λ (x : Option Place). a_unit u.file u.place u.kind u.name u.scope x u.procedures u.procedure) there
          ∙ ap (λ (x : List ProcedureTree). a_unit u.file u.place u.kind u.name u.scope None x u.procedure) k.0
          ∙ ap (λ (x : Option Opened). a_unit u.file u.place u.kind u.name u.scope None [] x) k.1) in
          subst (λ (x : Begun). Ends x done) same (own_ends u.kind u.file u.place u.name u.scope h.own h.scope h.bare)
      by (Some c) o there opens h_in =
          let k = subst (λ (x : Option Place). IsContaining x u.kind u.scope u.procedures u.procedure h.later) there h_in in
          let same : a_unit u.file u.place u.kind u.name u.scope (Some c) u.procedures u.procedure ≡ u = sym (ap (λ (x : Option Place). a_unit u.file u.place u.kind u.name u.scope x u.procedures u.procedure) there) in
          subst (λ (x : Begun). Ends x done) same (later_ends u.file u.place u.kind u.name u.scope c u.procedures u.procedure [] k.1 (λ p is. let i = subst (λ (x : Option Opened). IsOpen x k.2.opened) is k.2.procedure in (i.rest, i.scope)))

abbrev unit_at : State → Option Begun
unit_at s = s.unit

-- ---- fronts

pub goes_on_free : (ps : List Placed) (s : State) (file : ℕ) → run ps start ≡ Some s → s.unit ≡ None → GoesOn file ps
goes_on_free ps s file e none = ([], tt, (s.done, subst (λ (x : List Placed). AreUnits s.done x) (sym (append-nil ps)) (spelled ps s e none)))

abbrev at_unit : List UnitTree → Option Begun → Option State
at_unit done o = Some (record { done = done; unit = o })

goes_on_open : (ps : List Placed) (done : List UnitTree) (u : Begun) → run ps start ≡ Some (busy done u) → GoesOn u.file ps
goes_on_open ps done u e =
    let h = reads ps (busy done u) e in
    let w = unit_ends done u h.rest h.unit in
    (w.more, w.here, (w.units, spelled (ps ++ w.more) (free w.units) (from_front ps w.more (busy done u) e ∙ w.goes) refl))

pub goes_on_inside : (ps : List Placed) (s : State) (u : Begun) → run ps start ≡ Some s → s.unit ≡ Some u → GoesOn u.file ps
goes_on_inside ps s u e is = goes_on_open ps s.done u (e ∙ ap (at_unit s.done) is)

-- a statement that an open unit takes stands in its source
pub same_source : (s t : State) (u : Begun) (q : Placed) → s.unit ≡ Some u → step q s ≡ Some t → u.file ≡ q.place.file
same_source s t u q is e = by (u.file == q.place.file) refl
  where
    by : (b : Bool) → (u.file == q.place.file) ≡ b → u.file ≡ q.place.file
    by true same = eqb-true u.file q.place.file same
    by false same =
        let went = sym (ap (λ (o : Option Begun). step_from o q s.done) is) ∙ e in
        let none = rw same at went in
        absurd (cc)

-- in no other source
pub goes_on_there : (ps : List Placed) (s : State) (u : Begun) (file : ℕ) → run ps start ≡ Some s → s.unit ≡ Some u → GoesOn file ps → u.file ≡ file
goes_on_there ps s u file e is g = by g.0 g.1 (sym (from_front ps g.0 s e) ∙ units_read g.2.0 (ps ++ g.0) g.2.1)
  where
    by : (fs : List Placed) → AllIn file fs → run fs s ≡ Some (free g.2.0) → u.file ≡ file
    by [] here h = let same = ap unit_at (let x : s ≡ free g.2.0 = cc in x) in absurd (cc)
    by (f ∷ fs) here h =
        let w = then_some (run fs) (step f s) (free g.2.0) h in
        same_source s w.0 u f is w.1 ∙ here.0

pub viable : (ps : List Placed) (s : State) → run ps start ≡ Some s → Viable ps
viable ps s e = by s.unit refl
  where
    by : (o : Option Begun) → s.unit ≡ o → Viable ps
    by None is = let g = goes_on_free ps s 0 e is in (g.0, g.2)
    by (Some u) is = let g = goes_on_inside ps s u e is in (g.0, g.2)

-- ---- open constructs

pub depth_start : depth start ≡ 0
depth_start = refl

pub depth_step : (p : Placed) (s t : State) → step p s ≡ Some t → depth t + one_if (ends_construct p.form) ≡ depth s + one_if (begins_construct p.form)
depth_step p s t e = step_depth p s t e
