-- Designators of objects (ISO/IEC 1539-1:2004, 6.1, 6.2).
use Rattle.std.specs.Prelude.{filter, ℕ, Bool, true, false, ◌&&◌, ◌||◌, not, ◌==◌, List, [], ◌∷◌, ◌++◌, Option, None, Some, length, if◌then◌else◌}
use Rattle.std.specs.List.{flat_map, list_all}
use Rattle.f3_rules.specs.declared.rule.Rule.TheVariants.{N12, N13, T7, T9}
use Rattle.f3_rules.specs.declared.breaks.Break.{Break}
use Rattle.f3_tree.specs.declared.expression.Name.{Name}
use Rattle.f3_kinds.specs.declared.types.DataType.{DataType}
use Rattle.f3_kinds.specs.declared.types.DataType.TheVariants.{Integer, Logical, Derived}
use Rattle.f3_kinds.specs.declared.types.Object.{Object}
use Rattle.f3_kinds.specs.declared.said.Form.{Form}
use Rattle.f3_kinds.specs.declared.types.Wanted.TheVariants as wanted
use Rattle.f3_kinds.specs.declared.said.Has.{Has}
use Rattle.f3_kinds.specs.declared.said.Said.{Said}
use Rattle.f3_kinds.specs.declared.said.Given.{Given}
use Rattle.f3_kinds.specs.declared.said.Given.TheVariants.{Value, Triplet}
use Rattle.f3_kinds.specs.declared.said.Role.{Role}
use Rattle.f3_kinds.specs.declared.said.Role.TheVariants as role
use Rattle.f3_kinds.specs.declared.things.Component.{Component}
use Rattle.f3_kinds.specs.declared.said.Reach.{Reach}
use Rattle.f3_kinds.specs.declared.said.Selected.{Selected}
use Rattle.f3_kinds.specs.declared.said.Selected.TheVariants as is
use Rattle.f3_kinds.specs.Things.{Nature, constant, variable, derived, subroutine, function, Context, component_of}
use Rattle.f3_kinds.specs.Rows.{at_place, at_name, unless, fits, has_type, scalar_rows}

-- a part of a designator: its name, and what is given in the parentheses behind it
abbrev pub Part : Type 0
Part = Name × Option (List Given)

-- ---- subscripts: scalar integers, without keywords (6.2.2)

abbrev pub fits_perhaps : Option Said → Bool
fits_perhaps None = true
fits_perhaps (Some s) = fits wanted.Integer s

abbrev pub rows_perhaps : Option Said → List Break
rows_perhaps None = []
rows_perhaps (Some s) = scalar_rows wanted.Integer s

abbrev pub subscript_fits : Given → Bool
subscript_fits (Value None s) = fits wanted.Integer s
subscript_fits (Value (Some keyword) s) = false
subscript_fits (Triplet place first last stride) = fits_perhaps first && fits_perhaps last && fits_perhaps stride

-- T9: a keyword before a subscript; the keyword
abbrev pub subscript_rows : Given → List Break
subscript_rows (Value None s) = scalar_rows wanted.Integer s
subscript_rows (Value (Some keyword) s) = at_name 6 T9 keyword ∷ []
subscript_rows (Triplet place first last stride) = rows_perhaps first ++ (rows_perhaps last ++ rows_perhaps stride)

abbrev pub is_triplet : Given → Bool
is_triplet (Value keyword s) = false
is_triplet (Triplet place first last stride) = true

-- bounds of ALLOCATE: `e` or `e:e` (6.3.1)
abbrev pub is_bounds : Given → Bool
is_bounds (Value keyword s) = true
is_bounds (Triplet place (Some first) (Some last) None) = true
is_bounds (Triplet place first last stride) = false

abbrev pub is_allocation : Role → Bool
is_allocation role.Allocated = true
is_allocation role.Deallocated = false
is_allocation role.Expression = false
is_allocation role.Variable = false

-- whether an object of ALLOCATE or DEALLOCATE is meant
abbrev pub is_of_heap : Role → Bool
is_of_heap role.Allocated = true
is_of_heap role.Deallocated = true
is_of_heap role.Expression = false
is_of_heap role.Variable = false

-- ---- one part

-- the subscripts of a part, where it has them, are scalar integers
abbrev pub are_fit : Option (List Given) → Bool
are_fit None = true
are_fit (Some gs) = list_all subscript_fits gs

-- As many subscripts stand there as the part has dimensions, at least one. The last part of an object of ALLOCATE has
-- bounds where it is an allocatable array.
abbrev pub count_is_right : Bool → Object → Option (List Given) → Bool
count_is_right bounds o None = not (bounds && o.is_allocatable && not (o.rank == 0))
count_is_right bounds o (Some gs) = (length gs == o.rank) && not (length gs == 0) && (not bounds || list_all is_bounds gs)

-- the rank that subscripts leave: that of their triplets; bounds of ALLOCATE leave all
abbrev pub triplets : List Given → ℕ
triplets gs = length (filter is_triplet gs)

abbrev pub rank_left : Bool → Object → Option (List Given) → ℕ
rank_left bounds o None = o.rank
rank_left bounds o (Some gs) = if bounds then o.rank else triplets gs

abbrev pub is_bare : Option (List Given) → Bool
is_bare None = true
is_bare (Some gs) = false

abbrev pub part_rows : Option (List Given) → List Break
part_rows None = []
part_rows (Some gs) = flat_map subscript_rows gs

-- ---- the parts from left to right

-- before the first part
abbrev pub start : Object → Reach
start o = record { object = o; is_fit = true; rank = 0; offends = false; is_allocatable = false }

-- One part more, where it is this object. There is none where its subscripts are right but not as many as they have to be.
abbrev pub enter : Bool → Reach → Object → Option (List Given) → Option Reach
enter bounds r o behind =
    if are_fit behind && not (count_is_right bounds o behind) then None else Some record {
      object = o;
      is_fit = r.is_fit && are_fit behind;
      rank = if r.rank == 0 then rank_left bounds o behind else r.rank;
      offends = r.offends || (not (r.rank == 0) && (o.is_allocatable || not (rank_left bounds o behind == 0)));
      is_allocatable = o.is_allocatable && (is_bare behind || bounds);
    }

-- T7: another count of subscripts or bounds than the part has dimensions; the part's name (6.2.2)
abbrev pub enter_rows : Bool → Object → Part → List Break
enter_rows bounds o p = part_rows p.1 ++ (if are_fit p.1 then unless (count_is_right bounds o p.1) (at_place 6 T7 (p.0).place) else [])

-- A private component is selected in the module of its type alone (4.5.1.1).
abbrev pub allowed : Bool → Option Component → Selected
allowed inside None = is.Missing
allowed inside (Some k) = if not k.is_private || inside then is.Component k else is.Hidden

abbrev pub select_in : ℕ → ℕ → Option Nature → Selected
select_in unit symbol (Some (derived home ks finalizable)) = allowed (home == unit) (component_of ks symbol)
select_in unit symbol (Some (constant o)) = is.Missing
select_in unit symbol (Some (variable o)) = is.Missing
select_in unit symbol (Some (subroutine pure ds)) = is.Missing
select_in unit symbol (Some (function pure ds o)) = is.Missing
select_in unit symbol None = is.Missing

abbrev pub select_of : Context → ℕ → Option DataType → Selected
select_of c symbol None = is.Unknown
select_of c symbol (Some (Integer k)) = is.Missing
select_of c symbol (Some Logical) = is.Missing
select_of c symbol (Some (Derived t)) = select_in c.unit symbol (c.nature t)

abbrev pub select : Context → Object → Name → Selected
select c o n = select_of c n.symbol o.data_type

abbrev pub is_last : List Part → Bool
is_last [] = true
is_last (p ∷ ps) = false

-- One part behind %. N12: a name behind % that is no component's. N13: a private component's outside its module. The name.
abbrev pub step_selected : Bool → Reach → Option (List Given) → Selected → Option Reach
step_selected bounds r b is.Unknown = None
step_selected bounds r b is.Missing = None
step_selected bounds r b is.Hidden = None
step_selected bounds r b (is.Component k) = enter bounds r k.object b

abbrev pub step : Context → Bool → Part → Option Reach → Option Reach
step c bounds p None = None
step c bounds p (Some r) = step_selected bounds r p.1 (select c r.object p.0)

abbrev pub step_selected_rows : Bool → Part → Selected → List Break
step_selected_rows bounds p is.Unknown = []
step_selected_rows bounds p is.Missing = at_name 6 N12 p.0 ∷ []
step_selected_rows bounds p is.Hidden = at_name 6 N13 p.0 ∷ []
step_selected_rows bounds p (is.Component k) = enter_rows bounds k.object p

abbrev pub step_rows : Context → Bool → Part → Option Reach → List Break
step_rows c bounds p None = []
step_rows c bounds p (Some r) = step_selected_rows bounds p (select c r.object p.0)

-- what is reached behind these parts, where this is reached before them; none behind a part that can't be entered
abbrev pub along : Context → Role → List Part → Option Reach → Option Reach
along c u [] r = r
along c u (p ∷ ps) r = along c u ps (step c (is_allocation u && is_last ps) p r)

abbrev pub along_rows : Context → Role → List Part → Option Reach → List Break
along_rows c u [] r = []
along_rows c u (p ∷ ps) r = step_rows c (is_allocation u && is_last ps) p r ++ along_rows c u ps (step c (is_allocation u && is_last ps) p r)

-- ---- the whole designator of an object

-- what is given in parentheses has types throughout
abbrev pub is_typed_perhaps : Option Said → Bool
is_typed_perhaps None = true
is_typed_perhaps (Some s) = has_type s.has

abbrev pub is_typed : Given → Bool
is_typed (Value keyword s) = has_type s.has
is_typed (Triplet place first last stride) = is_typed_perhaps first && is_typed_perhaps last && is_typed_perhaps stride

abbrev pub are_typed : Option (List Given) → Bool
are_typed None = true
are_typed (Some gs) = list_all is_typed gs

abbrev pub parts_typed : List Part → Bool
parts_typed ps = list_all (λ (p : Part). are_typed p.1) ps

-- an object of ALLOCATE or DEALLOCATE is a whole allocatable (6.3.1, 6.3.3)
abbrev pub role_fits : Role → Reach → Bool
role_fits u r = not (is_of_heap u) || r.is_allocatable

-- what it has: a type and a rank where all its parts are right, at most one has a rank, and none behind it is allocatable
abbrev pub reach_has : Form → Role → Option Reach → Option Has
reach_has form u None = None
reach_has form u (Some r) =
    if r.is_fit && not r.offends && role_fits u r
    then Some record { data_type = r.object.data_type; rank = r.rank; is_allocatable = r.is_allocatable; form = form }
    else None

-- T7: two parts with a rank, or an allocatable one behind one that has; the first token (6.1.2). T9: an object of ALLOCATE
-- or DEALLOCATE that is no whole allocatable; the first name. Of a designator with a broken part nothing is said.
abbrev pub reach_rows : Role → Name → Option Reach → List Break
reach_rows u n None = []
reach_rows u n (Some r) =
    if r.is_fit then (if r.offends then at_place 6 T7 n.place ∷ [] else unless (role_fits u r) (at_name 6 T9 n)) else []

abbrev pub object_reach : Context → Role → Object → Part → List Part → Option Reach
object_reach c u o p ps = along c u ps (enter (is_allocation u && is_last ps) (start o) o p.1)

abbrev pub object_rows : Context → Role → Object → Part → List Part → List Break
object_rows c u o p ps =
    enter_rows (is_allocation u && is_last ps) o p
    ++ (along_rows c u ps (enter (is_allocation u && is_last ps) (start o) o p.1) ++ reach_rows u p.0 (object_reach c u o p ps))

-- Whether its parts have types: a wrong count at the first name, where what is given has types, is a break of the whole.
abbrev pub reached_parts : Bool → Object → Part → List Part → Option Reach → Bool
reached_parts bounds o p ps (Some r) = r.is_fit
reached_parts bounds o p ps None = are_fit p.1 && not (count_is_right bounds o p.1) && parts_typed ps

abbrev pub object_parts : Context → Role → Object → Part → List Part → Bool
object_parts c u o p ps = reached_parts (is_allocation u && is_last ps) o p ps (object_reach c u o p ps)
