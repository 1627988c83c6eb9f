-- References to procedures, and structure constructors (ISO/IEC 1539-1:2004, 12.4, 13.7, 4.5.9).
use Rattle.std.specs.Prelude.{ℕ, ◌+◌, Bool, true, false, ◌&&◌, ◌||◌, not, ◌==◌, nat_lt, nat_eq, List, [], ◌∷◌, ◌++◌, Option, None, Some, length}
use Rattle.std.specs.Prelude.{slice_get, if◌then◌else◌}
use Rattle.indexmap.specs.IndexSet.{insert_key}
use Rattle.std.specs.List.{list_all, list_any}
use Rattle.f3_places.specs.declared.source.Place.{Place}
use Rattle.f3_rules.specs.declared.rule.Rule.TheVariants.{N12, N13, T6, T7, T8, T10, T12}
use Rattle.f3_rules.specs.declared.breaks.Break.{Break}
use Rattle.f3_tree.specs.declared.expression.Name.{Name}
use Rattle.f3_tree.specs.declared.expression.IntegerKind.TheVariants.{Four}
use Rattle.f3_kinds.specs.declared.types.DataType.{DataType}
use Rattle.f3_kinds.specs.declared.types.DataType.TheVariants.{Integer, Logical, Derived}
use Rattle.f3_kinds.specs.declared.types.Object.{Object}
use Rattle.f3_kinds.specs.declared.said.Form.TheVariants.{Computed}
use Rattle.f3_kinds.specs.declared.types.Wanted.TheVariants as wanted
use Rattle.f3_kinds.specs.declared.said.Has.{Has}
use Rattle.f3_kinds.specs.declared.said.Said.{Said}
use Rattle.f3_kinds.specs.declared.said.Given.{Given}
use Rattle.f3_kinds.specs.declared.said.Given.TheVariants.{Value, Triplet}
use Rattle.f3_kinds.specs.declared.things.Component.{Component}
use Rattle.f3_kinds.specs.declared.things.Dummy.{Dummy}
use Rattle.f3_kinds.specs.declared.things.Intrinsic.{Intrinsic}
use Rattle.f3_kinds.specs.declared.things.Intrinsic.TheVariants as intrinsic
use Rattle.f3_kinds.specs.Things.{map_or, place_of, at_place_of}
use Rattle.f3_kinds.specs.Rows.{at_place, at_name, unless, may_take, computed, fits, has_type}
use Rattle.f3_kinds.specs.Operands.{type_in, same_known, has_same}
use Rattle.f3_kinds.specs.Designators.{is_triplet, is_typed}

-- the first token of what is given
abbrev pub given_place : Given → Place
given_place (Value None s) = s.place
given_place (Value (Some keyword) s) = keyword.place
given_place (Triplet place first last stride) = place

abbrev pub is_keyed : Given → Bool
is_keyed (Value (Some keyword) s) = true
is_keyed (Value None s) = false
is_keyed (Triplet place first last stride) = false

-- the type of an argument is that of the dummy, as far as both are known
abbrev pub of_type : Option DataType → Option DataType → Bool
of_type dummy actual = same_known dummy actual

-- ---- arguments of a procedure (12.4.1)

-- An argument fits a dummy: a whole allocatable where the dummy is allocatable, and of its rank and type. Of an argument
-- without a type nothing is said.
abbrev pub has_fits_dummy : Object → Option Has → Bool
has_fits_dummy o None = true
has_fits_dummy o (Some h) = not (has_type (Some h)) || ((not o.is_allocatable || h.is_allocatable) && (h.rank == o.rank) && of_type o.data_type h.data_type)

-- the dummy that an argument is for, by its place: the one of its position, or of its keyword
abbrev pub within_count : ℕ → ℕ → Option ℕ
within_count count position = if nat_lt position count then Some position else None

abbrev pub place_for : {X : Type 0} → List (ℕ × X) → ℕ → Given → Option ℕ
place_for ds position (Value None s) = within_count (length ds) position
place_for ds position (Value (Some keyword) s) = place_of ds keyword.symbol
place_for ds position (Triplet place first last stride) = within_count (length ds) position

-- Among the arguments from a position on: the places of the dummies that have one already, and whether a keyword stands
-- before.
pub record Matched : Type 0 where
  pub taken : List ℕ
  pub keyed : Bool

abbrev pub no_match : Matched
no_match = record { taken = []; keyed = false }

abbrev pub added : List ℕ → Option ℕ → List ℕ
added taken None = taken
added taken (Some place) = insert_key nat_eq taken place

abbrev pub match_next : {X : Type 0} → List (ℕ × X) → ℕ → Given → Matched → Matched
match_next ds position g m = record { taken = added m.taken (place_for ds position g); keyed = m.keyed || is_keyed g }

abbrev pub fits_at : Option Dummy → Given → Bool
fits_at None g = false
fits_at (Some d) (Value keyword s) = has_fits_dummy d.object s.has
fits_at (Some d) (Triplet place first last stride) = false

abbrev pub is_free : List (ℕ × Dummy) → List ℕ → Given → Option ℕ → Bool
is_free ds taken g None = false
is_free ds taken g (Some place) = not (list_any (nat_eq place) taken) && fits_at (at_place_of ds place) g

-- T8: an argument that is extra, repeated or unknown, a triplet, without a keyword behind one with a keyword, or does not
-- fit its dummy; its first token
abbrev pub argument_fits : List (ℕ × Dummy) → ℕ → Given → Matched → Bool
argument_fits ds position g m = (is_keyed g || not m.keyed) && is_free ds m.taken g (place_for ds position g)

abbrev pub argument_rows : List (ℕ × Dummy) → ℕ → List Given → Matched → List Break
argument_rows ds position [] m = []
argument_rows ds position (g ∷ gs) m =
    unless (argument_fits ds position g m) (at_place 6 T8 (given_place g)) ++ argument_rows ds (position + 1) gs (match_next ds position g m)

abbrev pub all_fit : List (ℕ × Dummy) → ℕ → List Given → Matched → Bool
all_fit ds position [] m = true
all_fit ds position (g ∷ gs) m = argument_fits ds position g m && all_fit ds (position + 1) gs (match_next ds position g m)

abbrev pub matched : {X : Type 0} → List (ℕ × X) → ℕ → List Given → Matched → Matched
matched ds position [] m = m
matched ds position (g ∷ gs) m = matched ds (position + 1) gs (match_next ds position g m)

-- each dummy has an argument
abbrev pub is_complete : List (ℕ × Dummy) → List Given → Bool
is_complete ds gs = length (matched ds 0 gs no_match).taken == length ds

-- the arguments break no rule and have types
abbrev pub are_right : List (ℕ × Dummy) → List Given → Bool
are_right ds gs = list_all is_typed gs && all_fit ds 0 gs no_match

-- T8: a dummy without an argument; the procedure's name. Of a function reference it is said where the arguments are right,
-- of a CALL always, since that is no expression (own rule).
abbrev pub function_rows : Name → List (ℕ × Dummy) → List Given → List Break
function_rows n ds gs = argument_rows ds 0 gs no_match ++ unless (not (are_right ds gs) || is_complete ds gs) (at_place 6 T8 n.place)

abbrev pub call_rows : Name → List (ℕ × Dummy) → List Given → List Break
call_rows n ds gs = argument_rows ds 0 gs no_match ++ unless (is_complete ds gs) (at_place 6 T8 n.place)

abbrev pub result_has : Object → Has
result_has o = record { data_type = o.data_type; rank = o.rank; is_allocatable = false; form = Computed }

abbrev pub function_has : List (ℕ × Dummy) → Object → List Given → Option Has
function_has ds o gs = if are_right ds gs && is_complete ds gs then Some (result_has o) else None

-- ---- intrinsic functions (13.7): no keywords; an argument of another type or rank, or too many, is T8 at the argument

abbrev pub least_count : Intrinsic → ℕ
least_count intrinsic.Abs = 1
least_count intrinsic.Size = 1
least_count intrinsic.Allocated = 1
least_count _ = 2

-- MAX and MIN take any number
abbrev pub is_within : Intrinsic → ℕ → Bool
is_within intrinsic.Abs position = nat_lt position 1
is_within intrinsic.Allocated position = nat_lt position 1
is_within intrinsic.Max position = true
is_within intrinsic.Min position = true
is_within _ position = nat_lt position 2

-- an integer of the kind of the first such argument (own rule)
abbrev pub is_alike : Option DataType → Said → Bool
is_alike first s = fits wanted.Integer s && has_same first s

abbrev pub actual_fits : Intrinsic → Option DataType → ℕ → Said → Bool
actual_fits intrinsic.Allocated first position s = map_or false (λ (h : Has). h.is_allocatable) s.has
actual_fits intrinsic.Size first position s = if position == 0 then map_or false (λ (h : Has). not (h.rank == 0)) s.has else fits wanted.Integer s
actual_fits intrinsic.LowerBound first position s = if position == 0 then map_or false (λ (h : Has). not (h.rank == 0)) s.has else fits wanted.Integer s
actual_fits intrinsic.UpperBound first position s = if position == 0 then map_or false (λ (h : Has). not (h.rank == 0)) s.has else fits wanted.Integer s
actual_fits intrinsic.Abs first position s = fits wanted.Integer s
actual_fits _ first position s = is_alike first s

-- of an argument without a type nothing is said
abbrev pub actual_right : Intrinsic → Option DataType → ℕ → Given → Bool
actual_right i first position (Value None s) = is_within i position && (not (has_type s.has) || actual_fits i first position s)
actual_right i first position _ = false

abbrev pub or_first : Option DataType → Option DataType → Option DataType
or_first (Some d) e = Some d
or_first None e = e

-- the type of the first scalar integer among the arguments
abbrev pub integer_type : Given → Option DataType
integer_type (Value None s) = if fits wanted.Integer s then type_in s.has else None
integer_type _ = None

abbrev pub actual_rows : Intrinsic → Option DataType → ℕ → List Given → List Break
actual_rows i first position [] = []
actual_rows i first position (g ∷ gs) =
    unless (actual_right i first position g) (at_place 6 T8 (given_place g)) ++ actual_rows i (or_first first (integer_type g)) (position + 1) gs

abbrev pub no_breaks : List Break → Bool
no_breaks [] = true
no_breaks (b ∷ bs) = false

abbrev pub intrinsic_parts : Intrinsic → List Given → Bool
intrinsic_parts i gs = list_all is_typed gs && no_breaks (actual_rows i None 0 gs)

abbrev pub intrinsic_rows : Name → Intrinsic → List Given → List Break
intrinsic_rows n i gs =
    actual_rows i None 0 gs ++ (if intrinsic_parts i gs then unless (not (nat_lt (length gs) (least_count i))) (at_place 6 T8 n.place) else [])

-- the type of the first argument
abbrev pub typed_result : Intrinsic → List Given → Option DataType
typed_result intrinsic.Allocated gs = Some Logical
typed_result intrinsic.Size gs = Some (Integer Four)
typed_result intrinsic.LowerBound gs = Some (Integer Four)
typed_result intrinsic.UpperBound gs = Some (Integer Four)
typed_result _ gs = map_or None integer_type (slice_get gs 0)

abbrev pub intrinsic_has : Intrinsic → List Given → Option Has
intrinsic_has i gs =
    if intrinsic_parts i gs && not (nat_lt (length gs) (least_count i))
    then Some record { data_type = typed_result i gs; rank = 0; is_allocatable = false; form = Computed }
    else None

-- ---- structure constructors (4.5.9)

-- A value may define the component: its type (T6) and its rank, or a scalar for an array that is not allocatable (T7); the
-- value's first token. Of a value without a type nothing is said.
abbrev pub type_takes : Option DataType → Option DataType → Bool
type_takes (Some d) (Some e) = may_take d e
type_takes None e = true
type_takes (Some d) None = true

abbrev pub value_rows : Object → Place → Has → List Break
value_rows o place h =
    if has_type (Some h)
    then unless (type_takes o.data_type h.data_type) (at_place 6 T6 place)
    ++ unless ((h.rank == o.rank) || ((h.rank == 0) && not o.is_allocatable)) (at_place 6 T7 place)
    else []

-- N12: a keyword that is no component's. N13: a private component outside its module; the keyword, or the value's first
-- token with the identifier there.
abbrev pub lead_of : Given → Option ℕ
lead_of (Value keyword s) = s.lead
lead_of (Triplet place first last stride) = map_or None (λ (s : Said). s.lead) first

abbrev pub private_at : Given → Break
private_at (Value (Some keyword) s) = at_name 6 N13 keyword
private_at g = record { phase = 6; place = given_place g; rule = N13; name = lead_of g }

abbrev pub missing_rows : Given → List Break
missing_rows (Value (Some keyword) s) = at_name 6 N12 keyword ∷ []
missing_rows _ = []

abbrev pub component_rows : Object → Given → List Break
component_rows o (Value keyword s) = map_or [] (value_rows o s.place) s.has
component_rows o (Triplet place p q r) = []

abbrev pub given_rows : Bool → Option Component → Given → List Break
given_rows inside None g = missing_rows g
given_rows inside (Some k) g = unless (not k.is_private || inside) (private_at g) ++ component_rows k.object g

abbrev pub constructor_given : Bool → List (ℕ × Component) → ℕ → List Given → List Break
constructor_given inside ks position [] = []
constructor_given inside ks position (g ∷ gs) =
    given_rows inside (map_or None (at_place_of ks) (place_for ks position g)) g ++ constructor_given inside ks (position + 1) gs

-- a value stands where it may: no triplet, not too many, no component twice, none without a keyword behind one with a keyword
abbrev pub is_new : List ℕ → Option ℕ → Bool
is_new taken None = false
is_new taken (Some place) = not (list_any (nat_eq place) taken)

abbrev pub in_order : List (ℕ × Component) → ℕ → List Given → Matched → Bool
in_order ks position [] m = true
in_order ks position (g ∷ gs) m =
    not (is_triplet g) && (is_keyed g || not m.keyed) && is_new m.taken (place_for ks position g)
    && in_order ks (position + 1) gs (match_next ks position g m)

-- the components from a place on that need a value have one
abbrev pub are_given : ℕ → List (ℕ × Component) → List ℕ → Bool
are_given place [] taken = true
are_given place (k ∷ ks) taken = ((k.1).is_initialized || ((k.1).object).is_allocatable || list_any (nat_eq place) taken) && are_given (place + 1) ks taken

abbrev pub is_constructed : List (ℕ × Component) → List Given → Bool
is_constructed ks gs = in_order ks 0 gs no_match && are_given 0 ks (matched ks 0 gs no_match).taken

abbrev pub constructor_parts : Bool → List (ℕ × Component) → List Given → Bool
constructor_parts inside ks gs = list_all is_typed gs && no_breaks (constructor_given inside ks 0 gs)

-- T10: a value missing, too many, twice, a triplet, or without a keyword behind one with a keyword; the type's name.
-- T12: a value of a finalizable type; the type's name, in the phase of its statement.
abbrev pub constructor_rows : ℕ → Name → Bool → List (ℕ × Component) → Bool → List Given → List Break
constructor_rows phase n inside ks finalizable gs =
    constructor_given inside ks 0 gs
    ++ (if constructor_parts inside ks gs then unless (is_constructed ks gs) (at_name 6 T10 n) ++ unless (not finalizable) (at_name phase T12 n) else [])

-- a break of phase 6 takes the type away, and one of phase 5 does not (own rule)
abbrev pub keeps_type : ℕ → Bool → Bool
keeps_type phase finalizable = not finalizable || not (nat_eq phase 6)

abbrev pub constructor_has : ℕ → ℕ → Bool → List (ℕ × Component) → Bool → List Given → Option Has
constructor_has phase t inside ks finalizable gs =
    if constructor_parts inside ks gs && is_constructed ks gs && keeps_type phase finalizable then Some (computed (Derived t) 0) else None
