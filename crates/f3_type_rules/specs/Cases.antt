-- The breaks of phase 6 of SELECT CASE (ISO/IEC 1539-1:2004, 8.1.3).
use Rattle.std.specs.Prelude.{ℤ, int_lt, int_le, Bool, true, false, not, ◌&&◌, List, [], ◌∷◌, ◌++◌, Option, None, Some, map, if◌then◌else◌}
use Rattle.std.specs.List.{flat_map, list_any}
use Rattle.f3_places.specs.declared.source.Place.{Place}
use Rattle.f3_rules.specs.declared.rule.Rule.TheVariants.{T11}
use Rattle.f3_rules.specs.declared.breaks.Break.{Break}
use Rattle.f3_tree.specs.Expressions.{Tree}
use Rattle.f3_tree.specs.Statements.{CaseTree, one, from, up_to, range, Selects, values, default, Cases, no_cases, case_block}
use Rattle.f3_kinds.specs.declared.types.DataType.{DataType}
use Rattle.f3_kinds.specs.declared.types.DataType.TheVariants.{Integer, Logical}
use Rattle.f3_kinds.specs.declared.types.Scalar.{Scalar}
use Rattle.f3_kinds.specs.declared.types.Scalar.TheVariants.{Number, Truth}
use Rattle.f3_kinds.specs.declared.types.Wanted.TheVariants as wanted
use Rattle.f3_kinds.specs.declared.said.Said.{Said}
use Rattle.f3_kinds.specs.Things.{Context}
use Rattle.f3_kinds.specs.Rows.{at_place, unless, fits, scalar_rows}
use Rattle.f3_kinds.specs.Operands.{type_in}
use Rattle.f3_kinds.specs.Typing.{said, breaks}
use Rattle.f3_kinds.specs.Values.{value_of, has_value, is_number, same_truth}
use Rattle.f3_type_rules.specs.Constants.{constant_rows}

-- the type that the values have to have, where the selector has one
abbrev pub selected_type : Said → Option DataType
selected_type s = if fits wanted.Intrinsic s then type_in s.has else None

-- a value, where it is of this type, of whatever kind
abbrev pub of_type : Option DataType → Option Scalar → Option Scalar
of_type (Some (Integer j)) (Some (Truth b)) = None
of_type (Some Logical) (Some (Number k z)) = None
of_type _ v = v

abbrev pub case_value : Context → Option DataType → Tree → Option Scalar
case_value c t e = of_type t (value_of c e)

-- T2: a value that is no constant, has no value or another type; of a range of logicals its first value
abbrev pub case_rows : Context → Option DataType → CaseTree → List Break
case_rows c t (one e) = constant_rows 6 c (has_value (case_value c t e)) e
case_rows c t (from e) = constant_rows 6 c (is_number (case_value c t e)) e
case_rows c t (up_to p e) = constant_rows 6 c (is_number (case_value c t e)) e
case_rows c t (range e f) = constant_rows 6 c (is_number (case_value c t e)) e ++ constant_rows 6 c (has_value (case_value c t f)) f

-- ---- what values and ranges hold: whole numbers from one to another, or a truth value

pub data Span : Type 0 where
  no_span : Span
  numbers : (first : Option ℤ) → (last : Option ℤ) → Span
  truths : Bool → Span

abbrev pub one_span : Option Scalar → Span
one_span None = no_span
one_span (Some (Number k z)) = numbers (Some z) (Some z)
one_span (Some (Truth b)) = truths b

abbrev pub half_span : Option Scalar → (ℤ → Span) → Span
half_span (Some (Number k z)) span = span z
half_span _ span = no_span

-- an empty range holds nothing
abbrev pub range_span : Option Scalar → Option Scalar → Span
range_span (Some (Number j z)) (Some (Number k y)) = if int_lt y z then no_span else numbers (Some z) (Some y)
range_span _ _ = no_span

abbrev pub span_of : Context → Option DataType → CaseTree → Span
span_of c t (one e) = one_span (case_value c t e)
span_of c t (from e) = half_span (case_value c t e) (λ z. numbers (Some z) None)
span_of c t (up_to p e) = half_span (case_value c t e) (λ z. numbers None (Some z))
span_of c t (range e f) = range_span (case_value c t e) (case_value c t f)

-- without an end a range goes on for ever
abbrev pub is_at_most : Option ℤ → Option ℤ → Bool
is_at_most (Some z) (Some y) = int_le z y
is_at_most _ _ = true

abbrev pub meets : Span → Span → Bool
meets (numbers a b) (numbers z y) = is_at_most a y && is_at_most z b
meets (truths a) (truths b) = same_truth a b
meets _ _ = false

abbrev pub case_place : Context → CaseTree → Place
case_place c (one e) = (said c e).place
case_place c (from e) = (said c e).place
case_place c (up_to p e) = p
case_place c (range e f) = (said c e).place

-- T11: a value or range that meets an earlier one; its first token
abbrev pub overlap_rows : Context → Option DataType → List Span → List CaseTree → List Break
overlap_rows c t spans [] = []
overlap_rows c t spans (v ∷ vs) =
    unless (not (list_any (meets (span_of c t v)) spans)) (at_place 6 T11 (case_place c v)) ++ overlap_rows c t (span_of c t v ∷ spans) vs

abbrev pub values_of : Selects → List CaseTree
values_of (values vs) = vs
values_of default = []

abbrev pub all_values : Cases → List CaseTree
all_values no_cases = []
all_values (case_block p vs b cs) = values_of vs ++ all_values cs

abbrev pub defaults_in : Place → Selects → List Place
defaults_in p (values vs) = []
defaults_in p default = p ∷ []

abbrev pub defaults : Cases → List Place
defaults no_cases = []
defaults (case_block p vs b cs) = defaults_in p vs ++ defaults cs

-- T11: a second DEFAULT; its statement
abbrev pub default_rows : List Place → List Break
default_rows [] = []
default_rows (p ∷ ps) = map (at_place 6 T11) ps

-- of the selector, which is a scalar integer or logical, and of all values
abbrev pub select_breaks : Context → Tree → Cases → List Break
select_breaks c e cs =
    let t : Option DataType = selected_type (said c e) in
    breaks c e
    ++ (scalar_rows wanted.Intrinsic (said c e)
    ++ (flat_map (case_rows c t) (all_values cs) ++ (overlap_rows c t [] (all_values cs) ++ default_rows (defaults cs))))
