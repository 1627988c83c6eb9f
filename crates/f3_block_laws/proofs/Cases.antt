-- The ranges of a CASE are of the type of the value of its SELECT CASE.
use Rattle.std.proofs.Common.{◌≡◌, Bool, true, not, ◌||◌, List, [], ◌∷◌, map, Option, Some, None, refl, sym}
use Rattle.std.specs.List.{flat_map}
use Rattle.f3_tree.specs.Expressions as e
use Rattle.f3_tree.specs.Statements.{CaseTree, one, from, up_to, range}
use Rattle.f3_program.specs.declared.declarations.Base.{Base}
use Rattle.f3_program.specs.declared.declarations.Base.TheVariants as base_is
use Rattle.f3_program.specs.declared.program.Program.{Program}
use Rattle.f3_kinds.specs.declared.types.DataType.{DataType}
use Rattle.f3_kinds.specs.declared.types.DataType.TheVariants.{Integer, Logical, Derived}
use Rattle.f3_kinds.specs.declared.types.Scalar.{Scalar}
use Rattle.f3_kinds.specs.declared.types.Scalar.TheVariants.{Number, Truth}
use Rattle.f3_kinds.specs.declared.types.Wanted.TheVariants as wanted
use Rattle.f3_kinds.specs.declared.said.Has.{Has}
use Rattle.f3_kinds.specs.Rows.{has_type, is_intrinsic_type}
use Rattle.f3_kinds.specs.Typing.{said, breaks}
use Rattle.f3_kinds.specs.Values.{value_of, has_value, is_number as is_number_value}
use Rattle.f3_meaning_whole.specs.Permitted.{Each}
use Rattle.f3_meaning_whole.specs.Formed.{all, alike, is_number}
use Rattle.f3_cell_kinds.specs.Effect.{range_fits}
use Rattle.f3_type_rules.specs.Constants.{constant_rows, may_speak, speaks}
use Rattle.f3_type_rules.specs.Cases.{of_type, case_value, case_rows}
use Rattle.f3_elaboration.specs.Context.{Surroundings, base}
use Rattle.f3_program.specs.declared.statement.Range.TheVariants.{One}
use Rattle.f3_elaboration.specs.Declarations.{constant_of}
use Rattle.f3_elaboration.specs.Statements.{case_range}
use Rattle.f3_lawful_laws.proofs.Facts.{no, first, second, holds, both}
use Rattle.f3_formed_laws.specs.Agreement.{AgreesInKinds}
use Rattle.f3_formed_laws.proofs.Facts.{implied}
use Rattle.f3_formed_laws.proofs.Bases.{wanted_alike, number_base}
use Rattle.f3_formed_laws.proofs.Scalars.{typed_of}
use Rattle.f3_formed_laws.proofs.Expressions.{expression_is}
use Rattle.f3_elaboration.specs.Expressions.{expression}
use Rattle.f3_cell_kinds.specs.Types.{Scope}
use Rattle.f3_fitting_laws.specs.Bounded.{IsValueSpelled, IsCaseSpelled}

may_speak_typed : (parts : Bool) (o : Option Has) → has_type o ≡ true → may_speak parts o ≡ true
may_speak_typed parts None t = no (sym t)
may_speak_typed parts (Some h) t = t

module _ (p : Program) (c : Scope) (s : Surroundings) (agrees : AgreesInKinds p c.variables c.names s) where
  -- a value that breaks no rule is the constant that it has to be
  right_value : (x : e.Tree) (right : Bool) → IsValueSpelled x → constant_rows 6 s.context right x ≡ [] → right ≡ true
  right_value x right w rows =
      let typed : has_type (said s.context x).has ≡ true =
      typed_of p c.variables c.names s (expression s x) (said s.context x).has (expression_is p c.variables c.names s agrees x w.0 w.1 (first (breaks s.context x) _ rows)) in
      implied (speaks (said s.context x)) right (holds (not (speaks (said s.context x)) || right) _ (second (breaks s.context x) _ rows))
      (may_speak_typed (said s.context x).are_parts_typed (said s.context x).has typed)

  numbers_alike : (of : Base) (k : _) → alike of (base s (Some (Integer k))) ≡ true → is_number of ≡ true
  numbers_alike of k a = wanted_alike wanted.Integer of (base s (Some (Integer k))) a (number_base s.type k)

  is_one : (d : DataType) → is_intrinsic_type d ≡ true → (of : Base) → alike of (base s (Some d)) ≡ true → (x : e.Tree)
      → has_value (case_value s.context (Some d) x) ≡ true → range_fits of (case_range s.context (one x)) ≡ true
  is_one d is of a x h = go d (value_of s.context x) is a h
    where
      go : (d : DataType) (v : Option Scalar) → is_intrinsic_type d ≡ true → alike of (base s (Some d)) ≡ true → has_value (of_type (Some d) v) ≡ true
          → range_fits of (One (constant_of v)) ≡ true
      go (Integer k) None is a h = no (sym h)
      go (Integer k) (Some (Number j z)) is a h = numbers_alike of k a
      go (Integer k) (Some (Truth b)) is a h = no (sym h)
      go Logical None is a h = no (sym h)
      go Logical (Some (Number j z)) is a h = no (sym h)
      go Logical (Some (Truth b)) is a h = wanted_alike wanted.Logical of base_is.Logical a refl
      go (Derived t) v is a h = no (sym is)

  -- the type of a number
  of_numbers : (d : DataType) → is_intrinsic_type d ≡ true → (of : Base) → alike of (base s (Some d)) ≡ true → (x : e.Tree)
      → is_number_value (case_value s.context (Some d) x) ≡ true → is_number of ≡ true
  of_numbers d is of a x h = go d (value_of s.context x) is a h
    where
      go : (d : DataType) (v : Option Scalar) → is_intrinsic_type d ≡ true → alike of (base s (Some d)) ≡ true → is_number_value (of_type (Some d) v) ≡ true
          → is_number of ≡ true
      go (Integer k) v is a h = numbers_alike of k a
      go Logical None is a h = no (sym h)
      go Logical (Some (Number j z)) is a h = no (sym h)
      go Logical (Some (Truth b)) is a h = no (sym h)
      go (Derived t) v is a h = no (sym is)

  range_is : (d : DataType) → is_intrinsic_type d ≡ true → (of : Base) → alike of (base s (Some d)) ≡ true → (v : CaseTree) → IsCaseSpelled v
      → case_rows s.context (Some d) v ≡ [] → range_fits of (case_range s.context v) ≡ true
  range_is d is of a (one x) w rows = is_one d is of a x (right_value x _ w rows)
  range_is d is of a (from x) w rows = of_numbers d is of a x (right_value x _ w rows)
  range_is d is of a (up_to q x) w rows = of_numbers d is of a x (right_value x _ w rows)
  range_is d is of a (range x y) w rows = of_numbers d is of a x (right_value x (is_number_value (case_value s.context (Some d) x)) w.0 (first _ _ rows))

  pub ranges_are : (d : DataType) → is_intrinsic_type d ≡ true → (of : Base) → alike of (base s (Some d)) ≡ true → (vs : List CaseTree) → Each IsCaseSpelled vs
      → flat_map (case_rows s.context (Some d)) vs ≡ [] → all (range_fits of) (map (case_range s.context) vs) ≡ true
  ranges_are d is of a [] w rows = refl
  ranges_are d is of a (v ∷ vs) w rows =
      both (range_fits of (case_range s.context v)) _ (range_is d is of a v w.0 (first (case_rows s.context (Some d) v) _ rows))
      (ranges_are d is of a vs w.1 (second (case_rows s.context (Some d) v) _ rows))
