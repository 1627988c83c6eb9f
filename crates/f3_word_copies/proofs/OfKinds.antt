-- Objects and values of kinds.
use Rattle.std.proofs.Common.{◌≡◌, ◌∙◌, sym, ap, subst, refl, Bool, true, false}
use Rattle.std.specs.Prelude.{◌&&◌}
use Rattle.std.proofs.lemmas.Bool.{eqb-true}
use Rattle.f3_program.specs.declared.declarations.Base.{Base}
use Rattle.f3_program.specs.declared.declarations.Base.TheVariants as base
use Rattle.f3_program.specs.declared.declarations.Constant.{Constant}
use Rattle.f3_program.specs.declared.declarations.Constant.TheVariants as constant
use Rattle.f3_program.specs.declared.declarations.Kind.{Kind}
use Rattle.f3_program.specs.declared.program.Program.{Program}
use Rattle.f3_live_blocks.specs.Blocks.{Live}
use Rattle.f3_meaning_whole.specs.Value.{Value, Number, Truth}
use Rattle.f3_meaning_whole.specs.Shape.{Shape}
use Rattle.f3_meaning_whole.specs.Arithmetic.{constant_value}
use Rattle.f3_meaning_whole.specs.Formed.{alike, takes}
use Rattle.f3_cell_kinds.specs.Holds.{IsOf}
use Rattle.f3_room_levels.specs.Initial as initial
use Rattle.f3_word_cells.specs.declared.cell.Area.{Area}
use Rattle.f3_word_cells.specs.declared.cell.Datum.{Datum}
use Rattle.f3_word_cells.specs.declared.cell.Datum.TheVariants as datum
use Rattle.f3_word_cells.specs.Areas.{shape_for, IsDatum}
use Rattle.f3_word_cells.specs.States.{IsLaid}
use Rattle.f3_word_cells.proofs.Scalars.{whole_number, condition_truth, shape_of_number, shape_of_truth}
use Rattle.f3_word_copies.specs.Puts.{Agrees}

both : (a b : Bool) → a && b ≡ true → (a ≡ true) × (b ≡ true)
both true b e = (refl, e)
both false b e = absurd cc

takes-alike : (k j : Kind) → takes k j ≡ true → alike k.of j.of ≡ true
takes-alike k j e = (both (alike k.of j.of) _ e).0

-- alike types have one shape
pub alike-shapes : (p : Program) (t u : Base) → alike t u ≡ true → shape_for p t ≡ shape_for p u
alike-shapes p base.Integer base.Integer e = refl
alike-shapes p base.Integer base.Long e = refl
alike-shapes p base.Integer base.Logical e = absurd cc
alike-shapes p base.Integer (base.Derived n) e = absurd cc
alike-shapes p base.Long base.Integer e = refl
alike-shapes p base.Long base.Long e = refl
alike-shapes p base.Long base.Logical e = absurd cc
alike-shapes p base.Long (base.Derived n) e = absurd cc
alike-shapes p base.Logical base.Integer e = absurd cc
alike-shapes p base.Logical base.Long e = absurd cc
alike-shapes p base.Logical base.Logical e = refl
alike-shapes p base.Logical (base.Derived n) e = absurd cc
alike-shapes p (base.Derived m) base.Integer e = absurd cc
alike-shapes p (base.Derived m) base.Long e = absurd cc
alike-shapes p (base.Derived m) base.Logical e = absurd cc
alike-shapes p (base.Derived m) (base.Derived n) e = ap (λ k. shape_for p (base.Derived k)) (eqb-true m n e)

-- a scalar is of the shape of its kind
scalar-shape : (p : Program) (j : Kind) (c : Constant) (v : Value) → v ≡ constant_value c → IsOf p.types.items j v → initial.IsOf (shape_for p j.of) c
scalar-shape p j (constant.Number z) v e is =
    let h : IsOf p.types.items j (Number z) = subst (IsOf p.types.items j) e is in
    subst (λ (s : Shape). initial.IsOf s (constant.Number z)) (sym (shape_of_number p j.of (whole_number j h.0))) tt
scalar-shape p j (constant.Truth b) v e is =
    let h : IsOf p.types.items j (Truth b) = subst (IsOf p.types.items j) e is in
    subst (λ (s : Shape). initial.IsOf s (constant.Truth b)) (sym (shape_of_truth p j.of (condition_truth j h))) tt

-- a value that a variable takes is of its type
pub kinds-agree : (p : Program) (m : Live) (a : Area) (k j : Kind) (d : Datum) (v : Value) → a.of ≡ k.of → takes k j ≡ true → IsDatum p m d v → IsOf p.types.items j v → IsLaid p j d → Agrees p a d
kinds-agree p m a k j (datum.Scalar c) v e takes value is laid =
    subst (λ (s : Shape). initial.IsOf s c) (sym (ap (shape_for p) e ∙ alike-shapes p k.of j.of (takes-alike k j takes))) (scalar-shape p j c v value is)
kinds-agree p m a k j (datum.Block b) v e takes value is laid = laid ∙ sym (ap (shape_for p) e ∙ alike-shapes p k.of j.of (takes-alike k j takes))
