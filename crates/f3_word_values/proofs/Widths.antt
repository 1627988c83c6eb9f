-- Operations on scalars at the width of a type.
use Rattle.std.proofs.Common.{◌≡◌, ◌∙◌, Bool, true, false, refl, ap, sym}
use Rattle.std.specs.Prelude.{◌||◌}
use Rattle.f3_places.specs.declared.source.Place.{Place}
use Rattle.f3_program.specs.declared.declarations.Base.{Base}
use Rattle.f3_program.specs.declared.declarations.Base.TheVariants as base
use Rattle.f3_program.specs.declared.expression.BinaryOperator.{BinaryOperator}
use Rattle.f3_program.specs.declared.expression.BinaryOperator.TheVariants as o
use Rattle.f3_meaning_whole.specs.Value.{Value}
use Rattle.f3_meaning_whole.specs.Arithmetic.{apply}
use Rattle.f3_meaning_whole.specs.Permitted.{same_type}
use Rattle.f3_meaning_whole.specs.Formed.{alike, is_number, of_kind}
use Rattle.f3_program.specs.declared.declarations.Kind.{Kind}
use Rattle.f3_program.specs.declared.program.Program.{Program}
use Rattle.std.proofs.lemmas.Bool.{eqb-true}
use Rattle.f3_word_cells.specs.declared.cell.Datum.{Datum}
use Rattle.f3_word_cells.specs.declared.cell.Datum.TheVariants as datum
use Rattle.f3_word_cells.specs.Areas.{shape_for}
use Rattle.f3_word_cells.specs.States.{IsLaid}
use Rattle.f3_cell_kinds.specs.Effect.{is_of}
use Rattle.f3_arithmetic.specs.Scalars.{base_of}
use Rattle.f3_shaping.specs.Results.{width_of}
use Rattle.f3_shaping.proofs.Widths.{binary_at}

pub apply_at : (op : BinaryOperator) (of : Base) (v w : Value) (place : Place) → apply op (base_of (width_of of)) v w place ≡ apply op of v w place
apply_at o.Max of v w place = refl
apply_at o.Min of v w place = refl
apply_at op of v w place = binary_at op of v w v w place (λ e. cc) (λ e. cc) refl refl refl refl

-- a type of numbers, or of truth values
pub plain_of : (b : Bool) (of : Base) → is_of b of ≡ true → (is_number of || same_type of base.Logical) ≡ true
plain_of true of e = ap (λ b. b || same_type of base.Logical) e
plain_of false base.Integer e = cc
plain_of false base.Long e = cc
plain_of false base.Logical e = refl
plain_of false (base.Derived t) e = cc

shape_alike : (p : Program) (a b : Base) → alike a b ≡ true → shape_for p b ≡ shape_for p a
shape_alike p base.Integer base.Integer e = refl
shape_alike p base.Integer base.Long e = refl
shape_alike p base.Long base.Integer e = refl
shape_alike p base.Long base.Long e = refl
shape_alike p base.Logical base.Logical e = refl
shape_alike p (base.Derived t) (base.Derived u) e = ap (λ k. shape_for p (base.Derived k)) (sym (eqb-true t u e))
shape_alike p base.Integer base.Logical e = cc
shape_alike p base.Integer (base.Derived u) e = cc
shape_alike p base.Long base.Logical e = cc
shape_alike p base.Long (base.Derived u) e = cc
shape_alike p base.Logical base.Integer e = cc
shape_alike p base.Logical base.Long e = cc
shape_alike p base.Logical (base.Derived u) e = cc
shape_alike p (base.Derived t) base.Integer e = cc
shape_alike p (base.Derived t) base.Long e = cc
shape_alike p (base.Derived t) base.Logical e = cc

-- the words of a value are those of one of a type that it agrees with
pub laid_alike : (p : Program) (of : Base) (k : Kind) (d : Datum) → alike of k.of ≡ true → IsLaid p k d → IsLaid p (of_kind of k.rank) d
laid_alike p of k (datum.Scalar c) e laid = tt
laid_alike p of k (datum.Block a) e laid = laid ∙ shape_alike p of k.of e
