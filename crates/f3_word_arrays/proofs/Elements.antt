-- The words of a value in a block.
use Rattle.std.proofs.Common.{◌≡◌, ◌∙◌, ℕ, ◌*◌, Bool, List, [], ◌∷◌, length, refl, sym, ap, subst, arith}
use Rattle.std.proofs.lemmas.Bool.{eqb-true}
use Rattle.f3_program.specs.declared.declarations.Base.{Base}
use Rattle.f3_program.specs.declared.declarations.Constant.TheVariants as constant
use Rattle.f3_program.specs.declared.program.Program.{Program}
use Rattle.f3_live_blocks.specs.Blocks.{Live, words_of}
use Rattle.f3_meaning_whole.specs.Act as m
use Rattle.f3_meaning_whole.specs.Formed as formed
use Rattle.f3_meaning_whole.specs.Value.{Value, Number, Truth}
use Rattle.f3_meaning_whole.specs.Shape.{Shape, Whole, Logical}
use Rattle.f3_code.specs.State as s
use Rattle.f3_cell_kinds.specs.Holds.{IsOf}
use Rattle.f3_desc.specs.declared.descriptor.Dim.{Dim}
use Rattle.f3_desc.specs.Laws.{size_of}
use Rattle.f3_rooms.specs.Held.{Empty}
use Rattle.f3_rooms.specs.Forms.{words_for}
use Rattle.f3_rooms.specs.Rooms.{Rooms}
use Rattle.f3_rooms.specs.Values.{laid, object}
use Rattle.f3_word_cells.specs.declared.cell.Area.{Area}
use Rattle.f3_word_cells.specs.declared.cell.Cell.{Cell}
use Rattle.f3_word_cells.specs.declared.cell.Cell.TheVariants as c
use Rattle.f3_word_cells.specs.declared.cell.Datum.{Datum}
use Rattle.f3_word_cells.specs.declared.cell.Datum.TheVariants as datum
use Rattle.f3_word_cells.specs.declared.cell.Passed.TheVariants as passed
use Rattle.f3_word_cells.specs.declared.state.Name.{Name}
use Rattle.f3_word_cells.specs.Areas.{IsDatum, shape_for, spans_of}
use Rattle.f3_word_cells.specs.Cells.{IsCell}
use Rattle.f3_word_cells.specs.States.{IsLaid}
use Rattle.f3_word_cells.proofs.Scalars.{condition_truth, datum_rank, scalar_rank, shape_of_number, shape_of_truth, whole_number}
use Rattle.f3_word_arrays.specs.Items.{base_of, datum_words}
use Rattle.f3_word_arrays.proofs.Given.{IsItem}
use Rattle.f3_word_arrays.proofs.Words.{Shows, shows-block, shows-number, shows-truth}

-- the words of a value are those of an object of a type, and are just this value
pub record HasWords (p : Program) (live : Live) (of : Base) (d : Datum) (v : Value) : Type 0 where
  pub shape : shape_for p (base_of d) ≡ shape_for p of
  pub long : length (datum_words live d) ≡ words_for (shape_for p of)
  pub shows : Shows (shape_for p of) (datum_words live d) v

no-dims : (ds : List Dim) → length ds ≡ 0 → ds ≡ []
no-dims [] e = refl
no-dims (d ∷ ds) e = absurd (omega arith)

module _ (p : Program) (live : Live) (of : Base) (g : formed.Given) where
  number-words : (z : _) (v : Value) → IsItem p of g v → v ≡ Number z → HasWords p live of (datum.Scalar (constant.Number z)) v
  number-words z v item is =
      let there : IsOf p.types.items g.kind (Number z) = subst (IsOf p.types.items g.kind) is item.value in
      let shape : shape_for p of ≡ Whole = sym item.shape ∙ shape_of_number p g.kind.of (whole_number g.kind there.0) in
      record {
        shape = sym shape;
        long = sym (ap words_for shape);
        shows = subst (λ (u : Value). Shows (shape_for p of) (z ∷ []) u) (sym is) (subst (λ (y : Shape). Shows y (z ∷ []) (Number z)) (sym shape) (shows-number z));
      }

  truth-words : (b : Bool) (v : Value) → IsItem p of g v → v ≡ Truth b → HasWords p live of (datum.Scalar (constant.Truth b)) v
  truth-words b v item is =
      let there : IsOf p.types.items g.kind (Truth b) = subst (IsOf p.types.items g.kind) is item.value in
      let shape : shape_for p of ≡ Logical = sym item.shape ∙ shape_of_truth p g.kind.of (condition_truth g.kind there) in
      record {
        shape = sym shape;
        long = sym (ap words_for shape);
        shows = subst (λ (u : Value). Shows (shape_for p of) (datum_words live (datum.Scalar (constant.Truth b))) u) (sym is)
            (subst (λ (y : Shape). Shows y (datum_words live (datum.Scalar (constant.Truth b))) (Truth b)) (sym shape) (shows-truth b));
      }

  block-words : (a : Area) (v : Value) → IsItem p of g v → IsDatum p live (datum.Block a) v → shape_for p a.of ≡ shape_for p g.kind.of → HasWords p live of (datum.Block a) v
  block-words a v item is laid_is =
      let shape : shape_for p a.of ≡ shape_for p of = laid_is ∙ item.shape in
      let from : ℕ = (a.elements).block in
      let none : (a.elements).dims.items ≡ [] = no-dims (a.elements).dims.items (datum_rank p live g.kind a v item.value is ∙ eqb-true g.kind.rank 0 (scalar_rank g.kind item.scalar)) in
      let one : size_of (a.elements).dims.items ≡ 1 = ap size_of none in
      let value : v ≡ object live (shape_for p of) from 0 Empty =
      is.1 ∙ ap (λ (ds : List Dim). laid (length ds) (spans_of ds) (words_for (shape_for p a.of)) (object live (shape_for p a.of)) from 0 Empty) none
      ∙ ap (λ (y : Shape). object live y from 0 Empty) shape in
      let long : length (words_of live from) ≡ words_for (shape_for p a.of) = is.0.words ∙ ap (λ (k : ℕ). k * words_for (shape_for p a.of)) one ∙ (let e : 1 * words_for (shape_for p a.of) ≡ words_for (shape_for p a.of) = omega arith in e) in
      record {
        shape = shape;
        long = long ∙ ap words_for shape;
        shows = subst (λ (u : Value). Shows (shape_for p of) (words_of live from) u) (sym value) (shows-block live (shape_for p of) from);
      }

  pub has-words : (d : Datum) (v : Value) → IsItem p of g v → IsDatum p live d v → IsLaid p g.kind d → HasWords p live of d v
  has-words (datum.Scalar (constant.Number z)) v item is known = number-words z v item is
  has-words (datum.Scalar (constant.Truth b)) v item is known = truth-words b v item is
  has-words (datum.Block a) v item is known = block-words a v item is known

-- the cell of a value that is an argument
pub argument-cell : (p : Program) (x : Rooms) (live : Live) (ns : List Name) (a : Cell) (k : ℕ) (v : Value) → IsCell p x live ns a (s.Argument (m.Given k v))
    → (number : ℕ) × (d : Datum) × (a ≡ c.Argument (passed.Given number d)) × IsDatum p live d v
argument-cell p x live ns (c.Argument (passed.Given number d)) k v is = (number, d, refl, is.1)
argument-cell p x live ns (c.Argument (passed.Lent number o)) k v is = absurd is
argument-cell p x live ns a k v is = absurd is
