-- Components stand where their tables say.
use Rattle.std.proofs.Common.{◌≡◌, ◌∙◌, sym, ap, refl, ℕ, zero, suc, ◌+◌, ◌≤◌, List, [], ◌∷◌, take, arith}
use Rattle.std.specs.Prelude.{Some}
use Rattle.f3_program.specs.declared.declarations.Base.{Base}
use Rattle.f3_program.specs.declared.declarations.Component as m
use Rattle.f3_program.specs.declared.program.Program.{Program}
use Rattle.f3_meaning_whole.specs.Act.{component_of}
use Rattle.f3_meaning_whole.specs.Formed.{IsWellFormed}
use Rattle.f3_meaning_whole.specs.Shape.{Shape, Record, parts_in, shape_in, shapes_of}
use Rattle.f3_meaning_whole.specs.Store.{Component}
use Rattle.f3_rooms.specs.Held.{parts_of, part_at}
use Rattle.f3_rooms.specs.Forms.{Form, Laid, Allocatable, form_of, form_words, words_for, words_for_parts}
use Rattle.f3_rooms.specs.Places.{Found, in_form, in_object}
use Rattle.f3_rooms.specs.Ways.{settled, part_of}
use Rattle.f3_room_places.specs.Components.{offset_at}
use Rattle.f3_room_places.specs.Places.{without_bounds}
use Rattle.f3_room_places.proofs.Components.{type_is, component_found, start, start_moved, start_within}
use Rattle.f3_word_cells.specs.Areas.{shape_for}
use Rattle.f3_word_areas.proofs.Types.{Known, known, component-declared, same-tree, declared-before}

same-form : (form : Form) → without_bounds form ≡ settled form
same-form (Laid zero ss) = refl
same-form (Laid (suc rank) ss) = refl
same-form (Allocatable rank) = refl

-- where a component of an object stands
abbrev pub component-found : Program → Base → ℕ → m.Component → Found → Found
component-found p of k c f = record {
  block = f.block;
  at = f.at + offset_at (shape_for p of) k;
  shape = shape_for p c.declared.kind.of;
  of = c.declared.kind.of;
  form = settled (form_of c.declared);
  held = part_at (parts_of f.held) k;
}

module _ (p : Program) (of : Base) (k : ℕ) (c : m.Component) (formed : IsWellFormed p) (is : component_of p.types.items of k ≡ Some c) where
  h : Known p of k c
  h = known p of k c is

  abbrev before : List Shape
  before = shapes_of (take h.number p.types.items)

  tree : shape_for p of ≡ Record h.number (parts_in before h.type.components.items)
  tree = ap (shape_for p) h.is ∙ type_is p.types.items h.number h.type h.there

  own : shape_in before c.declared.kind.of ≡ shape_for p c.declared.kind.of
  own = same-tree p.types.items h.number c.declared.kind.of (declared-before h.number c.declared (component-declared p of k c formed h))

  begins : offset_at (shape_for p of) k ≡ start (parts_in before h.type.components.items) 0 k
  begins = ap (λ (s : Shape). offset_at s k) tree

  -- its words lie within those of the object
  pub component-within : offset_at (shape_for p of) k + form_words (form_of c.declared) (words_for (shape_for p c.declared.kind.of)) ≤ words_for (shape_for p of)
  component-within =
      let w = start_within before h.type.components.items 0 k c h.component in
      let size : form_words (form_of c.declared) (words_for (shape_in before c.declared.kind.of)) ≡ form_words (form_of c.declared) (words_for (shape_for p c.declared.kind.of)) =
      ap (λ (s : Shape). form_words (form_of c.declared) (words_for s)) own in
      let all : words_for (shape_for p of) ≡ words_for_parts (parts_in before h.type.components.items) = ap words_for tree in
      let at = begins in
      omega arith

  pub part-is : (f : Found) → f.shape ≡ shape_for p of → f.form ≡ Laid 0 [] → part_of f (Component k ∷ []) ≡ Some (component-found p of k c f)
  part-is f shape form =
      let cs = h.type.components.items in
      let at : start (parts_in before cs) f.at k ≡ f.at + offset_at (shape_for p of) k =
      start_moved before cs f.at 0 f.at k c (omega arith) h.component ∙ ap (λ n. f.at + n) (sym begins) in
      ap (λ (g : Form). in_form g f.shape f.of (in_object f.shape f.of) f.block f.at f.held (Component k ∷ [])) form
      ∙ ap (λ (s : Shape). in_object s f.of f.block f.at f.held (Component k ∷ [])) (shape ∙ tree)
      ∙ component_found before cs f.block f.at (parts_of f.held) k c h.component
      ∙ (λ i. Some (record {
        block = f.block;
        at = at i;
        shape = own i;
        of = c.declared.kind.of;
        form = same-form (form_of c.declared) i;
        held = part_at (parts_of f.held) k;
      }))
