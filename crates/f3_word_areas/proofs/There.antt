-- Areas of parts of variables stand there.
use Rattle.std.proofs.Common.{◌≡◌, ◌∙◌, sym, ap, subst, refl, ⊎_elim, ℕ, zero, suc, List, [], ◌∷◌, length, arith}
use Rattle.std.specs.Prelude.{Some, ℤ, pos}
use Rattle.std.specs.List.{AllZip}
use Rattle.f3_program.specs.declared.program.Program.{Program}
use Rattle.f3_live_blocks.specs.Blocks.{Live}
use Rattle.f3_meaning_whole.specs.Value.{Span, Value, joined, count}
use Rattle.f3_meaning_whole.specs.Shape.{Shape, Whole, Logical, Record}
use Rattle.f3_meaning_whole.specs.Store.{Root, Step, Path, get}
use Rattle.f3_meaning_whole.specs.Reference.{Reach, One, reach_of, elements_from, paths_by}
use Rattle.f3_desc.specs.Descriptor.{places}
use Rattle.f3_rooms.specs.Held.{Held, Row, parts_of}
use Rattle.f3_rooms.specs.Forms.{Form, Laid, Allocatable, words_for}
use Rattle.f3_rooms.specs.Values.{elements, formed, object}
use Rattle.f3_rooms.specs.Rooms.{Rooms, store_of}
use Rattle.f3_rooms.specs.Places.{Found, found}
use Rattle.f3_rooms.specs.Laws.{path_at}
use Rattle.f3_rooms.proofs.Framing.{Reading}
use Rattle.f3_rooms.proofs.Reading.{parts_are_found}
use Rattle.f3_room_arrays.specs.Elements.{StandsAt, Tells}
use Rattle.f3_room_arrays.proofs.Told.{arrays_are_told}
use Rattle.f3_room_arrays.proofs.Numbers.{places-many}
use Rattle.f3_word_cells.specs.declared.cell.Area.{Area}
use Rattle.f3_word_cells.specs.Areas.{types_of, shape_for, AreThere}
use Rattle.f3_word_areas.specs.Parts.{AreDimsOf, IsPart}
use Rattle.f3_word_areas.proofs.Laying.{size-count}

pub none_left : {X : Type 0} (xs : List X) → length xs ≡ 0 → xs ≡ []
none_left [] e = refl
none_left (x ∷ xs) e = absurd (omega arith)

-- one object is reached
pub one-reached : (q : Path) (m : Live) (s : Shape) (b o : ℕ) (h : Held) → reach_of q (object m s b o h) ≡ One
one-reached q m Whole b o h = refl
one-reached q m Logical b o h = refl
one-reached q m (Record t parts) b o h = refl

-- elements of an array without any
no-elements : (q : Path) (n k : ℕ) (f : Reading) (b o : ℕ) (hs : Row) → k ≡ 0 → elements_from 0 q (joined (elements k n f b o hs)) ≡ []
no-elements q n zero f b o hs e = refl
no-elements q n (suc k) f b o hs e = absurd (omega arith)

module _ (p : Program) (m : Live) (x : Rooms) (r : Root) (way : List Step) (f : Found) (a : Area) (leads : found (types_of p) x r way ≡ Some f)
    (part : IsPart (types_of p) f a) where
  abbrev here : Path
  here = path_at r way

  abbrev there : Value
  there = get (store_of (types_of p) m x) here

  stands : f.form ≡ Laid 0 [] → StandsAt (types_of p) x (a.elements).block (shape_for p a.of) (pos (a.elements).offset) here
  stands e = record { part = f; leads = leads; there = sym part.block; at = ap pos (sym part.offset); shape = sym part.shape; form = e }

  value-is : (form : Form) → f.form ≡ form → there ≡ formed form (words_for f.shape) (object m f.shape) f.block f.at f.held
  value-is form e = parts_are_found (types_of p) m x r way f leads ∙ ap (λ (g : Form). formed g (words_for f.shape) (object m f.shape) f.block f.at f.held) e

  abbrev paths-of : List Span → List Path
  paths-of ss = elements_from 0 here (joined (elements (count ss) (words_for f.shape) (object m f.shape) f.block f.at (parts_of f.held)))

  many-told : (rank : ℕ) (ss : List Span) → f.form ≡ Laid (suc rank) ss → AreDimsOf (words_for f.shape) (Laid (suc rank) ss) (a.elements).dims.items
      → Tells (types_of p) x a.elements (shape_for p a.of) (elements_from 0 here (joined (elements (count ss) (words_for f.shape) (object m f.shape) f.block f.at (parts_of f.held))))
  many-told rank ss e dims = ⊎_elim
      (λ none.
      let none-there : places a.elements ≡ [] = none_left (places a.elements) (places-many (pos (a.elements).offset) (a.elements).dims.items ∙ none) in
      let few : count ss ≡ 0 = ap count (sym dims.1) ∙ sym (size-count (a.elements).dims.items) ∙ none in
      let no-paths = no-elements here (words_for f.shape) (count ss) (object m f.shape) f.block f.at (parts_of f.held) few in
      subst (λ (zs : List ℤ). AllZip (StandsAt (types_of p) x (a.elements).block (shape_for p a.of)) zs (paths-of ss)) (sym none-there)
      (subst (λ (ps : List Path). AllZip (StandsAt (types_of p) x (a.elements).block (shape_for p a.of)) [] ps) (sym no-paths) tt))
      (λ apart.
      let told = arrays_are_told (types_of p) m x r way f leads rank ss e a.elements
      (record { block = part.block; offset = part.offset; dims = apart; size = size-count (a.elements).dims.items ∙ ap count dims.1 }) in
      subst (λ (s : Shape). Tells (types_of p) x a.elements s (paths-of ss)) (sym part.shape)
      (subst (λ (v : Value). Tells (types_of p) x a.elements f.shape (paths_by here (reach_of here v))) (value-is (Laid (suc rank) ss) e) told))
      dims.2

  by-form : (form : Form) → f.form ≡ form → AreDimsOf (words_for f.shape) form (a.elements).dims.items → AreThere p x a here (reach_of here there)
  by-form (Laid zero ss) e dims =
      let is : f.form ≡ Laid 0 [] = e ∙ ap (Laid 0) dims.0 in
      let one : reach_of here there ≡ One = ap (reach_of here) (value-is (Laid 0 []) is) ∙ one-reached here m f.shape f.block f.at f.held in
      subst (λ (y : Reach). AreThere p x a here y) (sym one) (dims.1, stands is)
  by-form (Laid (suc rank) ss) e dims =
      subst (λ (v : Value). AreThere p x a here (reach_of here v)) (sym (value-is (Laid (suc rank) ss) e)) (dims.0, sym dims.1, many-told rank ss e dims)
  by-form (Allocatable rank) e dims = absurd dims

  pub part-there : AreThere p x a here (reach_of here there)
  part-there = by-form f.form refl part.dims
