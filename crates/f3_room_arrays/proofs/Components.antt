-- Components of the elements that a descriptor tells of.
use Rattle.std.proofs.Common.{◌≡◌, ◌∙◌, sym, ap, subst, refl, ℕ, zero, suc, ◌+◌, List, [], ◌∷◌, arith}
use Rattle.std.specs.Prelude.{Some, ℤ, pos, ◌+ℤ◌, map}
use Rattle.std.specs.List.{AllZip}
use Rattle.std.proofs.lemmas.Int.{ints}
use Rattle.f3_program.specs.declared.declarations.Base.{Base}
use Rattle.f3_meaning_whole.specs.Shape.{Shape, Record, Parts, nothing, and}
use Rattle.f3_meaning_whole.specs.Store.{Path, Component, within}
use Rattle.f3_desc.specs.declared.descriptor.Dim.{Dim}
use Rattle.f3_desc.specs.Descriptor.{choices, places, subscripts}
use Rattle.f3_desc.proofs.Spots.{from, moved}
use Rattle.f3_rooms.specs.Held.{Held, Row, parts_of, first, others}
use Rattle.f3_rooms.specs.Forms.{Form, Laid, Allocatable, form_of, form_words, words_for}
use Rattle.f3_rooms.specs.Rooms.{Rooms}
use Rattle.f3_rooms.specs.Places.{Found, in_form, in_object, in_component}
use Rattle.f3_rooms.specs.Ways.{settled}
use Rattle.f3_rooms.proofs.Onward.{parts_have_parts}
use Rattle.f3_room_arrays.specs.Elements.{StandsAt}
use Rattle.f3_room_arrays.specs.Laws.{IsScalarComponent, ComponentsAreTold}

-- where a component of an object stands
record Lies (b o : ℕ) (u : Shape) (g : Found) : Type 0 where
  block : g.block ≡ b
  at : g.at ≡ o
  shape : g.shape ≡ u
  form : g.form ≡ Laid 0 []

abbrev scalar_found : ℕ → ℕ → Shape → Base → Held → Found
scalar_found b o s of h = record { block = b; at = o; shape = s; of = of; form = Laid 0 []; held = h }

scalar_in_form : (form : Form) (s : Shape) (of : Base) (b o : ℕ) (h : Held) → settled form ≡ Laid 0 [] → in_form form s of (in_object s of) b o h [] ≡ Some (scalar_found b o s of h)
scalar_in_form (Laid zero ss) s of b o h e = refl
scalar_in_form (Laid (suc rank) ss) s of b o h e = absurd cc
scalar_in_form (Allocatable rank) s of b o h e = absurd cc

component_lies : (parts : Parts) (b o : ℕ) (hs : Row) (k i : ℕ) (u : Shape) → IsScalarComponent parts k i u → (g : Found) × ((in_component parts b o hs k [] ≡ Some g) × Lies b (o + i) u g)
component_lies nothing b o hs k i u is = absurd is
component_lies (and c s rest) b o hs zero i u is = (
  scalar_found b o s c.declared.kind.of (first hs),
  (scalar_in_form (form_of c.declared) s c.declared.kind.of b o (first hs) is.2, record { block = refl; at = here o i is.0; shape = sym is.1; form = refl }),
)
  where
    here : (x y : ℕ) → y ≡ 0 → x ≡ x + y
    here x y e = omega arith
component_lies (and c s rest) b o hs (suc k) i u is =
    let n : ℕ = form_words (form_of c.declared) (words_for s) in
    let r = component_lies rest b (o + n) (others hs) k is.0 u is.2 in (
      r.0,
      (r.1.0, record { block = r.1.1.block; at = r.1.1.at ∙ along o n is.0 i is.1; shape = r.1.1.shape; form = r.1.1.form }),
    )
  where
    along : (x n j i : ℕ) → i ≡ n + j → x + n + j ≡ x + i
    along x n j i e = omega arith

module _ (ts : List Shape) (x : Rooms) (block t : ℕ) (parts : Parts) (k o : ℕ) (u : Shape) (is : IsScalarComponent parts k o u) where
  component_stands : (z : ℤ) (p : Path) → StandsAt ts x block (Record t parts) z p → StandsAt ts x block u (pos o +ℤ z) (within p (Component k))
  component_stands z p stands =
      let f : Found = stands.part in
      let onward = parts_have_parts ts x p.root p.steps (Component k ∷ []) f stands.leads in
      let plain = ap (λ (form : Form). in_form form f.shape f.of (in_object f.shape f.of) f.block f.at f.held (Component k ∷ [])) stands.form
      ∙ ap (λ (s : Shape). in_object s f.of f.block f.at f.held (Component k ∷ [])) stands.shape in
      let r = component_lies parts f.block f.at (parts_of f.held) k o u is in
      record {
        part = r.0;
        leads = onward ∙ plain ∙ r.1.0;
        there = r.1.1.block ∙ stands.there;
        at = ap pos r.1.1.at ∙ further f.at o z stands.at;
        shape = r.1.1.shape;
        form = r.1.1.form;
      }
    where
      further : (a i : ℕ) (y : ℤ) → pos a ≡ y → pos (a + i) ≡ pos i +ℤ y
      further a i y e = omega (arith, ints)

  components_stand : (zs : List ℤ) (ps : List Path) → AllZip (StandsAt ts x block (Record t parts)) zs ps → AllZip (StandsAt ts x block u) (map (λ z. pos o +ℤ z) zs) (map (λ p. within p (Component k)) ps)
  components_stand [] [] stand = tt
  components_stand [] (p ∷ ps) stand = absurd stand
  components_stand (z ∷ zs) [] stand = absurd stand
  components_stand (z ∷ zs) (p ∷ ps) stand = (component_stands z p stand.0, components_stand zs ps stand.1)

pub components_are_told : ComponentsAreTold
components_are_told ts x a b t parts ps k o u tells is block offset dims =
    let qs = map (λ p. within p (Component k)) ps in
    let told = components_stand ts x a.block t parts k o u is (places a) ps tells in
    let yss = choices (map subscripts a.dims.items) in
    let spots : places b ≡ map (λ z. pos o +ℤ z) (places a) =
    ap (λ (d : List Dim). map (from (pos b.offset) d) (choices (map subscripts d))) (ap (λ v. v.items) dims)
    ∙ ap (λ (z : ℤ). map (from z a.dims.items) yss) (further b.offset a.offset o offset)
    ∙ moved (pos a.offset) (pos o) a.dims.items yss in
    subst (λ (n : ℕ). AllZip (StandsAt ts x n u) (places b) qs) (sym block) (subst (λ (zs : List ℤ). AllZip (StandsAt ts x a.block u) zs qs) (sym spots) told)
  where
    further : (x a o : ℕ) → x ≡ a + o → pos x ≡ pos a +ℤ pos o
    further x a o e = omega (arith, ints)
