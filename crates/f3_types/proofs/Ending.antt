-- What is known behind the bodies of a program is what it was before them, and the breaks are the program's.
use Rattle.std.proofs.Common.{◌≡◌, ℕ, suc, ◌+◌, ◌<◌, ◌^◌, List, [], ◌∷◌, ◌++◌, Option, None, Some, length, map, slice_get, refl, sym, ap, subst, ◌∙◌, arith}
use Rattle.std.proofs.lemmas.Option.{slice_get-map}
use Rattle.f3_lookups.specs.declared.lookup.Lookup.{Lookup}
use Rattle.f3_graph.specs.Order.{IsOrderOf}
use Rattle.f3_graph.specs.Units.{nodes_of}
use Rattle.f3_rules.specs.declared.breaks.Break.{Break}
use Rattle.f3_rules.specs.Least.{first_of, Least}
use Rattle.f3_rules.proofs.Firsts.{first_is_least, least_same}
use Rattle.f3_scopes.specs.Scopes.{scopes_of}
use Rattle.f3_tree.specs.Tree.{Tree}
use Rattle.f3_kinds.specs.declared.types.Scalar.{Scalar}
use Rattle.f3_typed_parts.specs.declared.known.Known.{Known}
use Rattle.f3_typed_parts.specs.Known.{nature_of}
use Rattle.f3_typed_parts.specs.Noted.{noted}
use Rattle.f3_typed_parts.proofs.Noting.{noted_more}
use Rattle.f3_type_rules.specs.declared.definition.Holder.{Holder}
use Rattle.f3_type_rules.specs.Definitions.{Site}
use Rattle.f3_type_rules.specs.Program.{program_breaks}
use Rattle.f3_type_rules.specs.Scene.{Scene}
use Rattle.f3_sites.specs.declared.site.Site.{Site as Place}
use Rattle.f3_sites.specs.Sites.{site_of}
use Rattle.f3_entities.specs.Cells.{HasCells}
use Rattle.f3_unit_bodies.specs.Bodies.{anywhere, unit_widths, units_rows}
use Rattle.f3_unit_bodies.proofs.Linking.{units_link}
use Rattle.f3_unit_bodies.proofs.Widths.{unit_wide, units_wide}
use Rattle.f3_types.specs.Breaks.{Means, TypeBreaks}
use Rattle.f3_types.specs.Parts.{scene_in, declared_along, AreTypesOf, AreAlong}
use Rattle.f3_types.specs.Inner.Rows.{part_rows, body_rows}
use Rattle.f3_types.specs.Scenes.{Knows}
use Rattle.f3_types.proofs.Begun.{IsBegun, begun}
use Rattle.f3_types.proofs.One.{broken_here}

-- ---- before the bodies

pub begun_with : (s : Scene) (values : List (ℕ × Scalar)) (known : Known) (p : Place) (holders : List Holder) → Knows s values known → p.known ≡ known → p.active.items ≡ []
    → p.holders.items ≡ map Some holders → holders ≡ s.holders → p.chains.entries ≡ [] → IsBegun s values p
begun_with s values known p holders h same active held asked chains =
    let here : Knows s values p.known = subst (Knows s values) (sym same) h in
    record {
      look = here.look;
      intrinsic = here.intrinsic;
      moving = here.moving;
      natures = here.natures;
      value = here.values;
      active = active;
      holders = held ∙ ap (map Some) asked;
      chains = chains;
    }

pub widths_fit : (t : Tree) → length (scopes_of t) < 2 ^ 64 → 0 + unit_widths t.units < 2 ^ 64
widths_fit t lt = let wide : unit_widths t.units ≡ length (scopes_of t) = units_wide 0 t.units in omega (arith, wide, lt)

-- ---- the breaks of the bodies

pub bodies_noted : (t : Tree) (look : ℕ → ℕ → Lookup) (order : List ℕ) (p : Place) → IsBegun (scene_in t look) (declared_along t look order).values p
    → units_rows (site_of p) 0 t.units ≡ body_rows t look order
bodies_noted t look order p h = units_link (scene_in t look) (declared_along t look order).values (site_of p) (begun (scene_in t look) (declared_along t look order).values p h) (scopes_of t) unit_wide 0 t.units

-- ---- behind the bodies

alike : {X : Type 0} (xs ys : List X) → ((e : ℕ) → slice_get xs e ≡ slice_get ys e) → xs ≡ ys
alike [] [] h = refl
alike [] (y ∷ ys) h = let e : None ≡ Some y = h 0 in absurd (cc)
alike (x ∷ xs) [] h = let e : Some x ≡ None = h 0 in absurd (cc)
alike (x ∷ xs) (y ∷ ys) h =
    let first : Some x ≡ Some y = h 0 in
    let rest : xs ≡ ys = alike xs ys (λ e. h (suc e)) in
    cc

same_natures : (p q : Place) → anywhere (site_of q) ≡ anywhere (site_of p) → map nature_of q.known.things.items ≡ map nature_of p.known.things.items
same_natures p q same =
    alike (map nature_of q.known.things.items) (map nature_of p.known.things.items)
    (λ e. slice_get-map nature_of q.known.things.items e ∙ ap (λ (s : Site). (s.context).nature e) same ∙ sym (slice_get-map nature_of p.known.things.items e))

pub typed : (t : Tree) (look : ℕ → ℕ → Lookup) (order : List ℕ) (p q : Place) (cells : List (Option ℕ)) → Means t look → IsOrderOf (nodes_of t) order
    → IsBegun (scene_in t look) (declared_along t look order).values p → anywhere (site_of q) ≡ anywhere (site_of p) → HasCells cells (declared_along t look order)
    → AreTypesOf t q.known.things.items q.known.values.items cells
typed t look order p q cells means ordered h same cells_are = record {
  look = look;
  order = order;
  means = means;
  ordered = ordered;
  natures = same_natures p q same ∙ h.natures;
  values = λ e. ap (λ (s : Site). (s.context).value e) same ∙ h.value e;
  cells = cells_are;
}

pub typed_along : (t : Tree) (look : ℕ → ℕ → Lookup) (order : List ℕ) (p q : Place) (cells : List (Option ℕ))
    → IsBegun (scene_in t look) (declared_along t look order).values p → anywhere (site_of q) ≡ anywhere (site_of p) → HasCells cells (declared_along t look order)
    → AreAlong t look order q.known.things.items q.known.values.items cells
typed_along t look order p q cells h same cells_are = record {
  natures = same_natures p q same ∙ h.natures;
  values = λ e. ap (λ (s : Site). (s.context).value e) same ∙ h.value e;
  cells = cells_are;
}

-- ---- the first break of all

all_noted : (bs cs : List Break) (first last : Option Break) → first ≡ noted None bs → last ≡ noted first cs → last ≡ first_of (bs ++ cs)
unfolding noted
all_noted bs cs first last one two = two ∙ ap (λ f. noted f cs) one ∙ noted_more None bs cs

pub least_of_types : (t : Tree) (look : ℕ → ℕ → Lookup) (order : List ℕ) (first last : Option Break) → Means t look → IsOrderOf (nodes_of t) order
    → first ≡ noted None (part_rows t look order) → last ≡ noted first (body_rows t look order) → Least last (TypeBreaks t)
least_of_types t look order first last means ordered one two =
    let is : last ≡ first_of (program_breaks t look order) = all_noted (part_rows t look order) (body_rows t look order) first last one two in
    subst (λ f. Least f (TypeBreaks t)) (sym is)
    (least_same (first_is_least (program_breaks t look order)) (λ b here. (look, order, means, ordered, here)) (broken_here t look order means ordered))
