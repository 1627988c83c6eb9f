-- What stands along the declarations of a program.
use Rattle.std.proofs.Common.{◌≡◌, ◌<◌, ◌^◌, ℕ, List, [], Option, None, length, map, replicate, sym, ap, subst, ◌∙◌, arith}
use Rattle.std.specs.Global.{Vec}
use Rattle.std.specs.Vec.{vec_len}
use Rattle.std.proofs.lemmas.List.{length-map, length-replicate}
use Rattle.f3_lookups.specs.declared.lookup.Lookup.{Lookup}
use Rattle.f3_access.specs.Access.{entities_of}
use Rattle.f3_names.specs.Tables.{scope_numbers}
use Rattle.f3_scopes.specs.declared.outline.Outline.{Outline}
use Rattle.f3_scopes.specs.Outlines.{Scope, scope_view}
use Rattle.f3_scopes.specs.Scopes.{scopes_of}
use Rattle.f3_tree.specs.Tree.{UnitTree, Tree}
use Rattle.f3_kinds.specs.declared.things.Thing.{Thing}
use Rattle.f3_kinds.specs.declared.types.Scalar.{Scalar}
use Rattle.f3_typed_parts.specs.declared.known.Known.{Known}
use Rattle.f3_typed_parts.specs.Known.{nature_of}
use Rattle.f3_type_rules.specs.Program.{nothing_known}
use Rattle.f3_type_rules.specs.Scene.{Scene, names_of}
use Rattle.f3_type_rules.specs.Walks.{Known as Grown}
use Rattle.f3_natures.specs.Natures.{natures_of}
use Rattle.f3_declared.specs.declared.scenery.Scenery.{Scenery}
use Rattle.f3_declared.specs.Scenery.{scene_in as standing}
use Rattle.f3_entities.specs.Cells.{HasCells}
use Rattle.f3_entities.specs.declared.growth.Growth.{Growth}
use Rattle.f3_entities.specs.Growth.{HasValues, Stands}
use Rattle.f3_unit_rules.specs.Members.{AreFirsts}
use Rattle.f3_unit_rules.specs.Units.{AreNumbers, UnitsFit}
use Rattle.f3_types.specs.Parts.{scene_in}
use Rattle.f3_types.specs.Scenes.{Knows}
use Rattle.f3_types.proofs.Counting.{natures_long}
use Rattle.f3_types.proofs.Fitting.{numbers_are, units_fit}
use Rattle.f3_types.proofs.Scenes.{none_at, settled_long, short}

-- each entity is known
pub things_long : (t : Tree) (look : ℕ → ℕ → Lookup) (things : List Thing) → map nature_of things ≡ (scene_in t look).natures → length things ≡ length (entities_of (scopes_of t))
things_long t look things same =
    let names = names_of t look in
    sym (length-map things nature_of) ∙ ap length same ∙ settled_long (natures_of names t) ∙ natures_long names t

no_values : (vs : List (Option Scalar)) (n : ℕ) → vs ≡ replicate n None → HasValues vs []
no_values vs n e = subst (λ xs. HasValues xs []) (sym e) (λ i. none_at n i)

no_cells : (cs : List (Option ℕ)) (n : ℕ) → cs ≡ replicate n None → HasCells cs nothing_known
no_cells cs n e = subst (λ xs. HasCells xs nothing_known) (sym e) (λ i. none_at n i)

pub begins : (s : Scene) (g : Growth) (n m : ℕ) → standing g.known g.scenery ≡ s → g.next ≡ 0 → g.known.values.items ≡ replicate n None → g.cells.items ≡ replicate m None
    → Stands s g nothing_known
begins s g n m scene next values cells = record {
  scene = sym scene;
  next = next;
  values = no_values g.known.values.items n values;
  cells = no_cells g.cells.items m cells;
}

pub knows : (s : Scene) (g : Growth) (k : Grown) → Stands s g k → Knows s k.values g.known
knows s g k h = record {
  look = ap (λ (x : Scene). (x.names).look) (sym h.scene);
  intrinsic = ap (λ (x : Scene). (x.names).intrinsic) (sym h.scene);
  moving = ap (λ (x : Scene). (x.names).moving) (sym h.scene);
  natures = ap (λ (x : Scene). x.natures) (sym h.scene);
  values = h.values;
}

-- there are less scopes than addresses
pub scopes_fit : (t : Tree) (v : Vec Outline) → map scope_view v.items ≡ scopes_of t → length (scopes_of t) < 2 ^ 64
scopes_fit t v same =
    let fits = short v in
    let mapped = length-map v.items scope_view in
    let long : length (map scope_view v.items) ≡ length (scopes_of t) = ap length same in
    omega (arith, fits, mapped, long)

-- ---- what the walk along the units asks

pub firsts_are : (t : Tree) (scopes : List Scope) (firsts given : List ℕ) → scopes ≡ scopes_of t → AreFirsts scopes firsts → given ≡ firsts → AreFirsts (scopes_of t) given
firsts_are t scopes firsts given same are e =
    subst (λ fs. AreFirsts (scopes_of t) fs) (sym e) (subst (λ ss. AreFirsts ss firsts) same are)

pub fits : (t : Tree) (scopes : List Scope) (firsts given numbers : List ℕ) (us : List UnitTree) (room : ℕ) → scopes ≡ scopes_of t → AreFirsts scopes firsts
    → length firsts ≡ length scopes → given ≡ firsts → numbers ≡ scope_numbers 0 t.units → us ≡ t.units → room ≡ length (entities_of (scopes_of t))
    → UnitsFit given room numbers us
fits t scopes firsts given numbers us room same are long e numbered us_are room_is =
    let here = units_fit t given numbers (firsts_are t scopes firsts given same are e) (ap length e ∙ long ∙ ap length same) numbered in
    subst (λ xs. UnitsFit given room numbers xs) (sym us_are) (subst (λ n. UnitsFit given n numbers t.units) (sym room_is) here)

pub numbered : (t : Tree) (numbers : List ℕ) (us : List UnitTree) → numbers ≡ scope_numbers 0 t.units → us ≡ t.units → AreNumbers (scopes_of t) numbers us
numbered t numbers us same us_are = subst (λ xs. AreNumbers (scopes_of t) numbers xs) (sym us_are) (numbers_are t numbers same)

pub room_is : (t : Tree) (look : ℕ → ℕ → Lookup) (known : Known) (scenery : Scenery) → standing known scenery ≡ scene_in t look
    → known.values.items ≡ replicate (length known.things.items) None → vec_len known.values ≡ length (entities_of (scopes_of t))
room_is t look known scenery scene values =
    known.values.ok.0 ∙ ap length values ∙ length-replicate (length known.things.items) None
    ∙ things_long t look known.things.items (ap (λ (x : Scene). x.natures) scene)
