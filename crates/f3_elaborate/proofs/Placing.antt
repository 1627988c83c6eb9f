-- What is known where a body stands.
use Rattle.std.proofs.Common.{◌≡◌, ℕ, suc, List, [], ◌∷◌, Option, None, Some, nat_eq, position, length, map, slice_get, refl, sym, ap, subst, ◌∙◌}
use Rattle.std.proofs.Math.Path.{fun_ext}
use Rattle.std.specs.Global.{Vec}
use Rattle.std.specs.Map.{lookup}
use Rattle.std.proofs.lemmas.Option.{slice_get-map}
use Rattle.f3_lookups.specs.declared.lookup.Lookup.{Lookup}
use Rattle.f3_access.specs.Tables.{lookup_of}
use Rattle.f3_program.specs.declared.expression.Name as object
use Rattle.f3_program.specs.declared.expression.Name.TheVariants.{Lent}
use Rattle.f3_kinds.specs.declared.things.Intrinsic.{Intrinsic}
use Rattle.f3_kinds.specs.declared.types.Scalar.{Scalar}
use Rattle.f3_kinds.specs.Things.{map_or, Nature, Context}
use Rattle.f3_typed_parts.specs.declared.known.Known.{Known}
use Rattle.f3_typed_parts.specs.Known.{context_of, nature_of}
use Rattle.f3_type_rules.specs.declared.definition.Holder.{Holder}
use Rattle.f3_scopes.specs.declared.outline.EntityKind.{EntityKind}
use Rattle.f3_type_rules.specs.Definitions.{Site}
use Rattle.f3_type_rules.specs.Scene.{Scene}
use Rattle.f3_sites.specs.declared.site.Site.{Site as Place}
use Rattle.f3_sites.specs.Sites.{site_of}
use Rattle.f3_declared.specs.declared.scenery.Scenery.{Scenery}
use Rattle.f3_declared.specs.Scenery.{scene_in}
use Rattle.f3_numbers.specs.declared.numbers.Numbers.{Numbers as Table}
use Rattle.f3_numbers.specs.Table.{object_at, object_in, procedure_in, type_in}
use Rattle.f3_numbers.specs.Agrees.{Agrees, object_by, nothing_inside}
use Rattle.f3_typed_parts.specs.declared.known.Position.{Position}
use Rattle.f3_type_rules.specs.Members.{Member, Numbered}
use Rattle.f3_declaration_nodes.specs.declared.whole.Whole.{Whole as Tables}
use Rattle.f3_declaration_nodes.specs.Stands.{Stands}
use Rattle.f3_declaration_nodes.specs.Tables.{place}
use Rattle.f3_elaboration.specs.Context.{Surroundings}
use Rattle.f3_elaboration.specs.Declarations.{Whole, context}
use Rattle.f3_elaboration.specs.Numbers.{Numbers, Inner, name_by, name_of, numbers_in_main, numbers_in_member}
use Rattle.f3_elaboration.specs.Units.{in_main, in_member, surroundings}
use Rattle.f3_inside.specs.declared.state.State.{State}
use Rattle.f3_inside.specs.Standing.{state_of}
use Rattle.f3_elaborate.specs.Inner.Knows.{Knows}

-- ---- what is known is the same where a site is

alike : {X : Type 0} (xs ys : List X) → ((e : ℕ) → slice_get xs e ≡ slice_get ys e) → xs ≡ ys
alike [] [] h = refl
alike [] (y ∷ ys) h = let e : None ≡ Some y = h 0 in absurd (cc)
alike (x ∷ xs) [] h = let e : Some x ≡ None = h 0 in absurd (cc)
alike (x ∷ xs) (y ∷ ys) h =
    let first : Some x ≡ Some y = h 0 in
    let rest : xs ≡ ys = alike xs ys (λ e. h (suc e)) in
    cc

same_natures : (p q : Place) → site_of q ≡ site_of p → map nature_of q.known.things.items ≡ map nature_of p.known.things.items
same_natures p q same =
    alike (map nature_of q.known.things.items) (map nature_of p.known.things.items)
    (λ e. slice_get-map nature_of q.known.things.items e ∙ ap (λ (s : Site). (s.context).nature e) same ∙ sym (slice_get-map nature_of p.known.things.items e))

abbrev scene_made : (ℕ → ℕ → Lookup) → List EntityKind → (ℕ → Option Intrinsic) → ℕ × ℕ → List Nature → List Holder → Scene
scene_made look kinds intrinsic moving natures holders = record {
  names = record { look = look; kinds = kinds; intrinsic = intrinsic; moving = moving };
  natures = natures;
  holders = holders;
}

scene_same : {l k : ℕ → ℕ → Lookup} {i j : ℕ → Option Intrinsic} {m n : ℕ × ℕ} {a b : List Nature} (kinds : List EntityKind) (holders : List Holder)
    → l ≡ k → i ≡ j → m ≡ n → a ≡ b → scene_made l kinds i m a holders ≡ scene_made k kinds j n b holders
scene_same kinds holders e1 e2 e3 e4 = cc

pub scene_kept : (scenery : Scenery) (p q : Place) → site_of q ≡ site_of p → scene_in q.known scenery ≡ scene_in p.known scenery
scene_kept scenery p q same =
    scene_same scenery.kinds.now scenery.holders.now
    (ap (λ (s : Site). (s.context).look) same) (ap (λ (s : Site). (s.context).intrinsic) same) (ap (λ (s : Site). (s.context).moving) same) (same_natures p q same)

-- ---- where a body stands

abbrev context_made : (unit scope : ℕ) → (ℕ → ℕ → Lookup) → (ℕ → Option Intrinsic) → ℕ × ℕ → (ℕ → Option Nature) → (ℕ → Option Scalar) → Context
context_made unit scope look intrinsic moving nature value = record {
  unit = unit;
  scope = scope;
  phase = 6;
  look = look;
  intrinsic = intrinsic;
  moving = moving;
  nature = nature;
  value = value;
}

context_same : (unit scope : ℕ) {l k : ℕ → ℕ → Lookup} {i j : ℕ → Option Intrinsic} {m n : ℕ × ℕ} {a b : ℕ → Option Nature} {v w : ℕ → Option Scalar}
    → l ≡ k → i ≡ j → m ≡ n → a ≡ b → v ≡ w → context_made unit scope l i m a v ≡ context_made unit scope k j n b w
context_same unit scope e1 e2 e3 e4 e5 = cc

pub placed : (scenery : Scenery) (known : Known) (w : Whole) (unit scope : ℕ) → w.scene ≡ scene_in known scenery
    → ((e : ℕ) → lookup (nat_eq e) w.values ≡ map_or None (λ (v : Option Scalar). v) (slice_get known.values.items e))
    → context_of known (place unit scope) ≡ context w unit scope
placed scenery known w unit scope scene values =
    context_same unit scope
    (ap (λ (s : Scene). (s.names).look) (sym scene)) (ap (λ (s : Scene). (s.names).intrinsic) (sym scene)) (ap (λ (s : Scene). (s.names).moving) (sym scene))
    (fun_ext (λ e. sym (slice_get-map nature_of known.things.items e) ∙ ap (λ (s : Scene). slice_get s.natures e) (sym scene)))
    (fun_ext (λ e. sym (values e)))

name_at : (x y z : Option ℕ) → map_or (Lent 0) (λ (n : object.Name). n) (object_by x y z) ≡ name_by x y (map_or 0 (λ (n : ℕ). n) z)
name_at (Some i) y z = refl
name_at None (Some i) z = refl
name_at None None (Some k) = refl
name_at None None None = refl

objects_same : (t : Table) (whole : Numbers) (inner : Inner) → Agrees t whole inner → object_at t ≡ name_of whole inner
objects_same t whole inner h =
    fun_ext (λ e. ap (λ o. map_or (Lent 0) (λ (n : object.Name). n) o) (h.objects e)
    ∙ name_at (position (nat_eq e) whole.statics) (position (nat_eq e) inner.variables) (position (nat_eq e) inner.lent))

abbrev surroundings_made : Context → ((entity : ℕ) → object.Name) → ((entity : ℕ) → ℕ) → ((entity : ℕ) → ℕ) → (lent : ℕ) → List (List ℕ) → Surroundings
surroundings_made context object procedure type lent texts = record {
  context = context;
  object = object;
  procedure = procedure;
  type = type;
  lent = lent;
  texts = texts;
}

surroundings_same : {c d : Context} {o x : ℕ → object.Name} {p q t u : ℕ → ℕ} {k n : ℕ} {ts us : List (List ℕ)} → c ≡ d → o ≡ x → p ≡ q → t ≡ u → k ≡ n → ts ≡ us
    → surroundings_made c o p t k ts ≡ surroundings_made d x q u n us
surroundings_same e1 e2 e3 e4 e5 e6 = cc

-- what is known where the body of a procedure begins, whose numbers these are
pub begun : (s : State) (w : Whole) (unit scope : ℕ) (inner : Inner) → (site_of s.site).context ≡ context w unit scope → Agrees s.numbers w.numbers inner
    → s.lent.items ≡ inner.lent → map (λ t. t.items) s.texts.now ≡ w.texts → state_of s ≡ surroundings w unit scope inner
begun s w unit scope inner here numbers lent texts =
    surroundings_same here (objects_same s.numbers w.numbers inner numbers)
    (fun_ext (λ e. ap (λ o. map_or 0 (λ (n : ℕ). n) o) (numbers.procedures e)))
    (fun_ext (λ e. ap (λ o. map_or 0 (λ (n : ℕ). n) o) (numbers.types e)))
    (ap length lent) texts

-- the same numbers agree with the same
pub still_agrees : (t u : Table) (whole : Numbers) (inner : Inner) → ((e : ℕ) → object_in u e ≡ object_in t e) → ((e : ℕ) → procedure_in u e ≡ procedure_in t e)
    → ((e : ℕ) → type_in u e ≡ type_in t e) → Agrees t whole inner → Agrees u whole inner
still_agrees t u whole inner objects procedures types h = record {
  objects = λ e. objects e ∙ h.objects e;
  procedures = λ e. procedures e ∙ h.procedures e;
  types = λ e. types e ∙ h.types e;
}

-- ---- what is known inside of a procedure, and again behind it

-- at a place, with what is numbered inside
abbrev pub entered : State → Position → Table → Vec ℕ → State
entered s at numbers lent = record s { site = record (s.site) { at = at }; numbers = numbers; lent = lent }

pub stands_inside : (scenery : Scenery) (s : State) (w : Whole) (tables : Tables) (inner : Inner) → Knows scenery s w → scene_in tables.known.now tables.scenery ≡ scene_in s.site.known scenery
    → tables.known.now.values.items ≡ s.site.known.values.items → Agrees tables.numbers.now w.numbers inner → Stands tables w inner
stands_inside scenery s w tables inner h scene values numbers = record {
  scene = h.scene ∙ sym scene;
  values = λ e. h.values e ∙ ap (λ vs. map_or None (λ (v : Option Scalar). v) (slice_get vs e)) (sym values);
  numbers = numbers;
}

pub member_placed : (scenery : Scenery) (s : State) (w : Whole) (unit scope : ℕ) (m : Member) (at : Position) (numbers : Table) (lent : Vec ℕ) → Knows scenery s w
    → m.scope ≡ scope → at ≡ place unit scope → Agrees numbers w.numbers (numbers_in_member (lookup_of s.site.known.tables.now) unit m)
    → lent.items ≡ (numbers_in_member (lookup_of s.site.known.tables.now) unit m).lent → state_of (entered s at numbers lent) ≡ in_member w unit m
member_placed scenery s w unit scope m at numbers lent h is there agrees listed =
    let look : (w.scene).names.look ≡ lookup_of s.site.known.tables.now = ap (λ (x : Scene). (x.names).look) h.scene in
    let inner : numbers_in_member (lookup_of s.site.known.tables.now) unit m ≡ numbers_in_member (w.scene).names.look unit m = ap (λ (l : ℕ → ℕ → Lookup). numbers_in_member l unit m) (sym look) in
    begun (entered s at numbers lent) w unit m.scope (numbers_in_member (w.scene).names.look unit m)
    (ap (context_of s.site.known) (there ∙ ap (place unit) (sym is)) ∙ placed scenery s.site.known w unit m.scope h.scene h.values)
    (subst (Agrees numbers w.numbers) inner agrees) (listed ∙ ap (λ (i : Inner). i.lent) inner) h.texts

pub main_placed : (scenery : Scenery) (s : State) (w : Whole) (scope : ℕ) (u : Numbered) (at : Position) (numbers : Table) (lent : Vec ℕ) → Knows scenery s w
    → u.scope ≡ scope → at ≡ place scope scope → Agrees numbers w.numbers (numbers_in_main u) → lent.items ≡ (numbers_in_main u).lent
    → state_of (entered s at numbers lent) ≡ in_main w u
main_placed scenery s w scope u at numbers lent h is there agrees listed =
    begun (entered s at numbers lent) w u.scope u.scope (numbers_in_main u)
    (ap (context_of s.site.known) (there ∙ ap (λ k. place k k) (sym is)) ∙ placed scenery s.site.known w u.scope u.scope h.scene h.values)
    agrees listed h.texts

-- behind a body, where the numbers are again those of the program alone
pub knows_still : (scenery : Scenery) (before after : State) (at : Position) (w : Whole) → Knows scenery before w → site_of after.site ≡ site_of (record (before.site) { at = at })
    → after.texts ≡ before.texts → Agrees after.numbers w.numbers nothing_inside → Knows scenery after w
knows_still scenery before after at w h same texts numbers = record {
  scene = h.scene ∙ sym (scene_kept scenery (record (before.site) { at = at }) after.site same);
  values = λ e. h.values e ∙ sym (ap (λ (s : Site). (s.context).value e) same);
  numbers = numbers;
  texts = ap (λ ts. map (λ t. t.items) ts.now) texts ∙ h.texts;
}
