-- The procedures of the rules are those of the program.
use Rattle.std.proofs.Common.{◌≡◌, ℕ, suc, Bool, true, false, not, List, [], ◌∷◌, ◌++◌, drop, map, Option, None, Some, Contains, refl, sym, ap, ◌∙◌, inl, inr, ◌⊎◌, if◌then◌else◌, ◌<◌, arith}
use Rattle.std.specs.Prelude.{slice_get}
use Rattle.std.specs.List.{flat_map}
use mathlib.Core.Path.{subst}
use Rattle.f3_lookups.specs.declared.lookup.Lookup.{Lookup}
use Rattle.f3_access.specs.Access.{first_entity}
use Rattle.f3_rules.specs.declared.breaks.Break.{Break}
use Rattle.f3_rules.specs.declared.rule.Rule.TheVariants.{N9}
use Rattle.f3_scope_rules.specs.ScopeBreaks.{at, specified, BreaksOf, IntentMisplaced, ScopeBreaks}
use Rattle.f3_scopes.specs.declared.outline.EntityKind.{EntityKind}
use Rattle.f3_scopes.specs.declared.outline.EntityKind.TheVariants as entity
use Rattle.f3_scopes.specs.declared.outline.ScopeKind.TheVariants as kind
use Rattle.f3_scopes.specs.Outlines.{Own, Scope}
use Rattle.f3_scopes.specs.Scopes.{kind_of, own, intent_of as intents, declared_in, is_typed, typed_result, procedure_kind, scope_of_procedure, scopes_of}
use Rattle.f3_tree.specs.declared.declaration.Intent.{Intent}
use Rattle.f3_tree.specs.declared.declaration.Intent.TheVariants.{In, Out, InOut}
use Rattle.f3_tree.specs.declared.expression.Name.{Name}
use Rattle.f3_tree.specs.declared.program.ProcedureKind.{ProcedureKind}
use Rattle.f3_tree.specs.declared.program.ProcedureKind.TheVariants.{Subroutine, Function}
use Rattle.f3_tree.specs.Declarations.{Placed, declares, SpecificationTree}
use Rattle.f3_tree.specs.Tree.{Tree}
use Rattle.f3_program.specs.declared.declarations.Base.{Base}
use Rattle.f3_program.specs.declared.program.Dummy as program
use Rattle.f3_program.specs.declared.program.Procedure.{Procedure}
use Rattle.f3_program.specs.declared.program.Program.{Program}
use Rattle.f3_kinds.specs.declared.types.Object.{Object}
use Rattle.f3_kinds.specs.declared.things.Dummy.{Dummy}
use Rattle.f3_kinds.specs.Things.{map_or, Nature, constant, variable, derived, subroutine, function}
use Rattle.f3_meaning_whole.specs.Permitted.{Each, Lendable, is_in as is_given_in, lendable, names_of, names_in, dummies_in}
use Rattle.f3_type_rules.specs.Definitions.{is_in, is_defining}
use Rattle.f3_type_rules.specs.Members.{Member, Numbered}
use Rattle.f3_type_rules.specs.Names.{Names, Declared, entries, last_of, attributes_of, intent_of, object_of}
use Rattle.f3_type_rules.specs.Natures.{object_nature, dummy, kind_nature}
use Rattle.f3_type_rules.specs.Scene.{names_of as known_names}
use Rattle.f3_elaboration.specs.Nodes.{DummyNode, ProcedureNode, ProgramNode}
use Rattle.f3_elaboration.specs.Context.{Surroundings, base}
use Rattle.f3_elaboration.specs.Declarations.{Whole}
use Rattle.f3_elaboration.specs.DeclaredViews.{dummy_view, program_view}
use Rattle.f3_elaboration.specs.Numbers.{Inner, number_in}
use Rattle.f3_elaboration.specs.Program.{elaborated}
use Rattle.f3_elaboration.specs.Units.{intent_of as intent_node, dummy as dummy_node, surroundings}
use Rattle.f3_lawful_laws.specs.Agreement.{lent, AreGiven}
use Rattle.f3_lawful_laws.specs.Entities.{units_of, whole_of}
use Rattle.f3_lawful_laws.proofs.Ascending.{units_ascend}
use Rattle.f3_lawful_laws.proofs.Facts.{no, nothing, same}
use Rattle.f3_lawful_laws.proofs.Numbered.{IsProcedure}
use Rattle.f3_lawful_laws.proofs.Numbering.{numbered_all}
use Rattle.f3_lawful_laws.proofs.Opening.{mapped_at}
use Rattle.f3_lawful_laws.proofs.Trees.{all_lie}
use Rattle.f3_entity_laws.specs.Things.{of_member, number_of, Thing, name, type, procedure, result, associate, nature_of, things_of, IsAmong, IsHome, IsOf}
use Rattle.f3_entity_laws.proofs.Entities.{of_program, homes}
use Rattle.f3_entity_laws.proofs.Lists.{flat_block}
use Rattle.f3_entity_laws.proofs.Names.{thing_procedures}
use Rattle.f3_entity_laws.proofs.Natures.{natures}
use Rattle.f3_agreement_laws.specs.Unbroken.{HasOuterTypes}
use Rattle.f3_agreement_laws.specs.Laws.{SubroutinesAgree, FunctionsAgree}
use Rattle.f3_agreement_laws.proofs.Declared.{each_get, contains_at, IsEntry, entry_of, dummy_entry}

-- ---- which things are procedures

abbrev tag : Nature → ℕ
tag (constant o) = 0
tag (variable o) = 1
tag (derived home ks f) = 2
tag (subroutine pure ds) = 3
tag (function pure ds o) = 4

abbrev dummies_or : List (ℕ × Dummy) → Nature → List (ℕ × Dummy)
dummies_or es (constant o) = es
dummies_or es (variable o) = es
dummies_or es (derived home ks f) = es
dummies_or es (subroutine pure ds) = ds
dummies_or es (function pure ds o) = ds

object_low : (k : EntityKind) (o : Object) → tag (object_nature k o) < 2
object_low entity.Variable o = (let a : 1 < 2 = omega arith in a)
object_low entity.Constant o = (let a : 0 < 2 = omega arith in a)
object_low entity.DerivedType o = (let a : 1 < 2 = omega arith in a)
object_low entity.Subroutine o = (let a : 1 < 2 = omega arith in a)
object_low entity.Function o = (let a : 1 < 2 = omega arith in a)

kind_dummies : (es : List (ℕ × Dummy)) (pure : Bool) (ds : List (ℕ × Dummy)) (o : Object) (k : ProcedureKind) → dummies_or es (kind_nature pure ds o k) ≡ ds
kind_dummies es pure ds o Subroutine = refl
kind_dummies es pure ds o (Function s outcome) = refl

abbrev specified_dummies : Names → Member → List (ℕ × Dummy)
specified_dummies names m = map (dummy names m.scope (entries ((m.tree).part).specifications)) ((m.tree).header).dummies

record IsProcedureOf (names : Names) (us : List Numbered) (g : Thing) (n : Nature) : Type 0 where
  unit : Numbered
  member : Member
  home : IsHome us (of_member unit member)
  is : g ≡ procedure unit member
  dummies : dummies_or [] n ≡ specified_dummies names member

thing_procedure : (names : Names) (us : List Numbered) (n : Nature) (g : Thing) (f : Bool) → 2 < tag n → IsOf us g → n ≡ nature_of names f g
    → IsProcedureOf names us g n
thing_procedure names us n (name h x) f high of is =
    let low = object_low (kind_of (x.0).attributes) (object_of names (number_of h) (x.0, x.1)) in
    let e : tag n ≡ tag (nature_of names f (name h x)) = ap tag is in
    absurd (omega (arith, low, high, e))
thing_procedure names us n (type h x) f high of is = absurd (let e : tag n ≡ 2 = ap tag is in omega (arith, high, e))
thing_procedure names us n (procedure u m) f high of is = record {
  unit = u;
  member = m;
  home = of;
  is = refl;
  dummies = ap (dummies_or []) is ∙ kind_dummies [] _ (specified_dummies names m) _ ((m.tree).header).kind;
}
thing_procedure names us n (result u m s) f high of is = absurd (let e : tag n ≡ 1 = ap tag is in omega (arith, high, e))
thing_procedure names us n (associate h k x) f high of is = absurd (let e : tag n ≡ 1 = ap tag is in omega (arith, high, e))

-- ---- dummies

abbrev lendable_by : Bool → Base → Lendable
lendable_by b o = record { may_define = b; of = o }

abbrev lendable_node : DummyNode → Lendable
lendable_node n = record { may_define = not (is_given_in n.intent); of = (n.kind).of }

seen_lendable : (ds : List program.Dummy) → map lendable ds ≡ map lendable_node (map dummy_view ds)
seen_lendable [] = refl
seen_lendable (d ∷ ds) = ap (λ (l : List Lendable). lendable d ∷ l) (seen_lendable ds)

may_define : (o : Option Intent) → not (is_given_in (intent_node o)) ≡ map_or false (λ (i : Intent). not (is_in (Some i))) o
may_define None = refl
may_define (Some In) = refl
may_define (Some Out) = refl
may_define (Some InOut) = refl

module _ (w : Whole) (unit scope : ℕ) (inner : Inner) (home : ℕ) (m : Member) where
  abbrev here : Surroundings
  here = surroundings w unit scope inner

  abbrev known_dummy : Name → ℕ × Dummy
  known_dummy n = dummy (w.scene).names m.scope (entries ((m.tree).part).specifications) n

  lent_node : (n : Name) → lendable_node (dummy_node w home m n) ≡ lent here (known_dummy n)
  lent_node n = ap (λ b. lendable_by b (base here (((known_dummy n).1).object).data_type)) (may_define ((known_dummy n).1).intent)

  lent_nodes : (ns : List Name) → map lendable_node (map (dummy_node w home m) ns) ≡ map (lent here) (map known_dummy ns)
  lent_nodes [] = refl
  lent_nodes (n ∷ ns) =
      ap (λ (l : List Lendable). lendable_node (dummy_node w home m n) ∷ l) (lent_nodes ns)
      ∙ ap (λ (x : Lendable). x ∷ map (lent here) (map known_dummy ns)) (lent_node n)

-- ---- the procedures of a program

module _ (t : Tree) (look : ℕ → ℕ → Lookup) (order : List ℕ) (p : Program) (seen : program_view p ≡ elaborated t look order) where
  abbrev w : Whole
  w = whole_of t look order

  member_there : (u : Numbered) (m : Member) → IsHome (units_of t) (of_member u m) → IsProcedure p w u.scope m
  member_there u m home =
      let all : Each (λ (u : Numbered). Each (IsProcedure p w u.scope) u.members) (units_of t) =
      numbered_all p w (units_of t) refl (first_entity (scopes_of t) 0) (units_ascend (scopes_of t) 0 t.units (all_lie (scopes_of t)))
      (ap (λ (y : ProgramNode). y.procedures) seen) in
      each_get (IsProcedure p w u.scope) u.members (home.1).0 m
      (each_get (λ (u : Numbered). Each (IsProcedure p w u.scope) u.members) (units_of t) (home.0).0 u all (home.0).1) (home.1).1

  member_names : (unit scope : ℕ) (inner : Inner) (u : Numbered) (m : Member) → IsHome (units_of t) (of_member u m)
      → names_in p (number_in (w.numbers).procedures m.entity) ≡ map (lent (surroundings w unit scope inner)) (specified_dummies (known_names t look) m)
  member_names unit scope inner u m home =
      let q = member_there u m home in
      let nodes : map dummy_view (q.procedure).dummies.items ≡ map (dummy_node w u.scope m) ((m.tree).header).dummies = ap (λ (y : ProcedureNode). y.dummies) q.is in
      ap (λ (o : Option Procedure). names_of (dummies_in o)) q.there ∙ seen_lendable (q.procedure).dummies.items ∙ ap (map lendable_node) nodes
      ∙ lent_nodes w unit scope inner u.scope m ((m.tree).header).dummies

  -- so of each entity that is a procedure
  procedure_names : (unit scope : ℕ) (inner : Inner) (e : ℕ) (n : Nature) (g : Thing) → slice_get (things_of (units_of t)) e ≡ Some g
      → IsProcedureOf (known_names t look) (units_of t) g n
      → names_in p (number_in (w.numbers).procedures e) ≡ map (lent (surroundings w unit scope inner)) (dummies_or [] n)
  procedure_names unit scope inner e n g there q =
      let number : (q.member).entity ≡ e = thing_procedures t e q.unit q.member (there ∙ ap Some q.is) in
      ap (λ k. names_in p (number_in (w.numbers).procedures k)) (sym number) ∙ member_names unit scope inner q.unit q.member q.home
      ∙ ap (map (lent (surroundings w unit scope inner))) (sym q.dummies)

pub subroutines : SubroutinesAgree
subroutines t look order p seen unit scope inner e pure ds there =
    let g = natures (known_names t look) (units_of t) e (subroutine pure ds) there in
    procedure_names t look order p seen unit scope inner e (subroutine pure ds) g.0 g.2
    (thing_procedure (known_names t look) (units_of t) (subroutine pure ds) g.0 g.1 (let a : 2 < 3 = omega arith in a) (of_program t e g.0 g.2) g.3)

-- ---- dummies of functions

last_among : {X : Type 0} (o : Option X) (xs : List X) (x : X) → last_of o xs ≡ Some x → (o ≡ Some x) ⊎ IsAmong xs x
last_among o [] x e = inl e
last_among o (y ∷ ys) x e = elim (last_among (Some y) ys x e) [
  | inl h ↦ inr (0, h)
  | inr h ↦ inr (suc h.0, h.1)
]

all_intents : (ps : List Placed) → flat_map intents (map (λ (p : Placed). p.attribute) ps) ≡ flat_map (λ (p : Placed). intents p.attribute) ps
all_intents [] = refl
all_intents (p ∷ ps) = ap (λ l. intents p.attribute ++ l) (all_intents ps)

all_specified : (k : ProcedureKind) (n : Name) (l : List Own) → (if is_typed k then drop 1 (typed_result k n ++ l) else typed_result k n ++ l) ≡ l
all_specified Subroutine n l = refl
all_specified (Function None outcome) n l = refl
all_specified (Function (Some s) outcome) n l = refl

abbrev IsOfFunction : ProcedureKind → Type 0
IsOfFunction Subroutine = ⊥
IsOfFunction (Function s outcome) = Unit {0}

function_kind : (k : ProcedureKind) → IsOfFunction k → procedure_kind k ≡ kind.Function
function_kind Subroutine f = absurd f
function_kind (Function s outcome) f = refl

kind_function : (k : ProcedureKind) (pure pure' : Bool) (ds es : List (ℕ × Dummy)) (o x : Object) → function pure ds o ≡ kind_nature pure' es x k → IsOfFunction k
kind_function Subroutine pure pure' ds es o x is = absurd (let a : 4 ≡ 3 = ap tag is in omega (arith, a))
kind_function (Function s outcome) pure pure' ds es o x is = tt

abbrev is_in_only : Intent → Bool
is_in_only In = true
is_in_only Out = false
is_in_only InOut = false

module _ (t : Tree) (outer : HasOuterTypes t) (none : (b : Break) → ScopeBreaks (scopes_of t) b → ⊥) (u : Numbered) (m : Member)
    (home : IsHome (units_of t) (of_member u m)) (function : IsOfFunction ((m.tree).header).kind) where
  abbrev place : Scope
  place = scope_of_procedure u.scope m.tree

  abbrev specifications : List SpecificationTree
  specifications = ((m.tree).part).specifications

  -- a declared dummy has no other intent than IN
  only_in : (i : ℕ) (n : Name) → slice_get ((m.tree).header).dummies i ≡ Some n → (x : Declared) → IsEntry specifications n.symbol x
      → (a : Intent) → intent_of x ≡ Some a → (a ≡ In → ⊥) → ⊥
  only_in i n dummy x entry a is other =
      let d : Own = own (x.0).attributes x.1 in
      let there : slice_get (flat_map declared_in specifications) _ ≡ Some d =
      flat_block declared_in specifications (entry.part).0 (declares x.0) (entry.entity).0 d (entry.part).1 (mapped_at (own (x.0).attributes) (x.0).entities (entry.entity).0 x.1 (entry.entity).1) in
      let known : Contains (specified place) d =
      subst (λ l. Contains l d) (sym (all_specified ((m.tree).header).kind ((m.tree).header).name (flat_map declared_in specifications)))
      (contains_at (flat_map declared_in specifications) _ d there) in
      elim (last_among None (flat_map intents (attributes_of x.0)) a is) [
        | inl h ↦ nothing h
        | inr h ↦
            let given : Contains d.intents a = contains_at d.intents h.0 a (ap (λ l. slice_get l h.0) (sym (all_intents (x.0).attributes)) ∙ h.1) in
            none (at N9 d.name) (
              place,
              contains_at (scopes_of t) m.scope place (homes t (of_member u m) home),
              BreaksOf.intent_misplaced (IntentMisplaced.of_function d a known (n, contains_at place.dummies i n dummy, sym entry.name)
                  (function_kind ((m.tree).header).kind function) given other refl),
            )
      ]

  never_defined : (i : ℕ) (n : Name) → slice_get ((m.tree).header).dummies i ≡ Some n → (x : Declared) → IsEntry specifications n.symbol x
      → (o : Option Intent) → intent_of x ≡ o → map_or false (λ (i : Intent). not (is_in (Some i))) o ≡ false
  never_defined i n dummy x entry None is = refl
  never_defined i n dummy x entry (Some In) is = refl
  never_defined i n dummy x entry (Some Out) is = absurd (only_in i n dummy x entry Out is (λ e. no (sym (ap is_in_only e))))
  never_defined i n dummy x entry (Some InOut) is = absurd (only_in i n dummy x entry InOut is (λ e. no (sym (ap is_in_only e))))

  all_given : (names : Names) (ns : List Name)
      → ((i : ℕ) (n : Name) → slice_get ns i ≡ Some n → is_defining (Some (dummy names m.scope (entries specifications) n).1) ≡ false)
      → AreGiven (map (dummy names m.scope (entries specifications)) ns)
  all_given names [] h = tt
  all_given names (n ∷ ns) h = (h 0 n refl, all_given names ns (λ i x e. h (suc i) x e))

  function_given : (names : Names) → AreGiven (specified_dummies names m)
  function_given names = all_given names ((m.tree).header).dummies (λ i n dummy.
      let found = dummy_entry t outer none u m home i n dummy in
      let entry = entry_of specifications n.symbol found.0 found.1 in
      ap (λ (o : Option Declared). map_or false (λ (i : Intent). not (is_in (Some i))) (map_or None intent_of o)) found.1
      ∙ never_defined i n dummy found.0 entry (intent_of found.0) refl)

thing_function : (names : Names) (us : List Numbered) (pure : Bool) (ds : List (ℕ × Dummy)) (o : Object) (g : Thing) (f : Bool) (u : Numbered) (m : Member)
    → g ≡ procedure u m → function pure ds o ≡ nature_of names f g → IsOfFunction ((m.tree).header).kind
thing_function names us pure ds o g f u m same is =
    kind_function ((m.tree).header).kind pure _ ds _ o _ (is ∙ ap (nature_of names f) same)

pub functions : FunctionsAgree
functions t look order p free seen unit scope inner e pure ds o there =
    let names : Names = known_names t look in
    let g = natures names (units_of t) e (function pure ds o) there in
    let q = thing_procedure names (units_of t) (function pure ds o) g.0 g.1 (let a : 2 < 4 = omega arith in a) (of_program t e g.0 g.2) g.3 in
    let of = thing_function names (units_of t) pure ds o g.0 g.1 q.unit q.member q.is g.3 in (
      procedure_names t look order p seen unit scope inner e (function pure ds o) g.0 g.2 q,
      subst AreGiven (sym q.dummies) (function_given t free.outer free.scopes q.unit q.member q.home of names),
    )
