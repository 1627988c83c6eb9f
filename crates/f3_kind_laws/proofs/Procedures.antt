-- The procedures of the program have dummies and results of the kinds that the rules know.
use Rattle.std.proofs.Common.{◌≡◌, ℕ, suc, ◌+◌, ◌<◌, Bool, true, false, List, [], ◌∷◌, length, map, nat_eq, option_to_list, Option, None, Some, refl, sym, ap, ◌∙◌, arith}
use Rattle.std.specs.Prelude.{slice_get}
use Rattle.std.specs.List.{list_any}
use Rattle.std.specs.Option.{option_map}
use Rattle.std.proofs.lemmas.Option.{slice_get_within}
use Rattle.f3_lookups.specs.declared.lookup.Lookup.{Lookup}
use Rattle.f3_access.specs.Access.{first_entity}
use Rattle.f3_rules.specs.declared.rule.Rule.TheVariants.{N3}
use Rattle.f3_scope_rules.specs.ScopeBreaks.{at, header_names, DeclaredTwice, BreaksOf}
use Rattle.f3_scopes.specs.declared.outline.EntityKind.{EntityKind}
use Rattle.f3_scopes.specs.declared.outline.EntityKind.TheVariants as entity
use Rattle.f3_scopes.specs.Outlines.{Scope}
use Rattle.f3_scopes.specs.Scopes.{kind_of, name_or, outcome_of, result_of, scope_of_procedure, scopes_of}
use Rattle.f3_tree.specs.declared.expression.Name.{Name}
use Rattle.f3_tree.specs.declared.program.ProcedureKind.{ProcedureKind}
use Rattle.f3_tree.specs.declared.program.ProcedureKind.TheVariants.{Subroutine, Function}
use Rattle.f3_tree.specs.Tree.{Tree}
use Rattle.f3_program.specs.declared.declarations.Declared.{Declared}
use Rattle.f3_program.specs.declared.declarations.Kind.{Kind}
use Rattle.f3_program.specs.declared.program.Dummy as program
use Rattle.f3_program.specs.declared.program.Program.{Program}
use Rattle.f3_kinds.specs.declared.types.Object.{Object}
use Rattle.f3_kinds.specs.declared.things.Dummy.{Dummy}
use Rattle.f3_kinds.specs.Things.{map_or, Nature, constant, variable, derived, subroutine, function}
use Rattle.f3_meaning_whole.specs.Formed.{of_kind, kinds_of, result_kind}
use Rattle.f3_meaning_whole.specs.Permitted.{Each}
use Rattle.f3_type_rules.specs.Members.{Member, Numbered}
use Rattle.f3_type_rules.specs.Names.{Names, Declared as declared_name, entries, object_of, undeclared}
use Rattle.f3_type_rules.specs.Natures.{object_nature, dummy, kind_nature, result_object, specifier_of}
use Rattle.f3_type_rules.specs.Scene.{names_of}
use Rattle.f3_elaboration.specs.Nodes.{DeclaredNode, DummyNode, ProcedureNode, ProgramNode}
use Rattle.f3_elaboration.specs.Context.{Surroundings, base}
use Rattle.f3_elaboration.specs.Declarations.{Whole, declared}
use Rattle.f3_elaboration.specs.DeclaredViews.{declared_view, dummy_view, program_view}
use Rattle.f3_elaboration.specs.Numbers.{Inner, number_in, kind_of as node_kind}
use Rattle.f3_elaboration.specs.Program.{elaborated}
use Rattle.f3_elaboration.specs.Units as units
use Rattle.f3_elaboration.specs.Units.{declaration_of, plain, surroundings}
use Rattle.f3_lawful_laws.specs.Entities.{units_of, whole_of}
use Rattle.f3_lawful_laws.proofs.Ascending.{units_ascend}
use Rattle.f3_lawful_laws.proofs.Facts.{nothing, same}
use Rattle.f3_lawful_laws.proofs.Numbered.{IsProcedure}
use Rattle.f3_lawful_laws.proofs.Numbering.{numbered_all}
use Rattle.f3_lawful_laws.proofs.Opening.{at_front, at_back}
use Rattle.f3_lawful_laws.proofs.Positions.{eq_same}
use Rattle.f3_lawful_laws.proofs.Trees.{all_lie}
use Rattle.f3_formed_laws.specs.Agreement.{kind_of as whole_kind, HasDummies}
use Rattle.f3_nodes.proofs.Members.{any_of, mapped_of, has_at}
use Rattle.f3_entity_laws.specs.Things.{of_member, number_of, Thing, name, type, procedure, result, associate, things_of, nature_of, IsHome, IsOf}
use Rattle.f3_entity_laws.proofs.Entities.{of_program, homes}
use Rattle.f3_entity_laws.proofs.Names.{thing_procedures}
use Rattle.f3_entity_laws.proofs.Natures.{natures}
use Rattle.f3_agreement_laws.specs.Unbroken.{IsUnbroken}
use Rattle.f3_agreement_laws.proofs.Declared.{each_get, contains_at, stands_again}
use Rattle.f3_kind_laws.specs.Laws.{SubroutinesHaveDummies, FunctionsHaveDummies, ResultsAreOwn}

-- ---- which things are procedures

abbrev tag : Nature → ℕ
tag (constant o) = 0
tag (variable o) = 1
tag (derived home ks f) = 2
tag (subroutine pure ds) = 3
tag (function pure ds o) = 4

abbrev dummies_or : List (ℕ × Dummy) → Nature → List (ℕ × Dummy)
dummies_or es (constant o) = es
dummies_or es (variable o) = es
dummies_or es (derived home ks f) = es
dummies_or es (subroutine pure ds) = ds
dummies_or es (function pure ds o) = ds

abbrev result_or : Object → Nature → Object
result_or x (constant o) = x
result_or x (variable o) = x
result_or x (derived home ks f) = x
result_or x (subroutine pure ds) = x
result_or x (function pure ds o) = o

object_low : (k : EntityKind) (o : Object) → tag (object_nature k o) < 2
object_low entity.Variable o = (let a : 1 < 2 = omega arith in a)
object_low entity.Constant o = (let a : 0 < 2 = omega arith in a)
object_low entity.DerivedType o = (let a : 1 < 2 = omega arith in a)
object_low entity.Subroutine o = (let a : 1 < 2 = omega arith in a)
object_low entity.Function o = (let a : 1 < 2 = omega arith in a)

kind_dummies : (es : List (ℕ × Dummy)) (pure : Bool) (ds : List (ℕ × Dummy)) (o : Object) (k : ProcedureKind) → dummies_or es (kind_nature pure ds o k) ≡ ds
kind_dummies es pure ds o Subroutine = refl
kind_dummies es pure ds o (Function s outcome) = refl

abbrev specified_dummies : Names → Member → List (ℕ × Dummy)
specified_dummies names m = map (dummy names m.scope (entries ((m.tree).part).specifications)) ((m.tree).header).dummies

abbrev specified_result : Names → Member → ProcedureKind → Object
specified_result names m k = result_object names m.scope (entries ((m.tree).part).specifications) (specifier_of k) (result_of k ((m.tree).header).name)

record IsProcedureOf (names : Names) (us : List Numbered) (g : Thing) (n : Nature) : Type 0 where
  unit : Numbered
  member : Member
  home : IsHome us (of_member unit member)
  is : g ≡ procedure unit member
  nature : n ≡ kind_nature ((member.tree).header).pure (specified_dummies names member) (specified_result names member ((member.tree).header).kind) ((member.tree).header).kind

thing_procedure : (names : Names) (us : List Numbered) (n : Nature) (g : Thing) (f : Bool) → 2 < tag n → IsOf us g → n ≡ nature_of names f g
    → IsProcedureOf names us g n
thing_procedure names us n (name h x) f high of is =
    let low = object_low (kind_of (x.0).attributes) (object_of names (number_of h) (x.0, x.1)) in
    let e : tag n ≡ tag (nature_of names f (name h x)) = ap tag is in
    absurd (omega (arith, low, high, e))
thing_procedure names us n (type h x) f high of is = absurd (let e : tag n ≡ 2 = ap tag is in omega (arith, high, e))
thing_procedure names us n (procedure u m) f high of is = record { unit = u; member = m; home = of; is = refl; nature = is }
thing_procedure names us n (result u m s) f high of is = absurd (let e : tag n ≡ 1 = ap tag is in omega (arith, high, e))
thing_procedure names us n (associate h k x) f high of is = absurd (let e : tag n ≡ 1 = ap tag is in omega (arith, high, e))

-- ---- the kinds of dummies

abbrev node_kind_of : DummyNode → Kind
node_kind_of n = n.kind

seen_kinds : (ds : List program.Dummy) → kinds_of ds ≡ map node_kind_of (map dummy_view ds)
seen_kinds [] = refl
seen_kinds (d ∷ ds) = ap (λ (l : List Kind). d.kind ∷ l) (seen_kinds ds)

module _ (w : Whole) (unit scope : ℕ) (inner : Inner) (home : ℕ) (m : Member) where
  abbrev here : Surroundings
  here = surroundings w unit scope inner

  node_kinds : (ns : List Name) → map node_kind_of (map (units.dummy w home m) ns)
      ≡ map (λ (d : ℕ × Dummy). whole_kind here (d.1).object) (map (dummy (w.scene).names m.scope (entries ((m.tree).part).specifications)) ns)
  node_kinds [] = refl
  node_kinds (n ∷ ns) = ap (λ (l : List Kind). node_kind_of (units.dummy w home m n) ∷ l) (node_kinds ns)

-- ---- the kind of a result

abbrev node_result : Option DeclaredNode → Kind → Kind
node_result None k = k
node_result (Some n) k = of_kind (n.kind).of (n.kind).rank

seen_result : (o : Option Declared) (n : DeclaredNode) → option_map declared_view o ≡ Some n → result_kind o ≡ of_kind (n.kind).of (n.kind).rank
seen_result None n e = nothing e
seen_result (Some d) n e = ap (λ (z : DeclaredNode). of_kind (z.kind).of (z.kind).rank) (same e)

abbrev IsOfFunction : ProcedureKind → Type 0
IsOfFunction Subroutine = ⊥
IsOfFunction (Function s outcome) = Unit {0}

kind_function : (k : ProcedureKind) (pure other : Bool) (ds es : List (ℕ × Dummy)) (o x : Object) → function pure ds o ≡ kind_nature other es x k → IsOfFunction k × (x ≡ o)
kind_function Subroutine pure other ds es o x is = absurd (let a : 4 ≡ 3 = ap tag is in omega (arith, a))
kind_function (Function s outcome) pure other ds es o x is = (tt, sym (ap (result_or x) is))

-- the elaborated result is of the kind that is specified
result_node : (w : Whole) (unit : ℕ) (m : Member) (k : ProcedureKind) → IsOfFunction k
    → (n : DeclaredNode) × (units.result_of w unit m k ≡ Some n) × (n.kind ≡ node_kind w.numbers (specified_result (w.scene).names m k))
result_node w unit m Subroutine f = absurd f
result_node w unit m (Function (Some s) outcome) f = (plain w _, refl, refl)
result_node w unit m (Function None outcome) f = (
  map_or (plain w undeclared) (declared w unit m.scope) (declaration_of m (name_or outcome ((m.tree).header).name)),
  refl,
  by (declaration_of m (name_or outcome ((m.tree).header).name)),
)
  where
    by : (o : Option declared_name) → (map_or (plain w undeclared) (declared w unit m.scope) o).kind ≡ node_kind w.numbers (map_or undeclared (object_of (w.scene).names m.scope) o)
    by None = refl
    by (Some x) = refl

-- ---- the procedures of a program

module _ (t : Tree) (look : ℕ → ℕ → Lookup) (order : List ℕ) (p : Program) (seen : program_view p ≡ elaborated t look order) where
  abbrev w : Whole
  w = whole_of t look order

  pub member_there : (u : Numbered) (m : Member) → IsHome (units_of t) (of_member u m) → IsProcedure p w u.scope m
  member_there u m home =
      let all : Each (λ (u : Numbered). Each (IsProcedure p w u.scope) u.members) (units_of t) =
      numbered_all p w (units_of t) refl (first_entity (scopes_of t) 0) (units_ascend (scopes_of t) 0 t.units (all_lie (scopes_of t)))
      (ap (λ (y : ProgramNode). y.procedures) seen) in
      each_get (IsProcedure p w u.scope) u.members (home.1).0 m
      (each_get (λ (u : Numbered). Each (IsProcedure p w u.scope) u.members) (units_of t) (home.0).0 u all (home.0).1) (home.1).1

  module _ (unit scope : ℕ) (inner : Inner) where
    abbrev s : Surroundings
    s = surroundings w unit scope inner

    procedure_is : (e : ℕ) (n : Nature) (ds : List (ℕ × Dummy)) → dummies_or [] n ≡ ds → (g : Thing) → slice_get (things_of (units_of t)) e ≡ Some g
        → (q : IsProcedureOf (names_of t look) (units_of t) g n)
        → (h : HasDummies p s e ds) × (option_map declared_view (h.procedure).result ≡ units.result_of w (q.unit).scope q.member (((q.member).tree).header).kind)
    procedure_is e n ds ds_is g there q =
        let k = member_there q.unit q.member q.home in
        let number : (q.member).entity ≡ e = thing_procedures t e q.unit q.member (there ∙ ap Some q.is) in
        let nodes : map dummy_view (k.procedure).dummies.items ≡ map (units.dummy w (q.unit).scope q.member) (((q.member).tree).header).dummies =
        ap (λ (y : ProcedureNode). y.dummies) k.is in
        let known : specified_dummies (names_of t look) q.member ≡ ds = sym (ap (dummies_or []) q.nature ∙ kind_dummies [] _ _ _ (((q.member).tree).header).kind) ∙ ds_is in (
          record {
            procedure = k.procedure;
            there = ap (λ j. slice_get p.procedures.items (number_in (w.numbers).procedures j)) (sym number) ∙ k.there;
            dummies =
                seen_kinds (k.procedure).dummies.items ∙ ap (map node_kind_of) nodes
                ∙ node_kinds w unit scope inner (q.unit).scope q.member (((q.member).tree).header).dummies
                ∙ ap (map (λ (d : ℕ × Dummy). whole_kind s (d.1).object)) known;
          },
          ap (λ (y : ProcedureNode). y.result) k.is,
        )

pub subroutines : SubroutinesHaveDummies
subroutines t look order p seen unit scope inner e pure ds there =
    let g = natures (names_of t look) (units_of t) e (subroutine pure ds) there in
    let q = thing_procedure (names_of t look) (units_of t) (subroutine pure ds) g.0 g.1 (let a : 2 < 3 = omega arith in a) (of_program t e g.0 g.2) g.3 in
    (procedure_is t look order p seen unit scope inner e (subroutine pure ds) ds refl g.0 g.2 q).0

pub functions : FunctionsHaveDummies
functions t look order p seen unit scope inner e pure ds o there =
    let g = natures (names_of t look) (units_of t) e (function pure ds o) there in
    let q = thing_procedure (names_of t look) (units_of t) (function pure ds o) g.0 g.1 (let a : 2 < 4 = omega arith in a) (of_program t e g.0 g.2) g.3 in
    let h = procedure_is t look order p seen unit scope inner e (function pure ds o) ds refl g.0 g.2 q in
    let k : ProcedureKind = (((q.member).tree).header).kind in
    let f = kind_function k pure _ ds _ o _ q.nature in
    let n = result_node (whole_of t look order) (q.unit).scope q.member k f.0 in (
      h.0,
      seen_result ((h.0).procedure).result n.0 (h.1 ∙ n.1) ∙ ap (λ (z : Kind). of_kind z.of z.rank) n.2
          ∙ ap (λ (z : Object). of_kind (base (surroundings (whole_of t look order) unit scope inner) z.data_type) z.rank) f.1,
    )

-- ---- results

-- N3: the name behind RESULT, or the function's own, is no dummy's
module _ (t : Tree) (look : ℕ → ℕ → Lookup) (order : List ℕ) (free : IsUnbroken t look order) (u : Numbered) (m : Member) (home : IsHome (units_of t) (of_member u m)) where
  abbrev own_scope : Scope
  own_scope = scope_of_procedure u.scope m.tree

  again : (j i : ℕ) (a b : Name) → slice_get (header_names own_scope) j ≡ Some a → slice_get (header_names own_scope) i ≡ Some b → j < i → a.symbol ≡ b.symbol → ⊥
  again j i a b x y lt e =
      free.scopes (at N3 b) (
        own_scope,
        contains_at (scopes_of t) m.scope own_scope (homes t (of_member u m) home),
        BreaksOf.declared_twice (DeclaredTwice.in_header b (stands_again (header_names own_scope) j i a b x y lt e) refl),
      )

  alone : (outcome : Option Name) → own_scope.outcome ≡ outcome → (i : ℕ) (n : Name) → slice_get own_scope.dummies i ≡ Some n → (name_or outcome own_scope.name).symbol ≡ n.symbol → ⊥
  alone None is i n there alike =
      again 0 (suc i) own_scope.name n refl (at_front own_scope.dummies (option_to_list own_scope.outcome) i n there) (let a : 0 < suc i = omega arith in a) alike
  alone (Some r) is i n there alike =
      let within = slice_get_within own_scope.dummies i n there in
      again (suc i) (suc (length own_scope.dummies + 0)) n r (at_front own_scope.dummies (option_to_list own_scope.outcome) i n there)
      (at_back own_scope.dummies (option_to_list own_scope.outcome) 0 r (ap (λ o. slice_get (option_to_list o) 0) is))
      (let a : suc i < suc (length own_scope.dummies + 0) = omega (arith, within) in a) (sym alike)

  never : (n : Name) → ((i : ℕ) (d : Name) → slice_get own_scope.dummies i ≡ Some d → n.symbol ≡ d.symbol → ⊥)
      → list_any (nat_eq n.symbol) (map (λ (d : Name). d.symbol) own_scope.dummies) ≡ false
  never n none = go (list_any (nat_eq n.symbol) (map (λ (d : Name). d.symbol) own_scope.dummies)) refl
    where
      go : (b : Bool) → list_any (nat_eq n.symbol) (map (λ (d : Name). d.symbol) own_scope.dummies) ≡ b → b ≡ false
      go false is = refl
      go true is =
          let (z, has_z, is_z) = any_of (nat_eq n.symbol) (map (λ (d : Name). d.symbol) own_scope.dummies) is in
          let (d, has_d, d_is) = mapped_of (λ (d : Name). d.symbol) own_scope.dummies z has_z in
          let at = has_at own_scope.dummies d has_d in
          absurd (none at.0 d at.1 (eq_same n.symbol z is_z ∙ d_is))

  by : (k : ProcedureKind) → ((m.tree).header).kind ≡ k → Each (λ (n : Name). list_any (nat_eq n.symbol) (map (λ (d : Name). d.symbol) ((m.tree).header).dummies) ≡ false)
      (map_or [] (λ (n : Name). n ∷ []) (result_of k ((m.tree).header).name))
  by Subroutine is = tt
  by (Function s outcome) is = (never (name_or outcome own_scope.name) (λ i d there e. alone outcome (ap outcome_of is) i d there e), tt)

pub own_results : ResultsAreOwn
own_results t look order free u m home = by t look order free u m home ((m.tree).header).kind refl
