-- Where a pure procedure begins, none but its own variables may be defined.
use Rattle.std.proofs.Common.{◌≡◌, refl, sym, ap, subst, ◌∙◌, inl, inr, ℕ, zero, suc, Bool, true, false, ◌&&◌, ◌||◌, not, List, [], ◌∷◌, position, nat_eq, map, filter, Option, None, Some, option_map, slice_get, arith, if◌then◌else◌}
use Rattle.std.specs.Prelude.{◌==◌}
use Rattle.std.specs.List.{flat_map}
use Rattle.f3_lookups.specs.declared.lookup.Lookup.{Lookup}
use Rattle.f3_lookups.specs.declared.lookup.Lookup.TheVariants.{One}
use Rattle.f3_nodes.proofs.Members.{Has, has_parts, piece_of, at_has}
use Rattle.f3_scopes.specs.declared.outline.ScopeKind.{ScopeKind}
use Rattle.f3_scopes.specs.declared.outline.ScopeKind.TheVariants as scope
use Rattle.f3_scopes.specs.Outlines.{Scope as Outline}
use Rattle.f3_scopes.specs.Scopes.{procedure_kind, scopes_of, unit_kind}
use Rattle.f3_tree.specs.declared.program.ProcedureKind.{ProcedureKind}
use Rattle.f3_tree.specs.declared.program.ProcedureKind.TheVariants.{Subroutine, Function}
use Rattle.f3_tree.specs.declared.program.UnitKind.{UnitKind}
use Rattle.f3_tree.specs.declared.program.UnitKind.TheVariants as unit
use Rattle.f3_tree.specs.Declarations.{parameter, save, EntityTree, DeclarationTree, declares}
use Rattle.f3_tree.specs.Tree.{Tree}
use Rattle.f3_access.specs.Access.{IsDeclared}
use Rattle.f3_program.specs.declared.expression.Name.{Name}
use Rattle.f3_program.specs.declared.expression.Name.TheVariants.{Static, Local, Lent}
use Rattle.f3_program.specs.declared.program.Static as program
use Rattle.f3_program.specs.declared.program.Program.{Program}
use Rattle.f3_kinds.specs.declared.said.Said.{Said}
use Rattle.f3_kinds.specs.declared.types.Object.{Object}
use Rattle.f3_kinds.specs.Things.{variable, look_here}
use Rattle.f3_meaning_whole.specs.Act.{static_type}
use Rattle.f3_meaning_whole.specs.Permitted.{Scope, name_of}
use Rattle.f3_type_rules.specs.declared.definition.Holder.{Holder}
use Rattle.f3_type_rules.specs.Definitions.{Site}
use Rattle.f3_type_rules.specs.Members.{Member, Numbered}
use Rattle.f3_type_rules.specs.Names.{Declared, is_given}
use Rattle.f3_type_rules.specs.Attributes.{has}
use Rattle.f3_type_rules.specs.Declarations.{spot_of}
use Rattle.f3_type_rules.specs.Scene.{holders_from, site_in}
use Rattle.f3_elaboration.specs.Context.{Surroundings}
use Rattle.f3_elaboration.specs.Declarations.{Whole}
use Rattle.f3_elaboration.specs.Numbers.{Variable, is_variable, is_saved, is_static_in, unit_names, unit_statics, member_names, name_by, number_in, numbers_in_member}
use Rattle.f3_elaboration.specs.Units.{in_member}
use Rattle.f3_lawful_laws.specs.Agreement.{Agrees, Allows, lend_rows}
use Rattle.f3_lawful_laws.specs.Entities.{units_of, whole_of, AreAlike}
use Rattle.f3_lawful_laws.proofs.Facts.{no, same, holds, first, left, right, when_false}
use Rattle.f3_lawful_laws.proofs.Opening.{from_mapped}
use Rattle.f3_lawful_laws.proofs.Positions.{eq_same}
use Rattle.f3_entity_laws.specs.Laws.{names_at}
use Rattle.f3_entity_laws.specs.Things.{Home, of_unit, of_member, number_of, scope_at, Thing, name, result, things_of, symbol_of, IsAmong, IsHome}
use Rattle.f3_entity_laws.proofs.Entities.{of_program, homes, declared, holders_of}
use Rattle.f3_entity_laws.proofs.Names.{tag, tree_or, home_or, name_things, result_things}
use Rattle.f3_variable_laws.proofs.Lists.{among_of, kept, placed}
use Rattle.f3_variable_laws.proofs.Natures.{natures}
use Rattle.f3_variable_laws.proofs.Owned.{member_variable}
use Rattle.f3_variable_laws.proofs.Statics.{static_entities}
use Rattle.f3_purity_laws.specs.Barring.{barred, barring}
use Rattle.f3_purity_laws.specs.Guarded as guarded
use Rattle.f3_purity_laws.specs.Guarded.{guard, asking}

-- ---- what is asked of holders

never_protected : (unit : ℕ) → (not true || (suc unit == unit)) ≡ true → ⊥
never_protected unit h = let e : suc unit ≡ unit = eq_same (suc unit) unit h in omega (arith, e)

-- what a guarded variable is asked
guard_cases : (site : Site) (x : Said) (h : Holder) → lend_rows site x (Some (guard site h)) ≡ [] → guard site h ≡ h
guard_cases site x h rows = go (site.is_pure && not (h.scope == site.body)) rows
  where
    go : (b : Bool) → lend_rows site x (Some (if b then guarded.barred (site.context).unit h else h)) ≡ [] → (if b then guarded.barred (site.context).unit h else h) ≡ h
    go true rows = absurd (never_protected (site.context).unit (holds _ _ (first _ _ rows)))
    go false rows = refl

-- in a pure procedure it is its own
guard_own : (site : Site) (x : Said) (h : Holder) → site.is_pure ≡ true → lend_rows site x (Some (guard site h)) ≡ [] → (h.scope == site.body) ≡ true
guard_own site x h pure rows = go site.is_pure (h.scope == site.body) pure rows
  where
    go : (a b : Bool) → a ≡ true → lend_rows site x (Some (if a && not b then guarded.barred (site.context).unit h else h)) ≡ [] → b ≡ true
    go true true p rows = refl
    go true false p rows = absurd (never_protected (site.context).unit (holds _ _ (first _ _ rows)))
    go false b p rows = no (sym p)

-- ---- constructs

abbrev pub is_associate : ScopeKind → Bool
is_associate scope.Associate = true
is_associate scope.Module = false
is_associate scope.Program = false
is_associate scope.Subroutine = false
is_associate scope.Function = false

-- the scope of this number is that of a construct
abbrev pub is_construct : Option Outline → Bool
is_construct None = false
is_construct (Some s) = is_associate s.kind

unit_no : (k : UnitKind) → is_associate (unit_kind k) ≡ false
unit_no unit.Module = refl
unit_no unit.Program = refl

procedure_no : (k : ProcedureKind) → is_associate (procedure_kind k) ≡ false
procedure_no Subroutine = refl
procedure_no (Function s outcome) = refl

home_no : (h : Home) → is_construct (Some (scope_at h)) ≡ false
home_no (of_unit u) = unit_no (u.tree).kind
home_no (of_member u m) = procedure_no ((m.tree).header).kind

-- associate names are as they are
abbrev pub guard_outside : List Outline → Site → Holder → Holder
guard_outside scopes site h = if is_construct (slice_get scopes h.scope) then h else guard site h

abbrev pub held_outside : List Outline → Site → ℕ → Option Holder
held_outside scopes site l = option_map (guard_outside scopes site) (slice_get (holders_from 0 scopes) l)

outside_free : (scopes : List Outline) (site : Site) (x : Said) (o : Option Holder) → lend_rows site x (option_map (guard site) o) ≡ []
    → lend_rows site x (option_map (guard_outside scopes site) o) ≡ []
outside_free scopes site x None rows = rows
outside_free scopes site x (Some h) rows = go (is_construct (slice_get scopes h.scope))
  where
    go : (b : Bool) → lend_rows site x (Some (if b then h else guard site h)) ≡ []
    go true = ap (λ h. lend_rows site x (Some h)) (sym (guard_cases site x h rows)) ∙ rows
    go false = rows

-- ---- variables that live for the whole run

abbrev is_static : Variable → Bool
is_static v = is_variable v && is_saved v

abbrev member_statics : Numbered → Member → List Variable
member_statics u m = filter is_static (member_names u.scope m)

varies : (k : UnitKind) (v : Variable) → is_static_in k v ≡ true → is_variable v ≡ true
varies unit.Module v is = is
varies unit.Program v is = left (is_variable v) (is_saved v) is

abbrev IsSavedIn : Home → Variable → Type 0
IsSavedIn (of_unit u) v = Unit {0}
IsSavedIn (of_member u m) v = is_saved v ≡ true

record IsStatic (us : List Numbered) (v : Variable) : Type 0 where
  home : Home
  is_home : IsHome us home
  among : IsAmong (names_at home) v
  varies_is : is_variable v ≡ true
  saved : IsSavedIn home v

static_home : (us : List Numbered) (v : Variable) → Has (flat_map unit_statics us) v → IsStatic us v
static_home us v h =
    let (u, has_u, in_u) = piece_of unit_statics us v h in
    elim (has_parts (filter (is_static_in (u.tree).kind) (unit_names u)) (flat_map (member_statics u) u.members) v in_u) [
      | inl here ↦
          let k = kept (is_static_in (u.tree).kind) (unit_names u) v here in
          record { home = of_unit u; is_home = among_of us u has_u; among = among_of (unit_names u) v k.0; varies_is = varies (u.tree).kind v k.1; saved = tt }
      | inr there ↦
          let (m, has_m, in_m) = piece_of (member_statics u) u.members v there in
          let k = kept is_static (member_names u.scope m) v in_m in
          record {
            home = of_member u m;
            is_home = (among_of us u has_u, among_of u.members m has_m);
            among = among_of (member_names u.scope m) v k.0;
            varies_is = left (is_variable v) (is_saved v) k.1;
            saved = right (is_variable v) (is_saved v) k.1;
          }
    ]

module _ (t : Tree) (look : ℕ → ℕ → Lookup) (u : Numbered) (m : Member) (home : IsHome (units_of t) (of_member u m))
    (unsaved : (d : DeclarationTree) (x : EntityTree) → IsAmong ((m.tree).part).specifications (declares d) → IsAmong d.entities x
    → not (has parameter d) ≡ true → (has save d || is_given x.initial) ≡ false) where
  -- where the name of a variable that lives for the whole run stands
  record IsLasting (e : ℕ) : Type 0 where
    variable_is : Variable
    static : IsStatic (units_of t) variable_is
    there : slice_get (things_of (units_of t)) e ≡ Some (name static.home variable_is.tree)

  lasting : (e i : ℕ) → position (nat_eq e) (static_entities (units_of t)) ≡ Some i → IsLasting e
  lasting e i found =
      let (v, at_v, entity_is) = from_mapped (λ (v : Variable). v.entity) (flat_map unit_statics (units_of t)) i e (placed (static_entities (units_of t)) e i found) in
      let s = static_home (units_of t) v (at_has (flat_map unit_statics (units_of t)) i v at_v) in
      record {
        variable_is = v;
        static = s;
        there = ap (slice_get (things_of (units_of t))) (sym entity_is) ∙ (name_things t s.home v s.is_home s.among).1;
      }

  -- it is no name of this procedure
  not_saved : (e : ℕ) (l : IsLasting e) (v : Variable) → IsAmong (member_names u.scope m) v → v.entity ≡ e → is_variable v ≡ true → ⊥
  not_saved e l v among entity_is varies =
      let here : slice_get (things_of (units_of t)) e ≡ Some (name (of_member u m) v.tree) =
      ap (slice_get (things_of (units_of t))) (sym entity_is) ∙ (name_things t (of_member u m) v home among).1 in
      let things : name (of_member u m) v.tree ≡ name (l.static).home (l.variable_is).tree = same (sym here ∙ l.there) in
      let tree : v.tree ≡ (l.variable_is).tree = ap (tree_or v.tree) things in
      let saved : is_saved l.variable_is ≡ true = subst (λ h. IsSavedIn h l.variable_is) (sym (ap (home_or (of_unit u)) things)) (l.static).saved in
      let of = of_program t e (name (of_member u m) v.tree) here in
      no (sym saved ∙ ap (λ (x : Declared). has save x.0 || is_given (x.1).initial) (sym tree) ∙ unsaved (v.tree).0 (v.tree).1 of.1 of.2 varies)

  -- so this procedure does not declare it
  not_own : (e i : ℕ) (o : Object) (k : Holder) → slice_get (natures t look) e ≡ Some (variable o) → position (nat_eq e) (static_entities (units_of t)) ≡ Some i
      → slice_get (holders_from 0 (scopes_of t)) e ≡ Some k → k.scope ≡ m.scope → ⊥
  not_own e i o k nature found asked own =
      let l = lasting e i found in
      let g : Thing = name (l.static).home (l.variable_is).tree in
      let (held, at_held, held_is) = holders_of t e g l.there in
      let number : number_of (l.static).home ≡ m.scope = sym (ap (λ (k : Holder). k.scope) held_is) ∙ ap (λ (k : Holder). k.scope) (same (sym at_held ∙ asked)) ∙ own in
      let declared_here : IsDeclared (scopes_of t) m.scope (symbol_of g) e = subst (λ n. IsDeclared (scopes_of t) n (symbol_of g) e) number (declared t e g l.there) in
      elim (member_variable t look u m (symbol_of g) e o home declared_here nature) [
        | inl typed ↦
            let there = result_things t u m typed.specifier home typed.is in
            let both : result u m typed.specifier ≡ g = same (sym there ∙ ap (slice_get (things_of (units_of t))) typed.first ∙ l.there) in
            (let z : 3 ≡ 0 = ap tag both in absurd (omega (arith, z)))
        | inr named ↦ not_saved e l named.declared named.among named.entity_is named.varies
      ]

  -- ---- a definition of it breaks a rule

  never_lasting : (site : Site) (x : Said) (e i : ℕ) (o : Object) → site.body ≡ m.scope → site.is_pure ≡ true → slice_get (natures t look) e ≡ Some (variable o)
      → position (nat_eq e) (static_entities (units_of t)) ≡ Some i → lend_rows site x (held_outside (scopes_of t) site e) ≡ [] → ⊥
  never_lasting site x e i o body pure nature found rows =
      let l = lasting e i found in
      let g : Thing = name (l.static).home (l.variable_is).tree in
      let (k, asked, held_is) = holders_of t e g l.there in
      let outside : is_construct (slice_get (scopes_of t) k.scope) ≡ false =
      ap (λ (k : Holder). is_construct (slice_get (scopes_of t) k.scope)) held_is ∙ ap is_construct (homes t (l.static).home (l.static).is_home) ∙ home_no (l.static).home in
      let guards : held_outside (scopes_of t) site e ≡ Some (guard site k) =
      ap (option_map (guard_outside (scopes_of t) site)) asked ∙ ap Some (when_false (is_construct (slice_get (scopes_of t) k.scope)) k (guard site k) outside) in
      let own = guard_own site x k pure (ap (lend_rows site x) (sym guards) ∙ rows) in
      not_own e i o k nature found asked (eq_same k.scope site.body own ∙ body)

-- ---- the program in which no variable that lives for the whole run may be defined

barred_type : (unit : ℕ) (ys : List program.Static) (i : ℕ) → static_type (slice_get (map (barred unit) ys) i) ≡ static_type (slice_get ys i)
barred_type unit [] i = refl
barred_type unit (y ∷ ys) zero = refl
barred_type unit (y ∷ ys) (suc i) = barred_type unit ys i

same_type : (p : Program) (scope : Scope) (n : Name) → (name_of (barring scope.unit p) scope n).of ≡ (name_of p scope n).of
same_type p scope (Static i) = barred_type scope.unit p.statics.items i
same_type p scope (Local i) = refl
same_type p scope (Lent i) = refl

-- its entities are the same
pub barred_agrees : (p : Program) (scope : Scope) (s : Surroundings) → Agrees p scope s → Agrees (barring scope.unit p) scope s
barred_agrees p scope s h = record {
  unit = h.unit;
  known = h.known;
  types = λ e home ks f at. let r = h.types e home ks f at in record { type = r.type; there = r.there; at_home = r.at_home; components = r.components };
  subroutines = h.subroutines;
  functions = h.functions;
  variables = λ symbol e o looked nature. same_type p scope (s.object e) ∙ h.variables symbol e o looked nature;
}

outside_back : (scopes : List Outline) (site : Site) (x : Said) (o : Option Holder) → lend_rows site x (option_map (guard_outside scopes site) o) ≡ [] → lend_rows site x o ≡ []
outside_back scopes site x None rows = rows
outside_back scopes site x (Some h) rows = go (is_construct (slice_get scopes h.scope)) rows
  where
    go : (b : Bool) → lend_rows site x (Some (if b then h else guard site h)) ≡ [] → lend_rows site x (Some h) ≡ []
    go true rows = rows
    go false rows = ap (λ h. lend_rows site x (Some h)) (sym (guard_cases site x h rows)) ∙ rows

module _ (t : Tree) (look : ℕ → ℕ → Lookup) (order : List ℕ) (p : Program) (u : Numbered) (m : Member) (home : IsHome (units_of t) (of_member u m))
    (unsaved : (d : DeclarationTree) (x : EntityTree) → IsAmong ((m.tree).part).specifications (declares d) → IsAmong d.entities x
    → not (has parameter d) ≡ true → (has save d || is_given x.initial) ≡ false) where
  abbrev w : Whole
  w = whole_of t look order

  abbrev s : Surroundings
  s = in_member w u.scope m

  abbrev site : Site
  site = site_in w.scene u.scope m.scope (spot_of w.scene u.scope m).is_pure w.values

  abbrev pub held : ℕ → Option Holder
  held = held_outside (scopes_of t) site

  abbrev pub guarded_site : Site
  guarded_site = asking (λ e. option_map (guard site) (site.holder e)) site

  module _ (pure : site.is_pure ≡ true) (scope : Scope) (alike : AreAlike p w scope s site) where
    may_define : (symbol e : ℕ) (o : Object) (x : Said) → look_here s.context symbol ≡ One e → (s.context).nature e ≡ Some (variable o)
        → lend_rows site x (held e) ≡ [] → (name_of (barring scope.unit p) scope (s.object e)).may_define ≡ true
    may_define symbol e o x looked nature rows =
        go (position (nat_eq e) (w.numbers).statics) (position (nat_eq e) (numbers_in_member look u.scope m).variables) refl
        (alike.defines symbol e o x looked nature (outside_back (scopes_of t) site x (slice_get (holders_from 0 (scopes_of t)) e) rows))
      where
        go : (a b : Option ℕ) → position (nat_eq e) (static_entities (units_of t)) ≡ a
            → (name_of p scope (name_by a b (number_in (numbers_in_member look u.scope m).lent e))).may_define ≡ true
            → (name_of (barring scope.unit p) scope (name_by a b (number_in (numbers_in_member look u.scope m).lent e))).may_define ≡ true
        go (Some i) b found may = absurd (never_lasting t look u m home unsaved site x e i o refl pure nature found rows)
        go None (Some j) found may = refl
        go None None found may = may

    pub barred_allows : Allows (barring scope.unit p) scope s guarded_site held
    barred_allows = record {
      here = refl;
      holders = λ x l rows. outside_free (scopes_of t) site x (slice_get (holders_from 0 (scopes_of t)) l) rows;
      defines = λ symbol e o x looked nature ends rows. may_define symbol e o x looked nature (first _ _ rows);
    }
