-- What the rules on types know where a statement stands, and what its elaborated program says there, are of the same entities.
use Rattle.std.specs.Prelude.{◌≡◌, ⊤, ℕ, ◌<◌, Bool, true, false, List, [], ◌∷◌, ◌++◌, length, Option, Some, map, slice_get}
use Rattle.std.specs.List.{flat_map}
use Rattle.f3_lookups.specs.declared.lookup.Lookup.TheVariants.{One}
use Rattle.f3_rules.specs.declared.breaks.Break.{Break}
use Rattle.f3_program.specs.declared.declarations.Derived.{Derived}
use Rattle.f3_program.specs.declared.declarations.Component as program
use Rattle.f3_program.specs.declared.expression.Name.{Name}
use Rattle.f3_program.specs.declared.expression.Name.TheVariants.{Static, Local, Lent}
use Rattle.f3_program.specs.declared.program.Program.{Program}
use Rattle.f3_kinds.specs.declared.said.Said.{Said}
use Rattle.f3_kinds.specs.declared.things.Component.{Component}
use Rattle.f3_kinds.specs.declared.things.Dummy.{Dummy}
use Rattle.f3_kinds.specs.declared.types.Object.{Object}
use Rattle.f3_kinds.specs.Rows.{is_known}
use Rattle.f3_kinds.specs.Things.{map_or, Nature, constant, variable, derived, subroutine, function, Context, look_here}
use Rattle.f3_meaning_whole.specs.Permitted.{Lendable, Scope, names_in, name_of}
use Rattle.f3_type_rules.specs.declared.definition.Holder.{Holder}
use Rattle.f3_type_rules.specs.Definitions.{Site, is_defining, protected_rows, intent_rows}
use Rattle.f3_elaboration.specs.Context.{Surroundings, base}

-- ---- every type that is declared is known

abbrev pub KnowsComponents : List (ℕ × Component) → Type 0
KnowsComponents [] = ⊤
KnowsComponents (k ∷ ks) = (is_known ((k.1).object).data_type ≡ true) × KnowsComponents ks

abbrev pub KnowsDummies : List (ℕ × Dummy) → Type 0
KnowsDummies [] = ⊤
KnowsDummies (d ∷ ds) = (is_known ((d.1).object).data_type ≡ true) × KnowsDummies ds

abbrev pub IsKnown : Nature → Type 0
IsKnown (constant o) = is_known o.data_type ≡ true
IsKnown (variable o) = ⊤
IsKnown (derived home ks f) = KnowsComponents ks
IsKnown (subroutine pure ds) = KnowsDummies ds
IsKnown (function pure ds o) = KnowsDummies ds × (is_known o.data_type ≡ true)

-- of a variable where it is visible: what an associate name is, is known inside its construct alone
pub record Knows (c : Context) : Type 0 where
  pub natures : (e : ℕ) (n : Nature) → c.nature e ≡ Some n → IsKnown n
  pub variables : (symbol e : ℕ) (o : Object) → look_here c symbol ≡ One e → c.nature e ≡ Some (variable o) → is_known o.data_type ≡ true

-- ---- types, dummies and variables

abbrev pub AreComponents : Surroundings → List program.Component → List (ℕ × Component) → Type 0
AreComponents s [] [] = ⊤
AreComponents s [] (k ∷ ks) = ⊥
AreComponents s (x ∷ xs) [] = ⊥
AreComponents s (x ∷ xs) (k ∷ ks) =
    (((x.declared).kind).of ≡ base s ((k.1).object).data_type) × (x.is_private ≡ (k.1).is_private) × AreComponents s xs ks

-- the type that is this entity, of a module and with components
pub record IsType (p : Program) (s : Surroundings) (e home : ℕ) (ks : List (ℕ × Component)) : Type 0 where
  pub type : Derived
  pub there : slice_get p.types.items (s.type e) ≡ Some type
  pub at_home : type.home ≡ home
  pub components : AreComponents s type.components.items ks

-- a dummy, with whether it may be defined and its type
abbrev pub lent : Surroundings → ℕ × Dummy → Lendable
lent s d = record { may_define = is_defining (Some d.1); of = base s ((d.1).object).data_type }

-- no dummy of a function may be defined
abbrev pub AreGiven : List (ℕ × Dummy) → Type 0
AreGiven [] = ⊤
AreGiven (d ∷ ds) = (is_defining (Some d.1) ≡ false) × AreGiven ds

-- the names of a place mean entities with the types that the program has
pub record Agrees (p : Program) (scope : Scope) (s : Surroundings) : Type 0 where
  pub unit : (s.context).unit ≡ scope.unit
  pub known : Knows s.context
  pub types : (e home : ℕ) (ks : List (ℕ × Component)) (f : Bool) → (s.context).nature e ≡ Some (derived home ks f) → IsType p s e home ks
  pub subroutines : (e : ℕ) (pure : Bool) (ds : List (ℕ × Dummy)) → (s.context).nature e ≡ Some (subroutine pure ds)
      → names_in p (s.procedure e) ≡ map (lent s) ds
  pub functions : (e : ℕ) (pure : Bool) (ds : List (ℕ × Dummy)) (o : Object) → (s.context).nature e ≡ Some (function pure ds o)
      → (names_in p (s.procedure e) ≡ map (lent s) ds) × AreGiven ds
  pub variables : (symbol e : ℕ) (o : Object) → look_here s.context symbol ≡ One e → (s.context).nature e ≡ Some (variable o)
      → (name_of p scope (s.object e)).of ≡ base s o.data_type

-- ---- definitions

-- what is asked of a link of a chain: D1 and D2
abbrev pub lend_rows : Site → Said → Option Holder → List Break
lend_rows site x o = map_or [] (λ (h : Holder). protected_rows site x h ++ intent_rows x h) o

-- Where no rule forbids the definition of a variable it is one that may be defined. What is asked of a declared variable is told by a
-- function that is the same in all scopes of a body.
pub record Allows (p : Program) (scope : Scope) (s : Surroundings) (site : Site) (held : ℕ → Option Holder) : Type 0 where
  pub here : site.context ≡ s.context
  pub holders : (x : Said) (l : ℕ) → lend_rows site x (site.holder l) ≡ [] → lend_rows site x (held l) ≡ []
  pub defines : (symbol e : ℕ) (o : Object) (x : Said) → look_here s.context symbol ≡ One e → (s.context).nature e ≡ Some (variable o)
      → (site.chain e).ends ≡ true → flat_map (λ l. lend_rows site x (held l)) (site.chain e).links ≡ []
      → (name_of p scope (s.object e)).may_define ≡ true

-- ---- what is lent

abbrev pub IsWithin : (count : ℕ) → Name → Type 0
IsWithin count (Lent i) = i < count
IsWithin count (Static i) = ⊤
IsWithin count (Local i) = ⊤

-- as many objects are lent as names are known, and each name that is lent is one of them
pub record Lends (scope : Scope) (s : Surroundings) : Type 0 where
  pub count : s.lent ≡ length scope.names
  pub within : (symbol e : ℕ) (o : Object) → look_here s.context symbol ≡ One e → (s.context).nature e ≡ Some (variable o)
      → IsWithin s.lent (s.object e)
