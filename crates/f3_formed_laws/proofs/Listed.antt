-- Variables, components and results as they are listed for the elaborated program make sense as they are declared.
use Rattle.std.proofs.Common.{◌≡◌, ℕ, ◌+◌, ◌<◌, Bool, true, false, cond, ◌&&◌, ◌||◌, not, List, [], ◌∷◌, ◌++◌, length, map, filter, nat_eq, Option, Some, None, refl, sym, ap, ◌∙◌}
use Rattle.std.specs.Prelude.{⊤, slice_get}
use Rattle.std.specs.List.{flat_map, list_any}
use Rattle.std.specs.Map.{lookup}
use mathlib.Core.Path.{subst}
use Rattle.f3_scopes.specs.Scopes.{declared_in, name_or}
use Rattle.f3_scopes.specs.Scopes as Scopes
use Rattle.f3_scopes.specs.declared.outline.EntityKind.TheVariants.{DerivedType}
use Rattle.f3_tree.specs.declared.expression.Name.{Name}
use Rattle.f3_tree.specs.declared.program.ProcedureKind.{ProcedureKind}
use Rattle.f3_tree.specs.declared.declaration.TypeSpecifier.{TypeSpecifier}
use Rattle.f3_tree.specs.declared.program.ProcedureKind.TheVariants.{Subroutine, Function}
use Rattle.f3_tree.specs.Declarations as t
use Rattle.f3_tree.specs.Declarations.{EntityTree, DeclarationTree, SpecificationTree, declares, accesses, protects, saves, defines}
use Rattle.f3_kinds.specs.Things.{map_or}
use Rattle.f3_meaning_whole.specs.Permitted.{Each}
use Rattle.f3_meaning_whole.specs.Formed.{is_before}
use Rattle.f3_type_rules.specs.Attributes.{has, conflicts}
use Rattle.f3_type_rules.specs.Declarations.{spot_of, unit_spot, within_member}
use Rattle.f3_type_rules.specs.Members.{Member, Numbered}
use Rattle.f3_type_rules.specs.Names.{Declared, entries, is_given, object_of, type_of, undeclared}
use Rattle.f3_type_rules.specs.Program.{nothing_known}
use Rattle.f3_type_rules.specs.Scene.{Scene}
use Rattle.f3_type_rules.specs.Walks.{Spot, is_among}
use Rattle.f3_elaboration.specs.Nodes.{DeclaredNode, ComponentNode, DummyNode}
use Rattle.f3_elaboration.specs.Declarations.{Whole, declared, variable, component, components}
use Rattle.f3_elaboration.specs.Numbers.{Variable, Definition, along_part, names_in, types_in, declared_from, unit_names, member_names, definitions, is_variable, is_saved}
use Rattle.f3_elaboration.specs.Numbers.{is_static_in, unit_statics, main_locals, member_locals, is_in_header, result_name, number_in, base_of}
use Rattle.f3_elaboration.specs.Units.{declarations_in, declaration_of, result_of, plain, dummy}
use Rattle.f3_lawful_laws.proofs.Facts.{no, nothing, same, both, right, otherwise, negated_back}
use Rattle.f3_lawful_laws.proofs.Positions.{eq_same}
use Rattle.f3_formed_laws.specs.Nodes.{is_declared}
use Rattle.f3_formed_laws.specs.Entities.{HasOwnResult, IsBelow, StandsBehind}
use Rattle.f3_formed_laws.proofs.Facts.{neither, each_joined, each_so, each_taken, each_flat}
use Rattle.f3_formed_laws.proofs.Right.{in_type, AreRight, IsRight, IsMemberRight, IsUnitRight}
use Rattle.f3_formed_laws.proofs.Declared.{Stands, stands, typed_before, named_type, declared_is}

-- ---- declared names with their entities

-- what is declared in a part that breaks no rule
abbrev StandsIn : Spot → Variable → Type 0
StandsIn s v = Stands s v.tree

from_right : (s : Spot) (u sc e : ℕ) (d : DeclarationTree) (xs : List EntityTree) → Each (λ (x : EntityTree). conflicts s (d, x) ≡ false) xs
    → Each (StandsIn s) (declared_from u sc e d xs)
from_right s u sc e d [] h = tt
from_right s u sc e d (x ∷ xs) h = (stands s (d, x) h.0, from_right s u sc (e + 1) d xs h.1)

part_right : (s : Spot) (u sc e : ℕ) (ss : List SpecificationTree) → Each (IsRight s) ss → Each (StandsIn s) (along_part (names_in u sc) e ss)
part_right s u sc e [] h = tt
part_right s u sc e (x ∷ ss) h =
    each_joined (StandsIn s) (names_in u sc e x) (along_part (names_in u sc) (e + length (declared_in x)) ss) (one x h.0)
    (part_right s u sc (e + length (declared_in x)) ss h.1)
  where
    one : (x : SpecificationTree) → IsRight s x → Each (StandsIn s) (names_in u sc e x)
    one (declares d) h = from_right s u sc e d d.entities h
    one (defines d) h = tt
    one (accesses a) h = tt
    one (protects q ns) h = tt
    one (saves q) h = tt

-- a name behind a key
pub record Entry (s : Spot) (symbol : ℕ) (x : Declared) : Type 0 where
  pub stands_there : Stands s x
  pub named : ((x.1).name).symbol ≡ symbol

entry_in : (s : Spot) (symbol : ℕ) (d : DeclarationTree) (xs : List EntityTree) (x : Declared) → Each (λ (x : EntityTree). conflicts s (d, x) ≡ false) xs → (others : List (ℕ × Declared))
    → (lookup (nat_eq symbol) others ≡ Some x → Entry s symbol x)
    → lookup (nat_eq symbol) (map (λ (x : EntityTree). ((x.name).symbol, (d, x))) xs ++ others) ≡ Some x → Entry s symbol x
entry_in s symbol d [] x h others go e = go e
entry_in s symbol d (y ∷ ys) x h others go e = here (nat_eq symbol (y.name).symbol) refl e (entry_in s symbol d ys x h.1 others go)
  where
    here : (b : Bool) → nat_eq symbol (y.name).symbol ≡ b
        → cond b (Some (d, y)) (lookup (nat_eq symbol) (map (λ (x : EntityTree). ((x.name).symbol, (d, x))) ys ++ others)) ≡ Some x
        → (lookup (nat_eq symbol) (map (λ (x : EntityTree). ((x.name).symbol, (d, x))) ys ++ others) ≡ Some x → Entry s symbol x) → Entry s symbol x
    here true q e more = subst (Entry s symbol) (same e) record { stands_there = stands s (d, y) h.0; named = sym (eq_same symbol (y.name).symbol q) }
    here false q e more = more e

pub entry_at : (s : Spot) (symbol : ℕ) (ss : List SpecificationTree) (x : Declared) → Each (IsRight s) ss → lookup (nat_eq symbol) (entries ss) ≡ Some x → Entry s symbol x
entry_at s symbol [] x h e = nothing e
entry_at s symbol (declares d ∷ ss) x h e = entry_in s symbol d d.entities x h.0 (entries ss) (entry_at s symbol ss x h.1) e
entry_at s symbol (defines d ∷ ss) x h e = entry_at s symbol ss x h.1 e
entry_at s symbol (accesses a ∷ ss) x h e = entry_at s symbol ss x h.1 e
entry_at s symbol (protects q ns ∷ ss) x h e = entry_at s symbol ss x h.1 e
entry_at s symbol (saves q ∷ ss) x h e = entry_at s symbol ss x h.1 e

module _ (w : Whole) (n : ℕ) (types : (e : ℕ) → slice_get ((w.scene).names).kinds e ≡ Some DerivedType → number_in (w.numbers).types e < n) where
  abbrev IsListed : Variable → Type 0
  IsListed v = is_declared n (variable w v) ≡ true

  one_listed : (s : Spot) (v : Variable) → Stands s v.tree → is_among s.dummies (v.tree).1 ≡ false → IsListed v
  one_listed s v h d = declared_is w n v.unit v.scope s v.tree h d (λ e is. types e (named_type w v.scope e ((v.tree).0).specifier is))

  -- a variable that is saved is no dummy
  not_dummy : (a b : Bool) → (a && b) ≡ false → a ≡ true → b ≡ false
  not_dummy true b e f = e
  not_dummy false b e f = no (sym f)

  saved_listed : (s : Spot) (v : Variable) → Stands s v.tree → is_saved v ≡ true → IsListed v
  saved_listed s v h e = one_listed s v h (by_save (has t.save (v.tree).0) refl)
    where
      by_save : (b : Bool) → has t.save (v.tree).0 ≡ b → is_among s.dummies (v.tree).1 ≡ false
      by_save true f = (neither _ _ (not_dummy (has t.save (v.tree).0) _ h.saved f)).0
      by_save false f = (neither _ _ (not_dummy (is_given ((v.tree).1).initial) _ h.initial (otherwise (has t.save (v.tree).0) _ e f))).0

  -- ---- the variables of units and procedures

  unit_listed : (u : Numbered) → IsUnitRight w.scene u → Each IsListed (unit_names u)
  unit_listed u h =
      each_so (StandsIn (unit_spot w.scene u)) IsListed (λ v stands. one_listed (unit_spot w.scene u) v stands refl) (unit_names u)
      (part_right (unit_spot w.scene u) u.scope u.scope u.first ((u.tree).part).specifications h.0)

  names_right : (unit : ℕ) (m : Member) → IsMemberRight w.scene unit m → Each (StandsIn (spot_of w.scene unit m)) (member_names unit m)
  names_right unit m h =
      part_right (spot_of w.scene unit m) unit m.scope (within_member m nothing_known).next ((m.tree).part).specifications h

  member_saved : (unit : ℕ) (m : Member) → IsMemberRight w.scene unit m → Each IsListed (filter (λ v. is_variable v && is_saved v) (member_names unit m))
  member_saved unit m h =
      each_taken (StandsIn (spot_of w.scene unit m)) IsListed (λ v. is_variable v && is_saved v)
      (λ v stands e. saved_listed (spot_of w.scene unit m) v stands (right (is_variable v) _ e)) (member_names unit m) (names_right unit m h)

  statics_of : (u : Numbered) → IsUnitRight w.scene u → Each IsListed (unit_statics u)
  statics_of u h =
      each_joined IsListed (filter (is_static_in (u.tree).kind) (unit_names u)) _
      (each_taken IsListed IsListed (is_static_in (u.tree).kind) (λ v l e. l) (unit_names u) (unit_listed u h))
      (each_flat (IsMemberRight w.scene u.scope) IsListed (λ (m : Member). filter (λ v. is_variable v && is_saved v) (member_names u.scope m)) (member_saved u.scope)
      u.members h.1)

  pub statics_listed : (us : List Numbered) → Each (IsUnitRight w.scene) us → Each IsListed (flat_map unit_statics us)
  statics_listed us h = each_flat (IsUnitRight w.scene) IsListed unit_statics statics_of us h

  pub main_listed : (u : Numbered) → IsUnitRight w.scene u → Each IsListed (main_locals u)
  main_listed u h = each_taken IsListed IsListed (λ v. is_variable v && not (is_saved v)) (λ v l e. l) (unit_names u) (unit_listed u h)

  among_before : (k : ℕ) (ds rs : List Name) → list_any (nat_eq k) (map (λ (n : Name). n.symbol) (ds ++ rs)) ≡ false → list_any (nat_eq k) (map (λ (n : Name). n.symbol) ds) ≡ false
  among_before k [] rs e = refl
  among_before k (d ∷ ds) rs e = none (nat_eq k d.symbol) _ (neither (nat_eq k d.symbol) _ e).0 (among_before k ds rs (neither (nat_eq k d.symbol) _ e).1)
    where
      none : (a b : Bool) → a ≡ false → b ≡ false → (a || b) ≡ false
      none true b e f = no e
      none false b e f = f

  pub locals_listed : (unit : ℕ) (m : Member) → IsMemberRight w.scene unit m → Each IsListed (member_locals unit m)
  locals_listed unit m h =
      each_taken (StandsIn (spot_of w.scene unit m)) IsListed (λ v. is_variable v && (not (is_saved v) && not (is_in_header m v)))
      (λ v stands e. one_listed (spot_of w.scene unit m) v stands
      (among_before (((v.tree).1).name).symbol ((m.tree).header).dummies (result_name m) (negated_back _ (right (not (is_saved v)) _ (right (is_variable v) _ e)))))
      (member_names unit m) (names_right unit m h)

  -- ---- results and dummies

  abbrev pub IsResultListed : Option DeclaredNode → Type 0
  IsResultListed None = ⊤
  IsResultListed (Some d) = is_declared n d ≡ true

  known_type : (sc : ℕ) (x : TypeSpecifier) → is_before n (base_of w.numbers (type_of (w.scene).names sc x)) ≡ true
  known_type sc x = typed_before w n (type_of (w.scene).names sc x) (λ e is. types e (named_type w sc e x is))

  pub result_listed : (unit : ℕ) (m : Member) → IsMemberRight w.scene unit m → HasOwnResult m → IsResultListed (result_of w unit m ((m.tree).header).kind)
  result_listed unit m h own = go ((m.tree).header).kind own
    where
      by_entry : (k : Name) → list_any (nat_eq k.symbol) (map (λ (d : Name). d.symbol) ((m.tree).header).dummies) ≡ false
          → (o : Option Declared) → declaration_of m k ≡ o → is_declared n (map_or (plain w undeclared) (declared w unit m.scope) o) ≡ true
      by_entry k own None e = refl
      by_entry k own (Some x) e =
          let at : Entry (spot_of w.scene unit m) k.symbol x = entry_at (spot_of w.scene unit m) k.symbol ((m.tree).part).specifications x h e in
          declared_is w n unit m.scope (spot_of w.scene unit m) x at.stands_there
          (ap (λ j. list_any (nat_eq j) (map (λ (d : Name). d.symbol) ((m.tree).header).dummies)) at.named ∙ own)
          (λ e is. types e (named_type w m.scope e (x.0).specifier is))

      go : (k : ProcedureKind) → Each (λ (n : Name). list_any (nat_eq n.symbol) (map (λ (d : Name). d.symbol) ((m.tree).header).dummies) ≡ false)
          (map_or [] (λ (n : Name). n ∷ []) (Scopes.result_of k ((m.tree).header).name)) → IsResultListed (result_of w unit m k)
      go Subroutine own = tt
      go (Function (Some x) outcome) own = both (is_before n (base_of w.numbers (type_of (w.scene).names m.scope x))) _ (known_type m.scope x) refl
      go (Function None outcome) own = by_entry (name_or outcome ((m.tree).header).name) own.0 (declaration_of m (name_or outcome ((m.tree).header).name)) refl

  abbrev pub IsDummyListed : DummyNode → Type 0
  IsDummyListed d = is_before n (d.kind).of ≡ true

  pub dummy_listed : (unit : ℕ) (m : Member) (k : Name) → IsDummyListed (dummy w unit m k)
  dummy_listed unit m k = go (lookup (nat_eq k.symbol) (declarations_in m))
    where
      go : (o : Option Declared) → is_before n (base_of w.numbers (map_or undeclared (object_of (w.scene).names m.scope) o).data_type) ≡ true
      go None = refl
      go (Some x) = known_type m.scope (x.0).specifier

  pub dummies_listed : (unit : ℕ) (m : Member) (ks : List Name) → Each IsDummyListed (map (dummy w unit m) ks)
  dummies_listed unit m [] = tt
  dummies_listed unit m (k ∷ ks) = (dummy_listed unit m k, dummies_listed unit m ks)

-- ---- components

-- the components of a type that stand as they are declared
abbrev pub IsDefinitionRight : Scene → Definition → Type 0
IsDefinitionRight scene d = Each (AreRight (in_type (unit_spot scene d.unit))) (d.tree).components

pub definitions_right : (scene : Scene) (u : Numbered) → IsUnitRight scene u → Each (IsDefinitionRight scene) (definitions u)
definitions_right scene u h = go u.first ((u.tree).part).specifications h.0
  where
    one : (e : ℕ) (x : SpecificationTree) → IsRight (unit_spot scene u) x → Each (IsDefinitionRight scene) (types_in u e x)
    one e (declares d) h = tt
    one e (defines d) h = (h, tt)
    one e (accesses a) h = tt
    one e (protects q ns) h = tt
    one e (saves q) h = tt

    go : (e : ℕ) (ss : List SpecificationTree) → Each (IsRight (unit_spot scene u)) ss → Each (IsDefinitionRight scene) (along_part (types_in u) e ss)
    go e [] h = tt
    go e (x ∷ ss) h =
        each_joined (IsDefinitionRight scene) (types_in u e x) (along_part (types_in u) (e + length (declared_in x)) ss) (one e x h.0)
        (go (e + length (declared_in x)) ss h.1)

pub all_definitions_right : (scene : Scene) (us : List Numbered) → Each (IsUnitRight scene) us → Each (IsDefinitionRight scene) (flat_map definitions us)
all_definitions_right scene us h = each_flat (IsUnitRight scene) (IsDefinitionRight scene) definitions (definitions_right scene) us h

module _ (w : Whole) where
  pub components_listed : (k : ℕ) (d : Definition) → IsDefinitionRight w.scene d → StandsBehind w k d → Each (λ (c : ComponentNode). is_declared k c.declared ≡ true) (components w d)
  components_listed k d h below = go (d.tree).components h below
    where
      inner : (x : DeclarationTree) → IsBelow w k (d.unit).scope x → (es : List EntityTree)
          → Each (λ (y : EntityTree). conflicts (in_type (unit_spot w.scene d.unit)) (x, y) ≡ false) es
          → Each (λ (c : ComponentNode). is_declared k c.declared ≡ true) (map (component w (d.unit).scope (is_given (d.tree).private) x) es)
      inner x below [] h = tt
      inner x below (y ∷ es) h = (
        declared_is w k (d.unit).scope (d.unit).scope (in_type (unit_spot w.scene d.unit)) (x, y) (stands (in_type (unit_spot w.scene d.unit)) (x, y) h.0) refl below,
        inner x below es h.1,
      )

      go : (xs : List DeclarationTree) → Each (AreRight (in_type (unit_spot w.scene d.unit))) xs → Each (IsBelow w k (d.unit).scope) xs
          → Each (λ (c : ComponentNode). is_declared k c.declared ≡ true)
          (flat_map (λ (x : DeclarationTree). map (component w (d.unit).scope (is_given (d.tree).private) x) x.entities) xs)
      go [] h below = tt
      go (x ∷ xs) h below =
          each_joined (λ (c : ComponentNode). is_declared k c.declared ≡ true) (map (component w (d.unit).scope (is_given (d.tree).private) x) x.entities) _
          (inner x below.0 x.entities h.0) (go xs h.1 below.1)
