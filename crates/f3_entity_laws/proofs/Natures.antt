-- What the rules on types know of the entities, beside what declares them.
use Rattle.std.proofs.Common.{◌≡◌, ℕ, zero, suc, ◌+◌, Bool, false, List, [], ◌∷◌, ◌++◌, length, map, Option, None, Some, refl, sym, ap, ◌∙◌}
use Rattle.std.specs.Prelude.{⊤, slice_get}
use Rattle.std.specs.List.{flat_map, list_any}
use Rattle.f3_scopes.specs.declared.outline.EntityKind.{EntityKind}
use Rattle.f3_scopes.specs.declared.outline.EntityKind.TheVariants as entity
use Rattle.f3_scopes.specs.Scopes.{declared_in, kind_of}
use Rattle.f3_tree.specs.declared.declaration.TypeSpecifier.{TypeSpecifier}
use Rattle.f3_tree.specs.declared.expression.Name.{Name}
use Rattle.f3_tree.specs.declared.program.ProcedureKind.{ProcedureKind}
use Rattle.f3_tree.specs.declared.program.ProcedureKind.TheVariants.{Subroutine, Function}
use Rattle.f3_tree.specs.Declarations.{EntityTree, DeclarationTree, SpecificationTree, declares, accesses, protects, saves, defines}
use Rattle.f3_tree.specs.Statements.{AssociationTree}
use Rattle.f3_kinds.specs.declared.types.Object.{Object}
use Rattle.f3_kinds.specs.declared.things.Dummy.{Dummy}
use Rattle.f3_kinds.specs.Things.{map_or, Nature, constant, variable, derived, subroutine, function}
use Rattle.f3_type_rules.specs.Associates.{constructs_of_block}
use Rattle.f3_type_rules.specs.Finals.{final_rank}
use Rattle.f3_type_rules.specs.Members.{Member, Numbered}
use Rattle.f3_type_rules.specs.Names.{Names, is_given, object_of, undeclared}
use Rattle.f3_type_rules.specs.Natures.{object_nature, declared_nature, natures_in, natures_from, kind_nature, specifier_of, procedure_nature}
use Rattle.f3_type_rules.specs.Natures.{typed_object, typed_natures, associate_natures, member_natures, unit_natures, rounds, marked, settled}
use Rattle.f3_lawful_laws.proofs.Facts.{nothing, same}
use Rattle.f3_entity_laws.specs.Things.{Home, of_unit, of_member, number_of, Thing, name, type, procedure, result, associate, things_in, part_things, construct_things}
use Rattle.f3_entity_laws.specs.Things.{body_things, result_things, member_things, unit_things, things_of, nature_of}
use Rattle.f3_entity_laws.specs.Laws.{NaturesAreThings, ThingsHaveNatures}

module _ (names : Names) where
  -- each of these natures is that of the thing at its place, with some flag
  abbrev pub AreNatures : List Nature → List Thing → Type 0
  AreNatures [] [] = ⊤
  AreNatures [] (g ∷ gs) = ⊥
  AreNatures (n ∷ ns) [] = ⊥
  AreNatures (n ∷ ns) (g ∷ gs) = ((f : Bool) × (n ≡ nature_of names f g)) × AreNatures ns gs

  joined : (ns ms : List Nature) (gs hs : List Thing) → AreNatures ns gs → AreNatures ms hs → AreNatures (ns ++ ms) (gs ++ hs)
  joined [] ms [] hs a b = b
  joined [] ms (g ∷ gs) hs a b = absurd a
  joined (n ∷ ns) ms [] hs a b = absurd a
  joined (n ∷ ns) ms (g ∷ gs) hs a b = (a.0, joined ns ms gs hs a.1 b)

  -- ---- specification parts

  declared_are : (h : Home) (d : DeclarationTree) (xs : List EntityTree)
      → AreNatures (map (declared_nature names (number_of h) d) xs) (map (λ (x : EntityTree). name h (d, x)) xs)
  declared_are h d [] = tt
  declared_are h d (x ∷ xs) = ((false, refl), declared_are h d xs)

  specified_are : (h : Home) (ms : List Member) (e : ℕ) (s : SpecificationTree) → AreNatures (natures_in names (number_of h) ms e s) (things_in h s)
  specified_are h ms e (declares d) = declared_are h d d.entities
  specified_are h ms e (accesses a) = tt
  specified_are h ms e (protects p ns) = tt
  specified_are h ms e (saves p) = tt
  specified_are h ms e (defines t) = ((list_any (λ (n : Name). is_given (final_rank names (number_of h) ms e n)) t.finals, refl), tt)

  part_are : (h : Home) (ms : List Member) (e : ℕ) (ss : List SpecificationTree)
      → AreNatures (natures_from names (number_of h) ms e ss) (flat_map (things_in h) ss)
  part_are h ms e [] = tt
  part_are h ms e (s ∷ ss) =
      joined (natures_in names (number_of h) ms e s) (natures_from names (number_of h) ms (e + length (declared_in s)) ss) (things_in h s)
      (flat_map (things_in h) ss) (specified_are h ms e s) (part_are h ms (e + length (declared_in s)) ss)

  -- ---- constructs

  associations_are : (h : Home) (n : ℕ) (xs : List AssociationTree)
      → AreNatures (map (λ (x : AssociationTree). variable undeclared) xs) (map (λ (x : AssociationTree). associate h n x) xs)
  associations_are h n [] = tt
  associations_are h n (x ∷ xs) = ((false, refl), associations_are h n xs)

  constructs_are : (h : Home) (n : ℕ) (xss : List (List AssociationTree))
      → AreNatures (flat_map (map (λ (x : AssociationTree). variable undeclared)) xss) (construct_things h n xss)
  constructs_are h n [] = tt
  constructs_are h n (xs ∷ xss) =
      joined (map (λ (x : AssociationTree). variable undeclared) xs) (flat_map (map (λ (x : AssociationTree). variable undeclared)) xss)
      (map (λ (x : AssociationTree). associate h n x) xs) (construct_things h (n + 1) xss) (associations_are h n xs) (constructs_are h (n + 1) xss)

  -- ---- procedures

  result_are : (u : Numbered) (m : Member) (o : Option TypeSpecifier)
      → AreNatures (map_or [] (λ (s : TypeSpecifier). variable (typed_object names m.scope s) ∷ []) o) (map_or [] (λ (s : TypeSpecifier). result u m s ∷ []) o)
  result_are u m None = tt
  result_are u m (Some s) = ((false, refl), tt)

  member_are : (u : Numbered) (m : Member) → AreNatures (member_natures names m) (member_things u m)
  member_are u m =
      joined (typed_natures names m.scope ((m.tree).header).kind)
      (natures_from names m.scope [] m.first ((m.tree).part).specifications ++ associate_natures (m.tree).body)
      (result_things u m) (part_things (of_member u m) ++ body_things (of_member u m)) (result_are u m (specifier_of ((m.tree).header).kind))
      (joined (natures_from names m.scope [] m.first ((m.tree).part).specifications) (associate_natures (m.tree).body)
      (part_things (of_member u m)) (body_things (of_member u m)) (part_are (of_member u m) [] m.first ((m.tree).part).specifications)
      (constructs_are (of_member u m) (m.scope + 1) (constructs_of_block (m.tree).body)))

  inner_are : (u : Numbered) (ms : List Member) → AreNatures (flat_map (member_natures names) ms) (flat_map (member_things u) ms)
  inner_are u [] = tt
  inner_are u (m ∷ ms) =
      joined (member_natures names m) (flat_map (member_natures names) ms) (member_things u m) (flat_map (member_things u) ms) (member_are u m) (inner_are u ms)

  procedures_are : (u : Numbered) (ms : List Member) → AreNatures (map (procedure_nature names) ms) (map (λ (m : Member). procedure u m) ms)
  procedures_are u [] = tt
  procedures_are u (m ∷ ms) = ((false, refl), procedures_are u ms)

  -- ---- units

  unit_are : (u : Numbered) → AreNatures (unit_natures names u) (unit_things u)
  unit_are u =
      joined (natures_from names u.scope u.members u.first ((u.tree).part).specifications) _ (part_things (of_unit u)) _
      (part_are (of_unit u) u.members u.first ((u.tree).part).specifications)
      (joined (map (procedure_nature names) u.members) _ (map (λ (m : Member). procedure u m) u.members) _ (procedures_are u u.members)
      (joined (associate_natures (u.tree).body) (flat_map (member_natures names) u.members) (body_things (of_unit u)) (flat_map (member_things u) u.members)
      (constructs_are (of_unit u) (u.scope + 1) (constructs_of_block (u.tree).body)) (inner_are u u.members)))

  all_are : (us : List Numbered) → AreNatures (flat_map (unit_natures names) us) (things_of us)
  all_are [] = tt
  all_are (u ∷ us) = joined (unit_natures names u) (flat_map (unit_natures names) us) (unit_things u) (things_of us) (unit_are u) (all_are us)

  -- ---- other flags

  abbrev flagged : Bool → Nature → Nature
  flagged f (constant o) = constant o
  flagged f (variable o) = variable o
  flagged f (derived home ks g) = derived home ks f
  flagged f (subroutine pure ds) = subroutine pure ds
  flagged f (function pure ds o) = function pure ds o

  object_flagged : (f : Bool) (k : EntityKind) (o : Object) → flagged f (object_nature k o) ≡ object_nature k o
  object_flagged f entity.Variable o = refl
  object_flagged f entity.Constant o = refl
  object_flagged f entity.DerivedType o = refl
  object_flagged f entity.Subroutine o = refl
  object_flagged f entity.Function o = refl

  kind_flagged : (f pure : Bool) (ds : List (ℕ × Dummy)) (o : Object) (k : ProcedureKind) → flagged f (kind_nature pure ds o k) ≡ kind_nature pure ds o k
  kind_flagged f pure ds o Subroutine = refl
  kind_flagged f pure ds o (Function s outcome) = refl

  thing_flagged : (f g : Bool) (x : Thing) → flagged f (nature_of names g x) ≡ nature_of names f x
  thing_flagged f g (name h x) = object_flagged f (kind_of (x.0).attributes) (object_of names (number_of h) (x.0, x.1))
  thing_flagged f g (type h t) = refl
  thing_flagged f g (procedure u m) = kind_flagged f _ _ _ ((m.tree).header).kind
  thing_flagged f g (result u m s) = refl
  thing_flagged f g (associate h n x) = refl

  marked_first : (f : Bool) (fs : List Bool) (n : Nature) (ns : List Nature) → marked (f ∷ fs) (n ∷ ns) ≡ flagged f n ∷ marked fs ns
  marked_first f fs (constant o) ns = refl
  marked_first f fs (variable o) ns = refl
  marked_first f fs (derived home ks g) ns = refl
  marked_first f fs (subroutine pure ds) ns = refl
  marked_first f fs (function pure ds o) ns = refl

  marked_are : (fs : List Bool) (ns : List Nature) (gs : List Thing) → AreNatures ns gs → AreNatures (marked fs ns) gs
  marked_are [] [] gs a = a
  marked_are [] (n ∷ ns) gs a = a
  marked_are (f ∷ fs) [] gs a = a
  marked_are (f ∷ fs) (n ∷ ns) [] a = absurd a
  marked_are (f ∷ fs) (n ∷ ns) (g ∷ gs) a =
      rw (marked_first f fs n ns) ((f, ap (flagged f) a.0.1 ∙ thing_flagged f a.0.0 g), marked_are fs ns gs a.1)

  settled_are : (us : List Numbered) → AreNatures (settled (flat_map (unit_natures names) us)) (things_of us)
  settled_are us =
      let ns : List Nature = flat_map (unit_natures names) us in
      marked_are (rounds ns (length ns) []) ns (things_of us) (all_are us)

  -- ---- at a place

  thing_at : (ns : List Nature) (gs : List Thing) (e : ℕ) (n : Nature) → AreNatures ns gs → slice_get ns e ≡ Some n
      → (g : Thing) × (f : Bool) × (slice_get gs e ≡ Some g) × (n ≡ nature_of names f g)
  thing_at [] gs e n a at = nothing at
  thing_at (m ∷ ns) [] e n a at = absurd a
  thing_at (m ∷ ns) (g ∷ gs) zero n a at = (g, a.0.0, refl, sym (same at) ∙ a.0.1)
  thing_at (m ∷ ns) (g ∷ gs) (suc e) n a at = thing_at ns gs e n a.1 at

  nature_at : (ns : List Nature) (gs : List Thing) (e : ℕ) (g : Thing) → AreNatures ns gs → slice_get gs e ≡ Some g
      → (f : Bool) × (slice_get ns e ≡ Some (nature_of names f g))
  nature_at ns [] e g a at = nothing at
  nature_at [] (h ∷ gs) e g a at = absurd a
  nature_at (n ∷ ns) (h ∷ gs) zero g a at = (a.0.0, ap Some (a.0.1 ∙ ap (nature_of names a.0.0) (same at)))
  nature_at (n ∷ ns) (h ∷ gs) (suc e) g a at = nature_at ns gs e g a.1 at

pub natures : NaturesAreThings
natures names us e n at = thing_at names (settled (flat_map (unit_natures names) us)) (things_of us) e n (settled_are names us) at

pub things : ThingsHaveNatures
things names us e g at = nature_at names (settled (flat_map (unit_natures names) us)) (things_of us) e g (settled_are names us) at
