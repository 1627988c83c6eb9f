-- Inside an ASSOCIATE construct the rules and the program are of the same kinds too.
use Rattle.std.proofs.Common.{◌≡◌, ℕ, suc, ◌+◌, Bool, true, false, List, [], ◌∷◌, ◌++◌, length, map, position, nat_eq, Option, None, Some, refl, sym, ap, ◌∙◌, arith}
use Rattle.std.specs.Prelude.{slice_get}
use Rattle.std.specs.List.{flat_map}
use Rattle.std.specs.Map.{lookup}
use Rattle.f3_lookups.specs.declared.lookup.Lookup.TheVariants.{One}
use Rattle.f3_tree.specs.Statements.{AssociationTree}
use Rattle.f3_program.specs.declared.declarations.Declared.{Declared}
use Rattle.f3_program.specs.declared.declarations.Kind.{Kind}
use Rattle.f3_program.specs.declared.expression.Name.{Name}
use Rattle.f3_program.specs.declared.expression.Name.TheVariants.{Static, Local, Lent}
use Rattle.f3_program.specs.declared.program.Program.{Program}
use Rattle.f3_kinds.specs.declared.types.Object.{Object}
use Rattle.f3_kinds.specs.declared.said.Has.{Has}
use Rattle.f3_kinds.specs.declared.said.Said.{Said}
use Rattle.f3_kinds.specs.declared.things.Component.{Component}
use Rattle.f3_kinds.specs.declared.things.Dummy.{Dummy}
use Rattle.f3_kinds.specs.Things.{map_or, Nature, constant, variable, derived, subroutine, function, look_here}
use Rattle.f3_kinds.specs.Rows.{is_known, has_type}
use Rattle.f3_kinds.specs.Operands.{type_in}
use Rattle.f3_kinds.specs.Typing.{said}
use Rattle.f3_meaning_whole.specs.Permitted.{Each}
use Rattle.f3_meaning_whole.specs.Formed.{kind_of_name}
use Rattle.f3_type_rules.specs.declared.definition.Holder.{Holder}
use Rattle.f3_type_rules.specs.Associates.{associated, associate_nature}
use Rattle.f3_elaboration.specs.Context.{Surroundings, associate_entity, inside}
use Rattle.f3_elaboration.specs.Expressions.{expression}
use Rattle.f3_lawful_laws.specs.Agreement.{IsKnown, Knows}
use Rattle.f3_lawful_laws.specs.Blocks.{Opens}
use Rattle.f3_lawful_laws.proofs.Facts.{no, same}
use Rattle.f3_lawful_laws.proofs.Opening.{at_front}
use Rattle.f3_formed_laws.specs.Agreement.{AgreesInKinds, HasComponents, HasDummies, IsConstant, kind_of}
use Rattle.f3_formed_laws.proofs.Scalars.{typed_of}
use Rattle.f3_formed_laws.proofs.Naming.{behind_front, IsSelector, kinds_for, Among, is_named, is_other, among}

abbrev object_in : Object → Nature → Object
object_in o (variable v) = v
object_in o _ = o

object_same : (o q : Object) → Some (variable o) ≡ Some (variable q) → o ≡ q
object_same o q e = ap (object_in o) (same e)

abbrev is_variable : Nature → Bool
is_variable (variable o) = true
is_variable _ = false

module _ (p : Program) (vs : List Declared) (ns : List Kind) (s : Surroundings) (agrees : AgreesInKinds p vs ns s) (lent : s.lent ≡ length ns) (number : ℕ)
    (xs : List AssociationTree) (is : Each (IsSelector p vs ns s) xs) (held : ℕ → Option Holder) (opens : Opens (s.context).look held (s.context).scope number xs) where
  abbrev within : Surroundings
  within = inside s number xs

  abbrev pub names_within : List Kind
  names_within = ns ++ kinds_for p vs ns s xs

  which : (e : ℕ) → Among p vs ns s number xs e
  which e = among p vs ns s number xs e is opens.declared

  nature_named : (e : ℕ) (x : Said) → lookup (nat_eq e) (flat_map (associated s.context number) xs) ≡ Some x → (within.context).nature e ≡ Some (associate_nature x)
  nature_named e x h = ap (λ o. map_or ((s.context).nature e) (λ s. Some (associate_nature s)) o) h

  nature_other : (e : ℕ) → lookup (nat_eq e) (flat_map (associated s.context number) xs) ≡ None → (within.context).nature e ≡ (s.context).nature e
  nature_other e h = ap (λ o. map_or ((s.context).nature e) (λ s. Some (associate_nature s)) o) h

  object_named : (e k : ℕ) → position (nat_eq e) (map (associate_entity s.context number) xs) ≡ Some k → within.object e ≡ Lent (s.lent + k)
  object_named e k h = ap (λ o. map_or (s.object e) (λ k. Lent (s.lent + k)) o) h

  object_other : (e : ℕ) → position (nat_eq e) (map (associate_entity s.context number) xs) ≡ None → within.object e ≡ s.object e
  object_other e h = ap (λ o. map_or (s.object e) (λ k. Lent (s.lent + k)) o) h

  seen_around : (symbol e : ℕ) (o : Object) → look_here within.context symbol ≡ One e → (within.context).nature e ≡ Some (variable o)
      → lookup (nat_eq e) (flat_map (associated s.context number) xs) ≡ None → position (nat_eq e) (map (associate_entity s.context number) xs) ≡ None
      → (look_here s.context symbol ≡ One e) × ((s.context).nature e ≡ Some (variable o))
  seen_around symbol e o looked nature a b = (opens.around symbol e looked b, sym (nature_other e a) ∙ nature)

  -- what is no variable is the same there
  plain_there : (e : ℕ) (m : Nature) → is_variable m ≡ false → (within.context).nature e ≡ Some m → (s.context).nature e ≡ Some m
  plain_there e m plain nature = go (which e)
    where
      go : Among p vs ns s number xs e → (s.context).nature e ≡ Some m
      go (is_named r) =
          no (ap is_variable (same (sym (nature_named e (said s.context r.name.selector) r.looked) ∙ nature)) ∙ plain)
      go (is_other a b) = sym (nature_other e a) ∙ nature

  type_known : (o : Option Has) → has_type o ≡ true → is_known (type_in o) ≡ true
  type_known None t = no (sym t)
  type_known (Some h) t = t

  knows_within : Knows within.context
  knows_within = record { natures = natures_there; variables = variables_known }
    where
      natures_there : (e : ℕ) (m : Nature) → (within.context).nature e ≡ Some m → IsKnown m
      natures_there e (variable o) nature = tt
      natures_there e (constant o) nature = agrees.known.natures e (constant o) (plain_there e (constant o) refl nature)
      natures_there e (derived home ks f) nature = agrees.known.natures e (derived home ks f) (plain_there e (derived home ks f) refl nature)
      natures_there e (subroutine pure ds) nature = agrees.known.natures e (subroutine pure ds) (plain_there e (subroutine pure ds) refl nature)
      natures_there e (function pure ds o) nature = agrees.known.natures e (function pure ds o) (plain_there e (function pure ds o) refl nature)

      variables_known : (symbol e : ℕ) (o : Object) → look_here within.context symbol ≡ One e → (within.context).nature e ≡ Some (variable o)
          → is_known o.data_type ≡ true
      variables_known symbol e o looked nature = go (which e)
        where
          go : Among p vs ns s number xs e → is_known o.data_type ≡ true
          go (is_named r) =
              ap (λ (o : Object). is_known o.data_type)
              (sym (object_same _ o (sym (nature_named e (said s.context r.name.selector) r.looked) ∙ nature)))
              ∙ type_known (said s.context r.name.selector).has (typed_of p vs ns s (expression s r.name.selector) (said s.context r.name.selector).has r.is)
          go (is_other a b) = let around = seen_around symbol e o looked nature a b in agrees.known.variables symbol e o around.0 around.1

  -- a name that is known around it is known there
  kept : (x : Name) (k : Kind) → kind_of_name p vs ns x ≡ Some k → kind_of_name p vs names_within x ≡ Some k
  kept (Static i) k h = h
  kept (Local i) k h = h
  kept (Lent i) k h = at_front ns (kinds_for p vs ns s xs) i k h

  objects_there : (symbol e : ℕ) (o : Object) → look_here within.context symbol ≡ One e → (within.context).nature e ≡ Some (variable o)
      → kind_of_name p vs names_within (within.object e) ≡ Some (kind_of within o)
  objects_there symbol e o looked nature = go (which e)
    where
      go : Among p vs ns s number xs e → kind_of_name p vs names_within (within.object e) ≡ Some (kind_of within o)
      go (is_named r) =
          ap (kind_of_name p vs names_within) (object_named e r.place r.placed)
          ∙ ap (λ c. slice_get names_within (c + r.place)) lent ∙ behind_front ns (kinds_for p vs ns s xs) r.place ∙ r.kind
          ∙ ap (λ (o : Object). Some (kind_of s o)) (object_same _ o (sym (nature_named e (said s.context r.name.selector) r.looked) ∙ nature))
      go (is_other a b) =
          let around = seen_around symbol e o looked nature a b in
          ap (kind_of_name p vs names_within) (object_other e b) ∙ kept (s.object e) (kind_of s o) (agrees.objects symbol e o around.0 around.1)

  constant_there : (e : ℕ) (o : Object) → IsConstant s e o → IsConstant within e o
  constant_there e o h = record { scalar = h.scalar; plain = h.plain; alike_to = h.alike_to }

  components_there : (e : ℕ) (ks : List (ℕ × Component)) → HasComponents p s e ks → HasComponents p within e ks
  components_there e ks h = record { type = h.type; there = h.there; components = h.components }

  abbrev dummies_there : (e : ℕ) (ds : List (ℕ × Dummy)) → HasDummies p s e ds → HasDummies p within e ds
  dummies_there e ds h = record { procedure = h.procedure; there = h.there; dummies = h.dummies }

  pub agrees_within : AgreesInKinds p vs names_within within
  agrees_within = record {
    known = knows_within;
    constants = λ e o nature. constant_there e o (agrees.constants e o (plain_there e (constant o) refl nature));
    types = λ e home ks f nature. components_there e ks (agrees.types e home ks f (plain_there e (derived home ks f) refl nature));
    subroutines = λ e pure ds nature. dummies_there e ds (agrees.subroutines e pure ds (plain_there e (subroutine pure ds) refl nature));
    functions = λ e pure ds o nature. let q = agrees.functions e pure ds o (plain_there e (function pure ds o) refl nature) in (dummies_there e ds q.0, q.1);
    objects = objects_there;
  }

  joined : (ys zs : List Kind) → length (ys ++ zs) ≡ length ys + length zs
  joined [] zs = let e : length zs ≡ 0 + length zs = omega arith in e
  joined (y ∷ ys) zs = ap suc (joined ys zs) ∙ (let e : suc (length ys + length zs) ≡ suc (length ys) + length zs = omega arith in e)

  long : (ys : List AssociationTree) → length (kinds_for p vs ns s ys) ≡ length ys
  long [] = refl
  long (x ∷ ys) = ap suc (long ys)

  pub lent_within : within.lent ≡ length names_within
  lent_within = ap (λ c. c + length xs) lent ∙ ap (λ c. length ns + c) (sym (long xs)) ∙ sym (joined ns (kinds_for p vs ns s xs))
