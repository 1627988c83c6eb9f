-- The values of named constants have at most 64 bits.
use Rattle.std.proofs.Common.{◌≡◌, ℕ, Bool, true, false, cond, List, [], ◌∷◌, Option, None, Some, refl, if◌then◌else◌}
use Rattle.std.specs.Prelude.{nat_eq}
use Rattle.std.specs.Map.{lookup}
use Rattle.f3_tree.specs.Expressions.{Tree as Expression}
use Rattle.f3_tree.specs.Declarations.{EntityTree, DeclarationTree, SpecificationTree, declares, accesses, protects, saves, defines}
use Rattle.f3_kinds.specs.declared.types.DataType.{DataType}
use Rattle.f3_kinds.specs.declared.types.DataType.TheVariants.{Integer, Logical, Derived}
use Rattle.f3_kinds.specs.declared.types.Scalar.{Scalar}
use Rattle.f3_kinds.specs.declared.types.Scalar.TheVariants.{Number, Truth}
use Rattle.f3_kinds.specs.Things.{Context}
use Rattle.f3_kinds.specs.Values.{converted, fits_kind, value_of}
use Rattle.f3_cell_kinds.specs.Effect.{is_word}
use Rattle.f3_type_rules.specs.Declarations.{with_entry, given_value, constant_value, entity_next, specification_next, spot_of, within_member, member_next, unit_spot, within_unit, behind_part, unit_next}
use Rattle.f3_type_rules.specs.Members.{Member, Numbered}
use Rattle.f3_type_rules.specs.Program.{nothing_known, units_in}
use Rattle.f3_type_rules.specs.Scene.{Scene}
use Rattle.f3_type_rules.specs.Walks.{after, Known, Spot}
use Rattle.f3_elaboration.specs.Declarations.{constant_of}
use Rattle.f3_lawful_laws.specs.Entities.{units_of, whole_of}
use Rattle.f3_initial_laws.proofs.Initials.{word}
use Rattle.f3_fitted_laws.specs.Laws.{ValuesAreWords}

abbrev IsWord : Option Scalar → Type 0
IsWord o = is_word (constant_of o) ≡ true

-- ---- one value

converted_word : (d : DataType) (o : Option Scalar) → IsWord (converted d o)
converted_word (Integer k) (Some (Number j z)) = go (fits_kind k z) refl
  where
    go : (b : Bool) → fits_kind k z ≡ b → IsWord (if b then Some (Number k z) else None)
    go true h = word k z h
    go false h = refl
converted_word (Integer k) (Some (Truth b)) = refl
converted_word (Integer k) None = refl
converted_word Logical (Some (Truth b)) = refl
converted_word Logical (Some (Number j z)) = refl
converted_word Logical None = refl
converted_word (Derived n) (Some (Number j z)) = refl
converted_word (Derived n) (Some (Truth b)) = refl
converted_word (Derived n) None = refl

given_word : (c : Context) (b : Bool) (d : Option DataType) (x : Option Expression) → IsWord (given_value c b d x)
given_word c true (Some d) (Some x) = converted_word d (value_of c x)
given_word c true (Some d) None = refl
given_word c true None (Some x) = refl
given_word c true None None = refl
given_word c false d x = refl

-- ---- walks along declarations

abbrev AreWords : Known → Type 0
AreWords k = (e : ℕ) → IsWord (lookup (nat_eq e) k.values)

entry_word : (n : ℕ) (o : Option Scalar) (xs : List (ℕ × Scalar)) → IsWord o → ((e : ℕ) → IsWord (lookup (nat_eq e) xs)) → (e : ℕ)
    → IsWord (lookup (nat_eq e) (with_entry n o xs))
entry_word n None xs one all e = all e
entry_word n (Some v) xs one all e = go (nat_eq e n)
  where
    go : (b : Bool) → IsWord (cond b (Some v) (lookup (nat_eq e) xs))
    go true = one
    go false = all e

walked : {X : Type 0} (next : Known → X → Known) → ((k : Known) (x : X) → AreWords k → AreWords (next k x)) → (k : Known) (xs : List X) → AreWords k
    → AreWords (after next k xs)
walked next step k [] h = h
walked next step k (x ∷ xs) h = walked next step (next k x) xs (step k x h)

entity_words : (s : Spot) (d : DeclarationTree) (k : Known) (x : EntityTree) → AreWords k → AreWords (entity_next s d k x)
entity_words s d k x h = entry_word k.next (constant_value s d k x) k.values (given_word _ _ _ x.initial) h

specification_words : (s : Spot) (k : Known) (x : SpecificationTree) → AreWords k → AreWords (specification_next s k x)
specification_words s k (declares d) h = walked (entity_next s d) (entity_words s d) k d.entities h
specification_words s k (accesses a) h = h
specification_words s k (protects p ns) h = h
specification_words s k (saves p) h = h
specification_words s k (defines t) h = h

member_words : (scene : Scene) (unit : ℕ) (k : Known) (m : Member) → AreWords k → AreWords (member_next scene unit k m)
member_words scene unit k m h =
    walked (specification_next (spot_of scene unit m)) (specification_words (spot_of scene unit m)) (within_member m k) ((m.tree).part).specifications h

unit_words : (scene : Scene) (k : Known) (u : Numbered) → AreWords k → AreWords (unit_next scene k u)
unit_words scene k u h =
    walked (member_next scene u.scope) (member_words scene u.scope) (behind_part scene u k) u.members
    (walked (specification_next (unit_spot scene u)) (specification_words (unit_spot scene u)) (within_unit u k) ((u.tree).part).specifications h)

pub words : ValuesAreWords
words t look order unit scope e =
    walked (unit_next (whole_of t look order).scene) (unit_words (whole_of t look order).scene) nothing_known (units_in (units_of t) order) (λ e. refl) e
