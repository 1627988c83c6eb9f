-- What is known behind all specification parts of the values of named constants: each is of the type of its constant, and none is missing.
use Rattle.std.proofs.Common.{◌≡◌, ℕ, zero, suc, ◌+◌, ◌⊎◌, inl, inr, Bool, true, false, cond, nat_eq, List, [], ◌∷◌, length, Option, None, Some, refl, sym, ap, ◌∙◌}
use Rattle.std.specs.Prelude.{slice_get}
use Rattle.std.specs.List.{flat_map}
use Rattle.std.specs.Map.{lookup}
use mathlib.Core.Path.{subst}
use Rattle.f3_rules.specs.declared.breaks.Break.{Break}
use Rattle.f3_nodes.proofs.Members.{Has, has_left, has_right, has_parts}
use Rattle.f3_scopes.specs.Scopes.{declared_in}
use Rattle.f3_tree.specs.Declarations.{EntityTree, DeclarationTree, SpecificationTree, declares, accesses, protects, saves, defines}
use Rattle.f3_kinds.specs.declared.types.Scalar.{Scalar}
use Rattle.f3_type_rules.specs.Declarations.{constant_value, entity_rows, entity_next, specifier_rows, specification_rows, specification_next, with_entry}
use Rattle.f3_type_rules.specs.Members.{Member}
use Rattle.f3_type_rules.specs.Names.{attributes_of}
use Rattle.f3_type_rules.specs.Shapes.{dimension_rows}
use Rattle.f3_type_rules.specs.Walks.{after, along, context, Known, Spot}
use Rattle.f3_elaboration.specs.Numbers.{Variable, along_part, declared_from, names_in}
use Rattle.f3_lawful_laws.proofs.Facts.{no, nothing, same, first, second}
use Rattle.f3_lawful_laws.proofs.Positions.{eq_same, eq_self}
use Rattle.f3_kind_laws.proofs.Behind.{moves}
use Rattle.f3_kind_laws.proofs.Values.{IsGiven}

-- ---- entries

-- what has an entry is looked up to one
pub found_entry : {X : Type 0} (k : ℕ) (xs : List (ℕ × X)) (x : X) → Has xs (k, x) → (y : X) × (lookup (nat_eq k) xs ≡ Some y) × Has xs (k, y)
found_entry k [] x h = absurd h
found_entry {X} k (z ∷ zs) x h = go (nat_eq k z.0) refl h (λ h. found_entry k zs x h)
  where
    go : (b : Bool) → nat_eq k z.0 ≡ b → ((k, x) ≡ z) ⊎ Has zs (k, x) → (Has zs (k, x) → (y : X) × (lookup (nat_eq k) zs ≡ Some y) × Has zs (k, y))
        → (y : X) × (lookup (nat_eq k) (z ∷ zs) ≡ Some y) × Has (z ∷ zs) (k, y)
    go true is h more = (z.1, ap (λ b. cond b (Some z.1) (lookup (nat_eq k) zs)) is, inl (ap (λ j. (j, z.1)) (eq_same k z.0 is)))
    go false is (inl same) more = no (sym (eq_self k) ∙ ap (λ (w : ℕ × X). nat_eq k w.0) same ∙ is)
    go false is (inr h) more = let r = more h in (r.0, ap (λ b. cond b (Some z.1) (lookup (nat_eq k) zs)) is ∙ r.1, inr r.2)

-- nothing that is known is forgotten
abbrev pub Grows : Known → Known → Type 0
Grows k j = (z : ℕ × Scalar) → Has k.values z → Has j.values z

-- a value of the constant is known, and this holds of it
abbrev pub Covers : Type 0 → ℕ → Known → Type 0
Covers F e k = F × ((v : Scalar) × Has k.values (e, v))

kept_entry : (e : ℕ) (o : Option Scalar) (xs : List (ℕ × Scalar)) (z : ℕ × Scalar) → Has xs z → Has (with_entry e o xs) z
kept_entry e None xs z h = h
kept_entry e (Some v) xs z h = inr h

new_entry : (e : ℕ) (o : Option Scalar) (v : Scalar) (xs : List (ℕ × Scalar)) → o ≡ Some v → Has (with_entry e o xs) (e, v)
new_entry e None v xs is = nothing is
new_entry e (Some w) v xs is = inl (ap (λ z. (e, z)) (sym (same is)))

-- ---- walks

module _ {X : Type 0} (next : Known → X → Known) (grows : (k : Known) (x : X) → Grows k (next k x)) where
  pub after_grows : (k : Known) (xs : List X) → Grows k (after next k xs)
  after_grows k [] z h = h
  after_grows k (x ∷ xs) z h = after_grows (next k x) xs z (grows k x z h)

  -- what one item makes known stays known
  pub covered : (F : Type 0) (rows : Known → X → List Break) (e : ℕ) (k : Known) (xs : List X) → along rows next k xs ≡ [] → (i : ℕ) (x : X) → slice_get xs i ≡ Some x
      → ((j : Known) → rows j x ≡ [] → Covers F e (next j x)) → Covers F e (after next k xs)
  covered F rows e k [] none i x at here = nothing at
  covered F rows e k (y ∷ ys) none zero x at here =
      let c = here k (subst (λ (z : X). rows k z ≡ []) (same at) (first (rows k y) _ none)) in
      let (v, has_v) = c.1 in
      (c.0, (v, after_grows (next k y) ys (e, v) (subst (λ (z : X). Has (next k z).values (e, v)) (sym (same at)) has_v)))
  covered F rows e k (y ∷ ys) none (suc i) x at here = covered F rows e (next k y) ys (second (rows k y) _ none) i x at here

-- what holds of each entry
module _ (P : ℕ → Scalar → Type 0) where
  abbrev pub AllRight : Known → Type 0
  AllRight k = (z : ℕ × Scalar) → Has k.values z → P z.0 z.1

  pub after_right : {X : Type 0} (next : Known → X → Known) (xs : List X) → ((i : ℕ) (x : X) → slice_get xs i ≡ Some x → (k : Known) → AllRight k → AllRight (next k x))
      → (k : Known) → AllRight k → AllRight (after next k xs)
  after_right next [] step k all = all
  after_right next (x ∷ xs) step k all = after_right next xs (λ i y at j h. step (suc i) y at j h) (next k x) (step 0 x refl k all)

  entry_right : (e : ℕ) (o : Option Scalar) (k : Known) → ((v : Scalar) → o ≡ Some v → P e v) → AllRight k → (z : ℕ × Scalar) → Has (with_entry e o k.values) z → P z.0 z.1
  entry_right e None k one all z h = all z h
  entry_right e (Some v) k one all z (inl is) = subst (λ (w : ℕ × Scalar). P w.0 w.1) (sym is) (one v refl)
  entry_right e (Some v) k one all z (inr h) = all z h

  -- ---- along a specification part

  module _ (s : Spot) (u scope : ℕ) where
    -- the values of these names are right, whatever is known where they are declared
    abbrev pub MakesRight : Variable → Type 0
    MakesRight v = (k : Known) (x : Scalar) → constant_value s (v.tree).0 k (v.tree).1 ≡ Some x → P v.entity x

    entities_right : (d : DeclarationTree) (k : Known) (xs : List EntityTree) → ((v : Variable) → Has (declared_from u scope k.next d xs) v → MakesRight v)
        → AllRight k → AllRight (after (entity_next s d) k xs)
    entities_right d k [] make all = all
    entities_right d k (x ∷ xs) make all =
        entities_right d (entity_next s d k x) xs (λ v h. make v (inr h))
        (entry_right k.next (constant_value s d k x) k (λ v is. make (record { entity = k.next; unit = u; scope = scope; tree = (d, x) }) (inl refl) k v is) all)

    one_right : (k : Known) (x : SpecificationTree) → ((v : Variable) → Has (names_in u scope k.next x) v → MakesRight v) → AllRight k → AllRight (specification_next s k x)
    one_right k (declares d) make all = entities_right d k d.entities make all
    one_right k (accesses a) make all = all
    one_right k (protects p ns) make all = all
    one_right k (saves p) make all = all
    one_right k (defines t) make all = all

    pub part_right : (k : Known) (ss : List SpecificationTree) → ((v : Variable) → Has (along_part (names_in u scope) k.next ss) v → MakesRight v)
        → AllRight k → AllRight (after (specification_next s) k ss)
    part_right k [] make all = all
    part_right k (x ∷ ss) make all =
        part_right (specification_next s k x) ss
        (λ v h.
        make v (has_right (names_in u scope k.next x) _ v (subst (λ e. Has (along_part (names_in u scope) e ss) v) (moves s k x) h)))
        (one_right k x (λ v h. make v (has_left (names_in u scope k.next x) _ v h)) all)

module _ (s : Spot) where
  entity_grows : (d : DeclarationTree) (k : Known) (x : EntityTree) → Grows k (entity_next s d k x)
  entity_grows d k x z h = kept_entry k.next (constant_value s d k x) k.values z h

  specification_grows : (k : Known) (x : SpecificationTree) → Grows k (specification_next s k x)
  specification_grows k (declares d) z h = after_grows (entity_next s d) (entity_grows d) k d.entities z h
  specification_grows k (accesses a) z h = h
  specification_grows k (protects p ns) z h = h
  specification_grows k (saves p) z h = h
  specification_grows k (defines t) z h = h

  pub part_grows : (k : Known) (ss : List SpecificationTree) → Grows k (after (specification_next s) k ss)
  part_grows k ss z h = after_grows (specification_next s) specification_grows k ss z h

  -- ---- a named constant of the part

  module _ (F : Type 0) (ms : List Member) (u scope : ℕ) (v : Variable) where
    -- its declaration gives it a value
    abbrev pub Gives : Variable → Type 0
    Gives w = (k : Known) → entity_rows s (w.tree).0 k (w.tree).1 ≡ [] → F × IsGiven s (w.tree).0 k (w.tree).1

    entities_cover : (d : DeclarationTree) (k : Known) (xs : List EntityTree) → along (entity_rows s d) (entity_next s d) k xs ≡ []
        → Has (declared_from u scope k.next d xs) v → Gives v → Covers F v.entity (after (entity_next s d) k xs)
    entities_cover d k [] none h gives = absurd h
    entities_cover d k (x ∷ xs) none (inl is) gives =
        subst (λ (w : Variable). Gives w → Covers F w.entity (after (entity_next s d) (entity_next s d k x) xs)) (sym is) here gives
      where
        here : Gives (record { entity = k.next; unit = u; scope = scope; tree = (d, x) }) → Covers F k.next (after (entity_next s d) (entity_next s d k x) xs)
        here g =
            let made = g k (first (entity_rows s d k x) _ none) in
            let (one, is_one) = made.1 in
            (made.0, (one, after_grows (entity_next s d) (entity_grows d) (entity_next s d k x) xs (k.next, one) (new_entry k.next (constant_value s d k x) one k.values is_one)))
    entities_cover d k (x ∷ xs) none (inr h) gives = entities_cover d (entity_next s d k x) xs (second (entity_rows s d k x) _ none) h gives

    one_cover : (k : Known) (x : SpecificationTree) → specification_rows s ms k x ≡ [] → Has (names_in u scope k.next x) v → Gives v
        → Covers F v.entity (specification_next s k x)
    one_cover k (declares d) none h gives =
        entities_cover d k d.entities (second (flat_map (dimension_rows (context s k)) (attributes_of d)) _ (second (specifier_rows s k d.specifier) _ none)) h gives
    one_cover k (accesses a) none h gives = absurd h
    one_cover k (protects p ns) none h gives = absurd h
    one_cover k (saves p) none h gives = absurd h
    one_cover k (defines t) none h gives = absurd h

    pub part_cover : (k : Known) (ss : List SpecificationTree) → along (specification_rows s ms) (specification_next s) k ss ≡ []
        → Has (along_part (names_in u scope) k.next ss) v → Gives v → Covers F v.entity (after (specification_next s) k ss)
    part_cover k [] none h gives = absurd h
    part_cover k (x ∷ ss) none h gives = elim (has_parts (names_in u scope k.next x) (along_part (names_in u scope) (k.next + length (declared_in x)) ss) v h) [
      | inl here ↦
          let made = one_cover k x (first (specification_rows s ms k x) _ none) here gives in
          let (one, has_one) = made.1 in
          (made.0, (one, part_grows (specification_next s k x) ss (v.entity, one) has_one))
      | inr later ↦
          part_cover (specification_next s k x) ss (second (specification_rows s ms k x) _ none)
          (subst (λ e. Has (along_part (names_in u scope) e ss) v) (sym (moves s k x)) later) gives
    ]
