-- What specification parts declare, with the entities.
use Rattle.std.proofs.Common.{◌≡◌, sym, ap, subst, ◌∙◌, inl, inr, ℕ, zero, suc, ◌+◌, ◌⊎◌, List, [], ◌∷◌, length, Some, arith, slice_get}
use Rattle.std.specs.List.{flat_map}
use Rattle.f3_nodes.proofs.Members.{Has, has_left, has_right, has_mapped, has_parts, mapped_of, at_has, has_at}
use Rattle.f3_scopes.specs.declared.outline.EntityKind.TheVariants.{DerivedType}
use Rattle.f3_scopes.specs.Outlines.{Own}
use Rattle.f3_scopes.specs.Scopes.{own, type_own, declared_in}
use Rattle.f3_tree.specs.Declarations.{EntityTree, DeclarationTree, TypeTree, SpecificationTree, declares, accesses, protects, saves, defines}
use Rattle.f3_type_rules.specs.Names.{Declared, entries_in, entries}
use Rattle.f3_elaboration.specs.Numbers.{Variable, declared_from, names_in, along_part}
use Rattle.f3_lawful_laws.proofs.Facts.{nothing, same}
use Rattle.f3_lawful_laws.proofs.Opening.{mapped_at, from_mapped, at_front, at_back}
use Rattle.f3_order_laws.proofs.Places.{at_either}

abbrev pub variable_of : (unit scope entity : ℕ) → Declared → Variable
variable_of u s e x = record { entity = e; unit = u; scope = s; tree = x }

abbrev pub own_by : Declared → Own
own_by x = own (x.0).attributes x.1

abbrev pub symbol_by : Declared → ℕ
symbol_by x = ((x.1).name).symbol

type_kind : (t : TypeTree) (k : ℕ) (o : Own) → slice_get (type_own t ∷ []) k ≡ Some o → o.kind ≡ DerivedType
type_kind t zero o h = ap (λ (z : Own). z.kind) (sym (same h))
type_kind t (suc k) o h = nothing h

module _ (u s : ℕ) where
  from_place : (e : ℕ) (d : DeclarationTree) (xs : List EntityTree) (k : ℕ) (x : EntityTree) → slice_get xs k ≡ Some x
      → Has (declared_from u s e d xs) (variable_of u s (e + k) (d, x))
  from_place e d [] k x at = nothing at
  from_place e d (y ∷ ys) zero x at =
      inl (ap (λ n. variable_of u s n (d, x)) (let z : e + 0 ≡ e = omega arith in z) ∙ ap (λ (z : EntityTree). variable_of u s e (d, z)) (sym (same at)))
  from_place e d (y ∷ ys) (suc k) x at =
      inr (subst (λ n. Has (declared_from u s (e + 1) d ys) (variable_of u s n (d, x))) (let z : e + 1 + k ≡ e + suc k = omega arith in z)
      (from_place (e + 1) d ys k x at))

  -- a name that a specification part declares at a place
  pub record At (e : ℕ) (ss : List SpecificationTree) (place : ℕ) (x : Declared) : Type 0 where
    pub there : Has (along_part (names_in u s) e ss) (variable_of u s (e + place) x)
    pub declared : slice_get (flat_map declared_in ss) place ≡ Some (own_by x)
    pub entry : Has (entries ss) (symbol_by x, x)

  front : (e : ℕ) (y : SpecificationTree) (ys : List SpecificationTree) (place : ℕ) (x : Declared)
      → Has (names_in u s e y) (variable_of u s (e + place) x) → slice_get (declared_in y) place ≡ Some (own_by x) → Has (entries_in y) (symbol_by x, x)
      → At e (y ∷ ys) place x
  front e y ys place x there declared entry = record {
    there = has_left (names_in u s e y) _ _ there;
    declared = at_front (declared_in y) (flat_map declared_in ys) place (own_by x) declared;
    entry = has_left (entries_in y) (entries ys) _ entry;
  }

  behind : (e : ℕ) (y : SpecificationTree) (ys : List SpecificationTree) (place : ℕ) (x : Declared) → At (e + length (declared_in y)) ys place x
      → At e (y ∷ ys) (length (declared_in y) + place) x
  behind e y ys place x h = record {
    there =
        subst (λ n. Has (along_part (names_in u s) e (y ∷ ys)) (variable_of u s n x))
        (let z : e + length (declared_in y) + place ≡ e + (length (declared_in y) + place) = omega arith in z)
        (has_right (names_in u s e y) (along_part (names_in u s) (e + length (declared_in y)) ys) _ h.there);
    declared = at_back (declared_in y) (flat_map declared_in ys) place (own_by x) h.declared;
    entry = has_right (entries_in y) (entries ys) _ h.entry;
  }

  in_declaration : (e : ℕ) (d : DeclarationTree) (ys : List SpecificationTree) (k : ℕ) (x : EntityTree) → slice_get d.entities k ≡ Some x → At e (declares d ∷ ys) k (d, x)
  in_declaration e d ys k x at =
      front e (declares d) ys k (d, x) (from_place e d d.entities k x at) (mapped_at (own d.attributes) d.entities k x at)
      (has_mapped (λ (x : EntityTree). ((x.name).symbol, (d, x))) d.entities x (at_has d.entities k x at))

  -- what is declared at a place is a type, or a name
  pub declared_at : (e : ℕ) (ss : List SpecificationTree) (place : ℕ) (o : Own) → slice_get (flat_map declared_in ss) place ≡ Some o
      → (o.kind ≡ DerivedType) ⊎ ((x : Declared) × At e ss place x × (o ≡ own_by x))
  declared_at e [] place o at = nothing at
  declared_at e (y ∷ ys) place o at = elim (at_either (declared_in y) (flat_map declared_in ys) place o at) [
    | inl here ↦ first y here
    | inr there ↦ later there.0 there.2 (declared_at (e + length (declared_in y)) ys there.0 o there.1)
  ]
    where
      first : (y : SpecificationTree) → slice_get (declared_in y) place ≡ Some o → (o.kind ≡ DerivedType) ⊎ ((x : Declared) × At e (y ∷ ys) place x × (o ≡ own_by x))
      first (declares d) here =
          let r = from_mapped (own d.attributes) d.entities place o here in inr ((d, r.0), in_declaration e d ys place r.0 r.1, sym r.2)
      first (defines t) here = inl (type_kind t place o here)
      first (accesses a) here = nothing here
      first (protects p ns) here = nothing here
      first (saves p) here = nothing here

      later : (k : ℕ) → length (declared_in y) + k ≡ place → (o.kind ≡ DerivedType) ⊎ ((x : Declared) × At (e + length (declared_in y)) ys k x × (o ≡ own_by x))
          → (o.kind ≡ DerivedType) ⊎ ((x : Declared) × At e (y ∷ ys) place x × (o ≡ own_by x))
      later k long (inl h) = inl h
      later k long (inr (x, h, is)) = inr (x, subst (λ n. At e (y ∷ ys) n x) long (behind e y ys k x h), is)

  -- each entry is a name at a place
  pub entry_at : (e : ℕ) (ss : List SpecificationTree) (z : ℕ × Declared) → Has (entries ss) z → (place : ℕ) × At e ss place z.1 × (z.0 ≡ symbol_by z.1)
  entry_at e [] z h = absurd h
  entry_at e (y ∷ ys) z h = elim (has_parts (entries_in y) (entries ys) z h) [
    | inl here ↦ first y here
    | inr there ↦ (let r = entry_at (e + length (declared_in y)) ys z there in (length (declared_in y) + r.0, behind e y ys r.0 z.1 r.1, r.2))
  ]
    where
      first : (y : SpecificationTree) → Has (entries_in y) z → (place : ℕ) × At e (y ∷ ys) place z.1 × (z.0 ≡ symbol_by z.1)
      first (declares d) here =
          let r = mapped_of (λ (x : EntityTree). ((x.name).symbol, (d, x))) d.entities z here in
          let p = has_at d.entities r.0 r.1 in (
            p.0,
            subst (λ (x : Declared). At e (declares d ∷ ys) p.0 x) (sym (ap (λ (w : ℕ × Declared). w.1) r.2)) (in_declaration e d ys p.0 r.0 p.1),
            ap (λ (w : ℕ × Declared). w.0) r.2 ∙ sym (ap (λ (w : ℕ × Declared). symbol_by w.1) r.2),
          )
      first (defines t) here = absurd here
      first (accesses a) here = absurd here
      first (protects p ns) here = absurd here
      first (saves p) here = absurd here
