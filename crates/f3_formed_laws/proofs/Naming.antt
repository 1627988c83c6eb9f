-- Associate names are of the kinds of their selectors.
use Rattle.std.proofs.Common.{◌≡◌, ℕ, suc, ◌+◌, Bool, true, false, cond, ◌&&◌, List, [], ◌∷◌, ◌++◌, length, map, position, nat_eq, Option, None, Some, option_map, refl, ap, ◌∙◌, arith}
use Rattle.std.specs.Prelude.{slice_get}
use Rattle.std.specs.List.{flat_map}
use Rattle.std.specs.Map.{lookup}
use Rattle.f3_tree.specs.Statements.{AssociationTree}
use Rattle.f3_program.specs.declared.declarations.Declared.{Declared}
use Rattle.f3_program.specs.declared.declarations.Kind.{Kind}
use Rattle.f3_program.specs.declared.program.Program.{Program}
use Rattle.f3_kinds.specs.declared.said.Has.{Has}
use Rattle.f3_kinds.specs.Things.{map_or}
use Rattle.f3_kinds.specs.Operands.{type_in}
use Rattle.f3_kinds.specs.Typing.{said}
use Rattle.f3_meaning_whole.specs.Permitted.{Each}
use Rattle.f3_meaning_whole.specs.Formed.{alike, of_kind, found, only, valued, given_all}
use Rattle.f3_type_rules.specs.Associates.{associated, entities_at}
use Rattle.f3_elaboration.specs.Nodes as n
use Rattle.f3_elaboration.specs.Nodes.{ExpressionNode}
use Rattle.f3_elaboration.specs.Context.{Surroundings, base, associate_entity}
use Rattle.f3_elaboration.specs.Expressions.{expression}
use Rattle.f3_elaboration.specs.Actions.{kind_by}
use Rattle.f3_elaboration.specs.Statements.{selected, selector}
use Rattle.f3_lawful_laws.specs.Blocks.{IsDeclaredIn}
use Rattle.f3_lawful_laws.proofs.Facts.{both}
use Rattle.f3_lawful_laws.proofs.Positions.{eq_self, position_cons}
use Rattle.f3_formed_laws.specs.Nodes as node
use Rattle.f3_formed_laws.specs.Nodes.{value_kind, object_kind}
use Rattle.f3_formed_laws.proofs.Facts.{when_only}
use Rattle.f3_formed_laws.proofs.Bases.{alike_back}
use Rattle.f3_formed_laws.proofs.Alike.{IsKind, IsOf}

-- what is behind the front of a list
pub behind_front : {X : Type 0} (xs ys : List X) (k : ℕ) → slice_get (xs ++ ys) (length xs + k) ≡ slice_get ys k
behind_front [] ys k = let e : 0 + k ≡ k = omega arith in ap (slice_get ys) e
behind_front (x ∷ xs) ys k =
    let e : suc (length xs) + k ≡ suc (length xs + k) = omega arith in ap (slice_get (x ∷ (xs ++ ys))) e ∙ behind_front xs ys k

module _ (p : Program) (vs : List Declared) (ns : List Kind) (s : Surroundings) where
  abbrev pub IsSelector : AssociationTree → Type 0
  IsSelector x = IsOf p vs ns s (expression s x.selector) (said s.context x.selector).has

  -- the kind of an associate name, which is never allocatable
  abbrev pub name_kind : Option Has → Kind
  name_kind o = of_kind (base s (type_in o)) (map_or 0 (λ (h : Has). h.rank) o)

  selected_is : (x : ExpressionNode) (o : Option Has) → IsOf p vs ns s x o → node.selected p vs ns (selected (kind_by s o) x) ≡ Some (name_kind o)
  selected_is x None h = absurd h
  selected_is x (Some y) h = go x h
    where
      held : (e : ExpressionNode) → IsKind p vs ns s e y → y.is_allocatable ≡ false → node.selected p vs ns (n.holds (kind_by s (Some y)) e) ≡ Some (name_kind (Some y))
      held e h a =
          ap (λ o. found o (λ j. only (alike (base s y.data_type) j.of && nat_eq y.rank j.rank) (kind_by s (Some y)))) h.value
          ∙ when_only _ (kind_by s (Some y)) (both _ _ (alike_back h.of (base s y.data_type) h.alike_to) (eq_self y.rank))
          ∙ ap (λ b. Some (record { of = base s y.data_type; rank = y.rank; is_allocatable = b })) a

      go : (x : ExpressionNode) → IsKind p vs ns s x y → node.selected p vs ns (selected (kind_by s (Some y)) x) ≡ Some (name_kind (Some y))
      go (n.variable d) h = ap (λ o. found o valued) (h.is_as).0
      go e h = held e h (h.is_as).0

  abbrev pub kinds_for : List AssociationTree → List Kind
  kinds_for xs = map (λ (x : AssociationTree). name_kind (said s.context x.selector).has) xs

  pub selectors_are : (xs : List AssociationTree) → Each IsSelector xs → given_all (map (node.selected p vs ns) (map (selector s) xs)) ≡ Some (kinds_for xs)
  selectors_are [] h = refl
  selectors_are (x ∷ xs) h =
      ap (λ o. found o (λ k. found (given_all (map (node.selected p vs ns) (map (selector s) xs))) (λ ks. Some (k ∷ ks))))
      (selected_is (expression s x.selector) (said s.context x.selector).has h.0)
      ∙ ap (λ o. found o (λ ks. Some (name_kind (said s.context x.selector).has ∷ ks))) (selectors_are xs h.1)

  -- ---- which name an entity is

  -- the name of the construct that is this entity, by its place
  pub record Named (number : ℕ) (xs : List AssociationTree) (e : ℕ) : Type 0 where
    pub place : ℕ
    pub name : AssociationTree
    pub is : IsSelector name
    pub looked : lookup (nat_eq e) (flat_map (associated s.context number) xs) ≡ Some (said s.context name.selector)
    pub placed : position (nat_eq e) (map (associate_entity s.context number) xs) ≡ Some place
    pub kind : slice_get (kinds_for xs) place ≡ Some (name_kind (said s.context name.selector).has)

  pub data Among (number : ℕ) (xs : List AssociationTree) (e : ℕ) : Type 0 where
    is_named : Named number xs e → Among number xs e
    is_other : lookup (nat_eq e) (flat_map (associated s.context number) xs) ≡ None
        → position (nat_eq e) (map (associate_entity s.context number) xs) ≡ None → Among number xs e

  one_associated : (number : ℕ) (x : AssociationTree) → IsDeclaredIn (s.context).look number x
      → associated s.context number x ≡ (associate_entity s.context number x, said s.context x.selector) ∷ []
  one_associated number x h = ap (λ l. map (λ (e : ℕ). (e, said s.context x.selector)) (entities_at l)) h

  pub among : (number : ℕ) (xs : List AssociationTree) (e : ℕ) → Each IsSelector xs → Each (IsDeclaredIn (s.context).look number) xs → Among number xs e
  among number [] e h d = is_other refl refl
  among number (x ∷ xs) e h d = go (nat_eq e (associate_entity s.context number x)) refl (among number xs e h.1 d.1)
    where
      looked_at : (b : Bool) → nat_eq e (associate_entity s.context number x) ≡ b
          → lookup (nat_eq e) (associated s.context number x ++ flat_map (associated s.context number) xs)
          ≡ cond b (Some (said s.context x.selector)) (lookup (nat_eq e) (flat_map (associated s.context number) xs))
      looked_at b eq =
          ap (λ zs. lookup (nat_eq e) (zs ++ flat_map (associated s.context number) xs)) (one_associated number x d.0)
          ∙ ap (λ b. cond b (Some (said s.context x.selector)) (lookup (nat_eq e) (flat_map (associated s.context number) xs))) eq

      placed_at : (b : Bool) → nat_eq e (associate_entity s.context number x) ≡ b
          → position (nat_eq e) (map (associate_entity s.context number) (x ∷ xs))
          ≡ cond b (Some 0) (option_map suc (position (nat_eq e) (map (associate_entity s.context number) xs)))
      placed_at b eq =
          position_cons (nat_eq e) (associate_entity s.context number x) (map (associate_entity s.context number) xs)
          ∙ ap (λ b. cond b (Some 0) (option_map suc (position (nat_eq e) (map (associate_entity s.context number) xs)))) eq

      go : (b : Bool) → nat_eq e (associate_entity s.context number x) ≡ b → Among number xs e → Among number (x ∷ xs) e
      go true eq rest = is_named record { place = 0; name = x; is = h.0; looked = looked_at true eq; placed = placed_at true eq; kind = refl }
      go false eq (is_named r) = is_named record {
        place = suc r.place;
        name = r.name;
        is = r.is;
        looked = looked_at false eq ∙ r.looked;
        placed = placed_at false eq ∙ ap (option_map suc) r.placed;
        kind = r.kind;
      }
      go false eq (is_other a b) = is_other (looked_at false eq ∙ a) (placed_at false eq ∙ ap (option_map suc) b)
