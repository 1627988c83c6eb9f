-- The names of an ASSOCIATE construct.
use Rattle.std.proofs.Common.{◌≡◌, ℕ, zero, suc, ◌+◌, ◌<◌, Bool, true, false, cond, List, [], ◌∷◌, ◌++◌, length, map, position, nat_eq, Option, None, Some, option_map, refl, sym, ap, ◌∙◌, arith}
use Rattle.std.specs.Prelude.{slice_index_or}
use Rattle.std.specs.List.{flat_map}
use Rattle.std.specs.Map.{lookup}
use mathlib.Core.Path.{subst}
use Rattle.f3_tree.specs.Statements.{AssociationTree}
use Rattle.f3_program.specs.declared.declarations.Kind.{Kind}
use Rattle.f3_program.specs.declared.program.Program.{Program}
use Rattle.f3_kinds.specs.declared.said.Has.{Has}
use Rattle.f3_kinds.specs.Operands.{type_in}
use Rattle.f3_kinds.specs.Typing.{said}
use Rattle.f3_meaning_whole.specs.Permitted.{Each, Lendable, Scope, unknown}
use Rattle.f3_type_rules.specs.declared.definition.Holder.{Holder}
use Rattle.f3_type_rules.specs.Associates.{associated, entities_at}
use Rattle.f3_elaboration.specs.Nodes as n
use Rattle.f3_elaboration.specs.Nodes.{ExpressionNode, SelectorNode}
use Rattle.f3_elaboration.specs.Context.{Surroundings, base, associate_entity}
use Rattle.f3_elaboration.specs.Expressions.{expression}
use Rattle.f3_elaboration.specs.Actions.{kind, kind_by}
use Rattle.f3_elaboration.specs.Statements.{selected, selector}
use Rattle.f3_lawful_laws.specs.Nodes.{designated, NodeValue, NodeSelector, names_by}
use Rattle.f3_lawful_laws.specs.Blocks.{entity_in, IsDeclaredIn, IsFree}
use Rattle.f3_lawful_laws.proofs.Positions.{position_cons, eq_same}
use Rattle.f3_lawful_laws.proofs.Alike.{IsOf}
use Rattle.f3_lawful_laws.proofs.Given.{may_of}

-- ---- names behind others

pub index_behind : (xs ys : List Lendable) (k : ℕ) → slice_index_or (xs ++ ys) (length xs + k) unknown ≡ slice_index_or ys k unknown
index_behind [] ys k = ap (λ j. slice_index_or ys j unknown) (let e : 0 + k ≡ k = omega arith in e)
index_behind (x ∷ xs) ys k =
    ap (λ j. slice_index_or (x ∷ (xs ++ ys)) j unknown) (let e : suc (length xs) + k ≡ suc (length xs + k) = omega arith in e) ∙ index_behind xs ys k

pub index_before : (xs ys : List Lendable) (k : ℕ) → k < length xs → slice_index_or (xs ++ ys) k unknown ≡ slice_index_or xs k unknown
index_before [] ys k lt = absurd (let h : k < 0 = lt in omega (arith, h))
index_before (x ∷ xs) ys zero lt = refl
index_before (x ∷ xs) ys (suc k) lt = index_before xs ys k (let h : suc k < suc (length xs) = lt in omega (arith, h))

module _ (p : Program) (scope : Scope) (s : Surroundings) where
  -- what is known of an associate name
  abbrev pub lendable_by : SelectorNode → Lendable
  lendable_by (n.means d) = designated p scope d
  lendable_by (n.holds k x) = record { may_define = false; of = k.of }

  -- a selector without a break
  abbrev pub IsSelector : AssociationTree → Type 0
  IsSelector x = IsOf p scope s (expression s x.selector) (said s.context x.selector).has

  selected_may : (k : Kind) (e : ExpressionNode) → NodeValue p scope e → NodeSelector p scope (selected k e)
  selected_may k (n.variable d) h = h
  selected_may k e h = h

  pub selectors_may : (xs : List AssociationTree) → Each IsSelector xs → Each (NodeSelector p scope) (map (selector s) xs)
  selectors_may [] h = tt
  selectors_may (x ∷ xs) h = (
    selected_may (kind s x.selector) (expression s x.selector) (may_of p scope s (expression s x.selector) (said s.context x.selector).has h.0),
    selectors_may xs h.1,
  )

  kind_known : (o : Option Has) → base s (type_in o) ≡ (kind_by s o).of
  kind_known None = refl
  kind_known (Some h) = refl

  type_by : (k : Kind) (e : ExpressionNode) (o : Option Has) → IsOf p scope s e o → base s (type_in o) ≡ k.of → (lendable_by (selected k e)).of ≡ base s (type_in o)
  type_by k e None h t = absurd h
  type_by k (n.variable d) (Some y) h t = h.2.0
  type_by k e (Some y) h t = sym t

  -- the type of an associate name is that of its selector
  pub selector_type : (x : AssociationTree) → IsSelector x → (lendable_by (selector s x)).of ≡ base s (type_in (said s.context x.selector).has)
  selector_type x h =
      type_by (kind s x.selector) (expression s x.selector) (said s.context x.selector).has h (kind_known (said s.context x.selector).has)

  -- ---- which name an entity is

  -- the name of the construct that is this entity, by its place
  pub record Named (number : ℕ) (xs : List AssociationTree) (held : ℕ → Option Holder) (e : ℕ) : Type 0 where
    pub place : ℕ
    pub name : AssociationTree
    pub is : IsSelector name
    pub looked : lookup (nat_eq e) (flat_map (associated s.context number) xs) ≡ Some (said s.context name.selector)
    pub placed : position (nat_eq e) (map (associate_entity s.context number) xs) ≡ Some place
    pub known : slice_index_or (names_by p scope (map (selector s) xs)) place unknown ≡ lendable_by (selector s name)
    pub free : IsFree (held e)
    pub low : place < length xs

  pub data Among (number : ℕ) (xs : List AssociationTree) (held : ℕ → Option Holder) (e : ℕ) : Type 0 where
    is_named : Named number xs held e → Among number xs held e
    is_other : lookup (nat_eq e) (flat_map (associated s.context number) xs) ≡ None
        → position (nat_eq e) (map (associate_entity s.context number) xs) ≡ None → Among number xs held e

  one_associated : (number : ℕ) (x : AssociationTree) → IsDeclaredIn (s.context).look number x
      → associated s.context number x ≡ (associate_entity s.context number x, said s.context x.selector) ∷ []
  one_associated number x h = ap (λ l. map (λ (e : ℕ). (e, said s.context x.selector)) (entities_at l)) h

  names_first : (x : SelectorNode) (xs : List SelectorNode) → names_by p scope (x ∷ xs) ≡ lendable_by x ∷ names_by p scope xs
  names_first (n.means d) xs = refl
  names_first (n.holds k e) xs = refl

  pub among : (number : ℕ) (xs : List AssociationTree) (held : ℕ → Option Holder) (e : ℕ) → Each IsSelector xs → Each (IsDeclaredIn (s.context).look number) xs
      → Each (λ (x : AssociationTree). IsFree (held (entity_in (s.context).look number x))) xs → Among number xs held e
  among number [] held e h d f = is_other refl refl
  among number (x ∷ xs) held e h d f = go (nat_eq e (associate_entity s.context number x)) refl (among number xs held e h.1 d.1 f.1)
    where
      looked_at : (b : Bool) → nat_eq e (associate_entity s.context number x) ≡ b
          → lookup (nat_eq e) (associated s.context number x ++ flat_map (associated s.context number) xs)
          ≡ cond b (Some (said s.context x.selector)) (lookup (nat_eq e) (flat_map (associated s.context number) xs))
      looked_at b eq =
          ap (λ zs. lookup (nat_eq e) (zs ++ flat_map (associated s.context number) xs)) (one_associated number x d.0)
          ∙ ap (λ b. cond b (Some (said s.context x.selector)) (lookup (nat_eq e) (flat_map (associated s.context number) xs))) eq

      placed_at : (b : Bool) → nat_eq e (associate_entity s.context number x) ≡ b
          → position (nat_eq e) (map (associate_entity s.context number) (x ∷ xs))
          ≡ cond b (Some 0) (option_map suc (position (nat_eq e) (map (associate_entity s.context number) xs)))
      placed_at b eq =
          position_cons (nat_eq e) (associate_entity s.context number x) (map (associate_entity s.context number) xs)
          ∙ ap (λ b. cond b (Some 0) (option_map suc (position (nat_eq e) (map (associate_entity s.context number) xs)))) eq

      go : (b : Bool) → nat_eq e (associate_entity s.context number x) ≡ b → Among number xs held e → Among number (x ∷ xs) held e
      go true eq rest = is_named record {
        place = 0;
        name = x;
        is = h.0;
        looked = looked_at true eq;
        placed = placed_at true eq;
        known = ap (λ zs. slice_index_or zs 0 unknown) (names_first (selector s x) (map (selector s) xs));
        free = subst (λ j. IsFree (held j)) (sym (eq_same e (associate_entity s.context number x) eq)) f.0;
        low = (let h : 0 < suc (length xs) = omega arith in h);
      }
      go false eq (is_named r) = is_named record {
        place = suc r.place;
        name = r.name;
        is = r.is;
        looked = looked_at false eq ∙ r.looked;
        placed = placed_at false eq ∙ ap (option_map suc) r.placed;
        known = ap (λ zs. slice_index_or zs (suc r.place) unknown) (names_first (selector s x) (map (selector s) xs)) ∙ r.known;
        free = r.free;
        low = (let h : r.place < length xs = r.low in let k : suc r.place < suc (length xs) = omega (arith, h) in k);
      }
      go false eq (is_other a b) = is_other (looked_at false eq ∙ a) (placed_at false eq ∙ ap (option_map suc) b)
