-- A type stands behind those of its components.
use Rattle.std.proofs.Common.{◌≡◌, ℕ, zero, suc, ◌+◌, ◌<◌, ◌≤◌, ◌⊎◌, inl, inr, true, not, ◌||◌, nat_lt, List, [], ◌∷◌, length, map, Option, None, Some, refl, sym, ap, ◌∙◌, arith}
use Rattle.std.specs.Prelude.{◌==◌, slice_get}
use Rattle.std.proofs.lemmas.Bool.{cases_order}
use Rattle.std.proofs.lemmas.Bool.Decides.{leb_tells}
use Rattle.std.proofs.lemmas.List.{length-map}
use Rattle.std.proofs.lemmas.Option.{slice_get_within}
use mathlib.Core.Path.{subst}
use Rattle.f3_lookups.specs.declared.lookup.Lookup.{Lookup}
use Rattle.f3_lookups.specs.declared.lookup.Lookup.TheVariants.{One, Nothing, Several}
use Rattle.f3_access.specs.Access.{first_entity}
use Rattle.f3_graph.specs.Units.{node_of, nodes_of}
use Rattle.f3_nodes.proofs.Members.{Has}
use Rattle.f3_scopes.specs.declared.outline.EntityKind.{EntityKind}
use Rattle.f3_scopes.specs.declared.outline.EntityKind.TheVariants as entity
use Rattle.f3_scopes.specs.Scopes.{declared_in, own, scope_of_unit, scopes_of, unit_scopes}
use Rattle.f3_tree.specs.declared.declaration.TypeSpecifier.{TypeSpecifier}
use Rattle.f3_tree.specs.declared.declaration.TypeSpecifier.TheVariants as specifier
use Rattle.f3_tree.specs.Declarations.{EntityTree, DeclarationTree, TypeTree, SpecificationTree, declares, accesses, protects, saves, defines}
use Rattle.f3_tree.specs.Tree.{Tree}
use Rattle.f3_kinds.specs.declared.types.DataType.TheVariants.{Integer, Logical, Derived}
use Rattle.f3_kinds.specs.Rows.{at_name}
use Rattle.f3_rules.specs.declared.rule.Rule.TheVariants.{T3}
use Rattle.f3_kinds.specs.Things.{map_or}
use Rattle.f3_type_rules.specs.declared.definition.Holder.{Holder}
use Rattle.f3_type_rules.specs.Declarations.{type_rows, component_rows, entity_next, specifier_rows, specification_rows, specification_next, type_definition_rows, unit_spot, unit_rows, unit_next, within_unit}
use Rattle.f3_type_rules.specs.Members.{Member, Numbered, numbered}
use Rattle.f3_type_rules.specs.Names.{type_if, type_named, type_of}
use Rattle.f3_type_rules.specs.Program.{nothing_known, program_breaks, units_in}
use Rattle.f3_type_rules.specs.Walks.{after, along, Known, Spot}
use Rattle.f3_elaboration.specs.Declarations.{Whole}
use Rattle.f3_elaboration.specs.Numbers.{Definition, along_part, types_in, definitions, number_in}
use Rattle.f3_lawful_laws.specs.Entities.{units_of, whole_of}
use Rattle.f3_lawful_laws.proofs.Ascending.{Ascends, at_least}
use Rattle.f3_lawful_laws.proofs.Facts.{no, nothing, same, first, second, holds, otherwise}
use Rattle.f3_lawful_laws.proofs.Opening.{each_at, mapped_at}
use Rattle.f3_lawful_laws.proofs.Positions.{eq_self}
use Rattle.f3_order_laws.proofs.Orders.{Needs, stands}
use Rattle.f3_order_laws.proofs.Places.{start, first_more, first_grows, numbered_at, numbered_of}
use Rattle.f3_order_laws.proofs.Resolved.{resolved}
use Rattle.f3_order_laws.proofs.Seen as seen
use Rattle.f3_order_laws.proofs.Walking.{Standing}
use Rattle.f3_formed_laws.specs.Entities.{IsBelow}
use Rattle.f3_entity_laws.specs.Things.{of_unit, type, things_of, IsAmong}
use Rattle.f3_entity_laws.specs.Laws.{definition_at}
use Rattle.f3_entity_laws.proofs.Entities.{holders_of, stand}
use Rattle.f3_entity_laws.proofs.Found.{ordered_unit, unit_once}
use Rattle.f3_entity_laws.proofs.Lists.{split_at, before, before_more, flat_at, flat_block, there}
use Rattle.f3_entity_laws.proofs.Names.{thing_types, type_things}
use Rattle.f3_entity_laws.proofs.Spans.{definitions_span, spans_ascend, type_entity}
use Rattle.f3_agreement_laws.specs.Unbroken.{IsUnbroken}
use Rattle.f3_agreement_laws.proofs.Free.{along_none, nil_of, none_at}
use Rattle.f3_agreement_laws.proofs.Types.{at_places}
use Rattle.f3_kind_laws.specs.Laws.{TypesStandBehind}
use Rattle.f3_kind_laws.proofs.Types.{declared_type}

-- ---- lists

-- what is made of an item stands before what is made of a later one
before_grows : {X Y : Type 0} (f : X → List Y) (xs : List X) (b a : ℕ) (x : X) → slice_get xs b ≡ Some x → b < a → before f b xs + length (f x) ≤ before f a xs
before_grows f [] b a x at lt = nothing at
before_grows f (z ∷ zs) b zero x at lt = absurd (let h : b < 0 = lt in omega (arith, h))
before_grows f (z ∷ zs) zero (suc a) x at lt =
    let more = before_more f a z zs in
    let long : length (f x) ≡ length (f z) = ap (λ y. length (f y)) (sym (same at)) in
    let none : before f 0 (z ∷ zs) ≡ 0 = refl in
    omega (arith, more, long, none)
before_grows f (z ∷ zs) (suc b) (suc a) x at lt =
    let one = before_more f b z zs in
    let two = before_more f a z zs in
    let rest = before_grows f zs b a x at (let h : suc b < suc a = lt in let g : b < a = omega (arith, h) in g) in
    omega (arith, one, two, rest)

later_more : (l : ℕ) (xs : List ℕ) (i j a b : ℕ) → Ascends l xs → slice_get xs i ≡ Some a → slice_get xs j ≡ Some b → i < j → a < b
later_more l [] i j a b up at there lt = nothing at
later_more l (x ∷ xs) i zero a b up at there lt = absurd (let h : i < 0 = lt in omega (arith, h))
later_more l (x ∷ xs) zero (suc j) a b up at there lt =
    let above : suc x ≤ b = at_least (suc x) xs j b up.1 there in let is : x ≡ a = same at in omega (arith, above, is)
later_more l (x ∷ xs) (suc i) (suc j) a b up at there lt =
    later_more (suc x) xs i j a b up.1 at there (let h : suc i < suc j = lt in let g : i < j = omega (arith, h) in g)

-- what is less stands before
earlier : (l : ℕ) (xs : List ℕ) (i j a b : ℕ) → Ascends l xs → slice_get xs i ≡ Some a → slice_get xs j ≡ Some b → a < b → i < j
earlier l xs i j a b up at there lt = elim (cases_order i j) [
  | inl e ↦ absurd (let is : a ≡ b = same (sym at ∙ ap (slice_get xs) e ∙ there) in omega (arith, is, lt))
  | inr (inl less) ↦ less
  | inr (inr more) ↦ absurd (let h : b < a = later_more l xs j i b a up there at more in omega (arith, h, lt))
]

is_less : (a b : ℕ) → nat_lt a b ≡ true → a < b
is_less a b is = elim (leb_tells (suc a) b) [ inl h ↦ (let le = h.1 in omega (arith, le)) | inr h ↦ no (sym is ∙ h.0) ]

-- ---- what is known where a type is defined

module _ (s : Spot) where
  entities_next : (d : DeclarationTree) (xs : List EntityTree) (k : Known) → (after (entity_next s d) k xs).next ≡ k.next + length xs
  entities_next d [] k = omega arith
  entities_next d (x ∷ xs) k = let later = entities_next d xs (entity_next s d k x) in omega (arith, later)

  pub moves : (k : Known) (x : SpecificationTree) → (specification_next s k x).next ≡ k.next + length (declared_in x)
  moves k (declares d) = let moved = entities_next d d.entities k in omega (arith, moved, length-map d.entities (own d.attributes))
  moves k (accesses a) = omega arith
  moves k (protects p ns) = omega arith
  moves k (saves p) = omega arith
  moves k (defines t) = omega arith

  module _ (ms : List Member) (u : Numbered) where
    abbrev IsDefined : Definition → Type 0
    IsDefined d = (k : Known) × (k.next ≡ d.entity) × (type_definition_rows s ms k d.tree ≡ [])

    one_defined : (k : Known) (x : SpecificationTree) → specification_rows s ms k x ≡ [] → (i : ℕ) (d : Definition) → slice_get (types_in u k.next x) i ≡ Some d → IsDefined d
    one_defined k (declares e) none i d at = nothing at
    one_defined k (accesses a) none i d at = nothing at
    one_defined k (protects p ns) none i d at = nothing at
    one_defined k (saves p) none i d at = nothing at
    one_defined k (defines t) none zero d at = subst IsDefined (same at) (k, refl, none)
    one_defined k (defines t) none (suc i) d at = nothing at

    defined : (k : Known) (ss : List SpecificationTree) → along (specification_rows s ms) (specification_next s) k ss ≡ []
        → (i : ℕ) (d : Definition) → slice_get (along_part (types_in u) k.next ss) i ≡ Some d → IsDefined d
    defined k [] none i d at = nothing at
    defined k (x ∷ ss) none i d at = elim (split_at (types_in u k.next x) (along_part (types_in u) (k.next + length (declared_in x)) ss) i d at) [
      | inl here ↦ one_defined k x (first (specification_rows s ms k x) _ none) i d here
      | inr later ↦
          defined (specification_next s k x) ss (second (specification_rows s ms k x) _ none) later.0 d
          (subst (λ e. slice_get (along_part (types_in u) e ss) later.0 ≡ Some d) (sym (moves k x)) later.1)
    ]

-- ---- the type of a component: T3

record IsAbove (s : Spot) (k : Known) (e : ℕ) : Type 0 where
  symbol : ℕ
  looked : ((s.scene).names).look s.scope symbol ≡ One e
  kind : slice_get ((s.scene).names).kinds e ≡ Some entity.DerivedType
  above : map_or true (λ (h : Holder). not (h.scope == s.scope) || nat_lt e k.next) (slice_get (s.scene).holders e) ≡ true

above_of : (s : Spot) (k : Known) (x : TypeSpecifier) (e : ℕ) → specifier_rows s k x ≡ [] → type_of (s.scene).names s.scope x ≡ Some (Derived e) → IsAbove s k e
above_of s k (specifier.Integer i) e none is = let q : Some (Integer i) ≡ Some (Derived e) = is in cc
above_of s k specifier.Logical e none is = let q : Some Logical ≡ Some (Derived e) = is in cc
above_of s k (specifier.Derived n) e none is = by_look (((s.scene).names).look s.scope n.symbol) refl is
  where
    by_kind : (i : ℕ) (o : Option EntityKind) → ((s.scene).names).look s.scope n.symbol ≡ One i → slice_get ((s.scene).names).kinds i ≡ o → type_if i o ≡ Some (Derived e) → IsAbove s k e
    by_kind i (Some entity.DerivedType) looked kind is =
        let q : Some (Derived i) ≡ Some (Derived e) = is in
        let one : i ≡ e = cc in
        let typed : type_of (s.scene).names s.scope (specifier.Derived n) ≡ Some (Derived e) =
        ap (type_named (s.scene).names) looked ∙ ap (type_if i) kind ∙ is in
        record {
          symbol = n.symbol;
          looked = looked ∙ ap One one;
          kind = ap (slice_get ((s.scene).names).kinds) (sym one) ∙ kind;
          above = holds _ (at_name 5 T3 n) (ap (type_rows s k n) (sym typed) ∙ none);
        }
    by_kind i (Some entity.Constant) looked kind is = nothing is
    by_kind i (Some entity.Variable) looked kind is = nothing is
    by_kind i (Some entity.Subroutine) looked kind is = nothing is
    by_kind i (Some entity.Function) looked kind is = nothing is
    by_kind i None looked kind is = nothing is

    by_look : (l : Lookup) → ((s.scene).names).look s.scope n.symbol ≡ l → type_named (s.scene).names l ≡ Some (Derived e) → IsAbove s k e
    by_look (One i) looked is = by_kind i (slice_get ((s.scene).names).kinds i) looked refl is
    by_look Nothing looked is = nothing is
    by_look Several looked is = nothing is

-- ---- units

module _ (units : List Numbered) (Needed : ℕ → ℕ → Type 0) (once : (i j : ℕ) (u : Numbered) → slice_get units i ≡ Some u → slice_get units j ≡ Some u → i ≡ j) where
  -- what a unit needs stands before it
  needed : (done is : List ℕ) (xs : List Numbered) → Standing units Needed done is xs → (a : ℕ) (u : Numbered) → slice_get xs a ≡ Some u
      → (i v : ℕ) → slice_get units i ≡ Some u → Needed i v
      → Has done v ⊎ ((b : ℕ) × (w : Numbered) × (b < a) × (slice_get units v ≡ Some w) × (slice_get xs b ≡ Some w))
  needed done [] [] st a u at i v own needs = nothing at
  needed done [] (x ∷ xs) st a u at i v own needs = absurd st
  needed done (n ∷ is) [] st a u at i v own needs = absurd st
  needed done (n ∷ is) (x ∷ xs) st zero u at i v own needs = inl (st.2 v (subst (λ j. Needed j v) (once i n u own (st.0 ∙ at)) needs))
  needed done (n ∷ is) (x ∷ xs) st (suc a) u at i v own needs = elim (needed (n ∷ done) is xs st.3 a u at i v own needs) [
    | inl (inl e) ↦ inr (0, x, (let h : 0 < suc a = omega arith in h), ap (slice_get units) e ∙ st.0, refl)
    | inl (inr h) ↦ inl h
    | inr (b, w, lt, there, early) ↦ inr (suc b, w, (let h : b < a = lt in let g : suc b < suc a = omega (arith, h) in g), there, early)
  ]

module _ (t : Tree) (look : ℕ → ℕ → Lookup) (order : List ℕ) (free : IsUnbroken t look order) where
  abbrev w : Whole
  w = whole_of t look order

  abbrev ordered : List Numbered
  ordered = units_in (units_of t) order

  numbers : (i : ℕ) → i < length (nodes_of t) → (u : Numbered) × (slice_get (units_of t) i ≡ Some u)
  numbers i lt =
      let long = length-map t.units node_of in
      let u = there t.units i (omega (arith, lt, long)) in
      (numbered (scopes_of t) (start i 0 t.units) u.0, numbered_at (scopes_of t) i 0 t.units u.0 u.1)

  -- a type of a unit belongs to it
  belongs : (i e : ℕ) (u : Numbered) (x : TypeTree) → slice_get (units_of t) i ≡ Some u → slice_get (things_of (units_of t)) e ≡ Some (type (of_unit u) x)
      → seen.Belongs t.units i e
  belongs i e u x at thing =
      let s = stand t e (type (of_unit u) x) thing in
      let (tree, at_tree, is) = numbered_of (scopes_of t) i 0 t.units u at in
      let place : u.scope ≡ start i 0 t.units = ap (λ (z : Numbered). z.scope) is in
      let within = slice_get_within s.scope.declared s.place _ s.declared in
      let more = first_more (scopes_of t) u.scope s.scope s.there in
      let end = seen.next_from t.units i tree at_tree in
      let some = slice_get_within (unit_scopes (start i 0 t.units) tree) 0 (scope_of_unit tree) refl in
      let grows = first_grows (scopes_of t) (u.scope + 1) (start (i + 1) 0 t.units) (omega (arith, place, end, some)) in
      let number = s.number in
      let low : first_entity (scopes_of t) (start i 0 t.units) ≡ first_entity (scopes_of t) u.scope = ap (first_entity (scopes_of t)) (sym place) in
      (omega (arith, low, number), omega (arith, number, within, more, grows))

  -- where the unit of an order is checked nothing is broken
  unit_none : (a : ℕ) (u : Numbered) → slice_get ordered a ≡ Some u → (k : Known) × (unit_rows w.scene k u ≡ [])
  unit_none a u at =
      along_none (unit_rows w.scene) (unit_next w.scene) nothing_known ordered (first _ _ (nil_of (program_breaks t look order) free.types)) a u at

  -- a component's type has a lower number
  component_below : (a : ℕ) (u : Numbered) (j : ℕ) (d : Definition) → slice_get ordered a ≡ Some u → slice_get (definitions u) j ≡ Some d
      → (x : DeclarationTree) → IsAmong (d.tree).components x → (e : ℕ) → type_of (w.scene).names u.scope x.specifier ≡ Some (Derived e)
      → number_in (w.numbers).types e < before definitions a ordered + j
  component_below a u j d at own x among e typed =
      let among_u = ordered_unit t order free.ordered a u at in
      let r = unit_none a u at in
      let s : Spot = unit_spot w.scene u in
      let here = defined s u.members u (within_unit u r.0) ((u.tree).part).specifications (first _ _ r.1) j d own in
      let inner : Spot = record s { is_type = true; listed = [] } in
      let rows : component_rows inner here.0 x ≡ [] = none_at (component_rows inner here.0) (d.tree).components (first _ _ here.2) among.0 x among.1 in
      let h = above_of inner here.0 x.specifier e (first (specifier_rows inner here.0 x.specifier) _ rows) typed in
      let (g, thing, k) = declared_type t look free.outer e h.kind in
      let of_type : slice_get (things_of (units_of t)) e ≡ Some (type (of_unit k.unit) k.tree) = thing ∙ ap Some k.is in
      let c : Definition = definition_at k.unit e k.tree in
      let listed = thing_types t k.unit e k.tree of_type in
      let (tree, at_tree, is) = numbered_of (scopes_of t) among_u.0 0 t.units u among_u.1 in
      let sees =
      seen.unit_sees t.units u.scope h.symbol e (resolved (scopes_of t) look free.means u.scope h.symbol e h.looked) among_u.0 tree at_tree
      (sym (ap (λ (z : Numbered). z.scope) is)) in
      let one : sees.0 ≡ (k.among).0 = seen.apart t.units sees.0 (k.among).0 e sees.2 (belongs (k.among).0 e k.unit k.tree (k.among).1 of_type) in
      elim sees.1 [
        | inl same_unit ↦
            let is_u : k.unit ≡ u = same (sym (k.among).1 ∙ ap (slice_get (units_of t)) (sym one ∙ same_unit) ∙ among_u.1) in
            within_unit_below a u j d at own e here k.unit k.tree listed is_u of_type h
        | inr needs ↦
            elim (needed (units_of t) (Needs (nodes_of t)) (λ i j v. unit_once (scopes_of t) 0 t.units i j v) [] order ordered
            (stands (nodes_of t) order free.ordered (units_of t) numbers) a u at among_u.0 sees.0 among_u.1 needs) [
              | inl none ↦ absurd none
              | inr (b, v, lt, at_v, early) ↦
                  let is_v : k.unit ≡ v = same (sym (k.among).1 ∙ ap (slice_get (units_of t)) (sym one) ∙ at_v) in
                  below_unit a b j e k.unit k.tree listed lt (early ∙ ap Some (sym is_v))
            ]
      ]
    where
      -- the number of a type of the unit at a place of the order
      number_is : (b : ℕ) (v : Numbered) (e : ℕ) (y : TypeTree) (listed : IsAmong (definitions v) (definition_at v e y)) → slice_get ordered b ≡ Some v
          → number_in (w.numbers).types e ≡ before definitions b ordered + listed.0
      number_is b v e y listed early =
          at_places t look order free.ordered (before definitions b ordered + listed.0) (definition_at v e y) (flat_block definitions ordered b v listed.0 (definition_at v e y) early listed.1)

      below_unit : (a b j e : ℕ) (v : Numbered) (y : TypeTree) (listed : IsAmong (definitions v) (definition_at v e y)) → b < a → slice_get ordered b ≡ Some v
          → number_in (w.numbers).types e < before definitions a ordered + j
      below_unit a b j e v y listed lt early =
          let number = number_is b v e y listed early in
          let within = slice_get_within (definitions v) listed.0 (definition_at v e y) listed.1 in
          let grows = before_grows definitions ordered b a v early lt in
          omega (arith, number, within, grows)

      within_unit_below : (a : ℕ) (u : Numbered) (j : ℕ) (d : Definition) → slice_get ordered a ≡ Some u → slice_get (definitions u) j ≡ Some d → (e : ℕ)
          → (here : IsDefined (unit_spot w.scene u) u.members u d) → (v : Numbered) (y : TypeTree) (listed : IsAmong (definitions v) (definition_at v e y)) → v ≡ u
          → slice_get (things_of (units_of t)) e ≡ Some (type (of_unit v) y)
          → IsAbove (record (unit_spot w.scene u) { is_type = true; listed = [] }) here.0 e
          → number_in (w.numbers).types e < before definitions a ordered + j
      within_unit_below a u j d at own e here v y listed is of_type h =
          let held = holders_of t e (type (of_unit v) y) of_type in
          let scope_is : (held.0).scope ≡ u.scope = ap (λ (z : Holder). z.scope) held.2 ∙ ap (λ (z : Numbered). z.scope) is in
          let may : (not ((held.0).scope == u.scope) || nat_lt e (here.0).next) ≡ true =
          ap (map_or true (λ (h : Holder). not (h.scope == u.scope) || nat_lt e (here.0).next)) (sym held.1) ∙ h.above in
          let less : e < (here.0).next =
          is_less e (here.0).next (otherwise (not ((held.0).scope == u.scope)) _ may
          (ap (λ n. not (n == u.scope)) scope_is ∙ ap not (eq_self u.scope))) in
          let next : (here.0).next ≡ d.entity = here.1 in
          let there_e : slice_get (map type_entity (definitions u)) listed.0 ≡ Some e =
          ap (λ z. slice_get (map type_entity (definitions z)) listed.0) (sym is) ∙ mapped_at type_entity (definitions v) listed.0 (definition_at v e y) listed.1 in
          let early : listed.0 < j =
          earlier u.first (map type_entity (definitions u)) listed.0 j e d.entity (spans_ascend u.first _ (map type_entity (definitions u)) (definitions_span u)) there_e
          (mapped_at type_entity (definitions u) j d own) (let z : e < d.entity = omega (arith, less, next) in z) in
          let number = number_is a v e y listed (at ∙ ap Some (sym is)) in
          omega (arith, number, early)

pub behind : TypesStandBehind
behind t look order free k d at =
    let w : Whole = whole_of t look order in
    let f = flat_at definitions (units_in (units_of t) order) k d at in
    let own = type_things t f.1 d (ordered_unit t order free.ordered f.0 f.1 f.3) (f.2, f.4) in
    let unit_is : d.unit ≡ f.1 = ap (λ (z : Definition). z.unit) own.0 in
    each_at (IsBelow w k (d.unit).scope) (d.tree).components (λ i x there e typed.
    subst (λ n. number_in (w.numbers).types e < n) (sym f.5)
    (component_below t look order free f.0 f.1 f.2 d f.3 f.4 x (i, there) e
    (ap (λ (z : Numbered). type_of (w.scene).names z.scope x.specifier) (sym unit_is) ∙ typed)))
