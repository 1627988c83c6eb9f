-- The rows along the outlines, and the breaks of the rules on what is visible.
use Rattle.std.proofs.Common.{◌≡◌, ℕ, zero, suc, ◌+◌, List, [], ◌∷◌, ◌++◌, map, refl, sym, ap, subst, ◌∙◌, arith, inl, inr, Contains, Bool, true, false, Option, None, Some, slice_get}
use Rattle.std.specs.List.{flat_map}
use Rattle.std.proofs.lemmas.Bool.{true≢false}
use Rattle.f3_rules.specs.declared.breaks.Break.{Break}
use Rattle.f3_rules.specs.Least.{Least, first_of}
use Rattle.f3_rules.proofs.Firsts.{first_is_least, least_same}
use Rattle.f3_tree.specs.declared.expression.Name.{Name}
use Rattle.f3_scopes.specs.declared.outline.ScopeKind.{ScopeKind}
use Rattle.f3_scopes.specs.declared.outline.ScopeKind.TheVariants.{Module, Program, Subroutine, Function, Associate}
use Rattle.f3_scopes.specs.declared.outline.UseOutline.{UseOutline}
use Rattle.f3_scopes.specs.declared.outline.Outline.{Outline}
use Rattle.f3_scopes.specs.Outlines.{Scope, Using, Own, Listed, scope_view, using_view, own_view, listed_view}
use Rattle.f3_access.specs.declared.table.Tables.{Tables}
use Rattle.f3_access.specs.Access.{IsModule}
use Rattle.f3_scopes.specs.Kinds.{is_module}
use Rattle.f3_access.specs.Tables.{AreTables, lookup_of, private_of, module_of}
use Rattle.f3_access.proofs.Members.{Has, has_of, contains_of, has_left, has_right, has_parts, has_piece, piece_of, has_mapped, mapped_of}
use Rattle.f3_name_rules.specs.NameBreaks.{UsesName, GivesAttribute, declared, protects, RefersTo, AccessBreaks, no_such_name, private_there, attribute_on_used, access_to_nothing, not_accessible, of_several}
use Rattle.f3_name_rules.specs.Inner.Rows.{seen_row, item_row, items_row, use_row, attribute_row, declared_row, listed_row, access_row, accesses_row, reference_row, attributes_row, mentions_row, scope_row, scopes_row}
use Rattle.f3_name_rules.proofs.Places.{at_place, placed, at_view, of_view}
use Rattle.f3_name_rules.proofs.Said.{seen_said, row_of_missing, row_of_private, attribute_said, row_of_used, missing_said, row_of_nothing, found_said, row_of_unknown, row_of_several}

module_kind : (kind : ScopeKind) → is_module kind ≡ true → kind ≡ Module
module_kind Module t = refl
module_kind Program t = absurd (true≢false (sym t))
module_kind Subroutine t = absurd (true≢false (sym t))
module_kind Function t = absurd (true≢false (sym t))
module_kind Associate t = absurd (true≢false (sym t))

module _ (tables : Tables) (texts : List (List ℕ)) where
  -- the rows of scopes that are numbered from n on
  rows_of : (n : ℕ) (xs : List Outline) (b : Break) → Has (scopes_row tables texts n xs) b → (k : ℕ) × (x : Outline) × (slice_get xs k ≡ Some x) × Has (scope_row tables texts (n + k) x) b
  rows_of n [] b h = absurd h
  rows_of n (x ∷ xs) b h = elim (has_parts (scope_row tables texts n x) (scopes_row tables texts (n + 1) xs) b h) [
    | inl a ↦ (zero, x, refl, subst (λ m. Has (scope_row tables texts m x) b) (omega arith) a)
    | inr c ↦ let r = rows_of (n + 1) xs b c in (suc r.0, r.1, r.2, subst (λ m. Has (scope_row tables texts m r.1) b) (omega arith) r.3)
  ]

  in_rows : (n : ℕ) (xs : List Outline) (k : ℕ) (x : Outline) (b : Break) → slice_get xs k ≡ Some x → Has (scope_row tables texts (n + k) x) b → Has (scopes_row tables texts n xs) b
  in_rows n [] k x b q h = let bad : None ≡ Some x = q in absurd (cc)
  in_rows n (y ∷ ys) zero x b q h =
      let same : Some y ≡ Some x = q in
      let is : y ≡ x = cc in
      has_left (scope_row tables texts n y) (scopes_row tables texts (n + 1) ys) b (rw is (subst (λ m. Has (scope_row tables texts m x) b) (omega arith) h))
  in_rows n (y ∷ ys) (suc k) x b q h =
      has_right (scope_row tables texts n y) (scopes_row tables texts (n + 1) ys) b (in_rows (n + 1) ys k x b q (subst (λ m. Has (scope_row tables texts m x) b) (omega arith) h))

module _ (outlines : List Outline) (texts : List (List ℕ)) (tables : Tables) (are : AreTables (map scope_view outlines) tables) (b : Break) where
  abbrev scopes : List Scope
  scopes = map scope_view outlines

  abbrev Found : Type 0
  Found = AccessBreaks scopes texts b

  abbrev InRows : Type 0
  InRows = Has (scopes_row tables texts 0 outlines) b

  -- from the rows to the rules
  module _ (number : ℕ) (outline : Outline) (here : slice_get outlines number ≡ Some outline) where
    at_number : slice_get scopes number ≡ Some (scope_view outline)
    at_number = at_view scope_view outlines number outline here

    item_said : (u : UseOutline) → Has outline.uses.items u → (o : Option ℕ) → module_of tables u.module.symbol ≡ o → Has (items_row tables o u.items.items) b → Found
    item_said u among None e h = absurd h
    item_said u among (Some source) e h =
        let is = (are.modules source u.module.symbol).0 e in
        let r = piece_of (item_row tables source) u.items.items b h in
        let name = r.0.original in
        seen_said scopes texts tables are b source name (lookup_of tables source name.symbol) (are.resolves source name.symbol).as_said (
          scope_view outline,
          contains_of scopes (scope_view outline) (at_place scopes number (scope_view outline) at_number),
          using_view u,
          contains_of (map using_view outline.uses.items) (using_view u) (has_mapped using_view outline.uses.items u among),
          is,
          r.0,
          contains_of u.items.items r.0 r.1,
          refl,
        ) is.0 is.1 r.2

    attributes_said : Has (attributes_row tables number outline) b → Found
    attributes_said h = elim (has_parts (flat_map (declared_row tables number) outline.declared.items) (flat_map (attribute_row tables number) outline.protects.items) b h) [
      | inl a ↦ let r = piece_of (declared_row tables number) outline.declared.items b a in
          attribute_said scopes texts tables are b number r.0.name (scope_view outline) at_number
          (declared (own_view r.0) (contains_of (map own_view outline.declared.items) (own_view r.0) (has_mapped own_view outline.declared.items r.0 r.1)) refl) r.2
      | inr a ↦ let r = piece_of (attribute_row tables number) outline.protects.items b a in
          attribute_said scopes texts tables are b number r.0 (scope_view outline) at_number (protects (contains_of outline.protects.items r.0 r.1)) r.2
    ]

    accesses_said : (t : Bool) → is_module outline.kind ≡ t → Has (accesses_row tables number t outline.accesses.items) b → Found
    accesses_said true t h =
        let r = piece_of (access_row tables number) outline.accesses.items b h in
        let s = piece_of (listed_row tables number) r.0.names.items b r.2 in
        let m = missing_said scopes texts tables are b number s.0 (lookup_of tables number s.0.symbol) (are.resolves number s.0.symbol).as_said s.2 in
        access_to_nothing (
          number,
          scope_view outline,
          at_number,
          module_kind outline.kind t,
          listed_view r.0,
          contains_of (map listed_view outline.accesses.items) (listed_view r.0) (has_mapped listed_view outline.accesses.items r.0 r.1),
          s.0,
          contains_of r.0.names.items s.0 s.1,
          m.0,
          m.1,
        )
    accesses_said false t h = absurd h

    mentions_said : Has (mentions_row tables texts number outline) b → Found
    mentions_said h = elim (has_parts (accesses_row tables number (is_module outline.kind) outline.accesses.items) (flat_map (reference_row tables texts number) outline.references.items) b h) [
      | inl a ↦ accesses_said (is_module outline.kind) refl a
      | inr a ↦ let r = piece_of (reference_row tables texts number) outline.references.items b a in
          found_said scopes texts tables are b number r.0 (lookup_of tables number r.0.symbol) (are.resolves number r.0.symbol).as_said
          (scope_view outline, at_number, contains_of outline.references.items r.0 r.1) r.2
    ]

    scope_said : Has (scope_row tables texts number outline) b → Found
    scope_said h = elim (has_parts (flat_map (use_row tables) outline.uses.items) (attributes_row tables number outline ++ mentions_row tables texts number outline) b h) [
      | inl a ↦ let r = piece_of (use_row tables) outline.uses.items b a in item_said r.0 r.1 (module_of tables r.0.module.symbol) refl r.2
      | inr c ↦ elim (has_parts (attributes_row tables number outline) (mentions_row tables texts number outline) b c) [ inl a ↦ attributes_said a | inr a ↦ mentions_said a ]
    ]

  said : InRows → Found
  said h =
      let r = rows_of tables texts 0 outlines b h in
      scope_said r.0 r.1 r.2 (subst (λ n. Has (scope_row tables texts n r.1) b) (omega arith) r.3)

  -- from the rules to the rows
  module _ (number : ℕ) (outline : Outline) (here : slice_get outlines number ≡ Some outline) where
    in_scope : Has (scope_row tables texts number outline) b → InRows
    in_scope h = in_rows tables texts 0 outlines number outline b here (subst (λ n. Has (scope_row tables texts n outline) b) (omega arith) h)

    in_uses : Has (flat_map (use_row tables) outline.uses.items) b → InRows
    in_uses h = in_scope (has_left (flat_map (use_row tables) outline.uses.items) (attributes_row tables number outline ++ mentions_row tables texts number outline) b h)

    in_attributes : Has (attributes_row tables number outline) b → InRows
    in_attributes h =
        in_scope (has_right (flat_map (use_row tables) outline.uses.items) (attributes_row tables number outline ++ mentions_row tables texts number outline) b
        (has_left (attributes_row tables number outline) (mentions_row tables texts number outline) b h))

    in_mentions : Has (mentions_row tables texts number outline) b → InRows
    in_mentions h =
        in_scope (has_right (flat_map (use_row tables) outline.uses.items) (attributes_row tables number outline ++ mentions_row tables texts number outline) b
        (has_right (attributes_row tables number outline) (mentions_row tables texts number outline) b h))

  use_in : (source : ℕ) (name : Name) → UsesName scopes source name → Has (seen_row (lookup_of tables source name.symbol) (private_of tables source name.symbol) name) b → InRows
  use_in source name (scope, among, u, used, is, i, listed, same) h =
      let m = mapped_of scope_view outlines scope (has_of scopes scope among) in
      let p = placed outlines m.0 m.1 in
      let v = mapped_of using_view m.0.uses.items u (has_of (map using_view m.0.uses.items) u (subst (λ (s : Scope). Contains s.uses u) m.2 used)) in
      let found : module_of tables v.0.module.symbol ≡ Some source = (are.modules source v.0.module.symbol).1 (subst (λ (w : Using). IsModule scopes source w.from.symbol) v.2 is) in
      let item : Has v.0.items.items i = has_of v.0.items.items i (subst (λ (w : Using). Contains w.items i) v.2 listed) in
      let row : Has (item_row tables source i) b = subst (λ (n : Name). Has (seen_row (lookup_of tables source n.symbol) (private_of tables source n.symbol) n) b) (sym same) h in
      in_uses p.0 m.0 p.1 (has_piece (use_row tables) m.0.uses.items v.0 b v.1 (rw found (has_piece (item_row tables source) v.0.items.items i b item row)))

  attribute_in : (number : ℕ) (scope : Scope) → slice_get scopes number ≡ Some scope → (name : Name) → GivesAttribute scope name → Has (attribute_row tables number name) b → InRows
  attribute_in number scope at_number name (declared d among same) h =
      let m = of_view scope_view outlines number scope at_number in
      let v = mapped_of own_view m.0.declared.items d (has_of (map own_view m.0.declared.items) d (subst (λ (s : Scope). Contains s.declared d) m.2 among)) in
      let row : Has (declared_row tables number v.0) b = subst (λ (o : Own). Has (attribute_row tables number o.name) b) v.2 (subst (λ (n : Name). Has (attribute_row tables number n) b) same h) in
      in_attributes number m.0 m.1 (has_left (flat_map (declared_row tables number) m.0.declared.items) (flat_map (attribute_row tables number) m.0.protects.items) b
      (has_piece (declared_row tables number) m.0.declared.items v.0 b v.1 row))
  attribute_in number scope at_number name (protects among) h =
      let m = of_view scope_view outlines number scope at_number in
      in_attributes number m.0 m.1 (has_right (flat_map (declared_row tables number) m.0.declared.items) (flat_map (attribute_row tables number) m.0.protects.items) b
      (has_piece (attribute_row tables number) m.0.protects.items name b (has_of m.0.protects.items name (subst (λ (s : Scope). Contains s.protects name) m.2 among)) h))

  reference_in : (number : ℕ) (name : Name) → RefersTo scopes number name → Has (reference_row tables texts number name) b → InRows
  reference_in number name (scope, at_number, among) h =
      let m = of_view scope_view outlines number scope at_number in
      in_mentions number m.0 m.1 (has_right (accesses_row tables number (is_module m.0.kind) m.0.accesses.items) (flat_map (reference_row tables texts number) m.0.references.items) b
      (has_piece (reference_row tables texts number) m.0.references.items name b (has_of m.0.references.items name (subst (λ (s : Scope). Contains s.references name) m.2 among)) h))

  access_in : (number : ℕ) (scope : Scope) → slice_get scopes number ≡ Some scope → scope.kind ≡ Module → (statement : Listed) → Contains scope.accesses statement → (name : Name) → Contains statement.names name
      → Has (listed_row tables number name) b → InRows
  access_in number scope at_number kind statement among name listed h =
      let m = of_view scope_view outlines number scope at_number in
      let v = mapped_of listed_view m.0.accesses.items statement (has_of (map listed_view m.0.accesses.items) statement (subst (λ (s : Scope). Contains s.accesses statement) m.2 among)) in
      let row : Has (access_row tables number v.0) b = has_piece (listed_row tables number) v.0.names.items name b (has_of v.0.names.items name (subst (λ (l : Listed). Contains l.names name) v.2 listed)) h in
      let is : m.0.kind ≡ Module = sym (ap (λ (s : Scope). s.kind) m.2) ∙ kind in
      in_mentions number m.0 m.1 (has_left (accesses_row tables number (is_module m.0.kind) m.0.accesses.items) (flat_map (reference_row tables texts number) m.0.references.items) b
      (rw is (has_piece (access_row tables number) m.0.accesses.items v.0 b v.1 row)))

  in_row : Found → InRows
  in_row (no_such_name (source, name, uses, none, e)) =
      use_in source name uses (row_of_missing scopes texts tables are b source name (lookup_of tables source name.symbol) (are.resolves source name.symbol).as_said none e)
  in_row (private_there (source, name, uses, entity, visible, from, at_source, private, e)) =
      use_in source name uses (row_of_private scopes texts tables are b source name (lookup_of tables source name.symbol) (are.resolves source name.symbol).as_said entity visible from at_source private e)
  in_row (attribute_on_used (number, scope, at_number, name, gives, entity, used, e)) =
      attribute_in number scope at_number name gives (row_of_used scopes texts tables are b number name entity used e)
  in_row (access_to_nothing (number, scope, at_number, kind, statement, among, name, listed, none, e)) =
      access_in number scope at_number kind statement among name listed
      (row_of_nothing scopes texts tables are b number name (lookup_of tables number name.symbol) (are.resolves number name.symbol).as_said none e)
  in_row (not_accessible (number, name, refers, none, unknown, e)) =
      reference_in number name refers (row_of_unknown scopes texts tables are b number name (lookup_of tables number name.symbol) (are.resolves number name.symbol).as_said none unknown e)
  in_row (of_several (number, name, refers, d, other, visible, also_visible, apart, e)) =
      reference_in number name refers (row_of_several scopes texts tables are b number name (lookup_of tables number name.symbol) (are.resolves number name.symbol).as_said d other visible also_visible apart e)

-- the first of the rows is the least break
pub least_access : (outlines : List Outline) (texts : List (List ℕ)) (tables : Tables) → AreTables (map scope_view outlines) tables
    → Least (first_of (scopes_row tables texts 0 outlines)) (AccessBreaks (map scope_view outlines) texts)
least_access outlines texts tables are =
    least_same (first_is_least (scopes_row tables texts 0 outlines))
    (λ b h. said outlines texts tables are b (has_of (scopes_row tables texts 0 outlines) b h))
    (λ b h. contains_of (scopes_row tables texts 0 outlines) b (in_row outlines texts tables are b h))
