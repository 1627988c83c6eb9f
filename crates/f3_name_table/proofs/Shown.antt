-- The lines that the tables give are those of the scopes.
use Rattle.std.proofs.Common.{◌≡◌, ℕ, ◌+◌, List, [], ◌∷◌, ◌++◌, Bool, true, false, Option, Some, length, map, slice_get, codes, refl, sym, ap, subst, ◌∙◌, arith, append_assoc}
use Rattle.std.specs.List.{flat_map}
use Rattle.std.proofs.lemmas.List.{length-append}
use Rattle.f3_tree.specs.declared.program.UnitKind.{UnitKind}
use Rattle.f3_tree.specs.declared.program.UnitKind.TheVariants as unit
use Rattle.f3_tree.specs.Tree.{UnitTree, Tree}
use Rattle.f3_scopes.specs.Outlines.{Scope}
use Rattle.f3_scopes.specs.Scopes.{unit_kind, scope_of_unit, unit_scopes, scopes_from, scopes_of}
use Rattle.f3_lookups.specs.declared.lookup.Visible.{Visible}
use Rattle.f3_access.specs.Listing.{is_private}
use Rattle.f3_access.specs.Tables.{own_of, private_of}
use Rattle.f3_access.proofs.Visibles.{private_of as private_is, private_from}
use Rattle.f3_name_rules.specs.NameBreaks.{text_of}
use Rattle.f3_names.specs.declared.entity.Entity.{Entity}
use Rattle.f3_names.specs.declared.table.Names.{Names}
use Rattle.f3_names.specs.Entities.{described}
use Rattle.f3_names.specs.Tables.{AreNames, scope_numbers}
use Rattle.f3_name_table.specs.NameTable.{unit_word, entity_text, access_in, access_text, line, unit_text, table_text}
use Rattle.f3_names.proofs.Inside.{inner}
use Rattle.f3_name_table.specs.Inner.Lines.{texts_of, access_word, line_by, unit_by, units_by}

-- two tests that are true together are one
same_bool : (a b : Bool) → (a ≡ true → b ≡ true) → (b ≡ true → a ≡ true) → a ≡ b
same_bool true b f g = sym (f refl)
same_bool false true f g = g refl
same_bool false false f g = refl

access_same : (kind : UnitKind) (p : Bool) → access_word kind p ≡ access_in (unit_kind kind) p
access_same unit.Module true = refl
access_same unit.Module false = refl
access_same unit.Program p = refl

same_map : {X : Type 0} (f g : X → List ℕ) (xs : List X) → ((x : X) → f x ≡ g x) → flat_map f xs ≡ flat_map g xs
same_map f g [] h = refl
same_map f g (x ∷ xs) h = ap (λ l. l ++ flat_map f xs) (h x) ∙ ap (λ l. g x ++ l) (same_map f g xs h)

-- what stands behind a list of this length
behind : {X : Type 0} (front : List X) (x : X) (rest : List X) → slice_get (front ++ x ∷ rest) (length front) ≡ Some x
behind [] x rest = refl
behind (y ∷ ys) x rest = behind ys x rest

at_place : {X : Type 0} (front : List X) (x : X) (rest : List X) (k : ℕ) → length front ≡ k → slice_get (front ++ x ∷ rest) k ≡ Some x
at_place front x rest k e = subst (λ (i : ℕ). slice_get (front ++ x ∷ rest) i ≡ Some x) e (behind front x rest)

-- the end of a unit's own line, and the lines behind it
joined : (word name lines : List ℕ) → (word ++ (codes " " ++ (name ++ codes "\n"))) ++ lines ≡ word ++ (codes " " ++ (name ++ (codes "\n" ++ lines)))
joined word name lines = append_assoc word (codes " " ++ (name ++ codes "\n")) lines ∙ ap (λ (l : List ℕ). word ++ (codes " " ++ l)) (append_assoc name (codes "\n") lines)

module _ (t : Tree) (names : Names) (are : AreNames t names) where
  abbrev scopes : List Scope
  scopes = scopes_of t

  private_same : (number : ℕ) (s : Scope) (symbol : ℕ) → slice_get scopes number ≡ Some s → private_of names.tables number symbol ≡ is_private s symbol
  private_same number s symbol here =
      let law = are.tables.private number symbol s here in
      same_bool (private_of names.tables number symbol) (is_private s symbol) (λ h. private_from s symbol (law.0 h)) (λ h. law.1 (private_is s symbol h))

  line_same : (number : ℕ) (u : UnitTree) → slice_get scopes number ≡ Some (scope_of_unit u) → (v : Visible)
      → line_by names number u.kind v ≡ line t.names (described scopes) (scope_of_unit u) v
  line_same number u here v =
      let access : access_word u.kind (private_of names.tables number v.symbol) ≡ access_text (scope_of_unit u) v.symbol =
      access_same u.kind (private_of names.tables number v.symbol) ∙ ap (access_in (unit_kind u.kind)) (private_same number (scope_of_unit u) v.symbol here) in
      ap (λ (texts : List (List ℕ)). codes "  " ++ (text_of texts v.symbol ++ (codes " " ++ (entity_text texts (slice_get names.entities.items v.entity) ++ (access_word u.kind (private_of names.tables number v.symbol) ++ codes "\n"))))) are.texts
      ∙ ap (λ (entities : List Entity). codes "  " ++ (text_of t.names v.symbol ++ (codes " " ++ (entity_text t.names (slice_get entities v.entity) ++ (access_word u.kind (private_of names.tables number v.symbol) ++ codes "\n"))))) are.entities
      ∙ ap (λ (word : List ℕ). codes "  " ++ (text_of t.names v.symbol ++ (codes " " ++ (entity_text t.names (slice_get (described scopes) v.entity) ++ (word ++ codes "\n"))))) access

  abbrev shown : ℕ → List ℕ
  shown number = unit_text t.names (described scopes) (own_of names.tables number) (slice_get scopes number)

  unit_same : (number : ℕ) (u : UnitTree) → slice_get scopes number ≡ Some (scope_of_unit u) → unit_by names (Some number) u ≡ shown number
  unit_same number u here =
      joined (unit_word (unit_kind u.kind)) (text_of (texts_of names) u.name.symbol) (flat_map (line_by names number u.kind) (own_of names.tables number))
      ∙ ap (λ (texts : List (List ℕ)). unit_word (unit_kind u.kind) ++ (codes " " ++ (text_of texts u.name.symbol ++ (codes "\n" ++ flat_map (line_by names number u.kind) (own_of names.tables number))))) are.texts
      ∙ ap (λ (lines : List ℕ). unit_word (unit_kind u.kind) ++ (codes " " ++ (text_of t.names u.name.symbol ++ (codes "\n" ++ lines))))
      (same_map (line_by names number u.kind) (line t.names (described scopes) (scope_of_unit u)) (own_of names.tables number) (line_same number u here))
      ∙ sym (ap (unit_text t.names (described scopes) (own_of names.tables number)) here)

  -- the units that are left: so many scopes come before them, and so many units
  units_same : (us : List UnitTree) (front : List Scope) (before : List ℕ) (n k : ℕ) → length front ≡ n → length before ≡ k → front ++ scopes_from n us ≡ scopes
      → before ++ scope_numbers n us ≡ names.units.items → units_by names k us ≡ flat_map shown (scope_numbers n us)
  units_same [] front before n k f b s m = refl
  units_same (u ∷ us) front before n k f b s m =
      let rest : List Scope = inner n u ++ scopes_from (n + length (unit_scopes n u)) us in
      let next : ℕ = n + length (unit_scopes n u) in
      let numbered : slice_get names.units.items k ≡ Some n = sym (ap (λ (l : List ℕ). slice_get l k) m) ∙ at_place before n (scope_numbers next us) k b in
      let first : slice_get scopes n ≡ Some (scope_of_unit u) = sym (ap (λ (l : List Scope). slice_get l n) s) ∙ at_place front (scope_of_unit u) rest n f in
      let here : unit_by names (slice_get names.units.items k) u ≡ shown n = ap (λ (o : Option ℕ). unit_by names o u) numbered ∙ unit_same n u first in
      let longer : length (front ++ unit_scopes n u) ≡ next = length-append front (unit_scopes n u) ∙ ap (λ (i : ℕ). i + length (unit_scopes n u)) f in
      let one_more : length (before ++ n ∷ []) ≡ k + 1 = length-append before (n ∷ []) ∙ ap (λ (i : ℕ). i + 1) b in
      let scopes_left : (front ++ unit_scopes n u) ++ scopes_from next us ≡ scopes = append_assoc front (unit_scopes n u) (scopes_from next us) ∙ s in
      let numbers_left : (before ++ n ∷ []) ++ scope_numbers next us ≡ names.units.items = append_assoc before (n ∷ []) (scope_numbers next us) ∙ m in
      ap (λ (l : List ℕ). l ++ units_by names (k + 1) us) here
      ∙ ap (λ (l : List ℕ). shown n ++ l) (units_same us (front ++ unit_scopes n u) (before ++ n ∷ []) next (k + 1) longer one_more scopes_left numbers_left)

  pub all_same : units_by names 0 t.units ≡ table_text t (own_of names.tables)
  all_same = units_same t.units [] [] 0 0 refl refl refl (sym are.units)
