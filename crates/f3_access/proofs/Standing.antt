-- A table that is written leaves the others true.
use Rattle.std.proofs.Common.{◌≡◌, ◌≢◌, ℕ, zero, suc, ◌+◌, ◌<◌, ◌≤◌, List, [], ◌∷◌, ◌++◌, length, map, take, set, get_or, nat_eq, Vec, Global, Option, None, Some, Bool, true, false, if◌then◌else◌, slice_get, refl, sym, ap, subst, ◌∙◌, arith, ◌⊎◌, inl, inr, Contains}
use Rattle.std.specs.List.{All, list_any, flat_map}
use Rattle.std.specs.Option.{option_map}
use Rattle.std.proofs.lemmas.Bool.{cases_lt, true≢false}
use Rattle.std.proofs.lemmas.List.{get_or-set_other, get_or-set_same, get_or-take, length-take, length-set, length-append, length-map, get_or-map, get_or_default}
use Rattle.std.proofs.lemmas.List.Elements.{All-nil, All-head, All-tail, All-push, All-map, All-weaker, All-contains_itself}
use Rattle.std.proofs.lemmas.Option.{slice_get-get_or, slice_get_past, slice_get_within, slice_get_cases, slice_get-map, slice_get_read}
use Rattle.indexmap.specs.IndexSet.{insert_all, insert_key}
use Rattle.f3_scopes.specs.declared.outline.Outline.{Outline}
use Rattle.f3_scopes.specs.Outlines.{Scope, Using, scope_view}
use Rattle.f3_lookups.specs.declared.lookup.Visible.{Visible}
use Rattle.f3_access.specs.declared.table.ScopeTable.{ScopeTable}
use Rattle.f3_selecting.specs.declared.choosing.Accesses.{Accesses}
use Rattle.f3_access.specs.Access.{entities_of, first_entity, IsUnitOrder}
use Rattle.f3_access.specs.Listing.{numbered, lists_from, module_named, called, exports_of, used_pairs, is_unit}
use Rattle.f3_selecting.specs.Sources.{module_from}
use Rattle.f3_selecting.specs.Sources.{modules_of}
use Rattle.f3_selecting.specs.Private.{is_private}
use Rattle.f3_access.specs.Parts.{exports_in, exports_at, IsTable, IsTableOf, Stands, UnitsStand, Done, AllStand}
use Rattle.f3_selecting.specs.Private.{makes_private, AreAccesses}
use Rattle.f3_access.proofs.Modules.{named_of, module_is_unit, is_a_unit}
use Rattle.f3_access.proofs.Chosen.{same_flat}

-- what is read of a list that is written at a place
slice_get-set_other : {X : Type 0} (xs : List X) (i j : ℕ) (x : X) → j ≢ i → slice_get (set xs i x) j ≡ slice_get xs j
slice_get-set_other xs i j x ne = elim (cases_lt j (length xs)) [
  | inl lt ↦ slice_get-get_or (set xs i x) j x (omega (arith, length-set xs i x)) ∙ ap Some (get_or-set_other xs i j x x ne) ∙ sym (slice_get-get_or xs j x lt)
  | inr ge ↦ slice_get_past (set xs i x) j (omega (arith, length-set xs i x)) ∙ sym (slice_get_past xs j ge)
]

slice_get-set_same : {X : Type 0} (xs : List X) (i : ℕ) (x : X) → i < length xs → slice_get (set xs i x) i ≡ Some x
slice_get-set_same xs i x lt = slice_get-get_or (set xs i x) i x (omega (arith, length-set xs i x)) ∙ ap Some (get_or-set_same xs i x x lt)

-- what each scope declares
pub lists_long : (k : ℕ) (scopes : List Scope) → length (lists_from k scopes) ≡ length scopes
lists_long k [] = refl
lists_long k (s ∷ ss) = ap suc (lists_long (k + length s.declared) ss)

pub declared_at : (k : ℕ) (scopes : List Scope) (u : ℕ) (scope : Scope) → slice_get scopes u ≡ Some scope → get_or (lists_from k scopes) u [] ≡ numbered (k + first_entity scopes u) scope.declared
declared_at k [] u scope at_u = absurd (let past : u < length {A = Scope} [] = slice_get_within [] u scope at_u in omega arith)
declared_at k (s ∷ ss) zero scope at_u =
    let same : s ≡ scope = cc in
    let none : k + first_entity (s ∷ ss) 0 ≡ k = omega arith in
    ap (λ x. numbered k x.declared) same ∙ ap (λ n. numbered n scope.declared) (sym none)
declared_at k (s ∷ ss) (suc u) scope at_u =
    let more : (k + length s.declared) + first_entity ss u ≡ k + first_entity (s ∷ ss) (suc u) = omega (arith, length-append s.declared (entities_of (take u ss))) in
    declared_at (k + length s.declared) ss u scope at_u ∙ ap (λ n. numbered n scope.declared) more

pub outline_at : (outlines : List Outline) (number : ℕ) (o : Outline) → o ≡ get_or outlines number o → number < length outlines → slice_get (map scope_view outlines) number ≡ Some (scope_view o)
outline_at outlines number o here lt = slice_get-map scope_view outlines number ∙ ap (option_map scope_view) (slice_get_read outlines (length outlines) number o refl lt here)

-- the accesses of one scope
pub access_within : (outlines : List Outline) (accesses : List Accesses) (number : ℕ) → AreAccesses (map scope_view outlines) accesses → number < length outlines → number < length accesses
access_within outlines accesses number are lt = omega (arith, lt, length-map outlines scope_view, length-map (map scope_view outlines) is_private, length-map accesses makes_private, ap length are)

pub access_at : (outlines : List Outline) (accesses : List Accesses) (number : ℕ) (o : Outline) (a : Accesses) → AreAccesses (map scope_view outlines) accesses
    → o ≡ get_or outlines number o → a ≡ get_or accesses number a → number < length outlines → makes_private a ≡ is_private (scope_view o)
access_at outlines accesses number o a are here there lt =
    let other = makes_private a in
    let fits : number < length (map scope_view outlines) = omega (arith, lt, length-map outlines scope_view) in
    ap makes_private there ∙ sym (get_or-map makes_private accesses number a other (access_within outlines accesses number are lt)) ∙ ap (λ l. get_or l number other) are
    ∙ get_or-map is_private (map scope_view outlines) number (scope_view o) other fits ∙ ap is_private (get_or-map scope_view outlines number o (scope_view o) lt) ∙ ap (λ x. is_private (scope_view x)) (sym here)

-- the table of one scope, from its outline
pub table_made : (outlines : List Outline) (number : ℕ) (o : Outline) (lists : List (Vec Visible Global)) (named : ℕ → Option ℕ) (tables : List ScopeTable) (table : ScopeTable) (declared : List Visible)
    → o ≡ get_or outlines number o → number < length outlines → map (λ l. l.items) lists ≡ lists_from 0 (map scope_view outlines)
    → ((s : ℕ) → named s ≡ module_from None 0 (map scope_view outlines) s) → declared ≡ get_or (map (λ l. l.items) lists) number []
    → IsTable (flat_map (λ m. flat_map (called (scope_view o).uses m) (exports_of (exports_at tables) (named m))) (modules_of (scope_view o).uses)) declared (scope_view o) table
    → IsTableOf (map scope_view outlines) tables number table
table_made outlines number o lists named tables table declared here lt all names own h scope at_n =
    let scopes = map scope_view outlines in
    let there : slice_get scopes number ≡ Some (scope_view o) = outline_at outlines number o here lt in
    let same : scope_view o ≡ scope = cc in
    let pairs : flat_map (λ m. flat_map (called (scope_view o).uses m) (exports_of (exports_at tables) (named m))) (modules_of (scope_view o).uses) ≡ used_pairs scopes (exports_at tables) (scope_view o) =
    same_flat (λ m. flat_map (called (scope_view o).uses m) (exports_of (exports_at tables) (named m))) (λ m. flat_map (called (scope_view o).uses m) (exports_of (exports_at tables) (module_named scopes m))) (modules_of (scope_view o).uses)
    (λ m. ap (λ n. flat_map (called (scope_view o).uses m) (exports_of (exports_at tables) n)) (names m)) in
    let list : declared ≡ numbered (first_entity scopes number) (scope_view o).declared = own ∙ ap (λ l. get_or l number []) all ∙ declared_at 0 scopes number (scope_view o) there
    ∙ ap (λ n. numbered n (scope_view o).declared) (let none : 0 + first_entity scopes number ≡ first_entity scopes number = omega arith in none) in
    subst (λ s. IsTable (used_pairs scopes (exports_at tables) s) (numbered (first_entity scopes number) s.declared) s table) same
    (subst (λ p. IsTable p (numbered (first_entity scopes number) (scope_view o).declared) (scope_view o) table) pairs
    (subst (λ d. IsTable (flat_map (λ m. flat_map (called (scope_view o).uses m) (exports_of (exports_at tables) (named m))) (modules_of (scope_view o).uses)) d (scope_view o) table) list h))

-- what is true of each item that is put in is true of each that is there
all_put : {T : Type 0} (eq : T → T → Bool) (P : T → Type 0) (ks xs : List T) → All P ks → All P xs → All P (insert_all eq ks xs)
all_put eq P ks [] a b = a
all_put eq P ks (x ∷ xs) a b = all_put eq P (insert_key eq ks x) xs (by (list_any (eq x) ks)) (All-tail P x xs b)
  where
    by : (t : Bool) → All P (if t then ks else ks ++ x ∷ [])
    by true = a
    by false = All-push P ks x a (All-head P x xs b)

-- what is true of the name in each USE is true of the modules
all_modules : (P : ℕ → Type 0) (uses : List Using) → All (λ u. P u.from.symbol) uses → All P (modules_of uses)
all_modules P uses a = all_put nat_eq P [] (map (λ u. u.from.symbol) uses) (All-nil P) (All-map P (λ u. u.from.symbol) uses a)

same_pieces : {X A : Type 0} (f g : X → List A) (xs : List X) → All (λ x. f x ≡ g x) xs → flat_map f xs ≡ flat_map g xs
same_pieces f g [] a = refl
same_pieces f g (x ∷ xs) a = ap (λ l. l ++ flat_map f xs) (All-head (λ x. f x ≡ g x) x xs a) ∙ ap (λ l. g x ++ l) (same_pieces f g xs (All-tail (λ x. f x ≡ g x) x xs a))

-- no USE of the scope names the scope of this number
abbrev pub IsApart : List Scope → Scope → ℕ → Type 0
IsApart scopes scope a = All (λ n. module_named scopes n ≢ Some a) (modules_of scope.uses)

-- tables of modules that the scope does not use do not matter
module _ (scopes : List Scope) (tables : List ScopeTable) (a : ℕ) (t : ScopeTable) where
  same_exports : (m : Option ℕ) → m ≢ Some a → exports_of (exports_at (set tables a t)) m ≡ exports_of (exports_at tables) m
  same_exports None ne = refl
  same_exports (Some m) ne = ap exports_in (slice_get-set_other tables a m t (λ e. ne (ap Some e)))

  same_used : (scope : Scope) → IsApart scopes scope a → used_pairs scopes (exports_at (set tables a t)) scope ≡ used_pairs scopes (exports_at tables) scope
  same_used scope free =
      same_pieces (λ n. flat_map (called scope.uses n) (exports_of (exports_at (set tables a t)) (module_named scopes n))) (λ n. flat_map (called scope.uses n) (exports_of (exports_at tables) (module_named scopes n))) (modules_of scope.uses)
      (All-weaker (λ n. module_named scopes n ≢ Some a) (λ n. flat_map (called scope.uses n) (exports_of (exports_at (set tables a t)) (module_named scopes n)) ≡ flat_map (called scope.uses n) (exports_of (exports_at tables) (module_named scopes n)))
      (λ n ne. ap (flat_map (called scope.uses n)) (same_exports (module_named scopes n) ne)) (modules_of scope.uses) free)

  kept_table : (u : ℕ) (table : ScopeTable) → ((scope : Scope) → slice_get scopes u ≡ Some scope → IsApart scopes scope a) → IsTableOf scopes tables u table → IsTableOf scopes (set tables a t) u table
  kept_table u table free h scope at_u =
      subst (λ p. IsTable p (numbered (first_entity scopes u) scope.declared) scope table) (sym (same_used scope (free scope at_u))) (h scope at_u)

  pub others_stand : (u : ℕ) → u ≢ a → ((scope : Scope) → slice_get scopes u ≡ Some scope → IsApart scopes scope a) → Stands scopes tables u → Stands scopes (set tables a t) u
  others_stand u ne free (table, at_u, h) = (table, slice_get-set_other tables a u t ne ∙ at_u, kept_table u table free h)

  pub new_stands : a < length tables → ((scope : Scope) → slice_get scopes a ≡ Some scope → IsApart scopes scope a) → IsTableOf scopes tables a t → Stands scopes (set tables a t) a
  new_stands lt free h = (t, slice_get-set_same tables a t lt, kept_table a t free h)

module _ (scopes : List Scope) (order : List ℕ) (is : IsUnitOrder scopes order) where
  -- what stands in the front of an order is no unit from there on
  not_later : (k i m : ℕ) → k ≤ i → i < length order → Contains (take k order) m → m ≢ get_or order i 0
  not_later k i m le lt (j, in_front, here) e =
      let below : j < k = omega (arith, in_front, length-take k order) in
      let there : get_or order j 0 ≡ m = get_or_default order j 0 m (omega arith) ∙ sym (get_or-take k order j m below) ∙ here in
      is.once j i (omega arith) lt (there ∙ e)

  -- the modules that a unit uses stand before it
  before : (k : ℕ) (unit : Scope) → k < length order → slice_get scopes (get_or order k 0) ≡ Some unit
      → All (λ n. (m : ℕ) → module_named scopes n ≡ Some m → Contains (take k order) m) (modules_of unit.uses)
  before k unit lt at_k =
      all_modules (λ n. (m : ℕ) → module_named scopes n ≡ Some m → Contains (take k order) m) unit.uses
      (All-weaker (Contains unit.uses) (λ x. (m : ℕ) → module_named scopes x.from.symbol ≡ Some m → Contains (take k order) m)
      (λ x h m e. is.after k unit x m lt at_k h (named_of scopes x.from.symbol m e))
      unit.uses (All-contains_itself unit.uses))

  apart : (k i : ℕ) → k ≤ i → i < length order → (unit : Scope) → slice_get scopes (get_or order k 0) ≡ Some unit → IsApart scopes unit (get_or order i 0)
  apart k i le lt unit at_k =
      All-weaker (λ n. (m : ℕ) → module_named scopes n ≡ Some m → Contains (take k order) m) (λ n. module_named scopes n ≢ Some (get_or order i 0))
      (λ n h e. not_later k i (get_or order i 0) le lt (h (get_or order i 0) e) refl)
      (modules_of unit.uses) (before k unit (omega arith) at_k)

  pub inside : (i : ℕ) → i < length order → get_or order i 0 < length scopes
  inside i lt = let r = is.within i lt in slice_get_within scopes (get_or order i 0) r.0 r.1

  -- one unit more
  pub unit_more : (tables : List ScopeTable) (i : ℕ) (t : ScopeTable) → i < length order → length tables ≡ length scopes → IsTableOf scopes tables (get_or order i 0) t
      → ((k : ℕ) → k < i → Stands scopes tables (get_or order k 0)) → (k : ℕ) → k < i + 1 → Stands scopes (set tables (get_or order i 0) t) (get_or order k 0)
  unit_more tables i t lt len h old k below = elim (cases_lt k i) [
    | inl less ↦ others_stand scopes tables (get_or order i 0) t (get_or order k 0) (is.once k i less lt) (λ other at_k. apart k i (omega arith) lt other at_k) (old k less)
    | inr least ↦ subst (λ j. Stands scopes (set tables (get_or order i 0) t) (get_or order j 0)) (let same : i ≡ k = omega arith in same)
        (new_stands scopes tables (get_or order i 0) t (let fits = inside i lt in omega (arith, fits)) (λ other at_i. apart i i (omega arith) lt other at_i) h)
  ]

  -- all units
  pub units_stand : (tables : List ScopeTable) → length tables ≡ length scopes → ((k : ℕ) → k < length order → Stands scopes tables (get_or order k 0)) → UnitsStand scopes tables
  units_stand tables len h = (len, λ number scope at_n unit. let r = is.all number scope at_n (is_a_unit scope unit) in subst (Stands scopes tables) (get_or_default order r.0 0 number r.1 ∙ r.2) (h r.0 r.1))

-- a procedure is no module
procedure_apart : (scopes : List Scope) (a : ℕ) (procedure : Scope) → slice_get scopes a ≡ Some procedure → is_unit procedure.kind ≡ false → (scope : Scope) → IsApart scopes scope a
procedure_apart scopes a procedure at_a no_unit scope =
    All-weaker (Contains (modules_of scope.uses)) (λ n. module_named scopes n ≢ Some a)
    (λ n h e. let m = named_of scopes n a e in let same : m.0 ≡ procedure = cc in true≢false (sym (module_is_unit procedure.kind (ap (λ s. s.kind) (sym same) ∙ m.2)) ∙ no_unit))
    (modules_of scope.uses) (All-contains_itself (modules_of scope.uses))

-- one procedure more
pub procedure_more : (scopes : List Scope) (tables : List ScopeTable) (i : ℕ) (t : ScopeTable) (procedure : Scope) → slice_get scopes i ≡ Some procedure → is_unit procedure.kind ≡ false → length tables ≡ length scopes
    → IsTableOf scopes tables i t → Done scopes tables i → Done scopes (set tables i t) (i + 1)
procedure_more scopes tables i t procedure at_i no_unit len h done u scope at_u which = elim (cases_lt u i) [
  | inl less ↦ others_stand scopes tables i t u (λ e. omega arith) (λ s h. procedure_apart scopes i procedure at_i no_unit s) (done u scope at_u (inr less))
  | inr most ↦ elim (cases_lt i u) [
    | inl more ↦ others_stand scopes tables i t u (λ e. omega arith) (λ s h. procedure_apart scopes i procedure at_i no_unit s) (done u scope at_u (by which more))
    | inr least ↦ subst (Stands scopes (set tables i t)) (let same : i ≡ u = omega arith in same)
        (new_stands scopes tables i t (let fits = slice_get_within scopes i procedure at_i in omega (arith, fits)) (λ s h. procedure_apart scopes i procedure at_i no_unit s) h)
  ]
]
  where
    by : (is_unit scope.kind ≡ true) ⊎ (u < i + 1) → i < u → (is_unit scope.kind ≡ true) ⊎ (u < i)
    by (inl a) more = inl a
    by (inr b) more = absurd (omega arith)

-- a unit has its table
pub unit_done : (scopes : List Scope) (tables : List ScopeTable) (i : ℕ) (unit : Scope) → slice_get scopes i ≡ Some unit → is_unit unit.kind ≡ true → Done scopes tables i → Done scopes tables (i + 1)
unit_done scopes tables i unit at_i is done u scope at_u which = elim (cases_lt u i) [
  | inl less ↦ done u scope at_u (inr less)
  | inr most ↦ by which (let ge : i ≤ u = omega (arith, most) in ge)
]
  where
    by : (is_unit scope.kind ≡ true) ⊎ (u < i + 1) → i ≤ u → Stands scopes tables u
    by (inl a) ge = done u scope at_u (inl a)
    by (inr b) ge =
        let same : i ≡ u = omega arith in
        let here : slice_get scopes u ≡ Some unit = subst (λ n. slice_get scopes n ≡ Some unit) same at_i in
        let one : unit ≡ scope = cc in
        done u scope at_u (inl (ap (λ s. is_unit s.kind) (sym one) ∙ is))

pub all_done : (scopes : List Scope) (tables : List ScopeTable) (i : ℕ) → length scopes ≤ i → length tables ≡ length scopes → Done scopes tables i → AllStand scopes tables
all_done scopes tables i past len done = (len, λ u lt. elim ((slice_get_cases scopes u).1) [ inl r ↦ done u r.0 r.2 (inr (omega arith)) | inr r ↦ absurd (let out = r.0 in omega arith) ])
