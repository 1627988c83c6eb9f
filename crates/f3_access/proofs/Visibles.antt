-- The tables hold the least set.
use Rattle.std.proofs.Common.{◌≡◌, ◌≢◌, ℕ, zero, suc, ◌+◌, ◌<◌, List, [], ◌∷◌, ◌++◌, length, map, filter, take, get_or, nat_eq, Option, None, Some, slice_get, refl, sym, ap, subst, ◌∙◌, arith, ◌⊎◌, inl, inr, Contains, Bool, true, false, not, ◌==◌, if◌then◌else◌, ◌&&◌, ◌↔◌}
use Rattle.std.specs.List.{flat_map, list_any}
use Rattle.std.proofs.lemmas.Bool.{true≢false, cases_Bool, or_cases, or_left, or_right, and_parts, and_from, not-true, eqb-true, eq-eqb}
use Rattle.std.proofs.lemmas.Map.Views.{exact_unsigned_eq}
use Rattle.std.proofs.lemmas.List.{get_or_default, get_or-take, length-take}
use Rattle.std.proofs.lemmas.Option.{slice_get_within, slice_get_cases}
use Rattle.f3_tree.specs.declared.declaration.Accessibility.{Accessibility}
use Rattle.f3_tree.specs.declared.declaration.Accessibility.TheVariants.{Public, Private}
use Rattle.f3_tree.specs.declared.expression.Name.{Name}
use Rattle.f3_scopes.specs.declared.outline.ScopeKind.TheVariants.{Module}
use Rattle.f3_scopes.specs.declared.outline.UseItem.{UseItem}
use Rattle.f3_scopes.specs.Outlines.{Scope, Own, Using, Listed}
use Rattle.f3_lookups.specs.declared.lookup.Visible.{Visible}
use Rattle.f3_access.specs.declared.table.ScopeTable.{ScopeTable}
use Rattle.f3_access.specs.Access.{first_entity, IsModule, IsNamed, IsPrivate, IsCalled, Brings, IsOwn, IsExported, IsUsed, IsUnitOrder, ModulesDiffer}
use Rattle.f3_scopes.specs.Kinds.{is_module}
use Rattle.f3_access.specs.Listing.{same_pair, pair, numbered, module_named, items_of, is_open, names_alone, renames, locals_of, is_kept, called, exports_of, used_pairs, own_listed, exported}
use Rattle.f3_selecting.specs.Sources.{modules_of}
use Rattle.f3_selecting.specs.Private.{same_access, listed_names, given_name, named, is_nil, is_default, is_private}
use Rattle.f3_access.specs.Parts.{own_in, exports_in, own_at, exports_at, AllStand}
use Rattle.f3_selecting.proofs.Members.{Has, has_of, contains_of, has_left, has_right, has_parts, has_kept, kept_of, any_of, any_from, put, put_of, has_mapped, mapped_of, has_piece, piece_of}
use Rattle.f3_access.proofs.Chosen.{item_of, item_in}
use Rattle.f3_access.proofs.Modules.{named_of, named_in, is_a_module, module_is_one}

pub same_pairs : (a b : Visible) → same_pair a b ≡ true → a ≡ b
same_pairs a b t = let p = and_parts (a.symbol == b.symbol) (a.entity == b.entity) t in
    (λ i. record { symbol = eqb-true a.symbol b.symbol p.0 i; entity = eqb-true a.entity b.entity p.1 i })

-- what a scope declares
numbered_of : (k : ℕ) (ds : List Own) (w : Visible) → Has (numbered k ds) w → (j : ℕ) × (d : Own) × (slice_get ds j ≡ Some d) × (d.name.symbol ≡ w.symbol) × (k + j ≡ w.entity)
numbered_of k [] w h = absurd h
numbered_of k (d ∷ ds) w (inl e) = let entity : w.entity ≡ k = ap (λ v. v.entity) e in (zero, d, refl, sym (ap (λ v. v.symbol) e), omega arith)
numbered_of k (d ∷ ds) w (inr h) = let r = numbered_of (k + 1) ds w h in (suc r.0, r.1, r.2, r.3, omega (arith, r.4))

numbered_in : (k : ℕ) (ds : List Own) (w : Visible) (j : ℕ) (d : Own) → slice_get ds j ≡ Some d → d.name.symbol ≡ w.symbol → k + j ≡ w.entity → Has (numbered k ds) w
numbered_in k [] w j d at_j symbol entity = absurd (let past : j < length {A = Own} [] = slice_get_within [] j d at_j in omega arith)
numbered_in k (x ∷ ds) w zero d at_j symbol entity =
    let same : x ≡ d = cc in
    inl (let a : w.symbol ≡ x.name.symbol = sym symbol ∙ ap (λ y. y.name.symbol) (sym same) in let b : w.entity ≡ k = omega arith in λ i. record { symbol = a i; entity = b i })
numbered_in k (x ∷ ds) w (suc j) d at_j symbol entity = inr (numbered_in (k + 1) ds w j d at_j symbol (omega arith))

-- what an export of a module is called
module _ (scope : Scope) (m : ℕ) where
  abbrev uses : List Using
  uses = scope.uses

  abbrev items : List UseItem
  items = items_of scope.uses m

  abbrev op : Bool
  op = list_any (is_open m) scope.uses

  abbrev first : Visible → List Visible
  first v = if is_kept scope.uses m v.symbol then v ∷ [] else []

  abbrev others : Visible → List Visible
  others v = map (λ n. pair n v.entity) (locals_of scope.uses m v.symbol)

  -- its own name
  alone_of : (x n : ℕ) → n ≡ x → list_any (names_alone x) items ≡ true → IsCalled scope m x n
  alone_of x n e t =
      let r = any_of (names_alone x) items t in
      let s = item_of uses m r.0 r.1 in
      let p = and_parts (not r.0.is_rename) (r.0.original.symbol == x) r.2 in
      IsCalled.alone s.0 r.0 (contains_of uses s.0 s.1) s.2 (contains_of s.0.items r.0 s.3) (not-true _ p.0) (eqb-true _ _ p.1) e

  none_renames : (x : ℕ) → list_any (renames x) items ≡ false → (v : Using) (i : UseItem) → Contains scope.uses v → v.from.symbol ≡ m → Contains v.items i → i.is_rename ≡ true → i.original.symbol ≢ x
  none_renames x f v i hv em hi r o = true≢false (sym (any_from (renames x) items i (item_in uses m v i (has_of uses v hv) em (has_of v.items i hi)) (and_from i.is_rename (i.original.symbol == x) r (eq-eqb i.original.symbol x o))) ∙ f)

  kept_name : (x n : ℕ) → n ≡ x → (op && not (list_any (renames x) items)) ≡ true → IsCalled scope m x n
  kept_name x n e t =
      let p = and_parts op (not (list_any (renames x) items)) t in
      let r = any_of (is_open m) uses p.0 in
      let q = and_parts (r.0.from.symbol == m) (not r.0.has_only) r.2 in
      IsCalled.kept r.0 (contains_of uses r.0 r.1) (eqb-true _ _ q.0) (not-true _ q.1) e (none_renames x (not-true _ p.1))

  called_of : (v w : Visible) → Has (called uses m v) w → (w.entity ≡ v.entity) × IsCalled scope m v.symbol w.symbol
  called_of v w h = elim (has_parts (first v) (others v) w h) [
    | inl a ↦ by (is_kept uses m v.symbol) refl a
    | inr b ↦
        let n = mapped_of (λ n. pair n v.entity) (locals_of uses m v.symbol) w b in
        let r = mapped_of (λ (i : UseItem). i.local.symbol) (filter (renames v.symbol) items) n.0 n.1 in
        let k = kept_of (renames v.symbol) items r.0 r.1 in
        let s = item_of uses m r.0 k.0 in
        let p = and_parts r.0.is_rename (r.0.original.symbol == v.symbol) k.1 in
        (ap (λ y. y.entity) n.2, IsCalled.renamed s.0 r.0 (contains_of uses s.0 s.1) s.2 (contains_of s.0.items r.0 s.3) p.0 (eqb-true _ _ p.1) (ap (λ y. y.symbol) n.2 ∙ r.2))
  ]
    where
      by : (t : Bool) → is_kept uses m v.symbol ≡ t → Has (if t then v ∷ [] else []) w → (w.entity ≡ v.entity) × IsCalled scope m v.symbol w.symbol
      by true e (inl same) = (
        ap (λ y. y.entity) same,
        elim (or_cases (list_any (names_alone v.symbol) items) (op && not (list_any (renames v.symbol) items)) e) [
          | inl a ↦ alone_of v.symbol w.symbol (ap (λ y. y.symbol) same) a
          | inr b ↦ kept_name v.symbol w.symbol (ap (λ y. y.symbol) same) b
        ],
      )
      by true e (inr n) = absurd n
      by false e a = absurd a

  stays_in : (v w : Visible) → w ≡ v → is_kept uses m v.symbol ≡ true → Has (called uses m v) w
  stays_in v w e t = has_left (first v) (others v) w (rw t (inl e))

  no_rename : (x : ℕ) → ((v : Using) (i : UseItem) → Contains scope.uses v → v.from.symbol ≡ m → Contains v.items i → i.is_rename ≡ true → i.original.symbol ≢ x) → list_any (renames x) items ≡ false
  no_rename x none = elim (cases_Bool (list_any (renames x) items)) [
    | inl t ↦ let r = any_of (renames x) items t in
        let s = item_of uses m r.0 r.1 in
        let p = and_parts r.0.is_rename (r.0.original.symbol == x) r.2 in
        absurd (none s.0 r.0 (contains_of uses s.0 s.1) s.2 (contains_of s.0.items r.0 s.3) p.0 (eqb-true _ _ p.1))
    | inr f ↦ f
  ]

  called_in : (v w : Visible) → w.entity ≡ v.entity → IsCalled scope m v.symbol w.symbol → Has (called uses m v) w
  called_in v w e (IsCalled.alone u i hu em hi r o n) =
      stays_in v w (λ j. record { symbol = n j; entity = e j })
      (or_left (list_any (names_alone v.symbol) items) (op && not (list_any (renames v.symbol) items)) (any_from (names_alone v.symbol) items i (item_in uses m u i (has_of uses u hu) em (has_of u.items i hi)) (and_from _ _ (ap not r) (eq-eqb i.original.symbol v.symbol o))))
  called_in v w e (IsCalled.renamed u i hu em hi r o n) =
      has_right (first v) (others v) w
      (let same : w ≡ pair i.local.symbol v.entity = λ j. record { symbol = n j; entity = e j } in
      subst (Has (others v)) (sym same)
      (has_mapped (λ n. pair n v.entity) (locals_of uses m v.symbol) i.local.symbol
      (has_mapped (λ (i : UseItem). i.local.symbol) (filter (renames v.symbol) items) i
      (has_kept (renames v.symbol) items i (item_in uses m u i (has_of uses u hu) em (has_of u.items i hi)) (and_from _ _ r (eq-eqb i.original.symbol v.symbol o))))))
  called_in v w e (IsCalled.kept u hu em only n none) =
      stays_in v w (λ j. record { symbol = n j; entity = e j })
      (or_right (list_any (names_alone v.symbol) items) (op && not (list_any (renames v.symbol) items)) (and_from op (not (list_any (renames v.symbol) items))
      (any_from (is_open m) uses u (has_of uses u hu) (and_from _ _ (eq-eqb u.from.symbol m em) (ap not only)))
      (ap not (no_rename v.symbol none))))

-- each local name comes by a USE
use_of : (scope : Scope) (m x n : ℕ) → IsCalled scope m x n → (u : Using) × Contains scope.uses u × (u.from.symbol ≡ m)
use_of scope m x n (IsCalled.alone u i hu em hi r o e) = (u, hu, em)
use_of scope m x n (IsCalled.renamed u i hu em hi r o e) = (u, hu, em)
use_of scope m x n (IsCalled.kept u hu em only e none) = (u, hu, em)

-- what comes by USE
module _ (scopes : List Scope) (exports : ℕ → List Visible) (scope : Scope) where
  abbrev from : ℕ → List Visible
  from m = flat_map (called scope.uses m) (exports_of exports (module_named scopes m))

  pub used_of : (w : Visible) → Has (used_pairs scopes exports scope) w
      → (m : ℕ) × (number : ℕ) × (v : Visible) × (module_named scopes m ≡ Some number) × Has (exports number) v × (w.entity ≡ v.entity) × IsCalled scope m v.symbol w.symbol
  used_of w h =
      let m = piece_of from (modules_of scope.uses) w h in
      let v = piece_of (called scope.uses m.0) (exports_of exports (module_named scopes m.0)) w m.2 in
      let c = called_of scope m.0 v.0 w v.2 in
      let r = by m.0 v.0 (module_named scopes m.0) refl v.1 in
      (m.0, r.0, v.0, r.1, r.2, c.0, c.1)
    where
      by : (m : ℕ) (v : Visible) (o : Option ℕ) → module_named scopes m ≡ o → Has (exports_of exports o) v → (number : ℕ) × (module_named scopes m ≡ Some number) × Has (exports number) v
      by m v None e h = absurd h
      by m v (Some number) e h = (number, e, h)

  pub used_from : (w : Visible) (m number : ℕ) (v : Visible) → module_named scopes m ≡ Some number → Has (exports number) v → w.entity ≡ v.entity → IsCalled scope m v.symbol w.symbol → Has (used_pairs scopes exports scope) w
  used_from w m number v e h same c =
      let u = use_of scope m v.symbol w.symbol c in
      has_piece from (modules_of scope.uses) m w
      (subst (Has (modules_of scope.uses)) u.2 (put nat_eq exact_unsigned_eq [] (map (λ x. x.from.symbol) scope.uses) u.0.from.symbol (inr (has_mapped (λ (x : Using). x.from.symbol) scope.uses u.0 (has_of scope.uses u.0 u.1)))))
      (has_piece (called scope.uses m) (exports_of exports (module_named scopes m)) v w (subst (λ o. Has (exports_of exports o) v) (sym e) h) (called_in scope m v w same c))

-- what is private
same_of : (a b : Accessibility) → same_access a b ≡ true → b ≡ a
same_of Public Public t = refl
same_of Public Private t = absurd (true≢false (sym t))
same_of Private Public t = absurd (true≢false (sym t))
same_of Private Private t = refl

same_from : (a b : Accessibility) → b ≡ a → same_access a b ≡ true
same_from a b e = rw e (by a)
  where
    by : (a : Accessibility) → same_access a a ≡ true
    by Public = refl
    by Private = refl

module _ (scope : Scope) (n : ℕ) where
  named_is : (a : Accessibility) → list_any (nat_eq n) (named a scope) ≡ true → IsNamed scope a n
  named_is a t =
      let r = any_of (nat_eq n) (named a scope) t in
      let here : r.0 ≡ n = sym (eqb-true n r.0 r.2) in
      elim (has_parts (flat_map (listed_names a) scope.accesses) (flat_map (given_name a) scope.declared) r.0 r.1) [
        | inl b ↦ let l = piece_of (listed_names a) scope.accesses r.0 b in by_list l.0 r.0 l.1 here (same_access a l.0.accessibility) refl l.2
        | inr b ↦ let d = piece_of (given_name a) scope.declared r.0 b in by_given d.0 r.0 d.1 here (list_any (same_access a) d.0.accesses) refl d.2
      ]
    where
      by_list : (l : Listed) (x : ℕ) → Has scope.accesses l → x ≡ n → (t : Bool) → same_access a l.accessibility ≡ t → Has (if t then map (λ y. y.symbol) l.names else []) x → IsNamed scope a n
      by_list l x hl e true s h = let y = mapped_of (λ (y : Name). y.symbol) l.names x h in
          IsNamed.in_statement l y.0 (contains_of scope.accesses l hl) (same_of a l.accessibility s) (contains_of l.names y.0 y.1) (sym y.2 ∙ e)
      by_list l x hl e false s h = absurd h

      by_given : (d : Own) (x : ℕ) → Has scope.declared d → x ≡ n → (t : Bool) → list_any (same_access a) d.accesses ≡ t → Has (if t then d.name.symbol ∷ [] else []) x → IsNamed scope a n
      by_given d x hd e true s (inl same) = let r = any_of (same_access a) d.accesses s in
          IsNamed.as_attribute d (contains_of scope.declared d hd) (subst (Contains d.accesses) (same_of a r.0 r.2) (contains_of d.accesses r.0 r.1)) (sym same ∙ e)
      by_given d x hd e true s (inr h) = absurd h
      by_given d x hd e false s h = absurd h

  named_in_list : (a : Accessibility) → IsNamed scope a n → list_any (nat_eq n) (named a scope) ≡ true
  named_in_list a (IsNamed.in_statement l y hl s hy e) =
      let pick : Has (listed_names a l) y.symbol = by (same_from a l.accessibility s) (has_mapped (λ (y : Name). y.symbol) l.names y (has_of l.names y hy)) in
      any_from (nat_eq n) (named a scope) y.symbol
      (has_left (flat_map (listed_names a) scope.accesses) (flat_map (given_name a) scope.declared) y.symbol (has_piece (listed_names a) scope.accesses l y.symbol (has_of scope.accesses l hl) pick))
      (eq-eqb n y.symbol (sym e))
    where
      by : same_access a l.accessibility ≡ true → Has (map (λ y. y.symbol) l.names) y.symbol → Has (listed_names a l) y.symbol
      by t h = rw t h
  named_in_list a (IsNamed.as_attribute d hd ha e) =
      let pick : Has (given_name a d) d.name.symbol = by (any_from (same_access a) d.accesses a (has_of d.accesses a ha) (same_from a a refl)) in
      any_from (nat_eq n) (named a scope) d.name.symbol
      (has_right (flat_map (listed_names a) scope.accesses) (flat_map (given_name a) scope.declared) d.name.symbol (has_piece (given_name a) scope.declared d d.name.symbol (has_of scope.declared d hd) pick))
      (eq-eqb n d.name.symbol (sym e))
    where
      by : list_any (same_access a) d.accesses ≡ true → Has (given_name a d) d.name.symbol
      by t = rw t (inl refl)

  nil_of : (ns : List Name) → is_nil ns ≡ true → ns ≡ []
  nil_of [] t = refl
  nil_of (x ∷ ns) t = absurd (true≢false (sym t))

  nil_from : (ns : List Name) → ns ≡ [] → is_nil ns ≡ true
  nil_from ns e = rw e refl

  pub private_of : is_private scope n ≡ true → IsPrivate scope n
  private_of t = elim (cases_Bool (list_any (nat_eq n) (named Private scope))) [
    | inl a ↦ inl (named_is Private a)
    | inr no_private ↦ elim (or_cases (list_any (nat_eq n) (named Private scope)) (not (list_any (nat_eq n) (named Public scope)) && list_any is_default scope.accesses) t) [
      | inl a ↦ inl (named_is Private a)
      | inr b ↦
          let p = and_parts (not (list_any (nat_eq n) (named Public scope))) (list_any is_default scope.accesses) b in
          let r = any_of is_default scope.accesses p.1 in
          let q = and_parts (same_access Private r.0.accessibility) (is_nil r.0.names) r.2 in
          inr (by no_private (not-true (list_any (nat_eq n) (named Public scope)) p.0), r.0, contains_of scope.accesses r.0 r.1, same_of Private r.0.accessibility q.0, nil_of r.0.names q.1)
    ]
  ]
    where
      by : list_any (nat_eq n) (named Private scope) ≡ false → list_any (nat_eq n) (named Public scope) ≡ false → (a : Accessibility) → IsNamed scope a n → ⊥
      by no_private no_public Public h = true≢false (sym (named_in_list Public h) ∙ no_public)
      by no_private no_public Private h = true≢false (sym (named_in_list Private h) ∙ no_private)

  pub private_from : IsPrivate scope n → is_private scope n ≡ true
  private_from (inl h) = or_left (list_any (nat_eq n) (named Private scope)) (not (list_any (nat_eq n) (named Public scope)) && list_any is_default scope.accesses) (named_in_list Private h)
  private_from (inr (none, l, hl, private, empty)) =
      let unnamed : list_any (nat_eq n) (named Public scope) ≡ false = elim (cases_Bool (list_any (nat_eq n) (named Public scope))) [
        | inl t ↦ absurd (none Public (named_is Public t))
        | inr f ↦ f
      ] in
      or_right (list_any (nat_eq n) (named Private scope)) (not (list_any (nat_eq n) (named Public scope)) && list_any is_default scope.accesses)
      (and_from (not (list_any (nat_eq n) (named Public scope))) (list_any is_default scope.accesses) (ap not unnamed)
      (any_from is_default scope.accesses l (has_of scope.accesses l hl) (and_from (same_access Private l.accessibility) (is_nil l.names) (same_from Private l.accessibility private) (nil_from l.names empty))))

  open_name : (IsPrivate scope n → ⊥) → is_private scope n ≡ false
  open_name free = elim (cases_Bool (is_private scope n)) [ inl t ↦ absurd (free (private_of t)) | inr f ↦ f ]

  closed_name : is_private scope n ≡ false → IsPrivate scope n → ⊥
  closed_name f h = true≢false (sym (private_from h) ∙ f)

-- what is exported
exported_of : (scope : Scope) (vs : List Visible) (v : Visible) → Has (exported scope vs) v → (scope.kind ≡ Module) × (IsPrivate scope v.symbol → ⊥) × Has vs v
exported_of scope vs v h = by (is_module scope.kind) refl h
  where
    by : (t : Bool) → is_module scope.kind ≡ t → Has (if t then filter (λ w. not (is_private scope w.symbol)) vs else []) v → (scope.kind ≡ Module) × (IsPrivate scope v.symbol → ⊥) × Has vs v
    by true e h = let k = kept_of (λ (w : Visible). not (is_private scope w.symbol)) vs v h in (is_a_module scope.kind e, closed_name scope v.symbol (not-true _ k.1), k.0)
    by false e h = absurd h

exported_in : (scope : Scope) (vs : List Visible) (v : Visible) → scope.kind ≡ Module → (IsPrivate scope v.symbol → ⊥) → Has vs v → Has (exported scope vs) v
exported_in scope vs v kind free h = by (module_is_one scope.kind kind) (has_kept (λ (w : Visible). not (is_private scope w.symbol)) vs v h (ap not (open_name scope v.symbol free)))
  where
    by : is_module scope.kind ≡ true → Has (filter (λ w. not (is_private scope w.symbol)) vs) v → Has (exported scope vs) v
    by t h = rw t h

-- what is listed
module _ (scopes : List Scope) (exports : ℕ → List Visible) (number : ℕ) (scope : Scope) where
  abbrev declared_here : List Visible
  declared_here = numbered (first_entity scopes number) scope.declared

  listed_of : (w : Visible) → Has (own_listed scopes exports number scope) w → Has (used_pairs scopes exports scope) w ⊎ Has declared_here w
  listed_of w h = elim (put_of same_pair same_pairs [] (used_pairs scopes exports scope ++ declared_here) w h) [
    | inl n ↦ absurd n
    | inr g ↦ has_parts (used_pairs scopes exports scope) declared_here w g
  ]

  listed_used : (w : Visible) → Has (used_pairs scopes exports scope) w → Has (own_listed scopes exports number scope) w
  listed_used w h = put same_pair same_pairs [] (used_pairs scopes exports scope ++ declared_here) w (inr (has_left (used_pairs scopes exports scope) declared_here w h))

  listed_own : (w : Visible) → Has declared_here w → Has (own_listed scopes exports number scope) w
  listed_own w h = put same_pair same_pairs [] (used_pairs scopes exports scope ++ declared_here) w (inr (has_right (used_pairs scopes exports scope) declared_here w h))

module _ (scopes : List Scope) (differ : ModulesDiffer scopes) (tables : List ScopeTable) (stand : AllStand scopes tables) where
  pub own_here : (u : ℕ) (scope : Scope) → slice_get scopes u ≡ Some scope → own_at tables u ≡ own_listed scopes (exports_at tables) u scope
  own_here u scope at_u = let r = stand.1 u (slice_get_within scopes u scope at_u) in ap own_in r.1 ∙ (r.2 scope at_u).own

  pub exports_here : (u : ℕ) (scope : Scope) → slice_get scopes u ≡ Some scope → exports_at tables u ≡ exported scope (own_at tables u)
  exports_here u scope at_u = let r = stand.1 u (slice_get_within scopes u scope at_u) in ap exports_in r.1 ∙ (r.2 scope at_u).exports ∙ ap (exported scope) (sym (ap own_in r.1))

  -- what a scope has of its own is listed
  holds_all : (u n e : ℕ) → IsOwn scopes u n e → Has (own_at tables u) (pair n e)
  holds_all u n e (IsOwn.declared u' n' e' (scope, place, d, at_u, at_d, name, entity)) =
      subst (λ l. Has l (pair n' e')) (sym (own_here u' scope at_u))
      (listed_own scopes (exports_at tables) u' scope (pair n' e') (numbered_in (first_entity scopes u') scope.declared (pair n' e') place d at_d name entity))
  holds_all u n e (IsOwn.used u' n' e' m x (user, source, at_u, at_m, kind, free, c) inner) =
      let there : Has (exports_at tables m) (pair x e') = subst (λ l. Has l (pair x e')) (sym (exports_here m source at_m)) (exported_in source (own_at tables m) (pair x e') kind free (holds_all m x e' inner)) in
      subst (λ l. Has l (pair n' e')) (sym (own_here u' user at_u))
      (listed_used scopes (exports_at tables) u' user (pair n' e')
      (used_from scopes (exports_at tables) user (pair n' e') source.name.symbol m (pair x e') (named_in scopes differ source.name.symbol m (source, at_m, kind, refl)) there refl c))

  -- a module's exports are what USE brings
  brought : (u : ℕ) (user : Scope) → slice_get scopes u ≡ Some user → (w : Visible) (m number : ℕ) (v : Visible) → module_named scopes m ≡ Some number → Has (exports_at tables number) v → IsCalled user m v.symbol w.symbol
      → Brings scopes u number v.symbol w.symbol × Has (own_at tables number) v
  brought u user at_u w m number v e h c =
      let source = named_of scopes m number e in
      let x = exported_of source.0 (own_at tables number) v (subst (λ l. Has l v) (exports_here number source.0 source.1) h) in
      ((user, source.0, at_u, source.1, source.2, x.1, subst (λ k. IsCalled user k v.symbol w.symbol) (sym source.3) c), x.2)

  -- what is listed is a scope's own, where that holds of the modules that it uses
  own_step : (u : ℕ) (scope : Scope) → slice_get scopes u ≡ Some scope
      → ((m number : ℕ) → Contains (modules_of scope.uses) m → module_named scopes m ≡ Some number → (v : Visible) → Has (own_at tables number) v → IsOwn scopes number v.symbol v.entity)
      → (w : Visible) → Has (own_at tables u) w → IsOwn scopes u w.symbol w.entity
  own_step u scope at_u inner w h = elim (listed_of scopes (exports_at tables) u scope w (subst (λ l. Has l w) (own_here u scope at_u) h)) [
    | inl g ↦
        let r = used_of scopes (exports_at tables) scope w g in
        let b = brought u scope at_u w r.0 r.1 r.2 r.3 r.4 r.6 in
        let x = use_of scope r.0 r.2.symbol w.symbol r.6 in
        let used_there : Contains (modules_of scope.uses) r.0 =
        contains_of (modules_of scope.uses) r.0 (subst (Has (modules_of scope.uses)) x.2 (put nat_eq exact_unsigned_eq [] (map (λ y. y.from.symbol) scope.uses) x.0.from.symbol (inr (has_mapped (λ (y : Using). y.from.symbol) scope.uses x.0 (has_of scope.uses x.0 x.1))))) in
        IsOwn.used u w.symbol w.entity r.1 r.2.symbol b.0 (subst (IsOwn scopes r.1 r.2.symbol) (sym r.5) (inner r.0 r.1 used_there r.3 r.2 b.1))
    | inr g ↦
        let d = numbered_of (first_entity scopes u) scope.declared w g in
        IsOwn.declared u w.symbol w.entity (scope, d.0, d.1, at_u, d.2, d.3, d.4)
  ]

  module _ (order : List ℕ) (is : IsUnitOrder scopes order) where
    -- of the units below a place of the order
    units_only : (k j : ℕ) → j < k → j < length order → (w : Visible) → Has (own_at tables (get_or order j 0)) w → IsOwn scopes (get_or order j 0) w.symbol w.entity
    units_only zero j b lt w h = absurd (omega arith)
    units_only (suc k) j b lt w h =
        let unit = is.within j lt in
        own_step (get_or order j 0) unit.0 unit.1 (λ m number used_there e v here.
        let source = named_of scopes m number e in
        let at = put_of nat_eq exact_unsigned_eq [] (map (λ y. y.from.symbol) unit.0.uses) m (has_of (modules_of unit.0.uses) m used_there) in
        elim at [
          | inl n ↦ absurd n
          | inr g ↦
              let y = mapped_of (λ (y : Using). y.from.symbol) unit.0.uses m g in
              let before : Contains (take j order) number = is.after j unit.0 y.0 number lt unit.1 (contains_of unit.0.uses y.0 y.1) (subst (IsModule scopes number) y.2 source) in
              let i = before.0 in
              let below : i < j = omega (arith, before.1, length-take j order) in
              let place : get_or order i 0 ≡ number = get_or_default order i 0 number (omega arith) ∙ sym (get_or-take j order i number below) ∙ before.2 in
              subst (λ q. IsOwn scopes q v.symbol v.entity) place (units_only k i (omega arith) (omega arith) v (subst (λ q. Has (own_at tables q) v) (sym place) here))
        ])
        w h

    module_only : (m number : ℕ) → module_named scopes m ≡ Some number → (v : Visible) → Has (own_at tables number) v → IsOwn scopes number v.symbol v.entity
    module_only m number e v h =
        let source = named_of scopes m number e in
        let found = is.all number source.0 source.1 (inl source.2) in
        let place : get_or order found.0 0 ≡ number = get_or_default order found.0 0 number found.1 ∙ found.2 in
        subst (λ q. IsOwn scopes q v.symbol v.entity) place (units_only (suc found.0) found.0 (omega arith) found.1 v (subst (λ q. Has (own_at tables q) v) (sym place) h))

    -- what is listed is the scope's own
    own_only : (u : ℕ) (w : Visible) → Has (own_at tables u) w → IsOwn scopes u w.symbol w.entity
    own_only u w h = elim ((slice_get_cases tables u).1) [
      | inl r ↦
          let lt : u < length scopes = (let inside = r.1 in omega (arith, stand.0)) in
          let s = scope_at u lt in
          own_step u s.0 s.1 (λ m number used_there e v here. module_only m number e v here) w h
      | inr r ↦ absurd (subst (λ l. Has l w) (ap own_in r.1) h)
    ]
      where
        scope_at : (u : ℕ) → u < length scopes → (scope : Scope) × (slice_get scopes u ≡ Some scope)
        scope_at u lt = elim ((slice_get_cases scopes u).1) [ inl r ↦ (r.0, r.2) | inr r ↦ absurd (let past = r.0 in omega arith) ]

    pub as_own : (u n e : ℕ) → Contains (own_at tables u) (pair n e) ↔ IsOwn scopes u n e
    as_own u n e = (λ h. own_only u (pair n e) (has_of (own_at tables u) (pair n e) h), λ v. contains_of (own_at tables u) (pair n e) (holds_all u n e v))

    -- and what is listed as used is brought by a USE
    pub as_used : (u : ℕ) (scope : Scope) → slice_get scopes u ≡ Some scope → (w : Visible) → Has (used_pairs scopes (exports_at tables) scope) w → IsUsed scopes u w.symbol w.entity
    as_used u scope at_u w g =
        let r = used_of scopes (exports_at tables) scope w g in
        let b = brought u scope at_u w r.0 r.1 r.2 r.3 r.4 r.6 in
        (r.1, r.2.symbol, b.0, subst (IsOwn scopes r.1 r.2.symbol) (sym r.5) (module_only r.0 r.1 r.3 r.2 b.1))

    pub from_used : (u : ℕ) (scope : Scope) → slice_get scopes u ≡ Some scope → (n e : ℕ) → IsUsed scopes u n e → Has (used_pairs scopes (exports_at tables) scope) (pair n e)
    from_used u scope at_u n e (m, x, (user, source, at_user, at_m, kind, free, c), inner) =
        let same : user ≡ scope = cc in
        let there : Has (exports_at tables m) (pair x e) = subst (λ l. Has l (pair x e)) (sym (exports_here m source at_m)) (exported_in source (own_at tables m) (pair x e) kind free (holds_all m x e inner)) in
        subst (λ s. Has (used_pairs scopes (exports_at tables) s) (pair n e)) same
        (used_from scopes (exports_at tables) user (pair n e) source.name.symbol m (pair x e) (named_in scopes differ source.name.symbol m (source, at_m, kind, refl)) there refl c)

    pub as_exported : (u n e : ℕ) → Contains (exports_at tables u) (pair n e) ↔ IsExported scopes u n e
    as_exported u n e = (λ h. of (has_of (exports_at tables u) (pair n e) h), λ v. contains_of (exports_at tables u) (pair n e) (from v))
      where
        of : Has (exports_at tables u) (pair n e) → IsExported scopes u n e
        of h = elim ((slice_get_cases tables u).1) [
          | inl r ↦
              let lt : u < length scopes = (let inside = r.1 in omega (arith, stand.0)) in
              let s = scope_at lt in
              let x = exported_of s.0 (own_at tables u) (pair n e) (subst (λ l. Has l (pair n e)) (exports_here u s.0 s.1) h) in
              (s.0, s.1, x.0, x.1, own_only u (pair n e) x.2)
          | inr r ↦ absurd (subst (λ l. Has l (pair n e)) (ap exports_in r.1) h)
        ]
          where
            scope_at : u < length scopes → (scope : Scope) × (slice_get scopes u ≡ Some scope)
            scope_at lt = elim ((slice_get_cases scopes u).1) [ inl r ↦ (r.0, r.2) | inr r ↦ absurd (let past = r.0 in omega arith) ]

        from : IsExported scopes u n e → Has (exports_at tables u) (pair n e)
        from (source, at_u, kind, free, inner) = subst (λ l. Has l (pair n e)) (sym (exports_here u source at_u)) (exported_in source (own_at tables u) (pair n e) kind free (holds_all u n e inner))
