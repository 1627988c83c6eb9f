-- Tables as their callers see them.
use Rattle.std.proofs.Common.{◌≡◌, ℕ, zero, suc, ◌+◌, ◌<◌, List, [], ◌∷◌, ◌++◌, ◌⊎◌, ◌&&◌, if◌then◌else◌, length, map, filter, nat_eq, slice_get, Option, None, Some, refl, sym, ap, subst, ◌∙◌, arith, inl, inr, Contains, Bool, true, false, not, ◌==◌, ◌↔◌}
use Rattle.std.proofs.lemmas.Bool.{true≢false, cases_Bool, not-true, eqb-true, eq-eqb, ne_eqb}
use Rattle.std.specs.List.{All}
use Rattle.std.proofs.Math.Bool.{and-true, and-false}
use Rattle.std.proofs.lemmas.List.{append-nil}
use Rattle.std.proofs.lemmas.List.Elements.{All-head, All-tail, filter-append}
use Rattle.std.proofs.lemmas.Map.Views.{exact_unsigned_eq}
use Rattle.std.proofs.lemmas.Option.{slice_get_cases, slice_get_within, slice_get-map}
use Rattle.indexmap.specs.IndexSet.{insert_all}
use Rattle.std.specs.Option.{option_map}
use Rattle.f3_scopes.specs.Outlines.{Scope}
use Rattle.f3_lookups.specs.declared.lookup.Visible.{Visible}
use Rattle.f3_lookups.specs.declared.lookup.Lookup.{Lookup}
use Rattle.f3_lookups.specs.declared.lookup.Lookup.TheVariants.{One, Nothing, Several}
use Rattle.f3_access.specs.declared.table.ScopeTable.{ScopeTable}
use Rattle.f3_selecting.specs.declared.choosing.Accesses.{Accesses}
use Rattle.f3_access.specs.Hosts.{host_of, HostsBefore, outward}
use Rattle.f3_access.specs.Hosts.{host_in as host_of_one}
use Rattle.f3_access.proofs.Outward.{AreBefore, outward_more, outward_last, outward_below, holder_here, holder_outside, holder_nowhere}
use Rattle.f3_access.specs.Access.{IsOwn, IsUsed, IsVisible, IsUnitOrder, ModulesDiffer}
use Rattle.f3_access.specs.Lookups.{ResolvesAs}
use Rattle.f3_access.specs.Listing.{same_pair, pair, module_named, used_pairs, hides}
use Rattle.f3_selecting.specs.Private.{is_private}
use Rattle.f3_access.specs.Parts.{meaning, own_in, used_in, lookup_in, host_in, own_at, exports_at, AllStand, is_nothing, host_at, holder_among, holder_at, own_found, lookup_at, is_number, seen_in, seen_from, visible_at, visible_listed, private_in, AreTablesOf}
use Rattle.f3_selecting.specs.Private.{makes_private, AreAccesses}
use Rattle.f3_selecting.proofs.Members.{Has, has_of, contains_of, has_left, has_right, has_parts, has_kept, kept_of, any_of, any_from, put, put_of, has_mapped, mapped_of}
use Rattle.f3_access.proofs.Chosen.{same_filter}
use Rattle.f3_access.proofs.Meanings.{resolves, same_resolves}
use Rattle.f3_access.proofs.Modules.{named_of, named_in}
use Rattle.f3_access.proofs.Visibles.{private_of, private_from, same_pairs, own_here, exports_here, as_own, as_used, from_used, as_exported}

-- a name that nothing of a list has
shown : (own : List Visible) (n e : ℕ) → Contains own (pair n e) → hides own n ≡ true
shown own n e h = any_from (λ (v : Visible). v.symbol == n) own (pair n e) (has_of own (pair n e) h) (eq-eqb n n refl)

hidden_by : (own : List Visible) (n : ℕ) → hides own n ≡ true → (e : ℕ) × Contains own (pair n e)
hidden_by own n t =
    let r = any_of (λ (v : Visible). v.symbol == n) own t in
    let same : r.0 ≡ pair n r.0.entity = (let a = eqb-true r.0.symbol n r.2 in λ i. record { symbol = a i; entity = r.0.entity }) in
    (r.0.entity, contains_of own (pair n r.0.entity) (subst (Has own) same r.1))

nothing_is : (l : Lookup) (own : List Visible) (n : ℕ) → ResolvesAs l (λ e. Contains own (pair n e)) → is_nothing l ≡ not (hides own n)
nothing_is (One e) own n h = sym (ap not (shown own n e h.0))
nothing_is Several own n (c, d, hc, hd, ne) = sym (ap not (shown own n c hc))
nothing_is Nothing own n h = elim (cases_Bool (hides own n)) [
  | inl t ↦ let r = hidden_by own n t in absurd (h r.0 r.1)
  | inr f ↦ sym (ap not f)
]

-- what has entities is a scope
scope_of_own : (scopes : List Scope) (u n e : ℕ) → IsOwn scopes u n e → (scope : Scope) × (slice_get scopes u ≡ Some scope)
scope_of_own scopes u n e (IsOwn.declared u' n' e' d) = (d.0, d.3)
scope_of_own scopes u n e (IsOwn.used u' n' e' m x b inner) = (b.0, b.2)

-- what is visible is a scope's own, or around it
visible_cases : (scopes : List Scope) (u n e : ℕ) → IsVisible scopes u n e
    → IsOwn scopes u n e ⊎ ((host : ℕ) × (host_of scopes u ≡ Some host) × ((hiding : ℕ) → IsOwn scopes u n hiding → ⊥) × IsVisible scopes host n e)
visible_cases scopes u n e (IsVisible.own u' n' e' h) = inl h
visible_cases scopes u n e (IsVisible.around u' n' e' host same none inner) = inr (host, same, none, inner)

filter_all : {X : Type 0} (p : X → Bool) (xs : List X) → ((x : X) → Has xs x → p x ≡ true) → filter p xs ≡ xs
filter_all p [] h = refl
filter_all p (x ∷ xs) h = rw (h x (inl refl)) (ap (λ l. x ∷ l) (filter_all p xs (λ y has. h y (inr has))))

filter_filter : {X : Type 0} (p q : X → Bool) (xs : List X) → filter (λ x. p x && q x) xs ≡ filter q (filter p xs)
filter_filter p q [] = refl
filter_filter {X} p q (x ∷ xs) = by (p x) refl (q x) refl (filter_filter p q xs)
  where
    by : (s : Bool) → p x ≡ s → (t : Bool) → q x ≡ t → filter (λ y. p y && q y) xs ≡ filter q (filter p xs) → filter (λ y. p y && q y) (x ∷ xs) ≡ filter q (filter p (x ∷ xs))
    by true a true b more = rw (a, b) (ap (λ l. x ∷ l) more)
    by true a false b more = rw (a, b) more
    by false a t b more = rw a more

-- what accesses say of a scope's names
abbrev answer_in : Option (ℕ → Bool) → ℕ → Bool
answer_in None n = false
answer_in (Some p) n = p n

private_answer : (a : Option Accesses) (n : ℕ) → private_in a n ≡ answer_in (option_map makes_private a) n
private_answer None n = refl
private_answer (Some a) n = refl

private_here : (scopes : List Scope) (accesses : List Accesses) → AreAccesses scopes accesses → (u n : ℕ) (scope : Scope) → slice_get scopes u ≡ Some scope → private_in (slice_get accesses u) n ≡ is_private scope n
private_here scopes accesses are u n scope at_u =
    let there : option_map makes_private (slice_get accesses u) ≡ option_map is_private (slice_get scopes u) =
    sym (slice_get-map makes_private accesses u) ∙ ap (λ l. slice_get l u) are ∙ slice_get-map is_private scopes u in
    private_answer (slice_get accesses u) n ∙ ap (λ o. answer_in o n) there ∙ ap (λ o. answer_in (option_map is_private o) n) at_u

module _ (scopes : List Scope) (order : List ℕ) (is : IsUnitOrder scopes order) (differ : ModulesDiffer scopes) (before : HostsBefore scopes)
    (list : List ScopeTable) (accesses : List Accesses) (modules : ℕ → Option ℕ) (stand : AllStand scopes list)
    (are : AreAccesses scopes accesses) (names : (s : ℕ) → modules s ≡ module_named scopes s) where
  own : (u n e : ℕ) → Contains (own_at list u) (pair n e) ↔ IsOwn scopes u n e
  own = as_own scopes differ list stand order is

  scope_at : (u : ℕ) → u < length scopes → (scope : Scope) × (slice_get scopes u ≡ Some scope)
  scope_at u lt = elim ((slice_get_cases scopes u).1) [ inl r ↦ (r.0, r.2) | inr r ↦ absurd (let past = r.0 in omega arith) ]

  no_table : (u : ℕ) → slice_get scopes u ≡ None → slice_get list u ≡ None
  no_table u e = elim ((slice_get_cases list u).1) [
    | inl r ↦ absurd (let s = scope_at u (let inside = r.1 in omega (arith, stand.0)) in let no : ⊥ = cc in no)
    | inr r ↦ r.1
  ]

  looked_up : (u n : ℕ) → lookup_in (slice_get list u) n ≡ meaning Nothing (own_at list u) n
  looked_up u n = elim ((slice_get_cases scopes u).1) [
    | inl r ↦ let t = stand.1 u r.1 in ap (λ o. lookup_in o n) t.1 ∙ (t.2 r.0 r.2).lookups n ∙ sym (ap (λ o. meaning Nothing (own_in o) n) t.1)
    | inr r ↦ let none = no_table u r.1 in ap (λ o. lookup_in o n) none ∙ sym (ap (λ o. meaning Nothing (own_in o) n) none)
  ]

  host_here : (u : ℕ) (scope : Scope) → slice_get scopes u ≡ Some scope → host_in (slice_get list u) ≡ scope.host
  host_here u scope at_u = let t = stand.1 u (slice_get_within scopes u scope at_u) in ap host_in t.1 ∙ (t.2 scope at_u).host

  found_here : (u n : ℕ) → ResolvesAs (lookup_in (slice_get list u) n) (λ e. Contains (own_at list u) (pair n e))
  found_here u n = subst (λ l. ResolvesAs l (λ e. Contains (own_at list u) (pair n e))) (sym (looked_up u n)) (resolves (own_at list u) n)

  own_resolves : (u n : ℕ) → ResolvesAs (lookup_in (slice_get list u) n) (IsOwn scopes u n)
  own_resolves u n = same_resolves (lookup_in (slice_get list u) n) (λ e. Contains (own_at list u) (pair n e)) (IsOwn scopes u n) (λ e h. (own u n e).0 h) (λ e v. (own u n e).1 v) (found_here u n)

  nothing_here : (u n : ℕ) → is_nothing (lookup_in (slice_get list u) n) ≡ not (hides (own_at list u) n)
  nothing_here u n = nothing_is (lookup_in (slice_get list u) n) (own_at list u) n (found_here u n)

  hosts : (u : ℕ) → host_at list u ≡ host_of scopes u
  hosts u = elim ((slice_get_cases scopes u).1) [
    | inl r ↦ host_here u r.0 r.2 ∙ sym (ap host_of_one r.2)
    | inr r ↦ ap host_in (no_table u r.1) ∙ sym (ap host_of_one r.1)
  ]

  are_before : AreBefore (host_at list)
  are_before u h e = before u h (sym (hosts u) ∙ e)

  -- what is visible
  seen_own : (u : ℕ) (v : Visible) → Has (own_at list u) v → is_number (holder_at list u v.symbol) u ≡ true
  seen_own u v h =
      let own_one = shown (own_at list u) v.symbol v.entity (contains_of (own_at list u) v h) in
      let some : is_nothing (lookup_in (slice_get list u) v.symbol) ≡ false = nothing_here u v.symbol ∙ ap not own_one in
      ap (λ o. is_number o u) (holder_here list u v.symbol some) ∙ eq-eqb u u refl

  all_seen : (u : ℕ) → seen_in list u u (own_at list u) ≡ own_at list u
  all_seen u = filter_all (λ (v : Visible). is_number (holder_at list u v.symbol) u) (own_at list u) (seen_own u)

  -- what is seen of a scope further out is what its host sees there and it does not hide
  seen_beyond : (u h other : ℕ) → host_at list u ≡ Some h → other < u → (vs : List Visible) → seen_in list u other vs ≡ filter (λ v. not (hides (own_at list u) v.symbol)) (seen_in list h other vs)
  seen_beyond u h other e less vs =
      same_filter (λ (v : Visible). is_number (holder_at list u v.symbol) other) (λ (v : Visible). is_number (holder_at list h v.symbol) other && not (hides (own_at list u) v.symbol)) vs (λ v. one v.symbol)
      ∙ filter_filter (λ (v : Visible). is_number (holder_at list h v.symbol) other) (λ (v : Visible). not (hides (own_at list u) v.symbol)) vs
    where
      one : (n : ℕ) → is_number (holder_at list u n) other ≡ is_number (holder_at list h n) other && not (hides (own_at list u) n)
      one n = ap (λ ks. is_number (holder_among list ks n) other) (outward_more (host_at list) are_before u h e) ∙ by (hides (own_at list u) n) refl
        where
          by : (t : Bool) → hides (own_at list u) n ≡ t
              → is_number (if is_nothing (lookup_in (slice_get list u) n) then holder_at list h n else Some u) other ≡ is_number (holder_at list h n) other && not (hides (own_at list u) n)
          by true q = rw (nothing_here u n, q) (ne_eqb u other (λ same. omega (arith, less, same)) ∙ sym (and-false (is_number (holder_at list h n) other)))
          by false q = rw (nothing_here u n, q) (sym (and-true (is_number (holder_at list h n) other)))

  all_beyond : (u h : ℕ) → host_at list u ≡ Some h → (ks : List ℕ) → All (λ k. k < u) ks → seen_from list u ks ≡ filter (λ v. not (hides (own_at list u) v.symbol)) (seen_from list h ks)
  all_beyond u h e [] less = refl
  all_beyond u h e (k ∷ ks) less =
      ap (λ l. l ++ seen_from list u ks) (seen_beyond u h k e (All-head (λ k. k < u) k ks less) (own_at list k))
      ∙ ap (λ l. filter (λ v. not (hides (own_at list u) v.symbol)) (seen_in list h k (own_at list k)) ++ l) (all_beyond u h e ks (All-tail (λ k. k < u) k ks less))
      ∙ sym (filter-append (λ v. not (hides (own_at list u) v.symbol)) (seen_in list h k (own_at list k)) (seen_from list h ks))

  listed_by : (u : ℕ) (host : Option ℕ) → host_at list u ≡ host → visible_at list u ≡ visible_listed list u host
  listed_by u None e =
      ap (seen_from list u) (outward_last (host_at list) u e) ∙ append-nil (seen_in list u u (own_at list u)) ∙ all_seen u
  listed_by u (Some h) e =
      ap (seen_from list u) (outward_more (host_at list) are_before u h e)
      ∙ ap (λ l. l ++ seen_from list u (outward (host_at list) h)) (all_seen u)
      ∙ ap (λ l. own_at list u ++ l) (all_beyond u h e (outward (host_at list) h) (outward_below (host_at list) are_before u h e))

  visible_here : (u : ℕ) → visible_at list u ≡ visible_listed list u (host_of scopes u)
  visible_here u = listed_by u (host_at list u) refl ∙ ap (visible_listed list u) (hosts u)

  -- a name that a scope's own list does not hide is none of its own
  not_own : (u n : ℕ) → hides (own_at list u) n ≡ false → (e : ℕ) → IsOwn scopes u n e → ⊥
  not_own u n f e h = true≢false (sym (shown (own_at list u) n e ((own u n e).1 h)) ∙ f)

  -- by the number of the scope, which is below a bound
  visible_is : (bound u n e : ℕ) → u < bound → Has (visible_at list u) (pair n e) → IsVisible scopes u n e
  visible_is zero u n e below h = absurd (omega (arith, below))
  visible_is (suc bound) u n e below h = by (host_of scopes u) refl (subst (λ l. Has l (pair n e)) (visible_here u) h) (λ host less inner. visible_is bound host n e (omega (arith, below, less)) inner)
    where
      by : (host : Option ℕ) → host_of scopes u ≡ host → Has (visible_listed list u host) (pair n e) → ((k : ℕ) → k < u → Has (visible_at list k) (pair n e) → IsVisible scopes k n e) → IsVisible scopes u n e
      by None same h again = IsVisible.own u n e ((own u n e).0 (contains_of (own_at list u) (pair n e) h))
      by (Some host) same h again = elim (has_parts (own_at list u) (filter (λ (v : Visible). not (hides (own_at list u) v.symbol)) (visible_at list host)) (pair n e) h) [
        | inl a ↦ IsVisible.own u n e ((own u n e).0 (contains_of (own_at list u) (pair n e) a))
        | inr b ↦
            let k = kept_of (λ (v : Visible). not (hides (own_at list u) v.symbol)) (visible_at list host) (pair n e) b in
            IsVisible.around u n e host same (not_own u n (not-true (hides (own_at list u) n) k.1)) (again host (before u host same) k.0)
      ]

  is_visible : (u n e : ℕ) → IsVisible scopes u n e → Has (visible_at list u) (pair n e)
  is_visible u n e (IsVisible.own u' n' e' h) =
      subst (λ l. Has l (pair n' e')) (sym (visible_here u')) (by (host_of scopes u') (has_of (own_at list u') (pair n' e') ((own u' n' e').1 h)))
    where
      by : (host : Option ℕ) → Has (own_at list u') (pair n' e') → Has (visible_listed list u' host) (pair n' e')
      by None h = h
      by (Some host) h = has_left (own_at list u') (filter (λ (v : Visible). not (hides (own_at list u') v.symbol)) (visible_at list host)) (pair n' e') h
  is_visible u n e (IsVisible.around u' n' e' host same none inner) =
      subst (λ l. Has l (pair n' e')) (sym (visible_here u' ∙ ap (visible_listed list u') same))
      (has_right (own_at list u') (filter (λ (v : Visible). not (hides (own_at list u') v.symbol)) (visible_at list host)) (pair n' e')
      (has_kept (λ (v : Visible). not (hides (own_at list u') v.symbol)) (visible_at list host) (pair n' e') (is_visible host n' e' inner) (ap not free)))
    where
      free : hides (own_at list u') n' ≡ false
      free = elim (cases_Bool (hides (own_at list u') n')) [ inl t ↦ (let r = hidden_by (own_at list u') n' t in absurd (none r.0 ((own u' n' r.0).0 r.1))) | inr f ↦ f ]

  -- what is visible under a name, by the number of the scope, which is below a bound
  resolved : (bound u n : ℕ) → u < bound → ResolvesAs (lookup_at list u n) (IsVisible scopes u n)
  resolved zero u n below = absurd (omega (arith, below))
  resolved (suc bound) u n below = by (lookup_in (slice_get list u) n) refl (own_resolves u n) (λ host less. resolved bound host n (omega (arith, below, less)))
    where
      outside : (host : Option ℕ) → host_of scopes u ≡ host → ((e : ℕ) → IsOwn scopes u n e → ⊥) → is_nothing (lookup_in (slice_get list u) n) ≡ true
          → ((k : ℕ) → k < u → ResolvesAs (lookup_at list k n) (IsVisible scopes k n)) → ResolvesAs (lookup_at list u n) (IsVisible scopes u n)
      outside None same h q again =
          subst (λ l. ResolvesAs l (IsVisible scopes u n)) (sym (ap (λ o. own_found list o n) (holder_nowhere list u n (hosts u ∙ same) q)))
          (λ d v. elim (visible_cases scopes u n d v) [ inl a ↦ h d a | inr b ↦ (let there = b.1 in let no : ⊥ = cc in no) ])
      outside (Some host) same h q again =
          subst (λ l. ResolvesAs l (IsVisible scopes u n)) (sym (ap (λ o. own_found list o n) (holder_outside list are_before u host n (hosts u ∙ same) q)))
          (same_resolves (lookup_at list host n) (IsVisible scopes host n) (IsVisible scopes u n)
          (λ e a. IsVisible.around u n e host same h a)
          (λ e v. elim (visible_cases scopes u n e v) [
            | inl a ↦ absurd (h e a)
            | inr b ↦ (let there = b.1 in let one : b.0 ≡ host = cc in subst (λ w. IsVisible scopes w n e) one b.3)
          ])
          (again host (before u host same)))

      by : (l : Lookup) → lookup_in (slice_get list u) n ≡ l → ResolvesAs l (IsOwn scopes u n) → ((k : ℕ) → k < u → ResolvesAs (lookup_at list k n) (IsVisible scopes k n))
          → ResolvesAs (lookup_at list u n) (IsVisible scopes u n)
      by (One e) q h again =
          subst (λ l. ResolvesAs l (IsVisible scopes u n)) (sym (ap (λ o. own_found list o n) (holder_here list u n (ap is_nothing q)) ∙ q))
          (IsVisible.own u n e h.0, λ d v. elim (visible_cases scopes u n d v) [ inl a ↦ h.1 d a | inr b ↦ absurd (b.2 e h.0) ])
      by Several q (c, d, hc, hd, ne) again =
          subst (λ l. ResolvesAs l (IsVisible scopes u n)) (sym (ap (λ o. own_found list o n) (holder_here list u n (ap is_nothing q)) ∙ q))
          (c, d, IsVisible.own u n c hc, IsVisible.own u n d hd, ne)
      by Nothing q h again = outside (host_of scopes u) refl h (ap is_nothing q) again

  -- what USE brings
  used_is : (u n : ℕ) → Has (used_in (slice_get list u)) n → (e : ℕ) × IsUsed scopes u n e
  used_is u n h = elim ((slice_get_cases scopes u).1) [
    | inl r ↦
        let pairs = used_pairs scopes (exports_at list) r.0 in
        let t = stand.1 u r.1 in
        let listed = subst (λ l. Has l n) (ap used_in t.1 ∙ (t.2 r.0 r.2).used) h in
        elim (put_of nat_eq exact_unsigned_eq [] (map (λ v. v.symbol) (insert_all same_pair [] pairs)) n listed) [
          | inl none ↦ absurd none
          | inr k ↦
              let v = mapped_of (λ (v : Visible). v.symbol) (insert_all same_pair [] pairs) n k in
              elim (put_of same_pair same_pairs [] pairs v.0 v.1) [
                | inl none ↦ absurd none
                | inr g ↦ (v.0.entity, subst (λ x. IsUsed scopes u x v.0.entity) (sym v.2) (as_used scopes differ list stand order is u r.0 r.2 v.0 g))
              ]
        ]
    | inr r ↦ absurd (subst (λ l. Has l n) (ap used_in (no_table u r.1)) h)
  ]

  is_used : (u n e : ℕ) → IsUsed scopes u n e → Has (used_in (slice_get list u)) n
  is_used u n e h =
      let user = h.2.0 in
      let at_u = h.2.2 in
      let pairs = used_pairs scopes (exports_at list) user in
      let t = stand.1 u (slice_get_within scopes u user at_u) in
      let g = from_used scopes differ list stand order is u user at_u n e h in
      subst (λ l. Has l n) (sym (ap used_in t.1 ∙ (t.2 user at_u).used))
      (put nat_eq exact_unsigned_eq [] (map (λ v. v.symbol) (insert_all same_pair [] pairs)) n
      (inr (has_mapped (λ (v : Visible). v.symbol) (insert_all same_pair [] pairs) (pair n e) (put same_pair same_pairs [] pairs (pair n e) (inr g)))))

  pub are_tables : AreTablesOf scopes list accesses modules
  are_tables = record {
    own = own;
    own_order = λ u scope at_u. own_here scopes differ list stand u scope at_u;
    exports = as_exported scopes differ list stand order is;
    exports_order = λ u scope at_u. exports_here scopes differ list stand u scope at_u;
    used = λ u n. (λ h. used_is u n (has_of (used_in (slice_get list u)) n h), λ v. contains_of (used_in (slice_get list u)) n (is_used u n v.0 v.1));
    visible = λ u n e. (λ h. visible_is (u + 1) u n e (omega arith) (has_of (visible_at list u) (pair n e) h), λ v. contains_of (visible_at list u) (pair n e) (is_visible u n e v));
    visible_order = visible_here;
    private = λ u n scope at_u. let e = private_here scopes accesses are u n scope at_u in (λ t. private_of scope n (sym e ∙ t), λ v. e ∙ private_from scope n v);
    modules = λ u n. (λ e. named_of scopes n u (sym (names n) ∙ e), λ m. names n ∙ named_in scopes differ n u m);
    resolves = λ u n. record { as_said = resolved (u + 1) u n (omega arith) };
    hosts = hosts;
    hosts_before = before;
  }
