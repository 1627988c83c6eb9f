-- What hashed tables of USE statements and of accesses say is what the statements say.
use Rattle.std.proofs.Common.{◌≡◌, ℕ, List, [], ◌∷◌, ◌++◌, map, filter, refl, sym, ap, subst, ◌∙◌, inl, inr, Bool, true, false, cond, not, if◌then◌else◌, ◌||◌, ◌&&◌, ◌==◌, nat_eq}
use Rattle.std.specs.List.{flat_map, list_any}
use Rattle.std.proofs.lemmas.Bool.{and_parts, and_from, not-true, cases_Bool, true≢false, eqb-true, eq-eqb}
use Rattle.std.proofs.lemmas.Map.Views.{exact_unsigned_eq}
use Rattle.indexmap.specs.IndexMap.{get}
use Rattle.f3_scopes.specs.declared.outline.UseItem.{UseItem}
use Rattle.f3_scopes.specs.Outlines.{Using}
use Rattle.f3_lookups.specs.declared.lookup.Visible.{Visible}
use Rattle.f3_selecting.specs.declared.selecting.Selected.{Selected}
use Rattle.f3_selecting.specs.declared.selecting.Selections.{Selections}
use Rattle.f3_access.specs.Listing.{pair, items_of, is_open, names_alone, renames, locals_of, is_kept, called}
use Rattle.f3_selecting.specs.Selecting.{same_selected, selected, open_name, only_name, only_names, local_name, locals_from, locals_by, has_none, kept_by, originals_from, names_in, AreSelections}
use Rattle.f3_access.specs.Inner.Calling.{called_by, OnlyNamed}
use Rattle.f3_selecting.proofs.Privacy.{any_set, same_bool}
use Rattle.f3_selecting.proofs.Members.{Has, has_left, has_right, has_parts, any_of, any_from, has_mapped, has_piece, piece_of}

pub same_keys : (a b : Selected) → same_selected a b ≡ true → a ≡ b
same_keys a b t = let p = and_parts (a.source == b.source) (a.original == b.original) t in
    (λ i. record { source = eqb-true a.source b.source p.0 i; original = eqb-true a.original b.original p.1 i })

-- the items of a module stand in its USE statements
pub item_of : (us : List Using) (m : ℕ) (i : UseItem) → Has (items_of us m) i → (u : Using) × Has us u × (u.from.symbol ≡ m) × Has u.items i
item_of [] m i h = absurd h
item_of (u ∷ us) m i h = elim (has_parts (if u.from.symbol == m then u.items else []) (items_of us m) i h) [
  | inl a ↦ let r = by (u.from.symbol == m) refl a in (u, inl refl, r.0, r.1)
  | inr b ↦ let r = item_of us m i b in (r.0, inr r.1, r.2, r.3)
]
  where
    by : (t : Bool) → (u.from.symbol == m) ≡ t → Has (if t then u.items else []) i → (u.from.symbol ≡ m) × Has u.items i
    by true e a = (eqb-true u.from.symbol m e, a)
    by false e a = absurd a

pub item_in : (us : List Using) (m : ℕ) (u : Using) (i : UseItem) → Has us u → u.from.symbol ≡ m → Has u.items i → Has (items_of us m) i
item_in [] m u i h e a = absurd h
item_in (v ∷ us) m u i (inl s) e a =
    let here : (v.from.symbol == m) ≡ true = eq-eqb v.from.symbol m (ap (λ w. w.from.symbol) (sym s) ∙ e) in
    has_left (if v.from.symbol == m then v.items else []) (items_of us m) i (rw here (subst (λ w. Has w.items i) s a))
item_in (v ∷ us) m u i (inr h) e a = has_right (if v.from.symbol == m then v.items else []) (items_of us m) i (item_in us m u i h e a)

module _ (us : List Using) (m : ℕ) where
  open_of : list_any (nat_eq m) (flat_map open_name us) ≡ true → list_any (is_open m) us ≡ true
  open_of t =
      let r = any_of (nat_eq m) (flat_map open_name us) t in
      let u = piece_of open_name us r.0 r.1 in
      any_from (is_open m) us u.0 u.1 (by u.0 r.0 r.2 u.0.has_only refl u.2)
    where
      by : (u : Using) (n : ℕ) → nat_eq m n ≡ true → (t : Bool) → u.has_only ≡ t → Has (if t then [] else u.from.symbol ∷ []) n → is_open m u ≡ true
      by u n e true o h = absurd h
      by u n e false o (inl s) = and_from (u.from.symbol == m) (not u.has_only) (eq-eqb u.from.symbol m (sym s ∙ sym (eqb-true m n e))) (ap not o)
      by u n e false o (inr h) = absurd h

  open_in : list_any (is_open m) us ≡ true → list_any (nat_eq m) (flat_map open_name us) ≡ true
  open_in t =
      let r = any_of (is_open m) us t in
      let p = and_parts (r.0.from.symbol == m) (not r.0.has_only) r.2 in
      any_from (nat_eq m) (flat_map open_name us) m (has_piece open_name us r.0 m r.1 (by r.0 (eqb-true r.0.from.symbol m p.0) (not-true r.0.has_only p.1))) (eq-eqb m m refl)
    where
      by : (u : Using) → u.from.symbol ≡ m → u.has_only ≡ false → Has (open_name u) m
      by u e o = rw o (inl (sym e))

  pub any_open : list_any (nat_eq m) (flat_map open_name us) ≡ list_any (is_open m) us
  any_open = same_bool (list_any (nat_eq m) (flat_map open_name us)) (list_any (is_open m) us) open_of open_in

module _ (us : List Using) (m x : ℕ) where
  alone_of : list_any (same_selected (selected m x)) (flat_map only_names us) ≡ true → list_any (names_alone x) (items_of us m) ≡ true
  alone_of t =
      let r = any_of (same_selected (selected m x)) (flat_map only_names us) t in
      let u = piece_of only_names us r.0 r.1 in
      let i = piece_of (only_name u.0.from.symbol) u.0.items r.0 u.2 in
      by u.0 u.1 i.0 i.1 r.0 (same_keys (selected m x) r.0 r.2) i.0.is_rename refl i.2
    where
      by : (u : Using) → Has us u → (i : UseItem) → Has u.items i → (k : Selected) → selected m x ≡ k → (t : Bool) → i.is_rename ≡ t → Has (if t then [] else selected u.from.symbol i.original.symbol ∷ []) k
          → list_any (names_alone x) (items_of us m) ≡ true
      by u hu i hi k e true o h = absurd h
      by u hu i hi k e false o (inl s) =
          let same : selected m x ≡ selected u.from.symbol i.original.symbol = e ∙ s in
          any_from (names_alone x) (items_of us m) i (item_in us m u i hu (sym (ap (λ y. y.source) same)) hi)
          (and_from (not i.is_rename) (i.original.symbol == x) (ap not o) (eq-eqb i.original.symbol x (sym (ap (λ y. y.original) same))))
      by u hu i hi k e false o (inr h) = absurd h

  alone_in : list_any (names_alone x) (items_of us m) ≡ true → list_any (same_selected (selected m x)) (flat_map only_names us) ≡ true
  alone_in t =
      let r = any_of (names_alone x) (items_of us m) t in
      let u = item_of us m r.0 r.1 in
      let p = and_parts (not r.0.is_rename) (r.0.original.symbol == x) r.2 in
      let o : x ≡ r.0.original.symbol = sym (eqb-true r.0.original.symbol x p.1) in
      any_from (same_selected (selected m x)) (flat_map only_names us) (selected m x)
      (has_piece only_names us u.0 (selected m x) u.1 (has_piece (only_name u.0.from.symbol) u.0.items r.0 (selected m x) u.3
      (by u.0 r.0 (not-true r.0.is_rename p.0) (λ j. record { source = sym u.2 j; original = o j }))))
      (and_from (m == m) (x == x) (eq-eqb m m refl) (eq-eqb x x refl))
    where
      by : (u : Using) (i : UseItem) → i.is_rename ≡ false → selected m x ≡ selected u.from.symbol i.original.symbol → Has (only_name u.from.symbol i) (selected m x)
      by u i o e = rw o (inl e)

  pub any_alone : list_any (same_selected (selected m x)) (flat_map only_names us) ≡ list_any (names_alone x) (items_of us m)
  any_alone = same_bool (list_any (same_selected (selected m x)) (flat_map only_names us)) (list_any (names_alone x) (items_of us m)) alone_of alone_in

-- renames, one by one
abbrev local : UseItem → ℕ
local i = i.local.symbol

map_more : (f : UseItem → ℕ) (xs ys : List UseItem) → map f (xs ++ ys) ≡ map f xs ++ map f ys
map_more f [] ys = refl
map_more f (x ∷ xs) ys = ap (λ l. f x ∷ l) (map_more f xs ys)

filter_more : (p : UseItem → Bool) (xs ys : List UseItem) → filter p (xs ++ ys) ≡ filter p xs ++ filter p ys
filter_more p [] ys = refl
filter_more p (x ∷ xs) ys = by (p x) (filter_more p xs ys)
  where
    by : (t : Bool) → filter p (xs ++ ys) ≡ filter p xs ++ filter p ys → cond t (x ∷ filter p (xs ++ ys)) (filter p (xs ++ ys)) ≡ cond t (x ∷ filter p xs) (filter p xs) ++ filter p ys
    by true e = ap (λ l. x ∷ l) e
    by false e = e

no_local : (m : ℕ) (k : Selected) (i : UseItem) → (m == k.source) ≡ false → local_name m k i ≡ []
no_local m k i f = rw f (by i.is_rename)
  where
    by : (t : Bool) → (if t && false then i.local.symbol ∷ [] else []) ≡ []
    by true = refl
    by false = refl

none_local : (m : ℕ) (k : Selected) (is : List UseItem) → (m == k.source) ≡ false → locals_from m is k ≡ []
none_local m k [] f = refl
none_local m k (i ∷ is) f = ap (λ l. l ++ locals_from m is k) (no_local m k i f) ∙ none_local m k is f

all_local : (m : ℕ) (k : Selected) (is : List UseItem) → (m == k.source) ≡ true → locals_from m is k ≡ map local (filter (renames k.original) is)
all_local m k [] t = refl
all_local m k (i ∷ is) t = rw t (by (renames k.original i) (all_local m k is t))
  where
    by : (b : Bool) → locals_from m is k ≡ map local (filter (renames k.original) is) → (if b then i.local.symbol ∷ [] else []) ++ locals_from m is k ≡ map local (cond b (i ∷ filter (renames k.original) is) (filter (renames k.original) is))
    by true e = ap (λ l. local i ∷ l) e
    by false e = e

pub all_locals : (us : List Using) (k : Selected) → flat_map (λ u. locals_from u.from.symbol u.items k) us ≡ locals_of us k.source k.original
all_locals [] k = refl
all_locals (u ∷ us) k = by (u.from.symbol == k.source) refl (all_locals us k) ∙ sym (ap (map local) (filter_more (renames k.original) (if u.from.symbol == k.source then u.items else []) (items_of us k.source)) ∙ map_more local (filter (renames k.original) (if u.from.symbol == k.source then u.items else [])) (filter (renames k.original) (items_of us k.source)))
  where
    by : (t : Bool) → (u.from.symbol == k.source) ≡ t → flat_map (λ v. locals_from v.from.symbol v.items k) us ≡ locals_of us k.source k.original
        → locals_from u.from.symbol u.items k ++ flat_map (λ v. locals_from v.from.symbol v.items k) us
        ≡ map local (filter (renames k.original) (if t then u.items else [])) ++ locals_of us k.source k.original
    by true t rest = ap (λ l. l ++ flat_map (λ v. locals_from v.from.symbol v.items k) us) (all_local u.from.symbol k u.items t) ∙ ap (λ l. map local (filter (renames k.original) u.items) ++ l) rest
    by false t rest = ap (λ l. l ++ flat_map (λ v. locals_from v.from.symbol v.items k) us) (none_local u.from.symbol k u.items t) ∙ rest

none_kept : (p : UseItem → Bool) (is : List UseItem) → has_none (map local (filter p is)) ≡ not (list_any p is)
none_kept p [] = refl
none_kept p (i ∷ is) = by (p i) (none_kept p is)
  where
    by : (t : Bool) → has_none (map local (filter p is)) ≡ not (list_any p is) → has_none (map local (cond t (i ∷ filter p is) (filter p is))) ≡ not (t || list_any p is)
    by true e = refl
    by false e = e

-- names that no item of a module names
abbrev original : UseItem → ℕ
original i = i.original.symbol

all_originals : (us : List Using) (m : ℕ) → flat_map (λ u. originals_from u.from.symbol u.items m) us ≡ map original (items_of us m)
all_originals [] m = refl
all_originals (u ∷ us) m = by (u.from.symbol == m) (all_originals us m) ∙ sym (map_more original (if u.from.symbol == m then u.items else []) (items_of us m))
  where
    by : (t : Bool) → flat_map (λ v. originals_from v.from.symbol v.items m) us ≡ map original (items_of us m)
        → (if t then map original u.items else []) ++ flat_map (λ v. originals_from v.from.symbol v.items m) us ≡ map original (if t then u.items else []) ++ map original (items_of us m)
    by true rest = ap (λ l. map original u.items ++ l) rest
    by false rest = rest

module _ (x : ℕ) (is : List UseItem) (free : list_any (nat_eq x) (map original is) ≡ false) where
  unnamed : (i : UseItem) → Has is i → (i.original.symbol == x) ≡ true → ⊥
  unnamed i h t = true≢false (sym (any_from (nat_eq x) (map original is) (original i) (has_mapped original is i h) (eq-eqb x i.original.symbol (sym (eqb-true i.original.symbol x t)))) ∙ free)

  none_alone : list_any (names_alone x) is ≡ false
  none_alone = elim (cases_Bool (list_any (names_alone x) is)) [
    | inl t ↦ let r = any_of (names_alone x) is t in let p = and_parts (not r.0.is_rename) (r.0.original.symbol == x) r.2 in absurd (unnamed r.0 r.1 p.1)
    | inr f ↦ f
  ]

  none_renamed : list_any (renames x) is ≡ false
  none_renamed = elim (cases_Bool (list_any (renames x) is)) [
    | inl t ↦ let r = any_of (renames x) is t in let p = and_parts r.0.is_rename (r.0.original.symbol == x) r.2 in absurd (unnamed r.0 r.1 p.1)
    | inr f ↦ f
  ]

nil_of : (ns : List ℕ) → has_none ns ≡ true → ns ≡ []
nil_of [] t = refl
nil_of (n ∷ ns) t = absurd (true≢false (sym t))

quiet : (us : List Using) (m : ℕ) (e : Visible) → list_any (is_open m) us ≡ false → list_any (nat_eq e.symbol) (map original (items_of us m)) ≡ false → called us m e ≡ []
quiet us m e closed free =
    let items = items_of us m in
    let locals : locals_of us m e.symbol ≡ [] = nil_of (locals_of us m e.symbol) (none_kept (renames e.symbol) items ∙ ap not (none_renamed e.symbol items free)) in
    let kept : is_kept us m e.symbol ≡ false =
    ap (λ t. t || (list_any (is_open m) us && not (list_any (renames e.symbol) items))) (none_alone e.symbol items free) ∙ ap (λ t. t && not (list_any (renames e.symbol) items)) closed in
    ap (λ t. (if t then e ∷ [] else []) ++ map (λ n. pair n e.entity) (locals_of us m e.symbol)) kept ∙ ap (λ l. map (λ n. pair n e.entity) l) locals

module _ (us : List Using) (s : Selections) (are : AreSelections us s) where
  locals_same : (m x : ℕ) → locals_by s m x ≡ locals_of us m x
  locals_same m x = are.renamed (selected m x) ∙ all_locals us (selected m x)

  whole_same : (m : ℕ) → list_any (nat_eq m) s.whole.keys ≡ list_any (is_open m) us
  whole_same m = ap (list_any (nat_eq m)) are.whole ∙ any_set nat_eq exact_unsigned_eq (flat_map open_name us) m ∙ any_open us m

  kept_same : (m x : ℕ) → kept_by s m x ≡ is_kept us m x
  kept_same m x =
      let alone : list_any (same_selected (selected m x)) s.alone.keys ≡ list_any (names_alone x) (items_of us m) =
      ap (list_any (same_selected (selected m x))) are.alone ∙ any_set same_selected same_keys (flat_map only_names us) (selected m x) ∙ any_alone us m x in
      let none : has_none (locals_by s m x) ≡ not (list_any (renames x) (items_of us m)) = ap has_none (locals_same m x) ∙ none_kept (renames x) (items_of us m) in
      ap (λ a. a || (list_any (nat_eq m) s.whole.keys && has_none (locals_by s m x))) alone
      ∙ ap (λ b. list_any (names_alone x) (items_of us m) || (b && has_none (locals_by s m x))) (whole_same m)
      ∙ ap (λ c. list_any (names_alone x) (items_of us m) || (list_any (is_open m) us && c)) none

  pub called_same : (m : ℕ) (e : Visible) → called_by s m e ≡ called us m e
  called_same m e =
      ap (λ t. (if t then e ∷ [] else []) ++ map (λ n. pair n e.entity) (locals_by s m e.symbol)) (kept_same m e.symbol)
      ∙ ap (λ l. (if is_kept us m e.symbol then e ∷ [] else []) ++ map (λ n. pair n e.entity) l) (locals_same m e.symbol)

  pub only_named : OnlyNamed s
  only_named m e closed free =
      let originals = flat_map (λ (u : Using). originals_from u.from.symbol u.items m) us in
      let same : list_any (nat_eq e.symbol) (names_in (get nat_eq s.named m)) ≡ list_any (nat_eq e.symbol) (map original (items_of us m)) =
      ap (list_any (nat_eq e.symbol)) (are.named m) ∙ any_set nat_eq exact_unsigned_eq originals e.symbol ∙ ap (list_any (nat_eq e.symbol)) (all_originals us m) in
      called_same m e ∙ quiet us m e (sym (whole_same m) ∙ closed) (sym same ∙ free)

pub same_flat : {X A : Type 0} (f g : X → List A) (xs : List X) → ((x : X) → f x ≡ g x) → flat_map f xs ≡ flat_map g xs
same_flat f g [] h = refl
same_flat f g (x ∷ xs) h = ap (λ l. l ++ flat_map f xs) (h x) ∙ ap (λ l. g x ++ l) (same_flat f g xs h)

pub same_filter : {X : Type 0} (p q : X → Bool) (xs : List X) → ((x : X) → p x ≡ q x) → filter p xs ≡ filter q xs
same_filter p q xs h = ap (λ f. filter f xs) (λ i x. h x i)
