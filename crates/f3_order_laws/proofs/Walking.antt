-- Two walks along the same units, each unit behind those that it needs, meet the same rows and know the same at their ends.
use Rattle.std.proofs.Common.{◌≡◌, refl, ℕ, ◌⊎◌, inl, inr, Bool, true, false, if◌then◌else◌, List, [], ◌∷◌, Option, None, Some, ap, ◌∙◌, sym, subst, slice_get, Contains}
use Rattle.f3_nodes.proofs.Members.{Has, has_of, has_left, has_right, has_parts}
use Rattle.f3_rules.specs.declared.breaks.Break.{Break}
use Rattle.f3_rules.specs.Least.{is_before, earlier_of, first_of, LeastAs}
use Rattle.f3_rules.proofs.Firsts.{first_is_least, first-append}
use Rattle.f3_type_rules.specs.Members.{Numbered}
use Rattle.f3_type_rules.specs.Walks.{after, along, Known}
use Rattle.f3_type_rules.specs.Program.{nothing_known}
use Rattle.f3_order_laws.proofs.Declarations.{Alike}
use Rattle.f3_order_laws.proofs.Entries.{alike_on, alike_back}

-- the earlier of two is one of them
one_of : (f g : Option Break) (x : Break) → earlier_of f g ≡ Some x → (f ≡ Some x) ⊎ (g ≡ Some x)
one_of None g x e = inr e
one_of (Some a) None x e = inl e
one_of (Some a) (Some b) x e = by (is_before b a) e
  where
    by : (t : Bool) → (if t then Some b else Some a) ≡ Some x → (Some a ≡ Some x) ⊎ (Some b ≡ Some x)
    by true e = inr e
    by false e = inl e

pub first_has : (bs : List Break) (x : Break) → first_of bs ≡ Some x → Has bs x
first_has bs x e = let l : LeastAs (Some x) (Contains bs) = subst (λ (f : Option Break). LeastAs f (Contains bs)) e (first_is_least bs).as_said in has_of bs x l.0

-- These units have these numbers, none of which is done; and each stands behind all that it needs.
abbrev pub Standing : (List Numbered) → (ℕ → ℕ → Type 0) → (done : List ℕ) → List ℕ → List Numbered → Type 0
Standing units Needs done [] [] = Unit {0}
Standing units Needs done [] (u ∷ us) = ⊥
Standing units Needs done (i ∷ is) [] = ⊥
Standing units Needs done (i ∷ is) (u ∷ us) =
    (slice_get units i ≡ Some u) × (Has done i → ⊥) × ((v : ℕ) → Needs i v → Has done v) × Standing units Needs (i ∷ done) is us

-- Entities belong to units; a unit changes what is known of its own alone; and what it does hangs on what is known of its own entities
-- and of those of the units that it needs.
module _ (units : List Numbered) (rows : Known → Numbered → List Break) (next : Known → Numbered → Known) (Belongs Needs : ℕ → ℕ → Type 0)
    (decided : (i e : ℕ) → Belongs i e ⊎ (Belongs i e → ⊥))
    (apart : (i j e : ℕ) → Belongs i e → Belongs j e → i ≡ j)
    (kept : (i : ℕ) (u : Numbered) → slice_get units i ≡ Some u → (e : ℕ) → (Belongs i e → ⊥) → (k : Known) → Alike (next k u) k e)
    (same : (i : ℕ) (u : Numbered) → slice_get units i ≡ Some u → (k j : Known) → ((v e : ℕ) → (v ≡ i) ⊎ Needs i v → Belongs v e → Alike k j e)
    → (rows k u ≡ rows j u) × ((e : ℕ) → Belongs i e → Alike (next k u) (next j u) e)) where
  abbrev Stands : List ℕ → List ℕ → List Numbered → Type 0
  Stands done is us = Standing units Needs done is us

  later_kept : (done is : List ℕ) (us : List Numbered) → Stands done is us → (k : Known) (e : ℕ) → ((i : ℕ) → Has is i → Belongs i e → ⊥) → Alike (after next k us) k e
  later_kept done [] [] st k e out = (refl, refl)
  later_kept done [] (u ∷ us) st k e out = absurd st
  later_kept done (i ∷ is) [] st k e out = absurd st
  later_kept done (i ∷ is) (u ∷ us) st k e out =
      alike_on (after next (next k u) us) (next k u) k e
      (later_kept (i ∷ done) is us st.3 (next k u) e (λ j h. out j (inr h))) (kept i u st.0 e (out i (inl refl)) k)

  not_done : (done is : List ℕ) (us : List Numbered) → Stands done is us → (i : ℕ) → Has is i → Has done i → ⊥
  not_done done [] us st j h d = absurd h
  not_done done (i ∷ is) [] st j h d = absurd st
  not_done done (i ∷ is) (u ∷ us) st j (inl e) d = st.1 (subst (Has done) e d)
  not_done done (i ∷ is) (u ∷ us) st j (inr h) d = not_done (i ∷ done) is us st.3 j h (inr d)

  -- what is known of the entities of a unit that is done stays
  done_kept : (done is : List ℕ) (us : List Numbered) → Stands done is us → (k : Known) (v e : ℕ) → Has done v → Belongs v e → Alike (after next k us) k e
  done_kept done is us st k v e d b = later_kept done is us st k e (λ i h c. not_done done is us st i h (subst (Has done) (apart v i e b c) d))

  -- nothing is known of what belongs to no unit that is done
  abbrev Fresh : Known → List ℕ → Type 0
  Fresh k done = (e : ℕ) → ((v : ℕ) → Has done v → Belongs v e → ⊥) → Alike k nothing_known e

  fresh_more : (k : Known) (done : List ℕ) (i : ℕ) (u : Numbered) → slice_get units i ≡ Some u → Fresh k done → Fresh (next k u) (i ∷ done)
  fresh_more k done i u at fresh e out = alike_on (next k u) k nothing_known e (kept i u at e (out i (inl refl)) k) (fresh e (λ v h. out v (inr h)))

  -- Before a unit nothing is known of its own entities, and of those of the units that it needs what is known at the end; behind it,
  -- of its own too.
  abbrev Before : Known → ℕ → Numbered → Known → Type 0
  Before end i u k =
      ((e : ℕ) → Belongs i e → Alike k nothing_known e)
      × ((v e : ℕ) → Needs i v → Belongs v e → Alike k end e)
      × ((e : ℕ) → Belongs i e → Alike (next k u) end e)

  before_first : (done : List ℕ) (i : ℕ) (is : List ℕ) (u : Numbered) (us : List Numbered) → Stands done (i ∷ is) (u ∷ us) → (k : Known) → Fresh k done
      → Before (after next (next k u) us) i u k
  before_first done i is u us st k fresh = (
    λ e b. fresh e (λ v h c. st.1 (subst (Has done) (apart v i e c b) h)),
    λ v e n b. alike_back (after next (next k u) us) k e (done_kept done (i ∷ is) (u ∷ us) st k v e (st.2 v n) b),
    λ e b. alike_back (after next (next k u) us) (next k u) e (done_kept (i ∷ done) is us st.3 (next k u) i e (inl refl) b),
  )

  -- what is known before the unit of a number, on a walk with this end
  abbrev Entry : Known → ℕ → Type 0
  Entry end i = (u : Numbered) × (k : Known) × (slice_get units i ≡ Some u) × Before end i u k

  -- with all its rows among these
  abbrev EntryAmong : Known → List Break → ℕ → Type 0
  EntryAmong end all i = (u : Numbered) × (k : Known) × (slice_get units i ≡ Some u) × Before end i u k × ((b : Break) → Has (rows k u) b → Has all b)

  entries : (done is : List ℕ) (us : List Numbered) → Stands done is us → (k : Known) → Fresh k done
      → (i : ℕ) → Has is i → EntryAmong (after next k us) (along rows next k us) i
  entries done [] us st k fresh j h = absurd h
  entries done (i ∷ is) [] st k fresh j h = absurd st
  entries done (i ∷ is) (u ∷ us) st k fresh j (inl e) =
      subst (EntryAmong (after next (next k u) us) (along rows next k (u ∷ us))) (sym e)
      (u, k, st.0, before_first done i is u us st k fresh, λ b h. has_left (rows k u) (along rows next (next k u) us) b h)
  entries done (i ∷ is) (u ∷ us) st k fresh j (inr h) =
      let later = entries (i ∷ done) is us st.3 (next k u) (fresh_more k done i u st.0 fresh) j h in
      (later.0, later.1, later.2, later.3, λ b r. has_right (rows k u) (along rows next (next k u) us) b (later.4 b r))

  -- a break on a walk is one of some unit's
  abbrev Found : Known → List ℕ → Break → Type 0
  Found end is b = (i : ℕ) × (u : Numbered) × (k : Known) × Has is i × (slice_get units i ≡ Some u) × Before end i u k × Has (rows k u) b

  found : (done is : List ℕ) (us : List Numbered) → Stands done is us → (k : Known) → Fresh k done → (b : Break) → Has (along rows next k us) b → Found (after next k us) is b
  found done [] [] st k fresh b h = absurd h
  found done [] (u ∷ us) st k fresh b h = absurd st
  found done (i ∷ is) [] st k fresh b h = absurd st
  found done (i ∷ is) (u ∷ us) st k fresh b h = elim (has_parts (rows k u) (along rows next (next k u) us) b h) [
    | inl here ↦ (i, u, k, inl refl, st.0, before_first done i is u us st k fresh, here)
    | inr there ↦
        let later = found (i ∷ done) is us st.3 (next k u) (fresh_more k done i u st.0 fresh) b there in
        (later.0, later.1, later.2, inr later.3, later.4, later.5, later.6)
  ]

  -- the first break on a walk is the first of some unit's
  abbrev FirstAt : Known → Break → ℕ → Type 0
  FirstAt end x i = (u : Numbered) × (k : Known) × (slice_get units i ≡ Some u) × Before end i u k × (first_of (rows k u) ≡ Some x)

  first_found : (done is : List ℕ) (us : List Numbered) → Stands done is us → (k : Known) → Fresh k done → (x : Break) → first_of (along rows next k us) ≡ Some x
      → (i : ℕ) × Has is i × FirstAt (after next k us) x i
  first_found done [] [] st k fresh x e = absurd (let no : ⊥ = cc in no)
  first_found done [] (u ∷ us) st k fresh x e = absurd st
  first_found done (i ∷ is) [] st k fresh x e = absurd st
  first_found done (i ∷ is) (u ∷ us) st k fresh x e =
      elim (one_of (first_of (rows k u)) (first_of (along rows next (next k u) us)) x (sym (first-append (rows k u) (along rows next (next k u) us)) ∙ e)) [
        | inl here ↦ (i, inl refl, (u, k, st.0, before_first done i is u us st k fresh, here))
        | inr there ↦ let later = first_found (i ∷ done) is us st.3 (next k u) (fresh_more k done i u st.0 fresh) x there in (later.0, inr later.1, later.2)
      ]

  -- ---- two walks

  module _ (end other : Known) where
    -- where both ends know the same of what a unit needs, the same is known before it of what counts there
    counts : (i : ℕ) (u : Numbered) (k j : Known) → Before end i u k → Before other i u j → ((v e : ℕ) → Needs i v → Belongs v e → Alike end other e)
        → (v e : ℕ) → (v ≡ i) ⊎ Needs i v → Belongs v e → Alike k j e
    counts i u k j a b needs v e (inl own) belongs =
        let mine = subst (λ n. Belongs n e) own belongs in
        alike_on k nothing_known j e (a.0 e mine) (alike_back j nothing_known e (b.0 e mine))
    counts i u k j a b needs v e (inr need) belongs =
        alike_on k end j e (a.1 v e need belongs) (alike_on end other j e (needs v e need belongs) (alike_back j other e (b.1 v e need belongs)))

    one_unit : (i : ℕ) (u v : Numbered) → slice_get units i ≡ Some u → slice_get units i ≡ Some v → u ≡ v
    one_unit i u v a b = cc

    alike_there : (i : ℕ) → Entry end i → Entry other i → ((v e : ℕ) → Needs i v → Belongs v e → Alike end other e) → (e : ℕ) → Belongs i e → Alike end other e
    alike_there i a b needs e belongs =
        let u = a.0 in
        let k = a.1 in
        let j = b.1 in
        let there : Before other i u j = subst (λ n. Before other i n j) (one_unit i b.0 u b.2 a.2) b.3 in
        let walks = (same i u a.2 k j (counts i u k j a.3 there needs)).1 e belongs in
        alike_on end (next k u) other e (alike_back (next k u) end e (a.3.2 e belongs)) (alike_on (next k u) (next j u) other e walks (there.2 e belongs))

    settled_first : (done : List ℕ) (i : ℕ) (is : List ℕ) (u : Numbered) (us : List Numbered) → Stands done (i ∷ is) (u ∷ us)
        → ((v : ℕ) → Has done v → (e : ℕ) → Belongs v e → Alike end other e) → Entry end i → Entry other i → (e : ℕ) → Belongs i e → Alike end other e
    settled_first done i is u us st before a b = alike_there i a b (λ v e need. before v (st.2 v need) e)

    settled_more : (done : List ℕ) (i : ℕ) → ((v : ℕ) → Has done v → (e : ℕ) → Belongs v e → Alike end other e) → ((e : ℕ) → Belongs i e → Alike end other e)
        → (v : ℕ) → Has (i ∷ done) v → (e : ℕ) → Belongs v e → Alike end other e
    settled_more done i before now v (inl same_one) e belongs = now e (subst (λ n. Belongs n e) same_one belongs)
    settled_more done i before now v (inr d) e belongs = before v d e belongs

    settled : (done is : List ℕ) (us : List Numbered) → Stands done is us → ((v : ℕ) → Has done v → (e : ℕ) → Belongs v e → Alike end other e)
        → ((i : ℕ) → Has is i → Entry end i) → ((i : ℕ) → Has is i → Entry other i) → (i : ℕ) → Has is i → (e : ℕ) → Belongs i e → Alike end other e
    settled done [] us st before a b j h e belongs = absurd h
    settled done (i ∷ is) [] st before a b j h e belongs = absurd st
    settled done (i ∷ is) (u ∷ us) st before a b j (inl same_one) x belongs =
        settled_first done i is u us st before (a i (inl refl)) (b i (inl refl)) x (subst (λ n. Belongs n x) same_one belongs)
    settled done (i ∷ is) (u ∷ us) st before a b j (inr h) x belongs =
        settled (i ∷ done) is us st.3
        (settled_more done i before (settled_first done i is u us st before (a i (inl refl)) (b i (inl refl))))
        (λ n r. a n (inr r)) (λ n r. b n (inr r)) j h x belongs

  somewhere : (is : List ℕ) (e : ℕ) → ((i : ℕ) × Has is i × Belongs i e) ⊎ ((i : ℕ) → Has is i → Belongs i e → ⊥)
  somewhere [] e = inr (λ i h. absurd h)
  somewhere (i ∷ is) e = elim (decided i e) [
    | inl here ↦ inl (i, inl refl, here)
    | inr out ↦ elim (somewhere is e) [
      | inl r ↦ inl (r.0, inr r.1, r.2)
      | inr none ↦ inr (outside i is e out none)
    ]
  ]
    where
      outside : (i : ℕ) (is : List ℕ) (e : ℕ) → (Belongs i e → ⊥) → ((j : ℕ) → Has is j → Belongs j e → ⊥) → (j : ℕ) → Has (i ∷ is) j → Belongs j e → ⊥
      outside i is e out none j (inl same) b = out (subst (λ n. Belongs n e) same b)
      outside i is e out none j (inr h) b = none j h b

  fresh_first : Fresh nothing_known []
  fresh_first e out = (refl, refl)

  module _ (o p : List ℕ) (os ps : List Numbered) (one : Stands [] o os) (two : Stands [] p ps)
      (in_two : (i : ℕ) → Has o i → Has p i) (in_one : (i : ℕ) → Has p i → Has o i) where
    abbrev end : Known
    end = after next nothing_known os

    abbrev other : Known
    other = after next nothing_known ps

    first_entries : (i : ℕ) → Has o i → EntryAmong end (along rows next nothing_known os) i
    first_entries = entries [] o os one nothing_known fresh_first

    second_entries : (i : ℕ) → Has p i → EntryAmong other (along rows next nothing_known ps) i
    second_entries = entries [] p ps two nothing_known fresh_first

    ends_there : (i : ℕ) → Has o i → (e : ℕ) → Belongs i e → Alike end other e
    ends_there =
        settled end other [] o os one (λ v d. absurd d)
        (λ i h. let r = first_entries i h in (r.0, r.1, r.2, r.3)) (λ i h. let r = second_entries i (in_two i h) in (r.0, r.1, r.2, r.3))

    pub ends_alike : (e : ℕ) → Alike end other e
    ends_alike e = elim (somewhere o e) [
      | inl r ↦ ends_there r.0 r.1 e r.2
      | inr none ↦
          alike_on end nothing_known other e (later_kept [] o os one nothing_known e none)
          (alike_back other nothing_known e (later_kept [] p ps two nothing_known e (λ i h. none i (in_one i h))))
    ]

    pub rows_alike : (b : Break) → Has (along rows next nothing_known os) b → Has (along rows next nothing_known ps) b
    rows_alike b h =
        let r = found [] o os one nothing_known fresh_first b h in
        let i = r.0 in
        let u = r.1 in
        let k = r.2 in
        let there = second_entries i (in_two i r.3) in
        let j = there.1 in
        let one_u : there.0 ≡ u = one_unit end other i there.0 u there.2 r.4 in
        let before : Before other i u j = subst (λ n. Before other i n j) one_u there.3 in
        let lists : rows k u ≡ rows j u = (same i u r.4 k j (counts end other i u k j r.5 before (λ v e need belongs. ends_alike e))).0 in
        let mine : Has (rows j u) b = subst (λ l. Has l b) lists r.6 in
        there.4 b (subst (λ n. Has (rows j n) b) (sym one_u) mine)

    -- no two units have rows at one place
    abbrev pub RowsApart : Type 0
    RowsApart = (i v : ℕ) (x y : Numbered) (k j : Known) (b c : Break) → slice_get units i ≡ Some x → slice_get units v ≡ Some y
        → Has (rows k x) b → Has (rows j y) c → b.place ≡ c.place → i ≡ v

    -- two first breaks at one place are one
    pub firsts_one : RowsApart → (x y : Break) → first_of (along rows next nothing_known os) ≡ Some x → first_of (along rows next nothing_known ps) ≡ Some y → x.place ≡ y.place → x ≡ y
    firsts_one rows_apart x y first second place =
        let r = first_found [] o os one nothing_known fresh_first x first in
        let q = first_found [] p ps two nothing_known fresh_first y second in
        let a = r.2 in
        let z = q.2 in
        let one_place : q.0 ≡ r.0 =
        sym (rows_apart r.0 q.0 a.0 z.0 a.1 z.1 x y a.2 z.2 (first_has (rows a.1 a.0) x a.4) (first_has (rows z.1 z.0) y z.4) place) in
        same_first r.0 x y a (subst (FirstAt other y) one_place z)
      where
        same_first : (i : ℕ) (x y : Break) → FirstAt end x i → FirstAt other y i → x ≡ y
        same_first i x y (u, k, at, before, f) (v, j, at_v, later, g) =
            let one_u : v ≡ u = one_unit end other i v u at_v at in
            let there : Before other i u j = subst (λ n. Before other i n j) one_u later in
            let lists : rows k u ≡ rows j u = (same i u at k j (counts end other i u k j before there (λ w e need belongs. ends_alike e))).0 in
            let g_u : first_of (rows j u) ≡ Some y = subst (λ n. first_of (rows j n) ≡ Some y) one_u g in
            let both : Some x ≡ Some y = sym f ∙ ap first_of lists ∙ g_u in
            cc
