-- What owners of modules rely on.
use Rattle.std.proofs.Common.{◌≡◌, ℕ, Bool, true, false, List, [], ◌∷◌, ◌++◌, Some, refl, sym, ap, ◌∙◌}
use Rattle.std.specs.Prelude.{T, ◌&&◌, nat_eq, slice_get}
use mathlib.Core.Path.{subst}
use lib.Dec.{eqb→eq}
use Rattle.f3_program.specs.declared.declarations.Base.{Base}
use Rattle.f3_program.specs.declared.declarations.Component as m
use Rattle.f3_program.specs.declared.declarations.Derived.{Derived}
use Rattle.f3_program.specs.declared.program.Program.{Program}
use Rattle.f3_meaning_whole.specs.Store.{Root, Static, Path, Step, Component, Element, Contents, within, components, get, same_root, same_step, begins_with, goes_through}
use Rattle.f3_meaning_whole.specs.Reference.{Made, paths}
use Rattle.f3_meaning_whole.specs.Ran.{Event, Printed, Changed, Began, Entered, Ended, Asked, Change, Stage}
use Rattle.f3_meaning_whole.specs.Act.{whole, derived_of, component_type}
use Rattle.f3_meaning_whole.specs.Run.{run_of, changes, first_store, setting_of}
use Rattle.f3_meaning_whole.specs.Permitted.{Each, IsMadeWell, IsTyped, numbers, IsAt, Permitted, IsLawful}
use Rattle.f3_meaning_laws.specs.Laws.{Apart, Outlives, Spares, IsThere, AreStages, along, IsNotOwn, ProtectedStays, IsNotAbove, IsNotBy, PrivateStays}
use Rattle.f3_meaning_laws.proofs.Keeping.{no, changes-append}
use Rattle.f3_meaning_laws.proofs.Changes.{changes_are_permitted, stages_stand}
use Rattle.f3_meaning_laws.proofs.Frame.{Either, Left, Right, both, same_roots, root_itself, spared, between_stages}

-- ---- the changes between two stages are permitted

each_back : {A : Type 0} (P : A → Type 0) (xs ys : List A) → Each P (xs ++ ys) → Each P ys
each_back P [] ys h = h
each_back P (x ∷ xs) ys h = each_back P xs ys h.1

each_front : {A : Type 0} (P : A → Type 0) (xs ys : List A) → Each P (xs ++ ys) → Each P xs
each_front P [] ys h = tt
each_front P (x ∷ xs) ys h = (h.0, each_front P xs ys h.1)

permitted_between : (p : Program) (out before between behind : List Event) (first second : Stage) → out ≡ before ++ (Began first ∷ (between ++ (Began second ∷ behind))) → Each (Permitted p) (changes out) → Each (Permitted p) (changes between)
permitted_between p out before between behind first second e h =
    let h1 : Each (Permitted p) (changes before ++ changes (between ++ Began second ∷ behind)) = subst (Each (Permitted p)) (ap changes e ∙ changes-append before (Began first ∷ (between ++ (Began second ∷ behind)))) h in
    let h2 : Each (Permitted p) (changes between ++ changes behind) = subst (Each (Permitted p)) (changes-append between (Began second ∷ behind)) (each_back (Permitted p) (changes before) _ h1) in
    each_front (Permitted p) (changes between) (changes behind) h2

-- where each change leaves a part of a variable that lives for the whole run, it stays
spares_all : (p : Program) (q : Path) (i : ℕ) → q.root ≡ Static i → (P : Change → Type 0) → ((c : Change) → Permitted p c → P c → Each (Apart q) (paths c.reference)) → (es : List Event) → Each (Permitted p) (changes es) → Each P (changes es) → Each (Spares q) es
spares_all p q i r P f [] h k = tt
spares_all p q i r P f (Printed byte ∷ es) h k = (tt, spares_all p q i r P f es h k)
spares_all p q i r P f (Changed c vs ∷ es) h k = (f c h.0 k.0, spares_all p q i r P f es h.1 k.1)
spares_all p q i r P f (Began stage ∷ es) h k = (tt, spares_all p q i r P f es h k)
spares_all p q i r P f (Entered vs ∷ es) h k = (tt, spares_all p q i r P f es h k)
spares_all p q i r P f (Ended level ∷ es) h k = (subst (λ t. Outlives t level) (sym r) tt, spares_all p q i r P f es h k)
spares_all p q i r P f (Asked refused ∷ es) h k = (tt, spares_all p q i r P f es h k)

stays : (p : Program) → IsLawful p → (n : ℕ) (answers : ℕ → Bool) (first : Stage) (between : List Event) (second : Stage) → AreStages p n answers first between second
    → (q : Path) (i : ℕ) → q.root ≡ Static i → (P : Change → Type 0) → ((c : Change) → Permitted p c → P c → Each (Apart q) (paths c.reference)) → Each P (changes between) → get second.store q ≡ get first.store q
stays p l n answers first between second e q i r P f k =
    ap (λ s. get s q) (between_stages e.0 between e.1 first second (first_store (setting_of p)) (run_of p n answers).out e.2 (stages_stand p l n answers))
    ∙ spared between first.store q (subst (λ t. IsThere t first.store) (sym r) tt) (spares_all p q i r P f between (permitted_between p (run_of p n answers).out e.0 between e.1 first second e.2 (changes_are_permitted p l n answers)) k)

-- ---- other roots

other_root : (q r : Path) → same_root q.root r.root ≡ false → Apart q r
other_root q r e = (off (begins_with q.steps r.steps) e, off (begins_with r.steps q.steps) (swap e))
  where
    off : {a : Bool} (b : Bool) → a ≡ false → (a && b) ≡ false
    off b e = rw e refl

    swap : same_root q.root r.root ≡ false → same_root r.root q.root ≡ false
    swap e = by (same_root r.root q.root) refl
      where
        by : (b : Bool) → same_root r.root q.root ≡ b → same_root r.root q.root ≡ false
        by false f = f
        by true f = no (sym (e) ∙ ap (λ t. same_root t r.root) (sym (same_roots r.root q.root f)) ∙ root_itself r.root)

apart_all : (q : Path) (root : Root) (ks : List ℕ) → same_root q.root root ≡ false → (ps : List Path) → Each (IsAt root ks) ps → Each (Apart q) ps
apart_all q root ks e [] h = tt
apart_all q root ks e (r ∷ ps) h = (other_root q r (ap (same_root q.root) h.0.0 ∙ e), apart_all q root ks e ps h.1)

pub protected_stays : ProtectedStays
protected_stays p l n answers first between second e i y s b k =
    stays p l n answers first between second e (whole (Static i)) i refl (IsNotOwn (Static i) y.home) (λ c h o. by c h o (same_root (Static i) c.reference.path.root) refl) k
  where
    by : (c : Change) → Permitted p c → IsNotOwn (Static i) y.home c → (d : Bool) → same_root (Static i) c.reference.path.root ≡ d → Each (Apart (whole (Static i))) (paths c.reference)
    by c h o true f =
        let t : c.reference.path.root ≡ Static i = sym (same_roots (Static i) c.reference.path.root f) in
        absurd (o t (h.from_home i y t s b))
    by c h o false f = apart_all (whole (Static i)) c.reference.path.root (numbers c.reference.makers) f (paths c.reference) h.by_steps

-- ---- private components

prefix_of : (a b : List Step) (k : ℕ) → begins_with a (b ++ Step.Component k ∷ []) ≡ true → (rest : List ℕ) × (components a ≡ components b ++ (k ∷ rest))
prefix_of [] [] k e = no e
prefix_of [] (t ∷ b) k e = no e
prefix_of (s ∷ a) [] k e = last s a k e
  where
    last : (s : Step) (a : List Step) (k : ℕ) → (same_step s (Step.Component k) && true) ≡ true → (rest : List ℕ) × (components (s ∷ a) ≡ k ∷ rest)
    last (Component i) a k e = (components a, ap (λ j. j ∷ components a) (number i k (nat_eq i k) refl e))
      where
        number : (i k : ℕ) (b : Bool) → nat_eq i k ≡ b → (nat_eq i k && true) ≡ true → i ≡ k
        number i k true f e = eqb→eq i k (subst T (sym f) tt)
        number i k false f e = no (sym (ap (λ c. c && true) f) ∙ e)
    last (Element i) a k e = no e
    last Contents a k e = no e
prefix_of (s ∷ a) (t ∷ b) k e = by (λ f. prefix_of a b k f) (same_step s t) refl
  where
    stepped : (s t : Step) → same_step s t ≡ true → s ≡ t
    stepped (Component i) (Component j) e = ap Step.Component (eqb→eq i j (subst T (sym e) tt))
    stepped (Element i) (Element j) e = ap Element (eqb→eq i j (subst T (sym e) tt))
    stepped Contents Contents e = refl
    stepped (Component i) (Element j) e = no e
    stepped (Component i) Contents e = no e
    stepped (Element i) (Component j) e = no e
    stepped (Element i) Contents e = no e
    stepped Contents (Component j) e = no e
    stepped Contents (Element j) e = no e

    more : (s : Step) (a b : List Step) → (rest : List ℕ) × (components a ≡ components b ++ (k ∷ rest)) → (rest : List ℕ) × (components (s ∷ a) ≡ components (s ∷ b) ++ (k ∷ rest))
    more (Component i) a b h = (h.0, ap (λ l. i ∷ l) h.1)
    more (Element i) a b h = h
    more Contents a b h = h

    by : (begins_with a (b ++ Step.Component k ∷ []) ≡ true → (rest : List ℕ) × (components a ≡ components b ++ (k ∷ rest))) → (c : Bool) → same_step s t ≡ c → (rest : List ℕ) × (components (s ∷ a) ≡ components (t ∷ b) ++ (k ∷ rest))
    by next true f = subst (λ u. (rest : List ℕ) × (components (s ∷ a) ≡ components (u ∷ b) ++ (k ∷ rest))) (stepped s t f) (more s a b (next (sym (both (same_step s t) (begins_with a (b ++ Step.Component k ∷ [])) f) ∙ e)))
    by next false f = no (sym (ap (λ c. c && begins_with a (b ++ Step.Component k ∷ [])) f) ∙ e)

step_back : (s t : Step) → same_step s t ≡ true → same_step t s ≡ true
step_back (Component i) (Component j) e = subst (λ n. nat_eq n i ≡ true) (eqb→eq i j (subst T (sym e) tt)) (root_itself (Static i))
step_back (Element i) (Element j) e = subst (λ n. nat_eq n i ≡ true) (eqb→eq i j (subst T (sym e) tt)) (root_itself (Static i))
step_back Contents Contents e = refl
step_back (Component i) (Element j) e = e
step_back (Component i) Contents e = e
step_back (Element i) (Component j) e = e
step_back (Element i) Contents e = e
step_back Contents (Component j) e = e
step_back Contents (Element j) e = e

-- what is at or above a part is at or above the object, or is the part
split_prefix : (a b : List Step) (s : Step) → begins_with (a ++ s ∷ []) b ≡ true → Either (begins_with a b ≡ true) (begins_with b (a ++ s ∷ []) ≡ true)
split_prefix a [] s e = Left refl
split_prefix [] (t ∷ []) s e = Right (by (same_step s t) refl)
  where
    by : (c : Bool) → same_step s t ≡ c → (same_step t s && true) ≡ true
    by true f = both (same_step t s) true (step_back s t f)
    by false f = no (sym (ap (λ c. c && true) f) ∙ e)
split_prefix [] (t ∷ u ∷ b) s e = by (same_step s t) refl
  where
    by : (c : Bool) → same_step s t ≡ c → Either (begins_with [] (t ∷ u ∷ b) ≡ true) (begins_with (t ∷ u ∷ b) (s ∷ []) ≡ true)
    by true f = no (sym (both (same_step s t) false f) ∙ e)
    by false f = no (sym (ap (λ c. c && false) f) ∙ e)
split_prefix (r ∷ a) (t ∷ b) s e = by (λ f. split_prefix a b s f) (same_step r t) refl
  where
    onward : same_step r t ≡ true → Either (begins_with a b ≡ true) (begins_with b (a ++ s ∷ []) ≡ true) → Either (begins_with (r ∷ a) (t ∷ b) ≡ true) (begins_with (t ∷ b) (r ∷ a ++ s ∷ []) ≡ true)
    onward f (Left h) = Left (both (same_step r t) (begins_with a b) f ∙ h)
    onward f (Right h) = Right (both (same_step t r) (begins_with b (a ++ s ∷ [])) (step_back r t f) ∙ h)

    by : (begins_with (a ++ s ∷ []) b ≡ true → Either (begins_with a b ≡ true) (begins_with b (a ++ s ∷ []) ≡ true)) → (c : Bool) → same_step r t ≡ c → Either (begins_with (r ∷ a) (t ∷ b) ≡ true) (begins_with (t ∷ b) (r ∷ a ++ s ∷ []) ≡ true)
    by next true f = onward f (next (sym (both (same_step r t) (begins_with (a ++ s ∷ []) b) f) ∙ e))
    by next false f = no (sym (ap (λ c. c && begins_with (a ++ s ∷ []) b) f) ∙ e)

head_or : ℕ → List ℕ → ℕ
head_or d [] = d
head_or d (x ∷ xs) = x

tail_of : List ℕ → List ℕ
tail_of [] = []
tail_of (x ∷ xs) = xs

not_empty : {A : Type 0} (k : ℕ) (ks : List ℕ) → [] ≡ k ∷ ks → A
not_empty k ks e = no (ap is_full e)
  where
    is_full : List ℕ → Bool
    is_full [] = false
    is_full (x ∷ xs) = true

-- a component on the way has a maker, whom the change tells
told : (p : Program) (of : Base) (t : Derived) (k : ℕ) (c : m.Component) → derived_of p.types.items of ≡ Some t → slice_get t.components.items k ≡ Some c → c.is_private ≡ true
    → (ms : List Made) (start : Base) (ks rest : List ℕ) → numbers ms ≡ ks ++ (k ∷ rest) → IsTyped p.types.items start ms → along p.types.items start ks ≡ of → Each (IsMadeWell p) ms → Each (IsNotBy t.home of k) ms → ⊥
unfolding head_or tail_of
told p of t k c d s b [] start [] rest e y a w o = not_empty k rest e
told p of t k c d s b [] start (j ∷ ks) rest e y a w o = not_empty j (ks ++ (k ∷ rest)) e
told p of t k c d s b (x ∷ ms) start [] rest e y a w o =
    let is_k : x.component ≡ k = ap (head_or 0) e in
    let is_of : x.of ≡ of = y.0 ∙ a in
    o.0 is_of is_k (w.0 t c (ap (derived_of p.types.items) is_of ∙ d) (ap (slice_get t.components.items) is_k ∙ s) b)
told p of t k c d s b (x ∷ ms) start (j ∷ ks) rest e y a w o =
    let is_j : x.component ≡ j = ap (head_or 0) e in
    told p of t k c d s b ms (component_type p.types.items start x.component) ks rest (ap tail_of e) y.1 (ap (λ i. along p.types.items (component_type p.types.items start i) ks) is_j ∙ a) w.1 o.1

pub private_stays : PrivateStays
private_stays p l n answers first between second e i y s q r of t k c a d u b above by_whom =
    stays p l n answers first between second e part i r (λ x. IsNotAbove q x × Each (IsNotBy t.home of k) x.reference.makers) (λ x h o. left x h o.1 (paths x.reference) h.by_steps o.0) (paired (changes between) above by_whom)
  where
    part : Path
    part = within q (Step.Component k)

    paired : (xs : List Change) → Each (IsNotAbove q) xs → Each (λ (x : Change). Each (IsNotBy t.home of k) x.reference.makers) xs → Each (λ (x : Change). IsNotAbove q x × Each (IsNotBy t.home of k) x.reference.makers) xs
    paired [] h o = tt
    paired (x ∷ xs) h o = ((h.0, o.0), paired xs h.1 o.1)

    -- no path of the change goes through the part
    not_beneath : (x : Change) → Permitted p x → Each (IsNotBy t.home of k) x.reference.makers → (z : Path) → IsAt x.reference.path.root (numbers x.reference.makers) z → q.root ≡ z.root → begins_with z.steps (q.steps ++ Step.Component k ∷ []) ≡ true → ⊥
    not_beneath x h o z at f g =
        let way = prefix_of z.steps q.steps k g in
        let start : h.root_type ≡ y.declared.kind.of = h.by_root i y (sym at.0 ∙ sym f ∙ r) s in
        told p of t k c d u b x.reference.makers h.root_type (components q.steps) way.0 (sym at.1 ∙ way.1) h.by_types (ap (λ z. along p.types.items z (components q.steps)) start ∙ a) h.by_makers o

    one : (x : Change) → Permitted p x → Each (IsNotBy t.home of k) x.reference.makers → (z : Path) → IsAt x.reference.path.root (numbers x.reference.makers) z → goes_through q z ≡ false → Apart part z
    one x h o z at f = by (same_root q.root z.root) refl
      where
        beneath : q.root ≡ z.root → (c : Bool) → begins_with z.steps (q.steps ++ Step.Component k ∷ []) ≡ c → begins_with z.steps (q.steps ++ Step.Component k ∷ []) ≡ false
        beneath e true g = absurd (not_beneath x h o z at e g)
        beneath e false g = g

        over : same_root q.root z.root ≡ true → (c : Bool) → begins_with (q.steps ++ Step.Component k ∷ []) z.steps ≡ c → begins_with (q.steps ++ Step.Component k ∷ []) z.steps ≡ false
        over e false g = g
        over e true g = cases (split_prefix q.steps z.steps (Step.Component k) g)
          where
            cases : Either (begins_with q.steps z.steps ≡ true) (begins_with z.steps (q.steps ++ Step.Component k ∷ []) ≡ true) → begins_with (q.steps ++ Step.Component k ∷ []) z.steps ≡ false
            cases (Left v) = no (sym f ∙ both (same_root q.root z.root) (begins_with q.steps z.steps) e ∙ v)
            cases (Right v) = absurd (not_beneath x h o z at (same_roots q.root z.root e) v)

        by : (c : Bool) → same_root q.root z.root ≡ c → Apart part z
        by false e = other_root part z e
        by true e = (
          both (same_root q.root z.root) (begins_with (q.steps ++ Step.Component k ∷ []) z.steps) e ∙ over e (begins_with (q.steps ++ Step.Component k ∷ []) z.steps) refl,
          both (same_root z.root q.root) (begins_with z.steps (q.steps ++ Step.Component k ∷ [])) (subst (λ v. same_root v q.root ≡ true) (same_roots q.root z.root e) (root_itself q.root)) ∙ beneath (same_roots q.root z.root e) (begins_with z.steps (q.steps ++ Step.Component k ∷ [])) refl,
        )

    left : (x : Change) → Permitted p x → Each (IsNotBy t.home of k) x.reference.makers → (zs : List Path) → Each (IsAt x.reference.path.root (numbers x.reference.makers)) zs → Each (λ (z : Path). goes_through q z ≡ false) zs → Each (Apart part) zs
    left x h o [] at f = tt
    left x h o (z ∷ zs) at f = (one x h o z at.0 f.0, left x h o zs at.1 f.1)
