-- How ways to parts are to one another.
use Rattle.std.proofs.Common.{◌≡◌, ℕ, Bool, true, false, ◌&&◌, List, [], ◌∷◌, ◌++◌, nat_eq, refl, sym, ap, subst, ◌∙◌, arith}
use Rattle.std.proofs.lemmas.Bool.{eq-eqb}
use Rattle.std.proofs.lemmas.Bool.Decides.{nat_tests}
use Rattle.std.proofs.lemmas.List.{append_assoc}
use Rattle.std.specs.Prelude.{if◌then◌else◌}
use Rattle.f3_meaning_whole.specs.Store.{Root, Static, Local, Step, Component, Element, Contents, same_root, same_step, begins_with}
use Rattle.f3_rooms.specs.Ways.{are_aside}

pub never : {A : Type 0} → false ≡ true → A
never e = absurd (cc)

-- ---- steps and roots

same_numbers : (i k : ℕ) → nat_eq i k ≡ true → i ≡ k
same_numbers i k e = grind (arith, nat_tests)

pub same_steps : (s t : Step) → same_step s t ≡ true → s ≡ t
same_steps (Component i) (Component k) e = ap Component (same_numbers i k e)
same_steps (Component i) (Element k) e = never e
same_steps (Component i) Contents e = never e
same_steps (Element i) (Component k) e = never e
same_steps (Element i) (Element k) e = ap Element (same_numbers i k e)
same_steps (Element i) Contents e = never e
same_steps Contents (Component k) e = never e
same_steps Contents (Element k) e = never e
same_steps Contents Contents e = refl

pub step_itself : (s : Step) → same_step s s ≡ true
step_itself (Component k) = eq-eqb k k refl
step_itself (Element k) = eq-eqb k k refl
step_itself Contents = refl

pub both_left : (a b : Bool) → (a && b) ≡ true → a ≡ true
both_left true b e = refl
both_left false b e = e

pub both_right : (a b : Bool) → (a && b) ≡ true → b ≡ true
both_right true b e = e
both_right false b e = never e

pub same_roots : (r q : Root) → same_root r q ≡ true → r ≡ q
same_roots (Static i) (Static k) e = ap Static (same_numbers i k e)
same_roots (Static i) (Local l k) e = never e
same_roots (Local l i) (Static k) e = never e
same_roots (Local l i) (Local j k) e =
    ap (λ n. Local n i) (same_numbers l j (both_left (nat_eq l j) (nat_eq i k) e)) ∙ ap (Local j) (same_numbers i k (both_right (nat_eq l j) (nat_eq i k) e))

pub root_itself : (r : Root) → same_root r r ≡ true
root_itself (Static i) = eq-eqb i i refl
root_itself (Local l i) = ap (λ t. t && nat_eq i i) (eq-eqb l l refl) ∙ eq-eqb i i refl

-- ---- ways

-- a way goes elsewhere than another at some step, goes on from its end, or ends before it
pub data Lies (way other : List Step) : Type 0 where
  Aside : are_aside way other ≡ true → Lies way other
  Onward : (more : List Step) → other ≡ way ++ more → Lies way other
  Before : (step : Step) (more : List Step) → way ≡ other ++ step ∷ more → Lies way other

pub lie : (way other : List Step) → Lies way other
lie [] other = Onward other refl
lie (s ∷ way) [] = Before s way refl
lie (s ∷ way) (t ∷ other) = by (same_step s t) refl (lie way other)
  where
    by : (e : Bool) → same_step s t ≡ e → Lies way other → Lies (s ∷ way) (t ∷ other)
    by false e l = Aside (ap (λ c. if c then are_aside way other else true) e)
    by true e (Aside a) = Aside (ap (λ c. if c then are_aside way other else true) e ∙ a)
    by true e (Onward more is) = Onward more (ap (λ k. k ∷ other) (sym (same_steps s t e)) ∙ ap (λ w. s ∷ w) is)
    by true e (Before step more is) = Before step more (ap (λ k. k ∷ way) (same_steps s t e) ∙ ap (λ w. t ∷ w) is)

pub begins : (way front : List Step) → begins_with way front ≡ true → (after : List Step) × (way ≡ front ++ after)
begins way [] e = (way, refl)
begins [] (t ∷ front) e = never e
begins (s ∷ way) (t ∷ front) e =
    let i = begins way front (both_right (same_step s t) (begins_with way front) e) in
    (i.0, ap (λ k. k ∷ way) (same_steps s t (both_left (same_step s t) (begins_with way front) e)) ∙ ap (λ w. t ∷ w) i.1)

pub begins_so : (front after : List Step) → begins_with (front ++ after) front ≡ true
begins_so [] [] = refl
begins_so [] (s ∷ after) = refl
begins_so (t ∷ front) after = ap (λ c. c && begins_with (front ++ after) front) (step_itself t) ∙ begins_so front after

-- a step more
pub stepped : (front : List Step) (s : Step) (way : List Step) → (front ++ s ∷ []) ++ way ≡ front ++ s ∷ way
stepped front s way = append_assoc front (s ∷ []) way

pub enters : (way front : List Step) → begins_with way (front ++ Contents ∷ []) ≡ true → (after : List Step) × (way ≡ front ++ Contents ∷ after)
enters way front e = let i = begins way (front ++ Contents ∷ []) e in (i.0, i.1 ∙ stepped front Contents i.0)

pub enters_so : (front after : List Step) → begins_with (front ++ Contents ∷ after) (front ++ Contents ∷ []) ≡ true
enters_so front after = subst (λ w. begins_with w (front ++ Contents ∷ []) ≡ true) (stepped front Contents after) (begins_so (front ++ Contents ∷ []) after)
