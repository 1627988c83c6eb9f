-- What is noted where an instruction leads.
use Rattle.std.proofs.Common.{◌≡◌, ◌≢◌, ◌≤◌, ◌<◌, ℕ, zero, suc, ◌+◌, ◌-◌, ◌*◌, List, [], ◌∷◌, length, get_or, take, Option, None, Some, refl, sym, ap, ◌∙◌, subst, arith}
use Rattle.std.specs.Prelude.{slice_get}
use Rattle.f3_code.specs.declared.instruction.Instruction.{Instruction}
use Rattle.f3_heights.specs.Effect as heights
use Rattle.f3_heights.specs.Effect.{effect}
use Rattle.f3_heights.specs.Heights.{IsNext, AreFar}
use Rattle.f3_sizes.specs.declared.effect.Far.{Far}
use Rattle.f3_sizes.specs.Effect.{far_in}
use Rattle.f3_sizes.specs.Part.{IntoNext, IntoFar, IsNoted, AreNoted, Grows, IsReady, IsSameUpTo, unnoted}
use Rattle.f3_sizes.proofs.Few.{FewNext, FewFar, few_next, few_far}

abbrev Notes : Type 0
Notes = List (Option ℕ)

pub grows_on : (a b c : Notes) → Grows a b → Grows b c → Grows a c
grows_on a b c g h = record { kept = λ k x e. h.kept k x (g.kept k x e); fewer = omega (arith, g.fewer, h.fewer) }

pub stays : (a : Notes) → Grows a a
stays a = record { kept = λ k h e. e; fewer = omega arith }

pub noted_on : (a b : Notes) (k : ℕ) → Grows a b → IsNoted a k → IsNoted b k
noted_on a b k g h = (h.0, g.kept k h.0 h.1)

pub into_next_on : {P Q : ℕ → Type 0} (at : ℕ) (o : Option ℕ) → ((k : ℕ) → P k → Q k) → IntoNext P at o → IntoNext Q at o
into_next_on at None f h = tt
into_next_on at (Some left) f h = f (at + 1) h

pub into_far_on : {P Q : ℕ → Type 0} (at : ℕ) (xs : List heights.Far) → ((k : ℕ) → P k → Q k) → IntoFar P at xs → IntoFar Q at xs
into_far_on at [] f h = tt
into_far_on at (x ∷ xs) f h = (f (at + 1 + x.over) h.0, into_far_on at xs f h.1)

-- a way that stands in a list
pub way_at : (P : ℕ → Type 0) (at : ℕ) (xs : List (Option Far)) (k : ℕ) (w : Far) → IntoFar P at (far_in xs) → slice_get xs k ≡ Some (Some w) → P (at + 1 + w.over)
way_at P at [] k w h e = cc
way_at P at (Some x ∷ xs) zero w h e = let same : x ≡ w = cc in subst (λ (y : Far). P (at + 1 + y.over)) same h.0
way_at P at (None ∷ xs) zero w h e = cc
way_at P at (Some x ∷ xs) (suc k) w h e = way_at P at xs k w h.1 e
way_at P at (None ∷ xs) (suc k) w h e = way_at P at xs k w h e

pub height_at : (height : ℕ → ℕ) (at rest : ℕ) (xs : List (Option Far)) (k : ℕ) (w : Far) → AreFar height at rest (far_in xs) → slice_get xs k ≡ Some (Some w) →
    height (at + 1 + w.over) ≡ w.left + rest
height_at height at rest [] k w h e = cc
height_at height at rest (Some x ∷ xs) zero w h e = let same : x ≡ w = cc in subst (λ (y : Far). height (at + 1 + y.over) ≡ y.left + rest) same h.0
height_at height at rest (None ∷ xs) zero w h e = cc
height_at height at rest (Some x ∷ xs) (suc k) w h e = height_at height at rest xs k w h.1 e
height_at height at rest (None ∷ xs) (suc k) w h e = height_at height at rest xs k w h e

pub few_at : (takes : ℕ) (xs : List (Option Far)) (k : ℕ) (w : Far) → FewFar takes (far_in xs) → slice_get xs k ≡ Some (Some w) → w.left ≤ takes + 2
few_at takes [] k w h e = cc
few_at takes (Some x ∷ xs) zero w h e = let same : x ≡ w = cc in subst (λ (y : Far). y.left ≤ takes + 2) same h.0
few_at takes (None ∷ xs) zero w h e = cc
few_at takes (Some x ∷ xs) (suc k) w h e = few_at takes xs k w h.1 e
few_at takes (None ∷ xs) (suc k) w h e = few_at takes xs k w h e

-- a way that is read stands there
pub read_way : (xs : List (Option Far)) (k : ℕ) (w : Far) → get_or xs k None ≡ Some w → slice_get xs k ≡ Some (Some w)
read_way [] k w e = cc
read_way (x ∷ xs) zero w e = ap (λ y. Some y) e
read_way (x ∷ xs) (suc k) w e = read_way xs k w e

-- one way more
pub into_far_more : (P : ℕ → Type 0) (at : ℕ) (xs : List (Option Far)) (i : ℕ) (w : Option Far) → get_or xs i None ≡ w → IntoFar P at (far_in (take i xs)) →
    ((x : Far) → w ≡ Some x → P (at + 1 + x.over)) → IntoFar P at (far_in (take (suc i) xs))
into_far_more P at [] i w e h f = tt
into_far_more P at (None ∷ xs) zero w e h f = tt
into_far_more P at (Some x ∷ xs) zero w e h f = (f x (sym e), tt)
into_far_more P at (None ∷ xs) (suc i) w e h f = into_far_more P at xs i w e h f
into_far_more P at (Some x ∷ xs) (suc i) w e h f = (h.0, into_far_more P at xs i w e h.1 f)

-- ---- what is noted of the ways of an instruction, so many of those that lead farther

pub record WaysNoted (old new : Notes) (at cells : ℕ) (act : Instruction) (xs : List (Option Far)) (i : ℕ) : Type 0 where
  pub noted : (height : ℕ → ℕ) → IsReady height old at cells (effect act) → AreNoted height new
  pub grows : Grows old new
  pub next : IntoNext (IsNoted new) at (effect act).next
  pub far : IntoFar (IsNoted new) at (far_in (take i xs))
  pub before : IsSameUpTo at old new

-- what stands at a line to which a way leads
pub record IsWay (height : ℕ → ℕ) (old new : Notes) (to cells : ℕ) : Type 0 where
  pub right : cells ≡ height to
  pub few : cells + 2 * unnoted new ≤ 2 * length new + 2
  pub within : to < length old

-- what stays beneath
rest_is : (height : ℕ → ℕ) (old : Notes) (at cells rest : ℕ) (act : Instruction) (h : IsReady height old at cells (effect act)) → rest ≡ cells - (effect act).takes →
    (h.leads.rest ≡ rest) × (cells ≡ (effect act).takes + rest)
rest_is height old at cells rest act h e =
    let right = h.noted.right at cells h.here in
    let before = h.leads.before in (omega (arith, right, before, e), omega (arith, right, before, e))

few_here : (height : ℕ → ℕ) (old new : Notes) (at cells takes rest left : ℕ) → AreNoted height new → Grows old new → slice_get old at ≡ Some (Some cells) →
    cells ≡ takes + rest → left ≤ takes + 2 → left + rest + 2 * unnoted new ≤ 2 * length new + 2
few_here height old new at cells takes rest left a g here e le = omega (arith, a.few at cells (g.kept at cells here), e, le)

pub far_way : (height : ℕ → ℕ) (old new : Notes) (at cells rest : ℕ) (act : Instruction) (xs : List (Option Far)) (i j : ℕ) (w : Far) →
    IsReady height old at cells (effect act) → WaysNoted old new at cells act xs j → far_in xs ≡ (effect act).far → rest ≡ cells - (effect act).takes →
    get_or xs i None ≡ Some w → IsWay height old new (at + 1 + w.over) (w.left + rest)
far_way height old new at cells rest act xs i j w h n same e read =
    let is = read_way xs i w read in
    let far = subst (λ fs. AreFar height at h.leads.rest fs) (sym same) h.leads.far in
    let into = subst (λ fs. IntoFar (λ j. j < length old) at fs) (sym same) h.onward.far in
    let few = subst (λ fs. FewFar (effect act).takes fs) (sym same) (few_far act) in
    let r = rest_is height old at cells rest act h e in
    let there = height_at height at h.leads.rest xs i w far is in record {
      right = sym (there ∙ ap (λ n. w.left + n) r.0);
      few = few_here height old new at cells (effect act).takes rest w.left (n.noted height h) n.grows h.here r.1 (few_at (effect act).takes xs i w few is);
      within = way_at (λ j. j < length old) at xs i w into is;
    }

pub next_way : (height : ℕ → ℕ) (old : Notes) (at cells rest : ℕ) (act : Instruction) (left : ℕ) → IsReady height old at cells (effect act) →
    rest ≡ cells - (effect act).takes → (effect act).next ≡ Some left → IsWay height old old (at + 1) (left + rest)
next_way height old at cells rest act left h e is =
    let next = subst (λ o. IsNext height at h.leads.rest o) is h.leads.next in
    let into = subst (λ o. IntoNext (λ j. j < length old) at o) is h.onward.next in
    let few = subst (λ o. FewNext (effect act).takes o) is (few_next act) in
    let r = rest_is height old at cells rest act h e in record {
      right = sym (next ∙ ap (λ n. left + n) r.0);
      few = few_here height old old at cells (effect act).takes rest left h.noted (stays old) h.here r.1 few;
      within = into;
    }

-- what a note says
pub record IsNote (old new : Notes) (to cells : ℕ) : Type 0 where
  pub noted : (height : ℕ → ℕ) → AreNoted height old → cells ≡ height to → cells + 2 * unnoted old ≤ 2 * length old + 2 → AreNoted height new
  pub grows : Grows old new
  pub there : IsNoted new to
  pub others : (k : ℕ) → k ≢ to → slice_get new k ≡ slice_get old k

pub far_more : (old mid new : Notes) (at cells rest : ℕ) (act : Instruction) (xs : List (Option Far)) (i : ℕ) (w : Far) →
    WaysNoted old mid at cells act xs i → far_in xs ≡ (effect act).far → rest ≡ cells - (effect act).takes → get_or xs i None ≡ Some w →
    IsNote mid new (at + 1 + w.over) (w.left + rest) → WaysNoted old new at cells act xs (i + 1)
far_more old mid new at cells rest act xs i w n same e is b =
    let on : (k : ℕ) → IsNoted mid k → IsNoted new k = λ k h. noted_on mid new k b.grows h in
    let far = into_far_more (IsNoted new) at xs i (Some w) is (into_far_on at (far_in (take i xs)) on n.far)
    (λ x e. let s : w ≡ x = cc in subst (λ (y : Far). IsNoted new (at + 1 + y.over)) s b.there) in
    let add : suc i ≡ i + 1 = omega arith in record {
      noted = λ height h. let y = far_way height old mid at cells rest act xs i i w h n same e is in b.noted height (n.noted height h) y.right y.few;
      grows = grows_on old mid new n.grows b.grows;
      next = into_next_on at (effect act).next on n.next;
      far = subst (λ k. IntoFar (IsNoted new) at (far_in (take k xs))) add far;
      before = λ k le. let ne : k ≢ at + 1 + w.over = omega arith in b.others k ne ∙ n.before k le;
    }

pub far_none : (old new : Notes) (at cells : ℕ) (act : Instruction) (xs : List (Option Far)) (i : ℕ) → WaysNoted old new at cells act xs i →
    get_or xs i None ≡ None → WaysNoted old new at cells act xs (i + 1)
far_none old new at cells act xs i n is =
    let add : suc i ≡ i + 1 = omega arith in record {
      noted = n.noted;
      grows = n.grows;
      next = n.next;
      far = subst (λ k. IntoFar (IsNoted new) at (far_in (take k xs))) add (into_far_more (IsNoted new) at xs i None is n.far (λ x e. cc));
      before = n.before;
    }

pub next_first : (old new : Notes) (at cells rest : ℕ) (act : Instruction) (xs : List (Option Far)) (left : ℕ) → rest ≡ cells - (effect act).takes →
    (effect act).next ≡ Some left → IsNote old new (at + 1) (left + rest) → WaysNoted old new at cells act xs 0
next_first old new at cells rest act xs left e is b = record {
  noted = λ height h. let y = next_way height old at cells rest act left h e is in b.noted height h.noted y.right y.few;
  grows = b.grows;
  next = subst (λ o. IntoNext (IsNoted new) at o) (sym is) b.there;
  far = tt;
  before = λ k le. let ne : k ≢ at + 1 = omega arith in b.others k ne;
}

pub none_first : (old : Notes) (at cells : ℕ) (act : Instruction) (xs : List (Option Far)) → (effect act).next ≡ None → WaysNoted old old at cells act xs 0
none_first old at cells act xs is = record {
  noted = λ height h. h.noted;
  grows = stays old;
  next = subst (λ o. IntoNext (IsNoted old) at o) (sym is) tt;
  far = tt;
  before = λ k le. refl;
}
