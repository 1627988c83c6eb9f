-- Ranges in a map, by the calls of the map.
use Rattle.std.proofs.Common.{◌≡◌, ◌≢◌, ◌↔◌, IsTrue, refl, ℤ, ◌<ℤ◌, ◌≤ℤ◌, ◌⊎◌, inl, inr, ⊎_elim, Bool, true, false, cond, Option, None, Some, IsSome, Ordering, List, ◌∷◌, ap, ◌∙◌, sym, subst, arith}
use Rattle.std.specs.Ordering.{MatchOrdering, int_cmp, is_lt, is_gt, is_eq}
use Rattle.std.specs.declared.cmp.Ordering.TheVariants.{Less, Equal, Greater}
use Rattle.std.specs.Int.RustNames.{int_le, int_lt}
use Rattle.std.specs.Option.{is_some, IfSome}
use Rattle.std.specs.List.{slice_get}
use Rattle.std.specs.BTreeMap.{BTreeMap, get}
use Rattle.std.specs.BTreeMap.Range.{IsLeBy}
use Rattle.std.proofs.lemmas.Cmp.{int_ranked}
use Rattle.std.proofs.lemmas.Int.{ints, by_lt_z}
use lib.Dec.{T}
use Rattle.f3_cases.specs.Inner.Ranges.{end_of, Rising, IsLast, IsFirst, Reaches, IsCut, IsGrown}

-- ---- the order of the keys

le_ranked : (a b : ℤ) (r : Ordering) → MatchOrdering r (a <ℤ b) (a ≡ b) (b <ℤ a) → is_gt r ≡ false → a ≤ℤ b
le_ranked a b Less h e = omega (arith, ints)
le_ranked a b Equal h e = omega (arith, ints)
le_ranked a b Greater h e = cc

ranked_le : (a b : ℤ) (r : Ordering) → MatchOrdering r (a <ℤ b) (a ≡ b) (b <ℤ a) → a ≤ℤ b → is_gt r ≡ false
ranked_le a b Less h e = refl
ranked_le a b Equal h e = refl
ranked_le a b Greater h e = absurd (omega (arith, ints))

ge_ranked : (a b : ℤ) (r : Ordering) → MatchOrdering r (a <ℤ b) (a ≡ b) (b <ℤ a) → is_lt r ≡ false → b ≤ℤ a
ge_ranked a b Less h e = cc
ge_ranked a b Equal h e = omega (arith, ints)
ge_ranked a b Greater h e = omega (arith, ints)

eq_ranked : (a b : ℤ) (r : Ordering) → MatchOrdering r (a <ℤ b) (a ≡ b) (b <ℤ a) → (a ≡ b) × (is_eq r ≡ true) ⊎ (a ≢ b) × (is_eq r ≡ false)
eq_ranked a b Less h = inr (λ e. omega (arith, ints), refl)
eq_ranked a b Equal h = inl (h, refl)
eq_ranked a b Greater h = inr (λ e. omega (arith, ints), refl)

pub le_from_cmp : (a b : ℤ) → IsLeBy int_cmp a b → a ≤ℤ b
le_from_cmp a b e = le_ranked a b (int_cmp a b) (int_ranked a b _ refl) e

pub cmp_from_le : (a b : ℤ) → a ≤ℤ b → IsLeBy int_cmp a b
cmp_from_le a b h = ranked_le a b (int_cmp a b) (int_ranked a b _ refl) h

ge_from_cmp : (a b : ℤ) → is_lt (int_cmp a b) ≡ false → b ≤ℤ a
ge_from_cmp a b e = ge_ranked a b (int_cmp a b) (int_ranked a b _ refl) e

eq_from_cmp : (a b : ℤ) → (a ≡ b) × (is_eq (int_cmp a b) ≡ true) ⊎ (a ≢ b) × (is_eq (int_cmp a b) ≡ false)
eq_from_cmp a b = eq_ranked a b (int_cmp a b) (int_ranked a b _ refl)

some_there : (o : Option ℤ) (h : ℤ) → o ≡ Some h → IsSome o
some_there o h e = ap is_some e

pub last_made : (m : BTreeMap ℤ ℤ) (y l h : ℤ) → IsLeBy int_cmp l y → get int_cmp m l ≡ Some h
    → ((q : ℤ) → IsLeBy int_cmp q y → IsSome (get int_cmp m q) → is_lt (int_cmp l q) ≡ false) → IsLast (end_of m) y (l, h)
last_made m y l h le is last = record {
  there = is;
  below = le_from_cmp l y le;
  last = λ q k under e. ge_from_cmp l q (last q (cmp_from_le q y under) (some_there (get int_cmp m q) k e));
}

-- the same of equal numbers
pub last_same : (g : ℤ → Option ℤ) (y y' l l' h h' : ℤ) → y' ≡ y → l' ≡ l → h' ≡ h → IsLast g y' (l, h) → IsLast g y (l', h')
last_same g y y' l l' h h' e f k is =
    subst (λ (v : ℤ). IsLast g v (l', h')) e (subst (λ (v : ℤ). IsLast g y' (v, h')) (sym f) (subst (λ (v : ℤ). IsLast g y' (l, v)) (sym k) is))

pub first_made : (m : BTreeMap ℤ ℤ) (z l h : ℤ) → IsLeBy int_cmp z l → get int_cmp m l ≡ Some h
    → ((q : ℤ) → IsLeBy int_cmp z q → IsSome (get int_cmp m q) → IsLeBy int_cmp l q) → IsFirst (end_of m) z (l, h)
first_made m z l h le is first = record {
  there = is;
  above = le_from_cmp z l le;
  first = λ q k over e. le_from_cmp l q (first q (cmp_from_le z q over) (some_there (get int_cmp m q) k e));
}

pub first_same : (g : ℤ → Option ℤ) (z z' l l' h h' : ℤ) → z' ≡ z → l' ≡ l → h' ≡ h → IsFirst g z' (l, h) → IsFirst g z (l', h')
first_same g z z' l l' h h' e f k is =
    subst (λ (v : ℤ). IsFirst g v (l', h')) e (subst (λ (v : ℤ). IsFirst g z' (v, h')) (sym f) (subst (λ (v : ℤ). IsFirst g z' (l, v)) (sym k) is))

-- what is said of the first of a list
pub of_first : (P : ℤ × ℤ → Type 0) (xs : List (ℤ × ℤ)) (x : ℤ × ℤ) (others : List (ℤ × ℤ)) → xs ≡ x ∷ others → IfSome (slice_get xs 0) P → P x
of_first P xs x others e h = subst (λ (ys : List (ℤ × ℤ)). IfSome (slice_get ys 0) P) e h

-- ---- reaching

same_end : (o : Option ℤ) (h k : ℤ) → o ≡ Some h → o ≡ Some k → h ≡ k
same_end o h k a b = cc

none_some : (o : Option ℤ) (k : ℤ) → o ≡ None → o ≡ Some k → ⊥
none_some o k a b = cc

less_ranked : (a b : ℤ) (r : Ordering) → MatchOrdering r (a <ℤ b) (a ≡ b) (b <ℤ a) → a ≤ℤ b → a ≢ b → a <ℤ b
less_ranked a b Less h le ne = h
less_ranked a b Equal h le ne = absurd (ne h)
less_ranked a b Greater h le ne = absurd (omega (arith, ints))

less : (l m : ℤ) → l ≤ℤ m → l ≢ m → l <ℤ m
less l m le ne = less_ranked l m (int_cmp l m) (int_ranked l m _ refl) le ne

-- where one begins later or at the same number it ends later or there
ends_later : (g : ℤ → Option ℤ) (l h m k : ℤ) → Rising g → g l ≡ Some h → g m ≡ Some k → l ≤ℤ m → h ≤ℤ k
ends_later g l h m k r a b le =
    ⊎_elim (λ same. let e : h ≡ k = same_end (g m) h k (ap g (sym same.0) ∙ a) b in omega (arith, ints)) (λ other. let lt : h <ℤ k = r.rising l h m k a b (less l m le other.0) in omega (arith, ints)) (eq_from_cmp l m)

pub reaches_last : (g : ℤ → Option ℤ) (z y l h : ℤ) → Rising g → IsLast g y (l, h) → Reaches g z y → z ≤ℤ h
reaches_last g z y l h rising is reach =
    let le : reach.first ≤ℤ l = is.last reach.first reach.last reach.begins reach.there in
    let more : reach.last ≤ℤ h = ends_later g reach.first reach.last l h rising reach.there is.there le in
    let ends : z ≤ℤ reach.last = reach.ends in
    omega (arith, ints)

is_true : (b : Bool) → T b → b ≡ true
is_true true h = refl
is_true false h = absurd h

pub true_le : (a b : ℤ) → IsTrue (int_le a b) → a ≤ℤ b
true_le a b h = record { le = subst (λ (t : Bool). T t) (sym h) tt }

pub le_true : (a b : ℤ) → a ≤ℤ b → IsTrue (int_le a b)
le_true a b h = is_true (int_le a b) h.le

pub reaches_test : (g : ℤ → Option ℤ) (z z' y y' l h h' : ℤ) → z' ≡ z → y' ≡ y → h' ≡ h → Rising g → IsLast g y' (l, h) → IsTrue (int_le z' h') ↔ Reaches g z y
reaches_test g z z' y y' l h h' e k f rising in_memory =
    let is : IsLast g y (l, h) = subst (λ (v : ℤ). IsLast g v (l, h)) k in_memory in (
      (λ t. let le : z' ≤ℤ h' = true_le z' h' t in record { first = l; last = h; there = is.there; begins = is.below; ends = omega (arith, ints) }),
      (λ reach. le_true z' h' (let le : z ≤ℤ h = reaches_last g z y l h rising is reach in omega (arith, ints))),
    )

-- ---- after a range is taken out, or put in

pub taken_out : (g after : ℤ → Option ℤ) (l : ℤ) → ((q : ℤ) → after q ≡ cond (is_eq (int_cmp l q)) None (g q)) → (q k : ℤ) → after q ≡ Some k → g q ≡ Some k
taken_out g after l e q k is = ⊎_elim (λ same. absurd (none_some (after q) k (e q ∙ ap (λ b. cond b None (g q)) same.1) is)) (λ other. sym (e q ∙ ap (λ b. cond b None (g q)) other.1) ∙ is) (eq_from_cmp l q)

pub left_in : (g after : ℤ → Option ℤ) (l : ℤ) → ((q : ℤ) → after q ≡ cond (is_eq (int_cmp l q)) None (g q)) → (q k : ℤ) → g q ≡ Some k → (after q ≡ Some k) ⊎ (l ≡ q)
left_in g after l e q k is = ⊎_elim (λ same. inr same.0) (λ other. inl (e q ∙ ap (λ b. cond b None (g q)) other.1 ∙ is)) (eq_from_cmp l q)

put_in : (g after : ℤ → Option ℤ) (l h : ℤ) → ((q : ℤ) → after q ≡ cond (is_eq (int_cmp l q)) (Some h) (g q)) → (q : ℤ) → (l ≡ q) × (after q ≡ Some h) ⊎ (l ≢ q) × (after q ≡ g q)
put_in g after l h e q = ⊎_elim (λ same. inl (same.0, e q ∙ ap (λ b. cond b (Some h) (g q)) same.1)) (λ other. inr (other.0, e q ∙ ap (λ b. cond b (Some h) (g q)) other.1)) (eq_from_cmp l q)

-- ranges that lie within one are gone, perhaps not all
pub record Thinned (g after : ℤ → Option ℤ) (z y : ℤ) : Type 0 where
  pub old : (l h : ℤ) → after l ≡ Some h → g l ≡ Some h
  pub kept : (l h : ℤ) → g l ≡ Some h → (after l ≡ Some h) ⊎ ((z ≤ℤ l) × (h ≤ℤ y))

pub thinned_none : (g : ℤ → Option ℤ) (z y : ℤ) → Thinned g g z y
thinned_none g z y = record { old = λ l h is. is; kept = λ l h is. inl is }

pub thinned_more : (g mid after : ℤ → Option ℤ) (z y l h : ℤ) → IsFirst mid z (l, h) → h ≤ℤ y → ((q : ℤ) → after q ≡ cond (is_eq (int_cmp l q)) None (mid q)) → Thinned g mid z y → Thinned g after z y
thinned_more g mid after z y l h is le e thin = record {
  old = λ q k there. thin.old q k (taken_out mid after l e q k there);
  kept = λ q k there. ⊎_elim
      (λ (still : mid q ≡ Some k). ⊎_elim
      (λ (in_after : after q ≡ Some k). inl in_after)
      (λ (same : l ≡ q). let f : h ≡ k = same_end (mid q) h k (ap mid (sym same) ∙ is.there) still in inr (let above : z ≤ℤ l = is.above in (omega (arith, ints), omega (arith, ints))))
      (left_in mid after l e q k still))
      (λ gone. inr gone)
      (thin.kept q k there);
}

-- none is left that begins at z or above and ends at y or below
pub cut_done : (g after : ℤ → Option ℤ) (z y l h : ℤ) → Rising g → Thinned g after z y → IsFirst after z (l, h) → y <ℤ h → IsCut g after z y
cut_done g after z y l h rising thin is lt = record {
  old = thin.old;
  kept = thin.kept;
  beyond = λ q k there above.
      let begins : l ≤ℤ q = is.first q k above there in
      let later : h ≤ℤ k = ends_later g l h q k rising (thin.old l h is.there) (thin.old q k there) begins in
      omega (arith, ints);
}

pub cut_all : (g after : ℤ → Option ℤ) (z y : ℤ) → Thinned g after z y → ((l : ℤ) → z ≤ℤ l → after l ≡ None) → IsCut g after z y
cut_all g after z y thin none = record {
  old = thin.old;
  kept = thin.kept;
  beyond = λ q k there above. absurd (none_some (after q) k (none q above) there);
}

-- ---- after a range is put in

pub grown_none : (g : ℤ → Option ℤ) (z y : ℤ) → Rising g → Reaches g y z → IsGrown g g z y
grown_none g z y rising reach = record {
  rising = rising;
  old = λ l h is. inl is;
  kept = λ l h is. record { first = l; last = h; there = is; begins = omega (arith, ints); ends = omega (arith, ints) };
  new = reach;
}

shorter : (g : ℤ → Option ℤ) (z y l h : ℤ) → (Reaches g y z → ⊥) → g l ≡ Some h → l ≤ℤ z → h <ℤ y
shorter g z y l h none there le = by_lt_z h y (λ lt. lt) (λ (over : y ≤ℤ h). absurd (none (record { first = l; last = h; there = there; begins = le; ends = over })))

grown_rising : (g mid after : ℤ → Option ℤ) (z y : ℤ) → Rising g → (Reaches g y z → ⊥) → IsCut g mid z y → ((q : ℤ) → after q ≡ cond (is_eq (int_cmp z q)) (Some y) (mid q))
    → (l h m k : ℤ) → after l ≡ Some h → after m ≡ Some k → l <ℤ m → h <ℤ k
grown_rising g mid after z y rising none cut e l h m k a b lt = ⊎_elim
    (λ (first : (z ≡ l) × (after l ≡ Some y)). ⊎_elim
    (λ (both : (z ≡ m) × (after m ≡ Some y)). let f : z ≡ l = first.0 in let f' : z ≡ m = both.0 in absurd (omega (arith, ints)))
    (λ (other : (z ≢ m) × (after m ≡ mid m)).
    let f : z ≡ l = first.0 in
    let f' : y ≡ h = same_end (after l) y h first.1 a in
    let later : y <ℤ k = cut.beyond m k (sym other.1 ∙ b) (omega (arith, ints)) in
    omega (arith, ints))
    (put_in mid after z y e m))
    (λ (apart : (z ≢ l) × (after l ≡ mid l)). ⊎_elim
    (λ (second : (z ≡ m) × (after m ≡ Some y)).
    let f : z ≡ m = second.0 in
    let f' : y ≡ k = same_end (after m) y k second.1 b in
    let less : h <ℤ y = shorter g z y l h none (cut.old l h (sym apart.1 ∙ a)) (omega (arith, ints)) in
    omega (arith, ints))
    (λ (other : (z ≢ m) × (after m ≡ mid m)). rising.rising l h m k (cut.old l h (sym apart.1 ∙ a)) (cut.old m k (sym other.1 ∙ b)) lt)
    (put_in mid after z y e m))
    (put_in mid after z y e l)

put_there : (g after : ℤ → Option ℤ) (l h : ℤ) → ((q : ℤ) → after q ≡ cond (is_eq (int_cmp l q)) (Some h) (g q)) → after l ≡ Some h
put_there g after l h e = ⊎_elim (λ (same : (l ≡ l) × (after l ≡ Some h)). same.1) (λ (other : (l ≢ l) × (after l ≡ g l)). absurd (other.0 refl)) (put_in g after l h e l)

pub grown : (g mid after : ℤ → Option ℤ) (z y : ℤ) → Rising g → (Reaches g y z → ⊥) → IsCut g mid z y → ((q : ℤ) → after q ≡ cond (is_eq (int_cmp z q)) (Some y) (mid q)) → IsGrown g after z y
grown g mid after z y rising none cut e = record {
  rising = record { rising = grown_rising g mid after z y rising none cut e };
  old = λ l h is. ⊎_elim
      (λ (same : (z ≡ l) × (after l ≡ Some y)). inr (sym same.0, same_end (after l) h y is same.1))
      (λ (other : (z ≢ l) × (after l ≡ mid l)). inl (cut.old l h (sym other.1 ∙ is)))
      (put_in mid after z y e l);
  kept = λ l h is. ⊎_elim
      (λ (still : mid l ≡ Some h). ⊎_elim
      (λ (same : (z ≡ l) × (after l ≡ Some y)).
      let f : z ≡ l = same.0 in
      let less : h <ℤ y = shorter g z y l h none is (omega (arith, ints)) in
      record { first = l; last = y; there = same.1; begins = omega (arith, ints); ends = omega (arith, ints) })
      (λ (other : (z ≢ l) × (after l ≡ mid l)). record { first = l; last = h; there = other.1 ∙ still; begins = omega (arith, ints); ends = omega (arith, ints) })
      (put_in mid after z y e l))
      (λ (gone : (z ≤ℤ l) × (h ≤ℤ y)). record { first = z; last = y; there = put_there mid after z y e; begins = gone.0; ends = gone.1 })
      (cut.kept l h is);
  new = record { first = z; last = y; there = put_there mid after z y e; begins = omega (arith, ints); ends = omega (arith, ints) };
}

pub first_at : (g : ℤ → Option ℤ) (z z' : ℤ) (p : ℤ × ℤ) → z' ≡ z → IsFirst g z' p → IsFirst g z p
first_at g z z' p e h = subst (λ (v : ℤ). IsFirst g v p) e h

pub less_test : (a b a' b' : ℤ) → a' ≡ a → b' ≡ b → int_lt a' b' ≡ true → a <ℤ b
less_test a b a' b' e f t = let lt : a' <ℤ b' = record { lt = subst (λ (x : Bool). T x) (sym t) tt } in omega (arith, ints)

pub not_less_test : (a b a' b' : ℤ) → a' ≡ a → b' ≡ b → int_lt a' b' ≡ false → b ≤ℤ a
not_less_test a b a' b' e f t = by_lt_z a b
    (λ (lt : a <ℤ b). let lt' : a' <ℤ b' = omega (arith, ints) in absurd (subst (λ (x : Bool). T x) t lt'.lt))
    (λ le. le)

false_true : (b : Bool) → b ≡ false → b ≡ true → ⊥
false_true b e t = cc

pub refused : (b : Bool) (P : Type 0) → b ≡ false → (IsTrue b ↔ P) → P → ⊥
refused b P e h p = false_true b e (h.1 p)
