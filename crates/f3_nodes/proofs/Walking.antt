-- What each step of a walk keeps.
use Rattle.std.proofs.Common.{◌≡◌, ◌≢◌, ℕ, zero, suc, ◌+◌, ◌<◌, ◌≤◌, List, [], ◌∷◌, ◌++◌, length, map, take, set, get_or, refl, sym, ap, subst, ◌∙◌, arith, inl, inr, Contains, reverse, sum_by, Bool, true, false, Ok}
use Rattle.std.proofs.lemmas.List.Sums.{sum_by_push}
use Rattle.std.proofs.lemmas.List.{reverse-append, get_or-set_other, get_or-set_same, get_or_default, get_or_append_left, get_or_push, length-set, length_push, length-map, take-append-le, take_at, length-take, get_or-take}
use Rattle.std.proofs.lemmas.List.Elements.{Contains-push, Contains-push_cases, Contains-append_left, Contains-get_or}
use Rattle.std.proofs.lemmas.Bool.{cases_eq, cases_lt, true≢false}
use Rattle.f3_nodes.specs.declared.walk.Mark.{Mark}
use Rattle.f3_nodes.specs.declared.walk.Mark.TheVariants.{New, Open, Done}
use Rattle.std.specs.Global.{Vec}
use Rattle.f3_nodes.specs.Nodes.{Graph, targets_of, Leads, InRange, IsNodeOrder}
use Rattle.f3_nodes.specs.Inner.Marks.{mark, IsSettled, NoneOpen, Apart, On, Under, Good, Walks, cost, fresh, left_of, Visits, HasVisited}

mark_here : (ms : List Mark) (u : ℕ) (m : Mark) → u < length ms → mark (set ms u m) u ≡ m
mark_here ms u m lt = get_or-set_same ms u m New lt

mark_else : (ms : List Mark) (u v : ℕ) (m : Mark) → v ≢ u → mark (set ms u m) v ≡ mark ms v
mark_else ms u v m ne = get_or-set_other ms u v m New ne

-- what is done stays done, where only what is not done is marked
still_done : (ms : List Mark) (u v : ℕ) (m : Mark) → mark ms u ≢ Done → mark ms v ≡ Done → mark (set ms u m) v ≡ Done
still_done ms u v m ne d = mark_else ms u v m (λ e. ne (ap (mark ms) (sym e) ∙ d)) ∙ d

good_kept : (g : Graph) (ms : List Mark) (u : ℕ) (m : Mark) (xs : List (ℕ × ℕ)) → mark ms u ≢ Done → Apart u xs → Good g ms xs → Good g (set ms u m) xs
good_kept g ms u m [] ne a h = tt
good_kept g ms u m (x ∷ xs) ne a h = (
  record { inside = h.0.inside; is_open = mark_else ms u x.0 m a.0 ∙ h.0.is_open; upto = h.0.upto; below = λ j lt. still_done ms u (get_or (targets_of g x.0) j 0) m ne (h.0.below j lt) },
  h.1,
  h.2,
  good_kept g ms u m xs ne a.1 h.3,
)

-- what is not open is not on the stack
apart_from_mark : (g : Graph) (ms : List Mark) (u : ℕ) (xs : List (ℕ × ℕ)) → mark ms u ≢ Open → Good g ms xs → Apart u xs
apart_from_mark g ms u [] ne h = tt
apart_from_mark g ms u (x ∷ xs) ne h = ((λ e. ne (ap (mark ms) (sym e) ∙ h.0.is_open)), apart_from_mark g ms u xs ne h.3)

pub open_more : (g : Graph) (ms : List Mark) (order : List ℕ) (xs : List (ℕ × ℕ)) (u : ℕ) → u < length g → mark ms u ≡ New → Under g u xs → Walks g ms order xs → Walks g (set ms u Open) order ((u, 0) ∷ xs)
open_more g ms order xs u lt new under w =
    let inside : u < length ms = rw w.settled.long lt in
    let not_done : mark ms u ≢ Done = λ d. cc in
    let not_open : mark ms u ≢ Open = λ d. cc in
    record {
      settled = record {
        long = length-set ms u Open ∙ w.settled.long;
        within = w.settled.within;
        once = w.settled.once;
        after = w.settled.after;
        done = λ v h. still_done ms u v Open not_done (w.settled.done v h);
        listed = λ v d. elim (cases_eq v u) [
          | inl e ↦ let here : mark (set ms u Open) v ≡ Open = ap (mark (set ms u Open)) e ∙ mark_here ms u Open inside in cc
          | inr ne ↦ w.settled.listed v (sym (mark_else ms u v Open ne) ∙ d)
        ];
      };
      good = (
        record { inside = lt; is_open = mark_here ms u Open inside; upto = omega arith; below = λ j low. absurd (omega arith) },
        apart_from_mark g ms u xs not_open w.good,
        under,
        good_kept g ms u Open xs not_done (apart_from_mark g ms u xs not_open w.good) w.good,
      );
      all = λ v o. elim (cases_eq v u) [
        | inl e ↦ inl e
        | inr ne ↦ inr (w.all v (sym (mark_else ms u v Open ne) ∙ o))
      ];
    }

pub step_more : (g : Graph) (ms : List Mark) (order : List ℕ) (xs : List (ℕ × ℕ)) (u k : ℕ) → k < length (targets_of g u) → mark ms (get_or (targets_of g u) k 0) ≡ Done → Walks g ms order ((u, k) ∷ xs) → Walks g ms order ((u, k + 1) ∷ xs)
step_more g ms order xs u k within d w = record {
  settled = w.settled;
  good = (
    record {
      inside = w.good.0.inside;
      is_open = w.good.0.is_open;
      upto = omega arith;
      below = λ j lt. elim (cases_lt j k) [
        | inl low ↦ w.good.0.below j low
        | inr last ↦ let same : k ≡ j = omega arith in subst (λ i. mark ms (get_or (targets_of g u) i 0) ≡ Done) same d
      ];
    },
    w.good.1,
    w.good.2,
    w.good.3,
  );
  all = w.all;
}

-- a module is done, and goes behind what it uses
pub close : (g : Graph) (ms : List Mark) (order : List ℕ) (xs : List (ℕ × ℕ)) (u k : ℕ) → length (targets_of g u) ≤ k → Walks g ms order ((u, k) ∷ xs) → Walks g (set ms u Done) (order ++ u ∷ []) xs
close g ms order xs u k full w =
    let inside : u < length ms = rw w.settled.long w.good.0.inside in
    let not_done : mark ms u ≢ Done = λ d. (let o : mark ms u ≡ Open = w.good.0.is_open in cc) in
    let unlisted : Contains order u → ⊥ = λ h. not_done (w.settled.done u h) in
    let done_below : (v : ℕ) → Contains (targets_of g u) v → mark ms v ≡ Done = λ v h.
    ap (mark ms) (sym h.2 ∙ get_or_default (targets_of g u) h.0 v 0 h.1) ∙ w.good.0.below h.0 (omega (arith, h.1)) in
    record {
      settled = record {
        long = length-set ms u Done ∙ w.settled.long;
        within = λ j lt. elim (cases_lt j (length order)) [
          | inl low ↦ rw (get_or_append_left order (u ∷ []) 0 j low) (w.settled.within j low)
          | inr last ↦ let same : length order ≡ j = omega (arith, lt, length_push order u) in rw (get_or_push order u 0 j same) w.good.0.inside
        ];
        once = λ i j low lt e. elim (cases_lt j (length order)) [
          | inl l ↦ w.settled.once i j low l (sym (get_or_append_left order (u ∷ []) 0 i (omega arith)) ∙ e ∙ get_or_append_left order (u ∷ []) 0 j l)
          | inr last ↦ let same : length order ≡ j = omega (arith, lt, length_push order u) in
              unlisted (subst (Contains order) (sym (get_or_append_left order (u ∷ []) 0 i (omega arith)) ∙ e ∙ get_or_push order u 0 j same) (Contains-get_or order i 0 (omega arith)))
        ];
        after = λ j v lt h. elim (cases_lt j (length order)) [
          | inl low ↦ rw (take-append-le j order (u ∷ []) (omega arith)) (w.settled.after j v low (subst (λ y. Contains (targets_of g y) v) (get_or_append_left order (u ∷ []) 0 j low) h))
          | inr last ↦ let same : length order ≡ j = omega (arith, lt, length_push order u) in
              rw (take_at order (u ∷ []) j same) (w.settled.listed v (done_below v (subst (λ y. Contains (targets_of g y) v) (get_or_push order u 0 j same) h)))
        ];
        done = λ v h. elim (Contains-push_cases order u v h) [
          | inl old ↦ still_done ms u v Done not_done (w.settled.done v old)
          | inr e ↦ ap (mark (set ms u Done)) (sym e) ∙ mark_here ms u Done inside
        ];
        listed = λ v d. elim (cases_eq v u) [
          | inl e ↦ subst (Contains (order ++ u ∷ [])) (sym e) (Contains-push order u)
          | inr ne ↦ Contains-append_left order (u ∷ []) v (w.settled.listed v (sym (mark_else ms u v Done ne) ∙ d))
        ];
      };
      good = good_kept g ms u Done xs not_done w.good.1 w.good.3;
      all = λ v o. elim (cases_eq v u) [
        | inl e ↦ let here : mark (set ms u Done) v ≡ Done = ap (mark (set ms u Done)) e ∙ mark_here ms u Done inside in cc
        | inr ne ↦ elim (w.all v (sym (mark_else ms u v Done ne) ∙ o)) [ inl e ↦ absurd (ne e) | inr on ↦ on ]
      ];
    }

-- a module on the stack reaches the top
pub further : (g : Graph) (a b c : ℕ) → Leads g a b → Contains (targets_of g b) c → Leads g a c
further g a b c (Leads.at_once a' b' h) u = Leads.through a' b' c h (Leads.at_once b' c u)
further g a b c (Leads.through a' m b' h r) u = Leads.through a' m c h (further g m b' c r u)

to_top : (g : Graph) (ms : List Mark) (xs : List (ℕ × ℕ)) (x : ℕ × ℕ) (v : ℕ) → Good g ms (x ∷ xs) → On v xs → Leads g v x.0
to_top g ms [] x v h on = absurd on
to_top g ms (y ∷ ys) x v h (inl e) = subst (λ w. Leads g w x.0) (sym e) (Leads.at_once y.0 x.0 h.2)
to_top g ms (y ∷ ys) x v h (inr on) = further g v y.0 x.0 (to_top g ms ys y v h.3 on) h.2

pub cycle : (g : Graph) (ms : List Mark) (order : List ℕ) (xs : List (ℕ × ℕ)) (u k v : ℕ) → Contains (targets_of g u) v → mark ms v ≡ Open → Walks g ms order ((u, k) ∷ xs) → Leads g v v
cycle g ms order xs u k v h o w = elim (w.all v o) [
  | inl e ↦ subst (λ y. Leads g y v) (sym e) (Leads.at_once u v h)
  | inr on ↦ further g v u v (to_top g ms xs (u, k) v w.good on) h
]

-- the work falls
pub fresh_open : (ms : List Mark) (uss : List (List ℕ)) (i : ℕ) → i < length uss → i < length ms → mark ms i ≡ New → fresh (set ms i Open) uss + (length (get_or uss i []) + 2) ≡ fresh ms uss
fresh_open [] uss i a b e = absurd (omega arith)
fresh_open (m ∷ ms) [] i a b e = absurd (omega arith)
fresh_open (m ∷ ms) (us ∷ uss) zero a b e = rw e (omega arith)
fresh_open (m ∷ ms) (us ∷ uss) (suc i) a b e = let h = fresh_open ms uss i (omega arith) (omega arith) e in omega (arith, h)

pub fresh_done : (ms : List Mark) (uss : List (List ℕ)) (i : ℕ) → mark ms i ≡ Open → fresh (set ms i Done) uss ≡ fresh ms uss
fresh_done [] uss i e = refl
fresh_done (m ∷ ms) [] zero e = refl
fresh_done (m ∷ ms) [] (suc i) e = refl
fresh_done (m ∷ ms) (us ∷ uss) zero e = rw e refl
fresh_done (m ∷ ms) (us ∷ uss) (suc i) e = ap (λ n. cost m us + n) (fresh_done ms uss i e)

pub next_inside : (g : Graph) → InRange g → (u k v : ℕ) → k < length (targets_of g u) → v ≡ get_or (targets_of g u) k 0 → Contains (targets_of g u) v × (v < length g)
next_inside g range u k v lt e = let has : Contains (targets_of g u) v = subst (Contains (targets_of g u)) (sym e) (Contains-get_or (targets_of g u) k 0 lt) in (has, range u v has)

-- where there is an order no module reaches itself
reach_falls : (g : Graph) (order : List ℕ) → IsNodeOrder g order → (a b : ℕ) → Leads g a b → (k : ℕ) → k < length order → get_or order k 0 ≡ a → (j : ℕ) × (j < k) × (get_or order j 0 ≡ b)
reach_falls g order is a b (Leads.at_once a' b' u) k kl ka =
    let before : Contains (take k order) b' = is.after k b' kl (subst (λ y. Contains (targets_of g y) b') (sym ka) u) in
    let below : before.0 < k = omega (arith, before.1, length-take k order) in
    (before.0, below, get_or_default order before.0 0 b' (omega arith) ∙ sym (get_or-take k order before.0 b' below) ∙ before.2)
reach_falls g order is a c (Leads.through a' b' c' u r) k kl ka =
    let before : Contains (take k order) b' = is.after k b' kl (subst (λ y. Contains (targets_of g y) b') (sym ka) u) in
    let below : before.0 < k = omega (arith, before.1, length-take k order) in
    let rest = reach_falls g order is b' c' r before.0 (omega arith) (get_or_default order before.0 0 b' (omega arith) ∙ sym (get_or-take k order before.0 b' below) ∙ before.2) in
    (rest.0, omega (arith, rest.1), rest.2)

pub no_cycle : (g : Graph) (order : List ℕ) (u : ℕ) → IsNodeOrder g order → u < length g → Leads g u u → ⊥
no_cycle g order u is lt r =
    let found = is.all u lt in
    let here : get_or order found.0 0 ≡ u = get_or_default order found.0 0 u found.1 ∙ found.2 in
    let lower = reach_falls g order is u u r found.0 found.1 here in
    is.once lower.0 found.0 lower.1 found.1 (lower.2 ∙ sym here)

-- the stack of the code, from the top
pub top_first : (items rest : List (ℕ × ℕ)) (x : ℕ × ℕ) → items ≡ rest ++ x ∷ [] → reverse items ≡ x ∷ reverse rest
top_first items rest x e = ap reverse e ∙ reverse-append rest (x ∷ [])

pub mark_read : (ms : List Mark) (u : ℕ) (r m : Mark) → u < length ms → r ≡ get_or ms u r → r ≡ m → mark ms u ≡ m
mark_read ms u r m lt at is = get_or_default ms u New r lt ∙ sym at ∙ is

pub not_new : (ms : List Mark) (u v : ℕ) (m : Mark) → u < length ms → m ≢ New → mark ms v ≢ New → mark (set ms u m) v ≢ New
not_new ms u v m lt ne h e = elim (cases_eq v u) [
  | inl same ↦ ne (sym (mark_here ms u m lt) ∙ ap (mark (set ms u m)) (sym same) ∙ e)
  | inr apart ↦ h (sym (mark_else ms u v m apart) ∙ e)
]

pub smaller_open : (g : Graph) (ms : List Mark) (items rest mid new : List (ℕ × ℕ)) (u k v : ℕ) → v < length g → length ms ≡ length g → mark ms v ≡ New
    → items ≡ rest ++ (u, k) ∷ [] → mid ≡ rest ++ (u, k) ∷ [] → new ≡ mid ++ (v, 0) ∷ []
    → fresh (set ms v Open) (map (λ x. x.items) g) + sum_by (left_of g) new < fresh ms (map (λ x. x.items) g) + sum_by (left_of g) items
smaller_open g ms items rest mid new u k v lt long is_new a b d =
    let f = fresh_open ms (map (λ x. x.items) g) v (omega (arith, length-map g (λ (x : Vec ℕ). x.items))) (omega arith) is_new in
    let s : sum_by (left_of g) new ≡ sum_by (left_of g) items + left_of g (v, 0) = ap (sum_by (left_of g)) d ∙ sum_by_push (left_of g) mid (v, 0) ∙ ap (λ l. sum_by (left_of g) l + left_of g (v, 0)) (b ∙ sym a) in
    omega (arith, f, s)

pub smaller_done : (g : Graph) (ms : List Mark) (items rest : List (ℕ × ℕ)) (u k : ℕ) → mark ms u ≡ Open → k ≤ length (targets_of g u) → items ≡ rest ++ (u, k) ∷ []
    → fresh (set ms u Done) (map (λ x. x.items) g) + sum_by (left_of g) rest < fresh ms (map (λ x. x.items) g) + sum_by (left_of g) items
smaller_done g ms items rest u k o upto a =
    let f = fresh_done ms (map (λ x. x.items) g) u o in
    let s : sum_by (left_of g) items ≡ sum_by (left_of g) rest + left_of g (u, k) = ap (sum_by (left_of g)) a ∙ sum_by_push (left_of g) rest (u, k) in
    omega (arith, f, s)

pub visited : (E : Type 0) (g : Graph) (root : ℕ) (before : List ℕ) (b : Bool) (ms : List Mark) (order : List ℕ) → b ≡ true → Visits {E = E} g root before (Ok b) ms order → HasVisited g root before ms order
visited E g root before true ms order e v = v
visited E g root before false ms order e v = absurd (true≢false (sym e))

pub one_more : (g : Graph) (root : ℕ) (before : List ℕ) (ms : List Mark) (order : List ℕ) → HasVisited g root before ms order → ((u : ℕ) → u < root → Contains before u)
    → IsSettled g ms order × NoneOpen ms × ((u : ℕ) → u < root + 1 → Contains order u)
one_more g root before ms order h done = (
  h.settled,
  h.closed,
  λ u lt. elim (cases_lt u root) [
    | inl low ↦ h.kept u (done u low)
    | inr last ↦ let same : root ≡ u = omega arith in subst (Contains order) same h.root_done
  ],
)
