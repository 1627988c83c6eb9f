-- What each step of the worklist keeps.
use Rattle.std.proofs.Common.{◌≡◌, ℕ, zero, suc, ◌+◌, ◌<◌, List, [], ◌∷◌, ◌++◌, length, map, set, get_or, refl, sym, ap, subst, ◌∙◌, arith, ◌⊎◌, inl, inr, Bool, true, false, if◌then◌else◌, not, cond, replicate}
use Rattle.std.specs.List.{count_by}
use Rattle.std.proofs.lemmas.Bool.{cases_eq, cases_lt, true≢false}
use Rattle.std.proofs.lemmas.List.{get_or-set_other, get_or-set_same, length-set, length_push, length-replicate, get_or_past, get_or_default, ext_get_or, length-map}
use Rattle.std.proofs.lemmas.List.Sums.{sum_by-set}
use Rattle.f3_kinds.specs.declared.things.Thing.{Thing}
use Rattle.f3_kinds.specs.Things.{Nature}
use Rattle.f3_typed_parts.specs.Known.{nature_of}
use Rattle.f3_type_rules.specs.Natures.{rounds}
use Rattle.f3_finalizable.specs.Inner.Holders.{hold_each}
use Rattle.f3_finalizable.specs.Inner.Marks.{State, is_seen, see, see_all, has_final, see_final, see_finals}
use Rattle.f3_finalizable.proofs.Members.{Has, has_left, has_last, has_push, seen_inside, unmarked_all}
use Rattle.f3_finalizable.proofs.Rounds.{round, Under, fixed, least, rounds_long, Holds, finals, round_finals, round_holders, round_only}
use Rattle.f3_finalizable.proofs.Holding.{targets, rows_for, to_holders, of_holders, holds_inside}

-- what is left to mark, and what is still to do
abbrev pub work : State → ℕ
work s = count_by not s.0 + length s.1

-- these new ones are marked and noted
pub record Grows (s t : State) (New : ℕ → Type 0) : Type 0 where
  pub long : length t.0 ≡ length s.0
  pub kept : (u : ℕ) → is_seen s.0 u ≡ true → is_seen t.0 u ≡ true
  pub only : (u : ℕ) → is_seen t.0 u ≡ true → (is_seen s.0 u ≡ true) ⊎ (New u × Has t.1 u)
  pub before : (u : ℕ) → Has s.1 u → Has t.1 u
  pub noted : (u : ℕ) → Has t.1 u → Has s.1 u ⊎ (New u × (is_seen t.0 u ≡ true))
  pub here : (u : ℕ) → New u → u < length s.0 → is_seen t.0 u ≡ true
  pub same_work : work t ≡ work s

-- 1 for what is not marked
abbrev unseen : Bool → ℕ
unseen b = cond (not b) 1 0

one_less : (seen : List Bool) (v : ℕ) → v < length seen → is_seen seen v ≡ false → count_by not (set seen v true) + 1 ≡ count_by not seen
one_less seen v lt e =
    let h = sum_by-set unseen seen v true false lt in
    let here : unseen (get_or seen v false) ≡ unseen false = ap unseen e in
    omega (arith, h, here)

new_inside : (seen : List Bool) (v : ℕ) → get_or seen v true ≡ false → v < length seen
new_inside seen v e = elim (cases_lt v (length seen)) [
  | inl lt ↦ lt
  | inr past ↦ absurd (true≢false (sym (get_or_past seen v true past) ∙ e))
]

same : (s : State) (New : ℕ → Type 0) → ((u : ℕ) → New u → u < length s.0 → is_seen s.0 u ≡ true) → Grows s s New
same s New h = record { long = refl; kept = λ u h. h; only = λ u h. inl h; before = λ u h. h; noted = λ u h. inl h; here = h; same_work = refl }

pub see_grows : (s : State) (v : ℕ) → Grows s (see s v) (λ u. u ≡ v)
see_grows s v = by (get_or s.0 v true) refl
  where
    by : (t : Bool) → get_or s.0 v true ≡ t → Grows s (if not t then (set s.0 v true, s.1 ++ v ∷ []) else s) (λ u. u ≡ v)
    by true e = same s (λ u. u ≡ v) (λ u h lt. get_or_default s.0 u false true lt ∙ ap (λ w. get_or s.0 w true) h ∙ e)
    by false e =
        let lt : v < length s.0 = new_inside s.0 v e in
        let old : is_seen s.0 v ≡ false = get_or_default s.0 v false true lt ∙ e in
        let now : is_seen (set s.0 v true) v ≡ true = get_or-set_same s.0 v true false lt in
        record {
          long = length-set s.0 v true;
          kept = λ u h. elim (cases_eq u v) [
            | inl same ↦ ap (is_seen (set s.0 v true)) same ∙ now
            | inr ne ↦ get_or-set_other s.0 v u true false ne ∙ h
          ];
          only = λ u h. elim (cases_eq u v) [
            | inl same ↦ inr (same, subst (Has (s.1 ++ v ∷ [])) (sym same) (has_last s.1 v))
            | inr ne ↦ inl (sym (get_or-set_other s.0 v u true false ne) ∙ h)
          ];
          before = λ u h. has_left s.1 (v ∷ []) u h;
          noted = λ u h. elim (has_push s.1 v u h) [
            | inl old ↦ inl old
            | inr same ↦ inr (same, ap (is_seen (set s.0 v true)) same ∙ now)
          ];
          here = λ u same lt. ap (is_seen (set s.0 v true)) same ∙ now;
          same_work = let m = one_less s.0 v lt old in omega (arith, m, length_push s.1 v);
        }

follow : (s t r : State) (P Q R : ℕ → Type 0) → ((u : ℕ) → P u ⊎ Q u → R u) → ((u : ℕ) → R u → P u ⊎ Q u) → Grows s t P → Grows t r Q → Grows s r R
follow s t r P Q R to from a b = record {
  long = b.long ∙ a.long;
  kept = λ u h. b.kept u (a.kept u h);
  only = λ u h. elim (b.only u h) [
    | inl old ↦ elim (a.only u old) [ inl older ↦ inl older | inr n ↦ inr (to u (inl n.0), b.before u n.1) ]
    | inr n ↦ inr (to u (inr n.0), n.1)
  ];
  before = λ u h. b.before u (a.before u h);
  noted = λ u h. elim (b.noted u h) [
    | inl old ↦ elim (a.noted u old) [ inl older ↦ inl older | inr n ↦ inr (to u (inl n.0), b.kept u n.1) ]
    | inr n ↦ inr (to u (inr n.0), n.1)
  ];
  here = λ u n lt. elim (from u n) [
    | inl p ↦ b.kept u (a.here u p lt)
    | inr q ↦ b.here u q (subst (λ k. u < k) (sym a.long) lt)
  ];
  same_work = b.same_work ∙ a.same_work;
}

pub all_grows : (s : State) (vs : List ℕ) → Grows s (see_all s vs) (Has vs)
all_grows s [] = same s (Has []) (λ u n lt. absurd n)
all_grows s (v ∷ vs) = follow s (see s v) (see_all (see s v) vs) (λ u. u ≡ v) (Has vs) (Has (v ∷ vs)) (λ u h. h) (λ u h. h) (see_grows s v) (all_grows (see s v) vs)

final_grows : (s : State) (i : ℕ) (n : Nature) → Grows s (see_final s i n) (λ u. (u ≡ i) × (has_final n ≡ true))
final_grows s i n = by (has_final n)
  where
    by : (f : Bool) → Grows s (if f then see s i else s) (λ u. (u ≡ i) × (f ≡ true))
    by true = follow s (see s i) (see s i) (λ u. u ≡ i) (λ u. ⊥) (λ u. (u ≡ i) × (true ≡ true)) (λ u h. elim h [ inl e ↦ (e, refl) | inr n ↦ absurd n ]) (λ u h. inl h.0) (see_grows s i) (same (see s i) (λ u. ⊥) (λ u n lt. absurd n))
    by false = same s (λ u. (u ≡ i) × (false ≡ true)) (λ u h lt. absurd (true≢false (sym h.1)))

-- from a place on
abbrev Later : List Nature → ℕ → ℕ → Type 0
Later ns i u = (v : ℕ) × (u ≡ v + i) × (is_seen (finals ns) v ≡ true)

split : (n : Nature) (ns : List Nature) (i u v : ℕ) → u ≡ v + i → is_seen (finals (n ∷ ns)) v ≡ true → ((u ≡ i) × (has_final n ≡ true)) ⊎ Later ns (i + 1) u
split n ns i u zero e h = inl (omega arith, h)
split n ns i u (suc v) e h = inr (v, omega arith, h)

finals_grow : (s : State) (i : ℕ) (ns : List Nature) → Grows s (see_finals s i ns) (Later ns i)
finals_grow s i [] = same s (Later [] i) (λ u n lt. absurd (true≢false (sym n.2)))
finals_grow s i (n ∷ ns) =
    follow s (see_final s i n) (see_finals (see_final s i n) (i + 1) ns) (λ u. (u ≡ i) × (has_final n ≡ true)) (Later ns (i + 1)) (Later (n ∷ ns) i)
    (λ u h. elim h [ inl p ↦ (zero, (let a = p.0 in omega arith), p.1) | inr q ↦ (suc q.0, (let a = q.1 in omega arith), q.2) ])
    (λ u h. split n ns i u h.0 h.1 h.2)
    (final_grows s i n) (finals_grow (see_final s i n) (i + 1) ns)

-- ---- the worklist

-- all holders of an entity are marked
abbrev Finished : List Nature → List Bool → ℕ → Type 0
Finished ns seen u = (v : ℕ) → Holds ns v u → is_seen seen v ≡ true

abbrev pub answer : List Nature → List Bool
answer ns = rounds ns (length ns) []

-- what has a final is marked; what is marked is in the least set, and its holders are marked, or it is still to do
pub record Spreads (ns : List Nature) (seen : List Bool) (todo : List ℕ) : Type 0 where
  pub long : length seen ≡ length ns
  pub noted : (u : ℕ) → Has todo u → is_seen seen u ≡ true
  pub begun : (u : ℕ) → is_seen (finals ns) u ≡ true → is_seen seen u ≡ true
  pub sound : Under seen (answer ns)
  pub whole : (u : ℕ) → is_seen seen u ≡ true → Has todo u ⊎ Finished ns seen u

pub begins : (ns : List Nature) → let t = see_finals (replicate (length ns) false, []) 0 ns in Spreads ns t.0 t.1
begins ns =
    let n = length ns in
    let long : length (replicate n false) ≡ n = length-replicate n false in
    let g = finals_grow (replicate n false, []) 0 ns in
    record {
      long = g.long ∙ long;
      noted = λ u h. elim (g.noted u h) [ inl old ↦ absurd old | inr m ↦ m.1 ];
      begun = λ u h. g.here u (u, omega arith, h) (let a = seen_inside (finals ns) u h in omega (arith, a, long, length-map ns has_final));
      sound = λ u h. elim (g.only u h) [
        | inl old ↦ absurd (true≢false (sym old ∙ unmarked_all n u))
        | inr m ↦
            let w = m.0 in
            let e = w.1 in
            let same : w.0 ≡ u = omega arith in
            fixed ns u (round_finals ns (answer ns) u (subst (λ v. is_seen (finals ns) v ≡ true) same w.2))
      ];
      whole = λ u h. elim (g.only u h) [
        | inl old ↦ absurd (true≢false (sym old ∙ unmarked_all n u))
        | inr m ↦ inl m.1
      ];
    }

-- the holders of one entity more are marked
pub spread_step : (ns : List Nature) (seen : List Bool) (rest : List ℕ) (node : ℕ) → Spreads ns seen (rest ++ node ∷ [])
    → (let t = see_all (seen, rest) (targets (rows_for ns) node) in Spreads ns t.0 t.1 × (work t + 1 ≡ work (seen, rest ++ node ∷ [])))
spread_step ns seen rest node h =
    let grows = all_grows (seen, rest) (targets (rows_for ns) node) in
    let seen_node : is_seen seen node ≡ true = h.noted node (has_last rest node) in
    let inside : node < length ns = subst (λ k. node < k) h.long (seen_inside seen node seen_node) in
    let t = see_all (seen, rest) (targets (rows_for ns) node) in (
      record {
        long = grows.long ∙ h.long;
        noted = λ u k. elim (grows.noted u k) [
          | inl old ↦ grows.kept u (h.noted u (has_left rest (node ∷ []) u old))
          | inr n ↦ n.1
        ];
        begun = λ u k. grows.kept u (h.begun u k);
        sound = λ u k. elim (grows.only u k) [
          | inl old ↦ h.sound u old
          | inr n ↦ fixed ns u (round_holders ns (answer ns) u node (of_holders ns node u n.0) (h.sound node seen_node))
        ];
        whole = λ u k. elim (grows.only u k) [
          | inr n ↦ inl n.1
          | inl old ↦ elim (h.whole u old) [
            | inr done ↦ inr (λ v c. grows.kept v (done v c))
            | inl on ↦ elim (has_push rest node u on) [
              | inl below ↦ inl (grows.before u below)
              | inr same ↦ inr (subst (λ w. Finished ns t.0 w) (sym same) (λ v c. grows.here v (to_holders ns node v inside c) (subst (λ k. v < k) (sym h.long) (holds_inside ns v node c))))
            ]
          ]
        ];
      },
      (let a = grows.same_work in let l = length_push rest node in omega (arith, a, l)),
    )

-- ---- the end

pub closed : (ns : List Nature) (seen : List Bool) (todo : List ℕ) → length todo ≡ 0 → Spreads ns seen todo → Under (round ns seen) seen
closed ns seen todo empty h u e = elim (round_only ns seen u e) [
  | inl own ↦ h.begun u own
  | inr p ↦ done p.0 p.2 u p.1
]
  where
    empty_has : (l : List ℕ) (w : ℕ) → length l ≡ 0 → Has l w → ⊥
    empty_has [] w z m = m
    empty_has (x ∷ xs) w z m = omega arith

    done : (w : ℕ) → is_seen seen w ≡ true → Finished ns seen w
    done w k = elim (h.whole w k) [ inl on ↦ absurd (empty_has todo w empty on) | inr f ↦ f ]

same_bits : (a b : Bool) → (a ≡ true → b ≡ true) → (b ≡ true → a ≡ true) → a ≡ b
same_bits true true f g = refl
same_bits true false f g = sym (f refl)
same_bits false true f g = g refl
same_bits false false f g = refl

-- the marks are those of the rounds
pub ends : (ns : List Nature) (seen : List Bool) (todo : List ℕ) → length todo ≡ 0 → Spreads ns seen todo → seen ≡ answer ns
ends ns seen todo empty h =
    ext_get_or false seen (answer ns) (h.long ∙ sym (rounds_long ns))
    (λ i lt. same_bits (get_or seen i false) (get_or (answer ns) i false) (h.sound i) (least ns seen (closed ns seen todo empty h) (length ns) i))

-- ---- the same of things

pub things_begin : (things : List Thing) (n : ℕ) (seen : List Bool) (todo : List ℕ) (s : State) → n ≡ length things → seen ≡ replicate n false → todo ≡ []
    → s ≡ see_finals (seen, todo) 0 (map nature_of things) → Spreads (map nature_of things) s.0 s.1
things_begin things n seen todo s long a b h =
    let ns = map nature_of things in
    let count : n ≡ length ns = long ∙ sym (length-map things nature_of) in
    let is : s ≡ see_finals (replicate (length ns) false, []) 0 ns = h ∙ ap (λ x. see_finals (x, todo) 0 ns) (a ∙ ap (λ k. replicate k false) count) ∙ ap (λ y. see_finals (replicate (length ns) false, y) 0 ns) b in
    subst (λ t. Spreads ns t.0 t.1) (sym is) (begins ns)

pub things_step : (things : List Thing) (rows : List (List ℕ)) (seen : List Bool) (todo rest : List ℕ) (node : ℕ) (t : State)
    → rows ≡ hold_each (replicate (length things) []) 0 (map nature_of things) → todo ≡ rest ++ node ∷ []
    → t ≡ see_all (seen, rest) (targets rows node)
    → Spreads (map nature_of things) seen todo → Spreads (map nature_of things) t.0 t.1 × (work t + 1 ≡ work (seen, todo))
things_step things rows seen todo rest node t are was made h =
    let ns = map nature_of things in
    let all : rows ≡ rows_for ns = are ∙ ap (λ k. hold_each (replicate k []) 0 ns) (sym (length-map things nature_of)) in
    let r = spread_step ns seen rest node (subst (Spreads ns seen) was h) in
    let is : t ≡ see_all (seen, rest) (targets (rows_for ns) node) = made ∙ ap (λ l. see_all (seen, rest) (targets l node)) all in
    let one : work (see_all (seen, rest) (targets (rows_for ns) node)) + 1 ≡ work (seen, rest ++ node ∷ []) = r.1 in
    (subst (λ s. Spreads ns s.0 s.1) (sym is) r.0, ap (λ s. work s + 1) is ∙ one ∙ ap (λ l. work (seen, l)) (sym was))

pub things_end : (things : List Thing) (seen : List Bool) (todo : List ℕ) → length todo ≡ 0 → Spreads (map nature_of things) seen todo → seen ≡ rounds (map nature_of things) (length things) []
things_end things seen todo empty h = ends (map nature_of things) seen todo empty h ∙ ap (λ n. rounds (map nature_of things) n []) (length-map things nature_of)

pub things_long : (things : List Thing) (seen : List Bool) → seen ≡ rounds (map nature_of things) (length things) [] → length seen ≡ length things
things_long things seen h =
    let ns = map nature_of things in
    ap length (h ∙ ap (λ n. rounds ns n []) (sym (length-map things nature_of))) ∙ rounds_long ns ∙ length-map things nature_of
