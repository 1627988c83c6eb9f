-- What each step of a search keeps.
use Rattle.std.proofs.Common.{◌≡◌, ℕ, ◌+◌, ◌<◌, List, [], ◌∷◌, ◌++◌, length, set, get_or, refl, sym, ap, subst, ◌∙◌, arith, ◌⊎◌, inl, inr, Contains, Bool, true, false, if◌then◌else◌, not, cond, replicate, IsTrue, ◌↔◌}
use Rattle.std.specs.List.{count_by}
use Rattle.std.proofs.lemmas.Bool.{cases_eq, cases_lt, true≢false}
use Rattle.std.proofs.lemmas.List.{get_or-set_other, get_or-set_same, length-set, length_push, length-replicate, get_or-replicate, get_or_past, get_or_default}
use Rattle.std.proofs.lemmas.List.Sums.{sum_by-set}
use Rattle.std.proofs.lemmas.List.Elements.{Contains-push, Contains-push_cases, Contains-append_left}
use Rattle.f3_nodes.specs.Nodes.{Graph, targets_of, Leads, InRange}
use Rattle.f3_nodes.specs.Inner.Search.{is_seen, see, see_all, Finished, Searches}
use Rattle.f3_nodes.proofs.Members.{Has, has_of, contains_of}
use Rattle.f3_nodes.proofs.Walking.{further}

abbrev pub State : Type 0
State = List Bool × List ℕ

-- what is left to see, and what is still to do
abbrev pub work : State → ℕ
work s = count_by not s.0 + length s.1

-- these new ones are seen and noted
pub record Grows (s t : State) (New : ℕ → Type 0) : Type 0 where
  pub long : length t.0 ≡ length s.0
  pub kept : (u : ℕ) → is_seen s.0 u ≡ true → is_seen t.0 u ≡ true
  pub only : (u : ℕ) → is_seen t.0 u ≡ true → (is_seen s.0 u ≡ true) ⊎ (New u × Contains t.1 u)
  pub before : (u : ℕ) → Contains s.1 u → Contains t.1 u
  pub noted : (u : ℕ) → Contains t.1 u → Contains s.1 u ⊎ (New u × (is_seen t.0 u ≡ true))
  pub same_work : work t ≡ work s

-- 1 for what is not seen
abbrev unseen : Bool → ℕ
unseen b = cond (not b) 1 0

marked : (seen : List Bool) (v : ℕ) → v < length seen → is_seen seen v ≡ false → count_by not (set seen v true) + 1 ≡ count_by not seen
marked seen v lt e =
    let h = sum_by-set unseen seen v true false lt in
    let here : unseen (get_or seen v false) ≡ unseen false = ap unseen e in
    omega (arith, h, here)

pub see_here : (s : State) (v : ℕ) → v < length s.0 → is_seen (see s v).0 v ≡ true
see_here s v lt = by (is_seen s.0 v) refl
  where
    by : (t : Bool) → is_seen s.0 v ≡ t → is_seen (if t then s else (set s.0 v true, s.1 ++ v ∷ [])).0 v ≡ true
    by true e = e
    by false e = get_or-set_same s.0 v true false lt

pub see_grows : (s : State) (v : ℕ) → v < length s.0 → Grows s (see s v) (λ u. v ≡ u)
see_grows s v lt = by (is_seen s.0 v) refl
  where
    by : (t : Bool) → is_seen s.0 v ≡ t → Grows s (if t then s else (set s.0 v true, s.1 ++ v ∷ [])) (λ u. v ≡ u)
    by true e = record { long = refl; kept = λ u h. h; only = λ u h. inl h; before = λ u h. h; noted = λ u h. inl h; same_work = refl }
    by false e = record {
      long = length-set s.0 v true;
      kept = λ u h. elim (cases_eq u v) [
        | inl same ↦ ap (is_seen (set s.0 v true)) same ∙ get_or-set_same s.0 v true false lt
        | inr ne ↦ get_or-set_other s.0 v u true false ne ∙ h
      ];
      only = λ u h. elim (cases_eq u v) [
        | inl same ↦ inr (sym same, subst (Contains (s.1 ++ v ∷ [])) (sym same) (Contains-push s.1 v))
        | inr ne ↦ inl (sym (get_or-set_other s.0 v u true false ne) ∙ h)
      ];
      before = λ u h. Contains-append_left s.1 (v ∷ []) u h;
      noted = λ u h. elim (Contains-push_cases s.1 v u h) [
        | inl old ↦ inl old
        | inr same ↦ inr (same, ap (is_seen (set s.0 v true)) (sym same) ∙ get_or-set_same s.0 v true false lt)
      ];
      same_work = let m = marked s.0 v lt e in omega (arith, m, length_push s.1 v);
    }

follow : (s t r : State) (P Q : ℕ → Type 0) → Grows s t P → Grows t r Q → Grows s r (λ u. P u ⊎ Q u)
follow s t r P Q a b = record {
  long = b.long ∙ a.long;
  kept = λ u h. b.kept u (a.kept u h);
  only = λ u h. elim (b.only u h) [
    | inl old ↦ elim (a.only u old) [ inl older ↦ inl older | inr n ↦ inr (inl n.0, b.before u n.1) ]
    | inr n ↦ inr (inr n.0, n.1)
  ];
  before = λ u h. b.before u (a.before u h);
  noted = λ u h. elim (b.noted u h) [
    | inl old ↦ elim (a.noted u old) [ inl older ↦ inl older | inr n ↦ inr (inl n.0, b.kept u n.1) ]
    | inr n ↦ inr (inr n.0, n.1)
  ];
  same_work = b.same_work ∙ a.same_work;
}

named : (s t : State) (P Q : ℕ → Type 0) → ((u : ℕ) → P u → Q u) → Grows s t P → Grows s t Q
named s t P Q f a = record {
  long = a.long;
  kept = a.kept;
  only = λ u h. elim (a.only u h) [ inl old ↦ inl old | inr n ↦ inr (f u n.0, n.1) ];
  before = a.before;
  noted = λ u h. elim (a.noted u h) [ inl old ↦ inl old | inr n ↦ inr (f u n.0, n.1) ];
  same_work = a.same_work;
}

pub all_grows : (s : State) (vs : List ℕ) → ((v : ℕ) → Has vs v → v < length s.0) → Grows s (see_all s vs) (Has vs)
all_grows s [] within = record { long = refl; kept = λ u h. h; only = λ u h. inl h; before = λ u h. h; noted = λ u h. inl h; same_work = refl }
all_grows s (v ∷ vs) within =
    let first = see_grows s v (within v (inl refl)) in
    named s (see_all (see s v) vs) (λ u. (v ≡ u) ⊎ Has vs u) (Has (v ∷ vs)) (λ u h. elim h [ inl e ↦ inl (sym e) | inr r ↦ inr r ])
    (follow s (see s v) (see_all (see s v) vs) (λ u. v ≡ u) (Has vs) first (all_grows (see s v) vs (λ u h. rw first.long (within u (inr h)))))

pub all_here : (s : State) (vs : List ℕ) → ((v : ℕ) → Has vs v → v < length s.0) → (u : ℕ) → Has vs u → is_seen (see_all s vs).0 u ≡ true
all_here s [] within u h = absurd h
all_here s (v ∷ vs) within u h =
    let first = see_grows s v (within v (inl refl)) in
    let rest : (w : ℕ) → Has vs w → w < length (see s v).0 = λ w k. rw first.long (within w (inr k)) in
    elim h [
      | inl e ↦ (all_grows (see s v) vs rest).kept u (subst (λ w. is_seen (see s v).0 w ≡ true) (sym e) (see_here s v (within v (inl refl))))
      | inr k ↦ all_here (see s v) vs rest u k
    ]

-- one node more is finished
pub search_step : (g : Graph) → InRange g → (start : ℕ) (seen : List Bool) (rest : List ℕ) (node : ℕ) → Searches g start seen (rest ++ node ∷ [])
    → (let t = see_all (seen, rest) (targets_of g node) in Searches g start t.0 t.1 × (work t + 1 ≡ work (seen, rest ++ node ∷ [])))
search_step g range start seen rest node h =
    let within : (v : ℕ) → Has (targets_of g node) v → v < length seen = λ v k. rw h.long (range node v (contains_of (targets_of g node) v k)) in
    let grows = all_grows (seen, rest) (targets_of g node) within in
    let here = all_here (seen, rest) (targets_of g node) within in
    let seen_node : is_seen seen node ≡ true = h.noted node (Contains-push rest node) in
    let t = see_all (seen, rest) (targets_of g node) in (
      record {
        long = grows.long ∙ h.long;
        inside = λ u k. elim (grows.noted u k) [
          | inl old ↦ h.inside u (Contains-append_left rest (node ∷ []) u old)
          | inr n ↦ range node u (contains_of (targets_of g node) u n.0)
        ];
        noted = λ u k. elim (grows.noted u k) [
          | inl old ↦ grows.kept u (h.noted u (Contains-append_left rest (node ∷ []) u old))
          | inr n ↦ n.1
        ];
        begun = grows.kept start h.begun;
        sound = λ u k. elim (grows.only u k) [
          | inl old ↦ h.sound u old
          | inr n ↦ inr (elim (h.sound node seen_node) [
            | inl e ↦ subst (λ w. Leads g w u) (sym e) (Leads.at_once node u (contains_of (targets_of g node) u n.0))
            | inr r ↦ further g start node u r (contains_of (targets_of g node) u n.0)
          ])
        ];
        whole = λ u k. elim (grows.only u k) [
          | inr n ↦ inl n.1
          | inl old ↦ elim (h.whole u old) [
            | inr done ↦ inr (λ v c. grows.kept v (done v c))
            | inl on ↦ elim (Contains-push_cases rest node u on) [
              | inl below ↦ inl (grows.before u below)
              | inr same ↦ inr (subst (λ w. Finished g t.0 w) same (λ v c. here v (has_of (targets_of g node) v c)))
            ]
          ]
        ];
      },
      (let a = grows.same_work in let l = length_push rest node in omega (arith, a, l)),
    )

-- a search begins
pub search_begins : (g : Graph) (start : ℕ) (seen : List Bool) → start < length g → length seen ≡ length g → ((u : ℕ) → is_seen seen u ≡ false) → Searches g start (set seen start true) (start ∷ [])
search_begins g start seen lt long none =
    let inside : start < length seen = rw long lt in
    let here : is_seen (set seen start true) start ≡ true = get_or-set_same seen start true false inside in
    let just : (u : ℕ) → is_seen (set seen start true) u ≡ true → start ≡ u = λ u h. elim (cases_eq u start) [
      | inl e ↦ sym e
      | inr ne ↦ absurd (true≢false (sym h ∙ get_or-set_other seen start u true false ne ∙ none u))
    ] in
    let on : Contains (start ∷ []) start = contains_of (start ∷ []) start (inl refl) in
    let alone : (u : ℕ) → Contains (start ∷ []) u → start ≡ u = λ u h. elim (has_of (start ∷ []) u h) [ inl e ↦ sym e | inr n ↦ absurd n ] in
    record {
      long = length-set seen start true ∙ long;
      inside = λ u h. subst (λ w. w < length g) (alone u h) lt;
      noted = λ u h. subst (λ w. is_seen (set seen start true) w ≡ true) (alone u h) here;
      begun = here;
      sound = λ u h. inl (just u h);
      whole = λ u h. inl (subst (Contains (start ∷ [])) (just u h) on);
    }

-- a search ends: what is reached is seen
closed : (g : Graph) (seen : List Bool) → ((u : ℕ) → is_seen seen u ≡ true → Finished g seen u) → (a b : ℕ) → is_seen seen a ≡ true → Leads g a b → is_seen seen b ≡ true
closed g seen done a b h (Leads.at_once a' b' c) = done a' h b' c
closed g seen done a c h (Leads.through a' b' c' u r) = closed g seen done b' c' (done a' h b' u) r

pub search_ends : (g : Graph) (start : ℕ) (seen : List Bool) (todo : List ℕ) (to : ℕ) → length todo ≡ 0 → Searches g start seen todo → (start ≡ to) ⊎ Leads g start to → is_seen seen to ≡ true
search_ends g start seen todo to empty h (inl e) = subst (λ w. is_seen seen w ≡ true) e h.begun
search_ends g start seen todo to empty h (inr r) = closed g seen done start to h.begun r
  where
    done : (u : ℕ) → is_seen seen u ≡ true → Finished g seen u
    done u k = elim (h.whole u k) [ inl on ↦ absurd (omega (arith, empty, on.1)) | inr f ↦ f ]

pub unseen_all : (n u : ℕ) → is_seen (replicate n false) u ≡ false
unseen_all n u = elim (cases_lt u n) [
  | inl lt ↦ get_or-replicate n u false false lt
  | inr past ↦ get_or_past (replicate n false) u false (omega (arith, length-replicate n false))
]

pub answers : (g : Graph) (start : ℕ) (seen : List Bool) (todo : List ℕ) (to : ℕ) (answer : Bool) → length todo ≡ 0 → to < length g → answer ≡ get_or seen to answer → Searches g start seen todo
    → IsTrue answer ↔ ((start ≡ to) ⊎ Leads g start to)
answers g start seen todo to answer empty lt at h =
    let inside : to < length seen = rw h.long lt in
    let is : answer ≡ is_seen seen to = at ∙ get_or_default seen to answer false inside in
    (λ t. h.sound to (sym is ∙ t), λ r. is ∙ search_ends g start seen todo to empty h r)
