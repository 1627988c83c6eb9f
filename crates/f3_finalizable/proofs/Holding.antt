-- Which entities stand in the lists of holders.
use Rattle.std.proofs.Common.{◌≡◌, ℕ, zero, suc, ◌+◌, ◌<◌, List, [], ◌∷◌, ◌++◌, length, set, get_or, replicate, refl, sym, ap, subst, ◌∙◌, arith, ◌⊎◌, inl, inr, Option, None, Some}
use Rattle.std.proofs.lemmas.Bool.{cases_eq, cases_lt}
use Rattle.std.proofs.lemmas.List.{get_or-set_other, get_or-set_same, length-set, length-replicate, get_or-replicate, get_or_past, set_past}
use Rattle.f3_kinds.specs.declared.things.Component.{Component}
use Rattle.f3_kinds.specs.Things.{Nature, constant, variable, derived, subroutine, function}
use Rattle.f3_finalizable.specs.Inner.Holders.{part_of, hold, hold_all, hold_thing, hold_each}
use Rattle.f3_finalizable.proofs.Members.{Has, has_left, has_last, has_push}
use Rattle.f3_finalizable.proofs.Rounds.{HasPart, IsPart, Holds}

abbrev pub targets : List (List ℕ) → ℕ → List ℕ
targets rows u = get_or rows u []

-- these stand in the lists besides what stood there
pub record Adds (rows rows' : List (List ℕ)) (New : ℕ → ℕ → Type 0) : Type 0 where
  pub long : length rows' ≡ length rows
  pub kept : (u w : ℕ) → Has (targets rows u) w → Has (targets rows' u) w
  pub here : (u w : ℕ) → u < length rows → New u w → Has (targets rows' u) w
  pub only : (u w : ℕ) → Has (targets rows' u) w → Has (targets rows u) w ⊎ New u w

nothing : (rows : List (List ℕ)) (New : ℕ → ℕ → Type 0) → ((u w : ℕ) → New u w → ⊥) → Adds rows rows New
nothing rows New never = record { long = refl; kept = λ u w h. h; here = λ u w lt n. absurd (never u w n); only = λ u w h. inl h }

follow : (a b c : List (List ℕ)) (P Q R : ℕ → ℕ → Type 0) → ((u w : ℕ) → P u w ⊎ Q u w → R u w) → ((u w : ℕ) → R u w → P u w ⊎ Q u w) → Adds a b P → Adds b c Q → Adds a c R
follow a b c P Q R to from f s = record {
  long = s.long ∙ f.long;
  kept = λ u w h. s.kept u w (f.kept u w h);
  here = λ u w lt n. elim (from u w n) [
    | inl p ↦ s.kept u w (f.here u w lt p)
    | inr q ↦ s.here u w (subst (λ k. u < k) (sym f.long) lt) q
  ];
  only = λ u w h. elim (s.only u w h) [
    | inl old ↦ elim (f.only u w old) [ inl older ↦ inl older | inr p ↦ inr (to u w (inl p)) ]
    | inr q ↦ inr (to u w (inr q))
  ];
}

row_cases : (rows : List (List ℕ)) (i e u : ℕ)
    → ((u ≡ e) × (targets (hold rows i (Some e)) u ≡ targets rows u ++ i ∷ [])) ⊎ ((targets (hold rows i (Some e)) u ≡ targets rows u) × (u ≡ e → u < length rows → ⊥))
row_cases rows i e u =
    let row : List ℕ = get_or rows e [] ++ i ∷ [] in
    elim (cases_lt e (length rows)) [
      | inl lt ↦ elim (cases_eq u e) [
        | inl same ↦ inl (same, ap (targets (set rows e row)) same ∙ get_or-set_same rows e row [] lt ∙ ap (λ v. targets rows v ++ i ∷ []) (sym same))
        | inr ne ↦ inr (get_or-set_other rows e u row [] ne, λ s l. ne s)
      ]
      | inr past ↦ inr (ap (λ r. targets r u) (set_past rows e row past), λ s l. omega arith)
    ]

one : (rows : List (List ℕ)) (i : ℕ) (p : Option ℕ) → Adds rows (hold rows i p) (λ u w. (w ≡ i) × (p ≡ Some u))
one rows i None = nothing rows (λ u w. (w ≡ i) × (None ≡ Some u)) (λ u w n. let e = n.1 in let no : ⊥ = cc in no)
one rows i (Some e) = record {
  long = length-set rows e (get_or rows e [] ++ i ∷ []);
  kept = λ u w h. elim (row_cases rows i e u) [
    | inl r ↦ subst (λ l. Has l w) (sym r.1) (has_left (targets rows u) (i ∷ []) w h)
    | inr r ↦ subst (λ l. Has l w) (sym r.0) h
  ];
  here = λ u w lt n. elim (row_cases rows i e u) [
    | inl r ↦ subst (λ l. Has l w) (sym r.1) (subst (Has (targets rows u ++ i ∷ [])) (sym n.0) (has_last (targets rows u) i))
    | inr r ↦ let is = n.1 in let same : u ≡ e = cc in absurd (r.1 same lt)
  ];
  only = λ u w h. elim (row_cases rows i e u) [
    | inl r ↦ elim (has_push (targets rows u) i w (subst (λ l. Has l w) r.1 h)) [ inl old ↦ inl old | inr same ↦ inr (same, ap Some (sym r.0)) ]
    | inr r ↦ inl (subst (λ l. Has l w) r.0 h)
  ];
}

parts : (rows : List (List ℕ)) (i : ℕ) (ks : List (ℕ × Component)) → Adds rows (hold_all rows i ks) (λ u w. (w ≡ i) × HasPart ks u)
parts rows i [] = nothing rows (λ u w. (w ≡ i) × ⊥) (λ u w n. n.1)
parts rows i (k ∷ ks) =
    follow rows (hold rows i (part_of k.1)) (hold_all (hold rows i (part_of k.1)) i ks) (λ u w. (w ≡ i) × (part_of k.1 ≡ Some u)) (λ u w. (w ≡ i) × HasPart ks u) (λ u w. (w ≡ i) × HasPart (k ∷ ks) u)
    (λ u w n. elim n [ inl p ↦ (p.0, inl p.1) | inr q ↦ (q.0, inr q.1) ])
    (λ u w n. elim n.1 [ inl p ↦ inl (n.0, p) | inr q ↦ inr (n.0, q) ])
    (one rows i (part_of k.1)) (parts (hold rows i (part_of k.1)) i ks)

nature : (rows : List (List ℕ)) (i : ℕ) (n : Nature) → Adds rows (hold_thing rows i n) (λ u w. (w ≡ i) × IsPart n u)
nature rows i (derived home ks f) = parts rows i ks
nature rows i (constant o) = nothing rows (λ u w. (w ≡ i) × ⊥) (λ u w n. n.1)
nature rows i (variable o) = nothing rows (λ u w. (w ≡ i) × ⊥) (λ u w n. n.1)
nature rows i (subroutine p ds) = nothing rows (λ u w. (w ≡ i) × ⊥) (λ u w n. n.1)
nature rows i (function p ds o) = nothing rows (λ u w. (w ≡ i) × ⊥) (λ u w n. n.1)

-- from a place on
abbrev pub Later : List Nature → ℕ → ℕ → ℕ → Type 0
Later ns i u w = (v : ℕ) × (w ≡ v + i) × Holds ns v u

split : (n : Nature) (ns : List Nature) (i u w v : ℕ) → w ≡ v + i → Holds (n ∷ ns) v u → ((w ≡ i) × IsPart n u) ⊎ Later ns (i + 1) u w
split n ns i u w zero e h = inl (omega arith, h)
split n ns i u w (suc v) e h = inr (v, omega arith, h)

natures : (rows : List (List ℕ)) (i : ℕ) (ns : List Nature) → Adds rows (hold_each rows i ns) (Later ns i)
natures rows i [] = nothing rows (Later [] i) (λ u w n. n.2)
natures rows i (n ∷ ns) =
    follow rows (hold_thing rows i n) (hold_each (hold_thing rows i n) (i + 1) ns) (λ u w. (w ≡ i) × IsPart n u) (Later ns (i + 1)) (Later (n ∷ ns) i)
    (λ u w h. elim h [ inl p ↦ (zero, (let a = p.0 in omega arith), p.1) | inr q ↦ (suc q.0, (let a = q.1 in omega arith), q.2) ])
    (λ u w h. split n ns i u w h.0 h.1 h.2)
    (nature rows i n) (natures (hold_thing rows i n) (i + 1) ns)

-- the lists of all holders
abbrev pub rows_for : List Nature → List (List ℕ)
rows_for ns = hold_each (replicate (length ns) []) 0 ns

pub to_holders : (ns : List Nature) (u w : ℕ) → u < length ns → Holds ns w u → Has (targets (rows_for ns) u) w
to_holders ns u w lt h =
    (natures (replicate (length ns) []) 0 ns).here u w (omega (arith, lt, length-replicate {A = List ℕ} (length ns) [])) (w, omega arith, h)

none : (n u : ℕ) → targets (replicate n []) u ≡ []
none n u = elim (cases_lt u n) [
  | inl lt ↦ get_or-replicate n u [] [] lt
  | inr past ↦ get_or_past (replicate n []) u [] (omega (arith, past, length-replicate {A = List ℕ} n []))
]

pub of_holders : (ns : List Nature) (u w : ℕ) → Has (targets (rows_for ns) u) w → Holds ns w u
of_holders ns u w h = elim ((natures (replicate (length ns) []) 0 ns).only u w h) [
  | inl old ↦ absurd (subst (λ l. Has l w) (none (length ns) u) old)
  | inr l ↦ let e = l.1 in let same : l.0 ≡ w = omega arith in subst (λ v. Holds ns v u) same l.2
]

pub holds_inside : (ns : List Nature) (v u : ℕ) → Holds ns v u → v < length ns
holds_inside [] v u h = absurd h
holds_inside (n ∷ ns) zero u h = omega arith
holds_inside (n ∷ ns) (suc v) u h = omega (arith, holds_inside ns v u h)
