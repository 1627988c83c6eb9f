-- After as many rounds as there are entities one round more marks nothing; and no closed set of marks has less.
use Rattle.std.proofs.Common.{◌≡◌, ℕ, zero, suc, ◌+◌, ◌≤◌, List, [], ◌∷◌, length, map, refl, sym, ap, ◌∙◌, arith, ◌⊎◌, inl, inr, Bool, true, false, cond, ◌||◌, Option, None, Some}
use Rattle.std.specs.List.{list_any, slice_get}
use Rattle.std.proofs.lemmas.Bool.{true≢false}
use Rattle.std.proofs.lemmas.List.{length-map}
use Rattle.f3_kinds.specs.declared.types.DataType.{DataType}
use Rattle.f3_kinds.specs.declared.types.DataType.TheVariants.{Integer, Logical, Derived}
use Rattle.f3_kinds.specs.declared.things.Component.{Component}
use Rattle.f3_kinds.specs.Things.{Nature, constant, variable, derived, subroutine, function}
use Rattle.f3_kinds.specs.Things as kinds
use Rattle.f3_type_rules.specs.Natures.{flag_of, is_finalized, rounds}
use Rattle.f3_finalizable.specs.Inner.Holders.{part_of, derived_of}
use Rattle.f3_finalizable.specs.Inner.Marks.{is_seen, has_final}

abbrev pub round : List Nature → List Bool → List Bool
round ns fs = map (is_finalized fs) ns

abbrev pub Under : List Bool → List Bool → Type 0
Under xs ys = (u : ℕ) → is_seen xs u ≡ true → is_seen ys u ≡ true

-- ---- a round keeps the order

flag_at : (fs : List Bool) (e : ℕ) → kinds.map_or false (λ f. f) (slice_get fs e) ≡ is_seen fs e
flag_at [] e = refl
flag_at (f ∷ fs) zero = refl
flag_at (f ∷ fs) (suc e) = flag_at fs e

flag_more : (xs ys : List Bool) → Under xs ys → (d : Option DataType) → flag_of xs d ≡ true → flag_of ys d ≡ true
flag_more xs ys h None e = e
flag_more xs ys h (Some (Integer k)) e = e
flag_more xs ys h (Some Logical) e = e
flag_more xs ys h (Some (Derived u)) e = flag_at ys u ∙ h u (sym (flag_at xs u) ∙ e)

or_right : (a b : Bool) → b ≡ true → (a || b) ≡ true
or_right true b h = refl
or_right false b h = h

or_more : (a b c d : Bool) → (a ≡ true → c ≡ true) → (b ≡ true → d ≡ true) → (a || b) ≡ true → (c || d) ≡ true
or_more true b c d f g h = ap (λ x. x || d) (f refl)
or_more false b c d f g h = or_right c d (g h)

any_more : {X : Type 0} (p q : X → Bool) → ((x : X) → p x ≡ true → q x ≡ true) → (xs : List X) → list_any p xs ≡ true → list_any q xs ≡ true
any_more p q f [] h = h
any_more p q f (x ∷ xs) h = or_more (p x) (list_any p xs) (q x) (list_any q xs) (f x) (any_more p q f xs) h

finalized_more : (xs ys : List Bool) → Under xs ys → (n : Nature) → is_finalized xs n ≡ true → is_finalized ys n ≡ true
finalized_more xs ys h (constant o) e = e
finalized_more xs ys h (variable o) e = e
finalized_more xs ys h (subroutine p ds) e = e
finalized_more xs ys h (function p ds o) e = e
finalized_more xs ys h (derived home ks f) e =
    let p : ℕ × Component → Bool = λ k. flag_of xs ((k.1).object).data_type in
    let q : ℕ × Component → Bool = λ k. flag_of ys ((k.1).object).data_type in
    or_more f (list_any p ks) f (list_any q ks) (λ t. t) (any_more p q (λ k. flag_more xs ys h ((k.1).object).data_type) ks) e

mapped_more : (g h : Nature → Bool) → ((n : Nature) → g n ≡ true → h n ≡ true) → (ns : List Nature) → Under (map g ns) (map h ns)
mapped_more g h f [] u e = e
mapped_more g h f (n ∷ ns) zero e = f n e
mapped_more g h f (n ∷ ns) (suc u) e = mapped_more g h f ns u e

pub round_more : (ns : List Nature) (xs ys : List Bool) → Under xs ys → Under (round ns xs) (round ns ys)
round_more ns xs ys h = mapped_more (is_finalized xs) (is_finalized ys) (finalized_more xs ys h) ns

-- ---- the last round stands outside

pub last_round : (ns : List Nature) (k : ℕ) (fs : List Bool) → rounds ns (suc k) fs ≡ round ns (rounds ns k fs)
last_round ns zero fs = refl
last_round ns (suc k) fs = last_round ns k (round ns fs)

under_same : (xs xs' ys ys' : List Bool) → xs ≡ xs' → ys ≡ ys' → Under xs' ys' → Under xs ys
under_same xs xs' ys ys' a b h = λ u e. ap (λ l. is_seen l u) b ∙ h u (ap (λ l. is_seen l u) (sym a) ∙ e)

rises : (ns : List Nature) (k : ℕ) → Under (rounds ns k []) (rounds ns (suc k) [])
rises ns zero = λ u e. absurd (true≢false (sym e))
rises ns (suc k) =
    under_same (rounds ns (suc k) []) (round ns (rounds ns k [])) (rounds ns (suc (suc k)) []) (round ns (rounds ns (suc k) [])) (last_round ns k []) (last_round ns (suc k) [])
    (round_more ns (rounds ns k []) (rounds ns (suc k) []) (rises ns k))

-- ---- each round that is not the last marks one more

abbrev one : Bool → ℕ
one b = cond b 1 0

abbrev tally : List Bool → ℕ
tally [] = 0
tally (b ∷ bs) = one b + tally bs

one_le : (b : Bool) → one b ≤ 1
one_le true = omega arith
one_le false = omega arith

one_more : (x y : Bool) → (x ≡ true → y ≡ true) → one x ≤ one y
one_more true true h = omega arith
one_more true false h = absurd (true≢false (sym (h refl)))
one_more false true h = omega arith
one_more false false h = omega arith

tally_le : (bs : List Bool) → tally bs ≤ length bs
tally_le [] = omega arith
tally_le (b ∷ bs) = omega (arith, one_le b, tally_le bs)

tally_more : (xs ys : List Bool) → Under xs ys → tally xs ≤ tally ys
tally_more [] ys h = omega arith
tally_more (x ∷ xs) [] h = omega (arith, one_more x false (h 0), tally_more xs [] (λ u e. h (suc u) e))
tally_more (x ∷ xs) (y ∷ ys) h = omega (arith, one_more x y (h 0), tally_more xs ys (λ u e. h (suc u) e))

under_cons : (x y : Bool) (xs ys : List Bool) → (x ≡ true → y ≡ true) → Under xs ys → Under (x ∷ xs) (y ∷ ys)
under_cons x y xs ys f h zero e = f e
under_cons x y xs ys f h (suc u) e = h u e

under_none : (xs : List Bool) → Under xs [] → Under (false ∷ xs) []
under_none xs h zero e = e
under_none xs h (suc u) e = h u e

some : (ys : List Bool) → Under ys [] ⊎ (1 ≤ tally ys)
some [] = inl (λ u e. e)
some (true ∷ ys) = inr (omega arith)
some (false ∷ ys) = elim (some ys) [ inl h ↦ inl (under_none ys h) | inr l ↦ inr (omega arith) ]

grown : (xs ys : List Bool) → Under xs ys → Under ys xs ⊎ (tally xs + 1 ≤ tally ys)
grown [] ys h = elim (some ys) [ inl n ↦ inl n | inr l ↦ inr (omega arith) ]
grown (x ∷ xs) [] h = inl (λ u e. absurd (true≢false (sym e)))
grown (x ∷ xs) (y ∷ ys) h = by x y (h 0) (grown xs ys (λ u e. h (suc u) e)) (tally_more xs ys (λ u e. h (suc u) e))
  where
    by : (a b : Bool) → (a ≡ true → b ≡ true) → Under ys xs ⊎ (tally xs + 1 ≤ tally ys) → tally xs ≤ tally ys → Under (b ∷ ys) (a ∷ xs) ⊎ (tally (a ∷ xs) + 1 ≤ tally (b ∷ ys))
    by true true f (inl n) l = inl (under_cons true true ys xs (λ e. e) n)
    by true true f (inr m) l = inr (omega arith)
    by true false f r l = absurd (true≢false (sym (f refl)))
    by false true f r l = inr (omega arith)
    by false false f (inl n) l = inl (under_cons false false ys xs (λ e. e) n)
    by false false f (inr m) l = inr (omega arith)

closes : (ns : List Nature) (k : ℕ) → Under (round ns (rounds ns k [])) (rounds ns k []) ⊎ (k + 1 ≤ tally (rounds ns (suc k) []))
closes ns zero = elim (grown [] (round ns []) (rises ns zero)) [ inl c ↦ inl c | inr m ↦ inr (omega arith) ]
closes ns (suc k) = elim (closes ns k) [
  | inl c ↦ inl (under_same (round ns (rounds ns (suc k) [])) (round ns (round ns (rounds ns k []))) (rounds ns (suc k) []) (round ns (rounds ns k [])) (ap (round ns) (last_round ns k [])) (last_round ns k []) (round_more ns (round ns (rounds ns k [])) (rounds ns k []) c))
  | inr m ↦ elim (grown (rounds ns (suc k) []) (rounds ns (suc (suc k)) []) (rises ns (suc k))) [
    | inl d ↦ inl (under_same (round ns (rounds ns (suc k) [])) (rounds ns (suc (suc k)) []) (rounds ns (suc k) []) (rounds ns (suc k) []) (sym (last_round ns (suc k) [])) refl d)
    | inr l ↦ inr (omega arith)
  ]
]

-- one round more marks nothing
pub fixed : (ns : List Nature) → Under (round ns (rounds ns (length ns) [])) (rounds ns (length ns) [])
fixed ns = elim (closes ns (length ns)) [
  | inl c ↦ c
  | inr m ↦ absurd (omega (arith, m, tally_le (rounds ns (suc (length ns)) []), ap length (last_round ns (length ns) []), length-map ns (is_finalized (rounds ns (length ns) []))))
]

-- what a round adds nothing to has all that rounds mark
pub least : (ns : List Nature) (fs : List Bool) → Under (round ns fs) fs → (k : ℕ) → Under (rounds ns k []) fs
least ns fs c zero = λ u e. absurd (true≢false (sym e))
least ns fs c (suc k) = λ u e. c u (round_more ns (rounds ns k []) fs (least ns fs c k) u (ap (λ l. is_seen l u) (sym (last_round ns k [])) ∙ e))

pub rounds_long : (ns : List Nature) → length (rounds ns (length ns) []) ≡ length ns
rounds_long [] = refl
rounds_long (n ∷ ns) = ap length (last_round (n ∷ ns) (length ns) []) ∙ length-map (n ∷ ns) (is_finalized (rounds (n ∷ ns) (length ns) []))

-- ---- what a round marks

abbrev pub HasPart : List (ℕ × Component) → ℕ → Type 0
HasPart [] u = ⊥
HasPart (k ∷ ks) u = (part_of k.1 ≡ Some u) ⊎ HasPart ks u

abbrev pub IsPart : Nature → ℕ → Type 0
IsPart (derived home ks f) u = HasPart ks u
IsPart _ u = ⊥

-- the entity at a place has a component of a type
abbrev pub Holds : List Nature → (holder : ℕ) → (part : ℕ) → Type 0
Holds [] v u = ⊥
Holds (n ∷ ns) zero u = IsPart n u
Holds (n ∷ ns) (suc v) u = Holds ns v u

abbrev pub finals : List Nature → List Bool
finals ns = map has_final ns

flag_part : (fs : List Bool) (d : Option DataType) → flag_of fs d ≡ true → (u : ℕ) × (derived_of d ≡ Some u) × (is_seen fs u ≡ true)
flag_part fs None e = absurd (true≢false (sym e))
flag_part fs (Some (Integer k)) e = absurd (true≢false (sym e))
flag_part fs (Some Logical) e = absurd (true≢false (sym e))
flag_part fs (Some (Derived u)) e = (u, refl, sym (flag_at fs u) ∙ e)

part_flag : (fs : List Bool) (d : Option DataType) (u : ℕ) → derived_of d ≡ Some u → is_seen fs u ≡ true → flag_of fs d ≡ true
part_flag fs None u e h = let no : ⊥ = cc in absurd no
part_flag fs (Some (Integer k)) u e h = let no : ⊥ = cc in absurd no
part_flag fs (Some Logical) u e h = let no : ⊥ = cc in absurd no
part_flag fs (Some (Derived v)) u e h = let same : v ≡ u = cc in flag_at fs v ∙ ap (is_seen fs) same ∙ h

or_cases : (a b : Bool) → (a || b) ≡ true → (a ≡ true) ⊎ (b ≡ true)
or_cases true b h = inl refl
or_cases false b h = inr h

any_part : (fs : List Bool) (ks : List (ℕ × Component)) → list_any (λ (k : ℕ × Component). flag_of fs ((k.1).object).data_type) ks ≡ true → (u : ℕ) × HasPart ks u × (is_seen fs u ≡ true)
any_part fs [] e = absurd (true≢false (sym e))
any_part fs (k ∷ ks) e = elim (or_cases (flag_of fs ((k.1).object).data_type) (list_any (λ (k : ℕ × Component). flag_of fs ((k.1).object).data_type) ks) e) [
  | inl here ↦ let r = flag_part fs ((k.1).object).data_type here in (r.0, inl r.1, r.2)
  | inr later ↦ let r = any_part fs ks later in (r.0, inr r.1, r.2)
]

part_any : (fs : List Bool) (ks : List (ℕ × Component)) (u : ℕ) → HasPart ks u → is_seen fs u ≡ true → list_any (λ (k : ℕ × Component). flag_of fs ((k.1).object).data_type) ks ≡ true
part_any fs [] u p h = absurd p
part_any fs (k ∷ ks) u (inl e) h = ap (λ b. b || list_any (λ (k : ℕ × Component). flag_of fs ((k.1).object).data_type) ks) (part_flag fs ((k.1).object).data_type u e h)
part_any fs (k ∷ ks) u (inr p) h = or_right (flag_of fs ((k.1).object).data_type) (list_any (λ (k : ℕ × Component). flag_of fs ((k.1).object).data_type) ks) (part_any fs ks u p h)

-- a round marks types with a final subroutine and holders of what is marked
pub round_finals : (ns : List Nature) (fs : List Bool) (v : ℕ) → is_seen (finals ns) v ≡ true → is_seen (round ns fs) v ≡ true
round_finals [] fs v e = e
round_finals (constant o ∷ ns) fs zero e = e
round_finals (variable o ∷ ns) fs zero e = e
round_finals (subroutine p ds ∷ ns) fs zero e = e
round_finals (function p ds o ∷ ns) fs zero e = e
round_finals (derived home ks f ∷ ns) fs zero e = ap (λ b. b || list_any (λ (k : ℕ × Component). flag_of fs ((k.1).object).data_type) ks) e
round_finals (n ∷ ns) fs (suc v) e = round_finals ns fs v e

pub round_holders : (ns : List Nature) (fs : List Bool) (v u : ℕ) → Holds ns v u → is_seen fs u ≡ true → is_seen (round ns fs) v ≡ true
round_holders [] fs v u p h = absurd p
round_holders (constant o ∷ ns) fs zero u p h = absurd p
round_holders (variable o ∷ ns) fs zero u p h = absurd p
round_holders (subroutine q ds ∷ ns) fs zero u p h = absurd p
round_holders (function q ds o ∷ ns) fs zero u p h = absurd p
round_holders (derived home ks f ∷ ns) fs zero u p h = or_right f (list_any (λ (k : ℕ × Component). flag_of fs ((k.1).object).data_type) ks) (part_any fs ks u p h)
round_holders (n ∷ ns) fs (suc v) u p h = round_holders ns fs v u p h

pub round_only : (ns : List Nature) (fs : List Bool) (v : ℕ) → is_seen (round ns fs) v ≡ true → (is_seen (finals ns) v ≡ true) ⊎ ((u : ℕ) × Holds ns v u × (is_seen fs u ≡ true))
round_only [] fs v e = absurd (true≢false (sym e))
round_only (constant o ∷ ns) fs zero e = absurd (true≢false (sym e))
round_only (variable o ∷ ns) fs zero e = absurd (true≢false (sym e))
round_only (subroutine q ds ∷ ns) fs zero e = absurd (true≢false (sym e))
round_only (function q ds o ∷ ns) fs zero e = absurd (true≢false (sym e))
round_only (derived home ks f ∷ ns) fs zero e = elim (or_cases f (list_any (λ (k : ℕ × Component). flag_of fs ((k.1).object).data_type) ks) e) [
  | inl own ↦ inl own
  | inr part ↦ inr (any_part fs ks part)
]
round_only (n ∷ ns) fs (suc v) e = round_only ns fs v e
