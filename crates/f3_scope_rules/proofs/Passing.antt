-- Passes over lists: the least of what was found so far.
use Rattle.std.proofs.Common.{◌≡◌, ℕ, ◌+◌, ◌<◌, ◌≤◌, List, [], ◌∷◌, ◌++◌, length, map, take, drop, get_or, refl, sym, ap, subst, ◌∙◌, Bool, true, false, Option, None, ◌⊎◌, inl, inr, Contains, if◌then◌else◌}
use Rattle.std.proofs.lemmas.Bool.{true≢false}
use Rattle.std.proofs.lemmas.List.{take_more, take_all, at_drop_more}
use Rattle.f3_places.specs.declared.source.Place.{Place}
use Rattle.f3_rules.specs.declared.breaks.Break.{Break}
use Rattle.f3_tree.specs.declared.expression.Name.{Name}
use Rattle.f3_rules.specs.Least.{Least, earlier_of, first_of}
use Rattle.f3_rules.proofs.Firsts.{first-append, least_none, least_one, least_same, least_both, earlier_assoc}
use Rattle.f3_breaks.specs.Among.{Among}
use Rattle.f3_scope_rules.specs.Inner.Rows.{If, pass}
use Rattle.f3_scope_rules.proofs.Members.{Has, has_of, contains_of, has_left, has_right, has_parts, has_mapped, mapped_of}

-- a break, where the answer is yes
pub least_if : (t : Bool) (f : Break) → Least (first_of (if t then f ∷ [] else [])) (If t f)
least_if true f = least_one {P = If true f} f (refl, refl) (λ b h. h.1)
least_if false f = least_none {P = If false f} (λ b h. absurd (true≢false (sym h.0)))

module _ {X : Type 0} (P : X → Break → Type 0) where
  among_start : Least None (Among P [])
  among_start = least_none {P = Among P []} (λ b h. has_of [] h.0 h.1)

  -- nothing yet
  pub among_none : (xs : List X) → Least None (Among P (take 0 xs))
  among_none [] = among_start
  among_none (x ∷ xs) = among_start

  -- one element more
  pub among_step : (xs : List X) (i : ℕ) (d : X) (before row after : Option Break) → i < length xs
      → after ≡ earlier_of before row → Least before (Among P (take i xs)) → Least row (P (get_or xs i d)) → Least after (Among P (take (i + 1) xs))
  among_step xs i d before row after lt e l m = subst (λ f. Least f (Among P (take (i + 1) xs))) (sym e) (least_same (least_both l m) to from)
    where
      x : X
      x = get_or xs i d

      more : take (i + 1) xs ≡ take i xs ++ x ∷ []
      more = take_more xs i d lt

      to : (b : Break) → Among P (take i xs) b ⊎ P x b → Among P (take (i + 1) xs) b
      to b (inl (y, h, p)) = (y, subst (λ l. Contains l y) (sym more) (contains_of (take i xs ++ x ∷ []) y (has_left (take i xs) (x ∷ []) y (has_of (take i xs) y h))), p)
      to b (inr p) = (x, subst (λ l. Contains l x) (sym more) (contains_of (take i xs ++ x ∷ []) x (has_right (take i xs) (x ∷ []) x (inl refl))), p)

      from : (b : Break) → Among P (take (i + 1) xs) b → Among P (take i xs) b ⊎ P x b
      from b (y, h, p) = elim (has_parts (take i xs) (x ∷ []) y (has_of (take i xs ++ x ∷ []) y (subst (λ l. Contains l y) more h))) [
        | inl a ↦ inl (y, contains_of (take i xs) y a, p)
        | inr (inl e) ↦ inr (subst (λ w. P w b) e p)
        | inr (inr n) ↦ absurd n
      ]

  pub among_more : (xs : List X) (i : ℕ) (x : X) (before row after : Option Break) → i < length xs → x ≡ get_or xs i x
      → after ≡ earlier_of before row → Least before (Among P (take i xs)) → Least row (P x) → Least after (Among P (take (i + 1) xs))
  among_more xs i x before row after lt at e l m = among_step xs i x before row after lt e l (subst (λ w. Least row (P w)) at m)

  -- all of them
  pub among_all : (xs : List X) (i : ℕ) (found : Option Break) → length xs ≤ i → Least found (Among P (take i xs)) → Least found (Among P xs)
  among_all xs i found le l = subst (λ ys. Least found (Among P ys)) (take_all i xs le) l

-- the same of what is seen of the elements
module _ {X Y : Type 0} (view : X → Y) (P : Y → Break → Type 0) where
  pub among_views : (xs : List X) (b : Break) → Among (λ x. P (view x)) xs b → Among P (map view xs) b
  among_views xs b (x, h, p) = (view x, contains_of (map view xs) (view x) (has_mapped view xs x (has_of xs x h)), p)

  pub among_viewed : (xs : List X) (b : Break) → Among P (map view xs) b → Among (λ x. P (view x)) xs b
  among_viewed xs b (y, h, p) = let r = mapped_of view xs y (has_of (map view xs) y h) in (r.0, contains_of xs r.0 r.1, subst (λ w. P w b) r.2 p)

-- ---- passes that know what was before

-- what elements leave
abbrev pub after : {S X : Type 0} → (S → X → S) → S → List X → S
after next s [] = s
after next s (x ∷ xs) = after next (next s x) xs

module _ {S X : Type 0} (row : S → X → List Break) (next : S → X → S) where
  pub pass_of : (s : S) (xs : List X) (b : Break) → Has (pass row next s xs) b → (front : List X) × (x : X) × (rest : List X) × (xs ≡ front ++ x ∷ rest) × Has (row (after next s front) x) b
  pass_of s [] b h = absurd h
  pass_of s (x ∷ xs) b h = elim (has_parts (row s x) (pass row next (next s x) xs) b h) [
    | inl a ↦ ([], x, xs, refl, a)
    | inr c ↦ let r = pass_of (next s x) xs b c in (x ∷ r.0, r.1, r.2, ap (λ l. x ∷ l) r.3, r.4)
  ]

  pub has_pass : (s : S) (front : List X) (x : X) (rest : List X) (b : Break) → Has (row (after next s front) x) b → Has (pass row next s (front ++ x ∷ rest)) b
  has_pass s [] x rest b h = has_left (row s x) (pass row next (next s x) rest) b h
  has_pass s (z ∷ front) x rest b h = has_right (row s z) (pass row next (next s z) (front ++ x ∷ rest)) b (has_pass (next s z) front x rest b h)

  -- a loop over elements: one more
  pub pass_step : (xs : List X) (i : ℕ) (d : X) (s : S) (before later whole : Option Break) → i < length xs
      → later ≡ earlier_of before (first_of (row s (get_or xs i d)))
      → earlier_of before (first_of (pass row next s (drop i xs))) ≡ whole
      → earlier_of later (first_of (pass row next (next s (get_or xs i d)) (drop (i + 1) xs))) ≡ whole
  pass_step xs i d s before later whole lt e h =
      let x = get_or xs i d in
      let rest = pass row next (next s x) (drop (i + 1) xs) in
      ap (λ a. earlier_of a (first_of rest)) e
      ∙ earlier_assoc before (first_of (row s x)) (first_of rest)
      ∙ ap (earlier_of before) (sym (first-append (row s x) rest) ∙ ap first_of (sym (at_drop_more (pass row next s) xs i d lt)))
      ∙ h

  -- the same where they are seen in some way
  module _ {Z : Type 0} (view : Z → X) where
    pub pass_step_view : (zs : List Z) (i : ℕ) (z : Z) (s : S) (before later whole : Option Break) → i < length zs → z ≡ get_or zs i z
        → later ≡ earlier_of before (first_of (row s (view z)))
        → earlier_of before (first_of (pass row next s (map view (drop i zs)))) ≡ whole
        → earlier_of later (first_of (pass row next (next s (view z)) (map view (drop (i + 1) zs)))) ≡ whole
    pass_step_view zs i z s before later whole lt at e h =
        let x = view z in
        let rest = pass row next (next s x) (map view (drop (i + 1) zs)) in
        ap (λ a. earlier_of a (first_of rest)) e
        ∙ earlier_assoc before (first_of (row s x)) (first_of rest)
        ∙ ap (earlier_of before) (sym (first-append (row s x) rest) ∙ ap first_of (sym (at_drop_more (λ ys. pass row next s (map view ys)) zs i z lt ∙ ap (λ w. pass row next s (view w ∷ map view (drop (i + 1) zs))) (sym at))))
        ∙ h

-- what stands in no list
abbrev pub no_place : Place
no_place = record { file = 0; line = 0; column = 0 }

abbrev pub no_name : Name
no_name = record { symbol = 0; place = no_place }
