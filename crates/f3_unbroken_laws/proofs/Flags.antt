-- Which types are finalizable: a type that is not has no final subroutine of its own, and no component of one that is.
use Rattle.std.proofs.Common.{◌≡◌, refl, sym, ap, subst, ◌∙◌, inl, inr, ℕ, zero, suc, ◌+◌, ◌<◌, Bool, true, false, ◌||◌, List, [], ◌∷◌, length, take, Option, None, Some, arith, slice_get}
use Rattle.std.specs.List.{flat_map, list_any}
use Rattle.std.proofs.lemmas.List.{length-map}
use Rattle.std.proofs.lemmas.Option.{slice_get_within}
use Rattle.f3_scopes.specs.Scopes.{declared_in, own}
use Rattle.f3_tree.specs.declared.expression.Name.{Name}
use Rattle.f3_tree.specs.Declarations.{SpecificationTree, declares, accesses, protects, saves, defines}
use Rattle.f3_kinds.specs.declared.types.DataType.{DataType}
use Rattle.f3_kinds.specs.declared.types.DataType.TheVariants.{Integer, Logical, Derived}
use Rattle.f3_kinds.specs.declared.things.Component.{Component}
use Rattle.f3_kinds.specs.Things.{map_or, Nature, constant, variable, derived, subroutine, function}
use Rattle.f3_type_rules.specs.Declarations.{is_final_nature}
use Rattle.f3_type_rules.specs.Finals.{final_rank}
use Rattle.f3_type_rules.specs.Members.{Numbered}
use Rattle.f3_type_rules.specs.Names.{Names, is_given, components}
use Rattle.f3_type_rules.specs.Natures.{declared_nature, natures_in, natures_from, unit_natures, flag_of, is_finalized, rounds, marked, settled}
use Rattle.f3_elaboration.specs.Numbers.{Definition, types_in, along_part, definitions}
use Rattle.f3_finalizable.specs.Inner.Marks.{is_seen}
use Rattle.f3_finalizable.proofs.Rounds.{round, fixed, rounds_long}
use Rattle.f3_lawful_laws.proofs.Facts.{no, nothing, same}
use Rattle.f3_lawful_laws.proofs.Opening.{at_front, at_back}
use Rattle.f3_entity_laws.specs.Things.{unit_things, things_of, IsAmong}
use Rattle.f3_entity_laws.proofs.Lists.{split_at, before, flat_block, there}
use Rattle.f3_entity_laws.proofs.Natures.{natures, things}

-- ---- marks at a place

neither : (a b : Bool) → (a || b) ≡ false → (a ≡ false) × (b ≡ false)
neither true b e = no e
neither false b e = (refl, e)

abbrev flag_or : Bool → Nature → Bool
flag_or b (constant o) = b
flag_or b (variable o) = b
flag_or b (derived home ks f) = f
flag_or b (subroutine pure ds) = b
flag_or b (function pure ds o) = b

abbrev parts_or : List (ℕ × Component) → Nature → List (ℕ × Component)
parts_or ls (constant o) = ls
parts_or ls (variable o) = ls
parts_or ls (derived home ks f) = ks
parts_or ls (subroutine pure ds) = ls
parts_or ls (function pure ds o) = ls

abbrev is_derived : Nature → Bool
is_derived (constant o) = false
is_derived (variable o) = false
is_derived (derived home ks f) = true
is_derived (subroutine pure ds) = false
is_derived (function pure ds o) = false

abbrev flagged : Bool → Nature → Nature
flagged f (constant o) = constant o
flagged f (variable o) = variable o
flagged f (derived home ks g) = derived home ks f
flagged f (subroutine pure ds) = subroutine pure ds
flagged f (function pure ds o) = function pure ds o

marked_first : (f : Bool) (fs : List Bool) (n : Nature) (ns : List Nature) → marked (f ∷ fs) (n ∷ ns) ≡ flagged f n ∷ marked fs ns
marked_first f fs (constant o) ns = refl
marked_first f fs (variable o) ns = refl
marked_first f fs (derived home ks g) ns = refl
marked_first f fs (subroutine pure ds) ns = refl
marked_first f fs (function pure ds o) ns = refl

-- what is marked at a place
marked_at : (fs : List Bool) (ns : List Nature) (e : ℕ) (n : Nature) → length fs ≡ length ns → slice_get (marked fs ns) e ≡ Some n
    → (m : Nature) × (slice_get ns e ≡ Some m) × (n ≡ flagged (is_seen fs e) m)
marked_at [] [] e n long at = nothing at
marked_at [] (m ∷ ns) e n long at = absurd (let z : 0 ≡ suc (length ns) = long in omega (arith, z))
marked_at (f ∷ fs) [] e n long at = absurd (let z : suc (length fs) ≡ 0 = long in omega (arith, z))
marked_at (f ∷ fs) (m ∷ ns) zero n long at = (m, refl, sym (same (ap (λ l. slice_get l 0) (sym (marked_first f fs m ns)) ∙ at)))
marked_at (f ∷ fs) (m ∷ ns) (suc e) n long at =
    marked_at fs ns e n (let z : suc (length fs) ≡ suc (length ns) = long in omega (arith, z)) (ap (λ l. slice_get l (suc e)) (sym (marked_first f fs m ns)) ∙ at)

marked_there : (fs : List Bool) (ns : List Nature) (e : ℕ) (m : Nature) → length fs ≡ length ns → slice_get ns e ≡ Some m
    → slice_get (marked fs ns) e ≡ Some (flagged (is_seen fs e) m)
marked_there fs [] e m long at = nothing at
marked_there [] (n ∷ ns) e m long at = absurd (let z : 0 ≡ suc (length ns) = long in omega (arith, z))
marked_there (f ∷ fs) (n ∷ ns) zero m long at = ap (λ l. slice_get l 0) (marked_first f fs n ns) ∙ ap (λ z. Some (flagged f z)) (same at)
marked_there (f ∷ fs) (n ∷ ns) (suc e) m long at =
    ap (λ l. slice_get l (suc e)) (marked_first f fs n ns) ∙ marked_there fs ns e m (let z : suc (length fs) ≡ suc (length ns) = long in omega (arith, z)) at

seen_round : (fs : List Bool) (ns : List Nature) (e : ℕ) (m : Nature) → slice_get ns e ≡ Some m → is_seen (round ns fs) e ≡ is_finalized fs m
seen_round fs [] e m at = nothing at
seen_round fs (n ∷ ns) zero m at = ap (is_finalized fs) (same at)
seen_round fs (n ∷ ns) (suc e) m at = seen_round fs ns e m at

not_more : (a b : Bool) → (a ≡ true → b ≡ true) → b ≡ false → a ≡ false
not_more true b h e = no (sym (h refl) ∙ e)
not_more false b h e = refl

-- ---- what is not finalizable

module _ (ns : List Nature) where
  abbrev flags : List Bool
  flags = rounds ns (length ns) []

  -- whether a type is finalizable, among these
  abbrev pub finalizes : Option DataType → Bool
  finalizes (Some (Derived e)) = map_or false is_final_nature (slice_get (settled ns) e)
  finalizes d = false

  final_flag : (n : Nature) → is_final_nature n ≡ flag_or false n
  final_flag (constant o) = refl
  final_flag (variable o) = refl
  final_flag (derived home ks f) = refl
  final_flag (subroutine pure ds) = refl
  final_flag (function pure ds o) = refl

  flagged_false : (m : Nature) → flag_or false (flagged false m) ≡ false
  flagged_false (constant o) = refl
  flagged_false (variable o) = refl
  flagged_false (derived home ks f) = refl
  flagged_false (subroutine pure ds) = refl
  flagged_false (function pure ds o) = refl

  seen_at : (fs : List Bool) (e : ℕ) → map_or false (λ f. f) (slice_get fs e) ≡ is_seen fs e
  seen_at [] e = refl
  seen_at (f ∷ fs) zero = refl
  seen_at (f ∷ fs) (suc e) = seen_at fs e

  -- what is not marked is not finalizable
  unmarked : (d : Option DataType) → flag_of flags d ≡ false → finalizes d ≡ false
  unmarked None h = refl
  unmarked (Some (Integer k)) h = refl
  unmarked (Some Logical) h = refl
  unmarked (Some (Derived e)) h = go (slice_get (settled ns) e) refl
    where
      go : (o : Option Nature) → slice_get (settled ns) e ≡ o → map_or false is_final_nature o ≡ false
      go None is = refl
      go (Some n) is =
          let (m, at, made) = marked_at flags ns e n (rounds_long ns) is in
          ap is_final_nature (made ∙ ap (λ f. flagged f m) (sym (seen_at flags e) ∙ h)) ∙ final_flag (flagged false m) ∙ flagged_false m

  each_unmarked : (ks : List (ℕ × Component)) → list_any (λ (k : ℕ × Component). flag_of flags ((k.1).object).data_type) ks ≡ false
      → (i : ℕ) (k : ℕ × Component) → slice_get ks i ≡ Some k → finalizes ((k.1).object).data_type ≡ false
  each_unmarked [] h i k at = nothing at
  each_unmarked (l ∷ ks) h zero k at =
      ap (λ (z : ℕ × Component). finalizes ((z.1).object).data_type) (sym (same at))
      ∙ unmarked ((l.1).object).data_type (neither (flag_of flags ((l.1).object).data_type) _ h).0
  each_unmarked (l ∷ ks) h (suc i) k at =
      each_unmarked ks (neither (flag_of flags ((l.1).object).data_type) _ h).1 i k at

  -- what a type that is not finalizable has
  pub record IsClean (e : ℕ) (ks : List (ℕ × Component)) : Type 0 where
    pub first : Nature
    pub there : slice_get ns e ≡ Some first
    pub own : flag_or false first ≡ false
    pub parts : (i : ℕ) (k : ℕ × Component) → slice_get ks i ≡ Some k → finalizes ((k.1).object).data_type ≡ false

  abbrev parts_false : Nature → Type 0
  parts_false n = list_any (λ (k : ℕ × Component). flag_of flags ((k.1).object).data_type) (parts_or [] n) ≡ false

  unfinalized : (m : Nature) → is_finalized flags m ≡ false → (flag_or false m ≡ false) × parts_false m
  unfinalized (constant o) h = (refl, refl)
  unfinalized (variable o) h = (refl, refl)
  unfinalized (derived home ks f) h = neither f _ h
  unfinalized (subroutine pure ds) h = (refl, refl)
  unfinalized (function pure ds o) h = (refl, refl)

  flag_flagged : (m : Nature) (home : ℕ) (ks : List (ℕ × Component)) (f b : Bool) → derived home ks f ≡ flagged b m → f ≡ b
  flag_flagged (constant o) home ks f b e = no (ap is_derived e)
  flag_flagged (variable o) home ks f b e = no (ap is_derived e)
  flag_flagged (derived h ls g) home ks f b e = ap (flag_or f) e
  flag_flagged (subroutine pure ds) home ks f b e = no (ap is_derived e)
  flag_flagged (function pure ds o) home ks f b e = no (ap is_derived e)

  parts_flagged : (m : Nature) (b : Bool) → parts_or [] (flagged b m) ≡ parts_or [] m
  parts_flagged (constant o) b = refl
  parts_flagged (variable o) b = refl
  parts_flagged (derived h ls g) b = refl
  parts_flagged (subroutine pure ds) b = refl
  parts_flagged (function pure ds o) b = refl

  pub clean : (e home : ℕ) (ks : List (ℕ × Component)) → slice_get (settled ns) e ≡ Some (derived home ks false) → IsClean e ks
  clean e home ks at =
      let (m, there, made) = marked_at flags ns e (derived home ks false) (rounds_long ns) at in
      let unseen : is_seen flags e ≡ false = sym (flag_flagged m home ks false (is_seen flags e) made) in
      let closed : is_seen (round ns flags) e ≡ false = not_more (is_seen (round ns flags) e) (is_seen flags e) (fixed ns e) unseen in
      let both = unfinalized m (sym (seen_round flags ns e m there) ∙ closed) in
      let parts : parts_or [] m ≡ ks = sym (parts_flagged m (is_seen flags e)) ∙ sym (ap (parts_or []) made) in
      record {
        first = m;
        there = there;
        own = both.0;
        parts = each_unmarked ks (ap (list_any (λ (k : ℕ × Component). flag_of flags ((k.1).object).data_type)) (sym parts) ∙ both.1);
      }

-- ---- as many natures as things

long_marked : (fs : List Bool) (ns : List Nature) → length (marked fs ns) ≡ length ns
long_marked [] [] = refl
long_marked [] (n ∷ ns) = refl
long_marked (f ∷ fs) [] = refl
long_marked (f ∷ fs) (n ∷ ns) = ap length (marked_first f fs n ns) ∙ ap suc (long_marked fs ns)

no_shorter : {X Y : Type 0} (xs : List X) (ys : List Y) → ((k : ℕ) (x : X) → slice_get xs k ≡ Some x → (y : Y) × (slice_get ys k ≡ Some y)) → length ys < length xs → ⊥
no_shorter xs ys h lt =
    let (x, at) = there xs (length ys) lt in
    let (y, within) = h (length ys) x at in
    let z = slice_get_within ys (length ys) y within in omega (arith, z)

module _ (names : Names) where
  natures_long : (us : List Numbered) → length (flat_map (unit_natures names) us) ≡ length (things_of us)
  natures_long us =
      let ns : List Nature = flat_map (unit_natures names) us in
      let long : length (settled ns) ≡ length ns = long_marked (rounds ns (length ns) []) ns in
      let one : length (things_of us) < length (settled ns) → ⊥ =
      no_shorter (settled ns) (things_of us) (λ k n at. let (g, f, there, is) = natures names us k n at in (g, there)) in
      let two : length (settled ns) < length (things_of us) → ⊥ =
      no_shorter (things_of us) (settled ns) (λ k g at. let (f, is) = things names us k g at in (_, is)) in
      omega (arith, long, one, two)

  -- ---- the nature of a type, before others are looked at

  abbrev has_finals : Numbered → ℕ → Definition → Bool
  has_finals u e d = list_any (λ (n : Name). is_given (final_rank names u.scope u.members e n)) (d.tree).finals

  in_long : (u : Numbered) (e : ℕ) (s : SpecificationTree) → length (natures_in names u.scope u.members e s) ≡ length (declared_in s)
  in_long u e (declares d) = length-map d.entities (declared_nature names u.scope d) ∙ sym (length-map d.entities (own d.attributes))
  in_long u e (accesses a) = refl
  in_long u e (protects p ns) = refl
  in_long u e (saves p) = refl
  in_long u e (defines t) = refl

  -- where it stands in the part of its unit
  record IsTypeAt (u : Numbered) (e : ℕ) (ns : List Nature) (d : Definition) : Type 0 where
    place : ℕ
    number : d.entity ≡ e + place
    nature : slice_get ns place ≡ Some (derived u.scope (components names u.scope d.tree) (has_finals u d.entity d))

  one_type : (u : Numbered) (e : ℕ) (s : SpecificationTree) (i : ℕ) (d : Definition) → slice_get (types_in u e s) i ≡ Some d
      → IsTypeAt u e (natures_in names u.scope u.members e s) d
  one_type u e (declares x) i d at = nothing at
  one_type u e (accesses a) i d at = nothing at
  one_type u e (protects p ns) i d at = nothing at
  one_type u e (saves p) i d at = nothing at
  one_type u e (defines x) zero d at =
      subst (IsTypeAt u e (natures_in names u.scope u.members e (defines x))) (same at)
      (record { place = 0; number = (let z : e ≡ e + 0 = omega arith in z); nature = refl })
  one_type u e (defines x) (suc i) d at = nothing at

  type_at : (u : Numbered) (e : ℕ) (ss : List SpecificationTree) (i : ℕ) (d : Definition) → slice_get (along_part (types_in u) e ss) i ≡ Some d
      → IsTypeAt u e (natures_from names u.scope u.members e ss) d
  type_at u e [] i d at = nothing at
  type_at u e (s ∷ ss) i d at =
      let next : ℕ = e + length (declared_in s) in
      elim (split_at (types_in u e s) (along_part (types_in u) next ss) i d at) [
        | inl a ↦
            let r = one_type u e s i d a in
            record { place = r.place; number = r.number; nature = at_front (natures_in names u.scope u.members e s) _ r.place _ r.nature }
        | inr b ↦
            let r = type_at u next ss b.0 d b.1 in
            let long = in_long u e s in
            let number : d.entity ≡ e + length (declared_in s) + r.place = r.number in record {
              place = length (natures_in names u.scope u.members e s) + r.place;
              number = omega (arith, long, number);
              nature = at_back (natures_in names u.scope u.members e s) _ r.place _ r.nature;
            }
      ]

  -- where it stands in the program
  pub type_nature : (us : List Numbered) (i : ℕ) (u : Numbered) → slice_get us i ≡ Some u → u.first ≡ before unit_things i us
      → (d : Definition) → IsAmong (definitions u) d
      → slice_get (flat_map (unit_natures names) us) d.entity ≡ Some (derived u.scope (components names u.scope d.tree) (has_finals u d.entity d))
  type_nature us i u at first d among =
      let r = type_at u u.first ((u.tree).part).specifications among.0 d among.1 in
      let long : before (unit_natures names) i us ≡ before unit_things i us = natures_long (take i us) in
      let number : d.entity ≡ u.first + r.place = r.number in
      ap (slice_get (flat_map (unit_natures names) us)) (let z : d.entity ≡ before (unit_natures names) i us + r.place = omega (arith, long, first, number) in z)
      ∙ flat_block (unit_natures names) us i u r.place _ at (at_front (natures_from names u.scope u.members u.first ((u.tree).part).specifications) _ r.place _ r.nature)

  -- so one that is not finalizable has no final subroutine
  pub no_finals : (us : List Numbered) (i : ℕ) (u : Numbered) → slice_get us i ≡ Some u → u.first ≡ before unit_things i us
      → (d : Definition) → IsAmong (definitions u) d → (ks : List (ℕ × Component)) → IsClean (flat_map (unit_natures names) us) d.entity ks
      → has_finals u d.entity d ≡ false
  no_finals us i u at first d among ks c =
      ap (flag_or false) (same (sym (type_nature us i u at first d among) ∙ c.there)) ∙ c.own
