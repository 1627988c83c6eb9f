-- Types of whose objects nothing is allocatable.
use Rattle.std.proofs.Common.{◌≡◌, ℕ, zero, suc, ◌+◌, ◌<◌, ◌≤◌, Bool, true, false, List, [], ◌∷◌, ◌++◌, length, take, map, get_or, refl, sym, ap, subst, ◌∙◌, arith}
use Rattle.std.specs.Prelude.{not, ◌&&◌, Some, slice_get}
use Rattle.std.proofs.lemmas.Bool.{and_from, and_left, and_parts, and_right}
use Rattle.std.proofs.lemmas.Option.{slice_get_read}
use Rattle.std.proofs.lemmas.List.{take_more, take_all}
use Rattle.f3_program.specs.declared.declarations.Base.TheVariants as base
use Rattle.f3_program.specs.declared.declarations.Component.{Component}
use Rattle.f3_program.specs.declared.declarations.Derived.{Derived}
use Rattle.f3_meaning_whole.specs.Shape.{Shape, Whole, shape_in, parts_in, shapes_of}
use Rattle.f3_rooms.specs.Flat.{is_flat, are_flat}
use Rattle.f3_type_words.proofs.TableLaws.{shape_next, next_shape}
use Rattle.f3_room_frames.specs.FlatTypes.{TellFlat}

flat_at : (ss : List Shape) (u : ℕ) (d : Bool) → u < length (map is_flat ss) → get_or (map is_flat ss) u d ≡ is_flat (get_or ss u Whole)
flat_at [] u d lt = absurd (omega arith)
flat_at (s ∷ ss) zero d lt = refl
flat_at (s ∷ ss) (suc u) d lt = flat_at ss u d (omega arith)

past : (ss : List Shape) (u : ℕ) → length (map is_flat ss) ≤ u → get_or ss u Whole ≡ Whole
past [] u le = refl
past (s ∷ ss) zero le = absurd (omega arith)
past (s ∷ ss) (suc u) le = past ss u (omega arith)

pub type_flat : (ts : List Shape) (bs : List Bool) (u : ℕ) (d : Bool) → TellFlat ts bs → u < length bs → get_or bs u d ≡ is_flat (shape_in ts (base.Derived u))
type_flat ts bs u d h lt = ap (λ cs. get_or cs u d) h.told ∙ flat_at ts u d (subst (λ cs. u < length cs) h.told lt)

-- a type that is not there has no components
pub no_type : (ts : List Shape) (bs : List Bool) (u : ℕ) → TellFlat ts bs → length bs ≤ u → true ≡ is_flat (shape_in ts (base.Derived u))
no_type ts bs u h le = ap is_flat (sym (past ts u (subst (λ cs. length cs ≤ u) h.told le)))

-- one type more
map_more : (ss : List Shape) (s : Shape) → map is_flat (ss ++ s ∷ []) ≡ map is_flat ss ++ is_flat s ∷ []
map_more [] s = refl
map_more (r ∷ ss) s = ap (λ bs. is_flat r ∷ bs) (map_more ss s)

pub next_flat : (xs : List Derived) (i : ℕ) (x : Derived) (cs : List Component) (bs us ds : List Bool) (b : Bool) → i < length xs → x ≡ get_or xs i x → cs ≡ x.components.items → us ≡ bs
    → TellFlat (shapes_of (take i xs)) bs → ((ts : List Shape) → TellFlat ts us → b ≡ are_flat (parts_in ts cs)) → ds ≡ bs ++ b ∷ []
    → TellFlat (shapes_of (take (i + 1) xs)) ds
next_flat xs i x cs bs us ds b lt e its same h own more =
    let ss : List Shape = shapes_of (take i xs) in
    let k : b ≡ is_flat (shape_next (take i xs) x) = own ss (subst (TellFlat ss) (sym same) h) ∙ ap (λ ys. are_flat (parts_in ss ys)) its in
    record {
      told = more ∙ ap (λ c. bs ++ c ∷ []) k ∙ ap (λ cs. cs ++ is_flat (shape_next (take i xs) x) ∷ []) h.told
          ∙ sym (map_more ss (shape_next (take i xs) x)) ∙ ap (map is_flat) (sym (next_shape xs i x lt e));
    }

-- ---- components

flat_more : (ts : List Shape) (cs : List Component) (c : Component) → are_flat (parts_in ts cs) ≡ true → c.declared.kind.is_allocatable ≡ false
    → is_flat (shape_in ts c.declared.kind.of) ≡ true → are_flat (parts_in ts (cs ++ c ∷ [])) ≡ true
flat_more ts [] c h e k = and_from (not c.declared.kind.is_allocatable) (is_flat (shape_in ts c.declared.kind.of) && true) (ap not e)
    (and_from (is_flat (shape_in ts c.declared.kind.of)) true k refl)
flat_more ts (b ∷ cs) c h e k =
    let s : Bool = is_flat (shape_in ts b.declared.kind.of) in
    let first = and_parts (not b.declared.kind.is_allocatable) (s && are_flat (parts_in ts cs)) h in
    let rest = and_parts s (are_flat (parts_in ts cs)) first.1 in
    and_from (not b.declared.kind.is_allocatable) (s && are_flat (parts_in ts (cs ++ c ∷ []))) first.0
    (and_from s (are_flat (parts_in ts (cs ++ c ∷ []))) rest.0 (flat_more ts cs c rest.1 e k))

-- one of them that is allocatable, or of a type with such a component
held_at : (ts : List Shape) (cs : List Component) (i : ℕ) (c : Component) → slice_get cs i ≡ Some c → c.declared.kind.is_allocatable ≡ true → are_flat (parts_in ts cs) ≡ false
held_at ts [] i c e h = absurd (cc)
held_at ts (b ∷ cs) zero c e h =
    let f : b ≡ c = cc in
    and_left (not b.declared.kind.is_allocatable) (is_flat (shape_in ts b.declared.kind.of) && are_flat (parts_in ts cs))
    (ap (λ (y : Component). not y.declared.kind.is_allocatable) f ∙ ap not h)
held_at ts (b ∷ cs) (suc i) c e h =
    and_right (not b.declared.kind.is_allocatable) (is_flat (shape_in ts b.declared.kind.of) && are_flat (parts_in ts cs))
    (and_right (is_flat (shape_in ts b.declared.kind.of)) (are_flat (parts_in ts cs)) (held_at ts cs i c e h))

typed_at : (ts : List Shape) (cs : List Component) (i : ℕ) (c : Component) → slice_get cs i ≡ Some c → is_flat (shape_in ts c.declared.kind.of) ≡ false
    → are_flat (parts_in ts cs) ≡ false
typed_at ts [] i c e h = absurd (cc)
typed_at ts (b ∷ cs) zero c e h =
    let f : b ≡ c = cc in
    and_right (not b.declared.kind.is_allocatable) (is_flat (shape_in ts b.declared.kind.of) && are_flat (parts_in ts cs))
    (and_left (is_flat (shape_in ts b.declared.kind.of)) (are_flat (parts_in ts cs)) (ap (λ (y : Component). is_flat (shape_in ts y.declared.kind.of)) f ∙ h))
typed_at ts (b ∷ cs) (suc i) c e h =
    and_right (not b.declared.kind.is_allocatable) (is_flat (shape_in ts b.declared.kind.of) && are_flat (parts_in ts cs))
    (and_right (is_flat (shape_in ts b.declared.kind.of)) (are_flat (parts_in ts cs)) (typed_at ts cs i c e h))

module _ (cs : List Component) (i : ℕ) (c : Component) (lt : i < length cs) (is : c ≡ get_or cs i c) (ts : List Shape) where
  at : slice_get cs i ≡ Some c
  at = slice_get_read cs (length cs) i c refl lt is

  pub next_parts : (b : Bool) → are_flat (parts_in ts (take i cs)) ≡ true → c.declared.kind.is_allocatable ≡ false → b ≡ is_flat (shape_in ts c.declared.kind.of) → b ≡ true
      → are_flat (parts_in ts (take (i + 1) cs)) ≡ true
  next_parts b h e k t = subst (λ ys. are_flat (parts_in ts ys) ≡ true) (sym (take_more cs i c lt ∙ ap (λ y. take i cs ++ y ∷ []) (sym is)))
      (flat_more ts (take i cs) c h e (sym k ∙ t))

  pub one_held : c.declared.kind.is_allocatable ≡ true → false ≡ are_flat (parts_in ts cs)
  one_held h = sym (held_at ts cs i c at h)

  pub one_typed : (b : Bool) → b ≡ is_flat (shape_in ts c.declared.kind.of) → b ≡ false → false ≡ are_flat (parts_in ts cs)
  one_typed b k f = sym (typed_at ts cs i c at (sym k ∙ f))

pub all_parts : (cs : List Component) (n : ℕ) (ts : List Shape) → length cs ≤ n → are_flat (parts_in ts (take n cs)) ≡ true → true ≡ are_flat (parts_in ts cs)
all_parts cs n ts few h = sym (subst (λ ys. are_flat (parts_in ts ys) ≡ true) (take_all n cs few) h)
