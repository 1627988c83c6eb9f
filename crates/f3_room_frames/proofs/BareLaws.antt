-- Types of which no component is initialized.
use Rattle.std.proofs.Common.{◌≡◌, ℕ, zero, suc, ◌+◌, ◌<◌, ◌≤◌, Bool, true, false, List, [], ◌∷◌, ◌++◌, length, take, get_or, add-one, refl, sym, ap, subst, ◌∙◌, arith}
use Rattle.std.specs.Prelude.{Some, slice_get, Vec, vec_len}
use Rattle.std.specs.declared.alloc.Global.{Global}
use Rattle.std.specs.Bool.{MatchBool, ◌==◌}
use Rattle.std.proofs.lemmas.Bool.Decides.{nat_tests}
use Rattle.std.proofs.lemmas.List.{take_more, take_all}
use Rattle.std.proofs.lemmas.Option.{slice_get_read}
use Rattle.f3_program.specs.declared.declarations.Base.TheVariants as base
use Rattle.f3_program.specs.declared.declarations.Component.{Component}
use Rattle.f3_program.specs.declared.declarations.Constant.{Constant}
use Rattle.f3_program.specs.declared.declarations.Derived.{Derived}
use Rattle.f3_meaning_whole.specs.Shape.{Shape, Whole, shape_in, parts_in, shapes_of}
use Rattle.f3_rooms.specs.Laws.{IsBare, AreBare}
use Rattle.f3_type_words.proofs.TableLaws.{shape_next, next_shape}
use Rattle.f3_program.specs.declared.declarations.Declared.{Declared}
use Rattle.f3_rooms.specs.Forms.{room}
use Rattle.f3_room_frames.specs.declared.layout.Variable.{Variable}
use Rattle.f3_room_frames.specs.declared.layout.Layout.{Layout}
use Rattle.f3_room_frames.specs.Bare.{TellBare}
use Rattle.f3_room_frames.specs.Initial.{HaveBareTypes}
use Rattle.f3_room_frames.specs.Layouts.{AreLaidOut, IsLayout}
use Rattle.f3_room_frames.proofs.LayoutLaws.{next_is}

abbrev pub Tells : Bool → Shape → Type 0
Tells b s = MatchBool b (IsBare s) (IsBare s → ⊥)

told_at : (ss : List Shape) (bs : List Bool) (u : ℕ) (d : Bool) → TellBare ss bs → u < length bs → Tells (get_or bs u d) (get_or ss u Whole)
told_at [] [] u d h lt = absurd (omega arith)
told_at [] (b ∷ bs) u d h lt = absurd h
told_at (s ∷ ss) [] u d h lt = absurd h
told_at (s ∷ ss) (b ∷ bs) zero d h lt = h.0
told_at (s ∷ ss) (b ∷ bs) (suc u) d h lt = told_at ss bs u d h.1 (omega arith)

past : (ss : List Shape) (bs : List Bool) (u : ℕ) → TellBare ss bs → length bs ≤ u → get_or ss u Whole ≡ Whole
past [] [] u h le = refl
past [] (b ∷ bs) u h le = absurd h
past (s ∷ ss) [] u h le = absurd h
past (s ∷ ss) (b ∷ bs) zero h le = absurd (omega arith)
past (s ∷ ss) (b ∷ bs) (suc u) h le = past ss bs u h.1 (omega arith)

pub type_told : (ts : List Shape) (bs : List Bool) (u : ℕ) (d : Bool) → TellBare ts bs → u < length bs → Tells (get_or bs u d) (shape_in ts (base.Derived u))
type_told ts bs u d h lt = told_at ts bs u d h lt

-- a type that is not there has no components
pub no_type : (ts : List Shape) (bs : List Bool) (u : ℕ) → TellBare ts bs → length bs ≤ u → IsBare (shape_in ts (base.Derived u))
no_type ts bs u h le = subst IsBare (sym (past ts bs u h le)) tt

-- one type more
told_more : (ss : List Shape) (bs : List Bool) (s : Shape) (b : Bool) → TellBare ss bs → Tells b s → TellBare (ss ++ s ∷ []) (bs ++ b ∷ [])
told_more [] [] s b h k = (k, tt)
told_more [] (c ∷ bs) s b h k = absurd h
told_more (r ∷ ss) [] s b h k = absurd h
told_more (r ∷ ss) (c ∷ bs) s b h k = (h.0, told_more ss bs s b h.1 k)

pub next_told : (xs : List Derived) (i : ℕ) (x : Derived) (cs : List Component) (bs us ds : List Bool) (b : Bool) → i < length xs → x ≡ get_or xs i x → cs ≡ x.components.items → us ≡ bs
    → TellBare (shapes_of (take i xs)) bs → ((ts : List Shape) → TellBare ts us → MatchBool b (AreBare (parts_in ts cs)) (AreBare (parts_in ts cs) → ⊥)) → ds ≡ bs ++ b ∷ []
    → TellBare (shapes_of (take (i + 1) xs)) ds
next_told xs i x cs bs us ds b lt e its same h own more =
    let ss : List Shape = shapes_of (take i xs) in
    let k : Tells b (shape_next (take i xs) x)
    = subst (λ ys. MatchBool b (AreBare (parts_in ss ys)) (AreBare (parts_in ss ys) → ⊥)) its (own ss (subst (TellBare ss) (sym same) h)) in
    subst (TellBare (shapes_of (take (i + 1) xs))) (sym more)
    (subst (λ rs. TellBare rs (bs ++ b ∷ [])) (sym (next_shape xs i x lt e)) (told_more ss bs (shape_next (take i xs) x) b h k))

-- ---- components

bare_at : (ts : List Shape) (cs : List Component) (i : ℕ) (c : Component) → slice_get cs i ≡ Some c → AreBare (parts_in ts cs) → (c.declared.initial.items ≡ []) × IsBare (shape_in ts c.declared.kind.of)
bare_at ts [] i c e h = absurd (cc)
bare_at ts (b ∷ cs) zero c e h =
    let f : b ≡ c = cc in
    (ap (λ (y : Component). y.declared.initial.items) (sym f) ∙ h.0, subst (λ (y : Component). IsBare (shape_in ts y.declared.kind.of)) f h.1)
bare_at ts (b ∷ cs) (suc i) c e h = bare_at ts cs i c e h.2

bare_more : (ts : List Shape) (cs : List Component) (c : Component) → AreBare (parts_in ts cs) → c.declared.initial.items ≡ [] → IsBare (shape_in ts c.declared.kind.of)
    → AreBare (parts_in ts (cs ++ c ∷ []))
bare_more ts [] c h e k = (e, k, tt)
bare_more ts (b ∷ cs) c h e k = (h.0, h.1, bare_more ts cs c h.2 e k)

no_items : (cs : List Constant) → length cs ≡ 0 → cs ≡ []
no_items [] e = refl
no_items (c ∷ cs) e = absurd (omega arith)

pub has_none : (b : Bool) (cs : Vec Constant Global) → b ≡ (vec_len cs == 0) → b ≡ true → cs.items ≡ []
has_none b cs e h = no_items cs.items (grind (arith, nat_tests))

pub has_some : (b : Bool) (cs : Vec Constant Global) → b ≡ (vec_len cs == 0) → b ≡ false → cs.items ≡ [] → ⊥
has_some b cs e h g = let n : length cs.items ≡ 0 = ap length g in grind (arith, nat_tests)

module _ (cs : List Component) (i : ℕ) (c : Component) (lt : i < length cs) (is : c ≡ get_or cs i c) (ts : List Shape) where
  at : slice_get cs i ≡ Some c
  at = slice_get_read cs (length cs) i c refl lt is

  pub next_bare : (b : Bool) → AreBare (parts_in ts (take i cs)) → c.declared.initial.items ≡ [] → Tells b (shape_in ts c.declared.kind.of) → b ≡ true → AreBare (parts_in ts (take (i + 1) cs))
  next_bare true h e k t = subst (λ ys. AreBare (parts_in ts ys)) (sym (take_more cs i c lt ∙ ap (λ y. take i cs ++ y ∷ []) (sym is))) (bare_more ts (take i cs) c h e k)
  next_bare false h e k t = absurd (cc)

  pub one_begun : (c.declared.initial.items ≡ [] → ⊥) → AreBare (parts_in ts cs) → ⊥
  one_begun h k = h (bare_at ts cs i c at k).0

  pub one_not : (b : Bool) → Tells b (shape_in ts c.declared.kind.of) → b ≡ false → AreBare (parts_in ts cs) → ⊥
  one_not true h e k = cc
  one_not false h e k = h (bare_at ts cs i c at k).1

-- ---- variables

-- what is declared of the variable of a number
laid_at : (ts : List Shape) (at : ℕ) (ds : List Declared) (vs : List Variable) (i : ℕ) (v : Variable) → AreLaidOut ts at ds vs → slice_get vs i ≡ Some v
    → (d : Declared) × (slice_get ds i ≡ Some d) × (v.of ≡ d.kind.of)
laid_at ts o [] [] i v h e = absurd (cc)
laid_at ts o [] (w ∷ vs) i v h e = absurd h
laid_at ts o (d ∷ ds) [] i v h e = absurd h
laid_at ts o (d ∷ ds) (w ∷ vs) zero v h e = let f : w ≡ v = cc in (d, refl, ap (λ (y : Variable). y.of) (sym f) ∙ (h.0).of)
laid_at ts o (d ∷ ds) (w ∷ vs) (suc i) v h e = laid_at ts (o + room ts d) ds vs i v h.1 e

laid_many : (ts : List Shape) (at : ℕ) (ds : List Declared) (vs : List Variable) → AreLaidOut ts at ds vs → length vs ≡ length ds
laid_many ts o [] [] h = refl
laid_many ts o [] (v ∷ vs) h = absurd h
laid_many ts o (d ∷ ds) [] h = absurd h
laid_many ts o (d ∷ ds) (v ∷ vs) h = ap suc (laid_many ts (o + room ts d) ds vs h.1)

types_more : (ts : List Shape) (ds : List Declared) (d : Declared) → HaveBareTypes ts ds → IsBare (shape_in ts d.kind.of) → HaveBareTypes ts (ds ++ d ∷ [])
types_more ts [] d h k = (k, tt)
types_more ts (c ∷ ds) d h k = (h.0, types_more ts ds d h.1 k)

types_at : (ts : List Shape) (ds : List Declared) (i : ℕ) (d : Declared) → slice_get ds i ≡ Some d → HaveBareTypes ts ds → IsBare (shape_in ts d.kind.of)
types_at ts [] i d e h = absurd (cc)
types_at ts (c ∷ ds) zero d e h = let f : c ≡ d = cc in subst (λ (y : Declared). IsBare (shape_in ts y.kind.of)) f h.0
types_at ts (c ∷ ds) (suc i) d e h = types_at ts ds i d e h.1

module _ (l : Layout) (vs : List Variable) (same : vs ≡ l.variables.items) (i : ℕ) (v : Variable) (lt : i < length vs) (is : v ≡ get_or vs i v) (ts : List Shape) (ds : List Declared) (h : IsLayout ts ds l) where
  declared : (d : Declared) × (slice_get ds i ≡ Some d) × (v.of ≡ d.kind.of)
  declared = laid_at ts 0 ds vs i v (subst (AreLaidOut ts 0 ds) (sym same) h.variables) (slice_get_read vs (length vs) i v refl lt is)

  pub next_types : (b : Bool) → HaveBareTypes ts (take i ds) → Tells b (shape_in ts v.of) → b ≡ true → HaveBareTypes ts (take (i + 1) ds)
  next_types true k t e = rw add-one (subst (HaveBareTypes ts) (sym (next_is i ds (declared.0) (declared.1)))
      (types_more ts (take i ds) declared.0 k (subst (λ b. IsBare (shape_in ts b)) declared.2 t)))
  next_types false k t e = absurd (cc)

  pub one_type_not : (b : Bool) → Tells b (shape_in ts v.of) → b ≡ false → HaveBareTypes ts ds → ⊥
  one_type_not true t e k = cc
  one_type_not false t e k = t (subst (λ b. IsBare (shape_in ts b)) (sym declared.2) (types_at ts ds i declared.0 declared.1 k))

pub all_types : (l : Layout) (vs : List Variable) (n : ℕ) (ts : List Shape) (ds : List Declared) → vs ≡ l.variables.items → length vs ≤ n → IsLayout ts ds l → HaveBareTypes ts (take n ds)
    → HaveBareTypes ts ds
all_types l vs n ts ds same few h k =
    let many : length vs ≡ length ds = laid_many ts 0 ds vs (subst (AreLaidOut ts 0 ds) (sym same) h.variables) in
    subst (HaveBareTypes ts) (take_all n ds (omega arith)) k
