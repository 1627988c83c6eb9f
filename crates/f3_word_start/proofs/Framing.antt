-- Variables that stand in blocks one after another.
use Rattle.std.proofs.Common.{◌≡◌, ℕ, zero, suc, ◌+◌, ◌<◌, ◌≤◌, ◌^◌, Bool, true, false, List, [], ◌∷◌, ◌++◌, length, map, take, get_or, refl, sym, ap, subst, ◌∙◌, arith}
use Rattle.std.specs.Prelude.{◌↔◌, Option, None, Some, All, slice_get}
use Rattle.std.proofs.lemmas.List.{map-append, take-map, take_all, take_more}
use Rattle.std.proofs.lemmas.List.Elements.{All-get_or, All-nil, All-cons}
use Rattle.f3_program.specs.declared.declarations.Declared.{Declared}
use Rattle.f3_program.specs.declared.program.Procedure.{Procedure}
use Rattle.f3_program.specs.declared.program.Static as static
use Rattle.f3_meaning_whole.specs.Shape.{Shape}
use Rattle.f3_meaning_whole.specs.Exec.{declared_in, with_result}
use Rattle.f3_cells.specs.Cells.{declared_by}
use Rattle.f3_rooms.specs.Forms.{words_for, room, total}
use Rattle.f3_room_places.specs.Starts.{starts_from}
use Rattle.f3_room_levels.specs.Initial.{AllCanBegin}
use Rattle.f3_type_words.specs.Most.{most_words}
use Rattle.f3_type_words.specs.Tables.{AreTables}
use Rattle.f3_program.specs.declared.declarations.Derived.{Derived}
use Rattle.f3_program.specs.declared.program.Program.{Program}
use Rattle.f3_meaning_whole.specs.Shape.{shapes_of}
use Rattle.f3_word_cells.specs.declared.scene.Frame.{Frame}
use Rattle.f3_word_cells.specs.Areas.{types_of}
use Rattle.f3_word_cells.specs.States.{statics_of}
use Rattle.f3_word_cells.specs.Scenes.{IsFrame}
use Rattle.f3_word_start.specs.declared.frames.Frames.{Frames}
use Rattle.f3_word_start.specs.Frames.{CanStand, Added, HaveFrames, CanBeFramed, AreFrames}

module _ (ts : List Shape) where
  total_more : (ds : List Declared) (d : Declared) → total ts (ds ++ d ∷ []) ≡ total ts ds + room ts d
  total_more [] d = omega arith
  total_more (c ∷ ds) d = let e : total ts (ds ++ d ∷ []) ≡ total ts ds + room ts d = total_more ds d in omega arith

  total_front : (n : ℕ) (ds : List Declared) → total ts (take n ds) ≤ total ts ds
  total_front zero ds = omega arith
  total_front (suc n) [] = omega arith
  total_front (suc n) (d ∷ ds) = let e : total ts (take n ds) ≤ total ts ds = total_front n ds in omega arith

  starts_more : (at : ℕ) (ds : List Declared) (d : Declared) → starts_from ts at (ds ++ d ∷ []) ≡ starts_from ts at ds ++ (at + total ts ds) ∷ []
  starts_more at [] d = let e : at ≡ at + 0 = omega arith in ap (λ n. n ∷ []) e
  starts_more at (c ∷ ds) d =
      let e : at + room ts c + total ts ds ≡ at + (room ts c + total ts ds) = omega arith in
      ap (λ ns. at ∷ ns) (starts_more (at + room ts c) ds d ∙ ap (λ n. starts_from ts (at + room ts c) ds ++ n ∷ []) e)

  can_more : (ds es : List Declared) → AllCanBegin ts ds → AllCanBegin ts es → AllCanBegin ts (ds ++ es)
  can_more [] es can more = more
  can_more (c ∷ ds) es can more = (can.0, can.1, can_more ds es can.2 more)

  can_behind : (ds es : List Declared) → AllCanBegin ts (ds ++ es) → AllCanBegin ts es
  can_behind [] es can = can
  can_behind (c ∷ ds) es can = can_behind ds es can.2

  can_front : (n : ℕ) (ds : List Declared) → AllCanBegin ts ds → AllCanBegin ts (take n ds)
  can_front zero ds can = tt
  can_front (suc n) [] can = tt
  can_front (suc n) (d ∷ ds) can = (can.0, can.1, can_front n ds can.2)

  stand_front : (n : ℕ) (ds : List Declared) → CanStand ts ds → CanStand ts (take n ds)
  stand_front n ds can = record { few = (let e = total_front n ds in let h = can.few in omega arith); begin = can_front n ds can.begin }

  -- ---- one more

  module _ (f : Frame) (d : Declared) where
    pub added : (g : Frame) (these : List Declared) → these ≡ d ∷ [] → AllCanBegin ts these → g.starts.items ≡ f.starts.items ++ f.words ∷ [] → g.words ≡ f.words + room ts d → g.words < 2 ^ 62
        → (ds : List Declared) → IsFrame ts ds f → IsFrame ts (ds ++ d ∷ []) g
    added g these is can starts words small ds h = record {
      starts = starts ∙ ap (λ ns. ns ++ f.words ∷ []) h.starts ∙ ap (λ n. starts_from ts 0 ds ++ n ∷ []) (begins h.words) ∙ sym (starts_more 0 ds d);
      words = words ∙ ap (λ n. n + room ts d) h.words ∙ sym (total_more ds d);
      small = small;
      begin = can_more ds (d ∷ []) h.begin (subst (AllCanBegin ts) is can);
    }
      where
        begins : f.words ≡ total ts ds → f.words ≡ 0 + total ts ds
        begins e = omega arith

    pub not_begin : (b : Bool) (these : List Declared) → these ≡ d ∷ [] → (b ≡ true) ↔ AllCanBegin ts these → b ≡ false
        → (ds : List Declared) → IsFrame ts ds f → CanStand ts (ds ++ d ∷ []) → ⊥
    not_begin b these is told not ds h can =
        let e : b ≡ true = told.1 (subst (AllCanBegin ts) (sym is) (can_behind ds (d ∷ []) can.begin)) in absurd (cc)

    pub no_room : 2 ^ 62 ≤ f.words + room ts d → (ds : List Declared) → IsFrame ts ds f → CanStand ts (ds ++ d ∷ []) → ⊥
    no_room much ds h can = let e = total_more ds d in let k = can.few in let w = h.words in absurd (omega arith)

    module _ (all : List Declared) (i : ℕ) (next : take (i + 1) all ≡ take i all ++ d ∷ []) (g : Frame) (b : Bool) (how : Added ts f d g b) (so : IsFrame ts (take i all) f) where
      pub one_more : b ≡ true → IsFrame ts (take (i + 1) all) g
      one_more e = subst (λ ds. IsFrame ts ds g) (sym next) (subst (Added ts f d g) e how (take i all) so)

      pub one_not : b ≡ false → CanStand ts all → ⊥
      one_not e can = subst (Added ts f d g) e how (take i all) so (subst (CanStand ts) next (stand_front (i + 1) all can))

-- ---- the next of a list

pub next_declared : (ds : List Declared) (i : ℕ) (d : Declared) → i < length ds → d ≡ get_or ds i d → take (i + 1) ds ≡ take i ds ++ d ∷ []
next_declared ds i d lt is = take_more ds i d lt ∙ ap (λ x. take i ds ++ x ∷ []) (sym is)

abbrev pub declared_of : static.Static → Declared
declared_of y = y.declared

pub next_static : (ys : List static.Static) (i : ℕ) (y : static.Static) → i < length ys → y ≡ get_or ys i y
    → take (i + 1) (map declared_of ys) ≡ take i (map declared_of ys) ++ y.declared ∷ []
next_static ys i y lt is =
    take-map declared_of (i + 1) ys ∙ ap (map declared_of) (take_more ys i y lt ∙ ap (λ z. take i ys ++ z ∷ []) (sym is))
    ∙ map-append declared_of (take i ys) (y ∷ []) ∙ ap (λ ds. ds ++ y.declared ∷ []) (sym (take-map declared_of i ys))

pub all_stand : (ts : List Shape) (ds : List Declared) (i : ℕ) (f : Frame) → length ds ≤ i → IsFrame ts (take i ds) f → IsFrame ts ds f
all_stand ts ds i f le so = subst (λ es. IsFrame ts es f) (take_all i ds le) so

-- ---- procedures

module _ (ts : List Shape) (q : Procedure) where
  pub result_stands : (d : Declared) (f g : Frame) (b : Bool) → q.result ≡ Some d → Added ts f d g b → IsFrame ts q.locals.items f → b ≡ true → IsFrame ts (declared_in q) g
  result_stands d f g b is how so e =
      subst (λ o. IsFrame ts (with_result q.locals.items o) g) (sym is) (subst (Added ts f d g) e how q.locals.items so)

  pub result_not : (d : Declared) (f g : Frame) (b : Bool) → q.result ≡ Some d → Added ts f d g b → IsFrame ts q.locals.items f → b ≡ false → CanStand ts (declared_in q) → ⊥
  result_not d f g b is how so e can =
      subst (Added ts f d g) e how q.locals.items so (subst (λ o. CanStand ts (with_result q.locals.items o)) is can)

  pub no_result : (f : Frame) → q.result ≡ None → IsFrame ts q.locals.items f → IsFrame ts (declared_in q) f
  no_result f is so = subst (λ o. IsFrame ts (with_result q.locals.items o) f) (sym is) so

  locals_can : (o : Option Declared) → CanStand ts (with_result q.locals.items o) → CanStand ts q.locals.items
  locals_can None can = can
  locals_can (Some d) can =
      record { few = (let e = total_more ts q.locals.items d in let h = can.few in omega arith); begin = front q.locals.items can.begin }
    where
      front : (ds : List Declared) → AllCanBegin ts (ds ++ d ∷ []) → AllCanBegin ts ds
      front [] can = tt
      front (c ∷ ds) can = (can.0, can.1, front ds can.2)

  pub locals_not : (CanStand ts q.locals.items → ⊥) → CanStand ts (declared_in q) → ⊥
  locals_not not can = not (locals_can q.result can)

module _ (ts : List Shape) where
  have_more : (qs : List Procedure) (fs : List Frame) (q : Procedure) (f : Frame) → HaveFrames ts qs fs → IsFrame ts (declared_in q) f → HaveFrames ts (qs ++ q ∷ []) (fs ++ f ∷ [])
  have_more [] [] q f have so = (so, tt)
  have_more [] (g ∷ fs) q f have so = absurd have
  have_more (r ∷ qs) [] q f have so = absurd have
  have_more (r ∷ qs) (g ∷ fs) q f have so = (have.0, have_more qs fs q f have.1 so)

  pub next_procedure : (qs : List Procedure) (i : ℕ) (q : Procedure) (fs gs : List Frame) (f : Frame) → i < length qs → q ≡ get_or qs i q → HaveFrames ts (take i qs) fs
      → IsFrame ts (declared_in q) f → gs ≡ fs ++ f ∷ [] → HaveFrames ts (take (i + 1) qs) gs
  next_procedure qs i q fs gs f lt is have so made =
      subst (HaveFrames ts (take (i + 1) qs)) (sym made)
      (subst (λ rs. HaveFrames ts rs (fs ++ f ∷ [])) (sym (take_more qs i q lt ∙ ap (λ r. take i qs ++ r ∷ []) (sym is))) (have_more (take i qs) fs q f have so))

  pub all_have : (qs : List Procedure) (i : ℕ) (fs : List Frame) → length qs ≤ i → HaveFrames ts (take i qs) fs → HaveFrames ts qs fs
  all_have qs i fs le have = subst (λ rs. HaveFrames ts rs fs) (take_all i qs le) have

  pub not_all : (qs : List Procedure) (i : ℕ) (q : Procedure) → i < length qs → q ≡ get_or qs i q → (CanStand ts (declared_in q) → ⊥)
      → All (λ (r : Procedure). CanStand ts (declared_in r)) qs → ⊥
  not_all qs i q lt is not can =
      not (subst (λ (r : Procedure). CanStand ts (declared_in r)) (sym is) (All-get_or (λ (r : Procedure). CanStand ts (declared_in r)) qs i q lt can))

  pub frames_many : (qs : List Procedure) (fs : List Frame) → HaveFrames ts qs fs → length fs ≡ length qs
  frames_many [] [] have = refl
  frames_many [] (f ∷ fs) have = absurd have
  frames_many (q ∷ qs) [] have = absurd have
  frames_many (q ∷ qs) (f ∷ fs) have = ap suc (frames_many qs fs have.1)

  pub frame_at : (qs : List Procedure) (fs : List Frame) → HaveFrames ts qs fs → (k : ℕ) (f : Frame) → slice_get fs k ≡ Some f → IsFrame ts (declared_by (slice_get qs k)) f
  frame_at [] [] have k f e = absurd (cc)
  frame_at [] (g ∷ fs) have k f e = absurd have
  frame_at (q ∷ qs) [] have k f e = absurd have
  frame_at (q ∷ qs) (g ∷ fs) have zero f e = let same : g ≡ f = cc in subst (IsFrame ts (declared_in q)) same have.0
  frame_at (q ∷ qs) (g ∷ fs) have (suc k) f e = frame_at qs fs have.1 k f e

-- ---- programs

stands : (ts : List Shape) (ds : List Declared) (f : Frame) → IsFrame ts ds f → CanStand ts ds
stands ts ds f so = record { few = (let w = so.words in let h = so.small in omega arith); begin = so.begin }

all_can : (ts : List Shape) (qs : List Procedure) (fs : List Frame) → HaveFrames ts qs fs → All (λ (r : Procedure). CanStand ts (declared_in r)) qs
all_can ts [] [] have = All-nil (λ (r : Procedure). CanStand ts (declared_in r))
all_can ts [] (f ∷ fs) have = absurd have
all_can ts (q ∷ qs) [] have = absurd have
all_can ts (q ∷ qs) (f ∷ fs) have = All-cons (λ (r : Procedure). CanStand ts (declared_in r)) q qs (stands ts (declared_in q) f have.0) (all_can ts qs fs have.1)

pub framed : (p : Program) (f : Frames) (ds es : List Derived) (ys : List static.Static) (qs : List Procedure) → ds ≡ p.types.items → es ≡ p.types.items → ys ≡ p.statics.items
    → qs ≡ p.procedures.items → AreTables (shapes_of ds) f.tables.items → All (λ s. words_for s ≤ most_words) (shapes_of ds) → IsFrame (shapes_of es) (map declared_of ys) f.statics
    → IsFrame (shapes_of es) (declared_in p.main) f.main → HaveFrames (shapes_of es) qs f.procedures.items → AreFrames p f × CanBeFramed p
framed p f ds es ys qs types again statics procedures tables small statics_so main_so have =
    let statics_stand : IsFrame (types_of p) (statics_of p) f.statics =
    subst (λ zs. IsFrame (types_of p) (map declared_of zs) f.statics) statics (subst (λ (xs : List Derived). IsFrame (shapes_of xs) (map declared_of ys) f.statics) again statics_so) in
    let main_stands : IsFrame (types_of p) (declared_in p.main) f.main = subst (λ (xs : List Derived). IsFrame (shapes_of xs) (declared_in p.main) f.main) again main_so in
    let all_stand : HaveFrames (types_of p) p.procedures.items f.procedures.items =
    subst (λ rs. HaveFrames (types_of p) rs f.procedures.items) procedures (subst (λ (xs : List Derived). HaveFrames (shapes_of xs) qs f.procedures.items) again have) in (
      record {
        tables = subst (λ (xs : List Derived). AreTables (shapes_of xs) f.tables.items) types tables;
        statics = statics_stand;
        main = main_stands;
        procedures = all_stand;
      },
      record {
        types = subst (λ (xs : List Derived). All (λ s. words_for s ≤ most_words) (shapes_of xs)) types small;
        statics = stands (types_of p) (statics_of p) f.statics statics_stand;
        main = stands (types_of p) (declared_in p.main) f.main main_stands;
        procedures = all_can (types_of p) p.procedures.items f.procedures.items all_stand;
      },
    )
