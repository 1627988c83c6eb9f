-- An INTENT(OUT) dummy takes the value with which it begins.
use Rattle.std.proofs.Common.{◌≡◌, ◌<◌, ◌≤◌, ℕ, ◌+◌, pos, Bool, true, false, List, [], ◌∷◌, length, map, drop, reverse, refl, sym, ap, subst, ◌∙◌, arith}
use Rattle.std.proofs.lemmas.Option.{slice_get_within}
use Rattle.std.specs.Prelude.{IfSome, Option, None, Some, if◌then◌else◌, nat_lt, slice_get, slice_index_or}
use Rattle.f3_program.specs.declared.declarations.Base.{Base}
use Rattle.f3_program.specs.declared.declarations.Base.TheVariants as base
use Rattle.f3_program.specs.declared.declarations.Constant.{Constant}
use Rattle.f3_program.specs.declared.declarations.Constant.TheVariants as constant
use Rattle.f3_program.specs.declared.program.Dummy.{Dummy}
use Rattle.f3_program.specs.declared.program.Intent.TheVariants as intent
use Rattle.f3_program.specs.declared.program.Program.{Program}
use Rattle.f3_meaning_whole.specs.Store as store
use Rattle.f3_meaning_whole.specs.Reference.{Reference}
use Rattle.f3_meaning_whole.specs.Arithmetic.{constant_value}
use Rattle.f3_live_blocks.specs.Blocks.{Live, words_of}
use Rattle.f3_code.specs.declared.instruction.Instruction.TheVariants as i
use Rattle.f3_code.specs.State as s
use Rattle.f3_code.specs.State.{Code, Line}
use Rattle.f3_courses.specs.Courses.{Comes, Stand, Standing, at_line}
use Rattle.f3_room_frames.specs.Active.{Activation, Active, Object, Objects, Spot}
use Rattle.f3_room_frames.specs.Places.{scalar_in}
use Rattle.f3_room_frames.specs.States.{names_of, object_of, path_of, store_of, variables_of, types_of}
use Rattle.f3_room_frames.specs.Sound.{IsSound, is_scalar}
use Rattle.f3_rooms.specs.Forms.{total}
use Rattle.f3_room_frames.specs.Places.{located}
use Rattle.f3_room_frames.proofs.ScalarLaws.{words_are_put}
use Rattle.f3_register_code.specs.declared.act.Act.{Act}
use Rattle.f3_register_code.specs.declared.act.Act.TheVariants as act
use Rattle.f3_register_code.specs.declared.code.RegisterCode.{RegisterCode}
use Rattle.f3_register_code.specs.Words.{HasWord, HasWordAt, led, put, word}
use Rattle.f3_register_points.specs.declared.point.Entry.{Entry}
use Rattle.f3_register_points.specs.declared.point.Entry.TheVariants as entry
use Rattle.f3_register_points.specs.declared.point.Operand.{Operand}
use Rattle.f3_register_points.specs.declared.point.Operand.TheVariants as operand
use Rattle.f3_register_points.specs.declared.point.Point.{Point}
use Rattle.f3_register_points.specs.Dummies.{IsDummy, IsLocated, KeepsCalls, KeepsFrame, StandsFor, dummies_of, lowest, outline_of, reference_at}
use Rattle.f3_register_points.specs.Points.{constant_in}
use Rattle.f3_register_points.specs.Standing.{IsAtWork}
use Rattle.f3_register_points.specs.Straight.{straight}
use Rattle.f3_register_points.specs.Values.{Computes, setting}
use Rattle.f3_register_points.specs.Keeping.{IsSame}
use Rattle.f3_register_points.proofs.Dummies.{keeps_both}
use Rattle.f3_register_points.proofs.Keeping.{cells_kept, selected_kept, work_in}
use Rattle.f3_register_points.proofs.Making.{frame_word, has_computed, word_put}
use Rattle.f3_register_points.proofs.Operators.{scalar_is}
use Rattle.f3_register_points.proofs.References.{dummy_of, led_has, led_is, located_here, nothing, stands_has}
use Rattle.f3_register_points.proofs.Storing.{variables_keep_calls, variables_keep_own}
use Rattle.f3_register_points.proofs.Values.{constants_compute, known_are_fixed}
use Rattle.f3_stretch_laws.specs.Coming.{Prefixed, StandsAt}
use Rattle.f3_stretch_laws.proofs.Assigning.{has_stored}
use Rattle.f3_stretch_laws.proofs.Behind.{IsBefore, is_before}
use Rattle.f3_stretch_laws.proofs.Ground.{Went, some_is, stretch_by}
use Rattle.f3_stretch_laws.proofs.Landing.{Lands, lands_onward}
use Rattle.f3_stretch_laws.proofs.Moving.{frame_of, standing_with}
use Rattle.f3_stretch_laws.proofs.Names.{names_from}
use Rattle.f3_stretch_laws.proofs.Prefixing.{HasTop, top_of}
use Rattle.f3_stretch_laws.proofs.Setting.{begins_next, constant_single}
use Rattle.f3_begin_laws.specs.Laws.{BeginsWith, DummiesBegin, begun}

-- where a reference leads
led_to : (b : Bool) (place at : ℕ × ℕ) → (if b then Some place else None) ≡ Some at → place ≡ at
led_to true place at h = some_is place at h
led_to false place at h = absurd cc

module _ (p : Program) (code : Code) (c : RegisterCode) (q : Point) (line : ℕ) (entries : List Entry) (selected : Option Operand) (k j : ℕ)
    (pre : Prefixed p code q line (entry.Objects j ∷ entries) selected k) (d : Dummy) (is : slice_get (dummies_of p q.procedure) j ≡ Some d)
    (out : d.intent ≡ intent.Out) (scalar : is_scalar d.kind.of ≡ true) (room : q.depth < q.room) (st : Stand code line begun)
    (value : BeginsWith code (line + 1) d) where
  abbrev pub its : List Act
  its = act.Fixed q.depth (pos 0) 0 ∷ []

  abbrev pub r : ℕ
  r = reference_at p q.procedure j

  abbrev pub number : Constant
  number = constant.Number (pos 0)

  -- the act puts the word 0 into a temporary
  pub fixed : Computes p c q.procedure q.room q.depth its (operand.Word q.depth base.Integer) (i.Push number ∷ [])
  fixed = known_are_fixed p c q.procedure q.room q.depth [] number (i.Push number ∷ []) base.Integer (pos 0) (pre.formed).above room refl
      (constants_compute p c q.procedure q.room q.depth number)

  pub within : j < length (dummies_of p q.procedure)
  within = slice_get_within (dummies_of p q.procedure) j d is

  module _ (statics : ℕ) (m n : Live) (frame : ℕ) (behind : List Activation) (a : Activation) (x : Active)
      (h : StandsAt p statics q line (entry.Objects j ∷ entries) selected m frame behind a x) (made : straight c statics frame its m ≡ Some n) where
    pub before : IsBefore p statics q line (entry.Objects j ∷ entries) selected m n frame behind a x
    before = is_before c statics its m n frame behind a x pre fixed.free h made

    pub work : IsAtWork p statics q.procedure n frame behind a x
    work = (before.stands).work

    pub zero_is : word n frame q.depth ≡ pos 0
    zero_is =
        let done = has_computed c statics frame (act.Fixed q.depth (pos 0) 0) m n refl made in
        let given : pos 0 ≡ done.word = some_is (pos 0) done.word done.computes in
        ap (λ k. word k frame q.depth) done.puts
        ∙ word_put m frame q.depth done.word (frame_word p statics q.procedure q.room m frame behind a x q.depth (frame_of h) room).1 ∙ sym given

    -- ---- what the dummy is for

    abbrev pub object : Object
    object = slice_index_or a.names j nothing

    pub dummy : IsDummy p n statics (map outline_of (reverse behind)) (outline_of a) r d object
    dummy = dummy_of p statics q.procedure n frame behind a x work j d work.dummies is

    stands_for : IsLocated p statics (map outline_of (reverse behind)) object dummy.block dummy.at
    stands_for =
        subst (λ e. StandsFor p n statics (map outline_of (reverse behind)) (outline_of a) e object dummy.block dummy.at) out dummy.stands

    is_one : is_scalar object.of ≡ true
    is_one = ap is_scalar dummy.of ∙ scalar

    abbrev pub spot : Spot
    spot = record { block = dummy.block; at = dummy.at; of = object.of }

    stands_at : located p x object ≡ Some spot
    stands_at = located_here p statics q.procedure n frame behind a x work object dummy.block dummy.at stands_for is_one

    pub names : word n frame r ≡ pos dummy.block
    names = subst (λ b. word n b r ≡ pos dummy.block) work.block dummy.names

    pub places : word n frame (r + 1) ≡ pos dummy.at
    places = subst (λ b. word n b (r + 1) ≡ pos dummy.at) work.block dummy.places

    pub ready : (HasWord n frame r × HasWord n frame (r + 1) × HasWord n frame q.depth) × IfSome (led n frame r) (HasWordAt n)
    ready =
        let has = λ (slot : ℕ). frame_word p statics q.procedure q.room n frame behind a x slot (frame_of before.stands) in
        let lt = within in
        let low : lowest p q.procedure ≤ q.depth = (pre.formed).above in (
          (has r (omega arith), has (r + 1) (omega arith), has q.depth room),
          led_has n frame r dummy.block dummy.at (HasWordAt n) names places
              (stands_has p statics q.procedure n frame behind a x work d.intent object dummy.block dummy.at dummy.stands is_one),
        )

    -- ---- what it takes

    abbrev pub blocks : Live
    blocks = put n dummy.block dummy.at (pos 0)

    abbrev pub first : Constant
    first = constant_in d.kind.of (pos 0)

    sound : IsSound p blocks x
    sound = (words_are_put p n x work.sound object.root object.steps spot (pos 0) stands_at).sound

    store_now : store_of p blocks x ≡ store.put (store_of p m x) (path_of object) (constant_value first)
    store_now =
        (words_are_put p n x work.sound object.root object.steps spot (pos 0) stands_at).puts
        ∙ ap (λ y. store.put y (path_of object) (scalar_in object.of (pos 0))) before.store
        ∙ ap (λ (b : Base). store.put (store_of p m x) (path_of object) (scalar_in b (pos 0))) dummy.of
        ∙ ap (store.put (store_of p m x) (path_of object)) (scalar_is d.kind.of (pos 0) scalar)

    keeps_now : KeepsCalls p n blocks (reverse behind) a
    keeps_now = variables_keep_calls p statics q.procedure n frame behind a x work object.root object.steps spot (pos 0) stands_at

    own : KeepsFrame p n blocks a
    own = variables_keep_own p statics q.procedure n frame behind a x work object.root object.steps spot (pos 0) stands_at

    abbrev pub low : ℕ
    low = total (types_of p) (variables_of p q.procedure)

    same_words : IsSame low q.depth (words_of n frame) (words_of blocks frame)
    same_words = record {
      same = λ i le lt.
          subst (λ b. word blocks b i ≡ word n b i) work.block
          (own.words i (subst (λ g. total (types_of p) (variables_of p g) ≤ i) (sym work.procedure) le));
    }

    long : length (words_of blocks frame) ≡ length (words_of n frame)
    long = subst (λ b. length (words_of blocks b) ≡ length (words_of n b)) work.block own.long

    value_is : (l : Line) → slice_get code.lines (line + 1) ≡ Some l → l.value ≡ constant_value first
    value_is l there = value l there ∙ scalar_is d.kind.of (pos 0) scalar

    pub top : HasTop (words_of n frame) a.place (entry.Objects j) entries a.stack
    top = top_of (entry.Objects j) entries a.stack (before.stands).cells

    comes : (size : ℕ) → Comes size (setting p) code 3 (at_line (standing_with p behind a a.selected a.stack (store_of p m x)) line [])
        (at_line (standing_with p behind a a.selected (Objects (j + 1) ∷ top.rest) (store_of p blocks x)) (line + 3) [])
    comes size =
        let t : Standing = standing_with p behind a a.selected top.rest (store_of p m x) in
        let rs : List Reference = drop (j + 1) (names_of a) in
        let after = λ (v : store.Store) (pc : ℕ). at_line (standing_with p behind a a.selected (Objects (j + 1) ∷ top.rest) v) pc [] in
        let three : line + 1 + 1 + 1 ≡ line + 3 = omega arith in
        let to = after (store_of p blocks x) (line + 3) in
        let begins : Comes size (setting p) code 3 (at_line t line (s.Objects (object_of object ∷ rs) ∷ []))
        (after (store.put (store_of p m x) (path_of object) (constant_value first)) (line + 1 + 1 + 1)) =
        begins_next t (constant_value first) (constant_single first) line (object_of object) rs [] refl st value_is in
        subst (λ stack. Comes size (setting p) code 3 (at_line (standing_with p behind a a.selected stack (store_of p m x)) line []) to) (sym top.is)
        (subst (λ qs. Comes size (setting p) code 3 (at_line t line (s.Objects qs ∷ [])) to)
        (sym (names_from p statics q.procedure n frame behind a x work j within))
        (subst (λ v. Comes size (setting p) code 3 (at_line t line (s.Objects (object_of object ∷ rs) ∷ [])) (after v (line + 3))) (sym store_now)
        (subst (λ pc. Comes size (setting p) code 3 (at_line t line (s.Objects (object_of object ∷ rs) ∷ []))
        (after (store.put (store_of p m x) (path_of object) (constant_value first)) pc)) three begins)))

    pub lands : (size : ℕ) → Lands p code statics size q line (line + 3) (entry.Objects (j + 1) ∷ entries) selected 3 m blocks frame behind a x []
    lands size = record {
      chosen = a.selected;
      stack = Objects (j + 1) ∷ top.rest;
      work = work_in p statics q.procedure n blocks frame behind a x sound keeps_now work;
      room = subst (λ k. q.room ≤ k) (sym long) (before.stands).room;
      chooses = (before.stands).selects
          ∙ sym (selected_kept low q.depth (words_of n frame) (words_of blocks frame) selected same_words pre.selects);
      cells = (
        refl,
        cells_kept low q.depth (words_of n frame) (words_of blocks frame) a.place entries top.rest same_words pre.between.1 top.cells,
      );
      keeps = keeps_both p m n blocks (reverse behind) a before.keeps keeps_now;
      tells = comes size;
    }

pub dummies_begin : DummiesBegin
dummies_begin p code points c q line entries selected k j pre d is out scalar room st value next =
    let r = reference_at p q.procedure j in
    let computes = fixed p code c q line entries selected k j pre d is out scalar room st value in
    stretch_by pre (act.Fixed q.depth (pos 0) 0 ∷ []) (act.SetBy r q.depth (k + 3)) computes.free
    (λ statics m frame behind a x h. computes.safe statics m frame behind a x (frame_of h))
    (λ statics m n frame behind a x callers h made.
    ready p code c q line entries selected k j pre d is out scalar room st value statics m n frame behind a x h made)
    (λ statics size m behind a x s t h made from makes.
    let dum = dummy p code c q line entries selected k j pre d is out scalar room st value statics m s.blocks s.frame behind a x h made in
    let names_it = names p code c q line entries selected k j pre d is out scalar room st value statics m s.blocks s.frame behind a x h made in
    let places_it = places p code c q line entries selected k j pre d is out scalar room st value statics m s.blocks s.frame behind a x h made in
    let zero_there = zero_is p code c q line entries selected k j pre d is out scalar room st value statics m s.blocks s.frame behind a x h made in
    let did = has_stored c statics size (act.SetBy r q.depth (k + 3)) s t refl makes in
    let at_is = led_to (nat_lt 0 dum.block) (dum.block, dum.at) did.at
    (sym (led_is s.blocks s.frame r dum.block dum.at names_it places_it) ∙ did.placed) in
    let word_is : did.word ≡ pos 0 = sym (some_is (word s.blocks s.frame q.depth) did.word did.stores) ∙ zero_there in
    let behind_one : s.pc ≡ q.first + 1 = from in
    let there : s.pc + 1 ≡ q.first + 2 = omega arith in
    let went : Went (k + 3) s (q.first + 2) (put s.blocks dum.block dum.at (pos 0)) [] t =
    subst (λ pc. Went (k + 3) s pc (put s.blocks dum.block dum.at (pos 0)) [] t) there
    (subst (λ z. Went (k + 3) s (s.pc + 1) (put s.blocks dum.block dum.at z) [] t) word_is
    (subst (λ (g : ℕ × ℕ). Went (k + 3) s (s.pc + 1) (put s.blocks g.0 g.1 did.word) [] t) (sym at_is) did.went)) in
    lands_onward next h went
    (lands p code c q line entries selected k j pre d is out scalar room st value statics m s.blocks s.frame behind a x h made size))
    refl
