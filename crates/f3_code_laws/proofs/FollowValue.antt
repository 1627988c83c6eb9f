-- The code of expressions and designators follows them.
use Rattle.std.proofs.Common.{◌≡◌, ℕ, suc, ◌+◌, ℤ, pos, Bool, true, false, List, [], ◌∷◌, ◌++◌, length, Option, None, Some, refl, sym, ap, ◌∙◌, subst, arith, append-nil, length-append, if◌then◌else◌}
use Rattle.std.specs.Prelude.{slice_get, slice_index_or}
use Rattle.f3_places.specs.declared.source.Place.{Place}
use Rattle.f3_program.specs.declared.declarations.Base.TheVariants as base
use Rattle.f3_program.specs.declared.expression.Argument as a
use Rattle.f3_program.specs.declared.expression.Designator as d
use Rattle.f3_program.specs.declared.expression.Expression as e
use Rattle.f3_program.specs.declared.expression.Selection as l
use Rattle.f3_program.specs.declared.expression.Subscript as u
use Rattle.f3_meaning_whole.specs.Value.{Value, Number, Composite, Array, joined, number_of, count}
use Rattle.f3_meaning_whole.specs.Reference.{Selected, Reach, One, Many, Reference}
use Rattle.f3_meaning_whole.specs.Ran.{World, Ran, ◌>>=◌, gives}
use Rattle.f3_meaning_whole.specs.Arithmetic.{apply, change_of, converted}
use Rattle.f3_meaning_whole.specs.Shape.{Whole}
use Rattle.f3_meaning_whole.specs.Act.{Setting, Here, Passed, Calls, claim_for, named, component, component_of, contents, read, picks_in_each, structure, components_of, given}
use Rattle.f3_meaning_whole.specs.Eval.{result, spans_of_component, asked, built, by_reach, value, bounds, argument, arguments, locate, select, select_in_each, chosen, subscript}
use Rattle.f3_code.specs.declared.instruction.Instruction.TheVariants as i
use Rattle.f3_code.specs.State.{Line, line, placed, Code, Cell, Datum, Object, Argument, Choice, Bound, Bounds, Frame, State, Next}
use Rattle.f3_code.specs.Machine.{on_some, on_many, argument_of, choice_of, called, selects, performs, act, does_line, step}
use Rattle.f3_code.specs.Code.{argument_count, subscript_count, value_code, bounds_code, argument_code, arguments_code, locate_code, select_code, select_of_code, chosen_code, subscript_code}
use Rattle.f3_code_laws.proofs.Places.{HasAt, has_front, has_back}
use Rattle.f3_code_laws.proofs.Reaching.{AllGive, give_all, gives_as, give_any, Reaches, stays, one_step, does_it, then_where, then_on, as_well, Ends, bind_ends, looks_end}
use Rattle.f3_code_laws.proofs.Ending.{converted_ends, apply_ends, change_ends, claim_for_ends, built_ends, read_ends, result_ends, asked_ends, structure_ends, named_ends, component_ends, contents_end, selects_end, in_each_ends, reach_ends}

-- a state by its parts
abbrev pub state : ℕ → List Cell → Here → List Frame → World → State
state pc stack here frames w = record { pc = pc; stack = stack; here = here; frames = frames; world = w }

-- ---- several cells

-- cells of one kind pushed one after another
abbrev pub onto : {X : Type 0} → (X → Cell) → List X → List Cell → List Cell
onto cell [] stack = stack
onto cell (x ∷ xs) stack = onto cell xs (cell x ∷ stack)

taken : {X : Type 0} (of : Cell → Option X) (cell : X → Cell) → ((x : X) → of (cell x) ≡ Some x) →
    (xs acc : List X) (stack : List Cell) (m : ℕ) (f : List X → List Cell → Next) →
    on_many of (length xs + m) acc (onto cell xs stack) f ≡ on_many of m (xs ++ acc) stack f
taken of cell is [] acc stack m f = ap (λ k. on_many of k acc stack f) (let e : 0 + m ≡ m = omega arith in e)
taken of cell is (x ∷ xs) acc stack m f =
    let e : suc (length xs) + m ≡ length xs + suc m = omega arith in
    ap (λ k. on_many of k acc (onto cell xs (cell x ∷ stack)) f) e ∙ taken of cell is xs acc (cell x ∷ stack) (suc m) f ∙
    ap (λ o. on_some o (λ x. on_many of m (x ∷ (xs ++ acc)) stack f)) (is x)

-- what was pushed is taken
pub popped : {X : Type 0} (of : Cell → Option X) (cell : X → Cell) → ((x : X) → of (cell x) ≡ Some x) →
    (xs : List X) (stack : List Cell) (k : ℕ) (f : List X → List Cell → Next) → length xs ≡ k → on_many of k [] (onto cell xs stack) f ≡ f xs stack
popped of cell is xs stack k f n =
    let e : k ≡ length xs + 0 = omega (arith, n) in
    ap (λ k. on_many of k [] (onto cell xs stack) f) e ∙ taken of cell is xs [] stack 0 f ∙ ap (λ l. f l stack) (append-nil xs)

-- ---- counts

pub arguments_count : (g : Setting) (calls : Calls) {m : _} (xs : e.Row_of-Argument m) (here : Here) →
    AllGive (λ ps. length ps ≡ argument_count xs) (arguments g calls xs here)
arguments_count g calls e.end_of-Argument here = gives_as _ [] refl
arguments_count g calls (e.more_of-Argument x rest) here =
    give_all (λ p. Unit {0}) _ (give_any (argument g calls x here))
    (λ p t. give_all (λ ps. length ps ≡ argument_count rest) _ (arguments_count g calls rest here) (λ ps n. gives_as _ (p ∷ ps) (ap suc n)))

pub chosen_count : (g : Setting) (calls : Calls) {m : _} (xs : l.Row_of-Subscript m) (here : Here) →
    AllGive (λ cs. length cs ≡ subscript_count xs) (chosen g calls xs here)
chosen_count g calls l.end_of-Subscript here = gives_as _ [] refl
chosen_count g calls (l.more_of-Subscript x rest) here =
    give_all (λ p. Unit {0}) _ (give_any (subscript g calls x here))
    (λ p t. give_all (λ cs. length cs ≡ subscript_count rest) _ (chosen_count g calls rest here) (λ ps n. gives_as _ (p ∷ ps) (ap suc n)))

pub reach_bind : {A B : Type 0} (reach : Reach) (m : Ran A) (f h : A → Ran B) → (m >>= λ x. by_reach reach (f x) (h x)) ≡ by_reach reach (m >>= f) (m >>= h)
reach_bind One m f h = refl
reach_bind (Many ss ps) m f h = refl

abbrev limit_code : Bool → List Line → Option Place → List Line
limit_code b cx o = if b then cx ++ line o i.Limit ∷ [] else line o i.NoLimit ∷ []

abbrev limit_of : Bool → Ran Value → Ran (Option ℤ)
limit_of b m = if b then (m >>= λ v. gives (Some (number_of v))) else gives None

-- ---- calls

-- how a call is made where it stands
pub record CallsFollow (limit : ℕ) (g : Setting) (code : Code) (n : ℕ) (calls : Calls) (frames : List Frame) : Type 0 where
  pub by : (f : ℕ) (there : Here) (ps : List Passed) (pc : ℕ) (stack : List Cell) (here : Here) (w : World) →
      step limit g code (state pc (onto Argument ps stack) here frames w) ≡ called limit code f (length ps) there
      (state pc (onto Argument ps stack) here frames w) → Reaches limit g code n (state pc (onto Argument ps stack) here frames w) (calls there f ps) w
      (λ v w. state (pc + 1) (Datum v ∷ stack) here frames w)

module _ (limit : ℕ) (g : Setting) (code : Code) (n : ℕ) (frames : List Frame) where
  pub is_at : (pc : ℕ) (stack : List Cell) (here : Here) (w : World) (l : Line) → slice_get code.lines pc ≡ Some l →
      step limit g code (state pc stack here frames w) ≡ act limit g code l.act l.value (placed l.place here) (state pc stack here frames w)
  is_at pc stack here w l h = ap (λ o. does_line limit g code o (state pc stack here frames w)) h

  -- the place at the end, under another name
  pub ending : {A : Type 0} {m : ℕ} {s : State} {r : Ran A} {w : World} (pc pc' : ℕ) (stack : A → List Cell) (here : Here) → pc ≡ pc' →
      Reaches limit g code m s r w (λ x w. state pc (stack x) here frames w) → Reaches limit g code m s r w (λ x w. state pc' (stack x) here frames w)
  ending {m = m} {s = s} {r = r} {w = w} pc pc' stack here e h = subst (λ p. Reaches limit g code m s r w (λ x w. state p (stack x) here frames w)) e h

  -- the place at the start, under another name
  pub starting : {A : Type 0} {r : Ran A} {next : A → World → State} (m pc pc' : ℕ) (stack : List Cell) (here : Here) (w : World) → pc ≡ pc' →
      Reaches limit g code m (state pc' stack here frames w) r w next → Reaches limit g code m (state pc stack here frames w) r w next
  starting {r = r} {next = next} m pc pc' stack here w e h = subst (λ p. Reaches limit g code m (state p stack here frames w) r w next) (sym e) h

  pub reach_case : {A : Type 0} (reach : Reach) {s : State} {x y : Ran A} {w : World} {next : A → World → State} → Reaches limit g code n s x w next →
      Reaches limit g code n s y w next → Reaches limit g code n s (by_reach reach x y) w next
  reach_case One h k = h
  reach_case (Many ss ps) h k = k

  -- one line that does what a part of a run does
  pub at_line : {A : Type 0} {next : A → World → State} (r : Ran A) (pc : ℕ) (stack : List Cell) (here : Here) (w : World) (l : Line) → Ends r →
      slice_get code.lines pc ≡ Some l → act limit g code l.act l.value (placed l.place here) (state pc stack here frames w) ≡ performs r w next →
      Reaches limit g code n (state pc stack here frames w) r w next
  at_line {next = next} r pc stack here w l ends h e = does_it limit g code n r w next ends (is_at pc stack here w l h ∙ e)

  -- code behind code
  pub then_where_code : {A B : Type 0} {m : Ran A} {k : A → Ran B} {s : State} {w : World} {mid : A → List Cell} {last : B → List Cell} {here there : Here}
      (P : A → Type 0) → AllGive P m → (cx cy : List Line) (pc : ℕ) → HasAt code.lines pc (cx ++ cy) →
      (HasAt code.lines pc cx → Reaches limit g code n s m w (λ x w. state (pc + length cx) (mid x) here frames w)) →
      ((x : A) (w : World) → P x → HasAt code.lines (pc + length cx) cy →
      Reaches limit g code n (state (pc + length cx) (mid x) here frames w) (k x) w (λ y w. state (pc + length cx + length cy) (last y) there frames w)) →
      Reaches limit g code n s (m >>= k) w (λ y w. state (pc + length (cx ++ cy)) (last y) there frames w)
  then_where_code {last = last} {there = there} P all cx cy pc has first rest =
      let len : pc + length cx + length cy ≡ pc + length (cx ++ cy) = omega (arith, length-append cx cy) in
      ending (pc + length cx + length cy) (pc + length (cx ++ cy)) last there len
      (then_where limit g code P all (first (has_front code.lines pc cx cy has)) (λ x w p. rest x w p (has_back code.lines pc cx cy has)))

  pub then_code : {A B : Type 0} {m : Ran A} {k : A → Ran B} {s : State} {w : World} {mid : A → List Cell} {last : B → List Cell} {here there : Here}
      (cx cy : List Line) (pc : ℕ) → HasAt code.lines pc (cx ++ cy) →
      (HasAt code.lines pc cx → Reaches limit g code n s m w (λ x w. state (pc + length cx) (mid x) here frames w)) →
      ((x : A) (w : World) → HasAt code.lines (pc + length cx) cy →
      Reaches limit g code n (state (pc + length cx) (mid x) here frames w) (k x) w (λ y w. state (pc + length cx + length cy) (last y) there frames w)) →
      Reaches limit g code n s (m >>= k) w (λ y w. state (pc + length (cx ++ cy)) (last y) there frames w)
  then_code {m = m} cx cy pc has first rest = then_where_code (λ x. Unit {0}) (give_any m) cx cy pc has first (λ x w p h. rest x w h)

  -- no code
  pub no_code : {A : Type 0} (x : A) (pc : ℕ) (last : A → List Cell) (here : Here) (w : World) →
      Reaches limit g code n (state pc (last x) here frames w) (gives x) w (λ x w. state (pc + 0) (last x) here frames w)
  no_code x pc last here w = let len : pc ≡ pc + 0 = omega arith in ending pc (pc + 0) last here len (stays limit g code n x w _)

  -- a bound of a triplet
  limit_follows : (b : Bool) (m : Ran Value) (cx : List Line) (o : Option Place) (pc : ℕ) (stack : List Cell) (here : Here) (w : World) →
      (HasAt code.lines pc cx → Reaches limit g code n (state pc stack here frames w) m w (λ v w. state (pc + length cx) (Datum v ∷ stack) here frames w)) →
      HasAt code.lines pc (limit_code b cx o) → Reaches limit g code n (state pc stack here frames w) (limit_of b m) w
      (λ z w. state (pc + length (limit_code b cx o)) (Bound z ∷ stack) here frames w)
  limit_follows true m cx o pc stack here w follows has =
      then_code cx (line o i.Limit ∷ []) pc has follows (λ v w h. one_step limit g code n _ w _ (is_at _ _ here w (line o i.Limit) h.0))
  limit_follows false m cx o pc stack here w follows has = one_step limit g code n _ w _ (is_at pc stack here w (line o i.NoLimit) has.0)

  module _ (calls : Calls) (follow : CallsFollow limit g code n calls frames) where
    mutual
      pub value_follows : (x : e.Expression) (o : Option Place) (pc : ℕ) (stack : List Cell) (here : Here) (w : World) →
          HasAt code.lines pc (value_code o x) → Reaches limit g code n (state pc stack here frames w) (value g calls x (placed o here)) w
          (λ v w. state (pc + length (value_code o x)) (Datum v ∷ stack) here frames w)
      value_follows (e.Literal c) o pc stack here w has =
          one_step limit g code n _ w _ (is_at pc stack here w (line o (i.Push c)) has.0)
      value_follows (e.Variable' p x) o pc stack here w has =
          then_code (locate_code o x) (line o i.Load ∷ []) pc has (locate_follows x o pc stack here w)
          (λ r w h. at_line (read r (placed o here)) _ _ here w (line o i.Load) (read_ends r (placed o here)) h.0 refl)
      value_follows (e.Group' p x) o pc stack here w has =
          then_code (value_code o x) (line o i.Plain ∷ []) pc has (value_follows x o pc stack here w)
          (λ v w h. one_step limit g code n _ w _ (is_at _ _ here w (line o i.Plain) h.0))
      value_follows (e.Unary' c t p x) o pc stack here w has =
          then_code (value_code o x) (line o (i.Unary c t) ∷ []) pc has (value_follows x o pc stack here w)
          (λ v w h. at_line (change_of c t v (placed o here).place) _ _ here w (line o (i.Unary c t)) (change_ends c t v _) h.0 refl)
      value_follows (e.Binary' c t p x q y) o pc stack here w has =
          then_code (value_code o x) (value_code o y ++ line o (i.Binary c t) ∷ []) pc has (value_follows x o pc stack here w) (λ v w h.
          then_code (value_code o y) (line o (i.Binary c t) ∷ []) _ h (value_follows y o _ (Datum v ∷ stack) here w)
          (λ z w h. at_line (apply c t v z (placed o here).place) _ _ here w (line o (i.Binary c t)) (apply_ends c t v z _) h.0 refl))
      value_follows (e.Array' k xs) o pc stack here w has =
          let array_of : List Passed → Value = λ ps. Array (record { lower = pos 1; extent = length (given ps) } ∷ []) (joined (given ps)) in
          then_where_code (λ ps. length ps ≡ argument_count xs) (arguments_count g calls xs (placed o here)) (arguments_code o xs)
          (line o (i.Array (argument_count xs)) ∷ []) pc has (arguments_follow xs o pc stack here w)
          (λ ps w e h. at_line (built (array_of ps) (placed o here)) _ _ here w (line o (i.Array (argument_count xs)))
          (built_ends (array_of ps) (placed o here)) h.0 (popped argument_of Argument (λ p. refl) ps stack (argument_count xs) _ e))
      value_follows (e.Structure' t k xs) o pc stack here w has =
          then_where_code (λ ps. length ps ≡ argument_count xs) (arguments_count g calls xs (placed o here)) (arguments_code o xs)
          (line o (i.Structure t (argument_count xs)) ∷ []) pc has (arguments_follow xs o pc stack here w) (λ ps w e h.
          at_line (structure (components_of (slice_index_or g.shapes t Whole)) 0 ps (placed o here) >>= λ vs. built (Composite vs) (placed o here)) _ _ here w
          (line o (i.Structure t (argument_count xs)))
          (bind_ends (structure_ends _ 0 ps (placed o here)) (λ vs. built_ends (Composite vs) (placed o here))) h.0
          (popped argument_of Argument (λ p. refl) ps stack (argument_count xs) _ e))
      value_follows (e.Call' f k xs) o pc stack here w has =
          then_where_code (λ ps. length ps ≡ argument_count xs) (arguments_count g calls xs (placed o here)) (arguments_code o xs)
          (line o (i.Call f (argument_count xs)) ∷ line o i.Result ∷ []) pc has (arguments_follow xs o pc stack here w) (λ ps w e h.
          then_code (line o (i.Call f (argument_count xs)) ∷ []) (line o i.Result ∷ []) _ h
          (λ h. follow.by f (placed o here) ps _ stack here w (is_at _ _ here w (line o (i.Call f (argument_count xs))) h.0 ∙
          ap (λ k. called limit code f k (placed o here) (state (pc + length (arguments_code o xs)) (onto Argument ps stack) here frames w)) (sym e)))
          (λ v w h. at_line (result v (placed o here)) _ _ here w (line o i.Result) (result_ends v (placed o here)) h.0 refl))
      value_follows (e.Allocated' p x) o pc stack here w has =
          then_code (locate_code o x) (line o i.IsAllocated ∷ []) pc has (locate_follows x o pc stack here w)
          (λ r w h. at_line _ _ _ here w (line o i.IsAllocated) (looks_end _) h.0 refl)
      value_follows (e.Size' p x) o pc stack here w has =
          then_code (bounds_code o x) (line o i.Size ∷ []) pc has (bounds_follow x o pc stack here w)
          (λ ss w h. at_line (converted base.Integer (Number (pos (count ss))) (placed o here).place) _ _ here w (line o i.Size) (converted_ends _ _ _)
          h.0 refl)
      value_follows (e.Bound' q p x r y) o pc stack here w has =
          then_code (bounds_code o x) (value_code o y ++ line o (i.Bound q) ∷ []) pc has (bounds_follow x o pc stack here w) (λ ss w h.
          then_code (value_code o y) (line o (i.Bound q) ∷ []) _ h (value_follows y o _ (Bounds ss ∷ stack) here w)
          (λ v w h. at_line (asked q ss (number_of v) (placed o here)) _ _ here w (line o (i.Bound q)) (asked_ends q ss _ (placed o here)) h.0 refl))

      pub bounds_follow : (x : a.Argument) (o : Option Place) (pc : ℕ) (stack : List Cell) (here : Here) (w : World) →
          HasAt code.lines pc (bounds_code o x) → Reaches limit g code n (state pc stack here frames w) (bounds g calls x (placed o here)) w
          (λ ss w. state (pc + length (bounds_code o x)) (Bounds ss ∷ stack) here frames w)
      bounds_follow (a.Value' k p x) o pc stack here w has =
          then_code (value_code o x) (line o i.BoundsOfValue ∷ []) pc has (value_follows x o pc stack here w)
          (λ v w h. one_step limit g code n _ w _ (is_at _ _ here w (line o i.BoundsOfValue) h.0))
      bounds_follow (a.Variable' k p x) o pc stack here w has =
          then_code (locate_code o x) (line o i.BoundsOfVariable ∷ []) pc has (locate_follows x o pc stack here w)
          (λ r w h. one_step limit g code n _ w _ (is_at _ _ here w (line o i.BoundsOfVariable) h.0))

      pub argument_follows : (x : a.Argument) (o : Option Place) (pc : ℕ) (stack : List Cell) (here : Here) (w : World) →
          HasAt code.lines pc (argument_code o x) → Reaches limit g code n (state pc stack here frames w) (argument g calls x (placed o here)) w
          (λ p w. state (pc + length (argument_code o x)) (Argument p ∷ stack) here frames w)
      argument_follows (a.Value' k p x) o pc stack here w has =
          then_code (value_code o x) (line o (i.PassValue k) ∷ []) pc has (value_follows x o pc stack here w)
          (λ v w h. then_on limit g code (at_line (claim_for v (placed o here)) _ _ here w (line o (i.PassValue k)) (claim_for_ends v (placed o here))
          h.0 refl) (λ done w. stays limit g code n _ w _))
      argument_follows (a.Variable' k p x) o pc stack here w has =
          then_code (locate_code o x) (line o (i.PassVariable k) ∷ []) pc has (locate_follows x o pc stack here w)
          (λ r w h. one_step limit g code n _ w _ (is_at _ _ here w (line o (i.PassVariable k)) h.0))

      pub arguments_follow : {m : _} (xs : e.Row_of-Argument m) (o : Option Place) (pc : ℕ) (stack : List Cell) (here : Here) (w : World) →
          HasAt code.lines pc (arguments_code o xs) → Reaches limit g code n (state pc stack here frames w) (arguments g calls xs (placed o here)) w
          (λ ps w. state (pc + length (arguments_code o xs)) (onto Argument ps stack) here frames w)
      arguments_follow e.end_of-Argument o pc stack here w has = no_code [] pc (λ ps. onto Argument ps stack) here w
      arguments_follow (e.more_of-Argument x rest) o pc stack here w has =
          then_code (argument_code o x) (arguments_code o rest) pc has (argument_follows x o pc stack here w)
          (λ p w h. then_on limit g code (arguments_follow rest o _ (Argument p ∷ stack) here w h) (λ ps w. stays limit g code n _ w _))

      pub locate_follows : (x : d.Designator) (o : Option Place) (pc : ℕ) (stack : List Cell) (here : Here) (w : World) →
          HasAt code.lines pc (locate_code o x) → Reaches limit g code n (state pc stack here frames w) (locate g calls x (placed o here)) w
          (λ r w. state (pc + length (locate_code o x)) (Object r ∷ stack) here frames w)
      locate_follows (d.Name x how) o pc stack here w has =
          then_code (line o (i.Refer x) ∷ []) (select_code o how) pc has
          (λ h. at_line (named g x (placed o here)) _ _ here w (line o (i.Refer x)) (named_ends g x (placed o here)) h.0 refl)
          (λ r w h. select_follows how r o _ stack here w h)
      locate_follows (d.Component' p x k how) o pc stack here w has =
          then_code (locate_code o x) (select_of_code o k how) pc has (locate_follows x o pc stack here w)
          (λ r w h. select_of_follows how k r o _ stack here w h)

      select_follows : (how : l.Selection) (r : Reference) (o : Option Place) (pc : ℕ) (stack : List Cell) (here : Here) (w : World) →
          HasAt code.lines pc (select_code o how) → Reaches limit g code n (state pc (Object r ∷ stack) here frames w) (select g calls how r (placed o here))
          w (λ q w. state (pc + length (select_code o how)) (Object q ∷ stack) here frames w)
      select_follows l.Whole r o pc stack here w has = no_code r pc (λ q. Object q ∷ stack) here w
      select_follows l.Contents r o pc stack here w has = at_line (contents r (placed o here)) _ _ here w (line o i.Contents)
          (contents_end r (placed o here)) has.0 refl
      select_follows (l.Elements' is_opened k xs) r o pc stack here w has =
          then_where_code (λ cs. length cs ≡ subscript_count xs) (chosen_count g calls xs (placed o here)) (chosen_code o xs)
          (line o (i.Select is_opened (subscript_count xs)) ∷ []) pc has (chosen_follow xs o pc (Object r ∷ stack) here w)
          (λ cs w e h. at_line (selects is_opened cs r (placed o here)) _ _ here w (line o (i.Select is_opened (subscript_count xs)))
          (selects_end is_opened cs r (placed o here)) h.0 (popped choice_of Choice (λ c. refl) cs (Object r ∷ stack) (subscript_count xs) _ e))

      select_of_follows : (how : l.Selection) (k : ℕ) (r : Reference) (o : Option Place) (pc : ℕ) (stack : List Cell) (here : Here) (w : World) →
          HasAt code.lines pc (select_of_code o k how) → Reaches limit g code n (state pc (Object r ∷ stack) here frames w)
          (component g k (Selected here.unit) r >>= λ q. by_reach r.reach (select g calls how q (placed o here))
          (select_in_each g calls how (spans_of_component (component_of g.program.types.items r.of k)) q (placed o here))) w
          (λ q w. state (pc + length (select_of_code o k how)) (Object q ∷ stack) here frames w)
      select_of_follows l.Whole k r o pc stack here w has =
          then_on limit g code (at_line (component g k (Selected here.unit) r) _ _ here w (line o (i.Component k)) (component_ends g k _ r) has.0 refl)
          (λ q w. reach_case r.reach (stays limit g code n q w _) (stays limit g code n q w _))
      select_of_follows l.Contents k r o pc stack here w has =
          then_code (line o (i.Component k) ∷ []) (line o i.Contents ∷ []) pc has
          (λ h. at_line (component g k (Selected here.unit) r) _ _ here w (line o (i.Component k)) (component_ends g k _ r) h.0 refl) (λ q w h.
          let opened = at_line (contents q (placed o here)) _ _ here w (line o i.Contents) (contents_end q (placed o here)) h.0 refl in reach_case r.reach
          opened opened)
      select_of_follows (l.Elements' is_opened m xs) k r o pc stack here w has =
          let ss = spans_of_component (component_of g.program.types.items r.of k) in
          let last = line o (i.SelectOf is_opened k (subscript_count xs)) in
          then_code (line o (i.ComponentOf k) ∷ []) (chosen_code o xs ++ last ∷ []) pc has
          (λ h. at_line (component g k (Selected here.unit) r) _ _ here w (line o (i.ComponentOf k)) (component_ends g k _ r) h.0 refl) (λ q w h.
          as_well limit g code (reach_bind r.reach (chosen g calls xs (placed o here)) (λ cs. selects is_opened cs q (placed o here))
          (λ cs. picks_in_each ss q cs (placed o here)))
          (then_where_code (λ cs. length cs ≡ subscript_count xs) (chosen_count g calls xs (placed o here)) (chosen_code o xs) (last ∷ []) _ h
          (chosen_follow xs o _ (Object q ∷ Object r ∷ stack) here w) (λ cs w e h.
          at_line (by_reach r.reach (selects is_opened cs q (placed o here)) (picks_in_each ss q cs (placed o here))) _ _ here w last
          (reach_ends r.reach (selects_end is_opened cs q (placed o here)) (in_each_ends ss q cs (placed o here))) h.0
          (popped choice_of Choice (λ c. refl) cs (Object q ∷ Object r ∷ stack) (subscript_count xs) _ e))))

      chosen_follow : {m : _} (xs : l.Row_of-Subscript m) (o : Option Place) (pc : ℕ) (stack : List Cell) (here : Here) (w : World) →
          HasAt code.lines pc (chosen_code o xs) → Reaches limit g code n (state pc stack here frames w) (chosen g calls xs (placed o here)) w
          (λ cs w. state (pc + length (chosen_code o xs)) (onto Choice cs stack) here frames w)
      chosen_follow l.end_of-Subscript o pc stack here w has = no_code [] pc (λ cs. onto Choice cs stack) here w
      chosen_follow (l.more_of-Subscript x rest) o pc stack here w has =
          then_code (subscript_code o x) (chosen_code o rest) pc has (subscript_follows x o pc stack here w)
          (λ c w h. then_on limit g code (chosen_follow rest o _ (Choice c ∷ stack) here w h) (λ cs w. stays limit g code n _ w _))

      subscript_follows : (x : u.Subscript) (o : Option Place) (pc : ℕ) (stack : List Cell) (here : Here) (w : World) →
          HasAt code.lines pc (subscript_code o x) → Reaches limit g code n (state pc stack here frames w) (subscript g calls x (placed o here)) w
          (λ c w. state (pc + length (subscript_code o x)) (Choice c ∷ stack) here frames w)
      subscript_follows (u.At' p x) o pc stack here w has =
          then_code (value_code o x) (line o i.Subscript ∷ []) pc has (value_follows x o pc stack here w)
          (λ v w h. one_step limit g code n _ w _ (is_at _ _ here w (line o i.Subscript) h.0))
      subscript_follows (u.Range' b p x b' q y r z) o pc stack here w has =
          let cy = limit_code b' (value_code o y) o in let cz = value_code o z ++ line o i.Triplet ∷ [] in
          then_code (limit_code b (value_code o x) o) (cy ++ cz) pc has
          (limit_follows b (value g calls x (placed o here)) (value_code o x) o pc stack here w (value_follows x o pc stack here w)) (λ lower w h.
          then_code cy cz _ h (limit_follows b' (value g calls y (placed o here)) (value_code o y) o _ (Bound lower ∷ stack) here w
          (value_follows y o _ (Bound lower ∷ stack) here w)) (λ upper w h.
          then_code (value_code o z) (line o i.Triplet ∷ []) _ h (value_follows z o _ (Bound upper ∷ Bound lower ∷ stack) here w)
          (λ v w h. one_step limit g code n _ w _ (is_at _ _ here w (line o i.Triplet) h.0))))
