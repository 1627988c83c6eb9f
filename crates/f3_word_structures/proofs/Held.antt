-- The values in memory that stand on top, as arguments.
use Rattle.std.proofs.Common.{◌≡◌, ◌∙◌, ℕ, suc, ◌+◌, ◌-◌, ◌≤◌, Bool, true, false, List, [], ◌∷◌, ◌++◌, length, map, drop, take, reverse, refl, sym, ap, subst, append_assoc, arith}
use Rattle.std.specs.Prelude.{⊤, Option, None, Some, nat_eq, if◌then◌else◌}
use Rattle.std.proofs.lemmas.Bool.{eqb-true}
use Rattle.std.proofs.lemmas.List.{drop-append-le, length-append, length-reverse, reverse-append, reverse-reverse, take-append-drop}
use Rattle.f3_program.specs.declared.declarations.Derived.{Derived}
use Rattle.f3_program.specs.declared.program.Program.{Program}
use Rattle.f3_live_blocks.specs.Blocks.{Live}
use Rattle.f3_meaning_whole.specs.Act as m
use Rattle.f3_meaning_whole.specs.Act.{passed_at}
use Rattle.f3_meaning_whole.specs.Formed as formed
use Rattle.f3_meaning_whole.specs.Value.{Value}
use Rattle.f3_code.specs.State as s
use Rattle.f3_cell_kinds.specs.Types.{CellType}
use Rattle.f3_cell_kinds.specs.Types as cell
use Rattle.f3_rooms.specs.Rooms.{Rooms}
use Rattle.f3_room_places.specs.declared.types.Types.{Types}
use Rattle.f3_word_cells.specs.declared.cell.Cell.{Cell}
use Rattle.f3_word_cells.specs.declared.cell.Cell.TheVariants as c
use Rattle.f3_word_cells.specs.declared.cell.Datum.{Datum}
use Rattle.f3_word_cells.specs.declared.cell.Here.{Here}
use Rattle.f3_word_cells.specs.declared.cell.Passed.TheVariants as passed
use Rattle.f3_word_cells.specs.declared.state.Name.{Name}
use Rattle.f3_word_cells.specs.declared.state.State.{State}
use Rattle.f3_word_cells.specs.Areas.{IsDatum}
use Rattle.f3_word_cells.specs.Cells.{AreCells}
use Rattle.f3_word_cells.specs.States.{AreKnown, IsLaid, beneath, own}
use Rattle.f3_word_structures.specs.Fitting.{AreGiven}
use Rattle.f3_word_structures.specs.Members.{given_in}
use Rattle.f3_word_structures.proofs.Given.{AreMembers, IsMember}

module _ (p : Program) (live : Live) (y : Derived) where
  -- a value in memory, for a component that takes it
  pub record IsHeld (k : ℕ) (d : Datum) (v : Value) : Type 0 where
    pub given : formed.Given
    pub number : given.number ≡ k
    pub member : IsMember p y given v
    pub is : IsDatum p live d v
    pub laid : IsLaid p given.kind d

  abbrev pub AreHeld : List Cell → List m.Passed → Type 0
  AreHeld [] [] = ⊤
  AreHeld (c.Argument (passed.Given j d) ∷ zs) (m.Given k v ∷ ps) = (k ≡ j) × IsHeld k d v × AreHeld zs ps
  AreHeld zs ps = ⊥

  -- ---- on the stack

  pub record OnTop (zs : List Cell) (ps : List m.Passed) : Type 0 where
    pub tops : List Cell
    pub more : List Cell
    pub split : zs ≡ tops ++ more
    pub are : AreHeld tops ps
    pub many : length tops ≡ length ps

  pub held-on-top : (Rest : Rooms → List Name → Type 0) (x : Rooms) (ns : List Name) (h : Here) (here : m.Here) (rest : List CellType) (below : List s.Cell) (gs : List formed.Given)
      (ps : List m.Passed) (zs : List Cell) → AreMembers p y gs ps → AreCells p live Rest x ns h here zs (map s.Argument ps ++ below)
      → AreKnown p (map cell.Argument gs ++ rest) zs → OnTop zs ps
  held-on-top Rest x ns h here rest below [] [] zs members are known = record { tops = []; more = zs; split = refl; are = tt; many = refl }
  held-on-top Rest x ns h here rest below [] (q ∷ ps) zs members are known = absurd members
  held-on-top Rest x ns h here rest below (g ∷ gs) [] zs members are known = absurd members
  held-on-top Rest x ns h here rest below (g ∷ gs) (m.Lent k r ∷ ps) zs members are known = absurd members
  held-on-top Rest x ns h here rest below (g ∷ gs) (m.Given k v ∷ ps) [] members are known = absurd are
  held-on-top Rest x ns h here rest below (g ∷ gs) (m.Given k v ∷ ps) (c.Argument (passed.Given j d) ∷ zs) members are known =
      let more = held-on-top Rest x ns h here rest below gs ps zs members.2 are.2 known.1 in
      record {
        tops = c.Argument (passed.Given j d) ∷ more.tops;
        more = more.more;
        split = ap (λ l. c.Argument (passed.Given j d) ∷ l) more.split;
        are = (are.0.0, record { given = g; number = members.0; member = members.1; is = are.0.1; laid = known.0 }, more.are);
        many = ap suc more.many;
      }
  held-on-top Rest x ns h here rest below (g ∷ gs) (m.Given k v ∷ ps) (c.Argument (passed.Lent j o) ∷ zs) members are known = absurd are.0
  held-on-top Rest x ns h here rest below (g ∷ gs) (m.Given k v ∷ ps) (z ∷ zs) members are known = absurd are.0

  -- the other way round
  both-held : (zs us : List Cell) (ps qs : List m.Passed) → AreHeld zs ps → AreHeld us qs → AreHeld (zs ++ us) (ps ++ qs)
  both-held [] us [] qs a b = b
  both-held [] us (q ∷ ps) qs a b = absurd a
  both-held (c.Argument (passed.Given j d) ∷ zs) us [] qs a b = absurd a
  both-held (c.Argument (passed.Given j d) ∷ zs) us (m.Given k v ∷ ps) qs a b = (a.0, a.1, both-held zs us ps qs a.2 b)
  both-held (c.Argument (passed.Given j d) ∷ zs) us (m.Lent k r ∷ ps) qs a b = absurd a
  both-held (z ∷ zs) us ps qs a b = absurd a

  pub held-reverse : (zs : List Cell) (ps : List m.Passed) → AreHeld zs ps → AreHeld (reverse zs) (reverse ps)
  held-reverse [] [] are = tt
  held-reverse [] (q ∷ ps) are = absurd are
  held-reverse (c.Argument (passed.Given j d) ∷ zs) [] are = absurd are
  held-reverse (c.Argument (passed.Given j d) ∷ zs) (m.Given k v ∷ ps) are =
      subst (λ us. AreHeld us (reverse (m.Given k v ∷ ps))) (sym (reverse-append (c.Argument (passed.Given j d) ∷ []) zs))
      (subst (λ qs. AreHeld (reverse zs ++ c.Argument (passed.Given j d) ∷ []) qs) (sym (reverse-append (m.Given k v ∷ []) ps))
      (both-held (reverse zs) (c.Argument (passed.Given j d) ∷ []) (reverse ps) (m.Given k v ∷ []) (held-reverse zs ps are.2) (are.0, are.1, tt)))
  held-reverse (c.Argument (passed.Given j d) ∷ zs) (m.Lent k r ∷ ps) are = absurd are
  held-reverse (z ∷ zs) ps are = absurd are

  -- ---- by their numbers

  test : {A : Type 0} (b : Bool) (x y : A) (P : A → Type 0) → (b ≡ true → P x) → (b ≡ false → P y) → P (if b then x else y)
  test true x y P f g = f refl
  test false x y P f g = g refl

  -- a value that is found is the one that the machine over values finds
  pub record Finds (k : ℕ) (d : Datum) (ps : List m.Passed) : Type 0 where
    pub value : Value
    pub passed : passed_at k ps ≡ Some (m.Given k value)
    pub held : IsHeld k d value

  abbrev pub Agree : ℕ → Option Datum → List m.Passed → Type 0
  Agree k None ps = passed_at k ps ≡ None
  Agree k (Some d) ps = Finds k d ps

  pub found-alike : (k : ℕ) (zs : List Cell) (ps : List m.Passed) → AreHeld zs ps → Agree k (given_in k zs) ps
  found-alike k [] [] are = refl
  found-alike k [] (q ∷ ps) are = absurd are
  found-alike k (c.Argument (passed.Given j d) ∷ zs) [] are = absurd are
  found-alike k (c.Argument (passed.Given j d) ∷ zs) (m.Given i v ∷ ps) are = by (nat_eq j k) refl (found-alike k zs ps are.2)
    where
      further : (o : Option Datum) → passed_at k (m.Given i v ∷ ps) ≡ passed_at k ps → Agree k o ps → Agree k o (m.Given i v ∷ ps)
      further None there h = there ∙ h
      further (Some x) there h = record { value = h.value; passed = there ∙ h.passed; held = h.held }

      by : (b : Bool) → nat_eq j k ≡ b → Agree k (given_in k zs) ps → Agree k (given_in k (c.Argument (passed.Given j d) ∷ zs)) (m.Given i v ∷ ps)
      by true e more =
          let here : given_in k (c.Argument (passed.Given j d) ∷ zs) ≡ Some d = ap (λ t. if t then Some d else given_in k zs) e in
          let same : nat_eq i k ≡ true = ap (λ n. nat_eq n k) are.0 ∙ e in
          let is : i ≡ k = are.0 ∙ eqb-true j k e in
          subst (λ o. Agree k o (m.Given i v ∷ ps)) (sym here) (record {
            value = v;
            passed = ap (λ t. if t then Some (m.Given i v) else passed_at k ps) same ∙ ap (λ n. Some (m.Given n v)) is;
            held = subst (λ n. IsHeld n d v) is are.1;
          })
      by false e more =
          let here : given_in k (c.Argument (passed.Given j d) ∷ zs) ≡ given_in k zs = ap (λ t. if t then Some d else given_in k zs) e in
          let there : passed_at k (m.Given i v ∷ ps) ≡ passed_at k ps = ap (λ t. if t then Some (m.Given i v) else passed_at k ps) (ap (λ n. nat_eq n k) are.0 ∙ e) in
          subst (λ o. Agree k o (m.Given i v ∷ ps)) (sym here) (further (given_in k zs) there more)
  found-alike k (c.Argument (passed.Given j d) ∷ zs) (m.Lent i r ∷ ps) are = absurd are
  found-alike k (z ∷ zs) ps are = absurd are

  pub found-none : (k : ℕ) (zs : List Cell) (ps : List m.Passed) → AreHeld zs ps → given_in k zs ≡ None → passed_at k ps ≡ None
  found-none k zs ps are e = subst (λ o. Agree k o ps) e (found-alike k zs ps are)

  pub found-some : (k : ℕ) (zs : List Cell) (ps : List m.Passed) (d : Datum) → AreHeld zs ps → given_in k zs ≡ Some d → Finds k d ps
  found-some k zs ps d are e = subst (λ o. Agree k o ps) e (found-alike k zs ps are)

  -- they can be looked at
  pub held-given : (types : Types) → types.derived.now ≡ p.types.items → (zs : List Cell) (ps : List m.Passed) → AreHeld zs ps → AreGiven p types live zs ps
  held-given types derived [] [] are = tt
  held-given types derived [] (q ∷ ps) are = absurd are
  held-given types derived (c.Argument (passed.Given j d) ∷ zs) [] are = absurd are
  held-given types derived (c.Argument (passed.Given j d) ∷ zs) (m.Given k v ∷ ps) are =
      (are.0, (are.1.given.kind, record { derived = derived; value = are.1.is; of = are.1.member.value }), held-given types derived zs ps are.2)
  held-given types derived (c.Argument (passed.Given j d) ∷ zs) (m.Lent k r ∷ ps) are = absurd are
  held-given types derived (z ∷ zs) ps are = absurd are

-- ---- the last cells of a stack

-- the last so many cells are those on top, the other way round
pub last-cells : (w : State) (tops more : List Cell) (len n : ℕ) → own w ≡ tops ++ more → length tops ≡ n → len ≡ length w.cells.items.items
    → (n ≤ length w.cells.items.items) × (drop (len - n) w.cells.items.items ≡ reverse tops)
last-cells w tops more len n e many all =
    let zs = w.cells.items.items in
    let behind : drop w.base zs ≡ reverse more ++ reverse tops = sym (reverse-reverse (drop w.base zs)) ∙ ap reverse e ∙ reverse-append tops more in
    let front : List Cell = take w.base zs ++ reverse more in
    let whole : zs ≡ front ++ reverse tops =
    sym (take-append-drop w.base zs) ∙ ap (λ l. take w.base zs ++ l) behind ∙ sym (append_assoc (take w.base zs) (reverse more) (reverse tops)) in
    let a = ap length whole in
    let b = length-append front (reverse tops) in
    let f = length-reverse tops in
    let at : len - n ≡ length front = omega (arith, a, b, f, many, all) in
    (omega (arith, a, b, f, many), ap (λ k. drop k zs) at ∙ ap (drop (length front)) whole ∙ dropped front (reverse tops))
  where
    dropped : (xs ys : List Cell) → drop (length xs) (xs ++ ys) ≡ ys
    dropped [] ys = refl
    dropped (x ∷ xs) ys = dropped xs ys
