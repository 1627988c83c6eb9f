-- The line of an element or a section.
use Rattle.std.proofs.Common.{◌≡◌, ◌∙◌, ℕ, zero, suc, ◌+◌, Bool, true, false, List, [], ◌∷◌, ◌++◌, length, map, reverse, take, drop, refl, sym, ap, subst, arith, append_assoc}
use Rattle.std.specs.Prelude.{Ok, Err, None, Some, Option, slice_get, ◌&&◌, ◌||◌, not, ◌≤◌, nat_eq, nat_lt}
use Rattle.std.proofs.lemmas.Bool.{eqb-true, ne_eqb}
use Rattle.std.proofs.lemmas.List.{reverse-append, reverse-reverse, length-reverse}
use Rattle.f3_program.specs.declared.declarations.Kind.{Kind}
use Rattle.f3_program.specs.declared.program.Program.{Program}
use Rattle.f3_live_blocks.specs.Blocks.{Live}
use Rattle.f3_meaning_whole.specs.Act as act
use Rattle.f3_meaning_whole.specs.Act.{picks, picked, places_in, spans_in}
use Rattle.f3_meaning_whole.specs.Formed.{same_truth, only, of_kind, count_ranges}
use Rattle.f3_meaning_whole.specs.Ran.{World}
use Rattle.f3_meaning_whole.specs.Reference.{Reference, Reach, One, Many, spans}
use Rattle.f3_meaning_whole.specs.Store.{Path}
use Rattle.f3_meaning_whole.specs.Value.{Span}
use Rattle.f3_meaning_whole.specs.declared.run_error.RunError.TheVariants.{StepIsZero, SubscriptOutOfBounds}
use Rattle.f3_code.specs.declared.instruction.Instruction.TheVariants as i
use Rattle.f3_code.specs.Machine.{performs, on, selects}
use Rattle.f3_code.specs.Heap.{with_answers}
use Rattle.f3_code.specs.State.{Line, placed}
use Rattle.f3_code.specs.State as s
use Rattle.f3_cell_kinds.specs.Holds.{Reaches}
use Rattle.f3_cell_kinds.specs.Laws.{site_at}
use Rattle.f3_cell_kinds.specs.Types.{CellType}
use Rattle.f3_cell_kinds.specs.Types as cell
use Rattle.f3_cells.specs.declared.cell.Chosen.{Chosen}
use Rattle.f3_rooms.specs.Rooms.{Rooms}
use Rattle.f3_word_cells.specs.declared.cell.Cell.{Cell}
use Rattle.f3_word_cells.specs.declared.cell.Cell.TheVariants as c
use Rattle.f3_word_cells.specs.declared.cell.Object.{Object}
use Rattle.f3_word_cells.specs.declared.state.State.{State}
use Rattle.f3_word_cells.specs.declared.state.Stop.{Stop}
use Rattle.f3_word_cells.specs.declared.state.Stop.TheVariants as stop
use Rattle.f3_word_cells.specs.Areas.{IsObject}
use Rattle.f3_word_cells.specs.Cells.{IsCell}
use Rattle.f3_word_cells.specs.Does.{Becomes, IsTold}
use Rattle.f3_word_cells.specs.Moves.{Popped, Pushed}
use Rattle.f3_word_cells.specs.Plain.{is_plain_act}
use Rattle.f3_word_cells.specs.Scenes.{code_of}
use Rattle.f3_word_cells.specs.States.{Stands}
use Rattle.f3_word_cells.proofs.Amid.{Amid, amid_popped, amid_pushed}
use Rattle.f3_word_cells.proofs.Lines.{does_so, line_goes, line_stops, first_gives, with_stack, answering}
use Rattle.f3_word_cells.proofs.OnTop.{line_kinds}
use Rattle.f3_word_cells.proofs.Orderly.{IsAfter}
use Rattle.f3_word_objects.specs.Picks.{Picks}
use Rattle.f3_word_cells.specs.Ranks.{AreShort}
use Rattle.f3_word_objects.specs.Shapes.{dims_of}
use Rattle.f3_word_objects.specs.Taken.{PoppedAll, Took}
use Rattle.f3_word_objects.proofs.Above.{afterwards, cell-beneath, in-memory, in-order, stack, taken, taken-many}
use Rattle.f3_word_objects.proofs.Choosing.{ChoicesOnTop, choices-on-is, choices-on-top, object-type, takes-choices}
use Rattle.f3_word_objects.proofs.Passing.{object-spans}
use Rattle.f3_word_objects.proofs.Picked.{Why, picked-not, picked-stands, picks-goes, picks-outside, picks-zero, spans-many}
use Rattle.f3_word_objects.proofs.Popping.{popped-pc}
use Rattle.f3_word_objects.proofs.Tops.{after-at, goes-on, object-cell}

both : (a b : Bool) → (a && b) ≡ true → (a ≡ true) × (b ≡ true)
both true b e = (refl, e)
both false b e = absurd cc

only-if : (b : Bool) (x j : Kind) → only b x ≡ Some j → b ≡ true
only-if true x j e = refl
only-if false x j e = absurd cc

pub not-opened : (b : Bool) → not b ≡ true → b ≡ false
not-opened true e = absurd cc
not-opened false e = refl

not-allocatable : (a b : Bool) → a ≡ false → same_truth a b ≡ true → b ≡ false
not-allocatable true b e f = absurd cc
not-allocatable false true e f = absurd cc
not-allocatable false false e f = refl

no-rank : (a : Bool) (n : ℕ) → a ≡ false → nat_lt 0 n ≡ true → (a || nat_eq n 0) ≡ true → ⊥
no-rank true n e f g = absurd cc
no-rank false zero e f g = cc
no-rank false (suc n) e f g = let h = ne_eqb (suc n) 0 (λ z. absurd (omega arith)) in cc

reaches-many : (k : Kind) (reach : Reach) → k.is_allocatable ≡ false → nat_lt 0 k.rank ≡ true → Reaches k reach → (ss : List Span) × (ps : List Path) × (reach ≡ Many ss ps) × (length ss ≡ k.rank)
reaches-many k One e f h = absurd (no-rank k.is_allocatable k.rank e f h)
reaches-many k (Many ss ps) e f h = (ss, ps, refl, h.2)

-- ---- kinds

-- an array of so many dimensions
pub record IsArray (n : ℕ) (reach : Reach) : Type 0 where
  pub spans : List Span
  pub paths : List Path
  pub is : reach ≡ Many spans paths
  pub ranked : length spans ≡ n

-- of which elements are selected
pub array-of : (is_opened : Bool) (bs : List Bool) (k j : Kind) (n : ℕ) (reach : Reach) → is_opened ≡ false → length bs ≡ n
    → only (same_truth is_opened k.is_allocatable && (nat_eq (length bs) k.rank && nat_lt 0 k.rank)) (of_kind k.of (count_ranges bs)) ≡ Some j
    → Reaches k reach → (n ≡ k.rank) × IsArray n reach
array-of is_opened bs k j n reach closed many picked reaches =
    let test = only-if (same_truth is_opened k.is_allocatable && (nat_eq (length bs) k.rank && nat_lt 0 k.rank)) (of_kind k.of (count_ranges bs)) j picked in
    let a = both (same_truth is_opened k.is_allocatable) _ test in
    let b = both (nat_eq (length bs) k.rank) _ a.1 in
    let rank : n ≡ k.rank = sym many ∙ eqb-true _ _ b.0 in
    let h = reaches-many k reach (not-allocatable is_opened k.is_allocatable closed a.0) b.1 reaches in
    (rank, record { spans = h.0; paths = h.1; is = h.2; ranked = h.3 ∙ sym rank })

-- subscripts and triplets above an array
pub record ArrayOnTop (p : Program) (t : s.State) (n : ℕ) : Type 0 where
  pub kind : Kind
  pub after : Kind
  pub rest : List CellType
  pub top : ChoicesOnTop p t n (cell.Object kind) rest
  pub array : IsArray n top.reference.reach
  pub next : IsAfter p t.pc (t.pc + 1) (cell.Object after ∷ rest)

pub array-on-top : (p : Program) (t : s.State) (l : Line) (is_opened : Bool) (n : ℕ) → IsTold p t → slice_get (code_of p).lines t.pc ≡ Some l → l.act ≡ i.Select is_opened n
    → (is_opened ≡ false) × ArrayOnTop p t n
array-on-top p t l is_opened n told there is =
    let lead = line_kinds p t l (i.Select is_opened n) told there is in
    let closed = not-opened is_opened (ap is_plain_act (sym is) ∙ told.plain.lines t.pc l there) in
    let k = lead.0 in
    let bs = lead.1 in
    let rest = lead.5.rest in
    let kinds : (site_at p t.pc).cells ≡ map cell.Choice (reverse bs) ++ (cell.Object k ∷ rest) =
    lead.5.before ∙ ap (λ ks. ks ++ rest) (choices-on-is bs (cell.Object k ∷ [])) ∙ append_assoc (map cell.Choice (reverse bs)) (cell.Object k ∷ []) rest in
    let top = (choices-on-top p t n (cell.Object k) (reverse bs) rest (object-type p.types.items k) told (length-reverse bs ∙ lead.3) kinds).0 in (
      closed,
      record {
        kind = k;
        after = lead.2;
        rest = rest;
        top = top;
        array = (array-of is_opened bs k lead.2 n top.reference.reach closed lead.3 lead.4 top.is.1).1;
        next = after-at lead.5.next refl refl;
      },
    )

-- ---- cells in memory

module _ (p : Program) (m : Live) (old : State) (n : ℕ) (t : s.State) (x : Rooms) (st : Stands p m old x t) (h : ArrayOnTop p t n) where
  dims-many : (z : Object) → IsObject p x z h.top.reference → length (dims_of z) ≡ n
  dims-many z is =
      let e = ap length (object-spans p x z h.top.reference is) ∙ spans-many (dims_of z) in
      sym e ∙ ap (λ y. length (spans y)) h.array.is ∙ h.array.ranked

  -- the object beneath stands there in memory
  beneath-there : (front : List Cell) × (behind : List Cell) × (z : Object) × (old.cells.items.items ≡ front ++ c.Object z ∷ behind) × (length behind ≡ n) × (length (dims_of z) ≡ n)
  beneath-there =
      let f = in-memory p t m old x n (cell.Object h.kind) h.rest st h.top in
      let g = object-cell p m x old.names.items.items f.1 h.top.reference h.kind f.6 f.5 in
      let items = old.cells.items.items in
      let choices = map c.Choice f.0 in
      let mine : drop old.base items ≡ reverse f.2 ++ (c.Object g.0 ∷ reverse choices) =
      sym (reverse-reverse (drop old.base items)) ∙ ap reverse (f.3 ∙ ap (λ (a : Cell). choices ++ a ∷ f.2) g.1) ∙ reverse-append choices (c.Object g.0 ∷ f.2) ∙ turned g.0 f.2 (reverse choices) in (
        take old.base items ++ reverse f.2,
        reverse choices,
        g.0,
        split-at old.base items ∙ ap (λ l. take old.base items ++ l) mine ∙ sym (append_assoc (take old.base items) (reverse f.2) (c.Object g.0 ∷ reverse choices)),
        length-reverse choices ∙ mapped f.0 ∙ f.4 ∙ h.top.count,
        dims-many g.0 (subst (λ (a : Cell). IsCell p x m old.names.items.items a (s.Object h.top.reference)) g.1 f.5),
      )
    where
      turned : (z : Object) (more ys : List Cell) → reverse (c.Object z ∷ more) ++ ys ≡ reverse more ++ (c.Object z ∷ ys)
      turned z more ys = ap (λ l. l ++ ys) (reverse-append (c.Object z ∷ []) more) ∙ append_assoc (reverse more) (c.Object z ∷ []) ys

      split-at : (k : ℕ) (xs : List Cell) → xs ≡ take k xs ++ drop k xs
      split-at zero xs = refl
      split-at (suc k) [] = refl
      split-at (suc k) (y ∷ xs) = ap (λ l. y ∷ l) (split-at k xs)

      mapped : (cs : List Chosen) → length (map c.Choice cs) ≡ length cs
      mapped [] = refl
      mapped (a ∷ cs) = let e = mapped cs in omega arith

  -- the object beneath has so many dimensions
  pub rank-is : (result : Option ℕ) → ((front behind : List Cell) (z : Object) → old.cells.items.items ≡ front ++ c.Object z ∷ behind → length behind ≡ n → result ≡ Some (length (dims_of z)))
      → result ≡ Some n
  rank-is result of =
      let b = beneath-there in
      of b.0 b.1 b.2 b.3 b.4 ∙ ap Some b.5

  -- the object is there
  pub object-beneath : (mid last : State) (ch : List Chosen) → n ≤ length ch → PoppedAll (map c.Choice (reverse (take n ch))) old mid → Took c.Object None mid last → ⊥
  object-beneath mid last ch all choices none =
      let f = cell-beneath p t m old x n (cell.Object h.kind) h.rest st h.top mid ch all choices in
      let g = object-cell p m x old.names.items.items f.0 h.top.reference h.kind f.4 f.3 in
      none g.0 f.1 (f.2 ∙ ap (λ (a : Cell). a ∷ f.1) g.1)

-- ---- the line

module _ (p : Program) (m : Live) (short : AreShort m) (old mid last : State) (n : ℕ) (ch : List Chosen) (z : Object) (all : n ≤ length ch) (choices : PoppedAll (map c.Choice (reverse (take n ch))) old mid) (popped : Popped (c.Object z) mid last)
    (t : s.State) (l : Line) (x : Rooms) (told : IsTold p t) (st : Stands p m old x t) (is-line : l.act ≡ i.Select false n) (h : ArrayOnTop p t n) where
  abbrev gs : List act.Chosen
  gs = taken p t m old x n (cell.Object h.kind) h.rest st h.top mid ch all choices

  abbrev ss : List Span
  ss = h.array.spans

  abbrev ps : List Path
  ps = h.array.paths

  abbrev q : Reference
  q = h.top.reference

  abbrev part : Reference
  part = picked q ps (spans_in ss gs) (places_in ss gs)

  abbrev at-place : act.Here
  at-place = placed l.place t.here

  abbrev cells : List s.Cell
  cells = stack p t m old x n (cell.Object h.kind) h.rest st h.top

  object-there : IsObject p x z q × Amid p t m old last x h.rest h.top.below (t.world).store []
  object-there =
      let after = afterwards p t m old x n (cell.Object h.kind) h.rest st h.top mid ch all choices in
      let one = amid_popped p t m old mid last x (cell.Object h.kind) h.rest (s.Object q) h.top.below (t.world).store [] (c.Object z) after.1 popped tt in
      (one.0, one.2)

  many : length gs ≡ length ss
  many = taken-many p t m old x n (cell.Object h.kind) h.rest st h.top mid ch all choices ∙ sym h.array.ranked

  runs : (rest : ℕ → Bool) → does_so p l t (i.Select false n) cells [] rest
      ≡ performs (picks q (Many ss ps) gs at-place) (answering (t.world).store rest) (λ y. on (with_answers rest (with_stack cells t)) (s.Object y ∷ h.top.below))
  runs rest =
      let w = answering (t.world).store rest in
      let f : Reference → World → s.State = λ y. on (with_answers rest (with_stack cells t)) (s.Object y ∷ h.top.below) in
      takes-choices h.top.choices [] (s.Object q ∷ h.top.below) n _ h.top.count
      ∙ ap (λ (ys : List act.Chosen). performs (selects false ys q at-place) w f) (in-order p t m old x n (cell.Object h.kind) h.rest st h.top mid ch all choices)
      ∙ first_gives q (λ y. picks y y.reach gs at-place) w f
      ∙ ap (λ (y : Reach). performs (picks q y gs at-place) w f) h.array.is

  pub section-passes : (y : Object) (new : State) → Picks z gs (Ok y) → Pushed (c.Object y) (last.pc + 1) last new → Becomes p l t (Ok tt) m new
  section-passes y new picks pushed =
      let there = picked-stands p m short x st.sound q ss ps h.array.is gs many z y object-there.0 picks in
      let amid = amid_pushed p t m old last new x (cell.Object h.after) h.rest (s.Object part) h.top.below (t.world).store [] (c.Object y) (last.pc + 1) object-there.1 pushed tt there.0 tt in
      goes-on p t m old x told st l new (cell.Object h.after ∷ h.rest) (s.Object part ∷ h.top.below) amid h.next
      (pushed.pc ∙ ap (λ k. k + 1) (popped.pc ∙ popped-pc (map c.Choice (reverse (take n ch))) old mid choices))
      (line_goes p l t (i.Select false n) cells _ [] tt [] is-line h.top.split (λ rest. runs rest ∙ picks-goes q ss ps gs at-place _ _ there.1 there.2))

  pub section-fails : (e : Stop) (new : State) → Picks z gs (Err e) → Becomes p l t (Err e) m new
  section-fails e new picks = by e (picked-not p m short x st.sound q ss ps h.array.is gs many z e object-there.0 picks)
    where
      by : (e : Stop) → Why ss gs e → Becomes p l t (Err e) m new
      by (stop.Failed StepIsZero) why =
          line_stops p l t (i.Select false n) cells _ [] tt is-line h.top.split (λ rest. runs rest ∙ picks-zero q ss ps gs at-place _ _ why)
      by (stop.Failed SubscriptOutOfBounds) why =
          line_stops p l t (i.Select false n) cells _ [] tt is-line h.top.split (λ rest. runs rest ∙ picks-outside q ss ps gs at-place _ _ why.0 why.1)
      by e why = absurd why
