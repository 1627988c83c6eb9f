-- Statements read up to a place, and the breaks behind it.
use Rattle.std.proofs.Common.{◌≡◌, ℕ, List, [], ◌∷◌, ◌++◌, Option, Some, None, inl, inr, refl, sym, ap, subst, ◌∙◌, append_assoc}
use Rattle.std.specs.Prelude.{option_and_then}
use Rattle.std.proofs.lemmas.List.{append-nil}
use Rattle.f3_places.specs.declared.source.Place.{Place}
use Rattle.f3_rules.specs.declared.breaks.Break.{Break}
use Rattle.f3_rules.specs.declared.rule.Rule.TheVariants.{S7}
use Rattle.f3_rules.specs.Least.{Least}
use Rattle.f3_rules.proofs.Firsts.{least_one, least_same}
use Rattle.f3_tree.specs.Tree.{UnitTree}
use Rattle.f3_words.specs.Lines.{Line, broken}
use Rattle.f3_form.specs.Forms.{FormTree}
use Rattle.f3_blocks.specs.Pieces.{Placed}
use Rattle.f3_units.specs.Units.{AreUnits, Complete, Viable, GoesOn}
use Rattle.f3_units.specs.Machine.{Begun, State, start, free, step, run}
use Rattle.f3_units.proofs.Nesting.{run-append, spelled, not_viable, goes_on_free, goes_on_inside, goes_on_there, viable, same_source, units_read}
use Rattle.f3_parse.specs.Nested.{IsTooDeep, IsShallow}
use Rattle.f3_parse.specs.Phase.{place_of, file_of, placed_at, HaveForms, BreaksIn, EndsInside, BreaksBehind, BreaksOf}
use Rattle.f3_parse.specs.Inner.Steps.{GoesOnAt, Deepens, StopsAt, Has, GoesTo}
use Rattle.f3_parse.proofs.Depths.{deep_is, is_deep}
use Rattle.f3_parse.proofs.Cuts.{then_some, Cuts, two_cuts, none_shallow, shallow_more}

-- what was read so far: its forms, which are its only ones, and what the machine makes of them
pub record SoFar (ls : List Line) (s : State) : Type 0 where
  pub forms : List Placed
  pub have : HaveForms forms ls
  pub runs : run forms start ≡ Some s
  pub shallow : IsShallow forms
  pub only : (qs : List Placed) → HaveForms qs ls → qs ≡ forms

none_only : (qs : List Placed) → HaveForms qs [] → qs ≡ []
none_only [] h = refl
none_only (q ∷ qs) h = absurd h

pub begins : SoFar [] start
begins = record { forms = []; have = tt; runs = refl; shallow = none_shallow; only = none_only }

record Split (gs : List Placed) (ls ms : List Line) : Type 0 where
  front : List Placed
  back : List Placed
  is : gs ≡ front ++ back
  have_front : HaveForms front ls
  have_back : HaveForms back ms

split : (gs : List Placed) (ls ms : List Line) → HaveForms gs (ls ++ ms) → Split gs ls ms
split gs [] ms h = record { front = []; back = gs; is = refl; have_front = tt; have_back = h }
split [] (l ∷ ls) ms h = absurd h
split (g ∷ gs) (l ∷ ls) ms h =
    let w = split gs ls ms h.3 in
    record { front = g ∷ w.front; back = w.back; is = ap (λ (x : List Placed). g ∷ x) w.is; have_front = (h.0, h.1, h.2, w.have_front); have_back = w.have_back }

joined : (gs hs : List Placed) (ls ms : List Line) → HaveForms gs ls → HaveForms hs ms → HaveForms (gs ++ hs) (ls ++ ms)
joined [] hs [] ms a b = b
joined [] hs (l ∷ ls) ms a b = absurd a
joined (g ∷ gs) hs [] ms a b = absurd a
joined (g ∷ gs) hs (l ∷ ls) ms a b = (a.0, a.1, a.2, joined gs hs ls ms a.3 b)

one_only : (f : FormTree) (l : Line) (gs : List Placed) → Has f l → HaveForms gs (l ∷ []) → gs ≡ placed_at l f ∷ []
one_only f l [] has h = absurd h
one_only f l (g ∷ []) has h = ap (λ (x : Place). record { place = x; form = g.form } ∷ []) h.1 ∙ ap (λ (x : FormTree). placed_at l x ∷ []) (has.only g.form h.2)
one_only f l (g ∷ k ∷ gs) has h = absurd h.3

ended : (o : Option State) → option_and_then (run []) o ≡ o
ended None = refl
ended (Some s) = refl

ran : (s : State) (p : Placed) (ps : List Placed) → run ps start ≡ Some s → run (ps ++ p ∷ []) start ≡ step p s
ran s p ps is = run-append ps (p ∷ []) start ∙ ap (option_and_then (run (p ∷ []))) is ∙ ended (step p s)

-- what two runs give is one state
same_state : (o : Option State) (s t : State) → o ≡ Some s → o ≡ Some t → s ≡ t
same_state o s t d e = cc

pub one_more : (ls : List Line) (s t : State) (l : Line) → SoFar ls s → GoesTo s l t → SoFar (ls ++ l ∷ []) t
one_more ls s t l so on = record {
  forms = so.forms ++ placed_at l on.form ∷ [];
  have = joined so.forms (placed_at l on.form ∷ []) ls (l ∷ []) so.have (on.has.sound, refl, on.has.is, tt);
  runs = ran s (placed_at l on.form) so.forms so.runs ∙ on.next;
  shallow = shallow_more so.forms (placed_at l on.form) so.shallow (λ h. on.shallow (is_deep so.forms s t (placed_at l on.form) so.runs on.next h));
  only = λ gs h.
      let w = split gs ls (l ∷ []) h in
      w.is ∙ ap (λ (x : List Placed). x ++ w.back) (so.only w.front w.have_front) ∙ ap (λ (x : List Placed). so.forms ++ x) (one_only on.form l w.back on.has w.have_back);
}

-- ---- the end

pub all_spelled : (ls : List Line) (s : State) (so : SoFar ls s) → s.unit ≡ None → AreUnits s.done so.forms
all_spelled ls s so none = spelled so.forms s so.runs none

-- the machine comes from spelled units to where none is open
pub only_units : (ps : List Placed) (s : State) (us : List UnitTree) → run ps start ≡ Some s → AreUnits us ps → s ≡ free us
only_units ps s us e h = same_state (run ps start) s (free us) e (units_read us ps h)

abbrev unit_at : State → Option Begun
unit_at s = s.unit

complete_free : (ps : List Placed) (s : State) → run ps start ≡ Some s → Complete ps → s.unit ≡ None
complete_free ps s e h = ap unit_at (only_units ps s h.0 e h.1)

pub only_spelled : (ls : List Line) (s : State) (us : List UnitTree) (ps : List Placed) → SoFar ls s → HaveForms ps ls → AreUnits us ps → s ≡ free us
only_spelled ls s us ps so have units = only_units so.forms s us so.runs (subst (λ (x : List Placed). AreUnits us x) (so.only ps have) units)

-- ---- what breaks behind

-- where units go on with a statement, they go on in its source
goes_on_with : (ps qs : List Placed) (q : Placed) → Viable (ps ++ q ∷ qs) → GoesOn q.place.file ps
goes_on_with ps qs q v = by (run ps start) refl
  where
    whole : run (ps ++ (q ∷ qs ++ v.0)) start ≡ Some (free v.1.0)
    whole = ap (λ (x : List Placed). run x start) (sym (append_assoc ps (q ∷ qs) v.0)) ∙ units_read v.1.0 ((ps ++ q ∷ qs) ++ v.0) v.1.1

    at_state : (s : State) → run ps start ≡ Some s → (o : Option Begun) → s.unit ≡ o → GoesOn q.place.file ps
    at_state s e None is = goes_on_free ps s q.place.file e is
    at_state s e (Some u) is =
        let here = sym (run-append ps (q ∷ qs ++ v.0) start ∙ ap (option_and_then (run (q ∷ qs ++ v.0))) e) ∙ whole in
        let w = then_some (run (qs ++ v.0)) (step q s) (free v.1.0) here in
        subst (λ (n : ℕ). GoesOn n ps) (same_source s w.0 u q is w.1) (goes_on_inside ps s u e is)

    by : (o : Option State) → run ps start ≡ o → GoesOn q.place.file ps
    by None e = absurd (let parts = run-append ps (q ∷ qs ++ v.0) start ∙ ap (option_and_then (run (q ∷ qs ++ v.0))) e in let w = whole in cc)
    by (Some s) e = at_state s e s.unit refl

viable_front : (ps qs : List Placed) (q : Placed) → Viable (ps ++ q ∷ qs) → Viable (ps ++ q ∷ [])
viable_front ps qs q v =
    (qs ++ v.0, subst (λ (x : List Placed). Complete x) (append_assoc ps (q ∷ qs) v.0 ∙ sym (append_assoc ps (q ∷ []) (qs ++ v.0))) v.1)

-- a statement of a form where it stands
at_line : (l : Line) (q : Placed) → q.place ≡ place_of l → q ≡ placed_at l q.form
at_line l q e = ap (λ (x : Place). record { place = x; form = q.form }) e

-- nothing breaks within statements with which units go on
no_break_within : (ends : ℕ → Place) (ps qs : List Placed) (q : Placed) (l : Line) (ms rest : List Line) (fault : Option Break) (b : Break)
    → HaveForms (q ∷ qs) (l ∷ ms) → Viable (ps ++ q ∷ qs) → IsShallow (ps ++ q ∷ qs) → BreaksBehind ends ps (l ∷ rest) fault b → ⊥
no_break_within ends ps qs q l ms rest fault b h v shallow (inl x) = by x.1
  where
    by : BreaksIn ps l b → ⊥
    by (inl is) = let none = h.0 in absurd (cc)
    by (inr (inl is)) = is.0 q.form h.2
    by (inr (inr (inl is))) = is.0.2 q.form h.2 (subst (λ (y : Placed). Viable (ps ++ y ∷ [])) (at_line l q h.1) (viable_front ps qs q v))
    by (inr (inr (inr is))) = shallow ps qs q refl (is.0.2 q.form h.2).1
no_break_within ends ps qs q l ms rest fault b h v shallow (inr x) = x.0 (subst (λ (y : Place). GoesOn y.file ps) h.1 (goes_on_with ps qs q v))

-- nothing breaks within: the forms behind are a list that is not empty
no_break_in : (ends : ℕ → Place) (ps back : List Placed) (l : Line) (ms rest : List Line) (fault : Option Break) (b : Break)
    → HaveForms back (l ∷ ms) → Viable (ps ++ back) → IsShallow (ps ++ back) → BreaksBehind ends ps (l ∷ rest) fault b → ⊥
no_break_in ends ps [] l ms rest fault b h v shallow x = absurd h
no_break_in ends ps (q ∷ qs) l ms rest fault b h v shallow x = no_break_within ends ps qs q l ms rest fault b h v shallow x

-- the breaks of the phase are those behind what was read
only_behind : (ends : ℕ → Place) (ls front rest : List Line) (fault : Option Break) (s : State) (so : SoFar front s) (b : Break) → ls ≡ front ++ rest → BreaksBehind ends so.forms rest fault b
    → (c : Break) → BreaksOf ends ls fault c → BreaksBehind ends so.forms rest fault c
only_behind ends ls front rest fault s so b cut breaks c p = by (two_cuts front rest p.front p.rest (sym cut ∙ p.cut))
  where
    by : Cuts front rest p.front p.rest → BreaksBehind ends so.forms rest fault c
    by (inl h) =
        let same : p.forms ≡ so.forms = so.only p.forms (subst (λ (x : List Line). HaveForms p.forms x) (sym h.0) p.have) in
        subst (λ (x : List Placed). BreaksBehind ends x rest fault c) same (subst (λ (x : List Line). BreaksBehind ends p.forms x fault c) (sym h.1) p.breaks)
    by (inr (inl h)) =
        let w = split p.forms front (h.one ∷ h.others) (subst (λ (x : List Line). HaveForms p.forms x) h.is p.have) in
        let same : p.forms ≡ so.forms ++ w.back = w.is ∙ ap (λ (x : List Placed). x ++ w.back) (so.only w.front w.have_front) in
        absurd (no_break_in ends so.forms w.back h.one h.others (h.others ++ p.rest) fault b w.have_back (subst Viable same p.viable) (subst IsShallow same p.shallow) (subst (λ (x : List Line). BreaksBehind ends so.forms x fault b) h.behind breaks))
    by (inr (inr h)) =
        let w = split so.forms p.front (h.one ∷ h.others) (subst (λ (x : List Line). HaveForms so.forms x) h.is so.have) in
        let both = subst (λ (x : List Line). HaveForms (p.forms ++ w.back) x) (sym h.is) (joined p.forms w.back p.front (h.one ∷ h.others) p.have w.have_back) in
        let whole : p.forms ++ w.back ≡ so.forms = so.only (p.forms ++ w.back) both in
        absurd (no_break_in ends p.forms w.back h.one h.others (h.others ++ rest) fault c w.have_back (subst Viable (sym whole) (viable so.forms s so.runs)) (subst IsShallow (sym whole) so.shallow) (subst (λ (x : List Line). BreaksBehind ends p.forms x fault c) h.behind p.breaks))

pub least_behind : (ends : ℕ → Place) (ls front rest : List Line) (fault : Option Break) (s : State) (so : SoFar front s) (b : Break) → ls ≡ front ++ rest → Least (Some b) (BreaksBehind ends so.forms rest fault) → Least (Some b) (BreaksOf ends ls fault)
least_behind ends ls front rest fault s so b cut least = least_same least to (only_behind ends ls front rest fault s so b cut least.as_said.0)
  where
    to : (c : Break) → BreaksBehind ends so.forms rest fault c → BreaksOf ends ls fault c
    to c h = record { front = front; rest = rest; forms = so.forms; cut = cut; have = so.have; viable = viable so.forms s so.runs; shallow = so.shallow; breaks = h }

-- ---- the kinds of stops

goes_on_at : (ps : List Placed) (s : State) (file : ℕ) → run ps start ≡ Some s → GoesOnAt s file → GoesOn file ps
goes_on_at ps s file e here = by s.unit refl
  where
    by : (o : Option Begun) → s.unit ≡ o → GoesOn file ps
    by None is = goes_on_free ps s file e is
    by (Some u) is = subst (λ (n : ℕ). GoesOn n ps) (here u is) (goes_on_inside ps s u e is)

-- a statement that stops
pub least_statement : (ends : ℕ → Place) (front ls : List Line) (l : Line) (fault : Option Break) (s : State) (so : SoFar front s) (b : Break) → GoesOnAt s (file_of l) → Least (Some b) (StopsAt s l) → Least (Some b) (BreaksBehind ends so.forms (l ∷ ls) fault)
least_statement ends front ls l fault s so b here least = least_same least to from
  where
    goes : GoesOn (file_of l) so.forms
    goes = goes_on_at so.forms s (file_of l) so.runs here

    run_on : (g : FormTree) → run (so.forms ++ placed_at l g ∷ []) start ≡ step (placed_at l g) s
    run_on g = ran s (placed_at l g) so.forms so.runs

    to : (c : Break) → StopsAt s l c → BreaksBehind ends so.forms (l ∷ ls) fault c
    to c (inl h) = inl (goes, inl h)
    to c (inr (inl h)) = inl (goes, inr (inl h))
    to c (inr (inr (inl h))) = inl (goes, inr (inr (inl ((h.0.0, h.0.1, λ g k v. not_viable (so.forms ++ placed_at l g ∷ []) (run_on g ∙ h.0.2 g k) v), h.1))))
    to c (inr (inr (inr h))) = inl (goes, inr (inr (inr ((h.0.0, h.0.1, λ g k. opens g (h.0.2 g k)), h.1))))
      where
        opens : (g : FormTree) → Deepens s (placed_at l g) → Viable (so.forms ++ placed_at l g ∷ []) × IsTooDeep so.forms g
        opens g w = (viable (so.forms ++ placed_at l g ∷ []) w.0 (run_on g ∙ w.1), deep_is so.forms s w.0 (placed_at l g) so.runs w.1 w.2)

    refuses : (g : FormTree) → (Viable (so.forms ++ placed_at l g ∷ []) → ⊥) → (o : Option State) → step (placed_at l g) s ≡ o → step (placed_at l g) s ≡ None
    refuses g out None e = e
    refuses g out (Some t) e = absurd (out (viable (so.forms ++ placed_at l g ∷ []) t (run_on g ∙ e)))

    deepens : (g : FormTree) → Viable (so.forms ++ placed_at l g ∷ []) → IsTooDeep so.forms g → (o : Option State) → step (placed_at l g) s ≡ o → Deepens s (placed_at l g)
    deepens g v deep None e = absurd (not_viable (so.forms ++ placed_at l g ∷ []) (run_on g ∙ e) v)
    deepens g v deep (Some t) e = (t, e, is_deep so.forms s t (placed_at l g) so.runs e deep)

    from_in : (c : Break) → BreaksIn so.forms l c → StopsAt s l c
    from_in c (inl h) = inl h
    from_in c (inr (inl h)) = inr (inl h)
    from_in c (inr (inr (inl h))) = inr (inr (inl ((h.0.0, h.0.1, λ g k. refuses g (h.0.2 g k) (step (placed_at l g) s) refl), h.1)))
    from_in c (inr (inr (inr h))) = inr (inr (inr ((h.0.0, h.0.1, λ g k. deepens g (h.0.2 g k).0 (h.0.2 g k).1 (step (placed_at l g) s) refl), h.1)))

    from : (c : Break) → BreaksBehind ends so.forms (l ∷ ls) fault c → StopsAt s l c
    from c (inl h) = from_in c h.1
    from c (inr h) = absurd (h.0 goes)

not_complete : (front : List Line) (s : State) (so : SoFar front s) (u : Begun) → s.unit ≡ Some u → Complete so.forms → ⊥
not_complete front s so u is c = let free_here = complete_free so.forms s so.runs c in absurd (cc)

abbrev OpenEnd : (ℕ → Place) → Begun → Break
OpenEnd ends u = broken S7 (ends u.file)

ends_inside : (ends : ℕ → Place) (front : List Line) (s : State) (so : SoFar front s) (u : Begun) → s.unit ≡ Some u → EndsInside ends so.forms (OpenEnd ends u)
ends_inside ends front s so u is = (u.file, not_complete front s so u is, goes_on_inside so.forms s u so.runs is, refl)

only_end : (ends : ℕ → Place) (front : List Line) (s : State) (so : SoFar front s) (u : Begun) → s.unit ≡ Some u → (c : Break) → EndsInside ends so.forms c → c ≡ OpenEnd ends u
only_end ends front s so u is c h = h.3 ∙ ap (λ (n : ℕ). broken S7 (ends n)) (sym (goes_on_there so.forms s u h.0 so.runs is h.2))

not_there : (front : List Line) (s : State) (so : SoFar front s) (u : Begun) (file : ℕ) → s.unit ≡ Some u → (u.file ≡ file → ⊥) → GoesOn file so.forms → ⊥
not_there front s so u file is other goes = other (goes_on_there so.forms s u file so.runs is goes)

-- another source begins while a unit is open: with a statement, with a fault of the text
pub least_left : (ends : ℕ → Place) (front ls : List Line) (l : Line) (fault : Option Break) (s : State) (so : SoFar front s) (u : Begun) → s.unit ≡ Some u → (u.file ≡ file_of l → ⊥) → Least (Some (OpenEnd ends u)) (BreaksBehind ends so.forms (l ∷ ls) fault)
least_left ends front ls l fault s so u is other = least_one (OpenEnd ends u) (inr (not_there front s so u (file_of l) is other, ends_inside ends front s so u is)) only
  where
    only : (c : Break) → BreaksBehind ends so.forms (l ∷ ls) fault c → c ≡ OpenEnd ends u
    only c (inl h) = absurd (not_there front s so u (file_of l) is other h.0)
    only c (inr h) = only_end ends front s so u is c h.1

pub least_left_fault : (ends : ℕ → Place) (front : List Line) (t : Break) (s : State) (so : SoFar front s) (u : Begun) → s.unit ≡ Some u → (u.file ≡ (t.place).file → ⊥) → Least (Some (OpenEnd ends u)) (BreaksBehind ends so.forms [] (Some t))
least_left_fault ends front t s so u is other = least_one (OpenEnd ends u) (inr (not_there front s so u (t.place).file is other, ends_inside ends front s so u is)) only
  where
    only : (c : Break) → BreaksBehind ends so.forms [] (Some t) c → c ≡ OpenEnd ends u
    only c (inl h) = absurd (not_there front s so u (t.place).file is other h.0)
    only c (inr h) = only_end ends front s so u is c h.1

-- a fault of the text where the source goes on
pub least_text : (ends : ℕ → Place) (front : List Line) (t : Break) (s : State) (so : SoFar front s) → GoesOnAt s (t.place).file → Least (Some t) (BreaksBehind ends so.forms [] (Some t))
least_text ends front t s so here = least_one t (inl (goes, refl)) only
  where
    goes : GoesOn (t.place).file so.forms
    goes = goes_on_at so.forms s (t.place).file so.runs here

    only : (c : Break) → BreaksBehind ends so.forms [] (Some t) c → c ≡ t
    only c (inl h) = h.1
    only c (inr h) = absurd (h.0 goes)

-- the last source ends while a unit is open
pub least_end : (ends : ℕ → Place) (front : List Line) (s : State) (so : SoFar front s) (u : Begun) → s.unit ≡ Some u → Least (Some (OpenEnd ends u)) (BreaksBehind ends so.forms [] None)
least_end ends front s so u is = least_one (OpenEnd ends u) (ends_inside ends front s so u is) (only_end ends front s so u is)

-- where all was read, and no unit is open, nothing breaks
pub no_break : (ends : ℕ → Place) (ls : List Line) (s : State) (so : SoFar ls s) → s.unit ≡ None → (c : Break) → BreaksOf ends ls None c → ⊥
no_break ends ls s so none c p = by (two_cuts ls [] p.front p.rest (append-nil ls ∙ p.cut))
  where
    by : Cuts ls [] p.front p.rest → ⊥
    by (inl h) =
        let same : p.forms ≡ so.forms = so.only p.forms (subst (λ (x : List Line). HaveForms p.forms x) (sym h.0) p.have) in
        let breaks : EndsInside ends p.forms c = subst (λ (x : List Line). BreaksBehind ends p.forms x None c) (sym h.1) p.breaks in
        breaks.1 (subst (λ (x : List Placed). Complete x) (sym same) (s.done, spelled so.forms s so.runs none))
    by (inr (inl h)) = let e = h.behind in absurd (cc)
    by (inr (inr h)) =
        let w = split so.forms p.front (h.one ∷ h.others) (subst (λ (x : List Line). HaveForms so.forms x) h.is so.have) in
        let both = subst (λ (x : List Line). HaveForms (p.forms ++ w.back) x) (sym h.is) (joined p.forms w.back p.front (h.one ∷ h.others) p.have w.have_back) in
        let whole : p.forms ++ w.back ≡ so.forms = so.only (p.forms ++ w.back) both in
        no_break_in ends p.forms w.back h.one h.others (h.others ++ []) None c w.have_back (subst Viable (sym whole) (viable so.forms s so.runs)) (subst IsShallow (sym whole) so.shallow) (subst (λ (x : List Line). BreaksBehind ends p.forms x None c) h.behind p.breaks)

-- where something breaks, no units are spelled
pub not_spelled : (ends : ℕ → Place) (ls front rest : List Line) (fault : Option Break) (s : State) (so : SoFar front s) (b : Break) → ls ≡ front ++ rest → BreaksBehind ends so.forms rest fault b → (ps : List Placed) → HaveForms ps ls → Complete ps → IsShallow ps → fault ≡ None → ⊥
not_spelled ends ls front rest fault s so b cut breaks ps have whole shallow none = by rest fault w.have_back breaks none
  where
    w : Split ps front rest
    w = split ps front rest (subst (λ (x : List Line). HaveForms ps x) cut have)

    here : ps ≡ so.forms ++ w.back
    here = w.is ∙ ap (λ (x : List Placed). x ++ w.back) (so.only w.front w.have_front)

    complete : Complete (so.forms ++ w.back)
    complete = subst Complete here whole

    by : (rest : List Line) (fault : Option Break) → HaveForms w.back rest → BreaksBehind ends so.forms rest fault b → fault ≡ None → ⊥
    by (l ∷ ls) fault h x e = no_break_in ends so.forms w.back l ls ls fault b h ([], subst Complete (sym (append-nil (so.forms ++ w.back))) complete) (subst IsShallow here shallow) x
    by [] (Some t) h x e = absurd (cc)
    by [] None h x e = x.1 (subst Complete (ap (λ (y : List Placed). so.forms ++ y) (none_only w.back h) ∙ append-nil so.forms) complete)
