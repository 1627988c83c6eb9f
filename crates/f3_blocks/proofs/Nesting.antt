-- The machine reads what blocks spell, and nothing else.
use Rattle.std.proofs.Common.{◌≡◌, Bool, true, false, List, [], ◌∷◌, ◌++◌, map, Option, Some, None, refl, sym, ap, subst, ◌∙◌, append_assoc}
use Rattle.std.specs.Prelude.{option_and_then}
use Rattle.std.proofs.lemmas.List.{append-nil}
use Rattle.f3_places.specs.declared.source.Place.{Place}
use Rattle.f3_tree.specs.Expressions.{Tree}
use Rattle.f3_tree.specs.Statements.{Act, Selects, StatementTree, acts, acts_if, branches, selects, repeats, associates, Block, no_statements, statements, Branches, no_branches, branch, Alternative, no_alternative, alternative, Cases, no_cases, case_block, block_of}
use Rattle.f3_form.specs.declared.form.Ended.TheVariants as ended
use Rattle.f3_form.specs.Forms as form
use Rattle.f3_blocks.specs.Pieces.{Placed, Piece, act, act_if, if_begins, else_if_begins, else_begins, if_ends, select_begins, case_begins, select_ends, do_begins, do_ends, associate_begins, associate_ends, no_piece, piece_of}
use Rattle.f3_blocks.specs.Blocks.{flat, flats, flat_if, flat_else_ifs, flat_else, flat_cases, may_act, IsSome, IsProper, AreProper, AreBranches, IsElse, AreCases, IsBlock}
use Rattle.f3_blocks.specs.Machine.{Tested, Chosen, branches_from, cases_from, Open, in_if, in_else, in_select, in_case, in_do, in_associate, State, start, in_loop, may_stand, within, behind, pushed, opened, to_else_if, to_else, close_if, to_case, close_select, close_do, close_associate, step, run}

abbrev pub at : List Open → List StatementTree → State
at os b = record { opens = os; body = b }

-- ---- what a block spells is read

abbrev pub list_of : Block → List StatementTree
list_of no_statements = []
list_of (statements s ss) = s ∷ list_of ss

pub block_list : (b : Block) → block_of (list_of b) ≡ b
block_list no_statements = refl
block_list (statements s ss) = ap (λ (x : Block). statements s x) (block_list ss)

abbrev tested_of : Branches → List Tested
tested_of no_branches = []
tested_of (branch p e b bs) = (p, e, b) ∷ tested_of bs

branches_tested : (bs : Branches) → branches_from (tested_of bs) ≡ bs
branches_tested no_branches = refl
branches_tested (branch p e b bs) = ap (λ (x : Branches). branch p e b x) (branches_tested bs)

abbrev chosen_of : Cases → List Chosen
chosen_of no_cases = []
chosen_of (case_block p s b cs) = (p, s, b) ∷ chosen_of cs

cases_chosen : (cs : Cases) → cases_from (chosen_of cs) ≡ cs
cases_chosen no_cases = refl
cases_chosen (case_block p s b cs) = ap (λ (x : Cases). case_block p s b x) (cases_chosen cs)

-- after IF or ELSE IF these statements end the construct, with this ELSE
abbrev Ending : Bool → List Piece → List Piece → Alternative → List Open → List StatementTree → Type 0
Ending procedure ending r other os b =
    (done : List Tested) (q : Place) (f : Tree) (body : List StatementTree)
    → run procedure ending (at (in_if done q f b ∷ os) body) ≡ run procedure r (at os (b ++ branches (branches_from (done ++ (q, f, block_of body) ∷ [])) other ∷ []))

opens : (o : Open) (os : List Open) (b : List StatementTree) → may_stand os ≡ true → opened o (at os b) ≡ Some (at (o ∷ os) [])
opens o os b stands = rw stands refl

module _ (procedure : Bool) where
  mutual
    again : (s : StatementTree) (r : List Piece) (os : List Open) (b : List StatementTree) → may_stand os ≡ true → IsProper procedure (in_loop os) s → run procedure (flat s r) (at os b) ≡ run procedure r (at os (b ++ s ∷ []))
    again (acts p a) r os b stands h = rw (stands, h) refl
    again (acts_if p e q a) r os b stands h = rw (stands, h) refl
    again (branches bs other) r os b stands h = again_if bs (flat_else other (if_ends ∷ r)) r other os b stands h.0 h.1 (again_else other r os b h.2)
    again (selects p e cs) r os b stands h = again_select cs p e r os b stands h
    again (repeats p c body) r os b stands h =
        ap (option_and_then (run procedure (flats body (do_ends ∷ r)))) (opens (in_do p c b) os b stands)
        ∙ agains body (do_ends ∷ r) (in_do p c b ∷ os) [] refl h
        ∙ ap (λ (x : Block). run procedure r (at os (b ++ repeats p c x ∷ []))) (block_list body)
    again (associates p xs body) r os b stands h =
        ap (option_and_then (run procedure (flats body (associate_ends ∷ r)))) (opens (in_associate p xs b) os b stands)
        ∙ agains body (associate_ends ∷ r) (in_associate p xs b ∷ os) [] refl h
        ∙ ap (λ (x : Block). run procedure r (at os (b ++ associates p xs x ∷ []))) (block_list body)

    agains : (ss : Block) (r : List Piece) (os : List Open) (b : List StatementTree) → may_stand os ≡ true → AreProper procedure (in_loop os) ss → run procedure (flats ss r) (at os b) ≡ run procedure r (at os (b ++ list_of ss))
    agains no_statements r os b stands h = ap (λ (x : List StatementTree). run procedure r (at os x)) (sym (append-nil b))
    agains (statements s ss) r os b stands h =
        again s (flats ss r) os b stands h.0
        ∙ agains ss r os (b ++ s ∷ []) stands h.1
        ∙ ap (λ (x : List StatementTree). run procedure r (at os x)) (append_assoc b (s ∷ []) (list_of ss))

    again_if : (bs : Branches) (ending r : List Piece) (other : Alternative) (os : List Open) (b : List StatementTree) → may_stand os ≡ true → IsSome bs → AreBranches procedure (in_loop os) bs → Ending procedure ending r other os b
        → run procedure (flat_if bs ending) (at os b) ≡ run procedure r (at os (b ++ branches bs other ∷ []))
    again_if no_branches ending r other os b stands some h ends = absurd some
    again_if (branch p e body bs) ending r other os b stands some h ends =
        ap (option_and_then (run procedure (flats body (flat_else_ifs bs ending)))) (opens (in_if [] p e b) os b stands)
        ∙ agains body (flat_else_ifs bs ending) (in_if [] p e b ∷ os) [] refl h.0
        ∙ again_else_ifs bs ending r other os b [] p e (list_of body) h.1 ends
        ∙ ap (λ (x : Block). run procedure r (at os (b ++ branches (branch p e x (branches_from (tested_of bs))) other ∷ []))) (block_list body)
        ∙ ap (λ (x : Branches). run procedure r (at os (b ++ branches (branch p e body x) other ∷ []))) (branches_tested bs)

    again_else_ifs : (bs : Branches) (ending r : List Piece) (other : Alternative) (os : List Open) (b : List StatementTree) (done : List Tested) (q : Place) (f : Tree) (body : List StatementTree) → AreBranches procedure (in_loop os) bs → Ending procedure ending r other os b
        → run procedure (flat_else_ifs bs ending) (at (in_if done q f b ∷ os) body) ≡ run procedure r (at os (b ++ branches (branches_from (done ++ (q, f, block_of body) ∷ tested_of bs)) other ∷ []))
    again_else_ifs no_branches ending r other os b done q f body h ends = ends done q f body
    again_else_ifs (branch p e ss bs) ending r other os b done q f body h ends =
        agains ss (flat_else_ifs bs ending) (in_if (done ++ (q, f, block_of body) ∷ []) p e b ∷ os) [] refl h.0
        ∙ again_else_ifs bs ending r other os b (done ++ (q, f, block_of body) ∷ []) p e (list_of ss) h.1 ends
        ∙ ap (λ (x : Block). run procedure r (at os (b ++ branches (branches_from ((done ++ (q, f, block_of body) ∷ []) ++ (p, e, x) ∷ tested_of bs)) other ∷ []))) (block_list ss)
        ∙ ap (λ (x : List Tested). run procedure r (at os (b ++ branches (branches_from x) other ∷ []))) (append_assoc done ((q, f, block_of body) ∷ []) ((p, e, ss) ∷ tested_of bs))

    again_else : (other : Alternative) (r : List Piece) (os : List Open) (b : List StatementTree) → IsElse procedure (in_loop os) other → Ending procedure (flat_else other (if_ends ∷ r)) r other os b
    again_else no_alternative r os b h done q f body = refl
    again_else (alternative ss) r os b h done q f body =
        agains ss (if_ends ∷ r) (in_else (done ++ (q, f, block_of body) ∷ []) b ∷ os) [] refl h
        ∙ ap (λ (x : Block). run procedure r (at os (b ++ branches (branches_from (done ++ (q, f, block_of body) ∷ [])) (alternative x) ∷ []))) (block_list ss)

    again_select : (cs : Cases) (p : Place) (e : Tree) (r : List Piece) (os : List Open) (b : List StatementTree) → may_stand os ≡ true → AreCases procedure (in_loop os) cs
        → run procedure (flat (selects p e cs) r) (at os b) ≡ run procedure r (at os (b ++ selects p e cs ∷ []))
    again_select no_cases p e r os b stands h = ap (option_and_then (run procedure (select_ends ∷ r))) (opens (in_select p e b) os b stands)
    again_select (case_block q t ss cs) p e r os b stands h =
        ap (option_and_then (run procedure (case_begins q t ∷ flats ss (flat_cases cs (select_ends ∷ r))))) (opens (in_select p e b) os b stands)
        ∙ agains ss (flat_cases cs (select_ends ∷ r)) (in_case p e [] q t b ∷ os) [] refl h.0
        ∙ again_cases cs p e r os b [] q t (list_of ss) h.1
        ∙ ap (λ (x : Block). run procedure r (at os (b ++ selects p e (case_block q t x (cases_from (chosen_of cs))) ∷ []))) (block_list ss)
        ∙ ap (λ (x : Cases). run procedure r (at os (b ++ selects p e (case_block q t ss x) ∷ []))) (cases_chosen cs)

    again_cases : (cs : Cases) (p : Place) (e : Tree) (r : List Piece) (os : List Open) (b : List StatementTree) (done : List Chosen) (q : Place) (t : Selects) (body : List StatementTree) → AreCases procedure (in_loop os) cs
        → run procedure (flat_cases cs (select_ends ∷ r)) (at (in_case p e done q t b ∷ os) body) ≡ run procedure r (at os (b ++ selects p e (cases_from (done ++ (q, t, block_of body) ∷ chosen_of cs)) ∷ []))
    again_cases no_cases p e r os b done q t body h = refl
    again_cases (case_block u v ss cs) p e r os b done q t body h =
        agains ss (flat_cases cs (select_ends ∷ r)) (in_case p e (done ++ (q, t, block_of body) ∷ []) u v b ∷ os) [] refl h.0
        ∙ again_cases cs p e r os b (done ++ (q, t, block_of body) ∷ []) u v (list_of ss) h.1
        ∙ ap (λ (x : Block). run procedure r (at os (b ++ selects p e (cases_from ((done ++ (q, t, block_of body) ∷ []) ++ (u, v, x) ∷ chosen_of cs)) ∷ []))) (block_list ss)
        ∙ ap (λ (x : List Chosen). run procedure r (at os (b ++ selects p e (cases_from x) ∷ []))) (append_assoc done ((q, t, block_of body) ∷ []) ((u, v, ss) ∷ chosen_of cs))

  pub runs : (b : Block) (ps : List Placed) → IsBlock procedure b ps → run procedure (map piece_of ps) start ≡ Some (at [] (list_of b))
  runs b ps h = subst (λ (x : List Piece). run procedure x start ≡ Some (at [] (list_of b))) h.1 (agains b [] [] [] refl h.0)

-- ---- what is read is spelled

-- IF, or ELSE IF behind other branches
abbrev at_test : List Tested → Place → Tree → Piece
at_test [] p e = if_begins p e
at_test (d ∷ ds) p e = else_if_begins p e

abbrev before : List Open → List Piece → List Piece
before [] r = r
before (in_if done p e b ∷ os) r = before os (flats (block_of b) (flat_if (branches_from done) (at_test done p e ∷ r)))
before (in_else done b ∷ os) r = before os (flats (block_of b) (flat_if (branches_from done) (else_begins ∷ r)))
before (in_select p e b ∷ os) r = before os (flats (block_of b) (select_begins p e ∷ r))
before (in_case p e done q t b ∷ os) r = before os (flats (block_of b) (select_begins p e ∷ flat_cases (cases_from done) (case_begins q t ∷ r)))
before (in_do p c b ∷ os) r = before os (flats (block_of b) (do_begins p c ∷ r))
before (in_associate p xs b ∷ os) r = before os (flats (block_of b) (associate_begins p xs ∷ r))

-- the statements read so far, and then others
abbrev written : State → List Piece → List Piece
written s r = before s.opens (flats (block_of s.body) r)

-- before the first CASE stands nothing
abbrev IsFresh : List Open → List StatementTree → Type 0
IsFresh (in_select p e b ∷ os) body = body ≡ []
IsFresh _ body = Unit {0}

-- each construct stands where a statement may, and what is closed of it is proper
abbrev AreGood : Bool → List Open → Type 0
AreGood procedure [] = Unit {0}
AreGood procedure (in_if done p e b ∷ os) = AreProper procedure (in_loop os) (block_of b) × (may_stand os ≡ true) × AreGood procedure os × AreBranches procedure (in_loop os) (branches_from done)
AreGood procedure (in_else done b ∷ os) = AreProper procedure (in_loop os) (block_of b) × (may_stand os ≡ true) × AreGood procedure os × AreBranches procedure (in_loop os) (branches_from done) × IsSome (branches_from done)
AreGood procedure (in_select p e b ∷ os) = AreProper procedure (in_loop os) (block_of b) × (may_stand os ≡ true) × AreGood procedure os
AreGood procedure (in_case p e done q t b ∷ os) = AreProper procedure (in_loop os) (block_of b) × (may_stand os ≡ true) × AreGood procedure os × AreCases procedure (in_loop os) (cases_from done)
AreGood procedure (in_do p c b ∷ os) = AreProper procedure (in_loop os) (block_of b) × (may_stand os ≡ true) × AreGood procedure os
AreGood procedure (in_associate p xs b ∷ os) = AreProper procedure (in_loop os) (block_of b) × (may_stand os ≡ true) × AreGood procedure os

record IsGood (procedure : Bool) (s : State) : Type 0 where
  opens : AreGood procedure s.opens
  body : AreProper procedure (in_loop s.opens) (block_of s.body)
  fresh : IsFresh s.opens s.body

flats-push : (b : List StatementTree) (s : StatementTree) (r : List Piece) → flats (block_of (b ++ s ∷ [])) r ≡ flats (block_of b) (flat s r)
flats-push [] s r = refl
flats-push (t ∷ b) s r = ap (flat t) (flats-push b s r)

proper-push : (procedure looped : Bool) (b : List StatementTree) (s : StatementTree) → AreProper procedure looped (block_of b) → IsProper procedure looped s → AreProper procedure looped (block_of (b ++ s ∷ []))
proper-push procedure looped [] s h p = (p, tt)
proper-push procedure looped (t ∷ b) s h p = (h.0, proper-push procedure looped b s h.1 p)

else_ifs-push : (ds : List Tested) (d : Tested) (r : List Piece) → flat_else_ifs (branches_from (ds ++ d ∷ [])) r ≡ flat_else_ifs (branches_from ds) (else_if_begins d.0 d.1 ∷ flats d.2 r)
else_ifs-push [] d r = refl
else_ifs-push (x ∷ ds) d r = ap (λ (y : List Piece). else_if_begins x.0 x.1 ∷ flats x.2 y) (else_ifs-push ds d r)

if-push : (ds : List Tested) (d : Tested) (r : List Piece) → flat_if (branches_from (ds ++ d ∷ [])) r ≡ flat_if (branches_from ds) (at_test ds d.0 d.1 ∷ flats d.2 r)
if-push [] d r = refl
if-push (x ∷ ds) d r = ap (λ (y : List Piece). if_begins x.0 x.1 ∷ flats x.2 y) (else_ifs-push ds d r)

at_test-push : (ds : List Tested) (d : Tested) (p : Place) (e : Tree) → at_test (ds ++ d ∷ []) p e ≡ else_if_begins p e
at_test-push [] d p e = refl
at_test-push (x ∷ ds) d p e = refl

branches-push : (procedure looped : Bool) (ds : List Tested) (d : Tested) → AreBranches procedure looped (branches_from ds) → AreProper procedure looped d.2 → AreBranches procedure looped (branches_from (ds ++ d ∷ []))
branches-push procedure looped [] d h p = (p, tt)
branches-push procedure looped (x ∷ ds) d h p = (h.0, branches-push procedure looped ds d h.1 p)

some-push : (ds : List Tested) (d : Tested) → IsSome (branches_from (ds ++ d ∷ []))
some-push [] d = tt
some-push (x ∷ ds) d = tt

cases-push : (cs : List Chosen) (c : Chosen) (r : List Piece) → flat_cases (cases_from (cs ++ c ∷ [])) r ≡ flat_cases (cases_from cs) (case_begins c.0 c.1 ∷ flats c.2 r)
cases-push [] c r = refl
cases-push (x ∷ cs) c r = ap (λ (y : List Piece). case_begins x.0 x.1 ∷ flats x.2 y) (cases-push cs c r)

are_cases-push : (procedure looped : Bool) (cs : List Chosen) (c : Chosen) → AreCases procedure looped (cases_from cs) → AreProper procedure looped c.2 → AreCases procedure looped (cases_from (cs ++ c ∷ []))
are_cases-push procedure looped [] c h p = (p, tt)
are_cases-push procedure looped (x ∷ cs) c h p = (h.0, are_cases-push procedure looped cs c h.1 p)

-- one step reads one statement
record Reads (procedure : Bool) (p : Piece) (s t : State) : Type 0 where
  writes : (r : List Piece) → written t r ≡ written s (p ∷ r)
  good : IsGood procedure t

abbrev got : State → Option State
got s = Some s

fresh_stands : (os : List Open) (b : List StatementTree) → may_stand os ≡ true → IsFresh os b
fresh_stands [] b h = tt
fresh_stands (in_if done p e c ∷ os) b h = tt
fresh_stands (in_else done c ∷ os) b h = tt
fresh_stands (in_select p e c ∷ os) b h = absurd (cc)
fresh_stands (in_case p e done q t c ∷ os) b h = tt
fresh_stands (in_do p d c ∷ os) b h = tt
fresh_stands (in_associate p d c ∷ os) b h = tt

module _ (procedure : Bool) where
  reads_at : (p : Piece) (s t u : State) → Reads procedure p s u → got u ≡ got t → Reads procedure p s t
  reads_at p s t u h e = let same : u ≡ t = cc in subst (λ (x : State). Reads procedure p s x) same h

  pushes : (p : Piece) (os : List Open) (b : List StatementTree) (n : StatementTree) (s : State) → IsProper procedure (in_loop os) n → ((r : List Piece) → before os (flats (block_of b) (flat n r)) ≡ written s (p ∷ r))
      → AreProper procedure (in_loop os) (block_of b) → may_stand os ≡ true → AreGood procedure os → Reads procedure p s (at os (b ++ n ∷ []))
  pushes p os b n s proper same body stands good = record {
    writes = λ r. ap (before os) (flats-push b n r) ∙ same r;
    good = record { opens = good; body = proper-push procedure (in_loop os) b n body proper; fresh = fresh_stands os (b ++ n ∷ []) stands };
  }

  pushed_reads : (allowed : Bool) (n : StatementTree) (p : Piece) (s t : State) → (allowed ≡ true → IsProper procedure (in_loop s.opens) n) → ((r : List Piece) → flat n r ≡ p ∷ r) → IsGood procedure s → pushed allowed n s ≡ Some t → Reads procedure p s t
  pushed_reads allowed n p s t proper same good is = by (may_stand s.opens) allowed refl refl
    where
      by : (stands ok : Bool) → may_stand s.opens ≡ stands → allowed ≡ ok → Reads procedure p s t
      by true true one two = reads_at p s t _ (pushes p s.opens s.body n s (proper two) (λ r. ap (λ (x : List Piece). written s x) (same r)) good.body one good.opens) (rw (one, two) at is)
      by true false one two = let none = rw (one, two) at is in absurd (cc)
      by false ok one two = let none = rw one at is in absurd (cc)

  opened_reads : (o : Open) (p : Piece) (s t : State) → (may_stand s.opens ≡ true → Reads procedure p s (at (o ∷ s.opens) [])) → opened o s ≡ Some t → Reads procedure p s t
  opened_reads o p s t reads is = by (may_stand s.opens) refl
    where
      by : (stands : Bool) → may_stand s.opens ≡ stands → Reads procedure p s t
      by true one = reads_at p s t _ (reads one) (rw one at is)
      by false one = let none = rw one at is in absurd (cc)

  else_if_reads : (p : Place) (e : Tree) (os : List Open) (b : List StatementTree) (t : State) → IsGood procedure (at os b) → to_else_if p e os b ≡ Some t → Reads procedure (else_if_begins p e) (at os b) t
  else_if_reads p e [] b t good is = absurd (cc)
  else_if_reads p e (in_if done q f c ∷ os) b t good is = reads_at _ _ t _ (record {
    writes = λ r. ap (λ (x : List Piece). before os (flats (block_of c) x)) (ap (λ (x : Piece). flat_if (branches_from (done ++ (q, f, block_of b) ∷ [])) (x ∷ r)) (at_test-push done (q, f, block_of b) p e) ∙ if-push done (q, f, block_of b) (else_if_begins p e ∷ r));
    good = record { opens = (good.opens.0, good.opens.1, good.opens.2, branches-push procedure (in_loop os) done (q, f, block_of b) good.opens.3 good.body); body = tt; fresh = tt };
  }) is
  else_if_reads p e (in_else done c ∷ os) b t good is = absurd (cc)
  else_if_reads p e (in_select q f c ∷ os) b t good is = absurd (cc)
  else_if_reads p e (in_case q f done u v c ∷ os) b t good is = absurd (cc)
  else_if_reads p e (in_do q d c ∷ os) b t good is = absurd (cc)
  else_if_reads p e (in_associate q d c ∷ os) b t good is = absurd (cc)

  else_reads : (os : List Open) (b : List StatementTree) (t : State) → IsGood procedure (at os b) → to_else os b ≡ Some t → Reads procedure else_begins (at os b) t
  else_reads [] b t good is = absurd (cc)
  else_reads (in_if done q f c ∷ os) b t good is = reads_at _ _ t _ (record {
    writes = λ r. ap (λ (x : List Piece). before os (flats (block_of c) x)) (if-push done (q, f, block_of b) (else_begins ∷ r));
    good = record { opens = (good.opens.0, good.opens.1, good.opens.2, branches-push procedure (in_loop os) done (q, f, block_of b) good.opens.3 good.body, some-push done (q, f, block_of b)); body = tt; fresh = tt };
  }) is
  else_reads (in_else done c ∷ os) b t good is = absurd (cc)
  else_reads (in_select q f c ∷ os) b t good is = absurd (cc)
  else_reads (in_case q f done u v c ∷ os) b t good is = absurd (cc)
  else_reads (in_do q d c ∷ os) b t good is = absurd (cc)
  else_reads (in_associate q d c ∷ os) b t good is = absurd (cc)

  end_if_reads : (os : List Open) (b : List StatementTree) (t : State) → IsGood procedure (at os b) → close_if os b ≡ Some t → Reads procedure if_ends (at os b) t
  end_if_reads [] b t good is = absurd (cc)
  end_if_reads (in_if done q f c ∷ os) b t good is = reads_at _ _ t _ (pushes if_ends os c (branches (branches_from (done ++ (q, f, block_of b) ∷ [])) no_alternative) _
      (some-push done (q, f, block_of b), branches-push procedure (in_loop os) done (q, f, block_of b) good.opens.3 good.body, tt)
      (λ r. ap (λ (x : List Piece). before os (flats (block_of c) x)) (if-push done (q, f, block_of b) (if_ends ∷ r)))
      good.opens.0 good.opens.1 good.opens.2) is
  end_if_reads (in_else done c ∷ os) b t good is = reads_at _ _ t _ (pushes if_ends os c (branches (branches_from done) (alternative (block_of b))) _
      (good.opens.4, good.opens.3, good.body) (λ r. refl) good.opens.0 good.opens.1 good.opens.2) is
  end_if_reads (in_select q f c ∷ os) b t good is = absurd (cc)
  end_if_reads (in_case q f done u v c ∷ os) b t good is = absurd (cc)
  end_if_reads (in_do q d c ∷ os) b t good is = absurd (cc)
  end_if_reads (in_associate q d c ∷ os) b t good is = absurd (cc)

  case_reads : (p : Place) (k : Selects) (os : List Open) (b : List StatementTree) (t : State) → IsGood procedure (at os b) → to_case p k os b ≡ Some t → Reads procedure (case_begins p k) (at os b) t
  case_reads p k [] b t good is = absurd (cc)
  case_reads p k (in_if done q f c ∷ os) b t good is = absurd (cc)
  case_reads p k (in_else done c ∷ os) b t good is = absurd (cc)
  case_reads p k (in_select q f c ∷ os) b t good is = reads_at _ _ t _ (record {
    writes = λ r. ap (λ (x : List StatementTree). before os (flats (block_of c) (select_begins q f ∷ flats (block_of x) (case_begins p k ∷ r)))) (sym good.fresh);
    good = record { opens = (good.opens.0, good.opens.1, good.opens.2, tt); body = tt; fresh = tt };
  }) is
  case_reads p k (in_case q f done u v c ∷ os) b t good is = reads_at _ _ t _ (record {
    writes = λ r. ap (λ (x : List Piece). before os (flats (block_of c) (select_begins q f ∷ x))) (cases-push done (u, v, block_of b) (case_begins p k ∷ r));
    good = record { opens = (good.opens.0, good.opens.1, good.opens.2, are_cases-push procedure (in_loop os) done (u, v, block_of b) good.opens.3 good.body); body = tt; fresh = tt };
  }) is
  case_reads p k (in_do q d c ∷ os) b t good is = absurd (cc)
  case_reads p k (in_associate q d c ∷ os) b t good is = absurd (cc)

  end_select_reads : (os : List Open) (b : List StatementTree) (t : State) → IsGood procedure (at os b) → close_select os b ≡ Some t → Reads procedure select_ends (at os b) t
  end_select_reads [] b t good is = absurd (cc)
  end_select_reads (in_if done q f c ∷ os) b t good is = absurd (cc)
  end_select_reads (in_else done c ∷ os) b t good is = absurd (cc)
  end_select_reads (in_select q f c ∷ os) b t good is = reads_at _ _ t _ (pushes select_ends os c (selects q f no_cases) _ tt
      (λ r. ap (λ (x : List StatementTree). before os (flats (block_of c) (select_begins q f ∷ flats (block_of x) (select_ends ∷ r)))) (sym good.fresh))
      good.opens.0 good.opens.1 good.opens.2) is
  end_select_reads (in_case q f done u v c ∷ os) b t good is = reads_at _ _ t _ (pushes select_ends os c (selects q f (cases_from (done ++ (u, v, block_of b) ∷ []))) _
      (are_cases-push procedure (in_loop os) done (u, v, block_of b) good.opens.3 good.body)
      (λ r. ap (λ (x : List Piece). before os (flats (block_of c) (select_begins q f ∷ x))) (cases-push done (u, v, block_of b) (select_ends ∷ r)))
      good.opens.0 good.opens.1 good.opens.2) is
  end_select_reads (in_do q d c ∷ os) b t good is = absurd (cc)
  end_select_reads (in_associate q d c ∷ os) b t good is = absurd (cc)

  end_do_reads : (os : List Open) (b : List StatementTree) (t : State) → IsGood procedure (at os b) → close_do os b ≡ Some t → Reads procedure do_ends (at os b) t
  end_do_reads [] b t good is = absurd (cc)
  end_do_reads (in_if done q f c ∷ os) b t good is = absurd (cc)
  end_do_reads (in_else done c ∷ os) b t good is = absurd (cc)
  end_do_reads (in_select q f c ∷ os) b t good is = absurd (cc)
  end_do_reads (in_case q f done u v c ∷ os) b t good is = absurd (cc)
  end_do_reads (in_do q d c ∷ os) b t good is = reads_at _ _ t _ (pushes do_ends os c (repeats q d (block_of b)) _ good.body (λ r. refl) good.opens.0 good.opens.1 good.opens.2) is
  end_do_reads (in_associate q d c ∷ os) b t good is = absurd (cc)

  end_associate_reads : (os : List Open) (b : List StatementTree) (t : State) → IsGood procedure (at os b) → close_associate os b ≡ Some t → Reads procedure associate_ends (at os b) t
  end_associate_reads [] b t good is = absurd (cc)
  end_associate_reads (in_if done q f c ∷ os) b t good is = absurd (cc)
  end_associate_reads (in_else done c ∷ os) b t good is = absurd (cc)
  end_associate_reads (in_select q f c ∷ os) b t good is = absurd (cc)
  end_associate_reads (in_case q f done u v c ∷ os) b t good is = absurd (cc)
  end_associate_reads (in_do q d c ∷ os) b t good is = absurd (cc)
  end_associate_reads (in_associate q d c ∷ os) b t good is = reads_at _ _ t _ (pushes associate_ends os c (associates q d (block_of b)) _ good.body (λ r. refl) good.opens.0 good.opens.1 good.opens.2) is

  step_reads : (p : Piece) (s t : State) → IsGood procedure s → step procedure p s ≡ Some t → Reads procedure p s t
  step_reads (act p a) s t good is = pushed_reads (may_act procedure (in_loop s.opens) a) (acts p a) (act p a) s t (λ h. h) (λ r. refl) good is
  step_reads (act_if p e q a) s t good is = pushed_reads (may_act procedure (in_loop s.opens) a) (acts_if p e q a) (act_if p e q a) s t (λ h. h) (λ r. refl) good is
  step_reads (if_begins p e) s t good is = opened_reads (in_if [] p e s.body) (if_begins p e) s t (λ stands. record { writes = λ r. refl; good = record { opens = (good.body, stands, good.opens, tt); body = tt; fresh = tt } }) is
  step_reads (else_if_begins p e) s t good is = else_if_reads p e s.opens s.body t good is
  step_reads else_begins s t good is = else_reads s.opens s.body t good is
  step_reads if_ends s t good is = end_if_reads s.opens s.body t good is
  step_reads (select_begins p e) s t good is = opened_reads (in_select p e s.body) (select_begins p e) s t (λ stands. record { writes = λ r. refl; good = record { opens = (good.body, stands, good.opens); body = tt; fresh = refl } }) is
  step_reads (case_begins p k) s t good is = case_reads p k s.opens s.body t good is
  step_reads select_ends s t good is = end_select_reads s.opens s.body t good is
  step_reads (do_begins p c) s t good is = opened_reads (in_do p c s.body) (do_begins p c) s t (λ stands. record { writes = λ r. refl; good = record { opens = (good.body, stands, good.opens); body = tt; fresh = tt } }) is
  step_reads do_ends s t good is = end_do_reads s.opens s.body t good is
  step_reads (associate_begins p xs) s t good is = opened_reads (in_associate p xs s.body) (associate_begins p xs) s t (λ stands. record { writes = λ r. refl; good = record { opens = (good.body, stands, good.opens); body = tt; fresh = tt } }) is
  step_reads associate_ends s t good is = end_associate_reads s.opens s.body t good is
  step_reads no_piece s t good is = absurd (cc)

pub then_some : {A B : Type 0} (f : A → Option B) (o : Option A) (y : B) → option_and_then f o ≡ Some y → (x : A) × (o ≡ Some x) × (f x ≡ Some y)
then_some f (Some x) y e = (x, refl, e)
then_some f None y e = absurd (cc)

module _ (procedure : Bool) where
  run_reads : (ps : List Piece) (s t : State) → IsGood procedure s → run procedure ps s ≡ Some t → IsGood procedure t × ((r : List Piece) → written t r ≡ written s (ps ++ r))
  run_reads [] s t good is = let same : s ≡ t = cc in (subst (λ (x : State). IsGood procedure x) same good, λ r. ap (λ (x : State). written x r) (sym same))
  run_reads (p ∷ ps) s t good is =
      let w = then_some (run procedure ps) (step procedure p s) t is in
      let one = step_reads procedure p s w.0 good w.1 in
      let rest = run_reads ps w.0 t one.good w.2 in
      (rest.0, λ r. rest.1 r ∙ one.writes (ps ++ r))

  pub reads : (ps : List Placed) (s : State) → run procedure (map piece_of ps) start ≡ Some s → s.opens ≡ [] → IsBlock procedure (block_of s.body) ps
  reads ps s is none =
      let h = run_reads (map piece_of ps) start s (record { opens = tt; body = tt; fresh = tt }) is in (
        subst (λ (x : List Open). AreProper procedure (in_loop x) (block_of s.body)) none h.0.body,
        ap (λ (x : List Open). before x (flats (block_of s.body) [])) (sym none) ∙ h.1 [] ∙ append-nil (map piece_of ps),
      )

  -- ---- fronts

  under : (f g h : State → Option State) (o : Option State) → ((s : State) → f s ≡ option_and_then g (h s)) → option_and_then f o ≡ option_and_then g (option_and_then h o)
  under f g h None same = refl
  under f g h (Some s) same = same s

  pub run-append : (ps qs : List Piece) (s : State) → run procedure (ps ++ qs) s ≡ option_and_then (run procedure qs) (run procedure ps s)
  run-append [] qs s = refl
  run-append (p ∷ ps) qs s = under (run procedure (ps ++ qs)) (run procedure qs) (run procedure ps) (step procedure p s) (run-append ps qs)

abbrev pub closing : Open → form.FormTree
closing (in_if done p e b) = form.ends (Some ended.If) None
closing (in_else done b) = form.ends (Some ended.If) None
closing (in_select p e b) = form.ends (Some ended.Select) None
closing (in_case p e done q t b) = form.ends (Some ended.Select) None
closing (in_do p c b) = form.ends (Some ended.Do) None
closing (in_associate p xs b) = form.ends (Some ended.Associate) None

-- statements at a place that end the open constructs
abbrev pub closers : Place → List Open → List Placed
closers place [] = []
closers place (o ∷ os) = record { place = place; form = closing o } ∷ closers place os

pub closes : (procedure : Bool) (place : Place) (os : List Open) (b : List StatementTree) → (body : List StatementTree) × (run procedure (map piece_of (closers place os)) (at os b) ≡ Some (at [] body))
closes procedure place [] b = (b, refl)
closes procedure place (in_if done p e c ∷ os) b = closes procedure place os (c ++ branches (branches_from (done ++ (p, e, block_of b) ∷ [])) no_alternative ∷ [])
closes procedure place (in_else done c ∷ os) b = closes procedure place os (c ++ branches (branches_from done) (alternative (block_of b)) ∷ [])
closes procedure place (in_select p e c ∷ os) b = closes procedure place os (c ++ selects p e no_cases ∷ [])
closes procedure place (in_case p e done q t c ∷ os) b = closes procedure place os (c ++ selects p e (cases_from (done ++ (q, t, block_of b) ∷ [])) ∷ [])
closes procedure place (in_do p d c ∷ os) b = closes procedure place os (c ++ repeats p d (block_of b) ∷ [])
closes procedure place (in_associate p xs c ∷ os) b = closes procedure place os (c ++ associates p xs (block_of b) ∷ [])
