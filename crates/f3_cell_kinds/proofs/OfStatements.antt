-- The kinds of the code of statements.
use Rattle.std.proofs.Common.{◌≡◌, ◌∙◌, sym, ap, ℕ, suc, ◌+◌, Bool, true, false, List, [], ◌∷◌, ◌++◌, map, length, Option, Some, refl, subst}
use Rattle.std.proofs.lemmas.Bool.{eqb-true}
use Rattle.f3_places.specs.declared.source.Place.{Place}
use Rattle.f3_program.specs.declared.declarations.Base.TheVariants as base
use Rattle.f3_program.specs.declared.declarations.Kind.{Kind}
use Rattle.f3_program.specs.declared.expression.Designator.{Designator}
use Rattle.f3_program.specs.declared.expression.Expression.{Expression}
use Rattle.f3_program.specs.declared.statement.Statement as y
use Rattle.f3_program.specs.declared.program.Program.{Program}
use Rattle.f3_meaning_whole.specs.Formed.{some, given_all, of_kind, is_number, is_scalar, is_condition, is_whole_number, takes, value_kind, object_kind, is_object_of, selected, or_none, is_formed, are_formed}
use Rattle.f3_meaning_whole.specs.Run.{setting_of}
use Rattle.f3_code.specs.Core as c
use Rattle.f3_code.specs.Lower.{assigning, end_work, lowered, lowered_block}
use Rattle.f3_code.specs.Lower as lower
use Rattle.f3_code.specs.declared.instruction.Instruction.TheVariants as i
use Rattle.f3_code.specs.State.{Line, line}
use Rattle.f3_code.specs.Code.{Ways, farther, looped, counting, scoped, departing_code, up_code, value_code, locate_code, work_code, code_of}
use Rattle.f3_cell_kinds.specs.Types.{CellType, Scope, Site, selecting, associating, selectors_on}
use Rattle.f3_cell_kinds.specs.Types as cell
use Rattle.f3_cell_kinds.specs.Effect.{on, truth}
use Rattle.f3_cell_kinds.specs.Kinds.{Leads}
use Rattle.f3_cell_kinds.specs.Values.{at, value_at, object_at, value_sites, locate_sites, work_sites}
use Rattle.f3_cell_kinds.specs.Program.{selected_at, departing_sites, up_sites, code_sites}
use Rattle.f3_cell_kinds.specs.Sense.{value_fits, object_fits, statement_fits, statements_fit}
use Rattle.f3_cell_kinds.proofs.Asked.{some_is, and_is, not_is, some_kind, base_same, kind_same, kinds_same}
use Rattle.f3_cell_kinds.proofs.Parts.{in_scope, Part, Onto, nothing, behind, seq, before, before_end, plain, first, last, farther_exits}
use Rattle.f3_cell_kinds.proofs.Steps.{on_part, drops}
use Rattle.f3_cell_kinds.proofs.OfValues.{value_part, object_part}
use Rattle.f3_cell_kinds.proofs.OfWork.{WorkFits, work_part}
use Rattle.f3_cell_kinds.proofs.OfParts.{TransferFits, transfer_part}
use Rattle.f3_cell_kinds.proofs.Fitting.{FinalsFit, end_fits, assigning_fits}
use Rattle.f3_cell_kinds.proofs.OfActions.{selectors_over, allocate_part, deallocate_part, status_part, items_part, selected_are, selectors_part, discards_part}
use Rattle.f3_cell_kinds.proofs.OfBlocks.{One, simple, changes, return_part, scope_part, departing_part, if_part, case_part, while_part, turns_part}

-- a condition is a scalar truth value
condition_is : (k : Kind) → is_condition k ≡ true → k ≡ truth
condition_is k e =
    let a = and_is _ _ e in let b = and_is _ _ a.0 in
    kind_same k base.Logical 0 false (base_same _ _ a.1) (eqb-true k.rank 0 b.1) (not_is _ b.0)

module _ (p : Program) (sites : ℕ → Site) (finals : FinalsFit p) (m : ℕ) (r : Kind) where
  -- an object that is of a kind, as it is declared
  object_is : (s : Scope) (k : Kind) (d : Designator) → is_object_of p s.variables s.names k d ≡ true →
      (object_kind p s.variables s.names d ≡ Some k) × (k ≡ object_at p r s d)
  object_is s k d e =
      let v = some_kind (object_kind p s.variables s.names d) _ e in
      let same = kinds_same p s.variables s.names k (object_at p r s d) v.1 in
      (v.0 ∙ ap (λ (j : Kind). Some j) (sym same), same)

  condition_part : (x : Expression) (o : Option Place) (s : Scope) (h : List CellType) → some (value_kind p s.variables s.names x) is_condition ≡ true → value_fits p s x ≡ true →
      Part p sites (Onto p sites (at r s (cell.Datum truth ∷ h))) (value_code o x) (value_sites p r s h x) (at r s h)
  condition_part x o s h e fit =
      let v = some_kind (value_kind p s.variables s.names x) is_condition e in
      value_part p sites r s x o h truth (v.0 ∙ ap (λ (j : Kind). Some j) (condition_is _ v.1)) fit

  abbrev Done : c.Core → Option Place → Ways → Scope → List CellType → Type 0
  Done x o ws s h = One p sites finals m r ws s h (code_of m o x ws) (code_sites p m r s h ws.cells x)

  assign_part : (d : Designator) (k : Kind) (e : Expression) (o : Option Place) (ws : Ways) (s : Scope) (h : List CellType) →
      is_object_of p s.variables s.names k d ≡ true → some (value_kind p s.variables s.names e) (takes k) ≡ true → object_fits p s d ≡ true → value_fits p s e ≡ true →
      Done (c.Assign d (assigning (setting_of p) k) e) o ws s h
  assign_part d k e o ws s h is fits fit_d fit_e =
      let v = object_is s k d is in
      let q = some_kind (value_kind p s.variables s.names e) _ fits in
      let j = value_at p r s e in
      let n = object_at p r s d in
      let fit = subst (λ (z : Kind). takes z j ≡ true) v.1 q.1 in
      simple p sites finals m r s h (seq p sites (value_part p sites r s e o h j q.0 fit_e)
      (seq p sites (object_part p sites r s d o (cell.Datum j ∷ h) n (v.0 ∙ ap (λ (z : Kind). Some z) v.1) fit_d)
      (transfer_part p sites m o (assigning (setting_of p) k) (at r s h) n j
      (λ live. subst (λ (z : Kind). TransferFits p n j (assigning (setting_of p) z)) (sym v.1) (assigning_fits p finals n j fit)))))

  -- both are lent, there is work on the upper one, and it takes over
  moving_part : (k u v : Kind) (o : Option Place) (s : Scope) (h : List CellType) → k ≡ u → k ≡ v → k.is_allocatable ≡ true →
      Part p sites (Onto p sites (at r s h)) (line o i.LendBoth ∷ (work_code m o (end_work (setting_of p) k) ++ line o i.TakeOver ∷ []))
      (at r s (cell.Object u ∷ cell.Object v ∷ h) ∷ (work_sites p m (at r s (cell.Object v ∷ h)) u (end_work (setting_of p) k)
      ++ at r s (cell.Object u ∷ cell.Object v ∷ h) ∷ [])) (at r s (cell.Object u ∷ cell.Object v ∷ h))
  moving_part k u v o s h is_u is_v held =
      let same : u ≡ v = sym is_u ∙ is_v in
      let held_v : v.is_allocatable ≡ true = ap (λ (z : Kind). z.is_allocatable) (sym is_v) ∙ held in
      first p sites (plain p sites (line o i.LendBoth) (at r s h) (cell.Object u ∷ cell.Object v ∷ []) (cell.Object u ∷ cell.Object v ∷ []) (λ pc live c b. (
        v,
        subst (λ (z : Kind). Leads sites pc (on (sites pc) (cell.Object z ∷ cell.Object v ∷ []) (cell.Object z ∷ cell.Object v ∷ []))) same b,
      )))
      (seq p sites (work_part p sites m o (end_work (setting_of p) k) (at r s (cell.Object v ∷ h)) u
      (λ live. subst (λ (z : Kind). WorkFits p u (end_work (setting_of p) z)) (sym is_u) (end_fits p finals u)))
      (last p sites (plain p sites (line o i.TakeOver) (at r s h) (cell.Object u ∷ cell.Object v ∷ []) [] (λ pc live c b. (
        v,
        held_v,
        subst (λ (z : Kind). Leads sites pc (on (sites pc) (cell.Object z ∷ cell.Object v ∷ []) [])) same b,
      )))))

  move_part : (b : Bool) (k : Kind) (d e : Designator) (o : Option Place) (ws : Ways) (s : Scope) (h : List CellType) → k.is_allocatable ≡ true →
      is_object_of p s.variables s.names k d ≡ true → is_object_of p s.variables s.names k e ≡ true → object_fits p s d ≡ true → object_fits p s e ≡ true →
      Done (c.Move b (end_work (setting_of p) k) d e) o ws s h
  move_part true k d e o ws s h held is_d is_e fit_d fit_e =
      let x = object_is s k d is_d in let x' = object_is s k e is_e in
      let u = object_at p r s d in let v = object_at p r s e in
      simple p sites finals m r s h (seq p sites (object_part p sites r s d o h u (x.0 ∙ ap (λ (z : Kind). Some z) x.1) fit_d)
      (seq p sites (object_part p sites r s e o (cell.Object u ∷ h) v (x'.0 ∙ ap (λ (z : Kind). Some z) x'.1) fit_e) (moving_part k v u o s h x'.1 x.1 held)))
  move_part false k d e o ws s h held is_d is_e fit_d fit_e =
      let x = object_is s k d is_d in let x' = object_is s k e is_e in
      let u = object_at p r s d in let v = object_at p r s e in
      simple p sites finals m r s h (seq p sites (object_part p sites r s d o h u (x.0 ∙ ap (λ (z : Kind). Some z) x.1) fit_d)
      (seq p sites (object_part p sites r s e o (cell.Object u ∷ h) v (x'.0 ∙ ap (λ (z : Kind). Some z) x'.1) fit_e)
      (first p sites (plain p sites (line o i.Swap) (at r s h) (cell.Object v ∷ cell.Object u ∷ []) (cell.Object u ∷ cell.Object v ∷ [])
      (λ pc live c b. (cell.Object v, cell.Object u, b))) (moving_part k u v o s h x.1 x'.1 held))))

  selected_count : (s : Scope) (xs : List c.Selector) → length (selected_at p m r s xs) ≡ length xs
  selected_count s [] = refl
  selected_count s (c.Bind d ∷ xs) = ap suc (selected_count s xs)
  selected_count s (c.Hold of e x ∷ xs) = ap suc (selected_count s xs)

  -- ---- DO

  limit_part : {Out : ℕ → Type 0} {b : List Line} {hb : List Site} (o : Option Place) (s : Scope) (k : Kind) (x : Expression) (h : List CellType) →
      is_number k.of ≡ true → some (value_kind p s.variables s.names x) is_whole_number ≡ true → value_fits p s x ≡ true →
      Part p sites Out b hb (at r s (cell.Datum (of_kind k.of 0) ∷ h)) →
      Part p sites Out (value_code o x ++ (line o (i.Convert k.of) ∷ b)) (value_sites p r s h x ++ (at r s (cell.Datum (value_at p r s x) ∷ h) ∷ hb)) (at r s h)
  limit_part o s k x h number is fit q =
      let v = some_kind (value_kind p s.variables s.names x) is_whole_number is in
      let j = value_at p r s x in
      seq p sites (value_part p sites r s x o h j v.0 fit) (first p sites (plain p sites (line o (i.Convert k.of)) (at r s h) (cell.Datum j ∷ [])
      (cell.Datum (of_kind k.of 0) ∷ []) (λ pc live c b. (j, v.1, number, b))) q)

  up_part : (o : Option Place) (s : Scope) (d : Designator) (k : Kind) (h : List CellType) → is_whole_number k ≡ true →
      is_object_of p s.variables s.names k d ≡ true → object_fits p s d ≡ true →
      Part p sites (Onto p sites (at r s (cell.Turns ∷ h))) (up_code o d k) (up_sites p m r s h d) (at r s (cell.Turns ∷ h))
  up_part o s d k h number is fit =
      let x = object_is s k d is in let n = object_at p r s d in
      let number_n = subst (λ (z : Kind). is_whole_number z ≡ true) x.1 number in
      seq p sites (object_part p sites r s d o (cell.Turns ∷ h) n (x.0 ∙ ap (λ (z : Kind). Some z) x.1) fit)
      (last p sites (plain p sites (line o (i.CountUp k.of)) (at r s h) (cell.Object n ∷ cell.Turns ∷ []) (cell.Turns ∷ [])
      (λ pc live c b. (n, number_n, ap (λ (z : Kind). z.of) (sym x.1), b))))

  begin_part : {Out : ℕ → Type 0} {b : List Line} {hb : List Site} (o : Option Place) (s : Scope) (d : Designator) (k : Kind) (h : List CellType) → is_whole_number k ≡ true →
      is_object_of p s.variables s.names k d ≡ true → object_fits p s d ≡ true → Part p sites Out b hb (at r s (cell.Turns ∷ h)) →
      Part p sites Out (locate_code o d ++ (line o i.CountBegin ∷ b))
      (locate_sites p r s (cell.Datum (of_kind k.of 0) ∷ cell.Datum (of_kind k.of 0) ∷ cell.Datum (of_kind k.of 0) ∷ h) d
      ++ (at r s (cell.Object (object_at p r s d) ∷ cell.Datum (of_kind k.of 0) ∷ cell.Datum (of_kind k.of 0) ∷ cell.Datum (of_kind k.of 0) ∷ h) ∷ hb))
      (at r s (cell.Datum (of_kind k.of 0) ∷ cell.Datum (of_kind k.of 0) ∷ cell.Datum (of_kind k.of 0) ∷ h))
  begin_part o s d k h number is fit q =
      let x = object_is s k d is in let n = object_at p r s d in let j = of_kind k.of 0 in
      let number_n = subst (λ (z : Kind). is_whole_number z ≡ true) x.1 number in
      seq p sites (object_part p sites r s d o (cell.Datum j ∷ cell.Datum j ∷ cell.Datum j ∷ h) n (x.0 ∙ ap (λ (z : Kind). Some z) x.1) fit)
      (first p sites (plain p sites (line o i.CountBegin) (at r s h) (cell.Object n ∷ cell.Datum j ∷ cell.Datum j ∷ cell.Datum j ∷ []) (cell.Turns ∷ [])
      (λ pc live c b. (
        n,
        number_n,
        subst (λ (z : Kind). Leads sites pc (on (sites pc) (cell.Object n ∷ cell.Datum (of_kind z.of 0) ∷ cell.Datum (of_kind z.of 0)
            ∷ cell.Datum (of_kind z.of 0) ∷ []) (cell.Turns ∷ []))) x.1 b,
      ))) q)

  mutual
    pub statement_part : (x : y.Statement) (o : Option Place) (ws : Ways) (s : Scope) (h : List CellType) → is_formed p s.variables x s.names ≡ true →
        statement_fits p x s ≡ true → Done (lowered (setting_of p) x) o ws s h
    statement_part (y.At' place true q x) o ws s h is fit = first p sites (plain p sites (line (Some place) i.Begin) (at r s h) [] [] (λ pc live c b. b))
        (statement_part x (Some place) ws s h is fit)
    statement_part (y.At' place false q x) o ws s h is fit = statement_part x (Some place) ws s h is fit
    statement_part (y.Block' k xs) o ws s h is fit = block_part xs o ws s h is fit
    statement_part (y.Assign d k e) o ws s h is fit =
        let a = and_is _ _ is in let f = and_is _ _ fit in
        assign_part d k e o ws s h a.0 a.1 f.0 f.1
    statement_part (y.Call e) o ws s h is fit =
        let v = some_kind (value_kind p s.variables s.names e) _ is in
        simple p sites finals m r s h (seq p sites (value_part p sites r s e o h (value_at p r s e) v.0 fit) (last p sites (drops p sites o (at r s h) (cell.Datum _))))
    statement_part (y.MoveAlloc k b d e) o ws s h is fit =
        let a = and_is _ _ is in let a' = and_is _ _ a.1 in let f = and_is _ _ fit in
        move_part b k d e o ws s h a.0 a'.0 a'.1 f.0 f.1
    statement_part (y.Allocate rs stat) o ws s h is fit =
        let a = and_is _ _ is in let f = and_is _ _ fit in
        simple p sites finals m r s h (seq p sites (allocate_part p sites finals m r s o rs.items h a.0 f.0) (status_part p sites finals m r s o stat h a.1 f.1))
    statement_part (y.Deallocate rs stat) o ws s h is fit =
        let a = and_is _ _ is in let f = and_is _ _ fit in
        simple p sites finals m r s h (seq p sites (deallocate_part p sites finals m r s o rs.items h a.0 f.0) (status_part p sites finals m r s o stat h a.1 f.1))
    statement_part (y.Print xs) o ws s h is fit = simple p sites finals m r s h (items_part p sites finals m r s o xs.items h is fit)
    statement_part (y.Stop number) o ws s h is fit = before_end p sites (line o (i.Stop number)) (λ pc at_pc out live. record { rest = h; before = ap (λ (z : Site). z.cells) at_pc; next = tt; far = tt })
    statement_part y.Return o ws s h is fit = return_part p sites finals m r o ws s h
    statement_part y.Cycle o ws s h is fit = on_part p sites o ws.cycle (at r s h) (λ e out live. out.cycle)
    statement_part y.Exit o ws s h is fit = on_part p sites o ws.exit (at r s h) (λ e out live. out.exit)
    statement_part (y.If' e q x q' z) o ws s h is fit =
        let k = 1 + length (code_of m o (lowered (setting_of p) z) ws) in
        let a = and_is _ _ is in let a' = and_is _ _ a.1 in let f = and_is _ _ fit in let f' = and_is _ _ f.1 in
        if_part p sites finals m r o ws s h _ _ _ _ _ _ (condition_part e o s h a.0 f.0) (statement_part x o (farther k ws) s h a'.0 f'.0)
        (statement_part z o ws s h a'.1 f'.1)
    statement_part (y.Select' e q x) o ws s h is fit =
        let a = and_is _ _ is in let f = and_is _ _ fit in
        let v = some_kind (value_kind p s.variables s.names e) is_scalar a.0 in
        let k = value_at p r s e in
        let inner = selecting k s in
        seq p sites (value_part p sites r s e o h k v.0 f.0) (before p sites {m = at r inner (cell.Outside s ∷ h)} (line o i.Selecting)
        (λ pc at_pc next out live. in_scope (sites pc).scope s _ (ap (λ (z : Site). z.scope) at_pc)
        (k, v.1, changes p sites finals m r s inner h (cell.Datum k ∷ []) (cell.Outside s ∷ []) pc at_pc next))
        (scope_part p sites finals m r o (code_of m o (lowered (setting_of p) x) scoped) (departing_code o ws)
        (code_sites p m r inner (cell.Outside s ∷ h) 0 (lowered (setting_of p) x)) (departing_sites p m r s h ws.cells) s inner h (departing_part p sites finals m r o ws s h)
        (statement_part x o scoped inner (cell.Outside s ∷ h) a.1 f.1)))
    statement_part (y.Case' rs q x q' z) o ws s h is fit =
        let k = 1 + length (code_of m o (lowered (setting_of p) z) ws) in
        let a = and_is _ _ is in let f = and_is _ _ fit in let f' = and_is _ _ f.1 in
        let v = some_is s.selected _ f.0 in
        case_part p sites finals m r o ws s v.0 h rs.items _ _ _ _ v.1 v.2 (statement_part x o (farther k ws) s h a.0 f'.0) (statement_part z o ws s h a.1 f'.1)
    statement_part (y.While' e q x) o ws s h is fit =
        let a = and_is _ _ is in let f = and_is _ _ fit in
        while_part p sites finals m r o ws s h _ _ _ _ (condition_part e o s h a.0 f.0) (statement_part x o (looped ws) s h a.1 f.1)
    statement_part (y.Count' d k from to step q x) o ws s h is fit =
        let a = and_is _ _ is in let a1 = and_is _ _ a.1 in let a2 = and_is _ _ a1.1 in let a3 = and_is _ _ a2.1 in let a4 = and_is _ _ a3.1 in
        let f = and_is _ _ fit in let f1 = and_is _ _ f.1 in let f2 = and_is _ _ f1.1 in let f3 = and_is _ _ f2.1 in
        let number = (and_is _ _ a.0).1 in
        let j = of_kind k.of 0 in
        limit_part o s k from h number a2.0 f1.0 (limit_part o s k to (cell.Datum j ∷ h) number a3.0 f2.0 (limit_part o s k step (cell.Datum j ∷ cell.Datum j ∷ h) number a4.0 f3.0
        (first p sites (plain p sites (line o i.TestStep) (at r s (cell.Datum j ∷ cell.Datum j ∷ h)) (cell.Datum j ∷ []) (cell.Datum j ∷ []) (λ pc live c b. (j, number, b)))
        (begin_part o s d k h a.0 a1.0 f.0 (turns_part p sites finals m r o ws s h _ _ _ _ (up_part o s d k h a.0 a1.0 f.0)
        (statement_part x o (counting (length (up_code o d k)) ws) s (cell.Turns ∷ h) a4.1 f3.1))))))
    statement_part (y.Associate' xs q x) o ws s h is fit =
        let a = and_is _ _ is in let f = and_is _ _ fit in
        let v = some_is (given_all (map (selected p s.variables s.names) xs.items)) _ a.0 in
        let cs = map (lower.selecting (setting_of p)) xs.items in
        let ks = selected_at p m r s cs in
        let same : v.0 ≡ ks = selected_are p sites finals m r s o xs.items v.0 v.1 f.0 in
        let known : or_none (given_all (map (selected p s.variables s.names) xs.items)) ≡ ks = ap or_none v.1 ∙ same in
        let inner = associating ks s in
        seq p sites (selectors_part p sites finals m r s o xs.items v.0 h v.1 f.0)
        (before p sites {m = at r inner (cell.Outside s ∷ cell.Level ks ∷ h)} (line o (i.Associate (length cs)))
        (λ pc at_pc next out live. in_scope (sites pc).scope s _ (ap (λ (z : Site). z.scope) at_pc) (
          ks,
          selected_count s cs,
          changes p sites finals m r s inner h (selectors_on ks []) (cell.Outside s ∷ cell.Level ks ∷ []) pc
              (at_pc ∙ ap (λ l. at r s l) (selectors_over ks [] h)) next,
        ))
        (scope_part p sites finals m r o (code_of m o (lowered (setting_of p) x) scoped) _ (code_sites p m r inner (cell.Outside s ∷ cell.Level ks ∷ h) 0 (lowered (setting_of p) x)) _
        s inner (cell.Level ks ∷ h)
        (first p sites (plain p sites (line o i.Associated) (at r s h) (cell.Going ∷ cell.Level ks ∷ []) (cell.Objects ks ∷ cell.Going ∷ cell.Level ks ∷ []) (λ pc live c b. (ks, b)))
        (seq p sites (discards_part p sites finals m r s o xs.items (cell.Going ∷ cell.Level ks ∷ h))
        (first p sites (plain p sites (line o i.EndAssociate) (at r s h) (cell.Objects [] ∷ cell.Going ∷ cell.Level ks ∷ []) (cell.Going ∷ []) (λ pc live c b. ([], ks, b)))
        (departing_part p sites finals m r o ws s h))))
        (statement_part x o scoped inner (cell.Outside s ∷ cell.Level ks ∷ h)
        (subst (λ ns. is_formed p s.variables x (s.names ++ ns) ≡ true) known a.1)
        (subst (λ ns. statement_fits p x (associating ns s) ≡ true) known f.1))))

    block_part : {n : _} (xs : y.Row_of-Statement n) (o : Option Place) (ws : Ways) (s : Scope) (h : List CellType) → are_formed p s.variables xs s.names ≡ true →
        statements_fit p xs s ≡ true → Done (lowered_block (setting_of p) xs) o ws s h
    block_part y.end_of-Statement o ws s h is fit = simple p sites finals m r s h (nothing p sites (at r s h))
    block_part (y.more_of-Statement x rest) o ws s h is fit =
        let k = length (code_of m o (lowered_block (setting_of p) rest) ws) in
        let a = and_is _ _ is in let f = and_is _ _ fit in
        behind p sites (λ e at_e out. farther_exits p sites k e (at_e refl) out) (statement_part x o (farther k ws) s h a.0 f.0) (block_part rest o ws s h a.1 f.1)
