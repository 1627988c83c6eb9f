-- The kinds of the code of expressions and designators.
use Rattle.std.proofs.Common.{◌≡◌, ℕ, Bool, true, false, List, [], ◌∷◌, ◌++◌, Option, Some, sym, ap, ◌∙◌, subst, if◌then◌else◌}
use Rattle.std.specs.Prelude.{nat_eq}
use Rattle.f3_places.specs.declared.source.Place.{Place}
use Rattle.f3_program.specs.declared.declarations.Component.{Component}
use Rattle.f3_program.specs.declared.declarations.Constant.TheVariants as constant
use Rattle.f3_program.specs.declared.declarations.Kind.{Kind}
use Rattle.f3_program.specs.declared.expression.Argument as a
use Rattle.f3_program.specs.declared.expression.Designator as d
use Rattle.f3_program.specs.declared.expression.Expression as e
use Rattle.f3_program.specs.declared.expression.Selection as l
use Rattle.f3_program.specs.declared.expression.Subscript as u
use Rattle.f3_program.specs.declared.program.Program.{Program}
use Rattle.f3_meaning_whole.specs.Act.{component_of}
use Rattle.f3_meaning_whole.specs.Formed.{Given, given_all, is_whole_number, value_kind, object_kind, kind_of_name, argument, arguments, taken, taken_of_each, subscript, subscripts}
use Rattle.f3_code.specs.declared.instruction.Instruction.TheVariants as i
use Rattle.f3_code.specs.State.{Line, line}
use Rattle.f3_code.specs.Code.{argument_count, subscript_count, value_code, bounds_code, argument_code, arguments_code, locate_code, select_code, select_of_code, chosen_code, subscript_code}
use Rattle.f3_cell_kinds.specs.Types.{Scope, CellType, Site, arguments_on, choices_on}
use Rattle.f3_cell_kinds.specs.Types as cell
use Rattle.f3_cell_kinds.specs.Effect.{on, truth, number, held_kind, declared_kind, part_kind, part_cell}
use Rattle.f3_cell_kinds.specs.Kinds.{Leads}
use Rattle.f3_cell_kinds.specs.Values.{kind_or, at, kind_of_part, kind_of_procedure, returned, component_at, is_triplet, triplets, value_at, object_at, argument_at, arguments_at, value_sites, bounds_sites, argument_sites, arguments_sites, locate_sites, select_sites, select_of_sites, chosen_sites, subscript_sites}
use Rattle.f3_cell_kinds.specs.Sense.{value_fits, argument_fits, arguments_fit, object_fits, selection_fits, subscripts_fit, subscript_fits}
use Rattle.f3_cell_kinds.proofs.Asked.{some_same, found_is, found_kind, found_at, some_at, only_is, unless_is, and_is, not_is, some_kind, kind_is, itself}
use Rattle.f3_cell_kinds.proofs.Parts.{in_scope, Part, Onto, nothing, seq, Falls, plain, first, last, onto_same}
use Rattle.f3_cell_kinds.proofs.Given.{arguments_over, choices_over, triplets_count, result_held, arguments_count, argument_is, arguments_are, subscripts_are, picked, contents_of}

module _ (p : Program) (sites : ℕ → Site) (r : Kind) (s : Scope) where
  from_same : {l : Line} {m : Site} (h h' : List CellType) → h ≡ h' → Falls p sites l (at r s h) m → Falls p sites l (at r s h') m
  from_same {l = l} {m = m} h h' e f = subst (λ x. Falls p sites l (at r s x) m) e f

  abbrev Value : List Line → List Site → List CellType → Kind → Type 0
  Value lines hs h k = Part p sites (Onto p sites (at r s (cell.Datum k ∷ h))) lines hs (at r s h)

  abbrev Object : List Line → List Site → List CellType → Kind → Type 0
  Object lines hs h k = Part p sites (Onto p sites (at r s (cell.Object k ∷ h))) lines hs (at r s h)

  datum_same : {lines : List Line} {hs : List Site} {h : List CellType} {m : Site} (j k : Kind) → j ≡ k →
      Part p sites (Onto p sites (at r s (cell.Datum j ∷ h))) lines hs m → Part p sites (Onto p sites (at r s (cell.Datum k ∷ h))) lines hs m
  datum_same {h = h} j k e part = onto_same p sites _ _ (ap (λ (y : Kind). at r s (cell.Datum y ∷ h)) e) part

  object_same : {lines : List Line} {hs : List Site} {h : List CellType} {m : Site} (j k : Kind) → j ≡ k →
      Part p sites (Onto p sites (at r s (cell.Object j ∷ h))) lines hs m → Part p sites (Onto p sites (at r s (cell.Object k ∷ h))) lines hs m
  object_same {h = h} j k e part = onto_same p sites _ _ (ap (λ (y : Kind). at r s (cell.Object y ∷ h)) e) part

  limit_part : (b : Bool) (o : Option Place) (cx : List Line) (hx : List Site) (h : List CellType) (k : Kind) → is_whole_number k ≡ true → Value cx hx h k →
      Part p sites (Onto p sites (at r s (cell.Bound ∷ h))) (if b then cx ++ line o i.Limit ∷ [] else line o i.NoLimit ∷ [])
      (if b then hx ++ at r s (cell.Datum k ∷ h) ∷ [] else at r s h ∷ []) (at r s h)
  limit_part true o cx hx h k w x = seq p sites x (last p sites (plain p sites (line o i.Limit) (at r s h) (cell.Datum k ∷ []) (cell.Bound ∷ []) (λ pc live c b. (k, w, b))))
  limit_part false o cx hx h k w x = last p sites (plain p sites (line o i.NoLimit) (at r s h) [] (cell.Bound ∷ []) (λ pc live c b. b))

  mutual
    pub value_part : (x : e.Expression) (o : Option Place) (h : List CellType) (k : Kind) → value_kind p s.variables s.names x ≡ Some k →
        value_fits p s x ≡ true → Value (value_code o x) (value_sites p r s h x) h k
    value_part (e.Literal (constant.Number z)) o h k is fit = datum_same _ _ (some_same is)
        (last p sites (plain p sites (line o (i.Push (constant.Number z))) (at r s h) [] (cell.Datum number ∷ []) (λ pc live c b. (fit, b))))
    value_part (e.Literal (constant.Truth z)) o h k is fit = datum_same _ _ (some_same is)
        (last p sites (plain p sites (line o (i.Push (constant.Truth z))) (at r s h) [] (cell.Datum truth ∷ []) (λ pc live c b. (fit, b))))
    value_part (e.Variable' q x) o h k is fit =
        let f = found_kind (object_kind p s.variables s.names x) _ k is in
        let j = object_at p r s x in
        let g = only_is _ j k f.1 in
        datum_same _ _ g.1 (seq p sites (object_part x o h j f.0 fit)
        (last p sites (plain p sites (line o i.Load) (at r s h) (cell.Object j ∷ []) (cell.Datum j ∷ []) (λ pc live c b. (j, not_is _ g.0, b)))))
    value_part (e.Group' q x) o h k is fit =
        let j = value_at p r s x in
        datum_same _ _ (kind_is _ k is) (seq p sites (value_part x o h j (itself _ k is) fit)
        (last p sites (plain p sites (line o i.Plain) (at r s h) (cell.Datum j ∷ []) (cell.Datum j ∷ []) (λ pc live c b. (j, b)))))
    value_part (e.Unary' n t q x) o h k is fit =
        let f = found_kind (value_kind p s.variables s.names x) _ k is in
        let j = value_at p r s x in
        let g = only_is _ _ k f.1 in
        let w = and_is _ _ fit in
        let v = some_kind (value_kind p s.variables s.names x) _ w.0 in
        datum_same _ _ g.1 (seq p sites (value_part x o h j f.0 w.1)
        (last p sites (plain p sites (line o (i.Unary n t)) (at r s h) (cell.Datum j ∷ []) (cell.Datum _ ∷ []) (λ pc live c b. (j, v.1, b)))))
    value_part (e.Binary' n t q x q' y) o h k is fit =
        let f = found_kind (value_kind p s.variables s.names x) _ k is in
        let f' = found_kind (value_kind p s.variables s.names y) _ k f.1 in
        let i1 = value_at p r s x in let i2 = value_at p r s y in
        let g = only_is _ _ k f'.1 in
        let w = and_is _ _ fit in
        let w' = and_is _ _ w.1 in
        let v = some_kind (value_kind p s.variables s.names x) _ w.0 in
        let v' = some_kind (value_kind p s.variables s.names y) _ v.1 in
        datum_same _ _ g.1 (seq p sites (value_part x o h i1 f.0 w'.0) (seq p sites (value_part y o (cell.Datum i1 ∷ h) i2 f'.0 w'.1)
        (last p sites (plain p sites (line o (i.Binary n t)) (at r s h) (cell.Datum i2 ∷ cell.Datum i1 ∷ []) (cell.Datum _ ∷ []) (λ pc live c b. (i1, i2, v'.1, b))))))
    value_part (e.Array' n xs) o h k is fit =
        let all = given_all (arguments p s.variables s.names xs) in
        let gs = arguments_at p r s xs in
        let f = found_at all gs _ k (arguments_are p r s xs) is in
        let w = and_is _ _ fit in
        let v = some_at all gs _ (arguments_are p r s xs) w.0 in
        seq p sites (arguments_part xs o h gs f.0 w.1) (last p sites (from_same _ _ (sym (arguments_over gs [] h))
        (plain p sites (line o (i.Array (argument_count xs))) (at r s h) (arguments_on gs []) (cell.Datum k ∷ [])
        (λ pc live c b. (gs, k, arguments_count p r s xs, f.1, v, b)))))
    value_part (e.Structure' t n xs) o h k is fit =
        let all = given_all (arguments p s.variables s.names xs) in
        let gs = arguments_at p r s xs in
        let f = found_at all gs _ k (arguments_are p r s xs) is in
        let w = and_is _ _ fit in
        let v = some_at all gs _ (arguments_are p r s xs) w.0 in
        seq p sites (arguments_part xs o h gs f.0 w.1) (last p sites (from_same _ _ (sym (arguments_over gs [] h))
        (plain p sites (line o (i.Structure t (argument_count xs))) (at r s h) (arguments_on gs []) (cell.Datum k ∷ [])
        (λ pc live c b. (gs, k, arguments_count p r s xs, f.1, v, b)))))
    value_part (e.Call' t n xs) o h k is fit =
        let all = given_all (arguments p s.variables s.names xs) in
        let gs = arguments_at p r s xs in
        let f = found_at all gs _ k (arguments_are p r s xs) is in
        let v = found_is _ _ k f.1 in
        let g = only_is _ _ k v.2 in
        let j = returned p t in
        let same : j ≡ declared_kind v.0.result = ap kind_of_procedure v.1 in
        datum_same _ _ (ap held_kind same ∙ sym (result_held v.0.result) ∙ g.1)
        (seq p sites (arguments_part xs o h gs f.0 fit) (first p sites (from_same _ _ (sym (arguments_over gs [] h))
        (plain p sites (line o (i.Call t (argument_count xs))) (at r s h) (arguments_on gs []) (cell.Datum j ∷ [])
        (λ pc live c b. (
          gs,
          v.0,
          k,
          arguments_count p r s xs,
          v.1,
          f.1,
          subst (λ (y : Kind). Leads sites pc (on (sites pc) (arguments_on gs []) (cell.Datum y ∷ []))) same b,
        ))))
        (last p sites (plain p sites (line o i.Result) (at r s h) (cell.Datum j ∷ []) (cell.Datum (held_kind j) ∷ []) (λ pc live c b. (j, b))))))
    value_part (e.Allocated' q x) o h k is fit =
        let f = found_kind (object_kind p s.variables s.names x) _ k is in
        let j = object_at p r s x in
        let g = only_is _ _ k f.1 in
        datum_same _ _ g.1 (seq p sites (object_part x o h j f.0 fit)
        (last p sites (plain p sites (line o i.IsAllocated) (at r s h) (cell.Object j ∷ []) (cell.Datum truth ∷ []) (λ pc live c b. (j, g.0, b)))))
    value_part (e.Size' q x) o h k is fit =
        let g = argument_at p r s x in
        let f = found_at (argument p s.variables s.names x) g _ k (argument_is p r s x) is in
        let w = only_is _ _ k f.1 in
        let v = and_is _ _ w.0 in
        datum_same _ _ w.1 (seq p sites (bounds_part x o h f.0 (not_is _ v.0) fit)
        (last p sites (plain p sites (line o i.Size) (at r s h) (cell.Bounds g.kind.rank ∷ []) (cell.Datum number ∷ []) (λ pc live c b. (g.kind.rank, b)))))
    value_part (e.Bound' n q x q' y) o h k is fit =
        let g = argument_at p r s x in
        let f = found_at (argument p s.variables s.names x) g _ k (argument_is p r s x) is in
        let f' = found_kind (value_kind p s.variables s.names y) _ k f.1 in
        let j = value_at p r s y in
        let w = only_is _ _ k f'.1 in
        let v = and_is _ _ w.0 in
        let v' = and_is _ _ v.1 in
        let q1 = and_is _ _ fit in
        datum_same _ _ w.1 (seq p sites (bounds_part x o h f.0 (not_is _ v.0) q1.0) (seq p sites (value_part y o (cell.Bounds g.kind.rank ∷ h) j f'.0 q1.1)
        (last p sites (plain p sites (line o (i.Bound n)) (at r s h) (cell.Datum j ∷ cell.Bounds g.kind.rank ∷ []) (cell.Datum number ∷ [])
        (λ pc live c b. (j, g.kind.rank, v'.1, b))))))

    pub bounds_part : (x : a.Argument) (o : Option Place) (h : List CellType) → argument p s.variables s.names x ≡ Some (argument_at p r s x) →
        (argument_at p r s x).kind.is_allocatable ≡ false → argument_fits p s x ≡ true →
        Part p sites (Onto p sites (at r s (cell.Bounds (argument_at p r s x).kind.rank ∷ h))) (bounds_code o x) (bounds_sites p r s h x) (at r s h)
    bounds_part (a.Value' n q x) o h is held fit =
        let f = found_kind (value_kind p s.variables s.names x) _ _ is in
        let j = value_at p r s x in
        seq p sites (value_part x o h j f.0 fit)
        (last p sites (plain p sites (line o i.BoundsOfValue) (at r s h) (cell.Datum j ∷ []) (cell.Bounds j.rank ∷ []) (λ pc live c b. (j, held, b))))
    bounds_part (a.Variable' n q x) o h is held fit =
        let f = found_kind (object_kind p s.variables s.names x) _ _ is in
        let j = object_at p r s x in
        seq p sites (object_part x o h j f.0 fit)
        (last p sites (plain p sites (line o i.BoundsOfVariable) (at r s h) (cell.Object j ∷ []) (cell.Bounds j.rank ∷ []) (λ pc live c b. (j, held, b))))

    pub argument_part : (x : a.Argument) (o : Option Place) (h : List CellType) (g : Given) → argument p s.variables s.names x ≡ Some g → argument_fits p s x ≡ true →
        Part p sites (Onto p sites (at r s (cell.Argument (argument_at p r s x) ∷ h))) (argument_code o x) (argument_sites p r s h x) (at r s h)
    argument_part (a.Value' n q x) o h g is fit =
        let f = found_kind (value_kind p s.variables s.names x) _ g is in
        let j = value_at p r s x in
        seq p sites (value_part x o h j f.0 fit)
        (last p sites (plain p sites (line o (i.PassValue n)) (at r s h) (cell.Datum j ∷ []) (cell.Argument _ ∷ []) (λ pc live c b. (j, b))))
    argument_part (a.Variable' n q x) o h g is fit =
        let f = found_kind (object_kind p s.variables s.names x) _ g is in
        let j = object_at p r s x in
        seq p sites (object_part x o h j f.0 fit)
        (last p sites (plain p sites (line o (i.PassVariable n)) (at r s h) (cell.Object j ∷ []) (cell.Argument _ ∷ []) (λ pc live c b. (j, b))))

    pub arguments_part : {m : _} (xs : e.Row_of-Argument m) (o : Option Place) (h : List CellType) (gs : List Given) →
        given_all (arguments p s.variables s.names xs) ≡ Some gs → arguments_fit p s xs ≡ true →
        Part p sites (Onto p sites (at r s (arguments_on (arguments_at p r s xs) h))) (arguments_code o xs) (arguments_sites p r s h xs) (at r s h)
    arguments_part e.end_of-Argument o h gs is fit = nothing p sites (at r s h)
    arguments_part (e.more_of-Argument x rest) o h gs is fit =
        let f = found_is (argument p s.variables s.names x) _ gs is in
        let k = found_is (given_all (arguments p s.variables s.names rest)) _ gs f.2 in
        let w = and_is _ _ fit in
        seq p sites (argument_part x o h f.0 f.1 w.0) (arguments_part rest o (cell.Argument (argument_at p r s x) ∷ h) k.0 k.1 w.1)

    pub object_part : (x : d.Designator) (o : Option Place) (h : List CellType) (k : Kind) → object_kind p s.variables s.names x ≡ Some k →
        object_fits p s x ≡ true → Object (locate_code o x) (locate_sites p r s h x) h k
    object_part (d.Name x how) o h k is fit =
        let f = found_kind (kind_of_name p s.variables s.names x) _ k is in
        let j = kind_or (kind_of_name p s.variables s.names x) in
        first p sites (plain p sites (line o (i.Refer x)) (at r s h) [] (cell.Object j ∷ []) (λ pc live c b. in_scope (sites pc).scope s _ c (j, f.0, b)))
        (select_part how o h j k f.1 fit)
    object_part (d.Component' q x n how) o h k is fit =
        let f = found_kind (object_kind p s.variables s.names x) _ k is in
        let j = object_at p r s x in
        let g = unless_is _ _ k f.1 in
        let v = found_is (component_of p.types.items j.of n) _ k g.1 in
        let w = and_is _ _ fit in
        seq p sites (object_part x o h j f.0 w.0) (select_of_part how o n h j v.0 k g.0 v.1 v.2 w.1)

    pub select_part : (x : l.Selection) (o : Option Place) (h : List CellType) (j k : Kind) → taken p s.variables s.names x j ≡ Some k → selection_fits p s x ≡ true →
        Part p sites (Onto p sites (at r s (cell.Object k ∷ h))) (select_code o x) (select_sites p r s h j x) (at r s (cell.Object j ∷ h))
    select_part l.Whole o h j k is fit = object_same _ _ (some_same is) (nothing p sites (at r s (cell.Object j ∷ h)))
    select_part l.Contents o h j k is fit =
        let g = only_is j.is_allocatable _ k is in
        object_same _ _ g.1 (last p sites (plain p sites (line o i.Contents) (at r s h) (cell.Object j ∷ []) (cell.Object (held_kind j) ∷ []) (λ pc live c b. (j, g.0, b))))
    select_part (l.Elements' is_opened n xs) o h j k is fit =
        let all = given_all (subscripts p s.variables s.names xs) in
        let bs = triplets xs in
        let f = found_at all bs _ k (subscripts_are p r s xs) is in
        seq p sites (chosen_part xs o (cell.Object j ∷ h) bs f.0 fit) (last p sites (from_same _ _ (sym (choices_over bs (cell.Object j ∷ []) h))
        (plain p sites (line o (i.Select is_opened (subscript_count xs))) (at r s h) (choices_on bs (cell.Object j ∷ [])) (cell.Object k ∷ [])
        (λ pc live c b. (j, bs, k, triplets_count xs, f.1, b)))))

    pub select_of_part : (x : l.Selection) (o : Option Place) (n : ℕ) (h : List CellType) (j : Kind) (m : Component) (k : Kind) → j.is_allocatable ≡ false →
        component_of p.types.items j.of n ≡ Some m →
        (if nat_eq j.rank 0 then taken p s.variables s.names x m.declared.kind else taken_of_each p s.variables s.names x j m.declared.kind) ≡ Some k →
        selection_fits p s x ≡ true →
        Part p sites (Onto p sites (at r s (cell.Object k ∷ h))) (select_of_code o n x) (select_of_sites p r s h j n x) (at r s (cell.Object j ∷ h))
    select_of_part l.Whole o n h j m k held part is fit =
        last p sites (plain p sites (line o (i.Component n)) (at r s h) (cell.Object j ∷ []) (cell.Object k ∷ []) (λ pc live c b. (j, m, k, held, part, is, b)))
    select_of_part l.Contents o n h j m k held part is fit =
        let y = component_at p j n in
        let same : y ≡ m.declared.kind = ap kind_of_part part in
        let f = contents_of p r s (nat_eq j.rank 0) j m.declared.kind k is in
        let one : part_kind j m.declared.kind ≡ Some y =
        f.0 ∙ ap (λ (z : Kind). Some z) (sym same) in
        let held' : y.is_allocatable ≡ true = ap (λ (z : Kind). z.is_allocatable) same ∙ f.1 in
        object_same _ _ (ap held_kind same ∙ f.2)
        (first p sites (plain p sites (line o (i.Component n)) (at r s h) (cell.Object j ∷ []) (cell.Object y ∷ []) (λ pc live c b. (j, m, y, held, part, one, b)))
        (last p sites (plain p sites (line o i.Contents) (at r s h) (cell.Object y ∷ []) (cell.Object (held_kind y) ∷ []) (λ pc live c b. (y, held', b)))))
    select_of_part (l.Elements' is_opened n' xs) o n h j m k held part is fit =
        let all = given_all (subscripts p s.variables s.names xs) in
        let bs = triplets xs in
        let y = component_at p j n in
        let same : y ≡ m.declared.kind = ap kind_of_part part in
        let f = picked p r s (nat_eq j.rank 0) is_opened all bs j m.declared.kind k (subscripts_are p r s xs) is in
        first p sites (plain p sites (line o (i.ComponentOf n)) (at r s h) (cell.Object j ∷ []) (part_cell j n y ∷ cell.Object j ∷ [])
        (λ pc live c b. (
          j,
          m,
          held,
          part,
          subst (λ (z : Kind). Leads sites pc (on (sites pc) (cell.Object j ∷ []) (part_cell j n z ∷ cell.Object j ∷ []))) same b,
        )))
        (seq p sites (chosen_part xs o (part_cell j n y ∷ cell.Object j ∷ h) bs f.0 fit)
        (last p sites (from_same _ _ (sym (choices_over bs (part_cell j n y ∷ cell.Object j ∷ []) h))
        (plain p sites (line o (i.SelectOf is_opened n (subscript_count xs))) (at r s h) (choices_on bs (part_cell j n y ∷ cell.Object j ∷ [])) (cell.Object k ∷ [])
        (λ pc live c b. (
          j,
          m,
          bs,
          k,
          triplets_count xs,
          held,
          part,
          f.1,
          subst (λ (z : Kind). Leads sites pc (on (sites pc) (choices_on bs (part_cell j n z ∷ cell.Object j ∷ [])) (cell.Object k ∷ []))) same b,
        ))))))

    pub chosen_part : {m : _} (xs : l.Row_of-Subscript m) (o : Option Place) (h : List CellType) (bs : List Bool) →
        given_all (subscripts p s.variables s.names xs) ≡ Some bs → subscripts_fit p s xs ≡ true →
        Part p sites (Onto p sites (at r s (choices_on (triplets xs) h))) (chosen_code o xs) (chosen_sites p r s h xs) (at r s h)
    chosen_part l.end_of-Subscript o h bs is fit = nothing p sites (at r s h)
    chosen_part (l.more_of-Subscript x rest) o h bs is fit =
        let f = found_is (subscript p s.variables s.names x) _ bs is in
        let k = found_is (given_all (subscripts p s.variables s.names rest)) _ bs f.2 in
        let w = and_is _ _ fit in
        seq p sites (subscript_part x o h f.0 f.1 w.0) (chosen_part rest o (cell.Choice (is_triplet x) ∷ h) k.0 k.1 w.1)

    pub subscript_part : (x : u.Subscript) (o : Option Place) (h : List CellType) (b : Bool) → subscript p s.variables s.names x ≡ Some b → subscript_fits p s x ≡ true →
        Part p sites (Onto p sites (at r s (cell.Choice (is_triplet x) ∷ h))) (subscript_code o x) (subscript_sites p r s h x) (at r s h)
    subscript_part (u.At' q x) o h t is fit =
        let g = only_is _ false t is in
        let v = some_kind (value_kind p s.variables s.names x) is_whole_number g.0 in
        let j = value_at p r s x in
        seq p sites (value_part x o h j v.0 fit)
        (last p sites (plain p sites (line o i.Subscript) (at r s h) (cell.Datum j ∷ []) (cell.Choice false ∷ []) (λ pc live c b. (j, v.1, b))))
    subscript_part (u.Range' has_lower q x has_upper q' y q'' z) o h t is fit =
        let g = only_is _ true t is in
        let g1 = and_is _ _ g.0 in let g2 = and_is _ _ g1.1 in
        let v1 = some_kind (value_kind p s.variables s.names x) is_whole_number g1.0 in
        let v2 = some_kind (value_kind p s.variables s.names y) is_whole_number g2.0 in
        let v3 = some_kind (value_kind p s.variables s.names z) is_whole_number g2.1 in
        let w1 = and_is _ _ fit in let w2 = and_is _ _ w1.1 in
        let j1 = value_at p r s x in let j2 = value_at p r s y in let j3 = value_at p r s z in
        seq p sites (limit_part has_lower o (value_code o x) (value_sites p r s h x) h j1 v1.1 (value_part x o h j1 v1.0 w1.0))
        (seq p sites (limit_part has_upper o (value_code o y) (value_sites p r s (cell.Bound ∷ h) y) (cell.Bound ∷ h) j2 v2.1 (value_part y o (cell.Bound ∷ h) j2 v2.0 w2.0))
        (seq p sites (value_part z o (cell.Bound ∷ cell.Bound ∷ h) j3 v3.0 w2.1)
        (last p sites (plain p sites (line o i.Triplet) (at r s h) (cell.Datum j3 ∷ cell.Bound ∷ cell.Bound ∷ []) (cell.Choice true ∷ []) (λ pc live c b. (j3, v3.1, b))))))
