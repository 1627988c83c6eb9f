-- The machine reads what specification parts spell, and nothing else.
use Rattle.std.proofs.Common.{◌≡◌, ◌≢◌, Bool, true, false, List, [], ◌∷◌, ◌++◌, map, Option, Some, None, refl, sym, ap, subst, ◌∙◌, append_assoc}
use Rattle.std.specs.Prelude.{option_and_then, not}
use Rattle.std.specs.List.{flat_map}
use Rattle.std.proofs.lemmas.List.{append-nil, map-append}
use Rattle.std.proofs.lemmas.Grind.{flat_map-append}
use Rattle.f3_places.specs.declared.source.Place.{Place}
use Rattle.f3_tree.specs.declared.expression.Name.{Name}
use Rattle.f3_tree.specs.declared.declaration.Accessibility.{Accessibility}
use Rattle.f3_tree.specs.declared.declaration.Accessibility.TheVariants.{Private, Public}
use Rattle.f3_tree.specs.declared.expression.IntegerKind.TheVariants as kind
use Rattle.f3_tree.specs.declared.declaration.TypeSpecifier.TheVariants.{Integer}
use Rattle.f3_tree.specs.Declarations.{UseTree, DeclarationTree, TypeTree, SpecificationTree, declares, accesses, protects, saves, defines, PartTree}
use Rattle.f3_form.specs.declared.form.Ended.TheVariants.{«Type»}
use Rattle.f3_form.specs.Forms.{ends, declares as declares_form}
use Rattle.f3_blocks.specs.Pieces.{Placed}
use Rattle.f3_parts.specs.Pieces.{Piece, use_of, implicit, declare, access, protect, save, type_begins, contains, final, type_ends, no_piece, piece_of}
use Rattle.f3_parts.specs.Parts.{fits_label, privates, IsContained, IsType, IsSpecification, AreSpecifications, implicits, ArePieces, IsPart}
use Rattle.f3_parts.specs.Machine.{State, start, is_nil, with_specification, begun, open_in, closed, ended, in_type, outside, step_from, step, run}

abbrev a_part : List UseTree → Option Place → List SpecificationTree → PartTree
a_part us i ss = record { uses = us; implicit_none = i; specifications = ss }

abbrev a_type : Place → Option (Place × Accessibility) → Name → Option Place → List DeclarationTree → Option Place → List Name → TypeTree
a_type p a n q ds c fs = record { place = p; access = a; name = n; private = q; components = ds; contains = c; finals = fs }

-- ---- what a part spells is read

run_uses : (m : Bool) (us vs : List UseTree) (r : List Piece) → run m (map use_of us ++ r) (closed (a_part vs None [])) ≡ run m r (closed (a_part (vs ++ us) None []))
run_uses m [] vs r = ap (λ (x : List UseTree). run m r (closed (a_part x None []))) (sym (append-nil vs))
run_uses m (u ∷ us) vs r = run_uses m us (vs ++ u ∷ []) r ∙ ap (λ (x : List UseTree). run m r (closed (a_part x None []))) (append_assoc vs (u ∷ []) us)

run_implicit : (m : Bool) (i : Option Place) (us : List UseTree) (r : List Piece) → run m (implicits i ++ r) (closed (a_part us None [])) ≡ run m r (closed (a_part us i []))
run_implicit m None us r = refl
run_implicit m (Some p) us r = refl

module _ (m : Bool) (part : PartTree) (p : Place) (a : Option (Place × Accessibility)) (n : Name) where
  run_private : (q : Option Place) (r : List Piece) → run m (privates q ++ r) (open_in part (a_type p a n None [] None [])) ≡ run m r (open_in part (a_type p a n q [] None []))
  run_private None r = refl
  run_private (Some x) r = refl

  run_components : (q : Option Place) (ds es : List DeclarationTree) (r : List Piece)
      → run m (map declare ds ++ r) (open_in part (a_type p a n q es None [])) ≡ run m r (open_in part (a_type p a n q (es ++ ds) None []))
  run_components q [] es r = ap (λ (x : List DeclarationTree). run m r (open_in part (a_type p a n q x None []))) (sym (append-nil es))
  run_components q (d ∷ ds) es r =
      run_components q ds (es ++ d ∷ []) r ∙ ap (λ (x : List DeclarationTree). run m r (open_in part (a_type p a n q x None []))) (append_assoc es (d ∷ []) ds)

  run_finals : (q : Option Place) (ds : List DeclarationTree) (c : Place) (lists : List (List Name)) (fs : List Name) (r : List Piece)
      → run m (map final lists ++ r) (open_in part (a_type p a n q ds (Some c) fs)) ≡ run m r (open_in part (a_type p a n q ds (Some c) (fs ++ flat_map (λ (ns : List Name). ns) lists)))
  run_finals q ds c [] fs r = ap (λ (x : List Name). run m r (open_in part (a_type p a n q ds (Some c) x))) (sym (append-nil fs))
  run_finals q ds c (ns ∷ lists) fs r =
      run_finals q ds c lists (fs ++ ns) r ∙ ap (λ (x : List Name). run m r (open_in part (a_type p a n q ds (Some c) x))) (append_assoc fs ns (flat_map (λ (ns : List Name). ns) lists))

  run_contained : (q : Option Place) (ds : List DeclarationTree) (c : Option Place) (fs : List Name) (ps r : List Piece) → ds ≢ [] → IsContained c fs ps
      → run m (ps ++ r) (open_in part (a_type p a n q ds None [])) ≡ run m r (open_in part (a_type p a n q ds c fs))
  run_contained q ds None fs ps r some h =
      ap (λ (x : List Piece). run m (x ++ r) (open_in part (a_type p a n q ds None []))) h.1
      ∙ ap (λ (x : List Name). run m r (open_in part (a_type p a n q ds None x))) (sym h.0)
  run_contained q [] (Some c) fs ps r some h = absurd (some refl)
  run_contained q (d ∷ ds) (Some c) fs ps r some h =
      ap (λ (x : List Piece). run m (x ++ r) (open_in part (a_type p a n q (d ∷ ds) None []))) h.2
      ∙ run_finals q (d ∷ ds) c h.0 [] r
      ∙ ap (λ (x : List Name). run m r (open_in part (a_type p a n q (d ∷ ds) (Some c) x))) (sym h.1)

ends_type : (m : Bool) (part : PartTree) (t : TypeTree) (label : Option Name) (r : List Piece) → t.components ≢ [] → fits_label label t.name ≡ true
    → run m (type_ends label ∷ r) (open_in part t) ≡ run m r (closed (with_specification (defines t) part))
ends_type m part t label r some fits = by t.components refl
  where
    by : (ds : List DeclarationTree) → t.components ≡ ds → run m (type_ends label ∷ r) (open_in part t) ≡ run m r (closed (with_specification (defines t) part))
    by [] is = absurd (some is)
    by (d ∷ ds) is = rw (is, fits) refl

spread : (A B C : List Piece) (e : Piece) (r : List Piece) → (A ++ (B ++ (C ++ e ∷ []))) ++ r ≡ A ++ (B ++ (C ++ e ∷ r))
spread A B C e r = simp append_assoc

run_type : (m : Bool) (t : TypeTree) (ps : List Piece) (part : PartTree) (r : List Piece) → m ≡ true → IsType t ps → run m (ps ++ r) (closed part) ≡ run m r (closed (with_specification (defines t) part))
run_type m t ps part r module_part h =
    let last = type_ends h.label ∷ r in
    let rest = map declare t.components ++ (h.bindings ++ last) in
    let begins : outside m (type_begins t.place t.access t.name) part ≡ Some (open_in part (begun t.place t.access t.name)) = rw module_part refl in
    ap (λ (x : List Piece). run m (x ++ r) (closed part)) h.is
    ∙ ap (λ (x : List Piece). run m (type_begins t.place t.access t.name ∷ x) (closed part)) (spread (privates t.private) (map declare t.components) h.bindings (type_ends h.label) r)
    ∙ ap (option_and_then (run m (privates t.private ++ rest))) begins
    ∙ run_private m part t.place t.access t.name t.private rest
    ∙ run_components m part t.place t.access t.name t.private t.components [] (h.bindings ++ last)
    ∙ run_contained m part t.place t.access t.name t.private t.components t.contains t.finals h.bindings last h.holds_some h.contained
    ∙ ends_type m part t h.label r h.holds_some h.label_fits

run_specification : (m : Bool) (s : SpecificationTree) (ps : List Piece) (part : PartTree) (r : List Piece) → IsSpecification m s ps → run m (ps ++ r) (closed part) ≡ run m r (closed (with_specification s part))
run_specification m (declares d) ps part r h = ap (λ (x : List Piece). run m (x ++ r) (closed part)) h
run_specification m (accesses a) ps part r h = ap (λ (x : List Piece). run m (x ++ r) (closed part)) h
run_specification m (protects p names) ps part r h = ap (λ (x : List Piece). run m (x ++ r) (closed part)) h
run_specification m (saves p) ps part r h =
    let saved : outside m (save p) part ≡ Some (closed (with_specification (saves p) part)) = rw h.0 refl in
    ap (λ (x : List Piece). run m (x ++ r) (closed part)) h.1 ∙ ap (option_and_then (run m r)) saved
run_specification m (defines t) ps part r h = run_type m t ps part r h.0 h.1

run_specifications : (m : Bool) (ss ts : List SpecificationTree) (ps : List Piece) (us : List UseTree) (i : Option Place) (r : List Piece) → AreSpecifications m ss ps
    → run m (ps ++ r) (closed (a_part us i ts)) ≡ run m r (closed (a_part us i (ts ++ ss)))
run_specifications m [] ts ps us i r h =
    ap (λ (x : List Piece). run m (x ++ r) (closed (a_part us i ts))) h ∙ ap (λ (x : List SpecificationTree). run m r (closed (a_part us i x))) (sym (append-nil ts))
run_specifications m (s ∷ ss) ts ps us i r h =
    ap (λ (x : List Piece). run m (x ++ r) (closed (a_part us i ts))) h.2
    ∙ ap (λ (x : List Piece). run m x (closed (a_part us i ts))) (append_assoc h.0 h.1 r)
    ∙ run_specification m s h.0 (a_part us i ts) (h.1 ++ r) h.3
    ∙ run_specifications m ss (ts ++ s ∷ []) h.1 us i r h.4
    ∙ ap (λ (x : List SpecificationTree). run m r (closed (a_part us i x))) (append_assoc ts (s ∷ []) ss)

-- what spells a part is read as it, and then what stands behind
pub part_runs : (m : Bool) (part : PartTree) (ps r : List Piece) → ArePieces m part ps → run m (ps ++ r) start ≡ run m r (closed part)
part_runs m part ps r h =
    ap (λ (x : List Piece). run m (x ++ r) start) h.is
    ∙ ap (λ (x : List Piece). run m x start) (append_assoc (map use_of part.uses) (implicits part.implicit_none ++ h.others) r)
    ∙ run_uses m part.uses [] ((implicits part.implicit_none ++ h.others) ++ r)
    ∙ ap (λ (x : List Piece). run m x (closed (a_part part.uses None []))) (append_assoc (implicits part.implicit_none) h.others r)
    ∙ run_implicit m part.implicit_none part.uses (h.others ++ r)
    ∙ run_specifications m part.specifications [] h.others part.uses part.implicit_none r h.specifications

pub runs : (m : Bool) (part : PartTree) (ps : List Placed) → IsPart m part ps → run m (map piece_of ps) start ≡ Some (closed part)
runs m part ps h = ap (λ (x : List Piece). run m x start) (sym (append-nil (map piece_of ps))) ∙ part_runs m part (map piece_of ps) [] h

-- ---- what is read is spelled

-- the statements of an open type definition so far
record IsBegun (t : TypeTree) (ps : List Piece) : Type 0 where
  bindings : List Piece
  is : ps ≡ type_begins t.place t.access t.name ∷ (privates t.private ++ (map declare t.components ++ bindings))
  contained : IsContained t.contains t.finals bindings
  holds_some : (p : Place) → t.contains ≡ Some p → t.components ≢ []

abbrev IsOpen : Bool → Option TypeTree → List Piece → Type 0
IsOpen m None ps = ps ≡ []
IsOpen m (Some t) ps = (m ≡ true) × IsBegun t ps

record Reached (m : Bool) (ps : List Piece) (s : State) : Type 0 where
  front : List Piece
  rest : List Piece
  is : ps ≡ front ++ rest
  pieces : ArePieces m s.part front
  open_type : IsOpen m s.open_type rest

abbrev got : State → Option State
got s = Some s

reached_at : (m : Bool) (ps : List Piece) (s t : State) → Reached m ps s → got s ≡ got t → Reached m ps t
reached_at m ps s t h e = let same : s ≡ t = cc in subst (λ (x : State). Reached m ps x) same h

specifications_push : (m : Bool) (ss : List SpecificationTree) (s : SpecificationTree) (ps qs : List Piece) → AreSpecifications m ss ps → IsSpecification m s qs → AreSpecifications m (ss ++ s ∷ []) (ps ++ qs)
specifications_push m [] s ps qs h is = (qs, [], ap (λ (x : List Piece). x ++ qs) h ∙ sym (append-nil qs), is, refl)
specifications_push m (t ∷ ss) s ps qs h is =
    (h.0, h.1 ++ qs, ap (λ (x : List Piece). x ++ qs) h.2 ∙ append_assoc h.0 h.1 qs, h.3, specifications_push m ss s h.1 qs h.4 is)

pieces_push : (m : Bool) (part : PartTree) (s : SpecificationTree) (ps qs : List Piece) → ArePieces m part ps → IsSpecification m s qs → ArePieces m (with_specification s part) (ps ++ qs)
pieces_push m part s ps qs h is = record {
  others = h.others ++ qs;
  is = ap (λ (x : List Piece). x ++ qs) h.is
      ∙ append_assoc (map use_of part.uses) (implicits part.implicit_none ++ h.others) qs
      ∙ ap (λ (x : List Piece). map use_of part.uses ++ x) (append_assoc (implicits part.implicit_none) h.others qs);
  specifications = specifications_push m part.specifications s h.others qs h.specifications is;
}

-- the statements so far are those of a part without an open type definition
all_closed : (m : Bool) (ps : List Piece) (part : PartTree) → Reached m ps (closed part) → ArePieces m part ps
all_closed m ps part h = subst (λ (x : List Piece). ArePieces m part x) (sym (h.is ∙ ap (λ (x : List Piece). h.front ++ x) h.open_type ∙ append-nil h.front)) h.pieces

now_closed : (m : Bool) (ps : List Piece) (part : PartTree) → ArePieces m part ps → Reached m ps (closed part)
now_closed m ps part h = record { front = ps; rest = []; is = sym (append-nil ps); pieces = h; open_type = refl }

-- one declaration or access statement more
specified_reached : (m : Bool) (s : SpecificationTree) (p : Piece) (ps : List Piece) (part : PartTree) (t : State) → Reached m ps (closed part) → IsSpecification m s (p ∷ []) → got (closed (with_specification s part)) ≡ got t
    → Reached m (ps ++ p ∷ []) t
specified_reached m s p ps part t h is e = reached_at m _ _ t (now_closed m (ps ++ p ∷ []) (with_specification s part) (pieces_push m part s ps (p ∷ []) (all_closed m ps part h) is)) e

one_behind : (U : List Piece) (f : Piece) → (U ++ f ∷ []) ++ [] ≡ (U ++ []) ++ f ∷ []
one_behind U f = append-nil (U ++ f ∷ []) ∙ ap (λ (x : List Piece). x ++ f ∷ []) (sym (append-nil U))

use_reached : (m : Bool) (u : UseTree) (ps : List Piece) (us : List UseTree) (i : Option Place) (ss : List SpecificationTree) (t : State)
    → Reached m ps (closed (a_part us i ss)) → outside m (use_of u) (a_part us i ss) ≡ Some t → Reached m (ps ++ use_of u ∷ []) t
use_reached m u ps us None [] t h e =
    let k = all_closed m ps (a_part us None []) h in
    let more : ArePieces m (a_part (us ++ u ∷ []) None []) (ps ++ use_of u ∷ []) = record {
      others = [];
      is = ap (λ (x : List Piece). x ++ use_of u ∷ []) (k.is ∙ ap (λ (x : List Piece). map use_of us ++ x) k.specifications)
          ∙ sym (one_behind (map use_of us) (use_of u)) ∙ ap (λ (x : List Piece). x ++ []) (sym (map-append (λ (x : UseTree). use_of x) us (u ∷ [])));
      specifications = refl;
    } in
    reached_at m _ _ t (now_closed m _ _ more) e
use_reached m u ps us None (s ∷ ss) t h e = absurd (cc)
use_reached m u ps us (Some p) ss t h e = absurd (cc)

implicit_reached : (m : Bool) (p : Place) (ps : List Piece) (us : List UseTree) (i : Option Place) (ss : List SpecificationTree) (t : State)
    → Reached m ps (closed (a_part us i ss)) → outside m (implicit p) (a_part us i ss) ≡ Some t → Reached m (ps ++ implicit p ∷ []) t
implicit_reached m p ps us None [] t h e =
    let k = all_closed m ps (a_part us None []) h in
    let more : ArePieces m (a_part us (Some p) []) (ps ++ implicit p ∷ []) = record {
      others = [];
      is = ap (λ (x : List Piece). x ++ implicit p ∷ []) (k.is ∙ ap (λ (x : List Piece). map use_of us ++ x) k.specifications ∙ append-nil (map use_of us));
      specifications = refl;
    } in
    reached_at m _ _ t (now_closed m _ _ more) e
implicit_reached m p ps us None (s ∷ ss) t h e = absurd (cc)
implicit_reached m p ps us (Some q) ss t h e = absurd (cc)

save_reached : (m : Bool) (p : Place) (ps : List Piece) (part : PartTree) (t : State) → Reached m ps (closed part) → outside m (save p) part ≡ Some t → Reached m (ps ++ save p ∷ []) t
save_reached true p ps part t h e = specified_reached true (saves p) (save p) ps part t h (refl, refl) e
save_reached false p ps part t h e = absurd (cc)

type_reached : (m : Bool) (p : Place) (a : Option (Place × Accessibility)) (n : Name) (ps : List Piece) (part : PartTree) (t : State)
    → Reached m ps (closed part) → outside m (type_begins p a n) part ≡ Some t → Reached m (ps ++ type_begins p a n ∷ []) t
type_reached true p a n ps part t h e =
    let begins : IsBegun (begun p a n) (type_begins p a n ∷ []) = record { bindings = []; is = refl; contained = (refl, refl); holds_some = λ q is. absurd (cc) } in
    let opened : Reached true (ps ++ type_begins p a n ∷ []) (open_in part (begun p a n)) = record { front = ps; rest = type_begins p a n ∷ []; is = refl; pieces = all_closed true ps part h; open_type = (refl, begins) } in
    reached_at true _ _ t opened e
type_reached false p a n ps part t h e = absurd (cc)

outside_reached : (m : Bool) (p : Piece) (ps : List Piece) (part : PartTree) (t : State) → Reached m ps (closed part) → outside m p part ≡ Some t → Reached m (ps ++ p ∷ []) t
outside_reached m (use_of u) ps part t h e = use_reached m u ps part.uses part.implicit_none part.specifications t h e
outside_reached m (implicit p) ps part t h e = implicit_reached m p ps part.uses part.implicit_none part.specifications t h e
outside_reached m (declare d) ps part t h e = specified_reached m (declares d) (declare d) ps part t h refl e
outside_reached m (access a) ps part t h e = specified_reached m (accesses a) (access a) ps part t h refl e
outside_reached m (protect p names) ps part t h e = specified_reached m (protects p names) (protect p names) ps part t h refl e
outside_reached m (save p) ps part t h e = save_reached m p ps part t h e
outside_reached m (type_begins p a n) ps part t h e = type_reached m p a n ps part t h e
outside_reached m (contains p) ps part t h e = absurd (cc)
outside_reached m (final names) ps part t h e = absurd (cc)
outside_reached m (type_ends label) ps part t h e = absurd (cc)
outside_reached m no_piece ps part t h e = absurd (cc)

-- one statement more in a type definition
pushes : (m : Bool) (ps : List Piece) (part : PartTree) (u v : TypeTree) (p : Piece) (t : State) → Reached m ps (open_in part u) → ((qs : List Piece) → IsBegun u qs → IsBegun v (qs ++ p ∷ [])) → got (open_in part v) ≡ got t
    → Reached m (ps ++ p ∷ []) t
pushes m ps part u v p t h more e =
    let last = p ∷ [] in
    let whole : Reached m (ps ++ last) (open_in part v) = record {
      front = h.front;
      rest = h.rest ++ last;
      is = ap (λ (x : List Piece). x ++ last) h.is ∙ append_assoc h.front h.rest last;
      pieces = h.pieces;
      open_type = (h.open_type.0, more h.rest h.open_type.1);
    } in
    reached_at m _ _ t whole e

private_reached : (m : Bool) (x : Place) (kind : Accessibility) (names : List Name) (ps : List Piece) (part : PartTree) (p : Place) (b : Option (Place × Accessibility)) (n : Name) (q : Option Place) (ds : List DeclarationTree) (c : Option Place) (fs : List Name) (t : State)
    → Reached m ps (open_in part (a_type p b n q ds c fs)) → in_type (access (record { place = x; accessibility = kind; names = names })) part (a_type p b n q ds c fs) ≡ Some t
    → Reached m (ps ++ access (record { place = x; accessibility = kind; names = names }) ∷ []) t
private_reached m x Private [] ps part p b n None [] None fs t h e =
    let a : Piece = access (record { place = x; accessibility = Private; names = [] }) in
    let more : (qs : List Piece) → IsBegun (a_type p b n None [] None fs) qs → IsBegun (a_type p b n (Some x) [] None fs) (qs ++ a ∷ []) = λ qs g. record {
      bindings = [];
      is = ap (λ (y : List Piece). y ++ a ∷ []) (g.is ∙ ap (λ (y : List Piece). type_begins p b n ∷ y) g.contained.1);
      contained = (g.contained.0, refl);
      holds_some = λ y is. absurd (cc);
    } in
    pushes m ps part (a_type p b n None [] None fs) (a_type p b n (Some x) [] None fs) a t h more e
private_reached m x Private [] ps part p b n None [] (Some y) fs t h e = absurd (cc)
private_reached m x Private [] ps part p b n None (d ∷ ds) c fs t h e = absurd (cc)
private_reached m x Private [] ps part p b n (Some y) ds c fs t h e = absurd (cc)
private_reached m x Private (name ∷ names) ps part p b n q ds c fs t h e = absurd (cc)
private_reached m x Public names ps part p b n q ds c fs t h e = absurd (cc)

behind_last : (first : Piece) (P D : List Piece) (e : Piece) → (first ∷ (P ++ (D ++ []))) ++ e ∷ [] ≡ first ∷ (P ++ ((D ++ e ∷ []) ++ []))
behind_last first P D e = ap (λ (x : List Piece). first ∷ x) (append_assoc P (D ++ []) (e ∷ []) ∙ ap (λ (x : List Piece). P ++ x) (sym (one_behind D e)))

behind_bindings : (first : Piece) (P D B : List Piece) (e : Piece) → (first ∷ (P ++ (D ++ B))) ++ e ∷ [] ≡ first ∷ (P ++ (D ++ (B ++ e ∷ [])))
behind_bindings first P D B e = ap (λ (x : List Piece). first ∷ x) (append_assoc P (D ++ B) (e ∷ []) ∙ ap (λ (x : List Piece). P ++ x) (append_assoc D B (e ∷ [])))

component_reached : (m : Bool) (d : DeclarationTree) (ps : List Piece) (part : PartTree) (p : Place) (b : Option (Place × Accessibility)) (n : Name) (q : Option Place) (ds : List DeclarationTree) (c : Option Place) (fs : List Name) (t : State)
    → Reached m ps (open_in part (a_type p b n q ds c fs)) → in_type (declare d) part (a_type p b n q ds c fs) ≡ Some t → Reached m (ps ++ declare d ∷ []) t
component_reached m d ps part p b n q ds None fs t h e =
    let more : (qs : List Piece) → IsBegun (a_type p b n q ds None fs) qs → IsBegun (a_type p b n q (ds ++ d ∷ []) None fs) (qs ++ declare d ∷ []) = λ qs g. record {
      bindings = [];
      is = ap (λ (y : List Piece). y ++ declare d ∷ []) (g.is ∙ ap (λ (y : List Piece). type_begins p b n ∷ (privates q ++ (map declare ds ++ y))) g.contained.1)
          ∙ behind_last (type_begins p b n) (privates q) (map declare ds) (declare d)
          ∙ ap (λ (y : List Piece). type_begins p b n ∷ (privates q ++ (y ++ []))) (sym (map-append (λ (y : DeclarationTree). declare y) ds (d ∷ [])));
      contained = (g.contained.0, refl);
      holds_some = λ y is. absurd (cc);
    } in
    pushes m ps part (a_type p b n q ds None fs) (a_type p b n q (ds ++ d ∷ []) None fs) (declare d) t h more e
component_reached m d ps part p b n q ds (Some y) fs t h e = absurd (cc)

contains_reached : (m : Bool) (x : Place) (ps : List Piece) (part : PartTree) (p : Place) (b : Option (Place × Accessibility)) (n : Name) (q : Option Place) (ds : List DeclarationTree) (c : Option Place) (fs : List Name) (t : State)
    → Reached m ps (open_in part (a_type p b n q ds c fs)) → in_type (contains x) part (a_type p b n q ds c fs) ≡ Some t → Reached m (ps ++ contains x ∷ []) t
contains_reached m x ps part p b n q (d ∷ ds) None fs t h e =
    let all = map declare (d ∷ ds) in
    let more : (qs : List Piece) → IsBegun (a_type p b n q (d ∷ ds) None fs) qs → IsBegun (a_type p b n q (d ∷ ds) (Some x) fs) (qs ++ contains x ∷ []) = λ qs g. record {
      bindings = contains x ∷ [];
      is = ap (λ (y : List Piece). y ++ contains x ∷ []) (g.is ∙ ap (λ (y : List Piece). type_begins p b n ∷ (privates q ++ (all ++ y))) g.contained.1)
          ∙ behind_bindings (type_begins p b n) (privates q) all [] (contains x);
      contained = ([], g.contained.0, refl);
      holds_some = λ y is none. absurd (cc);
    } in
    pushes m ps part (a_type p b n q (d ∷ ds) None fs) (a_type p b n q (d ∷ ds) (Some x) fs) (contains x) t h more e
contains_reached m x ps part p b n q [] None fs t h e = absurd (cc)
contains_reached m x ps part p b n q ds (Some y) fs t h e = absurd (cc)

final_reached : (m : Bool) (names : List Name) (ps : List Piece) (part : PartTree) (p : Place) (b : Option (Place × Accessibility)) (n : Name) (q : Option Place) (ds : List DeclarationTree) (c : Option Place) (fs : List Name) (t : State)
    → Reached m ps (open_in part (a_type p b n q ds c fs)) → in_type (final names) part (a_type p b n q ds c fs) ≡ Some t → Reached m (ps ++ final names ∷ []) t
final_reached m names ps part p b n q ds (Some c) fs t h e =
    let more : (qs : List Piece) → IsBegun (a_type p b n q ds (Some c) fs) qs → IsBegun (a_type p b n q ds (Some c) (fs ++ names)) (qs ++ final names ∷ []) = λ qs g. record {
      bindings = g.bindings ++ final names ∷ [];
      is = ap (λ (y : List Piece). y ++ final names ∷ []) g.is ∙ behind_bindings (type_begins p b n) (privates q) (map declare ds) g.bindings (final names);
      contained = (
        g.contained.0 ++ names ∷ [],
        ap (λ (y : List Name). y ++ names) g.contained.1
            ∙ ap (λ (y : List Name). flat_map (λ (ns : List Name). ns) g.contained.0 ++ y) (sym (append-nil names))
            ∙ sym (flat_map-append (λ (ns : List Name). ns) g.contained.0 (names ∷ [])),
        ap (λ (y : List Piece). y ++ final names ∷ []) g.contained.2 ∙ ap (λ (y : List Piece). contains c ∷ y) (sym (map-append (λ (ns : List Name). final ns) g.contained.0 (names ∷ []))),
      );
      holds_some = g.holds_some;
    } in
    pushes m ps part (a_type p b n q ds (Some c) fs) (a_type p b n q ds (Some c) (fs ++ names)) (final names) t h more e
final_reached m names ps part p b n q ds None fs t h e = absurd (cc)

now_ended : (part : PartTree) (label : Option Name) (u : TypeTree) → not (is_nil u.components) ≡ true → fits_label label u.name ≡ true → ended part label u ≡ Some (closed (with_specification (defines u) part))
now_ended part label u one two = rw (one, two) refl

end_reached : (m : Bool) (label : Option Name) (ps : List Piece) (part : PartTree) (u : TypeTree) (t : State) → (ds : List DeclarationTree) (fits : Bool) → u.components ≡ ds → fits_label label u.name ≡ fits
    → Reached m ps (open_in part u) → ended part label u ≡ Some t → Reached m (ps ++ type_ends label ∷ []) t
end_reached m label ps part u t (d ∷ ds) true one two h e =
    let g = h.open_type.1 in
    let last = type_ends label ∷ [] in
    let type : IsType u (h.rest ++ last) = record {
      bindings = g.bindings;
      label = label;
      is = ap (λ (x : List Piece). x ++ last) g.is ∙ behind_bindings (type_begins u.place u.access u.name) (privates u.private) (map declare u.components) g.bindings (type_ends label);
      contained = g.contained;
      holds_some = λ none. absurd (nil_cons (sym none ∙ one));
      label_fits = two;
    } in
    let whole = pieces_push m part (defines u) h.front (h.rest ++ last) h.pieces (h.open_type.0, type) in
    let regrouped : (h.front ++ (h.rest ++ last)) ≡ ps ++ last = sym (append_assoc h.front h.rest last) ∙ ap (λ (x : List Piece). x ++ last) (sym h.is) in
    reached_at m _ _ t (now_closed m (ps ++ last) (with_specification (defines u) part) (subst (λ (x : List Piece). ArePieces m (with_specification (defines u) part) x) regrouped whole)) (sym (now_ended part label u (ap (λ (x : List DeclarationTree). not (is_nil x)) one) two) ∙ e)
  where
    nil_cons : [] ≡ d ∷ ds → ⊥
    nil_cons is = cc
end_reached m label ps part u t (d ∷ ds) false one two h e = let none = rw (one, two) at e in absurd (cc)
end_reached m label ps part u t [] fits one two h e = let none = rw one at e in absurd (cc)

in_type_reached : (m : Bool) (p : Piece) (ps : List Piece) (part : PartTree) (u : TypeTree) (t : State) → Reached m ps (open_in part u) → in_type p part u ≡ Some t → Reached m (ps ++ p ∷ []) t
in_type_reached m (access a) ps part u t h e = private_reached m a.place a.accessibility a.names ps part u.place u.access u.name u.private u.components u.contains u.finals t h e
in_type_reached m (declare d) ps part u t h e = component_reached m d ps part u.place u.access u.name u.private u.components u.contains u.finals t h e
in_type_reached m (contains p) ps part u t h e = contains_reached m p ps part u.place u.access u.name u.private u.components u.contains u.finals t h e
in_type_reached m (final names) ps part u t h e = final_reached m names ps part u.place u.access u.name u.private u.components u.contains u.finals t h e
in_type_reached m (type_ends label) ps part u t h e = end_reached m label ps part u t u.components (fits_label label u.name) refl refl h e
in_type_reached m (use_of u') ps part u t h e = absurd (cc)
in_type_reached m (implicit p) ps part u t h e = absurd (cc)
in_type_reached m (protect p names) ps part u t h e = absurd (cc)
in_type_reached m (save p) ps part u t h e = absurd (cc)
in_type_reached m (type_begins p a n) ps part u t h e = absurd (cc)
in_type_reached m no_piece ps part u t h e = absurd (cc)

from_reached : (m : Bool) (o : Option TypeTree) (p : Piece) (ps : List Piece) (part : PartTree) (t : State) → Reached m ps (record { part = part; open_type = o }) → step_from m p part o ≡ Some t → Reached m (ps ++ p ∷ []) t
from_reached m None p ps part t h e = outside_reached m p ps part t h e
from_reached m (Some u) p ps part t h e = in_type_reached m p ps part u t h e

then_some : {A B : Type 0} (f : A → Option B) (o : Option A) (y : B) → option_and_then f o ≡ Some y → (x : A) × (o ≡ Some x) × (f x ≡ Some y)
then_some f (Some x) y e = (x, refl, e)
then_some f None y e = absurd (cc)

run_reached : (m : Bool) (ps qs : List Piece) (s t : State) → Reached m qs s → run m ps s ≡ Some t → Reached m (qs ++ ps) t
run_reached m [] qs s t h e = subst (λ (x : List Piece). Reached m x t) (sym (append-nil qs)) (reached_at m qs s t h e)
run_reached m (p ∷ ps) qs s t h e =
    let w = then_some (run m ps) (step m p s) t e in
    subst (λ (x : List Piece). Reached m x t) (append_assoc qs (p ∷ []) ps) (run_reached m ps (qs ++ p ∷ []) w.0 t (from_reached m s.open_type p qs s.part w.0 h w.1) w.2)

at_start : (m : Bool) → Reached m [] start
at_start m = record { front = []; rest = []; is = refl; pieces = record { others = []; is = refl; specifications = refl }; open_type = refl }

-- what was read and has no open type definition is spelled by the part that was read
pub reads : (m : Bool) (ps : List Placed) (s : State) → run m (map piece_of ps) start ≡ Some s → s.open_type ≡ None → IsPart m s.part ps
reads m ps s e none =
    let h = run_reached m (map piece_of ps) [] start s (at_start m) e in
    let over : h.rest ≡ [] = subst (λ (x : Option TypeTree). IsOpen m x h.rest) none h.open_type in
    subst (λ (x : List Piece). ArePieces m s.part x) (sym (h.is ∙ ap (λ (x : List Piece). h.front ++ x) over ∙ append-nil h.front)) h.pieces

-- ---- fronts

under : (f g h : State → Option State) (o : Option State) → ((s : State) → f s ≡ option_and_then g (h s)) → option_and_then f o ≡ option_and_then g (option_and_then h o)
under f g h None same = refl
under f g h (Some s) same = same s

pub run-append : (m : Bool) (ps qs : List Piece) (s : State) → run m (ps ++ qs) s ≡ option_and_then (run m qs) (run m ps s)
run-append m [] qs s = refl
run-append m (p ∷ ps) qs s = under (run m (ps ++ qs)) (run m qs) (run m ps) (step m p s) (run-append m ps qs)

abbrev a_component : Place → DeclarationTree
a_component p = record { place = p; specifier = Integer kind.Four; attributes = []; entities = [] }

-- how an open type definition goes on to its END, at a place: with a component where it has none
abbrev pub type_closers : Place → List DeclarationTree → List Placed
type_closers p [] = record { place = p; form = declares_form (a_component p) } ∷ record { place = p; form = ends (Some «Type») None } ∷ []
type_closers p (d ∷ ds) = record { place = p; form = ends (Some «Type») None } ∷ []

abbrev closers_of : Place → Option TypeTree → List Placed
closers_of p None = []
closers_of p (Some u) = type_closers p u.components

abbrev pub closers : Place → State → List Placed
closers p s = closers_of p s.open_type

abbrev pub AllAt : Place → List Placed → Type 0
AllAt place [] = Unit {0}
AllAt place (p ∷ ps) = (p.place ≡ place) × AllAt place ps

type_closers_at : (p : Place) (ds : List DeclarationTree) → AllAt p (type_closers p ds)
type_closers_at p [] = (refl, (refl, tt))
type_closers_at p (d ∷ ds) = (refl, tt)

closers_of_at : (p : Place) (o : Option TypeTree) → AllAt p (closers_of p o)
closers_of_at p None = tt
closers_of_at p (Some u) = type_closers_at p u.components

pub closers_at : (place : Place) (s : State) → AllAt place (closers place s)
closers_at place s = closers_of_at place s.open_type

abbrev Closes : Bool → List Placed → State → Type 0
Closes m qs s = (part : PartTree) × (run m (map piece_of qs) s ≡ Some (closed part))

type_closes : (m : Bool) (x : Place) (part : PartTree) (p : Place) (b : Option (Place × Accessibility)) (n : Name) (q : Option Place) (ds : List DeclarationTree) (c : Option Place) (fs : List Name)
    → ((y : Place) → c ≡ Some y → ds ≢ []) → Closes m (type_closers x ds) (open_in part (a_type p b n q ds c fs))
type_closes m x part p b n q (d ∷ ds) c fs some = (with_specification (defines (a_type p b n q (d ∷ ds) c fs)) part, refl)
type_closes m x part p b n q [] None fs some = (with_specification (defines (a_type p b n q (a_component x ∷ []) None fs)) part, refl)
type_closes m x part p b n q [] (Some y) fs some = absurd (some y refl refl)

open_closes : (m : Bool) (x : Place) (part : PartTree) (o : Option TypeTree) (ps : List Piece) → IsOpen m o ps → Closes m (closers_of x o) (record { part = part; open_type = o })
open_closes m x part None ps h = (part, refl)
open_closes m x part (Some u) ps h = type_closes m x part u.place u.access u.name u.private u.components u.contains u.finals h.1.holds_some

-- what was read goes on to a whole part
pub closes : (m : Bool) (place : Place) (ps : List Placed) (s : State) → run m (map piece_of ps) start ≡ Some s → (part : PartTree) × (run m (map piece_of (closers place s)) s ≡ Some (closed part))
closes m place ps s e =
    let h = run_reached m (map piece_of ps) [] start s (at_start m) e in
    open_closes m place s.part s.open_type h.rest h.open_type
