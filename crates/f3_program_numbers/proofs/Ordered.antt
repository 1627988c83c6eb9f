-- Walks along units.
use Rattle.std.proofs.Common.{◌≡◌, ℕ, zero, suc, ◌+◌, ◌<◌, ◌≤◌, ◌^◌, List, [], ◌∷◌, ◌++◌, Option, None, Some, map, length, take, get_or, slice_get, option_map, append_assoc, Bool, true, Result, Ok, Err, OnOk, refl, ap, sym, ◌∙◌, arith}
use Rattle.std.specs.List.{flat_map}
use Rattle.std.proofs.lemmas.List.{take_more, take_all, append-nil, length-map}
use Rattle.std.proofs.lemmas.Grind.{flat_map-append}
use Rattle.std.proofs.lemmas.Option.{slice_get-get_or, get_or_from_slice_get, slice_get_within, slice_get_past, slice_get_read, slice_get-map}
use Rattle.f3_access.specs.Access.{first_entity}
use Rattle.f3_graph.specs.declared.UnitId.{UnitId}
use Rattle.f3_scopes.specs.Outlines.{Scope}
use Rattle.f3_scopes.specs.Scopes.{declared_in, unit_scopes}
use Rattle.f3_tree.specs.declared.declaration.Specification.{Specification}
use Rattle.f3_tree.specs.Declarations.{specification_view}
use Rattle.f3_tree.specs.declared.program.Procedure.{Procedure}
use Rattle.f3_tree.specs.declared.program.Unit.{Unit as ProgramUnit}
use Rattle.f3_tree.specs.Tree.{ProcedureTree, UnitTree, procedure_view, unit_view}
use Rattle.f3_kinds.specs.Things.{map_or}
use Rattle.f3_type_rules.specs.Associates.{constructs_of_block}
use Rattle.f3_type_rules.specs.Members.{Numbered, members_from, numbered, units_from}
use Rattle.f3_type_rules.specs.Program.{units_in}
use Rattle.f3_unit_rules.specs.Members.{AreFirsts, Fit}
use Rattle.f3_unit_rules.specs.Units.{AreNumbers}
use Rattle.f3_unit_rules.specs.Inner.Steps.{found_at}
use Rattle.f3_program_numbers.specs.Chosen.{taken_along}
use Rattle.f3_program_numbers.specs.Fitting.{Fits, AllFit, MembersFit}
use Rattle.f3_program_numbers.specs.Walks.{kept_by, keeps_all, saved_alone, member_taken, counted, statics_by, procedures_by, at_unit}

-- ---- units by their places

fit_behind : (firsts : List ℕ) (room scope : ℕ) (ps : List ProcedureTree) → Fit firsts room scope ps → scope ≤ length firsts
fit_behind firsts room scope [] fit = fit
fit_behind firsts room scope (p ∷ ps) fit =
    let more = fit_behind firsts room (scope + 1 + length (constructs_of_block p.body)) ps fit.1 in
    omega (arith, more)

unit_placed : (scopes : List Scope) (start : ℕ) (numbers : List ℕ) (us : List UnitTree) (i n : ℕ) (u : UnitTree)
    → map (λ (x : Numbered). x.scope) (units_from scopes start us) ≡ numbers → slice_get numbers i ≡ Some n → slice_get us i ≡ Some u
    → slice_get (units_from scopes start us) i ≡ Some (numbered scopes n u)
unit_placed scopes start numbers [] i n u same at here = absurd (let past = slice_get_within [] i u here in omega (arith, past))
unit_placed scopes start [] (x ∷ us) i n u same at here = absurd (let past = slice_get_within [] i n at in omega (arith, past))
unit_placed scopes start (m ∷ ms) (x ∷ us) zero n u same at here =
    let number : start ≡ n = cc in
    let tree : x ≡ u = cc in
    ap (λ (k : ℕ). Some (numbered scopes k x)) number ∙ ap (λ (y : UnitTree). Some (numbered scopes n y)) tree
unit_placed scopes start (m ∷ ms) (x ∷ us) (suc i) n u same at here =
    let rest : map (λ (y : Numbered). y.scope) (units_from scopes (start + length (unit_scopes start x)) us) ≡ ms = cc in
    unit_placed scopes (start + length (unit_scopes start x)) ms us i n u rest at here

units_long : (scopes : List Scope) (start : ℕ) (us : List UnitTree) → length (units_from scopes start us) ≡ length us
units_long scopes start [] = refl
units_long scopes start (u ∷ us) = ap suc (units_long scopes (start + length (unit_scopes start u)) us)

tree_there : (list : List ProgramUnit) (i : ℕ) (x : ProgramUnit) → i < length list → x ≡ get_or list i x → slice_get (map unit_view list) i ≡ Some (unit_view x)
tree_there list i x lt is = slice_get-map unit_view list i ∙ ap (λ (o : Option ProgramUnit). option_map unit_view o) (slice_get_read list (length list) i x refl lt is)

number_there : (numbers : List ℕ) (list : List ProgramUnit) (i : ℕ) → length numbers ≡ length list → i < length list → slice_get numbers i ≡ Some (get_or numbers i 0)
number_there numbers list i same lt = slice_get-get_or numbers i 0 (omega (arith, same, lt))

-- ---- a unit

module _ (firsts : List ℕ) (scope : ℕ) (u : UnitTree) (fit : Fits firsts scope u) where
  pub begins : (scopes : List Scope) → AreFirsts scopes firsts → get_or firsts scope 0 ≡ first_entity scopes scope
  begins scopes are = get_or_from_slice_get firsts scope fit.1.0 0 fit.1.1 ∙ are scope fit.1.0 fit.1.1

  pub in_firsts : scope < length firsts
  in_firsts = slice_get_within firsts scope fit.1.0 fit.1.1

  pub all_small : get_or firsts scope 0 + length (flat_map declared_in (u.part).specifications) + length u.procedures < 2 ^ 64
  all_small =
      let same = get_or_from_slice_get firsts scope fit.1.0 0 fit.1.1 in
      let small = fit.1.2 in
      omega (arith, same, small)

  pub declared_small : get_or firsts scope 0 + length (flat_map declared_in (u.part).specifications) < 2 ^ 64
  declared_small = let small = all_small in omega (arith, small)

  pub start_within : scope + 1 + length (constructs_of_block u.body) ≤ length firsts
  start_within =
      fit_behind firsts fit.0.0 (scope + 1 + length (constructs_of_block u.body)) u.procedures fit.0.2.1

  pub members_fit : MembersFit firsts (scope + 1 + length (constructs_of_block u.body)) u.procedures
  members_fit = (fit.0.0, fit.0.1, fit.0.2.1)

-- what lives for the whole run
pub statics_made : (scopes : List Scope) (firsts : List ℕ) (scope : ℕ) (u : ProgramUnit) (found one two : List ℕ) (keeps : Bool) (start : ℕ) (ss : List Specification) (ps : List Procedure)
    → Fits firsts scope (unit_view u) → AreFirsts scopes firsts → keeps ≡ keeps_all u.kind → ss ≡ u.part.specifications.items
    → start ≡ scope + 1 + length (constructs_of_block (unit_view u).body) → ps ≡ u.procedures.items
    → one ≡ found ++ taken_along (record { saved = true; unsaved = keeps; header = [] }) (get_or firsts scope 0) (map specification_view ss)
    → ((e : ℕ) → two ≡ one ++ flat_map (member_taken saved_alone) (members_from scopes e start (map procedure_view ps)))
    → two ≡ found ++ statics_by (numbered scopes scope (unit_view u))
statics_made scopes firsts scope u found one two keeps start ss ps fit are k is n p own inner =
    let v : UnitTree = unit_view u in
    let e : ℕ = first_entity scopes scope + length (flat_map declared_in (v.part).specifications) in
    let part : List ℕ = taken_along (kept_by v.kind) (first_entity scopes scope) (v.part).specifications in
    let names : one ≡ found ++ part =
    own ∙ ap (λ b. found ++ taken_along (record { saved = true; unsaved = b; header = [] }) (get_or firsts scope 0) (map specification_view ss)) k
    ∙ ap (λ l. found ++ taken_along (kept_by v.kind) (get_or firsts scope 0) (map specification_view l)) is
    ∙ ap (λ i. found ++ taken_along (kept_by v.kind) i (v.part).specifications) (begins firsts scope v fit scopes are) in
    inner e ∙ ap (λ i. one ++ flat_map (member_taken saved_alone) (members_from scopes e i (map procedure_view ps))) n
    ∙ ap (λ l. one ++ flat_map (member_taken saved_alone) (members_from scopes e (scope + 1 + length (constructs_of_block v.body)) (map procedure_view l))) p
    ∙ ap (λ l. l ++ flat_map (member_taken saved_alone) (members_from scopes e (scope + 1 + length (constructs_of_block v.body)) v.procedures)) names
    ∙ append_assoc found part (flat_map (member_taken saved_alone) (members_from scopes e (scope + 1 + length (constructs_of_block v.body)) v.procedures))

-- and the procedures
pub procedures_made : (scopes : List Scope) (firsts : List ℕ) (scope : ℕ) (u : ProgramUnit) (found two : List ℕ) (entity : ℕ) (ss : List Specification) (ps : List Procedure)
    → Fits firsts scope (unit_view u) → AreFirsts scopes firsts → ss ≡ u.part.specifications.items → ps ≡ u.procedures.items
    → entity ≡ get_or firsts scope 0 + length (flat_map declared_in (map specification_view ss)) → two ≡ found ++ counted entity (map procedure_view ps)
    → two ≡ found ++ procedures_by (numbered scopes scope (unit_view u))
procedures_made scopes firsts scope u found two entity ss ps fit are is p e h =
    let v : UnitTree = unit_view u in
    h ∙ ap (λ l. found ++ counted entity (map procedure_view l)) p
    ∙ ap (λ i. found ++ counted i v.procedures)
    (e ∙ ap (λ l. get_or firsts scope 0 + length (flat_map declared_in (map specification_view l))) is
    ∙ ap (λ i. i + length (flat_map declared_in (v.part).specifications)) (begins firsts scope v fit scopes are))

pub on_ok : {X E : Type 0} {P Q : Type 0} (r : Result X E) → (P → Q) → OnOk r P → OnOk r Q
on_ok (Ok x) f h = f h
on_ok (Err e) f h = h

-- the unit of this number
module _ (firsts numbers : List ℕ) (list : List ProgramUnit) (i : ℕ) (x : ProgramUnit) (lt : i < length list) (is : x ≡ get_or list i x) (same : length numbers ≡ length list) where
  pub fit_at : AllFit firsts numbers (map unit_view list) → Fits firsts (get_or numbers i 0) (unit_view x)
  fit_at fit = fit i (get_or numbers i 0) (unit_view x) (number_there numbers list i same lt) (tree_there list i x lt is)

  pub placed_at : (scopes : List Scope) → AreNumbers scopes numbers (map unit_view list)
      → slice_get (units_from scopes 0 (map unit_view list)) i ≡ Some (numbered scopes (get_or numbers i 0) (unit_view x))
  placed_at scopes are =
      unit_placed scopes 0 numbers (map unit_view list) i (get_or numbers i 0) (unit_view x) are (number_there numbers list i same lt) (tree_there list i x lt is)

  pub unit_found : (scopes : List Scope) (f : Numbered → List ℕ) → AreNumbers scopes numbers (map unit_view list)
      → f (numbered scopes (get_or numbers i 0) (unit_view x)) ≡ at_unit f (units_from scopes 0 (map unit_view list)) i
  unit_found scopes f are = sym (ap (λ (o : Option Numbered). map_or [] f o) (placed_at scopes are))

  pub unit_more : (scopes : List Scope) (f : Numbered → List ℕ) (before after : List ℕ) → AreNumbers scopes numbers (map unit_view list)
      → before ≡ flat_map f (take i (units_from scopes 0 (map unit_view list)))
      → after ≡ before ++ f (numbered scopes (get_or numbers i 0) (unit_view x))
      → after ≡ flat_map f (take (i + 1) (units_from scopes 0 (map unit_view list)))
  unit_more scopes f before after are h e =
      let units : List Numbered = units_from scopes 0 (map unit_view list) in
      let v : Numbered = numbered scopes (get_or numbers i 0) (unit_view x) in
      let there : slice_get units i ≡ Some v = placed_at scopes are in
      let here : get_or units i v ≡ v = get_or_from_slice_get units i v v there in
      e ∙ ap (λ l. l ++ f v) h
      ∙ ap (λ l. flat_map f (take i units) ++ l) (sym (append-nil (f v)))
      ∙ sym (flat_map-append f (take i units) (v ∷ []))
      ∙ ap (λ w. flat_map f (take i units ++ (w ∷ []))) (sym here)
      ∙ ap (flat_map f) (sym (take_more units i v (slice_get_within units i v there)))

pub unit_missing : (scopes : List Scope) (f : Numbered → List ℕ) (list : List ProgramUnit) (i : ℕ) → length list ≤ i → [] ≡ at_unit f (units_from scopes 0 (map unit_view list)) i
unit_missing scopes f list i le =
    let us = map unit_view list in
    let long = units_long scopes 0 us in
    let same = length-map list unit_view in
    sym (ap (λ (o : Option Numbered). map_or [] f o) (slice_get_past (units_from scopes 0 us) i (omega (arith, le, long, same))))

pub all_units : (scopes : List Scope) (f : Numbered → List ℕ) (list : List ProgramUnit) (i : ℕ) (found : List ℕ) → length list ≤ i
    → found ≡ flat_map f (take i (units_from scopes 0 (map unit_view list))) → found ≡ flat_map f (units_from scopes 0 (map unit_view list))
all_units scopes f list i found le h =
    let us = map unit_view list in
    let long = units_long scopes 0 us in
    let same = length-map list unit_view in
    h ∙ ap (flat_map f) (take_all i (units_from scopes 0 us) (omega (arith, le, long, same)))

-- ---- in an order

pub order_more : (g : UnitId → List ℕ) (xs : List UnitId) (i : ℕ) (x : UnitId) (before after : List ℕ) → i < length xs → x ≡ get_or xs i x
    → before ≡ flat_map g (take i xs) → after ≡ before ++ g x → after ≡ flat_map g (take (i + 1) xs)
order_more g xs i x before after lt is h e =
    e ∙ ap (λ l. l ++ g x) h ∙ ap (λ y. flat_map g (take i xs) ++ g y) is
    ∙ ap (λ l. flat_map g (take i xs) ++ l) (sym (append-nil (g (get_or xs i x))))
    ∙ sym (flat_map-append g (take i xs) (get_or xs i x ∷ [])) ∙ ap (flat_map g) (sym (take_more xs i x lt))

flat_found : (f : Numbered → List ℕ) (units : List Numbered) (xs : List UnitId)
    → flat_map (λ (x : UnitId). at_unit f units x.number) xs ≡ flat_map f (units_in units (map (λ (x : UnitId). x.number) xs))
flat_found f units [] = refl
flat_found f units (x ∷ xs) =
    ap (λ l. l ++ flat_map (λ (y : UnitId). at_unit f units y.number) xs) (one (slice_get units x.number))
    ∙ ap (λ l. flat_map f (found_at units x.number) ++ l) (flat_found f units xs)
    ∙ sym (flat_map-append f (found_at units x.number) (units_in units (map (λ (y : UnitId). y.number) xs)))
  where
    one : (o : Option Numbered) → map_or [] f o ≡ flat_map f (map_or [] (λ (u : Numbered). u ∷ []) o)
    one None = refl
    one (Some u) = sym (append-nil (f u))

pub all_ordered : (f : Numbered → List ℕ) (units : List Numbered) (xs ys : List UnitId) (i : ℕ) (found : List ℕ) → length xs ≤ i → xs ≡ ys
    → found ≡ flat_map (λ (x : UnitId). at_unit f units x.number) (take i xs) → found ≡ flat_map f (units_in units (map (λ (x : UnitId). x.number) ys))
all_ordered f units xs ys i found le same h =
    h ∙ ap (flat_map (λ (x : UnitId). at_unit f units x.number)) (take_all i xs le ∙ same) ∙ flat_found f units ys
