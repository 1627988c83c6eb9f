-- A walk along the procedures of a unit: one procedure more, and at the end.
use Rattle.std.proofs.Common.{◌≡◌, ℕ, ◌+◌, ◌<◌, ◌≤◌, List, [], ◌∷◌, map, drop, get_or, length, Option, arith, ap, sym, ◌∙◌, subst}
use Rattle.std.proofs.lemmas.List.{at_drop_more, drop_all}
use Rattle.f3_rules.specs.declared.breaks.Break.{Break}
use Rattle.f3_access.specs.Access.{first_entity}
use Rattle.f3_scopes.specs.Outlines.{Scope}
use Rattle.f3_tree.specs.declared.program.Procedure.{Procedure}
use Rattle.f3_tree.specs.Tree.{ProcedureTree, procedure_view}
use Rattle.f3_typed_parts.specs.Noted.{noted}
use Rattle.f3_typed_parts.proofs.Noting.{noted_more, noted_none}
use Rattle.f3_type_rules.specs.Associates.{constructs_of_block}
use Rattle.f3_type_rules.specs.Declarations.{member_rows, member_next}
use Rattle.f3_type_rules.specs.Members.{Member, members_from}
use Rattle.f3_type_rules.specs.Scene.{Scene}
use Rattle.f3_type_rules.specs.Walks.{after, along, Known}
use Rattle.f3_entities.specs.declared.growth.Growth.{Growth}
use Rattle.f3_entities.specs.Growth.{Stands}
use Rattle.f3_part_rules.specs.Members.{member_of, Fit}
use Rattle.f3_part_rules.specs.Inner.Reaching.{Reaches}

-- the scope behind a procedure
abbrev pub scope_behind : (scope : ℕ) → ProcedureTree → ℕ
scope_behind scope p = scope + 1 + length (constructs_of_block p.body)

-- what is left of a list, from the procedure at hand on
view_more : (xs : List Procedure) (i : ℕ) (x : Procedure) → i < length xs → x ≡ get_or xs i x
    → map procedure_view (drop i xs) ≡ procedure_view x ∷ map procedure_view (drop (i + 1) xs)
view_more xs i x lt is =
    at_drop_more (map procedure_view) xs i x lt ∙ ap (λ (y : Procedure). procedure_view y ∷ map procedure_view (drop (i + 1) xs)) (sym is)

view_none : (xs : List Procedure) (i : ℕ) → length xs ≤ i → map procedure_view (drop i xs) ≡ []
view_none xs i le = ap (map procedure_view) (drop_all i xs le)

-- no scope on the way is behind the last that is known
pub fit_within : (firsts : List ℕ) (room scope : ℕ) (ps : List ProcedureTree) → Fit firsts room scope ps → scope ≤ length firsts
fit_within firsts room scope [] h = h
fit_within firsts room scope (p ∷ ps) h = let k = fit_within firsts room (scope_behind scope p) ps h.1 in omega (arith, k)

pub fit_here : (firsts : List ℕ) (room scope : ℕ) (xs : List Procedure) (i : ℕ) (x : Procedure) → i < length xs → x ≡ get_or xs i x
    → Fit firsts room scope (map procedure_view (drop i xs)) → Fit firsts room scope (procedure_view x ∷ map procedure_view (drop (i + 1) xs))
fit_here firsts room scope xs i x lt is h = subst (Fit firsts room scope) (view_more xs i x lt is) h

pub behind_within : (firsts : List ℕ) (room scope : ℕ) (xs : List Procedure) (i : ℕ) (x : Procedure) → i < length xs → x ≡ get_or xs i x
    → Fit firsts room scope (map procedure_view (drop i xs)) → scope_behind scope (procedure_view x) ≤ length firsts
behind_within firsts room scope xs i x lt is h =
    fit_within firsts room (scope_behind scope (procedure_view x)) (map procedure_view (drop (i + 1) xs)) (fit_here firsts room scope xs i x lt is h).1

pub scope_within : (firsts : List ℕ) (room scope : ℕ) (xs : List Procedure) (i : ℕ) (x : Procedure) → i < length xs → x ≡ get_or xs i x
    → Fit firsts room scope (map procedure_view (drop i xs)) → scope < length firsts
scope_within firsts room scope xs i x lt is h = let k = behind_within firsts room scope xs i x lt is h in omega (arith, k)

pub fit_more : (firsts : List ℕ) (room scope scope' : ℕ) (xs : List Procedure) (i : ℕ) (x : Procedure) → i < length xs → x ≡ get_or xs i x
    → scope' ≡ scope_behind scope (procedure_view x)
    → Fit firsts room scope (map procedure_view (drop i xs)) → Fit firsts room scope' (map procedure_view (drop (i + 1) xs))
fit_more firsts room scope scope' xs i x lt is e h =
    subst (λ (n : ℕ). Fit firsts room n (map procedure_view (drop (i + 1) xs))) (sym e) (fit_here firsts room scope xs i x lt is h).1

reaches_here : (s : Scene) (unit : ℕ) (scopes : List Scope) (g g' : Growth) (first first' whole : Option Break) (scope scope' entity : ℕ) (p : ProcedureTree) (ps : List ProcedureTree) (end : Known)
    → entity ≡ first_entity scopes scope → scope' ≡ scope_behind scope p
    → ((k : Known) (e : ℕ) → Stands s g k → first' ≡ noted first (member_rows s unit k (member_of e scope entity p)))
    → ((k : Known) (e : ℕ) → Stands s g k → Stands s g' (member_next s unit k (member_of e scope entity p)))
    → Reaches s unit scopes g first scope (p ∷ ps) whole end → Reaches s unit scopes g' first' scope' ps whole end
reaches_here s unit scopes g g' first first' whole scope scope' entity p ps end here behind rows next h =
    let m : Member = member_of h.entity scope (first_entity scopes scope) p in
    let same : member_of h.entity scope entity p ≡ m = ap (λ (n : ℕ). member_of h.entity scope n p) here in
    let k : Known = member_next s unit h.known m in
    let rest : List Break = along (member_rows s unit) (member_next s unit) k (members_from scopes (h.entity + 1) (scope_behind scope p) ps) in
    record {
      known = k;
      entity = h.entity + 1;
      stands = subst (λ (n : Member). Stands s g' (member_next s unit h.known n)) same (next h.known h.entity h.stands);
      noted = ap (λ (n : ℕ). noted first' (along (member_rows s unit) (member_next s unit) k (members_from scopes (h.entity + 1) n ps))) behind
          ∙ ap (λ (z : Option Break). noted z rest) (rows h.known h.entity h.stands ∙ ap (λ (n : Member). noted first (member_rows s unit h.known n)) same)
          ∙ noted_more first (member_rows s unit h.known m) rest
          ∙ h.noted;
      ended = ap (λ (n : ℕ). after (member_next s unit) k (members_from scopes (h.entity + 1) n ps)) behind ∙ h.ended;
    }

pub reaches_more : (s : Scene) (unit : ℕ) (scopes : List Scope) (g g' : Growth) (first first' whole : Option Break) (scope scope' entity : ℕ) (xs : List Procedure) (i : ℕ) (x : Procedure) (end : Known)
    → i < length xs → x ≡ get_or xs i x
    → entity ≡ first_entity scopes scope → scope' ≡ scope_behind scope (procedure_view x)
    → ((k : Known) (e : ℕ) → Stands s g k → first' ≡ noted first (member_rows s unit k (member_of e scope entity (procedure_view x))))
    → ((k : Known) (e : ℕ) → Stands s g k → Stands s g' (member_next s unit k (member_of e scope entity (procedure_view x))))
    → Reaches s unit scopes g first scope (map procedure_view (drop i xs)) whole end
    → Reaches s unit scopes g' first' scope' (map procedure_view (drop (i + 1) xs)) whole end
reaches_more s unit scopes g g' first first' whole scope scope' entity xs i x end lt is here behind rows next h =
    reaches_here s unit scopes g g' first first' whole scope scope' entity (procedure_view x) (map procedure_view (drop (i + 1) xs)) end here behind rows next
    (subst (λ (ps : List ProcedureTree). Reaches s unit scopes g first scope ps whole end) (view_more xs i x lt is) h)

-- at the end
reaches_none : (s : Scene) (unit : ℕ) (scopes : List Scope) (g : Growth) (first whole : Option Break) (scope : ℕ) (xs : List Procedure) (i : ℕ) (end : Known) → length xs ≤ i
    → Reaches s unit scopes g first scope (map procedure_view (drop i xs)) whole end → Reaches s unit scopes g first scope [] whole end
reaches_none s unit scopes g first whole scope xs i end le h =
    subst (λ (ps : List ProcedureTree). Reaches s unit scopes g first scope ps whole end) (view_none xs i le) h

pub noted_all : (s : Scene) (unit : ℕ) (scopes : List Scope) (g : Growth) (first whole : Option Break) (scope : ℕ) (xs : List Procedure) (i : ℕ) (end : Known) → length xs ≤ i
    → Reaches s unit scopes g first scope (map procedure_view (drop i xs)) whole end → first ≡ whole
noted_all s unit scopes g first whole scope xs i end le h = sym (noted_none first) ∙ (reaches_none s unit scopes g first whole scope xs i end le h).noted

pub stands_behind : (s : Scene) (unit : ℕ) (scopes : List Scope) (g : Growth) (first whole : Option Break) (scope : ℕ) (xs : List Procedure) (i : ℕ) (end : Known) → length xs ≤ i
    → Reaches s unit scopes g first scope (map procedure_view (drop i xs)) whole end → Stands s g end
stands_behind s unit scopes g first whole scope xs i end le h =
    let r : Reaches s unit scopes g first scope [] whole end = reaches_none s unit scopes g first whole scope xs i end le h in
    subst (Stands s g) r.ended r.stands
