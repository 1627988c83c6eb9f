-- How many constructs are open behind a statement.
use Rattle.std.proofs.Common.{◌≡◌, ℕ, ◌+◌, Bool, true, false, List, [], ◌∷◌, ◌++◌, length, Option, Some, None, ◌⊎◌, inl, inr, refl, sym, ap, subst, ◌∙◌, arith}
use Rattle.std.specs.Prelude.{◌==◌, ◌&&◌}
use Rattle.std.specs.Option.{option_map}
use Rattle.f3_places.specs.declared.source.Place.{Place}
use Rattle.f3_tree.specs.declared.expression.Name.{Name}
use Rattle.f3_tree.specs.declared.program.UnitKind.{UnitKind}
use Rattle.f3_tree.specs.declared.program.UnitKind.TheVariants.{Module, Program}
use Rattle.f3_tree.specs.Expressions.{Tree}
use Rattle.f3_tree.specs.Statements.{Selects, StatementTree}
use Rattle.f3_tree.specs.Tree.{UnitTree}
use Rattle.f3_form.specs.declared.form.Ended.{Ended}
use Rattle.f3_form.specs.declared.form.Ended.TheVariants as ended
use Rattle.f3_form.specs.Forms.{FormTree}
use Rattle.f3_form.specs.Forms as form
use Rattle.f3_blocks.specs.Pieces.{Placed}
use Rattle.f3_blocks.specs.Pieces as blocks_pieces
use Rattle.f3_blocks.specs.Blocks.{may_act}
use Rattle.f3_blocks.specs.Machine as blocks
use Rattle.f3_blocks.specs.Machine.{Open, in_if, in_else, in_select, in_case, in_do, in_associate, may_stand, in_loop}
use Rattle.f3_parts.specs.Parts.{fits_label}
use Rattle.f3_parts.specs.Machine.{is_none, is_nil}
use Rattle.f3_units.specs.Roles.{Role, begins, contains, heads, ends, specifies, executes, role}
use Rattle.f3_units.specs.Units.{role_of, fits_unit, fits_procedure}
use Rattle.f3_units.specs.Depth.{begins_construct, ends_construct, one_if}
use Rattle.f3_units.specs.Machine.{Scope, Opened, Begun, State, free, busy, fresh, begun, with_block, with_scope, with_procedure, with_closed, to_part, in_scope, is_over, procedure_closed, in_procedure, between_procedures, with_contains, in_own, in_unit, unit_closed, still, inside, between_units, step_from, step, body_depth, unit_depth, depth}
use Rattle.f3_units.proofs.Reached.{both, when, mapped, nil_list, part_keeps}

-- ---- in a block

abbrev got : blocks.State → Option blocks.State
got s = Some s

abbrev size : blocks.State → ℕ
size s = length s.opens

same_size : (s t : blocks.State) → got s ≡ got t → size s ≡ size t
same_size s t h = let same : s ≡ t = cc in ap size same

pushed_size : (allowed : Bool) (n : StatementTree) (s t : blocks.State) → blocks.pushed allowed n s ≡ Some t → size s ≡ size t
pushed_size allowed n s t h = let w = when (may_stand s.opens && allowed) (Some (blocks.behind s.opens s.body n)) t h in same_size (blocks.behind s.opens s.body n) t w.1

opened_size : (o : Open) (s t : blocks.State) → blocks.opened o s ≡ Some t → length (o ∷ s.opens) ≡ size t
opened_size o s t h = let w = when (may_stand s.opens) (Some (blocks.within o s.opens)) t h in same_size (blocks.within o s.opens) t w.1

else_if_size : (p : Place) (e : Tree) (os : List Open) (b : List StatementTree) (t : blocks.State) → blocks.to_else_if p e os b ≡ Some t → length os ≡ size t
else_if_size p e [] b t h = absurd (cc)
else_if_size p e (in_if done q f c ∷ os) b t h = same_size _ t h
else_if_size p e (in_else done c ∷ os) b t h = absurd (cc)
else_if_size p e (in_select q f c ∷ os) b t h = absurd (cc)
else_if_size p e (in_case q f done u v c ∷ os) b t h = absurd (cc)
else_if_size p e (in_do q d c ∷ os) b t h = absurd (cc)
else_if_size p e (in_associate q d c ∷ os) b t h = absurd (cc)

else_size : (os : List Open) (b : List StatementTree) (t : blocks.State) → blocks.to_else os b ≡ Some t → length os ≡ size t
else_size [] b t h = absurd (cc)
else_size (in_if done q f c ∷ os) b t h = same_size _ t h
else_size (in_else done c ∷ os) b t h = absurd (cc)
else_size (in_select q f c ∷ os) b t h = absurd (cc)
else_size (in_case q f done u v c ∷ os) b t h = absurd (cc)
else_size (in_do q d c ∷ os) b t h = absurd (cc)
else_size (in_associate q d c ∷ os) b t h = absurd (cc)

case_size : (p : Place) (k : Selects) (os : List Open) (b : List StatementTree) (t : blocks.State) → blocks.to_case p k os b ≡ Some t → length os ≡ size t
case_size p k [] b t h = absurd (cc)
case_size p k (in_if done q f c ∷ os) b t h = absurd (cc)
case_size p k (in_else done c ∷ os) b t h = absurd (cc)
case_size p k (in_select q f c ∷ os) b t h = same_size _ t h
case_size p k (in_case q f done u v c ∷ os) b t h = same_size _ t h
case_size p k (in_do q d c ∷ os) b t h = absurd (cc)
case_size p k (in_associate q d c ∷ os) b t h = absurd (cc)

one_less : (o : Open) (os : List Open) (s t : blocks.State) → got s ≡ got t → s.opens ≡ os → size t + 1 ≡ length (o ∷ os)
one_less o os s t h is = omega (arith, same_size s t h, ap length is)

close_if_size : (os : List Open) (b : List StatementTree) (t : blocks.State) → blocks.close_if os b ≡ Some t → size t + 1 ≡ length os
close_if_size [] b t h = absurd (cc)
close_if_size (in_if done q f c ∷ os) b t h = one_less (in_if done q f c) os _ t h refl
close_if_size (in_else done c ∷ os) b t h = one_less (in_else done c) os _ t h refl
close_if_size (in_select q f c ∷ os) b t h = absurd (cc)
close_if_size (in_case q f done u v c ∷ os) b t h = absurd (cc)
close_if_size (in_do q d c ∷ os) b t h = absurd (cc)
close_if_size (in_associate q d c ∷ os) b t h = absurd (cc)

close_select_size : (os : List Open) (b : List StatementTree) (t : blocks.State) → blocks.close_select os b ≡ Some t → size t + 1 ≡ length os
close_select_size [] b t h = absurd (cc)
close_select_size (in_if done q f c ∷ os) b t h = absurd (cc)
close_select_size (in_else done c ∷ os) b t h = absurd (cc)
close_select_size (in_select q f c ∷ os) b t h = one_less (in_select q f c) os _ t h refl
close_select_size (in_case q f done u v c ∷ os) b t h = one_less (in_case q f done u v c) os _ t h refl
close_select_size (in_do q d c ∷ os) b t h = absurd (cc)
close_select_size (in_associate q d c ∷ os) b t h = absurd (cc)

close_do_size : (os : List Open) (b : List StatementTree) (t : blocks.State) → blocks.close_do os b ≡ Some t → size t + 1 ≡ length os
close_do_size [] b t h = absurd (cc)
close_do_size (in_if done q f c ∷ os) b t h = absurd (cc)
close_do_size (in_else done c ∷ os) b t h = absurd (cc)
close_do_size (in_select q f c ∷ os) b t h = absurd (cc)
close_do_size (in_case q f done u v c ∷ os) b t h = absurd (cc)
close_do_size (in_do q d c ∷ os) b t h = one_less (in_do q d c) os _ t h refl
close_do_size (in_associate q d c ∷ os) b t h = absurd (cc)

close_associate_size : (os : List Open) (b : List StatementTree) (t : blocks.State) → blocks.close_associate os b ≡ Some t → size t + 1 ≡ length os
close_associate_size [] b t h = absurd (cc)
close_associate_size (in_if done q f c ∷ os) b t h = absurd (cc)
close_associate_size (in_else done c ∷ os) b t h = absurd (cc)
close_associate_size (in_select q f c ∷ os) b t h = absurd (cc)
close_associate_size (in_case q f done u v c ∷ os) b t h = absurd (cc)
close_associate_size (in_do q d c ∷ os) b t h = absurd (cc)
close_associate_size (in_associate q d c ∷ os) b t h = one_less (in_associate q d c) os _ t h refl

-- what a statement opens and ends, and the numbers of open constructs before and behind it
abbrev Counts : FormTree → ℕ → ℕ → Type 0
Counts f n m = m + one_if (ends_construct f) ≡ n + one_if (begins_construct f)

block_depth : (procedure : Bool) (p : Place) (f : FormTree) (s t : blocks.State) → blocks.step procedure (blocks_pieces.piece p f) s ≡ Some t → Counts f (size s) (size t)
block_depth procedure p (form.acts a) s t h = omega (arith, pushed_size (may_act procedure (in_loop s.opens) a) _ s t h)
block_depth procedure p (form.acts_if e q a) s t h = omega (arith, pushed_size (may_act procedure (in_loop s.opens) a) _ s t h)
block_depth procedure p (form.if_then e) s t h = omega (arith, opened_size _ s t h)
block_depth procedure p (form.else_if e) s t h = omega (arith, else_if_size p e s.opens s.body t h)
block_depth procedure p form.else_alone s t h = omega (arith, else_size s.opens s.body t h)
block_depth procedure p (form.select_case e) s t h = omega (arith, opened_size _ s t h)
block_depth procedure p (form.case_of k) s t h = omega (arith, case_size p k s.opens s.body t h)
block_depth procedure p (form.repeats c) s t h = omega (arith, opened_size _ s t h)
block_depth procedure p (form.associates xs) s t h = omega (arith, opened_size _ s t h)
block_depth procedure p (form.ends (Some ended.If) None) s t h = omega (arith, close_if_size s.opens s.body t h)
block_depth procedure p (form.ends (Some ended.Select) None) s t h = omega (arith, close_select_size s.opens s.body t h)
block_depth procedure p (form.ends (Some ended.Do) None) s t h = omega (arith, close_do_size s.opens s.body t h)
block_depth procedure p (form.ends (Some ended.Associate) None) s t h = omega (arith, close_associate_size s.opens s.body t h)
block_depth procedure p (form.ends (Some ended.If) (Some n)) s t h = absurd (cc)
block_depth procedure p (form.ends (Some ended.Select) (Some n)) s t h = absurd (cc)
block_depth procedure p (form.ends (Some ended.Do) (Some n)) s t h = absurd (cc)
block_depth procedure p (form.ends (Some ended.Associate) (Some n)) s t h = absurd (cc)
block_depth procedure p (form.ends (Some ended.Type) n) s t h = absurd (cc)
block_depth procedure p (form.ends (Some ended.Module) n) s t h = absurd (cc)
block_depth procedure p (form.ends (Some ended.Program) n) s t h = absurd (cc)
block_depth procedure p (form.ends (Some ended.Subroutine) n) s t h = absurd (cc)
block_depth procedure p (form.ends (Some ended.Function) n) s t h = absurd (cc)
block_depth procedure p (form.ends None n) s t h = absurd (cc)
block_depth procedure p (form.unit kind n) s t h = absurd (cc)
block_depth procedure p form.contains s t h = absurd (cc)
block_depth procedure p (form.procedure header) s t h = absurd (cc)
block_depth procedure p (form.uses u) s t h = absurd (cc)
block_depth procedure p form.implicit_none s t h = absurd (cc)
block_depth procedure p (form.accesses a) s t h = absurd (cc)
block_depth procedure p (form.protects names) s t h = absurd (cc)
block_depth procedure p form.saves s t h = absurd (cc)
block_depth procedure p (form.declares d) s t h = absurd (cc)
block_depth procedure p (form.type_begins a n) s t h = absurd (cc)
block_depth procedure p (form.finals names) s t h = absurd (cc)

-- ---- in a unit

-- no other statement than one of a block opens or ends a construct
plain : (f : FormTree) → (role f ≡ executes) ⊎ ((n : ℕ) → Counts f n n)
plain (form.acts a) = inl refl
plain (form.acts_if e q a) = inl refl
plain (form.if_then e) = inl refl
plain (form.else_if e) = inl refl
plain form.else_alone = inl refl
plain (form.select_case e) = inl refl
plain (form.case_of k) = inl refl
plain (form.repeats c) = inl refl
plain (form.associates xs) = inl refl
plain (form.ends (Some ended.If) n) = inl refl
plain (form.ends (Some ended.Select) n) = inl refl
plain (form.ends (Some ended.Do) n) = inl refl
plain (form.ends (Some ended.Associate) n) = inl refl
plain (form.ends (Some ended.Type) n) = inr (λ n. refl)
plain (form.ends (Some ended.Module) n) = inr (λ n. refl)
plain (form.ends (Some ended.Program) n) = inr (λ n. refl)
plain (form.ends (Some ended.Subroutine) n) = inr (λ n. refl)
plain (form.ends (Some ended.Function) n) = inr (λ n. refl)
plain (form.ends None n) = inr (λ n. refl)
plain (form.unit kind n) = inr (λ n. refl)
plain form.contains = inr (λ n. refl)
plain (form.procedure header) = inr (λ n. refl)
plain (form.uses u) = inr (λ n. refl)
plain form.implicit_none = inr (λ n. refl)
plain (form.accesses a) = inr (λ n. refl)
plain (form.protects names) = inr (λ n. refl)
plain form.saves = inr (λ n. refl)
plain (form.declares d) = inr (λ n. refl)
plain (form.type_begins a n) = inr (λ n. refl)
plain (form.finals names) = inr (λ n. refl)

stays_same : (f : FormTree) (r : Role) (n m : ℕ) → role f ≡ r → (r ≡ executes → ⊥) → n ≡ m → Counts f n m
stays_same f r n m is other same = by (plain f)
  where
    by : (role f ≡ executes) ⊎ ((k : ℕ) → Counts f k k) → Counts f n m
    by (inl h) = absurd (other (sym is ∙ h))
    by (inr h) = subst (λ (k : ℕ). Counts f n k) same (h n)

begins_no : (kind : UnitKind) (name : Name) → begins kind name ≡ executes → ⊥
begins_no kind name e = absurd (cc)

contains_no : contains ≡ executes → ⊥
contains_no e = absurd (cc)

ends_no : (what : Option Ended) (label : Option Name) → ends what label ≡ executes → ⊥
ends_no what label e = absurd (cc)

specifies_no : specifies ≡ executes → ⊥
specifies_no e = absurd (cc)

abbrev scope_size : Scope → ℕ
scope_size s = length s.block.opens

part_size : (m : Bool) (p : Placed) (s t : Scope) → to_part m p s ≡ Some t → scope_size s ≡ scope_size t
part_size m p s t h = sym (ap size (part_keeps m p s t h))

scope_depth : (procedure : Bool) (r : Role) (p : Placed) (s t : Scope) → role_of p ≡ r → in_scope procedure r p s ≡ Some t → Counts p.form (scope_size s) (scope_size t)
scope_depth procedure executes p s t is h =
    let one = when (is_none s.part.open_type) (option_map (with_block s) (blocks.step procedure (blocks_pieces.piece_of p) s.block)) t h in
    let two = mapped (with_block s) (blocks.step procedure (blocks_pieces.piece_of p) s.block) t one.1 in
    subst (λ (x : Scope). Counts p.form (scope_size s) (scope_size x)) two.2 (block_depth procedure p.place p.form s.block two.0 two.1)
scope_depth procedure specifies p s t is h = stays_same p.form specifies (scope_size s) (scope_size t) is specifies_no (part_size false p s t h)
scope_depth procedure contains p s t is h = stays_same p.form contains (scope_size s) (scope_size t) is contains_no (part_size false p s t h)
scope_depth procedure (begins kind name) p s t is h = absurd (cc)
scope_depth procedure (heads header) p s t is h = absurd (cc)
scope_depth procedure (ends what label) p s t is h = absurd (cc)

no_opens : (s : Scope) → is_over s ≡ true → scope_size s ≡ 0
no_opens s over = ap length (nil_list s.block.opens (both (is_none s.part.open_type) (is_nil s.block.opens) over).1)

abbrev own_depth : Begun → ℕ
own_depth u = body_depth u.contains u.procedure u.scope

procedure_depth : (r : Role) (p : Placed) (u v : Begun) (c : Place) (o : Opened) → role_of p ≡ r → u.contains ≡ Some c → in_procedure r p u o ≡ Some v → Counts p.form (scope_size o.scope) (own_depth v)
procedure_depth r p u v c o is there e = by r is e
  where
    goes : (r : Role) → role_of p ≡ r → option_map (with_procedure u o.header) (in_scope true r p o.scope) ≡ Some v → Counts p.form (scope_size o.scope) (own_depth v)
    goes r is e =
        let w = mapped (with_procedure u o.header) (in_scope true r p o.scope) v e in
        let at : body_depth u.contains (Some (record { header = o.header; scope = w.0 })) u.scope ≡ scope_size w.0 = ap (λ (x : Option Place). body_depth x (Some (record { header = o.header; scope = w.0 })) u.scope) there in
        subst (λ (x : Begun). Counts p.form (scope_size o.scope) (own_depth x)) w.2 (subst (λ (n : ℕ). Counts p.form (scope_size o.scope) n) (sym at) (scope_depth true r p o.scope w.0 is w.1))

    by : (r : Role) → role_of p ≡ r → in_procedure r p u o ≡ Some v → Counts p.form (scope_size o.scope) (own_depth v)
    by (ends what label) is e =
        let w = mapped (with_closed u) (procedure_closed p.place what label o) v e in
        let one = when (is_over o.scope && (fits_procedure what (o.header).kind && fits_label label (o.header).name)) _ w.0 w.1 in
        let none = no_opens o.scope (both (is_over o.scope) (fits_procedure what (o.header).kind && fits_label label (o.header).name) one.0).0 in
        let at : body_depth u.contains None u.scope ≡ 0 = ap (λ (x : Option Place). body_depth x None u.scope) there in
        stays_same p.form (ends what label) (scope_size o.scope) (own_depth v) is (ends_no what label) (none ∙ sym at ∙ ap own_depth w.2)
    by (begins kind name) is e = goes (begins kind name) is e
    by contains is e = goes contains is e
    by (heads header) is e = goes (heads header) is e
    by specifies is e = goes specifies is e
    by executes is e = goes executes is e

between_depth : (r : Role) (p : Placed) (u v : Begun) (c : Place) → role_of p ≡ r → u.contains ≡ Some c → between_procedures r u ≡ Some v → Counts p.form 0 (own_depth v)
between_depth (heads header) p u v c is there e =
    let same : with_procedure u header fresh ≡ v = cc in
    let at : body_depth u.contains (Some (record { header = header; scope = fresh })) u.scope ≡ 0 = ap (λ (x : Option Place). body_depth x (Some (record { header = header; scope = fresh })) u.scope) there in
    stays_same p.form (heads header) 0 (own_depth v) is (λ h. absurd (cc)) (sym at ∙ ap own_depth same)
between_depth (begins kind name) p u v c is there e = absurd (cc)
between_depth contains p u v c is there e = absurd (cc)
between_depth (ends what label) p u v c is there e = absurd (cc)
between_depth specifies p u v c is there e = absurd (cc)
between_depth executes p u v c is there e = absurd (cc)

at_scope : (u : Begun) (s : Scope) → u.contains ≡ None → own_depth (with_scope u s) ≡ scope_size s
at_scope u s none = ap (λ (x : Option Place). body_depth x u.procedure s) none

module_part_depth : (p : Placed) (u v : Begun) (r : Role) → role_of p ≡ r → (r ≡ executes → ⊥) → u.contains ≡ None → option_map (with_scope u) (to_part true p u.scope) ≡ Some v → Counts p.form (scope_size u.scope) (own_depth v)
module_part_depth p u v r is other none e =
    let w = mapped (with_scope u) (to_part true p u.scope) v e in
    stays_same p.form r (scope_size u.scope) (own_depth v) is other (part_size true p u.scope w.0 w.1 ∙ sym (at_scope u w.0 none) ∙ ap own_depth w.2)

contains_depth : (p : Placed) (u v : Begun) → role_of p ≡ contains → u.contains ≡ None → u.procedure ≡ None → with_contains p u ≡ Some v → Counts p.form (scope_size u.scope) (own_depth v)
contains_depth p u v is none closed e = by (is_over u.scope) refl
  where
    by : (over : Bool) → is_over u.scope ≡ over → Counts p.form (scope_size u.scope) (own_depth v)
    by false no_over = module_part_depth p u v contains is contains_no none (rw no_over at e)
    by true over =
        let went : Some (record u { contains = Some p.place }) ≡ Some v = rw over at e in
        let same : record u { contains = Some p.place } ≡ v = cc in
        let at : body_depth (Some p.place) u.procedure u.scope ≡ 0 = ap (λ (x : Option Opened). body_depth (Some p.place) x u.scope) closed in
        stays_same p.form contains (scope_size u.scope) (own_depth v) is contains_no (no_opens u.scope over ∙ sym at ∙ ap own_depth same)

own_step_depth : (kind : UnitKind) (r : Role) (p : Placed) (u v : Begun) → role_of p ≡ r → u.contains ≡ None → u.procedure ≡ None → in_own kind r p u ≡ Some v → Counts p.form (scope_size u.scope) (own_depth v)
own_step_depth Program r p u v is none closed e =
    let w = mapped (with_scope u) (in_scope false r p u.scope) v e in
    subst (λ (n : ℕ). Counts p.form (scope_size u.scope) n) (sym (at_scope u w.0 none) ∙ ap own_depth w.2) (scope_depth false r p u.scope w.0 is w.1)
own_step_depth Module specifies p u v is none closed e = module_part_depth p u v specifies is specifies_no none e
own_step_depth Module contains p u v is none closed e = contains_depth p u v is none closed e
own_step_depth Module (begins k name) p u v is none closed e = absurd (cc)
own_step_depth Module (heads header) p u v is none closed e = absurd (cc)
own_step_depth Module (ends what label) p u v is none closed e = absurd (cc)
own_step_depth Module executes p u v is none closed e = absurd (cc)

unit_step_depth : (c : Option Place) (o : Option Opened) (p : Placed) (u v : Begun) → u.contains ≡ c → u.procedure ≡ o → in_unit c o (role_of p) p u ≡ Some v → Counts p.form (body_depth c o u.scope) (own_depth v)
unit_step_depth None None p u v there opens e = own_step_depth u.kind (role_of p) p u v refl there opens e
unit_step_depth None (Some o) p u v there opens e = absurd (cc)
unit_step_depth (Some c) None p u v there opens e = between_depth (role_of p) p u v c refl there e
unit_step_depth (Some c) (Some o) p u v there opens e = procedure_depth (role_of p) p u v c o refl there e

over_depth : (c : Option Place) (s : Scope) → is_over s ≡ true → body_depth c None s ≡ 0
over_depth None s over = no_opens s over
over_depth (Some c) s over = refl

inside_depth : (o : Option Opened) (r : Role) (p : Placed) (done : List UnitTree) (u : Begun) (t : State) → u.procedure ≡ o → role_of p ≡ r → inside o r p done u ≡ Some t → Counts p.form (own_depth u) (depth t)
inside_depth o r p done u t opens is e = by o r opens is e
  where
    goes : (o : Option Opened) (r : Role) → u.procedure ≡ o → role_of p ≡ r → still done (in_unit u.contains o r p u) ≡ Some t → Counts p.form (own_depth u) (depth t)
    goes o r opens is e =
        let w = mapped (busy done) (in_unit u.contains o r p u) t e in
        let went : in_unit u.contains o (role_of p) p u ≡ Some w.0 = subst (λ (x : Role). in_unit u.contains o x p u ≡ Some w.0) (sym is) w.1 in
        let one : Counts p.form (body_depth u.contains o u.scope) (own_depth w.0) = unit_step_depth u.contains o p u w.0 refl opens went in
        subst (λ (x : State). Counts p.form (own_depth u) (depth x)) w.2 (subst (λ (x : Option Opened). Counts p.form (body_depth u.contains x u.scope) (own_depth w.0)) (sym opens) one)

    by : (o : Option Opened) (r : Role) → u.procedure ≡ o → role_of p ≡ r → inside o r p done u ≡ Some t → Counts p.form (own_depth u) (depth t)
    by None (ends what label) opens is e =
        let w = mapped (λ v. free (done ++ v ∷ [])) (unit_closed p.place what label u) t e in
        let one = when (is_over u.scope && (fits_unit what u.kind && fits_label label u.name)) _ w.0 w.1 in
        let over = (both (is_over u.scope) (fits_unit what u.kind && fits_label label u.name) one.0).0 in
        let zero : own_depth u ≡ 0 = ap (λ (x : Option Opened). body_depth u.contains x u.scope) opens ∙ over_depth u.contains u.scope over in
        stays_same p.form (ends what label) (own_depth u) (depth t) is (ends_no what label) (zero ∙ ap depth w.2)
    by None (begins kind name) opens is e = goes None (begins kind name) opens is e
    by None contains opens is e = goes None contains opens is e
    by None (heads header) opens is e = goes None (heads header) opens is e
    by None specifies opens is e = goes None specifies opens is e
    by None executes opens is e = goes None executes opens is e
    by (Some q) r opens is e = goes (Some q) r opens is e

between_units_depth : (r : Role) (p : Placed) (done : List UnitTree) (t : State) → role_of p ≡ r → between_units r p done ≡ Some t → Counts p.form 0 (depth t)
between_units_depth (begins kind name) p done t is e =
    let same : busy done (begun p.place kind name) ≡ t = cc in
    stays_same p.form (begins kind name) 0 (depth t) is (begins_no kind name) (ap depth same)
between_units_depth contains p done t is e = absurd (cc)
between_units_depth (heads header) p done t is e = absurd (cc)
between_units_depth (ends what label) p done t is e = absurd (cc)
between_units_depth specifies p done t is e = absurd (cc)
between_units_depth executes p done t is e = absurd (cc)

from_depth : (o : Option Begun) (p : Placed) (done : List UnitTree) (t : State) → step_from o p done ≡ Some t → Counts p.form (unit_depth o) (depth t)
from_depth None p done t e = between_units_depth (role_of p) p done t refl e
from_depth (Some u) p done t e =
    let w = when (u.file == (p.place).file) (inside u.procedure (role_of p) p done u) t e in
    inside_depth u.procedure (role_of p) p done u t refl refl w.1

pub step_depth : (p : Placed) (s t : State) → step p s ≡ Some t → depth t + one_if (ends_construct p.form) ≡ depth s + one_if (begins_construct p.form)
step_depth p s t e = from_depth s.unit p s.done t e
