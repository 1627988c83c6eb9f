-- Statements that break no rule fit.
use Rattle.std.proofs.Common.{◌≡◌, ℕ, ◌+◌, Bool, true, false, not, List, [], ◌∷◌, length, map, Option, None, Some, refl, sym, ap, ◌∙◌}
use Rattle.std.specs.Prelude.{pos, nat_eq}
use Rattle.std.specs.List.{flat_map}
use Rattle.std.specs.Map.{lookup}
use Rattle.f3_places.specs.declared.source.Place.{Place}
use Rattle.f3_rules.specs.declared.breaks.Break.{Break}
use Rattle.f3_tree.specs.Expressions as e
use Rattle.f3_tree.specs.Statements as t
use Rattle.f3_tree.specs.Statements.{AssociationTree}
use Rattle.f3_program.specs.declared.declarations.Kind.{Kind}
use Rattle.f3_program.specs.declared.program.Program.{Program}
use Rattle.f3_kinds.specs.declared.types.DataType.{DataType}
use Rattle.f3_kinds.specs.declared.types.Wanted.TheVariants as wanted
use Rattle.f3_kinds.specs.declared.said.Has.{Has}
use Rattle.f3_kinds.specs.Things.{map_or, Context}
use Rattle.f3_kinds.specs.Rows.{scalar_rows, fits, has_fits, is_intrinsic_type, type_fits}
use Rattle.f3_kinds.specs.Operands.{type_in}
use Rattle.f3_kinds.specs.Typing.{said, breaks}
use Rattle.f3_meaning_whole.specs.Permitted.{Each}
use Rattle.f3_meaning_whole.specs.Formed.{all, alike, or_none}
use Rattle.f3_cell_kinds.specs.Types.{Scope, selecting, associating}
use Rattle.f3_cell_kinds.specs.Values.{kind_or}
use Rattle.f3_type_rules.specs.declared.definition.Holder.{Holder}
use Rattle.f3_type_rules.specs.Associates.{associated, associate_nature, constructs_of, constructs_of_branches, constructs_of_block, site_inside}
use Rattle.f3_type_rules.specs.Bodies.{act_rows, control_rows, selector_rows, statement_breaks, block_breaks, branch_breaks, other_breaks, case_breaks}
use Rattle.f3_type_rules.specs.Cases.{select_breaks, case_rows, all_values, selected_type}
use Rattle.f3_type_rules.specs.Definitions.{Site, in_loop}
use Rattle.f3_type_rules.specs.Statements.{act_breaks, condition_breaks, control_breaks, number_breaks, number_defined, variable_of}
use Rattle.f3_elaboration.specs.Nodes as n
use Rattle.f3_elaboration.specs.Nodes.{ExpressionNode, StatementNode}
use Rattle.f3_elaboration.specs.Context.{Surroundings, base, inside}
use Rattle.f3_elaboration.specs.Expressions.{number, expression}
use Rattle.f3_elaboration.specs.Actions.{action, nothing_done, kind_by, variable}
use Rattle.f3_elaboration.specs.Statements.{loop, selected, selector, statement, block, branches, alternative, cases}
use Rattle.f3_lawful_laws.specs.Written.{IsWritten, IsActWritten}
use Rattle.f3_lawful_laws.specs.Blocks.{IsStepWritten, IsControlWritten, Opens, IsPlaced, IsBlockPlaced, AreBranchesPlaced, IsOtherPlaced, AreCasesPlaced}
use Rattle.f3_lawful_laws.proofs.Facts.{no, first, second, both, left, when_true, none_before, none_behind}
use Rattle.f3_lawful_laws.proofs.Typed.{fit}
use Rattle.f3_formed_laws.specs.Levels.{IsLevelled, IsActLevelled, IsStepLevelled, IsControlLevelled, IsStatementLevelled, IsBlockLevelled, AreBranchesLevelled}
use Rattle.f3_formed_laws.specs.Levels.{IsOtherLevelled, AreCasesLevelled}
use Rattle.f3_formed_laws.specs.Agreement.{AgreesInKinds}
use Rattle.f3_formed_laws.proofs.Alike.{IsOf, IsKind}
use Rattle.f3_formed_laws.proofs.Scalars.{typed_of}
use Rattle.f3_formed_laws.proofs.Expressions.{expression_is}
use Rattle.f3_formed_laws.proofs.Naming.{IsSelector, kinds_for, selectors_are}
use Rattle.f3_formed_laws.proofs.Inside.{agrees_within, lent_within}
use Rattle.f3_fitting_laws.specs.Bounded.{HasWords, IsBounded, IsActBounded, IsStepBounded, IsControlBounded, IsStatementBounded, IsBlockBounded, AreBranchesBounded}
use Rattle.f3_fitting_laws.specs.Bounded.{IsOtherBounded, AreCasesBounded}
use Rattle.f3_fitting_laws.proofs.Nodes.{kind, value_fits, object_fits, selector_fits, statement_fits, statements_fit}
use Rattle.f3_fitting_laws.proofs.Expressions.{expression_fits}
use Rattle.f3_block_laws.proofs.Actions.{action_fits, variable_fits}
use Rattle.f3_block_laws.proofs.Cases.{ranges_are}

module _ (p : Program) (held : ℕ → Option Holder) where
  -- where a statement stands
  pub record Here (c : Scope) (s : Surroundings) (site : Site) : Type 0 where
    pub agrees : AgreesInKinds p c.variables c.names s
    pub words : HasWords s.context
    pub lent : s.lent ≡ length c.names
    pub here : site.context ≡ s.context

  -- the value of a SELECT CASE
  record Selects (s : Surroundings) (x : e.Tree) (k : Kind) : Type 0 where
    pub type : DataType
    pub intrinsic : is_intrinsic_type type ≡ true
    pub said_type : selected_type (said s.context x) ≡ Some type
    pub alike_to : alike k.of (base s (Some type)) ≡ true

  module _ (c : Scope) (s : Surroundings) (site : Site) (h : Here c s site) where
    at_here : (f : Context → List Break) → f site.context ≡ [] → f s.context ≡ []
    at_here f b = ap f (sym h.here) ∙ b

    expression_here : (x : e.Tree) → IsWritten x → IsLevelled x → IsBounded x → breaks site.context x ≡ [] → value_fits p c (expression s x) ≡ true
    expression_here x w l d b = expression_fits p c s h.agrees h.words x w l d (at_here (λ c. breaks c x) b)

    act_here : (place : Place) (a : t.Act) → IsActWritten a → IsActLevelled a → IsActBounded a → act_rows site place a ≡ [] → statement_fits p (action s a) c ≡ true
    act_here place a w l d b = action_fits p c s h.agrees h.words a w l d (at_here (λ c. act_breaks c a) (first (act_breaks site.context a) _ b))

    -- ---- DO

    step_fits : (step : Option e.Tree) → IsStepWritten step → IsStepLevelled step → IsStepBounded step → map_or [] (number_breaks site.context) step ≡ []
        → value_fits p c (map_or (number (pos 1)) (expression s) step) ≡ true
    step_fits None w l d b = refl
    step_fits (Some x) w l d b = expression_here x w l d (first (breaks site.context x) _ b)

    loop_fits : (control : t.Controls) (body : StatementNode) → IsControlWritten control → IsControlLevelled control → IsControlBounded control
        → control_rows site control ≡ [] → statement_fits p body c ≡ true → statement_fits p (loop s control body) c ≡ true
    loop_fits t.forever body w l d b f = f
    loop_fits (t.while x) body w l d b f = both _ _ (expression_here x w l d (first (breaks site.context x) _ (first (condition_breaks site.context x) _ b))) f
    loop_fits (t.counted v from to step) body w l d b f =
        let own = first (control_breaks site.context (t.counted v from to step)) _ b in
        let bounds = second (number_defined site.context (variable_of v)) _ own in
        let others = second (number_breaks site.context from) _ bounds in
        both (object_fits p c (variable s (variable_of v))) _ (variable_fits p c s h.agrees h.words (variable_of v) (tt, tt))
        (both (value_fits p c (expression s from)) _ (expression_here from w.0 l.0 d.0 (first (breaks site.context from) _ (first (number_breaks site.context from) _ bounds)))
        (both (value_fits p c (expression s to)) _ (expression_here to w.1 l.1 d.1 (first (breaks site.context to) _ (first (number_breaks site.context to) _ others)))
        (both (value_fits p c (map_or (number (pos 1)) (expression s) step)) _ (step_fits step w.2 l.2 d.2 (second (number_breaks site.context to) _ others)) f)))

    -- inside a DO
    looped : (control : t.Controls) → Here c s (in_loop site control)
    looped control = record { agrees = h.agrees; words = h.words; lent = h.lent; here = h.here }

    -- ---- SELECT CASE

    selected_here : (x : e.Tree) (cs : t.Cases) → IsWritten x → IsLevelled x → select_breaks site.context x cs ≡ [] → Selects s x (kind_or (kind p c (expression s x)))
    selected_here x cs w l b =
        let is : IsOf p c.variables c.names s (expression s x) (said s.context x).has = expression_is p c.variables c.names s h.agrees x w l (at_here (λ c. breaks c x) (first (breaks site.context x) _ b)) in
        let f : fits wanted.Intrinsic (said s.context x) ≡ true =
        fit wanted.Intrinsic (said s.context x) (typed_of p c.variables c.names s (expression s x) (said s.context x).has is)
        (at_here (λ c. scalar_rows wanted.Intrinsic (said c x)) (first (scalar_rows wanted.Intrinsic (said site.context x)) _ (second (breaks site.context x) _ b))) in
        go (said s.context x).has is f (when_true (fits wanted.Intrinsic (said s.context x)) (type_in (said s.context x).has) None f)
      where
        by_type : (y : Has) → IsKind p c.variables c.names s (expression s x) y → (d : Option DataType) → y.data_type ≡ d → type_fits wanted.Intrinsic d ≡ true
            → selected_type (said s.context x) ≡ y.data_type → Selects s x (kind_or (kind p c (expression s x)))
        by_type y is None e f t = no (sym f)
        by_type y is (Some d) e f t = record {
          type = d;
          intrinsic = f;
          said_type = t ∙ e;
          alike_to = ap (λ o. alike (kind_or o).of (base s (Some d))) is.value ∙ ap (λ z. alike is.of (base s z)) (sym e) ∙ is.alike_to;
        }

        go : (o : Option Has) → IsOf p c.variables c.names s (expression s x) o → has_fits wanted.Intrinsic o ≡ true → selected_type (said s.context x) ≡ type_in o
            → Selects s x (kind_or (kind p c (expression s x)))
        go None is f t = absurd is
        go (Some y) is f t = by_type y is y.data_type refl (left (type_fits wanted.Intrinsic y.data_type) _ f) t

    -- the scope of a CASE
    selecting_here : (k : Kind) → Here (selecting k c) s site
    selecting_here k = record { agrees = h.agrees; words = h.words; lent = h.lent; here = h.here }

    -- ---- ASSOCIATE

    selectors_hold : (xs : List AssociationTree) → Each (λ (x : AssociationTree). IsWritten x.selector) xs → Each (λ (x : AssociationTree). IsLevelled x.selector) xs
        → selector_rows site xs ≡ [] → Each (IsSelector p c.variables c.names s) xs
    selectors_hold [] w l b = tt
    selectors_hold (x ∷ xs) w l b = (
      expression_is p c.variables c.names s h.agrees x.selector w.0 l.0 (at_here (λ c. breaks c x.selector) (first (breaks site.context x.selector) _ b)),
      selectors_hold xs w.1 l.1 (second (breaks site.context x.selector) _ b),
    )

    selector_fit : (x : ExpressionNode) (o : Option Has) → IsOf p c.variables c.names s x o → value_fits p c x ≡ true → selector_fits p c (selected (kind_by s o) x) ≡ true
    selector_fit x None is f = absurd is
    selector_fit x (Some y) is f = go x is f
      where
        go : (x : ExpressionNode) → IsKind p c.variables c.names s x y → value_fits p c x ≡ true → selector_fits p c (selected (kind_by s (Some y)) x) ≡ true
        go (n.variable d) is f = f
        go x is f = both (not y.is_allocatable) _ (ap not (is.is_as).0) f

    selectors_fit : (xs : List AssociationTree) → Each (λ (x : AssociationTree). IsWritten x.selector) xs → Each (λ (x : AssociationTree). IsLevelled x.selector) xs
        → Each (λ (x : AssociationTree). IsBounded x.selector) xs → selector_rows site xs ≡ [] → Each (IsSelector p c.variables c.names s) xs
        → all (selector_fits p c) (map (selector s) xs) ≡ true
    selectors_fit [] w l d b is = refl
    selectors_fit (x ∷ xs) w l d b is =
        both (selector_fits p c (selector s x)) _
        (selector_fit (expression s x.selector) (said s.context x.selector).has is.0 (expression_here x.selector w.0 l.0 d.0 (first (breaks site.context x.selector) _ b)))
        (selectors_fit xs w.1 l.1 d.1 (second (breaks site.context x.selector) _ b) is.1)

    abbrev within : List AssociationTree → Scope
    within xs = associating (kinds_for p c.variables c.names s xs) c

    within_here : (next : ℕ) (xs : List AssociationTree) → Each (IsSelector p c.variables c.names s) xs → Opens (s.context).look held (s.context).scope next xs
        → Here (within xs) (inside s next xs) (site_inside next xs site)
    within_here next xs is opens = record {
      agrees = agrees_within p c.variables c.names s h.agrees h.lent next xs is held opens;
      words = h.words;
      lent = lent_within p c.variables c.names s h.agrees h.lent next xs is held opens;
      here = ap (λ (c : Context). record c {
        scope = next;
        nature = λ e. map_or (c.nature e) (λ s. Some (associate_nature s)) (lookup (nat_eq e) (flat_map (associated c next) xs));
      }) h.here;
    }

    associate_fits : (xs : List AssociationTree) (body : StatementNode) → Each (IsSelector p c.variables c.names s) xs → all (selector_fits p c) (map (selector s) xs) ≡ true
        → statement_fits p body (within xs) ≡ true → statement_fits p (n.associate (map (selector s) xs) body) c ≡ true
    associate_fits xs body is f g =
        both (all (selector_fits p c) (map (selector s) xs)) _ f
        (ap (λ o. statement_fits p body (associating (or_none o) c)) (selectors_are p c.variables c.names s xs is) ∙ g)

  mutual
    statement_fit : (x : t.StatementTree) (c : Scope) (s : Surroundings) (site : Site) (next : ℕ) → Here c s site
        → IsPlaced (s.context).look held (s.context).scope next x → IsStatementLevelled x → IsStatementBounded x → statement_breaks site next x ≡ []
        → statement_fits p (statement s next x) c ≡ true
    statement_fit (t.acts q a) c s site next h w l d b = act_here c s site h q a w l d b
    statement_fit (t.acts_if q x r a) c s site next h w l d b =
        both _ _ (expression_here c s site h x w.0 l.0 d.0 (first (breaks site.context x) _ (first (condition_breaks site.context x) _ b)))
        (both _ _ (act_here c s site h r a w.1 l.1 d.1 (second (condition_breaks site.context x) _ b)) refl)
    statement_fit (t.branches bs other) c s site next h w l d b =
        branches_fit bs c s site next true h w.0 l.0 d.0 (first (branch_breaks site next bs) _ b) _
        (other_fits other c s site (next + length (constructs_of_branches bs)) h w.1 l.1 d.1 (second (branch_breaks site next bs) _ b))
    statement_fit (t.selects q x cs) c s site next h w l d b =
        let own = first (select_breaks site.context x cs) _ b in
        let k : Kind = kind_or (kind p c (expression s x)) in
        let at : Selects s x k = selected_here c s site h x cs w.0 l.0 own in
        let rows : flat_map (case_rows s.context (Some at.type)) (all_values cs) ≡ [] =
        ap (λ t. flat_map (case_rows s.context t) (all_values cs)) (sym at.said_type)
        ∙ at_here c s site h (λ c. flat_map (case_rows c (selected_type (said c x))) (all_values cs))
        (first (flat_map (case_rows site.context (selected_type (said site.context x))) (all_values cs)) _
        (second (scalar_rows wanted.Intrinsic (said site.context x)) _ (second (breaks site.context x) _ own))) in
        both _ _ (expression_here c s site h x w.0 l.0 d.0 (first (breaks site.context x) _ own))
        (cases_fit cs c s site next h k at.type at.intrinsic at.alike_to rows w.1 l.1 d.1 (second (select_breaks site.context x cs) _ b) nothing_done refl)
    statement_fit (t.repeats q control body) c s site next h w l d b =
        loop_fits c s site h control (n.block (block s next body)) w.0 l.0 d.0 (first (control_rows site control) _ b)
        (block_fits body c s (in_loop site control) next (looped c s site h control) w.1 l.1 d.1 (second (control_rows site control) _ b))
    statement_fit (t.associates q xs body) c s site next h w l d b =
        let rows = first (selector_rows site xs) _ b in
        let is : Each (IsSelector p c.variables c.names s) xs = selectors_hold c s site h xs w.0 l.0 rows in
        associate_fits c s site h xs (n.block (block (inside s next xs) (next + 1) body)) is (selectors_fit c s site h xs w.0 l.0 d.0 rows is)
        (block_fits body (associating (kinds_for p c.variables c.names s xs) c) (inside s next xs) (site_inside next xs site) (next + 1) (within_here c s site h next xs is w.1) w.2 l.1 d.1
        (second (selector_rows site xs) _ b))

    pub block_fits : (x : t.Block) (c : Scope) (s : Surroundings) (site : Site) (next : ℕ) → Here c s site
        → IsBlockPlaced (s.context).look held (s.context).scope next x → IsBlockLevelled x → IsBlockBounded x → block_breaks site next x ≡ []
        → statements_fit p (block s next x) c ≡ true
    block_fits t.no_statements c s site next h w l d b = refl
    block_fits (t.statements x y) c s site next h w l d b =
        both _ _ (statement_fit x c s site next h w.0 l.0 d.0 (first (statement_breaks site next x) _ b))
        (block_fits y c s site (next + length (constructs_of x)) h w.1 l.1 d.1 (second (statement_breaks site next x) _ b))

    branches_fit : (bs : t.Branches) (c : Scope) (s : Surroundings) (site : Site) (next : ℕ) (begins : Bool) → Here c s site
        → AreBranchesPlaced (s.context).look held (s.context).scope next bs → AreBranchesLevelled bs → AreBranchesBounded bs → branch_breaks site next bs ≡ []
        → (otherwise : StatementNode) → statement_fits p otherwise c ≡ true → statement_fits p (branches s next begins bs otherwise) c ≡ true
    branches_fit t.no_branches c s site next begins h w l d b otherwise f = f
    branches_fit (t.branch q x y bs) c s site next begins h w l d b otherwise f =
        let behind = second (condition_breaks site.context x) _ b in
        both _ _ (expression_here c s site h x w.0 l.0 d.0 (first (breaks site.context x) _ (first (condition_breaks site.context x) _ b)))
        (both _ _ (block_fits y c s site next h w.1 l.1 d.1 (first (block_breaks site next y) _ behind))
        (branches_fit bs c s site (next + length (constructs_of_block y)) false h w.2 l.2 d.2 (second (block_breaks site next y) _ behind) otherwise f))

    other_fits : (x : t.Alternative) (c : Scope) (s : Surroundings) (site : Site) (next : ℕ) → Here c s site
        → IsOtherPlaced (s.context).look held (s.context).scope next x → IsOtherLevelled x → IsOtherBounded x → other_breaks site next x ≡ []
        → statement_fits p (alternative s next x) c ≡ true
    other_fits t.no_alternative c s site next h w l d b = refl
    other_fits (t.alternative y) c s site next h w l d b = block_fits y c s site next h w l d b

    cases_fit : (cs : t.Cases) (c : Scope) (s : Surroundings) (site : Site) (next : ℕ) → Here c s site → (k : Kind) (type : DataType) → is_intrinsic_type type ≡ true
        → alike k.of (base s (Some type)) ≡ true → flat_map (case_rows s.context (Some type)) (all_values cs) ≡ []
        → AreCasesPlaced (s.context).look held (s.context).scope next cs → AreCasesLevelled cs → AreCasesBounded cs → case_breaks site next cs ≡ []
        → (otherwise : StatementNode) → statement_fits p otherwise (selecting k c) ≡ true → statement_fits p (cases s next cs otherwise) (selecting k c) ≡ true
    cases_fit t.no_cases c s site next h k type is a rows w l d b otherwise f = f
    cases_fit (t.case_block q (t.values zs) y cs) c s site next h k type is a rows w l d b otherwise f =
        both _ _
        (ranges_are p c s h.agrees type is k.of a zs d.0 (none_before (case_rows s.context (Some type)) zs (all_values cs) rows))
        (both _ _ (block_fits y (selecting k c) s site next (selecting_here c s site h k) w.0 l.0 d.1 (first (block_breaks site next y) _ b))
        (cases_fit cs c s site (next + length (constructs_of_block y)) h k type is a (none_behind (case_rows s.context (Some type)) zs (all_values cs) rows)
        w.1 l.1 d.2 (second (block_breaks site next y) _ b) otherwise f))
    cases_fit (t.case_block q t.default y cs) c s site next h k type is a rows w l d b otherwise f =
        cases_fit cs c s site (next + length (constructs_of_block y)) h k type is a rows w.1 l.1 d.2 (second (block_breaks site next y) _ b)
        (n.block (block s next y)) (block_fits y (selecting k c) s site next (selecting_here c s site h k) w.0 l.0 d.1 (first (block_breaks site next y) _ b))
