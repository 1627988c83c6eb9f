-- A program that breaks no rule is pure.
use Rattle.std.proofs.Common.{◌≡◌, refl, sym, ap, subst, ◌∙◌, ℕ, zero, suc, ◌+◌, length, Bool, true, false, ◌||◌, not, List, [], ◌∷◌, drop, map, Option, Some, slice_get}
use Rattle.std.specs.List.{flat_map}
use Rattle.f3_lookups.specs.declared.lookup.Lookup.{Lookup}
use Rattle.f3_tree.specs.Declarations.{EntityTree, DeclarationTree, declares, parameter, save}
use Rattle.f3_tree.specs.Tree.{Tree}
use Rattle.f3_program.specs.declared.declarations.Declared.{Declared}
use Rattle.f3_program.specs.declared.program.Dummy.{Dummy}
use Rattle.f3_program.specs.declared.program.Intent.{Intent}
use Rattle.f3_program.specs.declared.program.Intent.TheVariants as intent
use Rattle.f3_program.specs.declared.program.Procedure.{Procedure}
use Rattle.f3_program.specs.declared.program.Program.{Program}
use Rattle.f3_kinds.specs.declared.types.Object.{Object}
use Rattle.f3_kinds.specs.declared.things.Dummy as known
use Rattle.f3_kinds.specs.Things.{function}
use Rattle.f3_meaning_whole.specs.Exec.{declared_in}
use Rattle.f3_meaning_whole.specs.Formed.{all, kinds_of, is_formed, are_declared, is_declared, are_types, is_procedure, IsWellFormed}
use Rattle.f3_meaning_whole.specs.Permitted.{Each, Lendable, Scope, is_in, lendable, names_of, names_in, scope_of, dummies_in, MayExec}
use Rattle.f3_program.specs.declared.program.Static as x
use Rattle.f3_type_rules.specs.Attributes.{has}
use Rattle.f3_type_rules.specs.Bodies.{block_breaks}
use Rattle.f3_type_rules.specs.Declarations.{is_function, spot_of, unit_rows, unit_next}
use Rattle.f3_type_rules.specs.Definitions.{Site}
use Rattle.f3_type_rules.specs.Members.{Member, Numbered}
use Rattle.f3_type_rules.specs.Names as tree
use Rattle.f3_type_rules.specs.Names.{Names, is_given, entries}
use Rattle.f3_type_rules.specs.Natures.{dummy, result_object, kind_nature, specifier_of, unit_natures, settled}
use Rattle.f3_scopes.specs.Scopes.{result_of}
use Rattle.f3_tree.specs.declared.program.ProcedureKind.{ProcedureKind}
use Rattle.f3_tree.specs.declared.program.ProcedureKind.TheVariants.{Subroutine, Function}
use Rattle.f3_type_rules.specs.Program.{body_breaks, member_breaks, unit_breaks, units_in, nothing_known, program_breaks}
use Rattle.f3_type_rules.specs.Scene.{names_of as known_names, site_in}
use Rattle.f3_type_rules.specs.Walks.{along}
use Rattle.f3_elaboration.specs.Nodes as n
use Rattle.f3_elaboration.specs.Nodes.{ProcedureNode, ProgramNode, StatementNode}
use Rattle.f3_elaboration.specs.Context.{Surroundings}
use Rattle.f3_elaboration.specs.Declarations.{Whole}
use Rattle.f3_elaboration.specs.DeclaredViews.{procedure_view}
use Rattle.f3_elaboration.specs.Numbers.{number_in, numbers_in_member}
use Rattle.f3_elaboration.specs.Statements.{block}
use Rattle.f3_elaboration.specs.Units.{procedure, in_member}
use Rattle.f3_elaboration.specs.Views.{statement_view}
use Rattle.f3_lawful_laws.specs.Agreement.{lent, AreGiven}
use Rattle.f3_lawful_laws.specs.Blocks.{AreBodiesSpelled}
use Rattle.f3_lawful_laws.specs.Entities.{units_of, whole_of, AreAlike, MemberAgrees, UnitAgrees, EntitiesAgree}
use Rattle.f3_lawful_laws.specs.Nodes.{NodeRuns}
use Rattle.f3_lawful_laws.proofs.Facts.{no, nothing, same, second, left, right}
use Rattle.f3_lawful_laws.proofs.Opening.{each_at}
use Rattle.f3_lawful_laws.proofs.Roots.{member_here}
use Rattle.f3_lawful_laws.proofs.SeenStatements.{statement_seen}
use Rattle.f3_lawful_laws.proofs.Statements.{Here, block_runs}
use Rattle.f3_entity_laws.specs.Things.{of_member, IsHome, nature_of}
use Rattle.f3_entity_laws.specs.Things as thing
use Rattle.f3_entity_laws.proofs.Names.{procedure_things}
use Rattle.f3_entity_laws.proofs.Natures.{things}
use Rattle.f3_agreement_laws.specs.Unbroken.{IsUnbroken}
use Rattle.f3_agreement_laws.proofs.Declared.{each_get}
use Rattle.f3_agreement_laws.proofs.Free.{none_at, nil_of}
use Rattle.f3_agreement_laws.proofs.Procedures.{functions}
use Rattle.f3_variable_laws.specs.Laws.{IsElaborated}
use Rattle.f3_pure_laws.specs.Ending.{AreHarmless}
use Rattle.f3_pure_laws.specs.Pure.{definable, IsGiven, MayEnd, MayEndOut, IsPure, IsPureStatement, IsPureProcedure}
use Rattle.f3_pure_laws.specs.References as references
use Rattle.f3_pure_laws.proofs.Ending.{harmless_may_end}
use Rattle.f3_purity_laws.specs.Barring.{barring}
use Rattle.f3_purity_laws.specs.Calls.{CallsPure}
use Rattle.f3_purity_laws.specs.Owning.{may_defines}
use Rattle.f3_purity_laws.proofs.Calling.{blocks_call_pure}
use Rattle.f3_purity_laws.proofs.Composed.{lawful_is_pure}
use Rattle.f3_purity_laws.proofs.Guarded.{guarded_blocks}
use Rattle.f3_reference_laws.proofs.Whole.{elaborated_refers}
use Rattle.f3_unbroken_laws.specs.Laws.{is_pure, pure_in, UnbrokenIsPure}
use Rattle.f3_unbroken_laws.proofs.Barred.{held, guarded_site, barred_agrees, barred_allows}
use Rattle.f3_unbroken_laws.proofs.Called.{function_kind, have_results, pure_ones}
use Rattle.f3_unbroken_laws.proofs.Harmless.{harmless, are_harmless}
use Rattle.f3_unbroken_laws.proofs.Numbers.{numbered_one}
use Rattle.f3_unbroken_laws.proofs.Placed.{body_placed}
use Rattle.f3_unbroken_laws.proofs.Procedures.{scope_harmless, dummy_ends, local_ends}
use Rattle.f3_unbroken_laws.proofs.Rules.{never_saved}

-- ---- lists

all_get : {A : Type 0} (f : A → Bool) (xs : List A) (i : ℕ) (x : A) → all f xs ≡ true → slice_get xs i ≡ Some x → f x ≡ true
all_get f [] i x h at = nothing at
all_get f (y ∷ ys) zero x h at = ap f (sym (same at)) ∙ left (f y) (all f ys) h
all_get f (y ∷ ys) (suc i) x h at = all_get f ys i x (right (f y) (all f ys) h) at

definables : (ds : List Dummy) → may_defines (names_of ds) ≡ map definable ds
definables [] = refl
definables (d ∷ ds) = ap (λ l. definable d ∷ l) (definables ds)

abbrev has_some : List Lendable → Bool
has_some [] = false
has_some (l ∷ ls) = true

not_out : (i : Intent) → not (is_in i) ≡ false → is_in i ≡ true
not_out intent.In h = refl
not_out intent.Out h = no h
not_out intent.InOut h = no h

-- dummies none of which may be defined
given_each : (s : Surroundings) (ds : List Dummy) (ks : List (ℕ × known.Dummy)) → map lendable ds ≡ map (lent s) ks → AreGiven ks → Each IsGiven ds
given_each s [] ks e h = tt
given_each s (d ∷ ds) [] e h = no (ap has_some e)
given_each s (d ∷ ds) (k ∷ ks) e h =
    let one : lendable d ≡ lent s k = same (ap (λ (l : List Lendable). slice_get l 0) e) in
    (not_out d.intent (ap (λ (l : Lendable). l.may_define) one ∙ h.0), given_each s ds ks (ap (drop 1) e) h.1)

as_function : (pure : Bool) (ds : List (ℕ × known.Dummy)) (o : Object) (k : ProcedureKind) → is_function k ≡ true → kind_nature pure ds o k ≡ function pure ds o
as_function pure ds o Subroutine h = no (sym h)
as_function pure ds o (Function s outcome) h = refl

-- ---- what makes sense

procedure_formed : (p : Program) → IsWellFormed p → (f : ℕ) (q : Procedure) → slice_get p.procedures.items f ≡ Some q
    → is_formed p (declared_in q) q.body (kinds_of q.dummies.items) ≡ true
procedure_formed p h f q at =
    let statics = right (are_types p 0 p.types.items) _ h in
    let bodies = right (all (λ (y : x.Static). is_declared (length p.types.items) y.declared) p.statics.items) _ statics in
    let procedures = right (all (are_declared p) (p.main ∷ p.procedures.items)) (all (is_procedure p) (p.main ∷ p.procedures.items)) bodies in
    all_get (is_procedure p) p.procedures.items f q (right (is_procedure p p.main) _ procedures) at

-- ---- a program

module _ (t : Tree) (look : ℕ → ℕ → Lookup) (order : List ℕ) (p : Program) (free : IsUnbroken t look order) (is : IsElaborated p t look order)
    (spelled : AreBodiesSpelled t) (agree : EntitiesAgree p t look order) (formed : IsWellFormed p) where
  abbrev w : Whole
  w = whole_of t look order

  abbrev pure : ℕ → Bool
  pure = pure_in t

  abbrev ends_well : ℕ → Bool
  ends_well = harmless t look order free.ordered free.outer

  well : AreHarmless p pure ends_well
  well = are_harmless t look order free.ordered free.outer p is.seen pure

  member_unbroken : (u : Numbered) (m : Member) → IsHome (units_of t) (of_member u m) → member_breaks w.scene w.values u.scope m ≡ []
  member_unbroken u m home =
      let bodies : flat_map (unit_breaks w.scene w.values) (units_of t) ≡ [] =
      second (along (unit_rows w.scene) (unit_next w.scene) nothing_known (units_in (units_of t) order)) _ (nil_of (program_breaks t look order) free.types) in
      let unit = none_at (unit_breaks w.scene w.values) (units_of t) bodies home.0.0 u home.0.1 in
      none_at (member_breaks w.scene w.values u.scope) u.members (second (body_breaks w.scene w.values u.scope u.scope false (u.tree).body) _ unit) home.1.0 m home.1.1

  member_agrees : (u : Numbered) (m : Member) → IsHome (units_of t) (of_member u m) → MemberAgrees p w u.scope m
  member_agrees u m home =
      each_get (MemberAgrees p w u.scope) u.members home.1.0 m (UnitAgrees.members (each_get (UnitAgrees p w) (units_of t) home.0.0 u agree.units home.0.1)) home.1.1

  -- ---- the body of a pure procedure

  module _ (f : ℕ) (q : Procedure) (at : slice_get p.procedures.items f ≡ Some q) (u : Numbered) (m : Member) (home : IsHome (units_of t) (of_member u m))
      (seen : procedure_view q ≡ procedure w u.scope m) (is_pure_here : is_pure m.tree ≡ true) where
    abbrev scope : Scope
    scope = scope_of q

    abbrev s : Surroundings
    s = in_member w u.scope m

    abbrev site : Site
    site = site_in w.scene u.scope m.scope (spot_of w.scene u.scope m).is_pure w.values

    alike : AreAlike p w scope s site
    alike = (member_agrees u m home).alike q seen

    unsaved : (d : DeclarationTree) (x : EntityTree) → thing.IsAmong ((m.tree).part).specifications (declares d) → thing.IsAmong d.entities x
        → not (has parameter d) ≡ true → (has save d || is_given x.initial) ≡ false
    unsaved d x part entity varies = never_saved t look order free.ordered free.types u m home d x part entity is_pure_here varies

    here : Here (barring scope.unit p) (held t look order p u m home unsaved) scope s (guarded_site t look order p u m home unsaved)
    here =
        let h = member_here p w u.scope m q seen alike in record {
          agrees = barred_agrees p scope s h.agrees;
          lends = h.lends;
          allows = barred_allows t look order p u m home unsaved is_pure_here scope alike;
        }

    guarded : block_breaks (guarded_site t look order p u m home unsaved) (m.scope + 1) (m.tree).body ≡ []
    guarded = guarded_blocks site _ (λ e. refl) (m.scope + 1) (m.tree).body (member_unbroken u m home)

    body_is : statement_view q.body ≡ n.block (block s (m.scope + 1) (m.tree).body)
    body_is = ap (λ (y : ProcedureNode). y.body) seen

    may : MayExec (barring scope.unit p) q.body scope
    may =
        statement_seen (barring scope.unit p) q.body scope
        (subst (λ (y : StatementNode). NodeRuns (barring scope.unit p) y scope) (sym body_is)
        (block_runs (barring scope.unit p) (held t look order p u m home unsaved) (m.tree).body scope s (guarded_site t look order p u m home unsaved) (m.scope + 1) here
        (body_placed t look free.means is.named site spelled u m home) guarded))

    calls : CallsPure pure q.body
    calls =
        blocks_call_pure pure s (pure_ones t look order u.scope m.scope (numbers_in_member look u.scope m)) site refl is_pure_here (m.scope + 1) (m.tree).body
        (member_unbroken u m home) q.body body_is

    body_pure : IsPureStatement p pure q.body (map definable q.dummies.items)
    body_pure =
        subst (IsPureStatement p pure q.body) (definables q.dummies.items)
        (lawful_is_pure p pure ends_well well scope (scope_harmless t look order free.ordered free.outer free.types u m home is_pure_here q seen)
        q.body (kinds_of q.dummies.items) (procedure_formed p formed f q at) may calls)

    out_ends : (d : Dummy) (i : Intent) → d.intent ≡ i → (k : ℕ) → slice_get q.dummies.items k ≡ Some d → MayEndOut p pure d i
    out_ends d intent.In e k at = tt
    out_ends d intent.InOut e k at = tt
    out_ends d intent.Out e k at =
        harmless_may_end p pure ends_well well d.kind.of
        (dummy_ends t look order free.ordered free.outer free.types u m home is_pure_here q seen k d at (ap (λ i. not (is_in i)) e))

    procedure_pure : IsPureProcedure p pure q
    procedure_pure = (
      body_pure,
      each_at (λ (d : Dummy). MayEndOut p pure d d.intent) q.dummies.items (λ k d at. out_ends d d.intent refl k at),
      each_at (λ (d : Declared). MayEnd p pure d.kind.of) q.locals.items (λ k d at.
          harmless_may_end p pure ends_well well d.kind.of (local_ends t look order free.ordered free.outer free.types u m home is_pure_here q seen k d at)),
    )

  -- ---- functions

  is_pure_function : (b c : Bool) → c ≡ true → (b || c) ≡ true
  is_pure_function true c h = refl
  is_pure_function false c h = h

  given : (f : ℕ) (q : Procedure) → slice_get p.procedures.items f ≡ Some q → (u : Numbered) (m : Member) → IsHome (units_of t) (of_member u m)
      → number_in (w.numbers).procedures m.entity ≡ f → is_function ((m.tree).header).kind ≡ true → Each IsGiven q.dummies.items
  given f q at u m home number kind =
      let names : Names = known_names t look in
      let xs : List (ℕ × tree.Declared) = entries ((m.tree).part).specifications in
      let ds : List (ℕ × known.Dummy) = map (dummy names m.scope xs) ((m.tree).header).dummies in
      let o : Object = result_object names m.scope xs (specifier_of ((m.tree).header).kind) (result_of ((m.tree).header).kind ((m.tree).header).name) in
      let known = things names (units_of t) m.entity (thing.procedure u m) (procedure_things t u m home) in
      let nature : slice_get (settled (flat_map (unit_natures names) (units_of t))) m.entity ≡ Some (function ((m.tree).header).pure ds o) =
      known.1 ∙ ap Some (as_function ((m.tree).header).pure ds o ((m.tree).header).kind kind) in
      let r = functions t look order p free is.seen u.scope m.scope (numbers_in_member look u.scope m) m.entity ((m.tree).header).pure ds o nature in
      given_each (in_member w u.scope m) q.dummies.items ds
      (sym (ap (λ (o : Option Procedure). names_of (dummies_in o)) at) ∙ ap (names_in p) (sym number) ∙ r.0) r.1

  function_given : (f : ℕ) (q : Procedure) → slice_get p.procedures.items f ≡ Some q → references.is_function (Some q) ≡ true
      → (pure f ≡ true) × Each IsGiven q.dummies.items
  function_given f q at h =
      let r = numbered_one t look order p is.seen f q at in
      let u = r.unit in
      let m = r.member in
      let kind : is_function ((m.tree).header).kind ≡ true = function_kind t look order p is.seen u.scope m q (ap (λ (y : ProcedureNode). y.result) r.node) h in
      ((r.has).pure ∙ is_pure_function ((m.tree).header).pure (is_function ((m.tree).header).kind) kind, given f q at u m (r.has).home (r.has).number kind)

  pub is_pure_program : IsPure p pure
  is_pure_program =
      let refers = elaborated_refers t look order p is.seen (have_results t look order p is.seen) in record {
        main = refers.0;
        bodies = refers.1;
        functions = function_given;
        procedures = λ f q at h.
            let r = numbered_one t look order p is.seen f q at in
            procedure_pure f q at r.unit r.member (r.has).home r.node (sym (r.has).pure ∙ h);
      }

pub unbroken_is_pure : UnbrokenIsPure
unbroken_is_pure t look order p free is spelled agree formed = is_pure_program t look order p free is spelled agree formed
