-- Where a variable is defined that stands in no expression: it breaks no rule in one.
use Rattle.std.proofs.Common.{◌≡◌, ℕ, true, false, Bool, ◌&&◌, not, List, [], ◌∷◌, ◌++◌, Option, Some, None, refl, sym, ap, ◌∙◌, if◌then◌else◌}
use mathlib.Core.Path.{subst}
use Rattle.f3_lookups.specs.declared.lookup.Lookup.TheVariants.{One}
use Rattle.f3_rules.specs.declared.breaks.Break.{Break}
use Rattle.f3_tree.specs.declared.expression.Name.{Name}
use Rattle.f3_tree.specs.Expressions as t
use Rattle.f3_program.specs.declared.declarations.Base.TheVariants as base_is
use Rattle.f3_program.specs.declared.declarations.Declared.{Declared}
use Rattle.f3_program.specs.declared.declarations.Kind.{Kind}
use Rattle.f3_program.specs.declared.expression.Name.TheVariants.{Lent}
use Rattle.f3_program.specs.declared.program.Program.{Program}
use Rattle.f3_kinds.specs.declared.types.Object.{Object}
use Rattle.f3_kinds.specs.declared.said.Form.{Form}
use Rattle.f3_kinds.specs.declared.said.Form.TheVariants.{Computed, Constant, Variable}
use Rattle.f3_kinds.specs.declared.said.Given.{Given}
use Rattle.f3_kinds.specs.declared.said.Has.{Has}
use Rattle.f3_kinds.specs.declared.said.Reach.{Reach}
use Rattle.f3_kinds.specs.declared.said.Role.{Role}
use Rattle.f3_kinds.specs.declared.said.Role.TheVariants as role
use Rattle.f3_kinds.specs.declared.said.Said.{Said}
use Rattle.f3_kinds.specs.Things.{variable, Meaning, entity, entity_or, meaning_by, meaning_of, look_here, map_or}
use Rattle.f3_kinds.specs.Rows.{has_type}
use Rattle.f3_kinds.specs.Designators.{Part, parts_typed, reach_has, object_reach, object_rows, role_fits}
use Rattle.f3_kinds.specs.Typing.{said, said_parts, said_behind, breaks, breaks_parts, breaks_behind, designator_at, designator_breaks, sense_of, sense_has, sense_rows, sense_parts, named_said, called}
use Rattle.f3_meaning_whole.specs.Permitted.{Scope}
use Rattle.f3_type_rules.specs.Definitions.{Site, definition_rows, form_rows}
use Rattle.f3_elaboration.specs.Context.{Surroundings}
use Rattle.f3_elaboration.specs.Expressions.{expression, parts, behind}
use Rattle.f3_lawful_laws.specs.Written.{HasName, ArePartsWritten}
use Rattle.f3_lawful_laws.specs.Agreement.{Knows, Allows}
use Rattle.f3_lawful_laws.proofs.Facts.{no, not_nil, first, second, both}
use Rattle.f3_lawful_laws.proofs.Defining.{Defined, defined_by}
use Rattle.f3_formed_laws.specs.Levels.{ArePartsLevelled}
use Rattle.f3_formed_laws.specs.Agreement.{AgreesInKinds}
use Rattle.f3_formed_laws.specs.Laws.{IsForm, IsVariable}
use Rattle.f3_formed_laws.proofs.Alike.{IsOf}
use Rattle.f3_formed_laws.proofs.Scalars.{typed_of, behind_typed, all_parts_typed}
use Rattle.f3_formed_laws.proofs.Expressions.{expression_is, parts_are, behind_is}

-- what may be defined is said to be a variable
form_variable : (site : Site) (x : Said) (f : Form) → form_rows site x f ≡ [] → IsForm f
form_variable site x (Variable e) rows = tt
form_variable site x Computed rows = not_nil rows
form_variable site x Constant rows = not_nil rows

pub defined_variable : (site : Site) (x : Said) → has_type x.has ≡ true → definition_rows site x ≡ [] → IsVariable x.has
defined_variable site x t rows = go x.has t rows
  where
    go : (o : Option Has) → has_type o ≡ true → map_or [] (λ (h : Has). form_rows site x h.form) o ≡ [] → IsVariable o
    go None t rows = no (sym t)
    go (Some h) t rows = form_variable site x h.form rows

module _ (p : Program) (s : Surroundings) (site : Site) (here : site.context ≡ s.context) where
  -- The first name of what is defined is a variable, whatever may be defined: so where all may be.
  abbrev all_lent : Surroundings
  all_lent = record s { object = λ e. Lent 0 }

  abbrev open_place : Scope
  open_place = record { unit = 0; variables = []; names = record { may_define = true; of = base_is.Integer } ∷ [] }

  abbrev all_allowed : Allows p open_place all_lent site site.holder
  all_allowed = record { here = here; holders = λ x l rows. rows; defines = λ symbol e o x looked nature ends rows. refl }

  -- the first name is a variable, and the parts break no rule on objects
  pub record Begins (u : Role) (m : Name) (b : Option (List Given)) (rs : List Part) : Type 0 where
    pub root : ℕ
    pub object : Object
    pub looked : look_here s.context m.symbol ≡ One root
    pub nature : (s.context).nature root ≡ Some (variable object)
    pub rows : object_rows s.context u object (m, b) rs ≡ []
    pub means : meaning_of s.context m.symbol ≡ entity root (variable object)

  begun : (u : Role) (m : Name) (b : Option (List Given)) (rs : List Part) → Defined p open_place all_lent site site.holder all_allowed u m b rs → Begins u m b rs
  begun u m b rs at = record {
    root = at.root;
    object = at.object;
    looked = at.looked;
    nature = at.nature;
    rows = at.rows;
    means = ap (meaning_by s.context m.symbol) at.looked ∙ ap (entity_or at.root) at.nature;
  }

  pub begins : Knows s.context → (u : Role) (m : Name) (b : Option (List Given)) (rs : List Part) → parts_typed ((m, b) ∷ rs) ≡ true
      → sense_rows s.context u (m, b) rs (sense_of (s.context).unit u m (meaning_of s.context m.symbol) None) ≡ []
      → definition_rows site (named_said m (sense_parts s.context u (m, b) rs (sense_of (s.context).unit u m (meaning_of s.context m.symbol) None))
      (sense_has s.context u (m, b) rs (sense_of (s.context).unit u m (meaning_of s.context m.symbol) None))) ≡ [] → Begins u m b rs
  begins knows u m b rs typed rows free = begun u m b rs (defined_by p open_place all_lent site site.holder all_allowed knows u m b rs typed rows free)

if_variable : (b : Bool) (h : Has) → IsForm h.form → has_type (if b then Some h else None) ≡ true → IsVariable (if b then Some h else None)
if_variable true h f t = f
if_variable false h f t = no (sym t)

pub reached_variable : (f : Form) (u : Role) (r : Option Reach) → IsForm f → has_type (reach_has f u r) ≡ true → IsVariable (reach_has f u r)
reached_variable f u None v t = no (sym t)
reached_variable f u (Some r) v t = if_variable (r.is_fit && not r.offends && role_fits u r) _ v t

module _ (p : Program) (vs : List Declared) (ns : List Kind) (s : Surroundings) (agrees : AgreesInKinds p vs ns s) (site : Site) (here : site.context ≡ s.context) where
  -- a variable that is defined breaks no rule in an expression, and has there what it has here
  pub record Target (v : t.Parts) : Type 0 where
    pub unbroken : breaks s.context (t.designator v) ≡ []
    pub said_is : (designator_at s.context role.Variable v).has ≡ (said s.context (t.designator v)).has
    pub is_variable : IsVariable (said s.context (t.designator v)).has
    pub is : IsOf p vs ns s (expression s (t.designator v)) (said s.context (t.designator v)).has

  -- as an expression, by the root
  abbrev Rows : Name → t.Behind → t.Parts → Meaning → List Break
  Rows m g ps meaning =
      sense_rows s.context role.Expression (m, said_behind s.context g) (said_parts s.context ps)
      (sense_of (s.context).unit role.Expression m meaning (called role.Expression (said_parts s.context ps) (said_behind s.context g)))

  abbrev HasBy : Role → Name → t.Behind → t.Parts → Meaning → Option Has
  HasBy u m g ps meaning =
      sense_has s.context u (m, said_behind s.context g) (said_parts s.context ps)
      (sense_of (s.context).unit u m meaning (called u (said_parts s.context ps) (said_behind s.context g)))

  target_by : (m : Name) (g : t.Behind) (ps : t.Parts) → HasName (t.parts m g ps) × ArePartsWritten (t.parts m g ps) → ArePartsLevelled (t.parts m g ps)
      → breaks_parts s.context (t.parts m g ps) ≡ [] → Begins p s site here role.Variable m (said_behind s.context g) (said_parts s.context ps) → Target (t.parts m g ps)
  target_by m g ps w l own at =
      let unbroken : breaks s.context (t.designator (t.parts m g ps)) ≡ [] =
      ap (λ z. z ++ Rows m g ps (meaning_of s.context m.symbol)) own ∙ ap (Rows m g ps) at.means ∙ at.rows in
      let is : IsOf p vs ns s (expression s (t.designator (t.parts m g ps))) (said s.context (t.designator (t.parts m g ps))).has =
      expression_is p vs ns s agrees (t.designator (t.parts m g ps)) w l unbroken in
      record {
        unbroken = unbroken;
        said_is = ap (HasBy role.Variable m g ps) at.means ∙ sym (ap (HasBy role.Expression m g ps) at.means);
        is_variable =
            subst IsVariable (sym (ap (HasBy role.Expression m g ps) at.means))
            (reached_variable (Variable at.root) role.Expression
            (object_reach s.context role.Expression at.object (m, said_behind s.context g) (said_parts s.context ps)) tt
            (sym (ap (λ z. has_type (HasBy role.Expression m g ps z)) at.means)
            ∙ typed_of p vs ns s (expression s (t.designator (t.parts m g ps))) (said s.context (t.designator (t.parts m g ps))).has is));
        is = is;
      }

  pub target : (v : t.Parts) → HasName v × ArePartsWritten v → ArePartsLevelled v → designator_breaks s.context role.Variable v ≡ []
      → definition_rows site (designator_at s.context role.Variable v) ≡ [] → Target v
  target t.no_parts w l b free = absurd w.0
  target (t.parts m g ps) w l b free =
      let own = first (breaks_parts s.context (t.parts m g ps)) _ b in
      let given = behind_is p vs ns s agrees g w.1.0 l.0 (first _ _ own) in
      let others = parts_are p vs ns s agrees ps w.1.1 l.1 (second (breaks_behind s.context g) _ own) in
      target_by m g ps w l own
      (begins p s site here agrees.known role.Variable m (said_behind s.context g) (said_parts s.context ps)
      (both _ _ (behind_typed p vs ns s (behind s g) (said_behind s.context g) given) (all_parts_typed p vs ns s (parts s ps) (said_parts s.context ps) others))
      (second (breaks_parts s.context (t.parts m g ps)) _ b) free)
