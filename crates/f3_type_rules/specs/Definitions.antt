-- What an action defines, and what may be defined (ISO/IEC 1539-1:2004, 16.5.7, 5.1.2, 12.6; phase 7).
use Rattle.std.specs.Prelude.{ℕ, ◌+◌, Bool, true, false, ◌||◌, not, ◌==◌, nat_eq, List, [], ◌∷◌, ◌++◌, Option, None, Some, map, if◌then◌else◌}
use Rattle.std.specs.List.{flat_map, list_any}
use Rattle.f3_places.specs.declared.source.Place.{Place}
use Rattle.f3_rules.specs.declared.rule.Rule.{Rule}
use Rattle.f3_rules.specs.declared.rule.Rule.TheVariants.{D1, D2, D3, D4, D5, D6}
use Rattle.f3_rules.specs.declared.breaks.Break.{Break}
use Rattle.f3_tree.specs.declared.expression.Name.{Name}
use Rattle.f3_tree.specs.declared.declaration.Intent.{Intent}
use Rattle.f3_tree.specs.declared.declaration.Intent.TheVariants.{In, Out, InOut}
use Rattle.f3_tree.specs.Expressions.{Parts, arguments_of}
use Rattle.f3_tree.specs.Statements.{Act, assign, call, allocate, deallocate, print, stop, Controls, forever, counted, while}
use Rattle.f3_kinds.specs.declared.said.Form.{Form}
use Rattle.f3_kinds.specs.declared.said.Form.TheVariants.{Variable}
use Rattle.f3_kinds.specs.declared.said.Has.{Has}
use Rattle.f3_kinds.specs.declared.said.Said.{Said}
use Rattle.f3_kinds.specs.declared.said.Given.{Given}
use Rattle.f3_kinds.specs.declared.said.Given.TheVariants.{Value, Triplet}
use Rattle.f3_kinds.specs.declared.said.Role.TheVariants as role
use Rattle.f3_kinds.specs.declared.things.Dummy.{Dummy}
use Rattle.f3_kinds.specs.Things.{map_or, subroutine, Context, Meaning, nothing, several, intrinsic, entity, meaning_of, at_place_of}
use Rattle.f3_kinds.specs.Rows.{at_place, at_name, unless}
use Rattle.f3_kinds.specs.Calls.{place_for}
use Rattle.f3_kinds.specs.Typing.{said_arguments, designator_at}
use Rattle.f3_type_rules.specs.declared.definition.Holder.{Holder}
use Rattle.f3_type_rules.specs.Statements.{variable_of}

-- The chain of a variable: the entity of its first name and, of an associate name, the chain of its selector; whether it ends at a
-- variable (8.1.4.3).
pub record Chain : Type 0 where
  pub links : List ℕ
  pub ends : Bool

-- Where an executable statement stands: what is known there; the scope of its procedure or program; whether that is PURE or a
-- function; the DO variables of the loops around it; of each variable that a specification part declares what is asked of it; and
-- the chain of each variable.
pub record Site : Type 0 where
  pub context : Context
  pub body : ℕ
  pub is_pure : Bool
  pub active : List ℕ
  pub holder : ℕ → Option Holder
  pub chain : ℕ → Chain

-- ---- what forbids a definition, by one link of the chain

abbrev pub is_in : Option Intent → Bool
is_in None = false
is_in (Some In) = true
is_in (Some Out) = false
is_in (Some InOut) = false

-- a rule is broken at the first name of a designator, which is its first token
abbrev pub at_first : Rule → Said → Break
at_first rule s = record { phase = 7; place = s.place; rule = rule; name = s.lead }

-- D1: a protected variable outside its module (5.1.2.12)
abbrev pub protected_rows : Site → Said → Holder → List Break
protected_rows site s h = unless (not h.is_protected || (h.unit == (site.context).unit)) (at_first D1 s)

-- D2: a dummy that is INTENT(IN) (5.1.2.7)
abbrev pub intent_rows : Said → Holder → List Break
intent_rows s h = unless (not (is_in h.intent)) (at_first D2 s)

-- D4: a DO variable inside its loop (8.1.6.4)
abbrev pub active_rows : Site → Said → ℕ → List Break
active_rows site s e = unless (not (list_any (nat_eq e) site.active)) (at_first D4 s)

-- D5: in a PURE procedure or a function, a variable of the host or of a used module (12.6)
abbrev pub pure_rows : Site → Said → Holder → List Break
pure_rows site s h = unless (not site.is_pure || (h.scope == site.body)) (at_first D5 s)

abbrev pub holder_rows : Site → Said → Holder → List Break
holder_rows site s h = protected_rows site s h ++ (intent_rows s h ++ pure_rows site s h)

abbrev pub link_rows : Site → Said → ℕ → List Break
link_rows site s e = active_rows site s e ++ map_or [] (holder_rows site s) (site.holder e)

-- ---- the definition of what an expression designates

-- D3: an expression or a named constant, or a chain that ends at one; the first token
abbrev pub form_rows : Site → Said → Form → List Break
form_rows site s (Variable e) = unless (site.chain e).ends (at_place 7 D3 s.place) ++ flat_map (link_rows site s) (site.chain e).links
form_rows site s _ = at_place 7 D3 s.place ∷ []

abbrev pub definition_rows : Site → Said → List Break
definition_rows site s = map_or [] (λ (h : Has). form_rows site s h.form) s.has

-- ---- the definition contexts of an action (16.5.7, of what the language has)

-- an argument whose dummy is INTENT(OUT) or INTENT(INOUT)
abbrev pub is_defining : Option Dummy → Bool
is_defining d = map_or false (λ (d : Dummy). map_or false (λ (i : Intent). not (is_in (Some i))) d.intent) d

abbrev pub value_given : Given → List Said
value_given (Value keyword s) = s ∷ []
value_given (Triplet place first last stride) = []

abbrev pub arguments_defined : List (ℕ × Dummy) → (position : ℕ) → List Given → List Said
arguments_defined ds position [] = []
arguments_defined ds position (g ∷ gs) =
    (if is_defining (map_or None (at_place_of ds) (place_for ds position g)) then value_given g else []) ++ arguments_defined ds (position + 1) gs

-- of MOVE_ALLOC, the only intrinsic subroutine, both arguments
abbrev pub call_defined : Meaning → List Given → List Said
call_defined (entity e (subroutine pure ds)) gs = arguments_defined ds 0 gs
call_defined (entity e _) gs = []
call_defined (intrinsic i) gs = flat_map value_given gs
call_defined nothing gs = []
call_defined several gs = []

-- the variable of an assignment; the objects and the STAT variable of ALLOCATE and DEALLOCATE; arguments of a CALL
abbrev pub defined : Context → Act → List Said
defined c (assign v e) = designator_at c role.Variable v ∷ []
defined c (call n list) = call_defined (meaning_of c n.symbol) (said_arguments c (arguments_of list))
defined c (allocate vs stat) = map (designator_at c role.Allocated) vs ++ map_or [] (λ (v : Parts). designator_at c role.Variable v ∷ []) stat
defined c (deallocate vs stat) = map (designator_at c role.Deallocated) vs ++ map_or [] (λ (v : Parts). designator_at c role.Variable v ∷ []) stat
defined c _ = []

-- D6: in a PURE procedure or a function, a PRINT or a STOP, at its first token; a CALL of a subroutine that is not PURE, at its
-- name (12.6). MOVE_ALLOC is pure.
abbrev pub called_impure : Name → Meaning → List Break
called_impure n (entity e (subroutine false ds)) = at_name 7 D6 n ∷ []
called_impure n _ = []

abbrev pub impure : Context → Place → Act → List Break
impure c place (print es) = at_place 7 D6 place ∷ []
impure c place (stop digits) = at_place 7 D6 place ∷ []
impure c place (call n list) = called_impure n (meaning_of c n.symbol)
impure c place _ = []

-- of an action at its first token
abbrev pub act_definitions : Site → Place → Act → List Break
act_definitions site place a =
    flat_map (definition_rows site) (defined site.context a) ++ (if site.is_pure then impure site.context place a else [])

-- ---- DO: its variable is defined there, and active inside the loop (8.1.6.4)

abbrev pub do_variables : Context → Controls → List Said
do_variables c (counted n first last step) = designator_at c role.Variable (variable_of n) ∷ []
do_variables c forever = []
do_variables c (while e) = []

abbrev pub control_definitions : Site → Controls → List Break
control_definitions site control = flat_map (definition_rows site) (do_variables site.context control)

-- the entity of the first name of a variable
abbrev pub first_entity_of : Form → List ℕ
first_entity_of (Variable e) = e ∷ []
first_entity_of _ = []

abbrev pub in_loop : Site → Controls → Site
in_loop site control =
    record site { active = flat_map (λ (s : Said). map_or [] (λ (h : Has). first_entity_of h.form) s.has) (do_variables site.context control) ++ site.active }
