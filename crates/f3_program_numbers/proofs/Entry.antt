-- What is numbered inside a procedure or the main program is what the definitions number.
use Rattle.std.proofs.Common.{◌≡◌, ℕ, Bool, true, false, not, ◌&&◌, if◌then◌else◌, List, [], ◌++◌, map, refl, ap, ◌∙◌}
use Rattle.f3_lookups.specs.declared.lookup.Lookup.{Lookup}
use Rattle.f3_tree.specs.declared.expression.Name.{Name}
use Rattle.f3_tree.specs.Declarations.{parameter}
use Rattle.f3_tree.specs.Tree.{ProcedureTree, UnitTree}
use Rattle.f3_type_rules.specs.Attributes.{has}
use Rattle.f3_type_rules.specs.Members.{Member, Numbered}
use Rattle.f3_type_rules.specs.Walks.{is_among}
use Rattle.f3_elaboration.specs.Numbers.{Inner, is_variable, is_saved, is_in_header, numbers_in_member, numbers_in_main}
use Rattle.f3_program_numbers.specs.Chosen.{is_saved_name}
use Rattle.f3_program_numbers.specs.Inner.Entering.{entities_of, result_names, local_in, member_inner, main_inner}
use Rattle.f3_program_numbers.proofs.Same.{names_same}

local_choice : (a b c : Bool) → (not a && (not b && not c)) ≡ (not a && (if b then false else (true && not c)))
local_choice true b c = refl
local_choice false true c = refl
local_choice false false c = refl

main_choice : (a b : Bool) → (not a && not b) ≡ (not a && (if b then false else (true && not false)))
main_choice true b = refl
main_choice false true = refl
main_choice false false = refl

abbrev inside : List ℕ → List ℕ → Inner
inside variables lent = record { variables = variables; lent = lent }

inner_made : {a b : List ℕ} (lent : List ℕ) → a ≡ b → inside a lent ≡ inside b lent
inner_made lent h = ap (λ l. inside l lent) h

pub member_here : (look : ℕ → ℕ → Lookup) (u : ℕ) (m : Member) → numbers_in_member look u m ≡ member_inner look m.scope m.first m.tree
member_here look u m =
    let names : List Name = ((m.tree).header).dummies ++ result_names m.tree in
    inner_made (entities_of look m.scope ((m.tree).header).dummies)
    (ap (λ l. l ++ entities_of look m.scope (result_names m.tree))
    (names_same (λ v. is_variable v && (not (is_saved v) && not (is_in_header m v))) (local_in names)
    (λ v. local_choice (has parameter (v.tree).0) (is_saved_name v.tree) (is_among (map (λ (n : Name). n.symbol) names) (v.tree).1)) u m.scope _ ((m.tree).part).specifications))

pub member_same : (look : ℕ → ℕ → Lookup) (u : ℕ) (m : Member) (scope first : ℕ) (p : ProcedureTree) → m.scope ≡ scope → m.first ≡ first → m.tree ≡ p
    → numbers_in_member look u m ≡ member_inner look scope first p
member_same look u m scope first p s f t =
    member_here look u m ∙ ap (λ n. member_inner look n m.first m.tree) s ∙ ap (λ n. member_inner look scope n m.tree) f ∙ ap (member_inner look scope first) t

main_here : (u : Numbered) → numbers_in_main u ≡ main_inner u.first u.tree
main_here u =
    inner_made [] (names_same (λ v. is_variable v && not (is_saved v)) (local_in []) (λ v. main_choice (has parameter (v.tree).0) (is_saved_name v.tree)) u.scope u.scope u.first ((u.tree).part).specifications)

pub main_same : (u : Numbered) (first : ℕ) (t : UnitTree) → u.first ≡ first → u.tree ≡ t → numbers_in_main u ≡ main_inner first t
main_same u first t f h = main_here u ∙ ap (λ n. main_inner n u.tree) f ∙ ap (main_inner first) h
