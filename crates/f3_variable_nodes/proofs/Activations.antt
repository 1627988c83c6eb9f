-- Variables of activations are those that the tables say.
use Rattle.std.proofs.Common.{◌≡◌, refl, sym, ap, ◌∙◌, ℕ, ◌+◌, Bool, true, false, not, ◌&&◌, List, [], ◌∷◌, ◌++◌, map, filter, cond, length}
use Rattle.std.proofs.Math.Path.{fun_ext}
use Rattle.f3_scopes.specs.Scopes.{declared_in}
use Rattle.f3_tree.specs.Declarations.{DeclarationTree, EntityTree, SpecificationTree, declares, accesses, protects, saves, defines}
use Rattle.f3_tree.specs.Tree.{ProcedureTree, UnitTree}
use Rattle.f3_type_rules.specs.Declarations.{within_member}
use Rattle.f3_type_rules.specs.Members.{Member, Numbered}
use Rattle.f3_type_rules.specs.Names.{Declared}
use Rattle.f3_type_rules.specs.Program.{nothing_known}
use Rattle.f3_elaboration.specs.Nodes.{DeclaredNode}
use Rattle.f3_elaboration.specs.Numbers.{Inner, Variable, along_part, declared_from, names_in, member_locals, main_locals}
use Rattle.f3_elaboration.specs.Declarations.{Whole, declared, variable}
use Rattle.f3_declaration_nodes.specs.declared.whole.Whole.{Whole as Tables}
use Rattle.f3_declaration_nodes.specs.Stands.{Stands}
use Rattle.f3_declaration_nodes.specs.Tables.{declared_by}
use Rattle.f3_declaration_nodes.proofs.Standing.{declared_stands}
use Rattle.f3_variable_nodes.specs.Locals.{header_symbols, is_local_beside, is_saved_by, is_variable_by, trees, trees_in}
use Rattle.f3_variable_nodes.proofs.Walking.{picked}

module _ (w : Whole) (p : Declared → Bool) (u s : ℕ) where
  names_same : (e : ℕ) (d : DeclarationTree) (xs : List EntityTree)
      → map (variable w) (filter (λ (v : Variable). p v.tree) (declared_from u s e d xs)) ≡ map (declared w u s) (filter p (map (λ (x : EntityTree). (d, x)) xs))
  names_same e d [] = refl
  names_same e d (x ∷ xs) = step (p (d, x)) (names_same (e + 1) d xs)
    where
      step : (b : Bool)
          → map (variable w) (filter (λ (v : Variable). p v.tree) (declared_from u s (e + 1) d xs)) ≡ map (declared w u s) (filter p (map (λ (y : EntityTree). (d, y)) xs))
          → map (variable w) (cond b (record { entity = e; unit = u; scope = s; tree = (d, x) } ∷ filter (λ (v : Variable). p v.tree) (declared_from u s (e + 1) d xs)) (filter (λ (v : Variable). p v.tree) (declared_from u s (e + 1) d xs)))
          ≡ map (declared w u s) (cond b ((d, x) ∷ filter p (map (λ (y : EntityTree). (d, y)) xs)) (filter p (map (λ (y : EntityTree). (d, y)) xs)))
      step true h = ap (λ (ns : List DeclaredNode). declared w u s (d, x) ∷ ns) h
      step false h = h

  one_same : (e : ℕ) (x : SpecificationTree)
      → map (variable w) (filter (λ (v : Variable). p v.tree) (names_in u s e x)) ≡ map (declared w u s) (filter p (trees_in x))
  one_same e (declares d) = names_same e d d.entities
  one_same e (accesses a) = refl
  one_same e (protects q ns) = refl
  one_same e (saves q) = refl
  one_same e (defines t) = refl

  part_same : (e : ℕ) (xs : List SpecificationTree)
      → map (variable w) (filter (λ (v : Variable). p v.tree) (along_part (names_in u s) e xs)) ≡ map (declared w u s) (filter p (trees xs))
  part_same e [] = refl
  part_same e (x ∷ xs) =
      picked (variable w) (λ (v : Variable). p v.tree) (names_in u s e x) (along_part (names_in u s) (e + length (declared_in x)) xs)
      ∙ ap (λ (ns : List DeclaredNode). ns ++ map (variable w) (filter (λ (v : Variable). p v.tree) (along_part (names_in u s) (e + length (declared_in x)) xs))) (one_same e x)
      ∙ ap (λ (ns : List DeclaredNode). map (declared w u s) (filter p (trees_in x)) ++ ns) (part_same (e + length (declared_in x)) xs)
      ∙ sym (picked (declared w u s) p (trees_in x) (trees xs))

pub declared_all : (t : Tables) (w : Whole) (inner : Inner) (u s : ℕ) (xs : List Declared) → Stands t w inner → map (declared_by t u s) xs ≡ map (declared w u s) xs
declared_all t w inner u s [] h = refl
declared_all t w inner u s (x ∷ xs) h =
    ap (λ (n : DeclaredNode). n ∷ map (declared_by t u s) xs) (declared_stands t w inner u s x h) ∙ ap (λ (ns : List DeclaredNode). declared w u s x ∷ ns) (declared_all t w inner u s xs h)

abbrev locals_of : Whole → (unit scope : ℕ) → ProcedureTree → List DeclaredNode
locals_of w u s p = map (declared w u s) (filter (is_local_beside (header_symbols p.header)) (trees (p.part).specifications))

pub member_same : (w : Whole) (u s : ℕ) (m : Member) (p : ProcedureTree) → m.scope ≡ s → m.tree ≡ p → locals_of w u s p ≡ map (variable w) (member_locals u m)
member_same w u s m p scope tree =
    ap (locals_of w u s) (sym tree) ∙ ap (λ n. locals_of w u n m.tree) (sym scope)
    ∙ sym (part_same w (is_local_beside (header_symbols (m.tree).header)) u m.scope (within_member m nothing_known).next ((m.tree).part).specifications)

and_true : (a b : Bool) → (a && (b && true)) ≡ (a && b)
and_true true true = refl
and_true true false = refl
and_true false b = refl

abbrev is_local_alone : Declared → Bool
is_local_alone x = is_variable_by x && not (is_saved_by x)

alone : (xs : List Declared) → filter (is_local_beside []) xs ≡ filter is_local_alone xs
alone xs = ap (λ (p : Declared → Bool). filter p xs) (fun_ext (λ x. and_true (is_variable_by x) (not (is_saved_by x))))

pub main_same : (w : Whole) (s : ℕ) (u : Numbered) (t : UnitTree) → u.scope ≡ s → u.tree ≡ t
    → map (declared w s s) (filter (is_local_beside []) (trees (t.part).specifications)) ≡ map (variable w) (main_locals u)
main_same w s u t scope tree =
    ap (λ (x : UnitTree). map (declared w s s) (filter (is_local_beside []) (trees (x.part).specifications))) (sym tree)
    ∙ ap (λ n. map (declared w n n) (filter (is_local_beside []) (trees ((u.tree).part).specifications))) (sym scope)
    ∙ ap (map (declared w u.scope u.scope)) (alone (trees ((u.tree).part).specifications))
    ∙ sym (part_same w is_local_alone u.scope u.scope u.first ((u.tree).part).specifications)
