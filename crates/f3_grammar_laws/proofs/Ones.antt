-- Expressions, designators and arguments are spelled in one way.
use Rattle.std.proofs.Common.{◌≡◌, List, [], ◌∷◌, refl, sym, ap, subst}
use Rattle.f3_tree.specs.Expressions.{ArgumentTree, arguments_of}
use Rattle.f3_words.specs.Reads.{IsRead}
use Rattle.f3_expressions.specs.Grammar.{EatsExpression, EatsDesignator, EatsArguments}
use Rattle.f3_expressions.specs.Readings.{EatsList}
use Rattle.f3_expressions.proofs.Operands.{list_of_arguments}
use Rattle.f3_reading.specs.Laws.{IsOne}
use Rattle.f3_grammar_laws.specs.Laws.{LevelsAreOne}
use Rattle.f3_grammar_laws.proofs.Trees.{tree_reads, parts_reads, within_reads}

pub levels : LevelsAreOne
levels k e f ts r s a over b end = let same = (tree_reads e k ts r a over).only f s (b, end) in (sym same.0, sym same.1)

pub expressions : IsOne EatsExpression
unfolding EatsExpression
expressions e f ts r s a b = levels 9 e f ts r s a.0 a.1 b.0 b.1

pub designators : IsOne EatsDesignator
unfolding EatsDesignator
designators v w ts r s a b = let same = (parts_reads v ts r a).only w s b in (sym same.0, sym same.1)

list_there : (list : List ArgumentTree) → list_of_arguments (arguments_of list) ≡ list
list_there [] = refl
list_there (a ∷ others) = ap (λ (x : List ArgumentTree). a ∷ x) (list_there others)

pub argument_lists : IsOne EatsArguments
unfolding EatsArguments
argument_lists xs ys ts r s a b =
    let here : IsRead EatsList ts xs r = subst (λ (l : List ArgumentTree). IsRead EatsList ts l r) (list_there xs) (within_reads (arguments_of xs) ts r a) in
    let same = here.only ys s b in
    (sym same.0, sym same.1)
