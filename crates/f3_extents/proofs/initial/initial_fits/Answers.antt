use Rattle.std.proofs.Common.{refl, ap, ◌∙◌, sym}
use Rattle.f3_tree.specs.Expressions.{expression_view}
use Rattle.f3_tree.proofs.Views.{view_integer, view_truth, view_text, view_designator, view_group, view_array, view_signed, view_not, view_comparison, view_chain}
use Rattle.f3_typed_parts.specs.Known.{context_of}
use Rattle.f3_type_rules.specs.Shapes.{initial_fits}
use Rattle.f3_extents.proofs.Initials.{other_fits}
use Rattle.f3_extents.proofs.initial.initial_fits.Goals as goal

pub returns-in-Array : goal.returns-in-Array
returns-in-Array c = λ n h.
    c.array_fits.ensures n h
    ∙ sym (ap (initial_fits (context_of c.args.known.now c.args.at) c.args.data_type c.args.rank n) (ap expression_view c.in-Array.is ∙ view_array _ _))

pub returns-in-Integer : goal.returns-in-Integer
returns-in-Integer c = λ n h. other_fits (context_of c.args.known.now c.args.at) c.args.data_type c.args.rank n _ _ _ (ap expression_view c.in-Integer.is ∙ view_integer _ _) refl c.is_convertible.ensures

pub returns-in-Truth : goal.returns-in-Truth
returns-in-Truth c = λ n h. other_fits (context_of c.args.known.now c.args.at) c.args.data_type c.args.rank n _ _ _ (ap expression_view c.in-Truth.is ∙ view_truth _ _) refl c.is_convertible-in-Truth.ensures

pub returns-in-Text : goal.returns-in-Text
returns-in-Text c = λ n h. other_fits (context_of c.args.known.now c.args.at) c.args.data_type c.args.rank n _ _ _ (ap expression_view c.in-Text.is ∙ view_text _ _) refl c.is_convertible-in-Text.ensures

pub returns-in-Designator : goal.returns-in-Designator
returns-in-Designator c = λ n h. other_fits (context_of c.args.known.now c.args.at) c.args.data_type c.args.rank n _ _ _ (ap expression_view c.in-Designator.is ∙ view_designator _) refl c.is_convertible-in-Designator.ensures

pub returns-in-Group : goal.returns-in-Group
returns-in-Group c = λ n h. other_fits (context_of c.args.known.now c.args.at) c.args.data_type c.args.rank n _ _ _ (ap expression_view c.in-Group.is ∙ view_group _ _) refl c.is_convertible-in-Group.ensures

pub returns-in-Signed : goal.returns-in-Signed
returns-in-Signed c = λ n h. other_fits (context_of c.args.known.now c.args.at) c.args.data_type c.args.rank n _ _ _ (ap expression_view c.in-Signed.is ∙ view_signed _ _ _) refl c.is_convertible-in-Signed.ensures

pub returns-in-Not : goal.returns-in-Not
returns-in-Not c = λ n h. other_fits (context_of c.args.known.now c.args.at) c.args.data_type c.args.rank n _ _ _ (ap expression_view c.in-Not.is ∙ view_not _ _) refl c.is_convertible-in-Not.ensures

pub returns-in-Comparison : goal.returns-in-Comparison
returns-in-Comparison c = λ n h. other_fits (context_of c.args.known.now c.args.at) c.args.data_type c.args.rank n _ _ _ (ap expression_view c.in-Comparison.is ∙ view_comparison _ _ _) refl c.is_convertible-in-Comparison.ensures

pub returns-in-Chain : goal.returns-in-Chain
returns-in-Chain c = λ n h. other_fits (context_of c.args.known.now c.args.at) c.args.data_type c.args.rank n _ _ _ (ap expression_view c.in-Chain.is ∙ view_chain _ _) refl c.is_convertible-in-Chain.ensures
