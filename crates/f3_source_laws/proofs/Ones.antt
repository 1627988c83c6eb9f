-- What statements and sources spell is one.
use Rattle.std.proofs.Common.{◌≡◌, ℕ, List, [], ◌∷◌, Option, Some, refl, sym, ap, subst, ◌∙◌}
use Rattle.f3_places.specs.declared.source.Place.{Place}
use Rattle.f3_places.specs.declared.source.Source.{Source}
use Rattle.f3_rules.specs.declared.breaks.Break.{Break}
use Rattle.f3_text.specs.Reader.{bytes_of}
use Rattle.f3_tree.specs.Statements.{block_of}
use Rattle.f3_tree.specs.Tree.{UnitTree, Tree}
use Rattle.f3_form.specs.Forms.{FormTree}
use Rattle.f3_blocks.specs.Pieces.{Placed}
use Rattle.f3_blocks.specs.Machine as block_machine
use Rattle.f3_blocks.proofs.Nesting as block_nesting
use Rattle.f3_parts.specs.Machine as part_machine
use Rattle.f3_parts.proofs.Reading as part_reading
use Rattle.f3_units.specs.Units.{AreUnits}
use Rattle.f3_units.specs.Machine.{State, free}
use Rattle.f3_units.proofs.Nesting.{units_read}
use Rattle.f3_parse.specs.Phase.{BreaksOf}
use Rattle.f3_parse.specs.Spells.{Spells, lines_in, ends_of}
use Rattle.f3_parse.proofs.Fronts.{SoFar, no_break}
use Rattle.f3_grammar_laws.proofs.Parts.{ap2, ap3}
use Rattle.f3_grammar_laws.proofs.Forms as grammar
use Rattle.f3_source_laws.specs.Laws.{StatementsHaveOneForm, BlocksAreOne, PartsAreOne, UnitsAreOne, SourcesSpellOneTree, SpelledSourcesBreakNothing}

abbrev placed : Place → FormTree → Placed
placed p f = record { place = p; form = f }

pub forms : StatementsHaveOneForm
forms [] [] [] a b = refl
forms [] (q ∷ qs) [] a b = absurd b
forms (p ∷ ps) qs [] a b = absurd a
forms [] qs (l ∷ ls) a b = absurd a
forms (p ∷ ps) [] (l ∷ ls) a b = absurd b
forms (p ∷ ps) (q ∷ qs) (l ∷ ls) a b =
    let first : p ≡ q = ap2 placed (a.1 ∙ sym b.1) (grammar.forms p.form q.form l.items a.2 b.2) in
    ap2 (λ (z : Placed) (zs : List Placed). z ∷ zs) first (forms ps qs ls a.3 b.3)

pub blocks : BlocksAreOne
blocks procedure b c ps h k =
    let both : Some (block_nesting.at [] (block_nesting.list_of b)) ≡ Some (block_nesting.at [] (block_nesting.list_of c)) = sym (block_nesting.runs procedure b ps h) ∙ block_nesting.runs procedure c ps k in
    let held : block_nesting.at [] (block_nesting.list_of b) ≡ block_nesting.at [] (block_nesting.list_of c) = cc in
    sym (block_nesting.block_list b) ∙ ap (λ (s : block_machine.State). block_of s.body) held ∙ block_nesting.block_list c

pub parts : PartsAreOne
parts of_module p q ps h k =
    let both : Some (part_machine.closed p) ≡ Some (part_machine.closed q) = sym (part_reading.runs of_module p ps h) ∙ part_reading.runs of_module q ps k in
    let held : part_machine.closed p ≡ part_machine.closed q = cc in
    ap (λ (s : part_machine.State). s.part) held

pub units : UnitsAreOne
units us vs ps h k =
    let both : Some (free us) ≡ Some (free vs) = sym (units_read us ps h) ∙ units_read vs ps k in
    let held : free us ≡ free vs = cc in
    ap (λ (s : State). s.done) held

abbrev tree_of : List (List ℕ) → List (List ℕ) → List UnitTree → Place → Tree
tree_of names texts units end = record { names = names; texts = texts; units = units; end = end }

pub trees : SourcesSpellOneTree
trees t u sources a b =
    let same = forms a.forms b.forms _ a.have b.have in
    let names : t.names ≡ u.names = a.names ∙ sym b.names in
    let texts : t.texts ≡ u.texts = a.texts ∙ sym b.texts in
    let all_units : t.units ≡ u.units = units t.units u.units b.forms (subst (λ (ps : List Placed). AreUnits t.units ps) same a.units) b.units in
    let ends : t.end ≡ u.end = a.end ∙ sym b.end in
    ap3 (λ (x y : List (List ℕ)) (z : List UnitTree). tree_of x y z t.end) names texts all_units ∙ ap (λ (p : Place). tree_of u.names u.texts u.units p) ends

-- the statements of sources that spell a tree are read as its units
whole : (t : Tree) (sources : List Source) → Spells t sources → SoFar (lines_in sources) (free t.units)
whole t sources a = record {
  forms = a.forms;
  have = a.have;
  runs = units_read t.units a.forms a.units;
  shallow = a.shallow;
  only = λ qs h. forms qs a.forms (lines_in sources) h a.have;
}

pub no_breaks : SpelledSourcesBreakNothing
no_breaks t sources b a h =
    let ends = ends_of (bytes_of sources) in
    no_break ends (lines_in sources) (free t.units) (whole t sources a) refl b (subst (λ (f : Option Break). BreaksOf ends (lines_in sources) f b) a.no_fault h)
