-- What a front of the tokens spells is what is read there: no other tree is spelled.
use Rattle.std.proofs.Common.{◌≡◌, ℕ, suc, true, false, List, [], ◌∷◌, Some, None, refl, sym, ap, subst, ◌∙◌, arith}
use Rattle.std.specs.Prelude.{ℤ, Bool}
use Rattle.f3_places.specs.declared.source.Place.{Place}
use Rattle.f3_tree.specs.declared.expression.Name.{Name}
use Rattle.f3_tree.specs.Expressions.{Tree, integer, truth, text, designator, group, array, signed, negation, comparison, chain, Rest, no_more, more, rest_of, Trees, no_trees, trees, trees_of, Parts, no_parts, parts, Behind, bare, within, Arguments, no_arguments, arguments, ArgumentTree, value, triplet, Perhaps, absent, present}
use Rattle.f3_words.specs.declared.item.Word.{Word}
use Rattle.f3_words.specs.declared.item.Word.TheVariants as word
use Rattle.f3_words.specs.declared.item.Item.{Item}
use Rattle.f3_words.specs.Lists.{starts, is_comma, EatsRun, Separated}
use Rattle.f3_words.specs.Reads.{IsRead}
use Rattle.f3_expressions.specs.Levels.{joins, unsigned, Ends}
use Rattle.f3_expressions.specs.Grammar.{Eats, EatsRest, EatsFurther, EatsParts, EatsComponents, EatsWithin, EatsOthers, EatsArgument, EatsPerhaps, is_percent, closer_of}
use Rattle.f3_expressions.specs.Readings.{EatsUpTo, is_operator, is_opener, IsOperand, ends_argument, IsPart, IsBound, IsStride, IsArgument, EatsWhole, EatsList}
use Rattle.f3_tree.specs.declared.expression.IntegerLiteral.{IntegerLiteral}
use Rattle.f3_expressions.proofs.Fronts.{ends_lower, ends_there, unsigned_least}
use Rattle.f3_expressions.proofs.Chains.{rest_ends, rest_run, list_of, list_back, is_of_level, level_reads, operand_reads}
use Rattle.f3_expressions.proofs.Prefixes.{signed_reads, negation_reads, comparison_reads}
use Rattle.f3_expressions.proofs.Operands.{integer_reads, truth_reads, text_reads, group_reads, array_reads, designator_reads, parts_from, parts_read, list_of_arguments}
use Rattle.f3_expressions.proofs.Lists.{named_reads, stride_present, eats_argument, none_read, arguments_read}
use Rattle.f3_expressions.proofs.Runs.{behind_reads}
use Rattle.f3_grammar_laws.proofs.Levels.{run_none, run_more, later_reads, operator_plain, relation_over}
use Rattle.f3_grammar_laws.proofs.Bounds.{others_begin, present_bound, absent_bound, absent_stride, positional_reads, positional_value, BeforeColon, nothing_before, bound_before, triplet_there, bare_part, within_part, not_closed}

-- ---- primaries

integer_there : (p : Place) (n : IntegerLiteral) (ts r : List Item) → Eats 0 (integer p n) ts r → IsRead (EatsUpTo 0) ts (integer p n) r
integer_there p n ts r h =
    let here = integer_reads ts h.0 r h.1 h.2 in
    let same : integer (h.0).place (h.0).value ≡ integer p n = ap (λ (x : Place). integer x (h.0).value) (sym h.3) ∙ ap (λ (x : IntegerLiteral). integer p x) (sym h.4) in
    subst (λ (t : Tree). IsRead (EatsUpTo 0) ts t r) same here

truth_there : (p : Place) (b : Bool) (ts r : List Item) → Eats 0 (truth p b) ts r → IsRead (EatsUpTo 0) ts (truth p b) r
truth_there p b ts r h = subst (λ (x : Place). IsRead (EatsUpTo 0) ts (truth x b) r) (sym h.3) (truth_reads ts h.0 r b h.1 h.2)

text_there : (p : Place) (n : ℕ) (ts r : List Item) → Eats 0 (text p n) ts r → IsRead (EatsUpTo 0) ts (text p n) r
text_there p n ts r h =
    let here = text_reads ts h.0 r h.1 h.2 in
    let same : text (h.0).place (h.0).symbol ≡ text p n = ap (λ (x : Place). text x (h.0).symbol) (sym h.3) ∙ ap (λ (x : ℕ). text p x) (sym h.4) in
    subst (λ (t : Tree). IsRead (EatsUpTo 0) ts t r) same here

designator_there : (ps : Parts) (ts r : List Item) → EatsParts ps ts r → IsRead EatsParts ts ps r → IsRead (EatsUpTo 0) ts (designator ps) r
designator_there no_parts ts r h a = absurd h
designator_there (parts n b ps) ts r h a = designator_reads ts h.0 h.1 (parts n b ps) r h.3 h.4 a

group_there : (p : Place) (e : Tree) (ts r : List Item) → (h : Eats 0 (group p e) ts r) → IsRead EatsWhole h.1 e (h.2 ∷ r) → IsRead (EatsUpTo 0) ts (group p e) r
group_there p e ts r h a =
    let here = group_reads h.0 h.1 e (h.2 ∷ r) h.2 r h.4 a refl h.7 in
    subst (λ (x : Place). IsRead (EatsUpTo 0) ts (group x e) r) (sym h.5) (subst (λ (x : List Item). IsRead (EatsUpTo 0) x (group (h.0).place e) r) (sym h.3) here)

-- ---- array constructors

abbrev list_of_trees : Trees → List Tree
list_of_trees no_trees = []
list_of_trees (trees e es) = e ∷ list_of_trees es

trees_back : (es : Trees) → trees_of (list_of_trees es) ≡ es
trees_back no_trees = refl
trees_back (trees e es) = ap (λ (x : Trees). trees e x) (trees_back es)

further_ends : (es : Trees) (ts r : List Item) → EatsFurther es ts r → Ends 9 r → Ends 9 ts
further_ends no_trees ts r h ends = subst (λ (x : List Item). Ends 9 x) (sym h) ends
further_ends (trees e es) ts r h ends = subst (λ (x : List Item). Ends 9 x) (sym h.3) (ends_there 9 h.0 h.1 (ap joins h.4))

-- the sign that closes an array constructor joins nothing, and is no comma
record Closer (w x : Word) : Type 0 where
  opens : is_opener w ≡ true
  joins_none : joins x ≡ None
  no_comma : is_comma x ≡ false

closer : (w x : Word) → closer_of w ≡ Some x → Closer w x
closer word.OpenBracket x h = let same : word.CloseBracket ≡ x = cc in record { opens = refl; joins_none = sym (ap joins same); no_comma = sym (ap is_comma same) }
closer word.OpenSlash x h = let same : word.CloseSlash ≡ x = cc in record { opens = refl; joins_none = sym (ap joins same); no_comma = sym (ap is_comma same) }
closer w x h = absurd (cc)

array_there : (p : Place) (e : Tree) (es : Trees) (ts r : List Item) → (h : Eats 0 (array p (trees e es)) ts r)
    → IsRead EatsWhole h.1 e (h.6).0 → IsRead (EatsRun is_comma (Separated EatsWhole)) (h.6).0 (list_of_trees es) (h.2 ∷ r) → IsRead (EatsUpTo 0) ts (array p (trees e es)) r
array_there p e es ts r h a b =
    let behind = behind_reads (EatsRun is_comma (Separated EatsWhole)) e (h.6).0 (h.2 ∷ r) (e ∷ list_of_trees es) (list_of_trees es) refl b in
    let c = closer (h.0).word (h.2).word h.4 in
    let here = array_reads h.0 h.1 e (h.6).0 (e ∷ list_of_trees es) (h.2 ∷ r) h.2 r c.opens a behind refl h.4 in
    let same : array (h.0).place (trees_of (e ∷ list_of_trees es)) ≡ array p (trees e es) = ap (λ (x : Trees). array (h.0).place (trees e x)) (trees_back es) ∙ ap (λ (x : Place). array x (trees e es)) (sym h.5) in
    subst (λ (t : Tree). IsRead (EatsUpTo 0) ts t r) same (subst (λ (x : List Item). IsRead (EatsUpTo 0) x (array (h.0).place (trees_of (e ∷ list_of_trees es))) r) (sym h.3) here)

-- ---- designators

abbrev list_of_parts : Parts → List (Name × Behind)
list_of_parts no_parts = []
list_of_parts (parts n b ps) = (n, b) ∷ list_of_parts ps

parts_back : (ps : Parts) → parts_from (list_of_parts ps) ≡ ps
parts_back no_parts = refl
parts_back (parts n b ps) = ap (λ (x : Parts). parts n b x) (parts_back ps)

parts_there : (n : Name) (b : Behind) (ps : Parts) (ts r : List Item) → (h : EatsParts (parts n b ps) ts r)
    → IsRead IsPart ts (n, b) h.2 → IsRead (EatsRun is_percent (Separated IsPart)) h.2 (list_of_parts ps) r → IsRead EatsParts ts (parts n b ps) r
parts_there n b ps ts r h a others =
    let behind = behind_reads (EatsRun is_percent (Separated IsPart)) (n, b) h.2 r ((n, b) ∷ list_of_parts ps) (list_of_parts ps) refl others in
    subst (λ (x : Parts). IsRead EatsParts ts (parts n b x) r) (parts_back ps) (parts_read ts (n, b) h.2 ((n, b) ∷ list_of_parts ps) r a behind)

-- ---- all trees

mutual
  pub tree_reads : (t : Tree) (k : ℕ) (ts r : List Item) → Eats k t ts r → Ends k r → IsRead (EatsUpTo k) ts t r
  tree_reads (integer p n) k ts r h ends = later_reads k 0 (integer p n) ts r (omega arith) (integer_there p n ts r h) ends
  tree_reads (truth p b) k ts r h ends = later_reads k 0 (truth p b) ts r (omega arith) (truth_there p b ts r h) ends
  tree_reads (text p n) k ts r h ends = later_reads k 0 (text p n) ts r (omega arith) (text_there p n ts r h) ends
  tree_reads (designator ps) k ts r h ends = later_reads k 0 (designator ps) ts r (omega arith) (designator_there ps ts r h (parts_reads ps ts r h)) ends
  tree_reads (group p e) k ts r h ends =
      let inner = tree_reads e 9 h.1 (h.2 ∷ r) h.6 (ends_there 9 h.2 r (ap joins h.7)) in
      later_reads k 0 (group p e) ts r (omega arith) (group_there p e ts r h inner) ends
  tree_reads (array p no_trees) k ts r h ends = absurd h.6
  tree_reads (array p (trees e es)) k ts r h ends =
      let c = closer (h.0).word (h.2).word h.4 in
      let over = ends_there 9 h.2 r c.joins_none in
      let first = tree_reads e 9 h.1 (h.6).0 (h.6).1 (further_ends es (h.6).0 (h.2 ∷ r) (h.6).2 over) in
      let others = further_reads es (h.6).0 (h.2 ∷ r) (h.6).2 over c.no_comma in
      later_reads k 0 (array p (trees e es)) ts r (omega arith) (array_there p e es ts r h first others) ends
  tree_reads (signed p s e) k ts r h ends =
      let operand = tree_reads e 2 h.1 r h.6 (ends_lower 2 k r (omega (arith, h.2)) ends) in
      let here = signed_reads ts h.0 s h.1 r e h.3 h.4 operand in
      later_reads k 3 (signed p s e) ts r h.2 (subst (λ (x : Place). IsRead (EatsUpTo 3) ts (signed x s e) r) (sym h.5) here) ends
  tree_reads (negation p e) k ts r h ends =
      let operand = tree_reads e 5 h.1 r h.6 (ends_lower 5 k r (omega (arith, h.2)) ends) in
      let here = negation_reads ts h.0 h.1 r e h.3 h.4 operand in
      later_reads k 6 (negation p e) ts r h.2 (subst (λ (x : Place). IsRead (EatsUpTo 6) ts (negation x e) r) (sym h.5) here) ends
  tree_reads (comparison e x f) k ts r h ends =
      let over = relation_over (h.0) h.1 x h.4 in
      let left = tree_reads e 4 ts (h.0 ∷ h.1) h.3 over.0 in
      let five = ends_lower 5 k r h.2 ends in
      let right = tree_reads f 4 h.1 r h.5 (ends_lower 4 5 r (omega arith) five) in
      later_reads k 5 (comparison e x f) ts r h.2 (comparison_reads ts (h.0 ∷ h.1) e h.0 h.1 x f r left refl h.4 right (over.1 r five)) ends
  tree_reads (chain e no_more) k ts r h ends = absurd h.5
  tree_reads (chain e (more o f os)) k ts r h ends =
      let over = ends_lower (suc h.0) k r (omega (arith, h.2)) ends in
      let first = tree_reads e h.0 ts h.1 h.3 (rest_ends h.0 (more o f os) h.1 r h.4 over) in
      let others = rest_reads (more o f os) h.0 h.1 r h.4 over in
      let here = level_reads (suc h.0) h.0 ts h.1 r e (list_of (more o f os)) refl (operator_plain h.0 o (h.4).5) first others in
      let same : chain e (rest_of (list_of (more o f os))) ≡ chain e (more o f os) = ap (λ (x : Rest). chain e x) (list_back (more o f os)) in
      later_reads k (suc h.0) (chain e (more o f os)) ts r (omega (arith, h.2)) (subst (λ (t : Tree). IsRead (EatsUpTo (suc h.0)) ts t r) same here) ends

  rest_reads : (os : Rest) (l : ℕ) (ts r : List Item) → EatsRest l os ts r → Ends (suc l) r → IsRead (EatsRun (is_operator l) (IsOperand l)) ts (list_of os) r
  rest_reads no_more l ts r h ends =
      subst (λ (x : List Item). IsRead (EatsRun (is_operator l) (IsOperand l)) x [] r) (sym h) (run_none (is_operator l) (IsOperand l) r (rest_run l no_more ts r h ends).1)
  rest_reads (more o e os) l ts r h ends =
      let over = ends_lower (unsigned l) l h.2 (unsigned_least l) (rest_ends l os h.2 r h.7 ends) in
      let operand = operand_reads l (unsigned l) h.0 h.1 o e h.2 refl h.4 (tree_reads e (unsigned l) h.1 h.2 h.6 over) in
      run_more (is_operator l) (IsOperand l) ts h.0 h.1 h.2 r (o, e) (list_of os) h.3 (ap (is_operator l) h.4 ∙ is_of_level l o h.5) operand (rest_reads os l h.2 r h.7 ends)

  further_reads : (es : Trees) (ts r : List Item) → EatsFurther es ts r → Ends 9 r → starts is_comma r ≡ false → IsRead (EatsRun is_comma (Separated EatsWhole)) ts (list_of_trees es) r
  further_reads no_trees ts r h ends none =
      subst (λ (x : List Item). IsRead (EatsRun is_comma (Separated EatsWhole)) x [] r) (sym h) (run_none is_comma (Separated EatsWhole) r none)
  further_reads (trees e es) ts r h ends none =
      let element = tree_reads e 9 h.1 h.2 h.5 (further_ends es h.2 r h.6 ends) in
      run_more is_comma (Separated EatsWhole) ts h.0 h.1 h.2 r e (list_of_trees es) h.3 (ap is_comma h.4) element (further_reads es h.2 r h.6 ends none)

  pub parts_reads : (ps : Parts) (ts r : List Item) → EatsParts ps ts r → IsRead EatsParts ts ps r
  parts_reads no_parts ts r h = absurd h
  parts_reads (parts n b ps) ts r h =
      parts_there n b ps ts r h (part_reads b n ts h.2 (h.0, h.1, h.3, h.4, h.5, h.6)) (components_reads ps h.2 r h.7)

  part_reads : (b : Behind) (n : Name) (ts r : List Item) → IsPart (n, b) ts r → IsRead IsPart ts (n, b) r
  part_reads bare n ts r h = bare_part n ts r h
  part_reads (within list) n ts r h = within_part n list ts r h (within_reads list h.1 r h.5)

  components_reads : (ps : Parts) (ts r : List Item) → EatsComponents ps ts r → IsRead (EatsRun is_percent (Separated IsPart)) ts (list_of_parts ps) r
  components_reads no_parts ts r h =
      subst (λ (x : List Item). IsRead (EatsRun is_percent (Separated IsPart)) x [] r) (sym h.0) (run_none is_percent (Separated IsPart) r h.1)
  components_reads (parts n b ps) ts r h =
      let one = part_reads b n (h.1 ∷ h.2) h.3 (h.1, h.2, refl, h.6, h.7, h.8) in
      run_more is_percent (Separated IsPart) ts h.0 (h.1 ∷ h.2) h.3 r (n, b) (list_of_parts ps) h.4 (ap is_percent h.5) one (components_reads ps h.3 r h.9)

  pub within_reads : (list : Arguments) (ts r : List Item) → EatsWithin list ts r → IsRead EatsList ts (list_of_arguments list) r
  within_reads no_arguments ts r h = none_read ts h.0 (h.1 ∷ r) h.1 r h.2 h.3 refl h.4
  within_reads (arguments a others) ts r h =
      let one = argument_reads a h.1 h.2 (others_begin others h.2 h.3 r h.8 h.7) h.6 in
      let rest = others_reads others h.2 h.3 r h.8 h.7 in
      let behind = behind_reads (EatsRun is_comma (Separated IsArgument)) a h.2 (h.3 ∷ r) (a ∷ list_of_arguments others) (list_of_arguments others) refl rest in
      arguments_read ts h.0 h.1 a h.2 (a ∷ list_of_arguments others) (h.3 ∷ r) h.3 r h.4 h.5 (not_closed a others ts r h) one behind refl h.8

  others_reads : (list : Arguments) (ts : List Item) (last : Item) (r : List Item) → last.word ≡ word.Close → EatsOthers list ts (last ∷ r) → IsRead (EatsRun is_comma (Separated IsArgument)) ts (list_of_arguments list) (last ∷ r)
  others_reads no_arguments ts last r w h =
      subst (λ (x : List Item). IsRead (EatsRun is_comma (Separated IsArgument)) x [] (last ∷ r)) (sym h) (run_none is_comma (Separated IsArgument) (last ∷ r) (ap is_comma w))
  others_reads (arguments a others) ts last r w h =
      let one = argument_reads a h.1 h.2 (others_begin others h.2 last r w h.6) h.5 in
      run_more is_comma (Separated IsArgument) ts h.0 h.1 h.2 (last ∷ r) a (list_of_arguments others) h.3 (ap is_comma h.4) one (others_reads others h.2 last r w h.6)

  argument_reads : (a : ArgumentTree) (ts r : List Item) → starts ends_argument r ≡ true → EatsArgument a ts r → IsRead IsArgument ts a r
  argument_reads (value None e) ts r over h =
      let k = eats_argument (value None e) ts r over h in
      let one = tree_reads e 9 ts r ((k.1).0).0 ((k.1).0).1 in
      positional_reads ts (value None e) r k.0 (positional_value ts e r one (k.1).1)
  argument_reads (value (Some n) e) ts r over h =
      let k = eats_argument (value (Some n) e) ts r over h in
      let b = k.1 in
      named_reads ts n b.0 b.1 k.0 e r b.2 b.3 b.4 b.5 (tree_reads e 9 k.0 r (k.2).0 (k.2).1)
  argument_reads (triplet p first last stride) ts r over h =
      let k = eats_argument (triplet p first last stride) ts r over h in
      let q = (k.1).7 in
      positional_reads ts (triplet p first last stride) r k.0
      (triplet_there ts p first last stride r k.1 (first_reads first ts (k.1).2 (k.1).3 (k.1).6 (k.1).5) (bound_reads last (k.1).3 q.0 q.3) (stride_reads stride q.0 r q.4))

  first_reads : (b : Perhaps) (ts : List Item) (colon : Item) (behind : List Item) → colon.word ≡ word.Colon → EatsPerhaps b ts (colon ∷ behind) → BeforeColon ts b colon behind
  first_reads absent ts colon behind w h = nothing_before ts colon behind w h
  first_reads (present e) ts colon behind w h = bound_before ts e colon behind w (tree_reads e 9 ts (colon ∷ behind) h (ends_there 9 colon behind (ap joins w)))

  bound_reads : (b : Perhaps) (ts r : List Item) → IsBound b ts r → IsRead IsBound ts b r
  bound_reads absent ts r h = absent_bound ts r h
  bound_reads (present e) ts r h = present_bound ts e r (tree_reads e 9 ts r h.0 h.1)

  stride_reads : (b : Perhaps) (ts r : List Item) → IsStride b ts r → IsRead IsStride ts b r
  stride_reads absent ts r h = absent_stride ts r h
  stride_reads (present e) ts r h = stride_present ts h.0 h.1 e r h.2 h.3 (tree_reads e 9 h.1 r (h.4).0 (h.4).1)
