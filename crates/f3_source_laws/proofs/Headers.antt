-- Tokens that spell a given header.
use Rattle.std.proofs.Common.{◌≡◌, List, [], ◌∷◌, Bool, true, false, Option, Some, None, refl, ap, ◌∙◌, inl, inr}
use Rattle.f3_words.specs.Lines.{no_value}
use Rattle.f3_places.specs.declared.source.Place.{Place}
use Rattle.f3_tree.specs.declared.expression.Name.{Name}
use Rattle.f3_tree.specs.declared.declaration.TypeSpecifier.{TypeSpecifier}
use Rattle.f3_tree.specs.declared.declaration.TypeSpecifier.TheVariants as specifier
use Rattle.f3_tree.specs.declared.program.ProcedureKind.{ProcedureKind}
use Rattle.f3_tree.specs.declared.program.ProcedureKind.TheVariants.{Subroutine, Function}
use Rattle.f3_tree.specs.Tree.{HeaderTree}
use Rattle.f3_words.specs.declared.item.Keyword.{Keyword}
use Rattle.f3_words.specs.declared.item.Keyword.TheVariants as keyword
use Rattle.f3_words.specs.declared.item.Word.{Word}
use Rattle.f3_words.specs.declared.item.Word.TheVariants as word
use Rattle.f3_words.specs.declared.item.Item.{Item}
use Rattle.f3_words.specs.Lists.{starts, is_comma, EatsRun, Separated}
use Rattle.f3_reading.specs.Parts.{EatsWord, EatsName, Lacks}
use Rattle.f3_reading.specs.Names.{EatsEnclosedName, AreNames, EatsNames}
use Rattle.f3_declarations.specs.declared.procedures.Prefix.{Prefix}
use Rattle.f3_declarations.specs.declared.procedures.Prefix.TheVariants as prefix
use Rattle.f3_tree.specs.declared.expression.IntegerKind.{IntegerKind}
use Rattle.f3_declarations.specs.Kinds.{EatsKindName, EatsKindDigit, EatsKindBehind, EatsKindPerhaps, EatsInteger}
use Rattle.f3_grammar_laws.proofs.Parts.{front}
use Rattle.f3_declarations.specs.declared.procedures.Prefixes.{Prefixes}
use Rattle.f3_declarations.specs.Specifications.{EatsDerived, EatsTyped, EatsPrefix, ArePrefixes, is_prefix, no_prefix, with_prefixes, EatsPrefixes, EatsDummies, IsDummiesPerhaps, EatsResultPerhaps, IsSubroutine, IsFunction, IsProcedureBehind, IsHeader}

-- a token of this word there
abbrev pub token : Word → Place → Item
token w place = record { word = w; symbol = 0; value = no_value; place = place }

abbrev pub key : Keyword → Place → Item
key k place = token (word.Name k) place

-- the token of a name
abbrev pub named : Name → Item
named n = record { word = word.Name keyword.Plain; symbol = n.symbol; value = no_value; place = n.place }

word_there : (w : Word) (place : Place) (r : List Item) → EatsWord w (token w place ∷ r) r
unfolding EatsWord
word_there w place r = (token w place, refl, refl)

pub name_there : (n : Name) (r : List Item) → EatsName n (named n ∷ r) r
unfolding EatsName
name_there n r = (named n, refl, refl, refl)

enclosed_name : (n : Name) (place : Place) (r : List Item) → EatsEnclosedName n (token word.Open place ∷ named n ∷ token word.Close place ∷ r) r
unfolding EatsEnclosedName
enclosed_name n place r =
    (named n ∷ token word.Close place ∷ r, token word.Close place ∷ r, word_there word.Open place (named n ∷ token word.Close place ∷ r), name_there n (token word.Close place ∷ r), word_there word.Close place r)

-- ---- the kind of INTEGER, in parentheses

abbrev integer_kind : Place → IntegerKind → List Item → List Item
integer_kind place k r = token word.Open place ∷ token (word.KindDigit k) place ∷ token word.Close place ∷ r

no_kind_name : (k : IntegerKind) (place : Place) (r s : List Item) → EatsWord (word.Name keyword.Kind) (token (word.KindDigit k) place ∷ r) s → ⊥
unfolding EatsWord
no_kind_name k place r s h =
    let first = (front (token (word.KindDigit k) place ∷ r) (token (word.KindDigit k) place) h.0 r s refl h.1).0 in
    let same : word.KindDigit k ≡ word.Name keyword.Kind = ap (λ (i : Item). i.word) first ∙ h.2 in absurd (cc)

integer_there : (k : IntegerKind) (place : Place) (r : List Item) → EatsInteger (specifier.Integer k) (integer_kind place k r) r
unfolding EatsInteger EatsKindPerhaps EatsKindBehind EatsKindName EatsKindDigit Lacks
integer_there k place r =
    let digit = token (word.KindDigit k) place ∷ token word.Close place ∷ r in (
      Some k,
      (
        digit,
        word_there word.Open place digit,
        (
          digit,
          token word.Close place ∷ r,
          inr (refl, no_kind_name k place (token word.Close place ∷ r)),
          word_there (word.KindDigit k) place (token word.Close place ∷ r),
          word_there word.Close place r,
        ),
      ),
      refl,
    )

-- ---- prefixes

abbrev of_prefix : Place → Prefix → List Item → List Item
of_prefix place prefix.Pure r = key keyword.Pure place ∷ r
of_prefix place prefix.Recursive r = key keyword.Recursive place ∷ r
of_prefix place (prefix.Typed (specifier.Integer k)) r = key keyword.Integer place ∷ integer_kind place k r
of_prefix place (prefix.Typed specifier.Logical) r = key keyword.Logical place ∷ r
of_prefix place (prefix.Typed (specifier.Derived n)) r = key keyword.Type place ∷ token word.Open place ∷ named n ∷ token word.Close place ∷ r

one_prefix : (place : Place) (x : Prefix) (r : List Item) → EatsPrefix x (of_prefix place x r) r
unfolding EatsPrefix EatsTyped EatsDerived
one_prefix place prefix.Pure r = (key keyword.Pure place, keyword.Pure, r, refl, refl, (refl, refl))
one_prefix place prefix.Recursive r = (key keyword.Recursive place, keyword.Recursive, r, refl, refl, (refl, refl))
one_prefix place (prefix.Typed (specifier.Integer k)) r =
    (key keyword.Integer place, keyword.Integer, integer_kind place k r, refl, refl, (specifier.Integer k, integer_there k place r, refl))
one_prefix place (prefix.Typed specifier.Logical) r = (key keyword.Logical place, keyword.Logical, r, refl, refl, (specifier.Logical, (refl, refl), refl))
one_prefix place (prefix.Typed (specifier.Derived n)) r =
    (key keyword.Type place, keyword.Type, token word.Open place ∷ named n ∷ token word.Close place ∷ r, refl, refl, (specifier.Derived n, (n, enclosed_name n place r, refl), refl))

starts_prefix : (place : Place) (x : Prefix) (r : List Item) → starts is_prefix (of_prefix place x r) ≡ true
starts_prefix place prefix.Pure r = refl
starts_prefix place prefix.Recursive r = refl
starts_prefix place (prefix.Typed (specifier.Integer k)) r = refl
starts_prefix place (prefix.Typed specifier.Logical) r = refl
starts_prefix place (prefix.Typed (specifier.Derived n)) r = refl

abbrev of_prefixes : Place → List Prefix → List Item → List Item
of_prefixes place [] r = r
of_prefixes place (x ∷ xs) r = of_prefix place x (of_prefixes place xs r)

prefixes_there : (place : Place) (xs : List Prefix) (r : List Item) → starts is_prefix r ≡ false → ArePrefixes xs (of_prefixes place xs r) r
unfolding ArePrefixes
prefixes_there place [] r none = (refl, none)
prefixes_there place (x ∷ xs) r none =
    (of_prefixes place xs r, starts_prefix place x (of_prefixes place xs r), one_prefix place x (of_prefixes place xs r), prefixes_there place xs r none)

-- the first token stands at the place
pub record At (place : Place) (ts : List Item) : Type 0 where
  pub first : Item
  pub tail : List Item
  pub is : ts ≡ first ∷ tail
  pub there : first.place ≡ place

prefix_at : (place : Place) (x : Prefix) (r : List Item) → At place (of_prefix place x r)
prefix_at place prefix.Pure r = record { first = key keyword.Pure place; tail = r; is = refl; there = refl }
prefix_at place prefix.Recursive r = record { first = key keyword.Recursive place; tail = r; is = refl; there = refl }
prefix_at place (prefix.Typed (specifier.Integer k)) r = record { first = key keyword.Integer place; tail = integer_kind place k r; is = refl; there = refl }
prefix_at place (prefix.Typed specifier.Logical) r = record { first = key keyword.Logical place; tail = r; is = refl; there = refl }
prefix_at place (prefix.Typed (specifier.Derived n)) r =
    record { first = key keyword.Type place; tail = token word.Open place ∷ named n ∷ token word.Close place ∷ r; is = refl; there = refl }

prefixes_at : (place : Place) (xs : List Prefix) (r : List Item) → At place r → At place (of_prefixes place xs r)
prefixes_at place [] r h = h
prefixes_at place (x ∷ xs) r h = prefix_at place x (of_prefixes place xs r)

abbrev if_set : Bool → Prefix → List Prefix → List Prefix
if_set true x xs = x ∷ xs
if_set false x xs = xs

abbrev if_some : Option TypeSpecifier → List Prefix
if_some None = []
if_some (Some s) = prefix.Typed s ∷ []

abbrev prefixes : Prefixes → List Prefix
prefixes p = if_set p.pure prefix.Pure (if_set p.recursive prefix.Recursive (if_some p.specifier))

abbrev together : Bool → Bool → Option TypeSpecifier → Prefixes
together pure recursive s = record { pure = pure; recursive = recursive; specifier = s }

all_together : (pure recursive : Bool) (s : Option TypeSpecifier) → with_prefixes no_prefix (prefixes (together pure recursive s)) ≡ Some (together pure recursive s)
all_together true true None = refl
all_together true true (Some s) = refl
all_together true false None = refl
all_together true false (Some s) = refl
all_together false true None = refl
all_together false true (Some s) = refl
all_together false false None = refl
all_together false false (Some s) = refl

prefixed : (place : Place) (p : Prefixes) (r : List Item) → starts is_prefix r ≡ false → EatsPrefixes p (of_prefixes place (prefixes p) r) r
unfolding EatsPrefixes
prefixed place p r none = (prefixes p, prefixes_there place (prefixes p) r none, all_together p.pure p.recursive p.specifier)

-- ---- dummies

abbrev of_others : Place → List Name → List Item → List Item
of_others place [] r = r
of_others place (n ∷ ns) r = token word.Comma place ∷ named n ∷ of_others place ns r

others_there : (place : Place) (ns : List Name) (r : List Item) → starts is_comma r ≡ false → EatsRun is_comma (Separated EatsName) ns (of_others place ns r) r
others_there place [] r none = (refl, none)
others_there place (n ∷ ns) r none =
    (token word.Comma place, named n ∷ of_others place ns r, of_others place ns r, refl, refl, name_there n (of_others place ns r), others_there place ns r none)

abbrev of_names : Place → List Name → List Item → List Item
of_names place [] r = r
of_names place (n ∷ ns) r = named n ∷ of_others place ns r

names_there : (place : Place) (ns : List Name) (r : List Item) → EatsNames ns (of_names place ns (token word.Close place ∷ r)) (token word.Close place ∷ r)
unfolding EatsNames AreNames
names_there place [] r = inr (refl, refl, refl)
names_there place (n ∷ ns) r =
    let rest = of_others place ns (token word.Close place ∷ r) in
    inl (refl, (n, ns, rest, refl, name_there n rest, others_there place ns (token word.Close place ∷ r) refl))

abbrev of_dummies : Place → List Name → List Item → List Item
of_dummies place ns r = token word.Open place ∷ of_names place ns (token word.Close place ∷ r)

dummies_there : (place : Place) (ns : List Name) (r : List Item) → EatsDummies ns (of_dummies place ns r) r
unfolding EatsDummies
dummies_there place ns r =
    let inner = of_names place ns (token word.Close place ∷ r) in
    (inner, token word.Close place ∷ r, word_there word.Open place inner, names_there place ns r, word_there word.Close place r)

-- ---- headers

abbrev of_result : Place → Option Name → List Item
of_result place None = []
of_result place (Some n) = key keyword.ResultWord place ∷ token word.Open place ∷ named n ∷ token word.Close place ∷ []

some_token : (i : Item) (ts : List Item) → [] ≡ i ∷ ts → ⊥
some_token i ts e = cc

result_there : (place : Place) (n : Option Name) → EatsResultPerhaps n (of_result place n) []
unfolding EatsResultPerhaps Lacks EatsWord
result_there place None = (refl, λ r h. some_token h.0 r h.1)
result_there place (Some n) =
    (token word.Open place ∷ named n ∷ token word.Close place ∷ [], (key keyword.ResultWord place, refl, refl), enclosed_name n place [])

abbrev of_kind : Place → ProcedureKind → Name → List Name → List Item
of_kind place Subroutine n ns = key keyword.Subroutine place ∷ named n ∷ of_dummies place ns []
of_kind place (Function s outcome) n ns = key keyword.Function place ∷ named n ∷ of_dummies place ns (of_result place outcome)

abbrev specifier_in : ProcedureKind → Option TypeSpecifier
specifier_in Subroutine = None
specifier_in (Function s outcome) = s

some_tokens : (i : Item) (ts : List Item) → i ∷ ts ≡ [] → ⊥
some_tokens i ts e = cc

abbrev header_of : Place → Bool → Bool → ProcedureKind → Name → List Name → HeaderTree
header_of place pure recursive kind n ns = record { place = place; pure = pure; recursive = recursive; kind = kind; name = n; dummies = ns }

kind_there : (place : Place) (pure recursive : Bool) (kind : ProcedureKind) (n : Name) (ns : List Name) → IsProcedureBehind place (together pure recursive (specifier_in kind)) (header_of place pure recursive kind n ns) (of_kind place kind n ns)
unfolding IsProcedureBehind IsSubroutine IsFunction IsDummiesPerhaps
kind_there place pure recursive Subroutine n ns =
    let behind = of_dummies place ns [] in
    let dummies = inr (some_tokens (token word.Open place) (of_names place ns (token word.Close place ∷ [])), dummies_there place ns []) in
    (key keyword.Subroutine place, keyword.Subroutine, named n ∷ behind, refl, refl, (n, ns, behind, refl, name_there n behind, dummies, refl))
kind_there place pure recursive (Function s outcome) n ns =
    let behind = of_dummies place ns (of_result place outcome) in (
      key keyword.Function place,
      keyword.Function,
      named n ∷ behind,
      refl,
      refl,
      (n, ns, outcome, behind, of_result place outcome, name_there n behind, dummies_there place ns (of_result place outcome), result_there place outcome, refl),
    )

no_prefix_there : (place : Place) (kind : ProcedureKind) (n : Name) (ns : List Name) → starts is_prefix (of_kind place kind n ns) ≡ false
no_prefix_there place Subroutine n ns = refl
no_prefix_there place (Function s outcome) n ns = refl

kind_at : (place : Place) (kind : ProcedureKind) (n : Name) (ns : List Name) → At place (of_kind place kind n ns)
kind_at place Subroutine n ns = record { first = key keyword.Subroutine place; tail = named n ∷ of_dummies place ns []; is = refl; there = refl }
kind_at place (Function s outcome) n ns = record { first = key keyword.Function place; tail = named n ∷ of_dummies place ns (of_result place outcome); is = refl; there = refl }

abbrev prefixes_of : HeaderTree → Prefixes
prefixes_of h = together h.pure h.recursive (specifier_in h.kind)

-- the tokens of a header
abbrev pub of_header : HeaderTree → List Item
of_header h = of_prefixes h.place (prefixes (prefixes_of h)) (of_kind h.place h.kind h.name h.dummies)

pub header_there : (h : HeaderTree) → IsHeader h.place h (of_header h)
unfolding IsHeader
header_there h =
    let behind = of_kind h.place h.kind h.name h.dummies in
    (prefixes_of h, behind, prefixed h.place (prefixes_of h) behind (no_prefix_there h.place h.kind h.name h.dummies), kind_there h.place h.pure h.recursive h.kind h.name h.dummies)

pub header_at : (h : HeaderTree) → At h.place (of_header h)
header_at h = prefixes_at h.place (prefixes (prefixes_of h)) (of_kind h.place h.kind h.name h.dummies) (kind_at h.place h.kind h.name h.dummies)
