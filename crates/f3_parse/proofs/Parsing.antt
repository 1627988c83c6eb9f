-- The parser's way along the statements of sources.
use Rattle.std.proofs.Common.{◌≡◌, ℕ, List, [], ◌∷◌, ◌++◌, length, Option, Some, None, ◌⊎◌, inl, inr, refl, sym, ap, subst, ◌∙◌, append_assoc, Result, Ok, Err}
use Rattle.std.proofs.lemmas.List.{append-nil}
use Rattle.f3_places.specs.declared.source.Place.{Place}
use Rattle.f3_places.specs.declared.source.Source.{Source}
use Rattle.f3_rules.specs.declared.breaks.Break.{Break}
use Rattle.f3_rules.specs.declared.refusal.Refusal.{Refusal}
use Rattle.f3_rules.specs.declared.rule.Rule.TheVariants.{S7}
use Rattle.f3_rules.specs.Least.{Least}
use Rattle.f3_text.specs.Statements.{Spelled, Parts, nothing, faulty, with_first}
use Rattle.f3_text.specs.Reader.{bytes_of, Tells}
use Rattle.f3_text.specs.declared.statement.TextFault.{TextFault}
use Rattle.f3_text.specs.declared.statement.TextFault.TheVariants.{Refused, Memory}
use Rattle.f3_tree.specs.declared.program.Program.{Program}
use Rattle.f3_tree.specs.Tree.{Tree, UnitTree, view}
use Rattle.f3_words.specs.Lines.{Line, Seen, nothing_seen, broken, line_of, seen_over, lines_of, seen_in}
use Rattle.f3_units.specs.Machine.{Begun, State, start}
use Rattle.f3_parse.specs.Phase.{HaveForms, BreaksBehind, BreaksOf}
use Rattle.f3_parse.specs.Spells.{ends_of, last_end, parts_of_sources, Spells, Parses}
use Rattle.f3_parse.specs.Inner.Steps.{GoesOnAt, GoesTo, LeavesOpen, Stops, Goes, EndsText, Finishes}
use Rattle.f3_parse.proofs.Fronts.{SoFar, begins, one_more, least_behind, least_statement, least_left, least_left_fault, least_text, least_end, no_break, not_spelled, all_spelled, only_spelled}

-- what was read, and what is left
pub record Progress (parts : Parts) (seen : Seen) (s : State) (left : Parts) : Type 0 where
  pub front : List Line
  pub cut : lines_of nothing_seen parts.statements ≡ front ++ lines_of seen left.statements
  pub fault : parts.fault ≡ left.fault
  pub numbered : seen_in nothing_seen parts.statements ≡ seen_in seen left.statements
  pub so : SoFar front s

pub at_start : (parts : Parts) → Progress parts nothing_seen start parts
at_start parts = record { front = []; cut = refl; fault = refl; numbered = refl; so = begins }

pub begun : (parts left : Parts) (seen : Seen) (s : State) → seen ≡ nothing_seen → s ≡ start → left ≡ parts → Progress parts seen s left
begun parts left seen s none fresh whole =
    subst (λ (x : Seen). Progress parts x s left) (sym none) (subst (λ (x : State). Progress parts nothing_seen x left) (sym fresh) (subst (λ (x : Parts). Progress parts nothing_seen start x) (sym whole) (at_start parts)))

first_statements : (sp : Spelled) (behind : Parts) → (with_first sp behind).statements ≡ sp ∷ behind.statements
unfolding with_first
first_statements sp behind = refl

first_fault : (sp : Spelled) (behind : Parts) → (with_first sp behind).fault ≡ behind.fault
unfolding with_first
first_fault sp behind = refl

faulty_statements : (t : Break) → (faulty t).statements ≡ []
unfolding faulty
faulty_statements t = refl

faulty_fault : (t : Break) → (faulty t).fault ≡ Some t
unfolding faulty
faulty_fault t = refl

nothing_statements : nothing.statements ≡ []
unfolding nothing
nothing_statements = refl

nothing_fault : nothing.fault ≡ None
unfolding nothing
nothing_fault = refl

abbrev statements_of : Parts → List Spelled
statements_of p = p.statements

abbrev fault_in : Parts → Option Break
fault_in p = p.fault

-- the statements that are left get fewer
pub fewer : (left behind : Parts) (sp : Spelled) → left ≡ with_first sp behind → length left.statements ≡ length (sp ∷ behind.statements)
fewer left behind sp is = ap (λ (p : Parts). length (statements_of p)) is ∙ ap length (first_statements sp behind)

ahead : (seen : Seen) (left behind : Parts) (sp : Spelled) → left ≡ with_first sp behind → lines_of seen left.statements ≡ line_of seen sp ∷ lines_of (seen_over seen sp) behind.statements
ahead seen left behind sp is = ap (λ (p : Parts). lines_of seen (statements_of p)) is ∙ ap (lines_of seen) (first_statements sp behind)

pub goes : (parts left behind : Parts) (seen next : Seen) (sp : Spelled) (s t : State) (l : Line) → Progress parts seen s left → left ≡ with_first sp behind → l ≡ line_of seen sp → next ≡ seen_over seen sp
    → GoesTo s l t → Progress parts next t behind
goes parts left behind seen next sp s t l p is line over on = record {
  front = p.front ++ l ∷ [];
  cut = p.cut
      ∙ ap (λ (x : List Line). p.front ++ x) (ahead seen left behind sp is)
      ∙ ap (λ (x : Line). p.front ++ x ∷ lines_of (seen_over seen sp) behind.statements) (sym line)
      ∙ ap (λ (x : Seen). p.front ++ l ∷ lines_of x behind.statements) (sym over)
      ∙ sym (append_assoc p.front (l ∷ []) (lines_of next behind.statements));
  fault = p.fault ∙ ap fault_in is ∙ first_fault sp behind;
  numbered = p.numbered
      ∙ ap (λ (x : Parts). seen_in seen (statements_of x)) is
      ∙ ap (seen_in seen) (first_statements sp behind)
      ∙ ap (λ (x : Seen). seen_in x behind.statements) (sym over);
  so = one_more p.front s t l p.so on;
}

-- what breaks behind what was read, and that it is first
record Breaks (ends : ℕ → Place) (parts : Parts) (s : State) (b : Break) : Type 0 where
  front : List Line
  rest : List Line
  so : SoFar front s
  cut : lines_of nothing_seen parts.statements ≡ front ++ rest
  least : Least (Some b) (BreaksBehind ends so.forms rest parts.fault)

abbrev IsLeast : (ℕ → Place) → Parts → Break → Type 0
IsLeast ends parts b = Least (Some b) (BreaksOf ends (lines_of nothing_seen parts.statements) parts.fault)

is_least : (ends : ℕ → Place) (parts : Parts) (s : State) (b : Break) → Breaks ends parts s b → IsLeast ends parts b
is_least ends parts s b h = least_behind ends (lines_of nothing_seen parts.statements) h.front h.rest parts.fault s h.so b h.cut h.least

refuses : (sources : List Source) (s : State) (b : Break) (r : Refusal) → Breaks (ends_of (bytes_of sources)) (parts_of_sources sources) s b → Tells r b → Parses (Err (Refused r)) sources
refuses sources s b r h tells = (
  (b, is_least (ends_of (bytes_of sources)) (parts_of_sources sources) s b h, tells),
  λ t sp. not_spelled (ends_of (bytes_of sources)) (lines_of nothing_seen (parts_of_sources sources).statements) h.front h.rest (parts_of_sources sources).fault s h.so b h.cut h.least.as_said.0 sp.forms sp.have (t.units, sp.units) sp.shallow sp.no_fault,
)

-- a statement that stops
stops_breaks : (ends : ℕ → Place) (parts left behind : Parts) (seen : Seen) (sp : Spelled) (s : State) (l : Line) (b : Break) → Progress parts seen s left → left ≡ with_first sp behind → l ≡ line_of seen sp → Stops ends s l b → Breaks ends parts s b
stops_breaks ends parts left behind seen sp s l b p is line stops = record {
  front = p.front;
  rest = l ∷ lines_of (seen_over seen sp) behind.statements;
  so = p.so;
  cut = p.cut ∙ ap (λ (x : List Line). p.front ++ x) (ahead seen left behind sp is ∙ ap (λ (x : Line). x ∷ lines_of (seen_over seen sp) behind.statements) (sym line));
  least = by stops;
}
  where
    by : Stops ends s l b → Least (Some b) (BreaksBehind ends p.so.forms (l ∷ lines_of (seen_over seen sp) behind.statements) parts.fault)
    by (inl h) = least_statement ends p.front (lines_of (seen_over seen sp) behind.statements) l parts.fault s p.so b h.0 h.1
    by (inr h) = subst (λ (x : Break). Least (Some x) (BreaksBehind ends p.so.forms (l ∷ lines_of (seen_over seen sp) behind.statements) parts.fault)) (sym h.3) (least_left ends p.front (lines_of (seen_over seen sp) behind.statements) l parts.fault s p.so h.0 h.1 h.2)

pub stops : (sources : List Source) (left behind : Parts) (seen : Seen) (sp : Spelled) (s : State) (l : Line) (b : Break) (r : Refusal) → Progress (parts_of_sources sources) seen s left → left ≡ with_first sp behind → l ≡ line_of seen sp
    → Stops (ends_of (bytes_of sources)) s l b → Tells r b → Parses (Err (Refused r)) sources
stops sources left behind seen sp s l b r p is line stop tells = refuses sources s b r (stops_breaks (ends_of (bytes_of sources)) (parts_of_sources sources) left behind seen sp s l b p is line stop) tells

pub stops_with : (sources : List Source) (left behind : Parts) (seen : Seen) (sp : Spelled) (s t : State) (l : Line) (fault : TextFault) → Progress (parts_of_sources sources) seen s left → left ≡ with_first sp behind → l ≡ line_of seen sp
    → Goes {U = Unit {0}} (ends_of (bytes_of sources)) (Err fault) s t l → Parses (Err fault) sources
stops_with sources left behind seen sp s t l (Refused r) p is line h = stops sources left behind seen sp s l h.0 r p is line h.2 h.1
stops_with sources left behind seen sp s t l Memory p is line h = tt

-- a fault of the text
nothing_ahead : (parts : Parts) (seen : Seen) (s : State) (left : Parts) (p : Progress parts seen s left) → left.statements ≡ [] → lines_of nothing_seen parts.statements ≡ p.front ++ []
nothing_ahead parts seen s left p none = p.cut ∙ ap (λ (x : List Spelled). p.front ++ lines_of seen x) none

text_breaks : (ends : ℕ → Place) (parts left : Parts) (seen : Seen) (s : State) (t b : Break) → Progress parts seen s left → left ≡ faulty t → ((GoesOnAt s (t.place).file × (b ≡ t)) ⊎ LeavesOpen ends s (t.place).file b) → Breaks ends parts s b
text_breaks ends parts left seen s t b p is stop = record {
  front = p.front;
  rest = [];
  so = p.so;
  cut = nothing_ahead parts seen s left p (ap statements_of is ∙ faulty_statements t);
  least = subst (λ (x : Option Break). Least (Some b) (BreaksBehind ends p.so.forms [] x)) (sym (p.fault ∙ ap fault_in is ∙ faulty_fault t)) (by stop);
}
  where
    by : ((GoesOnAt s (t.place).file × (b ≡ t)) ⊎ LeavesOpen ends s (t.place).file b) → Least (Some b) (BreaksBehind ends p.so.forms [] (Some t))
    by (inl h) = subst (λ (x : Break). Least (Some x) (BreaksBehind ends p.so.forms [] (Some t))) (sym h.1) (least_text ends p.front t s p.so h.0)
    by (inr h) = subst (λ (x : Break). Least (Some x) (BreaksBehind ends p.so.forms [] (Some t))) (sym h.3) (least_left_fault ends p.front t s p.so h.0 h.1 h.2)

pub stops_text : (sources : List Source) (left : Parts) (seen : Seen) (s : State) (t : Break) (r : Refusal) → Progress (parts_of_sources sources) seen s left → left ≡ faulty t → EndsText (ends_of (bytes_of sources)) r s t → Parses (Err (Refused r)) sources
stops_text sources left seen s t r p is h = refuses sources s h.0 r (text_breaks (ends_of (bytes_of sources)) (parts_of_sources sources) left seen s t h.0 p is h.2) h.1

-- the end of the sources
end_breaks : (ends : ℕ → Place) (parts left : Parts) (seen : Seen) (s : State) (u : Begun) → Progress parts seen s left → left ≡ nothing → s.unit ≡ Some u → Breaks ends parts s (broken S7 (ends u.file))
end_breaks ends parts left seen s u p is at_unit = record {
  front = p.front;
  rest = [];
  so = p.so;
  cut = nothing_ahead parts seen s left p (ap statements_of is ∙ nothing_statements);
  least = subst (λ (x : Option Break). Least (Some (broken S7 (ends u.file))) (BreaksBehind ends p.so.forms [] x)) (sym (p.fault ∙ ap fault_in is ∙ nothing_fault)) (least_end ends p.front s p.so u at_unit);
}

tree_is : (t : Tree) (seen : Seen) (units : List UnitTree) (end : Place) → t.names ≡ seen.names → t.texts ≡ seen.texts → t.units ≡ units → t.end ≡ end → t ≡ record { names = seen.names; texts = seen.texts; units = units; end = end }
tree_is t seen units end a d b c =
    ap (λ (x : List (List ℕ)). record { names = x; texts = t.texts; units = t.units; end = t.end }) a
    ∙ ap (λ (x : List (List ℕ)). record { names = seen.names; texts = x; units = t.units; end = t.end }) d
    ∙ ap (λ (x : List UnitTree). record { names = seen.names; texts = seen.texts; units = x; end = t.end }) b
    ∙ ap (λ (x : Place). record { names = seen.names; texts = seen.texts; units = units; end = x }) c

abbrev names_of : Seen → List (List ℕ)
names_of seen = seen.names

abbrev texts_of : Seen → List (List ℕ)
texts_of seen = seen.texts

abbrev done_of : State → List UnitTree
done_of s = s.done

finished : (sources : List Source) (left : Parts) (seen : Seen) (s : State) (p : Program) → Progress (parts_of_sources sources) seen s left → left ≡ nothing → s.unit ≡ None → view p ≡ record { names = seen.names; texts = seen.texts; units = s.done; end = last_end (bytes_of sources) } → Parses (Ok p) sources
finished sources left seen s p way is none viewed = (
  subst (λ (t : Tree). Spells t sources) (sym viewed) spelled,
  λ t sp. tree_is t seen s.done (last_end (bytes_of sources)) (sp.names ∙ ap names_of numbered) (sp.texts ∙ ap texts_of numbered) (sym (ap done_of (only_spelled way.front s t.units sp.forms way.so (subst (λ (x : List Line). HaveForms sp.forms x) lines sp.have) sp.units))) sp.end ∙ sym viewed,
  λ b h. no_break (ends_of (bytes_of sources)) way.front s way.so none b (subst (λ (x : Option Break). BreaksOf (ends_of (bytes_of sources)) way.front x b) fault (subst (λ (x : List Line). BreaksOf (ends_of (bytes_of sources)) x (parts_of_sources sources).fault b) lines h)),
)
  where
    lines : lines_of nothing_seen (parts_of_sources sources).statements ≡ way.front
    lines = nothing_ahead (parts_of_sources sources) seen s left way (ap statements_of is ∙ nothing_statements) ∙ append-nil way.front

    fault : (parts_of_sources sources).fault ≡ None
    fault = way.fault ∙ ap fault_in is ∙ nothing_fault

    numbered : seen_in nothing_seen (parts_of_sources sources).statements ≡ seen
    numbered = way.numbered ∙ ap (seen_in seen) (ap statements_of is ∙ nothing_statements)

    spelled : Spells (record { names = seen.names; texts = seen.texts; units = s.done; end = last_end (bytes_of sources) }) sources
    spelled = record {
      forms = way.so.forms;
      no_fault = fault;
      have = subst (λ (x : List Line). HaveForms way.so.forms x) (sym lines) way.so.have;
      units = all_spelled way.front s way.so none;
      shallow = way.so.shallow;
      names = sym (ap names_of numbered);
      texts = sym (ap texts_of numbered);
      end = refl;
    }

pub finishes : (sources : List Source) (left : Parts) (seen : Seen) (s : State) (result : Result Program TextFault) → Progress (parts_of_sources sources) seen s left → left ≡ nothing → Finishes (bytes_of sources) result s seen → Parses result sources
finishes sources left seen s (Ok p) way is h = finished sources left seen s p way is h.0 h.1
finishes sources left seen s (Err (Refused r)) way is h = refuses sources s (broken S7 (ends_of (bytes_of sources) h.0.file)) r (end_breaks (ends_of (bytes_of sources)) (parts_of_sources sources) left seen s h.0 way is h.1) h.2
finishes sources left seen s (Err Memory) way is h = absurd h
