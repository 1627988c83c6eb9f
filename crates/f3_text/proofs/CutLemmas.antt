-- A cut, one statement more.
use Rattle.std.proofs.Common.{◌≡◌, ◌<◌, length, map, List, [], ◌∷◌, ◌++◌, Option, None, Some, sym, ap, ◌∙◌, arith, append_assoc, append-nil, Result, Ok, Err}
use Rattle.std.proofs.lemmas.List.{map-append}
use Rattle.f3_rules.specs.declared.breaks.Break.{Break}
use Rattle.f3_rules.specs.declared.refusal.Refusal.{Refusal}
use Rattle.f3_text.specs.declared.statement.RawStatement.{RawStatement}
use Rattle.f3_text.specs.Statements.{Spelled, Parts, faulty, with_first}
use Rattle.f3_text.specs.Reader.{Tells, spelled_of, Nexts}
use Rattle.f3_text.specs.Cutting.{IsFault, IsCutShort, CutsTo}
use Rattle.std.specs.declared.alloc.AllocError.{AllocError}
use Rattle.f3_text.specs.declared.statement.Cut.{Cut}
use Rattle.f3_text.specs.declared.statement.TextFault.{TextFault}
use Rattle.f3_text.specs.declared.statement.TextFault.TheVariants.{Refused, Memory}

pub one_more : (ss tt' : List RawStatement) (s : RawStatement) (o n : Parts) (whole : List Spelled) → tt' ≡ ss ++ s ∷ [] → o ≡ with_first (spelled_of s) n → map spelled_of ss ++ o.statements ≡ whole → map spelled_of tt' ++ n.statements ≡ whole
unfolding with_first
one_more ss tt' s o n whole e f h =
    ap (λ (t : List RawStatement). map spelled_of t ++ n.statements) e
    ∙ ap (λ (t : List Spelled). t ++ n.statements) (map-append spelled_of ss (s ∷ []))
    ∙ append_assoc (map spelled_of ss) (spelled_of s ∷ []) n.statements
    ∙ ap (λ (p : Parts). map spelled_of ss ++ p.statements) (sym f)
    ∙ h

pub fewer : (s : Spelled) (o n : Parts) → o ≡ with_first s n → length n.statements < length o.statements
unfolding with_first
fewer s o n e = rw e (omega arith)

pub same_fault : (s : Spelled) (o n : Parts) (f : Option Break) → o ≡ with_first s n → o.fault ≡ f → n.fault ≡ f
unfolding with_first
same_fault s o n f e h = ap (λ (p : Parts). p.fault) (sym e) ∙ h

pub none_more : (ss : List RawStatement) (o : Parts) (whole : List Spelled) → o.statements ≡ [] → map spelled_of ss ++ o.statements ≡ whole → map spelled_of ss ≡ whole
none_more ss o whole e h = sym (append-nil (map spelled_of ss)) ∙ ap (λ (t : List Spelled). map spelled_of ss ++ t) (sym e) ∙ h

pub no_fault : (f : Option Break) → f ≡ None → IsFault None f
no_fault f e = rw e tt

pub that_fault : (r : Refusal) (b : Break) (f : Option Break) → f ≡ Some b → Tells r b → IsFault (Some r) f
that_fault r b f e h = rw e h

pub cut_short : (r : Result Cut AllocError) (ss : List RawStatement) (e : TextFault) (o n w : Parts) → IsCutShort r ss e → Nexts (Err e) o n → map spelled_of ss ++ o.statements ≡ w.statements → o.fault ≡ w.fault → CutsTo r w
unfolding faulty
cut_short (Ok c) ss (Refused r) o n w h k p q = record {
  statements = ap (map spelled_of) h.0 ∙ none_more ss o w.statements (ap (λ (p : Parts). p.statements) k.2) p;
  fault = by c.fault h.1;
}
  where
    by : (f : Option Refusal) → f ≡ Some r → IsFault f w.fault
    by f e = rw e (that_fault r k.0 w.fault (sym q ∙ ap (λ (p : Parts). p.fault) k.2) k.1)
cut_short (Ok c) ss Memory o n w h k p q = absurd h
cut_short (Err x) ss e o n w h k p q = tt
