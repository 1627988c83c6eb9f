-- Bytes that are written part by part.
use Rattle.std.proofs.Common.{◌≡◌, ℕ, ◌-◌, List, [], ◌++◌, length, take, drop, true, refl, sym, ap, ◌∙◌, append_assoc, append-nil, arith}
use Rattle.std.specs.Prelude.{◌==◌}
use Rattle.std.specs.Io.KnownBytes.{Keeps}
use Rattle.std.proofs.KnownBytes.{Appends-nil, Appends-trans, Appends-kept}
use Rattle.std.proofs.lemmas.Bool.{eqb-true}
use Rattle.std.proofs.lemmas.List.{take-append-drop, take_all, length-drop, nil_from_length}
use Rattle.f3_output.specs.Output.{State, Wrote, Faulted}

pub wrote_none : {a : State} → Wrote a a []
wrote_none {a} = record { appended = Appends-nil a.bytes; same = refl }

pub wrote_kept : {a b : State} → Keeps a.bytes b.bytes → b.refused ≡ a.refused → Wrote a b []
wrote_kept {a} {b} kept same = record { appended = Appends-kept a.bytes a.bytes b.bytes [] (Appends-nil a.bytes) kept; same = same }

pub wrote_more : {a b c : State} {x y : List ℕ} → Wrote a b x → Wrote b c y → Wrote a c (x ++ y)
wrote_more {a} {b} {c} {x} {y} p q = record { appended = Appends-trans a.bytes b.bytes c.bytes x y p.appended q.appended; same = q.same ∙ p.same }

-- bytes that were written, and then a front of more
pub faulted_behind : {a b c : State} {x y : List ℕ} → Wrote a b x → Faulted b c y → Faulted a c (x ++ y)
faulted_behind {a} {b} {c} {x} {y} p q = record {
  front = x ++ q.front;
  rest = q.rest;
  whole = ap (λ l. x ++ l) q.whole ∙ sym (append_assoc x q.front q.rest);
  appended = Appends-trans a.bytes b.bytes c.bytes x q.front p.appended q.appended;
  refused = q.refused;
}

-- a front of bytes is one of more bytes
pub faulted_before : {a b : State} {x : List ℕ} (y : List ℕ) → Faulted a b x → Faulted a b (x ++ y)
faulted_before y q = record {
  front = q.front;
  rest = q.rest ++ y;
  whole = ap (λ l. l ++ y) q.whole ∙ append_assoc q.front q.rest y;
  appended = q.appended;
  refused = q.refused;
}

-- of these bytes a front was written, and this is left
pub record Written (old new : State) (bytes rest : List ℕ) : Type 0 where
  pub front : List ℕ
  pub whole : bytes ≡ front ++ rest
  pub wrote : Wrote old new front

pub none_written : (a : State) (bytes : List ℕ) → Written a a bytes bytes
none_written a bytes = record { front = []; whole = refl; wrote = wrote_none }

-- some more bytes, and what is left then as a range of a slice says it
pub more_written : {a b c : State} {bytes rest : List ℕ} (n : ℕ) → Written a b bytes rest → Wrote b c (take n rest) → Written a c bytes (take (length rest - n) (drop n rest))
more_written {bytes = bytes} {rest = rest} n w more =
    let left : take (length rest - n) (drop n rest) ≡ drop n rest = take_all _ _ (omega (arith, length-drop n rest)) in
    record {
      front = w.front ++ take n rest;
      whole = w.whole ∙ ap (λ l. w.front ++ l) (sym (take-append-drop n rest)) ∙ sym (append_assoc w.front (take n rest) (drop n rest)) ∙ ap (λ l. w.front ++ take n rest ++ l) (sym left);
      wrote = wrote_more w.wrote more;
    }

-- nothing is left
pub all_written : {a b : State} {bytes rest : List ℕ} → (length rest == 0) ≡ true → Written a b bytes rest → Wrote a b bytes
all_written {bytes = bytes} {rest = rest} empty w =
    let none : rest ≡ [] = nil_from_length rest (eqb-true (length rest) 0 empty) in
    let all : bytes ≡ w.front = w.whole ∙ ap (λ l. w.front ++ l) none ∙ append-nil w.front in
    rw all w.wrote

-- no more is written, and the writer has refused
pub written_front : {a b c : State} {bytes rest : List ℕ} → Written a b bytes rest → Keeps b.bytes c.bytes → c.refused ≡ true → Faulted a c bytes
written_front {a} {b} {c} {rest = rest} w kept refused = record { front = w.front; rest = rest; whole = w.whole; appended = Appends-kept a.bytes b.bytes c.bytes w.front w.wrote.appended kept; refused = refused }
