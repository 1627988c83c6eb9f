-- Outputs and files, part by part.
use Rattle.std.proofs.Common.{◌≡◌, ℕ, Bool, List, [], ◌∷◌, ◌++◌, refl, sym, ap, subst, inl, inr, ◌∙◌, append-nil}
use Rattle.std.specs.Prelude.{Result, Ok, Err, OnOk, OnErr, String, string_bytes}
use Rattle.std.specs.Global.{Global}
use Rattle.std.specs.Io.KnownBytes.{Appends}
use Rattle.std.proofs.KnownBytes.{Appends-trans}
use Rattle.f3_graph.specs.declared.CheckFault.{CheckFault}
use Rattle.f3_graph.specs.declared.CheckFault.TheVariants as fault
use Rattle.f3_name_table.specs.Answers as table
use Rattle.f3_accepted.specs.Refusals.{Checks}
use Rattle.f3_places.specs.declared.source.Source.{Source}
use Rattle.f3_rules.specs.declared.refusal.Refusal.{Refusal}
use Rattle.f3_accepted.specs.Refusals.{First}
use Rattle.f3_program.specs.declared.program.Program.{Program}
use Rattle.f3_machine_laws.specs.RunAnswers.{Cut, Refuses}
use Rattle.f3_output.specs.Output.{State, Wrote, Faulted}
use Rattle.f3_output.proofs.Outputs.{wrote_none, wrote_more, faulted_behind, faulted_before}
use Rattle.f3_compile.specs.Compiles.{Means, ChecksAndLists}
use Rattle.f3_run.specs.declared.end.End.{End}
use Rattle.f3_run.specs.declared.end.End.TheVariants.{Done, Stopped, Error, StepLimit, WriteFault, Memory}
use Rattle.f3_run.specs.declared.end.Limits.{Limits}
use Rattle.f3_run.specs.Answers.{Answers}
use Rattle.f3_run.specs.Runs.{ChecksAndRuns}
use Rattle.f3_command.specs.declared.report.Outcome.TheVariants.{Ended}
use Rattle.f3_command.specs.Work.{AreAccepted, Accepts, Ran, Runs, Shows, Lists, Shown, outcome_of}

pub on_ok : {T E : Type 0} {P Q : Type 0} (r : Result T E) → (P → Q) → OnOk r P → OnOk r Q
on_ok (Ok x) f p = f p
on_ok (Err e) f p = p

pub on_err : {T E : Type 0} {P Q : Type 0} (r : Result T E) → (P → Q) → OnErr r P → OnErr r Q
on_err (Ok x) f p = p
on_err (Err e) f p = f p

-- a writer that hands on what it holds
pub wrote_on : {a b c : State} {x : List ℕ} → Wrote a b x → Wrote b c [] → Wrote a c x
wrote_on {x = x} p q = rw (sym (append-nil x)) (wrote_more p q)

pub faulted_on : {a b c : State} {x : List ℕ} → Wrote a b x → Faulted b c [] → Faulted a c x
faulted_on {x = x} p q = rw (sym (append-nil x)) (faulted_behind p q)

-- a writer that has refused before
faulted_kept : {a b c : State} {x : List ℕ} → Faulted a b x → Wrote b c [] → Faulted a c x
faulted_kept {a} {b} {c} f w = record {
  front = f.front;
  rest = f.rest;
  whole = f.whole;
  appended = subst (λ l. Appends a.bytes c.bytes l) (append-nil f.front) (Appends-trans a.bytes b.bytes c.bytes f.front [] f.appended w.appended);
  refused = w.same ∙ f.refused;
}

no_front : (front rest : List ℕ) → [] ≡ front ++ rest → front ≡ []
no_front [] rest e = refl
no_front (x ∷ xs) rest e = absurd cc

faulted_again : {a b c : State} {x : List ℕ} → Faulted a b x → Faulted b c [] → Faulted a c x
faulted_again {a} {b} {c} f g = record {
  front = f.front;
  rest = f.rest;
  whole = f.whole;
  appended = subst (λ l. Appends a.bytes c.bytes l) (ap (λ l. f.front ++ l) (no_front g.front g.rest g.whole) ∙ append-nil f.front) (Appends-trans a.bytes b.bytes c.bytes f.front g.front f.appended g.appended);
  refused = g.refused;
}

-- what was written until an instruction, handed on
cut_on : (size : ℕ) (p : Program) (answers : ℕ → Bool) (k : ℕ) (a b c : State) → Cut size p answers k a b → Wrote b c [] → Cut size p answers k a c
cut_on size p answers k a b c h w = record { so_far = record { goes_on = h.so_far.goes_on; wrote = wrote_on h.so_far.wrote w }; begins = h.begins }

-- an answer of a run stays one when the output is handed on
pub handed_on : (p : Program) (limits : Limits) (a b c : State) (end : End) → Answers p limits a b end → Wrote b c [] → Answers p limits a c end
handed_on p limits a b c Done h w = (h.0, h.1, (record { turns = h.2.0.turns; ends = h.2.0.ends; wrote = wrote_on h.2.0.wrote w }, h.2.1))
handed_on p limits a b c (Stopped code) h w = (h.0, h.1, (record { turns = h.2.0.turns; ends = h.2.0.ends; wrote = wrote_on h.2.0.wrote w }, h.2.1))
handed_on p limits a b c (Error error place) h w = (h.0, h.1, (record { turns = h.2.0.turns; ends = h.2.0.ends; wrote = wrote_on h.2.0.wrote w }, h.2.1))
handed_on p limits a b c StepLimit h w = (h.0, h.1, cut_on limits.heap_words p h.0 limits.steps a b c h.2 w)
handed_on p limits a b c WriteFault h w = (h.0, h.1, record { turns = h.2.turns; faulted = faulted_kept h.2.faulted w })
handed_on p limits a b c Memory h w = (h.0, h.1, (h.2.0, h.2.1, cut_on limits.heap_words p h.0 h.2.0 a b c h.2.2 w))

cut_off : (size : ℕ) (p : Program) (answers : ℕ → Bool) (k : ℕ) (a b c : State) → Cut size p answers k a b → Faulted b c [] → Refuses p answers a c
cut_off size p answers k a b c h f = record { turns = h.begins.turns; faulted = rw h.begins.whole (faulted_before h.begins.more (faulted_on h.so_far.wrote f)) }

-- and is a write fault where the writer refuses then
pub not_handed_on : (p : Program) (limits : Limits) (a b c : State) (end : End) → Answers p limits a b end → Faulted b c []
    → Answers p limits a c WriteFault
not_handed_on p limits a b c Done h f = (h.0, h.1, record { turns = h.2.0.turns; faulted = faulted_on h.2.0.wrote f })
not_handed_on p limits a b c (Stopped code) h f = (h.0, h.1, record { turns = h.2.0.turns; faulted = faulted_on h.2.0.wrote f })
not_handed_on p limits a b c (Error error place) h f = (h.0, h.1, record { turns = h.2.0.turns; faulted = faulted_on h.2.0.wrote f })
not_handed_on p limits a b c StepLimit h f = (h.0, h.1, cut_off limits.heap_words p h.0 limits.steps a b c h.2 f)
not_handed_on p limits a b c WriteFault h f = (h.0, h.1, record { turns = h.2.turns; faulted = faulted_again h.2.faulted f })
not_handed_on p limits a b c Memory h f = (h.0, h.1, cut_off limits.heap_words p h.0 h.2.0 a b c h.2.2 f)

-- sources whose program has a meaning are accepted
accepted_by : (sources : List Source) (p : Program) → Means sources p → ((refusal : Refusal) → First sources refusal → ⊥) → AreAccepted sources
accepted_by sources p m never = record { tree = m.tree; accepted = m.accepted; never = never }

-- what runs answer, memory wanting among it
pub runs_so : (sources : List Source) (limits : Limits) (a b : State) (end : End) → Ran sources limits a b end → Runs sources limits a b (Ended end)
runs_so sources limits a b Done h = h
runs_so sources limits a b (Stopped code) h = h
runs_so sources limits a b (Error error place) h = h
runs_so sources limits a b StepLimit h = h
runs_so sources limits a b WriteFault h = h
runs_so sources limits a b Memory h = inr h

-- a run whose output is handed on
pub ran_so : (sources : List Source) (limits : Limits) (a b c : State) (e end : End) → ChecksAndRuns sources limits a b (Ok e)
    → ((p : Program) (limits : Limits) (before : State) → Answers p limits before b e → Answers p limits before c end) → Runs sources limits a c (Ended end)
ran_so sources limits a b c e end h on =
    runs_so sources limits a c end (accepted_by sources h.0 h.1 h.2, h.0, h.1, on h.0 limits a h.3)

-- sources that are refused, or memory wanting before a run
pub not_run : (sources : List Source) (limits : Limits) (a b : State) (f : CheckFault) → ChecksAndRuns sources limits a b (Err f)
    → Runs sources limits a b (outcome_of f)
not_run sources limits a b (fault.Refused refusal) h = h
not_run sources limits a b fault.Memory h = inl h

-- the text of code that is shown
pub lists_so : (sources : List Source) (text : String Global) (a b : State) (end : End) → ChecksAndLists sources (Ok text) → Shown a b (string_bytes text) end
    → Lists sources a b (Ended end)
lists_so sources text a b Done h w = (text, (accepted_by sources h.0 h.1 h.2, h.0, h.1, h.3), w)
lists_so sources text a b (Stopped code) h w = absurd w
lists_so sources text a b (Error error place) h w = absurd w
lists_so sources text a b StepLimit h w = absurd w
lists_so sources text a b WriteFault h w = (text, (accepted_by sources h.0 h.1 h.2, h.0, h.1, h.3), w)
lists_so sources text a b Memory h w = absurd w

-- a fault of the code, with nothing written
pub not_listed : (sources : List Source) (s : State) (f : CheckFault) → ChecksAndLists sources (Err f) → Lists sources s s (outcome_of f)
not_listed sources s (fault.Refused refusal) h = (h, wrote_none)
not_listed sources s fault.Memory h = wrote_none

-- the table of names that is shown
pub shows_so : (sources : List Source) (text : String Global) (a b : State) (end : End) → table.Answers (Ok text) sources → Shown a b (string_bytes text) end → Shows sources a b (Ended end)
shows_so sources text a b Done is w = (text, is, w)
shows_so sources text a b (Stopped code) is w = absurd w
shows_so sources text a b (Error error place) is w = absurd w
shows_so sources text a b StepLimit is w = absurd w
shows_so sources text a b WriteFault is w = (text, is, w)
shows_so sources text a b Memory is w = absurd w

-- a fault of the table of names, with nothing written
pub fault_so : (sources : List Source) (s : State) (f : CheckFault) → table.Answers (Err f) sources → Shows sources s s (outcome_of f)
fault_so sources s (fault.Refused refusal) is = (is, wrote_none)
fault_so sources s fault.Memory is = wrote_none

-- sources that the check refuses
pub refused_so : (sources : List Source) (f : CheckFault) → Checks (Err f) sources → Accepts sources (Err f)
refused_so sources (fault.Refused refusal) h = record { first = h.0; never = h.1 }
refused_so sources fault.Memory h = tt
