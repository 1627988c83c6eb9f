-- The Core of a program has its run.
use Rattle.std.proofs.Common.{◌≡◌, ℕ, zero, suc, Bool, List, [], ◌∷◌, refl, ap, ◌∙◌}
use Rattle.std.specs.Prelude.{⊤, map, slice_get}
use Rattle.std.proofs.Math.Path.{fun_ext}
use Rattle.f3_program.specs.declared.program.Procedure.{Procedure}
use Rattle.f3_program.specs.declared.program.Program.{Program}
use Rattle.f3_meaning_whole.specs.Ran.{Outcome, Ran}
use Rattle.f3_meaning_whole.specs.Act.{Here, Passed, Calls}
use Rattle.f3_meaning_whole.specs.Run.{call_of, calls_of, setting_of, main_of, first_here, first_world, runs, run_of}
use Rattle.f3_code.specs.CoreRun.{core_calls, core_main, core_runs, core_run_of}
use Rattle.f3_code.specs.CoreRun as core
use Rattle.f3_code.specs.Lower.{lowered_procedure, lowered_program}
use Rattle.f3_lower_laws.proofs.Expressions.{bare}
use Rattle.f3_lower_laws.proofs.Runs.{bind_same, then_same}
use Rattle.f3_lower_laws.proofs.Statements.{table, exec_same, called_same}

procedure_same : (p : Program) (n : ℕ) (calls : Calls) (qs : List Procedure) (f : ℕ) (ps : List Passed) (here : Here) →
    core.call_of (bare p) n (table p) calls (slice_get (map (lowered_procedure (setting_of p)) qs) f) ps here
    ≡ call_of (setting_of p) n calls (slice_get qs f) ps here
procedure_same p n calls [] f ps here = refl
procedure_same p n calls (q ∷ qs) zero ps here = called_same p n calls q ps here
procedure_same p n calls (q ∷ qs) (suc f) ps here = procedure_same p n calls qs f ps here

calls_same : (p : Program) (n depth : ℕ) → core_calls depth (lowered_program p) n ≡ calls_of depth (setting_of p) n
unfolding core_calls calls_of
calls_same p n zero = refl
calls_same p n (suc depth) = fun_ext (λ here. fun_ext (λ f. fun_ext (λ ps.
    ap (λ (calls : Calls). core.call_of (bare p) n (table p) calls (slice_get (map (lowered_procedure (setting_of p)) p.procedures.items) f) ps here)
    (calls_same p n depth)
    ∙ procedure_same p n (calls_of depth (setting_of p) n) p.procedures.items f ps here)))

main_same : (p : Program) (n : ℕ) (calls : Calls) (here : Here) → core_main (lowered_program p) n calls here ≡ main_of (setting_of p) n calls here
main_same p n calls here = then_same _ (λ done. then_same _ (λ done. bind_same (exec_same p n calls p.main.body here) (λ flow. refl)))

runs_same : (depth : ℕ) (p : Program) (n : ℕ) (answers : ℕ → Bool) → core_runs depth (lowered_program p) n answers ≡ runs depth p n answers
unfolding core_runs runs
runs_same depth p n answers =
    let run : Ran ⊤ → Outcome ⊤ = λ r. r.from (first_world (setting_of p) answers) in
    ap run (ap (λ (calls : Calls). core_main (lowered_program p) n calls (first_here (setting_of p))) (calls_same p n depth)
    ∙ main_same p n (calls_of depth (setting_of p) n) (first_here (setting_of p)))

pub lowers : (p : Program) (n : ℕ) (answers : ℕ → Bool) → core_run_of (lowered_program p) n answers ≡ run_of p n answers
unfolding core_run_of run_of
lowers p n answers = runs_same 1000 p n answers
