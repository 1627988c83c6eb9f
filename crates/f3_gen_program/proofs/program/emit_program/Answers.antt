use Rattle.std.proofs.Common.{◌≡◌, ◌-◌, ◌≤◌, ◌++◌, length, map, reverse, sym, ap, subst, ◌∙◌, arith}
use Rattle.std.specs.Prelude.{All}
use Rattle.f3_meaning_whole.specs.Run.{setting_of}
use Rattle.f3_code.specs.Lower.{lowered_procedure, routines}
use Rattle.f3_gen_procedures.specs.Ends.{procedure_ends, routine_ends}
use Rattle.f3_gen_program.proofs.ForProgram.{ends_for, main_for, procedures_for, routines_for}
use Rattle.f3_gen_program.proofs.Placed.{procedures_within, routines_within}
use Rattle.f3_gen_program.proofs.Whole.{whole}
use Rattle.f3_gen_program.proofs.program.emit_program.Goals as goal

pub places-requires : goal.places-requires
places-requires c =
    let ends : c.deref-3.result.now ≡ reverse (procedure_ends (length c.args.program.now.types.items) (length c.new-lines.result.items) (map (lowered_procedure (setting_of c.args.program.now)) c.args.program.now.procedures.items))
    = c.deref-3.ensures.value ∙ ends_for c.args.program.now c.in_ok-types.types c.deref-2.result.now c.new-procedure_ends.result.items c.emit_procedures.new.ends.items
    (length c.new-lines.result.items) (c.in_ok-types.ensures ∙ c.deref.ensures.value) c.deref-2.ensures.value c.in_ok-emit_procedures.ensures.ended
    ∙ ap (λ e. e ++ reverse (procedure_ends (length c.args.program.now.types.items) (length c.new-lines.result.items) (map (lowered_procedure (setting_of c.args.program.now)) c.args.program.now.procedures.items))) c.new-procedure_ends.ensures.items in
    subst (λ ks. All (λ k. k ≤ c.len.result) ks) (sym ends)
    (procedures_within c.len.result (length c.args.program.now.types.items) (length c.new-lines.result.items) (map (lowered_procedure (setting_of c.args.program.now)) c.args.program.now.procedures.items)
    (omega (
      arith,
      (procedures_for c.args.program.now _ _ c.in_ok-types.types c.deref-2.result.now (c.in_ok-types.ensures ∙ c.deref.ensures.value) c.deref-2.ensures.value c.in_ok-emit_procedures.ensures.emitted).longer,
      c.in_ok-emit_routines.ensures.emitted.longer,
      c.in_ok-emit_main.ensures.longer,
      c.len.ensures,
    )))

pub places-requires-2 : goal.places-requires-2
places-requires-2 c =
    let ends : c.deref-4.result.now ≡ reverse (routine_ends (length c.emit_procedures.new.code.items) (routines c.in_ok-types.types))
    = c.deref-4.ensures.value ∙ c.in_ok-emit_routines.ensures.ended
    ∙ ap (λ e. e ++ reverse (routine_ends (length c.emit_procedures.new.code.items) (routines c.in_ok-types.types))) c.new-routine_ends.ensures.items in
    subst (λ ks. All (λ k. k ≤ c.len-2.result) ks) (sym ends)
    (routines_within c.len-2.result (length c.emit_procedures.new.code.items) (routines c.in_ok-types.types)
    (omega (arith, c.in_ok-emit_routines.ensures.emitted.longer, c.in_ok-emit_main.ensures.longer, c.len-2.ensures)))

pub returns : goal.returns
returns c =
    let of_procedures : c.deref-3.result.now ≡ reverse (procedure_ends (length c.args.program.now.types.items) (length c.new-lines.result.items) (map (lowered_procedure (setting_of c.args.program.now)) c.args.program.now.procedures.items))
    = c.deref-3.ensures.value ∙ ends_for c.args.program.now c.in_ok-types.types c.deref-2.result.now c.new-procedure_ends.result.items c.emit_procedures.new.ends.items
    (length c.new-lines.result.items) (c.in_ok-types.ensures ∙ c.deref.ensures.value) c.deref-2.ensures.value c.in_ok-emit_procedures.ensures.ended
    ∙ ap (λ e. e ++ reverse (procedure_ends (length c.args.program.now.types.items) (length c.new-lines.result.items) (map (lowered_procedure (setting_of c.args.program.now)) c.args.program.now.procedures.items))) c.new-procedure_ends.ensures.items in
    let of_routines : c.deref-4.result.now ≡ reverse (routine_ends (length c.emit_procedures.new.code.items) (routines c.args.program.now.types.items))
    = c.deref-4.ensures.value ∙ c.in_ok-emit_routines.ensures.ended
    ∙ ap (λ e. e ++ reverse (routine_ends (length c.emit_procedures.new.code.items) (routines c.in_ok-types.types))) c.new-routine_ends.ensures.items
    ∙ ap (λ t. reverse (routine_ends (length c.emit_procedures.new.code.items) (routines t))) (c.in_ok-types.ensures ∙ c.deref.ensures.value) in
    let total : c.len.result ≡ length c.emit_main.new.code.items = omega arith in
    let total_again : c.len-2.result ≡ length c.emit_main.new.code.items = omega arith in
    whole c.args.program.now c.new-lines.result.items c.emit_procedures.new.code.items c.emit_routines.new.code.items c.emit_main.new.code.items c.deref-3.result.now c.deref-4.result.now
    (record { lines = c.reverse.new.self; procedures = c.in_ok-procedures.procedures; routines = c.in_ok-routines.routines })
    c.new-lines.ensures.items
    (procedures_for c.args.program.now _ _ c.in_ok-types.types c.deref-2.result.now (c.in_ok-types.ensures ∙ c.deref.ensures.value) c.deref-2.ensures.value c.in_ok-emit_procedures.ensures.emitted)
    (routines_for c.args.program.now _ _ c.in_ok-types.types (c.in_ok-types.ensures ∙ c.deref.ensures.value) c.in_ok-emit_routines.ensures.emitted)
    (main_for c.args.program.now _ _ c.in_ok-types.types (c.in_ok-types.ensures ∙ c.deref.ensures.value) c.in_ok-emit_main.ensures)
    of_procedures of_routines c.reverse.ensures.items
    (c.in_ok-procedures.ensures ∙ ap (λ n. map (λ k. n - k) (reverse c.deref-3.result.now)) total)
    (c.in_ok-routines.ensures ∙ ap (λ n. map (λ k. n - k) (reverse c.deref-4.result.now)) total_again)
