-- `words` shows the words that a `&` reaches. Assumes `Logic`.
use Rattle.std.proofs.Common.{◌≡◌, ℕ, ◌+◌, ◌*◌, ◌^◌, ◌<◌, List, [], ◌∷◌, length, refl, ap, subst, arith, w64}
use Rattle.std.proofs.raw_atomic.Walks.{proved}
use Rattle.std.proofs.VecSteps.Shapes.{after}
use Rattle.std.proofs.Words.{pointer_in, pointer_out}
use base.Logic.{ent, sep}
use base.Fml.{Lft, Fml, ftrue, fhide, flft}
use contract.Monad.{fact}
use contract.Running.{tables}
use mir.Syntax.{named}
use mir.Val.{Val}
use seplogic.Ra.Ura.{Ura}
use types.Kit.{‵, raw, ◌⊛◌, at_ret, ◌$◌, ◌∵◌, !, qed, done, move, keep, drop, use1, split, join, fsplit, fjoin, feq_i, flt_i, suffices}
use types.Logic.{Logic, sem}
use types.Part.{agg}
use types.Run.{enter, of_opd, load, look, fld, stop, and_then, no_more, first, blocks, exec, returns}
use types.ByLocal.{alloc_all, pass_all, free_all, look_at, get, through, sets, sets_last, env}
use denote.Builtin.{i64, usize, RefOf}
use denote.Exit.{yes}
use denote.Memory.{hidden_shr}
use denote.Opens.{shr_dup, unhide, hide}
use denote.Plain.{uint_vals, uint_Tells}
use denote.RattleType.{RattleType, RowLaws}
use denote.RawPtr.{RawPtr, ptr_row_laws, block_of, count_of, InBlock}
use denote.Ref.{ShrRef, shr_vals, shr_Tells}
use denote.Signature.{plain}
use denote.Slice.{slice_val, elements_shared}
use denote.Steps.{nothing, heard}
use denote.Struct.Lending.{in_block_says, lent_out}
use denote.Struct.Owning.{shape}
use denote.Struct.Struct.{Struct, Struct-row_laws}
use denote.Triple.Walked.{Stays, walk_of, says, stay_dropped, Goes-dropped, ends_at}
use Rattle.f3_raw.specs.contracts.memory.Memory as C
use Rattle.f3_raw.specs.contracts.memory.Memory.{the_row as R}
use Rattle.f3_raw.specs.contracts.memory.Memory.words as f
use Rattle.f3_raw.proofs.memory.Memory.words.Statement.{statement}
use Rattle.f3_raw.proofs.memory.Memory.words.Code as code

abbrev Field : RattleType
Field = Struct (shape C.the_type)

-- a `&` to the memory shows its pointer
shows_start : {M : Type 1} {𝓤 : Ura M} (𝓛 : Logic 𝓤) (κ : Lft) (b o : ℕ) (h : R.Denot)
    → ent 𝓤 (sem 𝓛 (hidden_shr Field κ (h.start, tt) b o)) (sep 𝓤 (sem 𝓛 (hidden_shr RawPtr κ h.start b (o + 0))) (sem 𝓛 (hidden_shr Field κ (h.start, tt) b o)))
shows_start 𝓛 κ b o h =
    let laws : RowLaws Field = Struct-row_laws (shape C.the_type) (ptr_row_laws, tt) in
    qed 𝓛 (‵ (hidden_shr Field κ (h.start, tt) b o) ∷ []) ∵ shr_dup ! Field laws (h.start, tt) b o κ $ unhide ! $ fsplit ! $ fsplit ! $ hide ! $ keep ! (0 ∷ 3 ∷ []) $ done !

abbrev stayed : Stays f.ended.signature.params f.ended.kept
stayed = (stay_dropped (RefOf (0 ∷ []) tt (plain (λ _. R)) (λ _. tt)) yes, (stay_dropped (plain (λ _. usize)) yes, tt))

pub words_spec : {M : Type 1} → statement M
words_spec 𝓤 𝓛 𝓜 𝓡 wired =
    let c = f.clauses 𝓛 𝓜.mem 𝓡.returns in let W = walk_of 𝓛 f.ended stayed c in let 𝓣 = tables 𝓤 𝓛.H 𝓜 𝓡 𝓡.env in
    proved 𝓛 f.ended stayed c 𝓜 𝓡 (Goes-dropped 𝓛 1 (RefOf (0 ∷ []) tt (plain (λ _. R)) (λ _. tt)) yes (λ κs x w. refl), (Goes-dropped 𝓛 1 (plain (λ _. usize)) yes (λ κs x w. refl), tt))
    f.Key.name code.function (code.unfolded 𝓤 𝓛.H 𝓜 𝓡 wired)
    (λ κs. (shr_vals, (uint_vals w64, tt))) (λ κs. (shr_Tells (named 0) κs.0 R, (uint_Tells w64, tt))) (λ κs qs bounds a _ are.
    let κ = κs.0 in let b = a.0.ref_ptr.0 in let o = a.0.ref_ptr.1 in let h = a.0.now in let n = a.1.0 in
    let vss : List Val × (List Val × Unit {0}) = (shr_vals a.0, (uint_vals w64 n, tt)) in
    let y : W.Ghost = ((κs, qs, bounds, a, vss), tt) in
    let Asked : Type 0 = n ≡ length h.content in
    let at : ℕ × ℕ = (block_of h.start, count_of h.start) in
    let words : Fml = elements_shared i64 h.content at.0 at.1 κ in
    qed 𝓛 (((‵ (flft κ qs.0) ⊛ ‵ ftrue) ⊛ ‵ ((ShrRef (named 0) κ R).own_val a.0 vss.0) ⊛ ‵ (usize.own_val n vss.1.0) ⊛ ‵ ftrue) ∷ raw (fact 𝓤 Asked) ∷ []) ∵
    move ! (1 ∷ []) $ heard ! Asked (λ lens. split ! $ split ! $ move ! (2 ∷ []) $ split ! $ keep ! (0 ∷ 2 ∷ []) $
    let fits : n < 2 ^ 64 = are.1.0.1 in
    let bytes : length h.content * 8 < 2 ^ 63 = omega (arith, h.fits, h.small) in
    enter ! _ _ _ _ _ $ alloc_all ! (λ l. pass_all ! refl ((tt, tt), ((tt, record { fits = fits }), tt)) $
    fsplit ! $ drop ! $
    use1 𝓛 (‵ (hidden_shr Field κ (h.start, tt) b o) ⊛ ‵ (fhide (C.the_lent h h.start κ))) (lent_out 𝓛 C.struct C.the_codes C.the_heap C.the_lent κ h b o) $ split ! $
    move ! (1 ∷ []) $ unhide ! $ fsplit ! $ use1 𝓛 (raw (fact 𝓤 (InBlock h.start))) (in_block_says 𝓛 h.start) $ heard ! (InBlock h.start) (λ inb. fsplit ! $ drop ! $ hide ! $
    -- [the words; what shows the field; the token]
    move ! (1 ∷ 2 ∷ []) $
    first ! $ blocks ! $
    pointer_in ! tt h.start inb b (o + 0) (shows_start 𝓛 κ b o h) (λ q'.
    sets ! (of_opd ! (load ! (through ! refl (fld ! refl (stop !))) (look ! 1 refl))) refl (tt, tt) $
    pointer_out ! tt h.start inb b (o + 0) $
    -- [the token; what shows the field; the words]
    sets_last ! (agg ! (and_then ! (get ! refl) (and_then ! (get ! refl) (no_more !)))) refl (tt, (tt, (record { fits = fits }, tt))) $
    exec ! 𝓣.C 𝓣.Λ (env code.Mir.locals l) (after 1 (code.function).body) (at_ret _ (W.post y)) $
    sets ! (of_opd ! (get ! refl)) refl (tt, (tt, (record { fits = fits }, tt))) $
    returns ! (look_at ! 0 refl) $ free_all ! refl $ keep ! (0 ∷ 2 ∷ []) $
    suffices ! _ (ends_at 𝓛 f.ended stayed c y (slice_val at n) (record { ref_ptr = at; now = h.content }) (tt, (tt, tt)) (tt, (tt, tt))) $ says ! refl $
    move ! (1 ∷ []) $ flt_i ! (length h.content * 8) (2 ^ 63) bytes $ flt_i ! (length h.content) (2 ^ 64) (subst (λ k. k < 2 ^ 64) lens fits) $ fjoin ! $
    feq_i ! (List Val) (slice_val at n ∷ []) (slice_val at (length h.content) ∷ []) (ap (λ k. slice_val at k ∷ []) lens) $ fjoin ! $ fjoin ! $
    nothing ! $ nothing ! $ join ! $ nothing ! $ join ! $ nothing ! $ move ! (3 ∷ 0 ∷ []) $ join ! $ done !)))))
