use Rattle.std.proofs.Common.{◌≡◌, ℕ, nat_eq, map, length, sym, ap, ◌∙◌, arith}
use Rattle.std.specs.Cmp.Lexicographic.{pointwise}
use Rattle.std.specs.String.{string_bytes}
use Rattle.std.proofs.lemmas.List.{length-map}
use Rattle.std.proofs.lemmas.Iterator.Adapters.{position_from-zero}
use Rattle.f3_kinds.specs.Things.{map_or}
use Rattle.std.specs.List.{position_from}
use Rattle.f3_scenes.proofs.Symbols.{found_more, found_here, found_none}
use Rattle.f3_scenes.proofs.intrinsics.symbol_of.Goals as goal

pub loop-number-init : goal.loop-number-init
loop-number-init c =
    let t = pointwise nat_eq c.args.text.now in
    let keys = map string_bytes c.args.names.now.keys in
    ap (λ xs. map_or (length keys) (λ (n : ℕ). n) (position_from t 0 (map string_bytes xs))) c.as_slice-name-items.ensures.keys
    ∙ sym (ap (map_or (length keys) (λ (n : ℕ). n)) (position_from-zero t keys))

pub returns-then-eq : goal.returns-then-eq
returns-then-eq c =
    found_here string_bytes (pointwise nat_eq c.args.text.now) (length (map string_bytes c.args.names.now.keys)) c.as_slice-name-items.result.now c.loop-number.number c.name-item.result c.eq.result _
    c.loop-number-test.true c.name-item.is (c.eq.ensures ∙ ap (pointwise nat_eq c.args.text.now) c.as_str.ensures.value) c.if-eq.true c.loop-number.invariant

pub loop-number-preserved : goal.loop-number-preserved
loop-number-preserved c =
    found_more string_bytes (pointwise nat_eq c.args.text.now) (length (map string_bytes c.args.names.now.keys)) c.as_slice-name-items.result.now c.loop-number.number c.name-item.result c.eq.result _
    c.loop-number-test.true c.name-item.is (c.eq.ensures ∙ ap (pointwise nat_eq c.args.text.now) c.as_str.ensures.value) c.if-eq.false c.loop-number.invariant

pub returns : goal.returns
returns c =
    let long : c.len.result ≡ length (map string_bytes c.args.names.now.keys) = c.len.ensures.len ∙ sym (length-map c.args.names.now.keys string_bytes) in
    long
    ∙ found_none string_bytes (pointwise nat_eq c.args.text.now) (length (map string_bytes c.args.names.now.keys)) c.as_slice-name-items.result.now c.loop-number.number _
    (omega (arith, c.loop-number-test.false)) c.loop-number.invariant
