use Rattle.std.proofs.Common.{sym, subst, arith}
use Rattle.f3_rules.specs.declared.refusal.Refusal.{Refusal}
use Rattle.f3_text.specs.Reader.{left, spelled_of, Tells}
use Rattle.f3_words.specs.Lines.{line_view, seen_of}
use Rattle.f3_units.specs.Machine.{builder_view}
use Rattle.f3_parse.specs.Spells.{parts_of_sources}
use Rattle.f3_parse.proofs.Parsing.{begun, goes, fewer, stops_text, stops_with, finishes}
use Rattle.f3_parse.proofs.parser.parse.Goals as goal

pub loop-builder-init : goal.loop-builder-init
loop-builder-init c = begun (parts_of_sources c.args.sources.now) (left c.new-reader.result) (seen_of c.new-tables.result) (builder_view c.new-builder.result) c.new-tables.ensures c.new-builder.ensures c.new-reader.ensures

pub returns-in-Err-Refused : goal.returns-in-Err-Refused
returns-in-Err-Refused c =
    let given = rw c.in-Err-Refused.field-0-is at c.in-Err-Refused.ensures.given in
    stops_text c.args.sources.now (left c.loop-builder.reader) (seen_of c.loop-builder.tables) (builder_view c.loop-builder.builder) given.0 c.text_refusal-refusal.result c.loop-builder.invariant given.2 (c.text_refusal-refusal.ensures given.0 (subst (λ (x : Refusal). Tells x given.0) (sym c.in-Err-Refused.found-is) given.1))

pub returns-in-Ok-None : goal.returns-in-Ok-None
returns-in-Ok-None c =
    let given = rw c.in-Ok-None.field-0-is at c.in-Ok-None.ensures.given in
    finishes c.args.sources.now (left c.loop-builder.reader) (seen_of c.loop-builder.tables) (builder_view c.loop-builder.builder) c.finish.result c.loop-builder.invariant given.0 c.finish.ensures

pub returns-in-Err-go_on : goal.returns-in-Err-go_on
returns-in-Err-go_on c =
    let given = rw c.in-Ok-Some.field-0-is at c.in-Ok-Some.ensures.given in
    stops_with c.args.sources.now (left c.loop-builder.reader) (left c.next.new.self) (seen_of c.loop-builder.tables) (spelled_of c.in-Ok-Some.statement) (builder_view c.loop-builder.builder) (builder_view c.go_on.new.builder) (line_view c.in-Ok.line) c.in-Err-go_on.fault c.loop-builder.invariant given c.in-Ok.ensures.0 c.in-Err-go_on.ensures

pub loop-builder-smaller : goal.loop-builder-smaller
loop-builder-smaller c =
    let given = rw c.in-Ok-Some.field-0-is at c.in-Ok-Some.ensures.given in
    let less = fewer (left c.loop-builder.reader) (left c.next.new.self) (spelled_of c.in-Ok-Some.statement) given in
    omega (arith, less)

pub loop-builder-preserved : goal.loop-builder-preserved
loop-builder-preserved c =
    let given = rw c.in-Ok-Some.field-0-is at c.in-Ok-Some.ensures.given in
    let on = c.in-Ok-go_on.ensures in
    goes (parts_of_sources c.args.sources.now) (left c.loop-builder.reader) (left c.next.new.self) (seen_of c.loop-builder.tables) (seen_of c.line.new.tables) (spelled_of c.in-Ok-Some.statement) (builder_view c.loop-builder.builder) (builder_view c.go_on.new.builder) (line_view c.in-Ok.line) c.loop-builder.invariant given c.in-Ok.ensures.0 c.in-Ok.ensures.1 on
