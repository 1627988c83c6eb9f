use Rattle.std.proofs.Common.{◌≡◌, false, refl, Err}
use Rattle.f3_code.specs.declared.instruction.Instruction.{Instruction}
use Rattle.f3_code.specs.declared.instruction.Instruction.TheVariants as i
use Rattle.f3_word_cells.specs.declared.state.Stop.TheVariants as stop
use Rattle.f3_word_steps.specs.Cells.{is_cells_act}
use Rattle.f3_word_steps.proofs.Doing.{by_does, by_there, by_among, not_cells}
use Rattle.f3_word_steps.proofs.cells.do_cells.Goals as goal

pub returns-in-Push-clause-does : goal.returns-in-Push-clause-does
returns-in-Push-clause-does c = λ yes. by_does c.args.act c.args.place c.args.total c.args.state.now c.push.new.state c.push.result (i.Push c.in-Push.a0) c.in-Push.is c.push.ensures.does

pub returns-in-Plain-clause-does : goal.returns-in-Plain-clause-does
returns-in-Plain-clause-does c = λ yes. by_does c.args.act c.args.place c.args.total c.args.state.now c.plain.new.state c.plain.result i.Plain c.in-Plain.is c.plain.ensures.does

pub returns-in-Unary-clause-does : goal.returns-in-Unary-clause-does
returns-in-Unary-clause-does c = λ yes. by_does c.args.act c.args.place c.args.total c.args.state.now c.unary.new.state c.unary.result (i.Unary c.in-Unary.a0 c.in-Unary.a1) c.in-Unary.is c.unary.ensures.does

pub returns-in-Binary-clause-does : goal.returns-in-Binary-clause-does
returns-in-Binary-clause-does c = λ yes. by_does c.args.act c.args.place c.args.total c.args.state.now c.binary.new.state c.binary.result (i.Binary c.in-Binary.a0 c.in-Binary.a1) c.in-Binary.is c.binary.ensures.does

pub returns-in-BoundsOfVariable-clause-does : goal.returns-in-BoundsOfVariable-clause-does
returns-in-BoundsOfVariable-clause-does c = λ yes. by_does c.args.act c.args.place c.args.total c.args.state.now c.bounds_of_variable.new.state c.bounds_of_variable.result i.BoundsOfVariable c.in-BoundsOfVariable.is c.bounds_of_variable.ensures.does

pub returns-in-Size-clause-does : goal.returns-in-Size-clause-does
returns-in-Size-clause-does c = λ yes. by_does c.args.act c.args.place c.args.total c.args.state.now c.size.new.state c.size.result i.Size c.in-Size.is c.size.ensures.does

pub returns-in-Bound-clause-does : goal.returns-in-Bound-clause-does
returns-in-Bound-clause-does c = λ yes. by_does c.args.act c.args.place c.args.total c.args.state.now c.bound.new.state c.bound.result (i.Bound c.in-Bound.a0) c.in-Bound.is c.bound.ensures.does

pub returns-in-PassValue-clause-does : goal.returns-in-PassValue-clause-does
returns-in-PassValue-clause-does c = λ yes. by_does c.args.act c.args.place c.args.total c.args.state.now c.pass_value.new.state c.pass_value.result (i.PassValue c.in-PassValue.a0) c.in-PassValue.is c.pass_value.ensures.does

pub returns-in-PassVariable-clause-does : goal.returns-in-PassVariable-clause-does
returns-in-PassVariable-clause-does c = λ yes. by_does c.args.act c.args.place c.args.total c.args.state.now c.pass_variable.new.state c.pass_variable.result (i.PassVariable c.in-PassVariable.a0) c.in-PassVariable.is c.pass_variable.ensures.does

pub returns-in-Result-clause-does : goal.returns-in-Result-clause-does
returns-in-Result-clause-does c = λ yes. by_does c.args.act c.args.place c.args.total c.args.state.now c.result.new.state c.result.result i.Result c.in-Result.is c.result.ensures.does

pub returns-in-Clear-clause-does : goal.returns-in-Clear-clause-does
returns-in-Clear-clause-does c = λ yes. by_does c.args.act c.args.place c.args.total c.args.state.now c.clear.new.state c.clear.result i.Clear c.in-Clear.is c.clear.ensures.does

pub returns-in-Subscript-clause-does : goal.returns-in-Subscript-clause-does
returns-in-Subscript-clause-does c = λ yes. by_does c.args.act c.args.place c.args.total c.args.state.now c.subscript.new.state c.subscript.result i.Subscript c.in-Subscript.is c.subscript.ensures.does

pub returns-in-Limit-clause-does : goal.returns-in-Limit-clause-does
returns-in-Limit-clause-does c = λ yes. by_does c.args.act c.args.place c.args.total c.args.state.now c.limit.new.state c.limit.result i.Limit c.in-Limit.is c.limit.ensures.does

pub returns-in-NoLimit-clause-does : goal.returns-in-NoLimit-clause-does
returns-in-NoLimit-clause-does c = λ yes. by_does c.args.act c.args.place c.args.total c.args.state.now c.no_limit.new.state c.no_limit.result i.NoLimit c.in-NoLimit.is c.no_limit.ensures.does

pub returns-in-Triplet-clause-does : goal.returns-in-Triplet-clause-does
returns-in-Triplet-clause-does c = λ yes. by_does c.args.act c.args.place c.args.total c.args.state.now c.triplet.new.state c.triplet.result i.Triplet c.in-Triplet.is c.triplet.ensures.does

pub returns-in-TestShape-clause-does : goal.returns-in-TestShape-clause-does
returns-in-TestShape-clause-does c = λ yes. by_does c.args.act c.args.place c.args.total c.args.state.now c.test_shape.new.state c.test_shape.result i.TestShape c.in-TestShape.is c.test_shape.ensures.does

pub returns-in-Begin-clause-does : goal.returns-in-Begin-clause-does
returns-in-Begin-clause-does c = λ yes. by_does c.args.act c.args.place c.args.total c.args.state.now c.begin.new.state c.begin.result i.Begin c.in-Begin.is c.begin.ensures.does

pub returns-in-Swap-clause-does : goal.returns-in-Swap-clause-does
returns-in-Swap-clause-does c = λ yes. by_does c.args.act c.args.place c.args.total c.args.state.now c.swap.new.state c.swap.result i.Swap c.in-Swap.is c.swap.ensures.does

pub returns-in-Stop-clause-does : goal.returns-in-Stop-clause-does
returns-in-Stop-clause-does c = λ yes. by_does c.args.act c.args.place c.args.total c.args.state.now c.stop.new._state c.stop.result (i.Stop c.in-Stop.a0) c.in-Stop.is c.stop.ensures.does

pub returns-in-SetPlace-clause-does : goal.returns-in-SetPlace-clause-does
returns-in-SetPlace-clause-does c = λ yes. by_there c.args.act c.args.place c.args.total c.args.state.now c.set_place.new.state c.set_place.result i.SetPlace c.in-SetPlace.is c.set_place.ensures.does

pub returns-in-GoOn-clause-does : goal.returns-in-GoOn-clause-does
returns-in-GoOn-clause-does c = λ yes. by_among c.args.act c.args.place c.args.total c.args.state.now c.go_on.new.state c.go_on.result (i.GoOn c.in-GoOn.a0) c.in-GoOn.is c.go_on.ensures.does

pub returns-in-GoBack-clause-does : goal.returns-in-GoBack-clause-does
returns-in-GoBack-clause-does c = λ yes. by_does c.args.act c.args.place c.args.total c.args.state.now c.go_back.new.state c.go_back.result (i.GoBack c.in-GoBack.a0) c.in-GoBack.is c.go_back.ensures.does

pub returns-in-SkipIfFalse-clause-does : goal.returns-in-SkipIfFalse-clause-does
returns-in-SkipIfFalse-clause-does c = λ yes. by_among c.args.act c.args.place c.args.total c.args.state.now c.skip_if_false.new.state c.skip_if_false.result (i.SkipIfFalse c.in-SkipIfFalse.a0) c.in-SkipIfFalse.is c.skip_if_false.ensures.does

pub returns-in-SkipIfTrue-clause-does : goal.returns-in-SkipIfTrue-clause-does
returns-in-SkipIfTrue-clause-does c = λ yes. by_among c.args.act c.args.place c.args.total c.args.state.now c.skip_if_true.new.state c.skip_if_true.result (i.SkipIfTrue c.in-SkipIfTrue.a0) c.in-SkipIfTrue.is c.skip_if_true.ensures.does

pub returns-in-Meets-clause-does : goal.returns-in-Meets-clause-does
returns-in-Meets-clause-does c = λ yes. by_does c.args.act c.args.place c.args.total c.args.state.now c.meets.new.state c.meets.result (i.Meets c.in-Meets.a0) c.in-Meets.is c.meets.ensures.does

pub returns-in-Leave-clause-does : goal.returns-in-Leave-clause-does
returns-in-Leave-clause-does c = λ yes. by_among c.args.act c.args.place c.args.total c.args.state.now c.leave.new.state c.leave.result (i.Leave c.in-Leave.a0 c.in-Leave.a1) c.in-Leave.is c.leave.ensures.does

pub returns-in-Depart-clause-does : goal.returns-in-Depart-clause-does
returns-in-Depart-clause-does c = λ yes. by_among c.args.act c.args.place c.args.total c.args.state.now c.depart.new.state c.depart.result (i.Depart c.in-Depart.a0 c.in-Depart.a1) c.in-Depart.is c.depart.ensures.does

pub returns-in-SelectVariable-clause-does : goal.returns-in-SelectVariable-clause-does
returns-in-SelectVariable-clause-does c = λ yes. by_does c.args.act c.args.place c.args.total c.args.state.now c.select_variable.new.state c.select_variable.result i.SelectVariable c.in-SelectVariable.is c.select_variable.ensures.does

pub returns-in-SelectValue-clause-does : goal.returns-in-SelectValue-clause-does
returns-in-SelectValue-clause-does c = λ yes. by_does c.args.act c.args.place c.args.total c.args.state.now c.select_value.new.state c.select_value.result (i.SelectValue c.in-SelectValue.a0) c.in-SelectValue.is c.select_value.ensures.does

pub returns-in-Associated-clause-does : goal.returns-in-Associated-clause-does
returns-in-Associated-clause-does c = λ yes. by_does c.args.act c.args.place c.args.total c.args.state.now c.associated.new.state c.associated.result i.Associated c.in-Associated.is c.associated.ensures.does

pub returns-in-NextObject-clause-does : goal.returns-in-NextObject-clause-does
returns-in-NextObject-clause-does c = λ yes. by_among c.args.act c.args.place c.args.total c.args.state.now c.next_object.new.state c.next_object.result (i.NextObject c.in-NextObject.a0) c.in-NextObject.is c.next_object.ensures.does

pub returns-in-Convert-clause-does : goal.returns-in-Convert-clause-does
returns-in-Convert-clause-does c = λ yes. by_does c.args.act c.args.place c.args.total c.args.state.now c.convert.new.state c.convert.result (i.Convert c.in-Convert.a0) c.in-Convert.is c.convert.ensures.does

pub returns-in-TestStep-clause-does : goal.returns-in-TestStep-clause-does
returns-in-TestStep-clause-does c = λ yes. by_does c.args.act c.args.place c.args.total c.args.state.now c.test_step.new.state c.test_step.result i.TestStep c.in-TestStep.is c.test_step.ensures.does

pub returns-in-CountNext-clause-does : goal.returns-in-CountNext-clause-does
returns-in-CountNext-clause-does c = λ yes. by_among c.args.act c.args.place c.args.total c.args.state.now c.count_next.new.state c.count_next.result (i.CountNext c.in-CountNext.a0) c.in-CountNext.is c.count_next.ensures.does

pub returns-in-Lend-clause-does : goal.returns-in-Lend-clause-does
returns-in-Lend-clause-does c = λ yes. by_does c.args.act c.args.place c.args.total c.args.state.now c.lend.new.state c.lend.result i.Lend c.in-Lend.is c.lend.ensures.does

pub returns-in-Unlend-clause-does : goal.returns-in-Unlend-clause-does
returns-in-Unlend-clause-does c = λ yes. by_does c.args.act c.args.place c.args.total c.args.state.now c.unlend.new.state c.unlend.result i.Unlend c.in-Unlend.is c.unlend.ensures.does

pub returns-in-Discard-clause-does : goal.returns-in-Discard-clause-does
returns-in-Discard-clause-does c = λ yes. by_does c.args.act c.args.place c.args.total c.args.state.now c.discard.new.state c.discard.result i.Discard c.in-Discard.is c.discard.ensures.does

pub returns-in-Dummies-clause-does : goal.returns-in-Dummies-clause-does
returns-in-Dummies-clause-does c = λ yes. by_does c.args.act c.args.place c.args.total c.args.state.now c.dummies.new.state c.dummies.result i.Dummies c.in-Dummies.is c.dummies.ensures.does

pub returns-in-Outward-clause-does : goal.returns-in-Outward-clause-does
returns-in-Outward-clause-does c = λ yes. by_does c.args.act c.args.place c.args.total c.args.state.now c.outward.new.state c.outward.result i.Outward c.in-Outward.is c.outward.ensures.does

pub returns-in-NextArgument-clause-does : goal.returns-in-NextArgument-clause-does
returns-in-NextArgument-clause-does c = λ yes. by_among c.args.act c.args.place c.args.total c.args.state.now c.next_argument.new.state c.next_argument.result (i.NextArgument c.in-NextArgument.a0 c.in-NextArgument.a1) c.in-NextArgument.is c.next_argument.ensures.does

pub returns-in-Finish-clause-does : goal.returns-in-Finish-clause-does
returns-in-Finish-clause-does c = λ yes. by_does c.args.act c.args.place c.args.total c.args.state.now c.finish.new._state c.finish.result i.Finish c.in-Finish.is c.finish.ensures.does

pub returns-in_default-clause-does : goal.returns-in_default-clause-does
returns-in_default-clause-does c = not_cells c.args.act c.args.place c.args.total c.args.state.now c.args.state.now (Err stop.Lost) (go c.args.act refl) where
  go : (x : Instruction) → c.args.act ≡ x → is_cells_act x ≡ false
  go (i.Push a0) e = absurd (c.in_default.not-Push a0 e)
  go i.Plain e = absurd (c.in_default.not-Plain e)
  go (i.Unary a0 a1) e = absurd (c.in_default.not-Unary a0 a1 e)
  go (i.Binary a0 a1) e = absurd (c.in_default.not-Binary a0 a1 e)
  go i.BoundsOfVariable e = absurd (c.in_default.not-BoundsOfVariable e)
  go i.Size e = absurd (c.in_default.not-Size e)
  go (i.Bound a0) e = absurd (c.in_default.not-Bound a0 e)
  go (i.PassValue a0) e = absurd (c.in_default.not-PassValue a0 e)
  go (i.PassVariable a0) e = absurd (c.in_default.not-PassVariable a0 e)
  go i.Result e = absurd (c.in_default.not-Result e)
  go i.Clear e = absurd (c.in_default.not-Clear e)
  go i.Subscript e = absurd (c.in_default.not-Subscript e)
  go i.Limit e = absurd (c.in_default.not-Limit e)
  go i.NoLimit e = absurd (c.in_default.not-NoLimit e)
  go i.Triplet e = absurd (c.in_default.not-Triplet e)
  go i.TestShape e = absurd (c.in_default.not-TestShape e)
  go i.Begin e = absurd (c.in_default.not-Begin e)
  go i.Swap e = absurd (c.in_default.not-Swap e)
  go (i.Stop a0) e = absurd (c.in_default.not-Stop a0 e)
  go i.SetPlace e = absurd (c.in_default.not-SetPlace e)
  go (i.GoOn a0) e = absurd (c.in_default.not-GoOn a0 e)
  go (i.GoBack a0) e = absurd (c.in_default.not-GoBack a0 e)
  go (i.SkipIfFalse a0) e = absurd (c.in_default.not-SkipIfFalse a0 e)
  go (i.SkipIfTrue a0) e = absurd (c.in_default.not-SkipIfTrue a0 e)
  go (i.Meets a0) e = absurd (c.in_default.not-Meets a0 e)
  go (i.Leave a0 a1) e = absurd (c.in_default.not-Leave a0 a1 e)
  go (i.Depart a0 a1) e = absurd (c.in_default.not-Depart a0 a1 e)
  go i.SelectVariable e = absurd (c.in_default.not-SelectVariable e)
  go (i.SelectValue a0) e = absurd (c.in_default.not-SelectValue a0 e)
  go i.Associated e = absurd (c.in_default.not-Associated e)
  go (i.NextObject a0) e = absurd (c.in_default.not-NextObject a0 e)
  go (i.Convert a0) e = absurd (c.in_default.not-Convert a0 e)
  go i.TestStep e = absurd (c.in_default.not-TestStep e)
  go (i.CountNext a0) e = absurd (c.in_default.not-CountNext a0 e)
  go i.Lend e = absurd (c.in_default.not-Lend e)
  go i.Unlend e = absurd (c.in_default.not-Unlend e)
  go i.Discard e = absurd (c.in_default.not-Discard e)
  go i.Dummies e = absurd (c.in_default.not-Dummies e)
  go i.Outward e = absurd (c.in_default.not-Outward e)
  go (i.NextArgument a0 a1) e = absurd (c.in_default.not-NextArgument a0 a1 e)
  go i.Finish e = absurd (c.in_default.not-Finish e)
  go x e = refl
