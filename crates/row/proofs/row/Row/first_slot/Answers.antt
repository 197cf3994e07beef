use Rattle.row.proofs.row.Row.first_slot.Goals as goal

pub returns-clause-passed : goal.returns-clause-passed
returns-clause-passed c = c.first.ensures.passed c.args.self.now.frames
