use Rattle.staat_decide.proofs.settling.parting_by_guess.Goals as goal

pub returns-in-Stuck : goal.returns-in-Stuck
returns-in-Stuck g c = c.staying_if_held.ensures c.args.w.now
