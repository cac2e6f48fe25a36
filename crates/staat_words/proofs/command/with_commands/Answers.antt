use Rattle.clap.specs.Words.{app_of}
use Rattle.staat_words.specs.Command.{plain, with_command}
use Rattle.staat_words.proofs.Folds.{fold-map_step}
use Rattle.staat_words.proofs.command.with_commands.Goals as goal

pub loop-row-preserved : goal.loop-row-preserved
loop-row-preserved c =
    fold-map_step with_command plain (app_of c.args.whole) c.args.rows.now c.loop-row.row-index _ _ _ c.loop-row-test.true
    c.loop-row.invariant c.in_ok-whole.ensures
