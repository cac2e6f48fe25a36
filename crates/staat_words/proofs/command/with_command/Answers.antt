use Rattle.std.proofs.Common.{◌∙◌, ◌||◌, ap₂, sym}
use Rattle.clap.specs.Words.{new_app, with_rule}
use Rattle.staat_words.specs.Command.{plain_argument, with_argument}
use Rattle.staat_words.proofs.Folds.{fold-map_more}
use Rattle.staat_words.proofs.command.with_command.Goals as goal

pub loop-id-preserved : goal.loop-id-preserved
loop-id-preserved c = record {
  app = c.in_ok-command.ensures.shape c.argument.ensures.global
      ∙ ap₂ with_rule c.loop-id.invariant.app c.argument.ensures.rule
      ∙ sym (fold-map_more with_argument plain_argument (new_app c.args.row.now.name.now) c.args.row.now.arguments.now c.loop-id.id-index _ c.loop-id-test.true);
  local = c.in_ok-command.ensures.globals ∙ ap₂ ◌||◌ c.loop-id.invariant.local c.argument.ensures.global;
}
