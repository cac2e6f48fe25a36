use Rattle.std.proofs.Common.{◌≡◌, map, take, fold}
use Rattle.clap.specs.Words.{app_of}
use Rattle.staat_words.specs.Command.{plain, with_command}
use Rattle.staat_words.proofs.command.with_commands.Given as goal

abbrev pub invariant-loop-row : goal.invariant-loop-row
invariant-loop-row l = app_of l.whole ≡ fold with_command (app_of l.fn.whole) (map plain (take l.row-index l.rows))
