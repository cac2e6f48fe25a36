use Rattle.std.proofs.Common.{◌≡◌, map, take}
use Rattle.clap.specs.Words.{app_of}
use Rattle.staat_words.specs.Command.{app, IsLocal, plain_argument}
use Rattle.staat_words.proofs.command.with_command.Given as goal

abbrev pub invariant-loop-id : goal.invariant-loop-id
invariant-loop-id l = record {
  app : app_of l.command ≡ app (l.row.name.now, map plain_argument (take l.id-index l.row.arguments.now));
  local : IsLocal l.command;
}
