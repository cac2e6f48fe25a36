use Rattle.staat_cert.proofs.Formats.{are_whole, none_taken, taken_begins}
use Rattle.staat_short.proofs.ShortReadings.{format}
use Rattle.staat_short.proofs.reader.ShortReader.new.Goals as goal

pub new-requires : goal.new-requires
new-requires c = record { taken = none_taken format; begins = taken_begins format _ _ (none_taken format); texts = are_whole format }
