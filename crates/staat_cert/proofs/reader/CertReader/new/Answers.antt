use Rattle.staat_cert.proofs.Formats.{are_whole, none_taken, taken_begins}
use Rattle.staat_cert.proofs.Standing.{format}
use Rattle.staat_cert.proofs.reader.CertReader.new.Goals as goal

pub new-requires : goal.new-requires
new-requires c = record { taken = none_taken format; begins = taken_begins format _ _ (none_taken format); texts = are_whole format }
