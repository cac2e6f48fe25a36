use Rattle.std.proofs.Common.{Err, Ok, subst}
use Rattle.staat_cert.specs.declared.cert_refusal.CertRefusal.TheVariants.{BadLine}
use Rattle.staat_cert.specs.Feeds.{IsReadAnswer}
use Rattle.staat_planning.proofs.DrillLemmas.{no_bad_line, read_same}
use Rattle.staat_planning.proofs.drill.read_again.Goals as goal

pub unreachable-requires : goal.unreachable-requires
unreachable-requires c =
    let (written_of, written) = c.requires in
    let read = subst (λ r. IsReadAnswer c.as_slice.result.now (Err r)) c.in-Err-BadLine.field-0-is c.in-Err-BadLine.ensures in
    no_bad_line written_of c.args.text.now c.in-Err-BadLine.field-0-0 written (subst (λ t. IsReadAnswer t (Err (BadLine c.in-Err-BadLine.field-0-0))) c.as_slice.ensures read)

pub returns-in-Ok : goal.returns-in-Ok
returns-in-Ok c = λ written_of written. read_same written_of c.in-Ok.certificate c.args.text.now written (subst (λ t. IsReadAnswer t (Ok c.in-Ok.certificate)) c.as_slice.ensures c.in-Ok.ensures)
