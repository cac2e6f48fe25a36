use Rattle.std.proofs.Common.{arith, refl, [], ◌∷◌}
use Rattle.std.specs.Prelude.{is_ok}
use Rattle.staat_edge.proofs.OpeningLemmas.{none_opened}
use Rattle.staat_fault.specs.declared.fault.Fault.TheVariants.{OutOfMemory}
use Rattle.staat_input.specs.Causes.{over}
use Rattle.staat_input.proofs.InputLemmas.{no_value}
use Rattle.staat_input.proofs.OpenedLemmas.{all_opened}
use Rattle.staat_input.proofs.TakingLemmas.{failed}
use Rattle.staat_judging.specs.Checking.{IsCertificateIn}
use Rattle.staat_judging.specs.Reading.{ReadsCertificate}
use Rattle.staat_judging.proofs.CertificateLemmas.{found_certificate, no_certificate}
use Rattle.staat_judging.proofs.certificate.read_certificate.Goals as goal

pub returns-in_err-reader : goal.returns-in_err-reader
returns-in_err-reader g c =
    let name = c.args.name.now in
    let told = g.H.Shelf.told c.args.shelf.now in
    let found = c.from_residual.result in
    let is = c.from_residual.ensures.1 in
    record {
      takes = failed (ReadsCertificate (λ files. IsCertificateIn files name) name told told) OutOfMemory found (record {
        holds = refl;
        count = omega arith;
        opens = none_opened (name ∷ []) told.given told.given refl;
        found = λ files fit. tt;
        cause = tt;
      }) is;
      formed = no_value _ _ found is;
    }

pub returns-in_err-feed_named : goal.returns-in_err-feed_named
returns-in_err-feed_named g c =
    let name = c.args.name.now in
    let now = g.H.Shelf.told c.feed_named.new.shelf in
    let fault = c.in_err-feed_named.field-0.0 in
    let fed = c.in_err-feed_named.ensures in
    let found = c.from_residual-in_err-feed_named.result in
    let is = c.from_residual-in_err-feed_named.ensures.1 in
    record {
      takes = failed (ReadsCertificate (λ files. IsCertificateIn files name) name (g.H.Shelf.told c.args.shelf.now) now) fault found (record {
        holds = fed.holds;
        count = fed.count;
        opens = fed.opens;
        found = λ files fit. no_certificate now files name fault fit fed.refused;
        cause = fed.cause;
      }) is;
      formed = no_value _ _ found is;
    }

pub returns : goal.returns
returns g c =
    let name = c.args.name.now in
    let before = g.H.Shelf.told c.args.shelf.now in
    let now = g.H.Shelf.told c.feed_named.new.shelf in
    let fed = c.in_ok-feed_named.ensures in
    let result = c.certificate_in.result in
    record {
      takes = record {
        holds = fed.holds;
        count = fed.count;
        opens = all_opened (is_ok result) (name ∷ []) before.given now.given fed.opens;
        found = λ files fit. found_certificate now files name _ result fit fed.fed c.certificate_in.ensures.says;
        cause = c.certificate_in.ensures.cause (over before now);
      };
      formed = c.certificate_in.ensures.formed;
    }
