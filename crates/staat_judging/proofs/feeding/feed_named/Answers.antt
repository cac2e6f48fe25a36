use Rattle.std.proofs.Common.{[], ◌∷◌, false, subst}
use Rattle.staat_edge.specs.Opening.{OpensFiles}
use Rattle.staat_edge.proofs.OpeningLemmas.{refused}
use Rattle.staat_fault.specs.declared.fault.Fault.TheVariants.{OutOfMemory}
use Rattle.staat_limits.specs.declared.limits.TheConstants.{TEXT_LIMIT}
use Rattle.staat_input.specs.Causes.{over}
use Rattle.staat_input.specs.Work.{IsNotTakenWithin}
use Rattle.staat_input.proofs.InputLemmas.{failed_with, no_value}
use Rattle.staat_judging.specs.Causes.{HasCertificateCause}
use Rattle.staat_judging.proofs.feeding.feed_named.Goals as goal

pub returns-in_ok-copied-in-Err-TooLong-clause-opens : goal.returns-in_ok-copied-in-Err-TooLong-clause-opens
returns-in_ok-copied-in-Err-TooLong-clause-opens g c =
    subst (λ n. OpensFiles false (n ∷ []) (g.H.Shelf.told c.args.shelf.now) (g.H.Shelf.told c.feed_file.new.shelf))
    c.as_str.ensures c.in-Err-TooLong.ensures.opens

pub returns-in_ok-copied-in-Err-TooLong-clause-fed : goal.returns-in_ok-copied-in-Err-TooLong-clause-fed
returns-in_ok-copied-in-Err-TooLong-clause-fed g c = tt

pub returns-in_err-copied-in-Err-ReadFault : goal.returns-in_err-copied-in-Err-ReadFault
returns-in_err-copied-in-Err-ReadFault g c =
    let before = g.H.Shelf.told c.args.shelf.now in
    let now = g.H.Shelf.told c.feed_file.new.shelf in
    let found = c.from_residual.result in
    let is = c.from_residual.ensures.1 in
    record {
      holds = c.feed_file.ensures.holds;
      count = c.feed_file.ensures.count;
      opens = refused _ found _ _ _ is
          (subst (λ n. OpensFiles false (n ∷ []) before now) c.as_str.ensures c.in-Err-ReadFault.ensures.opens);
      fed = no_value _ _ found is;
      refused = failed_with (IsNotTakenWithin TEXT_LIMIT now c.args.name.now) OutOfMemory found tt is;
      cause = failed_with (HasCertificateCause c.args.name.now (over before now)) OutOfMemory found tt is;
    }

pub returns-in_err-copied-in-Err-TooLong : goal.returns-in_err-copied-in-Err-TooLong
returns-in_err-copied-in-Err-TooLong g c =
    let before = g.H.Shelf.told c.args.shelf.now in
    let now = g.H.Shelf.told c.feed_file.new.shelf in
    let found = c.from_residual-in_err-copied-in-Err-TooLong.result in
    let is = c.from_residual-in_err-copied-in-Err-TooLong.ensures.1 in
    record {
      holds = c.feed_file.ensures.holds;
      count = c.feed_file.ensures.count;
      opens = refused _ found _ _ _ is
          (subst (λ n. OpensFiles false (n ∷ []) before now) c.as_str.ensures c.in-Err-TooLong.ensures.opens);
      fed = no_value _ _ found is;
      refused = failed_with (IsNotTakenWithin TEXT_LIMIT now c.args.name.now) OutOfMemory found tt is;
      cause = failed_with (HasCertificateCause c.args.name.now (over before now)) OutOfMemory found tt is;
    }
