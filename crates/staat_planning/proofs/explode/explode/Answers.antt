use Rattle.std.proofs.Common.{◌∙◌, [], true}
use Rattle.staat_input.specs.Assembling.{IsSoundOf}
use Rattle.staat_input.specs.Causes.{HasCause, over}
use Rattle.staat_input.specs.declared.limits.TheConstants.Limits.{ASSEMBLY}
use Rattle.staat_input.proofs.InputLemmas.{failed_with, no_value, then_failed, then_given}
use Rattle.staat_input.proofs.OpenedLemmas.{input_some}
use Rattle.staat_planning.specs.Exploding.{IsCountedView}
use Rattle.staat_planning.proofs.explode.explode.Goals as goal

pub returns-in_err-sound : goal.returns-in_err-sound
returns-in_err-sound g c =
    let request = c.args.request.now in
    let told = over (g.H.Shelf.told c.args.shelf.now) (g.H.Shelf.told c.read_sketched.new.shelf) in
    let fault = c.in_err-sound.field-0.0 in
    let found = c.from_residual.result in
    let is = c.from_residual.ensures.1 in
    record {
      holds = c.in_err-sound.ensures.holds;
      count = c.in_err-sound.ensures.count;
      status = no_value _ _ found is;
      opens = c.in_err-sound.ensures.opens;
      found = λ files fit. then_failed (IsSoundOf files request.asked) (IsCountedView files request) fault found
          (c.in_err-sound.ensures.found files fit) is;
      cause = failed_with (HasCause told) fault found c.in_err-sound.ensures.cause is;
    }

pub returns : goal.returns
returns g c =
    let request = c.args.request.now in
    let before = g.H.Shelf.told c.args.shelf.now in
    let now = g.H.Shelf.told c.read_sketched.new.shelf in
    record {
      holds = c.in_ok-sound.ensures.holds;
      count = c.in_ok-sound.ensures.count;
      status = c.exploded.ensures.status;
      opens = input_some ASSEMBLY true request.asked.input [] before now c.in_ok-sound.ensures.opens;
      found = λ files fit.
          let drawn = c.in_ok-sound.ensures.drawn files fit c.new-sketch.ensures.solids in
          then_given (IsSoundOf files request.asked) (IsCountedView files request) c.in_ok-sound.sound c.exploded.result
          (c.in_ok-sound.ensures.found files fit)
          (c.exploded.ensures.exploded files drawn.named drawn.listed
          (λ on. c.from_vec-solids.ensures ∙ drawn.solids (c.new-sketch.ensures.keep ∙ on)));
      cause = c.exploded.ensures.cause (over before now);
    }
