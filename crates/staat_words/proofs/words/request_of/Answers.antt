use Rattle.std.proofs.Common.{◌∙◌}
use Rattle.staat_words.proofs.Simple.{answered, matches_from, nothing_asked, refused_from, taken_from}
use Rattle.staat_words.proofs.words.request_of.Goals as goal

pub returns-in-Ok : goal.returns-in-Ok
returns-in-Ok c = record {
  answers = rw (← c.as_slice.ensures.value) (answered _ _ _ (taken_from _ _ c.in_ok-command.ensures c.in-Ok.ensures.kinds)
      (matches_from _ _ c.in-Ok.matches c.in_ok-command.ensures c.in-Ok.ensures.matches) c.request_from.ensures.answers);
  bounds = c.request_from.ensures.bounds;
}

pub returns : goal.returns
returns c = record {
  answers = rw (← c.as_slice.ensures.value) (nothing_asked _ (refused_from _ _ c.in-Err.error c.in_ok-command.ensures c.in-Err.ensures.kinds
      (λ k. c.in_default.not-OutOfMemory (c.kind.ensures ∙ k))));
  bounds = tt;
}
