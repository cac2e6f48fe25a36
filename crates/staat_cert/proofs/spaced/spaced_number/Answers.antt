use Rattle.staat_cert.proofs.Cuts.{number_none, after_space_is}
use Rattle.staat_cert.proofs.spaced.spaced_number.Goals as goal

pub returns-in-None-number_in-clause-none : goal.returns-in-None-number_in-clause-none
returns-in-None-number_in-clause-none c = number_none c.args.bytes.now _ _ _ (after_space_is _ _ c.in-Some.ensures) c.cut_word.ensures c.in-None-number_in.ensures.none
