use Rattle.staat_off.proofs.NextWord.{begins_stopped, next_is_found, none_is_left}
use Rattle.staat_off.proofs.laws.next_word_is_next.Goals as goal

pub returns : goal.returns
returns c = record {
  begins = begins_stopped;
  found = λ file p w rest stop h. next_is_found file p stop w rest h;
  none = λ file p rest stop h. none_is_left file p stop rest h;
}
