use Rattle.staat_off.proofs.SpellingLemmas.{read_back, spelled}
use Rattle.staat_off.proofs.laws.numerals_are_spelled.Goals as goal

pub returns : goal.returns
returns c = λ word n. (spelled word n, read_back word n)
