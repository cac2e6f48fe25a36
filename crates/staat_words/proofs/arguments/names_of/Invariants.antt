use Rattle.std.proofs.Common.{◌≡◌, map, take}
use Rattle.staat_words.proofs.arguments.names_of.Given as goal

abbrev pub invariant-loop-word : goal.invariant-loop-word
invariant-loop-word l = l.names.items ≡ map (λ s. s.now) (take l.word-index l.words)
