use Rattle.std.proofs.Common.{◌≡◌, ◌<◌, ℕ, length, slice_index}
use Rattle.staat_cells.proofs.GraphRows.{word_of_digits}
use Rattle.staat_cells.proofs.joined_batches.joined_words.Given as goal

abbrev pub invariant-loop-i : goal.invariant-loop-i
invariant-loop-i l = record {
  long : length l.words ≡ 27;
  first : (k : ℕ) → k < l.i → slice_index l.words k ≡ word_of_digits l.x l.y l.z k;
}
