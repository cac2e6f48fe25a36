use Rattle.std.proofs.Common.{◌≡◌, ◌∙◌, ◌+◌, ◌<◌, ◌++◌, ℕ, List, [], ap, get_or, length, string_bytes, sym, take}
use Rattle.std.specs.Prelude.{flat_map}
use Rattle.std.proofs.lemmas.List.{flat_map_more, take_more}
use Rattle.staat_linear.specs.OrderTexts.{take_line}
use Rattle.staat_linear.proofs.text.whole_text.Goals as goal

-- the lines with one more
line_more : {X : Type 0} (f : X → List ℕ) (xs : List X) (i : ℕ) (d : X) (before after line bytes : List ℕ) → i < length xs
    → before ≡ flat_map f (take i xs) → line ≡ f (get_or xs i d) → bytes ≡ line → after ≡ before ++ bytes
    → after ≡ flat_map f (take (i + 1) xs)
line_more f xs i d before after line bytes more so_far line_is same grown =
    grown ∙ ap (λ l. l ++ bytes) so_far ∙ ap (λ b. flat_map f (take i xs) ++ b) (same ∙ line_is)
    ∙ flat_map_more f [] (take i xs) (get_or xs i d) ∙ sym (ap (flat_map f) (take_more xs i d more))

pub loop-leave-preserved : goal.loop-leave-preserved
loop-leave-preserved c =
    line_more take_line c.args.leaves.now c.loop-leave.leave-index _ c.loop-leave.text.items
    c.extend_from_slice.new.self.items (string_bytes c.in_ok-line.line) c.as_bytes.result.now c.loop-leave-test.true
    c.loop-leave.invariant c.in_ok-line.ensures c.as_bytes.ensures.value c.in_ok-extend_from_slice.ensures.items
