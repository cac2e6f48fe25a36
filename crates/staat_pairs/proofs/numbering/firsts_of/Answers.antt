use Rattle.std.proofs.Common.{◌≡◌, ◌∙◌, ◌<◌, ◌≤◌, ◌+◌, ℕ, List, Fits, get_or, length, take, arith}
use Rattle.std.specs.Prelude.{sum}
use Rattle.std.specs.Int.{w32}
use Rattle.std.proofs.Math.ListN.{set, length-set}
use Rattle.std.proofs.lemmas.List.{get_or-set_same, get_or-set_other}
use Rattle.std.proofs.lemmas.List.Sums.{sum_by-take-le, sum_by_more}
use borrow.Author.Count.{below_more}
use Rattle.staat_pairs.proofs.numbering.firsts_of.Goals as goal

module _ (firsts counts : List ℕ) (a next : ℕ) (long : length firsts ≡ 32) (whole : length counts ≡ 32) (lt : a < 32) (is : next ≡ sum (take a counts)) where
  next_more : next + get_or counts a 0 ≡ sum (take (a + 1) counts)
  next_more = let more = sum_by_more (λ x. x) counts a 0 (omega (arith, whole)) in omega (arith, more, is)

  next_fits : sum counts ≤ 64 → Fits w32 (next + get_or counts a 0)
  next_fits most = omega (arith, next_more, sum_by-take-le (λ x. x) counts (a + 1))

  each_more : ((b : ℕ) → b < a → get_or firsts b 0 ≡ sum (take b counts)) → (b : ℕ) → b < a + 1 → get_or (set firsts a next) b 0 ≡ sum (take b counts)
  each_more each =
      below_more (λ b. get_or (set firsts a next) b 0 ≡ sum (take b counts)) a
      (λ b below. get_or-set_other firsts a b next 0 (λ e. omega arith) ∙ each b below)
      (get_or-set_same firsts a next 0 (omega (arith, long)) ∙ is)

pub overflow_add-next : goal.overflow_add-next
overflow_add-next c =
    next_fits c.loop-a.firsts c.args.counts.now c.loop-a.a c.loop-a.next c.loop-a.invariant.long c.told-counts c.loop-a-test.true c.loop-a.invariant.next c.requires

pub loop-a-preserved : goal.loop-a-preserved
loop-a-preserved c =
    let h = c.loop-a.invariant in record {
      long = length-set c.loop-a.firsts c.loop-a.a c.loop-a.next ∙ h.long;
      next = next_more c.loop-a.firsts c.args.counts.now c.loop-a.a c.loop-a.next h.long c.told-counts c.loop-a-test.true h.next;
      each = each_more c.loop-a.firsts c.args.counts.now c.loop-a.a c.loop-a.next h.long c.told-counts c.loop-a-test.true h.next h.each;
    }
