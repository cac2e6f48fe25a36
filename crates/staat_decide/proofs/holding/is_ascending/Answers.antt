use Rattle.std.proofs.Common.{◌≡◌, ◌+◌, ◌-◌, ◌<◌, ◌≤◌, List, arith, get_or, length, refl, subst, sym, ℕ, ⊎_elim}
use Rattle.std.proofs.lemmas.Bool.{false≢true}
use Rattle.std.proofs.lemmas.List.{get_or_default}
use Rattle.std.proofs.lemmas.Map.Keys.{below_from_sorted, sorted_from_strictly_increasing}
use Rattle.staat_decide.proofs.holding.is_ascending.Goals as goal
use native.Mathlib.Nat.{eq-or-lt_of_le}

pub returns-then-w-k : goal.returns-then-w-k
returns-then-w-k c = (
  λ e. absurd (false≢true e),
  λ sorted. let lt = below_from_sorted c.args.w.now (c.loop-k.k - 1) c.loop-k.k 0 sorted (omega arith) c.loop-k-test.true in
      absurd (omega (arith, lt, c.if-w-k.true)),
)

pub returns : goal.returns
returns c = (
  λ _. sorted_from_strictly_increasing c.args.w.now (λ j lt. c.loop-k.invariant j 0 (omega (arith, lt, c.loop-k-test.false))),
  λ _. refl,
)

-- one more is greater than the one before it
more : (xs : List ℕ) (k : ℕ) → 1 ≤ k → k < length xs → get_or xs (k - 1) 0 < get_or xs k 0
    → ((j d : ℕ) → j + 1 < k → get_or xs j d < get_or xs (j + 1) d) → (j d : ℕ) → j + 1 < k + 1 → get_or xs j d < get_or xs (j + 1) d
more xs k some lt here all j d l =
    let within : j + 1 ≤ k = omega (arith, l) in
    ⊎_elim {C = get_or xs j d < get_or xs (j + 1) d}
    (λ e.
    let first : j ≡ k - 1 = omega (arith, e) in
    let above : get_or xs j 0 < get_or xs (j + 1) 0 = subst (λ n. get_or xs n 0 < get_or xs (j + 1) 0) (sym first) (subst (λ n. get_or xs (k - 1) 0 < get_or xs n 0) (sym e) here) in
    let low = get_or_default xs j 0 d (omega (arith, e, lt)) in
    let high = get_or_default xs (j + 1) 0 d (omega (arith, e, lt)) in
    omega (arith, above, low, high))
    (λ before. all j d before) (eq-or-lt_of_le within)

pub loop-k-preserved : goal.loop-k-preserved
loop-k-preserved c = more c.args.w.now c.loop-k.k c.loop-k.auto.k c.loop-k-test.true c.if-w-k.false c.loop-k.invariant
