use Rattle.std.proofs.Common.{◌≡◌, ℕ, suc, ◌-◌, ◌<◌, subst, arith, rules}
use Rattle.staat_ring.specs.Links.{Arrays, give_all}
use Rattle.staat_ring.specs.RingViews.{entries_of}
use Rattle.staat_ring.proofs.Chains.{given, passed}
use Rattle.staat_ring.proofs.arrays.RingArrays.give_plane.Goals as goal

one_up : (n : ℕ) → 0 < n → n ≡ suc (n - 1)
one_up n h = omega arith

lowered : (n p c : ℕ) (b t : Arrays) → 0 < c → give_all (entries_of n p c) b ≡ t → give_all (entries_of n p (suc (c - 1))) b ≡ t
lowered n p c b t h e = subst (λ k. give_all (entries_of n p k) b ≡ t) (one_up c h) e

pub loop-c-preserved-then-c-p : goal.loop-c-preserved-then-c-p
loop-c-preserved-then-c-p c = search (rules, given, lowered)

pub loop-c-preserved : goal.loop-c-preserved
loop-c-preserved c = search (rules, passed, lowered)
