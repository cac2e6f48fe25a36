-- The step of the scan for a span.
use Rattle.std.proofs.Common.{◌≡◌, ◌∙◌, ℕ, ◌<◌, ◌⊎◌, inl, inr, ℤ, List, length, get_or, subst, sym}
use Rattle.std.proofs.lemmas.List.{get_or_default}
use Rattle.staat_vec.specs.declared.vector.V3.{V3}
use Rattle.staat_vec.specs.Vectors.{dot}
use Rattle.staat_motion.specs.Spans.{IsReachOf}

-- the better of two places is a place again
pub place_more : (n : V3) (xs : List V3) (i : ℕ) (z : V3) (old here new : ℤ) → i < length xs → IsReachOf n xs old → here ≡ dot n (get_or xs i z) → (new ≡ here) ⊎ (new ≡ old)
    → IsReachOf n xs new
place_more n xs i z old here new lt was is (inl same) = record {
  point = get_or xs i z;
  member = (i, lt, get_or_default xs i (get_or xs i z) z lt);
  is = same ∙ is;
}
place_more n xs i z old here new lt was is (inr same) = subst (IsReachOf n xs) (sym same) was
