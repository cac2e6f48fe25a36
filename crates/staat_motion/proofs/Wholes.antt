-- Spans and shadows of several lists of points together.
use Rattle.std.proofs.Common.{◌≡◌, ◌∙◌, ◌⊎◌, inl, inr, ℕ, ◌+◌, ◌<◌, ◌≤◌, ℤ, ◌≤ℤ◌, List, [], ◌∷◌, ◌++◌, Contains, length, get_or, take, arith, subst, sym}
use Rattle.std.specs.Prelude.{flat_map}
use Rattle.std.specs.List.{AllZip}
use Rattle.std.proofs.lemmas.List.{append-nil, flat_map_more, take_more}
use Rattle.std.proofs.lemmas.List.Concat.{flat_map-cons}
use Rattle.std.proofs.lemmas.List.Elements.{All-append, All-contains, All-contains_itself, All-weaker}
use Rattle.staat_vec.specs.declared.vector.V3.{V3}
use Rattle.staat_vec.specs.Vectors.{dot}
use Rattle.staat_model.proofs.Members.{all_back, all_front}
use Rattle.staat_motion.specs.declared.shadow.Shadow.{Shadow}
use Rattle.staat_motion.specs.declared.spans.Span.{Span}
use Rattle.staat_motion.specs.Shadows.{IsJoinedShadow, IsShadow, IsWholeOf}
use Rattle.staat_motion.specs.Spans.{IsReachOf, IsSpan}
use Rattle.staat_motion.proofs.Zips.{zip_unpush}
use Rattle.staat_vec.proofs.Integers.{le_trans_ℤ}

place_front : (n : V3) (ps qs : List V3) (z : ℤ) → IsReachOf n ps z → IsReachOf n (ps ++ qs) z
place_front n ps qs z at = record {
  point = at.point;
  member = All-contains (Contains (ps ++ qs)) ps at.point (all_front (Contains (ps ++ qs)) ps qs (All-contains_itself (ps ++ qs))) at.member;
  is = at.is;
}

place_back : (n : V3) (ps qs : List V3) (z : ℤ) → IsReachOf n qs z → IsReachOf n (ps ++ qs) z
place_back n ps qs z at = record {
  point = at.point;
  member = All-contains (Contains (ps ++ qs)) qs at.point (all_back (Contains (ps ++ qs)) ps qs (All-contains_itself (ps ++ qs))) at.member;
  is = at.is;
}

either_place : (n : V3) (ps qs : List V3) (a b z : ℤ) → (z ≡ a) ⊎ (z ≡ b) → IsReachOf n ps a → IsReachOf n qs b → IsReachOf n (ps ++ qs) z
either_place n ps qs a b z (inl e) h k = subst (IsReachOf n (ps ++ qs)) (sym e) (place_front n ps qs a h)
either_place n ps qs a b z (inr e) h k = subst (IsReachOf n (ps ++ qs)) (sym e) (place_back n ps qs b k)

pub span_joined : (s t r : Span) → (r.low ≡ s.low) ⊎ (r.low ≡ t.low) → (r.high ≡ s.high) ⊎ (r.high ≡ t.high) → r.low ≤ℤ s.low → r.low ≤ℤ t.low → s.high ≤ℤ r.high → t.high ≤ℤ r.high
    → (n : V3) (ps qs : List V3) → IsSpan n ps s → IsSpan n qs t → IsSpan n (ps ++ qs) r
span_joined s t r low high low_s low_t high_s high_t n ps qs h k = record {
  low_in = either_place n ps qs s.low t.low r.low low h.low_in k.low_in;
  high_in = either_place n ps qs s.high t.high r.high high h.high_in k.high_in;
  least = All-append (λ p. r.low ≤ℤ dot n p) ps qs
      (All-weaker (λ p. s.low ≤ℤ dot n p) (λ p. r.low ≤ℤ dot n p) (λ p le. le_trans_ℤ r.low s.low (dot n p) low_s le) ps h.least)
      (All-weaker (λ p. t.low ≤ℤ dot n p) (λ p. r.low ≤ℤ dot n p) (λ p le. le_trans_ℤ r.low t.low (dot n p) low_t le) qs k.least);
  greatest = All-append (λ p. dot n p ≤ℤ r.high) ps qs
      (All-weaker (λ p. dot n p ≤ℤ s.high) (λ p. dot n p ≤ℤ r.high) (λ p le. le_trans_ℤ (dot n p) s.high r.high le high_s) ps h.greatest)
      (All-weaker (λ p. dot n p ≤ℤ t.high) (λ p. dot n p ≤ℤ r.high) (λ p le. le_trans_ℤ (dot n p) t.high r.high le high_t) qs k.greatest);
}

-- the shadow of the first piece is the whole of it
pub first_whole : (ss : List Shadow) (d : Shadow) → 1 ≤ length ss → IsWholeOf (take 1 ss) (get_or ss 0 d)
first_whole [] d lt = absurd (omega arith)
first_whole (s ∷ ss) d lt = one
  where
    one : IsWholeOf (s ∷ []) s
    one f [] z = absurd z
    one f (p ∷ []) z = subst (λ (l : List V3). IsShadow f l s) (sym (flat_map-cons (λ q. q) p [] ∙ append-nil p)) z.0
    one f (p ∷ q ∷ ps) z = absurd z.1

-- one more shadow
pub whole_more : (ss : List Shadow) (k : ℕ) (d w r : Shadow) → k < length ss → IsWholeOf (take k ss) w → IsJoinedShadow w (get_or ss k d) r → IsWholeOf (take (k + 1) ss) r
whole_more ss k d w r lt whole joined f pieces z =
    let (front, p, is, zs, h) = zip_unpush (IsShadow f) pieces (take k ss) (get_or ss k d) (subst (AllZip (IsShadow f) pieces) (take_more ss k d lt) z) in
    subst (λ (ps : List (List V3)). IsShadow f (flat_map (λ q. q) ps) r) (sym is)
    (subst (λ (l : List V3). IsShadow f l r) (flat_map_more (λ q. q) [] front p) (joined f (flat_map (λ q. q) front) p (whole f front zs) h))
