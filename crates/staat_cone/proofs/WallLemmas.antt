-- Points that lie least and farthest along a normal, and what they say of all points.
use Rattle.std.proofs.Common.{Option, IfSome, IfNone, is_some, Some, None, ◌≡◌, ℕ, ◌+◌, ◌<◌, ◌↔◌, ◌⊎◌, inl, inr, arith, sym, ap, subst, ◌∙◌, Bool, not, ℤ, ◌≤ℤ◌, ◌<ℤ◌, List, get_or, length, below_more, IsTrue, Contains, All, pos, neg_ℤ}
use Rattle.std.proofs.lemmas.Int.{ints}
use Rattle.std.proofs.lemmas.List.{get_or_default}
use Rattle.std.proofs.lemmas.List.Elements.{All-contains}
use Rattle.staat_vec.specs.declared.vector.V3.{V3}
use Rattle.staat_vec.specs.Vectors.{dot, minus, negative}
use Rattle.staat_vec.proofs.VecRing.{dot_comm, dot_negative}
use Rattle.staat_cone.specs.declared.walls.Placed.{Placed}
use Rattle.staat_cone.specs.Few.{IsViolator}
use Rattle.staat_model.specs.Facets.{IsFacet}
use Rattle.staat_model.specs.Meeting.{Meets}
use Rattle.staat_model.specs.Pieces.{IsPiece}
use Rattle.staat_model.specs.Walls.{IsBeyond}
use Rattle.staat_model.proofs.Members.{All-from_members}
use Rattle.staat_model.proofs.PieceFacets.{meets_by_facets_lemma}
use Rattle.staat_model.proofs.WallLaws.{dot-minus}
use Rattle.staat_vec.proofs.Order.{nonneg_is}
use Rattle.staat_vec.proofs.Truth.{from_not_false, not_true_clash}
use Rattle.staat_vec.proofs.Integers.{negative_nonneg_clash, span_nonneg, le_trans_ℤ}

module _ {X : Type 0} (f : X → ℤ) (xs : List X) (i : ℕ) (z : X) (best new : ℤ) (lt : i < length xs) where
  pub nearer_step : ((k : ℕ) (d : X) → k < i → best ≤ℤ f (get_or xs k d)) → new ≤ℤ f (get_or xs i z) → new ≤ℤ best → (k : ℕ) (d : X) → k < i + 1 → new ≤ℤ f (get_or xs k d)
  nearer_step all' one two k d = below_more (λ k. new ≤ℤ f (get_or xs k d)) i (λ k h. le_trans_ℤ new best (f (get_or xs k d)) two (all' k d h)) (subst (λ x. new ≤ℤ f x) (get_or_default xs i z d lt) one) k

  pub farther_step : ((k : ℕ) (d : X) → k < i → f (get_or xs k d) ≤ℤ best) → f (get_or xs i z) ≤ℤ new → best ≤ℤ new → (k : ℕ) (d : X) → k < i + 1 → f (get_or xs k d) ≤ℤ new
  farther_step all' one two k d = below_more (λ k. f (get_or xs k d) ≤ℤ new) i (λ k h. le_trans_ℤ (f (get_or xs k d)) best new (all' k d h) two) (subst (λ x. f x ≤ℤ new) (get_or_default xs i z d lt) one) k

-- what the better of two placed points keeps: it is a member, and lies where its place says
pub placed_step : (n : V3) (xs : List V3) (i : ℕ) (z : V3) (best here new : Placed) → i < length xs → Contains xs best.point → best.along ≡ dot n best.point → here.point ≡ get_or xs i z → here.along ≡ dot n (get_or xs i z) → (new ≡ here) ⊎ (new ≡ best)
    → Contains xs new.point × (new.along ≡ dot n new.point)
placed_step n xs i z best here new lt h e p a (inl same) =
    let at : new.point ≡ get_or xs i z = ap (λ b. b.point) same ∙ p in
    ((i, lt, get_or_default xs i new.point z lt ∙ sym at), ap (λ b. b.along) same ∙ a ∙ ap (dot n) (sym at))
placed_step n xs i z best here new lt h e p a (inr same) =
    (subst (λ b. Contains xs b.point) (sym same) h, ap (λ b. b.along) same ∙ e ∙ ap (λ b. dot n b.point) (sym same))

-- all of q lies beyond all of p where its nearest point does not lie before p's farthest
pub beyond_by_ends : (p q : List V3) (n : V3) (low high : ℤ) → All (λ x. low ≤ℤ dot n x) q → All (λ x. dot n x ≤ℤ high) p → high ≤ℤ low → IsBeyond p q n
beyond_by_ends p q n low high least most le =
    All-from_members (λ a. All (λ b. pos 0 ≤ℤ dot n (minus b a)) q) p (λ a a_in. All-from_members (λ b. pos 0 ≤ℤ dot n (minus b a)) q (λ b b_in.
    span_nonneg (dot n a) (dot n b) high low (dot n (minus b a)) (dot-minus n b a) (All-contains (λ x. dot n x ≤ℤ high) p a most a_in) (All-contains (λ x. low ≤ℤ dot n x) q b least b_in) le))

-- and not where a difference lies behind n
pub beyond_or_not : (p q : List V3) (n : V3) (r : Option V3) (b : Bool) → is_some r ≡ not b → IfSome r (IsViolator p q n) → IfNone r (IsBeyond p q n) → IsTrue b ↔ IsBeyond p q n
beyond_or_not p q n None b e some none = (λ t. none, λ up. from_not_false b (sym e))
beyond_or_not p q n (Some v) b e some none =
    let d = some.step.difference in
    let side : IsBeyond p q n → pos 0 ≤ℤ dot v n = λ up. nonneg_is (dot v n) (dot n (minus d.b d.a)) (dot_comm v n ∙ ap (dot n) d.is)
    (All-contains (λ b. pos 0 ≤ℤ dot n (minus b d.a)) q d.b (All-contains (λ a. All (λ b. pos 0 ≤ℤ dot n (minus b a)) q) p d.a up d.a_in) d.b_in) in
    (λ t. absurd (not_true_clash b (sym e) t), λ up. absurd (negative_nonneg_clash (dot v n) some.behind (side up)))

-- p meets q along d just where d leads ahead of each member of the list of their facets
pub meets_by_list : (p q facets : List V3) (d : V3) → IsPiece p → IsPiece q → ((n : V3) → Contains facets n ↔ IsFacet p q n) → Meets p q d ↔ All (λ n. pos 0 <ℤ dot n d) facets
meets_by_list p q facets d is_p is_q are =
    let law = meets_by_facets_lemma p q d is_p is_q in (
      (λ m. All-from_members (λ n. pos 0 <ℤ dot n d) facets (λ n n_in. law.0 m n ((are n).0 n_in))),
      (λ ahead. law.1 (λ n f. All-contains (λ n. pos 0 <ℤ dot n d) facets n ahead ((are n).1 f))),
    )

-- what lies behind the other side of a plane lies off the plane
pub off_behind : (v n m : V3) → m ≡ negative n → dot v m <ℤ pos 0 → dot v n ≡ pos 0 → ⊥
off_behind v n m e h z = below (dot v m) (dot v n) (ap (dot v) e ∙ dot_negative v n) z h
  where
    below : (a b : ℤ) → a ≡ neg_ℤ b → b ≡ pos 0 → a <ℤ pos 0 → ⊥
    below a b e z h = omega (arith, ints)
