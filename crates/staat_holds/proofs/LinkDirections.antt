-- Links at the opposite of a direction and at a multiple of it.
use Rattle.std.proofs.Common.{◌≡◌, ◌≢◌, ◌↔◌, ℕ, ◌≤◌, ℤ, pos, ◌≤ℤ◌, ◌<ℤ◌, ◌*ℤ◌, List, [], ◌∷◌, inl, inr, ⊎_elim, sym, ap, subst, ◌∙◌}
use Rattle.std.proofs.lemmas.List.Elements.{All-weaker}
use Rattle.staat_vec.specs.declared.vector.V3.{V3}
use Rattle.staat_vec.specs.Primitives.{primitive}
use Rattle.staat_vec.specs.Vectors.{dot, negative, origin, times}
use Rattle.staat_vec.proofs.Canons.{negative-negative}
use Rattle.staat_vec.proofs.Order.{not_positive_mul, pos_mul, positive_is}
use Rattle.staat_vec.proofs.Primitives.{primitive-is}
use Rattle.staat_vec.proofs.Ring.{at}
use Rattle.staat_vec.proofs.VecRing.{negativeE, ring3, timesE, v0, values}
use Rattle.staat_model.proofs.CornerLemmas.{dot_multiple}
use Rattle.staat_model.proofs.GraphLemmas.{positive_back}
use Rattle.staat_holds.specs.declared.links.Link.{Link}
use Rattle.staat_holds.specs.Links.{IsLinkAhead, IsJoined, LinkLeads, SomeLeads}
use Rattle.staat_holds.proofs.ReachLemmas.{all_carried, back}
use Rattle.staat_vec.proofs.Integers.{positive_pos}

-- at the opposite of d ways lead the other way
pub leads_opposite : (links : List Link) (d : V3) (x y : ℕ) → SomeLeads links d x y → SomeLeads links (negative d) y x
leads_opposite links d x y (link, listed, inl (ahead, from, to)) = (link, listed, inr (subst (IsLinkAhead link) (sym (negative-negative d)) ahead, to, from))
leads_opposite links d x y (link, listed, inr (behind, to, from)) = (link, listed, inl (behind, from, to))

pub joined_opposite : (links : List Link) (count : ℕ) (d : V3) → IsJoined links count d → IsJoined links count (negative d)
joined_opposite links count d all x y x_lt y_lt = back (λ a b l. leads_opposite links d a b l) (all y x y_lt x_lt)

ahead_multiple : (link : Link) (c d : V3) (k : ℕ) → 1 ≤ k → c ≡ times k d → IsLinkAhead link c ↔ IsLinkAhead link d
ahead_multiple link c d k some e = (
  λ ahead. All-weaker (λ n. pos 0 <ℤ dot n c) (λ n. pos 0 <ℤ dot n d) (λ n h. less (dot n c) (dot n d) (dot_multiple n c d k e) h) link.facets ahead,
  λ ahead. All-weaker (λ n. pos 0 <ℤ dot n d) (λ n. pos 0 <ℤ dot n c) (λ n h. positive_is (dot n c) (pos k *ℤ dot n d) (dot_multiple n c d k e) (pos_mul (pos k) (dot n d) (positive_pos k some) h)) link.facets ahead,
)
  where
    less : (a b : ℤ) → a ≡ pos k *ℤ b → pos 0 <ℤ a → pos 0 <ℤ b
    less a b same h = positive_back b a (λ low. subst (λ z. z ≤ℤ pos 0) (sym same) (not_positive_mul k b low)) h

negative_multiple : (c d : V3) (k : ℕ) → c ≡ times k d → negative c ≡ times k (negative d)
negative_multiple c d k e = ap negative e ∙ ring3 (values (d ∷ []) (pos k ∷ [])) (negativeE (timesE (at 3) v0)) (timesE (at 3) (negativeE v0)) (tt, tt, tt)

leads_multiple : (links : List Link) (c d : V3) (k : ℕ) → 1 ≤ k → c ≡ times k d → (x y : ℕ) → SomeLeads links c x y ↔ SomeLeads links d x y
leads_multiple links c d k some e x y = (
  λ l. (l.0, l.1, ⊎_elim {C = LinkLeads d l.0 x y} (λ h. inl ((ahead_multiple l.0 c d k some e).0 h.0, h.1, h.2)) (λ h. inr ((ahead_multiple l.0 (negative c) (negative d) k some (negative_multiple c d k e)).0 h.0, h.1, h.2)) l.2),
  λ l. (l.0, l.1, ⊎_elim {C = LinkLeads c l.0 x y} (λ h. inl ((ahead_multiple l.0 c d k some e).1 h.0, h.1, h.2)) (λ h. inr ((ahead_multiple l.0 (negative c) (negative d) k some (negative_multiple c d k e)).1 h.0, h.1, h.2)) l.2),
)

-- so they reach each other at a direction where they do at a multiple of it
pub joined_primitive : (links : List Link) (count : ℕ) (c : V3) → c ≢ origin → IsJoined links count c ↔ IsJoined links count (primitive c)
joined_primitive links count c some = let p = primitive-is c some in all_carried {R = SomeLeads links c} {S = SomeLeads links (primitive c)} count (leads_multiple links c (primitive c) p.factor p.positive p.multiple)
