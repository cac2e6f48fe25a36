-- The first vertex that is not listed.
use Rattle.std.proofs.Common.{◌≡◌, ◌≢◌, ◌↔◌, ◌⊎◌, inl, inr, ⊎_elim, ℕ, ◌+◌, ◌<◌, sym, ap, subst, ◌∙◌, List, [], ◌∷◌, ◌++◌, length, get_or, drop, All, Contains}
use Rattle.std.specs.Prelude.{None, Option, Some, slice_get}
use Rattle.std.specs.declared.cmp.Ordering.TheVariants.{Equal}
use Rattle.std.proofs.lemmas.List.Elements.{All-append, All-cons, All-nil, All-weaker}
use Rattle.staat_vec.specs.declared.vector.V3.{V3}
use Rattle.staat_vec.specs.Lists.{IsFirst}
use Rattle.staat_vec.specs.Primitives.{canon, primitive}
use Rattle.staat_vec.specs.Vectors.{cross, negative, vector_cmp}
use Rattle.staat_vec.proofs.Canons.{canon-either, negative-negative}
use Rattle.staat_vec.proofs.VectorOrder.{vector_exact}
use Rattle.staat_model.specs.Planes.{crossings, vertices}
use Rattle.staat_check.specs.Known.{IsKnown, IsUnknown, IsUnknownOfBoth}
use Rattle.staat_check.specs.Searches.{AskedBehind, TellsFirst}
use Rattle.staat_pairs.proofs.DropLemmas.{drop_at}
use Rattle.staat_vec.proofs.ListLaws.{first_left, first_right}

-- ---- what is found by halving

pub found : (vs : List V3) (v : V3) (n : ℕ) → n < length vs → ((d : V3) → vector_cmp (get_or vs n d) v ≡ Equal) → Contains vs v
found vs v n lt equal = (n, lt, vector_exact (get_or vs n v) v (equal v))

-- ---- a search, front by front

module _ {X : Type 0} (P : X → Type 0) (whole old front behind : List X) (cut : old ≡ front ++ behind) (asked : AskedBehind P whole old) where
  -- what is in front keeps the rule
  pub asked_next : All P front → AskedBehind P whole behind
  asked_next all answer tells = asked answer (subst (λ l. TellsFirst P l answer) (sym cut) (go answer tells))
    where
      go : (answer : Option X) → TellsFirst P behind answer → TellsFirst P (front ++ behind) answer
      go None rest = All-append P front behind all rest
      go (Some x) first = first_right (λ y. P y → ⊥) front behind x (All-weaker P (λ y. (P y → ⊥) → ⊥) (λ y kept fails. fails kept) front all) first

  pub asked_found : (x : X) → IsFirst (λ y. P y → ⊥) front x → IsFirst (λ y. P y → ⊥) whole x
  asked_found x first = asked (Some x) (subst (λ l. IsFirst (λ y. P y → ⊥) l x) (sym cut) (first_left (λ y. P y → ⊥) front behind x first))

pub asked_end : {X : Type 0} (P : X → Type 0) (whole old : List X) → old ≡ [] → AskedBehind P whole old → All P whole
asked_end P whole old none asked = asked None (subst (All P) (sym none) (All-nil P))

-- the crossings of one plane, pair by pair
pub crossings_at : (g h : V3) (hs : List V3) (k : ℕ) (v : V3) → slice_get hs k ≡ Some h → v ≡ primitive (cross g h) → crossings g (drop k hs) ≡ (v ∷ negative v ∷ []) ++ crossings g (drop (k + 1) hs)
crossings_at g h hs k v at e = ap (crossings g) (drop_at hs k h at) ∙ ap (λ u. u ∷ negative u ∷ crossings g (drop (k + 1) hs)) (sym e)

-- the vertices, plane by plane
pub vertices_at : (g : V3) (gs behind : List V3) (k : ℕ) → slice_get gs k ≡ Some g → behind ≡ drop (k + 1) gs → vertices (drop k gs) ≡ crossings g behind ++ vertices (drop (k + 1) gs)
vertices_at g gs behind k at e = ap vertices (drop_at gs k g at) ∙ ap (λ l. crossings g l ++ vertices (drop (k + 1) gs)) (sym e)

pub both_known : {X : Type 0} (P : X → Type 0) (x y : X) → P x → P y → All P (x ∷ y ∷ [])
both_known P x y a b = All-cons P x (y ∷ []) a (All-cons P y [] b (All-nil P))

pub first_unknown_of : (version : ℕ) (listed : List V3) (v d : V3) → IsUnknownOfBoth version listed v (Some d) → IsFirst (IsUnknown version listed) (v ∷ negative v ∷ []) d
first_unknown_of version listed v d (inl h) = inl h
first_unknown_of version listed v d (inr h) = inr ((λ unknown. unknown h.0), inl (h.1, h.2))

-- ---- opposite vectors

-- in version 2 the canonical one stands for both
pub known_by_canon : (version : ℕ) (listed : List V3) (v : V3) → version ≡ 2 → (Contains listed (canon v) ⊎ Contains listed (negative (canon v))) ↔ IsKnown version listed v
known_by_canon version listed v two = go (canon-either v)
  where
    go : (canon v ≡ v) ⊎ (canon v ≡ negative v) → (Contains listed (canon v) ⊎ Contains listed (negative (canon v))) ↔ IsKnown version listed v
    go (inl e) = (
      ⊎_elim {C = IsKnown version listed v} (λ c. inl (subst (Contains listed) e c)) (λ c. inr (two, subst (λ w. Contains listed (negative w)) e c)),
      ⊎_elim {C = Contains listed (canon v) ⊎ Contains listed (negative (canon v))} (λ c. inl (subst (Contains listed) (sym e) c)) (λ h. inr (subst (λ w. Contains listed (negative w)) (sym e) h.1)),
    )
    go (inr e) = (
      ⊎_elim {C = IsKnown version listed v} (λ c. inr (two, subst (Contains listed) e c)) (λ c. inl (subst (Contains listed) (ap negative e ∙ negative-negative v) c)),
      ⊎_elim {C = Contains listed (canon v) ⊎ Contains listed (negative (canon v))} (λ c. inr (subst (Contains listed) (sym (ap negative e ∙ negative-negative v)) c)) (λ h. inl (subst (Contains listed) (sym e) h.1)),
    )

pub known_alone : (version : ℕ) (listed : List V3) (v : V3) → version ≢ 2 → Contains listed v ↔ IsKnown version listed v
known_alone version listed v other = (λ c. inl c, ⊎_elim {C = Contains listed v} (λ c. c) (λ h. absurd (other h.0)))

-- and a line serves both
pub known_opposite : (version : ℕ) (listed : List V3) (v : V3) → version ≡ 2 → IsKnown version listed v → IsKnown version listed (negative v)
known_opposite version listed v two known = ⊎_elim {C = IsKnown version listed (negative v)}
    (λ c. inr (two, subst (Contains listed) (sym (negative-negative v)) c))
    (λ h. inl h.1)
    known
