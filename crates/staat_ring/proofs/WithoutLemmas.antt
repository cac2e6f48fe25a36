-- The circle without a plane is the circle of the planes without it.
use Rattle.std.proofs.Common.{◌≡◌, ◌≢◌, ◌⊎◌, inl, inr, ⊎_elim, ℕ, Bool, true, false, not, ap, sym, subst, ◌∙◌, refl, List, [], ◌∷◌, cond, All, Contains}
use Rattle.std.specs.Prelude.{◌==◌, map}
use Rattle.std.specs.List.{filter}
use Rattle.std.proofs.lemmas.Bool.Decides.{Decides-eqb}
use Rattle.staat_vec.proofs.Unique.{Contains-cases, Contains-front, Contains-later, Contains-nothing}
use Rattle.staat_vec.specs.declared.vector.V3.{V3}
use Rattle.staat_model.proofs.Members.{All-from_members}
use Rattle.std.proofs.lemmas.List.Elements.{All-contains, All-contains_itself, All-filter, filter_passes}
use Rattle.staat_ring.specs.declared.entry.Entry.{Entry}
use Rattle.staat_ring.specs.Rings.{IsRingOf, Ring, RingStop, crossing, vertex_of}
use Rattle.staat_ring.proofs.CircleStops.{entry_vertex}
use Rattle.staat_ring.proofs.Stops.{AreLinkedApart}
use Rattle.staat_ring.specs.Without.{has_some, other_than, ring_without, stays, stop_without}
use Rattle.staat_vec.proofs.Truth.{false_true_clash, true_not_clash}
use Rattle.staat_vec.proofs.Naturals.{same_or, eq_test_false}
use Rattle.staat_vec.proofs.ListLaws.{Contains-from_map}

-- ---- filtered lists

pub filter_in : {X : Type 0} (p : X → Bool) (xs : List X) (x : X) → Contains xs x → p x ≡ true → Contains (filter p xs) x
filter_in p [] x c h = absurd (Contains-nothing x c)
filter_in {X = X} p (y ∷ xs) x c h = go (p y) refl (Contains-cases y xs x c) (λ l. filter_in p xs x l h)
  where
    go : (b : Bool) → p y ≡ b → (x ≡ y) ⊎ Contains xs x → (Contains xs x → Contains (filter p xs) x) → Contains (cond b (y ∷ filter p xs) (filter p xs)) x
    go true e (inl q) rest = subst (Contains (y ∷ filter p xs)) (sym q) (Contains-front y (filter p xs))
    go true e (inr l) rest = Contains-later y (filter p xs) x (rest l)
    go false e (inl q) rest = absurd (false_true_clash (p y) e (ap p (sym q) ∙ h))
    go false e (inr l) rest = rest l

pub filter_from : {X : Type 0} (p : X → Bool) (xs : List X) (x : X) → Contains (filter p xs) x → Contains xs x × (p x ≡ true)
filter_from p xs x c = (
  All-contains (Contains xs) (filter p xs) x (All-filter p (Contains xs) xs (All-contains_itself xs)) c,
  All-contains (λ x. p x ≡ true) (filter p xs) x (filter_passes p xs) c,
)

-- ---- members that differ

abbrev pub Different : {X Y : Type 0} → (X → Y) → List X → Type 0
Different f [] = Unit {0}
Different {X = X} f (x ∷ xs) = ((y : X) → Contains xs y → f x ≢ f y) × Different f xs

pub different_filter : {X Y : Type 0} (f : X → Y) (p : X → Bool) (xs : List X) → Different f xs → Different f (filter p xs)
different_filter f p [] h = tt
different_filter {X = X} f p (x ∷ xs) h = go (p x) (different_filter f p xs h.1)
  where
    go : (b : Bool) → Different f (filter p xs) → Different f (cond b (x ∷ filter p xs) (filter p xs))
    go true r = ((λ y c. h.0 y (filter_from p xs y c).0), r)
    go false r = r

-- ---- entries

other_is : (p : ℕ) (e : Entry) → e.plane ≢ p → other_than p e ≡ true
other_is p e ne = ap not (eq_test_false e.plane p ne)

is_other : (p : ℕ) (e : Entry) → other_than p e ≡ true → e.plane ≢ p
is_other p e h q = true_not_clash (e.plane == p) ((Decides-eqb e.plane p).1 q) h

some_has : (es : List Entry) (e : Entry) → Contains es e → has_some es ≡ true
some_has [] e c = absurd (Contains-nothing e c)
some_has (x ∷ es) e c = refl

has_first : (es : List Entry) → has_some es ≡ true → (e : Entry) × Contains es e
has_first [] h = cc
has_first (e ∷ es) h = (e, Contains-front e es)

-- a stop that stays has an entry of another plane
pub stays_by : (p : ℕ) (s : RingStop) (e : Entry) → Contains s.entries e → e.plane ≢ p → stays p s ≡ true
stays_by p s e c ne = some_has (filter (other_than p) s.entries) e (filter_in (other_than p) s.entries e c (other_is p e ne))

pub stays_has : (p : ℕ) (s : RingStop) → stays p s ≡ true → (e : Entry) × Contains (filter (other_than p) s.entries) e × Contains s.entries e × (e.plane ≢ p)
stays_has p s h =
    let f = has_first (filter (other_than p) s.entries) h in
    let g = filter_from (other_than p) s.entries f.0 f.1 in
    (f.0, f.1, g.0, is_other p f.0 g.1)

-- one that does not has none
pub leaves_by : (p : ℕ) (s : RingStop) → stays p s ≡ false → (e : Entry) → Contains s.entries e → e.plane ≡ p
leaves_by p s h e c = ⊎_elim {C = e.plane ≡ p} (λ q. q) (λ ne. absurd (false_true_clash (stays p s) h (stays_by p s e c ne))) (same_or e.plane p)

-- ---- the vertex of a stop stays

vertex_by : (planes : List V3) (c : ℕ) (v : V3) (es : List Entry) → ((e : Entry) → Contains es e → crossing planes c e ≡ v) → has_some es ≡ true → vertex_of planes c es ≡ v
vertex_by planes c v [] all h = cc
vertex_by planes c v (e ∷ es) all h = all e (Contains-front e es)

module _ (planes : List V3) (linked : List ℕ) (r : Ring) (p : ℕ) (apart : AreLinkedApart planes linked) (is : IsRingOf planes linked r) where
  pub vertex_stays : (s : RingStop) → Contains r.stops s → stays p s ≡ true → vertex_of planes r.plane (filter (other_than p) s.entries) ≡ vertex_of planes r.plane s.entries
  vertex_stays s cs h = vertex_by planes r.plane (vertex_of planes r.plane s.entries) (filter (other_than p) s.entries) (λ e ce. entry_vertex planes linked r apart is s e cs (filter_from (other_than p) s.entries e ce).0) h

  -- each entry of a stop that stays still names its vertex
  pub agree_without : All (λ s. All (λ e. crossing planes r.plane e ≡ vertex_of planes r.plane s.entries) s.entries) (ring_without p r).stops
  agree_without = All-from_members (λ s. All (λ e. crossing planes r.plane e ≡ vertex_of planes r.plane s.entries) s.entries) (map (stop_without p) (filter (stays p) r.stops)) (λ u cu.
      let (s, cs, es) = Contains-from_map (stop_without p) (filter (stays p) r.stops) u cu in
      let f = filter_from (stays p) r.stops s cs in
      subst (λ (u : RingStop). All (λ e. crossing planes r.plane e ≡ vertex_of planes r.plane u.entries) u.entries) es
      (All-from_members (λ e. crossing planes r.plane e ≡ vertex_of planes r.plane (filter (other_than p) s.entries)) (filter (other_than p) s.entries) (λ e ce. entry_vertex planes linked r apart is s e f.0 (filter_from (other_than p) s.entries e ce).0 ∙ sym (vertex_stays s f.0 f.1))))
