-- The splits of a plan, one side after the other.
use Rattle.std.proofs.Common.{◌≡◌, ℕ, ◌+◌, ◌*◌, ◌<◌, List, [], ◌∷◌, ◌++◌, map, length, get_or, All, refl, arith}
use Rattle.std.proofs.Common.{inl, length-append}
use Rattle.std.proofs.lemmas.List.{length-map}
use Rattle.std.proofs.lemmas.List.Elements.{All-append, All-cons, All-contains, All-nil, Contains-append_left, Contains-get_or}
use Rattle.staat_vec.specs.declared.vector.V3.{V3}
use Rattle.staat_vec.specs.Vectors.{IsWithin}
use Rattle.staat_model.proofs.Members.{both}
use Rattle.staat_model.specs.Plans.{Plan, leaf, split}
use Rattle.staat_explode.specs.declared.boxes.Bounds.{Bounds}
use Rattle.staat_explode.specs.declared.shifted.Shifted.{Shifted}
use Rattle.staat_explode.specs.declared.grow.TheConstants.{FARTHEST}
use Rattle.staat_explode.specs.declared.refusal.ExplodeRefusal.{ExplodeRefusal}
use Rattle.staat_explode.specs.declared.refusal.ExplodeRefusal.TheVariants.{TooFar, OutOfMemory}
use Rattle.staat_explode.specs.Shifts.{moved_on, parted, shifted_of, steps_apart}
use Rattle.staat_explode.specs.Sizes.{IsShiftable, IsShifted}
use Rattle.staat_explode.specs.Splits.{AllNear, HasFar, IsFar, IsRefused, IsTooFarAt, SplitAt, node_count, splits_from}
use Rattle.staat_vec.proofs.ListLaws.{first_left, first_right, All-map, Contains-map}

pub refused_on : (P Q : ℕ → Type 0) (e : ExplodeRefusal) → ((k : ℕ) → P k → Q k) → IsRefused P e
    → IsRefused Q e
refused_on P Q (TooFar k) f h = f k h
refused_on P Q OutOfMemory f h = tt

-- ---- one split

module _ (boxes : List Bounds) (node : ℕ) (d : V3) (moved rest : Plan) where
  abbrev this : SplitAt
  this = record { node = node; d = d; moved = moved; rest = rest }

  pub far_moved : (k : ℕ) → IsTooFarAt boxes (node + 1) moved k → IsTooFarAt boxes node (split d moved rest) k
  far_moved k h =
      record { s = h.s; first = first_left (IsFar boxes) (splits_from (node + 1) moved) _ h.s h.first; is = h.is }

  pub far_rest : (k : ℕ) → AllNear boxes (node + 1) moved → IsTooFarAt boxes (node + 1 + node_count moved) rest k
      → IsTooFarAt boxes node (split d moved rest) k
  far_rest k near h = record {
    s = h.s;
    first = first_right (IsFar boxes) (splits_from (node + 1) moved) _ h.s near (first_left (IsFar boxes) (splits_from (node + 1 + node_count moved) rest) (this ∷ []) h.s h.first);
    is = h.is;
  }

  pub far_here : (k : ℕ) → AllNear boxes (node + 1) moved → AllNear boxes (node + 1 + node_count moved) rest
      → (k ≡ node) × HasFar (parted boxes d (shifted_of boxes moved) (shifted_of boxes rest))
      → IsTooFarAt boxes node (split d moved rest) k
  far_here k near others h = record {
    s = this;
    first = first_right (IsFar boxes) (splits_from (node + 1) moved) _ this near (first_right (IsFar boxes) (splits_from (node + 1 + node_count moved) rest) (this ∷ []) this others (inl (refl, h.1)));
    is = h.0;
  }

  pub near_here : AllNear boxes (node + 1) moved → AllNear boxes (node + 1 + node_count moved) rest
      → All (λ p. IsWithin FARTHEST p.by) (parted boxes d (shifted_of boxes moved) (shifted_of boxes rest))
      → AllNear boxes node (split d moved rest)
  near_here near others all =
      All-append (λ s. IsFar boxes s → ⊥) (splits_from (node + 1) moved) _ near
      (All-append (λ s. IsFar boxes s → ⊥) (splits_from (node + 1 + node_count moved) rest) (this ∷ []) others
      (All-cons (λ s. IsFar boxes s
      → ⊥) this [] (λ far. far.2 (All-contains (λ p. IsWithin FARTHEST p.by) _ far.0 all far.1)) (All-nil (λ s. IsFar boxes s → ⊥))))

-- ---- counts

pub nodes_placed : (boxes : List Bounds) (plan : Plan) → 2 * length (shifted_of boxes plan) ≡ node_count plan + 1
nodes_placed boxes (leaf p) = refl
nodes_placed boxes (split d moved rest) =
    let on = moved_on (steps_apart boxes d (shifted_of boxes moved) (shifted_of boxes rest)) d in
    omega (arith, nodes_placed boxes moved, nodes_placed boxes rest, length-append (map on (shifted_of boxes moved)) (shifted_of boxes rest), length-map (shifted_of boxes moved) on)

-- ---- parts

parts_placed : (boxes : List Bounds) (n : ℕ) (plan : Plan) → IsShiftable n plan
    → All (λ p. p.part < n) (shifted_of boxes plan)
parts_placed boxes n (leaf p) h =
    All-cons (λ (q : Shifted). q.part < n) _ [] h (All-nil (λ (q : Shifted). q.part < n))
parts_placed boxes n (split d moved rest) h =
    let m = steps_apart boxes d (shifted_of boxes moved) (shifted_of boxes rest) in
    All-append (λ (q : Shifted). q.part < n) (map (moved_on m d) (shifted_of boxes moved)) (shifted_of boxes rest)
    (All-map (moved_on m d) (λ (q : Shifted). q.part < n) (shifted_of boxes moved) (parts_placed boxes n moved h.1))
    (parts_placed boxes n rest h.2)

pub all_placed : (boxes : List Bounds) (n : ℕ) (plan : Plan) → IsShiftable n plan
    → All (λ p. IsWithin FARTHEST p.by) (shifted_of boxes plan) → All (IsShifted n) (shifted_of boxes plan)
all_placed boxes n plan h near =
    both (λ (p : Shifted). p.part < n) (λ (p : Shifted). IsWithin FARTHEST p.by) (IsShifted n) (λ p a b. record { part = a; near = b }) (shifted_of boxes plan) (parts_placed boxes n plan h) near

-- ---- parts that are moved

pub far_in_map : (f : Shifted → Shifted) (ps rest : List Shifted) (k : ℕ) (d : Shifted) → k < length ps
    → (IsWithin FARTHEST (f (get_or ps k d)).by → ⊥) → HasFar (map f ps ++ rest)
far_in_map f ps rest k d lt far =
    (f (get_or ps k d), Contains-append_left (map f ps) rest _ (Contains-map f ps _ (Contains-get_or ps k d lt)), far)
