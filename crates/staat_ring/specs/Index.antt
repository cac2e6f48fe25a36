-- While the facets of a table are put down.
use Rattle.std.specs.Prelude.{◌≡◌, ◌≢◌, ◌⊎◌, ℕ, ◌<◌, ◌≤◌, List, length, take, sum, Some, slice_get}
use Rattle.staat_vec.specs.declared.vector.Sign.TheVariants.{Zero}
use Rattle.staat_model.specs.declared.certificate.Arc.{Arc}
use Rattle.staat_model.specs.Sets.{Has}
use Rattle.staat_pairs.specs.declared.table.TheConstants.{SLOTS}
use Rattle.staat_pairs.specs.Tables.{IsTableArc, Table, pieces_of, place, slot}
use Rattle.staat_ring.specs.declared.index.PiecePlace.{PiecePlace}
use Rattle.staat_ring.specs.Pairs.{no_pair, pair_at}
use Rattle.staat_ring.specs.CountedSigns.{Signed, against_at, along_at, state_at}
use Rattle.staat_ring.specs.SignChanges.{with_plane_pair}
use Rattle.staat_ring.specs.Belonging.{IsPairOf, IsUnused, PlaneFacet}

-- P holds of each place and its number
abbrev pub EachPlace : List PiecePlace → (ℕ → PiecePlace → Type 0) → Type 0
EachPlace places P = (p : ℕ) (x : PiecePlace) → slice_get places p ≡ Some x → P p x

-- the pieces of the parts below n, numbered through
pub record ArePlaces (t : Table) (n : ℕ) (places : List PiecePlace) : Type 0 where
  pub size : length places ≡ sum (take n t.pieces)
  pub part : EachPlace places (λ p x. Has t.of x.part)
  pub piece : EachPlace places (λ p x. x.piece < pieces_of t x.part)
  pub is : EachPlace places (λ p x. place t.pieces x.part x.piece ≡ p)

-- every plane has the sign Zero
abbrev pub AreZero : Signed → Type 0
AreZero s = (k : ℕ) → (state_at s.states k).sign ≡ Zero

-- nothing is known of the pair
pub record IsFresh (s : Signed) (q : ℕ) : Type 0 where
  pub pair : pair_at s.pairs q ≡ no_pair
  pub along : (k : ℕ) → along_at s.states k q ≡ 0
  pub against : (k : ℕ) → against_at s.states k q ≡ 0

-- what is known of the pair is as before
pub record IsPairKept (s u : Signed) (q : ℕ) : Type 0 where
  pub pair : pair_at u.pairs q ≡ pair_at s.pairs q
  pub along : (k : ℕ) → along_at u.states k q ≡ along_at s.states k q
  pub against : (k : ℕ) → against_at u.states k q ≡ against_at s.states k q

-- the pairs but q are as before
pub record AreSameBut (s u : Signed) (q : ℕ) : Type 0 where
  pub states : length u.states ≡ length s.states
  pub pairs : length u.pairs ≡ length s.pairs
  pub zero : AreZero u
  pub others : (p : ℕ) → p ≢ q → IsPairKept s u p

-- the number is a pair's, or no pair's
abbrev pub IsTold : Table → Signed → ℕ → Type 0
IsTold t s q =
    ((arc : Arc) × IsTableArc t arc × (slot t.pieces arc ≡ q) × IsPairOf t s arc)
    ⊎ (IsUnused s q × ((arc : Arc) → IsTableArc t arc → slot t.pieces arc ≡ q → ⊥))

-- the numbers below n are told, and of the others nothing is known
pub record AreToldBelow (t : Table) (s : Signed) (n : ℕ) : Type 0 where
  pub states : length s.states ≡ length t.planes
  pub pairs : length s.pairs ≡ SLOTS
  pub zero : AreZero s
  pub told : (q : ℕ) → q < n → IsTold t s q
  pub rest : (q : ℕ) → n ≤ q → IsFresh s q

-- one more facet of pair q
abbrev pub with_facet : PlaneFacet → ℕ → Signed → Signed
with_facet w q s = with_plane_pair w.plane w.turned q s
