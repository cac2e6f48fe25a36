-- Walks: how they join and turn round, and what they cannot leave.
use Rattle.std.proofs.Common.{◌≡◌, ℕ, List, sym, subst}
use Rattle.staat_model.specs.declared.set.PartSet.{PartSet}
use Rattle.staat_model.specs.Sets.{Has, IsSubset}
use Rattle.staat_model.specs.Bridges.{Back}
use Rattle.staat_graph.specs.Graphs.{AreReversed, HasArc, Walks, here, along, IsReach, IsShut}

module _ {R : ℕ → ℕ → Type 0} {w : PartSet} where
  pub walk_starts : {a c : ℕ} → Walks R w a c → Has w a
  walk_starts (here h) = h
  walk_starts (along b h r rest) = h

  pub walk_ends : {a c : ℕ} → Walks R w a c → Has w c
  walk_ends (here h) = h
  walk_ends (along b h r rest) = walk_ends rest

  pub joined : {a b c : ℕ} → Walks R w a b → Walks R w b c → Walks R w a c
  joined (here h) v = v
  joined (along b h r rest) v = along b h r (joined rest v)

  pub one_more : {a b c : ℕ} → Walks R w a b → R b c → Has w c → Walks R w a c
  one_more u r h = joined u (along _ (walk_ends u) r (here h))

  -- a walk does not leave a shut set
  pub stays : (s : PartSet) → IsShut R w s → {a c : ℕ} → Has s a → Walks R w a c → Has s c
  stays s shut h (here m) = h
  stays s shut h (along b m r rest) = stays s shut (shut _ b h (walk_starts rest) r) rest

-- a walk, seen from its end
pub turned : {R : ℕ → ℕ → Type 0} {w : PartSet} {a c : ℕ} → Walks R w a c → Walks (Back R) w c a
turned (here h) = here h
turned {R} {w} (along b h r rest) = joined (turned rest) (along _ (walk_starts rest) r (here h))

pub turned_back : {R : ℕ → ℕ → Type 0} {w : PartSet} {a c : ℕ} → Walks (Back R) w a c → Walks R w c a
turned_back {R} u = turned {R = Back R} u

-- what one graph has, the other has too
pub carried : {R S : ℕ → ℕ → Type 0} {w : PartSet} → ((a b : ℕ) → R a b → S a b) → {a c : ℕ} → Walks R w a c → Walks S w a c
carried f (here h) = here h
carried f (along b h r rest) = along b h (f _ b r) (carried f rest)

-- the sets that are reached in graphs with the same arcs
pub reach_carried : (R S : ℕ → ℕ → Type 0) (w : PartSet) (from : ℕ) (s : PartSet) → ((a b : ℕ) → R a b → S a b) → ((a b : ℕ) → S a b → R a b) → IsReach R w from s → IsReach S w from s
reach_carried R S w from s f g r = record { walks = λ q h. carried f (r.walks q h); all = λ q u. r.all q (carried g u) }

-- the set that is reached is shut
pub reach_shut : (R : ℕ → ℕ → Type 0) (w : PartSet) (from : ℕ) (s : PartSet) → IsReach R w from s → IsShut R w s
reach_shut R w from s r a b ha hb arc = r.all b (one_more (r.walks a ha) arc hb)

-- what is walked to and shut is what is reached
pub reach_from : (R : ℕ → ℕ → Type 0) (w : PartSet) (from : ℕ) (s : PartSet) → Has s from → ((q : ℕ) → Has s q → Walks R w from q) → IsShut R w s → IsReach R w from s
reach_from R w from s h walks shut = record { walks = walks; all = λ q u. stays s shut h u }

pub reach_all : (R : ℕ → ℕ → Type 0) (w : PartSet) (from : ℕ) (s : PartSet) → IsSubset w s → ((q : ℕ) → Has s q → Walks R w from q) → IsReach R w from s
reach_all R w from s all walks = record { walks = walks; all = λ q u. all q (walk_ends u) }

pub same_part : (R : ℕ → ℕ → Type 0) (w : PartSet) (p q : ℕ) → Has w p → q ≡ p → Walks R w p q
same_part R w p q h e = subst (Walks R w p) (sym e) (here h)

-- what is reached in the reversed graph
pub reach_back : (rows back : List ℕ) (w : PartSet) (p : ℕ) (s : PartSet) → AreReversed rows back → IsReach (HasArc back) w p s → IsReach (Back (HasArc rows)) w p s
reach_back rows back w p s turned = reach_carried (HasArc back) (Back (HasArc rows)) w p s (λ a b. (turned a b).0) (λ a b. (turned a b).1)
