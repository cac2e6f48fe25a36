-- Walks by relations that agree inside a set, and strength from what is reached and what reaches.
use Rattle.std.specs.Prelude.{ℕ, ◌<◌, ◌↔◌, List}
use Rattle.staat_model.specs.declared.set.PartSet.{PartSet}
use Rattle.staat_model.specs.Sets.{Has, IsSubset}
use Rattle.staat_graph.specs.Graphs.{HasArc, IsReach, IsStrong, Walks, here, along}
use Rattle.staat_graph.proofs.Walking.{joined, reach_back, turned, turned_back, walk_starts}
use Rattle.staat_ring.specs.BlockCounts.{HasBlock, ShowsCounts}

carried_in : {R S : ℕ → ℕ → Type 0} {w : PartSet} → ((a b : ℕ) → Has w a → Has w b → R a b → S a b) → {a c : ℕ} → Walks R w a c → Walks S w a c
carried_in f (here h) = here h
carried_in f (along b h r rest) = along b h (f _ b h (walk_starts rest) r) (carried_in f rest)

pub strong_same : (R S : ℕ → ℕ → Type 0) (w : PartSet) → ((a b : ℕ) → Has w a → Has w b → R a b ↔ S a b) → IsStrong R w ↔ IsStrong S w
strong_same R S w same = (
  λ strong a b a_in b_in. carried_in (λ p q hp hq. (same p q hp hq).0) (strong a b a_in b_in),
  λ strong a b a_in b_in. carried_in (λ p q hp hq. (same p q hp hq).1) (strong a b a_in b_in),
)

module _ (counts rows back : List ℕ) (w out into : PartSet) (p : ℕ) (is : ShowsCounts counts rows back) (small : (q : ℕ) → Has w q → q < 32) (p_in : Has w p) where
  rows_strong : IsStrong (HasArc rows) w ↔ IsStrong (HasBlock counts) w
  rows_strong = strong_same (HasArc rows) (HasBlock counts) w (λ a b a_in b_in. is.rows_are a b (small a a_in) (small b b_in))

  pub reached_of : IsReach (HasArc rows) w p out → IsStrong (HasBlock counts) w → IsSubset w out
  reached_of outs strong b b_in = outs.all b (rows_strong.1 strong p b p_in b_in)

  pub reaching_of : IsReach (HasArc back) w p into → IsStrong (HasBlock counts) w → IsSubset w into
  reaching_of ins strong a a_in = (reach_back rows back w p into is.back_are ins).all a (turned (rows_strong.1 strong a p a_in p_in))

  pub strong_of : IsReach (HasArc rows) w p out → IsReach (HasArc back) w p into → IsSubset w out → IsSubset w into → IsStrong (HasBlock counts) w
  strong_of outs ins all_out all_in = rows_strong.0 (λ a b a_in b_in. joined (turned_back ((reach_back rows back w p into is.back_are ins).walks a (all_in a a_in))) (outs.walks b (all_out b b_in)))
