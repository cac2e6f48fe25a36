-- The stops of a ring are those of its circle, and no two linked planes are parallel.
use Rattle.std.proofs.Common.{◌≡◌, ◌≢◌, ℕ, ap, ◌∙◌, List}
use Rattle.std.specs.Prelude.{Some, map, option_map, slice_get}
use Rattle.std.proofs.lemmas.Option.{slice_get-map}
use Rattle.staat_vec.specs.declared.vector.V3.{V3}
use Rattle.staat_pairs.specs.Tables.{AreTablePlanes}
use Rattle.staat_ring.specs.Rings.{Ring, RingStop, stop_of}
use Rattle.staat_model.specs.Circles.{IsLinked}
use Rattle.staat_vec.specs.Vectors.{cross, origin}

-- no two linked planes are parallel
pub record AreLinkedApart (planes : List V3) (linked : List ℕ) : Type 0 where
  pub apart : (i j : ℕ) (g h : V3) → IsLinked planes linked i g → IsLinked planes linked j h
      → i ≢ j → cross g h ≢ origin

pub stop_there : (planes : List V3) (r : Ring) (k : ℕ) (s : RingStop) → slice_get r.stops k ≡ Some s
    → slice_get (map (stop_of planes r.plane) r.stops) k ≡ Some (stop_of planes r.plane s)
stop_there planes r k s e = slice_get-map (stop_of planes r.plane) r.stops k ∙ ap (option_map (stop_of planes r.plane)) e

pub none_parallel : (planes : List V3) (linked : List ℕ) → AreTablePlanes planes → AreLinkedApart planes linked
none_parallel planes linked table = record { apart = λ i j g h gi hj ne. table.apart i j g h gi.is hj.is ne }
