use Rattle.std.proofs.Common.{◌≡◌, ◌*◌, take}
use Rattle.staat_vec.specs.Vectors.{IsWithin}
use Rattle.staat_pairs.specs.Tables.{facets_of}
use Rattle.staat_local.specs.Contacts.{total}
use Rattle.staat_local.proofs.pieces.facet_sum.Given as goal

abbrev pub invariant-loop-m : goal.invariant-loop-m
invariant-loop-m l = record {
  is : l.sum ≡ total (take l.m (facets_of l.table l.arc));
  size : IsWithin (l.m * 549755813888) l.sum;
}
