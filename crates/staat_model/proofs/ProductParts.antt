-- A part of a product that was read by its number.
use Rattle.std.proofs.Common.{◌≡◌, ℕ, ◌<◌, List, length, get_or, ap, sym, subst}
use Rattle.std.specs.Prelude.{Some, option_map, slice_get, unwrap_or}
use Rattle.std.proofs.lemmas.Option.{slice_get_read}
use Rattle.staat_model.specs.declared.assembly.Part.{Part}
use Rattle.staat_model.specs.Assemblies.{piece_count}

pub part_read : (parts seen : List Part) (a : ℕ) (part : Part) → seen ≡ parts → a < length parts → part ≡ get_or seen a part → slice_get parts a ≡ Some part
part_read parts seen a part same few is = subst (λ ps. slice_get ps a ≡ Some part) same (slice_get_read seen (length parts) a part (ap length (sym same)) few is)

pub count_read : (parts : List Part) (a : ℕ) (part : Part) → slice_get parts a ≡ Some part → piece_count parts a ≡ length part.pieces
count_read parts a part there = ap (λ o. unwrap_or (option_map (λ (p : Part). length p.pieces) o) 0) there
