use Rattle.std.specs.Prelude.{◌≡◌, ◌≢◌, All, List, ℕ, [], ◌∷◌, ◌++◌, codes, false, map, string_bytes, true}
use Rattle.staat_in_memory.proofs.parted.Given as goal

abbrev pub invariant-loop-word : goal.invariant-loop-word
invariant-loop-word l = record {
  plain : All (λ (w : List ℕ). w ≢ codes "--") (map string_bytes l.names.items);
  before : l.is_name ≡ true → (map string_bytes l.yielded ≡ map string_bytes l.names.items) × (l.words.items ≡ []);
  behind : l.is_name ≡ false → map string_bytes l.yielded ≡ map string_bytes l.names.items ++ codes "--" ∷ map string_bytes l.words.items;
}
