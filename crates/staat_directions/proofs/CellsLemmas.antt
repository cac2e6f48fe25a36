-- What is answered where the text of all cells was made, and where it is too long.
use Rattle.std.proofs.Common.{◌≡◌, ◌<◌, ◌≤◌, sym, ℕ, List, length, Ok, Err, refl, ap, subst}
use Rattle.staat_vec.specs.declared.vector.V3.{V3}
use Rattle.staat_model.specs.declared.assembly.Part.{Part}
use Rattle.staat_limits.specs.declared.limits.TheConstants.{TEXT_LIMIT}
use Rattle.staat_model.specs.declared.refusal.TextRefusal.{TextRefusal}
use Rattle.staat_model.specs.declared.refusal.TextRefusal.TheVariants as refusal
use Rattle.staat_fault.specs.declared.fault.Fault.TheVariants.{TextTooLong}
use Rattle.staat_text.specs.CellTexts.{IsCellsAnswer, IsCellsText}
use Rattle.staat_directions.specs.CellTables.{AreTabled, tabled, table_too_long}
use Rattle.staat_input.specs.Counting.{AreCounted, few, too_many}
use Rattle.staat_input.specs.Refusals.{text_fault}
use Rattle.staat_input.specs.Work.{Follows}

pub tabled_text : (parts : List Part) (n : ℕ) (text : List ℕ) → n ≡ length parts → IsCellsAnswer parts n (Ok text) → AreTabled parts (Ok (record { status = 0; text = text }))
tabled_text parts n text e (is, short) = tabled text (subst (λ n. IsCellsText parts n text) e is) short refl

pub tabled_refused : (parts : List Part) (n : ℕ) (r : TextRefusal) → n ≡ length parts → IsCellsAnswer parts n (Err r) → Follows (AreTabled parts) (Err (text_fault r))
tabled_refused parts n (refusal.TextTooLong k) e (text, is, long, many) =
    table_too_long text (subst (λ n. IsCellsText parts n text) e is) (subst (λ k. TEXT_LIMIT < k) long many) (ap (λ k. Err (TextTooLong k)) long)
tabled_refused parts n refusal.OutOfMemory e h = tt

-- the planes that are counted are no more than the limit
pub counted_most : (parts : List Part) (limit : ℕ) (planes : List V3) → AreCounted parts limit (Ok planes) → length planes ≤ limit
counted_most parts limit planes (too_many ps are many e) = absurd cc
counted_most parts limit planes (few ps are most e) =
    let same : planes ≡ ps = cc in
    subst (λ (xs : List V3). length xs ≤ limit) (sym same) most
