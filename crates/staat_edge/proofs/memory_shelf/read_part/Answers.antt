use Rattle.std.proofs.Common.{◌++◌, le_refl, ◌≡◌, ◌∙◌, ◌+◌, ◌^◌, ◌-◌, ◌<◌, ◌≤◌, ℕ, [], List, Option, None, Some, ap, arith, drop, length, min, subst, sym, take}
use Rattle.std.proofs.Math.ListN.{drop_of_length-le}
use Rattle.std.proofs.lemmas.List.{drop-drop, length-drop, take-append-drop}
use Rattle.std.proofs.lemmas.Option.{none-some, slice_get-get_or, slice_get_past}
use Rattle.std.proofs.lemmas.Slice.{between_to_end}
use Rattle.std.specs.Io.KnownBytes.{Consumes, IsAtEnd}
use Rattle.std.specs.Prelude.{option_map, slice_get}
use Rattle.staat_edge.specs.Files.{length_of}
use Rattle.staat_edge.proofs.memory_shelf.read_part.Goals as goal

-- what is left of a file from a place on
abbrev left : ℕ → Option (List ℕ × List ℕ) → Option (List ℕ)
left place file = option_map (λ f. drop place f.1) file

-- a read that gave so many bytes of a file, which are those
abbrev Gave : Option (List ℕ × List ℕ) → ℕ → ℕ → List ℕ → ℕ → Type 0
Gave file place room bytes count = (count ≡ min room (length_of (left place file))) × Consumes (left place file) (left (place + count) file) bytes
    × (count ≡ 0 → 0 < room → IsAtEnd (left (place + count) file))

stays : (place : ℕ) → place < 2 ^ 64 → place + 0 < 2 ^ 64
stays place fits = omega arith

no_file : (file : Option (List ℕ × List ℕ)) (place room : ℕ) → file ≡ None → Gave file place room [] 0
no_file None place room is = (omega arith, tt, λ _ _. tt)
no_file (Some f) place room is = absurd (none-some f (sym is))

at_its_end : (files : Option (List ℕ × List ℕ)) (file : List ℕ × List ℕ) (place room : ℕ) → files ≡ Some file → length file.1 ≤ place → Gave files place room [] 0
at_its_end files file place room is past =
    let none : drop place file.1 ≡ [] = drop_of_length-le file.1 past in
    let none_after : drop (place + 0) file.1 ≡ [] = drop_of_length-le file.1 (omega arith) in
    subst (λ o. Gave o place room [] 0) (sym is) (omega (arith, ap length none), none ∙ sym none_after, λ _ _. none_after)

some_bytes : (o : Option (List ℕ × List ℕ)) (file : List ℕ × List ℕ) (place count : ℕ) (old new : List ℕ) → o ≡ Some file → place < length file.1
    → count ≡ min (length (take (length file.1 - place) (drop place file.1))) (length old) → take count new ≡ take count (take (length file.1 - place) (drop place file.1))
    → Gave o place (length old) (take count new) count × (place + count ≤ length file.1)
some_bytes o file place count old new is before count_is copied =
    let rest = drop place file.1 in
    let all : take (length file.1 - place) rest ≡ rest = between_to_end file.1 place (length file.1) (le_refl (length file.1)) in
    let consumed : rest ≡ take count new ++ drop (place + count) file.1 =
    sym (ap (λ l. take count new ++ l) (sym (drop-drop count place file.1)) ∙ ap (λ l. l ++ drop count rest) (copied ∙ ap (take count) all) ∙ take-append-drop count rest) in
    let most : count ≡ min (length old) (length rest) = omega (arith, count_is, ap length all) in (
      subst (λ f. Gave f place (length old) (take count new) count) (sym is) (most, consumed, λ none some. absurd (omega (arith, length-drop place file.1, most, none, some, before))),
      omega (arith, length-drop place file.1, most, before),
    )

pub returns-in-None : goal.returns-in-None
returns-in-None c =
    let gave = no_file (slice_get c.args.files.now c.args.index) c.args.place (length c.args.buf.now) (slice_get_past _ _ c.in-None.ensures.lookup.3) in
    record { count = gave.0; bytes = gave.1; end = gave.2; fits = stays c.args.place c.ranges.place.fits }

pub returns-else-place-bytes : goal.returns-else-place-bytes
returns-else-place-bytes c =
    let is = slice_get-get_or c.args.files.now c.args.index c.in-Some.file.now c.in-Some.ensures.lookup.3.0 ∙ ap Some (sym c.in-Some.ensures.lookup.1) in
    let gave = at_its_end (slice_get c.args.files.now c.args.index) c.in-Some.file.now c.args.place (length c.args.buf.now) is (subst (λ n. n ≤ c.args.place) (ap length c.as_slice-bytes.ensures) c.if-place-bytes.false) in
    record { count = gave.0; bytes = gave.1; end = gave.2; fits = stays c.args.place c.ranges.place.fits }

pub returns-then-place-bytes : goal.returns-then-place-bytes
returns-then-place-bytes c =
    let f = c.in-Some.file.now in
    let is = slice_get-get_or c.args.files.now c.args.index f c.in-Some.ensures.lookup.3.0 ∙ ap Some (sym c.in-Some.ensures.lookup.1) in
    let before : c.args.place < length f.1 = subst (λ l. c.args.place < length l) c.as_slice-bytes.ensures c.if-place-bytes.true in
    let rest : take (length c.as_slice-bytes.result.now - c.args.place) (drop c.args.place c.as_slice-bytes.result.now) ≡ take (length f.1 - c.args.place) (drop c.args.place f.1) =
    ap (λ l. take (length l - c.args.place) (drop c.args.place l)) c.as_slice-bytes.ensures in
    let gave = some_bytes (slice_get c.args.files.now c.args.index) f c.args.place c.copy_front.result c.args.buf.now c.copy_front.new.to is before
    (c.copy_front.ensures.count ∙ ap (λ l. min (length l) (length c.args.buf.now)) rest) (c.copy_front.ensures.copied ∙ ap (take c.copy_front.result) rest) in
    record { count = gave.0.0; bytes = gave.0.1; end = λ none some. gave.0.2 none (subst (λ n. 0 < n) c.copy_front.auto.to some); fits = omega (arith, gave.1) }
