-- The rows that tell which parts of a product block which are those of its blocking graph.
use Rattle.std.proofs.Common.{◌≡◌, ◌∙◌, ◌↔◌, ◌<◌, ℕ, Bool, false, List, [], IsTrue, Ok, arith, ap, get_or, length, map, subst, sym, zero-add}
use Rattle.std.specs.List.{range_with_len}
use Rattle.std.proofs.lemmas.Grind.{get_or_default_zero}
use Rattle.std.proofs.lemmas.List.FromFn.{get_or-range_with_len, length-range_with_len}
use Rattle.staat_vec.specs.declared.vector.V3.{V3}
use Rattle.staat_model.specs.declared.assembly.Part.{Part}
use Rattle.staat_model.specs.Removal.{Blocks}
use Rattle.staat_model.specs.Sets.{below}
use Rattle.staat_model.proofs.SetBits.{has-below}
use Rattle.staat_motion.proofs.Zips.{zip_read}
use Rattle.staat_graph.specs.Blocking.{ShowsBlocking}
use Rattle.staat_graph.specs.Rows.{HasMark, IsSquare, row_word}
use Rattle.staat_graph.proofs.RowLemmas.{arc_mark}
use Rattle.staat_text.specs.GraphTexts.{IsGraphText}
use Rattle.staat_input.specs.declared.answer.Answer.{Answer}
use Rattle.staat_input.specs.Work.{answer}
use Rattle.staat_directions.specs.Graphing.{IsGraphed}
use Rattle.staat_decide.specs.Arcs.{AreBlockingRows, IsRow}
use Rattle.staat_decide.proofs.Rows.{row_at, row_count, row_lengths}

module _ (parts : List Part) (d : V3) (rows : List (List Bool)) (are : AreBlockingRows parts d (range_with_len 0 (length parts)) rows) where
  abbrev listed : List ℕ
  listed = range_with_len 0 (length parts)

  long : length listed ≡ length parts
  long = length-range_with_len 0 (length parts)

  pub rows_count : length rows ≡ length parts
  rows_count = row_count parts d listed rows are ∙ long

  pub rows_square : IsSquare rows
  rows_square k e lt = row_lengths parts d listed rows are k e lt ∙ sym (row_count parts d listed rows are)

  number_at : (a : ℕ) → a < length parts → get_or listed a 0 ≡ a
  number_at a lt = get_or-range_with_len 0 (length parts) a 0 lt ∙ zero-add a

  marks : (a b : ℕ) → a < length parts → b < length parts → HasMark rows a b ↔ Blocks parts d a b
  marks a b a_in b_in =
      let b_at : b < length listed = omega (arith, long, b_in) in
      let row : IsRow parts d listed (get_or listed a 0) (get_or rows a []) = row_at parts d listed rows a are (omega (arith, long, a_in)) in
      let one : IsTrue (get_or (get_or rows a []) b false) ↔ Blocks parts d (get_or listed a 0) (get_or listed b 0) =
      zip_read (λ q answer. IsTrue answer ↔ Blocks parts d (get_or listed a 0) q) listed (get_or rows a []) b (get_or listed b 0) false row b_at (sym (get_or_default_zero listed b (get_or listed b 0) b_at)) in
      subst (λ x. HasMark rows a b ↔ Blocks parts d x b) (number_at a a_in)
      (subst (λ y. HasMark rows a b ↔ Blocks parts d (get_or listed a 0) y) (number_at b b_in) one)

  pub rows_show : ShowsBlocking parts d (below (length parts)) (map row_word rows)
  rows_show a b a_in b_in =
      let m = marks a b ((has-below (length parts) a).0 a_in) ((has-below (length parts) b).0 b_in) in
      let arc = arc_mark rows a b in
      ((λ h. m.0 (arc.0 h)), (λ h. arc.1 (m.1 h)))

-- the text of the rows is that of the graph
pub rows_graphed : (product parts : List Part) (along d : V3) (w : List ℕ) (rows shown : List (List Bool)) (a : Answer) → parts ≡ product → d ≡ along → w ≡ range_with_len 0 (length parts)
    → AreBlockingRows parts d w rows → shown ≡ rows → IsGraphText (length shown) along (map row_word shown) a.text → a.status ≡ 0 → IsGraphed product along (Ok a)
rows_graphed product parts along d w rows shown a same to numbers are kept text_is status = record {
  rows = map row_word shown;
  text = a.text;
  shows = rows_show product along shown of_product;
  text_is = subst (λ n. IsGraphText n along (map row_word shown) a.text) (rows_count product along shown of_product) text_is;
  is = ap (λ n. Ok (answer n a.text)) status;
}
  where
    of_product : AreBlockingRows product along (range_with_len 0 (length product)) shown
    of_product =
        subst (λ (r : List (List Bool)). AreBlockingRows product along (range_with_len 0 (length product)) r) (sym kept)
        (subst (λ (v : List ℕ). AreBlockingRows product along v rows) (numbers ∙ ap (λ (p : List Part). range_with_len 0 (length p)) same)
        (subst (λ (x : V3). AreBlockingRows product x w rows) to
        (subst (λ (p : List Part). AreBlockingRows p d w rows) same are)))

pub square_kept : (parts : List Part) (d : V3) (w : List ℕ) (rows shown : List (List Bool)) → w ≡ range_with_len 0 (length parts) → AreBlockingRows parts d w rows → shown ≡ rows → IsSquare shown
square_kept parts d w rows shown numbers are kept =
    subst (λ (r : List (List Bool)). IsSquare r) (sym kept) (rows_square parts d rows (subst (λ (v : List ℕ). AreBlockingRows parts d v rows) numbers are))

pub count_kept : (parts : List Part) (d : V3) (w : List ℕ) (rows shown : List (List Bool)) → w ≡ range_with_len 0 (length parts) → AreBlockingRows parts d w rows → shown ≡ rows → length shown ≡ length parts
count_kept parts d w rows shown numbers are kept =
    ap (λ (r : List (List Bool)). length r) kept ∙ rows_count parts d rows (subst (λ (v : List ℕ). AreBlockingRows parts d v rows) numbers are)
