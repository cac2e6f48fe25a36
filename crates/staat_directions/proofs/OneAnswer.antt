-- What the work on a pair, a look, a graph or cells finds is one thing.
use Rattle.std.proofs.Common.{◌≡◌, ◌↔◌, ℕ, List, length, ap, sym, ◌∙◌, arith}
use Rattle.std.specs.Prelude.{Ok, Err}
use Rattle.staat_model.specs.declared.assembly.Part.{Part}
use Rattle.staat_model.specs.declared.set.PartSet.{PartSet}
use Rattle.staat_model.specs.Sets.{Has}
use Rattle.staat_graph.specs.Blocking.{ShowsBlocking}
use Rattle.staat_graph.specs.Graphs.{HasArc}
use Rattle.staat_limits.specs.declared.limits.TheConstants.{MOST_PLANES}
use Rattle.staat_text.specs.CellTexts.{IsCellsText}
use Rattle.staat_text.proofs.CellLines.{one_text}
use Rattle.staat_text.proofs.SameArcs.{same_graph_text}
use Rattle.staat_fault.specs.declared.fault.Fault.TheVariants.{ReadFault, TextTooLong}
use Rattle.staat_vec.specs.declared.vector.V3.{V3}
use Rattle.staat_words.specs.declared.request.Asked.{Asked}
use Rattle.staat_input.specs.declared.answer.Answer.{Answer}
use Rattle.staat_input.specs.Work.{Files, Found, answer}
use Rattle.staat_input.specs.Pieces.{IsPieceOf}
use Rattle.staat_input.specs.Assembling.{IsSoundOf}
use Rattle.staat_input.specs.Counting.{AreCounted, all_parts}
use Rattle.staat_directions.specs.Graphing.{IsGraphed, GraphWork}
use Rattle.staat_directions.specs.CellTables.{AreTabled, tabled, table_too_long, CellsWork}
use Rattle.staat_directions.specs.Pairs.{IsJudged, free, not_shown, PairWork}
use Rattle.staat_input.proofs.OneFinding.{FindsOne, then_one, known_one, given_not_fault}
use Rattle.staat_input.proofs.OneInput.{piece_one, sound_one, counted_one}
use Rattle.staat_words.specs.declared.request.PairRequest.{PairRequest}
use Rattle.staat_directions.specs.Looking.{LookWork}
use Rattle.staat_words.specs.declared.request.GraphRequest.{GraphRequest}
use Rattle.staat_words.specs.declared.request.CellsRequest.{CellsRequest}

-- two graphs that show the blocking along d have the same arcs
same_arcs : (parts : List Part) (d : V3) (w : PartSet) (rows others : List ℕ) → ShowsBlocking parts d w rows → ShowsBlocking parts d w others → (a b : ℕ) → Has w a → Has w b → HasArc rows a b ↔ HasArc others a b
same_arcs parts d w rows others one other a b a_in b_in = (λ h. (other a b a_in b_in).1 ((one a b a_in b_in).0 h), λ h. (one a b a_in b_in).1 ((other a b a_in b_in).0 h))

pub graphed_one : (files : Files) (parts : List Part) (d : V3) → FindsOne files (IsGraphed parts d)
graphed_one files parts d = record { one = λ f g a b sf sg. one f g a b; held = λ name f at lacks step settled. given_not_fault _ (ReadFault name) (sym at.is) }
  where
    one : (f g : Found Answer) → IsGraphed parts d f → IsGraphed parts d g → f ≡ g
    one f g a b =
        let same : a.text ≡ b.text = same_graph_text (length parts) d a.rows b.rows a.text b.text (same_arcs parts d (all_parts parts) a.rows b.rows a.shows b.shows) a.text_is b.text_is in
        a.is ∙ ap (λ (t : List ℕ). Ok (answer 0 t)) same ∙ sym b.is

judged_one : (files : Files) (p q : List V3) (d n : V3) → FindsOne files (IsJudged p q d n)
judged_one files p q d n = record { one = λ f g a b sf sg. one f g a b; held = λ name f at lacks step settled. no_read name at }
  where
    one : (f g : Found Answer) → IsJudged p q d n f → IsJudged p q d n g → f ≡ g
    one f g (free a e) (free b h) = e ∙ sym h
    one f g (free a e) (not_shown b h) = absurd (b a)
    one f g (not_shown a e) (free b h) = absurd (a b)
    one f g (not_shown a e) (not_shown b h) = e ∙ sym h

    no_read : (name : List ℕ) → IsJudged p q d n (Err (ReadFault name)) → ⊥
    no_read name (free a e) = absurd cc
    no_read name (not_shown a e) = absurd cc

tabled_one : (files : Files) (parts : List Part) → FindsOne files (AreTabled parts)
tabled_one files parts = record { one = λ f g a b sf sg. one f g a b; held = λ name f at lacks step settled. no_read name at }
  where
    same : (text other : List ℕ) → IsCellsText parts (length parts) text → IsCellsText parts (length parts) other → text ≡ other
    same text other is also = one_text parts (length parts) text other is also

    one : (f g : Found Answer) → AreTabled parts f → AreTabled parts g → f ≡ g
    one f g (tabled t is short e) (tabled u also fits d) = e ∙ ap (λ (x : List ℕ). Ok (answer 0 x)) (same t u is also) ∙ sym d
    one f g (tabled t is short e) (table_too_long u also many d) = absurd (omega (arith, short, many, ap length (same t u is also)))
    one f g (table_too_long t is many e) (tabled u also fits d) = absurd (omega (arith, fits, many, ap length (same t u is also)))
    one f g (table_too_long t is many e) (table_too_long u also much d) =
        e ∙ ap (λ (x : List ℕ). Err (TextTooLong (length x))) (same t u is also) ∙ sym d

    no_read : (name : List ℕ) → AreTabled parts (Err (ReadFault name)) → ⊥
    no_read name (tabled t is short e) = absurd cc
    no_read name (table_too_long t is many e) = absurd cc

pub pair_one : (request : PairRequest) (files : Files) → FindsOne files (PairWork request files)
pair_one request files = then_one files (IsPieceOf files request.digits request.first) _ (piece_one files request.digits request.first)
    (λ p. then_one files (IsPieceOf files request.digits request.second) _ (piece_one files request.digits request.second) (λ q. judged_one files p q request.along request.wall))

pub look_one : (asked : Asked) (files : Files) → FindsOne files (LookWork asked files)
look_one asked files = then_one files (IsSoundOf files asked) _ (sound_one files asked) (λ parts. known_one files _)

pub graph_one : (request : GraphRequest) (files : Files) → FindsOne files (GraphWork request files)
graph_one request files = then_one files (IsSoundOf files request.asked) _ (sound_one files request.asked)
    (λ parts. then_one files (AreCounted parts MOST_PLANES) _ (counted_one files parts MOST_PLANES) (λ planes. graphed_one files parts request.along))

pub cells_one : (request : CellsRequest) (files : Files) → FindsOne files (CellsWork request files)
cells_one request files = then_one files (IsSoundOf files request.asked) _ (sound_one files request.asked)
    (λ parts. then_one files (AreCounted parts request.planes) _ (counted_one files parts request.planes) (λ planes. tabled_one files parts))
