use Rattle.std.proofs.Common.{◌≡◌, ◌∷◌, ◌∙◌, [], ℕ, List, arith, false, inl, inr, refl, true}
use Rattle.std.specs.Prelude.{⊤}
use Rattle.staat_edge.specs.Opening.{OpensFiles}
use Rattle.staat_edge.specs.Told.{ShelfTold}
use Rattle.staat_edge.proofs.OpeningLemmas.{narrowed, opens_after, opens_some, some_of_more}
use Rattle.staat_input.specs.Taking.{TakesStep}
use Rattle.staat_input.specs.Work.{Found, Then}
use Rattle.staat_input.specs.Pieces.{IsPieceOf}
use Rattle.staat_input.specs.declared.answer.Answer.{Answer}
use Rattle.staat_words.specs.declared.request.PairRequest.{PairRequest}
use Rattle.staat_directions.specs.Pairs.{IsJudged, PairWork}
use Rattle.staat_input.proofs.AnswerLemmas.{work_done}
use Rattle.staat_input.proofs.InputLemmas.{no_value, then_given}
use Rattle.staat_input.proofs.TakingLemmas.{after_none, after_step, takes_back, takes_fault}
use Rattle.staat_directions.proofs.pair.pair.Goals as goal

-- the step that both files are read and judged by, whichever is too long
abbrev Takes : PairRequest → ShelfTold → ShelfTold → Found Answer → Type 0
Takes request before now result =
    TakesStep (PairWork request) (λ found. OpensFiles false (request.first ∷ request.second ∷ []) before now) (λ name. ⊤)
    before now result

pub returns-in_err-p : goal.returns-in_err-p
returns-in_err-p g c =
    let request = c.args.request.now in
    let found = c.from_residual.result in
    let takes : Takes request (g.H.Shelf.told c.args.shelf.now) (g.H.Shelf.told c.read_piece.new.shelf) found =
    takes_fault (after_none _) c.in_err-p.ensures (λ files fit f at. inl (f, at, refl))
    (λ f. some_of_more (request.first ∷ []) (request.second ∷ []) _ _ c.in_err-p.ensures.opens) (λ name long. tt)
    c.from_residual.ensures.1 in
    work_done found takes (no_value _ _ found c.from_residual.ensures.1)

pub returns-in_err-q : goal.returns-in_err-q
returns-in_err-q g c =
    let request = c.args.request.now in
    let p = c.in_ok-p.ensures in
    let q = c.in_err-q.ensures in
    let found = c.from_residual-in_err-q.result in
    let back = narrowed (request.second ∷ []) (g.H.Shelf.told c.read_piece.new.shelf)
    (g.H.Shelf.told c.read_piece-2.new.shelf) q.holds q.opens in
    let takes : Takes request (g.H.Shelf.told c.args.shelf.now) (g.H.Shelf.told c.read_piece-2.new.shelf) found =
    takes_fault (after_step p) q (λ files fit f at. inr (c.in_ok-p.p, p.found files (back files fit), inl (f, at, refl)))
    (λ f. opens_after false (request.first ∷ []) (request.second ∷ []) _ _ _ p.opens q.opens) (λ name long. tt)
    c.from_residual-in_err-q.ensures.1 in
    work_done found takes (no_value _ _ found c.from_residual-in_err-q.ensures.1)

pub returns : goal.returns
returns g c =
    let request = c.args.request.now in
    let p = c.in_ok-p.ensures in
    let q = c.in_ok-q.ensures in
    let out = c.judge.ensures in
    record {
      holds = q.holds ∙ p.holds;
      count = omega (arith, p.count, q.count);
      status = out.status;
      opens = opens_some true (request.first ∷ request.second ∷ []) _ _
          (opens_after true (request.first ∷ []) (request.second ∷ []) _ _ _ p.opens q.opens);
      found = λ files fit.
          let before = takes_back (request.second ∷ []) q files fit in
          then_given (IsPieceOf files request.digits request.first)
          (λ p. Then (IsPieceOf files request.digits request.second) (λ q. IsJudged p q request.along request.wall))
          c.in_ok-p.p c.judge.result (p.found files before)
          (then_given (IsPieceOf files request.digits request.second) (λ q. IsJudged c.in_ok-p.p q request.along request.wall)
          c.in_ok-q.q c.judge.result (q.found files fit) out.judged);
      cause = out.cause _;
    }
