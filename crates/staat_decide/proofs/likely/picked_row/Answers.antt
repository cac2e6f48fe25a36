use Rattle.std.proofs.Common.{◌∙◌, ◌∷◌, ◌++◌, [], Bool, List, ℕ, ap, false, get_or, map, sym, take}
use Rattle.std.proofs.lemmas.List.{map-append, take_all, take_more}
use Rattle.staat_decide.proofs.likely.picked_row.Goals as goal

pub loop-b-preserved : goal.loop-b-preserved
loop-b-preserved c =
    let w = c.args.w.now in
    let i = c.loop-b.b-index in
    let mark : ℕ → Bool = λ b. get_or c.args.row.now b false in
    c.in_ok-push.ensures.items ∙ ap (λ (xs : List Bool). xs ++ mark (get_or w i 0) ∷ []) c.loop-b.invariant
    ∙ sym (ap (map mark) (take_more w i 0 c.loop-b-test.true) ∙ map-append mark (take i w) (get_or w i 0 ∷ []))

pub returns : goal.returns
returns c =
    c.from_vec.ensures ∙ c.loop-b.invariant
    ∙ ap (map (λ b. get_or c.args.row.now b false)) (take_all c.loop-b.b-index c.args.w.now c.loop-b-test.false)
