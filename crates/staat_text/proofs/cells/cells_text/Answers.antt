use Rattle.std.proofs.Common.{◌≡◌, ◌∙◌, ◌≤◌, ap, arith, length, List, map, refl, subst, sym, ℕ}
use Rattle.staat_limits.specs.declared.limits.TheConstants.{TEXT_LIMIT}
use Rattle.staat_cells.specs.Compositions.{entry_of}
use Rattle.staat_cells.specs.declared.cell.Cell.{Cell}
use Rattle.staat_text.specs.CellTexts.{IsTextOfCells, totals_line}
use Rattle.staat_text.specs.Holding.{HoldsCells}
use Rattle.staat_text.proofs.CellLines.{all_text, whole_text}
use Rattle.staat_text.proofs.cells.cells_text.Goals as goal

pub returns-then-held-gt-TEXT_LIMIT-clause-text : goal.returns-then-held-gt-TEXT_LIMIT-clause-text
returns-then-held-gt-TEXT_LIMIT-clause-text c =
    let cells = c.args.cells.now in
    let (text, is, holds) = whole_text c.args.table.now c.args.parts c.len.result (map entry_of cells) c.as_bytes.result.now
    (record { bytes = c.in_ok-bytes.bytes; length = 0 }) c.hold.new.held c.hold_cells.new.held c.len.ensures.is
    (c.as_bytes.ensures.value ∙ c.in_ok-first.ensures ∙ ap (λ (l : List Cell). totals_line c.len.result (map entry_of l)) c.as_slice-2.ensures)
    refl c.in_ok-bytes.ensures.items c.in_ok-hold.ensures.more
    (subst (λ (l : List Cell). HoldsCells c.args.table.now c.args.parts (map entry_of l) c.hold.new.held c.hold_cells.new.held) c.as_slice-3.ensures
    (c.in_ok-hold_cells.ensures c.args.table.now c.in_ok-graphs.ensures)) in
    (text, is, holds.long, c.if-held-gt-TEXT_LIMIT.true)

pub returns-clause-text : goal.returns-clause-text
returns-clause-text c =
    let cells = c.args.cells.now in
    let (text, is, holds) = whole_text c.args.table.now c.args.parts c.len.result (map entry_of cells) c.as_bytes.result.now
    (record { bytes = c.in_ok-bytes.bytes; length = 0 }) c.hold.new.held c.hold_cells.new.held c.len.ensures.is
    (c.as_bytes.ensures.value ∙ c.in_ok-first.ensures ∙ ap (λ (l : List Cell). totals_line c.len.result (map entry_of l)) c.as_slice-2.ensures)
    refl c.in_ok-bytes.ensures.items c.in_ok-hold.ensures.more
    (subst (λ (l : List Cell). HoldsCells c.args.table.now c.args.parts (map entry_of l) c.hold.new.held c.hold_cells.new.held) c.as_slice-3.ensures
    (c.in_ok-hold_cells.ensures c.args.table.now c.in_ok-graphs.ensures)) in
    let fits : length text ≤ TEXT_LIMIT = let long = holds.long in let few = c.if-held-gt-TEXT_LIMIT.false in omega (arith, long, few) in
    let same : c.from_vec.result ≡ text = c.from_vec.ensures ∙ holds.bytes fits in
    (subst (IsTextOfCells c.args.table.now c.args.parts (map entry_of cells)) (sym same) is, subst (λ (l : List ℕ). length l ≤ TEXT_LIMIT) (sym same) fits)

pub returns-then-held-gt-TEXT_LIMIT-clause-all : goal.returns-then-held-gt-TEXT_LIMIT-clause-all
returns-then-held-gt-TEXT_LIMIT-clause-all c are all made =
    let (text, is, long, over) = returns-then-held-gt-TEXT_LIMIT-clause-text c in
    (text, all_text all c.args.table.now c.args.parts (map entry_of c.args.cells.now) text c.len.ensures.rules made c.requires.set are is, long, over)

pub returns-clause-all : goal.returns-clause-all
returns-clause-all c are all made =
    let (is, fits) = returns-clause-text c in
    (all_text all c.args.table.now c.args.parts (map entry_of c.args.cells.now) c.from_vec.result c.len.ensures.rules made c.requires.set are is, fits)
