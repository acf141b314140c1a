use Rattle.std.proofs.Common.{◌≡◌, get_or, vec_len, sym, ap, ◌∙◌, Some, arith}
use Rattle.std.proofs.lemmas.List.{get_or_read_under}
use Rattle.window.proofs.CellLaws.{cell_set, cell_clear}
use Rattle.window.proofs.ring.Ring.get.Goals as goal

pub returns-then-is_set : goal.returns-then-is_set
returns-then-is_set c =
    let ring = c.args.self.now in
    let byte : c.index.result.now ≡ get_or ring.bytes.items c.cell-cell.result 0 = get_or_read_under ring.bytes.items c.cell-cell.result (vec_len ring.bytes) _ 0 c.index.ensures (omega arith) ring.bytes.ok.0 in
    rw (← c.cell-cell.ensures) (ap Some byte ∙ sym (cell_set ring.bytes.items ring.known.words.items c.cell-cell.result (sym c.is_set.ensures ∙ c.if-is_set.true)))

pub returns-else-is_set : goal.returns-else-is_set
returns-else-is_set c =
    let ring = c.args.self.now in
    rw (← c.cell-cell.ensures) (sym (cell_clear ring.bytes.items ring.known.words.items c.cell-cell.result (sym c.is_set.ensures ∙ c.if-is_set.false)))
