use Rattle.std.proofs.Common.{◌≡◌, ◌/◌, ◌%◌, get_or, vec_len, arith}
use Rattle.std.proofs.lemmas.List.{get_or_read_under}
use Rattle.std.proofs.lemmas.Nat.Bits.{shr_and_one}
use Rattle.window.specs.Ring.{bit}
use Rattle.window.proofs.bits.Bitmap.is_set.Goals as goal

pub returns : goal.returns
unfolding bit
returns c =
    let words = c.args.self.now.words in
    let word : c.index.result.now ≡ get_or words.items (c.args.k / 64) 0 = get_or_read_under words.items (c.args.k / 64) (vec_len words) _ 0 c.index.ensures (omega arith) words.ok.0 in
    rw (shr_and_one c.index.result.now (c.args.k % 64), word)
