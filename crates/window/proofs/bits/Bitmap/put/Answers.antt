use Rattle.std.proofs.Common.{◌≡◌, ◌+◌, ◌-◌, ◌*◌, ◌^◌, ◌<◌, ◌&&◌, ltb, leb, get_or, vec_len, arith}
use lib.Bits.{bit_and, bit_or}
use Rattle.std.proofs.lemmas.List.{get_or_read_under}
use Rattle.window.proofs.BitLaws.{masked_set, masked_clear, put_more}
use Rattle.window.proofs.bits.Bitmap.put.Goals as goal
use Rattle.window.proofs.bits.Bitmap.put.Goals.{then-value, else-value}

pub loop-word-preserved : goal.loop-word-preserved
loop-word-preserved c =
    let words = c.loop-word.self.words in
    let word = c.loop-word.word in
    let from = c.args.from in
    let end = c.args.from + c.args.count in
    let there : word < vec_len words = omega (arith, c.loop-word.invariant.0) in
    let so = c.loop-word.invariant.1 in
    elim c.if-value.branch [
      | then-value w ↦
          let old : w.index_mut.result.now ≡ get_or words.items word 0 = get_or_read_under words.items word (vec_len words) _ 0 w.index_mut.ensures.value there words.ok.0 in
          rw w.self-is (
            c.loop-word.invariant.0,
            put_more words.items c.args.self.now.words.items word from end (bit_or w.index_mut.result.now c.mask-mask.result) c.args.value
                (omega (arith, words.ok.0))
                (λ k h. rw (w.if-value.true, ← old) (masked_set w.index_mut.result.now c.mask-mask.result k (leb from (word * 64 + k) && ltb (word * 64 + k) end) (c.mask-mask.ensures k h)))
                so,
          )
      | else-value w ↦
          let old : w.index_mut-else-value.result.now ≡ get_or words.items word 0 = get_or_read_under words.items word (vec_len words) _ 0 w.index_mut-else-value.ensures.value there words.ok.0 in
          rw w.self-is (
            c.loop-word.invariant.0,
            put_more words.items c.args.self.now.words.items word from end (bit_and w.index_mut-else-value.result.now (2 ^ 64 - 1 - c.mask-mask.result)) c.args.value
                (omega (arith, words.ok.0))
                (λ k h. rw (w.if-value.false, ← old) (masked_clear w.index_mut-else-value.result.now c.mask-mask.result k (leb from (word * 64 + k) && ltb (word * 64 + k) end) (omega arith) h (c.mask-mask.ensures k h)))
                so,
          )
    ]
