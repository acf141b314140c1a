use Rattle.std.proofs.Common.{◌≡◌, ◌<◌, ◌^◌, get_or, vec_len, arith}
use Rattle.std.proofs.lemmas.List.{get_or_read_under}
use Rattle.window.proofs.BitLaws.{left_ends, left_more, none_more}
use Rattle.window.proofs.bits.Bitmap.run.Goals as goal

pub loop-word-preserved-then-others-eq0 : goal.loop-word-preserved-then-others-eq0
loop-word-preserved-then-others-eq0 c =
    let words = c.args.self.now.words in
    let word = c.loop-word.word in
    let old : c.index.result.now ≡ get_or words.items word 0 = get_or_read_under words.items word (vec_len words) _ 0 c.index.ensures (omega arith) words.ok.0 in
    let small : get_or words.items word 0 < 2 ^ 64 = rw (← old) (omega arith) in
    none_more words.items c.args.value c.args.from c.args.count word c.others-others.result small (rw (← old) c.others-others.ensures) c.loop-word.invariant c.if-others-eq0.true

pub returns-then-left-ne0 : goal.returns-then-left-ne0
returns-then-left-ne0 c =
    let words = c.args.self.now.words in
    let word = c.loop-word.word in
    let old : c.index.result.now ≡ get_or words.items word 0 = get_or_read_under words.items word (vec_len words) _ 0 c.index.ensures (omega arith) words.ok.0 in
    let small : get_or words.items word 0 < 2 ^ 64 = rw (← old) (omega arith) in
    rw (c.min.ensures) (left_ends words.items c.args.value c.args.from c.args.count word c.others-others.result small (rw (← old) c.others-others.ensures) c.loop-word.invariant
    c.max-at.result c.max-at.ensures (omega arith) c.if-left-ne0.true (omega arith))

pub loop-word-preserved : goal.loop-word-preserved
loop-word-preserved c =
    let words = c.args.self.now.words in
    let word = c.loop-word.word in
    let old : c.index.result.now ≡ get_or words.items word 0 = get_or_read_under words.items word (vec_len words) _ 0 c.index.ensures (omega arith) words.ok.0 in
    let small : get_or words.items word 0 < 2 ^ 64 = rw (← old) (omega arith) in
    left_more words.items c.args.value c.args.from c.args.count word c.others-others.result small (rw (← old) c.others-others.ensures) c.loop-word.invariant
    c.max-at.result c.max-at.ensures (omega arith) c.if-left-ne0.false
