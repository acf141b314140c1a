use Rattle.std.proofs.Common.{◌≡◌, ℕ, ◌-◌, true, false, List, length, get_or, vec_items, take, drop, sym, ap, ◌∙◌, arith}
use Rattle.std.specs.List.{slice_range}
use Rattle.std.proofs.lemmas.Bool.Decides.{nat_tests}
use Rattle.std.proofs.lemmas.List.{length-drop, length-map, take_rest}
use Rattle.automaton.specs.Lists.{refusal_at, word}
use Rattle.automaton.specs.Text.{member}
use Rattle.automaton.specs.Words.{words_of}
use Rattle.automaton.proofs.read.next_word.Goals as goal

pub returns-then-words-ge-MOST_WORDS : goal.returns-then-words-ge-MOST_WORDS
unfolding refusal_at
returns-then-words-ge-MOST_WORDS c = let l = length-map c.args.words.now vec_items in grind (arith, nat_tests)

pub returns-in_default : goal.returns-in_default
unfolding refusal_at
returns-in_default c = let l = length-map c.args.words.now vec_items in grind (arith, nat_tests)

pub returns-then-len-eq0 : goal.returns-then-len-eq0
unfolding refusal_at
returns-then-len-eq0 c = let l = length-map c.args.words.now vec_items in grind (arith, nat_tests)

-- the part behind the length
behind : (bs : List ℕ) → take (length bs - 1) (drop 1 bs) ≡ drop 1 bs
behind bs = take_rest bs 1

long : (bs : List ℕ) → length (take (length bs - 1) (drop 1 bs)) ≡ length bs - 1
long bs = ap length (behind bs) ∙ length-drop 1 bs

pub returns-in_default-get : goal.returns-in_default-get
unfolding refusal_at
returns-in_default-get c =
    let l = length-map c.args.words.now vec_items in
    let k = c.in_default-get.ensures.lookup.0 in
    let n = long c.args.bytes.now in
    grind (arith, nat_tests)

part : (bs w : List ℕ) (n : ℕ) → n ≡ get_or bs 0 0 → w ≡ slice_range (take (length bs - 1) (drop 1 bs)) 0 n → w ≡ word 0 bs
part bs w n en e =
    let z : get_or bs 0 0 - 0 ≡ get_or bs 0 0 = omega arith in
    e ∙ ap (slice_range _ 0) en ∙ ap (λ t. slice_range t 0 (get_or bs 0 0)) (behind bs) ∙ ap (λ k. take k (drop 1 bs)) z

pub returns-then-is_among : goal.returns-then-is_among
unfolding refusal_at
returns-then-is_among c =
    let l = length-map c.args.words.now vec_items in
    let k = c.in-Some.ensures.lookup.0 in
    let n = long c.args.bytes.now in
    let p : member (word 0 c.args.bytes.now) (words_of c.args.words.now) ≡ true =
    ap (λ w. member w (words_of c.args.words.now)) (sym (part c.args.bytes.now c.in-Some.word.now c.from-len.result c.from-len.ensures k.2)) ∙ sym c.is_among.ensures ∙ c.if-is_among.true in
    grind (arith, nat_tests)

pub returns : goal.returns
unfolding refusal_at
returns c =
    let l = length-map c.args.words.now vec_items in
    let k = c.in-Some.ensures.lookup.0 in
    let n = long c.args.bytes.now in
    let e = part c.args.bytes.now c.in-Some.word.now c.from-len.result c.from-len.ensures k.2 in
    let p : member (word 0 c.args.bytes.now) (words_of c.args.words.now) ≡ false =
    ap (λ w. member w (words_of c.args.words.now)) (sym e) ∙ sym c.is_among.ensures ∙ c.if-is_among.false in
    (grind (arith, nat_tests), e)
