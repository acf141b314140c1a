use Rattle.std.proofs.Common.{◌≡◌, [], ◌∷◌, ◌++◌, vec_items, sym, refl, ap, ◌∙◌, rules}
use mathlib.Core.List.{map-append}
use Rattle.std.proofs.lemmas.Result.{err_from_is_err_and}
use Rattle.automaton.specs.Words.{words_of}
use Rattle.automaton.proofs.ReadLaws.{reading_none, reading_more, reading_fault, reading_all, refusal_behind, was_err, was_ok, word_behind}
use Rattle.automaton.proofs.list.WordList.read.Goals as goal

pub loop-read-init : goal.loop-read-init
loop-read-init c =
    let i = c.in-Some.ensures.item in
    rw c.new-words.ensures.items (reading_none c.args.bytes.now c.from-read-end.result c.in-Some.count.now i.3.0 i.1 c.from-read-end.ensures)

pub returns-in_err-word : goal.returns-in_err-word
returns-in_err-word c =
    let p = err_from_is_err_and c.from_residual.result c.from_residual.ensures.1 in
    let q = was_err c.next_word.result c.in_err-word.field-0.0 _ c.in_err-word.ensures.cases in
    let k = q.2 in
    let e : c.in_err-word.field-0.0 ≡ record { refusal = q.0; at = c.loop-read.at } = search rules in
    let f = rw q.1 at c.next_word.ensures in
    let r = refusal_behind c.loop-read.at c.args.bytes.now (words_of (vec_items c.loop-read.words)) c.loop-read.size c.loop-read.invariant.within in
    rw (p.1, p.2, e) (reading_fault c.args.bytes.now c.from-read-end.result c.loop-read._read (words_of (vec_items c.loop-read.words)) c.loop-read.size c.loop-read.at
    c.loop-read.invariant c.loop-read-test.true (record { refusal = q.0; at = c.loop-read.at }) (sym r ∙ rw (← c.deref.ensures.value) f) refl)

pub loop-read-preserved : goal.loop-read-preserved
loop-read-preserved c =
    let h = was_ok _ c.next_word.result c.in_ok-word.word c.in_ok-word.ensures.cases in
    let f = rw h at c.next_word.ensures in
    let r = refusal_behind c.loop-read.at c.args.bytes.now (words_of (vec_items c.loop-read.words)) c.loop-read.size c.loop-read.invariant.within in
    let e = c.in_ok-push.ensures.items in
    let w = c.in_ok-to_vec.ensures.items_if_clones_equal (λ x y e. e) in
    let p : words_of (vec_items c.push.new.self) ≡ words_of (vec_items c.loop-read.words) ++ (c.in_ok-word.word.now ∷ []) = ap words_of e ∙ map-append vec_items (vec_items c.loop-read.words) _ ∙ ap (λ t. words_of (vec_items c.loop-read.words) ++ (t ∷ [])) w in
    rw p (reading_more c.args.bytes.now c.from-read-end.result c.loop-read._read (words_of (vec_items c.loop-read.words)) c.loop-read.size c.loop-read.at
    c.loop-read.invariant c.loop-read-test.true (sym r ∙ rw (← c.deref.ensures.value) f.0) c.in_ok-word.word.now (f.1 ∙ word_behind c.loop-read.at c.args.bytes.now))

pub returns : goal.returns
returns c =
    reading_all c.args.bytes.now c.from-read-end.result c.loop-read._read (words_of (vec_items c.loop-read.words)) c.loop-read.size c.loop-read.at
    c.loop-read.invariant c.loop-read-test.false
