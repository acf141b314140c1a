use Rattle.std.proofs.Common.{vec_items, ◌∙◌, rules}
use Rattle.std.proofs.lemmas.Iterator.{YieldsList-from_slice}
use Rattle.std.proofs.lemmas.Iterator.Search.{any_from_yields_List}
use Rattle.automaton.specs.Text.{same}
use Rattle.automaton.proofs.ReadLaws.{any_member, same_slices}
use Rattle.automaton.proofs.read.is_among.Goals as goal

pub returns : goal.returns
returns c =
    any_from_yields_List (λ v. same c.args.word.now (vec_items v)) _ _ _ c.any.ensures.ran (YieldsList-from_slice c.args.words.now cc)
    (λ x b q k. (search rules, same_slices _ _ _ (search rules)))
    ∙ any_member c.args.word.now c.args.words.now
