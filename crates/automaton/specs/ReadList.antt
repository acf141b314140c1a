-- What reading a word list answers. Assumes nothing.
use Rattle.std.specs.Prelude.{◌≡◌, ℕ, List, Ok, Err, vec_items, Result}
use Rattle.automaton.specs.Lists.{word_list}
use Rattle.automaton.specs.Text.{Text}
use Rattle.automaton.specs.Words.{words_of}
use Rattle.fault.specs.declared.ReadError.{ReadError}
use Rattle.fault.specs.declared.ReadError.TheVariants.{Memory, Fault}
use Rattle.automaton.specs.declared.refusal.ListRefusal.{ListRefusal}
use Rattle.automaton.specs.declared.list.WordList.{WordList}

-- the words of a list
abbrev pub texts : WordList → List Text
texts list = words_of (vec_items list.words)

-- an answer is what `word_list` gives, unless memory was wanting
abbrev pub Reads : List ℕ → Result (WordList × ℕ) (ReadError ListRefusal) → Type 0
Reads bs (Ok r) = word_list bs ≡ Ok (record { words = texts r.0; taken = r.1 })
Reads bs (Err Memory) = Unit {0}
Reads bs (Err (Fault f)) = word_list bs ≡ Err f
