-- The automaton of a list of words: its states, where it goes from each, and what each tells. Assumes nothing.
use Rattle.std.specs.Prelude.{ℕ, suc, cond, List, [], ◌∷◌, ◌++◌, map, Some, None, Option, slice_index_or}
use Rattle.automaton.specs.Text.{Text, member, same, tail}

-- the place at which a text first stands in a list, or the list's length
unfoldable pub place : Text → List Text → ℕ
place t [] = 0
place t (x ∷ xs) = cond (same t x) 0 (suc (place t xs))

-- the beginnings of a word but the empty one, the shortest first
unfoldable pub inits : Text → List Text
inits [] = []
inits (b ∷ bs) = (b ∷ []) ∷ map (λ t. b ∷ t) (inits bs)

-- the beginnings of the words, as the words are gone through in their order
unfoldable pub inits_of : List Text → List Text
inits_of [] = []
inits_of (w ∷ ws) = inits w ++ inits_of ws

-- a text is added behind those found so far, unless it is one of them
unfoldable pub add : List Text → Text → List Text
add seen t = cond (member t seen) seen (seen ++ (t ∷ []))

unfoldable pub add_all : List Text → List Text → List Text
add_all seen [] = seen
add_all seen (t ∷ ts) = add_all (add seen t) ts

-- the states by their texts: the empty beginning, then each other where it first occurs
unfoldable pub states : List Text → List Text
states ws = add_all ([] ∷ []) (inits_of ws)

unfoldable pub text_of : List Text → ℕ → Text
text_of ws s = slice_index_or (states ws) s []

unfoldable pub state_of : List Text → Text → ℕ
state_of ws t = place t (states ws)

-- from a state and a byte: the longest end of the state's text with the byte after it that is a state
unfoldable pub goto : List Text → ℕ → ℕ → ℕ
goto ws s b = state_of ws (tail ws (text_of ws s ++ (b ∷ [])))

-- where a run over some bytes leads
unfoldable pub run : List Text → ℕ → Text → ℕ
run ws s [] = s
run ws s (b ∷ bs) = run ws (goto ws s b) bs

-- the number of the longest word that a text ends in, the first in the list among equals
unfoldable pub last_index : List Text → Text → Option ℕ
last_index ws [] = cond (member [] ws) (Some (place [] ws)) None
last_index ws (y ∷ ys) = cond (member (y ∷ ys) ws) (Some (place (y ∷ ys) ws)) (last_index ws ys)

-- what a state tells
unfoldable pub tells_of : List Text → ℕ → Option ℕ
tells_of ws s = last_index ws (text_of ws s)
