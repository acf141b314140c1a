-- Forbidden words in a text, and how much of a text must be remembered to see them. Assumes nothing.
use Rattle.std.specs.Prelude.{ℕ, Bool, true, false, cond, ◌&&◌, ◌||◌, List, [], ◌∷◌, ◌==◌}

abbrev pub Text : Type 0
Text = List ℕ

unfoldable pub begins : Text → Text → Bool
begins [] t = true
begins (x ∷ xs) [] = false
begins (x ∷ xs) (y ∷ ys) = x == y && begins xs ys

unfoldable pub occurs : Text → Text → Bool
occurs w [] = begins w []
occurs w (y ∷ ys) = begins w (y ∷ ys) || occurs w ys

-- does one of the words stand in the text
unfoldable pub has : List Text → Text → Bool
has [] t = false
has (w ∷ ws) t = occurs w t || has ws t

unfoldable pub begins_some : List Text → Text → Bool
begins_some [] t = false
begins_some (w ∷ ws) t = begins t w || begins_some ws t

-- the longest end of a text with which one of the words begins
unfoldable pub tail : List Text → Text → Text
tail ws [] = []
tail ws (y ∷ ys) = cond (begins_some ws (y ∷ ys)) (y ∷ ys) (tail ws ys)

unfoldable pub same : Text → Text → Bool
same [] [] = true
same [] (y ∷ ys) = false
same (x ∷ xs) [] = false
same (x ∷ xs) (y ∷ ys) = x == y && same xs ys

unfoldable pub ends_in : Text → Text → Bool
ends_in w [] = same w []
ends_in w (y ∷ ys) = same w (y ∷ ys) || ends_in w ys

unfoldable pub ends_in_some : List Text → Text → Bool
ends_in_some [] t = false
ends_in_some (w ∷ ws) t = ends_in w t || ends_in_some ws t

unfoldable pub nonempty : List Text → Bool
nonempty [] = true
nonempty ([] ∷ ws) = false
nonempty ((x ∷ xs) ∷ ws) = nonempty ws

unfoldable pub member : Text → List Text → Bool
member t [] = false
member t (w ∷ ws) = same t w || member t ws
