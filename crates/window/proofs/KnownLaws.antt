-- What is known, overlaid and learned, place by place. Assumes nothing.
use Rattle.std.proofs.Common.{◌≡◌, ℕ, zero, suc, ◌+◌, ◌-◌, ◌<◌, ◌≤◌, true, false, cond, not, ◌≢◌, ◌⊎◌, List, [], ◌∷◌, ◌++◌, length, get_or, take, drop, is_some, Some, None, Decides, Option, sym, refl, ap, ◌∙◌, inl, inr, arith}
use Rattle.std.proofs.lemmas.List.{ext_get_or, get_or-drop, get_or-take, length-drop, length-take}
use Rattle.std.proofs.lemmas.Option.{slice_get-get_or, slice_get_past}
use Rattle.std.proofs.lemmas.Bool.{and_parts, both_ways, cases_lt, le-leb, lt-leb}
use Rattle.std.proofs.lemmas.Bool.Decides.{nat_tests}
use Rattle.std.specs.Option.{option_or, unwrap_or}
use Rattle.window.specs.Known.{Known, Within, piece, inside, byte_of, learn, overlay, onwards, none_known}

pub inside_from : (i n j : ℕ) → i ≤ j → j < i + n → inside i n j ≡ true
inside_from i n j h k = grind (arith, nat_tests)

pub inside_below : (i n j : ℕ) → j < i → inside i n j ≡ false
inside_below i n j h = grind (arith, nat_tests)

pub inside-above : (i n j : ℕ) → i + n ≤ j → inside i n j ≡ false
inside-above i n j h = grind (arith, nat_tests)

-- a place outside is none of those inside
pub outside_other : (i n j k : ℕ) → inside i n j ≡ false → k < n → i + k ≢ j
outside_other i n j k h l e = grind (arith, nat_tests)

-- inside, with the bounds, or outside
pub inside_cases : (i n j : ℕ) → ((inside i n j ≡ true) × (i ≤ j) × (j < i + n)) ⊎ ((inside i n j ≡ false) × ((j < i) ⊎ (i + n ≤ j)))
inside_cases i n j = grind (arith, nat_tests)

-- the byte of a piece, by the places that it covers
pub byte_of_at : (i : ℕ) (bs : List ℕ) (j : ℕ) → byte_of (piece i bs) j ≡ cond (inside i (length bs) j) (Some (get_or bs (j - i) 0)) None
byte_of_at i bs j = elim (inside_cases i (length bs) j) [
  | inl t ↦ rw (t.0, le-leb i j t.1) (slice_get-get_or bs (j - i) 0 (omega arith))
  | inr t ↦ elim t.1 [
    | inl l ↦ rw (t.0, lt-leb i j l)
    | inr l ↦ rw (t.0, le-leb i j (omega arith)) (slice_get_past bs (j - i) (omega arith))
  ]
]

pub length-overlay : (f : Known) (i : ℕ) (bs : List ℕ) → length (overlay f i bs) ≡ length bs
unfolding overlay
length-overlay f i [] = refl
length-overlay f i (b ∷ bs) = ap suc (length-overlay f (i + 1) bs)

pub get_or-overlay : (f : Known) (i : ℕ) (bs : List ℕ) (k : ℕ) → k < length bs → get_or (overlay f i bs) k 0 ≡ unwrap_or (f (i + k)) (get_or bs k 0)
unfolding overlay
get_or-overlay f i [] k h = absurd (omega arith)
get_or-overlay f i (b ∷ bs) zero h = ap (λ j. unwrap_or (f j) b) (omega arith)
get_or-overlay f i (b ∷ bs) (suc k) h = get_or-overlay f (i + 1) bs k (omega arith) ∙ ap (λ j. unwrap_or (f j) (get_or bs k 0)) (omega arith)

-- the only list of that length with those bytes
pub overlay_is : (f : Known) (i : ℕ) (bs xs : List ℕ) → length xs ≡ length bs
    → ((k : ℕ) → k < length bs → get_or xs k 0 ≡ unwrap_or (f (i + k)) (get_or bs k 0)) → xs ≡ overlay f i bs
overlay_is f i bs xs e each =
    ext_get_or 0 xs (overlay f i bs) (e ∙ sym (length-overlay f i bs)) (λ k m. each k (omega arith) ∙ sym (get_or-overlay f i bs k (omega arith)))

-- the first bytes of what is overlaid
pub front_is : (f : Known) (i : ℕ) (bs xs : List ℕ) → length xs ≤ length bs
    → ((k : ℕ) → k < length xs → get_or xs k 0 ≡ unwrap_or (f (i + k)) (get_or bs k 0)) → xs ≡ take (length xs) (overlay f i bs)
front_is f i bs xs h each =
    ext_get_or 0 xs (take (length xs) (overlay f i bs)) (simp (length-take, length-overlay) (omega arith))
    (λ k m. each k m ∙ sym (get_or-take (length xs) (overlay f i bs) k 0 m ∙ get_or-overlay f i bs k (omega arith)))

-- what is known keeps its byte, also where it is asked for twice
unwrap_or_twice : (x : Option ℕ) (b : ℕ) → unwrap_or x (unwrap_or x b) ≡ unwrap_or x b
unwrap_or_twice None b = refl
unwrap_or_twice (Some c) b = refl

-- what was overlaid stays as it is
pub overlay_twice : (f : Known) (i : ℕ) (bs : List ℕ) → overlay f i (overlay f i bs) ≡ overlay f i bs
unfolding overlay
overlay_twice f i [] = refl
overlay_twice f i (b ∷ bs) = rw (unwrap_or_twice (f i) b, overlay_twice f (i + 1) bs)

-- only the places from i on matter to what is overlaid, read onwards or looked for from there
module _ (f g : Known) where
  pub overlay-same : (i : ℕ) (bs : List ℕ) → ((j : ℕ) → i ≤ j → f j ≡ g j) → overlay f i bs ≡ overlay g i bs
  unfolding overlay
  overlay-same i [] same = refl
  overlay-same i (b ∷ bs) same = rw (same i (omega arith), overlay-same (i + 1) bs (λ j h. same j (omega arith)))

  pub onwards-same : (n i : ℕ) → ((j : ℕ) → i ≤ j → f j ≡ g j) → onwards n i f ≡ onwards n i g
  unfolding onwards
  onwards-same zero i same = refl
  onwards-same (suc n) i same = rw (same i (omega arith), onwards-same n (i + 1) (λ j h. same j (omega arith)))

  pub none_known-same : (n i : ℕ) → ((j : ℕ) → i ≤ j → f j ≡ g j) → none_known n i f ≡ none_known n i g
  unfolding none_known
  none_known-same zero i same = refl
  none_known-same (suc n) i same = rw (same i (omega arith), none_known-same n (i + 1) (λ j h. same j (omega arith)))

pub or-none : (x : Option ℕ) → option_or x None ≡ x
or-none None = refl
or-none (Some b) = refl

or-unwrap_or : (x : Option ℕ) (b : ℕ) → option_or x (Some (unwrap_or x b)) ≡ option_or x (Some b)
or-unwrap_or None b = refl
or-unwrap_or (Some c) b = refl

pub or-some : (x : Option ℕ) (b : ℕ) → option_or x (Some b) ≡ Some (unwrap_or x b)
or-some None b = refl
or-some (Some c) b = refl

or_fixed : (x : Option ℕ) (b : ℕ) → b ≡ unwrap_or x b → option_or x (Some b) ≡ Some b
or_fixed None b e = refl
or_fixed (Some c) b e = ap Some (sym e)

module _ (i : ℕ) (bs : List ℕ) (f : Known) (j : ℕ) where
  -- a piece teaches nothing of the places that it does not cover
  pub learn_outside : inside i (length bs) j ≡ false → learn (piece i bs) f j ≡ f j
  learn_outside out = ap (option_or (f j)) (byte_of_at i bs j ∙ rw out) ∙ or-none (f j)

  pub learn-inside : i ≤ j → j < i + length bs → learn (piece i bs) f j ≡ option_or (f j) (Some (get_or bs (j - i) 0))
  learn-inside h l = ap (option_or (f j)) (byte_of_at i bs j ∙ rw (inside_from i (length bs) j h l))

-- a piece that was overlaid teaches what the piece teaches
pub learn-overlay : (i : ℕ) (bs : List ℕ) (f : Known) (j : ℕ) → learn (piece i (overlay f i bs)) f j ≡ learn (piece i bs) f j
learn-overlay i bs f j = elim (inside_cases i (length bs) j) [
  | inl t ↦
      let at : get_or (overlay f i bs) (j - i) 0 ≡ unwrap_or (f j) (get_or bs (j - i) 0) =
      get_or-overlay f i bs (j - i) (omega arith) ∙ ap (λ k. unwrap_or (f k) (get_or bs (j - i) 0)) (omega arith) in
      learn-inside i (overlay f i bs) f j t.1 (omega (arith, length-overlay f i bs))
      ∙ ap (λ b. option_or (f j) (Some b)) at ∙ or-unwrap_or (f j) (get_or bs (j - i) 0) ∙ sym (learn-inside i bs f j t.1 t.2)
  | inr t ↦ learn_outside i (overlay f i bs) f j (rw (length-overlay f i bs) t.0) ∙ sym (learn_outside i bs f j t.0)
]

-- a piece written over what is known
abbrev pub written : ℕ → List ℕ → Known → Known
written i bs f j = cond (inside i (length bs) j) (Some (get_or bs (j - i) 0)) (f j)

-- to write what was overlaid is to learn it
pub written-learn : (i : ℕ) (bs : List ℕ) (f : Known) → bs ≡ overlay f i bs → (j : ℕ) → written i bs f j ≡ learn (piece i bs) f j
written-learn i bs f e j = elim (inside_cases i (length bs) j) [
  | inl t ↦
      let at : get_or bs (j - i) 0 ≡ unwrap_or (f j) (get_or bs (j - i) 0) =
      ap (λ xs. get_or xs (j - i) 0) e ∙ get_or-overlay f i bs (j - i) (omega arith) ∙ ap (λ k. unwrap_or (f k) (get_or bs (j - i) 0)) (omega arith) in
      rw t.0 (sym (learn-inside i bs f j t.1 t.2 ∙ or_fixed (f j) (get_or bs (j - i) 0) at))
  | inr t ↦ rw t.0 (sym (learn_outside i bs f j t.0))
]

-- what lies outside the window is none of the places that lie within
pub outside_within : (low width i n j : ℕ) → Within low width i n → inside low width j ≡ false → inside i n j ≡ false
outside_within low width i n j h out = elim (inside_cases i n j) [
  | inl t ↦ absurd (both_ways (inside low width j) out (inside_from low width j (omega (arith, h.above (omega arith))) (omega (arith, h.below (omega arith)))))
  | inr t ↦ t.0
]

-- the only bytes that are known from a place on, up to a gap or as many as n
pub onwards_is : (n i : ℕ) (f : Known) (xs : List ℕ) → length xs ≤ n → ((k : ℕ) → k < length xs → f (i + k) ≡ Some (get_or xs k 0))
    → (length xs < n → f (i + length xs) ≡ None) → xs ≡ onwards n i f
unfolding onwards
onwards_is zero i f [] h known ends = refl
onwards_is zero i f (x ∷ xs) h known ends = absurd (omega arith)
onwards_is (suc n) i f [] h known ends =
    let here : i + 0 ≡ i = omega arith in
    rw (rw here at (ends (omega arith)))
onwards_is (suc n) i f (x ∷ xs) h known ends =
    let here : i + 0 ≡ i = omega arith in
    let rest : xs ≡ onwards n (i + 1) f = onwards_is n (i + 1) f xs (omega arith)
    (λ k l. let on : i + suc k ≡ i + 1 + k = omega arith in rw on at (known (suc k) (omega arith)))
    (λ l. let on : i + suc (length xs) ≡ i + 1 + length xs = omega arith in rw on at (ends (omega arith))) in
    rw (rw here at (known 0 (omega arith)), ← rest)

none-not-some : (x : Option ℕ) → not (is_some x) ≡ true → x ≡ None
none-not-some None h = refl
none-not-some (Some b) h = absurd (both_ways true (sym h) refl)

-- no byte is known at any of the n places
pub none_known_decides : (n i : ℕ) (f : Known) → Decides (none_known n i f) ((k : ℕ) → k < n → f (i + k) ≡ None)
unfolding none_known
none_known_decides zero i f = (λ h k l. absurd (omega arith), λ h. refl)
none_known_decides (suc n) i f =
    let here : i + 0 ≡ i = omega arith in
    let rest = none_known_decides n (i + 1) f in (
      λ h k l.
          let parts = and_parts (not (is_some (f i))) (none_known n (i + 1) f) h in
          elim (cases_lt 0 k) [
            | inl m ↦ let on : i + k ≡ i + 1 + (k - 1) = omega arith in rw on (rest.0 parts.1 (k - 1) (omega arith))
            | inr m ↦ let on : i + k ≡ i = omega arith in rw on (none-not-some (f i) parts.0)
          ],
      λ h. rw (rw here at (h 0 (omega arith))) (rest.1 (λ k l. let on : i + suc k ≡ i + 1 + k = omega arith in rw on at (h (suc k) (omega arith)))),
    )

-- nothing is read onwards from a place that is not known
pub onwards-none : (n i : ℕ) (f : Known) → f i ≡ None → onwards n i f ≡ []
unfolding onwards
onwards-none zero i f e = refl
onwards-none (suc n) i f e = rw e

-- where nothing is known from `top` on, it does not matter how many places from there on are read
pub onwards_enough : (n m i top : ℕ) (f : Known) → ((j : ℕ) → top ≤ j → f j ≡ None) → top ≤ i + n → top ≤ i + m → onwards n i f ≡ onwards m i f
unfolding onwards
onwards_enough zero m i top f none h l = sym (onwards-none m i f (none i (omega arith)))
onwards_enough (suc n) zero i top f none h l = onwards-none (suc n) i f (none i (omega arith))
onwards_enough (suc n) (suc m) i top f none h l = rw (onwards_enough n m (i + 1) top f none (omega arith) (omega arith))

-- bytes that are known from a place on are read onwards first
pub onwards_text : (n i : ℕ) (f : Known) (xs : List ℕ) → length xs ≤ n → ((k : ℕ) → k < length xs → f (i + k) ≡ Some (get_or xs k 0))
    → onwards n i f ≡ xs ++ onwards (n - length xs) (i + length xs) f
unfolding onwards
onwards_text n i f [] h known =
    let all : n - 0 ≡ n = omega arith in
    let here : i + 0 ≡ i = omega arith in
    rw (all, here)
onwards_text zero i f (x ∷ xs) h known = absurd (omega arith)
onwards_text (suc n) i f (x ∷ xs) h known =
    let here : i + 0 ≡ i = omega arith in
    let left : suc n - suc (length xs) ≡ n - length xs = omega arith in
    let on : i + suc (length xs) ≡ i + 1 + length xs = omega arith in
    rw (rw here at (known 0 (omega arith)), left, on)
    (ap (λ ys. x ∷ ys) (onwards_text n (i + 1) f xs (omega arith) (λ k l. let next : i + suc k ≡ i + 1 + k = omega arith in rw next at (known (suc k) (omega arith)))))

-- once a piece is learned, its places have the bytes that are passed on of it
pub learn_overlaid : (i : ℕ) (bs : List ℕ) (f : Known) (k : ℕ) → k < length bs → learn (piece i bs) f (i + k) ≡ Some (get_or (overlay f i bs) k 0)
learn_overlaid i bs f k h =
    let on : i + k - i ≡ k = omega arith in
    learn-inside i bs f (i + k) (omega arith) (omega arith) ∙ rw on (or-some (f (i + k)) (get_or bs k 0) ∙ ap Some (sym (get_or-overlay f i bs k h)))

-- what a piece adds to a text that ends at one of its places, or right after it: the rest of what is passed on of it, and what was known from there on
pub onwards-learn : (n i j : ℕ) (bs : List ℕ) (f : Known) → i ≤ j → j ≤ i + length bs → i + length bs - j ≤ n
    → onwards n j (learn (piece i bs) f) ≡ drop (j - i) (overlay f i bs) ++ onwards (n - (i + length bs - j)) (i + length bs) f
onwards-learn n i j bs f h l fits =
    let new = drop (j - i) (overlay f i bs) in
    let long : length new ≡ i + length bs - j = simp (length-drop, length-overlay) (omega arith) in
    let end : j + (i + length bs - j) ≡ i + length bs = omega arith in
    onwards_text n j (learn (piece i bs) f) new (omega arith)
    (λ k m.
    let on : i + (j - i + k) ≡ j + k = omega arith in
    rw on at (learn_overlaid i bs f (j - i + k) (omega arith)) ∙ ap Some (sym (get_or-drop (j - i) (overlay f i bs) k 0)))
    ∙ rw (long, end)
    (ap (λ ys. new ++ ys) (onwards-same (learn (piece i bs) f) f (n - (i + length bs - j)) (i + length bs)
    (λ k m. learn_outside i bs f k (inside-above i (length bs) k m))))
