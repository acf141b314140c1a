-- More bytes change no answer but that an item is cut, and what was written is read back. Assumes nothing.
use Rattle.std.proofs.Common.{◌≡◌, ℕ, ◌+◌, ◌*◌, ◌/◌, ◌%◌, ◌^◌, ◌<◌, ◌≤◌, ◌⊎◌, List, ◌++◌, length, take, drop, Ok, Err, Result, sym, refl, ap, ◌∙◌, subst, inl, inr, arith}
use Rattle.std.proofs.lemmas.List.{length-append, length-drop, drop-append-le, take_at}
use Rattle.std.proofs.lemmas.Bool.{cases_lt}
use Rattle.std.proofs.lemmas.Bool.Decides.{nat_tests}
use Rattle.automaton.specs.Lists.{ReadList, Valid, Whole, word_list, written}
use Rattle.automaton.specs.Text.{Text}
use Rattle.fault.specs.declared.Fault.{Fault}
use Rattle.automaton.specs.declared.refusal.ListRefusal.{ListRefusal}
use Rattle.automaton.specs.declared.refusal.ListRefusal.TheVariants as list
use Rattle.automaton.proofs.ListLaws as lists
use Rattle.packet.specs.Bytes.{Bytes, byte, read16, read32}
use Rattle.filter.specs.declared.side.Side.{Side}
use Rattle.filter.specs.declared.side.Side.TheVariants.{Outside, Looms}
use Rattle.filter.specs.Verdict.{Event, Comes, Ticks}
use Rattle.frames.specs.Items.{ReadEvent, header, item, side_of}
use Rattle.frames.specs.Configs.{ReadSettings, configuration, fault_of, refusal_of, with_header, with_list}
use Rattle.frames.specs.Whole.{ConfigReadsOn, CutIsShort, Fits, ItemReadsOn, SettledConfig, SettledItem, side_byte, written_config, written_event}
use Rattle.frames.specs.declared.refusal.Refusal.{Refusal}
use Rattle.frames.specs.declared.refusal.Refusal.TheVariants.{Cut, Bad}
use Rattle.frames.proofs.ListBounds.{Within, list_cut_short, list_within}
use Rattle.frames.proofs.Fates.{open_still, lost, done, byte_on, fate, item-packet, item_ticks, read32_on}

pub item_reads_on : ItemReadsOn
item_reads_on bs more s =
    elim (fate bs) [
      | open_still e k ↦ absurd (subst SettledItem e s refl)
      | lost e on ↦ on more ∙ sym e
      | done r e on some within ↦ on more ∙ sym e
    ]

-- the header

data HeaderFate (bs : Bytes) : Type 0 where
  short : header bs ≡ Err Cut → length bs < 6 → HeaderFate bs
  wrong : header bs ≡ Err Bad → ((more : Bytes) → header (bs ++ more) ≡ Err Bad) → HeaderFate bs
  right : (h : ℕ × ℕ) → header bs ≡ Ok h → ((more : Bytes) → header (bs ++ more) ≡ Ok h) → 6 ≤ length bs → HeaderFate bs

module _ (bs : Bytes) where
  header-none : length bs ≡ 0 → header bs ≡ Err Cut
  unfolding header
  header-none l = grind (arith, nat_tests)

  header_kind : 0 < length bs → (byte 0 bs < 3) ⊎ (3 < byte 0 bs) → header bs ≡ Err Bad
  unfolding header
  header_kind l k = elim k [ inl a ↦ grind (arith, nat_tests) | inr a ↦ grind (arith, nat_tests) ]

  header_one : length bs ≡ 1 → byte 0 bs ≡ 3 → header bs ≡ Err Cut
  unfolding header
  header_one l k = grind (arith, nat_tests)

  header_power : 1 < length bs → byte 0 bs ≡ 3 → (byte 1 bs < 10) ⊎ (16 < byte 1 bs) → header bs ≡ Err Bad
  unfolding header
  header_power l k p = elim p [ inl a ↦ grind (arith, nat_tests) | inr a ↦ grind (arith, nat_tests) ]

  header-cut : 1 < length bs → length bs < 6 → byte 0 bs ≡ 3 → 10 ≤ byte 1 bs → byte 1 bs ≤ 16 → header bs ≡ Err Cut
  unfolding header
  header-cut l m k p q = grind (arith, nat_tests)

  header-right : 6 ≤ length bs → byte 0 bs ≡ 3 → 10 ≤ byte 1 bs → byte 1 bs ≤ 16 → header bs ≡ Ok (byte 1 bs, read32 2 bs)
  unfolding header
  header-right l k p q = grind (arith, nat_tests)

wrong_kind : (bs : Bytes) → 0 < length bs → (byte 0 bs < 3) ⊎ (3 < byte 0 bs) → HeaderFate bs
wrong_kind bs l k = wrong (header_kind bs l k) (λ more. let n = length-append bs more in let e = byte_on bs more 0 l in header_kind (bs ++ more) (omega arith) (subst (λ (b : ℕ). (b < 3) ⊎ (3 < b)) (sym e) k))

wrong_power : (bs : Bytes) → 1 < length bs → byte 0 bs ≡ 3 → (byte 1 bs < 10) ⊎ (16 < byte 1 bs) → HeaderFate bs
wrong_power bs l k p =
    wrong (header_power bs l k p)
    (λ more. let n = length-append bs more in let e = byte_on bs more 1 l in
    header_power (bs ++ more) (omega arith) (byte_on bs more 0 (omega arith) ∙ k) (subst (λ (b : ℕ). (b < 10) ⊎ (16 < b)) (sym e) p))

right-header : (bs : Bytes) → 6 ≤ length bs → byte 0 bs ≡ 3 → 10 ≤ byte 1 bs → byte 1 bs ≤ 16 → HeaderFate bs
right-header bs l k p q =
    right (byte 1 bs, read32 2 bs) (header-right bs l k p q)
    (λ more. let n = length-append bs more in let e = byte_on bs more 1 (omega arith) in
    header-right (bs ++ more) (omega arith) (byte_on bs more 0 (omega arith) ∙ k) (omega arith) (omega arith)
    ∙ ap (λ (b : ℕ). Ok (b, read32 2 (bs ++ more))) e ∙ ap (λ (n : ℕ). Ok (byte 1 bs, n)) (read32_on bs more 2 (omega arith)))
    l

powered : (bs : Bytes) → 1 < length bs → byte 0 bs ≡ 3 → HeaderFate bs
powered bs l k =
    elim (cases_lt (byte 1 bs) 10) [
      | inl p ↦ wrong_power bs l k (inl p)
      | inr p ↦
          elim (cases_lt 16 (byte 1 bs)) [
            | inl q ↦ wrong_power bs l k (inr q)
            | inr q ↦ elim (cases_lt (length bs) 6) [ inl m ↦ short (header-cut bs l m k p q) m | inr m ↦ right-header bs m k p q ]
          ]
    ]

header_fate : (bs : Bytes) → HeaderFate bs
header_fate bs =
    elim (cases_lt 0 (length bs)) [
      | inr none ↦ short (header-none bs (omega arith)) (omega arith)
      | inl l ↦
          elim (cases_lt (byte 0 bs) 3) [
            | inl k ↦ wrong_kind bs l (inl k)
            | inr k ↦
                elim (cases_lt 3 (byte 0 bs)) [
                  | inl m ↦ wrong_kind bs l (inr m)
                  | inr m ↦ elim (cases_lt 1 (length bs)) [ inl t ↦ powered bs t (omega arith) | inr t ↦ short (header_one bs (omega arith) (omega arith)) (omega arith) ]
                ]
          ]
    ]

-- a list of which the configuration is not cut is not cut
whole_list : (h : ℕ × ℕ) (l : Result ReadList (Fault ListRefusal)) → SettledConfig (with_list h l) → Whole l
whole_list h (Ok r) s = tt
whole_list h (Err f) s = not-cut f.refusal s
  where
    not-cut : (why : ListRefusal) → (refusal_of why ≡ Cut → ⊥) → why ≡ list.Cut → ⊥
    not-cut why n e = n (ap refusal_of e)

pub config_reads_on : ConfigReadsOn
config_reads_on bs more s =
    elim (header_fate bs) [
      | short e k ↦ absurd (subst (λ (x : Result (ℕ × ℕ) Refusal). SettledConfig (with_header x (word_list (drop 6 bs)))) e s refl)
      | wrong e on ↦ ap (λ (x : Result (ℕ × ℕ) Refusal). with_header x (word_list (drop 6 (bs ++ more)))) (on more) ∙ ap (λ (x : Result (ℕ × ℕ) Refusal). with_header x (word_list (drop 6 bs))) (sym e)
      | right h e on l ↦
          let w : Whole (word_list (drop 6 bs)) = whole_list h (word_list (drop 6 bs)) (subst (λ (x : Result (ℕ × ℕ) Refusal). SettledConfig (with_header x (word_list (drop 6 bs)))) e s) in
          ap (λ (x : Result (ℕ × ℕ) Refusal). with_header x (word_list (drop 6 (bs ++ more)))) (on more)
          ∙ ap (λ (t : Bytes). with_list h (word_list t)) (drop-append-le 6 bs more l)
          ∙ ap (with_list h) (lists.reads_on (drop 6 bs) more w)
          ∙ ap (λ (x : Result (ℕ × ℕ) Refusal). with_header x (word_list (drop 6 bs))) (sym e)
    ]

-- the configuration takes no more than there is
pub config_within : (bs : Bytes) (r : ReadSettings) → configuration bs ≡ Ok r → r.taken ≤ length bs
config_within bs r e =
    elim (header_fate bs) [
      | short f k ↦ absurd (refused Cut f)
      | wrong f on ↦ absurd (refused Bad f)
      | right h f on l ↦ go h l (word_list (drop 6 bs)) refl (ap (λ (x : Result (ℕ × ℕ) Refusal). with_header x (word_list (drop 6 bs))) (sym f) ∙ e)
    ]
  where
    refused : (why : Refusal) → header bs ≡ Err why → ⊥
    refused why f =
        let p : ◌≡◌ {A = Result ReadSettings (Fault Refusal)} (Err (record { refusal = why; at = 0 })) (Ok r) = ap (λ (x : Result (ℕ × ℕ) Refusal). with_header x (word_list (drop 6 bs))) (sym f) ∙ e in
        let z : ◌≡◌ {A = ℕ} 0 1 = cc in
        omega arith

    go : (h : ℕ × ℕ) → 6 ≤ length bs → (x : Result ReadList (Fault ListRefusal)) → word_list (drop 6 bs) ≡ x → with_list h x ≡ Ok r → r.taken ≤ length bs
    go h l (Err f) p q = absurd (let z : ◌≡◌ {A = ℕ} 0 1 = cc in omega arith)
    go h l (Ok s) p q =
        let w : s.taken ≤ length (drop 6 bs) = subst (Within (length (drop 6 bs))) p (list_within (drop 6 bs)) in
        let k = length-drop 6 bs in
        let z : record { settings = record { width = 2 ^ h.0; quiet = h.1; words = s.words }; taken = 6 + s.taken } ≡ r = cc in
        let t : 6 + s.taken ≡ r.taken = ap (λ (x : ReadSettings). x.taken) z in
        omega arith

-- What is cut is short.

item_short : (bs : Bytes) → ((i : ℕ) → byte i bs < 256) → item bs ≡ Err Cut → length bs ≤ 65538
item_short bs b c =
    elim (fate bs) [
      | open_still e k ↦ k b
      | lost e on ↦ absurd (let p : ◌≡◌ {A = Result ReadEvent Refusal} (Err Bad) (Err Cut) = sym e ∙ c in let z : ◌≡◌ {A = ℕ} 0 1 = cc in omega arith)
      | done r e on some within ↦ absurd (let p : ◌≡◌ {A = Result ReadEvent Refusal} (Ok r) (Err Cut) = sym e ∙ c in let z : ◌≡◌ {A = ℕ} 0 1 = cc in omega arith)
    ]

same_refusal : (f g : Fault Refusal) → ◌≡◌ {A = Result ReadSettings (Fault Refusal)} (Err f) (Err g) → f.refusal ≡ g.refusal
same_refusal f g e = let p : f ≡ g = cc in ap (λ (x : Fault Refusal). x.refusal) p

-- a configuration that is cut, by what its list is
list_short : (h : ℕ × ℕ) (bs : Bytes) (at : ℕ) (x : Result ReadList (Fault ListRefusal)) → word_list bs ≡ x → with_list h x ≡ Err (record { refusal = Cut; at = at }) → length bs ≤ 4225
list_short h bs at (Ok r) p q = absurd (let z : ◌≡◌ {A = ℕ} 0 1 = cc in omega arith)
list_short h bs at (Err f) p q = list_cut_short bs f (cut_is f.refusal (same_refusal (fault_of f) (record { refusal = Cut; at = at }) q)) p
  where
    cut_is : (why : ListRefusal) → refusal_of why ≡ Cut → why ≡ list.Cut
    cut_is list.Cut e = refl
    cut_is list.TooMuch e = absurd (let z : ◌≡◌ {A = ℕ} 0 1 = cc in omega arith)
    cut_is list.Twice e = absurd (let z : ◌≡◌ {A = ℕ} 0 1 = cc in omega arith)

config_short : (bs : Bytes) (at : ℕ) → configuration bs ≡ Err (record { refusal = Cut; at = at }) → length bs ≤ 4231
config_short bs at e =
    elim (header_fate bs) [
      | short f k ↦ omega arith
      | wrong f on ↦
          absurd (let p = same_refusal (record { refusal = Bad; at = 0 }) (record { refusal = Cut; at = at }) (ap (λ (x : Result (ℕ × ℕ) Refusal). with_header x (word_list (drop 6 bs))) (sym f) ∙ e) in
          let z : ◌≡◌ {A = ℕ} 0 1 = cc in omega arith)
      | right h f on l ↦
          let s = list_short h (drop 6 bs) at (word_list (drop 6 bs)) refl (ap (λ (x : Result (ℕ × ℕ) Refusal). with_header x (word_list (drop 6 bs))) (sym f) ∙ e) in
          let k = length-drop 6 bs in
          omega arith
    ]

pub cut_is_short : CutIsShort
cut_is_short bs b = (item_short bs b, config_short bs)

-- What was written is read back.

side_back : (side : Side) → side_of (side_byte side) ≡ side
side_back Outside = refl
side_back Looms = refl

side_small : (side : Side) → side_byte side ≤ 1
side_small Outside = omega arith
side_small Looms = omega arith

two_is : (n : ℕ) → n < 65536 → n / 256 % 256 * 256 + n % 256 ≡ n
two_is n l = omega arith

four_is : (n : ℕ) → n < 2 ^ 32 → (n / 65536 / 256 % 256 * 256 + n / 65536 % 256) * 65536 + (n / 256 % 256 * 256 + n % 256) ≡ n
four_is n l = let a = two_is (n / 65536) (omega arith) in omega arith

pub item_back : (e : Event) (rest : Bytes) → Fits e → item (written_event e ++ rest) ≡ Ok (record { event = e; taken = length (written_event e) })
item_back (Comes side p) rest fits =
    let bs : Bytes = written_event (Comes side p) ++ rest in
    let n : read16 2 bs ≡ length p = two_is (length p) fits in
    let l : length bs ≡ 4 + (length p + length rest) = let a = length-append p rest in omega arith in
    item-packet bs refl (side_small side) (omega arith)
    ∙ ap (λ (k : ℕ). Ok (record { event = Comes (side_of (side_byte side)) (take k (p ++ rest)); taken = 4 + k })) n
    ∙ ap (λ (t : Bytes). Ok (record { event = Comes (side_of (side_byte side)) t; taken = 4 + length p })) (take_at p rest (length p) refl)
    ∙ ap (λ (s : Side). Ok (record { event = Comes s p; taken = 4 + length p })) (side_back side)
    ∙ ap (λ (k : ℕ). Ok (record { event = Comes side p; taken = k })) (let z : 4 + length p ≡ length (written_event (Comes side p)) = omega arith in z)
item_back (Ticks n) rest fits =
    let bs : Bytes = written_event (Ticks n) ++ rest in
    let e : read32 1 bs ≡ n = four_is n fits in
    item_ticks bs refl (omega arith) ∙ ap (λ (k : ℕ). Ok (record { event = Ticks k; taken = 5 })) e

pub config_back : (power quiet : ℕ) (ws : List Text) (rest : Bytes) → 10 ≤ power → power ≤ 16 → quiet < 2 ^ 32 → Valid ws →
    configuration (written_config power quiet ws ++ rest) ≡ Ok (record { settings = record { width = 2 ^ power; quiet = quiet; words = ws }; taken = length (written_config power quiet ws) })
config_back power quiet ws rest low high fits v =
    let bs : Bytes = written_config power quiet ws ++ rest in
    let h : header bs ≡ Ok (power, quiet) = header-right bs (omega arith) refl low high ∙ ap (λ (k : ℕ). Ok (power, k)) (four_is quiet fits) in
    ap (λ (x : Result (ℕ × ℕ) Refusal). with_header x (word_list (written ws ++ rest))) h ∙ ap (with_list (power, quiet)) (lists.reads_back ws rest v)
    ∙ ap (λ (k : ℕ). Ok (record { settings = record { width = 2 ^ power; quiet = quiet; words = ws }; taken = k })) (let z : 6 + length (written ws) ≡ length (written_config power quiet ws) = omega arith in z)
