-- Reading the whole input, event by event and block by block. Assumes nothing.
use Rattle.std.proofs.Common.{◌≡◌, ℕ, zero, suc, ◌+◌, ◌^◌, ◌<◌, ◌≤◌, List, [], ◌∷◌, ◌++◌, length, drop, Some, None, Ok, Err, Result, sym, refl, ap, ◌∙◌, subst, arith}
use Rattle.std.proofs.lemmas.List.{append-nil, append_assoc, length-append, length-drop, drop_at, drop-append-le}
use Rattle.packet.specs.Bytes.{Bytes}
use Rattle.filter.specs.Verdict.{Event}
use Rattle.frames.specs.Items.{ReadEvent, item}
use Rattle.frames.specs.Configs.{configuration}
use Rattle.frames.specs.Whole.{arrives, breaks, comes, ends, fails, lacks, opens, reads, stops, AllFit, BlocksRead, Events, Opens, Reading, ReadsBack, SettledConfig, SettledItem, Takes, and_then, faulty, onwards, read_all, read_events, taken_of, with_events, written_config, written_event, written_events}
use Rattle.frames.specs.declared.refusal.Refusal.{Refusal}
use Rattle.frames.specs.declared.refusal.Refusal.TheVariants.{Cut}
use Rattle.frames.proofs.Fates.{open_still, lost, done, fate, item-none}
use Rattle.frames.proofs.OnLaws.{config_back, config_reads_on, config_within, item_back, item_reads_on}

-- what is read of an item is some bytes, and stands there
record Part (bs : Bytes) (r : ReadEvent) : Type 0 where
  some : 0 < r.taken
  within : r.taken ≤ length bs

item_part : (bs : Bytes) (r : ReadEvent) → item bs ≡ Ok r → Part bs r
item_part bs r e =
    elim (fate bs) [
      | open_still f k ↦ absurd (let z : ◌≡◌ {A = ℕ} 0 1 = cc in omega arith)
      | lost f on ↦ absurd (let z : ◌≡◌ {A = ℕ} 0 1 = cc in omega arith)
      | done s f on some within ↦ let p : s ≡ r = cc in subst (Part bs) p (record { some = some; within = within })
    ]

-- fuel that suffices is enough
read_fuel : (n m at : ℕ) (bs : Bytes) → length bs ≤ n → length bs ≤ m → read_events n at bs ≡ read_events m at bs
unfolding read_events
read_fuel zero zero at bs l k = refl
read_fuel zero (suc m) at [] l k = refl
read_fuel zero (suc m) at (b ∷ bs) l k = absurd (omega arith)
read_fuel (suc n) zero at [] l k = refl
read_fuel (suc n) zero at (b ∷ bs) l k = absurd (omega arith)
read_fuel (suc n) (suc m) at [] l k = refl
read_fuel (suc n) (suc m) at (b ∷ bs) l k = go (item (b ∷ bs)) refl (λ j. read_fuel n m (at + j) (drop j (b ∷ bs)))
  where
    go : (x : Result ReadEvent Refusal) → item (b ∷ bs) ≡ x → ((j : ℕ) → length (drop j (b ∷ bs)) ≤ n → length (drop j (b ∷ bs)) ≤ m → read_events n (at + j) (drop j (b ∷ bs)) ≡ read_events m (at + j) (drop j (b ∷ bs))) →
        onwards x at (read_events n (at + taken_of x) (drop (taken_of x) (b ∷ bs))) ≡ onwards x at (read_events m (at + taken_of x) (drop (taken_of x) (b ∷ bs)))
    go (Err why) e on = refl
    go (Ok r) e on =
        let p = item_part (b ∷ bs) r e in
        let d = length-drop r.taken (b ∷ bs) in
        ap (and_then r.event) (on r.taken (omega (arith, p.some)) (omega (arith, p.some)))

-- one item more
read_step : (n at : ℕ) (bs : Bytes) (r : ReadEvent) → length bs ≤ n → item bs ≡ Ok r →
    read_events n at bs ≡ and_then r.event (read_events (length (drop r.taken bs)) (at + r.taken) (drop r.taken bs))
unfolding read_events
read_step n at [] r l e = let p = item_part [] r e in absurd (omega (arith, p.some, p.within))
read_step zero at (b ∷ bs) r l e = absurd (omega arith)
read_step (suc n) at (b ∷ bs) r l e =
    let p = item_part (b ∷ bs) r e in
    let d = length-drop r.taken (b ∷ bs) in
    ap (λ (x : Result ReadEvent Refusal). onwards x at (read_events n (at + taken_of x) (drop (taken_of x) (b ∷ bs)))) e
    ∙ ap (and_then r.event) (read_fuel n (length (drop r.taken (b ∷ bs))) (at + r.taken) (drop r.taken (b ∷ bs)) (omega (arith, p.some)) (omega arith))

-- or a fault
read_stop : (n at : ℕ) (bs : Bytes) (why : Refusal) → length bs ≤ n → 0 < length bs → item bs ≡ Err why → read_events n at bs ≡ faulty why at
unfolding read_events
read_stop n at [] why l s e = absurd (omega arith)
read_stop zero at (b ∷ bs) why l s e = absurd (omega arith)
read_stop (suc n) at (b ∷ bs) why l s e = ap (λ (x : Result ReadEvent Refusal). onwards x at (read_events n (at + taken_of x) (drop (taken_of x) (b ∷ bs)))) e

-- What was written is read back.

events_back : (n at : ℕ) (es : List Event) → AllFit es → length (written_events es) ≤ n → read_events n at (written_events es) ≡ record { events = es; fault = None }
unfolding AllFit written_events read_events
events_back zero at [] f l = refl
events_back (suc n) at [] f l = refl
events_back n at (e ∷ es) f l =
    let bs : Bytes = written_event e ++ written_events es in
    let d : drop (length (written_event e)) bs ≡ written_events es = drop_at (written_event e) (written_events es) (length (written_event e)) refl in
    read_step n at bs (record { event = e; taken = length (written_event e) }) l (item_back e (written_events es) f.0)
    ∙ ap (λ (t : Bytes). and_then e (read_events (length t) (at + length (written_event e)) t)) d
    ∙ ap (and_then e) (events_back (length (written_events es)) (at + length (written_event e)) es f.1 (omega arith))

pub reads_back : ReadsBack
reads_back power quiet ws es low high fits v f =
    let cfg : Bytes = written_config power quiet ws in
    let bs : Bytes = cfg ++ written_events es in
    let d : drop (length cfg) bs ≡ written_events es = drop_at cfg (written_events es) (length cfg) refl in
    let l = length-append cfg (written_events es) in
    ap (with_events bs) (config_back power quiet ws (written_events es) low high fits v)
    ∙ ap (λ (t : Bytes). record { settings = Some (record { width = 2 ^ power; quiet = quiet; words = ws }); events = read_events (length bs) (length cfg) t }) d
    ∙ ap (λ (x : Events). record { settings = Some (record { width = 2 ^ power; quiet = quiet; words = ws }); events = x }) (events_back (length bs) (length cfg) es f (omega arith))

-- Block by block.

settled_ok : (bs : Bytes) (r : ReadEvent) → item bs ≡ Ok r → SettledItem (item bs)
settled_ok bs r e = subst SettledItem (sym e) tt

settled_err : (bs : Bytes) (why : Refusal) → item bs ≡ Err why → (why ≡ Cut → ⊥) → SettledItem (item bs)
settled_err bs why e n = subst SettledItem (sym e) n

-- where nothing is left, nothing but a cut item can be read
some_left : (bs : Bytes) (why : Refusal) → item bs ≡ Err why → (why ≡ Cut → ⊥) → 0 < length bs
some_left [] why e n = absurd (n (let z : Err Cut ≡ Err why = sym (item-none [] refl) ∙ e in let w : Cut ≡ why = cc in sym w))
some_left (b ∷ bs) why e n = omega arith

takes_is : (at : ℕ) (left rest : Bytes) (out : Events) → Takes at left rest out → out ≡ read_events (length (left ++ rest)) at (left ++ rest)
unfolding read_events
takes_is at left _ out (comes {rest = rest} block t) =
    takes_is at (left ++ block) rest out t ∙ ap (λ (bs : Bytes). read_events (length bs) at bs) (append_assoc left block rest)
takes_is at left rest _ (reads {out = out} r e t) =
    let p = item_part left r e in
    let on : item (left ++ rest) ≡ Ok r = item_reads_on left rest (settled_ok left r e) ∙ e in
    let d : drop r.taken (left ++ rest) ≡ drop r.taken left ++ rest = drop-append-le r.taken left rest p.within in
    ap (and_then r.event) (takes_is (at + r.taken) (drop r.taken left) rest out t ∙ ap (λ (bs : Bytes). read_events (length bs) (at + r.taken) bs) (sym d))
    ∙ sym (read_step (length (left ++ rest)) at (left ++ rest) r (omega arith) on)
takes_is at left rest _ (stops why e n) =
    let on : item (left ++ rest) ≡ Err why = item_reads_on left rest (settled_err left why e n) ∙ e in
    let l = length-append left rest in
    let s = some_left left why e n in
    sym (read_stop (length (left ++ rest)) at (left ++ rest) why (omega arith) (omega arith) on)
takes_is at _ _ _ ends = refl
takes_is at left _ _ (breaks e s) =
    sym (read_stop (length left) at left Cut (omega arith) s e) ∙ ap (λ (bs : Bytes). read_events (length bs) at bs) (sym (append-nil left))

opens_is : (left rest : Bytes) (out : Reading) → Opens left rest out → out ≡ read_all (left ++ rest)
opens_is left _ out (arrives {rest = rest} block t) = opens_is (left ++ block) rest out t ∙ ap read_all (append_assoc left block rest)
opens_is left rest _ (opens {out = out} r e t) =
    let on : configuration (left ++ rest) ≡ Ok r = config_reads_on left rest (subst SettledConfig (sym e) tt) ∙ e in
    let w = config_within left r e in
    let d : drop r.taken (left ++ rest) ≡ drop r.taken left ++ rest = drop-append-le r.taken left rest w in
    let k = length-drop r.taken (left ++ rest) in
    let m = ap length d in
    ap (λ (x : Events). record { settings = Some r.settings; events = x })
    (takes_is r.taken (drop r.taken left) rest out t ∙ ap (λ (bs : Bytes). read_events (length bs) r.taken bs) (sym d)
    ∙ read_fuel (length (drop r.taken (left ++ rest))) (length (left ++ rest)) r.taken (drop r.taken (left ++ rest)) (omega arith) (omega arith))
    ∙ ap (with_events (left ++ rest)) (sym on)
opens_is left rest _ (fails f e n) =
    let on : configuration (left ++ rest) ≡ Err f = config_reads_on left rest (subst SettledConfig (sym e) n) ∙ e in
    ap (with_events (left ++ rest)) (sym on)
opens_is left _ _ (lacks f e) = ap (with_events left) (sym e) ∙ ap read_all (sym (append-nil left))

pub blocks_read : BlocksRead
blocks_read bs out t = opens_is [] bs out t
