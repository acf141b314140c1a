-- At most 256 streams are held, each once.
-- Assumes nothing.
use Rattle.std.proofs.Common.{◌≡◌, ◌<◌, ◌≤◌, Bool, true, false, cond, not, ltb, ◌⊎◌, List, [], ◌∷◌, length, inl, ⊎_elim, arith}
use Rattle.std.proofs.lemmas.Bool.{both_ways, cond_both, or_from, or_parts}
use Rattle.filter.specs.Config.{Config, Key, same_key}
use Rattle.filter.specs.Gate.{Gate, among, only, empty}
use Rattle.filter.specs.Verdict.{Event, Verdict, apply}
use Rattle.filter.specs.Decide.{next, run, verdict}
use Rattle.filter.specs.Promise.{Distinct}
use Rattle.filter.proofs.Decided.{Decided, decided, sender_of, loom_of}

-- at most 256, each once
record Held (ks : List Key) : Type 0 where
  few : length ks ≤ 256
  distinct : Distinct ks

-- a stream that is put in is held already, or there is room
put-held : (k : Key) (ks : List Key) → (among k ks ≡ true) ⊎ (length ks < 256) → Held ks → Held (cond (among k ks) ks (k ∷ ks))
put-held k ks room h =
    cond_both (among k ks) ks (k ∷ ks) Held (λ _. h)
    (λ new. record { few = ⊎_elim (λ held. absurd (both_ways _ new held)) (λ l. l) room; distinct = (new, h.distinct) })

only_fewer : (test : Key → Bool) (ks : List Key) → length (only test ks) ≤ length ks
unfolding only
only_fewer test [] = omega arith
only_fewer test (x ∷ ks) =
    let rest = only_fewer test ks in
    cond_both (test x) (x ∷ only test ks) (only test ks) (λ l. length l ≤ length (x ∷ ks)) (λ _. omega arith) (λ _. omega arith)

only-among : (k : Key) (test : Key → Bool) (ks : List Key) → among k ks ≡ false → among k (only test ks) ≡ false
unfolding among only
only-among k test [] n = n
only-among k test (x ∷ ks) n =
    let parts = or_parts (same_key k x) (among k ks) n in
    let rest = only-among k test ks parts.1 in
    cond_both (test x) (x ∷ only test ks) (only test ks) (λ l. among k l ≡ false) (λ _. or_from (same_key k x) _ parts.0 rest) (λ _. rest)

only-distinct : (test : Key → Bool) (ks : List Key) → Distinct ks → Distinct (only test ks)
unfolding only
only-distinct test [] d = tt
only-distinct test (x ∷ ks) d =
    let rest = only-distinct test ks d.1 in
    cond_both (test x) (x ∷ only test ks) (only test ks) Distinct (λ _. (only-among x test ks d.0, rest)) (λ _. rest)

only-held : (test : Key → Bool) (ks : List Key) → Held ks → Held (only test ks)
only-held test ks h = record { few = omega (arith, only_fewer test ks, h.few); distinct = only-distinct test ks h.distinct }

next-held : (c : Config) (g : Gate) (e : Event) (v : Verdict) → Decided c g e v → Held g.keys → Held (apply v g).keys
next-held c g _ _ (Decided.refuses side p n l why) held = held
next-held c g _ _ (Decided.elapses n) held = only-held (λ x. ltb n (g.connection x).left) g.keys held
next-held c g _ _ (Decided.opening p r new n m alone) held = held
next-held c g _ _ (Decided.bare p out r w n t x m) held = put-held (sender_of p) g.keys (inl w.held) held
next-held c g _ _ (Decided.takes p w is) held = put-held (sender_of p) g.keys (inl w.is_open.held) held
next-held c g _ _ (Decided.acks_only p w is m) held = put-held (sender_of p) g.keys (inl w.is_open.held) held
next-held c g _ _ (Decided.shuts p w found is) held = put-held (sender_of p) g.keys (inl w.is_open.held) held
next-held c g _ _ (Decided.replies p out r new n t x) held = held
next-held c g _ _ (Decided.again p r w n) held = put-held (loom_of p) g.keys (inl w.held) held
next-held c g _ _ (Decided.acks p r w own t x) held = put-held (loom_of p) g.keys (inl w.held) held
next-held c g _ _ (Decided.begins p w n) held = put-held (loom_of p) g.keys w.room held
next-held c g _ _ (Decided.ends p out r w rst n t x) held = only-held (λ x. not (same_key x (loom_of p))) g.keys held

run-held : (c : Config) (g : Gate) (es : List Event) → Held g.keys → Held (run c g es).keys
unfolding run
run-held c g [] held = held
run-held c g (e ∷ es) held = run-held c (next c g e) es (next-held c g e (verdict c g e) (decided c g e) held)

held : (c : Config) (es : List Event) → Held (run c empty es).keys
held c es = run-held c empty es (record { few = omega arith; distinct = tt })

pub run_few : (c : Config) (es : List Event) → length (run c empty es).keys ≤ 256
run_few c es = (held c es).few

pub run-distinct : (c : Config) (es : List Event) → Distinct (run c empty es).keys
run-distinct c es = (held c es).distinct
