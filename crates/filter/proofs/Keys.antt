-- Keys, and what is held under them.
-- Assumes nothing.
use Rattle.std.proofs.Common.{◌≡◌, ℕ, Bool, true, false, cond, not, ◌||◌, eqb, List, [], ◌∷◌, Some, None, sym, refl, ap, ◌∙◌, subst, ap₂, ⊎_elim}
use Rattle.std.proofs.lemmas.Bool.{both_ways, cases_Bool, cond_both, cond-true, cond-false, and_parts, and_from, or_left, or_right, or_from, not_from_true, not_from_false, eqb-true, eq-eqb}
use Rattle.packet.specs.Bytes.{Bytes}
use Rattle.packet.specs.Packet.{packet}
use Rattle.packet.specs.Laws.{ReadsAs}
use Rattle.filter.specs.Config.{Key, same_key, key_from}
use Rattle.filter.specs.declared.side.Side.TheVariants.{Outside}
use Rattle.filter.specs.Gate.{Connection, Gate, among, only, find, put, remove}

pub key-same : (k : Key) → same_key k k ≡ true
key-same k =
    and_from _ _ (eq-eqb k.sender k.sender refl) (and_from _ _ (eq-eqb k.sender_port k.sender_port refl)
    (and_from _ _ (eq-eqb k.loom k.loom refl) (eq-eqb k.loom_port k.loom_port refl)))

pub same_key_lem : (k l : Key) → same_key k l ≡ true → k ≡ l
same_key_lem k l e =
    let a = and_parts (eqb k.sender l.sender) _ e in
    let b = and_parts (eqb k.sender_port l.sender_port) _ a.1 in
    let d = and_parts (eqb k.loom l.loom) _ b.1 in
    let p = eqb-true _ _ a.0 in
    let q = eqb-true _ _ b.0 in
    let r = eqb-true _ _ d.0 in
    let s = eqb-true _ _ d.1 in
    λ i. record { sender = p i; sender_port = q i; loom = r i; loom_port = s i }

pub held_same : (k l : Key) (ks : List Key) → same_key k l ≡ true → among k ks ≡ true → among l ks ≡ true
held_same k l ks e h = subst (λ (x : Key). among x ks ≡ true) (same_key_lem k l e) h

-- a key that is held and one that is not differ
pub held_apart : (k l : Key) (ks : List Key) → among k ks ≡ true → among l ks ≡ false → same_key k l ≡ false
held_apart k l ks h n =
    ⊎_elim (λ e. absurd (both_ways _ n (held_same k l ks e h))) (λ d. d) (cases_Bool (same_key k l))

-- a packet that was written in place of another is of the same stream
pub reads_key : (p out : Bytes) (n a m : ℕ) (t : Bytes) → ReadsAs p out n a m t → key_from Outside (packet out) ≡ key_from Outside (packet p)
reads_key p out n a m t r = λ i. record { sender = r.source i; sender_port = r.source_port i; loom = r.destination i; loom_port = r.destination_port i }

-- What is put for a stream

pub put_same : (k : Key) (s : Connection) (g : Gate) → (put k s g).connection k ≡ s
put_same k s g = cond-true (same_key k k) s (g.connection k) (key-same k)

-- what is put for one stream is held of it, and of the others what was held
pub put_cases : (k l : Key) (s : Connection) (g : Gate) (Q : Key → Connection → Type 0) → Q l s → (same_key k l ≡ false → Q k (g.connection k)) → Q k ((put l s g).connection k)
put_cases k l s g Q here other = cond_both (same_key k l) s (g.connection k) (Q k) (λ e. subst (λ x. Q x s) (sym (same_key_lem k l e)) here) other

pub put_keeps : (k l : Key) (ks : List Key) → among k ks ≡ true → among k (cond (among l ks) ks (l ∷ ks)) ≡ true
unfolding among
put_keeps k l ks h = cond_both (among l ks) ks (l ∷ ks) (λ x. among k x ≡ true) (λ _. h) (λ _. or_right (same_key k l) (among k ks) h)

pub put-held : (k : Key) (s : Connection) (g : Gate) → among k (put k s g).keys ≡ true
unfolding among
put-held k s g = cond_both (among k g.keys) g.keys (k ∷ g.keys) (λ ks. among k ks ≡ true) (λ h. h) (λ _. or_left (same_key k k) _ (key-same k))

pub put_found : (k : Key) (s : Connection) (g : Gate) → find k (put k s g) ≡ Some s
put_found k s g = cond-true _ (Some ((put k s g).connection k)) None (put-held k s g) ∙ ap Some (put_same k s g)

pub put_other : (k l : Key) (s : Connection) (g : Gate) → same_key k l ≡ false → find k (put l s g) ≡ find k g
unfolding among
put_other k l s g d =
    ap₂ (λ b t. cond b (Some t) None)
    (cond_both (among l g.keys) g.keys (l ∷ g.keys) (λ x. among k x ≡ among k g.keys) (λ _. refl) (λ _. ap (λ b. b || among k g.keys) d))
    (cond-false (same_key k l) s (g.connection k) d)

-- The keys that pass a test

pub among-only : (k : Key) (test : Key → Bool) (ks : List Key) → test k ≡ true → among k (only test ks) ≡ among k ks
unfolding among only
among-only k test [] t = refl
among-only k test (x ∷ ks) t =
    cond_both (test x) (x ∷ only test ks) (only test ks) (λ l. among k l ≡ (same_key k x || among k ks))
    (λ _. ap (λ b. same_key k x || b) (among-only k test ks t))
    (λ f. ⊎_elim (λ s. absurd (both_ways (test x) f (subst (λ (y : Key). test y ≡ true) (same_key_lem k x s) t))) (λ s. among-only k test ks t ∙ ap (λ b. b || among k ks) (sym s)) (cases_Bool (same_key k x)))

pub only_gone : (k : Key) (test : Key → Bool) (ks : List Key) → test k ≡ false → among k (only test ks) ≡ false
unfolding among only
only_gone k test [] t = refl
only_gone k test (x ∷ ks) t =
    cond_both (test x) (x ∷ only test ks) (only test ks) (λ l. among k l ≡ false)
    (λ passes. or_from (same_key k x) _
    (⊎_elim (λ s. absurd (both_ways (test x) (subst (λ (y : Key). test y ≡ false) (same_key_lem k x s) t) passes)) (λ d. d) (cases_Bool (same_key k x)))
    (only_gone k test ks t))
    (λ _. only_gone k test ks t)

-- a stream that is forgotten is held no more
pub remove_gone : (k l : Key) (g : Gate) → same_key k l ≡ true → among k (remove l g).keys ≡ false
remove_gone k l g e = only_gone k (λ x. not (same_key x l)) g.keys (not_from_true (same_key k l) e)

pub remove_other : (k l : Key) (g : Gate) → same_key k l ≡ false → find k (remove l g) ≡ find k g
remove_other k l g d = ap (λ b. cond b (Some (g.connection k)) None) (among-only k (λ x. not (same_key x l)) g.keys (not_from_false _ d))
