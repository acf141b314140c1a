-- What is promised for each event.
-- Assumes nothing.
use Rattle.std.proofs.Common.{◌≡◌, ℕ, ◌≤◌, Bool, true, false, cond, not, ltb, ◌⊎◌, List, [], ◌∷◌, Some, None, Ok, Err, Result, sym, refl, ap, ◌∙◌, subst, ap₂, inr, ⊎_elim, arith}
use mathlib.Core.List.Memᴰ
use mathlib.Core.List.{Memᴰ}
use Rattle.std.proofs.lemmas.Bool.{both_ways, cases_Bool, cond_both, cond-true, cond-false, and_parts, ltb-false, not-false}
use Rattle.automaton.specs.Look.{Found}
use Rattle.packet.specs.Bytes.{Bytes}
use Rattle.packet.specs.Packet.{Packet, packet, read}
use Rattle.packet.specs.Laws.{Fresh, Sent, as_came, rewritten}
use Rattle.packet.proofs.ReadLaws.{read_is}
use Rattle.packet.proofs.WriteLaws.{sent-right}
use Rattle.packet.proofs.ResetLaws.{reset_reads, reset-fresh, reset_is}
use Rattle.window.proofs.PieceLaws.{none-some}
use Rattle.stream.specs.Steps.{Word, fin_left}
use Rattle.stream.proofs.Sound.{left_at}
use Rattle.filter.specs.Config.{Config, Key, same_key, key_from}
use Rattle.filter.specs.declared.side.Side.{Side}
use Rattle.filter.specs.declared.side.Side.TheVariants.{Outside, Looms}
use Rattle.filter.specs.Gate.{Connection, begun, aged, closed, Gate, among, only, find, full, put, remove, elapse, elapsed}
use Rattle.filter.specs.Verdict.{Event, Comes, Ticks, Verdict, Refuse, Forward, Update, Begin, End, Shut, Elapse, apply, answer_of, refusal_of, out_of}
use Rattle.filter.specs.Decide.{reset_to_loom, reset_to_sender, syn_alone, from_outside, same_beginning, from_loom, opens_with_bytes, on_read, answer, verdict}
use Rattle.filter.specs.Promise.{stream_of, segment_of, begins_by, Begins, Beginning, Ending, by_reset, by_quiet, Short, AsCame, OfStream, OfOther, CrossesBy, NothingElse, ShutForWord, Handled}
use Rattle.filter.proofs.Keys.{same_key_lem, held_same, put_keeps, put_found, put_other, among-only, only_gone, remove_gone, remove_other}
use Rattle.filter.proofs.Decided.{Decided, decided, as_came_lem, sender_crosses, Opens, sender_of, loom_of, seg_in, outcome_in}
use Rattle.filter.proofs.Sent.{fin_parts, left_sent}

refused_nothing : (g : Gate) (v : Verdict) (n : ℕ) → refusal_of (answer_of v) ≡ Some n → (n ≡ 10 → ⊥) → (apply v g ≡ g) × (out_of (answer_of v) ≡ [])
refused_nothing g (Refuse m) n e ten = (refl, refl)
refused_nothing g (Forward side p) n e ten = absurd (none-some refl e)
refused_nothing g (Update k s side p) n e ten = absurd (none-some refl e)
refused_nothing g (Begin k s p) n e ten = absurd (none-some refl e)
refused_nothing g (End k p) n e ten = absurd (none-some refl e)
refused_nothing g (Shut k s loom sender found) n e ten = let is : n ≡ 10 = cc in absurd (ten is)
refused_nothing g (Elapse m) n e ten = absurd (none-some refl e)

-- What goes out is right

record Right (e : Event) (out : Bytes) : Type 0 where
  reads : Short e → read out ≡ Ok (packet out)
  sums : AsCame e out ⊎ Fresh out

module _ (c : Config) (small : c.width ≤ 65536) (g : Gate) where
  one : (e : Event) (out : Bytes) → Right e out → (x : Bytes) → Memᴰ x (out ∷ []) → Right e x
  one e out r x m = subst (Right e) (sym (Memᴰ.eq_of_singleton m)) r

  from_sent : (side : Side) (p out : Bytes) → read p ≡ Ok (packet p) → Sent p out → (x : Bytes) → Memᴰ x (out ∷ []) → Right (Comes side p) x
  from_sent side p out r s = one (Comes side p) out (record { reads = λ short. sent-right.reads p out r short s; sums = sent-right.sums p out r s })

  all_right : (e : Event) (v : Verdict) → Decided c g e v → (out : Bytes) → Memᴰ out (out_of (answer_of v)) → Right e out
  all_right _ _ (Decided.refuses side p n l why) = λ x m. absurd (Memᴰ.not-nil m)
  all_right _ _ (Decided.elapses n) = λ x m. absurd (Memᴰ.not-nil m)
  all_right _ _ (Decided.opening p r new n m alone) = from_sent Outside p p r as_came
  all_right _ _ (Decided.bare p out r w n t x m) = from_sent Outside p out r t
  all_right _ _ (Decided.takes p w is) = from_sent Outside p _ w.reads (left_sent c.width small (g.connection (sender_of p)) p w.reads)
  all_right _ _ (Decided.acks_only p w is m) = from_sent Outside p _ w.reads (rewritten _ _ _ [] (omega arith))
  all_right _ _ (Decided.shuts p w found is) = λ x m.
      ⊎_elim (λ e. subst (Right (Comes Outside p)) (sym e) (record { reads = λ _. reset_reads _ _ _ _ _; sums = inr (reset-fresh _ _ _ _ _) }))
      (one (Comes Outside p) _ (record { reads = λ _. reset_reads _ _ _ _ _; sums = inr (reset-fresh _ _ _ _ _) }) x)
      (Memᴰ.cases_cons m)
  all_right _ _ (Decided.replies p out r new n t x) = from_sent Looms p out r t
  all_right _ _ (Decided.again p r w n) = from_sent Looms p p r as_came
  all_right _ _ (Decided.acks p r w own t x) = from_sent Looms p _ r t
  all_right _ _ (Decided.begins p w n) = from_sent Looms p p w.reads as_came
  all_right _ _ (Decided.ends p out r w rst n t x) = from_sent Looms p out r t

module _ (c : Config) (g : Gate) where
  -- to the other side
  crosses : (e : Event) (v : Verdict) → Decided c g e v → CrossesBy e (answer_of v)
  crosses _ _ (Decided.refuses side p n l why) = tt
  crosses _ _ (Decided.elapses n) = refl
  crosses _ _ (Decided.opening p r new n m alone) = as_came_lem Outside p
  crosses _ _ (Decided.bare p out r w n t x m) = x
  crosses _ _ (Decided.takes p w is) =
      sender_crosses p w.reads (g.connection (sender_of p)) _ _ (fin_left c.width (stream_of (sender_of p) g) (seg_in g p))
      (λ f e. (fin_parts (seg_in g p) f (left_at c.width (stream_of (sender_of p) g) (seg_in g p) f e)).0)
  crosses _ _ (Decided.acks_only p w is m) = sender_crosses p w.reads (g.connection (sender_of p)) 0 [] None (λ f e. absurd (none-some refl e))
  crosses _ _ (Decided.shuts p w found is) = tt
  crosses _ _ (Decided.replies p out r new n t x) = x
  crosses _ _ (Decided.again p r w n) = as_came_lem Looms p
  crosses _ _ (Decided.acks p r w own t x) = x
  crosses _ _ (Decided.begins p w n) = as_came_lem Looms p
  crosses _ _ (Decided.ends p out r w rst n t x) = x

  -- of a stream that is not held only an opening goes to the loom
  abbrev Nothing : Event → Verdict → Type 0
  Nothing (Ticks n) v = Unit {0}
  Nothing (Comes Looms p) v = Unit {0}
  Nothing (Comes Outside p) v =
      among (sender_of p) g.keys ≡ false → (out : Bytes) → Memᴰ out (out_of (answer_of v)) → (out ≡ p) × (syn_alone (packet p) ≡ true) × ((packet p).payload ≡ [])

  nothing_else : (e : Event) (v : Verdict) → Decided c g e v → Nothing e v
  nothing_else _ _ (Decided.refuses side p n l why) = go side
    where
      go : (side : Side) → Nothing (Comes side p) (Refuse n)
      go Outside = λ _ out m. absurd (Memᴰ.not-nil m)
      go Looms = tt
  nothing_else _ _ (Decided.elapses n) = tt
  nothing_else _ _ (Decided.opening p r new n b alone) = λ _ out m. (Memᴰ.eq_of_singleton m, alone, b.payload)
  nothing_else _ _ (Decided.bare p out r w n t x m) = λ new. absurd (both_ways _ new w.held)
  nothing_else _ _ (Decided.takes p w is) = λ new. absurd (both_ways _ new w.is_open.held)
  nothing_else _ _ (Decided.acks_only p w is m) = λ new. absurd (both_ways _ new w.is_open.held)
  nothing_else _ _ (Decided.shuts p w found is) = λ new. absurd (both_ways _ new w.is_open.held)
  nothing_else _ _ (Decided.replies p out r new n t x) = tt
  nothing_else _ _ (Decided.again p r w n) = tt
  nothing_else _ _ (Decided.acks p r w own t x) = tt
  nothing_else _ _ (Decided.begins p w n) = tt
  nothing_else _ _ (Decided.ends p out r w rst n t x) = tt

  pub unbegun : (p : Bytes) → NothingElse c g p
  unbegun p = nothing_else (Comes Outside p) (verdict c g (Comes Outside p)) (decided c g (Comes Outside p))

  -- A word

  record Shutting (e : Event) (v : Verdict) : Type 0 where
    bytes : Bytes
    came : segment_of (sender_of bytes) e ≡ Some (packet bytes)
    held : among (sender_of bytes) g.keys ≡ true
    found : Found
    word : outcome_in c g bytes ≡ Word found
    is : v ≡ Shut (sender_of bytes) (closed (g.connection (sender_of bytes))) (reset_to_loom (sender_of bytes) (g.connection (sender_of bytes)))
        (reset_to_sender (sender_of bytes) (g.connection (sender_of bytes))) found

  shutting : (e : Event) (v : Verdict) → Decided c g e v → refusal_of (answer_of v) ≡ Some 10 → Shutting e v
  shutting _ _ (Decided.refuses side p n l why) q = let is : n ≡ 10 = cc in absurd (omega arith)
  shutting _ _ (Decided.elapses n) q = absurd (none-some refl q)
  shutting _ _ (Decided.opening p r new n m alone) q = absurd (none-some refl q)
  shutting _ _ (Decided.bare p out r w n t x m) q = absurd (none-some refl q)
  shutting _ _ (Decided.takes p w is) q = absurd (none-some refl q)
  shutting _ _ (Decided.acks_only p w is m) q = absurd (none-some refl q)
  shutting _ _ (Decided.shuts p w found is) q = record { bytes = p; came = w.segment; held = w.is_open.held; found = found; word = is; is = refl }
  shutting _ _ (Decided.replies p out r new n t x) q = absurd (none-some refl q)
  shutting _ _ (Decided.again p r w n) q = absurd (none-some refl q)
  shutting _ _ (Decided.acks p r w own t x) q = absurd (none-some refl q)
  shutting _ _ (Decided.begins p w n) q = absurd (none-some refl q)
  shutting _ _ (Decided.ends p out r w rst n t x) q = absurd (none-some refl q)

  shut_for_word : (e : Event) → refusal_of (answer c g e) ≡ Some 10 → ShutForWord c g e
  shut_for_word e q =
      let s = shutting e (verdict c g e) (decided c g e) q in
      record {
        key = sender_of s.bytes;
        segment = packet s.bytes;
        came = s.came;
        held = s.held;
        found = s.found;
        is = s.word;
        state = ap (λ (v : Verdict). apply v g) s.is;
        loom = _;
        sender = _;
        resets = ap answer_of s.is;
        to_loom = reset_is _ _ _ _ _;
        to_sender = reset_is _ _ _ _ _;
      }

  -- Beginnings and ends

  module _ (k : Key) where
    record BeginsBy (e : Event) (v : Verdict) : Type 0 where
      bytes : Bytes
      came : e ≡ Comes Looms bytes
      opens : Opens g bytes
      key : same_key k (loom_of bytes) ≡ true
      fresh : find k (apply v g) ≡ Some (begun c.quiet (packet bytes).number (packet bytes).acknowledged)

    begins_by_lem : (e : Event) (v : Verdict) → Decided c g e v → begins_by k v ≡ true → BeginsBy e v
    begins_by_lem _ _ (Decided.refuses side p n l why) b = absurd (both_ways _ refl b)
    begins_by_lem _ _ (Decided.elapses n) b = absurd (both_ways _ refl b)
    begins_by_lem _ _ (Decided.opening p r new n m alone) b = absurd (both_ways _ refl b)
    begins_by_lem _ _ (Decided.bare p out r w n t x m) b = absurd (both_ways _ refl b)
    begins_by_lem _ _ (Decided.takes p w is) b = absurd (both_ways _ refl b)
    begins_by_lem _ _ (Decided.acks_only p w is m) b = absurd (both_ways _ refl b)
    begins_by_lem _ _ (Decided.shuts p w found is) b = absurd (both_ways _ refl b)
    begins_by_lem _ _ (Decided.replies p out r new n t x) b = absurd (both_ways _ refl b)
    begins_by_lem _ _ (Decided.again p r w n) b = absurd (both_ways _ refl b)
    begins_by_lem _ _ (Decided.acks p r w own t x) b = absurd (both_ways _ refl b)
    begins_by_lem _ _ (Decided.begins p w n) b =
        let s : Connection = begun c.quiet (packet p).number (packet p).acknowledged in
        record { bytes = p; came = refl; opens = w; key = b; fresh = subst (λ (x : Key). find k (put x s g) ≡ Some s) (same_key_lem k (loom_of p) b) (put_found k s g) }
    begins_by_lem _ _ (Decided.ends p out r w rst n t x) b = absurd (both_ways _ refl b)

    pub begins_so : (e : Event) → Begins c k g e → Beginning c k g e
    begins_so e b =
        let by = begins_by_lem e (verdict c g e) (decided c g e) b in
        let both = and_parts (packet by.bytes).syn _ by.opens.both in
        let new = subst (λ (x : Key). among x g.keys ≡ true → (same_beginning (g.connection x) (packet by.bytes) ≡ false) × ((stream_of x g).shut ≡ false))
        (sym (same_key_lem k _ by.key)) by.opens.new in
        record {
          bytes = by.bytes;
          came = by.came;
          reads = by.opens.reads;
          key = by.key;
          syn = both.0;
          ack = both.1;
          rst = by.opens.rst;
          new = λ h. (new h).0;
          not_shut = λ h. (new h).1;
          fresh = by.fresh;
        }

    -- a key that is no longer among those that pass a test does not pass it
    only_ends : (test : Key → Bool) (ks : List Key) → among k ks ≡ true → among k (only test ks) ≡ false → test k ≡ false
    only_ends test ks h n = ⊎_elim (λ t. absurd (both_ways _ n (among-only k test ks t ∙ h))) (λ f. f) (cases_Bool (test k))

    ends_by : (e : Event) (v : Verdict) → Decided c g e v → among k g.keys ≡ true → among k (apply v g).keys ≡ false → Ending k g e
    ends_by _ _ (Decided.refuses side p n l why) h gone = absurd (both_ways _ gone h)
    ends_by _ _ (Decided.elapses n) h gone = by_quiet n (ltb-false n (g.connection k).left (only_ends (λ y. ltb n (g.connection y).left) g.keys h gone))
    ends_by _ _ (Decided.opening p r new n m alone) h gone = absurd (both_ways _ gone h)
    ends_by _ _ (Decided.bare p out r w n t x m) h gone = absurd (both_ways _ gone (put_keeps k (sender_of p) g.keys h))
    ends_by _ _ (Decided.takes p w is) h gone = absurd (both_ways _ gone (put_keeps k (sender_of p) g.keys h))
    ends_by _ _ (Decided.acks_only p w is m) h gone = absurd (both_ways _ gone (put_keeps k (sender_of p) g.keys h))
    ends_by _ _ (Decided.shuts p w found is) h gone = absurd (both_ways _ gone (put_keeps k (sender_of p) g.keys h))
    ends_by _ _ (Decided.replies p out r new n t x) h gone = absurd (both_ways _ gone h)
    ends_by _ _ (Decided.again p r w n) h gone = absurd (both_ways _ gone (put_keeps k (loom_of p) g.keys h))
    ends_by _ _ (Decided.acks p r w own t x) h gone = absurd (both_ways _ gone (put_keeps k (loom_of p) g.keys h))
    ends_by _ _ (Decided.begins p w n) h gone = absurd (both_ways _ gone (put_keeps k (loom_of p) g.keys h))
    ends_by _ _ (Decided.ends p out r w rst n t x) h gone = by_reset p r (not-false _ (only_ends (λ y. not (same_key y (loom_of p))) g.keys h gone)) rst

    -- Streams apart

    apart : (e : Event) (v : Verdict) → Decided c g e v → OfOther k e → find k (apply v g) ≡ find k g
    apart _ _ (Decided.refuses side p n l why) d = refl
    apart _ _ (Decided.elapses n) d = absurd d
    apart _ _ (Decided.opening p r new n m alone) d = refl
    apart _ _ (Decided.bare p out r w n t x m) d = put_other k (sender_of p) _ g d
    apart _ _ (Decided.takes p w is) d = put_other k (sender_of p) _ g d
    apart _ _ (Decided.acks_only p w is m) d = put_other k (sender_of p) _ g d
    apart _ _ (Decided.shuts p w found is) d = put_other k (sender_of p) _ g d
    apart _ _ (Decided.replies p out r new n t x) d = refl
    apart _ _ (Decided.again p r w n) d = put_other k (loom_of p) _ g d
    apart _ _ (Decided.acks p r w own t x) d = put_other k (loom_of p) _ g d
    apart _ _ (Decided.begins p w n) d = put_other k (loom_of p) _ g d
    apart _ _ (Decided.ends p out r w rst n t x) d = remove_other k (loom_of p) g d

    -- a stream that is shut: its packets are refused
    closed_open : (l : Key) → same_key k l ≡ true → (stream_of k g).shut ≡ true → (stream_of l g).shut ≡ false → ⊥
    closed_open l e shut up = both_ways _ up (subst (λ (x : Key). (stream_of x g).shut ≡ true) (same_key_lem k l e) shut)

    silent : (e : Event) (v : Verdict) → Decided c g e v → OfStream k e → among k g.keys ≡ true → (stream_of k g).shut ≡ true → (apply v g ≡ g) × (out_of (answer_of v) ≡ [])
    silent _ _ (Decided.refuses side p n l why) o h s = (refl, refl)
    silent _ _ (Decided.elapses n) o h s = absurd o
    silent _ _ (Decided.opening p r new n m alone) o h s = absurd (both_ways _ new (held_same k (sender_of p) g.keys o h))
    silent _ _ (Decided.bare p out r w n t x m) o h s = absurd (closed_open (sender_of p) o s w.not_shut)
    silent _ _ (Decided.takes p w is) o h s = absurd (closed_open (sender_of p) o s w.is_open.not_shut)
    silent _ _ (Decided.acks_only p w is m) o h s = absurd (closed_open (sender_of p) o s w.is_open.not_shut)
    silent _ _ (Decided.shuts p w found is) o h s = absurd (closed_open (sender_of p) o s w.is_open.not_shut)
    silent _ _ (Decided.replies p out r new n t x) o h s = absurd (both_ways _ new (held_same k (loom_of p) g.keys o h))
    silent _ _ (Decided.again p r w n) o h s = absurd (closed_open (loom_of p) o s w.not_shut)
    silent _ _ (Decided.acks p r w own t x) o h s = absurd (closed_open (loom_of p) o s w.not_shut)
    silent _ _ (Decided.begins p w n) o h s = absurd (closed_open (loom_of p) o s (w.new (held_same k (loom_of p) g.keys o h)).1)
    silent _ _ (Decided.ends p out r w rst n t x) o h s = absurd (closed_open (loom_of p) o s w.not_shut)

-- What is done with a packet depends on its own stream alone

module _ (k : Key) (g : Gate) where
  find-elapse : (n : ℕ) → find k (elapse n g) ≡ elapsed n (find k g)
  find-elapse n =
      ⊎_elim (λ t. ap (λ b. cond b (Some (aged n s)) None) (among-only k test g.keys t) ∙ stays (among k g.keys) t)
      (λ f. ap (λ b. cond b (Some (aged n s)) None) (only_gone k test g.keys f) ∙ goes (among k g.keys) f)
      (cases_Bool (test k))
    where
      s : Connection
      s = g.connection k

      test : Key → Bool
      test x = ltb n (g.connection x).left

      stays : (b : Bool) → test k ≡ true → cond b (Some (aged n s)) None ≡ elapsed n (cond b (Some s) None)
      stays true t = sym (cond-true (ltb n s.left) (Some (aged n s)) None t)
      stays false t = refl

      goes : (b : Bool) → test k ≡ false → None ≡ elapsed n (cond b (Some s) None)
      goes true f = sym (cond-false (ltb n s.left) (Some (aged n s)) None f)
      goes false f = refl

  find-put : (l : Key) (s : Connection) → find k (put l s g) ≡ cond (same_key k l) (Some s) (find k g)
  find-put l s =
      cond_both (same_key k l) (Some s) (find k g) (λ x. find k (put l s g) ≡ x)
      (λ e. subst (λ (x : Key). find k (put x s g) ≡ Some s) (same_key_lem k l e) (put_found k s g)) (put_other k l s g)

  find-remove : (l : Key) → find k (remove l g) ≡ cond (same_key k l) None (find k g)
  find-remove l =
      cond_both (same_key k l) None (find k g) (λ x. find k (remove l g) ≡ x) (λ e. cond-false _ (Some (g.connection k)) None (remove_gone k l g e)) (remove_other k l g)

apply_alone : (k : Key) (g h : Gate) (v : Verdict) → find k h ≡ find k g → find k (apply v h) ≡ find k (apply v g)
apply_alone k g h (Refuse n) e = e
apply_alone k g h (Forward side p) e = e
apply_alone k g h (Update l s side p) e = find-put k h l s ∙ (ap (cond (same_key k l) (Some s)) e ∙ sym (find-put k g l s))
apply_alone k g h (Begin l s p) e = find-put k h l s ∙ (ap (cond (same_key k l) (Some s)) e ∙ sym (find-put k g l s))
apply_alone k g h (End l p) e = find-remove k h l ∙ (ap (cond (same_key k l) None) e ∙ sym (find-remove k g l))
apply_alone k g h (Shut l s loom sender found) e = find-put k h l s ∙ (ap (cond (same_key k l) (Some s)) e ∙ sym (find-put k g l s))
apply_alone k g h (Elapse n) e = find-elapse k h n ∙ (ap (elapsed n) e ∙ sym (find-elapse k g n))

verdict_alone : (c : Config) (k : Key) (g h : Gate) (e : Event) → OfStream k e → find k h ≡ find k g → full h ≡ full g → verdict c h e ≡ verdict c g e
verdict_alone c k g h (Ticks n) o same room = refl
verdict_alone c k g h (Comes side p) o same room = go (read p) refl side o
  where
    go : (r : Result Packet ℕ) → read p ≡ r → (side : Side) → same_key k (key_from side (packet p)) ≡ true → on_read c h side r ≡ on_read c g side r
    go (Err n) e side o = refl
    go (Ok q) e Outside o =
        let is : k ≡ key_from Outside q = same_key_lem k _ o ∙ ap (key_from Outside) (sym (read_is p q e)) in
        ap (from_outside c (key_from Outside q) q) (subst (λ (x : Key). find x h ≡ find x g) is same)
    go (Ok q) e Looms o =
        let is : k ≡ key_from Looms q = same_key_lem k _ o ∙ ap (key_from Looms) (sym (read_is p q e)) in
        ap₂ (λ b s. cond (opens_with_bytes q) (Refuse 7) (from_loom c (key_from Looms q) q b s)) room (subst (λ (x : Key). find x h ≡ find x g) is same)

pub handled : (c : Config) → c.width ≤ 65536 → (g : Gate) (e : Event) → Handled c g e
handled c small g e =
    record {
      refused = refused_nothing g (verdict c g e);
      word = shut_for_word c g e;
      begins = λ k. begins_so c g k e;
      ends = λ k. ends_by c g k e (verdict c g e) (decided c g e);
      apart = λ k. apart c g k e (verdict c g e) (decided c g e);
      alone = λ k o h same room.
          let v : verdict c h e ≡ verdict c g e = verdict_alone c k g h e o same room in
          (ap answer_of v, ap (λ (x : Verdict). find k (apply x h)) v ∙ apply_alone k g h (verdict c g e) same);
      ticks = λ k n is. rw is (find-elapse k g n);
      silent = λ k. silent c g k e (verdict c g e) (decided c g e);
      crosses = crosses c g e (verdict c g e) (decided c g e);
      reads = λ short out m. (all_right c small g e (verdict c g e) (decided c g e) out m).reads short;
      sums = λ out m. (all_right c small g e (verdict c g e) (decided c g e) out m).sums;
    }
