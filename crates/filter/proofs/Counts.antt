-- The ticks left, and the sender's last acknowledged number.
-- Assumes nothing.
use Rattle.std.proofs.Common.{◌≡◌, ℕ, true, false, cond, not, ◌&&◌, [], length, Some, None, Ok, Option, sym, refl, ap, ◌∙◌, subst, arith}
use Rattle.std.proofs.lemmas.Bool.{both_ways, cond_both, cond-true, cond-false, and_parts}
use Rattle.packet.specs.Bytes.{Bytes}
use Rattle.packet.specs.Packet.{Packet, packet, read}
use Rattle.window.proofs.PieceLaws.{none-some}
use Rattle.filter.specs.Config.{Config, Key, same_key}
use Rattle.filter.specs.declared.side.Side.TheVariants.{Outside}
use Rattle.filter.specs.Gate.{Connection, begun, Gate, among, put}
use Rattle.filter.specs.Verdict.{Event, Comes, Verdict, apply, answer_of, refusal_of}
use Rattle.filter.specs.Decide.{next, verdict}
use Rattle.filter.specs.Promise.{begins_by, Goes, OfStream, segment_of, segment_read, arrival, arrives, ack_of, Counts}
use Rattle.filter.proofs.Keys.{same_key_lem, held_same, put_same, put_cases, remove_gone}
use Rattle.filter.proofs.Decided.{Decided, decided, sender_of, loom_of}

some-none : {n : ℕ} → ◌≡◌ {A = Option ℕ} (Some n) None → ⊥
some-none e = none-some refl (sym e)

pub segment_came : (k : Key) (p : Bytes) (q : Packet) → read p ≡ Ok (packet p) → segment_of k (Comes Outside p) ≡ Some q → (k ≡ sender_of p) × (packet p ≡ q)
segment_came k p q reads came =
    cond_both (same_key k (sender_of p) && (not (packet p).syn && not (packet p).rst)) (Some (packet p)) None (λ x. x ≡ Some q → (k ≡ sender_of p) × (packet p ≡ q))
    (λ t e. let is : packet p ≡ q = cc in (same_key_lem k (sender_of p) (and_parts (same_key k (sender_of p)) _ t).0, is)) (λ _ e. absurd (none-some refl e)) (sym (ap (segment_read k) reads) ∙ came)

module _ (c : Config) (g : Gate) (k : Key) where
  -- what is put for the stream is held of it
  put_left : (l : Key) (s : Connection) → same_key k l ≡ true → ((put l s g).connection k).left ≡ s.left
  put_left l s e = ap (λ (t : Connection). t.left) (cond-true (same_key k l) s (g.connection k) e)

  active : (e : Event) (v : Verdict) → Decided c g e v → among k g.keys ≡ true → among k (apply v g).keys ≡ true → OfStream k e → refusal_of (answer_of v) ≡ None →
      ((apply v g).connection k).left ≡ c.quiet
  active _ _ (Decided.refuses side p n l why) h u o q = absurd (some-none q)
  active _ _ (Decided.elapses n) h u o q = absurd o
  active _ _ (Decided.opening p r new n m alone) h u o q = absurd (both_ways _ new (held_same k (sender_of p) g.keys o h))
  active _ _ (Decided.bare p out r w n t x m) h u o q = put_left (sender_of p) _ o
  active _ _ (Decided.takes p w is) h u o q = put_left (sender_of p) _ o
  active _ _ (Decided.acks_only p w is m) h u o q = put_left (sender_of p) _ o
  active _ _ (Decided.shuts p w found is) h u o q = absurd (some-none q)
  active _ _ (Decided.replies p out r new n t x) h u o q = absurd (both_ways _ new (held_same k (loom_of p) g.keys o h))
  active _ _ (Decided.again p r w n) h u o q = put_left (loom_of p) _ o
  active _ _ (Decided.acks p r w own t x) h u o q = put_left (loom_of p) _ o
  active _ _ (Decided.begins p w n) h u o q = put_left (loom_of p) _ o
  active _ _ (Decided.ends p out r w rst n t x) h u o q = absurd (both_ways _ (remove_gone k (loom_of p) g o) u)

  -- a segment is something
  pub segment-some : (e : Event) (q : Packet) → arrives k (g.connection k) e ≡ [] → segment_of k e ≡ Some q → ⊥
  segment-some e q none came = omega (arith, ap length (sym none ∙ ap (λ x. arrival (g.connection k) x (ack_of k e)) came))

  -- of a segment that is passed on the acknowledged number is kept
  put_ack : (p : Bytes) (q : Packet) (s : Connection) → read p ≡ Ok (packet p) → segment_of k (Comes Outside p) ≡ Some q →
      s.last_ack ≡ cond (packet p).ack (packet p).acknowledged (g.connection (sender_of p)).last_ack →
      ((put (sender_of p) s g).connection k).last_ack ≡ cond q.ack q.acknowledged (g.connection k).last_ack
  put_ack p q s reads came is =
      let both = segment_came k p q reads came in
      subst (λ (x : Key). ((put (sender_of p) s g).connection x).last_ack ≡ cond q.ack q.acknowledged (g.connection x).last_ack) (sym both.0)
      (ap (λ (t : Connection). t.last_ack) (put_same (sender_of p) s g) ∙
      (is ∙ ap (λ (x : Packet). cond x.ack x.acknowledged (g.connection (sender_of p)).last_ack) both.1))

  last_ack_lem : (e : Event) (v : Verdict) → Decided c g e v → among k g.keys ≡ true → (q : Packet) → segment_of k e ≡ Some q → refusal_of (answer_of v) ≡ None →
      ((apply v g).connection k).last_ack ≡ cond q.ack q.acknowledged (g.connection k).last_ack
  last_ack_lem _ _ (Decided.refuses side p n l why) h q came r = absurd (some-none r)
  last_ack_lem _ _ (Decided.elapses n) h q came r = absurd (none-some refl came)
  last_ack_lem _ _ (Decided.opening p reads new n m alone) h q came r = absurd (segment-some (Comes Outside p) q (n k h) came)
  last_ack_lem _ _ (Decided.bare p out reads w n t x m) h q came r = absurd (segment-some (Comes Outside p) q (n k h) came)
  last_ack_lem _ _ (Decided.takes p w is) h q came r = put_ack p q _ w.reads came refl
  last_ack_lem _ _ (Decided.acks_only p w is m) h q came r = put_ack p q _ w.reads came refl
  last_ack_lem _ _ (Decided.shuts p w found is) h q came r = absurd (some-none r)
  last_ack_lem _ _ (Decided.replies p out reads new n t x) h q came r = absurd (none-some refl came)
  last_ack_lem _ _ (Decided.again p reads w n) h q came r = absurd (none-some refl came)
  last_ack_lem _ _ (Decided.acks p reads w own t x) h q came r = absurd (none-some refl came)
  last_ack_lem _ _ (Decided.begins p w n) h q came r = absurd (none-some refl came)
  last_ack_lem _ _ (Decided.ends p out reads w rst n t x) h q came r = absurd (none-some refl came)

  -- what is put for a stream with the number that it had
  keep_ack : (l : Key) (s : Connection) → s.last_ack ≡ (g.connection l).last_ack → ((put l s g).connection k).last_ack ≡ (g.connection k).last_ack
  keep_ack l s is = put_cases k l s g (λ x t. t.last_ack ≡ (g.connection x).last_ack) is (λ _. refl)

  other_ack : (p : Bytes) (s : Connection) → segment_of (sender_of p) (Comes Outside p) ≡ Some (packet p) → segment_of k (Comes Outside p) ≡ None →
      ((put (sender_of p) s g).connection k).last_ack ≡ (g.connection k).last_ack
  other_ack p s own =
      put_cases k (sender_of p) s g (λ x t. segment_of x (Comes Outside p) ≡ None → t.last_ack ≡ (g.connection x).last_ack) (λ without. absurd (none-some without own)) (λ _ _. refl)

  no_ack_lem : (e : Event) (v : Verdict) → Decided c g e v → begins_by k v ≡ false → segment_of k e ≡ None → ((apply v g).connection k).last_ack ≡ (g.connection k).last_ack
  no_ack_lem _ _ (Decided.refuses side p n l why) b without = refl
  no_ack_lem _ _ (Decided.elapses n) b without = refl
  no_ack_lem _ _ (Decided.opening p r new n m alone) b without = refl
  no_ack_lem _ _ (Decided.bare p out r w n t x m) b without = keep_ack (sender_of p) _ refl
  no_ack_lem _ _ (Decided.takes p w is) b without = other_ack p _ w.segment without
  no_ack_lem _ _ (Decided.acks_only p w is m) b without = other_ack p _ w.segment without
  no_ack_lem _ _ (Decided.shuts p w found is) b without = keep_ack (sender_of p) _ refl
  no_ack_lem _ _ (Decided.replies p out r new n t x) b without = refl
  no_ack_lem _ _ (Decided.again p r w n) b without = keep_ack (loom_of p) _ refl
  no_ack_lem _ _ (Decided.acks p r w own t x) b without = keep_ack (loom_of p) _ refl
  no_ack_lem _ _ (Decided.begins p w n) b without = ap (λ (t : Connection). t.last_ack) (cond-false (same_key k (loom_of p)) _ (g.connection k) b)
  no_ack_lem _ _ (Decided.ends p out r w rst n t x) b without = refl

  -- a refused packet leaves the ticks as they are
  refused : (e : Event) (v : Verdict) → Decided c g e v → (n : ℕ) → refusal_of (answer_of v) ≡ Some n → ((apply v g).connection k).left ≡ (g.connection k).left
  refused _ _ (Decided.refuses side p m l why) n r = refl
  refused _ _ (Decided.elapses m) n r = absurd (none-some refl r)
  refused _ _ (Decided.opening p reads new a m alone) n r = absurd (none-some refl r)
  refused _ _ (Decided.bare p out reads w a t x m) n r = absurd (none-some refl r)
  refused _ _ (Decided.takes p w is) n r = absurd (none-some refl r)
  refused _ _ (Decided.acks_only p w is m) n r = absurd (none-some refl r)
  refused _ _ (Decided.shuts p w found is) n r = put_cases k (sender_of p) _ g (λ x t. t.left ≡ (g.connection x).left) refl (λ _. refl)
  refused _ _ (Decided.replies p out reads new a t x) n r = absurd (none-some refl r)
  refused _ _ (Decided.again p reads w a) n r = absurd (none-some refl r)
  refused _ _ (Decided.acks p reads w own t x) n r = absurd (none-some refl r)
  refused _ _ (Decided.begins p w a) n r = absurd (none-some refl r)
  refused _ _ (Decided.ends p out reads w rst a t x) n r = absurd (none-some refl r)

  -- the numbers of the beginning stay
  abbrev Same : Connection → Connection → Type 0
  Same s t = (s.first ≡ t.first) × (s.opening ≡ t.opening)

  keep_numbers : (l : Key) (s : Connection) → Same s (g.connection l) → Same ((put l s g).connection k) (g.connection k)
  keep_numbers l s is = put_cases k l s g (λ x t. Same t (g.connection x)) is (λ _. (refl, refl))

  numbers : (e : Event) (v : Verdict) → Decided c g e v → begins_by k v ≡ false → Same ((apply v g).connection k) (g.connection k)
  numbers _ _ (Decided.refuses side p n l why) b = (refl, refl)
  numbers _ _ (Decided.elapses n) b = (refl, refl)
  numbers _ _ (Decided.opening p reads new a m alone) b = (refl, refl)
  numbers _ _ (Decided.bare p out reads w a t x m) b = keep_numbers (sender_of p) _ (refl, refl)
  numbers _ _ (Decided.takes p w is) b = keep_numbers (sender_of p) _ (refl, refl)
  numbers _ _ (Decided.acks_only p w is m) b = keep_numbers (sender_of p) _ (refl, refl)
  numbers _ _ (Decided.shuts p w found is) b = keep_numbers (sender_of p) _ (refl, refl)
  numbers _ _ (Decided.replies p out reads new a t x) b = (refl, refl)
  numbers _ _ (Decided.again p reads w a) b = keep_numbers (loom_of p) _ (refl, refl)
  numbers _ _ (Decided.acks p reads w own t x) b = keep_numbers (loom_of p) _ (refl, refl)
  numbers _ _ (Decided.begins p w a) b = rw (cond-false (same_key k (loom_of p)) (begun c.quiet (packet p).number (packet p).acknowledged) (g.connection k) b) (refl, refl)
  numbers _ _ (Decided.ends p out reads w rst a t x) b = (refl, refl)

  pub counts : (e : Event) → among k g.keys ≡ true → Goes c k g e → Counts c k g e
  counts e held goes =
      record {
        active = active e (verdict c g e) (decided c g e) held goes.held;
        aged = λ n is. ap (λ (x : Event). ((next c g x).connection k).left) is;
        last_ack = last_ack_lem e (verdict c g e) (decided c g e) held;
        no_ack = no_ack_lem e (verdict c g e) (decided c g e) goes.not_anew;
        refused = refused e (verdict c g e) (decided c g e);
        numbers = numbers e (verdict c g e) (decided c g e) goes.not_anew;
      }
