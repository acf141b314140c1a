-- What an event does to a stream is what the stream's steps do with what it brings.
-- Assumes nothing.
use Rattle.std.proofs.Common.{◌≡◌, ◌%◌, ◌≤◌, true, false, eqb, [], ◌∷◌, Some, None, Option, sym, refl, ap, ◌∙◌, subst}
use Rattle.std.proofs.lemmas.List.{append-nil}
use Rattle.std.proofs.lemmas.Bool.{cond_both, cond-true, cond-false}
use Rattle.packet.specs.Bytes.{Bytes}
use Rattle.packet.specs.Packet.{Packet, packet}
use Rattle.packet.proofs.ResetLaws.{reset_is}
use Rattle.packet.proofs.WriteLaws.{sent-right}
use Rattle.stream.specs.Stream.{Stream, taken}
use Rattle.stream.specs.Steps.{Arrival, Arrives, Acked, Outcome, Passed, Empty, Word, piece_left, fin_left, piece_of, piece_in, fin_in, pieces_of, fins_of, after, step}
use Rattle.stream.specs.Steps as steps
use Rattle.stream.specs.Promise.{Sound}
use Rattle.stream.proofs.Next.{stays}
use Rattle.filter.specs.Config.{Config, Key, same_key, key_from}
use Rattle.filter.specs.declared.side.Side.TheVariants.{Outside, Looms}
use Rattle.filter.specs.Gate.{Connection, Gate, among, put}
use Rattle.filter.specs.Verdict.{Event, Comes, Ticks, Verdict, apply, answer_of, to_looms}
use Rattle.filter.specs.Decide.{segment_at, acked_at, reset_to_loom, verdict, next, answer}
use Rattle.filter.specs.Promise.{begins_by, Goes, stream_of, segment_of, ack_of, arrival, arrives, piece_out, fin_out}
use Rattle.filter.proofs.Keys.{key-same, reads_key, put_cases}
use Rattle.filter.proofs.Decided
use Rattle.filter.proofs.Decided.{Bare, Idle, Decided, decided, sender_of, loom_of, ComesOpen, outcome_in, seg_in, left_in, other_segment, other_ack}
use Rattle.filter.proofs.Sent.{left_reads, left_pieces, left_fins}

-- the stream is this then, and this is sent to the looms
pub record Follows (c : Config) (k : Key) (g : Gate) (e : Event) (s : Stream) (out : Option Bytes) : Type 0 where
  pub stream : s ≡ steps.run c.width c.words (stream_of k g) (arrives k (g.connection k) e)
  pub pieces : piece_out k (g.connection k) out ≡ steps.passed c.width c.words (stream_of k g) (arrives k (g.connection k) e)
  pub fins : fin_out k (g.connection k) out ≡ steps.fins c.width c.words (stream_of k g) (arrives k (g.connection k) e)

module _ (c : Config) (k : Key) (g : Gate) (e : Event) (out : Option Bytes) where
  abbrev s : Stream
  s = stream_of k g

  -- nothing comes
  none_follows : arrives k (g.connection k) e ≡ [] → piece_out k (g.connection k) out ≡ [] → fin_out k (g.connection k) out ≡ [] → Follows c k g e s out
  unfolding steps.run steps.passed steps.fins
  none_follows n p f =
      record {
        stream = ap (λ l. steps.run c.width c.words s l) (sym n);
        pieces = p ∙ ap (λ l. steps.passed c.width c.words s l) (sym n);
        fins = f ∙ ap (λ l. steps.fins c.width c.words s l) (sym n);
      }

  -- one thing comes
  one_follows : (a : Arrival) (t : Stream) → arrives k (g.connection k) e ≡ a ∷ [] → t ≡ step c.width c.words s a →
      piece_out k (g.connection k) out ≡ steps.passed_by c.width c.words s a → fin_out k (g.connection k) out ≡ steps.fins_by c.width c.words s a → Follows c k g e t out
  unfolding steps.run steps.passed steps.fins
  one_follows a t n q p f =
      record {
        stream = q ∙ ap (λ l. steps.run c.width c.words s l) (sym n);
        pieces = p ∙ (sym (append-nil _) ∙ ap (λ l. steps.passed c.width c.words s l) (sym n));
        fins = f ∙ (sym (append-nil _) ∙ ap (λ l. steps.fins c.width c.words s l) (sym n));
      }

-- nothing is done where nothing is to be done
idle_follows : (c : Config) (k : Key) (g : Gate) (e : Event) → Idle c g e k → Follows c k g e (stream_of k g) None
idle_follows c k g e (Decided.idle_none n) = none_follows c k g e None n refl refl
idle_follows c k g e (Decided.idle_shut is) = go (segment_of k e) (ack_of k e) refl
  where
    one : (a : Arrival) → arrives k (g.connection k) e ≡ a ∷ [] → Follows c k g e (stream_of k g) None
    one a n = let h = stays c.width c.words (stream_of k g) is a in one_follows c k g e None a (stream_of k g) n (sym h.0) (sym h.1) (sym h.2)

    go : (x y : Option Packet) → arrives k (g.connection k) e ≡ arrival (g.connection k) x y → Follows c k g e (stream_of k g) None
    go (Some p) y n = one (Arrives (segment_at (g.connection k) p)) n
    go None (Some p) n = one (Acked (acked_at (g.connection k) p)) n
    go None None n = none_follows c k g e None n refl refl
idle_follows c k g e (Decided.idle_empty p came is without) =
    one_follows c k g e None (Arrives (segment_at (g.connection k) p)) (stream_of k g) (ap (λ x. arrival (g.connection k) x (ack_of k e)) came)
    (sym (ap (after c.width (stream_of k g) (segment_at (g.connection k) p)) is)) (sym (ap pieces_of is)) (sym (ap fins_of is))

-- what a packet brings to the loom

module _ (k : Key) (s : Connection) (out : Bytes) where
  bare_pieces : Bare out → piece_out k s (Some out) ≡ []
  bare_pieces b =
      cond_both (same_key k (key_from Outside (packet out))) _ [] (λ x. x ≡ []) (λ _. ap (λ t. piece_in t (piece_of (segment_at s (packet out)))) b.payload) (λ _. refl)

  bare_fins : Bare out → fin_out k s (Some out) ≡ []
  bare_fins b =
      cond_both (same_key k (key_from Outside (packet out))) _ [] (λ x. x ≡ []) (λ _. ap fin_in (cond-false (packet out).fin _ None b.fin)) (λ _. refl)

  other_pieces : (l : Key) → key_from Outside (packet out) ≡ l → same_key k l ≡ false → piece_out k s (Some out) ≡ []
  other_pieces l is d = cond-false (same_key k (key_from Outside (packet out))) _ [] (ap (same_key k) is ∙ d)

  other_fins : (l : Key) → key_from Outside (packet out) ≡ l → same_key k l ≡ false → fin_out k s (Some out) ≡ []
  other_fins l is d = cond-false (same_key k (key_from Outside (packet out))) _ [] (ap (same_key k) is ∙ d)

pub reset_bare : (k : Key) (s : Connection) → Bare (reset_to_loom k s)
reset_bare k s = let r = reset_is k.sender k.sender_port k.loom k.loom_port _ in record { payload = r.payload; fin = ap (λ m. eqb (m % 2) 1) r.marks }

module _ (c : Config) (small : c.width ≤ 65536) (g : Gate) where
  -- nothing comes, and the packet has no bytes
  bare_follows : (k : Key) (e : Event) (out : Bytes) → arrives k (g.connection k) e ≡ [] → Bare out → Follows c k g e (stream_of k g) (Some out)
  bare_follows k e out n b = none_follows c k g e (Some out) n (bare_pieces k (g.connection k) out b) (bare_fins k (g.connection k) out b)

  -- the segment's own stream, where what is left of it goes out
  taken_follows : (p : Bytes) → ComesOpen g p →
      outcome_in c g p ≡ Passed (piece_left c.width (stream_of (sender_of p) g) (seg_in g p)) (fin_left c.width (stream_of (sender_of p) g) (seg_in g p)) →
      Sound c.width c.words (stream_of (sender_of p) g) →
      Follows c (sender_of p) g (Comes Outside p)
      (taken c.width (piece_of (seg_in g p)) (fin_left c.width (stream_of (sender_of p) g) (seg_in g p)) (stream_of (sender_of p) g)) (Some (left_in c g p))
  taken_follows p o is sound =
      one_follows c l g (Comes Outside p) (Some (left_in c g p)) (Arrives (seg_in g p)) _ o.brings (sym (ap (after c.width s.stream (seg_in g p)) is))
      (cond-true (same_key l (key_from Outside (packet (left_in c g p)))) _ [] ours ∙ (left_pieces c.width small s p o.reads ∙ sym (ap pieces_of is)))
      (cond-true (same_key l (key_from Outside (packet (left_in c g p)))) _ [] ours ∙ (left_fins c.width small s p o.reads c.words sound ∙ sym (ap fins_of is)))
    where
      l : Key
      l = sender_of p

      s : Connection
      s = g.connection l

      ours : same_key l (key_from Outside (packet (left_in c g p))) ≡ true
      ours = ap (same_key l) (reads_key p _ _ _ _ _ (left_reads c.width small s p o.reads)) ∙ key-same l

  -- and where a packet without bytes goes out
  bare_segment : (p : Bytes) → ComesOpen g p → (out : Bytes) → Bare out → (o : Outcome) → outcome_in c g p ≡ o → pieces_of o ≡ [] → fins_of o ≡ [] →
      Follows c (sender_of p) g (Comes Outside p) (after c.width (stream_of (sender_of p) g) (seg_in g p) o) (Some out)
  bare_segment p came out b o is pieces fins =
      one_follows c (sender_of p) g (Comes Outside p) (Some out) (Arrives (seg_in g p)) _ came.brings (sym (ap (after c.width (stream_of (sender_of p) g) (seg_in g p)) is))
      (bare_pieces (sender_of p) (g.connection (sender_of p)) out b ∙ sym (ap pieces_of is ∙ pieces))
      (bare_fins (sender_of p) (g.connection (sender_of p)) out b ∙ sym (ap fins_of is ∙ fins))

  module _ (k : Key) where
    -- of a stream this is put then
    put_follows : (e : Event) (out : Option Bytes) (l : Key) (t : Connection) → (Sound c.width c.words (stream_of l g) → Follows c l g e t.stream out) →
        (same_key k l ≡ false → Follows c k g e (stream_of k g) out) → Sound c.width c.words (stream_of k g) → Follows c k g e (stream_of k (put l t g)) out
    put_follows e out l t here other =
        put_cases k l t g (λ x y. Sound c.width c.words (stream_of x g) → Follows c x g e y.stream out) here (λ d _. other d)

    decided_follows : (e : Event) (v : Verdict) → Decided c g e v → among k g.keys ≡ true → begins_by k v ≡ false → Sound c.width c.words (stream_of k g) →
        Follows c k g e (stream_of k (apply v g)) (to_looms (answer_of v))
    decided_follows _ _ (Decided.refuses side p n l why) held b sound = idle_follows c k g (Comes side p) (why k held)
    decided_follows _ _ (Decided.elapses n) held b sound = none_follows c k g (Ticks n) None refl refl refl
    decided_follows _ _ (Decided.opening p r new n m alone) held b sound = bare_follows k (Comes Outside p) p (n k held) m
    decided_follows _ _ (Decided.bare p out r o n t x m) held b sound =
        put_follows (Comes Outside p) (Some out) (sender_of p) _ (λ _. bare_follows (sender_of p) (Comes Outside p) out (n (sender_of p) o.held) m)
        (λ _. bare_follows k (Comes Outside p) out (n k held) m) sound
    decided_follows _ _ (Decided.takes p o is) held b sound =
        put_follows (Comes Outside p) (Some (left_in c g p)) (sender_of p) _ (taken_follows p o is)
        (λ d. none_follows c k g (Comes Outside p) (Some (left_in c g p)) (other_segment p o.reads k (g.connection k) d)
        (other_pieces k (g.connection k) (left_in c g p) (sender_of p) (left_key p o) d) (other_fins k (g.connection k) (left_in c g p) (sender_of p) (left_key p o) d)) sound
      where
        left_key : (p : Bytes) → ComesOpen g p → key_from Outside (packet (left_in c g p)) ≡ sender_of p
        left_key p o = reads_key p _ _ _ _ _ (sent-right.fields p o.reads _ _ _ _)
    decided_follows _ _ (Decided.acks_only p o is m) held b sound =
        put_follows (Comes Outside p) (Some _) (sender_of p) _ (λ _. bare_segment p o _ m Empty is refl refl)
        (λ d. bare_follows k (Comes Outside p) _ (other_segment p o.reads k (g.connection k) d) m) sound
    decided_follows _ _ (Decided.shuts p o found is) held b sound =
        put_follows (Comes Outside p) (Some _) (sender_of p) _ (λ _. bare_segment p o _ (reset_bare (sender_of p) (g.connection (sender_of p))) (Word found) is refl refl)
        (λ d. bare_follows k (Comes Outside p) _ (other_segment p o.reads k (g.connection k) d) (reset_bare (sender_of p) (g.connection (sender_of p)))) sound
    decided_follows _ _ (Decided.replies p out r new n t x) held b sound = none_follows c k g (Comes Looms p) None (n k held) refl refl
    decided_follows _ _ (Decided.again p r o n) held b sound =
        put_follows (Comes Looms p) None (loom_of p) _ (λ _. none_follows c (loom_of p) g (Comes Looms p) None (n (loom_of p) o.held) refl refl)
        (λ _. none_follows c k g (Comes Looms p) None (n k held) refl refl) sound
    decided_follows _ _ (Decided.acks p r o came t x) held b sound =
        put_follows (Comes Looms p) None (loom_of p) _
        (λ _. one_follows c (loom_of p) g (Comes Looms p) None (Acked (acked_at (g.connection (loom_of p)) (packet p))) _ (ap (arrival (g.connection (loom_of p)) None) came)
        (sym (cond-false (stream_of (loom_of p) g).shut _ _ o.not_shut)) refl refl)
        (λ d. none_follows c k g (Comes Looms p) None (other_ack p r k (g.connection k) d) refl refl) sound
    decided_follows _ _ (Decided.begins p o n) held b sound =
        subst (λ (t : Connection). Follows c k g (Comes Looms p) t.stream None) (sym (cond-false (same_key k (loom_of p)) _ (g.connection k) b))
        (none_follows c k g (Comes Looms p) None (n k held) refl refl)
    decided_follows _ _ (Decided.ends p out r o q n t x) held b sound = none_follows c k g (Comes Looms p) None (n k held) refl refl

    pub follows : (e : Event) → among k g.keys ≡ true → Goes c k g e → Sound c.width c.words (stream_of k g) →
        Follows c k g e (stream_of k (next c g e)) (to_looms (answer c g e))
    follows e held goes sound = decided_follows e (verdict c g e) (decided c g e) held goes.not_anew sound
