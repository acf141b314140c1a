-- All that may be done with an event.
-- Assumes nothing.
use Rattle.std.proofs.Common.{◌≡◌, ℕ, ◌%◌, ◌<◌, Bool, true, false, not, ◌&&◌, eqb, leb, ◌⊎◌, [], ◌∷◌, length, Some, None, Ok, Err, Option, Result, sym, refl, ap, ◌∙◌, subst, inl, inr, ⊎_elim, arith}
use Rattle.std.proofs.lemmas.Bool.{both_ways, cases_Bool, cond_both, cond-true, cond-false, and_from, and_parts, and_cases, and_left, and_right, not-true, not_from_true, not_from_false, leb-false, ne_eqb}
use Rattle.automaton.specs.Look.{Found}
use Rattle.packet.specs.Bytes.{Bytes}
use Rattle.packet.specs.Packet.{Packet, packet, read, rewrite}
use Rattle.packet.specs.Laws.{Sent, as_came, rewritten}
use Rattle.packet.proofs.HeaderLaws.{rewrite_keeps}
use Rattle.packet.proofs.ReadLaws.{read_is, read_refuses}
use Rattle.packet.proofs.WriteLaws.{sent-right}
use Rattle.sequence.specs.declared.Place.{Place}
use Rattle.sequence.specs.declared.Place.TheVariants.{Below, At}
use Rattle.window.proofs.PieceLaws.{none-some}
use Rattle.stream.specs.Stream.{Stream, taken, ack_limit, acknowledged_to}
use Rattle.stream.specs.Steps.{Arrives, Segment, piece_of, piece_left, fin_left, Outcome, Passed, Empty, Word, is_empty, outcome}
use Rattle.stream.proofs.Outcomes.{Done, done, nil_since}
use Rattle.stream.proofs.Outcomes as outcomes
use Rattle.filter.specs.Config.{Config, opposite, Key, same_key, key_from}
use Rattle.filter.specs.declared.side.Side.{Side}
use Rattle.filter.specs.declared.side.Side.TheVariants.{Outside, Looms}
use Rattle.filter.specs.Gate.{Connection, begun, active, closed, Gate, among, full}
use Rattle.filter.specs.Verdict.{Event, Comes, Ticks, Verdict, Refuse, Forward, Update, Begin, End, Shut, Elapse}
use Rattle.filter.specs.Decide.{segment_at, number_left, without_fin, marks_left, packet_left, advanced, reset_to_loom, reset_to_sender, on_outcome, on_segment, syn_alone, opens, continues, from_outside, acked_at, lowered, same_beginning, from_loom, opens_with_bytes, on_packet, on_read, verdict}
use Rattle.filter.specs.Promise.{stream_of, segment_of, segment_read, ack_of, ack_read, arrives, arrival, KeepsOwn, Crosses}
use Rattle.filter.proofs.Keys.{key-same, same_key_lem, held_apart}

abbrev pub sender_of : Bytes → Key
sender_of p = key_from Outside (packet p)

abbrev pub loom_of : Bytes → Key
loom_of p = key_from Looms (packet p)

-- the stream is held, and not shut
pub record Open (k : Key) (g : Gate) : Type 0 where
  pub held : among k g.keys ≡ true
  pub not_shut : (stream_of k g).shut ≡ false

-- a packet has no bytes and no FIN
pub record Bare (out : Bytes) : Type 0 where
  pub payload : (packet out).payload ≡ []
  pub fin : (packet out).fin ≡ false

-- the event brings nothing to any stream
abbrev pub NoArrival : Gate → Event → Type 0
NoArrival g e = (k : Key) → among k g.keys ≡ true → arrives k (g.connection k) e ≡ []

-- why nothing is done for a stream: the event brings nothing to it, it is shut, or nothing is left of the segment
pub data Idle (c : Config) (g : Gate) (e : Event) (k : Key) : Type 0 where
  idle_none : arrives k (g.connection k) e ≡ [] → Idle c g e k
  idle_shut : (stream_of k g).shut ≡ true → Idle c g e k
  idle_empty : (p : Packet) → segment_of k e ≡ Some p → outcome c.width c.words (stream_of k g) (segment_at (g.connection k) p) ≡ Empty → p.ack ≡ false → Idle c g e k

-- a sender's segment comes to a stream that is open
pub record ComesOpen (g : Gate) (p : Bytes) : Type 0 where
  pub reads : read p ≡ Ok (packet p)
  pub is_open : Open (sender_of p) g
  pub brings : arrives (sender_of p) (g.connection (sender_of p)) (Comes Outside p) ≡ Arrives (segment_at (g.connection (sender_of p)) (packet p)) ∷ []
  pub segment : segment_of (sender_of p) (Comes Outside p) ≡ Some (packet p)

-- a loom's packet with which its stream begins, or begins anew
pub record Opens (g : Gate) (p : Bytes) : Type 0 where
  pub reads : read p ≡ Ok (packet p)
  pub both : ((packet p).syn && (packet p).ack) ≡ true
  pub rst : (packet p).rst ≡ false
  pub new : among (loom_of p) g.keys ≡ true → (same_beginning (g.connection (loom_of p)) (packet p) ≡ false) × ((stream_of (loom_of p) g).shut ≡ false)
  pub room : (among (loom_of p) g.keys ≡ true) ⊎ (length g.keys < 256)

abbrev pub seg_in : Gate → Bytes → Segment
seg_in g p = segment_at (g.connection (sender_of p)) (packet p)

abbrev pub outcome_in : Config → Gate → Bytes → Outcome
outcome_in c g p = outcome c.width c.words (stream_of (sender_of p) g) (seg_in g p)

abbrev pub left_in : Config → Gate → Bytes → Bytes
left_in c g p =
    packet_left (g.connection (sender_of p)) (packet p) (piece_left c.width (stream_of (sender_of p) g) (seg_in g p)).at
    (piece_left c.width (stream_of (sender_of p) g) (seg_in g p)).bytes (fin_left c.width (stream_of (sender_of p) g) (seg_in g p))

pub data Decided (c : Config) (g : Gate) : Event → Verdict → Type 0 where
  refuses : (side : Side) (p : Bytes) (n : ℕ) → n < 10 → ((k : Key) → among k g.keys ≡ true → Idle c g (Comes side p) k) → Decided c g (Comes side p) (Refuse n)
  elapses : (n : ℕ) → Decided c g (Ticks n) (Elapse n)
  -- to the loom, without a byte
  opening : (p : Bytes) → read p ≡ Ok (packet p) → among (sender_of p) g.keys ≡ false → NoArrival g (Comes Outside p) → Bare p → syn_alone (packet p) ≡ true →
      Decided c g (Comes Outside p) (Forward Looms p)
  bare : (p out : Bytes) → read p ≡ Ok (packet p) → Open (sender_of p) g → NoArrival g (Comes Outside p) → Sent p out → Crosses Outside p Looms out → Bare out →
      Decided c g (Comes Outside p) (Update (sender_of p) (active c.quiet (stream_of (sender_of p) g) (g.connection (sender_of p))) Looms out)
  -- a segment
  takes : (p : Bytes) → ComesOpen g p →
      outcome_in c g p ≡ Passed (piece_left c.width (stream_of (sender_of p) g) (seg_in g p)) (fin_left c.width (stream_of (sender_of p) g) (seg_in g p)) →
      Decided c g (Comes Outside p)
      (Update (sender_of p)
      (advanced c (packet p) (taken c.width (piece_of (seg_in g p)) (fin_left c.width (stream_of (sender_of p) g) (seg_in g p)) (stream_of (sender_of p) g)) (g.connection (sender_of p)))
      Looms (left_in c g p))
  acks_only : (p : Bytes) → ComesOpen g p → outcome_in c g p ≡ Empty → Bare (packet_left (g.connection (sender_of p)) (packet p) 0 [] None) →
      Decided c g (Comes Outside p)
      (Update (sender_of p) (advanced c (packet p) (stream_of (sender_of p) g) (g.connection (sender_of p))) Looms (packet_left (g.connection (sender_of p)) (packet p) 0 [] None))
  shuts : (p : Bytes) → ComesOpen g p → (found : Found) → outcome_in c g p ≡ Word found →
      Decided c g (Comes Outside p)
      (Shut (sender_of p) (closed (g.connection (sender_of p))) (reset_to_loom (sender_of p) (g.connection (sender_of p))) (reset_to_sender (sender_of p) (g.connection (sender_of p))) found)
  -- to the outside
  replies : (p out : Bytes) → read p ≡ Ok (packet p) → among (loom_of p) g.keys ≡ false → NoArrival g (Comes Looms p) → Sent p out → Crosses Looms p Outside out →
      Decided c g (Comes Looms p) (Forward Outside out)
  again : (p : Bytes) → read p ≡ Ok (packet p) → Open (loom_of p) g → NoArrival g (Comes Looms p) →
      Decided c g (Comes Looms p) (Update (loom_of p) (active c.quiet (stream_of (loom_of p) g) (g.connection (loom_of p))) Outside p)
  acks : (p : Bytes) → read p ≡ Ok (packet p) → Open (loom_of p) g → ack_of (loom_of p) (Comes Looms p) ≡ Some (packet p) →
      Sent p (lowered (g.connection (loom_of p)) (packet p) (acked_at (g.connection (loom_of p)) (packet p))) →
      Crosses Looms p Outside (lowered (g.connection (loom_of p)) (packet p) (acked_at (g.connection (loom_of p)) (packet p))) →
      Decided c g (Comes Looms p)
      (Update (loom_of p) (active c.quiet (acknowledged_to (acked_at (g.connection (loom_of p)) (packet p)) (stream_of (loom_of p) g)) (g.connection (loom_of p))) Outside
      (lowered (g.connection (loom_of p)) (packet p) (acked_at (g.connection (loom_of p)) (packet p))))
  begins : (p : Bytes) → Opens g p → NoArrival g (Comes Looms p) → Decided c g (Comes Looms p) (Begin (loom_of p) (begun c.quiet (packet p).number (packet p).acknowledged) p)
  ends : (p out : Bytes) → read p ≡ Ok (packet p) → Open (loom_of p) g → (packet p).rst ≡ true → NoArrival g (Comes Looms p) → Sent p out → Crosses Looms p Outside out →
      Decided c g (Comes Looms p) (End (loom_of p) out)

-- What an event brings to a stream

module _ (p : Bytes) (reads : read p ≡ Ok (packet p)) (k : Key) where
  abbrev is_segment : Bool
  is_segment = same_key k (sender_of p) && (not (packet p).syn && not (packet p).rst)

  abbrev is_ack : Bool
  is_ack = same_key k (loom_of p) && ((packet p).ack && (not (packet p).syn && not (packet p).rst))

  pub segment-some : is_segment ≡ true → segment_of k (Comes Outside p) ≡ Some (packet p)
  segment-some e = ap (segment_read k) reads ∙ cond-true is_segment (Some (packet p)) None e

  pub segment-none : is_segment ≡ false → segment_of k (Comes Outside p) ≡ None
  segment-none e = ap (segment_read k) reads ∙ cond-false is_segment (Some (packet p)) None e

  pub ack_some : is_ack ≡ true → ack_of k (Comes Looms p) ≡ Some (packet p)
  ack_some e = ap (ack_read k) reads ∙ cond-true is_ack (Some (packet p)) None e

  pub ack_none : is_ack ≡ false → ack_of k (Comes Looms p) ≡ None
  ack_none e = ap (ack_read k) reads ∙ cond-false is_ack (Some (packet p)) None e

  -- a packet of another stream brings nothing
  pub other_segment : (s : Connection) → same_key k (sender_of p) ≡ false → arrives k s (Comes Outside p) ≡ []
  other_segment s d = ap (λ x. arrival s x None) (segment-none (and_left (same_key k (sender_of p)) _ d))

  pub other_ack : (s : Connection) → same_key k (loom_of p) ≡ false → arrives k s (Comes Looms p) ≡ []
  other_ack s d = ap (arrival s None) (ack_none (and_left (same_key k (loom_of p)) _ d))

-- A packet goes out to the other side

pub as_came_lem : (side : Side) (p : Bytes) → Crosses side p (opposite side) p
as_came_lem side p = record { across = refl; source = refl; source_port = refl; destination = refl; destination_port = refl; header = λ j u. refl; keeps = own side }
  where
    own : (side : Side) → KeepsOwn side p p
    own Outside = (refl, inl refl, λ _ _. refl)
    own Looms = (refl, refl, inl refl)

module _ (p : Bytes) (reads : read p ≡ Ok (packet p)) where
  pub sender_crosses : (s : Connection) (i : ℕ) (t : Bytes) (fin : Option ℕ) → ((f : ℕ) → fin ≡ Some f → (packet p).fin ≡ true) →
      Crosses Outside p Looms (packet_left s (packet p) i t fin)
  sender_crosses s i t fin marked =
      let r = sent-right.fields p reads (number_left s (packet p) i t fin) (packet p).acknowledged (marks_left (packet p) fin) t in
      record {
        across = refl;
        source = r.source;
        source_port = r.source_port;
        destination = r.destination;
        destination_port = r.destination_port;
        header = rewrite_keeps p reads _ _ _ t;
        keeps = (
          omega (arith, r.acknowledged),
          marks fin r.marks,
          λ empty none.
              ap (λ n. n % 4294967296) (r.number ∙ ap (λ n. n % 4294967296) (numbered t fin marked (sym r.payload ∙ empty) (sym (ap (λ m. eqb (m % 2) 1) r.marks) ∙ none))) ∙ omega arith,
        );
      }
    where
      marks : (fin : Option ℕ) {m : ℕ} → m ≡ marks_left (packet p) fin → (m ≡ (packet p).marks) ⊎ (m ≡ without_fin (packet p).marks)
      marks None e = inr e
      marks (Some f) e = inl e

      numbered : (t : Bytes) (fin : Option ℕ) → ((f : ℕ) → fin ≡ Some f → (packet p).fin ≡ true) → t ≡ [] → eqb (marks_left (packet p) fin % 2) 1 ≡ false →
          number_left s (packet p) i t fin ≡ (packet p).number
      numbered [] None h e n = refl
      numbered [] (Some f) h e n = absurd (both_ways (packet p).fin n (h f refl))
      numbered (b ∷ bs) fin h e n = absurd (omega (arith, ap length e))

  loom_crosses : (a : ℕ) (t : Bytes) → (t ≡ (packet p).payload) ⊎ ((packet p).rst ≡ true) → Crosses Looms p Outside (rewrite (packet p) (packet p).number a (packet p).marks t)
  loom_crosses a t own =
      let r = sent-right.fields p reads (packet p).number a (packet p).marks t in
      record {
        across = refl;
        source = r.source;
        source_port = r.source_port;
        destination = r.destination;
        destination_port = r.destination_port;
        header = rewrite_keeps p reads _ _ _ t;
        keeps = (omega (arith, r.number), r.marks, ⊎_elim (λ e. inl (r.payload ∙ e)) inr own);
      }

-- What is done

-- a packet without its bytes and without FIN
pub no_fin : (m : ℕ) → eqb (without_fin m % 2) 1 ≡ false
no_fin m = ne_eqb (without_fin m % 2) 1 (omega arith)

module _ (c : Config) (g : Gate) (p : Bytes) (reads : read p ≡ Ok (packet p)) where
  empty-sent : (n a m : ℕ) → Sent p (rewrite (packet p) n a m [])
  empty-sent n a m = rewritten n a m [] (omega arith)

  empty_bare : (s : Connection) → Bare (packet_left s (packet p) 0 [] None)
  empty_bare s =
      let r = sent-right.fields p reads (packet p).number (packet p).acknowledged (without_fin (packet p).marks) [] in
      record { payload = r.payload; fin = ap (λ m. eqb (m % 2) 1) r.marks ∙ no_fin (packet p).marks }

  abbrev FromSender : Verdict → Type 0
  FromSender = Decided c g (Comes Outside p)

  abbrev FromItsLoom : Verdict → Type 0
  FromItsLoom = Decided c g (Comes Looms p)

  -- what has SYN or RST, and what the loom does not acknowledge anything by, brings nothing to any stream
  abbrev Marked : Type 0
  Marked = ((packet p).syn ≡ true) ⊎ ((packet p).rst ≡ true)

  marked : Marked → (not (packet p).syn && not (packet p).rst) ≡ false
  marked (inl syn) = and_left (not (packet p).syn) _ (not_from_true _ syn)
  marked (inr rst) = and_right (not (packet p).syn) (not (packet p).rst) (not_from_true _ rst)

  no_segment : Marked → NoArrival g (Comes Outside p)
  no_segment m k held = ap (λ x. arrival (g.connection k) x None) (segment-none p reads k (and_right (same_key k (sender_of p)) _ (marked m)))

  no_ack_lem : ((packet p).ack ≡ false) ⊎ Marked → NoArrival g (Comes Looms p)
  no_ack_lem m k held =
      ap (arrival (g.connection k) None) (ack_none p reads k (and_right (same_key k (loom_of p)) _
      (⊎_elim (λ none. and_left (packet p).ack _ none) (λ h. and_right (packet p).ack _ (marked h)) m)))

  refuses_none : {side : Side} (n : ℕ) → n < 10 → NoArrival g (Comes side p) → Decided c g (Comes side p) (Refuse n)
  refuses_none {side} n l nothing = refuses side p n l (λ k held. idle_none (nothing k held))

  -- for another stream than that of the packet it brings nothing
  refuses_own : (n : ℕ) → n < 10 → Idle c g (Comes Outside p) (sender_of p) → FromSender (Refuse n)
  refuses_own n l own = refuses Outside p n l (λ k held.
      ⊎_elim (λ e. subst (Idle c g (Comes Outside p)) (sym (same_key_lem k (sender_of p) e)) own) (λ d. idle_none (other_segment p reads k (g.connection k) d)) (cases_Bool (same_key k (sender_of p))))

  segment_decided : ComesOpen g p → FromSender (on_segment c (sender_of p) (g.connection (sender_of p)) (packet p))
  segment_decided came = go (outcome_in c g p) refl (done c.width c.words s seg)
    where
      s : Stream
      s = stream_of (sender_of p) g

      seg : Segment
      seg = seg_in g p

      go : (o : Outcome) → outcome_in c g p ≡ o → Done c.width c.words s seg o → FromSender (on_outcome c (sender_of p) (g.connection (sender_of p)) (packet p) o)
      go _ e (outcomes.closed shut) = absurd (both_ways _ came.is_open.not_shut shut)
      go _ e (outcomes.word up found l) = shuts p came found e
      go _ e (outcomes.empty up l none nofin) =
          cond_both (packet p).ack _ (Refuse 9) FromSender (λ _. acks_only p came e (empty_bare (g.connection (sender_of p)))) (λ without. refuses_own 9 (omega arith) (idle_empty (packet p) came.segment e without))
      go _ e (outcomes.passes up l) = takes p came e

  outside_held : among (sender_of p) g.keys ≡ true → FromSender (from_outside c (sender_of p) (packet p) (Some (g.connection (sender_of p))))
  outside_held held =
      cond_both (syn_alone (packet p)) (opens c (sender_of p) (packet p) (Some s)) (continues c (sender_of p) (packet p) (Some s)) FromSender
      (λ alone.
      let parts = and_parts (packet p).syn _ alone in
      let nothing = no_segment (inl parts.0) in
      cond_both (is_empty (packet p).payload) _ (Refuse 7) FromSender
      (λ e. cond_both s.stream.shut (Refuse 8) _ FromSender (λ _. refuses_none 8 (omega arith) nothing)
      (λ up. bare p p reads (record { held = held; not_shut = up }) nothing as_came (as_came_lem Outside p)
      (record { payload = nil_since _ e; fin = not-true _ (and_parts (not (packet p).fin) _ parts.1).0 })))
      (λ _. refuses_none 7 (omega arith) nothing))
      (λ _. cond_both (packet p).syn (Refuse 5) _ FromSender (λ syn. refuses_none 5 (omega arith) (no_segment (inl syn)))
      (λ syn. cond_both s.stream.shut (Refuse 8) _ FromSender
      (λ is. refuses_own 8 (omega arith) (idle_shut is))
      (λ up. cond_both (packet p).rst _ (on_segment c (sender_of p) s (packet p)) FromSender
      (λ rst. bare p _ reads (record { held = held; not_shut = up }) (no_segment (inr rst)) (empty-sent _ _ _) (sender_crosses p reads s 0 [] None (λ f e. absurd (none-some refl e))) (empty_bare s))
      (λ rst.
      let is = segment-some p reads (sender_of p) (and_from _ _ (key-same (sender_of p)) (and_from _ _ (not_from_false _ syn) (not_from_false _ rst))) in
      segment_decided (record { reads = reads; is_open = record { held = held; not_shut = up }; brings = ap (λ x. arrival s x None) is; segment = is })))))
    where
      s : Connection
      s = g.connection (sender_of p)

  outside_new : among (sender_of p) g.keys ≡ false → FromSender (from_outside c (sender_of p) (packet p) None)
  outside_new new =
      cond_both (syn_alone (packet p)) (opens c (sender_of p) (packet p) None) (Refuse 5) FromSender
      (λ alone. cond_both (is_empty (packet p).payload) _ (Refuse 7) FromSender
      (λ e. opening p reads new nothing (record { payload = nil_since _ e; fin = not-true _ (and_parts (not (packet p).fin) _ (and_parts (packet p).syn _ alone).1).0 }) alone)
      (λ _. refuses_none 7 (omega arith) nothing))
      (λ _. refuses_none 5 (omega arith) nothing)
    where
      nothing : NoArrival g (Comes Outside p)
      nothing k held = other_segment p reads k (g.connection k) (held_apart k (sender_of p) g.keys held new)

  lowered-sent : (i : Place) → Sent p (lowered (g.connection (loom_of p)) (packet p) i)
  lowered-sent (Below n) = as_came
  lowered-sent (At i) = cond_both (leb i (ack_limit (stream_of (loom_of p) g))) p _ (Sent p) (λ _. as_came) (λ _. rewritten _ _ _ (packet p).payload (omega arith))

  lowered_crosses : (i : Place) → Crosses Looms p Outside (lowered (g.connection (loom_of p)) (packet p) i)
  lowered_crosses (Below n) = as_came_lem Looms p
  lowered_crosses (At i) =
      cond_both (leb i (ack_limit (stream_of (loom_of p) g))) p _ (Crosses Looms p Outside) (λ _. as_came_lem Looms p) (λ _. loom_crosses p reads _ (packet p).payload (inl refl))

  loom_held : (no_room : Bool) → among (loom_of p) g.keys ≡ true → FromItsLoom (from_loom c (loom_of p) (packet p) no_room (Some (g.connection (loom_of p))))
  loom_held no_room held =
      cond_both s.stream.shut (Refuse 8) _ FromItsLoom
      (λ is. refuses Looms p 8 (omega arith) (λ k there.
      ⊎_elim (λ e. subst (Idle c g (Comes Looms p)) (sym (same_key_lem k (loom_of p) e)) (idle_shut is)) (λ d. idle_none (other_ack p reads k (g.connection k) d)) (cases_Bool (same_key k (loom_of p)))))
      (λ up. cond_both (packet p).rst _ _ FromItsLoom
      (λ rst. ends p _ reads (record { held = held; not_shut = up }) rst (no_ack_lem (inr (inr rst))) (empty-sent _ _ _) (loom_crosses p reads _ [] (inr rst)))
      (λ rst. cond_both ((packet p).syn && (packet p).ack) _ _ FromItsLoom
      (λ both.
      let nothing = no_ack_lem (inr (inl (and_parts (packet p).syn _ both).0)) in
      cond_both (same_beginning s (packet p)) _ _ FromItsLoom (λ _. again p reads (record { held = held; not_shut = up }) nothing)
      (λ new. begins p (record { reads = reads; both = both; rst = rst; new = λ _. (new, up); room = inl held }) nothing))
      (λ two. cond_both (packet p).ack _ _ FromItsLoom
      (λ ack.
      let syn : (packet p).syn ≡ false = ⊎_elim (λ e. e) (λ e. absurd (both_ways (packet p).ack e ack)) (and_cases (packet p).syn (packet p).ack two) in
      acks p reads (record { held = held; not_shut = up })
      (ack_some p reads (loom_of p) (and_from _ _ (key-same (loom_of p)) (and_from _ _ ack (and_from _ _ (not_from_false _ syn) (not_from_false _ rst)))))
      (lowered-sent (acked_at s (packet p))) (lowered_crosses (acked_at s (packet p))))
      (λ ack. again p reads (record { held = held; not_shut = up }) (no_ack_lem (inl ack))))))
    where
      s : Connection
      s = g.connection (loom_of p)

  loom_new : among (loom_of p) g.keys ≡ false → FromItsLoom (from_loom c (loom_of p) (packet p) (full g) None)
  loom_new new =
      cond_both (packet p).rst _ _ FromItsLoom (λ rst. replies p _ reads new nothing (empty-sent _ _ _) (loom_crosses p reads _ [] (inr rst)))
      (λ rst. cond_both ((packet p).syn && (packet p).ack) _ _ FromItsLoom
      (λ both. cond_both (full g) (Refuse 6) _ FromItsLoom (λ _. refuses_none 6 (omega arith) nothing)
      (λ room. begins p
      (record { reads = reads; both = both; rst = rst; new = λ held. absurd (both_ways _ new held); room = inr (leb-false 256 (length g.keys) room) }) nothing))
      (λ _. replies p p reads new nothing as_came (as_came_lem Looms p)))
    where
      nothing : NoArrival g (Comes Looms p)
      nothing k held = other_ack p reads k (g.connection k) (held_apart k (loom_of p) g.keys held new)

  packet_decided : (side : Side) → Decided c g (Comes side p) (on_packet c g side (packet p))
  packet_decided Outside =
      cond_both (among (sender_of p) g.keys) (Some (g.connection (sender_of p))) None (λ s. FromSender (from_outside c (sender_of p) (packet p) s)) outside_held outside_new
  packet_decided Looms =
      cond_both (opens_with_bytes (packet p)) (Refuse 7) _ FromItsLoom
      (λ e. refuses_none 7 (omega arith) (no_ack_lem (inr (inl (and_parts (packet p).syn _ e).0))))
      (λ _. cond_both (among (loom_of p) g.keys) (Some (g.connection (loom_of p))) None (λ s. FromItsLoom (from_loom c (loom_of p) (packet p) (full g) s)) (loom_held (full g)) loom_new)

pub decided : (c : Config) (g : Gate) (e : Event) → Decided c g e (verdict c g e)
decided c g (Ticks n) = elapses n
decided c g (Comes side p) = go (read p) refl
  where
    unread : (n : ℕ) → read p ≡ Err n → (side : Side) → NoArrival g (Comes side p)
    unread n e Outside k held = ap (λ r. arrival (g.connection k) (segment_read k r) None) e
    unread n e Looms k held = ap (λ r. arrival (g.connection k) None (ack_read k r)) e

    go : (r : Result Packet ℕ) → read p ≡ r → Decided c g (Comes side p) (on_read c g side r)
    go (Err n) e =
        refuses side p n (omega (arith, read_refuses p n e)) (λ k held. idle_none (unread n e side k held))
    go (Ok q) e =
        let is : q ≡ packet p = read_is p q e in
        rw is (packet_decided c g p (e ∙ ap Ok is) side)
