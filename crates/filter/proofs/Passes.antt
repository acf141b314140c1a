-- Openings, resets and what concerns no stream pass.
-- Assumes nothing.
use Rattle.std.proofs.Common.{◌≡◌, true, false, ◌&&◌, [], length, Some, None, sym, refl, ap, ◌∙◌, subst, ⊎_elim}
use Rattle.std.proofs.lemmas.Bool.{both_ways, cond_both, cond-true, cond-false, and_from, and_left, and_right, lt-leb, eq-eqb, not_from_true}
use Rattle.packet.specs.Bytes.{Bytes}
use Rattle.packet.specs.Packet.{packet}
use Rattle.packet.specs.Laws.{ReadsAs}
use Rattle.packet.proofs.WriteLaws.{sent-right}
use Rattle.stream.specs.Steps.{is_empty}
use Rattle.filter.specs.Config.{Config, Key, key_from}
use Rattle.filter.specs.declared.side.Side.TheVariants.{Outside, Looms}
use Rattle.filter.specs.Gate.{Connection, begun, active, Gate, among, find, full}
use Rattle.filter.specs.Verdict.{Comes, Verdict, Refuse, Forward, Update, apply, Out, answer_of}
use Rattle.filter.specs.Decide.{packet_left, without_fin, syn_alone, opens, continues, from_outside, same_beginning, beginning, bare_reset, from_loom, opens_with_bytes, on_read, verdict}
use Rattle.filter.specs.Promise.{SynPasses, ReplyPasses, LoomPasses, SenderResets, LoomResets}
use Rattle.filter.proofs.Keys.{key-same, put_same, remove_gone}

module _ (c : Config) (g : Gate) (p : Bytes) where
  pub syn_passes : SynPasses c g p
  syn_passes reads alone none up =
      ap (λ r. answer_of (on_read c g Outside r)) reads ∙
      cond_both (among k g.keys) (Some (g.connection k)) None (λ s. answer_of (from_outside c k (packet p) s) ≡ Out Looms p)
      (λ held. ap answer_of (cond-true (syn_alone (packet p)) (opens c k (packet p) (Some (g.connection k))) _ alone ∙
      (cond-true (is_empty (packet p).payload) _ (Refuse 7) (ap is_empty none) ∙ cond-false (g.connection k).stream.shut (Refuse 8) _ (up held))))
      (λ _. ap answer_of (cond-true (syn_alone (packet p)) (opens c k (packet p) None) _ alone ∙ cond-true (is_empty (packet p).payload) (Forward Looms p) (Refuse 7) (ap is_empty none)))
    where
      k : Key
      k = key_from Outside (packet p)

  abbrev loom : Key
  loom = key_from Looms (packet p)

  abbrev held_by : Connection
  held_by = g.connection loom

  pub reply_passes : ReplyPasses c g p
  reply_passes reads syn ack rst up room =
      subst Goal (sym whole) (cond_both (among loom g.keys) (Some held_by) None (λ s. Goal (from_loom c loom (packet p) (full g) s)) held new)
    where
      Goal : Verdict → Type 0
      Goal v = (answer_of v ≡ Out Outside p) × (same_beginning ((apply v g).connection loom) (packet p) ≡ true)

      whole : verdict c g (Comes Looms p) ≡ from_loom c loom (packet p) (full g) (find loom g)
      whole =
          ap (on_read c g Looms) reads ∙
          cond-false (opens_with_bytes (packet p)) (Refuse 7) _ (and_right (packet p).syn _ (and_left _ _ (not_from_true _ ack)))

      both : ((packet p).syn && (packet p).ack) ≡ true
      both = and_from _ _ syn ack

      begins : Goal (beginning c loom (packet p))
      begins = (
        refl,
        subst (λ (s : Connection). same_beginning s (packet p) ≡ true) (sym (put_same loom (begun c.quiet (packet p).number (packet p).acknowledged) g))
            (and_from _ _ (eq-eqb (packet p).number (packet p).number refl) (eq-eqb (packet p).acknowledged (packet p).acknowledged refl)),
      )

      held : among loom g.keys ≡ true → Goal (from_loom c loom (packet p) (full g) (Some held_by))
      held h =
          subst Goal (sym (cond-false held_by.stream.shut (Refuse 8) _ (up h) ∙ (cond-false (packet p).rst _ _ rst ∙ cond-true ((packet p).syn && (packet p).ack) _ _ both)))
          (cond_both (same_beginning held_by (packet p)) (Update loom (active c.quiet held_by.stream held_by) Outside p) (beginning c loom (packet p)) Goal
          (λ e. (refl, subst (λ (s : Connection). same_beginning s (packet p) ≡ true) (sym (put_same loom (active c.quiet held_by.stream held_by) g)) e)) (λ _. begins))

      new : among loom g.keys ≡ false → Goal (from_loom c loom (packet p) (full g) None)
      new h =
          subst Goal (sym (cond-false (packet p).rst _ _ rst ∙ (cond-true ((packet p).syn && (packet p).ack) _ _ both ∙
          cond-false (full g) (Refuse 6) _ (lt-leb 256 (length g.keys) (⊎_elim (λ e. absurd (both_ways _ h e)) (λ l. l) room)))))
          begins

  pub loom_passes : LoomPasses c g p
  loom_passes reads rst two bare up either =
      ap (λ r. answer_of (on_read c g Looms r)) reads ∙ (ap answer_of (cond-false (opens_with_bytes (packet p)) (Refuse 7) _ bare) ∙
      cond_both (among loom g.keys) (Some held_by) None (λ s. answer_of (from_loom c loom (packet p) (full g) s) ≡ Out Outside p)
      (λ held. ap answer_of (cond-false held_by.stream.shut (Refuse 8) _ (up held) ∙ (cond-false (packet p).rst _ _ rst ∙ (cond-false ((packet p).syn && (packet p).ack) _ _ two ∙
      cond-false (packet p).ack _ _ (⊎_elim (λ new. absurd (both_ways _ new held)) (λ e. e) either)))))
      (λ _. ap answer_of (cond-false (packet p).rst _ _ rst ∙ cond-false ((packet p).syn && (packet p).ack) _ _ two)))

  pub sender_resets_lem : SenderResets c g p
  sender_resets_lem reads rst syn held up = (packet_left s (packet p) 0 [] None, ap answer_of done, is.payload, is.marks)
    where
      k : Key
      k = key_from Outside (packet p)

      s : Connection
      s = g.connection k

      is : ReadsAs p (packet_left s (packet p) 0 [] None) (packet p).number (packet p).acknowledged (without_fin (packet p).marks) []
      is = sent-right.fields p reads _ _ _ []

      done : verdict c g (Comes Outside p) ≡ Update k (active c.quiet s.stream s) Looms (packet_left s (packet p) 0 [] None)
      done =
          ap (on_read c g Outside) reads ∙
          (ap (from_outside c k (packet p)) (cond-true (among k g.keys) (Some s) None held) ∙
          (cond-false (syn_alone (packet p)) _ (continues c k (packet p) (Some s)) (and_left (packet p).syn _ syn) ∙
          (cond-false (packet p).syn (Refuse 5) _ syn ∙ (cond-false s.stream.shut (Refuse 8) _ up ∙ cond-true (packet p).rst _ _ rst))))

  pub loom_resets_lem : LoomResets c g p
  loom_resets_lem reads rst up =
      subst Goal (sym whole) (cond_both (among loom g.keys) (Some held_by) None (λ s. Goal (from_loom c loom (packet p) (full g) s)) held new)
    where
      Goal : Verdict → Type 0
      Goal v = ((x : Bytes) × (answer_of v ≡ Out Outside x) × ((packet x).payload ≡ []) × ((packet x).marks ≡ (packet p).marks)) × (among loom (apply v g).keys ≡ false)

      is : ReadsAs p (bare_reset (packet p)) (packet p).number (packet p).acknowledged (packet p).marks []
      is = sent-right.fields p reads _ _ _ []

      whole : verdict c g (Comes Looms p) ≡ from_loom c loom (packet p) (full g) (find loom g)
      whole =
          ap (on_read c g Looms) reads ∙
          cond-false (opens_with_bytes (packet p)) (Refuse 7) _ (and_right (packet p).syn _ (and_right _ _ (and_left _ _ (not_from_true _ rst))))

      held : among loom g.keys ≡ true → Goal (from_loom c loom (packet p) (full g) (Some held_by))
      held h =
          subst Goal (sym (cond-false held_by.stream.shut (Refuse 8) _ (up h) ∙ cond-true (packet p).rst _ _ rst))
          ((bare_reset (packet p), refl, is.payload, is.marks), remove_gone loom loom g (key-same loom))

      new : among loom g.keys ≡ false → Goal (from_loom c loom (packet p) (full g) None)
      new h = subst Goal (sym (cond-true (packet p).rst _ _ rst)) ((bare_reset (packet p), refl, is.payload, is.marks), h)
