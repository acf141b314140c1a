-- What is read of a packet that was written in place of another, and that it is right. Assumes nothing.
use Rattle.std.proofs.Common.{◌≡◌, ℕ, ◌+◌, ◌*◌, ◌/◌, ◌%◌, ◌<◌, ◌≤◌, ◌≢◌, ◌⊎◌, ◌++◌, length, take, set, Ok, sym, refl, ap, ◌∙◌, subst, inl, inr, arith}
use Rattle.std.proofs.lemmas.List.{length-append, length-drop, length-set, length-take-le, get_or-set_same, get_or-set_other, get_or_append_left, get_or-take, drop_at}
use Rattle.std.proofs.lemmas.Bool.{cond_both}
use Rattle.packet.specs.Bytes.{Bytes, byte, read16, read32, same, write16, write32}
use Rattle.packet.specs.Laws.{Fresh, ReadsAs, Sent, as_came, rewritten, SentRight}
use Rattle.packet.specs.Packet.{packet, head_length, seal, edit, rewrite, read}
use Rattle.packet.proofs.BytesLaws.{length-write16, length-write32, write16_other, write32_other, read16-write16, read32-write32, read16_alike, read32_alike, same_decides}
use Rattle.packet.proofs.ReadLaws.{Fits, Right, read_right, read_fits, right_reads, is_segment_lem, starts}
use Rattle.packet.proofs.SealLaws.{final, final_size, final_byte, seal_is, header-right, segment-right, head_size, seal-fresh}

-- headers with the size, the addresses and the ports of p's, and with these numbers and marks
record Head (p : Bytes) (number acknowledged marks : ℕ) (h : Bytes) : Type 0 where
  size : length h ≡ head_length p
  offset : byte 32 h ≡ byte 32 p
  ends : (j : ℕ) → 12 ≤ j → j < 24 → byte j h ≡ byte j p
  numbered : read32 24 h ≡ number % 4294967296
  acked : read32 28 h ≡ acknowledged % 4294967296
  marked : byte 33 h ≡ marks

-- the edited headers of p, for a payload t

module _ (p : Bytes) (n a m : ℕ) (t : Bytes) (f : Fits p) where
  marks : Bytes
  marks = set (take (head_length p) p) 33 m

  acks : Bytes
  acks = write32 28 a marks

  nums : Bytes
  nums = write32 24 n acks

  -- the length of both headers and the payload
  total : ℕ
  total = length (take (head_length p) p) + length t

  edit_is : edit (packet p) n a m t ≡ write16 2 total nums
  unfolding edit total nums acks marks
  edit_is = refl

  front_size : length (take (head_length p) p) ≡ head_length p
  front_size = length-take-le (head_length p) p f.within

  marks_size : length marks ≡ head_length p
  unfolding marks
  marks_size = length-set (take (head_length p) p) 33 m ∙ front_size

  acks_size : length acks ≡ head_length p
  unfolding acks
  acks_size = length-write32 28 a marks ∙ marks_size

  nums_size : length nums ≡ head_length p
  unfolding nums
  nums_size = length-write32 24 n acks ∙ acks_size

  -- a byte that is not written
  edit-byte : (j : ℕ) → j < 24 → j ≢ 2 → j ≢ 3 → byte j (edit (packet p) n a m t) ≡ byte j p
  unfolding nums acks marks
  edit-byte j u two three =
      ap (byte j) edit_is ∙ (write16_other 2 total nums j two three ∙
      (write32_other 24 n acks j (inl u) ∙ (write32_other 28 a marks j (inl (omega arith)) ∙
      (get_or-set_other (take (head_length p) p) 33 j m 0 (omega arith) ∙ get_or-take (head_length p) p j 0 (omega (arith, f.least))))))

  above : (j : ℕ) → 32 ≤ j → byte j (write16 2 total nums) ≡ byte j marks
  unfolding nums acks
  above j l = write16_other 2 total nums j (omega arith) (omega arith) ∙ (write32_other 24 n acks j (inr (omega arith)) ∙ write32_other 28 a marks j (inr (omega arith)))

  edit-length : read16 2 (edit (packet p) n a m t) ≡ (head_length p + length t) % 65536
  unfolding total
  edit-length = ap (read16 2) edit_is ∙ (read16-write16 2 total nums (omega (arith, nums_size, f.least)) ∙ ap (λ (k : ℕ). (k + length t) % 65536) front_size)

  edit_head : Head p n a m (edit (packet p) n a m t)
  unfolding nums acks marks
  edit_head = record { size = size; offset = offset; ends = λ j l u. edit-byte j u (omega arith) (omega arith); numbered = numbered; acked = acked; marked = marked }
    where
      size : length (edit (packet p) n a m t) ≡ head_length p
      size = ap length edit_is ∙ (length-write16 2 total nums ∙ nums_size)

      offset : byte 32 (edit (packet p) n a m t) ≡ byte 32 p
      offset =
          ap (byte 32) edit_is ∙ (above 32 (omega arith) ∙ (get_or-set_other (take (head_length p) p) 33 32 m 0 (omega arith) ∙ get_or-take (head_length p) p 32 0 (omega (arith, f.least))))

      marked : byte 33 (edit (packet p) n a m t) ≡ m
      marked = ap (byte 33) edit_is ∙ (above 33 (omega arith) ∙ get_or-set_same (take (head_length p) p) 33 m 0 (omega (arith, front_size, f.least)))

      acked : read32 28 (edit (packet p) n a m t) ≡ a % 4294967296
      acked =
          ap (read32 28) edit_is ∙
          (read32_alike 28 (write16 2 total nums) acks (λ j l u. write16_other 2 total nums j (omega arith) (omega arith) ∙ write32_other 24 n acks j (inr (omega arith))) ∙
          read32-write32 28 a marks (omega (arith, marks_size, f.least)))

      numbered : read32 24 (edit (packet p) n a m t) ≡ n % 4294967296
      numbered =
          ap (read32 24) edit_is ∙
          (read32_alike 24 (write16 2 total nums) nums (λ j l u. write16_other 2 total nums j (omega arith) (omega arith)) ∙
          read32-write32 24 n acks (omega (arith, acks_size, f.least)))

-- what is read of headers and a payload
head_reads : (p : Bytes) (n a m : ℕ) (h t : Bytes) → Fits p → Head p n a m h → ReadsAs p (h ++ t) n a m t
head_reads p n a m h t f e =
    record {
      payload = drop_at h t (head_length (h ++ t)) (e.size ∙ sym (ap (λ w. 20 + w / 16 * 4) (left 32 (omega arith) ∙ e.offset)));
      number = read32_alike 24 (h ++ t) h (λ j l u. left j (omega arith)) ∙ e.numbered;
      acknowledged = read32_alike 28 (h ++ t) h (λ j l u. left j (omega arith)) ∙ e.acked;
      marks = left 33 (omega arith) ∙ e.marked;
      source = read32_alike 12 (h ++ t) p (λ j l u. end j (omega arith) (omega arith));
      source_port = read16_alike 20 (h ++ t) p (end 20 (omega arith) (omega arith)) (end 21 (omega arith) (omega arith));
      destination = read32_alike 16 (h ++ t) p (λ j l u. end j (omega arith) (omega arith));
      destination_port = read16_alike 22 (h ++ t) p (end 22 (omega arith) (omega arith)) (end 23 (omega arith) (omega arith));
    }
  where
    left : (j : ℕ) → j < 40 → byte j (h ++ t) ≡ byte j h
    left j l = get_or_append_left h t 0 j (omega (arith, e.size, f.least))

    end : (j : ℕ) → 12 ≤ j → j < 24 → byte j (h ++ t) ≡ byte j p
    end j l u = left j (omega arith) ∙ e.ends j l u

-- a rewritten packet is the edited one as it stands, where that is what came, or it is sealed
rewrite_cases : (p : Bytes) (n a m : ℕ) (t : Bytes) (P : Bytes → Type 0) → (edit (packet p) n a m t ++ t ≡ p → P p) →
    P (seal (edit (packet p) n a m t) t) → P (rewrite (packet p) n a m t)
unfolding rewrite
rewrite_cases p n a m t P came new =
    cond_both (same (edit (packet p) n a m t ++ t) p) p (seal (edit (packet p) n a m t) t) P (λ e. came ((same_decides _ _).0 e)) (λ _. new)

-- sums are no part of what headers tell
final_head : (p : Bytes) (n a m : ℕ) (h t : Bytes) (long : 40 ≤ length h) → Head p n a m h → Head p n a m (final h t long)
final_head p n a m h t long e =
    record {
      size = final_size h t long ∙ e.size;
      offset = other 32 (omega arith) (omega arith) ∙ e.offset;
      ends = λ j l u. other j l (omega arith) ∙ e.ends j l u;
      numbered = read32_alike 24 (final h t long) h (λ j l u. other j (omega arith) (omega arith)) ∙ e.numbered;
      acked = read32_alike 28 (final h t long) h (λ j l u. other j (omega arith) (omega arith)) ∙ e.acked;
      marked = other 33 (omega arith) (omega arith) ∙ e.marked;
    }
  where
    other : (j : ℕ) → 12 ≤ j → j < 36 → byte j (final h t long) ≡ byte j h
    other j l u = final_byte h t long j (omega arith) (omega arith) u

-- a rewritten packet has the numbers, marks and payload that it was given, and the addresses and ports that it had
pub rewrite_reads : (p : Bytes) (n a m : ℕ) (t : Bytes) → Fits p → ReadsAs p (rewrite (packet p) n a m t) n a m t
rewrite_reads p n a m t f =
    let h : Bytes = edit (packet p) n a m t in
    let head = edit_head p n a m t f in
    let long : 40 ≤ length h = omega (arith, head.size, f.least) in
    rewrite_cases p n a m t (λ out. ReadsAs p out n a m t) (λ e. subst (λ (x : Bytes). ReadsAs p x n a m t) e (head_reads p n a m h t f head))
    (subst (λ (x : Bytes). ReadsAs p x n a m t) (sym (seal_is h t long)) (head_reads p n a m (final h t long) t f (final_head p n a m h t long head)))

-- headers ready to be sealed with t
pub record Ready (h t : Bytes) : Type 0 where
  pub version : byte 0 h ≡ 69
  pub total : read16 2 h ≡ length h + length t
  pub entire : read16 6 h % 16384 ≡ 0
  pub protocol : byte 9 h ≡ 6
  pub words : 5 ≤ byte 32 h / 16
  pub size : length h ≡ head_length h
  pub short : length t ≤ 1460

-- a packet so sealed is right
pub seal_reads : (h t : Bytes) → Ready h t → read (seal h t) ≡ Ok (packet (seal h t))
seal_reads h t ready = subst (λ (x : Bytes). read x ≡ Ok (packet x)) (sym (seal_is h t long)) (right_reads new right)
  where
    long : 40 ≤ length h
    long = omega (arith, ready.size, ready.words)

    new : Bytes
    new = final h t long ++ t

    size : length new ≡ length h + length t
    size = length-append (final h t long) t ∙ ap (λ n. n + length t) (final_size h t long)

    kept : (j : ℕ) → j ≢ 10 → j ≢ 11 → j < 36 → byte j new ≡ byte j h
    kept j a b l = get_or_append_left (final h t long) t 0 j (omega (arith, final_size h t long, long)) ∙ final_byte h t long j a b l

    heads : head_length new ≡ length h
    heads = head_size h t long ready.size

    right : Right new
    right =
        record {
          good =
              record {
                least = omega (arith, size, long);
                version = kept 0 (omega arith) (omega arith) (omega arith) ∙ ready.version;
                total = read16_alike 2 new h (kept 2 (omega arith) (omega arith) (omega arith)) (kept 3 (omega arith) (omega arith) (omega arith)) ∙ (ready.total ∙ sym size);
                entire = ap (λ n. n % 16384) (read16_alike 6 new h (kept 6 (omega arith) (omega arith) (omega arith)) (kept 7 (omega arith) (omega arith) (omega arith))) ∙ ready.entire;
              };
          starts =
              starts new (is_segment_lem new (omega (arith, size, long)) (kept 9 (omega arith) (omega arith) (omega arith) ∙ ready.protocol)
              (omega (arith, ready.words, kept 32 (omega arith) (omega arith) (omega arith))) (omega (arith, heads, size)));
          header = header-right h t long;
          sum = segment-right h t long;
          short = omega (arith, heads, size, ready.short);
        }

-- an edited head is as long as it says
edit_sized : (p : Bytes) (n a m : ℕ) (t : Bytes) → Fits p → length (edit (packet p) n a m t) ≡ head_length (edit (packet p) n a m t)
edit_sized p n a m t f = let head = edit_head p n a m t f in head.size ∙ ap (λ w. 20 + w / 16 * 4) (sym head.offset)

edit_ready : (p : Bytes) (n a m : ℕ) (t : Bytes) → Right p → Fits p → length p < 65536 → length t ≤ length (packet p).payload → Ready (edit (packet p) n a m t) t
edit_ready p n a m t r f small less =
    record {
      version = kept 0 (omega arith) (omega arith) (omega arith) ∙ r.good.version;
      total = edit-length p n a m t f ∙ omega (arith, head.size, f.within, less, length-drop (head_length p) p);
      entire = ap (λ x. x % 16384) (read16_alike 6 (edit (packet p) n a m t) p (kept 6 (omega arith) (omega arith) (omega arith)) (kept 7 (omega arith) (omega arith) (omega arith))) ∙ r.good.entire;
      protocol = kept 9 (omega arith) (omega arith) (omega arith) ∙ r.starts.protocol;
      words = subst (λ (w : ℕ). 5 ≤ w / 16) (sym head.offset) r.starts.words;
      size = edit_sized p n a m t f;
      short = omega (arith, r.short, less, length-drop (head_length p) p);
    }
  where
    head : Head p n a m (edit (packet p) n a m t)
    head = edit_head p n a m t f

    kept : (j : ℕ) → j < 24 → j ≢ 2 → j ≢ 3 → byte j (edit (packet p) n a m t) ≡ byte j p
    kept = edit-byte p n a m t f

-- a packet that goes out is right
pub sent_reads : (p out : Bytes) → read p ≡ Ok (packet p) → length p < 65536 → Sent p out → read out ≡ Ok (packet out)
sent_reads p _ reads small as_came = reads
sent_reads p _ reads small (rewritten n a m t less) =
    rewrite_cases p n a m t (λ out. read out ≡ Ok (packet out)) (λ _. reads)
    (seal_reads (edit (packet p) n a m t) t (edit_ready p n a m t (read_right p (packet p) reads) (read_fits p (packet p) reads) small less))

-- it is as it came, or its sums are worked out afresh
pub sent_sums : (p out : Bytes) → read p ≡ Ok (packet p) → Sent p out → (out ≡ p) ⊎ Fresh out
sent_sums p _ reads as_came = inl refl
sent_sums p _ reads (rewritten n a m t less) =
    let f = read_fits p (packet p) reads in
    let long : 40 ≤ length (edit (packet p) n a m t) = omega (arith, (edit_head p n a m t f).size, f.least) in
    rewrite_cases p n a m t (λ out. (out ≡ p) ⊎ Fresh out) (λ _. inl refl) (inr (seal-fresh (edit (packet p) n a m t) t long (edit_sized p n a m t f)))

pub sent-right : SentRight
sent-right = record { reads = sent_reads; sums = sent_sums; fields = λ p reads n a m bs. rewrite_reads p n a m bs (read_fits p (packet p) reads) }
