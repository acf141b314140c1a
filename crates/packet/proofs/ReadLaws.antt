-- What the tests of reading say of a packet. Assumes nothing.
use Rattle.std.proofs.Common.{◌≡◌, ℕ, ◌-◌, ◌/◌, ◌%◌, ◌≤◌, true, false, not, ◌&&◌, ◌||◌, eqb, leb, cond, length, Some, None, MatchOption, ok_or, Option, Ok, Err, Result, sym, refl, ◌∙◌, inl, inr, arith}
use Rattle.std.proofs.lemmas.Bool.{cases_Bool, cond_both, cond-false, cond-true, and_from, and_parts, and_right, or_from, or_parts, eq-eqb, eqb-true, le-leb, le-ltb, leb-true, not-false, not_from_false, not_from_true}
use Rattle.std.proofs.lemmas.Bool.Decides.{nat_tests}
use Rattle.packet.specs.Bytes.{Bytes, byte, read16}
use Rattle.packet.specs.Packet.{Packet, packet, head_length, good_header, tcp, segment, too_long, wrong_sum, right_header_sum, right_segment_sum, read}
use Rattle.packet.specs.Reads.{Reads, Shows, payload_start}
use Rattle.packet.specs.declared.segment.Refusal.TheVariants.{NotSegment}
use Rattle.packet.specs.declared.segment.Segment.{Segment}

-- the headers fit
pub record Fits (p : Bytes) : Type 0 where
  pub least : 40 ≤ head_length p
  pub within : head_length p ≤ length p

-- what an answer on the payload's start tells
pub start_none : (p : Bytes) → None ≡ payload_start p → segment p ≡ false
start_none p e = elim (cases_Bool (segment p)) [
  | inl t ↦ let z : ◌≡◌ {A = ℕ} 0 1 = cc (cond-true (segment p) (Some (head_length p)) None t) in absurd (omega arith)
  | inr f ↦ f
]

pub record Starts (p : Bytes) (n : ℕ) : Type 0 where
  pub is : segment p ≡ true
  pub at : n ≡ head_length p
  pub least : 40 ≤ length p
  pub fits : head_length p ≤ length p
  pub words : 5 ≤ byte 32 p / 16
  pub is_tcp : tcp p ≡ true
  pub protocol : byte 9 p ≡ 6

pub starts : (p : Bytes) → segment p ≡ true → Starts p (head_length p)
unfolding segment tcp
starts p t =
    let outer = and_parts (tcp p) (leb 5 (byte 32 p / 16) && leb (head_length p) (length p)) t in
    let first = and_parts (eqb (byte 9 p) 6) (leb 40 (length p)) outer.0 in
    let second = and_parts (leb 5 (byte 32 p / 16)) (leb (head_length p) (length p)) outer.1 in
    record {
      is = t;
      at = refl;
      least = leb-true 40 (length p) first.1;
      fits = leb-true (head_length p) (length p) second.1;
      words = leb-true 5 (byte 32 p / 16) second.0;
      is_tcp = outer.0;
      protocol = eqb-true (byte 9 p) 6 first.0;
    }

pub start_some : (p : Bytes) (n : ℕ) → Some n ≡ payload_start p → Starts p n
start_some p n e = elim (cases_Bool (segment p)) [
  | inl t ↦
      let m : n ≡ head_length p = cc (cond-true (segment p) (Some (head_length p)) None t) in
      rw m (starts p t)
  | inr f ↦ let z : ◌≡◌ {A = ℕ} 0 1 = cc (cond-false (segment p) (Some (head_length p)) None f) in absurd (omega arith)
]

pub record Good (p : Bytes) : Type 0 where
  pub least : 20 ≤ length p
  pub version : byte 0 p ≡ 69
  pub total : read16 2 p ≡ length p
  pub entire : read16 6 p % 16384 ≡ 0

pub good : (p : Bytes) → good_header p ≡ true → Good p
unfolding good_header
good p t =
    let fragment = eqb (read16 6 p % 16384) 0 in
    let outer = and_parts (leb 20 (length p)) (eqb (byte 0 p) 69 && (eqb (read16 2 p) (length p) && fragment)) t in
    let inner = and_parts (eqb (byte 0 p) 69) (eqb (read16 2 p) (length p) && fragment) outer.1 in
    let last = and_parts (eqb (read16 2 p) (length p)) fragment inner.1 in
    record {
      least = leb-true 20 (length p) outer.0;
      version = eqb-true (byte 0 p) 69 inner.0;
      total = eqb-true (read16 2 p) (length p) last.0;
      entire = eqb-true (read16 6 p % 16384) 0 last.1;
    }

-- all that the tests say together
pub record Right (p : Bytes) : Type 0 where
  pub good : Good p
  pub starts : Starts p (head_length p)
  pub header : right_header_sum p ≡ true
  pub sum : right_segment_sum p ≡ true
  pub short : length p - head_length p ≤ 1460

ok_injective : {p q : Packet} → ◌≡◌ {A = Result Packet ℕ} (Ok p) (Ok q) → p ≡ q
ok_injective e = cc

err_injective : {m n : ℕ} → ◌≡◌ {A = Result Packet ℕ} (Err m) (Err n) → m ≡ n
err_injective e = cc

err_not_ok : {n : ℕ} {q : Packet} → ◌≡◌ {A = Result Packet ℕ} (Err n) (Ok q) → ⊥
err_not_ok e = let z : ◌≡◌ {A = ℕ} 0 1 = cc in omega arith

-- the four ways of reading
read_cases : (p : Bytes) (P : Result Packet ℕ → Type 0) → P (Err 2) → P (Err 3) → P (Err 4) →
    (good_header p ≡ true → too_long p ≡ false → wrong_sum p ≡ false → segment p ≡ true → P (Ok (packet p))) → P (read p)
unfolding read
read_cases p P two three four ok =
    cond_both (not (good_header p) || too_long p) (Err 2) _ P (λ _. two)
    (λ header. cond_both (wrong_sum p) (Err 3) _ P (λ _. three)
    (λ sum. cond_both (not (segment p)) (Err 4) (Ok (packet p)) P (λ _. four)
    (λ fits.
    let parts = or_parts (not (good_header p)) (too_long p) header in
    ok (not-false _ parts.0) parts.1 sum (not-false _ fits))))

-- what reads is read by its fields
pub read_is : (p : Bytes) (q : Packet) → read p ≡ Ok q → q ≡ packet p
read_is p q = read_cases p (λ r. r ≡ Ok q → q ≡ packet p) (λ e. absurd (err_not_ok e)) (λ e. absurd (err_not_ok e)) (λ e. absurd (err_not_ok e)) (λ _ _ _ _ e. sym (ok_injective e))

-- the numbers by which reading refuses
pub read_refuses : (p : Bytes) (n : ℕ) → read p ≡ Err n → (2 ≤ n) × (n ≤ 4)
read_refuses p n =
    read_cases p (λ r. r ≡ Err n → (2 ≤ n) × (n ≤ 4)) (λ e. among e (omega arith) (omega arith)) (λ e. among e (omega arith) (omega arith)) (λ e. among e (omega arith) (omega arith))
    (λ _ _ _ _ e. absurd (err_not_ok (sym e)))
  where
    among : {m : ℕ} → ◌≡◌ {A = Result Packet ℕ} (Err m) (Err n) → 2 ≤ m → m ≤ 4 → (2 ≤ n) × (n ≤ 4)
    among e a b = let q = err_injective e in (omega arith, omega arith)

-- what reads passes every test
pub read_right : (p : Bytes) (q : Packet) → read p ≡ Ok q → Right p
unfolding wrong_sum too_long
read_right p q =
    read_cases p (λ r. r ≡ Ok q → Right p) (λ e. absurd (err_not_ok e)) (λ e. absurd (err_not_ok e)) (λ e. absurd (err_not_ok e))
    (λ g l w s _.
    let st = starts p s in
    let t : tcp p ≡ true = st.is_tcp in
    record { good = good p g; starts = st; header = grind (arith, nat_tests); sum = grind (arith, nat_tests); short = grind (arith, nat_tests) })

pub read_fits : (p : Bytes) (q : Packet) → read p ≡ Ok q → Fits p
read_fits p q e =
    let s = (read_right p q e).starts in
    record { least = omega (arith, s.words); within = s.fits }

-- past the tests of the header and of the sums, only the segment decides
pub past_tests : (p : Bytes) → good_header p ≡ true → too_long p ≡ false → wrong_sum p ≡ false → read p ≡ cond (not (segment p)) (Err 4) (Ok (packet p))
unfolding read
past_tests p g l w = grind (arith, nat_tests)

pub by_segment : (p : Bytes) (o : Option Segment) → good_header p ≡ true → too_long p ≡ false → wrong_sum p ≡ false → length p ≤ 65535 →
    MatchOption o (segment p ≡ false) (λ s. (segment p ≡ true) × Shows (packet p) s) → Reads p (ok_or o NotSegment)
by_segment p None g l w m f = past_tests p g l w ∙ cond-true (not (segment p)) (Err 4) (Ok (packet p)) (not_from_false _ f)
by_segment p (Some s) g l w m q =
    let st = starts p q.0 in
    (past_tests p g l w ∙ cond-false (not (segment p)) (Err 4) (Ok (packet p)) (not_from_true _ q.0), q.1, record { words = st.words; fits = st.fits; most = m })

-- and what passes every test reads
pub right_reads : (p : Bytes) → Right p → read p ≡ Ok (packet p)
unfolding read good_header too_long wrong_sum
right_reads p r =
    let g = r.good in
    let is-good : good_header p ≡ true =
    and_from _ _ (le-leb 20 _ g.least) (and_from _ _ (eq-eqb _ _ g.version) (and_from _ _ (eq-eqb _ _ g.total) (eq-eqb _ _ g.entire))) in
    let is-short : too_long p ≡ false = and_right (segment p) _ (le-ltb 1460 _ r.short) in
    let is-summed : wrong_sum p ≡ false = or_from _ _ (not_from_true _ r.header) (and_right (tcp p) _ (not_from_true _ r.sum)) in
    cond-false (not (good_header p) || too_long p) (Err 2) _ (or_from _ _ (not_from_true _ is-good) is-short) ∙
    (cond-false (wrong_sum p) (Err 3) _ is-summed ∙
    cond-false (not (segment p)) (Err 4) (Ok (packet p)) (not_from_true _ r.starts.is))

pub is_segment_lem : (p : Bytes) → 40 ≤ length p → byte 9 p ≡ 6 → 5 ≤ byte 32 p / 16 → head_length p ≤ length p → segment p ≡ true
unfolding segment tcp
is_segment_lem p long protocol words fits =
    and_from _ _ (and_from _ _ (eq-eqb _ _ protocol) (le-leb 40 _ long)) (and_from _ _ (le-leb 5 (byte 32 p / 16) words) (le-leb (head_length p) (length p) fits))
