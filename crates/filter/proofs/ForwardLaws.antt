-- A sender's segment goes on as decided.
-- Assumes nothing.
use Rattle.std.proofs.Common.{◌≡◌, ℕ, ◌+◌, ◌-◌, ◌*◌, ◌/◌, ◌≤◌, Bool, true, false, cond, ltb, [], ◌∷◌, ◌++◌, length, take, drop, is_some, Some, None, IfSome, Ok, Err, Option, Result, sym, refl, ap, ◌∙◌, subst, inl, inr, arith, take-add}
use borrow.Rule.Slice.PartMut.{put_mid, post_of}
use Rattle.std.specs.List.{between}
use Rattle.std.specs.Option.{option_or}
use Rattle.std.proofs.lemmas.List.{append-nil, drop_all, drop_at, drop-drop, length-append, length-drop, length-take, take-append-drop, take-take}
use Rattle.std.proofs.lemmas.Slice.{between_to_end, take-put_mid_below}
use Rattle.std.proofs.lemmas.List.Edits.{length-between}
use Rattle.std.proofs.lemmas.Bool.{both_ways, cases_Bool, cond-false, cond-true, le-ltb, lt-ltb}
use Rattle.packet.specs.Bytes.{Bytes, byte}
use Rattle.packet.specs.Packet.{head_length, packet, rewrite}
use Rattle.packet.specs.declared.edit.Edit.{Edit}
use Rattle.packet.specs.Reads.{Reads}
use Rattle.packet.specs.Rewrites.{Before, Moved, Overwritten, Whole, Within}
use Rattle.packet.specs.declared.edit.Patch.{Patch}
use Rattle.packet.specs.declared.segment.Segment.{Segment as Seg}
use Rattle.packet.proofs.BytesLaws.{byte-front}
use Rattle.packet.proofs.PatchLaws.{overwritten}
use Rattle.automaton.specs.Text.{nonempty}
use Rattle.sequence.specs.Places.{number_of, place_of}
use Rattle.sequence.specs.declared.Place.{Place as Where}
use Rattle.window.specs.Known.{Piece}
use Rattle.window.specs.Window.{width}
use Rattle.window.proofs.KnownLaws.{length-overlay}
use Rattle.stream.specs.Promise.{Sound}
use Rattle.stream.specs.Shown as stream
use Rattle.stream.specs.Shown.{Shown, Stands, outcome_of}
use Rattle.stream.specs.Steps.{Arrives, Empty, Outcome, Passed, Segment, after, outcome, piece_left, piece_of, run, step}
use Rattle.stream.specs.Stream as streams
use Rattle.stream.specs.Stream.{Stream, blank, inner, passed_part, places}
use Rattle.stream.specs.Took.{Cuts, Differs, Took}
use Rattle.stream.specs.declared.stream.Stream.{Stream as StreamValue}
use Rattle.stream.specs.declared.answer.Passed.{Passed as Part}
use Rattle.stream.specs.declared.answer.Refused.{Refused as Untaken}
use Rattle.stream.specs.declared.answer.Refused.TheVariants as untaken
use Rattle.stream.proofs.Kept.{promise}
use Rattle.stream.proofs.MarkLaws.{text_fits}
use Rattle.stream.proofs.Outcomes.{Done, closed, done, empty, passes, word}
use Rattle.stream.proofs.TakeLaws.{run_push}
use Rattle.filter.specs.Config.{Config, Key}
use Rattle.filter.specs.declared.side.Side.TheVariants.{Looms}
use Rattle.filter.specs.Decide.{advanced, marks_left, number_left, on_outcome, on_segment, packet_left, segment_at}
use Rattle.filter.specs.Forwards.{edit_left, first_byte, number_at}
use Rattle.filter.specs.Gate.{Connection}
use Rattle.filter.specs.Dropped.{dropped_for}
use Rattle.filter.specs.Gate as gate
use Rattle.filter.specs.Held.{Handles, Held, Left}
use Rattle.filter.specs.Verdict.{Refuse, Update}
use Rattle.filter.specs.declared.dropped.Refusal.TheVariants as refusal
use Rattle.filter.specs.declared.dropped.Refusal.{Refusal}
use Rattle.filter.specs.declared.dropped.Dropped.TheVariants as dropped
use Rattle.filter.specs.declared.connection.Connection.{Connection as Value}

ok_is : {A B : Type 0} {x y : A} → ◌≡◌ {A = Result A B} (Ok x) (Ok y) → x ≡ y
ok_is e = cc

err_is : {A B : Type 0} {x y : B} → ◌≡◌ {A = Result A B} (Err x) (Err y) → x ≡ y
err_is e = cc

pub payload_length : (old : Bytes) (start : ℕ) → length (between start (length old) old) ≡ length old - start
payload_length old start = ap length (between_to_end old start (length old) (omega arith)) ∙ length-drop start old

length-nil : (t : Bytes) → length t ≡ 0 → t ≡ []
length-nil [] e = refl
length-nil (x ∷ xs) e = absurd (omega arith)

-- a packet of whose payload, from `start` on, other bytes are left
module _ (old rest : Bytes) (start : ℕ) (l : start ≤ length old) (n : length rest ≡ length old - start) where
  abbrev new : Bytes
  new = put_mid start (length old - start) old rest

  post_none : post_of start (length old - start) old ≡ []
  post_none = drop_all (length old - start) (drop start old) (rw (length-drop start old) (omega arith))

  new_is : new ≡ take start old ++ rest
  new_is = ap (λ x. take start old ++ (rest ++ x)) post_none ∙ ap (λ x. take start old ++ x) (append-nil rest)

  front_long : length (take start old) ≡ start
  front_long = length-take start old ∙ omega arith

  pub long_new : length new ≡ length old
  long_new = ap length new_is ∙ length-append (take start old) rest ∙ omega (arith, front_long)

  pub take_new : (j : ℕ) → j ≤ start → take j new ≡ take j old
  take_new j h = take-put_mid_below start (length old - start) old rest j h l

  drop_start : drop start new ≡ rest
  drop_start = ap (drop start) new_is ∙ drop_at (take start old) rest start front_long

  pub drop_new : (j : ℕ) → drop (start + j) new ≡ drop j rest
  drop_new j = sym (drop-drop j start new) ∙ ap (drop j) drop_start

  pub part_new : (a b : ℕ) → between (start + a) (start + b) new ≡ between a b rest
  part_new a b =
      let e : start + b - (start + a) ≡ b - a = omega arith in
      ap (λ k. take k (drop (start + a) new)) e ∙ ap (take (b - a)) (drop_new a)

  -- the headers are as they came
  pub head_new : 40 ≤ start → head_length new ≡ head_length old
  head_new h = ap (λ b. 20 + b / 16 * 4) (byte-front new old start 32 (omega arith) (take_new start (omega arith)))

  pub whole_new : 40 ≤ start → Whole old → Whole new
  whole_new h w =
      let e : byte 32 new ≡ byte 32 old = byte-front new old start 32 (omega arith) (take_new start (omega arith)) in
      record { words = subst (λ (b : ℕ). 5 ≤ b / 16) (sym e) w.words; fits = rw (head_new h, long_new) w.fits; most = rw long_new w.most }

  pub within_new : 40 ≤ start → start ≡ head_length old → (a b : ℕ) → a ≤ b → start + b ≤ length old → Within new (start + a) (start + b)
  within_new h e a b o m = record { begins = rw (head_new h) (omega arith); ordered = omega arith; ends = rw long_new m }

  -- all of the payload is what may have been overwritten
  pub patch_within : 40 ≤ start → start ≡ head_length old → (patch : Patch) → Before old start (length old) patch → Within new patch.start patch.end
  patch_within h e patch b = record { begins = rw (head_new h) (omega (arith, b.start)); ordered = omega (arith, b.start, b.end); ends = rw long_new (omega (arith, b.end)) }

  -- nothing was overwritten
  pub same_new : rest ≡ drop start old → new ≡ old
  same_new e = new_is ∙ ap (λ x. take start old ++ x) e ∙ take-append-drop start old

  pub rest_same : new ≡ old → rest ≡ drop start old
  rest_same e = sym drop_start ∙ ap (drop start) e

  -- a buffer of whose payload nothing was overwritten
  pub untaken_left : rest ≡ between start (length old) old → new ≡ old
  untaken_left e = same_new (e ∙ between_to_end old start (length old) (omega arith))

  -- the lent buffer, by what is passed of the segment
  module _ (first : ℕ) (sg : Seg) (es : sg.payload ≡ start) (t : Option Part) (left : stream.Left (between start (length old) old) rest (Ok t)) where
    payload_is : between start (length old) old ≡ drop start old
    payload_is = between_to_end old start (length old) (omega arith)

    front_same : (j : ℕ) → take j rest ≡ take j (between start (length old) old) → take (start + j) new ≡ take (start + j) old
    front_same j e =
        take-add start j new ∙ ap (λ x. x ++ take j (drop start new)) (take_new start (omega arith)) ∙ ap (λ x. take start old ++ take j x) drop_start
        ∙ ap (λ x. take start old ++ x) (e ∙ ap (take j) payload_is) ∙ sym (take-add start j old)

    back_same : (j : ℕ) → drop j rest ≡ drop j (between start (length old) old) → drop (start + j) new ≡ drop (start + j) old
    back_same j e = drop_new j ∙ e ∙ ap (drop j) payload_is ∙ drop-drop j start old

    pub edit_within : 40 ≤ start → start ≡ head_length old → (edit : Edit) → edit_left first sg t ≡ Ok edit → Within new edit.start edit.end
    edit_within h eh edit ed = go t left ed
      where
        go : (u : Option Part) → stream.Left (between start (length old) old) rest (Ok u) → edit_left first sg u ≡ Ok edit → Within new edit.start edit.end
        go (Some p) q f =
            let ea : edit.start ≡ start + p.part.start = ap (λ d. d.start) (sym (ok_is f)) ∙ ap (λ i. i + p.part.start) es in
            let ee : edit.end ≡ start + p.part.end = ap (λ d. d.end) (sym (ok_is f)) ∙ ap (λ i. i + p.part.end) es in
            let lt : p.part.end ≤ length (between start (length old) old) = q.1 in
            rw (ea, ee) (within_new h eh p.part.start p.part.end q.0 (omega (arith, payload_length old start)))
        go None q f = elim (cases_Bool sg.marks.ack) [
          | inr b ↦ absurd (let g = sym f ∙ cond-false sg.marks.ack _ (Err refusal.Empty) b in let z : ◌≡◌ {A = ℕ} 0 1 = cc in omega arith)
          | inl b ↦
              let g = ok_is (sym f ∙ cond-true sg.marks.ack _ (Err refusal.Empty) b) in
              let ea : edit.start ≡ start + 0 = ap (λ d. d.start) g ∙ es ∙ omega arith in
              let ee : edit.end ≡ start + 0 = ap (λ d. d.end) g ∙ es ∙ omega arith in
              rw (ea, ee) (within_new h eh 0 0 (omega arith) (omega arith))
        ]

    -- a segment of which nothing is left is as it came
    pub err_left : (why : Refusal) → edit_left first sg t ≡ Err why → new ≡ old
    err_left why ed = go t left ed
      where
        go : (u : Option Part) → stream.Left (between start (length old) old) rest (Ok u) → edit_left first sg u ≡ Err why → new ≡ old
        go (Some p) q f = absurd (let z : ◌≡◌ {A = ℕ} 0 1 = cc in omega arith)
        go None q f = same_new (q ∙ payload_is)

    -- outside the part that goes out the buffer is as it came
    pub pass_left : 40 ≤ start → start ≡ head_length old → (edit : Edit) → edit_left first sg t ≡ Ok edit → (exit : Bytes) (a e : ℕ) → Moved new exit edit.start edit.end a e → Left old exit (Ok (record { start = a; end = e }))
    pass_left h eh edit ed exit a e mv = go t left ed
      where
        -- from the front of the part on, and behind its end, nothing was overwritten
        outside : (from to : ℕ) → from ≤ to → start + to ≤ length old → edit.start ≡ start + from → edit.end ≡ start + to →
            take (start + from) new ≡ take (start + from) old → drop (start + to) new ≡ drop (start + to) old → Left old exit (Ok (record { start = a; end = e }))
        outside from to o m ea ee et ed =
            let ha : a ≡ from = omega (arith, mv.from, head_new h) in
            let he : e ≡ start + to = mv.to ∙ ee in
            let es : start + from + (to - from) ≡ start + to = omega arith in (
              omega arith,
              omega arith,
              mv.before ∙ sym (take-take a (start + from) new (omega arith)) ∙ ap (take a) et ∙ take-take a (start + from) old (omega arith),
              ap (λ i. drop i exit) (he ∙ sym es) ∙ sym (drop-drop (to - from) (start + from) exit) ∙ ap (drop (to - from)) (subst (λ (i : ℕ). drop i exit ≡ drop i new) ea mv.after)
                  ∙ drop-drop (to - from) (start + from) new ∙ ap (λ i. drop i new) es ∙ ed ∙ ap (λ i. drop i old) (sym he),
            )

        go : (u : Option Part) → stream.Left (between start (length old) old) rest (Ok u) → edit_left first sg u ≡ Ok edit → Left old exit (Ok (record { start = a; end = e }))
        go (Some p) q f =
            let lt : p.part.end ≤ length (between start (length old) old) = q.1 in
            outside p.part.start p.part.end q.0 (omega (arith, payload_length old start)) (ap (λ d. d.start) (sym (ok_is f)) ∙ ap (λ i. i + p.part.start) es) (ap (λ d. d.end) (sym (ok_is f)) ∙ ap (λ i. i + p.part.end) es)
            (front_same p.part.start q.2) (back_same p.part.end q.3)
        go None q f = elim (cases_Bool sg.marks.ack) [
          | inr b ↦ absurd (let g = sym f ∙ cond-false sg.marks.ack _ (Err refusal.Empty) b in let z : ◌≡◌ {A = ℕ} 0 1 = cc in omega arith)
          | inl b ↦
              let g = ok_is (sym f ∙ cond-true sg.marks.ack _ (Err refusal.Empty) b) in
              outside 0 0 (omega arith) (omega arith) (ap (λ d. d.start) g ∙ es ∙ omega arith) (ap (λ d. d.end) g ∙ es ∙ omega arith) (front_same 0 (ap (take 0) q)) (back_same 0 (ap (drop 0) q))
        ]

-- a value that stands for what the gate holds of a stream
module _ (c : Config) (m : Connection) (v : Value) (h : Held c m v) where
  pub shown : Shown c.words m.stream v.stream
  shown = subst (λ (t : Stream). Shown c.words t v.stream) (ap (λ w. run w c.words blank h.before) h.wide ∙ sym h.history) h.stands

  sound : nonempty c.words ≡ true → Sound c.width c.words m.stream
  sound ne = subst (λ (t : Stream). Sound c.width c.words t) (sym h.history) (promise c.width c.words ne h.before).sound

  pub low_fits : nonempty c.words ≡ true → v.stream.marks.low ≤ places
  low_fits ne = omega (arith, shown.low, (sound ne).low_text, text_fits c.width c.words m.stream (sound ne))

  module _ (old : Bytes) (sg : Seg) (at : Where) (ne : nonempty c.words ≡ true) (rd : Reads old (Ok sg))
      (ea : at ≡ place_of m.first m.stream.low sg.number) where
    -- the segment as it came to the stream
    abbrev came : Segment
    came = record { at = at; bytes = between sg.payload (length old) old; fin = sg.marks.fin }

    came_is : came ≡ segment_at m (packet old)
    came_is =
        ap (λ p. record { at = p; bytes = between sg.payload (length old) old; fin = sg.marks.fin }) (ea ∙ ap (place_of m.first m.stream.low) rd.1.number)
        ∙ ap (λ bs. record { at = (segment_at m (packet old)).at; bytes = bs; fin = sg.marks.fin })
        (between_to_end old sg.payload (length old) (omega arith) ∙ ap (λ i. drop i old) rd.1.payload)
        ∙ ap (λ f. record { at = (segment_at m (packet old)).at; bytes = (packet old).payload; fin = f }) rd.1.fin

    pub differs_model : (b : Bool) → Differs (width v.stream.window) (run (width v.stream.window) c.words blank h.before) (piece_of came) b →
        Differs c.width m.stream (piece_of (segment_at m (packet old))) b
    differs_model b d =
        subst (λ (a : Segment). Differs c.width m.stream (piece_of a) b) came_is
        (subst (λ (s : Stream). Differs c.width s (piece_of came) b) (sym h.history)
        (subst (λ (w : ℕ). Differs w (run w c.words blank h.before) (piece_of came) b) h.wide d))

    module _ (s' : StreamValue) (rest : Bytes) (r : stream.Answer) (ew : width s'.window ≡ width v.stream.window) (took : Took c.words h.before came s' rest r) where
      wide : width s'.window ≡ c.width
      wide = ew ∙ h.wide

      answer : outcome c.width c.words m.stream (segment_at m (packet old)) ≡ outcome_of c.words rest r
      answer =
          sym (ap (outcome c.width c.words m.stream) came_is) ∙ ap (λ s. outcome c.width c.words s came) h.history
          ∙ sym (ap (λ w. outcome w c.words (run w c.words blank h.before) came) wide) ∙ took.answer

      pub decided : (k : Key) → on_segment c k m (packet old) ≡ on_outcome c k m (packet old) (outcome_of c.words rest r)
      decided k = ap (on_outcome c k m (packet old)) answer

      pub cuts : Cuts (inner c.width m.stream (piece_of (segment_at m (packet old)))).bytes (between sg.payload (length old) old) r
      cuts =
          subst (λ (a : Segment). Cuts (inner c.width m.stream (piece_of a)).bytes (between sg.payload (length old) old) r) came_is
          (subst (λ (s : Stream). Cuts (inner c.width s (piece_of came)).bytes (between sg.payload (length old) old) r) (sym h.history)
          (subst (λ (w : ℕ). Cuts (inner w (run w c.words blank h.before) (piece_of came)).bytes (between sg.payload (length old) old) r) wide took.cuts))

      -- what is held then
      pub held : (m' : Connection) (v' : Value) → v'.stream ≡ s' → m'.stream ≡ after c.width m.stream (segment_at m (packet old)) (outcome_of c.words rest r) →
          v'.first ≡ m'.first → v'.opening ≡ m'.opening → v'.last_ack ≡ m'.last_ack → v'.left ≡ m'.left → Held c m' v'
      held m' v' es em e1 e2 e3 e4 = record {
        first = e1;
        opening = e2;
        last_ack = e3;
        left = e4;
        wide = ap (λ s. width s.window) es ∙ wide;
        before = h.before ++ (Arrives came ∷ []);
        history = em ∙ ap (after c.width m.stream (segment_at m (packet old))) (sym answer) ∙ sym (ap (λ a. step c.width c.words m.stream (Arrives a)) came_is)
            ∙ ap (λ s. step c.width c.words s (Arrives came)) h.history ∙ sym (run_push c.width c.words blank h.before (Arrives came));
        stands = subst (λ (s : StreamValue). Stands c.words (h.before ++ (Arrives came ∷ [])) s) (sym es) took.stands;
      }

      -- Whether a byte was overwritten

      abbrev payload : Bytes
      payload = between sg.payload (length old) old

      parts_same : (from to : ℕ) → from ≤ to → to ≤ length payload → take from rest ≡ take from payload → drop to rest ≡ drop to payload →
          between from to rest ≡ between from to payload → rest ≡ payload
      parts_same from to o m et ed eb = whole rest ∙ ap (λ x. x ++ (between from to rest ++ drop to rest)) et ∙ ap (λ x. take from payload ++ (x ++ drop to rest)) eb
          ∙ ap (λ x. take from payload ++ (between from to payload ++ x)) ed ∙ sym (whole payload)
        where
          whole : (xs : Bytes) → xs ≡ take from xs ++ (between from to xs ++ drop to xs)
          whole xs =
              sym (take-append-drop from xs)
              ∙ ap (λ x. take from xs ++ x) (sym (take-append-drop (to - from) (drop from xs)) ∙ ap (λ x. between from to xs ++ x) (drop-drop (to - from) from xs ∙ (let e : from + (to - from) ≡ to = omega arith in ap (λ i. drop i xs) e)))

      abbrev left_inside : Bytes
      left_inside = (inner c.width m.stream (piece_of (segment_at m (packet old)))).bytes

      abbrev left_passed : Bytes
      left_passed = passed_part c.width m.stream (piece_of (segment_at m (packet old)))

      -- of a piece that is passed on, these are its bytes
      passed_part_lem : (p : Part) → r ≡ Ok (Some p) → left_passed ≡ between p.part.start p.part.end rest
      passed_part_lem p er = go (outcome c.width c.words m.stream (segment_at m (packet old))) (done c.width c.words m.stream (segment_at m (packet old)))
          (answer ∙ ap (outcome_of c.words rest) er)
        where
          go : (o : Outcome) → Done c.width c.words m.stream (segment_at m (packet old)) o → o ≡ Passed (record { at = p.part.place; bytes = between p.part.start p.part.end rest }) p.fin → left_passed ≡ between p.part.start p.part.end rest
          go _ (closed e) f = absurd (let z : ◌≡◌ {A = ℕ} 0 1 = cc in omega arith)
          go _ (word e found l) f = absurd (let z : ◌≡◌ {A = ℕ} 0 1 = cc in omega arith)
          go _ (empty e l n k) f = absurd (let z : ◌≡◌ {A = ℕ} 0 1 = cc in omega arith)
          go _ (passes e l) f = let q : piece_left c.width m.stream (segment_at m (packet old)) ≡ record { at = p.part.place; bytes = between p.part.start p.part.end rest } = cc in ap (λ (x : Piece). x.bytes) q

      empty_part : r ≡ Ok None → left_passed ≡ left_inside
      empty_part er = go (outcome c.width c.words m.stream (segment_at m (packet old))) (done c.width c.words m.stream (segment_at m (packet old))) (answer ∙ ap (outcome_of c.words rest) er)
        where
          go : (o : Outcome) → Done c.width c.words m.stream (segment_at m (packet old)) o → o ≡ Empty → left_passed ≡ left_inside
          go _ (closed e) f = absurd (let z : ◌≡◌ {A = ℕ} 0 1 = cc in omega arith)
          go _ (word e found l) f = absurd (let z : ◌≡◌ {A = ℕ} 0 1 = cc in omega arith)
          go _ (passes e l) f = absurd (let z : ◌≡◌ {A = ℕ} 0 1 = cc in omega arith)
          go _ (empty e l n k) f = n ∙ sym (length-nil left_inside (sym (length-overlay m.stream.known (inner c.width m.stream (piece_of (segment_at m (packet old)))).at left_inside) ∙ ap length n))

      module _ (t : Option Part) (er : r ≡ Ok t) (left : stream.Left payload rest (Ok t)) where
        kept_same : left_passed ≡ left_inside → rest ≡ payload
        kept_same e = go t er left (subst (Cuts left_inside payload) er cuts)
          where
            go : (u : Option Part) → r ≡ Ok u → stream.Left payload rest (Ok u) → Cuts left_inside payload (Ok u) → rest ≡ payload
            go (Some p) eu l k = parts_same p.part.start p.part.end l.0 l.1 l.2 l.3 (sym (passed_part_lem p eu) ∙ e ∙ sym k)
            go None eu l k = l

        not_changed : rest ≡ payload → left_passed ≡ left_inside
        not_changed f = go t er (subst (Cuts left_inside payload) er cuts)
          where
            go : (u : Option Part) → r ≡ Ok u → Cuts left_inside payload (Ok u) → left_passed ≡ left_inside
            go (Some p) eu k = passed_part_lem p eu ∙ ap (between p.part.start p.part.end) f ∙ k
            go None eu k = empty_part eu

        -- the patch says what was overwritten
        pub patched : (b : Bool) → Differs c.width m.stream (piece_of (segment_at m (packet old))) b →
            (patch : Option Patch) → is_some patch ≡ b → IfSome patch (Before old sg.payload (length old)) →
            sg.payload ≤ length old → length rest ≡ length old - sg.payload → Overwritten old (put_mid sg.payload (length old - sg.payload) old rest) patch
        patched true d (Some patch) is known l n =
            overwritten old rest sg.payload (length old) patch known l (omega arith) n (λ e. d (not_changed e))
        patched false d None is known l n = same_new old rest sg.payload l n (kept_same d ∙ between_to_end old sg.payload (length old) (omega arith))
        patched true d None is known l n = absurd (both_ways _ (sym is) refl)
        patched false d (Some patch) is known l n = absurd (both_ways _ refl (sym is))

      -- The answers

      -- the numbers of what is held, where only the stream changes
      same-held : (m' : Connection) (v' : Value) → v'.stream ≡ s' → v'.first ≡ v.first → v'.opening ≡ v.opening → v'.last_ack ≡ v.last_ack → v'.left ≡ v.left →
          m'.stream ≡ after c.width m.stream (segment_at m (packet old)) (outcome_of c.words rest r) →
          m'.first ≡ m.first → m'.opening ≡ m.opening → m'.last_ack ≡ m.last_ack → m'.left ≡ m.left → Held c m' v'
      same-held m' v' es e1 e2 e3 e4 em f1 f2 f3 f4 =
          held m' v' es em (e1 ∙ h.first ∙ sym f1) (e2 ∙ h.opening ∙ sym f2) (e3 ∙ h.last_ack ∙ sym f3) (e4 ∙ h.left ∙ sym f4)

      module _ (k : Key) (new : Bytes) (v' : Value) (es : v'.stream ≡ s') (e1 : v'.first ≡ v.first) (e2 : v'.opening ≡ v.opening) (e3 : v'.last_ack ≡ v.last_ack) (e4 : v'.left ≡ v.left) where
        -- the stream takes nothing of the segment
        pub handles_untaken : (why : Untaken) → r ≡ Err why → Handles c k m (packet old) new v' (Err (dropped_for why))
        handles_untaken (untaken.Word w) er = (
          decided k ∙ ap (λ u. on_outcome c k m (packet old) (outcome_of c.words rest u)) er,
          same-held (gate.closed m) v' es e1 e2 e3 e4 (sym (ap (λ u. after c.width m.stream (segment_at m (packet old)) (outcome_of c.words rest u)) er)) refl refl refl refl,
        )
        handles_untaken untaken.Shut er = (
          decided k ∙ ap (λ u. on_outcome c k m (packet old) (outcome_of c.words rest u)) er,
          same-held m v' es e1 e2 e3 e4 (sym (ap (λ u. after c.width m.stream (segment_at m (packet old)) (outcome_of c.words rest u)) er)) refl refl refl refl,
        )

        -- nothing is left of the segment, and it acknowledges nothing
        pub handles_empty : (t : Option Part) (why : Refusal) → r ≡ Ok t → edit_left v.first sg t ≡ Err why → Handles c k m (packet old) new v' (Err (dropped.Refused why))
        handles_empty (Some p) why er ed = absurd (let z : ◌≡◌ {A = ℕ} 0 1 = cc in omega arith)
        handles_empty None why er ed = elim (cases_Bool sg.marks.ack) [
          | inl a ↦ absurd (let g = sym ed ∙ cond-true sg.marks.ack _ (Err refusal.Empty) a in let z : ◌≡◌ {A = ℕ} 0 1 = cc in omega arith)
          | inr a ↦
              let g = err_is (sym (cond-false sg.marks.ack (Ok (record { number = sg.number; acknowledged = sg.acknowledged; marks = sg.marks.raw / 2 * 2; start = sg.payload; end = sg.payload })) (Err refusal.Empty) a) ∙ ed) in
              subst (λ (x : Refusal). Handles c k m (packet old) new v' (Err (dropped.Refused x))) g (
                decided k ∙ ap (λ u. on_outcome c k m (packet old) (outcome_of c.words rest u)) er
                    ∙ cond-false (packet old).ack (Update k (advanced c (packet old) m.stream m) Looms (packet_left m (packet old) 0 [] None)) (Refuse 9) (sym rd.1.ack ∙ a),
                same-held m v' es e1 e2 e3 e4 (sym (ap (λ u. after c.width m.stream (segment_at m (packet old)) (outcome_of c.words rest u)) er)) refl refl refl refl,
              )
        ]

      abbrev taken_by : Option ℕ → Stream
      taken_by fin = streams.taken c.width (piece_of (segment_at m (packet old))) fin m.stream

      number_is : (p : Part) (bytes : Bytes) → p.part.start ≤ p.part.end → length bytes ≡ p.part.end - p.part.start →
          number_at v.first sg.number (option_or (first_byte p) p.fin) ≡ number_left m (packet old) p.part.place bytes p.fin
      number_is p bytes o n = go p.fin bytes n
        where
          go : (fin : Option ℕ) (bs : Bytes) → length bs ≡ p.part.end - p.part.start → number_at v.first sg.number (option_or (first_byte p) fin) ≡ number_left m (packet old) p.part.place bs fin
          go fin (b ∷ bs) n =
              ap (λ x. number_at v.first sg.number (option_or x fin)) (cond-true (ltb p.part.start p.part.end) (Some p.part.place) None (lt-ltb p.part.start p.part.end (omega arith)))
              ∙ ap (λ x. number_of x p.part.place) h.first
          go (Some f) [] n =
              ap (λ x. number_at v.first sg.number (option_or x (Some f))) (cond-false (ltb p.part.start p.part.end) (Some p.part.place) None (le-ltb p.part.start p.part.end (omega arith)))
              ∙ ap (λ x. number_of x f) h.first
          go None [] n =
              ap (λ x. number_at v.first sg.number (option_or x None)) (cond-false (ltb p.part.start p.part.end) (Some p.part.place) None (le-ltb p.part.start p.part.end (omega arith))) ∙ rd.1.number

      marks_is : (fin : Option ℕ) → cond (is_some fin) sg.marks.raw (sg.marks.raw / 2 * 2) ≡ marks_left (packet old) fin
      marks_is (Some f) = rd.1.marks
      marks_is None = ap (λ x. x / 2 * 2) rd.1.marks

      -- the packet that goes out, and what is held then
      module _ (k : Key) (new exit : Bytes) (a e : ℕ) (edit : Edit) (v' : Value) (long : length rest ≡ length payload)
          (out : between a e exit ≡ rewrite (packet old) edit.number edit.acknowledged edit.marks (between edit.start edit.end new))
          (parts : (i j : ℕ) → between (sg.payload + i) (sg.payload + j) new ≡ between i j rest)
          (es : v'.stream ≡ s') (e1 : v'.first ≡ v.first) (e2 : v'.opening ≡ v.opening) (e3 : v'.last_ack ≡ cond sg.marks.ack sg.acknowledged v.last_ack) (e4 : v'.left ≡ c.quiet) where
        advance_held : (s : Stream) → s ≡ after c.width m.stream (segment_at m (packet old)) (outcome_of c.words rest r) → Held c (advanced c (packet old) s m) v'
        advance_held s em =
            held (advanced c (packet old) s m) v' es em (e1 ∙ h.first) (e2 ∙ h.opening)
            (e3 ∙ ap (λ b. cond b sg.acknowledged v.last_ack) rd.1.ack ∙ ap (λ n. cond (packet old).ack n v.last_ack) rd.1.acknowledged
            ∙ ap (cond (packet old).ack (packet old).acknowledged) h.last_ack) e4

        pub handles_pass : (t : Option Part) → r ≡ Ok t → stream.Left payload rest (Ok t) → edit_left v.first sg t ≡ Ok edit → Handles c k m (packet old) exit v' (Ok (record { start = a; end = e }))
        handles_pass (Some p) er l f =
            let bytes = between p.part.start p.part.end rest in
            let number = number_at v.first sg.number (option_or (first_byte p) p.fin) in
            let marks = cond (is_some p.fin) sg.marks.raw (sg.marks.raw / 2 * 2) in
            let ee : edit ≡ record { number = number; acknowledged = sg.acknowledged; marks = marks; start = sg.payload + p.part.start; end = sg.payload + p.part.end } = sym (ok_is f) in
            let n : length bytes ≡ p.part.end - p.part.start = length-between rest p.part.start p.part.end (omega (arith, l.1)) in (
              advanced c (packet old) (taken_by p.fin) m,
              decided k ∙ ap (λ u. on_outcome c k m (packet old) (outcome_of c.words rest u)) er
                  ∙ ap (Update k (advanced c (packet old) (taken_by p.fin) m) Looms)
                  (sym (out ∙ ap (λ d. rewrite (packet old) d.number d.acknowledged d.marks (between d.start d.end new)) ee
                  ∙ ap (λ x. rewrite (packet old) number sg.acknowledged marks x) (parts p.part.start p.part.end)
                  ∙ ap (λ x. rewrite (packet old) x sg.acknowledged marks bytes) (number_is p bytes l.0 n)
                  ∙ ap (λ x. rewrite (packet old) (number_left m (packet old) p.part.place bytes p.fin) x marks bytes) rd.1.acknowledged
                  ∙ ap (λ x. rewrite (packet old) (number_left m (packet old) p.part.place bytes p.fin) (packet old).acknowledged x bytes) (marks_is p.fin))),
              advance_held (taken_by p.fin) (sym (ap (λ u. after c.width m.stream (segment_at m (packet old)) (outcome_of c.words rest u)) er)),
            )
        handles_pass None er l f = elim (cases_Bool sg.marks.ack) [
          | inr b ↦ absurd (let g = sym f ∙ cond-false sg.marks.ack _ (Err refusal.Empty) b in let z : ◌≡◌ {A = ℕ} 0 1 = cc in omega arith)
          | inl b ↦
              let bare : Edit = record { number = sg.number; acknowledged = sg.acknowledged; marks = sg.marks.raw / 2 * 2; start = sg.payload; end = sg.payload } in
              let ee : edit ≡ bare = ok_is (sym f ∙ cond-true sg.marks.ack (Ok bare) (Err refusal.Empty) b) in
              let z : sg.payload - sg.payload ≡ 0 = omega arith in (
                advanced c (packet old) m.stream m,
                decided k ∙ ap (λ u. on_outcome c k m (packet old) (outcome_of c.words rest u)) er
                    ∙ cond-true (packet old).ack (Update k (advanced c (packet old) m.stream m) Looms (packet_left m (packet old) 0 [] None)) (Refuse 9) (sym rd.1.ack ∙ b)
                    ∙ ap (Update k (advanced c (packet old) m.stream m) Looms)
                    (sym (out ∙ ap (λ d. rewrite (packet old) d.number d.acknowledged d.marks (between d.start d.end new)) ee
                    ∙ ap (λ j. rewrite (packet old) sg.number sg.acknowledged (sg.marks.raw / 2 * 2) (take j (drop sg.payload new))) z
                    ∙ ap (λ x. rewrite (packet old) x sg.acknowledged (sg.marks.raw / 2 * 2) []) rd.1.number
                    ∙ ap (λ x. rewrite (packet old) (packet old).number x (sg.marks.raw / 2 * 2) []) rd.1.acknowledged
                    ∙ ap (λ x. rewrite (packet old) (packet old).number (packet old).acknowledged (x / 2 * 2) []) rd.1.marks)),
                advance_held m.stream (sym (ap (λ u. after c.width m.stream (segment_at m (packet old)) (outcome_of c.words rest u)) er)),
              )
        ]
