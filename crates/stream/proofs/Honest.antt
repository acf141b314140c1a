-- From a sender that says one thing of each place nothing is lost, and nothing is changed.
-- Assumes nothing.
use Rattle.std.proofs.Common.{◌≡◌, ℕ, ◌+◌, ◌<◌, ◌≤◌, List, [], ◌∷◌, ◌++◌, length, Some, None, Option, sym, refl, ap, ◌∙◌, subst, ⊎_elim, arith}
use mathlib.Core.List.Memᴰ
use Rattle.std.specs.List.{slice_get}
use Rattle.std.proofs.lemmas.Option.{slice_get-get_or}
use Rattle.std.proofs.lemmas.Bool.{cases_lt}
use Rattle.std.specs.Option.{unwrap_or}
use Rattle.automaton.specs.Text.{Text}
use Rattle.window.proofs.PieceLaws.{none-some, none_since, from, start_from, head_from, rest_from, or_either, learn_from, cut_inside}
use Rattle.stream.specs.Stream.{Stream, blank, up_to, window_end, inner, next_known}
use Rattle.stream.specs.Steps.{Segment, Arrival, Arrives, Acked, piece_of, fin_at, Outcome, outcome, after, step, passed_by, fins_by, run}
use Rattle.stream.specs.Promise.{Sound, FinFits, WordCame, Source, BeforeEnd, Says, Agrees, Honest, front, FrontOf, PassedOn, GoesOut}
use Rattle.stream.proofs.Outcomes.{Done, closed, word, empty, passes, done}
use Rattle.stream.proofs.Sound.{step_sound, left_fits}
use Rattle.stream.proofs.Next.{acked_cases, next}

-- a text whose bytes are as the source says is a front of it

says_front : (says : ℕ → ℕ) (i : ℕ) (t : Text) → ((j b : ℕ) → from i t j ≡ Some b → says j ≡ b) → t ≡ front says i (length t)
unfolding front
says_front says i [] h = refl
says_front says i (x ∷ t) h =
    let first : says i ≡ x = h i x (head_from i x t) in
    let rest : t ≡ front says (i + 1) (length t) = says_front says (i + 1) t (λ j b e. h j b (rest_from i x t j b e)) in
    cc

pub front_of : (source : Source) (t : Text) → ((j b : ℕ) → slice_get t j ≡ Some b → Says source j b) → FrontOf source t
front_of source t h =
    record {
      is = says_front source.says 0 t (λ j b e. (h j b (start_from t j b e)).0);
      within = λ f e. ⊎_elim (λ l. let u : f < f = subst (λ (x : Option ℕ). BeforeEnd x f) e (h f _ (slice_get-get_or t f 0 l)).1 in absurd (omega arith)) (λ l. l) (cases_lt f (length t));
    }

-- all that is known is as the source says
pub record FromSource (source : Source) (s : Stream) : Type 0 where
  pub known : (j b : ℕ) → s.known j ≡ Some b → Says source j b
  pub finish : (f : ℕ) → s.fin ≡ Some f → source.end ≡ Some f

module _ (width : ℕ) (words : List Text) (source : Source) (s : Stream) (sound : Sound width words s) (from-source : FromSource source s) where
  module _ (a : Segment) (agrees : Agrees source a) where
    next_says : (j b : ℕ) → next_known width s (piece_of a) j ≡ Some b → Says source j b
    next_says j b e =
        ⊎_elim (from-source.known j b) (λ h. agrees.bytes j b (cut_inside s.low (up_to s.fin (window_end width s)) (piece_of a) j b h).there)
        (learn_from (inner width s (piece_of a)) s.known j b e)

    after_from : (o : Outcome) → Done width words s a o → FromSource source (after width s a o)
    after_from _ (closed shut) = from-source
    after_from _ (word u found l) = record { known = from-source.known; finish = from-source.finish }
    after_from _ (empty u l none nofin) = from-source
    after_from _ (passes u l) =
        record {
          known = next_says;
          finish = λ f e. ⊎_elim (λ new. agrees.finish f (left_fits width words s sound a f new).there) (from-source.finish f) (or_either _ s.fin f e);
        }

    -- what would be a text with a word is a front of the source
    pub word-front : (w : WordCame width words s a) → FrontOf source (s.text ++ w.more)
    word-front w =
        front_of source (s.text ++ w.more)
        (λ j b e. ⊎_elim (from-source.known j b) (λ h. agrees.bytes j b (cut_inside s.low (up_to s.fin (window_end width s)) (piece_of a) j b h).there) (w.bytes j b e))

    -- a known FIN stands at the end of the source
    before_top : (fin : Option ℕ) → ((f : ℕ) → fin ≡ Some f → source.end ≡ Some f) → (j n : ℕ) → BeforeEnd source.end j → j < n → j < up_to fin n
    before_top None h j n e l = l
    before_top (Some f) h j n e l = let lt : j < f = subst (λ (x : Option ℕ). BeforeEnd x j) (h f refl) e in omega arith

    as_said : (j b : ℕ) → source.says j ≡ b → unwrap_or (s.known j) b ≡ b
    as_said j b e = go (s.known j) refl
      where
        go : (x : Option ℕ) → s.known j ≡ x → unwrap_or x b ≡ b
        go None h = refl
        go (Some d) h = sym (from-source.known j d h).0 ∙ e

    fin_fits_lem : (f : ℕ) → fin_at a ≡ Some f → s.low ≤ f → f < window_end width s → FinFits width s a f
    fin_fits_lem f e l u =
        record {
          there = e;
          above = l;
          below = u;
          no_other = λ h q. let p = from-source.finish h q in let r = agrees.finish f e in cc;
          last = λ j m. none_since _ (λ b h. let lt : j < f = subst (λ (x : Option ℕ). BeforeEnd x j) (agrees.finish f e) (next_says j b h).1 in omega arith);
        }

    pub goes_out_lem : GoesOut width s a (step width words s (Arrives a)).shut (passed_by width words s (Arrives a)) (fins_by width words s (Arrives a))
    goes_out_lem =
        record {
          bytes = λ up j b e l u.
              let said = agrees.bytes j b e in
              let out = on.all up j b e (record { above = l; below = before_top s.fin from-source.finish j (window_end width s) said.1 u }) in
              (out.0, out.1, out.2 ∙ ap Some (as_said j b said.0));
          finish = λ up f e l u. on.fin up f (fin_fits_lem f e l u);
        }
      where
        on : PassedOn width s a (step width words s (Arrives a)).shut (passed_by width words s (Arrives a)) (fins_by width words s (Arrives a))
        on = (next width words s sound).passed_on a

  step_from : (a : Arrival) → ((x : Segment) → a ≡ Arrives x → Agrees source x) → FromSource source (step width words s a)
  step_from (Arrives a) agrees = after_from a (agrees a refl) (outcome width words s a) (done width words s a)
  step_from (Acked i) agrees = acked_cases width words s (FromSource source) i from-source (λ _. record { known = from-source.known; finish = from-source.finish })

pub blank_from : (source : Source) → FromSource source blank
blank_from source = record { known = λ j b e. absurd (none-some refl e); finish = λ f e. absurd (none-some refl e) }

pub run_from : (width : ℕ) (words : List Text) (source : Source) (s : Stream) (arrivals : List Arrival) → Sound width words s → FromSource source s → Honest source arrivals →
    FromSource source (run width words s arrivals)
unfolding run
run_from width words source s [] sound h honest = h
run_from width words source s (a ∷ rest) sound h honest =
    run_from width words source (step width words s a) rest (step_sound width words s sound a)
    (step_from width words source s sound h a (λ x e. honest x (Memᴰ.head (sym e)))) (λ x m. honest x (Memᴰ.tail m))
