-- The promise for one stream.
-- Assumes nothing.
use Rattle.std.proofs.Common.{◌≡◌, ℕ, ◌<◌, true, false, List, ◌++◌, Some, sym, refl, subst, ⊎_elim}
use mathlib.Core.List.Memᴰ
use mathlib.Core.List.{Memᴰ}
use Rattle.std.specs.List.{slice_get}
use Rattle.std.proofs.lemmas.Bool.{cases_lt}
use Rattle.automaton.specs.Text.{Text, has, nonempty}
use Rattle.automaton.proofs.LookLaws.{has_first}
use Rattle.window.specs.Known.{Piece, byte_of}
use Rattle.window.proofs.PieceLaws.{none-some, Extends}
use Rattle.stream.specs.Stream.{Stream, blank}
use Rattle.stream.specs.Steps.{Arrival, Arrives, run, passed, fins}
use Rattle.stream.specs.Machine.{Given}
use Rattle.stream.specs.Promise.{Sound, FirstPart, Source, Honest, Unharmed, Kept, Promise}
use Rattle.stream.proofs.Machines.{machines_give}
use Rattle.stream.proofs.Sound.{blank_sound}
use Rattle.stream.proofs.Next.{next}
use Rattle.stream.proofs.Runs.{run_sound, passed_known, fins_known, known_first, run_shuts}
use Rattle.stream.proofs.Honest.{FromSource, front_of, blank_from, run_from, word-front, goes_out_lem}

module _ (width : ℕ) (words : List Text) (full : nonempty words ≡ true) (arrivals : List Arrival) where
  abbrev s : Stream
  s = run width words blank arrivals

  begins : Sound width words blank
  begins = blank_sound width words full

  sound : Sound width words s
  sound = run_sound width words blank arrivals begins

  known : (q : Piece) → Memᴰ q (passed width words blank arrivals) → Extends s.known (byte_of q)
  known = passed_known width words blank arrivals begins

  -- whatever is given out is known
  given_known : (t : Text) → Given (passed width words blank arrivals) t → (j b : ℕ) → slice_get t j ≡ Some b → s.known j ≡ Some b
  given_known t given j b e = let found = given j b e in known found.0 found.1 j b found.2

  one_text_lem : (t : Text) → Given (passed width words blank arrivals) t → FirstPart t s.text
  one_text_lem t given = known_first width words s sound t (given_known t given)

  fin_last_lem : (f : ℕ) → Memᴰ f (fins width words blank arrivals) → (q : Piece) → Memᴰ q (passed width words blank arrivals) → (j b : ℕ) → byte_of q j ≡ Some b → j < f
  fin_last_lem f m q n j b e =
      ⊎_elim (λ l. l) (λ l. absurd (none-some (sound.fin_last f j (fins_known width words blank arrivals begins f m) l) (known q n j b e))) (cases_lt j f)

  from : (source : Source) → Honest source arrivals → FromSource source s
  from source honest = run_from width words source blank arrivals begins (blank_from source) honest

  unharmed : (source : Source) → Honest source arrivals → Unharmed words source s (passed width words blank arrivals) (fins width words blank arrivals)
  unharmed source honest =
      record {
        text = front_of source s.text (λ j b e. (from source honest).known j b (sound.text_known j b e));
        says = λ q m j b e. (from source honest).known j b (known q m j b e);
        finish = λ f m. (from source honest).finish f (fins_known width words blank arrivals begins f m);
        given = λ t given. front_of source t (λ j b e. (from source honest).known j b (given_known t given j b e));
        shuts = λ h.
            let w = run_shuts width words blank arrivals begins refl h in
            let was = run width words blank w.before in
            let said : FromSource source was = run_from width words source blank w.before begins (blank_from source)
            (λ x m. honest x (subst (Memᴰ (Arrives x)) (sym w.splits) (Memᴰ.append_left _ m))) in
            let agrees = honest w.segment (subst (Memᴰ (Arrives w.segment)) (sym w.splits) (Memᴰ.append_right w.before (Memᴰ.head refl))) in (
              was.text ++ w.word.more,
              word-front width words source was (run_sound width words blank w.before begins) said w.segment agrees w.word,
              w.word.word,
            );
      }

  pub kept : Kept width words arrivals
  kept =
      record {
        one_text = record {
          agree = λ p q m n j b d e h. let x = known p m j b e in let y = known q n j d h in cc;
          one_fin = λ f h m n. let x = fins_known width words blank arrivals begins f m in let y = fins_known width words blank arrivals begins h n in cc;
          fin_last = fin_last_lem;
          given = one_text_lem;
          machines = λ m plays.
              let front = one_text_lem m.given (machines_give (passed width words blank arrivals) m plays) in
              (front, has_first words m.given front.0 (subst (λ (t : Text). has words t ≡ false) front.1 sound.clean));
        };
        sound = sound;
        shuts = run_shuts width words blank arrivals begins refl;
        next = next width words s sound;
        honest = unharmed;
        goes_out = λ source honest a agrees. goes_out_lem width words source s sound (from source honest) a agrees;
      }

pub promise : Promise
promise width words full arrivals = kept width words full arrivals
