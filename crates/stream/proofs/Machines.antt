-- Whatever a machine gives its program stands, byte by byte, in the pieces that came to it.
-- Assumes nothing.
use Rattle.std.proofs.Common.{◌≡◌, ℕ, Bool, true, false, List, length, Some, None, Option, refl, ⊎_elim}
use mathlib.Core.List.{Memᴰ}
use Rattle.std.proofs.lemmas.Bool.{cond_both}
use Rattle.window.specs.Known.{Piece, byte_of, onwards}
use Rattle.window.proofs.PieceLaws.{none-some, append_start, onwards_known}
use Rattle.stream.specs.Machine.{Machine, keep_or, Plays, starts, stores, forgets, gives, MachinesGive}

-- the byte stands at the place in one of the pieces
abbrev Stands : List Piece → ℕ → ℕ → Type 0
Stands ps j b = (p : Piece) × Memᴰ p ps × (byte_of p j ≡ Some b)

kept_from : (k : Bool) (x y : Option ℕ) (b : ℕ) (P : Type 0) → (x ≡ Some b → P) → (y ≡ Some b → P) → keep_or k x y ≡ Some b → P
kept_from k None y b P p q e = q e
kept_from k (Some c) None b P p q e = p e
kept_from true (Some c) (Some d) b P p q e = p e
kept_from false (Some c) (Some d) b P p q e = q e

stored : (ps : List Piece) (m : Machine) → Plays ps m → (j b : ℕ) → m.has j ≡ Some b → Stands ps j b
stored ps _ starts j b e = absurd (none-some refl e)
stored ps _ (stores {m} r p i keeps) j b e = kept_from (keeps j) (m.has j) (byte_of p j) b (Stands ps j b) (stored ps m r j b) (λ h. (p, i, h)) e
stored ps _ (forgets {m} r keeps) j b e =
    cond_both (keeps j) (m.has j) None (λ x. x ≡ Some b → Stands ps j b) (λ _. stored ps m r j b) (λ _ h. absurd (none-some refl h)) e
stored ps _ (gives {m} r n) j b e = stored ps m r j b e

pub machines_give : MachinesGive
machines_give ps _ starts i b e = absurd (none-some refl e)
machines_give ps _ (stores {m} r p h keeps) i b e = machines_give ps m r i b e
machines_give ps _ (forgets {m} r keeps) i b e = machines_give ps m r i b e
machines_give ps _ (gives {m} r n) i b e =
    ⊎_elim (machines_give ps m r i b) (λ h. stored ps m r i b (onwards_known n (length m.given) m.has i b h))
    (append_start m.given (onwards n (length m.given) m.has) i b e)
