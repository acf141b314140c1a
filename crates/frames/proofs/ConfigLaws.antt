-- Reading the configuration: what the parts of the reader say of the whole. Assumes nothing.
use Rattle.std.proofs.Common.{◌≡◌, ℕ, ◌+◌, ◌-◌, ◌^◌, ◌<◌, ◌≤◌, length, take, drop, Ok, Err, Result, sym, ap, ◌∙◌, subst, arith}
use Rattle.std.proofs.lemmas.List.{length-drop, take_rest}
use Rattle.automaton.specs.Lists.{ReadList, word_list}
use Rattle.automaton.specs.ReadList.{Reads}
use Rattle.automaton.specs.declared.refusal.ListRefusal.{ListRefusal}
use Rattle.fault.specs.declared.Fault.{Fault}
use Rattle.fault.specs.declared.ReadError.{ReadError}
use Rattle.fault.specs.declared.ReadError.TheVariants as error
use Rattle.packet.specs.Bytes.{Bytes}
use Rattle.frames.specs.Items.{header}
use Rattle.fault.specs.Behind.{Behind}
use Rattle.frames.specs.Configs.{ReadsConfig, configuration, fault_of, refusal_of, with_header, with_list}
use Rattle.frames.specs.declared.refusal.Refusal.{Refusal}
use Rattle.frames.proofs.ListBounds.{Within, list_within}

-- the part of the bytes that the list is read from
abbrev pub rest : Bytes → Bytes
rest bs = take (length bs - 6) (drop 6 bs)

pub config_is : (bs : Bytes) (h : ℕ × ℕ) (l : Result ReadList (Fault ListRefusal)) → Ok h ≡ header bs → word_list (rest bs) ≡ l → configuration bs ≡ with_list h l
config_is bs h l e f = ap (λ (x : Result (ℕ × ℕ) Refusal). with_header x (word_list (drop 6 bs))) (sym e) ∙ ap (λ (t : Bytes). with_list h (word_list t)) (sym (take_rest bs 6)) ∙ ap (with_list h) f

pub taken_within : (bs : Bytes) (r : ReadList) → 6 ≤ length bs → word_list (rest bs) ≡ Ok r → 6 + r.taken ≤ length bs
taken_within bs r l e =
    let w : r.taken ≤ length (rest bs) = subst (Within (length (rest bs))) e (list_within (rest bs)) in
    let k : length (rest bs) ≡ length bs - 6 = ap length (take_rest bs 6) ∙ length-drop 6 bs in
    omega arith

-- the fault of a list is that of the whole, behind the header
same_fault : (f : Fault ListRefusal) (g : Fault Refusal) → g.refusal ≡ refusal_of f.refusal → g.at ≡ 6 + f.at → fault_of f ≡ g
same_fault f g a b = sym (ap (λ (x : Refusal). record { refusal = x; at = g.at }) a ∙ ap (λ (n : ℕ). record { refusal = refusal_of f.refusal; at = n }) b)

pub reads_behind : (bs : Bytes) (h : ℕ × ℕ) (e : ReadError ListRefusal) (g : ReadError Refusal) → Ok h ≡ header bs → 6 ≤ length bs → length bs < 2 ^ 64 →
    Reads (rest bs) (Err e) → Behind (λ why x. x ≡ refusal_of why) 6 e g → ReadsConfig bs (Err g)
reads_behind bs h error.Memory error.Memory p l m r b = tt
reads_behind bs h error.Memory (error.Fault g) p l m r b = absurd b
reads_behind bs h (error.Fault f) error.Memory p l m r b = absurd b
reads_behind bs h (error.Fault f) (error.Fault g) p l m r b =
    let w : f.at ≤ length (rest bs) = subst (Within (length (rest bs))) r (list_within (rest bs)) in
    let k : length (rest bs) ≡ length bs - 6 = ap length (take_rest bs 6) ∙ length-drop 6 bs in
    let e : g.at ≡ 6 + f.at = omega (arith, b.1) in
    config_is bs h (Err f) p r ∙ ap Err (same_fault f g b.0 e)
