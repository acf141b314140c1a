-- What was read from a part of the buffer stands in the buffer. Assumes nothing.
use Rattle.std.proofs.Common.{◌≡◌, ℕ, ◌+◌, ◌-◌, ◌<◌, ◌≤◌, ◌++◌, length, take, drop, Ok, vec_items, sym, ap, ◌∙◌, subst, arith}
use Rattle.std.specs.Vec.{with_items}
use Rattle.std.proofs.lemmas.List.{length-drop, length-take-le, with_items_is}
use Rattle.packet.specs.Bytes.{Bytes}
use Rattle.filter.specs.Verdict.{Comes}
use Rattle.frames.specs.Items.{ReadsItem, Placed, event_of, item}
use Rattle.frames.specs.Buffer.{Inside, pending, placed}
use Rattle.frames.specs.Configs.{ReadsConfig, configuration, settings_of}
use Rattle.frames.specs.declared.config.Config.{Config}
use Rattle.frames.specs.declared.item.Item.{Item}
use Rattle.frames.specs.declared.item.Item.TheVariants.{Packet, Ticks}
use Rattle.frames.specs.declared.input.Input.{Input}
use Rattle.frames.proofs.BufferLaws.{grown_part, length_part, part_part, part_rest}

pub record Took (xs : Bytes) (a e n : ℕ) (it : Item) : Type 0 where
  pub reads : item (take (e - a) (drop a xs)) ≡ Ok (record { event = event_of xs it; taken = n })
  pub placed : Placed a n it
  pub inside : Inside xs it
  pub some : 0 < n
  pub within : n ≤ length (take (e - a) (drop a xs))
  pub fewer : e - (a + n) < e - a
  pub left : take (e - (a + n)) (drop (a + n) xs) ≡ drop n (take (e - a) (drop a xs))

module _ (xs : Bytes) (a e : ℕ) (forward : a ≤ e) (within : e ≤ length xs) where
  took_placed : (it : Item) (n : ℕ) → ReadsItem item (take (e - a) (drop a xs)) (Ok (it, n)) → Took xs a e n (placed a it)
  took_placed (Packet side start end) n r =
      let l = length_part xs a e forward within in
      let p = r.1 in
      let q : take ((a + end) - (a + start)) (drop (a + start) xs) ≡ take (end - start) (drop start (take (e - a) (drop a xs))) = part_part xs a e forward within start end p.2 (omega (arith, r.3, p.1)) in
      record {
        reads = r.0 ∙ ap (λ (t : Bytes). Ok (record { event = Comes side t; taken = n })) (sym q);
        placed = (omega (arith, p.0), omega (arith, p.1), omega (arith, p.2));
        inside = (omega (arith, p.2), omega (arith, r.3, p.1));
        some = r.2;
        within = r.3;
        fewer = omega (arith, r.2, r.3);
        left = part_rest xs a e forward within n (omega (arith, r.3));
      }
  took_placed (Ticks t) n r =
      let l = length_part xs a e forward within in
      record {
        reads = r.0;
        placed = tt;
        inside = tt;
        some = r.2;
        within = r.3;
        fewer = omega (arith, r.2, r.3);
        left = part_rest xs a e forward within n (omega (arith, r.3));
      }

  pub took : (ys : Bytes) (it jt : Item) (n : ℕ) → ys ≡ xs → jt ≡ placed a it → ReadsItem item (take (e - a) (drop a ys)) (Ok (it, n)) → Took xs a e n jt
  took ys it jt n same at r = subst (λ (j : Item). Took xs a e n j) (sym at) (took_placed it n (subst (λ (zs : Bytes). ReadsItem item (take (e - a) (drop a zs)) (Ok (it, n))) same r))

  pub took_config : (ys : Bytes) (c : Config) (n : ℕ) → ys ≡ xs → ReadsConfig (take (e - a) (drop a ys)) (Ok (c, n)) →
      (configuration (take (e - a) (drop a xs)) ≡ Ok (record { settings = settings_of c; taken = n })) × (n ≤ length (take (e - a) (drop a xs))) × (take (e - (a + n)) (drop (a + n) xs) ≡ drop n (take (e - a) (drop a xs)))
  took_config ys c n same r =
      let s = subst (λ (zs : Bytes). ReadsConfig (take (e - a) (drop a zs)) (Ok (c, n))) same r in
      let l = length_part xs a e forward within in
      (s.0, s.1, part_rest xs a e forward within n (omega (arith, s.1)))

-- the buffer was lent as a slice: what is not read yet is still within it
pub lent_within : (i : Input) (ds ws : Bytes) → ds ≡ vec_items i.buffer → length ws ≡ length ds → i.end ≤ length (vec_items (with_items i.buffer ws))
lent_within i ds ws lent long =
    let s : length (vec_items (with_items i.buffer ws)) ≡ length (vec_items i.buffer) = ap length (with_items_is i.buffer ws (long ∙ ap length lent ∙ sym i.buffer.ok.0)) ∙ long ∙ ap length lent in
    omega (arith, i.within)

-- reading into a buffer of which a Vec is lent as a slice
module _ (v : Input) (ds ws : Bytes) (lent : ds ≡ vec_items v.buffer) (long : length ws ≡ length ds) (same : take v.end ws ≡ take v.end ds) where
  abbrev now_there : Bytes
  now_there = vec_items (with_items v.buffer ws)

  there_is : now_there ≡ ws
  there_is = with_items_is v.buffer ws (long ∙ ap length lent ∙ sym v.buffer.ok.0)

  front_same : take v.end ws ≡ take v.end (vec_items v.buffer)
  front_same = same ∙ ap (take v.end) lent

  pub size_there : length now_there ≡ length (vec_items v.buffer)
  size_there = ap length there_is ∙ long ∙ ap length lent

  pub filled_some : (n : ℕ) → v.end + n ≤ length ds → take (v.end + n - v.start) (drop v.start now_there) ≡ pending v ++ take n (drop v.end ws)
  filled_some n l =
      ap (λ t. take (v.end + n - v.start) (drop v.start t)) there_is
      ∙ grown_part (vec_items v.buffer) v.start v.end v.forward v.within ws n front_same (omega arith)

  pub filled_long : (n : ℕ) → v.end + n ≤ length ds → length (take n (drop v.end ws)) ≡ n
  filled_long n l = let d = length-drop v.end ws in length-take-le n (drop v.end ws) (omega arith)
