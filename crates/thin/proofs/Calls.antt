-- Document 02, W12, as calls: the short list run from the same image.
use Prim.Native.Nat.{ℕ, ◌+◌, ◌-◌, ◌*◌, ◌≤◌}
use mathlib.Core.Path.{◌≡◌, refl, sym, ap, subst, ◌∙◌}
use mathlib.Core.List.{List, ◌++◌}
use native.Mathlib.Nat.{sub-zero}
use native.Mathlib.Omega.{arith}
use lib.ListN.{length, length-append}
use borrow.Author.Tests.{eq-eqb, ne_eqb}
use mathlib.Core.Bool.{not, false}
use Rattle.octets.specs.Bytes.{part, zeros}
use Rattle.octets.proofs.Put.{length_part, part_left, part-whole}
use Rattle.octets.proofs.Zero.{length-zeros}
use Rattle.rules.specs.Layout.{Layout}
use Rattle.rules.specs.State.{State}
use Rattle.rules.specs.Step.{step_bytes, is_refusal}
use Rattle.rules.specs.Pack.{unpack}
use Rattle.rules.specs.Calls.{steps_in, ran_image, ran_replies}
use Rattle.thin.specs.Thin.{chosen, outcome_at, kept_from, short_list, kept_count, thin_refusal, part_of, thin_out, thin_count, Thinned}
use Rattle.rules.proofs.Calls.Run.{Ran, part-fine, ran-0}
use Rattle.rules.proofs.Calls.Stored.{Accepted, accepted}
use Rattle.thin.proofs.Chosen.{length-chosen, counted-few}
use Rattle.thin.proofs.Packed.{short-image, short-ran, short-small}

ran-whole : {y : Layout} {img list : List ℕ} {start end : ℕ} {replies : List ℕ} → Accepted y img list start end replies
    → Ran y img list start end replies 0 (ran_image y img (part_of list start end)) (ran_replies y img (part_of list start end))
ran-whole {y} {img} {list} {start} {end} {replies} a =
    ran-0 y img list start end replies a.long (part-fine list start end a.forth a.within a.steps a.short) a.room _ _ (ap not a.formed) refl refl

pub length-short : (y : Layout) (s : State) (b : List ℕ) → length (short_list y s b) ≡ step_bytes * kept_count y s b
unfolding short_list kept_count
length-short y s b = length-chosen (kept_from y s b) b (steps_in b) (omega arith)

pub kept-few : (y : Layout) (s : State) (b : List ℕ) → step_bytes * kept_count y s b ≤ length b
unfolding kept_count
kept-few y s b = omega (arith, counted-few (kept_from y s b) (steps_in b))

module _ (y : Layout) (img list : List ℕ) (start end : ℕ) (out : List ℕ) where
  abbrev s : State
  s = unpack y img

  abbrev b : List ℕ
  b = part_of list start end

  abbrev short : List ℕ
  short = short_list y s b

  abbrev many : ℕ
  many = kept_count y s b

  abbrev padded : List ℕ
  padded = short ++ zeros (length b - length short)

  module _ (ok : thin_refusal y img list start end out ≡ 0) where
    out-is : thin_out y img list start end out ≡ padded
    unfolding thin_out
    out-is = rw (eq-eqb (thin_refusal y img list start end out) 0 ok)

    count-is : thin_count y img list start end out ≡ many
    unfolding thin_count
    count-is = rw (eq-eqb (thin_refusal y img list start end out) 0 ok)

    ac : Accepted y img list start end out
    ac = accepted y img list start end out ok

    b-long : length b ≡ end - start
    b-long = length_part start (end - start) list (omega (arith, ac.forth, ac.within))

    padded-long : length padded ≡ length b
    padded-long =
        let k : length short ≤ length b = omega (arith, length-short y s b, kept-few y s b) in
        length-append short (zeros (length b - length short)) ∙ ap (λ (n : ℕ). length short + n) (length-zeros (length b - length short)) ∙ omega arith

    front : part_of padded 0 (step_bytes * many) ≡ short
    front =
        ap (λ (n : ℕ). part 0 n padded) (sub-zero (step_bytes * many))
        ∙ part_left 0 (step_bytes * many) short (zeros (length b - length short)) (omega (arith, length-short y s b))
        ∙ part-whole (step_bytes * many) short (length-short y s b)

    -- the buffer keeps its length
    pub length-out : length (thin_out y img list start end out) ≡ length out
    length-out = ap length out-is ∙ padded-long ∙ b-long ∙ sym ac.room

    module _ (all few : List ℕ) (roomy : length all ≡ end - start) (room : length few ≡ step_bytes * thin_count y img list start end out) where
      whole : Accepted y img list start end all
      whole = record { long = ac.long; forth = ac.forth; within = ac.within; steps = ac.steps; short = ac.short; room = roomy; formed = ac.formed }

      briefly : Accepted y img padded 0 (step_bytes * many) few
      briefly = record {
        long = ac.long;
        forth = omega arith;
        within = omega (arith, padded-long, kept-few y s b);
        steps = omega arith;
        short = omega (arith, kept-few y s b, b-long, ac.short);
        room = room ∙ ap (λ (n : ℕ). step_bytes * n) count-is ∙ sym (sub-zero (step_bytes * many));
        formed = ac.formed;
      }

      -- Run from the same image, the short list gives the same final image, and each remaining step its earlier reply; none is refused.
      pub thinned : Thinned y img list start end all few (thin_out y img list start end out) (thin_count y img list start end out)
      thinned =
          let r = ran-whole whole in
          let q = ran-whole briefly in
          let count : steps_in short ≡ many = omega (arith, length-short y s b) in
          rw (out-is, count-is) (record {
            answer = sym q.0;
            image = sym q.1 ∙ ap (ran_image y img) front ∙ short-image y img b ∙ r.1;
            replies = sym q.2 ∙ ap (ran_replies y img) front ∙ short-ran y img b ∙ ap (chosen (kept_from y s b) (steps_in b)) r.2;
            accepted = λ j h. subst (λ (l : List ℕ). is_refusal (outcome_at y s l j) ≡ false) (sym front) (short-small y s b j (omega arith));
          })

  -- a refused pass leaves the buffer and answers 0
  pub untouched : (thin_refusal y img list start end out ≡ 0 → ⊥) → (thin_out y img list start end out ≡ out) × (thin_count y img list start end out ≡ 0)
  unfolding thin_out thin_count
  untouched n = (rw (ne_eqb (thin_refusal y img list start end out) 0 n), rw (ne_eqb (thin_refusal y img list start end out) 0 n))
