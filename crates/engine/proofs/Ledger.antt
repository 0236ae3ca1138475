-- Document 02, W11: "Its replies equal those of the ledger". By the definitions that the contracts of play, begin and run cite.
use Prim.Native.Nat.{ℕ, ◌-◌}
use mathlib.Core.Bool.{true, false, not}
use mathlib.Core.Path.{◌≡◌, refl, ap, sym, ◌∙◌, subst}
use mathlib.Core.List.{List}
use native.Mathlib.Omega.{arith}
use lib.Dec.{eqb}
use lib.ListN.{length}
use borrow.Author.Tests.{eq-eqb, eqb-true, not-false}
use Rattle.octets.specs.Bytes.{part}
use Rattle.octets.proofs.Put.{part-whole}
use Rattle.octets.proofs.Tests.{pick-zero}
use Rattle.rules.specs.Layout.{Layout, Limits, Fitting, in_range, image_bytes}
use Rattle.rules.specs.State.{fresh}
use Rattle.rules.specs.Form.{well_formed}
use Rattle.rules.specs.Calls.{begin_answer, begin_image, fresh_image, wrong_part, run_answer, ran_replies, run_replies}
use Rattle.rules.proofs.Calls.Begin.{right-length, begin-accepted}
use Rattle.rules.proofs.Form.Packed.{formed-pack}
use Rattle.rules.proofs.Keep.State.{well-fresh}
use Rattle.rules.proofs.Pack.Fresh.{pack-fresh}
use Rattle.rules.proofs.Pack.Sizes.{length-pack}
use Rattle.engine.specs.Play.{play_answer, play_replies}

-- play is not refused
record Plays (y : Layout) (m : Limits) (list replies : List ℕ) : Type 0 where
  fine : wrong_part list 0 (length list) ≡ false
  same : length replies ≡ length list
  range : in_range y m ≡ true

plays : (y : Layout) (m : Limits) (list replies : List ℕ) → play_answer y m list replies ≡ 0 → Plays y m list replies
unfolding play_answer
plays y m list replies e =
    let a = pick-zero (wrong_part list 0 (length list)) 17 _ (omega arith) e in
    let b = pick-zero (not (eqb (length replies) (length list))) 18 _ (omega arith) a.1 in
    let c = pick-zero (not (in_range y m)) 33 0 (omega arith) b.1 in
    record { fine = a.0; same = eqb-true (length replies) (length list) (not-false (eqb (length replies) (length list)) b.0); range = not-false (in_range y m) c.0 }

module _ (y : Layout) (z : Fitting y) (m : Limits) (list replies : List ℕ) (played : play_answer y m list replies ≡ 0) where
  abbrev p : Plays y m list replies
  p = plays y m list replies played

  long : length (fresh_image y m) ≡ image_bytes y
  long = ap length (pack-fresh y m) ∙ length-pack y (fresh y m)

  formed : well_formed y (fresh_image y m) ≡ true
  formed = ap (well_formed y) (pack-fresh y m) ∙ formed-pack y (fresh y m) (well-fresh z m p.range)

  all : length list - 0 ≡ length list
  all = omega arith

  run-accepted : run_answer y (fresh_image y m) list 0 (length list) replies ≡ 0
  unfolding run_answer
  run-accepted = rw (right-length y (fresh_image y m) long, p.fine, eq-eqb (length replies) (length list - 0) (p.same ∙ sym all), formed)

  run-replies : run_replies y (fresh_image y m) list 0 (length list) replies ≡ play_replies y m list replies
  unfolding run_replies play_replies
  run-replies = rw (eq-eqb (run_answer y (fresh_image y m) list 0 (length list) replies) 0 run-accepted, eq-eqb (play_answer y m list replies) 0 played)
      (ap (ran_replies y (fresh_image y m)) (ap (λ (n : ℕ). part 0 n list) all ∙ part-whole (length list) list refl))

  -- Where play answers 0: on every image on which a begin with these limits is accepted, the run of the whole list on the image that
  -- it leaves is accepted, and its replies are those of play.
  pub play-is-run : (img : List ℕ) → begin_answer y m img ≡ 0
      → (run_answer y (begin_image y m img) list 0 (length list) replies ≡ 0) × (run_replies y (begin_image y m img) list 0 (length list) replies ≡ play_replies y m list replies)
  play-is-run img e = subst (λ (i : List ℕ). (run_answer y i list 0 (length list) replies ≡ 0) × (run_replies y i list 0 (length list) replies ≡ play_replies y m list replies))
      (sym (begin-accepted y img m e).1) (run-accepted, run-replies)
