-- All steps at the level of definitions: what the engine holds after i of them, and that they can be walked back over.
use Prim.Native.Nat.{ℕ, zero, suc, ◌+◌, ◌*◌, ◌≤◌, ◌<◌}
use mathlib.Core.Bool.{true}
use mathlib.Core.Path.{◌≡◌, refl, ap, sym, ◌∙◌, subst}
use mathlib.Core.List.{List, ◌++◌}
use mathlib.Core.Logic.{⊎_elim}
use native.Mathlib.Omega.{arith}
use lib.ListN.{length, drop, length-append}
use Rattle.octets.specs.Bytes.{put, part, Octets}
use Rattle.octets.proofs.Put.{put-def, part_left, part_right, part-whole}
use Rattle.octets.proofs.Chunks.{sides}
use Rattle.rules.specs.Layout.{Limits, base, in_range}
use Rattle.rules.specs.declared.Reply.{Reply}
use Rattle.rules.specs.Step.{step_bytes, step_at, pack_reply, told, unpack_told}
use Rattle.rules.specs.Refusals.{group_bits}
use Rattle.rules.proofs.Keep.Kinds.{ReplyOk}
use Rattle.rules.proofs.Keep.Run.{step_ok-at}
use Rattle.rules.proofs.Keep.Step.{fitting-base}
use Rattle.rules.proofs.Ranges.{in-range-exactly}
use Rattle.session.proofs.Run.{length-pack_reply}
use Rattle.rules.specs.declared.Told.{Told}
use Rattle.engine_tables.specs.Internal.Tables.{Tables, Played}
use Rattle.engine_chains.specs.Internal.Walk.{Walk, walk_back, receipt_start, sign_start}
use Rattle.engine_chains.specs.Internal.Walk.{told_in, Walkable, sign_walk}
use Rattle.engine_replies.specs.Internal.Engine.{receipt_walk, ready_in, play_step, Engine, engine_after}
use Rattle.engine_chains.proofs.Walks.{walk-replies}
use Rattle.engine_replies.proofs.Engine.{told-packed, replies-fit-bytes}
use Rattle.engine_tables.specs.Internal.Places.{most}
use Rattle.engine.proofs.Ranges.{Ranged, Fine, ranged-fresh, ranged-step}

-- ---- replies in a longer list

pub told-left : (l k : List ℕ) (j : ℕ) → step_bytes * j + step_bytes ≤ length l → told_in (l ++ k) j ≡ told_in l j
unfolding told_in
told-left l k j h = ap unpack_told (part_left (step_bytes * j) step_bytes l k h)

told-put : (l k : List ℕ) (j : ℕ) → step_bytes * j + step_bytes ≤ length l → told_in (put 0 l k) j ≡ told_in l j
told-put l k j h = ap (λ (b : List ℕ). told_in b j) (put-def 0 l k) ∙ told-left l (drop (0 + length l) k) j h

pub told-last : (l : List ℕ) (r : Reply) (j : ℕ) → length l ≡ step_bytes * j → ReplyOk r → told_in (l ++ pack_reply r) j ≡ told r
unfolding told_in
told-last l r j e ok =
    let z : step_bytes * j ≡ length l + 0 = omega arith in
    ap unpack_told (ap (λ (n : ℕ). part n step_bytes (l ++ pack_reply r)) z ∙ part_right 0 step_bytes l (pack_reply r) ∙ part-whole step_bytes (pack_reply r) (length-pack_reply r)) ∙ told-packed r ok

module _ (m : Limits) (range : in_range base m ≡ true) (steps : List ℕ) (octets : Octets steps) where
  abbrev x : ℕ → Engine
  x = engine_after base m steps

  abbrev played : ℕ → Played
  played i = play_step base steps (x i).replies i (x i).tables

  fine : (i : ℕ) → Ranged m i (x i).tables → Fine m i (played i)
  unfolding play_step
  fine i r = ranged-step r base (step_at steps i) (step_ok-at steps octets i) ((in-range-exactly m).0 range).transactors.1 _ _ _

  pub ranged : (i : ℕ) → Ranged m i (engine_after base m steps i).tables
  unfolding engine_after
  ranged zero = ranged-fresh m
  ranged (suc i) = (fine i (ranged i)).tables

  pub replies-long : (i : ℕ) → length (engine_after base m steps i).replies ≡ step_bytes * i
  unfolding engine_after
  replies-long zero = refl
  replies-long (suc i) = length-append (x i).replies (pack_reply (played i).reply) ∙ omega-sum (replies-long i) (length-pack_reply (played i).reply)
    where
      omega-sum : {a b : ℕ} → a ≡ step_bytes * i → b ≡ step_bytes → a + b ≡ step_bytes * suc i
      omega-sum e f = omega arith

  -- what each reply names
  within : (i : ℕ) → i ≤ most → (j : ℕ) → j < i → ((told_in (x i).replies j).transactor < group_bits) × ((told_in (x i).replies j).message < most)
  unfolding engine_after
  within zero h j k = absurd (omega arith)
  within (suc i) h j k = ⊎_elim
      (λ (q : j < i). subst (λ (w : Told). (w.transactor < group_bits) × (w.message < most)) (sym (told-left (x i).replies (pack_reply (played i).reply) j (omega (arith, replies-long i)))) (within i (omega arith) j q))
      (λ (q : i ≤ j).
      let e : i ≡ j = omega arith in
      let f = fine i (ranged i) in
      subst (λ (j : ℕ). ((told_in ((x i).replies ++ pack_reply (played i).reply) j).transactor < group_bits) × ((told_in ((x i).replies ++ pack_reply (played i).reply) j).message < most)) e
      (subst (λ (w : Told). (w.transactor < group_bits) × (w.message < most)) (sym (told-last (x i).replies (played i).reply i (replies-long i) (replies-fit-bytes base m fitting-base range steps octets i)))
      (f.transactor, omega (arith, f.message))))
      (sides j i)

  -- ---- the replies so far, put in front of others

  module _ (i : ℕ) (start replies : List ℕ) (so_far : replies ≡ put 0 (engine_after base m steps i).replies start) where
    same-told : (j : ℕ) → j < i → told_in replies j ≡ told_in (x i).replies j
    same-told j h = ap (λ (b : List ℕ). told_in b j) so_far ∙ told-put (x i).replies start j (omega (arith, replies-long i))

    pub walkable : i ≤ most → step_bytes * i ≤ length steps → step_bytes * i ≤ length replies → Walkable steps replies i
    walkable h a b = record {
      listed = a;
      replied = b;
      within = λ j k. subst (λ (w : Told). (w.transactor < group_bits) × (w.message < most)) (sym (same-told j k)) (within i h j k);
    }

    walk_same : (w : Walk) → walk_back steps (told_in replies) i w ≡ walk_back steps (told_in (x i).replies) i w
    walk_same = walk-replies steps (told_in replies) (told_in (x i).replies) i same-told

    pub receipt-same : (T : Tables) (n : ℕ) → receipt_walk T steps replies i n ≡ receipt_walk T steps (engine_after base m steps i).replies i n
    unfolding receipt_walk
    receipt-same T n = walk_same (receipt_start n (T.messages n).addressee)

    pub step_same : (T : Tables) → play_step base steps replies i T ≡ play_step base steps (engine_after base m steps i).replies i T
    unfolding play_step receipt_walk ready_in sign_walk
    step_same T = rw (walk_same (receipt_start (step_at steps i).message (T.messages (step_at steps i).message).addressee), walk_same (sign_start (step_at steps i).message))
