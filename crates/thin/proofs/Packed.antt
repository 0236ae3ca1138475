-- Document 02, W12, on packed lists: the short list leaves the same image, each remaining step has its earlier reply, and no step of it is refused.
use Prim.Native.Nat.{ℕ, zero, suc, ◌+◌, ◌-◌, ◌*◌, ◌<◌}
use mathlib.Core.Bool.{Bool, true, false, not}
use mathlib.Core.Path.{◌≡◌, refl, sym, ap, subst, ◌∙◌}
use mathlib.Core.List.{List, [], ◌∷◌, map}
use native.Mathlib.Nat.{zero-add, suc-add, add-suc, add-zero}
use native.Mathlib.Omega.{arith}
use lib.ListN.{length, get_or}
use lib.Dec.{eqb}
use borrow.Author.Tests.{not-true}
use Rattle.octets.specs.Bytes.{pick, ◌and◌, part, chunks}
use Rattle.rules.specs.Layout.{Layout}
use Rattle.rules.specs.State.{State}
use Rattle.rules.specs.declared.Step.{Step}
use Rattle.rules.specs.declared.Reply.{Reply}
use Rattle.rules.specs.Step.{step_bytes, unpack_step, step_at, pack_reply, is_refusal, read}
use Rattle.rules.specs.Pack.{pack, unpack}
use Rattle.rules.specs.Calls.{steps_in, state_after, reply_at, ran_image, ran_replies}
use Rattle.rules.proofs.Replies.{length-pack_reply}
use Rattle.rules.proofs.Keep.Run.{after-zero}
use Rattle.thin.specs.Thin.{not_refused, touches, empties, emptied_from, unused, kept, chosen, outcome_at, short_list}
use Rattle.thin.proofs.Steps.{final_state, replies_to, emptied_next, unused_next, kept_of, filtered, reply_to}
use Rattle.thin.proofs.Chosen.{chosen-chunks}
use Rattle.thin.proofs.Alike.{related-self}
use Rattle.thin.proofs.Lists.{Thin, thin}
use Rattle.thin.proofs.Rows.{from, flat, map-from, length_from, get_or-from, filtered-map, flat-filtered, chunks-flat, Steps, steps-filtered, steps-parts, length-flat, steps-flat}

-- ---- a packed list as a list of steps

module _ (y : Layout) (s : State) (b : List ℕ) where
  pub run-from : (n i : ℕ) → final_state y (state_after y s b i) (from (step_at b) i n) ≡ state_after y s b (i + n)
  unfolding final_state state_after from
  run-from zero i = rw add-zero
  run-from (suc n) i = run-from n (suc i) ∙ ap (state_after y s b) (suc-add i n ∙ sym (add-suc i n))

  pub replies-from : (n i : ℕ) → replies_to y (state_after y s b i) (from (step_at b) i n) ≡ from (reply_to y s b) i n
  unfolding replies_to state_after from reply_to
  replies-from zero i = refl
  replies-from (suc n) i = ap {B = List Reply} (λ (l : List Reply). reply_to y s b i ∷ l) (replies-from n (suc i))

  pub emptied-from : (t n i : ℕ) → emptied_next y (state_after y s b i) (from (step_at b) i n) t ≡ emptied_from b (outcome_at y s b) t i n
  unfolding emptied_next state_after from outcome_at emptied_from
  emptied-from t zero i = refl
  emptied-from t (suc n) i = ap (λ (c : Bool). pick (touches (step_at b i) (outcome_at y s b i) t) (empties (step_at b i) (outcome_at y s b i)) c) (emptied-from t n (suc i))

  pub kept-from : (e n i : ℕ) → i + n ≡ e → kept_of y (state_after y s b i) (from (step_at b) i n) ≡ from (kept b (outcome_at y s b) e) i n
  unfolding kept_of unused_next state_after from outcome_at kept unused
  kept-from e zero i h = refl
  kept-from e (suc n) i h =
      let k : n ≡ e - suc i = omega arith in
      let t : ℕ = (step_at b i).transactor in
      let f : emptied_next y (state_after y s b (suc i)) (from (step_at b) (suc i) n) t ≡ emptied_from b (outcome_at y s b) t (suc i) (e - suc i) =
      emptied-from t n (suc i) ∙ ap (emptied_from b (outcome_at y s b) t (suc i)) k in
      λ j. (not_refused (outcome_at y s b i) and not (eqb (step_at b i).kind read and f j)) ∷ kept-from e n (suc i) (omega arith) j

-- ---- the short list

module _ (y : Layout) (s : State) (b : List ℕ) where
  abbrev N : ℕ
  N = steps_in b

  -- which stand, the bytes of each, the steps
  abbrev flags : List Bool
  flags = from (kept b (outcome_at y s b) N) 0 N

  abbrev parts : List (List ℕ)
  parts = from (λ k. part (step_bytes * k) step_bytes b) 0 N

  abbrev listed : List Step
  listed = from (step_at b) 0 N

  abbrev short : List ℕ
  short = short_list y s b

  short-flat : short ≡ flat (filtered flags parts)
  unfolding short_list chosen
  short-flat = chunks-flat N (λ i. pick (kept b (outcome_at y s b) N i) (part (step_bytes * i) step_bytes b) []) ∙ sym (flat-filtered (kept b (outcome_at y s b) N) (λ k. part (step_bytes * k) step_bytes b) N 0)

  widths : Steps (filtered flags parts)
  widths = steps-filtered flags (steps-parts b N 0 (omega arith))

  pub short-length : length short ≡ step_bytes * length (filtered flags parts)
  short-length = ap length short-flat ∙ length-flat widths

  short-count : steps_in short ≡ length (filtered flags parts)
  short-count = omega (arith, short-length)

  parts-steps : map unpack_step parts ≡ listed
  unfolding step_at
  parts-steps = map-from unpack_step (λ k. part (step_bytes * k) step_bytes b) 0 N

  short-steps : from (step_at short) 0 (steps_in short) ≡ filtered flags listed
  short-steps =
      ap (λ (n : ℕ). from (step_at short) 0 n) short-count
      ∙ ap (λ (l : List ℕ). from (step_at l) 0 (length (filtered flags parts))) short-flat
      ∙ steps-flat widths
      ∙ filtered-map unpack_step flags parts
      ∙ ap (filtered flags) parts-steps

  flags-are : kept_of y s listed ≡ flags
  flags-are = ap (λ (x : State). kept_of y x listed) (sym (after-zero y s b)) ∙ kept-from y s b N N 0 (zero-add N)

  thin-listed : Thin y s s listed
  thin-listed = thin y listed s s (related-self (emptied_next y s listed) s)

  run-all : (l : List ℕ) → final_state y s (from (step_at l) 0 (steps_in l)) ≡ state_after y s l (steps_in l)
  unfolding state_after
  run-all l = run-from y s l (steps_in l) 0 ∙ ap (state_after y s l) (zero-add (steps_in l))

  replies-all : (l : List ℕ) → replies_to y s (from (step_at l) 0 (steps_in l)) ≡ from (reply_to y s l) 0 (steps_in l)
  unfolding state_after
  replies-all l = replies-from y s l (steps_in l) 0

  -- the same state
  pub short-state : state_after y s short (steps_in short) ≡ state_after y s b (steps_in b)
  short-state =
      sym (run-all short)
      ∙ ap (final_state y s) (short-steps ∙ ap (λ (c : List Bool). filtered c listed) (sym flags-are))
      ∙ thin-listed.state
      ∙ run-all b

  -- the earlier replies
  pub short-replies : from (reply_to y s short) 0 (steps_in short) ≡ filtered flags (from (reply_to y s b) 0 N)
  short-replies =
      sym (replies-all short)
      ∙ ap (replies_to y s) (short-steps ∙ ap (λ (c : List Bool). filtered c listed) (sym flags-are))
      ∙ thin-listed.replies
      ∙ ap (λ (c : List Bool). filtered c (replies_to y s listed)) flags-are
      ∙ ap (filtered flags) (replies-all b)

  packed-replies : (l : List ℕ) → chunks (steps_in l) (reply_at y s l) ≡ flat (map pack_reply (from (reply_to y s l) 0 (steps_in l)))
  unfolding reply_at reply_to
  packed-replies l = chunks-flat (steps_in l) (reply_at y s l) ∙ ap flat (sym (map-from pack_reply (reply_to y s l) 0 (steps_in l)))

  pub short-packed : chunks (steps_in short) (reply_at y s short) ≡ chunks (steps_in b) (λ i. pick (kept b (outcome_at y s b) (steps_in b) i) (reply_at y s b i) [])
  unfolding reply_at reply_to
  short-packed =
      packed-replies short
      ∙ ap (λ (l : List Reply). flat (map pack_reply l)) short-replies
      ∙ ap flat (filtered-map pack_reply flags (from (reply_to y s b) 0 N) ∙ ap (filtered flags) (map-from pack_reply (reply_to y s b) 0 N))
      ∙ flat-filtered (kept b (outcome_at y s b) N) (reply_at y s b) N 0
      ∙ sym (chunks-flat N (λ i. pick (kept b (outcome_at y s b) N i) (reply_at y s b i) []))

-- ---- images

-- Run from the same image, the short list gives the same final image, and each remaining step its earlier reply.
pub short-image : (y : Layout) (img b : List ℕ) → ran_image y img (short_list y (unpack y img) b) ≡ ran_image y img b
unfolding ran_image
short-image y img b = ap (pack y) (short-state y (unpack y img) b)

pub short-ran : (y : Layout) (img b : List ℕ)
    → ran_replies y img (short_list y (unpack y img) b) ≡ chosen (kept b (outcome_at y (unpack y img) b) (steps_in b)) (steps_in b) (ran_replies y img b)
unfolding ran_replies reply_at
short-ran y img b = short-packed y (unpack y img) b ∙ sym (chosen-chunks (kept b (outcome_at y (unpack y img) b) (steps_in b)) (reply_at y (unpack y img) b) (λ i. length-pack_reply _) (steps_in b))

-- ---- a second pass

data Small : List Reply → Type 0 where
  empty : Small []
  next : {r : Reply} {rs : List Reply} → is_refusal r.outcome ≡ false → Small rs → Small (r ∷ rs)

small_at : {rs : List Reply} → Small rs → (d : Reply) (j : ℕ) → j < length rs → is_refusal (get_or rs j d).outcome ≡ false
small_at empty d j h = absurd (omega arith)
small_at (next e w) d zero h = e
small_at (next e w) d (suc j) h = small_at w d j (omega arith)

small-filtered : (g : ℕ → Bool) (f : ℕ → Reply) → ((k : ℕ) → g k ≡ true → is_refusal (f k).outcome ≡ false) → (n i : ℕ) → Small (filtered (from g i n) (from f i n))
unfolding filtered from
small-filtered g f h zero i = empty
small-filtered g f h (suc n) i = go (g i) refl (small-filtered g f h n (suc i))
  where
    go : (c : Bool) → g i ≡ c → Small (filtered (from g (suc i) n) (from f (suc i) n)) → Small (pick c (f i ∷ filtered (from g (suc i) n) (from f (suc i) n)) (filtered (from g (suc i) n) (from f (suc i) n)))
    go true e w = next (h i e) w
    go false e w = w

module _ (y : Layout) (s : State) (b : List ℕ) where
  pub kept_small : (n k : ℕ) → kept b (outcome_at y s b) n k ≡ true → is_refusal (reply_to y s b k).outcome ≡ false
  unfolding kept not_refused outcome_at reply_to
  kept_small n k e = not-true _ (first (not (is_refusal (outcome_at y s b k))) _ e)
    where
      first : (c d : Bool) → c and d ≡ true → c ≡ true
      first true d e = refl
      first false d e = e

  -- No step of the short list is refused.
  pub short-small : (j : ℕ) → j < steps_in (short_list y s b) → is_refusal (outcome_at y s (short_list y s b) j) ≡ false
  unfolding outcome_at reply_to
  short-small j h =
      let l : List ℕ = short_list y s b in
      let d : Reply = reply_to y s l 0 in
      let w : Small (from (reply_to y s l) 0 (steps_in l)) = rw (short-replies y s b) (small-filtered (kept b (outcome_at y s b) (steps_in b)) (reply_to y s b) (kept_small (steps_in b)) (steps_in b) 0) in
      let e : get_or (from (reply_to y s l) 0 (steps_in l)) j d ≡ reply_to y s l j = get_or-from (reply_to y s l) d (steps_in l) 0 j h ∙ ap (reply_to y s l) (zero-add j) in
      subst (λ (r : Reply). is_refusal r.outcome ≡ false) e (small_at w d j (rw length_from h))
