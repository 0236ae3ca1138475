-- Document 02, W8, on images: a run in which two steps of kinds 5 to 10 on different takes have changed places.
use Prim.Native.Nat.{ℕ, ◌+◌, ◌-◌, ◌*◌, ◌/◌, ◌%◌, ◌≤◌, ◌<◌}
use mathlib.Core.Bool.{Bool, true, false}
use mathlib.Core.Path.{◌≡◌, refl, sym, ap, ◌∙◌, subst}
use mathlib.Core.List.{List, [], ◌++◌, append_assoc, append-nil}
use mathlib.Core.Logic.{⊎_elim}
use native.Mathlib.Nat.{zero-add}
use native.Mathlib.Omega.{arith}
use borrow.Author.Tests.{eqb-true}
use lib.Dec.{eqb}
use lib.ListN.{length, take, drop, length-append, length-drop, take-append-drop, drop_of_length-le}
use lib.Seq.{take_all, length-take-le}
use Rattle.octets.specs.Bytes.{put, part, chunks}
use Rattle.octets.proofs.Put.{put-def, part-def, length_part, length-put, put-part, put-left, put_right, put-mid, part_left, part_right, part-part, part-add, part-whole}
use Rattle.octets.proofs.Chunks.{sides, length-chunks}
use Rattle.rules.specs.Layout.{Layout}
use Rattle.rules.specs.State.{State}
use Rattle.rules.specs.Step.{Step, Reply, step_bytes, unpack_step, step_at, pack_reply}
use Rattle.rules.specs.Rules.{step_of}
use Rattle.rules.specs.Pack.{pack, unpack}
use Rattle.rules.specs.Calls.{steps_in, state_after, reply_at, wrong_part, run_answer, ran_image, ran_replies, run_image, run_replies}
use Rattle.rules.specs.Exchange.{EditsApart, Exchanged, exchanged_at, PairExchanged, RunExchanged}
use Rattle.rules.proofs.Keep.Run.{after-left, after-append, replies-append}
use Rattle.rules.proofs.Calls.Stored.{Accepted, accepted}
use Rattle.rules.proofs.Exchange.Steps.{exchanged}
use Rattle.rules.proofs.Replies.{length-pack_reply}

-- ---- two places of a list exchanged

pub exchanged-def : (k : ℕ) (b : List ℕ) → exchanged_at k b ≡ put k (part (k + step_bytes) step_bytes b ++ part k step_bytes b) b
unfolding exchanged_at
exchanged-def k b = refl

-- p and q of eight bytes each, between l and r
exchanged-mid : (k : ℕ) (l p q r : List ℕ) → length l ≡ k → length p ≡ step_bytes → length q ≡ step_bytes
    → exchanged_at k (l ++ (p ++ q) ++ r) ≡ l ++ (q ++ p) ++ r
exchanged-mid k l p q r hl hp hq =
    let two : length (q ++ p) ≡ length (p ++ q) = rw (length-append q p, length-append p q) (omega arith) in
    let long : k + step_bytes + step_bytes ≤ length (l ++ (p ++ q)) = rw (length-append l (p ++ q), length-append p q) (omega arith) in
    let a : k + step_bytes ≡ length l + (length p + 0) = omega arith in
    let b : k ≡ length l + 0 = omega arith in
    let second : part (k + step_bytes) step_bytes (l ++ (p ++ q) ++ r) ≡ q =
    part_left (k + step_bytes) step_bytes (l ++ (p ++ q)) r long
    ∙ ap (λ (n : ℕ). part n step_bytes (l ++ (p ++ q))) a
    ∙ part_right (length p + 0) step_bytes l (p ++ q) ∙ part_right 0 step_bytes p q ∙ part-whole step_bytes q hq in
    let first : part k step_bytes (l ++ (p ++ q) ++ r) ≡ p =
    part_left k step_bytes (l ++ (p ++ q)) r (omega arith)
    ∙ ap (λ (n : ℕ). part n step_bytes (l ++ (p ++ q))) b
    ∙ part_right 0 step_bytes l (p ++ q) ∙ part_left 0 step_bytes p q (omega arith) ∙ part-whole step_bytes p hp in
    exchanged-def k (l ++ (p ++ q) ++ r) ∙ rw (second, first) (put-mid k (q ++ p) l (p ++ q) r hl two)

length-same : (k : ℕ) (bs cs l : List ℕ) → length bs ≡ length cs → length (put k bs l) ≡ length (put k cs l)
length-same k bs cs l e = rw (put-def k bs l, put-def k cs l, e) (rw (length-append, length-append, length-append, length-append, e))

-- what stands there put again, whether there is enough of it or not
put-again : (k n : ℕ) (l : List ℕ) → put k (part k n l) l ≡ l
put-again k n l = ⊎_elim short (λ (h : k + n ≤ length l). sym (put-part k n l h)) (sides (length l) (k + n))
  where
    short : length l < k + n → put k (part k n l) l ≡ l
    short h =
        let all : part k n l ≡ drop k l = part-def k n l ∙ take_all n (drop k l) (rw length-drop (omega arith)) in
        let none : drop (k + length (drop k l)) l ≡ [] = drop_of_length-le l {i = k + length (drop k l)} (rw length-drop (omega arith)) in
        rw (all, put-def, none, append-nil, take-append-drop)

pub length_exchanged : (k : ℕ) (b : List ℕ) → length (exchanged_at k b) ≡ length b
length_exchanged k b =
    let p : List ℕ = part k step_bytes b in
    let q : List ℕ = part (k + step_bytes) step_bytes b in
    let turned : length (q ++ p) ≡ length (p ++ q) = rw (length-append q p, length-append p q) (omega arith) in
    ap length (exchanged-def k b)
    ∙ length-same k (q ++ p) (p ++ q) b turned
    ∙ ap (λ (x : List ℕ). length (put k x b)) (sym (part-add k step_bytes step_bytes b))
    ∙ ap length (put-again k (step_bytes + step_bytes) b)

-- a part of which a place is put anew
part-put-in : (at n k : ℕ) (bs l : List ℕ) → k + length bs ≤ n → at + n ≤ length l → part at n (put (at + k) bs l) ≡ put k bs (part at n l)
part-put-in at n k bs l h w =
    let a : List ℕ = take at l in
    let b : List ℕ = part at n l in
    let c : List ℕ = drop n (drop at l) in
    let split : a ++ (b ++ c) ≡ l = rw (part-def, take-append-drop, take-append-drop) in
    let ha : length a ≡ at = length-take-le at l (omega arith) in
    let hb : length b ≡ n = length_part at n l w in
    let fits : k + length bs ≤ length b = omega arith in
    let hp : length (put k bs b) ≡ n = length-put k bs b fits ∙ hb in
    let e : put (at + k) bs l ≡ a ++ (put k bs b ++ c) =
    ap (λ (x : List ℕ). put (at + k) bs x) (sym split)
    ∙ ap (λ (x : ℕ). put (x + k) bs (a ++ (b ++ c))) (sym ha)
    ∙ put_right k bs a (b ++ c)
    ∙ ap {B = List ℕ} (λ (x : List ℕ). a ++ x) (put-left k bs b c fits) in
    let at_a : at ≡ length a + 0 = omega arith in
    ap (part at n) e
    ∙ ap (λ (x : ℕ). part x n (a ++ (put k bs b ++ c))) at_a
    ∙ part_right 0 n a (put k bs b ++ c)
    ∙ part_left 0 n (put k bs b) c (omega arith)
    ∙ part-whole n (put k bs b) hp

pub part-exchanged : (start n k : ℕ) (list : List ℕ) → k + step_bytes + step_bytes ≤ n → start + n ≤ length list
    → part start n (exchanged_at (start + k) list) ≡ exchanged_at k (part start n list)
part-exchanged start n k list h w =
    let b : List ℕ = part start n list in
    let p : part k step_bytes b ≡ part (start + k) step_bytes list = part-part k step_bytes start n list (omega arith) in
    let q : part (k + step_bytes) step_bytes b ≡ part (start + k + step_bytes) step_bytes list =
    part-part (k + step_bytes) step_bytes start n list (omega arith) ∙ ap (λ (x : ℕ). part x step_bytes list) (omega arith) in
    let hp : length (part (start + k) step_bytes list) ≡ step_bytes = length_part (start + k) step_bytes list (omega arith) in
    let hq : length (part (start + k + step_bytes) step_bytes list) ≡ step_bytes = length_part (start + k + step_bytes) step_bytes list (omega arith) in
    let long : k + length (part (start + k + step_bytes) step_bytes list ++ part (start + k) step_bytes list) ≤ n = rw length-append (omega arith) in
    ap (part start n) (exchanged-def (start + k) list)
    ∙ part-put-in start n k _ list long w
    ∙ rw (← q, ← p) (sym (exchanged-def k b))

-- ---- steps i and i + 1 of a packed list

after_two : (y : Layout) (s : State) (l : List ℕ) → state_after y s l 2 ≡ (step_of y (step_of y s (step_at l 0)).state (step_at l 1)).state
unfolding state_after
after_two y s l = refl

replies-two : (y : Layout) (s : State) (l : List ℕ)
    → chunks 2 (reply_at y s l) ≡ pack_reply (step_of y s (step_at l 0)).reply ++ pack_reply (step_of y (step_of y s (step_at l 0)).state (step_at l 1)).reply
unfolding chunks reply_at state_after
replies-two y s l = refl

length-replies : (y : Layout) (s : State) (b : List ℕ) (n : ℕ) → length (chunks n (reply_at y s b)) ≡ step_bytes * n
unfolding reply_at
length-replies y s b n = length-chunks step_bytes (reply_at y s b) (λ i. length-pack_reply _) n

module _ (p q : List ℕ) (hp : length p ≡ step_bytes) (hq : length q ≡ step_bytes) where
  pair-first : step_at (p ++ q) 0 ≡ unpack_step p
  unfolding step_at
  pair-first = ap unpack_step (part_left 0 step_bytes p q (omega arith) ∙ part-whole step_bytes p hp)

  pair-second : step_at (p ++ q) 1 ≡ unpack_step q
  unfolding step_at
  pair-second =
      let e : step_bytes * 1 ≡ length p + 0 = omega arith in
      ap unpack_step (ap (λ (x : ℕ). part x step_bytes (p ++ q)) e ∙ part_right 0 step_bytes p q ∙ part-whole step_bytes q hq)

  length-pair : length (p ++ q) ≡ step_bytes * 2
  length-pair = length-append p q ∙ omega arith

-- l, then two steps, then r
module _ (y : Layout) (s : State) (l c r : List ℕ) (i j : ℕ) (hl : length l ≡ step_bytes * i) (hc : length c ≡ step_bytes * 2) (hr : length r ≡ step_bytes * j) where
  count : steps_in (l ++ c ++ r) ≡ i + (2 + j)
  count = rw (length-append (l ++ c) r, length-append l c) (omega arith)

  abbrev upto : State
  upto = state_after y s l i

  state-three : state_after y s (l ++ c ++ r) (steps_in (l ++ c ++ r)) ≡ state_after y (state_after y upto c 2) r j
  state-three =
      ap (state_after y s (l ++ c ++ r)) count
      ∙ ap (λ (b : List ℕ). state_after y s b (i + (2 + j))) (append_assoc l c r)
      ∙ after-append l (c ++ r) i hl y s (2 + j)
      ∙ after-append c r 2 hc y upto j

  replies-three : chunks (steps_in (l ++ c ++ r)) (reply_at y s (l ++ c ++ r))
      ≡ chunks i (reply_at y s l) ++ (chunks 2 (reply_at y upto c) ++ chunks j (reply_at y (state_after y upto c 2) r))
  replies-three =
      ap (λ (n : ℕ). chunks n (reply_at y s (l ++ c ++ r))) count
      ∙ ap (λ (b : List ℕ). chunks (i + (2 + j)) (reply_at y s b)) (append_assoc l c r)
      ∙ replies-append l (c ++ r) i hl y s (2 + j)
      ∙ ap {B = List ℕ} (λ (x : List ℕ). chunks i (reply_at y s l) ++ x) (replies-append c r 2 hc y upto j)

-- the state and the replies of a list b, and of b with two places exchanged
pub record RanFrom (y : Layout) (s : State) (b : List ℕ) (k : ℕ) : Type 0 where
  pub state : state_after y s (exchanged_at k b) (steps_in (exchanged_at k b)) ≡ state_after y s b (steps_in b)
  pub replies : chunks (steps_in (exchanged_at k b)) (reply_at y s (exchanged_at k b)) ≡ exchanged_at k (chunks (steps_in b) (reply_at y s b))

-- the same of the image
record Ran (y : Layout) (img b : List ℕ) (k : ℕ) : Type 0 where
  image : ran_image y img (exchanged_at k b) ≡ ran_image y img b
  replies : ran_replies y img (exchanged_at k b) ≡ exchanged_at k (ran_replies y img b)

ran-image : (y : Layout) (img b : List ℕ) (k : ℕ) → RanFrom y (unpack y img) b k → Ran y img b k
unfolding ran_image ran_replies
ran-image y img b k r = record { image = ap (pack y) r.state; replies = r.replies }

-- both orders of p and q between l and r
module _ (y : Layout) (start : State) (l p q r : List ℕ) (i j : ℕ) (hl : length l ≡ step_bytes * i) (hr : length r ≡ step_bytes * j) (hp : length p ≡ step_bytes) (hq : length q ≡ step_bytes)
    (x : Exchanged y (state_after y start l i) (unpack_step p) (unpack_step q)) where
  ran-mid : RanFrom y start (l ++ (p ++ q) ++ r) (step_bytes * i)
  ran-mid =
      let s : State = state_after y start l i in
      let P : Step = unpack_step p in
      let Q : Step = unpack_step q in
      let one : length (p ++ q) ≡ step_bytes * 2 = length-pair p q hp hq in
      let two : length (q ++ p) ≡ step_bytes * 2 = length-pair q p hq hp in
      let mid : exchanged_at (step_bytes * i) (l ++ (p ++ q) ++ r) ≡ l ++ (q ++ p) ++ r = exchanged-mid (step_bytes * i) l p q r hl hp hq in
      let there : state_after y s (p ++ q) 2 ≡ (step_of y (step_of y s P).state Q).state = after_two y s (p ++ q) ∙ rw (pair-first p q hp hq, pair-second p q hp hq) in
      let back : state_after y s (q ++ p) 2 ≡ (step_of y (step_of y s Q).state P).state = after_two y s (q ++ p) ∙ rw (pair-first q p hq hp, pair-second q p hq hp) in
      let same : state_after y s (q ++ p) 2 ≡ state_after y s (p ++ q) 2 = back ∙ sym x.state ∙ sym there in
      let a : List ℕ = pack_reply (step_of y s P).reply in
      let c : List ℕ = pack_reply (step_of y s Q).reply in
      let first : List ℕ = chunks i (reply_at y start l) in
      let last : State → List ℕ = λ z. chunks j (reply_at y z r) in
      let z : State = state_after y s (p ++ q) 2 in
      let run : List ℕ → State = λ b. state_after y start b (steps_in b) in
      let told : List ℕ → List ℕ = λ b. chunks (steps_in b) (reply_at y start b) in
      let to : chunks 2 (reply_at y s (p ++ q)) ≡ a ++ c =
      replies-two y s (p ++ q) ∙ rw (pair-first p q hp hq, pair-second p q hp hq) (ap {B = List ℕ} (λ (v : Reply). a ++ pack_reply v) x.second) in
      let fro : chunks 2 (reply_at y s (q ++ p)) ≡ c ++ a =
      replies-two y s (q ++ p) ∙ rw (pair-first q p hq hp, pair-second q p hq hp) (ap {B = List ℕ} (λ (v : Reply). c ++ pack_reply v) (sym x.first)) in
      let given : told (l ++ (p ++ q) ++ r) ≡ first ++ (a ++ c) ++ last z =
      replies-three y start l (p ++ q) r i j hl one hr ∙ (λ t. first ++ (to t ++ last z)) ∙ sym (append_assoc first (a ++ c) (last z)) in
      let turned : told (l ++ (q ++ p) ++ r) ≡ first ++ (c ++ a) ++ last z =
      replies-three y start l (q ++ p) r i j hl two hr ∙ (λ t. first ++ (fro t ++ last (same t))) ∙ sym (append_assoc first (c ++ a) (last z)) in
      record {
        state =
            ap run mid
            ∙ (state-three y start l (q ++ p) r i j hl two hr ∙ ap (λ (v : State). state_after y v r j) same ∙ sym (state-three y start l (p ++ q) r i j hl one hr));
        replies =
            ap told mid
            ∙ turned
            ∙ sym (ap (exchanged_at (step_bytes * i)) given ∙ exchanged-mid (step_bytes * i) first a c (last z) (length-replies y start l i) (length-pack_reply _) (length-pack_reply _));
      }

-- b has n steps, of which i and i + 1 are the two
pub ran-exchanged : (y : Layout) (start : State) (b : List ℕ) (n i : ℕ) → length b ≡ step_bytes * n → i + 2 ≤ n
    → Exchanged y (state_after y start b i) (step_at b i) (step_at b (i + 1)) → RanFrom y start b (step_bytes * i)
unfolding step_at
ran-exchanged y start b n i e h x =
    let k : ℕ = step_bytes * i in
    let j : ℕ = n - (i + 2) in
    let l : List ℕ = part 0 k b in
    let p : List ℕ = part k step_bytes b in
    let q : List ℕ = part (k + step_bytes) step_bytes b in
    let r : List ℕ = part (k + (step_bytes + step_bytes)) (step_bytes * j) b in
    let whole : length b ≡ k + (step_bytes + step_bytes) + step_bytes * j = omega arith in
    let split : b ≡ l ++ (p ++ q) ++ r =
    sym (part-whole (k + (step_bytes + step_bytes) + step_bytes * j) b whole)
    ∙ part-add 0 (k + (step_bytes + step_bytes)) (step_bytes * j) b
    ∙ rw (part-add 0 k (step_bytes + step_bytes) b, part-add (0 + k) step_bytes step_bytes b) (simp zero-add) in
    let hl : length l ≡ step_bytes * i = length_part 0 k b (omega arith) in
    let hp : length p ≡ step_bytes = length_part k step_bytes b (omega arith) in
    let hq : length q ≡ step_bytes = length_part (k + step_bytes) step_bytes b (omega arith) in
    let hr : length r ≡ step_bytes * j = length_part (k + (step_bytes + step_bytes)) (step_bytes * j) b (omega arith) in
    let two : length (l ++ (p ++ q)) ≡ step_bytes * (i + 2) = length-append l (p ++ q) ∙ rw (length-append p q) (omega arith) in
    let upto : state_after y start b i ≡ state_after y start l i =
    ap (λ (c : List ℕ). state_after y start c i) split
    ∙ after-left (l ++ (p ++ q)) r (i + 2) two y start i (omega arith)
    ∙ after-left l (p ++ q) i hl y start i (omega arith) in
    let second : step_at b (i + 1) ≡ unpack_step q = ap (λ (m : ℕ). unpack_step (part m step_bytes b)) (omega arith) in
    let x' : Exchanged y (state_after y start l i) (unpack_step p) (unpack_step q) = subst (λ (v : Step). Exchanged y (state_after y start l i) (unpack_step p) v) second (subst (λ (v : State). Exchanged y v (unpack_step p) (step_at b (i + 1))) upto x) in
    subst (λ (c : List ℕ). RanFrom y start c k) (sym split) (ran-mid y start l p q r i j hl hr hp hq x')

-- ---- the calls

answer-exchanged : (y : Layout) (img list : List ℕ) (start end : ℕ) (buffer : List ℕ) (k : ℕ) → run_answer y img (exchanged_at k list) start end buffer ≡ run_answer y img list start end buffer
unfolding run_answer wrong_part
answer-exchanged y img list start end buffer k = rw (length_exchanged k list)

-- steps i and i + 1 of the part from start to end, which both orders leave the same
module _ (y : Layout) (img list : List ℕ) (start end : ℕ) (buffer : List ℕ) (i : ℕ) (h : start + step_bytes * (i + 2) ≤ end)
    (x : Exchanged y (state_after y (unpack y img) (part start (end - start) list) i) (step_at (part start (end - start) list) i) (step_at (part start (end - start) list) (i + 1))) where
  abbrev k : ℕ
  k = step_bytes * i

  abbrev b : List ℕ
  b = part start (end - start) list

  ran-part : run_answer y img list start end buffer ≡ 0 → Ran y img b k
  ran-part z =
      let a : Accepted y img list start end buffer = accepted y img list start end buffer z in
      let forth : start ≤ end = a.forth in
      let within : end ≤ length list = a.within in
      let steps : (end - start) % step_bytes ≡ 0 = a.steps in
      let long : length b ≡ step_bytes * ((end - start) / step_bytes) = length_part start (end - start) list (omega arith) ∙ omega arith in
      ran-image y img b k (ran-exchanged y (unpack y img) b ((end - start) / step_bytes) i long (omega arith) x)

  turned : run_answer y img list start end buffer ≡ 0 → part start (end - start) (exchanged_at (start + k) list) ≡ exchanged_at k b
  turned z =
      let a : Accepted y img list start end buffer = accepted y img list start end buffer z in
      let forth : start ≤ end = a.forth in
      let within : end ≤ length list = a.within in
      part-exchanged start (end - start) k list (omega arith) (omega arith)

  -- any part of any list, on any image, with any buffer for the replies
  pub run-turned : RunExchanged y img list start end buffer i
  unfolding run_image run_replies
  run-turned = go (eqb (run_answer y img list start end buffer) 0) refl
    where
      same : run_answer y img (exchanged_at (start + k) list) start end buffer ≡ run_answer y img list start end buffer
      same = answer-exchanged y img list start end buffer (start + k)

      go : (c : Bool) → eqb (run_answer y img list start end buffer) 0 ≡ c → RunExchanged y img list start end buffer i
      go true f =
          let z : run_answer y img list start end buffer ≡ 0 = eqb-true _ _ f in
          record {
            answer = same;
            image = rw (same, f, turned z) (ran-part z).image;
            replies = rw (same, f, turned z) (ran-part z).replies;
          }
      go false f = record { answer = same; image = rw (same, f); replies = rw (same, f) }

-- two edits on different takes
pub run-exchanged : (y : Layout) (img list : List ℕ) (start end : ℕ) (buffer : List ℕ) (i : ℕ) → start + step_bytes * (i + 2) ≤ end
    → EditsApart (unpack_step (part (start + step_bytes * i) step_bytes list)) (unpack_step (part (start + step_bytes * (i + 1)) step_bytes list)) → RunExchanged y img list start end buffer i
unfolding step_at
run-exchanged y img list start end buffer i h w =
    let b : List ℕ = part start (end - start) list in
    let p : part (start + step_bytes * i) step_bytes list ≡ part (step_bytes * i) step_bytes b = sym (part-part (step_bytes * i) step_bytes start (end - start) list (omega arith)) in
    let q : part (start + step_bytes * (i + 1)) step_bytes list ≡ part (step_bytes * (i + 1)) step_bytes b = sym (part-part (step_bytes * (i + 1)) step_bytes start (end - start) list (omega arith)) in
    let v : EditsApart (step_at b i) (step_at b (i + 1)) = rw (← p, ← q) w in
    run-turned y img list start end buffer i h (exchanged y (state_after y (unpack y img) b i) (step_at b i) (step_at b (i + 1)) v)

-- the two steps alone
pub pair-exchanged : (y : Layout) (img p q buffer : List ℕ) → length p ≡ step_bytes → length q ≡ step_bytes → EditsApart (unpack_step p) (unpack_step q) → PairExchanged y img p q buffer
pair-exchanged y img p q buffer hp hq w =
    let turned : exchanged_at 0 (p ++ q) ≡ q ++ p = ap (exchanged_at 0) (sym (append-nil (p ++ q))) ∙ exchanged-mid 0 [] p q [] refl hp hq ∙ append-nil (q ++ p) in
    let first : part 0 step_bytes (p ++ q) ≡ p = part_left 0 step_bytes p q (omega arith) ∙ part-whole step_bytes p hp in
    let second : part step_bytes step_bytes (p ++ q) ≡ q =
    ap (λ (x : ℕ). part x step_bytes (p ++ q)) (omega arith) ∙ part_right 0 step_bytes p q ∙ part-whole step_bytes q hq in
    let w' : EditsApart (unpack_step (part 0 step_bytes (p ++ q))) (unpack_step (part step_bytes step_bytes (p ++ q))) = rw (first, second) w in
    let r : RunExchanged y img (p ++ q) 0 16 buffer 0 = run-exchanged y img (p ++ q) 0 16 buffer 0 (omega arith) w' in
    record {
      answer = ap (λ (x : List ℕ). run_answer y img x 0 16 buffer) (sym turned) ∙ r.answer;
      image = ap (λ (x : List ℕ). run_image y img x 0 16 buffer) (sym turned) ∙ r.image;
      replies = ap (λ (x : List ℕ). run_replies y img x 0 16 buffer) (sym turned) ∙ r.replies;
    }
