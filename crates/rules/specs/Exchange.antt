-- Document 02, W8: "For any image, if one step is of kind 5 to 10 on one take and another is of kind 5 to 10 on a different take, both
-- orders must give the same image, and each step the same reply. This includes refused steps."
use Rattle.std.specs.Prelude.{ℕ, ◌+◌, ◌*◌, ◌≤◌, ◌≡◌, List, ◌++◌, eqb}
use Rattle.octets.specs.Bytes.{pick, put, part}
use Rattle.rules.specs.Layout.{Layout}
use Rattle.rules.specs.State.{State}
use Rattle.rules.specs.Step.{Step, read, fail, step_bytes}
use Rattle.rules.specs.Rules.{step_of}
use Rattle.rules.specs.Calls.{run_answer, run_image, run_replies}

-- "of kind 5 to 10"; whether it is refused, and its other fields, are not asked
pub record Edit (p : Step) : Type 0 where
  pub from : read ≤ p.kind
  pub upto : p.kind ≤ fail

-- "one step is of kind 5 to 10 on one take and another is of kind 5 to 10 on a different take"
pub record EditsApart (p q : Step) : Type 0 where
  pub first : Edit p
  pub second : Edit q
  pub apart : p.transactor ≡ q.transactor → ⊥

-- Of steps: from the state s "both orders must give the same" state, "and each step the same reply".
pub record Exchanged (y : Layout) (s : State) (p q : Step) : Type 0 where
  pub state : (step_of y (step_of y s p).state q).state ≡ (step_of y (step_of y s q).state p).state
  pub first : (step_of y s p).reply ≡ (step_of y (step_of y s q).state p).reply
  pub second : (step_of y (step_of y s p).state q).reply ≡ (step_of y s q).reply

-- ---- on images: the calls

-- a list in which the step, or the reply, that starts at byte k and the next one have changed places
unfoldable pub exchanged_at : ℕ → List ℕ → List ℕ
exchanged_at k b = put k (part (k + step_bytes) step_bytes b ++ part k step_bytes b) b

-- A run of the two steps alone, packed: both orders answer the same and leave the same image; the replies are each other's with the
-- two places exchanged, or, where the call is refused, the buffer as it was.
pub record PairExchanged (y : Layout) (img p q buffer : List ℕ) : Type 0 where
  pub answer : run_answer y img (q ++ p) 0 16 buffer ≡ run_answer y img (p ++ q) 0 16 buffer
  pub image : run_image y img (q ++ p) 0 16 buffer ≡ run_image y img (p ++ q) 0 16 buffer
  pub replies : run_replies y img (q ++ p) 0 16 buffer
      ≡ pick (eqb (run_answer y img (p ++ q) 0 16 buffer) 0) (exchanged_at 0 (run_replies y img (p ++ q) 0 16 buffer)) buffer

-- A run of any part of any list, in which steps i and i + 1 of the part have changed places.
pub record RunExchanged (y : Layout) (img list : List ℕ) (start end : ℕ) (buffer : List ℕ) (i : ℕ) : Type 0 where
  pub answer : run_answer y img (exchanged_at (start + step_bytes * i) list) start end buffer ≡ run_answer y img list start end buffer
  pub image : run_image y img (exchanged_at (start + step_bytes * i) list) start end buffer ≡ run_image y img list start end buffer
  pub replies : run_replies y img (exchanged_at (start + step_bytes * i) list) start end buffer
      ≡ pick (eqb (run_answer y img list start end buffer) 0) (exchanged_at (step_bytes * i) (run_replies y img list start end buffer)) buffer

-- Two steps in two runs, each a call of its own with its own list, place in it and buffer for the reply: one call and then the other, in both
-- orders, from the same image. Both calls get the same answers in both orders and give the same replies, and the image at the end is the same.
-- A call may be refused in one of them or in both: it then leaves image and buffer as they were.
pub record CallsExchanged (y : Layout) (img list : List ℕ) (start : ℕ) (buffer list' : List ℕ) (start' : ℕ) (buffer' : List ℕ) : Type 0 where
  -- the first call alone, and after the second
  pub answer : run_answer y (run_image y img list' start' (start' + step_bytes) buffer') list start (start + step_bytes) buffer
      ≡ run_answer y img list start (start + step_bytes) buffer
  pub reply : run_replies y (run_image y img list' start' (start' + step_bytes) buffer') list start (start + step_bytes) buffer
      ≡ run_replies y img list start (start + step_bytes) buffer
  -- the second call alone, and after the first
  pub answer' : run_answer y (run_image y img list start (start + step_bytes) buffer) list' start' (start' + step_bytes) buffer'
      ≡ run_answer y img list' start' (start' + step_bytes) buffer'
  pub reply' : run_replies y (run_image y img list start (start + step_bytes) buffer) list' start' (start' + step_bytes) buffer'
      ≡ run_replies y img list' start' (start' + step_bytes) buffer'
  -- the second after the first, and the first after the second
  pub image : run_image y (run_image y img list start (start + step_bytes) buffer) list' start' (start' + step_bytes) buffer'
      ≡ run_image y (run_image y img list' start' (start' + step_bytes) buffer') list start (start + step_bytes) buffer
