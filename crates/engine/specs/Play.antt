-- Document 02, W11, "An engine without maps": what the call play answers and leaves, for every input. The right side is the ledger's:
-- nothing here says how the engine works.
use Rattle.std.specs.Prelude.{ℕ, not, List, ◌≡◌, length, eqb}
use Rattle.octets.specs.Bytes.{pick}
use Rattle.rules.specs.Layout.{Layout, Limits, in_range}
use Rattle.rules.specs.Calls.{fresh_image, wrong_part, ran_replies}

-- "List and reply lengths come under 17 and 18, and limits under 33 after them."
-- 17: the list's length not a multiple of 8, or over 8,192 bytes, 1,024 steps; 18: replies not as long as the list; 33: limits out of
-- range
unfoldable pub play_answer : Layout → Limits → List ℕ → List ℕ → ℕ
play_answer y m list replies =
    pick (wrong_part list 0 (length list)) 17
    (pick (not (eqb (length replies) (length list))) 18
    (pick (not (in_range y m)) 33 0))

-- "Its replies equal those of the ledger for every list of whole steps up to that length, with W3 and the session's limits included":
-- those of a run on the fresh image with these limits. Refused, no byte changes.
unfoldable pub play_replies : Layout → Limits → List ℕ → List ℕ → List ℕ
play_replies y m list replies = pick (eqb (play_answer y m list replies) 0) (ran_replies y (fresh_image y m) list) replies

-- ---- for theorems

-- neither 27 nor 28 nor 31
pub record Usual (outcome : ℕ) : Type 0 where
  pub not-27 : outcome ≡ 27 → ⊥
  pub not-28 : outcome ≡ 28 → ⊥
  pub not-31 : outcome ≡ 31 → ⊥
