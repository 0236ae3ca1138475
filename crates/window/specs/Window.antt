-- Document 02, W13, "A bad hour in a long hearing": the stretch of a list of replies with most trouble.
use Rattle.std.specs.Prelude.{ℕ, zero, suc, ◌+◌, ◌-◌, ◌*◌, Bool, List, eqb, ltb, length, get_or, Result, Ok, Err}
use Rattle.rules.specs.declared.refusals.Refusal.{Refusal}
use Rattle.octets.specs.Bytes.{pick, ◌or◌}
use Rattle.rules.specs.Step.{step_bytes, fallen_back, vanished}
use Rattle.rules.specs.Calls.{steps_in, wrong_part}
-- A count of outcomes and the place of its window, passed by value.
pub use Rattle.window.specs.declared.Worst.{Worst}

-- ---- one window

-- the outcome or refusal of reply i: its first byte
abbrev pub outcome_at : List ℕ → ℕ → ℕ
outcome_at b i = get_or b (step_bytes * i) 0

-- outcomes 3 and 4
unfoldable pub is_rollback : ℕ → Bool
is_rollback o = eqb o fallen_back or eqb o vanished

-- 1 for a reply with outcome 3 or 4, else 0
unfoldable pub rollback_at : List ℕ → ℕ → ℕ
rollback_at b i = pick (is_rollback (outcome_at b i)) 1 0

-- "count outcomes 3 and 4", of the n replies from place p on
unfoldable pub rollbacks : List ℕ → ℕ → ℕ → ℕ
rollbacks b p zero = 0
rollbacks b p (suc n) = rollbacks b p n + rollback_at b (p + n)

-- ---- "every window of w successive replies"

-- how many of n replies a window has: "A list shorter than w is one window"
unfoldable pub window_length : ℕ → ℕ → ℕ
window_length w n = pick (ltb n w) n w

-- the last window's place; the first is at place 0. "A window's place is that of its first reply, counted in replies from 0"
unfoldable pub last_place : ℕ → ℕ → ℕ
last_place w n = n - window_length w n

-- "a fresh count of each": of the window at place p
abbrev pub window_count : List ℕ → ℕ → ℕ → ℕ
window_count b w p = rollbacks b p (window_length w (steps_in b))

-- ---- "give the greatest count and the first window that has it"

-- the worst so far, or the window at place p with n of them, if that is greater
unfoldable pub worse_of : Worst → ℕ → ℕ → Worst
worse_of x n p = pick (ltb x.count n) (record { count = n; place = p }) x

-- of the windows of n replies at places 0 to k
unfoldable pub worst_up_to : List ℕ → ℕ → ℕ → Worst
worst_up_to b n zero = record { count = rollbacks b 0 n; place = 0 }
worst_up_to b n (suc k) = worse_of (worst_up_to b n k) (rollbacks b (suc k) n) (suc k)

unfoldable pub worst : List ℕ → ℕ → Worst
worst b w = worst_up_to b (window_length w (steps_in b)) (last_place w (steps_in b))

-- ---- the call

-- a window's greatest width
abbrev pub widest : ℕ
widest = 256

-- 35: "a width outside 1 to 256"
unfoldable pub wrong_width : ℕ → Bool
wrong_width w = ltb w 1 or ltb widest w

-- "Lists come under 17", the whole list; 35 "after the length"
unfoldable pub window_refusal : List ℕ → ℕ → ℕ
window_refusal b w = pick (wrong_part b 0 (length b)) 17 (pick (wrong_width w) 35 0)

-- Refused: both numbers 0.
unfoldable pub worst_window : List ℕ → ℕ → Worst
worst_window b w = pick (eqb (window_refusal b w) 0) (worst b w) (record { count = 0; place = 0 })

-- what is answered of it
abbrev pub worst_in : Result Worst Refusal → Worst
worst_in (Ok w) = w
worst_in (Err r) = record { count = 0; place = 0 }
